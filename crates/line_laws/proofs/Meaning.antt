-- An entry that stands next is the one that its line means.
use Rattle.std.proofs.Common.{◌≡◌, ℕ, ◌+◌, length, refl, sym, ◌∙◌, ap, List, [], ◌∷◌, ◌++◌, map, add-zero, true, false, true≢false, eq-eqb, Option, Some, None, is_some}
use Rattle.std.specs.Prelude.{option_map, option_and_then}
use Rattle.t32_base.specs.declared.process.Pid.{Pid}
use Rattle.t32_base.specs.declared.process.ClusterNo.{ClusterNo}
use Rattle.t32_base.specs.declared.letter.BackRec.{BackRec}
use Rattle.t32_base.specs.Small.{SmallState}
use Rattle.sys_text.specs.declared.system.System.{System}
use Rattle.rv_mem.specs.Memory.{page_at}
use Rattle.proc_state.specs.State.{ProcState}
use Rattle.sys_calls.specs.declared.steps.Emission.{Emission}
use Rattle.sys_calls.specs.declared.steps.Emission.TheVariants.{Mail as Sent, Exit as Ended}
use Rattle.bus_msg.specs.declared.entry.What.{What}
use Rattle.bus_msg.specs.declared.entry.What.TheVariants.{Mail, Birth, Exit, Page, Sync, Fetch, PageIs, Crash, Return, Rebackup, Done, Stop}
use Rattle.bus_msg.specs.declared.entry.By.{By}
use Rattle.bus_msg.specs.declared.entry.By.TheVariants.{Cluster, Bus}
use Rattle.bus_msg.specs.declared.entry.Entry.{Entry}
use Rattle.bus_msg.specs.PlacedAfter.{what}
use Rattle.bus_msg.specs.Route.{route}
use Rattle.cert_sched.specs.Parts.{rising}
use Rattle.cert_sched.specs.Schedule.{placement, process_after, items_of, steps_in}
use Rattle.cert_sched.specs.Deeds.{arrived_count, is_birth_of, is_cut, letter_for}
use Rattle.cert_sched.specs.Record.{backup_record, record_with}
use Rattle.cert_sched.specs.Steps.{silent_upto, emission_at, after_items}
use Rattle.cert_sched.specs.Kinds.{KindHolds, FreshHolds, after_take, reads_after}
use Rattle.cert_sched.specs.Legal.{Stands}
use Rattle.cert_sched.proofs.RecordLaws.{arrived_count-other, backup_record-cut}
use Rattle.cert_sched.proofs.StepLaws.{process_after-silent}
use Rattle.entry_lines.specs.Told.{told_of, told_what, told_by, pids_of}
use Rattle.line_laws.specs.Meant.{meant, mail_of, exit_of, sync_of, cut_record, fresh_of, each_there, records_of, pid_no, by_meant, entry_meant, entry_saying, is_end, reads_rising, with_reads_rising}

-- ---- parts of what is there

sent_meant : (f : Emission → Option What) (o : Option (Emission × ProcState)) (x : Emission) → option_map (λ r. r.0) o ≡ Some x → option_and_then (λ r. f r.0) o ≡ f x
sent_meant f None x is = cc
sent_meant f (Some r) x is = let same : r.0 ≡ x = cc in ap f same

sync_meant : (system : System) (log : List Entry) (p : Pid) (o : Option ProcState) (small : SmallState) (reads : List ℕ) (took : Option ℕ)
    → option_map (λ s. (after_take took s).small) o ≡ Some small → option_map (reads_after system log p took) o ≡ Some reads → option_map (sync_of system log p took) o ≡ Some (Sync p small reads took)
sync_meant system log p None small reads took state read = cc
sync_meant system log p (Some s) small reads took state read =
    let same : (after_take took s).small ≡ small = cc in
    let same_reads : reads_after system log p took s ≡ reads = cc in
    λ i. Some (Sync p (same i) (same_reads i) took)

page_meant : (p : Pid) (at index : ℕ) (bytes : List ℕ) (o : Option ProcState) → option_map (λ (s : ProcState). page_at s.memory index) o ≡ Some bytes
    → option_map (λ (s : ProcState). Page p at index (page_at s.memory index)) o ≡ Some (Page p at index bytes)
page_meant p at index bytes None is = cc
page_meant p at index bytes (Some s) is = let same : page_at s.memory index ≡ bytes = cc in ap (λ b. Some (Page p at index b)) same

-- ---- new backups

each_is_there : (recs : List BackRec) → each_there (map Some recs) ≡ Some recs
each_is_there [] = refl
each_is_there (r ∷ rs) = ap (option_map (λ as'. r ∷ as')) (each_is_there rs)

asked : (system : System) (log : List Entry) (recs : List BackRec) → map (λ n. backup_record system log (pid_no n)) (pids_of recs) ≡ map (λ (r : BackRec). backup_record system log r.pid) recs
asked system log [] = refl
asked system log (r ∷ rs) = ap (λ os. backup_record system log r.pid ∷ os) (asked system log rs)

standing_meant : (system : System) (log : List Entry) (recs : List BackRec) → map Some recs ≡ map (λ (r : BackRec). backup_record system log r.pid) recs
    → records_of system log (pids_of recs) ≡ Some recs
standing_meant system log recs are = ap each_there (asked system log recs ∙ sym are) ∙ each_is_there recs

fresh_meant : (system : System) (log : List Entry) (e : Entry) (to : ClusterNo) (r : BackRec) (rs : List BackRec) → what e ≡ Rebackup to true (r ∷ rs) → FreshHolds system log e r.pid to (r ∷ rs)
    → fresh_of system log (pids_of (r ∷ rs)) (steps_in r.state) to ≡ Some (Rebackup to true (r ∷ rs))
fresh_meant system log e to r (q ∷ rs) is h = cc
fresh_meant system log e to r [] is h =
    by_end (silent_upto system log r.pid (steps_in r.state)) refl (sym (ap (λ w. is_some (after_items system log w)) is) ∙ h.silent)
  where
    same : (s : ProcState) → silent_upto system log r.pid (steps_in r.state) ≡ Some s → cut_record log r.pid s ≡ r
    same s reached =
        let own : is_cut r.pid (what e) ≡ true = ap (is_cut r.pid) is ∙ eq-eqb (r.pid).0 (r.pid).0 refl in
        let came : arrived_count (log ++ e ∷ []) r.pid ≡ arrived_count log r.pid =
        arrived_count-other log e r.pid (ap (is_birth_of r.pid) is) ∙ ap (λ w. arrived_count log r.pid + length (letter_for r.pid w)) is ∙ add-zero (arrived_count log r.pid) in
        let there : process_after system (log ++ e ∷ []) r.pid ≡ Some s = process_after-silent system log e r.pid (steps_in r.state) s reached (λ k. ap (items_of k) is) in
        let kept : backup_record system (log ++ e ∷ []) r.pid ≡ Some (cut_record log r.pid s) =
        backup_record-cut system log e r.pid own ∙ ap (option_map (λ (s : ProcState). record_with r.pid true s.mail (arrived_count (log ++ e ∷ []) r.pid) [] s)) there
        ∙ ap (λ n. Some (record_with r.pid true s.mail n [] s)) came in
        let listed : Some r ∷ [] ≡ Some (cut_record log r.pid s) ∷ [] = h.records ∙ ap (λ o. o ∷ []) kept in
        cc

    by_end : (o : Option ProcState) → silent_upto system log r.pid (steps_in r.state) ≡ o → is_some o ≡ true
        → option_map (λ s. Rebackup to true (cut_record log r.pid s ∷ [])) o ≡ Some (Rebackup to true (r ∷ []))
    by_end None reached some = cc
    by_end (Some s) reached some = ap (λ x. Some (Rebackup to true (x ∷ []))) (same s reached)

-- ---- the kinds

what_meant : (system : System) (log : List Entry) (e : Entry) (w : What) → what e ≡ w → KindHolds system log e w → is_end w ≡ false → meant system log (told_what w) ≡ Some (reads_rising w)
unfolding meant
what_meant system log e (Mail at letter) is h other = sent_meant (mail_of at) (emission_at system log letter.from at) (Sent letter) h
what_meant system log e (Birth parent at child end) is h other = refl
what_meant system log e (Exit pid at end) is h other = sent_meant (exit_of pid at) (emission_at system log pid at) (Ended end) h.0
what_meant system log e (Page pid at index bytes) is h other = page_meant pid at index bytes (silent_upto system log pid at) h.page
what_meant system log e (Sync pid small read took) is h other = sync_meant system log pid (silent_upto system log pid small.steps) small (rising read) took h.state h.reads
what_meant system log e (Fetch pid index) is h other = refl
what_meant system log e (PageIs pid index bytes) is h other = ap (option_map (PageIs pid index)) h.page
what_meant system log e (Crash k cause) is h other = refl
what_meant system log e (Return k) is h other = refl
what_meant system log e (Rebackup to true []) is h other = absurd h
what_meant system log e (Rebackup to false []) is h other = absurd h
what_meant system log e (Rebackup to true (r ∷ rs)) is h other = fresh_meant system log e to r rs is h
what_meant system log e (Rebackup to false (r ∷ rs)) is h other = ap (option_map (Rebackup to false)) (standing_meant system log (r ∷ rs) h.records)
what_meant system log e (Done rests) is h other = absurd (true≢false other)
what_meant system log e Stop is h other = refl

pub by_back : (by : By) → by_meant (told_by by) ≡ by
by_back (Cluster k) = refl
by_back Bus = refl

rising_route : (system : System) (log : List Entry) (w : What) → route (placement system log) (reads_rising w) ≡ route (placement system log) w
rising_route system log (Sync pid small read took) = refl
rising_route system log _ = refl

pub entry_is_meant : (system : System) (log : List Entry) (e : Entry) → Stands system log e → is_end (what e) ≡ false → entry_meant system log (told_of e) ≡ Some (with_reads_rising e)
entry_is_meant system log e stands other =
    ap (option_map (entry_saying system log (told_of e))) (what_meant system log e (what e) refl stands.kind other)
    ∙ (λ i. Some (record { place = e.place; post = record { by = by_back (e.post).by i; what = reads_rising (what e) }; dests = (rising_route system log (what e) ∙ sym (stands.placed).1) i }))
