-- The records of a cluster beside a log that gets one entry more.
use Rattle.std.proofs.Common.{◌≡◌, ℕ, ◌-◌, ◌<◌, ◌≤◌, ◌^◌, refl, sym, ◌∙◌, ap, arith, subst, List, [], ◌∷◌, ◌++◌, length, Bool, true, false, cond, not, ◌&&◌, eqb, eqb-true, eq-eqb, Option, Some, None, is_some, true≢false}
use Rattle.std.specs.Prelude.{filter, nat_le, option_map}
use Rattle.std.specs.Option.{option_map_or}
use Rattle.t32_base.specs.declared.process.Pid.{Pid}
use Rattle.t32_base.specs.declared.process.ClusterNo.{ClusterNo}
use Rattle.t32_base.specs.declared.process.End.{End}
use Rattle.t32_base.specs.declared.letter.Letter.{Letter}
use Rattle.t32_base.specs.declared.letter.BackRec.{BackRec}
use Rattle.t32_base.specs.Small.{SmallState}
use Rattle.sys_text.specs.declared.system.System.{System}
use Rattle.std.proofs.lemmas.Bool.{and_parts}
use Rattle.std.proofs.lemmas.Bool.Decides.{nat_tests}
use Rattle.sys_text.specs.Valid.{is_pair, is_system, is_within}
use Rattle.sys_text.proofs.Bounds.{tests}
use Rattle.write_count.specs.Counting.{count_for}
use Rattle.proc_state.specs.State.{ProcState, has_ended}
use Rattle.bus_msg.specs.declared.entry.What.{What}
use Rattle.bus_msg.specs.declared.entry.What.TheVariants.{Mail, Birth, Exit, Sync, Crash, Rebackup}
use Rattle.bus_msg.specs.declared.entry.Entry.{Entry}
use Rattle.bus_msg.specs.declared.placed.Placed.{Placed}
use Rattle.bus_msg.specs.Places.{same_pid, is_cluster, unended_at}
use Rattle.bus_msg.specs.PlacedAfter.{what, placed_after, after_sync}
use Rattle.cert_sched.specs.Schedule.{placement, process_after}
use Rattle.cert_sched.specs.Record.{backup_record}
use Rattle.cert_sched.specs.Kinds.{KindHolds, SyncHolds}
use Rattle.cert_sched.specs.Legal.{IsLegal, IsLegalBy, MayFollow, Stands}
use Rattle.cert_sched.specs.Simulation.{IsUnended}
use Rattle.cert_sched.proofs.LogLaws.{placement-snoc}
use Rattle.cert_sched.proofs.ExitLaws.{exited, unended_exit}
use Rattle.backup_queue.specs.Fronts.{AreFronts, AreOnEnds}
use Rattle.backup_records.specs.Records.{CanCut, CanNote, cut_of_synced, record_in, record_after, records_after, saved_by_receiver, counted_by_sender, with_cut}
use Rattle.backup_records.proofs.RecordLaws.{record_mapped, saved_pid, counted_pid}
use Rattle.log_laws.specs.records.Kept.{KeepsRecords, has_backup_in, is_noted, is_renewed, changes_in_place}
use Rattle.cert_sched.proofs.LogLaws.{IsLegal-before, IsLegal-last}
use Rattle.cert_sched.proofs.OpenLaws.{unended_open}
use Rattle.cert_sched.proofs.ReplayLaws.{sharp_replays}
use Rattle.cert_sched.proofs.RollLaws.{all_roll, rolls_steps}
use Rattle.cert_sched.proofs.ThereLaws.{unended_there}
use Rattle.cert_sched.proofs.UnendedLaws.{sync_keeps, unended_map}
use Rattle.cert_sched.specs.Deeds.{saved_letters, since}
use Rattle.cert_sched.specs.Rolling.{refilled}
use Rattle.cert_sched.specs.Steps.{saved_of, start_steps, steps_since}
use Rattle.log_laws.proofs.letters.SyncReads.{sync_ends, sync_fronts}
use Rattle.log_laws.proofs.records.Backed.{with_backup_unended}
use Rattle.log_laws.proofs.records.BirthRecords.{births_kept, none_yet}
use Rattle.log_laws.proofs.records.Brought.{can_bring}
use Rattle.log_laws.proofs.records.Counts.{count_below, next_fits, starts_from}
use Rattle.log_laws.proofs.records.OneRecord.{letter_out, noted_unrenewed, record_follows}
use Rattle.log_laws.proofs.records.RenewedRecords.{renewed_kept}
use Rattle.log_laws.proofs.records.Standing.{itself, legal_stands}

-- ---- what is found

all_same : (recs : List BackRec) (p : Pid) → record_in recs p ≡ option_map (λ r. r) (record_in recs p)
all_same recs p = by_found (record_in recs p)
  where
    by_found : (o : Option BackRec) → o ≡ option_map (λ r. r) o
    by_found None = refl
    by_found (Some r) = refl

letter_pid : (letter : Letter) (r : BackRec) → (counted_by_sender letter (saved_by_receiver letter r)).pid ≡ r.pid
letter_pid letter r = counted_pid letter (saved_by_receiver letter r) ∙ saved_pid letter r

cut_pid : (q : Pid) (small : SmallState) (read : List ℕ) (r : BackRec) → (cut_of_synced q small read r).pid ≡ r.pid
cut_pid q small read r = by_test (same_pid q r.pid)
  where
    by_test : (b : Bool) → (cond b (with_cut small read r) r).pid ≡ r.pid
    by_test true = refl
    by_test false = refl

pid_same : (p q : Pid) → eqb p.0 q.0 ≡ true → p ≡ q
pid_same p q same = λ i. record { 0 = eqb-true p.0 q.0 same i }

-- a record that went is found no more
gone : (p : Pid) (recs : List BackRec) → record_in (filter (λ (r : BackRec). not (same_pid r.pid p)) recs) p ≡ None
gone p [] = refl
gone p (r ∷ rest) = by_test (same_pid r.pid p) refl (gone p rest)
  where
    others : List BackRec
    others = filter (λ (r : BackRec). not (same_pid r.pid p)) rest

    by_test : (b : Bool) → same_pid r.pid p ≡ b → record_in others p ≡ None → record_in (cond (not b) (r ∷ others) others) p ≡ None
    by_test true is more = more
    by_test false is more = ap (λ b. cond b (Some r) (record_in others p)) is ∙ more

-- every other is found as before
others_found : (p q : Pid) (recs : List BackRec) → eqb q.0 p.0 ≡ false → record_in (filter (λ (r : BackRec). not (same_pid r.pid p)) recs) q ≡ record_in recs q
others_found p q [] apart = refl
others_found p q (r ∷ rest) apart = by_test (same_pid r.pid p) refl (others_found p q rest apart)
  where
    others : List BackRec
    others = filter (λ (r : BackRec). not (same_pid r.pid p)) rest

    unlike : (b : Bool) → same_pid r.pid q ≡ b → same_pid r.pid p ≡ true → b ≡ false
    unlike false is at = refl
    unlike true is at = absurd (true≢false (sym (ap (λ n. eqb n p.0) (sym (eqb-true (r.pid).0 q.0 is)) ∙ at) ∙ apart))

    by_test : (b : Bool) → same_pid r.pid p ≡ b → record_in others q ≡ record_in rest q → record_in (cond (not b) (r ∷ others) others) q ≡ cond (same_pid r.pid q) (Some r) (record_in rest q)
    by_test true is more = more ∙ ap (λ b. cond b (Some r) (record_in rest q)) (sym (unlike (same_pid r.pid q) refl is))
    by_test false is more = ap (cond (same_pid r.pid q) (Some r)) more

-- ---- one more entry

module _ (system : System) (log : List Entry) (e : Entry) (k : ClusterNo) (recs : List BackRec) (valid : is_system system ≡ true) (legal : IsLegalBy Stands system (log ++ e ∷ [])) (keeps : KeepsRecords system log k recs) where
  abbrev backed : Option Placed → Bool
  backed o = option_map_or (λ (q : Placed). is_cluster q.backup k) o false

  -- each record was changed in its place, and no process ended or has another backup
  in_place : (w : What) → what e ≡ w → is_noted w ≡ true → ((p : Pid) → backed (unended_at (placed_after (placement system log) w) p) ≡ backed (unended_at (placement system log) p))
      → ((p : Pid) → record_in (records_after k w recs) p ≡ option_map (record_after w) (record_in recs p)) → KeepsRecords system (log ++ e ∷ []) k (records_after k w recs)
  in_place w is none same found p = by_backup (has_backup_in system log k p) refl
    where
      placed : has_backup_in system (log ++ e ∷ []) k p ≡ has_backup_in system log k p
      placed = ap (λ places. backed (unended_at places p)) (placement-snoc system log e ∙ ap (placed_after (placement system log)) is) ∙ same p

      by_backup : (b : Bool) → has_backup_in system log k p ≡ b → record_in (records_after k w recs) p ≡ cond (has_backup_in system (log ++ e ∷ []) k p) (backup_record system (log ++ e ∷ []) p) None
      by_backup true has =
          found p
          ∙ ap (option_map (record_after w)) (keeps p ∙ ap (λ b. cond b (backup_record system log p) None) has)
          ∙ ap (λ x. option_map (record_after x) (backup_record system log p)) (sym is)
          ∙ sym (record_follows Stands itself system log e p valid legal (ap (is_renewed p) is ∙ noted_unrenewed p w none) (with_backup_unended system log k p has))
          ∙ ap (λ b. cond b (backup_record system (log ++ e ∷ []) p) None) (sym (placed ∙ has))
      by_backup false has =
          found p
          ∙ ap (option_map (record_after w)) (keeps p ∙ ap (λ b. cond b (backup_record system log p) None) has)
          ∙ ap (λ b. cond b (backup_record system (log ++ e ∷ []) p) None) (sym (placed ∙ has))

  -- a process ended
  after_end : (q : Pid) (at : ℕ) (end : End) → what e ≡ Exit q at end → KeepsRecords system (log ++ e ∷ []) k (records_after k (Exit q at end) recs)
  after_end q at end is p = by_pid (eqb p.0 q.0) refl
    where
      places_are : placement system (log ++ e ∷ []) ≡ placed_after (placement system log) (Exit q at end)
      places_are = placement-snoc system log e ∙ ap (placed_after (placement system log)) is

      by_backup : (b : Bool) → has_backup_in system log k p ≡ b → eqb p.0 q.0 ≡ false → has_backup_in system (log ++ e ∷ []) k p ≡ has_backup_in system log k p
          → record_in (records_after k (Exit q at end) recs) p ≡ cond (has_backup_in system (log ++ e ∷ []) k p) (backup_record system (log ++ e ∷ []) p) None
      by_backup true has apart same =
          others_found q p recs apart
          ∙ keeps p ∙ ap (λ b. cond b (backup_record system log p) None) has
          ∙ all_kept (backup_record system log p)
          ∙ ap (λ x. option_map (record_after x) (backup_record system log p)) (sym is)
          ∙ sym (record_follows Stands itself system log e p valid legal (ap (is_renewed p) is) (with_backup_unended system log k p has))
          ∙ ap (λ b. cond b (backup_record system (log ++ e ∷ []) p) None) (sym (same ∙ has))
        where
          all_kept : (o : Option BackRec) → o ≡ option_map (record_after (Exit q at end)) o
          all_kept None = refl
          all_kept (Some r) = refl
      by_backup false has apart same =
          others_found q p recs apart
          ∙ keeps p ∙ ap (λ b. cond b (backup_record system log p) None) has
          ∙ ap (λ b. cond b (backup_record system (log ++ e ∷ []) p) None) (sym (same ∙ has))

      by_pid : (b : Bool) → eqb p.0 q.0 ≡ b → record_in (records_after k (Exit q at end) recs) p ≡ cond (has_backup_in system (log ++ e ∷ []) k p) (backup_record system (log ++ e ∷ []) p) None
      by_pid true same =
          let pids : p ≡ q = pid_same p q same in
          let ended : unended_at (placement system (log ++ e ∷ [])) p ≡ None = ap (λ places. unended_at places p) places_are ∙ ap (unended_at (placed_after (placement system log) (Exit q at end))) pids ∙ exited q (placement system log).placed in
          ap (record_in (records_after k (Exit q at end) recs)) pids ∙ gone q recs ∙ ap (λ o. cond (backed o) (backup_record system (log ++ e ∷ []) p) None) (sym ended)
      by_pid false apart =
          let stays : unended_at (placement system (log ++ e ∷ [])) p ≡ unended_at (placement system log) p =
          ap (λ places. unended_at places p) places_are ∙ unended_exit q p (placement system log).placed (λ same. true≢false (sym (eq-eqb p.0 q.0 same) ∙ apart)) in
          by_backup (has_backup_in system log k p) refl apart (ap backed stays)

  -- a process that synchronised keeps its backup
  synced_backed : (q : Pid) (small : SmallState) (read : List ℕ) (took : Option ℕ) (p : Pid) → backed (unended_at (placed_after (placement system log) (Sync q small read took)) p) ≡ backed (unended_at (placement system log) p)
  synced_backed q small read took p = ap backed (unended_map (after_sync q) (sync_keeps q) (placement system log) (placed_after (placement system log) (Sync q small read took)) refl p) ∙ by_placed (unended_at (placement system log) p)
    where
      by_test : (r : Placed) (b : Bool) → is_cluster (cond b (record r { synced = true }) r).backup k ≡ is_cluster r.backup k
      by_test r true = refl
      by_test r false = refl

      by_placed : (o : Option Placed) → backed (option_map (after_sync q) o) ≡ backed o
      by_placed None = refl
      by_placed (Some r) = by_test r (same_pid r.pid q)

  by_kind : (w : What) → what e ≡ w → changes_in_place w ≡ true → KeepsRecords system (log ++ e ∷ []) k (records_after k w recs)
  by_kind (Mail at letter) is h = in_place (Mail at letter) is refl (λ p. refl) (λ p. record_mapped (record_after (Mail at letter)) (letter_pid letter) recs p)
  by_kind (Birth parent at child end) is h = births_kept system log e valid legal parent at child end is k recs keeps
  by_kind (Exit q at end) is h = after_end q at end is
  by_kind (Sync q small read took) is h = in_place (Sync q small read took) is refl (synced_backed q small read took) (λ p. record_mapped (record_after (Sync q small read took)) (cut_pid q small read) recs p)
  by_kind (Crash k cause) is h = absurd (true≢false (sym h))
  by_kind (Rebackup to fresh more) is h = renewed_kept system log e k to fresh more recs valid legal is keeps
  by_kind w is h = in_place w is refl (λ p. refl) (λ p. all_same recs p)

-- the records stay those of the log
pub records_kept : (system : System) (log : List Entry) (e : Entry) (k : ClusterNo) (recs : List BackRec) → is_system system ≡ true → IsLegalBy Stands system (log ++ e ∷ []) → changes_in_place (what e) ≡ true → KeepsRecords system log k recs
    → KeepsRecords system (log ++ e ∷ []) k (records_after k (what e) recs)
records_kept system log e k recs valid legal h keeps = by_kind system log e k recs valid legal keeps (what e) refl h

-- ---- when it may be noted

same_unended : (system : System) (log : List Entry) (e : Entry) (at : ℕ) (letter : Letter) (p : Pid) → what e ≡ Mail at letter → unended_at (placement system (log ++ e ∷ [])) p ≡ unended_at (placement system log) p
same_unended system log e at letter p is = ap (λ places. unended_at places p) (placement-snoc system log e ∙ ap (placed_after (placement system log)) is)

-- a process that sent a letter has not ended then
pub still_unended : (system : System) (log : List Entry) (e : Entry) (at : ℕ) (letter : Letter) (p : Pid) → what e ≡ Mail at letter → IsUnended system log p → IsUnended system (log ++ e ∷ []) p
still_unended system log e at letter p is unended = ap is_some (same_unended system log e at letter p is) ∙ unended

-- its record has counted fewer letters like this one than the steps that it made since with this one
pub counted_below : (system : System) (log : List Entry) (e : Entry) (at : ℕ) (letter : Letter) (kept : BackRec) (now : ProcState) → is_system system ≡ true → IsLegalBy Stands system (log ++ e ∷ []) → what e ≡ Mail at letter → IsUnended system log letter.from
    → backup_record system log letter.from ≡ Some kept → process_after system (log ++ e ∷ []) letter.from ≡ Some now → count_for kept.counts letter < steps_since system (log ++ e ∷ []) letter.from now
counted_below system log e at letter kept now valid legal is unended kept_is there =
    let p : Pid = letter.from in
    let open_now : has_ended (now.small).status ≡ false = unended_open Stands itself system (log ++ e ∷ []) p valid legal (still_unended system log e at letter p is unended) now there in
    let rolls = (all_roll Stands itself system (log ++ e ∷ []) valid legal).rolls p now there open_now in
    let out : letter.out < 32 = letter_out system log e at letter (IsLegal-last Stands system log e legal) is in
    let steps = rolls_steps system (log ++ e ∷ []) p now rolls in
    let starts : start_steps system (log ++ e ∷ []) p ≡ ((rolls.start).small).steps = ap (λ o. option_map_or (λ (s : ProcState). (s.small).steps) o 0) rolls.started in
    let below = count_below system log e at letter kept rolls.made (refilled (log ++ e ∷ []) p rolls.start) now is out kept_is rolls.replays in
    omega (arith, steps, starts, below)

-- a record that is kept is that of a process that has not ended
record Found (system : System) (log : List Entry) (p : Pid) (r : BackRec) : Type 0 where
  pub unended : IsUnended system log p
  pub is : backup_record system log p ≡ Some r

found_in : (system : System) (log : List Entry) (k : ClusterNo) (recs : List BackRec) (p : Pid) (r : BackRec) → KeepsRecords system log k recs → record_in recs p ≡ Some r → Found system log p r
found_in system log k recs p r keeps there = by_backup (has_backup_in system log k p) refl (sym (keeps p) ∙ there)
  where
    by_backup : (b : Bool) → has_backup_in system log k p ≡ b → cond b (backup_record system log p) None ≡ Some r → Found system log p r
    by_backup true has is = record { unended = with_backup_unended system log k p has; is = is }
    by_backup false has is = cc

-- a record that was found saves the letters of the log
saved_found : (system : System) (log : List Entry) (p : Pid) (r : BackRec) → backup_record system log p ≡ Some r → saved_of system log p ≡ r.saved
saved_found system log p r is =
    let from = starts_from system log p r is in
    ap (λ (o : Option ProcState). option_map_or (saved_letters log p) o []) from.started ∙ ap (λ (r : BackRec). r.saved) from.is

-- An entry that stands may be noted where its letter, if it is one, may be counted.
pub note_by : (system : System) (log : List Entry) (e : Entry) (k : ClusterNo) (recs : List BackRec) → is_system system ≡ true → IsLegalBy Stands system (log ++ e ∷ []) → length log < 2 ^ 64 - 1 → KeepsRecords system log k recs
    → ((at : ℕ) (letter : Letter) (kept : BackRec) → what e ≡ Mail at letter → IsUnended system log letter.from → backup_record system log letter.from ≡ Some kept → (letter.out < 32) × (count_for kept.counts letter < 2 ^ 32 - 1))
    → CanNote (what e) recs
note_by system log e k recs valid legal room keeps can = by_what (what e) refl
  where
    letter_fits : (at : ℕ) (letter : Letter) → what e ≡ Mail at letter → CanNote (Mail at letter) recs
    letter_fits at letter is = (
      λ p r for there.
          let found = found_in system log k recs p r keeps there in
          let fits = next_fits system log p r found.is in
          omega (arith, fits, room),
      λ r there.
          let found = found_in system log k recs letter.from r keeps there in
          can at letter r is found.unended found.is,
    )

    stands : Stands system log e
    stands = IsLegal-last Stands system log e legal

    cut_fits : (p : Pid) (small : SmallState) (read : List ℕ) (took : Option ℕ) → what e ≡ Sync p small read took → CanCut p read recs
    cut_fits p small read took is r there =
        let found = found_in system log k recs p r keeps there in
        let saved : saved_of system log p ≡ r.saved = saved_found system log p r found.is in
        let before : IsLegalBy Stands system log = IsLegal-before Stands system log e legal in
        let holds : SyncHolds system log p small read took = subst (KindHolds system log e) is stands.kind in (
          subst (AreFronts read) saved (sync_fronts system log p small read took valid before holds found.unended),
          subst (AreOnEnds read) saved (sync_ends system log p small read took valid before holds found.unended),
        )

    by_what : (w : What) → what e ≡ w → CanNote w recs
    by_what (Mail at letter) is = letter_fits at letter is
    by_what (Birth parent at child end) is = none_yet system log e valid legal parent at child end is k recs keeps
    by_what (Sync q small read took) is = cut_fits q small read took is
    by_what (Rebackup to fresh more) is = can_bring system log e k to fresh more recs valid legal is keeps
    by_what _ is = tt
