-- What one more entry makes of the record of a process.
use Rattle.std.proofs.Common.{◌≡◌, ℕ, zero, suc, ◌+◌, ◌-◌, ◌<◌, refl, sym, ◌∙◌, ap, subst, List, [], ◌∷◌, ◌++◌, length, append-nil, add-zero, Bool, true, false, cond, eq-eqb, Option, Some, None, is_some, true≢false, arith}
use Rattle.std.specs.Prelude.{option_map, option_and_then}
use Rattle.std.specs.Option.{option_map_or}
use Rattle.std.proofs.lemmas.Grind.{flat_map-append}
use Rattle.std.proofs.lemmas.Option.{same_Some}
use Rattle.t32_base.specs.declared.process.Pid.{Pid}
use Rattle.t32_base.specs.declared.process.End.{End}
use Rattle.t32_base.specs.declared.letter.Letter.{Letter}
use Rattle.t32_base.specs.declared.letter.Arrived.{Arrived}
use Rattle.t32_base.specs.declared.letter.To.{To}
use Rattle.t32_base.specs.declared.letter.To.TheVariants.{Proc, Tty}
use Rattle.t32_base.specs.declared.letter.BackRec.{BackRec}
use Rattle.t32_base.specs.Small.{SmallState}
use Rattle.sys_text.specs.declared.system.System.{System}
use Rattle.sys_text.specs.Valid.{is_system}
use Rattle.write_count.specs.Counting.{counts_of, no_counts, raised}
use Rattle.write_count.proofs.CountLaws.{counts_of-append}
use Rattle.proc_state.specs.State.{ProcState}
use Rattle.sys_calls.specs.declared.steps.Emission.TheVariants.{Mail as Sent, Exit as Ended}
use Rattle.sys_calls.specs.Next.{silently}
use Rattle.sys_calls.proofs.Counting.{last_sent}
use Rattle.sys_calls.proofs.Leaving.{silent_ends, letter_leaves}
use Rattle.plain_kernel.specs.Kernel.{process_at}
use Rattle.plain_kernel.proofs.Laws.{last_silent, no_silent}
use Rattle.bus_msg.specs.declared.entry.What.{What}
use Rattle.bus_msg.specs.declared.entry.What.TheVariants.{Mail, Birth, Exit, Sync, Rebackup}
use Rattle.bus_msg.specs.declared.entry.Entry.{Entry}
use Rattle.bus_msg.specs.Places.{same_pid}
use Rattle.bus_msg.specs.PlacedAfter.{what}
use Rattle.roll_forward.specs.Deeds.{Bears, Deed, Sends, letter_in, child_in, letters_in, births_in}
use Rattle.cert_sched.specs.Parts.{after_last}
use Rattle.cert_sched.specs.Schedule.{done, items_of, process_after, run_upto}
use Rattle.cert_sched.specs.Deeds.{starts, is_cut, is_birth_of, start_of, since, deeds_in, letter_for, to_process, letters_to, numbered, arrived_count, saved_letters}
use Rattle.cert_sched.specs.Record.{has_state, backup_record, record_with, record_from}
use Rattle.cert_sched.specs.Kinds.{KindHolds, SyncHolds, after_take}
use Rattle.cert_sched.specs.Legal.{IsLegalBy, Stands}
use Rattle.cert_sched.specs.Simulation.{IsUnended}
use Rattle.cert_sched.proofs.LogLaws.{IsLegal-before, IsLegal-last}
use Rattle.cert_sched.proofs.RecordLaws.{arrived_count-other, backup_record-cut, backup_record-other, backup_record-goes_on}
use Rattle.cert_sched.proofs.StepLaws.{is_sent, process_after-silent, sent_from}
use Rattle.cert_sched.proofs.EndsLaws.{process_after-ends}
use Rattle.cert_sched.proofs.BornLaws.{there_not_born}
use Rattle.cert_sched.proofs.CameLaws.{IsStandingRule, same_of}
use Rattle.cert_sched.proofs.RollLaws.{Rolls, all_roll}
use Rattle.cert_sched.proofs.OpenLaws.{unended_open}
use Rattle.cert_sched.proofs.ThereLaws.{unended_there}
use Rattle.log_laws.proofs.letters.SyncReads.{sync_left, synced, SyncedAt}
use Rattle.backup_queue.specs.Queue.{unread}
use Rattle.backup_records.specs.Records.{record_after, saved_by_receiver, counted_by_sender, is_receiver, with_child, with_cut, with_saved, with_counted}
use Rattle.log_laws.specs.records.Kept.{is_noted, is_renewed}
use Rattle.log_laws.proofs.records.Standing.{legal_stands}
use Rattle.cert_sched.proofs.BirthLaws.{sync_taken}
use Rattle.sys_calls.specs.Take.{taken}

-- ---- the end that a letter leaves from

silent_32 : (n : ℕ) (s t : ProcState) → silently n s ≡ Some t → length (t.small).ends ≡ length (s.small).ends
silent_32 zero s t is = ap (λ (x : ProcState). length (x.small).ends) (sym (no_silent s t is))
silent_32 (suc n) s t is = let l = last_silent n s t is in silent_ends l.before t l.last ∙ silent_32 n s l.before l.made

-- the letter of an entry leaves from one of 32 ends
pub letter_out : (system : System) (log : List Entry) (e : Entry) (at : ℕ) (letter : Letter) → Stands system log e → what e ≡ Mail at letter → letter.out < 32
letter_out system log e at letter stands is =
    let s = is_sent system log letter.from at (Sent letter) (subst (KindHolds system log e) is stands.kind) in
    let f = sent_from system log letter.from at (Sent letter) s.after s.is in
    let l = last_sent (at - done f.kernel letter.from) f.was (Sent letter) s.after f.sends in
    let ends : length (f.was.small).ends ≡ 32 = process_after-ends system log letter.from f.was (ap (option_and_then (λ k. process_at k letter.from)) f.before ∙ f.there) in
    subst (λ n. letter.out < n) (silent_32 l.earlier f.was l.before l.silent ∙ ends) (letter_leaves l.before s.after letter l.last (omega (arith, silent_32 l.earlier f.was l.before l.silent, ends)))

-- ---- a letter

letters_more : (deeds : List Deed) (letter : Letter) → letters_in (deeds ++ Sends (Sent letter) ∷ []) ≡ letters_in deeds ++ letter ∷ []
letters_more deeds letter = flat_map-append letter_in deeds (Sends (Sent letter) ∷ [])

births_same : (deeds : List Deed) (letter : Letter) → births_in (deeds ++ Sends (Sent letter) ∷ []) ≡ births_in deeds
births_same deeds letter = flat_map-append child_in deeds (Sends (Sent letter) ∷ []) ∙ append-nil (births_in deeds)

-- what the record of a process has after a letter, by whether it is its receiver and its sender
abbrev RecordMore : Bool → Bool → Letter → Pid → Bool → List Arrived → ℕ → List Deed → ProcState → BackRec
RecordMore receives sends letter p stated saved next deeds start =
    record_with p stated (saved ++ numbered next (cond receives (letter ∷ []) [])) (next + length (cond receives (letter ∷ []) [])) (deeds ++ cond sends (Sends (Sent letter) ∷ []) []) start

sender_more : (receives sends : Bool) (letter : Letter) (p : Pid) (stated : Bool) (saved : List Arrived) (next : ℕ) (deeds : List Deed) (start : ProcState) → letter.out < 32
    → RecordMore receives sends letter p stated saved next deeds start ≡ cond sends (with_counted letter (RecordMore receives false letter p stated saved next deeds start)) (RecordMore receives false letter p stated saved next deeds start)
sender_more receives true letter p stated saved next deeds start out =
    let letters : List Arrived = saved ++ numbered next (cond receives (letter ∷ []) []) in
    let count : ℕ = next + length (cond receives (letter ∷ []) []) in
    λ i. record {
      pid = p;
      state = (record_with p stated letters count [] start).state;
      saved = letters;
      next = count;
      counts = ((ap counts_of (letters_more deeds letter) ∙ counts_of-append (letters_in deeds) letter out) ∙ ap (λ ds. raised (counts_of (letters_in ds)) letter) (sym (append-nil deeds))) i;
      births = (births_same deeds letter ∙ ap births_in (sym (append-nil deeds))) i;
    }
sender_more receives false letter p stated saved next deeds start out = refl

receiver_more : (receives : Bool) (letter : Letter) (p : Pid) (stated : Bool) (saved : List Arrived) (next : ℕ) (deeds : List Deed) (start : ProcState)
    → RecordMore receives false letter p stated saved next deeds start ≡ cond receives (with_saved letter (record_with p stated saved next deeds start)) (record_with p stated saved next deeds start)
receiver_more true letter p stated saved next deeds start = ap (λ ds. record_with p stated (saved ++ record { number = next; letter = letter } ∷ []) (next + 1) ds start) (append-nil deeds)
receiver_more false letter p stated saved next deeds start = λ i. record_with p stated (append-nil saved i) (add-zero next i) (append-nil deeds i) start

-- by the two tests
told_by : (receives sends : Bool) (letter : Letter) (r : BackRec) → is_receiver r.pid letter.to ≡ receives → same_pid letter.from r.pid ≡ sends
    → counted_by_sender letter (saved_by_receiver letter r) ≡ cond sends (with_counted letter (cond receives (with_saved letter r) r)) (cond receives (with_saved letter r) r)
told_by receives sends letter r to from =
    ap (counted_by_sender letter) (ap (λ b. cond b (with_saved letter r) r) to) ∙ by_test receives
  where
    by_test : (b : Bool) → counted_by_sender letter (cond b (with_saved letter r) r) ≡ cond sends (with_counted letter (cond b (with_saved letter r) r)) (cond b (with_saved letter r) r)
    by_test true = ap (λ b. cond b (with_counted letter (with_saved letter r)) (with_saved letter r)) from
    by_test false = ap (λ b. cond b (with_counted letter r) r) from

for_receiver : (p : Pid) (letter : Letter) (to : To) → to_process p letter to ≡ cond (is_receiver p to) (letter ∷ []) []
for_receiver p letter (Proc q end) = refl
for_receiver p letter (Tty t) = refl

-- a record that has a letter more, saved and counted, is the one that the letter makes of it
pub record_told : (at : ℕ) (letter : Letter) (p : Pid) (stated : Bool) (saved : List Arrived) (next : ℕ) (deeds : List Deed) (start : ProcState) → letter.out < 32
    → record_with p stated (saved ++ numbered next (letter_for p (Mail at letter))) (next + length (letter_for p (Mail at letter))) (deeds ++ deeds_in p (Mail at letter)) start
    ≡ record_after (Mail at letter) (record_with p stated saved next deeds start)
record_told at letter p stated saved next deeds start out =
    let r : BackRec = record_with p stated saved next deeds start in
    let receives : Bool = is_receiver p letter.to in
    let sends : Bool = same_pid letter.from p in
    ap (λ ls. record_with p stated (saved ++ numbered next ls) (next + length ls) (deeds ++ deeds_in p (Mail at letter)) start) (for_receiver p letter letter.to)
    ∙ sender_more receives sends letter p stated saved next deeds start out
    ∙ ap (λ x. cond sends (with_counted letter x) x) (receiver_more receives letter p stated saved next deeds start)
    ∙ sym (told_by receives sends letter r refl refl)

-- ---- a birth

letters_same : (deeds : List Deed) (child : Pid) → letters_in (deeds ++ Bears child ∷ []) ≡ letters_in deeds
letters_same deeds child = flat_map-append letter_in deeds (Bears child ∷ []) ∙ append-nil (letters_in deeds)

births_more : (deeds : List Deed) (child : Pid) → births_in (deeds ++ Bears child ∷ []) ≡ births_in deeds ++ child ∷ []
births_more deeds child = flat_map-append child_in deeds (Bears child ∷ [])

-- a record that has a deed more, where its process bore the child, has the child last in its births
child_told : (bears : Bool) (child p : Pid) (stated : Bool) (saved : List Arrived) (next : ℕ) (deeds : List Deed) (start : ProcState)
    → record_with p stated (saved ++ []) (next + 0) (deeds ++ cond bears (Bears child ∷ []) []) start ≡ cond bears (with_child child (record_with p stated saved next deeds start)) (record_with p stated saved next deeds start)
child_told true child p stated saved next deeds start = λ i. record {
  pid = p;
  state = (record_with p stated saved next deeds start).state;
  saved = append-nil saved i;
  next = add-zero next i;
  counts = counts_of (letters_same deeds child i);
  births = births_more deeds child i;
}
child_told false child p stated saved next deeds start = λ i. record_with p stated (append-nil saved i) (add-zero next i) (append-nil deeds i) start

-- ---- one more entry

-- an entry that does not cut the process is no such new backup,
pub uncut_unrenewed : (p : Pid) (w : What) → is_cut p w ≡ false → is_renewed p w ≡ false
uncut_unrenewed p (Rebackup to fresh recs) none = none
uncut_unrenewed p w none = refl

-- nor is one of the kinds that are noted
pub noted_unrenewed : (p : Pid) (w : What) → is_noted w ≡ true → is_renewed p w ≡ false
noted_unrenewed p (Rebackup to fresh recs) noted = absurd (true≢false (sym noted))
noted_unrenewed p w noted = refl

module _ (system : System) (log : List Entry) (e : Entry) (p : Pid) (valid : is_system system ≡ true) (legal : IsLegalBy Stands system log) (unended : IsUnended system log p) where
  started_record : (start : ProcState) → start_of system log p ≡ Some start → backup_record system log p ≡ Some (record_from system log p start)
  unfolding backup_record
  started_record start started = ap (option_map (record_from system log p)) started

  after_letter : (at : ℕ) (letter : Letter) (now : ProcState) → what e ≡ Mail at letter → Stands system log e → Rolls system log p now → backup_record system (log ++ e ∷ []) p ≡ option_map (record_after (Mail at letter)) (backup_record system log p)
  after_letter at letter now is stands rolls =
      let start = rolls.start in
      let count : start.next + length (letters_to p (after_last (starts p) log)) ≡ arrived_count log p = sym rolls.arrived in
      backup_record-goes_on system log e p (ap (is_cut p) is) (ap (is_birth_of p) is)
      ∙ ap (option_map (λ (s : ProcState). record_with p (has_state system log p)
      (saved_letters log p s ++ numbered (s.next + length (letters_to p (after_last (starts p) log))) (letter_for p (what e)))
      (arrived_count log p + length (letter_for p (what e)))
      (since log p ++ deeds_in p (what e)) s)) rolls.started
      ∙ ap (λ n. Some (record_with p (has_state system log p) (saved_letters log p start ++ numbered n (letter_for p (what e))) (arrived_count log p + length (letter_for p (what e))) (since log p ++ deeds_in p (what e)) start)) count
      ∙ ap (λ w. Some (record_with p (has_state system log p) (saved_letters log p start ++ numbered (arrived_count log p) (letter_for p w)) (arrived_count log p + length (letter_for p w)) (since log p ++ deeds_in p w) start)) is
      ∙ ap Some (record_told at letter p (has_state system log p) (saved_letters log p start) (arrived_count log p) (since log p) start (letter_out system log e at letter stands is))
      ∙ ap (option_map (record_after (Mail at letter))) (sym (started_record start rolls.started))

  kept_by : (f : BackRec → BackRec) → ((r : BackRec) → f r ≡ r) → (o : Option BackRec) → o ≡ option_map f o
  kept_by f same None = refl
  kept_by f same (Some r) = ap Some (sym (same r))

  -- an exit of the process is no letter and no birth
  exit_letters : (b : Bool) (end : End) (deeds : List Deed) → letters_in (deeds ++ cond b (Sends (Ended end) ∷ []) []) ≡ letters_in deeds
  exit_letters true end deeds = flat_map-append letter_in deeds (Sends (Ended end) ∷ []) ∙ append-nil (letters_in deeds)
  exit_letters false end deeds = ap letters_in (append-nil deeds)

  exit_births : (b : Bool) (end : End) (deeds : List Deed) → births_in (deeds ++ cond b (Sends (Ended end) ∷ []) []) ≡ births_in deeds
  exit_births true end deeds = flat_map-append child_in deeds (Sends (Ended end) ∷ []) ∙ append-nil (births_in deeds)
  exit_births false end deeds = ap births_in (append-nil deeds)

  after_exit_of : (q : Pid) (at : ℕ) (end : End) → what e ≡ Exit q at end → backup_record system (log ++ e ∷ []) p ≡ backup_record system log p
  unfolding backup_record
  after_exit_of q at end is =
      backup_record-goes_on system log e p (ap (is_cut p) is) (ap (is_birth_of p) is)
      ∙ by_start (start_of system log p)
    where
      by_start : (o : Option ProcState) → option_map (λ (s : ProcState). record_with p (has_state system log p)
          (saved_letters log p s ++ numbered (s.next + length (letters_to p (after_last (starts p) log))) (letter_for p (what e)))
          (arrived_count log p + length (letter_for p (what e)))
          (since log p ++ deeds_in p (what e)) s) o ≡ option_map (record_from system log p) o
      by_start None = refl
      by_start (Some s) =
          let next : ℕ = s.next + length (letters_to p (after_last (starts p) log)) in
          ap (λ w. Some (record_with p (has_state system log p) (saved_letters log p s ++ numbered next (letter_for p w)) (arrived_count log p + length (letter_for p w)) (since log p ++ deeds_in p w) s)) is
          ∙ (λ i. Some (record {
            pid = p;
            state = (record_from system log p s).state;
            saved = append-nil (saved_letters log p s) i;
            next = add-zero (arrived_count log p) i;
            counts = counts_of (exit_letters (same_pid q p) end (since log p) i);
            births = exit_births (same_pid q p) end (since log p) i;
          }))

  -- a birth of another process
  after_birth_of : (parent : Pid) (at : ℕ) (child : Pid) (end : ℕ) → what e ≡ Birth parent at child end → is_birth_of p (what e) ≡ false
      → backup_record system (log ++ e ∷ []) p ≡ option_map (record_after (Birth parent at child end)) (backup_record system log p)
  unfolding backup_record
  after_birth_of parent at child end is other =
      backup_record-goes_on system log e p (ap (is_cut p) is) other
      ∙ by_start (start_of system log p)
    where
      by_start : (o : Option ProcState) → option_map (λ (s : ProcState). record_with p (has_state system log p)
          (saved_letters log p s ++ numbered (s.next + length (letters_to p (after_last (starts p) log))) (letter_for p (what e)))
          (arrived_count log p + length (letter_for p (what e)))
          (since log p ++ deeds_in p (what e)) s) o ≡ option_map (record_after (Birth parent at child end)) (option_map (record_from system log p) o)
      by_start None = refl
      by_start (Some s) =
          let next : ℕ = s.next + length (letters_to p (after_last (starts p) log)) in
          ap (λ w. Some (record_with p (has_state system log p) (saved_letters log p s ++ numbered next (letter_for p w)) (arrived_count log p + length (letter_for p w)) (since log p ++ deeds_in p w) s)) is
          ∙ ap Some (child_told (same_pid parent p) child p (has_state system log p) (saved_letters log p s) (arrived_count log p) (since log p) s)

  others_after : (w : What) → what e ≡ w → is_cut p w ≡ false → is_birth_of p w ≡ false → deeds_in p w ≡ [] → letter_for p w ≡ [] → backup_record system (log ++ e ∷ []) p ≡ backup_record system log p
  others_after w is cut birth deeds letters =
      backup_record-other system log e p (ap (is_cut p) is ∙ cut) (ap (is_birth_of p) is ∙ birth) (ap (deeds_in p) is ∙ deeds) (ap (letter_for p) is ∙ letters)

  -- ---- a synchronisation

  -- the process after it, which has taken the signal that it tells of
  cut_process : (small : SmallState) (read : List ℕ) (took : Option ℕ) → what e ≡ Sync p small read took → SyncHolds system log p small read took → (s : SyncedAt system log p small read took)
      → process_after system (log ++ e ∷ []) p ≡ Some (after_take took s.at)
  cut_process small read None is holds s = process_after-silent system log e p small.steps s.at s.reached (λ k. ap (items_of k) is ∙ append-nil (run_upto k p small.steps))
  cut_process small read (Some g) is holds s =
      let t = sync_taken system log e p small read g is holds in
      (t.made).after ∙ ap (λ (q : ProcState). Some (taken q)) (same_Some (t.made).before s.at (sym t.reached ∙ s.reached))

  -- that of the process cuts its record
  after_own : (small : SmallState) (read : List ℕ) (took : Option ℕ) (now : ProcState) → what e ≡ Sync p small read took → Stands system log e → Rolls system log p now
      → backup_record system (log ++ e ∷ []) p ≡ option_map (record_after (Sync p small read took)) (backup_record system log p)
  after_own small read took now is stands rolls =
      let start = rolls.start in
      let holds : SyncHolds system log p small read took = subst (KindHolds system log e) is stands.kind in
      let s = synced system log p small read took valid legal holds unended in
      let own : same_pid p p ≡ true = eq-eqb p.0 p.0 refl in
      let came : arrived_count (log ++ e ∷ []) p ≡ arrived_count log p =
      arrived_count-other log e p (ap (is_birth_of p) is) ∙ ap (λ w. arrived_count log p + length (letter_for p w)) is ∙ add-zero (arrived_count log p) in
      let saved : unread read (saved_letters log p start) ≡ (after_take took s.at).mail =
      ap (λ (o : Option ProcState). unread read (option_map_or (saved_letters log p) o [])) (sym rolls.started) ∙ sync_left system log p small read took valid legal holds unended in
      backup_record-cut system log e p (ap (is_cut p) is ∙ own)
      ∙ ap (option_map (λ (s : ProcState). record_with p true s.mail (arrived_count (log ++ e ∷ []) p) [] s)) (cut_process small read took is holds s)
      ∙ (λ i. Some (record { pid = p; state = Some (s.state i); saved = sym saved i; next = came i; counts = no_counts; births = [] }))
      ∙ ap (λ b. Some (cond b (with_cut small read (record_from system log p start)) (record_from system log p start))) (sym own)
      ∙ ap (option_map (record_after (Sync p small read took))) (sym (started_record start rolls.started))

  -- that of another leaves it
  after_other : (q : Pid) (small : SmallState) (read : List ℕ) (took : Option ℕ) (now : ProcState) → what e ≡ Sync q small read took → same_pid q p ≡ false → Rolls system log p now
      → backup_record system (log ++ e ∷ []) p ≡ option_map (record_after (Sync q small read took)) (backup_record system log p)
  after_other q small read took now is apart rolls =
      let start = rolls.start in
      backup_record-other system log e p (ap (is_cut p) is ∙ apart) (ap (is_birth_of p) is) (ap (deeds_in p) is) (ap (letter_for p) is)
      ∙ started_record start rolls.started
      ∙ ap (λ b. Some (cond b (with_cut small read (record_from system log p start)) (record_from system log p start))) (sym apart)
      ∙ ap (option_map (record_after (Sync q small read took))) (sym (started_record start rolls.started))

  after_sync : (q : Pid) (small : SmallState) (read : List ℕ) (took : Option ℕ) (now : ProcState) → what e ≡ Sync q small read took → Stands system log e → Rolls system log p now
      → backup_record system (log ++ e ∷ []) p ≡ option_map (record_after (Sync q small read took)) (backup_record system log p)
  after_sync q small read took now is stands rolls = by_pid (same_pid q p) refl
    where
      by_pid : (b : Bool) → same_pid q p ≡ b → backup_record system (log ++ e ∷ []) p ≡ option_map (record_after (Sync q small read took)) (backup_record system log p)
      by_pid true same =
          let pids : q ≡ p = same_of q p same in
          subst (λ (r : Pid). backup_record system (log ++ e ∷ []) p ≡ option_map (record_after (Sync r small read took)) (backup_record system log p)) (sym pids)
          (after_own small read took now (is ∙ ap (λ (r : Pid). Sync r small read took) pids) stands rolls)
      by_pid false apart = after_other q small read took now is apart rolls

  -- ---- each kind

  by_kind : (now : ProcState) → Stands system log e → is_birth_of p (what e) ≡ false → Rolls system log p now → (w : What) → what e ≡ w → is_renewed p w ≡ false → backup_record system (log ++ e ∷ []) p ≡ option_map (record_after w) (backup_record system log p)
  by_kind now stands other rolls (Mail at letter) is none = after_letter at letter now is stands rolls
  by_kind now stands other rolls (Birth parent at child end) is none = after_birth_of parent at child end is other
  by_kind now stands other rolls (Exit q at end) is none = after_exit_of q at end is ∙ kept_by (record_after (Exit q at end)) (λ r. refl) (backup_record system log p)
  by_kind now stands other rolls (Sync q small read took) is none = after_sync q small read took now is stands rolls
  by_kind now stands other rolls (Rebackup to fresh recs) is none = others_after (Rebackup to fresh recs) is none refl refl refl ∙ kept_by (record_after (Rebackup to fresh recs)) (λ r. refl) (backup_record system log p)
  by_kind now stands other rolls w is none = others_after w is refl refl refl refl ∙ kept_by (record_after w) (λ r. refl) (backup_record system log p)

-- an entry that is no new backup for a process after it has run makes of its record, where it has not ended, what `record_after` makes of it
pub record_follows : (May : System → List Entry → Entry → Type 0) → IsStandingRule May → (system : System) (log : List Entry) (e : Entry) (p : Pid) → is_system system ≡ true → IsLegalBy May system (log ++ e ∷ []) → is_renewed p (what e) ≡ false → IsUnended system log p
    → backup_record system (log ++ e ∷ []) p ≡ option_map (record_after (what e)) (backup_record system log p)
record_follows May standing system log e p valid legal none unended = by_process (process_after system log p) refl (unended_there May standing system log p valid before unended)
  where
    before : IsLegalBy May system log
    before = IsLegal-before May system log e legal

    by_process : (o : Option ProcState) → process_after system log p ≡ o → is_some o ≡ true → backup_record system (log ++ e ∷ []) p ≡ option_map (record_after (what e)) (backup_record system log p)
    by_process None there some = absurd (true≢false (sym some))
    by_process (Some now) there some =
        let stands = standing system log e (IsLegal-last May system log e legal) in
        by_kind system log e p valid (legal_stands May standing system log before) unended now stands (there_not_born system log e p now stands.applies there)
        ((all_roll May standing system log valid before).rolls p now there (unended_open May standing system log p valid before unended now there)) (what e) refl none
