-- A state of a process that keeps the limits keeps them after an entry that starts the process not anew, with the letters that the entry brings it.
use Rattle.std.proofs.Common.{◌≡◌, ℕ, ◌+◌, ◌-◌, ◌≤◌, refl, sym, ◌∙◌, ap, subst, arith, List, [], ◌∷◌, ◌++◌, length, true, false, cond, ◌||◌, leb, Option, Some, None, is_some, true≢false}
use Rattle.std.specs.Prelude.{option_and_then}
use Rattle.std.specs.Option.{option_map_or}
use Rattle.std.proofs.lemmas.Bool.{and_parts, and_from}
use Rattle.std.proofs.lemmas.Bool.Decides.{nat_tests}
use Rattle.t32_base.specs.declared.process.Pid.{Pid}
use Rattle.t32_base.specs.declared.letter.Letter.{Letter}
use Rattle.sys_text.specs.declared.system.System.{System}
use Rattle.sys_text.specs.Valid.{is_system}
use Rattle.proc_state.specs.State.{ProcState}
use Rattle.sys_calls.specs.declared.steps.Emission.{Emission}
use Rattle.sys_calls.proofs.RunLemma.{all_delivered}
use Rattle.plain_kernel.specs.Kernel.{process_at}
use Rattle.bus_msg.specs.declared.entry.Entry.{Entry}
use Rattle.bus_msg.specs.PlacedAfter.{what}
use Rattle.roll_forward.specs.Deeds.{Sends}
use Rattle.cert_sched.specs.Parts.{after_last}
use Rattle.cert_sched.specs.Schedule.{done, process_after}
use Rattle.cert_sched.specs.Deeds.{arrived_count, is_birth_of, letter_for, letters_to, numbered, saved_letters, start_of, starts}
use Rattle.cert_sched.specs.Steps.{emission_at, reads_since, saved_of, steps_since}
use Rattle.cert_sched.specs.Rules.{keeps_limits}
use Rattle.cert_sched.specs.Legal.{IsLegalBy, Stands}
use Rattle.cert_sched.specs.Simulation.{IsUnended}
use Rattle.cert_sched.proofs.OpenLaws.{unended_open}
use Rattle.cert_sched.proofs.ReadLaws.{read_count, reads_more}
use Rattle.cert_sched.proofs.RecordLaws.{saved_letters-other, start_of-snoc}
use Rattle.cert_sched.proofs.ReplayLaws.{all_delivered-is, replays_counts, replays_last}
use Rattle.cert_sched.proofs.RollLaws.{all_roll, rolls_next}
use Rattle.cert_sched.proofs.StepLaws.{sent_from}
use Rattle.cert_sched.proofs.ThereLaws.{unended_there}
use Rattle.log_laws.proofs.letters.LogReads.{itself}
use Rattle.checkpoint_laws.specs.marks.Beside.{LeavesMarks}

-- ---- where it started

-- its start, and how many letters came to it by then and since
record Begun (system : System) (log : List Entry) (p : Pid) : Type 0 where
  pub start : ProcState
  pub started : start_of system log p ≡ Some start
  pub arrived : arrived_count log p ≡ start.next + length (letters_to p (after_last (starts p) log))

begun : (system : System) (log : List Entry) (p : Pid) → is_system system ≡ true → IsLegalBy Stands system log → IsUnended system log p → Begun system log p
begun system log p valid legal unended = by_process (process_after system log p) refl (unended_there Stands itself system log p valid legal unended)
  where
    by_process : (o : Option ProcState) → process_after system log p ≡ o → is_some o ≡ true → Begun system log p
    by_process None there some = absurd (true≢false (sym some))
    by_process (Some now) there some =
        let r = (all_roll Stands itself system log valid legal).rolls p now there (unended_open Stands itself system log p valid legal unended now there) in
        record { start = r.start; started = r.started; arrived = r.arrived }

fewer_within : (n m k : ℕ) → n ≤ m → leb m k ≡ true → leb n k ≡ true
fewer_within n m k fewer within = grind (arith, nat_tests)

-- ---- the entry

module _ (system : System) (log : List Entry) (e : Entry) (p : Pid) (s : ProcState) (b : Begun system log p) (quiet : starts p e ≡ false) (next : s.next ≡ arrived_count log p) where
  abbrev letters : List Letter
  letters = letter_for p (what e)

  abbrev more : List Entry
  more = log ++ e ∷ []

  same_start : start_of system more p ≡ start_of system log p
  same_start = start_of-snoc system log e p ∙ ap (λ c. cond c (process_after system more p) (start_of system log p)) quiet

  same_steps : steps_since system more p (all_delivered s letters) ≡ steps_since system log p s
  same_steps = λ i. ((all_delivered-is s letters i).small).steps - option_map_or (λ (q : ProcState). (q.small).steps) (same_start i) 0

  saved_more : saved_of system more p ≡ saved_of system log p ++ numbered s.next letters
  saved_more =
      ap (λ (o : Option ProcState). option_map_or (saved_letters more p) o []) (same_start ∙ b.started)
      ∙ saved_letters-other log e p b.start quiet
      ∙ (λ i. option_map_or (saved_letters log p) (sym b.started i) [] ++ numbered ((sym b.arrived ∙ sym next) i) letters)

  -- the letters of the entry are read by none
  no_more_reads : reads_since system more p (all_delivered s letters) ≤ reads_since system log p s
  no_more_reads =
      subst (λ n. n ≤ reads_since system log p s) (λ i. read_count (sym saved_more i) (sym (all_delivered-is s letters) i).mail) (reads_more (saved_of system log p) s.mail (numbered s.next letters))

  stays : keeps_limits system log p s ≡ true → keeps_limits system more p (all_delivered s letters) ≡ true
  stays keeps =
      let both = and_parts (leb (steps_since system log p s) system.syncsteps) (leb (reads_since system log p s) system.syncreads) keeps in
      and_from _ _ (ap (λ n. leb n system.syncsteps) same_steps ∙ both.0)
      (fewer_within (reads_since system more p (all_delivered s letters)) (reads_since system log p s) system.syncreads no_more_reads both.1)

-- an entry that starts a process not anew leaves a state of it within the limits, with the letters that it brings
pub keeps_stay : (system : System) (log : List Entry) (e : Entry) (p : Pid) (s : ProcState) → is_system system ≡ true → IsLegalBy Stands system log → IsUnended system log p → starts p e ≡ false → s.next ≡ arrived_count log p
    → keeps_limits system log p s ≡ true → keeps_limits system (log ++ e ∷ []) p (all_delivered s (letter_for p (what e))) ≡ true
keeps_stay system log e p s valid legal unended = stays system log e p s (begun system log p valid legal unended)

-- so does one that leaves the marks of the process
pub left_keeps : (system : System) (log : List Entry) (e : Entry) (p : Pid) (s : ProcState) → is_system system ≡ true → IsLegalBy Stands system log → IsUnended system log p → LeavesMarks system log e p → s.next ≡ arrived_count log p
    → keeps_limits system log p s ≡ true → keeps_limits system (log ++ e ∷ []) p (all_delivered s (letter_for p (what e))) ≡ true
left_keeps system log e p s valid legal unended leaves =
    keeps_stay system log e p s valid legal unended (ap (λ c. c || is_birth_of p (what e)) leaves.no_cut ∙ leaves.no_birth)

-- ---- what a process sent that is not in the log yet

-- after it as many letters have arrived as came to the process
pub sent_next : (system : System) (log : List Entry) (p : Pid) (at : ℕ) (m : Emission) (t : ProcState) → is_system system ≡ true → IsLegalBy Stands system log → IsUnended system log p → emission_at system log p at ≡ Some (m, t)
    → t.next ≡ arrived_count log p
sent_next system log p at m t valid legal unended sends =
    let f = sent_from system log p at m t sends in
    let there : process_after system log p ≡ Some f.was = ap (option_and_then (λ k. process_at k p)) f.before ∙ f.there in
    let r = (all_roll Stands itself system log valid legal).rolls p f.was there (unended_open Stands itself system log p valid legal unended f.was there) in
    (replays_counts (at - done f.kernel p) f.was t (Sends m ∷ []) (replays_last (at - done f.kernel p) f.was t m f.sends)).next ∙ rolls_next system log p f.was r

-- so the entry leaves the process after it within the limits
pub sent_stays : (system : System) (log : List Entry) (e : Entry) (p : Pid) (at : ℕ) (m : Emission) (t : ProcState) → is_system system ≡ true → IsLegalBy Stands system log → IsUnended system log p → starts p e ≡ false
    → emission_at system log p at ≡ Some (m, t) → keeps_limits system log p t ≡ true → keeps_limits system (log ++ e ∷ []) p (all_delivered t (letter_for p (what e))) ≡ true
sent_stays system log e p at m t valid legal unended quiet sends = keeps_stay system log e p t valid legal unended quiet (sent_next system log p at m t valid legal unended sends)
