-- The letters of a process of a log can be counted, where there is room for another entry.
use Rattle.std.proofs.Common.{◌≡◌, ℕ, ◌+◌, ◌-◌, ◌<◌, ◌≤◌, ◌^◌, refl, sym, ◌∙◌, ap, arith, List, [], ◌∷◌, ◌++◌, length, true, false, ltb, Option, Some, None, is_some, true≢false}
use Rattle.std.proofs.lemmas.Bool.{and_parts}
use Rattle.std.proofs.lemmas.Bool.Decides.{nat_tests}
use Rattle.t32_base.specs.declared.process.Pid.{Pid}
use Rattle.t32_base.specs.declared.letter.Arrived.{Arrived}
use Rattle.t32_base.specs.declared.letter.Letter.{Letter}
use Rattle.sys_text.specs.declared.system.System.{System}
use Rattle.sys_text.specs.Valid.{is_system}
use Rattle.proc_state.specs.State.{ProcState, has_ended, state_of}
use Rattle.sys_calls.proofs.RunLemma.{all_delivered}
use Rattle.bus_msg.specs.declared.entry.Entry.{Entry}
use Rattle.bus_msg.specs.Places.{unended_at}
use Rattle.bus_msg.specs.PlacedAfter.{what}
use Rattle.cert_sched.specs.Schedule.{placement, process_after}
use Rattle.cert_sched.specs.Deeds.{arrived_count, letter_for}
use Rattle.cert_sched.specs.Steps.{saved_of}
use Rattle.cert_sched.specs.Legal.{IsLegalBy, Stands, MayStand}
use Rattle.cert_sched.specs.Simulation.{IsUnended}
use Rattle.cert_sched.proofs.LogLaws.{IsLegal-snoc, placement-snoc}
use Rattle.cert_sched.proofs.OpenLaws.{unended_open}
use Rattle.cert_sched.proofs.RecordLaws.{arrived_count-other}
use Rattle.cert_sched.proofs.ReplayLaws.{all_delivered-is}
use Rattle.cert_sched.proofs.RollLaws.{all_roll, rolls_next}
use Rattle.cert_sched.proofs.ThereLaws.{unended_there}
use Rattle.log_laws.specs.letters.Numbered.{are_above, are_below, are_in_order, are_numbered}
use Rattle.log_laws.proofs.letters.LogReads.{all_saved_numbered}
use Rattle.log_laws.proofs.records.Counts.{arrived_fit}
use Rattle.log_laws.proofs.records.Standing.{all_stand, itself}
use Rattle.audited_process.specs.declared.audited.Audited.{Audited}
use Rattle.audited_process.specs.Concerns.{goes_on}
use Rattle.audited_process.specs.Audited.{IsLedBy}
use Rattle.audited_process.specs.Leading.{HasRoom, StaysUnended}
use Rattle.audited_process.proofs.GoingOn.{stands_on, unborn}
use Rattle.audited_process.proofs.ByKind.{no_exit}
use Rattle.audited_process.proofs.Waits.{still_unended}

-- ---- letters whose numbers rise below a number are no more than that

below : (m n : ℕ) → ltb m n ≡ true → m < n
below m n less = grind (arith, nat_tests)

few_above : (m n : ℕ) (letters : List Arrived) → are_above m letters ≡ true → are_in_order letters ≡ true → are_below n letters ≡ true → m < n → length letters + m < n
few_above m n [] above order under less = omega (arith, less)
few_above m n (a ∷ letters) above order under less =
    let first = below m a.number (and_parts (ltb m a.number) (are_above m letters) above).0 in
    let next = and_parts (are_above a.number letters) (are_in_order letters) order in
    let most = and_parts (ltb a.number n) (are_below n letters) under in
    let rest = few_above a.number n letters next.0 next.1 most.1 (below a.number n most.0) in
    omega (arith, first, rest)

few_numbered : (n : ℕ) (letters : List Arrived) → are_numbered n letters ≡ true → length letters ≤ n
few_numbered n [] numbered = omega arith
few_numbered n (a ∷ letters) numbered =
    let parts = and_parts (are_in_order (a ∷ letters)) (are_below n (a ∷ letters)) numbered in
    let next = and_parts (are_above a.number letters) (are_in_order letters) parts.0 in
    let most = and_parts (ltb a.number n) (are_below n letters) parts.1 in
    let rest = few_above a.number n letters next.0 next.1 most.1 (below a.number n most.0) in
    omega (arith, rest)

-- ---- the letters of a process

pub stays_unended : StaysUnended
stays_unended system log e p valid legal may unended goes =
    ap (λ places. is_some (unended_at places p)) (placement-snoc system log e)
    ∙ still_unended (what e) (placement system log) p (unborn system log e p valid legal may unended goes) (no_exit p (what e) goes) unended

module _ (system : System) (log : List Entry) (e : Entry) (p : Pid) (a : Audited) (valid : is_system system ≡ true) (legal : IsLegalBy MayStand system log) (may : MayStand system log e)
    (unended : IsUnended system log p) (goes : goes_on p (what e) ≡ true) (is : IsLedBy e system log p a) where
  abbrev more : List Entry
  more = log ++ e ∷ []

  abbrev came : List Letter
  came = letter_for p (what e)

  abbrev then : ProcState
  then = all_delivered (state_of a.process) came

  legal_more : IsLegalBy Stands system more
  legal_more = all_stand system more (IsLegal-snoc MayStand system log e legal may)

  unended_more : IsUnended system more p
  unended_more = stays_unended system log e p valid legal may unended goes

  next_is : (state_of a.process).next ≡ arrived_count log p
  next_is =
      let now : process_after system more p ≡ Some then = stands_on system log e p valid legal may unended goes (state_of a.process) is.there a.begun is.begun in
      let runs : has_ended (then.small).status ≡ false = unended_open Stands itself system more p valid legal_more unended_more then now in
      let all = rolls_next system more p then ((all_roll Stands itself system more valid legal_more).rolls p then now runs) in
      let others = arrived_count-other log e p (unborn system log e p valid legal may unended goes) in
      let next : then.next ≡ (state_of a.process).next + length came = ap (λ (s : ProcState). s.next) (all_delivered-is (state_of a.process) came) in
      omega (arith, all, others, next)

  few_saved : length (saved_of system log p) ≤ arrived_count log p
  few_saved = by_process (process_after system log p) refl (unended_there Stands itself system log p valid (all_stand system log legal) unended)
    where
      by_process : (o : Option ProcState) → process_after system log p ≡ o → is_some o ≡ true → length (saved_of system log p) ≤ arrived_count log p
      by_process None there some = absurd (true≢false (sym some))
      by_process (Some now) there some =
          let before = all_stand system log legal in
          few_numbered (arrived_count log p) (saved_of system log p)
          (all_saved_numbered system log p now valid before there (unended_open Stands itself system log p valid before unended now there))

  room : length log < 2 ^ 64 - 1 → ((state_of a.process).next < 2 ^ 64 - 1) × ((a.begun).saved < 2 ^ 64 - 1)
  room within =
      let fit = arrived_fit log p in
      let next = next_is in
      let few = few_saved in
      let saved = (is.begun).saved in
      (omega (arith, fit, next, within), omega (arith, fit, few, saved, within))

pub has_room : HasRoom
has_room system log e p a valid legal may unended goes within is = room system log e p a valid legal may unended goes is within
