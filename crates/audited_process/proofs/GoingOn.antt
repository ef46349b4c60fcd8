-- How a process goes on by an entry that ends neither it nor the run.
use Rattle.std.proofs.Common.{◌≡◌, ℕ, ◌+◌, refl, sym, ◌∙◌, ap, subst, List, [], ◌∷◌, ◌++◌, length, Bool, true, false, cond, ◌||◌, Option, Some, None, is_some, Result, Ok, Err, true≢false}
use Rattle.std.specs.Prelude.{OnOk}
use Rattle.t32_base.specs.declared.process.Pid.{Pid}
use Rattle.t32_base.proofs.Facts.{or_true}
use Rattle.sys_text.specs.declared.system.System.{System}
use Rattle.sys_text.specs.Valid.{is_system}
use Rattle.proc_state.specs.State.{ProcState}
use Rattle.sys_calls.proofs.RunLemma.{all_delivered}
use Rattle.bus_msg.specs.declared.entry.Entry.{Entry}
use Rattle.bus_msg.specs.PlacedAfter.{what}
use Rattle.cert_sched.specs.Schedule.{process_after}
use Rattle.cert_sched.specs.Deeds.{is_birth_of, is_cut, letter_for, starts}
use Rattle.cert_sched.specs.Legal.{IsLegalBy, Stands, MayStand}
use Rattle.cert_sched.specs.Simulation.{IsUnended}
use Rattle.cert_sched.proofs.BornLaws.{there_not_born}
use Rattle.cert_sched.proofs.ThereLaws.{unended_there}
use Rattle.log_processes.specs.declared.sender.Sender.{Sender}
use Rattle.log_processes.specs.Arrivals.{stepped}
use Rattle.log_processes.specs.Sending.{KeepsProcess}
use Rattle.log_processes.proofs.Beside.{begins_again, keeps_on}
use Rattle.log_processes.proofs.Beside as beside
use Rattle.log_cuts.specs.declared.start.Start.{Start}
use Rattle.log_cuts.specs.Start.{KeepsStart}
use Rattle.log_cuts.proofs.Starting.{leaves_start}
use Rattle.audited_process.specs.declared.begun.Begun.{Begun}
use Rattle.audited_process.specs.Concerns.{forks, goes_on}
use Rattle.audited_process.specs.Begun.{GoesOn, IsBegunOf, StandsAt, led}
use Rattle.audited_process.proofs.ByKind.{cut_brings_none, fork_brings_none, leaves_it}

pub standing : (system : System) (log : List Entry) (e : Entry) → MayStand system log e → Stands system log e
standing system log e may = may.stands

-- where it starts by the entry, it starts as it stands then
pub starts_here : (system : System) (log : List Entry) (e : Entry) (p : Pid) (s : ProcState) (stated : Bool) (b : Begun) → StandsAt s stated b → starts p e ≡ true
    → process_after system (log ++ e ∷ []) p ≡ Some s
    → KeepsStart p b.start system (log ++ e ∷ []) → IsBegunOf system (log ++ e ∷ []) p b
starts_here system log e p s stated b at begins there start =
    let k = begins_again system log e p s begins there in
    record { steps = at.steps ∙ k.begins; saved = at.saved ∙ k.letters; start = start }

module _ (system : System) (log : List Entry) (e : Entry) (p : Pid) (valid : is_system system ≡ true) (legal : IsLegalBy MayStand system log) (may : MayStand system log e)
    (unended : IsUnended system log p)
    (goes : goes_on p (what e) ≡ true) where
  abbrev more : List Entry
  more = log ++ e ∷ []

  pub unborn : is_birth_of p (what e) ≡ false
  unborn = by_process (process_after system log p) refl (unended_there MayStand standing system log p valid legal unended)
    where
      by_process : (o : Option ProcState) → process_after system log p ≡ o → is_some o ≡ true → is_birth_of p (what e) ≡ false
      by_process None there some = absurd (true≢false (sym some))
      by_process (Some was) there some = there_not_born system log e p was (may.stands).applies there

  module _ (s : ProcState) (there : led system log e p ≡ Some s) (old : Begun) (is : IsBegunOf system log p old) where
    abbrev count : ℕ
    count = length (letter_for p (what e))

    stands_then : (forks p (what e) || is_cut p (what e)) ≡ true → process_after system more p ≡ Some s
    stands_then does = ap (λ b. cond b (process_after system more p) (stepped system log (what e) p)) (sym does) ∙ there

    -- a cut of it
    pub cut_stands : is_cut p (what e) ≡ true → process_after system more p ≡ Some s
    cut_stands cuts = stands_then (ap (λ b. forks p (what e) || b) cuts ∙ or_true (forks p (what e)))

    pub cut_on : is_cut p (what e) ≡ true → (new : Begun) → StandsAt s true new → (process_after system more p ≡ Some s) × IsBegunOf system more p new
    cut_on cuts new at =
        let now = cut_stands cuts in (
          now,
          starts_here system log e p s true new at (ap (λ b. b || is_birth_of p (what e)) cuts) now ((at.start).cut system log e p at.stated cuts now),
        )

    -- any other entry
    pub kept_on : is_cut p (what e) ≡ false → KeepsProcess p (all_delivered s (letter_for p (what e))) old.steps (old.saved + count) system more
    kept_on uncut = by_fork (forks p (what e)) refl
      where
        still : starts p e ≡ false
        still = λ i. uncut i || unborn i

        by_fork : (b : Bool) → forks p (what e) ≡ b → KeepsProcess p (all_delivered s (letter_for p (what e))) old.steps (old.saved + count) system more
        by_fork true fork =
            let now = stands_then (ap (λ b. b || is_cut p (what e)) fork) in
            let same : s ≡ all_delivered s (letter_for p (what e)) = ap (all_delivered s) (sym (fork_brings_none p (what e) fork)) in
            beside.goes_on system log e p valid legal may unended still (all_delivered s (letter_for p (what e))) old.steps old.saved (now ∙ ap Some same) is.steps is.saved
        by_fork false unforked =
            let stood : stepped system log (what e) p ≡ Some s =
            ap (λ b. cond b (process_after system more p) (stepped system log (what e) p)) (sym (λ i. unforked i || uncut i)) ∙ there in
            let was : Sender = record { start = old.steps; saved = old.saved; whole = true; parent = false } in
            let now : Sender = record { start = old.steps; saved = old.saved + count; whole = true; parent = false } in
            keeps_on e p s was (all_delivered s (letter_for p (what e))) now refl refl refl system log valid legal may unended (leaves_it p (what e) goes uncut unforked unborn)
            (record { there = stood; begins = is.steps; letters = is.saved })

    pub arrive_on : is_cut p (what e) ≡ false → (t : ProcState) (new : Begun) → t ≡ all_delivered s (letter_for p (what e)) → new ≡ record old { saved = old.saved + count }
        → (process_after system more p ≡ Some t) × IsBegunOf system more p new
    arrive_on uncut t new at same =
        let k = kept_on uncut in (
          k.there ∙ ap Some (sym at),
          record {
            steps = ap (λ (b : Begun). b.steps) same ∙ k.begins;
            saved = ap (λ (b : Begun). b.saved) same ∙ k.letters;
            start = subst (λ (start : Start). KeepsStart p start system more) (ap (λ (b : Begun). b.start) (sym same)) (leaves_start system log e p old.start (λ i. uncut i || unborn i) is.start);
          },
        )

    -- so it stands behind the entry with the letters that came
    pub stands_on : process_after system more p ≡ Some (all_delivered s (letter_for p (what e)))
    stands_on = by_cut (is_cut p (what e)) refl
      where
        by_cut : (b : Bool) → is_cut p (what e) ≡ b → process_after system more p ≡ Some (all_delivered s (letter_for p (what e)))
        by_cut true cuts = cut_stands cuts ∙ ap (λ ls. Some (all_delivered s ls)) (sym (cut_brings_none p (what e) cuts))
        by_cut false uncut = (kept_on uncut).there

pub cuts_go_on : (e : Entry) (p : Pid) (s : ProcState) (old new : Begun) → is_cut p (what e) ≡ true → StandsAt s true new → GoesOn e p s old s new
cuts_go_on e p s old new cuts at system log valid legal may unended goes there is = cut_on system log e p valid legal may unended goes s there old is cuts new at

pub others_go_on : (e : Entry) (p : Pid) (s : ProcState) (old : Begun) (t : ProcState) (new : Begun) → is_cut p (what e) ≡ false → t ≡ all_delivered s (letter_for p (what e))
    → new ≡ record old { saved = old.saved + length (letter_for p (what e)) } → GoesOn e p s old t new
others_go_on e p s old t new uncut at same system log valid legal may unended goes there is = arrive_on system log e p valid legal may unended goes s there old is uncut t new at same

-- two facts where a call is Ok give a third
pub both_ok : {E : Type 0} {A B C : Type 0} (r : Result (Unit {0}) E) → (A → B → C) → OnOk r A → OnOk r B → OnOk r C
both_ok (Ok u) f a b = f a b
both_ok (Err e) f a b = tt
