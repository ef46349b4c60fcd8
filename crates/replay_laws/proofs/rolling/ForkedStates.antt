-- In a legal log the children that a process forks from its start on are as they were born, and no two of them are alike.
use Rattle.std.proofs.Common.{◌≡◌, ℕ, ◌+◌, refl, sym, ◌∙◌, ap, subst, arith, List, [], ◌∷◌, ◌++◌, map, append-nil, Bool, true, false, cond, ◌||◌, eq-eqb, Option, Some, None, is_some, true≢false}
use Rattle.std.specs.List.{list_any}
use Rattle.std.proofs.lemmas.List.{map-append}
use Rattle.std.proofs.lemmas.Grind.{flat_map-append}
use Rattle.std.proofs.lemmas.Option.{same_Some}
use Rattle.t32_base.specs.declared.process.Pid.{Pid}
use Rattle.sys_text.specs.declared.system.System.{System}
use Rattle.sys_text.specs.Valid.{is_system}
use Rattle.proc_state.specs.State.{ProcState, has_ended}
use Rattle.sys_calls.specs.declared.steps.Emission.TheVariants.{Mail as Sent, Exit as Ended}
use Rattle.sys_calls.specs.Fork.{fork_child, fork_parent}
use Rattle.sys_calls.proofs.RunLemma.{all_delivered}
use Rattle.bus_msg.specs.declared.entry.What.{What}
use Rattle.bus_msg.specs.declared.entry.What.TheVariants.{Mail, Birth, Exit}
use Rattle.bus_msg.specs.declared.entry.Entry.{Entry}
use Rattle.bus_msg.specs.Places.{same_pid}
use Rattle.bus_msg.specs.PlacedAfter.{what}
use Rattle.roll_forward.specs.Deeds.{Deed, Sends, Bears, births_in, child_in}
use Rattle.cert_sched.specs.Schedule.{process_after}
use Rattle.cert_sched.specs.Deeds.{starts, is_cut, is_birth_of, since, deeds_in, letter_for}
use Rattle.cert_sched.specs.Rolling.{refilled}
use Rattle.cert_sched.specs.Legal.{IsLegalBy, Stands}
use Rattle.cert_sched.proofs.LogLaws.{IsLegal-snoc}
use Rattle.cert_sched.proofs.Induction.{legal_induction}
use Rattle.cert_sched.proofs.RecordLaws.{since-snoc}
use Rattle.cert_sched.proofs.BornLaws.{child_absent}
use Rattle.cert_sched.proofs.ReplayLaws.{replays_on, replays_counts, replays_forked, all_delivered-is}
use Rattle.cert_sched.proofs.ForkLaws.{forked, forked_on, forked_all_delivered, forked_once}
use Rattle.cert_sched.proofs.CameLaws.{IsStandingRule, Goes, Came, went_on, was_cut, was_born, came, same_of}
use Rattle.cert_sched.proofs.RollLaws.{Rolls, AllRoll, all_at_boot, all_more, two_apart, rolls_steps, refilled_more, goes_not_ended}
use Rattle.replay_laws.proofs.rolling.Bearing.{stands_made}
use Rattle.replay_laws.proofs.rolling.BirthStates.{birth_state, birth_state-snoc, birth_state-kept, born_there}
use Rattle.replay_laws.proofs.rolling.BornLists.{AllApart, apart_more, same_states, state_there}
use Rattle.replay_laws.proofs.rolling.Entries.{quiet_of, same_start}
use Rattle.replay_laws.proofs.rolling.ForkedPids.{forked_unborn}

itself : IsStandingRule Stands
itself system log e stands = stands

-- it leads from its start to where it is, and forks its children as they were born
pub record Bore (system : System) (log : List Entry) (p : Pid) (now : ProcState) : Type 0 where
  pub rolls : Rolls system log p now
  pub are : map Some (forked rolls.made (refilled log p rolls.start) (since log p)) ≡ map (birth_state system log) (births_in (since log p))
  pub apart : AllApart (births_in (since log p))

-- one that has done nothing since has forked none
bore_nothing : (system : System) (log : List Entry) (p : Pid) (now : ProcState) → Rolls system log p now → since log p ≡ [] → Bore system log p now
bore_nothing system log p now r none = record {
  rolls = r;
  are = ap (map Some) (forked_unborn r.made (refilled log p r.start) now (since log p) r.replays (ap births_in none)) ∙ sym (ap (λ ds. map (birth_state system log) (births_in ds)) none);
  apart = subst (λ ds. AllApart (births_in ds)) (sym none) tt;
}

module _ (system : System) (log : List Entry) (e : Entry) (p : Pid) (legal : IsLegalBy Stands system log) (stands : Stands system log e) where
  bore_anew : (now : ProcState) → Rolls system (log ++ e ∷ []) p now → starts p e ≡ true → Bore system (log ++ e ∷ []) p now
  bore_anew now r starting = bore_nothing system (log ++ e ∷ []) p now r (since-snoc log e p ∙ ap (λ b. cond b [] (since log p ++ deeds_in p (what e))) starting)

  -- ---- what the entry itself bears

  -- it tells of no child of the process; or of one, which was not there, and is as the process forks it
  data Adds (was now : ProcState) (g : Goes p (what e) was now) : Type 0 where
    adds_none : births_in (deeds_in p (what e)) ≡ [] → Adds was now g
    adds_one : (child : Pid) (born : ProcState) → births_in (deeds_in p (what e)) ≡ child ∷ [] → forked g.made was (deeds_in p (what e)) ≡ born ∷ [] → birth_state system (log ++ e ∷ []) child ≡ Some born → process_after system log child ≡ None → Adds was now g

  adds_birth : (at : ℕ) (child : Pid) (end : ℕ) (was now : ProcState) (g : Goes p (what e) was now) → what e ≡ Birth p at child end → process_after system log p ≡ Some was → process_after system (log ++ e ∷ []) p ≡ Some now → Adds was now g
  adds_birth at child end was now g is here there =
      let b = stands_made system log e p at child end stands is in
      let deeds : deeds_in p (what e) ≡ Bears child ∷ [] = ap (deeds_in p) is ∙ ap (λ (x : Bool). cond x (Bears child ∷ []) []) (eq-eqb p.0 p.0 refl) in
      let from : was ≡ b.was = same_Some was b.was (sym here ∙ b.there) in
      let to : now ≡ fork_parent b.before child = same_Some now (fork_parent b.before child) (sym there ∙ b.parent_is) in
      let its = (replays_counts (b.made + 1) b.was (fork_parent b.before child) (Bears child ∷ []) (replays_forked b.made b.was b.before child b.forks)).steps in
      let goes = (replays_counts g.made was g.to (deeds_in p (what e)) g.replays).steps in
      let arrives : (now.small).steps ≡ ((g.to).small).steps = ap (λ (s : ProcState). (s.small).steps) (g.arrives ∙ all_delivered-is g.to (letter_for p (what e))) in
      let first : (was.small).steps ≡ ((b.was).small).steps = ap (λ (s : ProcState). (s.small).steps) from in
      let last : (now.small).steps ≡ ((fork_parent b.before child).small).steps = ap (λ (s : ProcState). (s.small).steps) to in
      let made : g.made ≡ b.made + 1 = omega (arith, its, goes, arrives, first, last) in
      adds_one child (fork_child b.before child) (ap births_in deeds)
      ((λ i. forked (made i) (from i) (deeds i)) ∙ forked_once b.made b.was b.before child b.forks)
      (birth_state-snoc system log e child ∙ ap (λ x. cond x (process_after system (log ++ e ∷ []) child) (birth_state system log child)) (ap (is_birth_of child) is ∙ eq-eqb child.0 child.0 refl) ∙ b.child_is)
      (child_absent system log e p at child end is stands.applies)

  adds : (was now : ProcState) (g : Goes p (what e) was now) → process_after system log p ≡ Some was → process_after system (log ++ e ∷ []) p ≡ Some now → Adds was now g
  adds was now g here there = by_what (what e) refl
    where
      by_parent : (parent : Pid) (at : ℕ) (child : Pid) (end : ℕ) → what e ≡ Birth parent at child end → (b : Bool) → same_pid parent p ≡ b → Adds was now g
      by_parent parent at child end is true same = adds_birth at child end was now g (is ∙ ap (λ q. Birth q at child end) (same_of parent p same)) here there
      by_parent parent at child end is false other = adds_none (ap (λ w. births_in (deeds_in p w)) is ∙ ap (λ (x : Bool). births_in (cond x (Bears child ∷ []) [])) other)

      sent : (m : Deed) → births_in (m ∷ []) ≡ [] → (b : Bool) → births_in (cond b (m ∷ []) []) ≡ []
      sent m none true = none
      sent m none false = refl

      by_what : (w : What) → what e ≡ w → Adds was now g
      by_what (Birth parent at child end) is = by_parent parent at child end is (same_pid parent p) refl
      by_what (Mail at letter) is = adds_none (ap (λ w. births_in (deeds_in p w)) is ∙ sent (Sends (Sent letter)) refl (same_pid letter.from p))
      by_what (Exit q at end) is = adds_none (ap (λ w. births_in (deeds_in p w)) is ∙ sent (Sends (Ended end)) refl (same_pid q p))
      by_what _ is = adds_none (ap (λ w. births_in (deeds_in p w)) is)

  -- as they were born
  adds_are : (was now : ProcState) (g : Goes p (what e) was now) → Adds was now g → map Some (forked g.made was (deeds_in p (what e))) ≡ map (birth_state system (log ++ e ∷ [])) (births_in (deeds_in p (what e)))
  adds_are was now g (adds_none none) = ap (map Some) (forked_unborn g.made was g.to (deeds_in p (what e)) g.replays none) ∙ sym (ap (map (birth_state system (log ++ e ∷ []))) none)
  adds_are was now g (adds_one child born births forks state absent) = ap (map Some) forks ∙ ap (λ (o : Option ProcState). o ∷ []) (sym state) ∙ sym (ap (map (birth_state system (log ++ e ∷ []))) births)

  -- ---- where it goes on

  module _ (was now : ProcState) (here : process_after system log p ≡ Some was) (there : process_after system (log ++ e ∷ []) p ≡ Some now) (no_cut : is_cut p (what e) ≡ false) (unborn : is_birth_of p (what e) ≡ false) (g : Goes p (what e) was now)
      (before : Bore system log p was) (after : Rolls system (log ++ e ∷ []) p now) where
    quiet : starts p e ≡ false
    quiet = quiet_of system log e p no_cut unborn

    deeds : since (log ++ e ∷ []) p ≡ since log p ++ deeds_in p (what e)
    deeds = since-snoc log e p ∙ ap (λ b. cond b [] (since log p ++ deeds_in p (what e))) quiet

    births : births_in (since (log ++ e ∷ []) p) ≡ births_in (since log p) ++ births_in (deeds_in p (what e))
    births = ap births_in deeds ∙ flat_map-append child_in (since log p) (deeds_in p (what e))

    start : after.start ≡ (before.rolls).start
    start = same_Some after.start (before.rolls).start (sym after.started ∙ same_start system log e p quiet ∙ (before.rolls).started)

    made : after.made ≡ (before.rolls).made + g.made
    made =
        let all = rolls_steps system (log ++ e ∷ []) p now after in
        let first = rolls_steps system log p was before.rolls in
        let goes = (replays_counts g.made was g.to (deeds_in p (what e)) g.replays).steps in
        let arrives : (now.small).steps ≡ ((g.to).small).steps = ap (λ (s : ProcState). (s.small).steps) (g.arrives ∙ all_delivered-is g.to (letter_for p (what e))) in
        let same : ((after.start).small).steps ≡ (((before.rolls).start).small).steps = ap (λ (s : ProcState). (s.small).steps) start in
        omega (arith, all, first, goes, arrives, same)

    from : refilled (log ++ e ∷ []) p after.start ≡ all_delivered (refilled log p (before.rolls).start) (letter_for p (what e))
    from = ap (refilled (log ++ e ∷ []) p) start ∙ sym (refilled_more system log e p (before.rolls).start quiet unborn (before.rolls).arrived)

    forks : forked after.made (refilled (log ++ e ∷ []) p after.start) (since (log ++ e ∷ []) p) ≡ forked (before.rolls).made (refilled log p (before.rolls).start) (since log p) ++ forked g.made was (deeds_in p (what e))
    forks =
        (λ i. forked (made i) (from i) (deeds i))
        ∙ forked_all_delivered ((before.rolls).made + g.made) (refilled log p (before.rolls).start) g.to (since log p ++ deeds_in p (what e)) (letter_for p (what e))
        (replays_on (before.rolls).made g.made (refilled log p (before.rolls).start) was g.to (since log p) (deeds_in p (what e)) (before.rolls).replays g.replays)
        ∙ forked_on (before.rolls).made g.made (refilled log p (before.rolls).start) was (since log p) (deeds_in p (what e)) (before.rolls).replays

    -- the earlier children are as they were
    kept : map (birth_state system (log ++ e ∷ [])) (births_in (since log p)) ≡ map (birth_state system log) (births_in (since log p))
    kept =
        same_states (birth_state system log) (birth_state system (log ++ e ∷ [])) (forked (before.rolls).made (refilled log p (before.rolls).start) (since log p)) (births_in (since log p)) before.are
        (λ c x is. birth_state-kept Stands itself system log e c x legal stands is)

    -- and a new one is none of them
    new_apart : Adds was now g → AllApart (births_in (since log p) ++ births_in (deeds_in p (what e)))
    new_apart (adds_none none) = subst AllApart (sym (ap (λ bs. births_in (since log p) ++ bs) none ∙ append-nil (births_in (since log p)))) before.apart
    new_apart (adds_one child born one _ state absent) =
        subst AllApart (ap (λ bs. births_in (since log p) ++ bs) (sym one)) (apart_more (births_in (since log p)) child before.apart (by_test (list_any (same_pid child) (births_in (since log p))) refl))
      where
        by_test : (b : Bool) → list_any (same_pid child) (births_in (since log p)) ≡ b → b ≡ false
        by_test true among =
            absurd (true≢false (sym (born_there Stands itself system log child legal
            (state_there (birth_state system log) (forked (before.rolls).made (refilled log p (before.rolls).start) (since log p)) (births_in (since log p)) child before.are among)) ∙ ap is_some absent))
        by_test false none = refl

    bore_more : Bore system (log ++ e ∷ []) p now
    bore_more =
        let more = adds was now g here there in
        let one = forked (before.rolls).made (refilled log p (before.rolls).start) (since log p) in
        let two = forked g.made was (deeds_in p (what e)) in
        record {
          rolls = after;
          are =
              ap (map Some) forks ∙ map-append Some one two ∙ (λ i. before.are i ++ adds_are was now g more i) ∙ ap (λ os. os ++ map (birth_state system (log ++ e ∷ [])) (births_in (deeds_in p (what e)))) (sym kept)
              ∙ sym (map-append (birth_state system (log ++ e ∷ [])) (births_in (since log p)) (births_in (deeds_in p (what e)))) ∙ sym (ap (map (birth_state system (log ++ e ∷ []))) births);
          apart = subst AllApart (sym births) (new_apart more);
        }

  or_true : (b : Bool) → (b || true) ≡ true
  or_true true = refl
  or_true false = refl

  bore_next : (now : ProcState) → process_after system (log ++ e ∷ []) p ≡ Some now → has_ended (now.small).status ≡ false → Rolls system (log ++ e ∷ []) p now → Came system log (what e) p now
      → ((was : ProcState) → process_after system log p ≡ Some was → has_ended (was.small).status ≡ false → Bore system log p was) → Bore system (log ++ e ∷ []) p now
  bore_next now there goes_on after (went_on was here unborn g) before = by_cut (is_cut p (what e)) refl
    where
      by_cut : (b : Bool) → is_cut p (what e) ≡ b → Bore system (log ++ e ∷ []) p now
      by_cut true cut = bore_anew now after (ap (λ b. b || is_birth_of p (what e)) cut)
      by_cut false no_cut = bore_more was now here there no_cut unborn g (before was here (goes_not_ended system log e p (what e) was now g goes_on)) after
  bore_next now there goes_on after (was_cut was here open_still cut same) before = bore_anew now after (ap (λ b. b || is_birth_of p (what e)) cut)
  bore_next now there goes_on after (was_born birth none) before = bore_anew now after (ap (λ b. is_cut p (what e) || b) birth ∙ or_true (is_cut p (what e)))

-- ---- in a legal log

AllBore : System → List Entry → Type 0
AllBore system log = (p : Pid) (now : ProcState) → process_after system log p ≡ Some now → has_ended (now.small).status ≡ false → Bore system log p now

record Whole (system : System) (log : List Entry) : Type 0 where
  pub legal : IsLegalBy Stands system log
  pub all : AllRoll system log
  pub bore : AllBore system log

at_boot : (system : System) → is_system system ≡ true → Whole system []
unfolding IsLegalBy AllBore
at_boot system valid = record {
  legal = tt;
  all = all_at_boot system valid;
  bore = λ p now there goes_on. bore_nothing system [] p now ((all_at_boot system valid).rolls p now there goes_on) refl;
}

whole_more : (system : System) (log : List Entry) (e : Entry) → Whole system log → Stands system log e → Whole system (log ++ e ∷ [])
unfolding AllBore
whole_more system log e whole stands =
    let all = all_more system log e whole.all stands in
    record {
      legal = IsLegal-snoc Stands system log e whole.legal stands;
      all = all;
      bore = λ p now there goes_on.
          bore_next system log e p whole.legal stands now there goes_on (all.rolls p now there goes_on) (came system log e stands (two_apart system log whole.all) p now there goes_on) (whole.bore p);
    }

pub all_bore : (May : System → List Entry → Entry → Type 0) → IsStandingRule May → (system : System) (log : List Entry) (p : Pid) (now : ProcState) → is_system system ≡ true → IsLegalBy May system log
    → process_after system log p ≡ Some now → has_ended (now.small).status ≡ false → Bore system log p now
unfolding AllBore
all_bore May standing system log p now valid legal = (legal_induction May system (Whole system) (at_boot system valid) (λ log e whole may. whole_more system log e whole (standing system log e may)) log legal).bore p now
