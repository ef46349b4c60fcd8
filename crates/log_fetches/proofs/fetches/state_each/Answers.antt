use Rattle.std.proofs.Common.{ℕ, Bool, true, ◌+◌, ◌<◌, ◌∙◌, sym, refl, subst, length, take, arith, BTreeMap}
use Rattle.bus_msg.specs.declared.placed.Placed.{Placed}
use Rattle.log_fetches.specs.declared.kept.Kept.{Kept}
use Rattle.log_fetches.specs.Kept.{ChangesAmong, with_state}
use Rattle.log_fetches.proofs.Among.{among_next, among_none, among_one, none_beyond}
use Rattle.log_fetches.proofs.fetches.state_each.Goals as goal
use Rattle.log_fetches.proofs.fetches.state_each.Goals.{in-Some+in_ok-state, in_default}

pub loop-index-init : goal.loop-index-init
loop-index-init c = among_none (λ _. true) with_state (λ x. refl) c.args.kept.now.entries

pub loop-index-preserved : goal.loop-index-preserved
loop-index-preserved c =
    let placed = c.args.placed.now.placed in
    let i = c.loop-index.index in
    let test : Placed → Bool = λ _. true in
    let within : i < length placed = omega (arith, c.loop-index-test.true, c.len-index-end.ensures.number) in
    elim c.match-at.branch [
      | in-Some+in_ok-state w ↦ (subst (λ (m : BTreeMap ℕ Kept). ChangesAmong test with_state (take (i + 1) placed) c.args.kept.now.entries m.entries) (sym w.kept-is)
          (among_next test with_state (λ x. refl) placed i w.in-Some.root c.args.kept.now.entries c.loop-index.kept.entries w.state.new.kept.entries
          within (sym w.in-Some.is ∙ c.at.ensures) c.loop-index.invariant
          (among_one test with_state (λ x. refl) w.in-Some.root c.loop-index.kept.entries w.state.new.kept.entries refl w.in_ok-state.ensures)))
      | in_default w ↦ absurd (none_beyond placed i within (sym w.in_default.is ∙ c.at.ensures))
    ]
