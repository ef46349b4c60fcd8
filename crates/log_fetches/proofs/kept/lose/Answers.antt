use Rattle.std.proofs.Common.{ℕ, ◌+◌, ◌<◌, ◌∙◌, sym, refl, subst, length, take, arith}
use Rattle.std.proofs.Common.{BTreeMap}
use Rattle.bus_msg.specs.Places.{is_moved_by}
use Rattle.log_fetches.specs.declared.kept.Kept.{Kept}
use Rattle.log_fetches.specs.Kept.{ChangesAmong, begun_again}
use Rattle.log_fetches.proofs.Among.{among_next, among_none, none_beyond}
use Rattle.log_fetches.proofs.kept.lose.Goals as goal
use Rattle.log_fetches.proofs.kept.lose.Goals.{in-Some, in_default}

pub loop-index-init : goal.loop-index-init
loop-index-init c = among_none (is_moved_by c.args.k) begun_again (λ x. refl) c.args.kept.now.entries

pub loop-index-preserved : goal.loop-index-preserved
loop-index-preserved c =
    let placed = c.args.before.now.placed in
    let i = c.loop-index.index in
    let test = is_moved_by c.args.k in
    let within : i < length placed = omega (arith, c.loop-index-test.true, c.len-index-end.ensures.number) in
    elim c.match-at.branch [
      | in-Some w ↦ (subst (λ (m : BTreeMap ℕ Kept). ChangesAmong test begun_again (take (i + 1) placed) c.args.kept.now.entries m.entries) (sym w.kept-is)
          (among_next test begun_again (λ x. refl) placed i w.in-Some.placed c.args.kept.now.entries c.loop-index.kept.entries w.lose_if_moved.new.kept.entries
          within (sym w.in-Some.is ∙ c.at.ensures) c.loop-index.invariant w.lose_if_moved.ensures))
      | in_default w ↦ absurd (none_beyond placed i within (sym w.in_default.is ∙ c.at.ensures))
    ]
