use Rattle.std.proofs.Common.{◌+◌, ◌<◌, ◌∙◌, sym, subst, length, take, arith}
use Rattle.page_accounts.specs.Noting.{Reverts}
use Rattle.page_accounts.proofs.Reverting.{none_beyond, reverts_next, reverts_none}
use Rattle.page_accounts.proofs.noting.revert_moved.Goals as goal
use Rattle.page_accounts.proofs.noting.revert_moved.Goals.{in-Some, in_default}

pub loop-index-init : goal.loop-index-init
loop-index-init g c = reverts_none c.args.k c.args.pager.now

pub loop-index-preserved : goal.loop-index-preserved
loop-index-preserved g c =
    let placed = c.args.before.now.placed in
    let i = c.loop-index.index in
    let within : i < length placed = omega (arith, c.loop-index-test.true, c.len-index-end.ensures.number) in
    elim c.match-at.branch [
      | in-Some w ↦ (subst (λ s. Reverts (take (i + 1) placed) c.args.k c.args.pager.now s) (sym w.pager-is)
          (reverts_next placed c.args.k i w.in-Some.placed c.args.pager.now c.loop-index.pager w.revert_if_moved.new.pager within (sym w.in-Some.is ∙ c.at.ensures) c.loop-index.invariant w.revert_if_moved.ensures))
      | in_default w ↦ absurd (none_beyond placed i within (sym w.in_default.is ∙ c.at.ensures))
    ]
