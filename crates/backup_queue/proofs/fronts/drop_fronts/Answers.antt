use Rattle.std.proofs.Common.{◌∙◌, sym, arith}
use Rattle.backup_queue.proofs.FrontLaws.{all_unread}
use Rattle.backup_queue.proofs.fronts.drop_fronts.Goals as goal

pub returns : goal.returns
returns c =
    let drops = c.loop-end.invariant.drops in
    let left = sym (all_unread c.args.read.now (c.loop-end.saved).letters (drops.ends c.requires.ends) (λ end within. c.loop-end.invariant.none end (omega (arith, within, c.loop-end-test.false)))) ∙ drops.left in
    λ i. record { letters = left i; next = drops.next i }
