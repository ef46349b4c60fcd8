use Rattle.std.proofs.Common.{◌≡◌, true, Option, arith, subst}
use Rattle.std.specs.Prelude.{IfSome}
use Rattle.std.specs.Option.{option_copied}
use Rattle.t32_base.specs.declared.letter.Arrived.{Arrived}
use Rattle.backup_queue.specs.Queue.{is_unread}
use Rattle.backup_queue.proofs.FrontLaws.{drops_first, drops_more, none_behind}
use Rattle.backup_queue.proofs.fronts.drop_on.Goals as goal

pub loop-place-smaller : goal.loop-place-smaller
loop-place-smaller c =
    (drops_first c.args.read.now c.args.end c.loop-place.saved c.take_on.new.self (option_copied c.first_on.result) c.first_on.ensures c.in-Some.ensures.none c.take_on.ensures.left).1

pub loop-place-preserved : goal.loop-place-preserved
loop-place-preserved c = record {
  within = omega (arith, c.in-Some.ensures.place);
  drops = drops_more c.args.read.now c.args.saved.now c.loop-place.saved c.take_on.new.self c.loop-place.invariant.drops
      (drops_first c.args.read.now c.args.end c.loop-place.saved c.take_on.new.self (option_copied c.first_on.result) c.first_on.ensures c.in-Some.ensures.none c.take_on.ensures.left).0;
}

pub returns-clause-none : goal.returns-clause-none
returns-clause-none c =
    let first = subst (λ (o : Option Arrived). IfSome o (λ a. is_unread c.args.read.now a ≡ true)) c.first_on.ensures c.in_default.ensures.none in
    none_behind c.args.read.now c.args.end (c.loop-place.saved).letters (c.loop-place.invariant.drops.fronts c.requires.fronts) first
