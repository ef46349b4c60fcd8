use Rattle.std.proofs.Common.{◌≡◌, sym, subst, true, arith}
use Rattle.plain_kernel.specs.Maps.{pid_of}
use Rattle.residents.specs.Duty.{DutyView}
use Rattle.residents.specs.ChildrenFirst.{comes_after_at}
use Rattle.residents.proofs.RollingQuantum.{comes_as_before, none_rolled, runs_after, runs_still, runs_then}
use Rattle.residents.proofs.residents.Residents.run.Goals as goal

pub run_on-requires-clause-last : goal.run_on-requires-clause-last
run_on-requires-clause-last c = λ none comes. c.requires.last comes

pub run_on-requires-clause-waiting : goal.run_on-requires-clause-waiting
run_on-requires-clause-waiting c = λ some. absurd (omega (arith, some))

pub returns-then-not-rolls-clause-turn : goal.returns-then-not-rolls-clause-turn
returns-then-not-rolls-clause-turn c =
    let p = pid_of c.args.pid in
    let old = c.args.self.now.here in
    runs_after (c.args.self.now.duty).limits c.args.by c.args.childless p 0 old old (none_rolled p old (sym c.if-not-rolls.ensures.rolls)) c.run_on.new.self.here c.run_on.result c.run_on.ensures.turn

pub returns-then-rolls-clause-turn : goal.returns-then-rolls-clause-turn
returns-then-rolls-clause-turn c = runs_still (c.args.self.now.duty).limits c.args.by c.args.childless (pid_of c.args.pid) c.in_ok-made.made c.args.self.now.here c.roll.new.self.here c.in_ok-made.ensures.ok (sym c.if-rolls.ensures.rolls) c.rolls-2.ensures.ordered

pub run_on-requires-2-clause-last : goal.run_on-requires-2-clause-last
run_on-requires-2-clause-last c = λ none comes.
    let at = subst (λ (duty : DutyView). comes_after_at duty.limits c.roll.new.self.here (pid_of c.args.pid) ≡ true) c.in_ok-made.ensures.duty comes in
    c.requires.last (comes_as_before (c.args.self.now.duty).limits c.args.by c.args.childless (pid_of c.args.pid) c.in_ok-made.made c.args.self.now.here c.roll.new.self.here c.in_ok-made.ensures.ok none at)

pub run_on-requires-2-clause-waiting : goal.run_on-requires-2-clause-waiting
run_on-requires-2-clause-waiting c = λ some. runs_then (c.args.self.now.duty).limits c.args.by c.args.childless (pid_of c.args.pid) c.in_ok-made.made c.args.self.now.here c.roll.new.self.here c.in_ok-made.ensures.ok some (sym c.if-rolls.ensures.rolls)
