use Rattle.std.proofs.Common.{sym, arith}
use Rattle.plain_kernel.specs.Maps.{pid_of}
use Rattle.residents.proofs.RollingQuantum.{stands_now}
use Rattle.residents.proofs.residents.Residents.roll_part.Goals as goal

pub fork_again-requires-clause-can : goal.fork_again-requires-clause-can
fork_again-requires-clause-can c = stands_now c.args.most (pid_of c.args.pid) c.in_ok-made.made c.args.self.now.here c.roll_steps.new.self.here c.in_ok-made.ensures.ok (omega (arith, c.if-made-gt0.false)) (sym c.if-not-rolls.ensures.rolls) c.requires.forks
