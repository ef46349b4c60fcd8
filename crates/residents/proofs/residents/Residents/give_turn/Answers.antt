use Rattle.std.proofs.Common.{sym, ◌∙◌}
use Rattle.plain_kernel.specs.Maps.{pid_of}
use Rattle.residents.proofs.ChildFirst.{free_runs}
use Rattle.residents.proofs.residents.Residents.give_turn.Goals as goal

pub synchronise-requires : goal.synchronise-requires
synchronise-requires c = free_runs c.args.self.now.duty c.args.family.now c.args.self.now.here (pid_of c.args.pid) c.in-Some.child c.requires.free (sym c.child_before.ensures ∙ c.in-Some.is)
