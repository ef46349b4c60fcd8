use Rattle.plain_kernel.proofs.Forked.{put_back, split_there, there_to_fork}
use Rattle.plain_kernel.proofs.births.fork_at.Goals as goal

pub small_at-before-requires : goal.small_at-before-requires
small_at-before-requires c = there_to_fork c.args.processes.now.entries c.args.pid c.requires.forks

pub restore-requires : goal.restore-requires
restore-requires c = split_there c.args.processes.now.entries c.split_at.new.processes.entries c.insert.new.self.entries c.args.pid c.args.child c.in_ok-made.made c.in_ok-made.ensures c.in-Err.ensures.err

pub returns-in-Ok-clause-ok : goal.returns-in-Ok-clause-ok
returns-in-Ok-clause-ok c = record { made = c.in_ok-made.made; between = c.split_at.new.processes.entries; splits = c.in_ok-made.ensures; entries = c.in-Ok.ensures.entries }

pub returns-clause-err : goal.returns-clause-err
returns-clause-err c =
    put_back c.args.processes.now.entries c.split_at.new.processes.entries c.insert.new.self.entries _ c.args.pid c.args.child c.in_ok-made.made c.small_at-before.result c.in_ok-made.ensures c.in-Err.ensures.err c.small_at-before.ensures c.restore.ensures
