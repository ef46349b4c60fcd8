use Rattle.std.proofs.Common.{ℕ, ◌==◌}
use Rattle.backup_queue.proofs.PlaceLaws.{any_behind, any_before}
use Rattle.backup_queue.proofs.fronts.place_of.Goals as goal

pub returns-in-Some-clause-found : goal.returns-in-Some-clause-found
returns-in-Some-clause-found c =
    any_behind (λ (n : ℕ). n == c.args.number) c.args.from c.args.read.now c.position_in.result c.in-Some.ahead c.position_in.ensures c.in-Some.is

pub returns-in-None-clause-found : goal.returns-in-None-clause-found
returns-in-None-clause-found c =
    any_before (λ (n : ℕ). n == c.args.number) c.args.from c.args.read.now c.position_in.result c.position_in-in-None.result c.position_in.ensures c.in-None.is c.position_in-in-None.ensures
