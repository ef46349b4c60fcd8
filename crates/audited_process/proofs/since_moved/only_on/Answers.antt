use Rattle.std.proofs.Common.{Bool, subst, sym, true}
use Rattle.audited_process.specs.SinceMoved.{KeepsOnly}
use Rattle.audited_process.proofs.Paging.{only_moved}
use Rattle.audited_process.proofs.since_moved.only_on.Goals as goal

pub returns-then-moved : goal.returns-then-moved
returns-then-moved c = subst (λ (b : Bool). KeepsOnly c.args.pid b c.args.only true c.args.entry.now) (sym c.if-moved.true) (only_moved c.args.pid c.args.entry.now c.args.only)
