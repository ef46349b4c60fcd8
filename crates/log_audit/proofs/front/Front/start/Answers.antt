use Rattle.std.proofs.Common.{refl}
use Rattle.log_audit.proofs.Fronts.{front_at_start}
use Rattle.log_audit.proofs.front.Front.start.Goals as goal

pub returns : goal.returns
returns c = front_at_start c.args.system.now _ c.in_ok-placement_at_boot.ensures refl refl
