use Rattle.backup_laws.proofs.AwaitedFamilies.{child_awaited}
use Rattle.backup_laws.proofs.awaited.children_wait_with_their_parent.Goals as goal

pub returns : goal.returns
returns c = child_awaited
