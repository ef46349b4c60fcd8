use Rattle.std.proofs.Common.{take}
use Rattle.page_accounts.specs.Noting.{Reverts}
use Rattle.page_accounts.proofs.noting.revert_moved.Given as goal

-- those before the index
abbrev pub invariant-loop-index : goal.invariant-loop-index
invariant-loop-index g l = Reverts (take l.index l.before.placed) l.k l.fn.pager l.pager
