use Rattle.std.proofs.Common.{◌≡◌, take}
use Rattle.proc_state.proofs.mailbox.Mailbox.copy.Given as goal

abbrev pub invariant-loop-index : goal.invariant-loop-index
invariant-loop-index l = l.queues.items ≡ take l.index l.self-inside.queues.items
