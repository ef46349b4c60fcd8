use Rattle.std.proofs.Common.{◌≡◌, ◌++◌, length}
use Rattle.proc_state.proofs.mailbox.Mailbox.listed.Given as goal

-- what was taken out and what is left are the letters
abbrev pub invariant-loop-arrived : goal.invariant-loop-arrived
invariant-loop-arrived l = l.letters.items ++ l.rest.letters ≡ l.self.letters

abbrev pub decreases-loop-arrived : goal.decreases-loop-arrived
decreases-loop-arrived l = length l.rest.letters
