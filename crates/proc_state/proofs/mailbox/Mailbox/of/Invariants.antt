use Rattle.std.proofs.Common.{◌≡◌, drop, take}
use Rattle.proc_state.specs.Mail.{RiseTo}
use Rattle.proc_state.proofs.mailbox.Mailbox.of.Given as goal

-- the letters so far are there, and the others have numbers from the next on
abbrev pub invariant-loop-arrived : goal.invariant-loop-arrived
invariant-loop-arrived l = (l.mail.letters ≡ take l.arrived-index l.letters) × RiseTo l.mail.next (drop l.arrived-index l.letters) l.next
