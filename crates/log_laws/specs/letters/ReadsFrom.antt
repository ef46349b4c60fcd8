-- What a process has read of its saved letters.
use Rattle.std.specs.Prelude.{◌≡◌, List}
use Rattle.t32_base.specs.declared.letter.Arrived.{Arrived}
use Rattle.backup_queue.specs.Fronts.{AreFronts, AreOnEnds}
use Rattle.backup_queue.specs.Queue.{unread}
use Rattle.cert_sched.specs.Steps.{numbers_read}

-- Of these saved letters those wait in the mailbox that it has not read, in their order, and it read the others from the fronts of its 32 ends.
pub record ReadsFrom (saved mail : List Arrived) : Type 0 where
  pub left : mail ≡ unread (numbers_read saved mail) saved
  pub fronts : AreFronts (numbers_read saved mail) saved
  pub ends : AreOnEnds (numbers_read saved mail) saved
