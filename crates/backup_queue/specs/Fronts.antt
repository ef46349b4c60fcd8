-- Letters that were read in the order in which a process reads: from the front of an end.
use Rattle.std.specs.Prelude.{ℕ, ◌≡◌, ◌<◌, true, false, List, [], ◌∷◌, All, ⊤}
use Rattle.t32_base.specs.declared.letter.Arrived.{Arrived}
use Rattle.proc_state.specs.Mail.{MailState, end_of, is_on}
use Rattle.backup_queue.specs.Queue.{is_unread, unread}

-- of these letters none that is for the end was read
abbrev pub NoneReadOn : List ℕ → ℕ → List Arrived → Type 0
NoneReadOn read end letters = All (λ arrived. is_on end arrived ≡ true → is_unread read arrived ≡ true) letters

-- behind a letter that was not read none for its end was read
abbrev pub AreFronts : List ℕ → List Arrived → Type 0
AreFronts read [] = ⊤
AreFronts read (arrived ∷ rest) = (is_unread read arrived ≡ true → NoneReadOn read (end_of (arrived.letter).to) rest) × AreFronts read rest

-- the letters that were read are for the 32 ends that a process has
abbrev pub AreOnEnds : List ℕ → List Arrived → Type 0
AreOnEnds read letters = All (λ arrived. is_unread read arrived ≡ false → end_of (arrived.letter).to < 32) letters

-- ---- what the taking of letters that were read, from the front of an end, leaves as it was

pub record Drops (read : List ℕ) (old new : MailState) : Type 0 where
  pub next : new.next ≡ old.next
  pub left : unread read new.letters ≡ unread read old.letters
  pub fronts : AreFronts read old.letters → AreFronts read new.letters
  pub ends : AreOnEnds read old.letters → AreOnEnds read new.letters
  pub none : (end : ℕ) → NoneReadOn read end old.letters → NoneReadOn read end new.letters
