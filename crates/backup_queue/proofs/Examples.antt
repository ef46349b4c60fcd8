-- Small lists, by which the definitions can be compared with their comments.
use Rattle.std.proofs.Common.{◌≡◌, ℕ, [], ◌∷◌, refl}
use Rattle.t32_base.specs.declared.letter.Arrived.{Arrived}
use Rattle.t32_base.specs.declared.letter.Letter.{Letter}
use Rattle.backup_queue.specs.Queue.{saved_with, unread}

abbrev numbered : Letter → ℕ → Arrived
numbered letter number = record { number = number; letter = letter }

-- The letters 5 and 3 were read; 4 and 6 stay, in their order.
two_read : (l : Letter) → unread (5 ∷ 3 ∷ []) (numbered l 3 ∷ numbered l 4 ∷ numbered l 5 ∷ numbered l 6 ∷ []) ≡ numbered l 4 ∷ numbered l 6 ∷ []
two_read l = refl

-- Numbers that no letter has drop none.
none_read : (l : Letter) → unread (2 ∷ 7 ∷ []) (numbered l 3 ∷ numbered l 4 ∷ []) ≡ numbered l 3 ∷ numbered l 4 ∷ []
none_read l = refl

-- A letter is saved behind the others.
last_saved : (k l : Letter) → saved_with (numbered k 3 ∷ []) l 4 ≡ numbered k 3 ∷ numbered l 4 ∷ []
last_saved k l = refl
