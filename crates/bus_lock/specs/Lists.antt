-- Numbers of seats, entries by their authors, and lists within lists.
use Rattle.std.specs.Prelude.{◌≡◌, ℕ, zero, suc, ◌⊎◌, Bool, false, cond, leb, List, [], ◌∷◌, length, filter, ◌==◌, Option, Some, None}

-- The number stands among these.
abbrev pub Holds : ℕ → List ℕ → Type 0
Holds number [] = ⊥
Holds number (first ∷ others) = (number ≡ first) ⊎ Holds number others

-- So many numbers, from the first one on.
abbrev pub numbers_from : ℕ → ℕ → List ℕ
numbers_from first zero = []
numbers_from first (suc count) = first ∷ numbers_from (suc first) count

-- The author of an entry is this number.
abbrev pub is_author : ℕ → Option ℕ → Bool
is_author number None = false
is_author number (Some name) = number == name

-- The entries of a list whose author is this number, in order.
abbrev pub entries_by : {Entry : Type 0} → (Entry → Option ℕ) → ℕ → List Entry → List Entry
entries_by author number log = filter (λ entry. is_author number (author entry)) log

-- A seat of this name may add the entry: it has no author, or this one.
abbrev pub MayAdd : {Entry : Type 0} → (Entry → Option ℕ) → ℕ → Entry → Type 0
MayAdd author name entry = (author entry ≡ None) ⊎ (author entry ≡ Some name)

-- The first list is made from the second by leaving entries out.
abbrev pub IsWithin : {Entry : Type 0} → List Entry → List Entry → Type 0
IsWithin [] log = Unit {0}
IsWithin (x ∷ xs) [] = ⊥
IsWithin (x ∷ xs) (y ∷ ys) = ((x ≡ y) × IsWithin xs ys) ⊎ IsWithin (x ∷ xs) ys

-- The longer of two lists, and the second where they are equally long.
abbrev pub longer : {Entry : Type 0} → List Entry → List Entry → List Entry
longer xs ys = cond (leb (length xs) (length ys)) ys xs
