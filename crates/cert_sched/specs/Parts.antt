-- Words on lists that the definitions over a log share.
use Rattle.std.specs.Prelude.{ℕ, Bool, nat_lt, if◌then◌else◌, List, [], ◌∷◌, Option, Some, None}
use Rattle.std.specs.List.{list_any}

-- the part up to and with the last element that passes; nothing where none does
abbrev pub upto_last : {X : Type 0} → (X → Bool) → List X → List X
upto_last test [] = []
upto_last test (x ∷ xs) = if list_any test xs then x ∷ upto_last test xs else if test x then x ∷ [] else []

-- the part after the last element that passes; all of it where none does
abbrev pub after_last : {X : Type 0} → (X → Bool) → List X → List X
after_last test [] = []
after_last test (x ∷ xs) = if list_any test xs then after_last test xs else if test x then xs else x ∷ xs

-- the last element that passes
abbrev pub last_that : {X : Type 0} → (X → Bool) → List X → Option X
last_that test [] = None
last_that test (x ∷ xs) = if list_any test xs then last_that test xs else if test x then Some x else None

-- the first element
abbrev pub first_of : {X : Type 0} → List X → Option X
first_of [] = None
first_of (x ∷ xs) = Some x

-- the last element
abbrev pub last_of : {X : Type 0} → List X → Option X
last_of [] = None
last_of (x ∷ []) = Some x
last_of (x ∷ y ∷ xs) = last_of (y ∷ xs)

-- a number put in its place among rising numbers, and numbers in rising order
abbrev pub put_rising : ℕ → List ℕ → List ℕ
put_rising n [] = n ∷ []
put_rising n (m ∷ ms) = if nat_lt n m then n ∷ m ∷ ms else m ∷ put_rising n ms

abbrev pub rising : List ℕ → List ℕ
rising [] = []
rising (n ∷ ns) = put_rising n (rising ns)

-- the part before the last element
abbrev pub before_end : {X : Type 0} → List X → List X
before_end [] = []
before_end (x ∷ []) = []
before_end (x ∷ y ∷ xs) = x ∷ before_end (y ∷ xs)
