-- How many letters a process has read: those that were saved and wait no more.
use Rattle.std.proofs.Common.{◌≡◌, ℕ, suc, ◌+◌, ◌-◌, refl, sym, ◌∙◌, ap, arith, List, [], ◌∷◌, map, length, Bool, true, false, cond, not, ◌&&◌, ◌||◌, eqb, eqb-true, eq-eqb, All}
use Rattle.std.specs.Prelude.{filter}
use Rattle.std.specs.List.{list_any}
use Rattle.std.proofs.lemmas.List.Elements.{All-nil, All-cons, All-head, All-tail, All-weaker}
use Rattle.t32_base.specs.declared.letter.Arrived.{Arrived}
use Rattle.backup_queue.specs.Queue.{is_unread, unread}
use Rattle.cert_sched.specs.Steps.{numbers_read}
use Rattle.log_laws.specs.letters.ReadsFrom.{ReadsFrom}

-- a letter of the list has the number
abbrev pub has : ℕ → List Arrived → Bool
has n letters = list_any (λ (a : Arrived). eqb a.number n) letters

abbrev pub numbers_of : List Arrived → List ℕ
numbers_of letters = map (λ (a : Arrived). a.number) letters

-- among the numbers of those that pass stands one that passes and that some letter has
pub any_passing : (test : ℕ → Bool) (n : ℕ) (letters : List Arrived) → list_any (λ k. eqb k n) (numbers_of (filter (λ (a : Arrived). test a.number) letters)) ≡ (test n && has n letters)
any_passing test n [] = by_test (test n)
  where
    by_test : (b : Bool) → false ≡ (b && false)
    by_test true = refl
    by_test false = refl
any_passing test n (a ∷ rest) = by_tests (test a.number) (eqb a.number n) refl refl (any_passing test n rest)
  where
    passing : List Arrived
    passing = filter (λ (a : Arrived). test a.number) rest

    or_none : (t r : Bool) → t ≡ false → (t && r) ≡ (t && true)
    or_none true r is = cc
    or_none false r is = refl

    by_tests : (passes here : Bool) → test a.number ≡ passes → eqb a.number n ≡ here → list_any (λ k. eqb k n) (numbers_of passing) ≡ (test n && has n rest)
        → list_any (λ k. eqb k n) (numbers_of (cond passes (a ∷ passing) passing)) ≡ (test n && (here || has n rest))
    by_tests true true passes here more =
        ap (λ x. x || list_any (λ k. eqb k n) (numbers_of passing)) here ∙ sym (ap (λ t. t && true) (ap test (sym (eqb-true a.number n here)) ∙ passes))
    by_tests true false passes here more = ap (λ x. x || list_any (λ k. eqb k n) (numbers_of passing)) here ∙ more
    by_tests false true passes here more = more ∙ or_none (test n) (has n rest) (ap test (sym (eqb-true a.number n here)) ∙ passes)
    by_tests false false passes here more = more

-- each letter is among those of its list
pub each_has : (letters : List Arrived) → All (λ (a : Arrived). has a.number letters ≡ true) letters
each_has [] = All-nil (λ (a : Arrived). has a.number [] ≡ true)
each_has (a ∷ rest) =
    All-cons (λ (b : Arrived). has b.number (a ∷ rest) ≡ true) a rest (ap (λ x. x || has a.number rest) (eq-eqb a.number a.number refl))
    (All-weaker (λ (b : Arrived). has b.number rest ≡ true) (λ (b : Arrived). has b.number (a ∷ rest) ≡ true) (λ b there. ap (λ x. eqb a.number b.number || x) there ∙ or_true (eqb a.number b.number)) rest (each_has rest))
  where
    or_true : (x : Bool) → (x || true) ≡ true
    or_true true = refl
    or_true false = refl

module _ (saved mail : List Arrived) where
  -- its number is in the mailbox no more
  abbrev gone : ℕ → Bool
  gone n = not (list_any (λ (b : Arrived). eqb b.number n) mail)

  abbrev read : List ℕ
  read = numbers_of (filter (λ (a : Arrived). gone a.number) saved)

  -- of letters that are saved each was read or was not
  parted : (letters : List Arrived) → All (λ (a : Arrived). has a.number saved ≡ true) letters → length (unread read letters) + length (filter (λ (a : Arrived). gone a.number) letters) ≡ length letters
  parted [] all = refl
  parted (a ∷ rest) all =
      let there : has a.number saved ≡ true = All-head (λ (a : Arrived). has a.number saved ≡ true) a rest all in
      let same : is_unread read a ≡ not (gone a.number && true) = ap not (any_passing gone a.number saved ∙ ap (λ b. gone a.number && b) there) in
      by_test (gone a.number) (is_unread read a) same (parted rest (All-tail (λ (a : Arrived). has a.number saved ≡ true) a rest all))
    where
      by_test : (b c : Bool) → c ≡ not (b && true) → length (unread read rest) + length (filter (λ (a : Arrived). gone a.number) rest) ≡ length rest
          → length (cond c (a ∷ unread read rest) (unread read rest)) + length (cond b (a ∷ filter (λ (a : Arrived). gone a.number) rest) (filter (λ (a : Arrived). gone a.number) rest)) ≡ suc (length rest)
      by_test true true is more = cc
      by_test true false is more = omega (arith, more)
      by_test false true is more = omega (arith, more)
      by_test false false is more = cc

map_length : (letters : List Arrived) → length (map (λ (a : Arrived). a.number) letters) ≡ length letters
map_length [] = refl
map_length (a ∷ rest) = ap suc (map_length rest)

-- as many letters were read as were saved and do not wait
pub reads_left : (saved mail : List Arrived) → ReadsFrom saved mail → length (numbers_read saved mail) ≡ length saved - length mail
reads_left saved mail from =
    let all = parted saved mail saved (each_has saved) in
    let left : length mail ≡ length (unread (read saved mail) saved) = ap length from.left in
    let counted : length (numbers_read saved mail) ≡ length (filter (λ (a : Arrived). gone saved mail a.number) saved) = map_length (filter (λ (a : Arrived). gone saved mail a.number) saved) in
    omega (arith, all, left, counted)
