-- What is said of the letters that were read depends only on which numbers were read, and it is that of the numbers that are in the mailbox no more.
use Rattle.std.proofs.Common.{◌≡◌, ℕ, ◌<◌, Bool, true, false, not, ◌&&◌, ◌||◌, cond, eqb, eqb-true, eq-eqb, ltb, refl, sym, ◌∙◌, ap, List, [], ◌∷◌, map, filter, All}
use Rattle.std.specs.List.{list_any}
use Rattle.std.proofs.lemmas.List.Elements.{All-nil, All-cons, All-head, All-tail, All-weaker}
use Rattle.t32_base.specs.declared.letter.Arrived.{Arrived}
use Rattle.proc_state.specs.Mail.{end_of, is_on}
use Rattle.backup_queue.specs.Queue.{is_unread, unread}
use Rattle.backup_queue.specs.Fronts.{NoneReadOn, AreFronts, AreOnEnds}
use Rattle.cert_sched.specs.Parts.{put_rising, rising}
use Rattle.cert_sched.specs.Steps.{numbers_read}
use Rattle.log_laws.specs.letters.ReadsFrom.{ReadsFrom}

-- a letter was read by one list of numbers where it was by the other
abbrev pub IsSame : List ℕ → List ℕ → Arrived → Type 0
IsSame xs ys a = is_unread xs a ≡ is_unread ys a

module _ (xs ys : List ℕ) where
  pub same_left : (saved : List Arrived) → All (IsSame xs ys) saved → unread xs saved ≡ unread ys saved
  same_left [] same = refl
  same_left (a ∷ rest) same =
      let here : is_unread xs a ≡ is_unread ys a = All-head (IsSame xs ys) a rest same in
      let more : unread xs rest ≡ unread ys rest = same_left rest (All-tail (IsSame xs ys) a rest same) in
      λ i. cond (here i) (a ∷ more i) (more i)

  same_none : (end : ℕ) (letters : List Arrived) → All (IsSame xs ys) letters → NoneReadOn xs end letters → NoneReadOn ys end letters
  same_none end [] same none = All-nil (λ (a : Arrived). is_on end a ≡ true → is_unread ys a ≡ true)
  same_none end (a ∷ rest) same none =
      let here : is_unread xs a ≡ is_unread ys a = All-head (IsSame xs ys) a rest same in
      All-cons (λ (a : Arrived). is_on end a ≡ true → is_unread ys a ≡ true) a rest
      (λ on. sym here ∙ All-head (λ (a : Arrived). is_on end a ≡ true → is_unread xs a ≡ true) a rest none on)
      (same_none end rest (All-tail (IsSame xs ys) a rest same) (All-tail (λ (a : Arrived). is_on end a ≡ true → is_unread xs a ≡ true) a rest none))

  pub same_fronts : (saved : List Arrived) → All (IsSame xs ys) saved → AreFronts xs saved → AreFronts ys saved
  same_fronts [] same fronts = tt
  same_fronts (a ∷ rest) same fronts =
      let here : is_unread xs a ≡ is_unread ys a = All-head (IsSame xs ys) a rest same in
      let behind : All (IsSame xs ys) rest = All-tail (IsSame xs ys) a rest same in
      (λ kept. same_none (end_of (a.letter).to) rest behind (fronts.0 (here ∙ kept)), same_fronts rest behind fronts.1)

  pub same_ends : (saved : List Arrived) → All (IsSame xs ys) saved → AreOnEnds xs saved → AreOnEnds ys saved
  same_ends [] same ends = All-nil (λ (a : Arrived). is_unread ys a ≡ false → end_of (a.letter).to < 32)
  same_ends (a ∷ rest) same ends =
      let here : is_unread xs a ≡ is_unread ys a = All-head (IsSame xs ys) a rest same in
      All-cons (λ (a : Arrived). is_unread ys a ≡ false → end_of (a.letter).to < 32) a rest
      (λ gone. All-head (λ (a : Arrived). is_unread xs a ≡ false → end_of (a.letter).to < 32) a rest ends (here ∙ gone))
      (same_ends rest (All-tail (IsSame xs ys) a rest same) (All-tail (λ (a : Arrived). is_unread xs a ≡ false → end_of (a.letter).to < 32) a rest ends))

-- ---- the numbers that are in the mailbox no more

-- a letter of the list has the number
abbrev has : ℕ → List Arrived → Bool
has n letters = list_any (λ (b : Arrived). eqb b.number n) letters

-- of the letters whose numbers pass one has a number where that passes and one of all has it
has_some : (test : ℕ → Bool) (n : ℕ) (letters : List Arrived) → has n (filter (λ (b : Arrived). test b.number) letters) ≡ (test n && has n letters)
has_some test n [] = by_test (test n)
  where
    by_test : (b : Bool) → false ≡ (b && false)
    by_test true = refl
    by_test false = refl
has_some test n (b ∷ rest) = by_tests (test b.number) (eqb b.number n) refl refl (has_some test n rest)
  where
    some : List Arrived
    some = filter (λ (b : Arrived). test b.number) rest

    or_none : (t r : Bool) → t ≡ false → (t && r) ≡ (t && true)
    or_none true r is = cc
    or_none false r is = refl

    by_tests : (passes here : Bool) → test b.number ≡ passes → eqb b.number n ≡ here → has n some ≡ (test n && has n rest)
        → has n (cond passes (b ∷ some) some) ≡ (test n && (here || has n rest))
    by_tests true true passes here more =
        ap (λ x. x || has n some) here ∙ sym (ap (λ t. t && true) (ap test (sym (eqb-true b.number n here)) ∙ passes))
    by_tests true false passes here more = ap (λ x. x || has n some) here ∙ more
    by_tests false true passes here more = more ∙ or_none (test n) (has n rest) (ap test (sym (eqb-true b.number n here)) ∙ passes)
    by_tests false false passes here more = more

-- each letter is among those of its list
each_has : (letters : List Arrived) → All (λ (a : Arrived). has a.number letters ≡ true) letters
each_has [] = All-nil (λ (a : Arrived). has a.number [] ≡ true)
each_has (a ∷ rest) =
    All-cons (λ (b : Arrived). has b.number (a ∷ rest) ≡ true) a rest (ap (λ x. x || has a.number rest) (eq-eqb a.number a.number refl))
    (All-weaker (λ (b : Arrived). has b.number rest ≡ true) (λ (b : Arrived). has b.number (a ∷ rest) ≡ true) (λ b there. ap (λ x. eqb a.number b.number || x) there ∙ or_true (eqb a.number b.number)) rest (each_has rest))
  where
    or_true : (x : Bool) → (x || true) ≡ true
    or_true true = refl
    or_true false = refl

any_number : (n : ℕ) (letters : List Arrived) → list_any (λ k. eqb k n) (map (λ (a : Arrived). a.number) letters) ≡ has n letters
any_number n [] = refl
any_number n (a ∷ rest) = ap (λ x. eqb a.number n || x) (any_number n rest)

-- Where the letters that were not read wait in the mailbox, those were read that are there no more.
pub same_gone : (read : List ℕ) (saved mail : List Arrived) → mail ≡ unread read saved → All (IsSame read (numbers_read saved mail)) saved
same_gone read saved mail left = All-weaker (λ (a : Arrived). has a.number saved ≡ true) (IsSame read (numbers_read saved mail)) each saved (each_has saved)
  where
    -- the number was not read
    fresh : ℕ → Bool
    fresh n = not (list_any (λ k. eqb k n) read)

    and_both : (x y : Bool) → y ≡ true → (x && y) ≡ x
    and_both true y is = is
    and_both false y is = refl

    twice : (x : Bool) → not (not x) ≡ x
    twice true = refl
    twice false = refl

    each : (a : Arrived) → has a.number saved ≡ true → is_unread read a ≡ is_unread (numbers_read saved mail) a
    each a there =
        let waits : has a.number mail ≡ fresh a.number = ap (has a.number) left ∙ has_some fresh a.number saved ∙ and_both (fresh a.number) (has a.number saved) there in
        let gone : list_any (λ k. eqb k a.number) (numbers_read saved mail) ≡ not (has a.number mail) =
        any_number a.number (filter (λ (x : Arrived). not (has x.number mail)) saved) ∙ has_some (λ n. not (has n mail)) a.number saved ∙ and_both (not (has a.number mail)) (has a.number saved) there in
        sym (ap not gone ∙ twice (has a.number mail) ∙ waits)

-- ---- in any order

module _ (p : ℕ → Bool) where
  any_put : (n : ℕ) (xs : List ℕ) → list_any p (put_rising n xs) ≡ (p n || list_any p xs)
  any_put n [] = refl
  any_put n (x ∷ xs) = by_test (ltb n x) (any_put n xs)
    where
      swapped : (a b c : Bool) → (b || (a || c)) ≡ (a || (b || c))
      swapped true true c = refl
      swapped true false c = refl
      swapped false b c = refl

      by_test : (b : Bool) → list_any p (put_rising n xs) ≡ (p n || list_any p xs) → list_any p (cond b (n ∷ x ∷ xs) (x ∷ put_rising n xs)) ≡ (p n || (p x || list_any p xs))
      by_test true more = refl
      by_test false more = ap (λ r. p x || r) more ∙ swapped (p n) (p x) (list_any p xs)

  any_rising : (xs : List ℕ) → list_any p (rising xs) ≡ list_any p xs
  any_rising [] = refl
  any_rising (x ∷ xs) = any_put x (rising xs) ∙ ap (λ r. p x || r) (any_rising xs)

-- numbers that rise to the same tell the same of each letter
pub same_risen : (read other : List ℕ) (saved : List Arrived) → rising read ≡ other → All (IsSame other read) saved
same_risen read other [] is = All-nil (IsSame other read)
same_risen read other (a ∷ rest) is =
    All-cons (IsSame other read) a rest (ap not (ap (list_any (λ k. eqb k a.number)) (sym is) ∙ any_rising (λ k. eqb k a.number) read)) (same_risen read other rest is)

module _ (read : List ℕ) (saved mail : List Arrived) (is : rising read ≡ numbers_read saved mail) (reads : ReadsFrom saved mail) where
  same : All (IsSame (numbers_read saved mail) read) saved
  same = same_risen read (numbers_read saved mail) saved is

  pub any_left : unread read saved ≡ mail
  any_left = sym (same_left (numbers_read saved mail) read saved same) ∙ sym reads.left

  pub any_fronts : AreFronts read saved
  any_fronts = same_fronts (numbers_read saved mail) read saved same reads.fronts

  pub any_ends : AreOnEnds read saved
  any_ends = same_ends (numbers_read saved mail) read saved same reads.ends
