-- The numbers of the letters that a process has read.
use Rattle.std.proofs.Common.{◌≡◌, ℕ, ◌+◌, ◌-◌, refl, sym, ◌∙◌, ap, arith, List, [], ◌∷◌, ◌++◌, length, Bool, true, false, cond, not, ◌&&◌, ◌||◌, eqb, ltb, eq-eqb, All}
use Rattle.std.specs.Prelude.{filter}
use Rattle.std.specs.List.{list_any, range_with_len}
use Rattle.std.proofs.lemmas.Bool.{and_from, and_parts}
use Rattle.std.proofs.lemmas.Bool.Decides.{nat_tests}
use Rattle.std.proofs.lemmas.List.Elements.{All-head, All-tail, All-weaker}
use Rattle.t32_base.specs.declared.letter.Arrived.{Arrived}
use Rattle.t32_base.specs.declared.letter.Letter.{Letter}
use Rattle.backup_queue.specs.Queue.{is_unread, unread}
use Rattle.cert_sched.specs.Parts.{put_rising, rising}
use Rattle.cert_sched.specs.Deeds.{numbered}
use Rattle.cert_sched.specs.Steps.{numbers_read}
use Rattle.log_laws.specs.letters.Numbered.{are_above, are_in_order}
use Rattle.log_laws.specs.letters.ReadsFrom.{ReadsFrom}
use Rattle.log_processes.proofs.ReadCounts.{any_passing, each_has, has}
use Rattle.log_cuts.specs.Numbers.{numbers_from, numbers_of, without}

-- ---- some of the letters, and the others

-- where all are above a number, so are some of them
some_above : (n : ℕ) (test : Arrived → Bool) (letters : List Arrived) → are_above n letters ≡ true → are_above n (filter test letters) ≡ true
some_above n test [] above = refl
some_above n test (a ∷ rest) above = by_test (test a) (and_parts (ltb n a.number) (are_above n rest) above) (some_above n test rest)
  where
    by_test : (b : Bool) → (ltb n a.number ≡ true) × (are_above n rest ≡ true) → (are_above n rest ≡ true → are_above n (filter test rest) ≡ true) → are_above n (cond b (a ∷ filter test rest) (filter test rest)) ≡ true
    by_test true parts more = and_from (ltb n a.number) (are_above n (filter test rest)) parts.0 (more parts.1)
    by_test false parts more = more parts.1

some_in_order : (test : Arrived → Bool) (letters : List Arrived) → are_in_order letters ≡ true → are_in_order (filter test letters) ≡ true
some_in_order test [] rises = refl
some_in_order test (a ∷ rest) rises = by_test (test a) (and_parts (are_above a.number rest) (are_in_order rest) rises) (some_in_order test rest)
  where
    by_test : (b : Bool) → (are_above a.number rest ≡ true) × (are_in_order rest ≡ true) → (are_in_order rest ≡ true → are_in_order (filter test rest) ≡ true) → are_in_order (cond b (a ∷ filter test rest) (filter test rest)) ≡ true
    by_test true parts more = and_from (are_above a.number (filter test rest)) (are_in_order (filter test rest)) (some_above a.number test rest parts.0) (more parts.1)
    by_test false parts more = more parts.1

-- a number below all of some stays
stays_first : (a : Arrived) (ns : List ℕ) (others : List Arrived) → are_above a.number others ≡ true → without (a.number ∷ ns) (numbers_of others) ≡ a.number ∷ without ns (numbers_of others)
stays_first a ns [] above = none ns
  where
    none : (ns : List ℕ) → a.number ∷ ns ≡ a.number ∷ without ns []
    none [] = refl
    none (n ∷ ns) = refl
stays_first a ns (b ∷ others) above = ap (λ x. cond x (without ns (numbers_of others)) (a.number ∷ without ns (numbers_of (b ∷ others)))) (apart a.number b.number (and_parts (ltb a.number b.number) (are_above a.number others) above).0)
  where
    apart : (m n : ℕ) → ltb m n ≡ true → eqb m n ≡ false
    apart m n less = grind (arith, nat_tests)

-- letters in order without some of them are the others
pub without_some : (test : Arrived → Bool) (letters : List Arrived) → are_in_order letters ≡ true → without (numbers_of letters) (numbers_of (filter test letters)) ≡ numbers_of (filter (λ (a : Arrived). not (test a)) letters)
without_some test [] rises = refl
without_some test (a ∷ rest) rises = by_test (test a) (and_parts (are_above a.number rest) (are_in_order rest) rises) (without_some test rest)
  where
    by_test : (b : Bool) → (are_above a.number rest ≡ true) × (are_in_order rest ≡ true)
        → (are_in_order rest ≡ true → without (numbers_of rest) (numbers_of (filter test rest)) ≡ numbers_of (filter (λ (a : Arrived). not (test a)) rest))
        → without (a.number ∷ numbers_of rest) (numbers_of (cond b (a ∷ filter test rest) (filter test rest))) ≡ numbers_of (cond (not b) (a ∷ filter (λ (a : Arrived). not (test a)) rest) (filter (λ (a : Arrived). not (test a)) rest))
    by_test true parts more = ap (λ x. cond x (without (numbers_of rest) (numbers_of (filter test rest))) (a.number ∷ without (numbers_of rest) (a.number ∷ numbers_of (filter test rest)))) (eq-eqb a.number a.number refl) ∙ more parts.1
    by_test false parts more = stays_first a (numbers_of rest) (filter test rest) (some_above a.number test rest parts.0) ∙ ap (λ ns. a.number ∷ ns) (more parts.1)

-- ---- those that it has read

has_number : (n : ℕ) (letters : List Arrived) → list_any (λ k. eqb k n) (numbers_of letters) ≡ has n letters
has_number n [] = refl
has_number n (a ∷ rest) = ap (λ b. eqb a.number n || b) (has_number n rest)

-- tests that agree on each of some let the same pass
same_pass : (t u : Arrived → Bool) (letters : List Arrived) → All (λ (a : Arrived). t a ≡ u a) letters → filter t letters ≡ filter u letters
same_pass t u [] all = refl
same_pass t u (a ∷ rest) all =
    ap (λ b. cond b (a ∷ filter t rest) (filter t rest)) (All-head (λ (a : Arrived). t a ≡ u a) a rest all) ∙ ap (λ xs. cond (u a) (a ∷ xs) xs) (same_pass t u rest (All-tail (λ (a : Arrived). t a ≡ u a) a rest all))

-- the saved letters without those that wait are those that it has read
pub read_left : (saved mail : List Arrived) → ReadsFrom saved mail → are_in_order saved ≡ true → without (numbers_of saved) (numbers_of mail) ≡ numbers_read saved mail
read_left saved mail from rises =
    ap (λ letters. without (numbers_of saved) (numbers_of letters)) from.left ∙ without_some (is_unread (numbers_read saved mail)) saved rises
    ∙ ap numbers_of (same_pass (λ (a : Arrived). not (waits a.number)) (λ (a : Arrived). not (has a.number mail)) saved
    (All-weaker (λ (a : Arrived). has a.number saved ≡ true) (λ (a : Arrived). not (waits a.number) ≡ not (has a.number mail)) agrees saved (each_has saved)))
  where
    waits : ℕ → Bool
    waits n = not (list_any (λ k. eqb k n) (numbers_read saved mail))

    and_true : (b : Bool) → (b && true) ≡ b
    and_true true = refl
    and_true false = refl

    agrees : (a : Arrived) → has a.number saved ≡ true → not (waits a.number) ≡ not (has a.number mail)
    agrees a there =
        sym (ap not (ap (has a.number) from.left ∙ sym (has_number a.number (unread (numbers_read saved mail) saved)) ∙ any_passing waits a.number saved ∙ ap (λ b. waits a.number && b) there ∙ and_true (waits a.number)))

-- ---- in rising order

put_first : (n : ℕ) (letters : List Arrived) → are_above n letters ≡ true → put_rising n (numbers_of letters) ≡ n ∷ numbers_of letters
put_first n [] above = refl
put_first n (a ∷ rest) above = ap (λ b. cond b (n ∷ a.number ∷ numbers_of rest) (a.number ∷ put_rising n (numbers_of rest))) (and_parts (ltb n a.number) (are_above n rest) above).0

rises : (letters : List Arrived) → are_in_order letters ≡ true → rising (numbers_of letters) ≡ numbers_of letters
rises [] in_order = refl
rises (a ∷ rest) in_order =
    let parts = and_parts (are_above a.number rest) (are_in_order rest) in_order in
    ap (put_rising a.number) (rises rest parts.1) ∙ put_first a.number rest parts.0

pub read_rises : (saved mail : List Arrived) → are_in_order saved ≡ true → rising (numbers_read saved mail) ≡ numbers_read saved mail
read_rises saved mail in_order =
    let read : Arrived → Bool = λ a. not (has a.number mail) in
    rises (filter read saved) (some_in_order read saved in_order)

-- ---- those that are saved

numbers_came : (n : ℕ) (letters : List Letter) → numbers_of (numbered n letters) ≡ range_with_len n (length letters)
numbers_came n [] = refl
numbers_came n (l ∷ letters) = ap (λ ns. n ∷ ns) (numbers_came (n + 1) letters)

pub numbers_saved : (mail : List Arrived) (n next : ℕ) (letters : List Letter) → next ≡ n + length letters → numbers_of (mail ++ numbered n letters) ≡ numbers_of mail ++ numbers_from n next
numbers_saved mail n next letters count =
    let more : length letters ≡ next - n = omega (arith, count) in
    split mail ∙ ap (λ ns. numbers_of mail ++ ns) (numbers_came n letters ∙ ap (range_with_len n) more)
  where
    split : (mail : List Arrived) → numbers_of (mail ++ numbered n letters) ≡ numbers_of mail ++ numbers_of (numbered n letters)
    split [] = refl
    split (a ∷ rest) = ap (λ ns. a.number ∷ ns) (split rest)
