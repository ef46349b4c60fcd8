use Rattle.std.proofs.Common.{◌≡◌, ◌≢◌, ℕ, suc, false, not, ◌||◌, cond, List, [], ◌∷◌, refl, sym, ap, arith, eqb, All}
use Rattle.std.specs.List.{list_any, AllPairs}
use Rattle.std.proofs.lemmas.List.Elements.{All-head, All-tail}
use Rattle.std.proofs.lemmas.Bool.Decides.{nat_tests}
use Rattle.t32_base.specs.declared.letter.Arrived.{Arrived}
use Rattle.backup_queue.specs.Queue.{is_unread, unread}

-- Where nothing was read, all letters are kept.
pub unread-nothing : (saved : List Arrived) → unread [] saved ≡ saved
unread-nothing [] = refl
unread-nothing (arrived ∷ rest) = ap (λ kept. arrived ∷ kept) (unread-nothing rest)

-- ---- dropping by numbers what does not pass a test

abbrev pub NumbersDiffer : Arrived → Arrived → Type 0
NumbersDiffer a b = a.number ≢ b.number

pub pairs_head : (a : Arrived) (rest : List Arrived) → AllPairs NumbersDiffer (a ∷ rest) → All (NumbersDiffer a) rest
pairs_head a rest pairs = λ k d h. pairs 0 (suc k) d (omega arith) (omega arith)

pub pairs_tail : (a : Arrived) (rest : List Arrived) → AllPairs NumbersDiffer (a ∷ rest) → AllPairs NumbersDiffer rest
pairs_tail a rest pairs = λ i j d below within. pairs (suc i) (suc j) d (omega arith) (omega arith)

differs : (m n : ℕ) → (n ≡ m → ⊥) → eqb m n ≡ false
differs m n other = grind (arith, nat_tests)

-- to have read a number that no letter has drops nothing more
pub another_number : (n : ℕ) (read : List ℕ) (saved : List Arrived) → All (λ (a : Arrived). n ≢ a.number) saved → unread (n ∷ read) saved ≡ unread read saved
another_number n read [] h = refl
another_number n read (a ∷ rest) h =
    let here : is_unread (n ∷ read) a ≡ is_unread read a =
    ap (λ v. not (v || list_any (λ k. eqb k a.number) read)) (differs n a.number (λ e. All-head (λ (x : Arrived). n ≢ x.number) a rest h (sym e))) in
    let others : unread (n ∷ read) rest ≡ unread read rest = another_number n read rest (All-tail (λ (x : Arrived). n ≢ x.number) a rest h) in
    λ i. cond (here i) (a ∷ others i) (others i)
