-- The search for the end at which the first letter waits, end by end.
use Rattle.std.proofs.Common.{◌≡◌, ℕ, zero, suc, ◌<◌, ◌≤◌, inl, inr, List, [], ◌∷◌, length, min, Bool, true, false, cond, slice_get, option_map, Option, None, Some, refl, ap, arith}
use Rattle.std.proofs.lemmas.Bool.{cases_lt}
use Rattle.t32_base.specs.declared.letter.Arrived.{Arrived}
use Rattle.t32_base.specs.declared.process.EndState.{EndState}
use Rattle.proc_state.specs.Ends.{is_linked_at}
use Rattle.proc_state.specs.Queues.{queue_of, waiting, first_number, IsEarliest, IsEarliestOfAll}

pub record IsLeastBelow (upto : ℕ) (ends : List EndState) (queues : List (List Arrived)) (e number : ℕ) : Type 0 where
  pub waits : waiting ends queues e ≡ Some number
  pub least : (j m : ℕ) → j < upto → waiting ends queues j ≡ Some m → number ≤ m

-- what is the best of the ends below a number
abbrev pub IsBestBelow : ℕ → List EndState → List (List Arrived) → Option (ℕ × ℕ) → Type 0
IsBestBelow upto ends queues None = (j : ℕ) → j < upto → waiting ends queues j ≡ None
IsBestBelow upto ends queues (Some best) = IsLeastBelow upto ends queues best.0 best.1

not_linked_at : (ends : List EndState) (j : ℕ) → length ends ≤ j → is_linked_at ends j ≡ false
not_linked_at [] j past = refl
not_linked_at (e ∷ rest) zero past = absurd (omega arith)
not_linked_at (e ∷ rest) (suc j) past = not_linked_at rest j (omega arith)

no_queue : (queues : List (List Arrived)) (j : ℕ) → length queues ≤ j → queue_of queues j ≡ []
no_queue [] j past = refl
no_queue (q ∷ rest) zero past = absurd (omega arith)
no_queue (q ∷ rest) (suc j) past = no_queue rest j (omega arith)

none_in : (queues : List (List Arrived)) (j : ℕ) (linked : Bool) → length queues ≤ j → cond linked (option_map (λ (a : Arrived). a.number) (slice_get (queue_of queues j) 0)) None ≡ None
none_in queues j false past = refl
none_in queues j true past = ap (λ (queue : List Arrived). option_map (λ (a : Arrived). a.number) (slice_get queue 0)) (no_queue queues j past)

-- numbers from 32 on are no ends, and without a queue no letter waits
none_waits : (ends : List EndState) (queues : List (List Arrived)) (j : ℕ) → min (length queues) (length ends) ≤ j → waiting ends queues j ≡ None
none_waits ends queues j past = elim (cases_lt j (length ends)) [
  | inl below ↦ none_in queues j (is_linked_at ends j) (omega (arith, past, below))
  | inr above ↦ ap (λ t. cond t (option_map (λ (a : Arrived). a.number) (slice_get (queue_of queues j) 0)) None) (not_linked_at ends j above)
]

pub none_of_all : (ends : List EndState) (queues : List (List Arrived)) (upto : ℕ) → min (length queues) (length ends) ≤ upto → IsBestBelow upto ends queues None
    → (j : ℕ) → waiting ends queues j ≡ None
none_of_all ends queues upto long none j = elim (cases_lt j upto) [ inl below ↦ none j below | inr past ↦ none_waits ends queues j (omega (arith, long, past)) ]

pub earliest_of_all : (ends : List EndState) (queues : List (List Arrived)) (upto e number : ℕ) → min (length queues) (length ends) ≤ upto → IsLeastBelow upto ends queues e number
    → IsEarliest ends queues e
earliest_of_all ends queues upto e number long found = record {
  number = number;
  waits = found.waits;
  least = λ j m waits. elim (cases_lt j upto) [
    | inl below ↦ found.least j m below waits
    | inr past ↦ let none = none_waits ends queues j (omega (arith, long, past)) in cc
  ];
}

-- ---- at any end

pub record IsLeastOfAllBelow (upto : ℕ) (queues : List (List Arrived)) (e number : ℕ) : Type 0 where
  pub within : e < length queues
  pub waits : first_number queues e ≡ Some number
  pub least : (j m : ℕ) → j < upto → first_number queues j ≡ Some m → number ≤ m

-- what is the best of the ends below a number
abbrev pub IsBestOfAllBelow : ℕ → List (List Arrived) → Option (ℕ × ℕ) → Type 0
IsBestOfAllBelow upto queues None = (j : ℕ) → j < upto → first_number queues j ≡ None
IsBestOfAllBelow upto queues (Some best) = IsLeastOfAllBelow upto queues best.0 best.1

none_behind : (queues : List (List Arrived)) (j : ℕ) → length queues ≤ j → first_number queues j ≡ None
none_behind queues j past = ap (λ (queue : List Arrived). option_map (λ (a : Arrived). a.number) (slice_get queue 0)) (no_queue queues j past)

pub none_of_every : (queues : List (List Arrived)) (upto : ℕ) → length queues ≤ upto → IsBestOfAllBelow upto queues None → (j : ℕ) → first_number queues j ≡ None
none_of_every queues upto long none j = elim (cases_lt j upto) [ inl below ↦ none j below | inr past ↦ none_behind queues j (omega (arith, long, past)) ]

pub earliest_of_every : (queues : List (List Arrived)) (upto e number : ℕ) → length queues ≤ upto → IsLeastOfAllBelow upto queues e number → IsEarliestOfAll queues e
earliest_of_every queues upto e number long found = record {
  number = number;
  within = found.within;
  waits = found.waits;
  least = λ j m waits. elim (cases_lt j upto) [
    | inl below ↦ found.least j m below waits
    | inr past ↦ let none = none_behind queues j (omega (arith, long, past)) in cc
  ];
}
