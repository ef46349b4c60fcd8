-- The first letter for an end that is linked.
use Rattle.std.proofs.Common.{◌≡◌, ◌≢◌, ℕ, ◌<◌, ◌≤◌, ◌⊎◌, inl, inr, Bool, true, false, cond, List, [], ◌∷◌, find, slice_get, Option, None, Some, MatchOption, option_map, refl, sym, ◌∙◌, ap, subst, arith, All, eqb-true, eq-eqb}
use Rattle.std.specs.List.{AllPairs}
use Rattle.std.proofs.lemmas.List.Elements.{All-nil, All-cons, All-head, All-weaker}
use Rattle.t32_base.specs.declared.letter.Arrived.{Arrived}
use Rattle.t32_base.specs.declared.process.EndState.{EndState}
use Rattle.proc_state.specs.Ends.{is_linked_at}
use Rattle.proc_state.specs.Mail.{end_of, is_on, is_on_linked, without_first}
use Rattle.proc_state.specs.Queues.{queue_of, in_order, IsOn, IsBefore, DiffersFrom, AreQueues, waiting, IsEarliest}
use Rattle.proc_state.proofs.QueueLaws.{pairs_head, AreApart, IsFirst, find-first, find-none, fails_everywhere}

abbrev pub end_of_letter : Arrived → ℕ
end_of_letter a = end_of (a.letter).to

-- ---- among the letters in order

find-cons : {X : Type 0} (p : X → Bool) (x y : X) (xs : List X) → find p (x ∷ xs) ≡ Some y → ((p x ≡ true) × (x ≡ y)) ⊎ ((p x ≡ false) × (find p xs ≡ Some y))
find-cons p x y xs = at (p x) refl
  where
    at : (t : Bool) → p x ≡ t → cond (p x) (Some x) (find p xs) ≡ Some y → ((p x ≡ true) × (x ≡ y)) ⊎ ((p x ≡ false) × (find p xs ≡ Some y))
    at true is found = let here : Some x ≡ Some y = ap (λ v. cond v (Some x) (find p xs)) (sym is) ∙ found in inl (is, cc)
    at false is found = inr (is, ap (λ v. cond v (Some x) (find p xs)) (sym is) ∙ found)

pub find_passes : {X : Type 0} (p : X → Bool) (xs : List X) (y : X) → find p xs ≡ Some y → p y ≡ true
find_passes p [] y found = cc
find_passes p (x ∷ xs) y found = elim (find-cons p x y xs found) [ inl here ↦ ap p (sym here.1) ∙ here.0 | inr later ↦ find_passes p xs y later.1 ]

-- another test, which the letter passes that is found, and no other that fails the first
abbrev pub IsStricter : {X : Type 0} → (X → Bool) → (X → Bool) → Type 0
IsStricter {X} p q = (x : X) → p x ≡ false → q x ≡ false

pub find_stricter : {X : Type 0} (p q : X → Bool) (xs : List X) (y : X) → IsStricter p q → q y ≡ true → find p xs ≡ Some y → find q xs ≡ Some y
find_stricter p q [] y stricter passes found = cc
find_stricter p q (x ∷ xs) y stricter passes found = elim (find-cons p x y xs found) [
  | inl here ↦ ap (λ v. cond v (Some x) (find q xs)) (ap q here.1 ∙ passes) ∙ ap Some here.1
  | inr later ↦ ap (λ v. cond v (Some x) (find q xs)) (stricter x later.0) ∙ find_stricter p q xs y stricter passes later.1
]

pub without_first_stricter : {X : Type 0} (p q : X → Bool) (xs : List X) (y : X) → IsStricter p q → q y ≡ true → find p xs ≡ Some y → without_first p xs ≡ without_first q xs
without_first_stricter p q [] y stricter passes found = refl
without_first_stricter p q (x ∷ xs) y stricter passes found = elim (find-cons p x y xs found) [
  | inl here ↦ ap (λ v. cond v xs (x ∷ without_first p xs)) here.0 ∙ ap (λ v. cond v xs (x ∷ without_first q xs)) (sym (ap q here.1 ∙ passes))
  | inr later ↦ ap (λ v. cond v xs (x ∷ without_first p xs)) later.0 ∙ ap (λ left. x ∷ left) (without_first_stricter p q xs y stricter passes later.1)
      ∙ ap (λ v. cond v xs (x ∷ without_first q xs)) (sym (stricter x later.0))
]

not_on : (ends : List EndState) (e : ℕ) → is_linked_at ends e ≡ true → IsStricter (is_on_linked ends) (is_on e)
not_on ends e linked x fails = at (is_on e x) refl
  where
    at : (t : Bool) → is_on e x ≡ t → is_on e x ≡ false
    at true is = let same : is_linked_at ends (end_of_letter x) ≡ is_linked_at ends e = ap (is_linked_at ends) (eqb-true (end_of_letter x) e is) in cc
    at false is = is

-- the first letter for a linked end is the first for its own end
pub linked_on : (ends : List EndState) (letters : List Arrived) (a : Arrived) → find (is_on_linked ends) letters ≡ Some a
    → find (is_on (end_of_letter a)) letters ≡ Some a
linked_on ends letters a found =
    find_stricter (is_on_linked ends) (is_on (end_of_letter a)) letters a (not_on ends (end_of_letter a) (find_passes (is_on_linked ends) letters a found)) (eq-eqb (end_of_letter a) (end_of_letter a) refl) found

pub without_linked_on : (ends : List EndState) (letters : List Arrived) (a : Arrived) → find (is_on_linked ends) letters ≡ Some a
    → without_first (is_on_linked ends) letters ≡ without_first (is_on (end_of_letter a)) letters
without_linked_on ends letters a found =
    without_first_stricter (is_on_linked ends) (is_on (end_of_letter a)) letters a (not_on ends (end_of_letter a) (find_passes (is_on_linked ends) letters a found)) (eq-eqb (end_of_letter a) (end_of_letter a) refl) found

-- what is found and what is left at the end of the first letter for a linked end
pub record IsFoundOn (ends : List EndState) (letters : List Arrived) (e : ℕ) : Type 0 where
  pub found : find (is_on e) letters ≡ find (is_on_linked ends) letters
  pub left : without_first (is_on e) letters ≡ without_first (is_on_linked ends) letters

pub found_on : (ends : List EndState) (letters : List Arrived) (e : ℕ) → Some e ≡ option_map end_of_letter (find (is_on_linked ends) letters) → IsFoundOn ends letters e
found_on ends letters e is = at (find (is_on_linked ends) letters) refl is
  where
    at : (found : Option Arrived) → find (is_on_linked ends) letters ≡ found → Some e ≡ option_map end_of_letter found → IsFoundOn ends letters e
    at None found none = cc
    at (Some a) found some =
        let same : e ≡ end_of_letter a = cc in
        subst (IsFoundOn ends letters) (sym same) (record { found = linked_on ends letters a found ∙ sym found; left = sym (without_linked_on ends letters a found) })

-- ---- among the queues

waits_there : (ends : List EndState) (queues : List (List Arrived)) (e number : ℕ) → waiting ends queues e ≡ Some number
    → (is_linked_at ends e ≡ true) × ((a : Arrived) × (rest : List Arrived) × (queue_of queues e ≡ a ∷ rest) × (a.number ≡ number))
waits_there ends queues e number = at (is_linked_at ends e) (queue_of queues e) refl refl
  where
    at : (t : Bool) (queue : List Arrived) → is_linked_at ends e ≡ t → queue_of queues e ≡ queue → cond t (option_map (λ (a : Arrived). a.number) (slice_get queue 0)) None ≡ Some number
        → (is_linked_at ends e ≡ true) × ((a : Arrived) × (rest : List Arrived) × (queue_of queues e ≡ a ∷ rest) × (a.number ≡ number))
    at true [] linked is waits = cc
    at true (a ∷ rest) linked is waits = (linked, (a, rest, is, cc))
    at false queue linked is waits = cc

linked_waits : (ends : List EndState) (queues : List (List Arrived)) (e : ℕ) (a : Arrived) (rest : List Arrived) → is_linked_at ends e ≡ true → queue_of queues e ≡ a ∷ rest
    → waiting ends queues e ≡ Some a.number
linked_waits ends queues e a rest linked is =
    ap (λ t. cond t (option_map (λ (b : Arrived). b.number) (slice_get (queue_of queues e) 0)) None) linked
    ∙ ap (λ queue. option_map (λ (b : Arrived). b.number) (slice_get queue 0)) is

-- a letter comes before all of another queue where it comes before the first
before_queue : (a b : Arrived) (rest : List Arrived) → a.number < b.number → AllPairs IsBefore (b ∷ rest) → All (IsBefore a) (b ∷ rest)
before_queue a b rest less rising = All-cons (IsBefore a) b rest less (All-weaker (IsBefore b) (IsBefore a) (λ c later. omega arith) rest (pairs_head b rest rising))

-- the letter a is the first of these ends where no first letter of one comes before it
pub first_of_ends : (ends : ℕ → Bool) (queues : List (List Arrived)) (next e : ℕ) (a : Arrived) (rest : List Arrived) → AreQueues queues next → ends e ≡ true → queue_of queues e ≡ a ∷ rest
    → ((d : ℕ) (b : Arrived) (more : List Arrived) → ends d ≡ true → queue_of queues d ≡ b ∷ more → a.number ≤ b.number) → IsFirst ends queues e a rest
first_of_ends ends queues next e a rest q asks is least = record { is = is; asked = asks; others = λ d other asked. at d other asked (queue_of queues d) refl }
  where
    at : (d : ℕ) → d ≢ e → ends d ≡ true → (queue : List Arrived) → queue_of queues d ≡ queue → All (IsBefore a) (queue_of queues d)
    at d other asked [] there = subst (All (IsBefore a)) (sym there) (All-nil (IsBefore a))
    at d other asked (b ∷ more) there =
        let most : a.number ≤ b.number = least d b more asked there in
        let apart : AreApart (a ∷ rest) (b ∷ more) = subst (λ xs. AreApart xs (b ∷ more)) is (subst (AreApart (queue_of queues e)) there (q.apart e d (λ same. other (sym same)))) in
        let differ : a.number ≢ b.number = All-head (DiffersFrom a) b more (All-head (λ x. All (DiffersFrom x) (b ∷ more)) a rest apart) in
        subst (All (IsBefore a)) (sym there) (before_queue a b more (omega arith) (subst (AllPairs IsBefore) there (q.rising d)))

first_of_linked : (ends : List EndState) (queues : List (List Arrived)) (next e : ℕ) (a : Arrived) (rest : List Arrived) → AreQueues queues next
    → is_linked_at ends e ≡ true → queue_of queues e ≡ a ∷ rest → ((j m : ℕ) → waiting ends queues j ≡ Some m → a.number ≤ m) → IsFirst (is_linked_at ends) queues e a rest
first_of_linked ends queues next e a rest q linked is least =
    first_of_ends (is_linked_at ends) queues next e a rest q linked is (λ d b more asked there. least d b.number (linked_waits ends queues d b more asked there))

-- the end at which the first letter waits is that of the first letter for a linked end
pub earliest_found : (ends : List EndState) (queues : List (List Arrived)) (next e : ℕ) → AreQueues queues next → IsEarliest ends queues e
    → Some e ≡ option_map end_of_letter (find (is_on_linked ends) (in_order queues))
earliest_found ends queues next e q earliest =
    let there = waits_there ends queues e earliest.number earliest.waits in
    let a : Arrived = there.1.0 in
    let rest : List Arrived = there.1.1 in
    let first : IsFirst (is_linked_at ends) queues e a rest =
    first_of_linked ends queues next e a rest q there.0 there.1.2 (λ j m waits. let at_most = earliest.least j m waits in let same = there.1.3 in omega arith) in
    let on : IsOn e a = All-head (IsOn e) a rest (subst (All (IsOn e)) there.1.2 (q.placed e)) in
    ap Some (sym (eqb-true (end_of_letter a) e on)) ∙ ap (option_map end_of_letter) (sym (find-first (is_linked_at ends) queues next e a rest q first))

no_queue : (ends : List EndState) (queues : List (List Arrived)) → ((e : ℕ) → waiting ends queues e ≡ None) → (d : ℕ) → is_linked_at ends d ≡ true → queue_of queues d ≡ []
no_queue ends queues none d linked = at (queue_of queues d) refl
  where
    at : (queue : List Arrived) → queue_of queues d ≡ queue → queue_of queues d ≡ []
    at [] is = is
    at (a ∷ rest) is = let waits = linked_waits ends queues d a rest linked is in let never = none d in cc

pub none_found : (ends : List EndState) (queues : List (List Arrived)) (next : ℕ) → AreQueues queues next → ((e : ℕ) → waiting ends queues e ≡ None)
    → find (is_on_linked ends) (in_order queues) ≡ None
none_found ends queues next q none = find-none (is_on_linked ends) (in_order queues) (fails_everywhere (is_linked_at ends) queues next q (no_queue ends queues none))

pub linked_end : (ends : List EndState) (queues : List (List Arrived)) (next : ℕ) (result : Option ℕ) → AreQueues queues next
    → MatchOption result ((e : ℕ) → waiting ends queues e ≡ None) (IsEarliest ends queues)
    → result ≡ option_map end_of_letter (find (is_on_linked ends) (in_order queues))
linked_end ends queues next None q none = ap (option_map end_of_letter) (sym (none_found ends queues next q none))
linked_end ends queues next (Some e) q earliest = earliest_found ends queues next e q earliest
