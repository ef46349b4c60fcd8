-- The letter that arrived first, at any end; and the numbers of letters in order rise.
use Rattle.std.proofs.Common.{◌≡◌, ◌≢◌, ℕ, suc, ◌+◌, ◌<◌, ◌≤◌, nat_lt, Bool, true, false, cond, List, [], ◌∷◌, drop, get_or, set, slice_get, option_map, None, Some, refl, sym, ◌∙◌, ap, subst, arith, All}
use Rattle.std.specs.List.{AllPairs}
use Rattle.std.proofs.lemmas.Bool.Decides.{nat_tests}
use Rattle.std.proofs.lemmas.List.Elements.{All-nil, All-head, All-tail, All-weaker}
use Rattle.t32_base.specs.declared.letter.Arrived.{Arrived}
use Rattle.proc_state.specs.Mail.{RiseTo}
use Rattle.proc_state.specs.Queues.{queue_of, put_by_number, put_each, in_order, IsBefore, DiffersFrom, IsBelow, AreQueues, first_number, IsEarliestOfAll}
use Rattle.proc_state.proofs.QueueLaws.{All-in_order, All-put_each, AreApart, Each, IsFirst, PassesLater, differs_rest, in_order-taken, is_for, later_taken, pairs_head, queue_from_first}
use Rattle.proc_state.proofs.LinkedLaws.{first_of_ends}

is_before : (m n : ℕ) → m < n → nat_lt m n ≡ true
is_before m n below = grind (arith, nat_tests)

-- a letter with a smaller number than each of a list is put first
put-least : (a : Arrived) (xs : List Arrived) → All (IsBefore a) xs → put_by_number a xs ≡ a ∷ xs
put-least a [] before = refl
put-least a (b ∷ bs) before = ap (λ t. cond t (a ∷ b ∷ bs) (b ∷ put_by_number a bs)) (is_before a.number b.number (All-head (IsBefore a) b bs before))

-- ---- the first letter at any end

abbrev is_any : ℕ → Bool
is_any e = true

number_there : (queues : List (List Arrived)) (e : ℕ) (b : Arrived) (more : List Arrived) → queue_of queues e ≡ b ∷ more → first_number queues e ≡ Some b.number
number_there queues e b more there = ap (λ queue. option_map (λ (a : Arrived). a.number) (slice_get queue 0)) there

-- the first letter of the end at which the first letter waits is the first of all
pub first_in_order : (queues : List (List Arrived)) (next e : ℕ) (a : Arrived) → AreQueues queues next → IsEarliestOfAll queues e → slice_get (queue_of queues e) 0 ≡ Some a
    → in_order queues ≡ a ∷ in_order (set queues e (drop 1 (queue_of queues e)))
first_in_order queues next e a q earliest is =
    let rest : List Arrived = drop 1 (queue_of queues e) in
    let there : queue_of queues e ≡ a ∷ rest = queue_from_first (queue_of queues e) a is in
    let number : Some earliest.number ≡ Some a.number = sym earliest.waits ∙ number_there queues e a rest there in
    let same : earliest.number ≡ a.number = cc in
    let first : IsFirst is_any queues e a rest =
    first_of_ends is_any queues next e a rest q refl there (λ d b more asked at. let most = earliest.least d b.number (number_there queues d b more at) in omega (arith, most, same)) in
    in_order-taken queues next e a rest q there
    ∙ put-least a (in_order (set queues e rest))
    (All-weaker (PassesLater (is_for is_any) a) (IsBefore a) (λ b later. later refl) (in_order (set queues e rest)) (later_taken is_any queues next e a rest q first))

abbrev Never : Arrived → Type 0
Never a = ⊥

none_of : (letters : List Arrived) → All Never letters → letters ≡ []
none_of [] never = refl
none_of (a ∷ rest) never = absurd (All-head Never a rest never)

-- where no end has a letter there is none
pub none_in_order : (queues : List (List Arrived)) → ((e : ℕ) → first_number queues e ≡ None) → in_order queues ≡ []
none_in_order queues none = none_of (in_order queues) (All-in_order Never queues (λ e. at e (queue_of queues e) refl))
  where
    at : (e : ℕ) (queue : List Arrived) → queue_of queues e ≡ queue → All Never (queue_of queues e)
    at e [] is = subst (All Never) (sym is) (All-nil Never)
    at e (b ∷ more) is = let here = number_there queues e b more is in let never = none e in absurd cc

-- ---- their numbers

pub rise_at_most : (first : ℕ) (letters : List Arrived) (last : ℕ) → RiseTo first letters last → first ≤ last
rise_at_most first [] last rises = rises
rise_at_most first (a ∷ rest) last rises = let more = rise_at_most (a.number + 1) rest last rises.1 in let least = rises.0 in omega (arith, more, least)

rises_put : (first : ℕ) (a : Arrived) (letters : List Arrived) (last : ℕ) → first ≤ a.number → a.number < last → All (DiffersFrom a) letters → RiseTo first letters last
    → RiseTo first (put_by_number a letters) last
rises_put first a [] last least most differ rises = (least, omega (arith, most))
rises_put first a (b ∷ bs) last least most differ rises =
    at (nat_lt a.number b.number) refl (λ behind. rises_put (b.number + 1) a bs last behind most (All-tail (DiffersFrom a) b bs differ) rises.1)
  where
    at : (t : Bool) → nat_lt a.number b.number ≡ t → (b.number + 1 ≤ a.number → RiseTo (b.number + 1) (put_by_number a bs) last)
        → RiseTo first (cond t (a ∷ b ∷ bs) (b ∷ put_by_number a bs)) last
    at true is rest = (least, (let less : a.number + 1 ≤ b.number = grind (arith, nat_tests) in less, rises.1))
    at false is rest =
        let other : a.number ≢ b.number = All-head (DiffersFrom a) b bs differ in
        (rises.0, rest (let most : b.number ≤ a.number = grind (arith, nat_tests) in omega (arith, most, other)))

pairs_tail : (a : Arrived) (rest : List Arrived) → AllPairs IsBefore (a ∷ rest) → AllPairs IsBefore rest
pairs_tail a rest pairs = λ i j d below within. pairs (suc i) (suc j) d (omega arith) (omega arith)

rises_put_each : (queue letters : List Arrived) (last : ℕ) → AllPairs IsBefore queue → AreApart queue letters → All (IsBelow last) queue → RiseTo 0 letters last
    → RiseTo 0 (put_each queue letters) last
rises_put_each [] letters last rising apart below rises = rises
rises_put_each (a ∷ rest) letters last rising apart below rises =
    rises_put 0 a (put_each rest letters) last (omega arith) (All-head (IsBelow last) a rest below)
    (All-put_each (DiffersFrom a) rest letters (differs_rest a rest (pairs_head a rest rising)) (All-head (λ x. All (DiffersFrom x) letters) a rest apart))
    (rises_put_each rest letters last (pairs_tail a rest rising) (All-tail (λ x. All (DiffersFrom x) letters) a rest apart) (All-tail (IsBelow last) a rest below) rises)

rises_in_order : (queues : List (List Arrived)) (last : ℕ) → ((e : ℕ) → AllPairs IsBefore (queue_of queues e))
    → ((d e : ℕ) → d ≢ e → AreApart (queue_of queues d) (queue_of queues e)) → Each (IsBelow last) queues → RiseTo 0 (in_order queues) last
rises_in_order [] last rising apart below = omega arith
rises_in_order (queue ∷ rest) last rising apart below =
    rises_put_each queue (in_order rest) last (rising 0)
    (λ k d within. All-in_order (DiffersFrom (get_or queue k d)) rest (λ e. apart 0 (suc e) (λ is. omega arith) k d within))
    (below 0)
    (rises_in_order rest last (λ e. rising (suc e)) (λ d e other. apart (suc d) (suc e) (λ is. other (omega arith))) (λ e. below (suc e)))

-- the numbers of the letters of queues rise
pub numbers_rise : (queues : List (List Arrived)) (next : ℕ) → AreQueues queues next → RiseTo 0 (in_order queues) next
numbers_rise queues next q = rises_in_order queues next q.rising q.apart q.below
