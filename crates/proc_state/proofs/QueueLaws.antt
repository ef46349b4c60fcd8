-- Laws of the letters of several queues, put by their numbers.
use Rattle.std.proofs.Common.{◌≡◌, ◌≢◌, ℕ, zero, suc, ◌+◌, ◌-◌, ◌<◌, ◌≤◌, ◌==◌, ◌⊎◌, inl, inr, nat_lt, Bool, true, false, cond, List, [], ◌∷◌, ◌++◌, length, find, set, get_or, drop, slice_get, None, Some, refl, sym, ◌∙◌, ap, subst, arith, All, eqb-true, eq-eqb}
use Rattle.std.specs.List.{AllPairs}
use Rattle.std.proofs.lemmas.Bool.Decides.{nat_tests}
use Rattle.std.proofs.lemmas.List.{get_or-drop, length-drop, set-get_or, append-nil, length-append}
use Rattle.std.proofs.lemmas.List.Elements.{All-nil, All-cons, All-head, All-tail, All-push, All-weaker, All-drop}
use Rattle.std.proofs.lemmas.List.Quantifiers.{all_pairs_push}
use Rattle.t32_base.specs.declared.letter.Arrived.{Arrived}
use Rattle.proc_state.specs.Mail.{end_of, is_on, without_first}
use Rattle.proc_state.specs.Queues.{queue_of, put_by_number, put_each, in_order, IsOn, IsBefore, DiffersFrom, IsBelow, AreQueues, IsMailbox, SameQueues, PutsLast}

-- ---- one letter put by its number

puts-commute_nil : (a b : Arrived) → a.number ≢ b.number → put_by_number a (put_by_number b []) ≡ put_by_number b (put_by_number a [])
puts-commute_nil a b differ = grind (arith, nat_tests)

puts-commute_cons : (a b c : Arrived) (xs : List Arrived) → a.number ≢ b.number → put_by_number a (put_by_number b xs) ≡ put_by_number b (put_by_number a xs)
    → put_by_number a (put_by_number b (c ∷ xs)) ≡ put_by_number b (put_by_number a (c ∷ xs))
puts-commute_cons a b c xs differ rest = grind (arith, nat_tests)

-- two letters with different numbers may be put in either order
pub puts-commute : (a b : Arrived) (xs : List Arrived) → a.number ≢ b.number → put_by_number a (put_by_number b xs) ≡ put_by_number b (put_by_number a xs)
puts-commute a b [] differ = puts-commute_nil a b differ
puts-commute a b (c ∷ xs) differ = puts-commute_cons a b c xs differ (puts-commute a b xs differ)

at_put : (P : Arrived → Type 0) (t : Bool) (a b : Arrived) (bs cs : List Arrived) → P a → All P (b ∷ bs) → All P cs → All P (cond t (a ∷ b ∷ bs) (b ∷ cs))
at_put P true a b bs cs here all rest = All-cons P a (b ∷ bs) here all
at_put P false a b bs cs here all rest = All-cons P b cs (All-head P b bs all) rest

-- what holds of a letter and of each of a list holds of each where it is put
pub All-put : (P : Arrived → Type 0) (a : Arrived) (xs : List Arrived) → P a → All P xs → All P (put_by_number a xs)
All-put P a [] here all = All-cons P a [] here all
All-put P a (b ∷ bs) here all = at_put P (nat_lt a.number b.number) a b bs (put_by_number a bs) here all (All-put P a bs here (All-tail P b bs all))

length_at : (t : Bool) (a b : Arrived) (bs cs : List Arrived) → length cs ≡ length bs + 1 → length (cond t (a ∷ b ∷ bs) (b ∷ cs)) ≡ length (b ∷ bs) + 1
length_at true a b bs cs e = omega arith
length_at false a b bs cs e = omega arith

pub length-put : (a : Arrived) (xs : List Arrived) → length (put_by_number a xs) ≡ length xs + 1
length-put a [] = refl
length-put a (b ∷ bs) = length_at (nat_lt a.number b.number) a b bs (put_by_number a bs) (length-put a bs)

not_before : (m n : ℕ) → n < m → nat_lt m n ≡ false
not_before m n below = grind (arith, nat_tests)

-- a letter with a greater number than each of a list is put last
pub put-greatest : (a : Arrived) (xs : List Arrived) → All (IsBelow a.number) xs → put_by_number a xs ≡ xs ++ a ∷ []
put-greatest a [] below = refl
put-greatest a (b ∷ bs) below =
    ap (λ t. cond t (a ∷ b ∷ bs) (b ∷ put_by_number a bs)) (not_before a.number b.number (All-head (IsBelow a.number) b bs below))
    ∙ ap (λ rest. b ∷ rest) (put-greatest a bs (All-tail (IsBelow a.number) b bs below))

-- ---- the first letter that passes a test

-- each letter that passes has a greater number than a
abbrev pub PassesLater : (Arrived → Bool) → Arrived → Arrived → Type 0
PassesLater p a b = p b ≡ true → a.number < b.number

found_at : (p : Arrived → Bool) (a b : Arrived) (bs : List Arrived) (t u : Bool) → nat_lt a.number b.number ≡ t → p b ≡ u → p a ≡ true → PassesLater p a b
    → find p (put_by_number a bs) ≡ Some a → find p (cond t (a ∷ b ∷ bs) (b ∷ put_by_number a bs)) ≡ Some a
found_at p a b bs true u before is passes later rest = ap (λ v. cond v (Some a) (find p (b ∷ bs))) passes
found_at p a b bs false true before is passes later rest = absurd (let lt : a.number < b.number = later is in grind (arith, nat_tests))
found_at p a b bs false false before is passes later rest = ap (λ v. cond v (Some b) (find p (put_by_number a bs))) is ∙ rest

-- a letter that passes is the first where each other that passes has a greater number
pub find-put : (p : Arrived → Bool) (a : Arrived) (xs : List Arrived) → p a ≡ true → All (PassesLater p a) xs → find p (put_by_number a xs) ≡ Some a
find-put p a [] passes later = ap (λ v. cond v (Some a) None) passes
find-put p a (b ∷ bs) passes later =
    found_at p a b bs (nat_lt a.number b.number) (p b) refl refl passes (All-head (PassesLater p a) b bs later) (find-put p a bs passes (All-tail (PassesLater p a) b bs later))

left_at : (p : Arrived → Bool) (a b : Arrived) (bs : List Arrived) (t u : Bool) → nat_lt a.number b.number ≡ t → p b ≡ u → p a ≡ true → PassesLater p a b
    → without_first p (put_by_number a bs) ≡ bs → without_first p (cond t (a ∷ b ∷ bs) (b ∷ put_by_number a bs)) ≡ b ∷ bs
left_at p a b bs true u before is passes later rest = ap (λ v. cond v (b ∷ bs) (a ∷ without_first p (b ∷ bs))) passes
left_at p a b bs false true before is passes later rest = absurd (let lt : a.number < b.number = later is in grind (arith, nat_tests))
left_at p a b bs false false before is passes later rest =
    ap (λ v. cond v (put_by_number a bs) (b ∷ without_first p (put_by_number a bs))) is ∙ ap (λ left. b ∷ left) rest

-- and without it the others are left
pub without_first-put : (p : Arrived → Bool) (a : Arrived) (xs : List Arrived) → p a ≡ true → All (PassesLater p a) xs → without_first p (put_by_number a xs) ≡ xs
without_first-put p a [] passes later = ap (λ v. cond v [] (a ∷ [])) passes
without_first-put p a (b ∷ bs) passes later =
    left_at p a b bs (nat_lt a.number b.number) (p b) refl refl passes (All-head (PassesLater p a) b bs later) (without_first-put p a bs passes (All-tail (PassesLater p a) b bs later))

abbrev pub Fails : (Arrived → Bool) → Arrived → Type 0
Fails p a = p a ≡ false

pub find-none : (p : Arrived → Bool) (xs : List Arrived) → All (Fails p) xs → find p xs ≡ None
find-none p [] none = refl
find-none p (x ∷ xs) none = ap (λ v. cond v (Some x) (find p xs)) (All-head (Fails p) x xs none) ∙ find-none p xs (All-tail (Fails p) x xs none)

pub without_first-none : (p : Arrived → Bool) (xs : List Arrived) → All (Fails p) xs → without_first p xs ≡ xs
without_first-none p [] none = refl
without_first-none p (x ∷ xs) none =
    ap (λ v. cond v xs (x ∷ without_first p xs)) (All-head (Fails p) x xs none) ∙ ap (λ left. x ∷ left) (without_first-none p xs (All-tail (Fails p) x xs none))

-- ---- the letters of queues

pub All-put_each : (P : Arrived → Type 0) (queue xs : List Arrived) → All P queue → All P xs → All P (put_each queue xs)
All-put_each P [] xs each all = all
All-put_each P (a ∷ rest) xs each all = All-put P a (put_each rest xs) (All-head P a rest each) (All-put_each P rest xs (All-tail P a rest each) all)

abbrev pub Each : (Arrived → Type 0) → List (List Arrived) → Type 0
Each P queues = (e : ℕ) → All P (queue_of queues e)

-- what holds of each letter of each queue holds of each in order
pub All-in_order : (P : Arrived → Type 0) (queues : List (List Arrived)) → Each P queues → All P (in_order queues)
All-in_order P [] each = All-nil P
All-in_order P (queue ∷ rest) each = All-put_each P queue (in_order rest) (each 0) (All-in_order P rest (λ e. each (suc e)))

put_each-put : (a : Arrived) (queue xs : List Arrived) → All (DiffersFrom a) queue → put_each queue (put_by_number a xs) ≡ put_by_number a (put_each queue xs)
put_each-put a [] xs differ = refl
put_each-put a (b ∷ rest) xs differ =
    ap (put_by_number b) (put_each-put a rest xs (All-tail (DiffersFrom a) b rest differ))
    ∙ sym (puts-commute a b (put_each rest xs) (All-head (DiffersFrom a) b rest differ))

put_each-middle : (a : Arrived) (before behind xs : List Arrived) → All (DiffersFrom a) (before ++ behind)
    → put_each (before ++ a ∷ behind) xs ≡ put_by_number a (put_each (before ++ behind) xs)
put_each-middle a [] behind xs differ = refl
put_each-middle a (b ∷ rest) behind xs differ =
    ap (put_by_number b) (put_each-middle a rest behind xs (All-tail (DiffersFrom a) b (rest ++ behind) differ))
    ∙ sym (puts-commute a b (put_each (rest ++ behind) xs) (All-head (DiffersFrom a) b (rest ++ behind) differ))

-- One letter more in a queue, wherever it stands there, is one letter more by its number.
pub in_order-with : (a : Arrived) (before behind : List Arrived) (queues : List (List Arrived)) (e : ℕ) → e < length queues
    → Each (DiffersFrom a) (set queues e (before ++ behind))
    → in_order (set queues e (before ++ a ∷ behind)) ≡ put_by_number a (in_order (set queues e (before ++ behind)))
in_order-with a before behind [] e within differ = absurd (omega arith)
in_order-with a before behind (queue ∷ rest) zero within differ = put_each-middle a before behind (in_order rest) (differ 0)
in_order-with a before behind (queue ∷ rest) (suc e) within differ =
    ap (put_each queue) (in_order-with a before behind rest e (omega arith) (λ d. differ (suc d)))
    ∙ put_each-put a queue (in_order (set rest e (before ++ behind))) (differ 0)

-- ---- what is kept where queues change

pub pairs_head : (a : Arrived) (rest : List Arrived) → AllPairs IsBefore (a ∷ rest) → All (IsBefore a) rest
pairs_head a rest pairs = λ k d h. pairs 0 (suc k) d (omega arith) (omega arith)

-- each queue is the old one without some letters at its front
abbrev pub AreShorter : List (List Arrived) → List (List Arrived) → Type 0
AreShorter old new = (e : ℕ) → (k : ℕ) × (queue_of new e ≡ drop k (queue_of old e))

pairs_drop : (k : ℕ) (xs : List Arrived) → AllPairs IsBefore xs → AllPairs IsBefore (drop k xs)
pairs_drop k xs pairs = λ i j d below within.
    let earlier : get_or (drop k xs) i d ≡ get_or xs (k + i) d = get_or-drop k xs i d in
    let later : get_or (drop k xs) j d ≡ get_or xs (k + j) d = get_or-drop k xs j d in
    let left : length (drop k xs) ≡ length xs - k = length-drop k xs in
    let less : (get_or xs (k + i) d).number < (get_or xs (k + j) d).number = pairs (k + i) (k + j) d (omega arith) (omega arith) in
    rw (earlier, later) less

pub shorter_queues : (old new : List (List Arrived)) (next : ℕ) → AreShorter old new → AreQueues old next → AreQueues new next
shorter_queues old new next shorter q = record {
  placed = λ e. rw ((shorter e).1) (All-drop (IsOn e) (shorter e).0 (queue_of old e) (q.placed e));
  rising = λ e. rw ((shorter e).1) (pairs_drop (shorter e).0 (queue_of old e) (q.rising e));
  apart = λ d e other. rw ((shorter d).1, (shorter e).1)
      (All-drop (λ a. All (DiffersFrom a) (drop (shorter e).0 (queue_of old e))) (shorter d).0 (queue_of old d)
      (All-weaker (λ a. All (DiffersFrom a) (queue_of old e)) (λ a. All (DiffersFrom a) (drop (shorter e).0 (queue_of old e))) (λ a all. All-drop (DiffersFrom a) (shorter e).0 (queue_of old e) all) (queue_of old d) (q.apart d e other)));
  below = λ e. rw ((shorter e).1) (All-drop (IsBelow next) (shorter e).0 (queue_of old e) (q.below e));
}

-- a queue loses its first letter
pub shorter_by_first : (queues : List (List Arrived)) (e : ℕ) → AreShorter queues (set queues e (drop 1 (queue_of queues e)))
shorter_by_first [] e d = (0, refl)
shorter_by_first (queue ∷ rest) zero zero = (1, refl)
shorter_by_first (queue ∷ rest) zero (suc d) = (0, refl)
shorter_by_first (queue ∷ rest) (suc e) zero = (0, refl)
shorter_by_first (queue ∷ rest) (suc e) (suc d) = shorter_by_first rest e d

-- each queue is the old one, and that of the end e has a letter more
abbrev pub AreLonger : List (List Arrived) → List (List Arrived) → ℕ → Arrived → Type 0
AreLonger old new e a = (d : ℕ) → (queue_of new d ≡ queue_of old d) ⊎ ((d ≡ e) × (queue_of new d ≡ queue_of old d ++ a ∷ []))

longer_by_last : (a : Arrived) (queues : List (List Arrived)) (e : ℕ) → AreLonger queues (set queues e (queue_of queues e ++ a ∷ [])) e a
longer_by_last a [] e d = inl refl
longer_by_last a (queue ∷ rest) zero zero = inr (refl, refl)
longer_by_last a (queue ∷ rest) zero (suc d) = inl refl
longer_by_last a (queue ∷ rest) (suc e) zero = inl refl
longer_by_last a (queue ∷ rest) (suc e) (suc d) = elim (longer_by_last a rest e d) [ inl same ↦ inl same | inr more ↦ inr (ap suc more.0, more.1) ]

-- a property of each old queue that the new letter keeps
longer_queue : (P : List Arrived → Type 0) (old new : List (List Arrived)) (e : ℕ) (a : Arrived) → AreLonger old new e a
    → (d : ℕ) → P (queue_of old d) → (d ≡ e → P (queue_of old d ++ a ∷ [])) → P (queue_of new d)
longer_queue P old new e a longer d kept more = elim (longer d) [ inl same ↦ subst P (sym same) kept | inr is ↦ subst P (sym is.1) (more is.0) ]

-- no letter of one list has the number of one of the other
abbrev pub AreApart : List Arrived → List Arrived → Type 0
AreApart xs ys = All (λ a. All (DiffersFrom a) ys) xs

differs_below : (a : Arrived) (xs : List Arrived) → All (IsBelow a.number) xs → All (DiffersFrom a) xs
differs_below a xs below = All-weaker (IsBelow a.number) (DiffersFrom a) (λ b less. λ same. omega arith) xs below

apart_behind : (a : Arrived) (xs ys : List Arrived) → AreApart xs ys → All (IsBelow a.number) xs → AreApart xs (ys ++ a ∷ [])
apart_behind a xs ys apart below = λ k d within.
    let x : Arrived = get_or xs k d in
    let less : x.number < a.number = below k d within in
    All-push (DiffersFrom x) ys a (apart k d within) (λ same. omega arith)

longer_apart : (old new : List (List Arrived)) (e : ℕ) (a : Arrived) → AreLonger old new e a → AreQueues old a.number
    → (d f : ℕ) → d ≢ f → AreApart (queue_of new d) (queue_of new f)
longer_apart old new e a longer q d f other =
    longer_queue (λ xs. AreApart xs (queue_of new f)) old new e a longer d
    (longer_queue (AreApart (queue_of old d)) old new e a longer f (q.apart d f other)
    (λ is. apart_behind a (queue_of old d) (queue_of old f) (q.apart d f other) (q.below d)))
    (λ here. longer_queue (AreApart (queue_of old d ++ a ∷ [])) old new e a longer f
    (All-push (λ x. All (DiffersFrom x) (queue_of old f)) (queue_of old d) a (q.apart d f other) (differs_below a (queue_of old f) (q.below f)))
    (λ there. absurd (other (here ∙ sym there))))

-- a letter with the greatest number is put last in the queue of its end
pub longer_queues : (old new : List (List Arrived)) (e : ℕ) (a : Arrived) → AreLonger old new e a → IsOn e a → AreQueues old a.number → AreQueues new (a.number + 1)
longer_queues old new e a longer on q = record {
  placed = λ d. longer_queue (All (IsOn d)) old new e a longer d (q.placed d)
      (λ is. All-push (IsOn d) (queue_of old d) a (q.placed d) (subst (λ (n : ℕ). IsOn n a) (sym is) on));
  rising = λ d. longer_queue (AllPairs IsBefore) old new e a longer d (q.rising d)
      (λ is. all_pairs_push IsBefore (queue_of old d) a (q.rising d) (λ k x h. q.below d k x h));
  apart = longer_apart old new e a longer q;
  below = λ d. longer_queue (All (IsBelow (a.number + 1))) old new e a longer d (rises d) (λ is. All-push (IsBelow (a.number + 1)) (queue_of old d) a (rises d) (omega arith));
}
  where
    rises : (d : ℕ) → All (IsBelow (a.number + 1)) (queue_of old d)
    rises d = All-weaker (IsBelow a.number) (IsBelow (a.number + 1)) (λ b below. omega arith) (queue_of old d) (q.below d)

-- ---- more empty queues

queue_of-with_empty : (queues : List (List Arrived)) (e : ℕ) → queue_of (queues ++ [] ∷ []) e ≡ queue_of queues e
queue_of-with_empty [] zero = refl
queue_of-with_empty [] (suc e) = refl
queue_of-with_empty (queue ∷ rest) zero = refl
queue_of-with_empty (queue ∷ rest) (suc e) = queue_of-with_empty rest e

in_order-with_empty : (queues : List (List Arrived)) → in_order (queues ++ [] ∷ []) ≡ in_order queues
in_order-with_empty [] = refl
in_order-with_empty (queue ∷ rest) = ap (put_each queue) (in_order-with_empty rest)

-- an empty queue more changes no letter
pub same_with_empty : (old new : List (List Arrived)) → SameQueues old new → SameQueues old (new ++ [] ∷ [])
same_with_empty old new same = record { each = λ e. queue_of-with_empty new e ∙ same.each e; order = in_order-with_empty new ∙ same.order }

pub IsMailbox-same : (old new : List (List Arrived)) (unread next : ℕ) → SameQueues old new → IsMailbox old unread next → IsMailbox new unread next
IsMailbox-same old new unread next same m = record {
  sorted = shorter_queues old new next (λ e. (0, same.each e)) m.sorted;
  counted = m.counted ∙ ap length (sym same.order);
  few = m.few;
}

pub same_written : (queues : List (List Arrived)) (e : ℕ) (queue : List Arrived) → queue ≡ queue_of queues e → set queues e queue ≡ queues
same_written queues e queue is = ap (set queues e) is ∙ set-get_or queues e []

-- ---- a letter is put last in the queue of its end

pub queue_within : (queues : List (List Arrived)) (e : ℕ) (a : Arrived) (rest : List Arrived) → queue_of queues e ≡ a ∷ rest → e < length queues
queue_within [] e a rest is = cc
queue_within (queue ∷ queues) zero a rest is = omega arith
queue_within (queue ∷ queues) (suc e) a rest is = let within = queue_within queues e a rest is in omega arith

-- what holds of each letter of the other queues and of a new queue
Each-set : (P : Arrived → Type 0) (queue : List Arrived) (queues : List (List Arrived)) (e : ℕ)
    → ((d : ℕ) → d ≢ e → All P (queue_of queues d)) → All P queue → Each P (set queues e queue)
Each-set P queue [] e others here d = All-nil P
Each-set P queue (q ∷ rest) zero others here zero = here
Each-set P queue (q ∷ rest) zero others here (suc d) = others (suc d) (λ is. omega arith)
Each-set P queue (q ∷ rest) (suc e) others here zero = others zero (λ is. omega arith)
Each-set P queue (q ∷ rest) (suc e) others here (suc d) = Each-set P queue rest e (λ f other. others (suc f) (λ is. other (omega arith))) here d

pub in_order-received : (queues : List (List Arrived)) (e : ℕ) (a : Arrived) → e < length queues → AreQueues queues a.number
    → in_order (set queues e (queue_of queues e ++ a ∷ [])) ≡ in_order queues ++ a ∷ []
in_order-received queues e a within q =
    let queue : List Arrived = queue_of queues e in
    let differ : Each (DiffersFrom a) queues = λ d. differs_below a (queue_of queues d) (q.below d) in
    let same : set queues e (queue ++ []) ≡ queues = same_written queues e (queue ++ []) (append-nil queue) in
    in_order-with a queue [] queues e within (subst (Each (DiffersFrom a)) (sym same) differ)
    ∙ ap (λ qs. put_by_number a (in_order qs)) same
    ∙ put-greatest a (in_order queues) (All-in_order (IsBelow a.number) queues q.below)

pub IsMailbox-received : (queues : List (List Arrived)) (unread e : ℕ) (a : Arrived) → e < length queues → IsOn e a → IsMailbox queues unread a.number
    → IsMailbox (set queues e (queue_of queues e ++ a ∷ [])) (unread + 1) (a.number + 1)
IsMailbox-received queues unread e a within on m = record {
  sorted = longer_queues queues (set queues e (queue_of queues e ++ a ∷ [])) e a (longer_by_last a queues e) on m.sorted;
  counted = omega (arith, m.counted, ap length (in_order-received queues e a within m.sorted), length-append (in_order queues) (a ∷ []));
  few = omega (arith, m.few);
}

pub in_order-put : (old new : List (List Arrived)) (e : ℕ) (a : Arrived) → PutsLast old new e a → AreQueues old a.number → in_order new ≡ in_order old ++ a ∷ []
in_order-put old new e a puts q =
    let wider : AreQueues puts.wide a.number = shorter_queues old puts.wide a.number (λ d. (0, puts.same.each d)) q in
    ap in_order puts.put ∙ in_order-received puts.wide e a puts.within wider ∙ ap (λ letters. letters ++ a ∷ []) puts.same.order

pub IsMailbox-put : (old new : List (List Arrived)) (unread e : ℕ) (a : Arrived) → PutsLast old new e a → IsOn e a → IsMailbox old unread a.number
    → IsMailbox new (unread + 1) (a.number + 1)
IsMailbox-put old new unread e a puts on m =
    rw puts.put (IsMailbox-received puts.wide unread e a puts.within on (IsMailbox-same old puts.wide unread a.number puts.same m))

-- ---- the first letter of some ends is taken

-- a letter for one of these ends
abbrev pub is_for : (ℕ → Bool) → Arrived → Bool
is_for ends a = ends (end_of (a.letter).to)

placed_for : (ends : ℕ → Bool) (d : ℕ) (b : Arrived) → IsOn d b → is_for ends b ≡ ends d
placed_for ends d b on = ap ends (eqb-true (end_of (b.letter).to) d on)

pub differs_rest : (a : Arrived) (rest : List Arrived) → All (IsBefore a) rest → All (DiffersFrom a) rest
differs_rest a rest before = All-weaker (IsBefore a) (DiffersFrom a) (λ b less. λ same. omega arith) rest before

pub in_order-taken : (queues : List (List Arrived)) (next e : ℕ) (a : Arrived) (rest : List Arrived) → AreQueues queues next → queue_of queues e ≡ a ∷ rest
    → in_order queues ≡ put_by_number a (in_order (set queues e rest))
in_order-taken queues next e a rest q is =
    let rising : AllPairs IsBefore (a ∷ rest) = subst (AllPairs IsBefore) is (q.rising e) in
    let others : (d : ℕ) → d ≢ e → All (DiffersFrom a) (queue_of queues d) = λ d other.
    All-head (λ x. All (DiffersFrom x) (queue_of queues d)) a rest (subst (λ xs. AreApart xs (queue_of queues d)) is (q.apart e d (λ same. other (sym same)))) in
    ap in_order (sym (same_written queues e (a ∷ rest) (sym is)))
    ∙ in_order-with a [] rest queues e (queue_within queues e a rest is)
    (Each-set (DiffersFrom a) rest queues e others (differs_rest a rest (pairs_head a rest rising)))

-- the letter a is the first of its queue, and no letter of another of these ends has a smaller number
pub record IsFirst (ends : ℕ → Bool) (queues : List (List Arrived)) (e : ℕ) (a : Arrived) (rest : List Arrived) : Type 0 where
  pub is : queue_of queues e ≡ a ∷ rest
  pub asked : ends e ≡ true
  pub others : (d : ℕ) → d ≢ e → ends d ≡ true → All (IsBefore a) (queue_of queues d)

later_others : (ends : ℕ → Bool) (queues : List (List Arrived)) (next e : ℕ) (a : Arrived) (rest : List Arrived) → AreQueues queues next → IsFirst ends queues e a rest
    → (d : ℕ) → d ≢ e → All (PassesLater (is_for ends) a) (queue_of queues d)
later_others ends queues next e a rest q first d other = λ k x within.
    let b : Arrived = get_or (queue_of queues d) k x in
    λ passes. first.others d other (sym (placed_for ends d b (q.placed d k x within)) ∙ passes) k x within

pub later_taken : (ends : ℕ → Bool) (queues : List (List Arrived)) (next e : ℕ) (a : Arrived) (rest : List Arrived) → AreQueues queues next → IsFirst ends queues e a rest
    → All (PassesLater (is_for ends) a) (in_order (set queues e rest))
later_taken ends queues next e a rest q first =
    let rising : AllPairs IsBefore (a ∷ rest) = subst (AllPairs IsBefore) first.is (q.rising e) in
    All-in_order (PassesLater (is_for ends) a) (set queues e rest)
    (Each-set (PassesLater (is_for ends) a) rest queues e (later_others ends queues next e a rest q first)
    (All-weaker (IsBefore a) (PassesLater (is_for ends) a) (λ b less. λ passes. less) rest (pairs_head a rest rising)))

first_passes : (ends : ℕ → Bool) (queues : List (List Arrived)) (next e : ℕ) (a : Arrived) (rest : List Arrived) → AreQueues queues next → IsFirst ends queues e a rest
    → is_for ends a ≡ true
first_passes ends queues next e a rest q first =
    placed_for ends e a (All-head (IsOn e) a rest (subst (All (IsOn e)) first.is (q.placed e))) ∙ first.asked

-- the first letter of these ends
pub find-first : (ends : ℕ → Bool) (queues : List (List Arrived)) (next e : ℕ) (a : Arrived) (rest : List Arrived) → AreQueues queues next → IsFirst ends queues e a rest
    → find (is_for ends) (in_order queues) ≡ Some a
find-first ends queues next e a rest q first =
    ap (find (is_for ends)) (in_order-taken queues next e a rest q first.is)
    ∙ find-put (is_for ends) a (in_order (set queues e rest)) (first_passes ends queues next e a rest q first) (later_taken ends queues next e a rest q first)

-- and what is left without it
pub without_first-first : (ends : ℕ → Bool) (queues : List (List Arrived)) (next e : ℕ) (a : Arrived) (rest : List Arrived) → AreQueues queues next → IsFirst ends queues e a rest
    → without_first (is_for ends) (in_order queues) ≡ in_order (set queues e rest)
without_first-first ends queues next e a rest q first =
    ap (without_first (is_for ends)) (in_order-taken queues next e a rest q first.is)
    ∙ without_first-put (is_for ends) a (in_order (set queues e rest)) (first_passes ends queues next e a rest q first) (later_taken ends queues next e a rest q first)

-- where none of these ends has a letter
pub fails_everywhere : (ends : ℕ → Bool) (queues : List (List Arrived)) (next : ℕ) → AreQueues queues next → ((d : ℕ) → ends d ≡ true → queue_of queues d ≡ [])
    → All (Fails (is_for ends)) (in_order queues)
fails_everywhere ends queues next q empty = All-in_order (Fails (is_for ends)) queues (λ d. at d (ends d) refl)
  where
    at : (d : ℕ) (t : Bool) → ends d ≡ t → All (Fails (is_for ends)) (queue_of queues d)
    at d true is = subst (All (Fails (is_for ends))) (sym (empty d is)) (All-nil (Fails (is_for ends)))
    at d false is = λ k x within. placed_for ends d (get_or (queue_of queues d) k x) (q.placed d k x within) ∙ is

pub IsMailbox-taken : (queues : List (List Arrived)) (unread next e : ℕ) (a : Arrived) (rest : List Arrived) → queue_of queues e ≡ a ∷ rest → IsMailbox queues unread next
    → (1 ≤ unread) × IsMailbox (set queues e rest) (unread - 1) next
IsMailbox-taken queues unread next e a rest is m =
    let left : List (List Arrived) = set queues e rest in
    let same : set queues e (drop 1 (queue_of queues e)) ≡ left = ap (λ queue. set queues e (drop 1 queue)) is in
    let fewer : length (in_order queues) ≡ length (in_order left) + 1 = ap length (in_order-taken queues next e a rest m.sorted is) ∙ length-put a (in_order left) in (
      omega (arith, m.counted),
      record {
        sorted = subst (λ qs. AreQueues qs next) same (shorter_queues queues (set queues e (drop 1 (queue_of queues e))) next (shorter_by_first queues e) m.sorted);
        counted = omega (arith, m.counted);
        few = omega (arith, m.few);
      },
    )

-- ---- one end

abbrev pub is_end : ℕ → ℕ → Bool
is_end e d = d == e

first_on_end : (queues : List (List Arrived)) (e : ℕ) (a : Arrived) (rest : List Arrived) → queue_of queues e ≡ a ∷ rest → IsFirst (is_end e) queues e a rest
first_on_end queues e a rest is = record { is = is; asked = eq-eqb e e refl; others = λ d other asked. absurd (other (eqb-true d e asked)) }

fails_on_end : (queues : List (List Arrived)) (next e : ℕ) → AreQueues queues next → queue_of queues e ≡ [] → All (Fails (is_on e)) (in_order queues)
fails_on_end queues next e q empty = fails_everywhere (is_end e) queues next q (λ d asked. ap (queue_of queues) (eqb-true d e asked) ∙ empty)

-- the first letter for an end is the first in its queue
pub find-on : (queues : List (List Arrived)) (next e : ℕ) → AreQueues queues next → find (is_on e) (in_order queues) ≡ slice_get (queue_of queues e) 0
find-on queues next e q = at (queue_of queues e) refl
  where
    at : (queue : List Arrived) → queue_of queues e ≡ queue → find (is_on e) (in_order queues) ≡ slice_get queue 0
    at [] is = find-none (is_on e) (in_order queues) (fails_on_end queues next e q is)
    at (a ∷ rest) is = find-first (is_end e) queues next e a rest q (first_on_end queues e a rest is)

-- without it, its queue has lost its first
pub without_first-on : (queues : List (List Arrived)) (next e : ℕ) → AreQueues queues next
    → without_first (is_on e) (in_order queues) ≡ in_order (set queues e (drop 1 (queue_of queues e)))
without_first-on queues next e q = at (queue_of queues e) refl
  where
    at : (queue : List Arrived) → queue_of queues e ≡ queue → without_first (is_on e) (in_order queues) ≡ in_order (set queues e (drop 1 queue))
    at [] is = without_first-none (is_on e) (in_order queues) (fails_on_end queues next e q is) ∙ ap in_order (sym (same_written queues e [] (sym is)))
    at (a ∷ rest) is = without_first-first (is_end e) queues next e a rest q (first_on_end queues e a rest is)

pub queue_from_first : (queue : List Arrived) (a : Arrived) → slice_get queue 0 ≡ Some a → queue ≡ a ∷ drop 1 queue
queue_from_first [] a is = cc
queue_from_first (b ∷ rest) a is = cc

pub queue_from_none : (queue : List Arrived) → slice_get queue 0 ≡ None → queue ≡ []
queue_from_none [] is = refl
queue_from_none (b ∷ rest) is = cc

pub some_taken : (queues : List (List Arrived)) (unread next e : ℕ) (a : Arrived) → Some a ≡ slice_get (queue_of queues e) 0 → IsMailbox queues unread next
    → (1 ≤ unread) × IsMailbox (set queues e (drop 1 (queue_of queues e))) (unread - 1) next
some_taken queues unread next e a is m = IsMailbox-taken queues unread next e a (drop 1 (queue_of queues e)) (queue_from_first (queue_of queues e) a (sym is)) m

pub none_taken : (queues : List (List Arrived)) (e : ℕ) → None ≡ slice_get (queue_of queues e) 0 → set queues e (drop 1 (queue_of queues e)) ≡ queues
none_taken queues e is =
    let empty : queue_of queues e ≡ [] = queue_from_none (queue_of queues e) (sym is) in
    same_written queues e (drop 1 (queue_of queues e)) (ap (drop 1) empty ∙ sym empty)
