-- What is left to ask for and to answer falls by each fetch and by each page, and no letter, exit or end raises it.
use Rattle.std.proofs.Common.{◌≡◌, ℕ, zero, suc, ◌+◌, ◌<◌, ◌≤◌, add-zero, refl, sym, ◌∙◌, ap, subst, arith, List, [], ◌∷◌, ◌++◌, map, length, length-append, Bool, true, false, cond, not, ◌&&◌, ◌||◌, eqb, eqb-true, eq-eqb, Option, Some, None, is_some, true≢false}
use Rattle.std.specs.Prelude.{filter, find, count_by, sum_by, option_map}
use Rattle.std.specs.List.{list_any, range_with_len}
use Rattle.std.proofs.lemmas.Bool.{and_parts}
use Rattle.std.proofs.lemmas.List.Sums.{sum_by-cons, length-filter, count_by-le-length}
use Rattle.t32_base.specs.declared.process.Pid.{Pid}
use Rattle.t32_base.specs.declared.process.ClusterNo.{ClusterNo}
use Rattle.t32_base.specs.declared.process.End.{End}
use Rattle.sys_text.specs.declared.system.System.{System}
use Rattle.bus_msg.specs.declared.entry.What.{What}
use Rattle.bus_msg.specs.declared.entry.What.TheVariants.{Mail, Exit, Fetch, PageIs, Done, Stop}
use Rattle.bus_msg.specs.declared.entry.By.{By}
use Rattle.bus_msg.specs.declared.entry.By.TheVariants.{Cluster, Bus}
use Rattle.bus_msg.specs.declared.entry.Entry.{Entry}
use Rattle.bus_msg.specs.declared.placed.Placed.{Placed}
use Rattle.bus_msg.specs.Places.{Places, same_pid, unended_at, unended_in}
use Rattle.bus_msg.specs.PlacedAfter.{what, placed_after, after_exit}
use Rattle.cert_sched.specs.Schedule.{placement}
use Rattle.cert_sched.specs.Told.{cluster_lost}
use Rattle.cert_sched.specs.Deeds.{is_birth_of}
use Rattle.cert_sched.specs.Moved.{any_since_moved, moved_with_state, waiting_fetches, is_fetch}
use Rattle.cert_sched.specs.Rules.{is_by_right, is_living, is_by, home_at, tells_or_closes}
use Rattle.cert_sched.specs.Steps.{page_count}
use Rattle.cert_sched.specs.Kinds.{FetchHolds}
use Rattle.cert_sched.specs.Legal.{Stands}
use Rattle.cert_sched.proofs.LogLaws.{placement-snoc}
use Rattle.log_laws.specs.pages.Next.{moves_next}
use Rattle.log_laws.specs.pages.Waited.{is_wait_for}
use Rattle.log_laws.specs.pages.Left.{is_unasked, unasked_of, unasked, left_of_pages}
use Rattle.log_laws.proofs.pages.OneEntry.{moves_none, any_since-goes_on, moved-goes_on, waiting-snoc, waits_after, after_fetch, after_page_is, after_exit_of, after_other}
use Rattle.log_laws.proofs.pages.PagesStay.{page_count-snoc}
use Rattle.log_laws.proofs.pages.Waiting.{fetch_holds, came_waited}

-- ---- sums

pub sum_by-le-each : {X : Type 0} (f g : X → ℕ) → ((x : X) → f x ≤ g x) → (xs : List X) → sum_by f xs ≤ sum_by g xs
sum_by-le-each f g each [] = omega arith
sum_by-le-each f g each (x ∷ xs) = omega (arith, sum_by-cons f x xs, sum_by-cons g x xs, each x, sum_by-le-each f g each xs)

-- less at one that is there makes the sum less
pub sum_by-less : {X : Type 0} (f g : X → ℕ) (t : X → Bool) → ((x : X) → f x ≤ g x) → ((x : X) → t x ≡ true → f x + 1 ≤ g x) → (xs : List X) → list_any t xs ≡ true → sum_by f xs + 1 ≤ sum_by g xs
sum_by-less f g t each less [] there = absurd (true≢false (sym there))
sum_by-less f g t each less (x ∷ xs) there = by_test (t x) refl there (sum_by-less f g t each less xs)
  where
    by_test : (b : Bool) → t x ≡ b → (b || list_any t xs) ≡ true → (list_any t xs ≡ true → sum_by f xs + 1 ≤ sum_by g xs) → sum_by f (x ∷ xs) + 1 ≤ sum_by g (x ∷ xs)
    by_test true is there more = omega (arith, sum_by-cons f x xs, sum_by-cons g x xs, less x is, sum_by-le-each f g each xs)
    by_test false is there more = let rest = more there in omega (arith, sum_by-cons f x xs, sum_by-cons g x xs, each x, rest)

pub in_range : (a n i : ℕ) → i < n → list_any (λ j. eqb j (a + i)) (range_with_len a n) ≡ true
in_range a zero i within = absurd (omega (arith, within))
in_range a (suc n) zero within = ap (λ b. b || list_any (λ j. eqb j (a + 0)) (range_with_len (a + 1) n)) (eq-eqb a (a + 0) (sym (add-zero a)))
in_range a (suc n) (suc i) within =
    let less : i < n = omega (arith, within) in
    let same : (a + 1) + i ≡ a + suc i = omega arith in
    ap (λ b. eqb a (a + suc i) || b) (sym (ap (λ m. list_any (λ j. eqb j m) (range_with_len (a + 1) n)) same) ∙ in_range (a + 1) n i less) ∙ or_true (eqb a (a + suc i))
  where
    or_true : (b : Bool) → (b || true) ≡ true
    or_true true = refl
    or_true false = refl

-- one that passes is taken away
filter_less : {X : Type 0} (t : X → Bool) (xs : List X) → list_any t xs ≡ true → length (filter (λ x. not (t x)) xs) + 1 ≤ length xs
filter_less t [] there = absurd (true≢false (sym there))
filter_less t (x ∷ xs) there = by_test (t x) there (filter_less t xs)
  where
    most : length (filter (λ x. not (t x)) xs) ≤ length xs
    most = subst (λ n. n ≤ length xs) (sym (length-filter (λ x. not (t x)) xs)) (count_by-le-length (λ x. not (t x)) xs)

    by_test : (b : Bool) → (b || list_any t xs) ≡ true → (list_any t xs ≡ true → length (filter (λ x. not (t x)) xs) + 1 ≤ length xs) → length (cond (not b) (x ∷ filter (λ x. not (t x)) xs) (filter (λ x. not (t x)) xs)) + 1 ≤ length (x ∷ xs)
    by_test true there more = omega (arith, most)
    by_test false there more = let rest = more there in omega (arith, rest)

filter_most : {X : Type 0} (t : X → Bool) (xs : List X) → length (filter t xs) ≤ length xs
filter_most t xs = subst (λ n. n ≤ length xs) (sym (length-filter t xs)) (count_by-le-length t xs)

-- ---- the pages of one process

abbrev pub one_if : Bool → ℕ
one_if b = cond b 1 0

-- a page was not asked for, nor is it by the entry
abbrev unasked_then : System → List Entry → Entry → Pid → ℕ → Bool
unasked_then system log e r j = not (any_since_moved system log r (is_fetch r j) || is_fetch r j (what e))

fewer : (a b : Bool) → one_if (not (a || b)) ≤ one_if (not a)
fewer true b = omega arith
fewer false true = omega arith
fewer false false = omega arith

module _ (system : System) (log : List Entry) (e : Entry) (stands : Stands system log e) (r : Pid) (no_birth : is_birth_of r (what e) ≡ false) (stays : moves_next system log e r ≡ false) where
  unasked_of-snoc : unasked_of system (log ++ e ∷ []) r ≡ cond (moved_with_state system log r) (count_by (unasked_then system log e r) (range_with_len 0 (page_count system log r))) 0
  unasked_of-snoc k = cond (moved-goes_on system log e r stays k) (count_by (λ j. not (any_since-goes_on system log e r (is_fetch r j) stays k)) (range_with_len 0 (page_count-snoc system log e r no_birth stands.applies k))) 0

  pub unasked_of-most : unasked_of system (log ++ e ∷ []) r ≤ unasked_of system log r
  unasked_of-most = subst (λ n. n ≤ unasked_of system log r) (sym unasked_of-snoc) (by_moved (moved_with_state system log r))
    where
      by_moved : (b : Bool) → cond b (count_by (unasked_then system log e r) (range_with_len 0 (page_count system log r))) 0 ≤ cond b (count_by (is_unasked system log r) (range_with_len 0 (page_count system log r))) 0
      by_moved false = omega arith
      by_moved true =
          sum_by-le-each (λ j. one_if (unasked_then system log e r j)) (λ j. one_if (is_unasked system log r j)) (λ j. fewer (any_since_moved system log r (is_fetch r j)) (is_fetch r j (what e)))
          (range_with_len 0 (page_count system log r))

-- a fetch leaves one page less to be asked for
fetch-less : (system : System) (log : List Entry) (e : Entry) (p : Pid) (i : ℕ) → Stands system log e → what e ≡ Fetch p i → moves_next system log e p ≡ false → unasked_of system (log ++ e ∷ []) p + 1 ≤ unasked_of system log p
fetch-less system log e p i stands is stays =
    let now : unasked_of system (log ++ e ∷ []) p ≡ count_by (unasked_then system log e p) (range_with_len 0 (page_count system log p)) =
    unasked_of-snoc system log e stands p (ap (is_birth_of p) is) stays ∙ ap (λ b. cond b (count_by (unasked_then system log e p) (range_with_len 0 (page_count system log p))) 0) holds.moved in
    let was : unasked_of system log p ≡ count_by (is_unasked system log p) (range_with_len 0 (page_count system log p)) = ap (λ b. cond b (count_by (is_unasked system log p) (range_with_len 0 (page_count system log p))) 0) holds.moved in
    omega (arith, now, was, less)
  where
    holds : FetchHolds system log p i
    holds = fetch_holds system log e p i stands is

    asks : is_fetch p i (what e) ≡ true
    asks = ap (is_fetch p i) is ∙ (λ k. eq-eqb p.0 p.0 refl k && eq-eqb i i refl k)

    at_page : (j : ℕ) → eqb j i ≡ true → one_if (unasked_then system log e p j) + 1 ≤ one_if (is_unasked system log p j)
    at_page j same =
        let here : j ≡ i = eqb-true j i same in
        let then : one_if (unasked_then system log e p i) ≡ 0 = (λ k. one_if (not (holds.unasked k || asks k))) in
        let before : one_if (is_unasked system log p i) ≡ 1 = (λ k. one_if (not (holds.unasked k))) in
        subst (λ m. one_if (unasked_then system log e p m) + 1 ≤ one_if (is_unasked system log p m)) (sym here) (omega (arith, then, before))

    there : list_any (λ j. eqb j i) (range_with_len 0 (page_count system log p)) ≡ true
    there = ap (λ m. list_any (λ j. eqb j m) (range_with_len 0 (page_count system log p))) (zero_more i) ∙ in_range 0 (page_count system log p) i holds.within
      where
        zero_more : (n : ℕ) → n ≡ 0 + n
        zero_more n = omega arith

    less : count_by (unasked_then system log e p) (range_with_len 0 (page_count system log p)) + 1 ≤ count_by (is_unasked system log p) (range_with_len 0 (page_count system log p))
    less = sum_by-less (λ j. one_if (unasked_then system log e p j)) (λ j. one_if (is_unasked system log p j)) (λ j. eqb j i)
        (λ j. fewer (any_since_moved system log p (is_fetch p j)) (is_fetch p j (what e))) at_page (range_with_len 0 (page_count system log p)) there

-- ---- all processes

-- who asks has not ended
asker_there : (by : By) (o : Option ClusterNo) → is_by by o ≡ true → is_some o ≡ true
asker_there (Cluster k) None right = absurd (true≢false (sym right))
asker_there (Cluster k) (Some j) right = refl
asker_there Bus o right = absurd (true≢false (sym right))

pub unended_there : (p : Pid) (qs : List Placed) → is_some (find (λ (q : Placed). same_pid q.pid p && not q.ended) qs) ≡ true → list_any (λ (q : Placed). same_pid q.pid p) (filter (λ (q : Placed). not q.ended) qs) ≡ true
unended_there p [] there = absurd (true≢false (sym there))
unended_there p (q ∷ qs) there = by_tests (same_pid q.pid p) q.ended refl there (unended_there p qs)
  where
    by_tests : (s d : Bool) → same_pid q.pid p ≡ s → is_some (cond (s && not d) (Some q) (find (λ (q : Placed). same_pid q.pid p && not q.ended) qs)) ≡ true
        → (is_some (find (λ (q : Placed). same_pid q.pid p && not q.ended) qs) ≡ true → list_any (λ (q : Placed). same_pid q.pid p) (filter (λ (q : Placed). not q.ended) qs) ≡ true)
        → list_any (λ (q : Placed). same_pid q.pid p) (cond (not d) (q ∷ filter (λ (q : Placed). not q.ended) qs) (filter (λ (q : Placed). not q.ended) qs)) ≡ true
    by_tests true true is there more = more there
    by_tests true false is there more = ap (λ b. b || list_any (λ (q : Placed). same_pid q.pid p) (filter (λ (q : Placed). not q.ended) qs)) is
    by_tests false true is there more = more there
    by_tests false false is there more = ap (λ b. b || list_any (λ (q : Placed). same_pid q.pid p) (filter (λ (q : Placed). not q.ended) qs)) is ∙ more there

pub asker_is_there : (system : System) (log : List Entry) (e : Entry) (p : Pid) (i : ℕ) → Stands system log e → what e ≡ Fetch p i → is_some (unended_at (placement system log) p) ≡ true
asker_is_there system log e p i stands is = from_home (unended_at (placement system log) p) home
  where
    right : is_by_right (placement system log) (e.post).by (Fetch p i) ≡ true
    right = sym (ap (is_by_right (placement system log) (e.post).by) is) ∙ stands.by_right

    home : is_some (home_at (placement system log) p) ≡ true
    home = asker_there (e.post).by (home_at (placement system log) p) (and_parts (is_living (placement system log) (e.post).by) (is_by (e.post).by (home_at (placement system log) p)) right).1

    from_home : (o : Option Placed) → is_some (option_map (λ (q : Placed). q.home) o) ≡ true → is_some o ≡ true
    from_home None h = h
    from_home (Some q) h = refl

asker_unended : (system : System) (log : List Entry) (e : Entry) (p : Pid) (i : ℕ) → Stands system log e → what e ≡ Fetch p i → list_any (λ (q : Placed). same_pid q.pid p) (unended_in (placement system log)) ≡ true
asker_unended system log e p i stands is = unended_there p (placement system log).placed (asker_is_there system log e p i stands is)

module _ (system : System) (log : List Entry) (e : Entry) (stands : Stands system log e) (no_birth : (r : Pid) → is_birth_of r (what e) ≡ false) (none : (r : Pid) → moves_next system log e r ≡ false) where
  -- over the same processes no more is unasked
  pub most_over : (qs : List Placed) → sum_by (λ (q : Placed). unasked_of system (log ++ e ∷ []) q.pid) qs ≤ sum_by (λ (q : Placed). unasked_of system log q.pid) qs
  most_over qs = sum_by-le-each (λ (q : Placed). unasked_of system (log ++ e ∷ []) q.pid) (λ (q : Placed). unasked_of system log q.pid) (λ q. unasked_of-most system log e stands q.pid (no_birth q.pid) (none q.pid)) qs

  unasked-most : placement system (log ++ e ∷ []) ≡ placement system log → unasked system (log ++ e ∷ []) ≤ unasked system log
  unasked-most same =
      subst (λ (places : Places). sum_by (λ (q : Placed). unasked_of system (log ++ e ∷ []) q.pid) (unended_in places) ≤ unasked system log) (sym same) (most_over (unended_in (placement system log)))

unasked-less : (system : System) (log : List Entry) (e : Entry) (p : Pid) (i : ℕ) → Stands system log e → what e ≡ Fetch p i → unasked system (log ++ e ∷ []) + 1 ≤ unasked system log
unasked-less system log e p i stands is =
    subst (λ (places : Places). sum_by (λ (q : Placed). unasked_of system (log ++ e ∷ []) q.pid) (unended_in places) + 1 ≤ unasked system log)
    (sym (placement-snoc system log e ∙ ap (placed_after (placement system log)) is))
    (sum_by-less (λ (q : Placed). unasked_of system (log ++ e ∷ []) q.pid) (λ (q : Placed). unasked_of system log q.pid) (λ (q : Placed). same_pid q.pid p)
    (λ q. unasked_of-most system log e stands q.pid (ap (is_birth_of q.pid) is) (none q.pid)) at_asker (unended_in (placement system log)) (asker_unended system log e p i stands is))
  where
    none : (r : Pid) → moves_next system log e r ≡ false
    none = moves_none system log e (ap cluster_lost is)

    at_asker : (q : Placed) → same_pid q.pid p ≡ true → unasked_of system (log ++ e ∷ []) q.pid + 1 ≤ unasked_of system log q.pid
    at_asker q same =
        let here : p ≡ q.pid = λ k. record { 0 = sym (eqb-true (q.pid).0 p.0 same) k } in
        subst (λ r. unasked_of system (log ++ e ∷ []) r + 1 ≤ unasked_of system log r) here (fetch-less system log e p i stands is (none p))

-- who exits is counted no more
pub exit_sum : (g : Pid → ℕ) (p : Pid) (qs : List Placed)
    → sum_by (λ (q : Placed). g q.pid) (filter (λ (q : Placed). not q.ended) (map (after_exit p) qs)) ≤ sum_by (λ (q : Placed). g q.pid) (filter (λ (q : Placed). not q.ended) qs)
exit_sum g p [] = omega arith
exit_sum g p (q ∷ qs) = by_pid (same_pid q.pid p) (exit_sum g p qs)
  where
    goes_on : (d : Bool) → sum_by (λ (q : Placed). g q.pid) (filter (λ (q : Placed). not q.ended) (map (after_exit p) qs)) ≤ sum_by (λ (q : Placed). g q.pid) (filter (λ (q : Placed). not q.ended) qs)
        → sum_by (λ (q : Placed). g q.pid) (cond (not d) (q ∷ filter (λ (q : Placed). not q.ended) (map (after_exit p) qs)) (filter (λ (q : Placed). not q.ended) (map (after_exit p) qs)))
        ≤ sum_by (λ (q : Placed). g q.pid) (cond (not d) (q ∷ filter (λ (q : Placed). not q.ended) qs) (filter (λ (q : Placed). not q.ended) qs))
    goes_on true more = more
    goes_on false more =
        omega (arith, more, sum_by-cons (λ (q : Placed). g q.pid) q (filter (λ (q : Placed). not q.ended) (map (after_exit p) qs)), sum_by-cons (λ (q : Placed). g q.pid) q (filter (λ (q : Placed). not q.ended) qs))

    gone : (d : Bool) → sum_by (λ (q : Placed). g q.pid) (filter (λ (q : Placed). not q.ended) (map (after_exit p) qs)) ≤ sum_by (λ (q : Placed). g q.pid) (filter (λ (q : Placed). not q.ended) qs)
        → sum_by (λ (q : Placed). g q.pid) (filter (λ (q : Placed). not q.ended) (map (after_exit p) qs))
        ≤ sum_by (λ (q : Placed). g q.pid) (cond (not d) (q ∷ filter (λ (q : Placed). not q.ended) qs) (filter (λ (q : Placed). not q.ended) qs))
    gone true more = more
    gone false more = omega (arith, more, sum_by-cons (λ (q : Placed). g q.pid) q (filter (λ (q : Placed). not q.ended) qs))

    by_pid : (s : Bool) → sum_by (λ (q : Placed). g q.pid) (filter (λ (q : Placed). not q.ended) (map (after_exit p) qs)) ≤ sum_by (λ (q : Placed). g q.pid) (filter (λ (q : Placed). not q.ended) qs)
        → sum_by (λ (q : Placed). g q.pid) (filter (λ (q : Placed). not q.ended) (cond s (record q { ended = true }) q ∷ map (after_exit p) qs))
        ≤ sum_by (λ (q : Placed). g q.pid) (filter (λ (q : Placed). not q.ended) (q ∷ qs))
    by_pid true more = gone q.ended more
    by_pid false more = goes_on q.ended more

unasked-exit : (system : System) (log : List Entry) (e : Entry) (p : Pid) (at : ℕ) (end : End) → Stands system log e → what e ≡ Exit p at end → unasked system (log ++ e ∷ []) ≤ unasked system log
unasked-exit system log e p at end stands is =
    let first : sum_by (λ (q : Placed). unasked_of system (log ++ e ∷ []) q.pid) (unended_in (placed_after (placement system log) (Exit p at end))) ≤ sum_by (λ (q : Placed). unasked_of system (log ++ e ∷ []) q.pid) (unended_in (placement system log)) =
    exit_sum (unasked_of system (log ++ e ∷ [])) p (placement system log).placed in
    let second = most_over system log e stands (λ r. ap (is_birth_of r) is) (moves_none system log e (ap cluster_lost is)) (unended_in (placement system log)) in
    subst (λ (places : Places). sum_by (λ (q : Placed). unasked_of system (log ++ e ∷ []) q.pid) (unended_in places) ≤ unasked system log)
    (sym (placement-snoc system log e ∙ ap (placed_after (placement system log)) is)) (omega (arith, first, second))

-- ---- what is left

pub left_fetch : (system : System) (log : List Entry) (e : Entry) (p : Pid) (i : ℕ) → Stands system log e → what e ≡ Fetch p i → left_of_pages system (log ++ e ∷ []) < left_of_pages system log
left_fetch system log e p i stands is =
    let asked = unasked-less system log e p i stands is in
    let waits : length (waiting_fetches system (log ++ e ∷ [])) ≡ length (waiting_fetches system log) + 1 =
    ap length (waiting-snoc system log e ∙ ap (λ w. waits_after (placement system log) w (waiting_fetches system log)) is ∙ after_fetch (placement system log) p i (waiting_fetches system log))
    ∙ length-append (waiting_fetches system log) ((p, i) ∷ []) in
    omega (arith, asked, waits)

pub left_page_is : (system : System) (log : List Entry) (e : Entry) (p : Pid) (i : ℕ) (bytes : List ℕ) → Stands system log e → what e ≡ PageIs p i bytes → left_of_pages system (log ++ e ∷ []) < left_of_pages system log
left_page_is system log e p i bytes stands is =
    let asked = unasked-most system log e stands (λ r. ap (is_birth_of r) is) (moves_none system log e (ap cluster_lost is)) (placement-snoc system log e ∙ ap (placed_after (placement system log)) is) in
    let waits : length (waiting_fetches system (log ++ e ∷ [])) ≡ length (filter (λ (f : Pid × ℕ). not (is_wait_for p i f)) (waiting_fetches system log)) =
    ap length (waiting-snoc system log e ∙ ap (λ w. waits_after (placement system log) w (waiting_fetches system log)) is ∙ after_page_is (placement system log) p i bytes (waiting_fetches system log)) in
    let less = filter_less (is_wait_for p i) (waiting_fetches system log) (came_waited system log e p i bytes stands is) in
    omega (arith, asked, waits, less)

module _ (system : System) (log : List Entry) (e : Entry) (stands : Stands system log e) where
  pub left_still : (w : What) → what e ≡ w → cluster_lost w ≡ None → ((r : Pid) → is_birth_of r w ≡ false) → placed_after (placement system log) w ≡ placement system log → waits_after (placement system log) w (waiting_fetches system log) ≡ waiting_fetches system log
      → left_of_pages system (log ++ e ∷ []) ≤ left_of_pages system log
  left_still w is no_crash no_birth places waits =
      let asked = unasked-most system log e stands (λ r. ap (is_birth_of r) is ∙ no_birth r) (moves_none system log e (ap cluster_lost is ∙ no_crash)) (placement-snoc system log e ∙ ap (placed_after (placement system log)) is ∙ places) in
      let same : length (waiting_fetches system (log ++ e ∷ [])) ≡ length (waiting_fetches system log) =
      ap length (waiting-snoc system log e ∙ ap (λ w. waits_after (placement system log) w (waiting_fetches system log)) is ∙ waits) in
      omega (arith, asked, same)

  left_exit : (p : Pid) (at : ℕ) (end : End) → what e ≡ Exit p at end → left_of_pages system (log ++ e ∷ []) ≤ left_of_pages system log
  left_exit p at end is =
      let asked = unasked-exit system log e p at end stands is in
      let same : length (waiting_fetches system (log ++ e ∷ [])) ≡ length (filter (λ (f : Pid × ℕ). not (same_pid f.0 p)) (waiting_fetches system log)) =
      ap length (waiting-snoc system log e ∙ ap (λ w. waits_after (placement system log) w (waiting_fetches system log)) is ∙ after_exit_of (placement system log) p at end (waiting_fetches system log)) in
      let most = filter_most (λ (f : Pid × ℕ). not (same_pid f.0 p)) (waiting_fetches system log) in
      omega (arith, asked, same, most)

  by_what : (w : What) → what e ≡ w → tells_or_closes w ≡ true → left_of_pages system (log ++ e ∷ []) ≤ left_of_pages system log
  by_what (Mail at letter) is tells = left_still (Mail at letter) is refl (λ r. refl) refl (after_other (Mail at letter) refl (placement system log) (waiting_fetches system log))
  by_what (Exit p at end) is tells = left_exit p at end is
  by_what (Done rests) is tells = left_still (Done rests) is refl (λ r. refl) refl (after_other (Done rests) refl (placement system log) (waiting_fetches system log))
  by_what Stop is tells = left_still Stop is refl (λ r. refl) refl (after_other Stop refl (placement system log) (waiting_fetches system log))
  by_what _ is tells = absurd (true≢false (sym tells))

  pub left_most : tells_or_closes (what e) ≡ true → left_of_pages system (log ++ e ∷ []) ≤ left_of_pages system log
  left_most tells = by_what (what e) refl tells
