-- Who is at home in a cluster after the loss of another: who was, and whom the loss moves here.
use Rattle.std.proofs.Common.{◌≡◌, ℕ, refl, sym, ◌∙◌, ap, arith, List, [], ◌∷◌, map, Bool, true, false, cond, not, ◌&&◌, ◌||◌, ltb, eqb, eqb-true, Option, Some, None, true≢false}
use Rattle.std.specs.Prelude.{filter, find, nat_lt}
use Rattle.std.specs.List.{list_all, list_any}
use Rattle.std.specs.Option.{option_map_or}
use Rattle.std.proofs.lemmas.Bool.{and_parts, or_parts}
use Rattle.std.proofs.lemmas.Bool.Decides.{nat_tests}
use Rattle.t32_base.specs.declared.process.Pid.{Pid}
use Rattle.t32_base.specs.declared.process.ClusterNo.{ClusterNo}
use Rattle.t32_base.specs.declared.letter.BackRec.{BackRec}
use Rattle.write_count.specs.Counting.{no_counts}
use Rattle.bus_msg.specs.declared.placed.Placed.{Placed}
use Rattle.bus_msg.specs.Places.{is_at_home, is_cluster, same_cluster, same_pid}
use Rattle.bus_msg.specs.PlacedAfter.{after_loss, moved_to}
use Rattle.crash_notice.specs.Splitting.{is_moved_here}
use Rattle.plain_kernel.specs.Maps.{pid_of}
use Rattle.cert_sched.specs.Parts.{put_rising, rising}
use Rattle.cert_sched.proofs.PidLaws.{placed_pids}
use Rattle.cert_sched.proofs.RisingLaws.{NoTwo, put_all, put_all-put, put_rising-swap, rising-any}
use Rattle.backup_records.specs.Records.{are_rising, record_in}
use Rattle.log_laws.proofs.records.RisingRecords.{rising_same}
use Rattle.page_waits.specs.Begun.{number_of}
use Rattle.cluster_core.proofs.losses.Homes.{home_more, pids_home}

-- ---- one process

-- the process keeps its pid
pub loss_pid : (lost : ClusterNo) (q : Placed) → ((after_loss lost q).pid).0 ≡ (q.pid).0
loss_pid lost q = by_tests q.ended (same_cluster q.home lost) (is_cluster q.backup lost)
  where
    moved : (o : Option ClusterNo) → ((moved_to q lost o).pid).0 ≡ (q.pid).0
    moved None = refl
    moved (Some b) = refl

    by_tests : (e h b : Bool) → ((cond e q (cond h (moved_to q lost q.backup) (cond b (record q { backup = None; lost = Some lost }) q))).pid).0 ≡ (q.pid).0
    by_tests true h b = refl
    by_tests false true b = moved q.backup
    by_tests false false true = refl
    by_tests false false false = refl

-- who is not at home in the lost cluster stays where it is
pub stays_home : (lost : ClusterNo) (q : Placed) → same_cluster q.home lost ≡ false → (after_loss lost q).home ≡ q.home
stays_home lost q away = ap (λ h. (cond q.ended q (cond h (moved_to q lost q.backup) (cond (is_cluster q.backup lost) (record q { backup = None; lost = Some lost }) q))).home) away ∙ by_test q.ended (is_cluster q.backup lost)
  where
    by_test : (a b : Bool) → (cond a q (cond b (record q { backup = None; lost = Some lost }) q)).home ≡ q.home
    by_test true b = refl
    by_test false true = refl
    by_test false false = refl

-- who is at home in the lost cluster is not here
elsewhere : (lost k : ClusterNo) (q : Placed) → same_cluster lost k ≡ false → same_cluster q.home lost ≡ true → same_cluster q.home k ≡ false
elsewhere lost k q apart home = ap (λ n. eqb n k.0) (eqb-true (q.home).0 lost.0 home) ∙ apart

-- it is at home here after the loss where it was, or where it is moved here
home_after : (lost k : ClusterNo) (q : Placed) → same_cluster lost k ≡ false → is_at_home k (after_loss lost q) ≡ (is_moved_here lost k q || is_at_home k q)
home_after lost k q apart = by_tests q.ended (same_cluster q.home lost) refl refl
  where
    none : (h b : Bool) → ((h && false) && b) ≡ false
    none true b = refl
    none false b = refl

    away : same_cluster q.home lost ≡ true → is_at_home k q ≡ false
    away home = ap (λ b. b && not q.ended) (elsewhere lost k q apart home)

    moved : (o : Option ClusterNo) → q.backup ≡ o → same_cluster q.home lost ≡ true → q.ended ≡ false → is_at_home k (moved_to q lost o) ≡ ((same_cluster q.home lost && not q.ended && is_cluster q.backup k) || is_at_home k q)
    moved None backup home open_still = sym (λ i. ((home i && not (open_still i)) && is_cluster (backup i) k) || is_at_home k q)
    moved (Some b) backup home open_still =
        (λ i. same_cluster b k && not (open_still i)) ∙ and_true (same_cluster b k) ∙ or_false (same_cluster b k)
        ∙ sym (λ i. ((home i && not (open_still i)) && is_cluster (backup i) k) || away home i)
      where
        and_true : (b : Bool) → (b && true) ≡ b
        and_true true = refl
        and_true false = refl

        or_false : (b : Bool) → b ≡ (b || false)
        or_false true = refl
        or_false false = refl

    stays : (b : Bool) → is_at_home k (cond b (record q { backup = None; lost = Some lost }) q) ≡ is_at_home k q
    stays true = refl
    stays false = refl

    by_tests : (e h : Bool) → q.ended ≡ e → same_cluster q.home lost ≡ h
        → is_at_home k (cond e q (cond h (moved_to q lost q.backup) (cond (is_cluster q.backup lost) (record q { backup = None; lost = Some lost }) q))) ≡ ((same_cluster q.home lost && not q.ended && is_cluster q.backup k) || is_at_home k q)
    by_tests true h ended home = sym (ap (λ b. b || is_at_home k q) ((λ i. (same_cluster q.home lost && not (ended i)) && is_cluster q.backup k) ∙ none (same_cluster q.home lost) (is_cluster q.backup k)))
    by_tests false true ended home = moved q.backup refl home ended
    by_tests false false ended home = stays (is_cluster q.backup lost) ∙ sym (ap (λ h. ((h && not q.ended) && is_cluster q.backup k) || is_at_home k q) home)

-- never both
not_both : (lost k : ClusterNo) (q : Placed) → same_cluster lost k ≡ false → is_moved_here lost k q ≡ true → is_at_home k q ≡ false
not_both lost k q apart moves =
    let first = and_parts (is_at_home lost q) (is_cluster q.backup k) moves in
    let home = and_parts (same_cluster q.home lost) (not q.ended) first.0 in
    ap (λ b. b && not q.ended) (elsewhere lost k q apart home.0)

-- ---- all of them

-- the pids of those that the loss moves here
abbrev pub pids_moved : ClusterNo → ClusterNo → List Placed → List ℕ
pids_moved lost k qs = map (λ (q : Placed). (q.pid).0) (filter (is_moved_here lost k) qs)

-- at home here are those that were, and those
pub homes_after : (lost k : ClusterNo) (qs : List Placed) → same_cluster lost k ≡ false → rising (pids_home k (map (after_loss lost) qs)) ≡ put_all (pids_moved lost k qs) (rising (pids_home k qs))
homes_after lost k [] apart = refl
homes_after lost k (q ∷ qs) apart =
    ap rising (home_more k (after_loss lost q) (map (after_loss lost) qs))
    ∙ (λ i. rising (cond (home_after lost k q apart i) (loss_pid lost q i ∷ pids_home k (map (after_loss lost) qs)) (pids_home k (map (after_loss lost) qs))))
    ∙ by_tests (is_moved_here lost k q) (is_at_home k q) (not_both lost k q apart) (homes_after lost k qs apart)
    ∙ ap (λ ns. put_all (pids_moved lost k (q ∷ qs)) (rising ns)) (sym (home_more k q qs))
  where
    by_tests : (m a : Bool) → (m ≡ true → a ≡ false) → rising (pids_home k (map (after_loss lost) qs)) ≡ put_all (pids_moved lost k qs) (rising (pids_home k qs))
        → rising (cond (m || a) ((q.pid).0 ∷ pids_home k (map (after_loss lost) qs)) (pids_home k (map (after_loss lost) qs)))
        ≡ put_all (map (λ (q : Placed). (q.pid).0) (cond m (q ∷ filter (is_moved_here lost k) qs) (filter (is_moved_here lost k) qs))) (rising (cond a ((q.pid).0 ∷ pids_home k qs) (pids_home k qs)))
    by_tests true true both more = absurd (true≢false (both refl))
    by_tests true false both more = ap (put_rising (q.pid).0) more
    by_tests false true both more = ap (put_rising (q.pid).0) more ∙ sym (put_all-put (pids_moved lost k qs) (q.pid).0 (rising (pids_home k qs)))
    by_tests false false both more = more

-- ---- whether one of them is moved

-- where no pid stands twice, the process that is found says it
pub any_moved : (lost k : ClusterNo) (qs : List Placed) (p : Pid) → NoTwo (placed_pids qs) → list_any (λ m. eqb m p.0) (pids_moved lost k qs) ≡ option_map_or (is_moved_here lost k) (find (λ (q : Placed). same_pid q.pid p) qs) false
any_moved lost k [] p two = refl
any_moved lost k (q ∷ qs) p two = by_tests (is_moved_here lost k q) refl (same_pid q.pid p) refl (any_moved lost k qs p two.1)
  where
    fewer : (t : ℕ → Bool) (rs : List Placed) → list_any t (placed_pids rs) ≡ false → list_any t (pids_moved lost k rs) ≡ false
    fewer t [] none = refl
    fewer t (r ∷ rs) none = let parts = or_parts (t (r.pid).0) (list_any t (placed_pids rs)) none in by_move (is_moved_here lost k r) parts.0 (fewer t rs parts.1)
      where
        by_move : (m : Bool) → t (r.pid).0 ≡ false → list_any t (pids_moved lost k rs) ≡ false → list_any t (map (λ (q : Placed). (q.pid).0) (cond m (r ∷ filter (is_moved_here lost k) rs) (filter (is_moved_here lost k) rs))) ≡ false
        by_move true first more = λ i. first i || more i
        by_move false first more = more

    none_left : same_pid q.pid p ≡ true → list_any (λ m. eqb m p.0) (pids_moved lost k qs) ≡ false
    none_left is = fewer (λ m. eqb m p.0) qs (ap (λ n. list_any (λ m. eqb m n) (placed_pids qs)) (sym (eqb-true (q.pid).0 p.0 is)) ∙ two.0)

    by_tests : (m : Bool) → is_moved_here lost k q ≡ m → (b : Bool) → same_pid q.pid p ≡ b → list_any (λ m. eqb m p.0) (pids_moved lost k qs) ≡ option_map_or (is_moved_here lost k) (find (λ (q : Placed). same_pid q.pid p) qs) false
        → list_any (λ m. eqb m p.0) (map (λ (q : Placed). (q.pid).0) (cond m (q ∷ filter (is_moved_here lost k) qs) (filter (is_moved_here lost k) qs)))
        ≡ option_map_or (is_moved_here lost k) (cond b (Some q) (find (λ (q : Placed). same_pid q.pid p) qs)) false
    by_tests true moves true is more = ap (λ b. b || list_any (λ m. eqb m p.0) (pids_moved lost k qs)) is ∙ sym moves
    by_tests true moves false is more = ap (λ b. b || list_any (λ m. eqb m p.0) (pids_moved lost k qs)) is ∙ more
    by_tests false moves true is more = none_left is ∙ sym moves
    by_tests false moves false is more = more

-- ---- the same numbers

-- a record that has nothing but a number
abbrev blank : ℕ → BackRec
blank n = record { pid = pid_of n; state = None; saved = []; next = 0; counts = no_counts; births = [] }

abbrev blanks : List ℕ → List BackRec
blanks ns = map blank ns

all_below : (n : ℕ) (ns : List ℕ) → list_all (λ m. ltb n m) ns ≡ true → list_all (λ (s : BackRec). nat_lt n (s.pid).0) (blanks ns) ≡ true
all_below n [] below = refl
all_below n (m ∷ ns) below = let parts = and_parts (ltb n m) (list_all (λ m. ltb n m) ns) below in λ i. parts.0 i && all_below n ns parts.1 i

below_put : (n m : ℕ) (ms : List ℕ) → ltb n m ≡ true → list_all (λ m. ltb n m) ms ≡ true → list_all (λ m. ltb n m) (put_rising m ms) ≡ true
below_put n m [] first rest = λ i. first i && true
below_put n m (l ∷ ms) first rest =
    let parts = and_parts (ltb n l) (list_all (λ m. ltb n m) ms) rest in
    by_order (ltb m l) parts.0 (below_put n m ms first parts.1)
  where
    by_order : (b : Bool) → ltb n l ≡ true → list_all (λ m. ltb n m) (put_rising m ms) ≡ true → list_all (λ m. ltb n m) (cond b (m ∷ l ∷ ms) (l ∷ put_rising m ms)) ≡ true
    by_order true one more = λ i. first i && rest i
    by_order false one more = λ i. one i && more i

less_than_all : (n m : ℕ) (ms : List ℕ) → ltb n m ≡ true → list_all (λ l. ltb m l) ms ≡ true → list_all (λ l. ltb n l) ms ≡ true
less_than_all n m [] less above = refl
less_than_all n m (l ∷ ms) less above =
    let parts = and_parts (ltb m l) (list_all (λ l. ltb m l) ms) above in
    λ i. through n m l less parts.0 i && less_than_all n m ms less parts.1 i
  where
    through : (a b c : ℕ) → ltb a b ≡ true → ltb b c ≡ true → ltb a c ≡ true
    through a b c first then = grind (arith, nat_tests)

abbrev Rises : List ℕ → Type 0
Rises ns = are_rising (blanks ns) ≡ true

-- a rising list of numbers, as pairs of its first and the rest
rises_parts : (n : ℕ) (ns : List ℕ) → Rises (n ∷ ns) → (list_all (λ m. ltb n m) ns ≡ true) × Rises ns
rises_parts n ns rises =
    let parts = and_parts (list_all (λ (s : BackRec). nat_lt n (s.pid).0) (blanks ns)) (are_rising (blanks ns)) rises in
    (back ns parts.0, parts.1)
  where
    back : (ns : List ℕ) → list_all (λ (s : BackRec). nat_lt n (s.pid).0) (blanks ns) ≡ true → list_all (λ m. ltb n m) ns ≡ true
    back [] below = refl
    back (m ∷ ns) below = let parts = and_parts (nat_lt n m) (list_all (λ (s : BackRec). nat_lt n (s.pid).0) (blanks ns)) below in λ i. parts.0 i && back ns parts.1 i

put_rises : (n : ℕ) (ns : List ℕ) → list_any (λ m. eqb m n) ns ≡ false → Rises ns → Rises (put_rising n ns)
put_rises n [] none rises = refl
put_rises n (m ∷ ns) none rises =
    let apart = or_parts (eqb m n) (list_any (λ m. eqb m n) ns) none in
    let parts = rises_parts m ns rises in
    by_order (ltb n m) refl apart.0 parts.0 (put_rises n ns apart.1 parts.1)
  where
    above : (a b : ℕ) → ltb a b ≡ false → eqb b a ≡ false → ltb b a ≡ true
    above a b not_below apart = grind (arith, nat_tests)

    by_order : (b : Bool) → ltb n m ≡ b → eqb m n ≡ false → list_all (λ l. ltb m l) ns ≡ true → Rises (put_rising n ns) → Rises (cond b (n ∷ m ∷ ns) (m ∷ put_rising n ns))
    by_order true less apart rest more = λ i. (less i && all_below n ns (less_than_all n m ns less rest) i) && rises i
    by_order false less apart rest more = λ i. all_below m (put_rising n ns) (below_put m n ns (above n m less apart) rest) i && more i

-- numbers of which none stands twice rise strictly once they are in order
sorted_rises : (ns : List ℕ) → NoTwo ns → Rises (rising ns)
sorted_rises [] two = refl
sorted_rises (n ∷ ns) two = put_rises n (rising ns) (rising-any (λ m. eqb m n) ns ∙ two.0) (sorted_rises ns two.1)

blank_in : (ns : List ℕ) (p : Pid) → record_in (blanks ns) p ≡ cond (list_any (λ m. eqb m p.0) ns) (Some (blank p.0)) None
blank_in [] p = refl
blank_in (n ∷ ns) p = by_test (eqb n p.0) refl (blank_in ns p)
  where
    by_test : (b : Bool) → eqb n p.0 ≡ b → record_in (blanks ns) p ≡ cond (list_any (λ m. eqb m p.0) ns) (Some (blank p.0)) None
        → cond b (Some (blank n)) (record_in (blanks ns) p) ≡ cond (b || list_any (λ m. eqb m p.0) ns) (Some (blank p.0)) None
    by_test true is more = ap (λ m. Some (blank m)) (eqb-true n p.0 is)
    by_test false is more = more

numbers_of : (ns : List ℕ) → map number_of (blanks ns) ≡ ns
numbers_of [] = refl
numbers_of (n ∷ ns) = ap (λ ms. n ∷ ms) (numbers_of ns)

-- two lists in which no number stands twice and the same numbers stand are one in order
pub same_in_order : (ns ms : List ℕ) → NoTwo ns → NoTwo ms → ((p : Pid) → list_any (λ m. eqb m p.0) ns ≡ list_any (λ m. eqb m p.0) ms) → rising ns ≡ rising ms
same_in_order ns ms two twos same =
    let found : (p : Pid) → record_in (blanks (rising ns)) p ≡ record_in (blanks (rising ms)) p =
    λ p.
    blank_in (rising ns) p
    ∙ ap (λ b. cond b (Some (blank p.0)) None) (rising-any (λ m. eqb m p.0) ns ∙ same p ∙ sym (rising-any (λ m. eqb m p.0) ms))
    ∙ sym (blank_in (rising ms) p) in
    sym (numbers_of (rising ns)) ∙ ap (map number_of) (rising_same (blanks (rising ns)) (blanks (rising ms)) (sorted_rises ns two) (sorted_rises ms twos) found) ∙ numbers_of (rising ms)

-- numbers that are put in their places one after another, in order or not
put_first : (n : ℕ) (xs zs : List ℕ) → put_all (put_rising n xs) zs ≡ put_rising n (put_all xs zs)
put_first n [] zs = refl
put_first n (x ∷ xs) zs = by_order (ltb n x) (put_first n xs zs)
  where
    by_order : (b : Bool) → put_all (put_rising n xs) zs ≡ put_rising n (put_all xs zs) → put_all (cond b (n ∷ x ∷ xs) (x ∷ put_rising n xs)) zs ≡ put_rising n (put_rising x (put_all xs zs))
    by_order true more = refl
    by_order false more = ap (put_rising x) more ∙ put_rising-swap x n (put_all xs zs)

in_order : (xs zs : List ℕ) → put_all (rising xs) zs ≡ put_all xs zs
in_order [] zs = refl
in_order (x ∷ xs) zs = put_first x (rising xs) zs ∙ ap (put_rising x) (in_order xs zs)

-- so they give the same
pub put_same : (ns ms zs : List ℕ) → rising ns ≡ rising ms → put_all ns zs ≡ put_all ms zs
put_same ns ms zs same = sym (in_order ns zs) ∙ ap (λ xs. put_all xs zs) same ∙ in_order ms zs
