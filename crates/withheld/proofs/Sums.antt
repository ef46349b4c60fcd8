-- What one more entry adds to what is withheld in a log, and the sum over some of the processes.
use Rattle.std.proofs.Common.{◌≡◌, ℕ, zero, suc, ◌+◌, refl, sym, ◌∙◌, ap, arith, List, [], ◌∷◌, ◌++◌, take, Bool, true, false, cond, not, ◌&&◌, ◌||◌, eq-eqb, Option, Some, None, is_some}
use Rattle.std.specs.Prelude.{filter, find, slice_get}
use Rattle.std.specs.List.{list_any, sum_by}
use Rattle.std.specs.Option.{option_map_or}
use Rattle.std.proofs.lemmas.Bool.{and_parts}
use Rattle.std.proofs.lemmas.List.Sums.{sum_by-cons, sum_by_push}
use Rattle.t32_base.specs.declared.process.Pid.{Pid}
use Rattle.t32_base.specs.declared.process.ClusterNo.{ClusterNo}
use Rattle.sys_text.specs.declared.system.System.{System}
use Rattle.sys_text.specs.Valid.{is_system}
use Rattle.bus_msg.specs.declared.entry.Entry.{Entry}
use Rattle.bus_msg.specs.declared.placed.Placed.{Placed}
use Rattle.bus_msg.specs.Places.{is_moved_by, same_cluster, same_pid}
use Rattle.bus_msg.specs.PlacedAfter.{what}
use Rattle.cert_sched.specs.Schedule.{placement}
use Rattle.cert_sched.specs.Told.{Told, cluster_lost, told}
use Rattle.cert_sched.specs.Record.{backup_record, withheld_in}
use Rattle.cert_sched.specs.Counted.{counted, counted_at}
use Rattle.cert_sched.specs.Legal.{IsLegalBy, Stands}
use Rattle.cert_sched.proofs.LogLaws.{told-snoc, told_last}
use Rattle.withheld.specs.Counts.{count_if_moved, count_since, moved_count, withheld_at}
use Rattle.withheld.proofs.OneRecord.{withheld_of}

-- ---- some of the processes

-- this process, which has not ended
abbrev is_unended_as : Pid → Placed → Bool
is_unended_as p q = same_pid q.pid p && not q.ended

any_found : (t : Placed → Bool) (qs : List Placed) → list_any t qs ≡ true → is_some (find t qs) ≡ true
any_found t [] any = any
any_found t (q ∷ qs) any = by_test (t q) any (any_found t qs)
  where
    by_test : (b : Bool) → (b || list_any t qs) ≡ true → (list_any t qs ≡ true → is_some (find t qs) ≡ true) → is_some (cond b (Some q) (find t qs)) ≡ true
    by_test true any more = refl
    by_test false any more = more any

-- one that is moved has not ended
moved_unended : (k : ClusterNo) (q : Placed) → is_moved_by k q ≡ true → not q.ended ≡ true
moved_unended k q moved = (and_parts (same_cluster q.home k) (not q.ended) (and_parts (same_cluster q.home k && not q.ended) (is_some q.backup) moved).0).1

-- two sums over those that are moved, where each that has not ended has the same in both
sum_same : (f g : Pid → ℕ) (k : ClusterNo) (qs : List Placed) → ((p : Pid) → list_any (is_unended_as p) qs ≡ true → f p ≡ g p)
    → sum_by (λ (q : Placed). f q.pid) (filter (is_moved_by k) qs) ≡ sum_by (λ (q : Placed). g q.pid) (filter (is_moved_by k) qs)
sum_same f g k [] same = refl
sum_same f g k (q ∷ qs) same = by_test (is_moved_by k q) refl (sum_same f g k qs (λ p among. same p (later (is_unended_as p q) among)))
  where
    later : {c : Bool} (b : Bool) → c ≡ true → (b || c) ≡ true
    later true among = refl
    later false among = among

    here : is_moved_by k q ≡ true → f q.pid ≡ g q.pid
    here moved = same q.pid (λ i. (eq-eqb (q.pid).0 (q.pid).0 refl i && moved_unended k q moved i) || list_any (is_unended_as q.pid) qs)

    by_test : (b : Bool) → is_moved_by k q ≡ b → sum_by (λ (q : Placed). f q.pid) (filter (is_moved_by k) qs) ≡ sum_by (λ (q : Placed). g q.pid) (filter (is_moved_by k) qs)
        → sum_by (λ (q : Placed). f q.pid) (cond b (q ∷ filter (is_moved_by k) qs) (filter (is_moved_by k) qs)) ≡ sum_by (λ (q : Placed). g q.pid) (cond b (q ∷ filter (is_moved_by k) qs) (filter (is_moved_by k) qs))
    by_test true moved more = sum_by-cons (λ (q : Placed). f q.pid) q (filter (is_moved_by k) qs) ∙ (λ i. here moved i + more i) ∙ sym (sum_by-cons (λ (q : Placed). g q.pid) q (filter (is_moved_by k) qs))
    by_test false stays more = more

-- the sum over the processes up to a place, one further
pub moved_next : (count : Pid → ℕ) (k : ClusterNo) (n : ℕ) (qs : List Placed) → sum_by (λ (q : Placed). count q.pid) (filter (is_moved_by k) (take (suc n) qs))
    ≡ sum_by (λ (q : Placed). count q.pid) (filter (is_moved_by k) (take n qs)) + option_map_or (count_if_moved count k) (slice_get qs n) 0
moved_next count k n [] = by_place n
  where
    by_place : (n : ℕ) → 0 ≡ sum_by (λ (q : Placed). count q.pid) (filter (is_moved_by k) (take n [])) + option_map_or (count_if_moved count k) (slice_get [] n) 0
    by_place zero = refl
    by_place (suc n) = refl
moved_next count k zero (q ∷ qs) = by_test (is_moved_by k q)
  where
    by_test : (b : Bool) → sum_by (λ (q : Placed). count q.pid) (cond b (q ∷ []) []) ≡ 0 + cond b (count q.pid) 0
    by_test true = sum_by-cons (λ (q : Placed). count q.pid) q [] ∙ omega arith
    by_test false = refl
moved_next count k (suc n) (q ∷ qs) = by_test (is_moved_by k q) (moved_next count k n qs)
  where
    sum : List Placed → ℕ
    sum qs = sum_by (λ (q : Placed). count q.pid) qs

    more : ℕ
    more = option_map_or (count_if_moved count k) (slice_get qs n) 0

    by_test : (b : Bool) → sum (filter (is_moved_by k) (take (suc n) qs)) ≡ sum (filter (is_moved_by k) (take n qs)) + more
        → sum (cond b (q ∷ filter (is_moved_by k) (take (suc n) qs)) (filter (is_moved_by k) (take (suc n) qs))) ≡ sum (cond b (q ∷ filter (is_moved_by k) (take n qs)) (filter (is_moved_by k) (take n qs))) + more
    by_test true rest =
        let longer : sum (q ∷ filter (is_moved_by k) (take (suc n) qs)) ≡ count q.pid + sum (filter (is_moved_by k) (take (suc n) qs)) = sum_by-cons (λ (q : Placed). count q.pid) q (filter (is_moved_by k) (take (suc n) qs)) in
        let shorter : sum (q ∷ filter (is_moved_by k) (take n qs)) ≡ count q.pid + sum (filter (is_moved_by k) (take n qs)) = sum_by-cons (λ (q : Placed). count q.pid) q (filter (is_moved_by k) (take n qs)) in
        omega (arith, rest, longer, shorter)
    by_test false rest = rest

-- ---- one more entry

-- a loss adds the counts of the processes that it moves, and no other entry adds any
pub counted_more : (system : System) (log : List Entry) (e : Entry) → is_system system ≡ true → IsLegalBy Stands system log → counted system (log ++ e ∷ []) ≡ counted system log + withheld_at (count_since log) (placement system log) (what e)
counted_more system log e valid legal =
    ap (sum_by added) (told-snoc system log e) ∙ sum_by_push added (told system log) (told_last system log e) ∙ ap (λ n. counted system log + n) (by_loss (cluster_lost (what e)))
  where
    added : Told → ℕ
    added t = option_map_or (counted_at system t) (cluster_lost (what t.entry)) 0

    by_loss : (o : Option ClusterNo) → option_map_or (counted_at system (told_last system log e)) o 0 ≡ option_map_or (moved_count (count_since log) (placement system log)) o 0
    by_loss None = refl
    by_loss (Some k) =
        sum_same (λ p. option_map_or withheld_in (backup_record system log p) 0) (count_since log) k (placement system log).placed
        (λ p among. withheld_of system log p valid legal (any_found (is_unended_as p) (placement system log).placed among))
