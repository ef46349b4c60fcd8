-- Counts over a log that gets one entry more, and counts that stand still at the greatest number.
use Rattle.std.proofs.Common.{◌≡◌, ℕ, ◌+◌, ◌≤◌, sym, ◌∙◌, ap, arith, zero-add, List, [], ◌∷◌, ◌++◌, length, length-append, Bool, false, cond, ◌||◌}
use Rattle.std.specs.Prelude.{count_by}
use Rattle.std.proofs.lemmas.List.Folds.{list_any-append}
use Rattle.std.proofs.lemmas.List.Sums.{sum_by-append}
use Rattle.std.proofs.lemmas.Bool.{or_parts}
use Rattle.t32_base.specs.declared.process.ClusterNo.{ClusterNo}
use Rattle.bus_msg.specs.declared.entry.Entry.{Entry}
use Rattle.bus_msg.specs.PlacedAfter.{what}
use Rattle.cert_sched.specs.Losses.{capped, is_by_cluster, is_crash_of, least_steps, was_lost_in}
use Rattle.cluster_core.specs.View.{next_count}

pub capped_next : (n s : ℕ) → capped n ≤ s → capped (n + 1) ≤ next_count s
capped_next n s h = omega (arith, h)

pub capped_less : (n m s : ℕ) → n ≤ m → capped m ≤ s → capped n ≤ s
capped_less n m s less h = omega (arith, less, h)

pub count_by-snoc : {X : Type 0} (f : X → Bool) (xs : List X) (x : X) → count_by f (xs ++ x ∷ []) ≡ count_by f xs + cond (f x) 1 0
count_by-snoc f xs x = sum_by-append (λ x. cond (f x) 1 0) xs (x ∷ []) ∙ ap (λ n. count_by f xs + n) (zero-add (cond (f x) 1 0))

pub count_more : (k : ClusterNo) (log : List Entry) (e : Entry) → least_steps (log ++ e ∷ []) (log ++ e ∷ []) k ≡ least_steps log log k + 1 + cond (is_by_cluster k e) 1 0
count_more k log e =
    let long : length (log ++ e ∷ []) ≡ length log + 1 = length-append log (e ∷ []) in
    let sent : count_by (is_by_cluster k) (log ++ e ∷ []) ≡ count_by (is_by_cluster k) log + cond (is_by_cluster k e) 1 0 = count_by-snoc (is_by_cluster k) log e in
    omega (arith, long, sent)

-- who was not lost in a log was not in the log before
pub lost_before : (log : List Entry) (e : Entry) (k : ClusterNo) → was_lost_in (log ++ e ∷ []) k ≡ false → was_lost_in log k ≡ false
lost_before log e k kept = (or_parts (was_lost_in log k) (is_crash_of k (what e) || false) (sym (list_any-append (λ (e : Entry). is_crash_of k (what e)) log (e ∷ [])) ∙ kept)).0
