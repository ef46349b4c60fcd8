-- The pid of the next child of a process: it is of the same cluster, above each pid of that, and no process has it yet.
use Rattle.std.proofs.Common.{◌≡◌, ℕ, ◌+◌, ◌%◌, ◌<◌, ◌≤◌, max, Bool, true, false, cond, eqb-true, eq-eqb, List, [], ◌∷◌, refl, sym, ap, ◌∙◌, arith, Option, Some, None}
use Rattle.std.specs.Prelude.{fold}
use Rattle.std.specs.Ordering.{eq_by_cmp}
use Rattle.std.specs.Cmp.{unsigned_tied}
use Rattle.std.specs.FinMap.{find}
use Rattle.std.proofs.Math.Nat.{add-mod_right, le-max_left, le-max_right}
use Rattle.std.proofs.lemmas.Bool.Decides.{nat_tests}
use Rattle.t32_base.specs.declared.process.Pid.{Pid}
use Rattle.proc_state.specs.State.{ProcState}
use Rattle.plain_kernel.specs.Kernel.{Kernel, pid_cmp, process_at}
use Rattle.plain_kernel.specs.Still.{higher, next_child, same_cluster}

of_max : (a b m : ℕ) → a % 16 ≡ m → b % 16 ≡ m → max a b % 16 ≡ m
of_max a b m first second = grind (arith, nat_tests)

module _ (p : Pid) where
  -- the highest is at least what it was
  higher_least : (n : ℕ) (es : List (Pid × ProcState)) → n ≤ fold (higher p) n es
  higher_least n [] = omega arith
  higher_least n (e ∷ es) = by_test (same_cluster e.0 p) (λ m. higher_least m es)
    where
      by_test : (b : Bool) → ((m : ℕ) → m ≤ fold (higher p) m es) → n ≤ fold (higher p) (cond b (max n (e.0).0) n) es
      by_test true more = omega (arith, le-max_left n (e.0).0, more (max n (e.0).0))
      by_test false more = more n

  -- and at least each pid of the cluster
  higher_all : (n : ℕ) (es : List (Pid × ProcState)) (q : Pid) (s : ProcState) → find pid_cmp q es ≡ Some s → q.0 % 16 ≡ p.0 % 16 → q.0 ≤ fold (higher p) n es
  higher_all n [] q s found same = cc
  higher_all n (e ∷ es) q s found same = by_key (eq_by_cmp pid_cmp q e.0) refl found (λ later. higher_all (higher p n e) es q s later same)
    where
      by_key : (b : Bool) → eq_by_cmp pid_cmp q e.0 ≡ b → cond b (Some e.1) (find pid_cmp q es) ≡ Some s → (find pid_cmp q es ≡ Some s → q.0 ≤ fold (higher p) (higher p n e) es) → q.0 ≤ fold (higher p) (higher p n e) es
      by_key true is found more =
          let number : q.0 ≡ (e.0).0 = eqb-true q.0 (e.0).0 (sym (unsigned_tied q.0 (e.0).0) ∙ is) in
          let of_cluster : same_cluster e.0 p ≡ true = eq-eqb ((e.0).0 % 16) (p.0 % 16) (ap (λ n. n % 16) (sym number) ∙ same) in
          let here : higher p n e ≡ max n (e.0).0 = ap (λ b. cond b (max n (e.0).0) n) of_cluster in
          omega (arith, number, here, le-max_right n (e.0).0, higher_least (higher p n e) es)
      by_key false is found more = more found

  -- it is of the cluster
  higher_cluster : (n : ℕ) (es : List (Pid × ProcState)) → n % 16 ≡ p.0 % 16 → fold (higher p) n es % 16 ≡ p.0 % 16
  higher_cluster n [] same = same
  higher_cluster n (e ∷ es) same = by_test (same_cluster e.0 p) refl (λ m is. higher_cluster m es is)
    where
      by_test : (b : Bool) → same_cluster e.0 p ≡ b → ((m : ℕ) → m % 16 ≡ p.0 % 16 → fold (higher p) m es % 16 ≡ p.0 % 16) → fold (higher p) (cond b (max n (e.0).0) n) es % 16 ≡ p.0 % 16
      by_test true is more = more (max n (e.0).0) (of_max n (e.0).0 (p.0 % 16) same (eqb-true ((e.0).0 % 16) (p.0 % 16) is))
      by_test false is more = more n same

  -- and within what each pid is within
  higher_within : (n more bound : ℕ) (es : List (Pid × ProcState)) → n + more < bound → ((q : Pid) (s : ProcState) → find pid_cmp q es ≡ Some s → q.0 + more < bound) → fold (higher p) n es + more < bound
  higher_within n more bound [] first each = first
  higher_within n more bound (e ∷ es) first each = higher_within (higher p n e) more bound es (by_test (same_cluster e.0 p)) rest
    where
      here : find pid_cmp e.0 (e ∷ es) ≡ Some e.1
      here = ap (λ b. cond b (Some e.1) (find pid_cmp e.0 es)) (unsigned_tied (e.0).0 (e.0).0 ∙ eq-eqb (e.0).0 (e.0).0 refl)

      by_test : (b : Bool) → cond b (max n (e.0).0) n + more < bound
      by_test true = let other = each e.0 e.1 here in omega (arith, first, other)
      by_test false = first

      rest : (q : Pid) (s : ProcState) → find pid_cmp q es ≡ Some s → q.0 + more < bound
      rest q s found = by_key (eq_by_cmp pid_cmp q e.0) refl
        where
          by_key : (b : Bool) → eq_by_cmp pid_cmp q e.0 ≡ b → q.0 + more < bound
          by_key true is = each q e.1 (ap (λ b. cond b (Some e.1) (find pid_cmp q es)) is)
          by_key false is = each q s (ap (λ b. cond b (Some e.1) (find pid_cmp q es)) is ∙ found)

module _ (k : Kernel) (p : Pid) where
  pub next_child-cluster : (next_child k p).0 % 16 ≡ p.0 % 16
  next_child-cluster = add-mod_right (fold (higher p) p.0 k.processes) 16 ∙ higher_cluster p p.0 k.processes refl

  pub next_child-above : p.0 < (next_child k p).0
  next_child-above = omega (arith, higher_least p p.0 k.processes)

  -- it is above each pid of its cluster
  pub next_child-highest : (q : Pid) (s : ProcState) → process_at k q ≡ Some s → q.0 % 16 ≡ p.0 % 16 → q.0 < (next_child k p).0
  next_child-highest q s there same = omega (arith, higher_all p p.0 k.processes q s there same)

  -- so no process has it
  pub next_child-absent : process_at k (next_child k p) ≡ None
  next_child-absent = by_process (process_at k (next_child k p)) refl
    where
      by_process : (o : Option ProcState) → process_at k (next_child k p) ≡ o → o ≡ None
      by_process None there = refl
      by_process (Some s) there = absurd (omega (arith, next_child-highest (next_child k p) s there next_child-cluster))

  -- and it is at most 16 above the highest
  pub next_child-within : (more bound : ℕ) → p.0 + more < bound → ((q : Pid) (s : ProcState) → process_at k q ≡ Some s → q.0 + more < bound) → (next_child k p).0 + more < bound + 16
  next_child-within more bound first each = omega (arith, higher_within p p.0 more bound k.processes first each)
