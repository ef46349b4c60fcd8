-- A fork in a sum over the processes of a kernel: the parent is put in its place, and the child is added.
use Rattle.std.proofs.Common.{◌≡◌, ℕ, ◌+◌, refl, sym, ◌∙◌, ap, arith, List, [], ◌∷◌, cond, T, Some, None, is_some, true≢false}
use Rattle.std.specs.List.{sum_by}
use Rattle.std.specs.declared.cmp.Ordering.{Ordering}
use Rattle.std.specs.declared.cmp.Ordering.TheVariants.{Less, Equal, Greater}
use Rattle.std.specs.Ordering.{is_eq}
use Rattle.std.specs.FinMap.{find, put, is_sorted}
use Rattle.std.specs.FinMap.Entries.{by_order}
use Rattle.std.proofs.lemmas.List.Sums.{sum_by-cons}
use Rattle.std.proofs.lemmas.Option.{same_Some}
use Rattle.t32_base.specs.declared.process.Pid.{Pid}
use Rattle.t32_base.specs.Small.{SmallState}
use Rattle.proc_state.specs.State.{ProcState}
use Rattle.sys_calls.specs.Fork.{fork_child, fork_parent}
use Rattle.plain_kernel.specs.Kernel.{Kernel, pid_cmp, process_at, with_process}
use Rattle.plain_kernel.proofs.Forking.{ForkMade, fork-apart}
use Rattle.plain_kernel.proofs.Others.{process_at-other}
use Rattle.plain_kernel.proofs.Pids.{IsRising, left_true, right_true, not_found}
use Rattle.cert_sched.proofs.KernelSums.{sum_of}

module _ (f : SmallState → ℕ) where
  abbrev of_entry : Pid × ProcState → ℕ
  of_entry e = f (e.1).small

  -- a process is put where it was
  put_sums : (p : Pid) (s t : ProcState) (es : List (Pid × ProcState)) → T (is_sorted pid_cmp es) → find pid_cmp p es ≡ Some s → sum_by of_entry (put pid_cmp p t es) + f s.small ≡ sum_by of_entry es + f t.small
  put_sums p s t [] rising there = cc
  put_sums p s t (e ∷ es) rising there = by_case (pid_cmp p e.0) refl there (put_sums p s t es (right_true _ _ rising))
    where
      by_case : (o : Ordering) → pid_cmp p e.0 ≡ o → cond (is_eq o) (Some e.1) (find pid_cmp p es) ≡ Some s
          → (find pid_cmp p es ≡ Some s → sum_by of_entry (put pid_cmp p t es) + f s.small ≡ sum_by of_entry es + f t.small)
          → sum_by of_entry (by_order o ((p, t) ∷ e ∷ es) ((e.0, t) ∷ es) (e ∷ put pid_cmp p t es)) + f s.small ≡ sum_by of_entry (e ∷ es) + f t.small
      by_case Less is found more = absurd (true≢false (ap is_some (sym found ∙ not_found p e.0 es is (left_true _ _ rising))))
      by_case Equal is found more =
          let same : f (e.1).small ≡ f s.small = ap (λ (s : ProcState). f s.small) (same_Some e.1 s found) in
          omega (arith, sum_by-cons of_entry (e.0, t) es, sum_by-cons of_entry e es, same)
      by_case Greater is found more = omega (arith, sum_by-cons of_entry e (put pid_cmp p t es), sum_by-cons of_entry e es, more found)

  -- and where it was not
  new_sums : (p : Pid) (t : ProcState) (es : List (Pid × ProcState)) → find pid_cmp p es ≡ None → sum_by of_entry (put pid_cmp p t es) ≡ sum_by of_entry es + f t.small
  new_sums p t [] none = omega (arith, sum_by-cons of_entry (p, t) [])
  new_sums p t (e ∷ es) none = by_case (pid_cmp p e.0) none (new_sums p t es)
    where
      by_case : (o : Ordering) → cond (is_eq o) (Some e.1) (find pid_cmp p es) ≡ None → (find pid_cmp p es ≡ None → sum_by of_entry (put pid_cmp p t es) ≡ sum_by of_entry es + f t.small)
          → sum_by of_entry (by_order o ((p, t) ∷ e ∷ es) ((e.0, t) ∷ es) (e ∷ put pid_cmp p t es)) ≡ sum_by of_entry (e ∷ es) + f t.small
      by_case Less absent more = omega (arith, sum_by-cons of_entry (p, t) (e ∷ es))
      by_case Equal absent more = cc
      by_case Greater absent more = omega (arith, sum_by-cons of_entry e (put pid_cmp p t es), sum_by-cons of_entry e es, more absent)

  pub fork_sums : (p c : Pid) (k j : Kernel) → IsRising k → (m : ForkMade p c k j) → sum_of f j + f (m.was).small ≡ sum_of f k + f (fork_parent m.was c).small + f (fork_child m.was c).small
  fork_sums p c k j rising m =
      let parent = fork_parent m.was c in
      let child = fork_child m.was c in
      let absent : process_at (with_process k p parent) c ≡ None = process_at-other k p parent c (λ same. fork-apart p c k j m (sym same)) ∙ m.absent in
      let added = new_sums c child (with_process k p parent).processes absent in
      let put_in = put_sums p m.was parent k.processes rising m.there in
      let after : sum_of f j ≡ sum_of f (with_process (with_process k p parent) c child) = ap (sum_of f) (sym m.after) in
      omega (arith, added, put_in, after)
