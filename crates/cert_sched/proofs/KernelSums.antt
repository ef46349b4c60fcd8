-- A sum over the processes of a kernel: what each step and each fork lowers of a process they lower of the sum.
use Rattle.std.proofs.Common.{◌≡◌, ℕ, ◌+◌, ◌≤◌, refl, sym, ◌∙◌, ap, subst, arith, Bool, true, false, cond, T, List, [], ◌∷◌, Option, Some, None, is_some, true≢false}
use Rattle.std.specs.Prelude.{option_and_then, sum_by}
use Rattle.std.specs.declared.cmp.Ordering.{Ordering}
use Rattle.std.specs.declared.cmp.Ordering.TheVariants.{Less, Equal, Greater}
use Rattle.std.specs.Ordering.{is_eq}
use Rattle.std.specs.FinMap.{find, put, is_sorted}
use Rattle.std.specs.FinMap.Entries.{by_order}
use Rattle.std.proofs.lemmas.List.Sums.{sum_by-cons}
use Rattle.std.proofs.lemmas.Option.{same_Some}
use Rattle.t32_base.specs.declared.process.Pid.{Pid}
use Rattle.t32_base.specs.declared.letter.Letter.{Letter}
use Rattle.t32_base.specs.declared.letter.To.{To}
use Rattle.t32_base.specs.declared.letter.To.TheVariants.{Proc, Tty}
use Rattle.t32_base.specs.Small.{SmallState}
use Rattle.proc_state.specs.State.{ProcState, delivered, has_ended}
use Rattle.sys_calls.specs.declared.steps.Emission.{Emission}
use Rattle.sys_calls.specs.declared.steps.Emission.TheVariants.{Mail as Sent, Exit as Ended}
use Rattle.sys_calls.specs.Calls.{Next, Silent, Blocked, Forks, Emits, Over}
use Rattle.sys_calls.specs.Next.{next_step}
use Rattle.sys_calls.specs.Small.{weight_with_children}
use Rattle.sys_calls.specs.Fork.{fork_child, fork_parent}
use Rattle.sys_calls.proofs.Bearing.{emits_lightens, fork_lightens, silent_lightens}
use Rattle.sys_calls.proofs.ForkLaws.{forks_can}
use Rattle.plain_kernel.specs.Kernel.{Kernel, emitted, letter_put, letter_to, pid_cmp, process_at, with_process}
use Rattle.plain_kernel.specs.Apply.{after_step, fork_step, one_step}
use Rattle.plain_kernel.proofs.Forking.{fork-apart, fork_made}
use Rattle.plain_kernel.proofs.Others.{process_at-other}
use Rattle.plain_kernel.proofs.Pids.{IsRising, left_true, not_found, put_process, right_true, pids_in}

-- over the states of the processes, but for memories and mailboxes
abbrev pub sum_of : (SmallState → ℕ) → Kernel → ℕ
sum_of f k = sum_by (λ (e : Pid × ProcState). f (e.1).small) k.processes

module _ (f : SmallState → ℕ) where
  abbrev of : Pid × ProcState → ℕ
  of e = f (e.1).small

  -- ---- one process

  -- another state of a process is put
  put_sum : (p : Pid) (s t : ProcState) (es : List (Pid × ProcState)) → T (is_sorted pid_cmp es) → find pid_cmp p es ≡ Some s → sum_by of (put pid_cmp p t es) + f s.small ≡ sum_by of es + f t.small
  put_sum p s t [] rising there = cc
  put_sum p s t (e ∷ es) rising there = by_case (pid_cmp p e.0) refl there (put_sum p s t es (right_true _ _ rising))
    where
      by_case : (o : Ordering) → pid_cmp p e.0 ≡ o → cond (is_eq o) (Some e.1) (find pid_cmp p es) ≡ Some s
          → (find pid_cmp p es ≡ Some s → sum_by of (put pid_cmp p t es) + f s.small ≡ sum_by of es + f t.small)
          → sum_by of (by_order o ((p, t) ∷ e ∷ es) ((e.0, t) ∷ es) (e ∷ put pid_cmp p t es)) + f s.small ≡ sum_by of (e ∷ es) + f t.small
      by_case Less is found more = absurd (true≢false (ap is_some (sym found ∙ not_found p e.0 es is (left_true _ _ rising))))
      by_case Equal is found more =
          let same : f (e.1).small ≡ f s.small = ap (λ (p : ProcState). f p.small) (same_Some e.1 s found) in
          omega (arith, sum_by-cons of (e.0, t) es, sum_by-cons of e es, same)
      by_case Greater is found more = omega (arith, sum_by-cons of e (put pid_cmp p t es), sum_by-cons of e es, more found)

  -- a process is put that was not there
  put_new : (p : Pid) (t : ProcState) (es : List (Pid × ProcState)) → find pid_cmp p es ≡ None → sum_by of (put pid_cmp p t es) ≡ sum_by of es + f t.small
  put_new p t [] none = sum_by-cons of (p, t) [] ∙ omega arith
  put_new p t (e ∷ es) none = by_case (pid_cmp p e.0) none (put_new p t es)
    where
      by_case : (o : Ordering) → cond (is_eq o) (Some e.1) (find pid_cmp p es) ≡ None → (find pid_cmp p es ≡ None → sum_by of (put pid_cmp p t es) ≡ sum_by of es + f t.small)
          → sum_by of (by_order o ((p, t) ∷ e ∷ es) ((e.0, t) ∷ es) (e ∷ put pid_cmp p t es)) ≡ sum_by of (e ∷ es) + f t.small
      by_case Less found more = omega (arith, sum_by-cons of (p, t) (e ∷ es))
      by_case Equal found more = cc
      by_case Greater found more = omega (arith, sum_by-cons of e (put pid_cmp p t es), sum_by-cons of e es, more found)

  -- a process that is put adds its own at most
  pub put_most : (p : Pid) (t : ProcState) (es : List (Pid × ProcState)) → sum_by of (put pid_cmp p t es) ≤ sum_by of es + f t.small
  put_most p t [] = omega (arith, sum_by-cons of (p, t) [])
  put_most p t (e ∷ es) = by_case (pid_cmp p e.0) (put_most p t es)
    where
      by_case : (o : Ordering) → sum_by of (put pid_cmp p t es) ≤ sum_by of es + f t.small → sum_by of (by_order o ((p, t) ∷ e ∷ es) ((e.0, t) ∷ es) (e ∷ put pid_cmp p t es)) ≤ sum_by of (e ∷ es) + f t.small
      by_case Less more = omega (arith, sum_by-cons of (p, t) (e ∷ es))
      by_case Equal more = omega (arith, sum_by-cons of (e.0, t) es, sum_by-cons of e es)
      by_case Greater more = omega (arith, sum_by-cons of e (put pid_cmp p t es), sum_by-cons of e es, more)

  -- another state of a process of a kernel
  pub process_sum : (k : Kernel) (p : Pid) (s t : ProcState) → IsRising k → process_at k p ≡ Some s → sum_of f (with_process k p t) + f s.small ≡ sum_of f k + f t.small
  process_sum k p s t rising there = put_sum p s t k.processes rising there

  -- no process has more than all
  pub one_of_sum : (p : Pid) (s : ProcState) (k : Kernel) → process_at k p ≡ Some s → f s.small ≤ sum_of f k
  one_of_sum p s k there = in_list k.processes there
    where
      in_list : (es : List (Pid × ProcState)) → find pid_cmp p es ≡ Some s → f s.small ≤ sum_by of es
      in_list [] found = cc
      in_list (e ∷ es) found = by_test (is_eq (pid_cmp p e.0)) found (in_list es)
        where
          by_test : (b : Bool) → cond b (Some e.1) (find pid_cmp p es) ≡ Some s → (find pid_cmp p es ≡ Some s → f s.small ≤ sum_by of es) → f s.small ≤ sum_by of (e ∷ es)
          by_test true found more =
              let same : f (e.1).small ≡ f s.small = ap (λ (p : ProcState). f p.small) (same_Some e.1 s found) in
              omega (arith, sum_by-cons of e es, same)
          by_test false found more = omega (arith, sum_by-cons of e es, more found)

  -- ---- a letter that arrives leaves it

  letter_sum : (k : Kernel) (letter : Letter) (to : To) → IsRising k → sum_of f (letter_to k letter to) ≡ sum_of f k
  letter_sum k letter (Tty t) rising = refl
  letter_sum k letter (Proc p e) rising = by_process (process_at k p) refl
    where
      by_status : (s : ProcState) (b : Bool) → process_at k p ≡ Some s → sum_by of (cond b k.processes (put pid_cmp p (delivered s letter) k.processes)) ≡ sum_of f k
      by_status s true there = refl
      by_status s false there = omega (arith, put_sum p s (delivered s letter) k.processes rising there)

      by_process : (o : Option ProcState) → process_at k p ≡ o → sum_by of (letter_put letter p o k.processes) ≡ sum_of f k
      by_process None there = refl
      by_process (Some s) there = by_status s (has_ended (s.small).status) there

  pub emitted_sum : (k : Kernel) (e : Emission) → IsRising k → sum_of f (emitted k e) ≡ sum_of f k
  emitted_sum k (Sent letter) rising = letter_sum k letter letter.to rising
  emitted_sum k (Ended end) rising = refl

  pub put_rising : (k : Kernel) (p : Pid) (s t : ProcState) → IsRising k → process_at k p ≡ Some s → IsRising (with_process k p t)
  put_rising k p s t rising there = (put_process (pids_in k) k p s t (record { rising = rising; are = refl }) there).rising

  -- ---- steps and forks

  -- a process made steps that lower its own by so much, and what it sent was delivered
  pub sent_lowers : (d : ℕ) (k : Kernel) (p : Pid) (s t : ProcState) (e : Emission) → IsRising k → process_at k p ≡ Some s → f t.small + d ≤ f s.small → sum_of f (emitted (with_process k p t) e) + d ≤ sum_of f k
  sent_lowers d k p s t e rising there less =
      let same = emitted_sum (with_process k p t) e (put_rising k p s t rising there) in
      omega (arith, put_sum p s t k.processes rising there, same, less)

  pub step_lowers : (d : ℕ) → ((s t : ProcState) → next_step s ≡ Silent t → f t.small + d ≤ f s.small) → ((s t : ProcState) (e : Emission) → next_step s ≡ Emits e t → f t.small + d ≤ f s.small)
      → (p : Pid) (k j : Kernel) → IsRising k → one_step p k ≡ Some j → sum_of f j + d ≤ sum_of f k
  unfolding one_step
  step_lowers d silent sends p k j rising made = by_process (process_at k p) refl made
    where
      by_next : (s : ProcState) (next : Next) → process_at k p ≡ Some s → next_step s ≡ next → after_step k p next ≡ Some j → sum_of f j + d ≤ sum_of f k
      by_next s (Silent t) there is e =
          let less = silent s t is in
          subst (λ (i : Kernel). sum_of f i + d ≤ sum_of f k) (same_Some (with_process k p t) j e) (omega (arith, put_sum p s t k.processes rising there, less))
      by_next s (Emits what t) there is e =
          subst (λ (i : Kernel). sum_of f i + d ≤ sum_of f k) (same_Some (emitted (with_process k p t) what) j e) (sent_lowers d k p s t what rising there (sends s t what is))
      by_next s Blocked there is e = cc
      by_next s Forks there is e = cc
      by_next s Over there is e = cc

      by_process : (o : Option ProcState) → process_at k p ≡ o → option_and_then (λ s. after_step k p (next_step s)) o ≡ Some j → sum_of f j + d ≤ sum_of f k
      by_process None there e = cc
      by_process (Some s) there e = by_next s (next_step s) there refl e

  pub fork_lowers : (d : ℕ) → ((s : ProcState) (c : Pid) → next_step s ≡ Forks → f (fork_parent s c).small + f (fork_child s c).small + d ≤ f s.small)
      → (p c : Pid) (k j : Kernel) → IsRising k → fork_step p c k ≡ Some j → sum_of f j + d ≤ sum_of f k
  fork_lowers d forks p c k j rising made =
      let m = fork_made p c k j made in
      let away = fork-apart p c k j m in
      let less = forks m.was c m.forks in
      let parent = put_sum p m.was (fork_parent m.was c) k.processes rising m.there in
      let absent : process_at (with_process k p (fork_parent m.was c)) c ≡ None = process_at-other k p (fork_parent m.was c) c (λ same. away (sym same)) ∙ m.absent in
      let child = put_new c (fork_child m.was c) (with_process k p (fork_parent m.was c)).processes absent in
      subst (λ (i : Kernel). sum_of f i + d ≤ sum_of f k) m.after (omega (arith, parent, child, less))

-- ---- the steps left

-- the most steps that the processes and the children that they may still fork have left
abbrev pub family_load : Kernel → ℕ
family_load k = sum_of weight_with_children k

-- each step leaves fewer
pub one_step_lightens : (p : Pid) (k j : Kernel) → IsRising k → one_step p k ≡ Some j → family_load j + 1 ≤ family_load k
one_step_lightens = step_lowers weight_with_children 1 silent_lightens emits_lightens

-- and so does a fork
pub fork_step_lightens : (p c : Pid) (k j : Kernel) → IsRising k → fork_step p c k ≡ Some j → family_load j + 2 ≤ family_load k
fork_step_lightens = fork_lowers weight_with_children 2 (λ s c is. fork_lightens s c (forks_can s is))
