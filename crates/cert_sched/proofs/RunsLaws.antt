-- What the runs of several processes make of a kernel, where each is of silent steps.
use Rattle.std.proofs.Common.{◌≡◌, ℕ, zero, suc, ◌-◌, refl, sym, ◌∙◌, ap, subst, List, [], ◌∷◌, map, Bool, true, false, cond, ◌||◌, eqb, eqb-true, eq-eqb, Option, Some, None, is_some, true≢false}
use Rattle.std.specs.Prelude.{◌≢◌, option_and_then}
use Rattle.std.specs.List.{list_any, list_all}
use Rattle.std.specs.Option.{option_map_or}
use Rattle.std.proofs.lemmas.Bool.{and_parts, or_parts}
use Rattle.std.proofs.lemmas.Option.{same_Some}
use Rattle.t32_base.specs.declared.process.Pid.{Pid}
use Rattle.sys_text.specs.declared.system.System.{System}
use Rattle.proc_state.specs.State.{ProcState, can_take}
use Rattle.sys_calls.specs.Next.{silently}
use Rattle.plain_kernel.specs.Kernel.{Kernel, process_at, with_process}
use Rattle.plain_kernel.specs.Apply.{steps, apply_all}
use Rattle.plain_kernel.proofs.Others.{no_step, silent_more, silently-made, silently-here, silently-other}
use Rattle.bus_msg.specs.declared.entry.Entry.{Entry}
use Rattle.bus_msg.specs.Places.{same_pid}
use Rattle.cert_sched.specs.Schedule.{done, run_upto, runs_of, plain_after}
use Rattle.cert_sched.specs.Steps.{silent_upto}
use Rattle.plain_kernel.proofs.Laws.{apply_all-append}
use Rattle.cert_sched.proofs.StepLaws.{apply_run}
use Rattle.cert_sched.proofs.RisingLaws.{NoTwo}
use Rattle.sys_calls.specs.Take.{taken}

-- ---- silent steps

-- silent steps of processes, as the kernel then has them, and takes lead from one kernel to another
pub data Quietly (to : Kernel) : Kernel → Type 0 where
  Same : (k : Kernel) → k ≡ to → Quietly to k
  More : (k : Kernel) (p : Pid) (n : ℕ) (s t : ProcState) → process_at k p ≡ Some s → silently n s ≡ Some t → Quietly to (with_process k p t) → Quietly to k
  Struck : (k : Kernel) (p : Pid) (s : ProcState) → process_at k p ≡ Some s → can_take s ≡ true → Quietly to (with_process k p (taken s)) → Quietly to k

pub quietly_on : (to j i : Kernel) → Quietly j i → Quietly to j → Quietly to i
quietly_on to j i (Same k same) rest = subst (Quietly to) (sym same) rest
quietly_on to j i (More k p n s t there silent more) rest = More k p n s t there silent (quietly_on to j (with_process k p t) more rest)
quietly_on to j i (Struck k p s there can more) rest = Struck k p s there can (quietly_on to j (with_process k p (taken s)) more rest)

-- what one such change keeps, all keep
pub quietly_keeps : (P : Kernel → Type 0) → ((k : Kernel) (p : Pid) (n : ℕ) (s t : ProcState) → process_at k p ≡ Some s → silently n s ≡ Some t → P k → P (with_process k p t))
    → ((k : Kernel) (p : Pid) (s : ProcState) → process_at k p ≡ Some s → can_take s ≡ true → P k → P (with_process k p (taken s)))
    → (to k : Kernel) → Quietly to k → P k → P to
quietly_keeps P one take to k (Same i same) has = subst P same has
quietly_keeps P one take to k (More i p n s t there silent more) has = quietly_keeps P one take to (with_process i p t) more (one i p n s t there silent has)
quietly_keeps P one take to k (Struck i p s there can more) has = quietly_keeps P one take to (with_process i p (taken s)) more (take i p s there can has)

quiet_steps : (n : ℕ) (k j : Kernel) (p : Pid) (s t : ProcState) → process_at k p ≡ Some s → silently n s ≡ Some t → steps n p k ≡ Some j → Quietly j k
quiet_steps zero k j p s t there silent made = Same k (no_step p k j made)
quiet_steps (suc n) k j p s t there silent made =
    More k p (suc n) s t there silent (Same (with_process k p t) (same_Some (with_process k p t) j (sym (silent_more n k p s t there silent) ∙ made)))

-- ---- one run

-- the process that silent steps up to a count lead to, from a kernel
abbrev pub led : Kernel → Pid × ℕ → Option ProcState
led k r = option_and_then (silently (r.1 - done k r.0)) (process_at k r.0)

-- it is what such steps lead to after the log of that kernel
pub led-silent_upto : (system : System) (log : List Entry) (k : Kernel) (r : Pid × ℕ) → plain_after system log ≡ Some k → silent_upto system log r.0 r.1 ≡ led k r
unfolding silent_upto
led-silent_upto system log k r is = ap (λ o. option_and_then (silently (r.1 - option_map_or (λ k. done k r.0) o 0)) (option_and_then (λ k. process_at k r.0) o)) is

record Led (k : Kernel) (r : Pid × ℕ) : Type 0 where
  pub was : ProcState
  pub to : ProcState
  pub there : process_at k r.0 ≡ Some was
  pub silent : silently (r.1 - done k r.0) was ≡ Some to
  pub is : led k r ≡ Some to

led_parts : (k : Kernel) (r : Pid × ℕ) → is_some (led k r) ≡ true → Led k r
led_parts k r some = by_process (process_at k r.0) refl some
  where
    by_end : (s : ProcState) (o : Option ProcState) → process_at k r.0 ≡ Some s → silently (r.1 - done k r.0) s ≡ o → is_some o ≡ true → Led k r
    by_end s None there silent e = absurd (true≢false (sym e))
    by_end s (Some t) there silent e = record { was = s; to = t; there = there; silent = silent; is = ap (option_and_then (silently (r.1 - done k r.0))) there ∙ silent }

    by_process : (o : Option ProcState) → process_at k r.0 ≡ o → is_some (option_and_then (silently (r.1 - done k r.0)) o) ≡ true → Led k r
    by_process None there e = absurd (true≢false (sym e))
    by_process (Some s) there e = by_end s (silently (r.1 - done k r.0) s) there refl e

-- the kernel i after that run, where it has the process as the kernel k has it
pub record RunTo (k i : Kernel) (r : Pid × ℕ) : Type 0 where
  pub to : Kernel
  pub made : apply_all (run_upto k r.0 r.1) i ≡ Some to
  pub here : process_at to r.0 ≡ led k r
  pub others : (q : Pid) → q.0 ≢ (r.0).0 → process_at to q ≡ process_at i q
  pub quiet : Quietly to i

pub run_made : (k i : Kernel) (r : Pid × ℕ) → is_some (led k r) ≡ true → process_at i r.0 ≡ process_at k r.0 → RunTo k i r
run_made k i r some same = by_led (led_parts k r some)
  where
    by_led : Led k r → RunTo k i r
    by_led l = by_case (steps (r.1 - done k r.0) r.0 i) refl (silently-made (r.1 - done k r.0) i r.0 l.was l.to (same ∙ l.there) l.silent)
      where
        by_case : (o : Option Kernel) → steps (r.1 - done k r.0) r.0 i ≡ o → is_some o ≡ true → RunTo k i r
        by_case None is e = absurd (true≢false (sym e))
        by_case (Some j) is e = record {
          to = j;
          made = apply_run r.0 (r.1 - done k r.0) i ∙ is;
          here = silently-here (r.1 - done k r.0) i j r.0 l.was l.to (same ∙ l.there) l.silent is ∙ sym l.is;
          others = λ q apart. silently-other (r.1 - done k r.0) i j r.0 l.was l.to q (same ∙ l.there) l.silent is apart;
          quiet = quiet_steps (r.1 - done k r.0) i j r.0 l.was l.to (same ∙ l.there) l.silent is;
        }

-- ---- many runs

abbrev pub rest_pids : List (Pid × ℕ) → List ℕ
rest_pids rs = map (λ (r : Pid × ℕ). (r.0).0) rs

-- a process after such runs: one of them as its run leaves it, every other as it was
abbrev pub after_runs : Kernel → List (Pid × ℕ) → Option ProcState → Pid → Option ProcState
after_runs k [] o q = o
after_runs k (r ∷ rs) o q = cond (same_pid r.0 q) (led k r) (after_runs k rs o q)

-- a process that is none of them
pub after_runs-none : (k : Kernel) (rs : List (Pid × ℕ)) (o : Option ProcState) (q : Pid) → list_any (λ m. eqb m q.0) (rest_pids rs) ≡ false → after_runs k rs o q ≡ o
after_runs-none k [] o q none = refl
after_runs-none k (r ∷ rs) o q none = by_test (same_pid r.0 q) none (after_runs-none k rs o q)
  where
    by_test : (b : Bool) → (b || list_any (λ m. eqb m q.0) (rest_pids rs)) ≡ false → (list_any (λ m. eqb m q.0) (rest_pids rs) ≡ false → after_runs k rs o q ≡ o) → cond b (led k r) (after_runs k rs o q) ≡ o
    by_test true e more = absurd (true≢false e)
    by_test false e more = more e

-- the kernel i has these processes as the kernel k has them
abbrev AreAs : Kernel → Kernel → List (Pid × ℕ) → Type 0
AreAs k i [] = Unit {0}
AreAs k i (r ∷ rs) = (process_at i r.0 ≡ process_at k r.0) × AreAs k i rs

as_itself : (k : Kernel) (rs : List (Pid × ℕ)) → AreAs k k rs
as_itself k [] = tt
as_itself k (r ∷ rs) = (refl, as_itself k rs)

-- a change of another process leaves that
as_before : (k i j : Kernel) (p : Pid) (rs : List (Pid × ℕ)) → ((q : Pid) → q.0 ≢ p.0 → process_at j q ≡ process_at i q) → list_any (λ m. eqb m p.0) (rest_pids rs) ≡ false → AreAs k i rs → AreAs k j rs
as_before k i j p [] others none are = tt
as_before k i j p (r ∷ rs) others none are =
    let parts = or_parts (eqb (r.0).0 p.0) (list_any (λ m. eqb m p.0) (rest_pids rs)) none in
    (others r.0 (λ e. true≢false (sym (eq-eqb (r.0).0 p.0 e) ∙ parts.0)) ∙ are.0, as_before k i j p rs others parts.1 are.1)

pub record RunsTo (k i : Kernel) (rs : List (Pid × ℕ)) : Type 0 where
  pub to : Kernel
  pub made : apply_all (runs_of k rs) i ≡ Some to
  pub are : (q : Pid) → process_at to q ≡ after_runs k rs (process_at i q) q
  pub quiet : Quietly to i

runs_from : (k i : Kernel) (rs : List (Pid × ℕ)) → NoTwo (rest_pids rs) → list_all (λ r. is_some (led k r)) rs ≡ true → AreAs k i rs → RunsTo k i rs
runs_from k i [] two some same = record { to = i; made = refl; are = λ q. refl; quiet = Same i refl }
runs_from k i (r ∷ rs) two some same =
    let parts = and_parts (is_some (led k r)) (list_all (λ r. is_some (led k r)) rs) some in
    let first = run_made k i r parts.0 same.0 in
    let rest = runs_from k first.to rs two.1 parts.1 (as_before k i first.to r.0 rs first.others two.0 same.1) in
    record {
      to = rest.to;
      made = apply_all-append (run_upto k r.0 r.1) (runs_of k rs) i ∙ ap (option_and_then (apply_all (runs_of k rs))) first.made ∙ rest.made;
      are = λ q. rest.are q ∙ at_pid first.to q first.here first.others two.0 (same_pid r.0 q) refl;
      quiet = quietly_on rest.to first.to i first.quiet rest.quiet;
    }
  where
    at_pid : (j : Kernel) (q : Pid) → process_at j r.0 ≡ led k r → ((q : Pid) → q.0 ≢ (r.0).0 → process_at j q ≡ process_at i q) → list_any (λ m. eqb m (r.0).0) (rest_pids rs) ≡ false
        → (b : Bool) → same_pid r.0 q ≡ b → after_runs k rs (process_at j q) q ≡ cond b (led k r) (after_runs k rs (process_at i q) q)
    at_pid j q here others none true is =
        let number : (r.0).0 ≡ q.0 = eqb-true (r.0).0 q.0 is in
        let same : r.0 ≡ q = λ i. record { 0 = number i } in
        after_runs-none k rs (process_at j q) q (ap (λ n. list_any (λ m. eqb m n) (rest_pids rs)) (sym number) ∙ none) ∙ ap (process_at j) (sym same) ∙ here
    at_pid j q here others none false is = ap (λ o. after_runs k rs o q) (others q (λ e. true≢false (sym (eq-eqb (r.0).0 q.0 (sym e)) ∙ is)))

-- the runs of several processes, each of silent steps, can be made, and leave every other process
pub runs_made : (k : Kernel) (rs : List (Pid × ℕ)) → NoTwo (rest_pids rs) → list_all (λ r. is_some (led k r)) rs ≡ true → RunsTo k k rs
runs_made k rs two some = runs_from k k rs two some (as_itself k rs)
