-- One step of a kernel, one fork and one take: what is left of each process, of the steps twice and of the births, in sum, does not rise; a fork leaves so much less that it pays for the
-- child, and a take of one of the processes leaves one less.
use Rattle.std.proofs.Common.{◌≡◌, ℕ, ◌+◌, ◌*◌, ◌≤◌, refl, sym, ◌∙◌, ap, subst, arith, List, Bool, true, false, ◌&&◌, ◌||◌, eqb, ltb, Option, Some, None, eqb-true, eq-eqb, true≢false}
use Rattle.std.specs.Prelude.{◌≢◌, option_and_then, option_map, sum_by, unwrap_or}
use Rattle.std.specs.List.{list_any}
use Rattle.std.specs.Option.{option_map_or}
use Rattle.std.proofs.lemmas.Bool.{and_parts}
use Rattle.std.proofs.lemmas.Option.{same_Some}
use Rattle.t32_base.specs.declared.process.Pid.{Pid}
use Rattle.t32_base.specs.Small.{SmallState}
use Rattle.proc_state.specs.State.{ProcState, can_take, is_live}
use Rattle.sys_calls.specs.Small.{weight, weight_with_children}
use Rattle.sys_calls.specs.declared.steps.Emission.{Emission}
use Rattle.sys_calls.specs.Calls.{Next, Silent, Blocked, Forks, Emits, Over}
use Rattle.sys_calls.specs.Fork.{CanFork, fork_child, fork_parent}
use Rattle.sys_calls.specs.Next.{next_step}
use Rattle.sys_calls.proofs.Counting.{silent_counts, emits_counts}
use Rattle.sys_calls.proofs.ForkLaws.{forks_can}
use Rattle.sys_calls.proofs.Weighing.{Leaves, next_leaves, emits_leaves}
use Rattle.plain_kernel.specs.Kernel.{Kernel, process_at, with_process, emitted}
use Rattle.plain_kernel.specs.Apply.{after_step, fork_step, one_step, take_step}
use Rattle.plain_kernel.proofs.Forking.{ForkMade, fork-other, fork-parent, fork-small, fork-steps_other}
use Rattle.plain_kernel.proofs.Laws.{process_at-same}
use Rattle.plain_kernel.proofs.Others.{small_at, small_at-emitted, one_step-other, one_step-small, process_at-other}
use Rattle.plain_kernel.proofs.Pids.{IsRising}
use Rattle.bus_msg.specs.declared.placed.Placed.{Placed}
use Rattle.bus_msg.specs.Places.{same_pid}
use Rattle.cert_sched.specs.Schedule.{done}
use Rattle.cert_sched.proofs.ForkWeight.{fork_weighs}
use Rattle.cert_sched.proofs.KernelSums.{fork_step_lightens, one_step_lightens, step_lowers, process_sum}
use Rattle.cert_sched.proofs.MadeLaws.{apart_from}
use Rattle.cert_sched.proofs.RisingLaws.{NoTwo}
use Rattle.cert_sched.proofs.PidLaws.{placed_pids}
use Rattle.log_laws.proofs.pages.BornSums.{others_most}
use Rattle.log_laws.proofs.pages.Leaving.{one_if, sum_by-le-each, sum_by-less}
use Rattle.checkpoint_laws.specs.remaining.Load.{kernel_births, kernel_load, left_of_child, left_of_children}
use Rattle.checkpoint_laws.specs.remaining.Left.{most_of, pairs_that, takes_signals}
use Rattle.checkpoint_laws.proofs.remaining.Forked.{emits_births, fork_pays, silent_births}
use Rattle.checkpoint_laws.proofs.remaining.ForkSums.{fork_sums}
use Rattle.checkpoint_laws.proofs.remaining.StepsLeft.{rising_still}
use Rattle.checkpoint_laws.proofs.remaining.Pairs.{pairs-le}
use Rattle.checkpoint_laws.proofs.remaining.Rising.{one_rises}
use Rattle.plain_kernel.proofs.Taking.{TakesAt, take_made}
use Rattle.sys_calls.specs.Take.{struck, taken}
use Rattle.sys_calls.proofs.TakeLaws.{taken_strikes}
use Rattle.plain_kernel.proofs.TakePids.{take_step-rising}
use Rattle.cert_sched.proofs.StepLaws.{take_counts}
use Rattle.proc_state.specs.Mail.{first_signal}

-- ---- the most steps of a process

abbrev pub most_in : Kernel → Pid → ℕ
most_in k p = option_map_or most_of (process_at k p) 0

abbrev pub small_most : SmallState → ℕ
small_most s = s.steps + weight s

most_small : (o : Option ProcState) → option_map_or most_of o 0 ≡ option_map_or small_most (option_map (λ (s : ProcState). s.small) o) 0
most_small None = refl
most_small (Some s) = refl

most_same : (k j : Kernel) (q : Pid) → small_at j q ≡ small_at k q → most_in j q ≡ most_in k q
most_same k j q same = most_small (process_at j q) ∙ ap (λ o. option_map_or small_most o 0) same ∙ sym (most_small (process_at k q))

-- a silent step is one more, and leaves one less at least; and so is one that sends something
pub silent_most : (s t : ProcState) → next_step s ≡ Silent t → most_of t ≤ most_of s
silent_most s t is =
    let less : weight t.small + 1 ≤ weight s.small = subst (Leaves s) is (next_leaves s) in
    let count = silent_counts s t is in
    let steps = count.steps in
    omega (arith, less, steps)

pub emits_most : (s t : ProcState) (e : Emission) → next_step s ≡ Emits e t → most_of t ≤ most_of s
emits_most s t e is =
    let less = emits_leaves s t e is in
    let count = emits_counts s t e is in
    let steps = count.steps in
    omega (arith, less, steps)

-- a fork is one more to the parent, and leaves it one less at least
pub fork_most : (s : ProcState) (child : Pid) → CanFork s → most_of (fork_parent s child) ≤ most_of s
fork_most s child can = let less = fork_weighs s child can in omega (arith, less)

most-here : (p : Pid) (k j : Kernel) → one_step p k ≡ Some j → most_in j p ≤ most_in k p
unfolding one_step
most-here p k j made = by_process (process_at k p) refl made
  where
    put_most : (s t : ProcState) → process_at k p ≡ Some s → most_of t ≤ most_of s → most_in (with_process k p t) p ≤ most_in k p
    put_most s t there less =
        let now : most_in (with_process k p t) p ≡ most_of t = ap (λ o. option_map_or most_of o 0) (process_at-same k p t) in
        let was : most_in k p ≡ most_of s = ap (λ o. option_map_or most_of o 0) there in
        omega (arith, now, was, less)

    by_next : (s : ProcState) (next : Next) → process_at k p ≡ Some s → next_step s ≡ next → after_step k p next ≡ Some j → most_in j p ≤ most_in k p
    by_next s (Silent t) there is e = subst (λ (i : Kernel). most_in i p ≤ most_in k p) (same_Some (with_process k p t) j e) (put_most s t there (silent_most s t is))
    by_next s (Emits what t) there is e =
        let same = most_same (with_process k p t) (emitted (with_process k p t) what) p (small_at-emitted (with_process k p t) what p) in
        let most = put_most s t there (emits_most s t what is) in
        subst (λ (i : Kernel). most_in i p ≤ most_in k p) (same_Some (emitted (with_process k p t) what) j e) (omega (arith, same, most))
    by_next s Blocked there is e = cc
    by_next s Forks there is e = cc
    by_next s Over there is e = cc

    by_process : (o : Option ProcState) → process_at k p ≡ o → option_and_then (λ s. after_step k p (next_step s)) o ≡ Some j → most_in j p ≤ most_in k p
    by_process None there e = cc
    by_process (Some s) there e = by_next s (next_step s) there refl e

most-other : (p : Pid) (k j : Kernel) (q : Pid) → one_step p k ≡ Some j → q.0 ≢ p.0 → most_in j q ≡ most_in k q
most-other p k j q made apart = most_same k j q (one_step-small p k j q made apart)

pub most-each : (p : Pid) (k j : Kernel) (q : Pid) → one_step p k ≡ Some j → most_in j q ≤ most_in k q
most-each p k j q made = by_pid (same_pid p q) refl
  where
    by_pid : (b : Bool) → same_pid p q ≡ b → most_in j q ≤ most_in k q
    by_pid true is =
        let here : p ≡ q = λ i. record { 0 = eqb-true p.0 q.0 is i } in
        subst (λ q. most_in j q ≤ most_in k q) here (most-here p k j made)
    by_pid false is = let same = most-other p k j q made (apart_from p q is) in omega (arith, same)

-- ---- whether a process takes signals

-- it is there in the kernel, and takes a signal that comes
abbrev pub takes_in : Kernel → Pid → Bool
takes_in k p = option_map_or (λ (s : ProcState). takes_signals s.small) (process_at k p) false

takes_small : (o : Option ProcState) → option_map_or (λ (s : ProcState). takes_signals s.small) o false ≡ option_map_or takes_signals (option_map (λ (s : ProcState). s.small) o) false
takes_small None = refl
takes_small (Some s) = refl

takes_same : (k j : Kernel) (q : Pid) → small_at j q ≡ small_at k q → takes_in j q ≡ takes_in k q
takes_same k j q same = takes_small (process_at j q) ∙ ap (λ o. option_map_or takes_signals o false) same ∙ sym (takes_small (process_at k q))

-- a process that was struck closes or its handler runs, so it takes no more
struck_takes_none : (b : Bool) (g : ℕ) (s : SmallState) → takes_signals (struck b g s) ≡ false
struck_takes_none true g s = refl
struck_takes_none false g s = and_false (is_live s.status)
  where
    and_false : (b : Bool) → (b && false) ≡ false
    and_false true = refl
    and_false false = refl

taken_takes_none : (s : ProcState) → takes_signals (taken s).small ≡ false
taken_takes_none s = struck_takes_none (eqb (s.small).handler 0) (unwrap_or (first_signal s.mail) 0) s.small

-- and one that can take the first that waits takes signals
taker_takes : (s : ProcState) → can_take s ≡ true → takes_signals s.small ≡ true
taker_takes s can = (and_parts (takes_signals s.small) _ can).0

not_same : (q p : Pid) → same_pid q p ≡ false → q.0 ≢ p.0
not_same q p is same = true≢false (sym (eq-eqb q.0 p.0 same) ∙ is)

pub at_most_one : (b : Bool) → one_if b ≤ 1
at_most_one true = omega arith
at_most_one false = omega arith

-- a step leaves no more births
pub births-most : (p : Pid) (k j : Kernel) → IsRising k → one_step p k ≡ Some j → kernel_births j ≤ kernel_births k
births-most p k j rising made =
    let most : kernel_births j + 0 ≤ kernel_births k = step_lowers left_of_children 0 silent_births emits_births p k j rising made in
    omega (arith, most)

-- a take leaves the children that may still be born
struck_children : (b : Bool) (g : ℕ) (s : SmallState) → left_of_children (struck b g s) ≡ left_of_children s
struck_children true g s = refl
struck_children false g s = refl

pub taken_children : (s : ProcState) → left_of_children (taken s).small ≡ left_of_children s.small
taken_children s = struck_children (eqb (s.small).handler 0) (unwrap_or (first_signal s.mail) 0) s.small

-- ---- what is left of a process

module _ (start : Pid → ℕ) (uncut : Pid → Bool) (unsent : Pid → ℕ → ℕ → Bool) (pages : Pid → ℕ) where
  -- with this start, never cut or cut, with these pages that were not sent, and so many pages, in this kernel
  abbrev pub left_in : Kernel → Pid → ℕ
  left_in k q = one_if (ltb (start q) (done k q) || uncut q) + one_if (takes_in k q) + pairs_that (unsent q) (pages q) (most_in k q)

  pairs-most : (k j : Kernel) (q : Pid) → most_in j q ≤ most_in k q → pairs_that (unsent q) (pages q) (most_in j q) ≤ pairs_that (unsent q) (pages q) (most_in k q)
  pairs-most k j q most = pairs-le (unsent q) (unsent q) (λ i n is. is) (pages q) (most_in j q) (most_in k q) most

  -- where its steps stay, it is left no more but for a signal
  left-count : (k j : Kernel) (q : Pid) → done j q ≡ done k q → most_in j q ≤ most_in k q → left_in j q + one_if (takes_in k q) ≤ left_in k q + one_if (takes_in j q)
  left-count k j q count most =
      let same : one_if (ltb (start q) (done j q) || uncut q) ≡ one_if (ltb (start q) (done k q) || uncut q) = ap (λ n. one_if (ltb (start q) n || uncut q)) count in
      omega (arith, same, pairs-most k j q most)

  left-same : (k j : Kernel) (q : Pid) → done j q ≡ done k q → small_at j q ≡ small_at k q → most_in j q ≤ most_in k q → left_in j q ≤ left_in k q
  left-same k j q count small most =
      let takes : one_if (takes_in j q) ≡ one_if (takes_in k q) = ap one_if (takes_same k j q small) in
      omega (arith, left-count k j q count most, takes)

  left-more : (k j : Kernel) (q : Pid) → most_in j q ≤ most_in k q → left_in j q ≤ left_in k q + 2
  left-more k j q most = omega (arith, at_most_one (ltb (start q) (done j q) || uncut q), at_most_one (takes_in j q), pairs-most k j q most)

  -- of these processes, of the steps twice and of the births of the kernel, no more than so much is left
  pub record IsBounded (qs : List Placed) (most : ℕ) (k : Kernel) : Type 0 where
    pub rising : IsRising k
    pub left : sum_by (λ (q : Placed). left_in k q.pid) qs + kernel_births k + 2 * kernel_load k ≤ most

  pub one_step-bounded : (qs : List Placed) (most : ℕ) → NoTwo (placed_pids qs) → (p : Pid) (k j : Kernel) → IsBounded qs most k → one_step p k ≡ Some j → IsBounded qs most j
  one_step-bounded qs most apart p k j bounded made =
      let rises =
      one_rises (λ (q : Placed). left_in k q.pid) (λ (q : Placed). left_in j q.pid) p 2
      (λ q other. left-same k j q.pid (one_step-other p k j q.pid made (not_same q.pid p other)) (one_step-small p k j q.pid made (not_same q.pid p other)) (most-each p k j q.pid made))
      (λ q is. left-more k j q.pid (most-each p k j q.pid made)) qs apart in
      let less = one_step_lightens p k j bounded.rising made in
      let births = births-most p k j bounded.rising made in
      let before = bounded.left in
      record { rising = rising_still p k j bounded.rising made; left = omega (arith, rises, less, births, before) }

  -- ---- a take

  take_most : (p : Pid) (k j : Kernel) (q : Pid) → take_step p k ≡ Some j → most_in j q ≤ most_in k q
  take_most p k j q made = by_pid (same_pid p q) refl
    where
      t : TakesAt p k j
      t = take_made p k j made

      here : most_in j p ≤ most_in k p
      here =
          let now : most_in j p ≡ most_of (taken t.was) = ap (λ i. most_in i p) t.after ∙ ap (λ o. option_map_or most_of o 0) (process_at-same k p (taken t.was)) in
          let was : most_in k p ≡ most_of t.was = ap (λ o. option_map_or most_of o 0) t.there in
          let strikes = taken_strikes t.was t.can in
          omega (arith, now, was, strikes.steps, strikes.weight_is)

      by_pid : (b : Bool) → same_pid p q ≡ b → most_in j q ≤ most_in k q
      by_pid true is = let same : p ≡ q = λ i. record { 0 = eqb-true p.0 q.0 is i } in subst (λ q. most_in j q ≤ most_in k q) same here
      by_pid false is =
          let same : most_in j q ≡ most_in k q = ap (λ i. most_in i q) t.after ∙ ap (λ o. option_map_or most_of o 0) (process_at-other k p (taken t.was) q (apart_from p q is)) in
          omega (arith, same)

  -- the steps and the births that are left do not rise
  take_rest : (p : Pid) (k j : Kernel) → IsRising k → take_step p k ≡ Some j → kernel_births j + 2 * kernel_load j ≤ kernel_births k + 2 * kernel_load k
  take_rest p k j rising made =
      let t = take_made p k j made in
      let births = process_sum left_of_children k p t.was (taken t.was) rising t.there in
      let load = process_sum weight_with_children k p t.was (taken t.was) rising t.there in
      let same = taken_children t.was in
      let less = (taken_strikes t.was t.can).weight_children in
      omega (arith, births, load, same, less, ap kernel_births t.after, ap kernel_load t.after)

  -- the process that takes might take a signal, and may no more
  take_own : (p : Pid) (k j : Kernel) → take_step p k ≡ Some j → left_in j p + 1 ≤ left_in k p
  take_own p k j made =
      let t = take_made p k j made in
      let now : one_if (takes_in j p) ≡ 0 =
      ap (λ i. one_if (takes_in i p)) t.after ∙ ap (λ o. one_if (option_map_or (λ (s : ProcState). takes_signals s.small) o false)) (process_at-same k p (taken t.was)) ∙ ap one_if (taken_takes_none t.was) in
      let was : one_if (takes_in k p) ≡ 1 = ap (λ o. one_if (option_map_or (λ (s : ProcState). takes_signals s.small) o false)) t.there ∙ ap one_if (taker_takes t.was t.can) in
      omega (arith, left-count k j p (take_counts p k j p made) (take_most p k j p made), now, was)

  take_each : (p : Pid) (k j : Kernel) (q : Pid) → take_step p k ≡ Some j → left_in j q ≤ left_in k q
  take_each p k j q made = by_pid (same_pid p q) refl
    where
      t : TakesAt p k j
      t = take_made p k j made

      by_pid : (b : Bool) → same_pid p q ≡ b → left_in j q ≤ left_in k q
      by_pid true is =
          let same : p ≡ q = λ i. record { 0 = eqb-true p.0 q.0 is i } in
          let less = take_own p k j made in
          subst (λ q. left_in j q ≤ left_in k q) same (omega (arith, less))
      by_pid false is =
          let small : small_at j q ≡ small_at k q = ap (λ i. small_at i q) t.after ∙ ap (option_map (λ (s : ProcState). s.small)) (process_at-other k p (taken t.was) q (apart_from p q is)) in
          left-same k j q (take_counts p k j q made) small (take_most p k j q made)

  pub take_step-bounded : (qs : List Placed) (most : ℕ) (p : Pid) (k j : Kernel) → IsBounded qs most k → take_step p k ≡ Some j → IsBounded qs most j
  take_step-bounded qs most p k j bounded made =
      let sums = sum_by-le-each (λ (q : Placed). left_in j q.pid) (λ (q : Placed). left_in k q.pid) (λ q. take_each p k j q.pid made) qs in
      let rest = take_rest p k j bounded.rising made in
      let before = bounded.left in
      record { rising = take_step-rising p k j bounded.rising made; left = omega (arith, sums, rest, before) }

  -- one less where the process is one of these
  pub take_step-less : (qs : List Placed) (most : ℕ) (p : Pid) (k j : Kernel) → IsBounded qs most k → list_any (λ (q : Placed). same_pid q.pid p) qs ≡ true → take_step p k ≡ Some j
      → sum_by (λ (q : Placed). left_in j q.pid) qs + kernel_births j + 2 * kernel_load j + 1 ≤ most
  take_step-less qs most p k j bounded among made =
      let sums = sum_by-less (λ (q : Placed). left_in j q.pid) (λ (q : Placed). left_in k q.pid) (λ (q : Placed). same_pid q.pid p) (λ q. take_each p k j q.pid made) own qs among in
      let rest = take_rest p k j bounded.rising made in
      let before = bounded.left in
      omega (arith, sums, rest, before)
    where
      own : (q : Placed) → same_pid q.pid p ≡ true → left_in j q.pid + 1 ≤ left_in k q.pid
      own q same =
          let here : p ≡ q.pid = λ i. record { 0 = sym (eqb-true (q.pid).0 p.0 same) i } in
          subst (λ q. left_in j q + 1 ≤ left_in k q) here (take_own p k j made)

  -- ---- a fork

  module _ (p c : Pid) (k j : Kernel) (f : ForkMade p c k j) where
    fork_most-parent : most_in j p ≤ most_in k p
    fork_most-parent =
        let now : most_in j p ≡ most_of (fork_parent f.was c) = ap (λ o. option_map_or most_of o 0) (fork-parent p c k j f) in
        let was : most_in k p ≡ most_of f.was = ap (λ o. option_map_or most_of o 0) f.there in
        let most = fork_most f.was c (forks_can f.was f.forks) in
        omega (arith, now, was, most)

    fork_most-other : (q : Pid) → same_pid q p ≡ false → same_pid q c ≡ false → most_in j q ≤ most_in k q
    fork_most-other q other far = let same : most_in j q ≡ most_in k q = ap (λ o. option_map_or most_of o 0) (fork-other p c k j f q (not_same q p other) (not_same q c far)) in omega (arith, same)

    fork_left : (q : Pid) → same_pid q c ≡ false → left_in j q ≤ left_in k q + 2 * one_if (same_pid q p)
    fork_left q far = by_pid (same_pid q p) refl
      where
        by_pid : (b : Bool) → same_pid q p ≡ b → left_in j q ≤ left_in k q + 2 * one_if b
        by_pid true is =
            let here : p ≡ q = λ i. record { 0 = sym (eqb-true q.0 p.0 is) i } in
            subst (λ r. left_in j r ≤ left_in k r + 2) here (left-more k j p fork_most-parent)
        by_pid false is =
            let same = left-same k j q (fork-steps_other p c k j f q (not_same q p is) (not_same q c far)) (fork-small p c k j f q (not_same q p is) (not_same q c far)) (fork_most-other q is far) in
            omega (arith, same)

    -- of these processes, none of which is the child, two more at most
    forked_sum : (qs : List Placed) → NoTwo (placed_pids qs) → list_any (λ m. eqb m c.0) (placed_pids qs) ≡ false → sum_by (λ (q : Placed). left_in j q.pid) qs ≤ sum_by (λ (q : Placed). left_in k q.pid) qs + 2
    forked_sum qs apart new =
        let more : Placed → ℕ = λ q. left_in k q.pid + 2 * one_if (same_pid q.pid p) in
        let most = others_most (λ (q : Placed). left_in j q.pid) more c (λ q far. fork_left q.pid far) qs new in
        let rises = one_rises (λ (q : Placed). left_in k q.pid) more p 2 (λ q other. let none : one_if (same_pid q.pid p) ≡ 0 = ap one_if other in omega (arith, none)) (λ q is. omega (arith, at_most_one (same_pid q.pid p))) qs apart in
        omega (arith, most, rises)

    -- less is left by what the child may send, and by one more
    pub fork-bounded : (qs : List Placed) (most : ℕ) → NoTwo (placed_pids qs) → list_any (λ m. eqb m c.0) (placed_pids qs) ≡ false → IsBounded qs most k → fork_step p c k ≡ Some j
        → sum_by (λ (q : Placed). left_in j q.pid) qs + kernel_births j + 2 * kernel_load j + left_of_child (f.was).small + 1 ≤ most
    fork-bounded qs most apart new bounded made =
        let rises = forked_sum qs apart new in
        let less = fork_step_lightens p c k j bounded.rising made in
        let sums : kernel_births j + left_of_children (f.was).small ≡ kernel_births k + left_of_children (fork_parent f.was c).small + left_of_children (fork_child f.was c).small =
        fork_sums left_of_children p c k j bounded.rising f in
        let pays = fork_pays f.was c (forks_can f.was f.forks) in
        let before = bounded.left in
        omega (arith, rises, less, sums, pays, before)
