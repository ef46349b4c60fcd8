-- What is left of synchronisations, of changed pages and of births is never more than a system could have at boot.
use Rattle.std.proofs.Common.{◌≡◌, ℕ, ◌+◌, ◌*◌, ◌≤◌, refl, sym, ◌∙◌, ap, subst, arith, List, [], ◌∷◌, Bool, true, false, cond, not, Option, Some, None, is_some, true≢false}
use Rattle.std.specs.Prelude.{filter, option_and_then, sum_by}
use Rattle.std.specs.Option.{option_map_or}
use Rattle.std.proofs.lemmas.Nat.{mul-le}
use Rattle.std.proofs.lemmas.List.Sums.{sum_by-cons}
use Rattle.t32_base.specs.declared.process.Pid.{Pid}
use Rattle.t32_base.specs.Small.{SmallState}
use Rattle.sys_text.specs.declared.system.System.{System}
use Rattle.sys_text.specs.Valid.{is_system}
use Rattle.proc_state.specs.State.{ProcState, can_take}
use Rattle.sys_calls.specs.declared.steps.Emission.{Emission}
use Rattle.sys_calls.specs.Small.{weight}
use Rattle.sys_calls.specs.Calls.{Emits, Forks, Silent}
use Rattle.sys_calls.specs.Fork.{fork_child, fork_parent}
use Rattle.sys_calls.specs.Next.{next_step}
use Rattle.sys_calls.proofs.ForkLaws.{forks_can}
use Rattle.plain_kernel.specs.Kernel.{Kernel, process_at}
use Rattle.bus_msg.specs.declared.entry.Entry.{Entry}
use Rattle.bus_msg.specs.declared.placed.Placed.{Placed}
use Rattle.cert_sched.specs.Schedule.{plain_after, placement, process_after}
use Rattle.cert_sched.specs.Steps.{page_count}
use Rattle.cert_sched.specs.Legal.{IsLegalBy, Stands}
use Rattle.cert_sched.proofs.KernelSums.{sum_of}
use Rattle.cert_sched.proofs.LoadLaws.{sum_after}
use Rattle.cert_sched.proofs.ThereLaws.{plain_there}
use Rattle.log_laws.proofs.pages.BornSums.{itself}
use Rattle.log_laws.proofs.pages.StepSizes.{Keeps, next_keeps}
use Rattle.checkpoint_laws.specs.remaining.Load.{left_of_children}
use Rattle.checkpoint_laws.specs.remaining.Left.{is_unsent, left_of_process, left_of_syncs, may_sync, may_take, most_of, most_of_process, most_steps, most_syncs}
use Rattle.checkpoint_laws.proofs.remaining.Forked.{child_few, emits_births, fork_pays, silent_births}
use Rattle.checkpoint_laws.proofs.remaining.Pairs.{pairs-within}
use Rattle.checkpoint_laws.proofs.remaining.PlacedSums.{placed_most}
use Rattle.checkpoint_laws.proofs.remaining.OneStep.{at_most_one, emits_most, fork_most, silent_most, taken_children}
use Rattle.checkpoint_laws.proofs.remaining.OneEntry.{births_kernel}
use Rattle.sys_calls.specs.Take.{taken}
use Rattle.sys_calls.proofs.TakeLaws.{taken_strikes}

-- ---- a step and a fork leave no more

-- a synchronisation, one that takes a signal, and each page at each step count
abbrev own_most : SmallState → ℕ
own_most s = 2 + s.pages * (s.steps + weight s + 1)

most_kept : (s t : ProcState) → (t.small).pages ≡ (s.small).pages → most_of t ≤ most_of s → left_of_children t.small + 0 ≤ left_of_children s.small → most_of_process t.small ≤ most_of_process s.small
most_kept s t same steps births =
    let pages = mul-le (t.small).pages (most_of t + 1) (s.small).pages (most_of s + 1) (omega (arith, same)) (omega (arith, steps)) in
    omega (arith, pages, births)

silent_kept : (s t : ProcState) → next_step s ≡ Silent t → most_of_process t.small ≤ most_of_process s.small
silent_kept s t is = let size = subst (Keeps s) is (next_keeps s) in most_kept s t size.pages (silent_most s t is) (silent_births s t is)

emits_kept : (s t : ProcState) (e : Emission) → next_step s ≡ Emits e t → most_of_process t.small ≤ most_of_process s.small
emits_kept s t e is = let size = subst (Keeps s) is (next_keeps s) in most_kept s t size.pages (emits_most s t e is) (emits_births s t e is)

fork_kept : (s : ProcState) (child : Pid) → next_step s ≡ Forks → most_of_process (fork_parent s child).small + most_of_process (fork_child s child).small ≤ most_of_process s.small
fork_kept s child is =
    let can = forks_can s is in
    let parent = mul-le (s.small).pages (most_of (fork_parent s child) + 1) (s.small).pages (most_of s + 1) (omega arith) (let less = fork_most s child can in omega (arith, less)) in
    let born = mul-le (s.small).pages (most_of (fork_child s child) + 1) (s.small).pages ((s.small).left + 34) (omega arith) (let few = child_few s child can in omega (arith, few)) in
    let pays = fork_pays s child can in
    omega (arith, parent, born, pays)

take_kept : (s : ProcState) → can_take s ≡ true → most_of_process (taken s).small ≤ most_of_process s.small
take_kept s can =
    let t = taken_strikes s can in
    most_kept s (taken s) t.pages (omega (arith, t.steps, t.weight_is)) (omega (arith, taken_children s))

-- so the kernel after a log has no more than that at boot
kernel_within : (system : System) (log : List Entry) (k : Kernel) → plain_after system log ≡ Some k → sum_of most_of_process k ≤ most_syncs system
kernel_within system log k is = sum_after most_of_process silent_kept emits_kept fork_kept take_kept system log k is

abbrev of_entry : (SmallState → ℕ) → Pid × ProcState → ℕ
of_entry f e = f (e.1).small

-- the two parts of it
two_parts : (es : List (Pid × ProcState)) → sum_by (of_entry own_most) es + sum_by (of_entry left_of_children) es ≡ sum_by (of_entry most_of_process) es
two_parts [] = omega arith
two_parts (e ∷ es) =
    let rest = two_parts es in
    omega (arith, rest, sum_by-cons (of_entry own_most) e es, sum_by-cons (of_entry left_of_children) e es, sum_by-cons (of_entry most_of_process) e es)

-- ---- one process

module _ (system : System) (log : List Entry) (k : Kernel) (is : plain_after system log ≡ Some k) where
  -- one that is there
  process_within : (q : Placed) (s : ProcState) → process_at k q.pid ≡ Some s → left_of_process system log q.pid ≤ own_most s.small
  process_within q s there =
      let after : process_after system log q.pid ≡ Some s = ap (option_and_then (λ k. process_at k q.pid)) is ∙ there in
      let pages : page_count system log q.pid ≡ (s.small).pages = ap (λ o. option_map_or (λ (s : ProcState). (s.small).pages) o 0) after in
      let most : most_steps system log q.pid ≡ most_of s = ap (λ o. option_map_or most_of o 0) after in
      let pairs = pairs-within (is_unsent system log q.pid) (page_count system log q.pid) (most_steps system log q.pid) in
      let within = mul-le (page_count system log q.pid) (most_steps system log q.pid + 1) (s.small).pages (most_of s + 1) (omega (arith, pages)) (omega (arith, most)) in
      omega (arith, at_most_one (may_sync system log q.pid), at_most_one (may_take system log q.pid), pairs, within)

-- ---- all processes

fewer_of : (f : Placed → ℕ) (t : Placed → Bool) (qs : List Placed) → sum_by f (filter t qs) ≤ sum_by f qs
fewer_of f t [] = omega arith
fewer_of f t (q ∷ qs) = by_test (t q) (fewer_of f t qs)
  where
    by_test : (b : Bool) → sum_by f (filter t qs) ≤ sum_by f qs → sum_by f (cond b (q ∷ filter t qs) (filter t qs)) ≤ sum_by f (q ∷ qs)
    by_test true more = omega (arith, sum_by-cons f q (filter t qs), sum_by-cons f q qs, more)
    by_test false more = omega (arith, sum_by-cons f q qs, more)

pub syncs_within : (system : System) (log : List Entry) → is_system system ≡ true → IsLegalBy Stands system log → left_of_syncs system log ≤ most_syncs system
syncs_within system log valid legal = by_kernel (plain_after system log) refl (plain_there Stands itself system log legal)
  where
    by_kernel : (o : Option Kernel) → plain_after system log ≡ o → is_some o ≡ true → left_of_syncs system log ≤ most_syncs system
    by_kernel None is there = absurd (true≢false (sym there))
    by_kernel (Some k) is there =
        let qs = (placement system log).placed in
        let g : Placed → ℕ = λ q. left_of_process system log q.pid in
        let fewer = fewer_of g (λ (q : Placed). not q.ended) qs in
        let placed = placed_most own_most g k (process_within system log k is) system log valid legal is in
        let parts = two_parts k.processes in
        let most = kernel_within system log k is in
        omega (arith, fewer, placed, parts, most, births_kernel system log k is)
