-- A log bears no more children than the roots may fork at boot, so with the roots there are 32 processes at most.
use Rattle.std.proofs.Common.{◌≡◌, ℕ, ◌+◌, ◌-◌, ◌≤◌, refl, sym, ◌∙◌, ap, subst, arith, List, [], ◌∷◌, ◌++◌, length, true, eqb, Option, Some, None, is_some, true≢false}
use Rattle.std.specs.Prelude.{fold}
use Rattle.std.specs.List.{count_by, sum_by}
use Rattle.std.proofs.lemmas.List.{length-append}
use Rattle.std.proofs.lemmas.List.Sums.{sum_by-cons}
use Rattle.std.proofs.lemmas.Option.{same_Some}
use Rattle.t32_base.specs.declared.process.Pid.{Pid}
use Rattle.t32_base.specs.Small.{SmallState}
use Rattle.sys_text.specs.declared.system.System.{System}
use Rattle.sys_text.specs.declared.system.Root.{Root}
use Rattle.sys_text.specs.Valid.{is_system, births_of as root_births}
use Rattle.sys_text.specs.Boot.{pid_of, roots_of, with_pids}
use Rattle.sys_text.proofs.Bounds.{system_bounds}
use Rattle.proc_state.specs.State.{ProcState, linked_to, can_take}
use Rattle.sys_calls.specs.declared.steps.Emission.{Emission}
use Rattle.sys_calls.specs.Calls.{Silent, Forks, Emits}
use Rattle.sys_calls.specs.Next.{next_step}
use Rattle.sys_calls.specs.Fork.{fork_child, fork_parent}
use Rattle.sys_calls.proofs.Bearing.{Bears, next_bears}
use Rattle.sys_calls.proofs.ForkLaws.{forks_can}
use Rattle.plain_kernel.specs.Kernel.{Kernel, boot, boot_roots, empty, root_process, with_root}
use Rattle.plain_kernel.specs.Apply.{apply_all}
use Rattle.plain_kernel.proofs.AtBoot.{boot-rising, chans-keep, roots-rising}
use Rattle.plain_kernel.proofs.ForkPids.{fork_step-rising}
use Rattle.plain_kernel.proofs.Others.{items_keep}
use Rattle.plain_kernel.proofs.Pids.{IsRising}
use Rattle.bus_msg.specs.declared.entry.What.{What}
use Rattle.bus_msg.specs.declared.entry.What.TheVariants.{Birth}
use Rattle.bus_msg.specs.declared.entry.Entry.{Entry}
use Rattle.bus_msg.specs.PlacedAfter.{what}
use Rattle.cert_sched.specs.Schedule.{after_entry, items_of, run_upto, plain_after}
use Rattle.cert_sched.specs.Family.{born, births_of}
use Rattle.cert_sched.proofs.RunAndFork.{run_and_fork}
use Rattle.cert_sched.proofs.KernelSums.{fork_lowers, process_sum, put_most, put_rising, sum_of}
use Rattle.cert_sched.proofs.LoadLaws.{step_rising, sum_items}
use Rattle.plain_kernel.proofs.TakePids.{take_step-rising}
use Rattle.sys_calls.specs.Take.{taken}
use Rattle.sys_calls.proofs.TakeLaws.{taken_strikes}

-- the births that a process may still make
abbrev pub births_left : SmallState → ℕ
births_left s = s.births

-- ---- one entry

silent_births : (s t : ProcState) → next_step s ≡ Silent t → births_left t.small ≤ births_left s.small
silent_births s t is = let kept = subst (Bears s) is (next_bears s) in omega (arith, kept.0)

sends_births : (s t : ProcState) (e : Emission) → next_step s ≡ Emits e t → births_left t.small ≤ births_left s.small
sends_births s t e is = let kept = subst (Bears s) is (next_bears s) in omega (arith, kept.0)

-- a fork uses one up, and the two share the rest
forks_births : (s : ProcState) (c : Pid) → next_step s ≡ Forks → births_left (fork_parent s c).small + births_left (fork_child s c).small + 1 ≤ births_left s.small
forks_births s c is = let can = forks_can s is in omega (arith, can.births)

forks_fewer : (s : ProcState) (c : Pid) → next_step s ≡ Forks → births_left (fork_parent s c).small + births_left (fork_child s c).small ≤ births_left s.small
forks_fewer s c is = omega (arith, forks_births s c is)

takes_fewer : (s : ProcState) → can_take s ≡ true → births_left (taken s).small ≤ births_left s.small
takes_fewer s can = omega (arith, (taken_strikes s can).births)

entry_births : (w : What) (k j : Kernel) → IsRising k → apply_all (items_of k w) k ≡ Some j → sum_of births_left j + length (born w) ≤ sum_of births_left k
entry_births (Birth parent at child end) k j rising made =
    let r = run_and_fork (run_upto k parent (at - 1)) parent child k j made in
    let ran = sum_items births_left silent_births sends_births forks_fewer takes_fewer (run_upto k parent (at - 1)) k r.to rising r.ran in
    let forked = fork_lowers births_left 1 forks_births parent child r.to j (items_keep IsRising step_rising fork_step-rising take_step-rising (run_upto k parent (at - 1)) k r.to rising r.ran) r.forks in
    omega (arith, ran, forked)
entry_births w k j rising made = let less = sum_items births_left silent_births sends_births forks_fewer takes_fewer (items_of k w) k j rising made in omega (arith, less)

-- ---- a log

none_stays : (log : List Entry) → fold after_entry None log ≡ None
none_stays [] = refl
none_stays (e ∷ log) = none_stays log

births_from : (log : List Entry) (k j : Kernel) → IsRising k → fold after_entry (Some k) log ≡ Some j → sum_of births_left j + length (births_of log) ≤ sum_of births_left k
births_from [] k j rising is = let same = ap (sum_of births_left) (same_Some k j is) in omega (arith, same)
births_from (e ∷ log) k j rising is = by_case (apply_all (items_of k (what e)) k) refl is (λ l. births_from log l j)
  where
    by_case : (o : Option Kernel) → apply_all (items_of k (what e)) k ≡ o → fold after_entry o log ≡ Some j → ((l : Kernel) → IsRising l → fold after_entry (Some l) log ≡ Some j → sum_of births_left j + length (births_of log) ≤ sum_of births_left l)
        → sum_of births_left j + length (born (what e) ++ births_of log) ≤ sum_of births_left k
    by_case None made goes more = absurd (true≢false (ap is_some (sym goes ∙ none_stays log)))
    by_case (Some l) made goes more =
        let here = entry_births (what e) k l rising made in
        let rest = more l (items_keep IsRising step_rising fork_step-rising take_step-rising (items_of k (what e)) k l rising made) goes in
        omega (arith, here, rest, length-append (born (what e)) (births_of log))

-- the children that a log bears and those that may still be born are no more than the roots may fork
pub births_after : (system : System) (log : List Entry) (k : Kernel) → plain_after system log ≡ Some k → sum_of births_left k + length (births_of log) ≤ sum_of births_left (boot system)
unfolding plain_after
births_after system log k is = births_from log (boot system) k (boot-rising system) is

-- ---- at boot

roots_births : (system : System) (k : Kernel) (roots : List (Pid × Root)) → sum_of births_left (fold (with_root system) k roots) ≤ sum_of births_left k + sum_by (λ (r : Pid × Root). (r.1).births) roots
roots_births system k [] = omega arith
roots_births system k (r ∷ roots) =
    let one = put_most births_left r.0 (root_process system r.0 r.1) k.processes in
    omega (arith, roots_births system (with_root system k r) roots, one, sum_by-cons (λ (r : Pid × Root). (r.1).births) r roots)

numbered_births : (earlier roots : List Root) → sum_by (λ (r : Pid × Root). (r.1).births) (with_pids earlier roots) ≡ root_births roots
numbered_births earlier [] = refl
numbered_births earlier (r ∷ roots) =
    let first = pid_of (r.home).0 (1 + count_by (λ (q : Root). eqb (q.home).0 (r.home).0) earlier) in
    omega (arith, sum_by-cons (λ (r : Pid × Root). (r.1).births) (first, r) (with_pids (earlier ++ r ∷ []) roots), sum_by-cons (λ (root : Root). root.births) r roots, numbered_births (earlier ++ r ∷ []) roots)

record BootBirths (system : System) (k : Kernel) : Type 0 where
  pub rising : IsRising k
  pub few : sum_of births_left k ≤ root_births system.roots

boot_births : (system : System) → BootBirths system (boot system)
unfolding boot
boot_births system =
    chans-keep (BootBirths system)
    (λ k p s peer far there b.
    let same = process_sum births_left k p s (linked_to s peer far) b.rising there in
    record { rising = put_rising births_left k p s (linked_to s peer far) b.rising there; few = omega (arith, same, b.few) })
    system (boot_roots system) system.chans
    (record { rising = roots-rising system; few = omega (arith, roots_births system empty (roots_of system), numbered_births [] system.roots) })

-- so with the roots there are 32 processes at most
pub few_births : (system : System) (log : List Entry) → is_system system ≡ true → is_some (plain_after system log) ≡ true → length system.roots + length (births_of log) ≤ 32
few_births system log valid there = by_kernel (plain_after system log) refl there
  where
    by_kernel : (o : Option Kernel) → plain_after system log ≡ o → is_some o ≡ true → length system.roots + length (births_of log) ≤ 32
    by_kernel None is h = absurd (true≢false (sym h))
    by_kernel (Some k) is h = omega (arith, births_after system log k is, (boot_births system).few, (system_bounds system valid).births)
