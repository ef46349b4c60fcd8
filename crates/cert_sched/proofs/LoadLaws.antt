-- What each step and each fork lowers in sum, and no take raises, over the processes of a kernel is never more after a log than at boot, nor after an entry than before it.
use Rattle.std.proofs.Common.{◌≡◌, ℕ, ◌+◌, ◌-◌, ◌≤◌, refl, sym, ◌∙◌, ap, arith, List, [], ◌∷◌, ◌++◌, Some, true}
use Rattle.std.proofs.lemmas.Option.{same_Some}
use Rattle.t32_base.specs.declared.process.Pid.{Pid}
use Rattle.t32_base.specs.Small.{SmallState}
use Rattle.sys_text.specs.declared.system.System.{System}
use Rattle.proc_state.specs.State.{ProcState, can_take}
use Rattle.sys_calls.specs.declared.steps.Emission.{Emission}
use Rattle.sys_calls.specs.Calls.{Silent, Forks, Emits}
use Rattle.sys_calls.specs.Next.{next_step}
use Rattle.sys_calls.specs.Small.{weight_with_children}
use Rattle.sys_calls.specs.Fork.{fork_child, fork_parent}
use Rattle.sys_calls.proofs.Bearing.{emits_lightens, fork_lightens, silent_lightens, silently_lightens}
use Rattle.sys_calls.proofs.Counting.{last_sent}
use Rattle.sys_calls.proofs.ForkLaws.{forks_can}
use Rattle.plain_kernel.specs.Kernel.{Kernel, boot, emitted, with_process}
use Rattle.plain_kernel.specs.Apply.{apply_all, fork_step, one_step, take_step}
use Rattle.plain_kernel.specs.declared.item.Item.{Item}
use Rattle.plain_kernel.proofs.AtBoot.{boot-rising}
use Rattle.plain_kernel.proofs.ForkPids.{fork_step-rising}
use Rattle.plain_kernel.proofs.Others.{items_keep}
use Rattle.plain_kernel.proofs.Pids.{IsRising, one_step-pids, pids_in}
use Rattle.cert_sched.proofs.KernelSums.{family_load, fork_lowers, fork_step_lightens, sent_lowers, step_lowers, sum_of, process_sum}
use Rattle.bus_msg.specs.declared.entry.What.TheVariants.{Birth}
use Rattle.bus_msg.specs.declared.entry.Entry.{Entry}
use Rattle.bus_msg.specs.PlacedAfter.{what}
use Rattle.cert_sched.specs.Schedule.{items_of, run_upto, plain_after}
use Rattle.cert_sched.specs.Steps.{emission_at}
use Rattle.cert_sched.proofs.RunAndFork.{run_and_fork}
use Rattle.cert_sched.proofs.StepLaws.{Applied, Tells, log_keeps_all, plain_after-rising, plain_after-sent, sent_from}
use Rattle.plain_kernel.proofs.Taking.{take_made}
use Rattle.plain_kernel.proofs.TakePids.{take_step-rising}
use Rattle.sys_calls.specs.Take.{taken}
use Rattle.sys_calls.proofs.TakeLaws.{taken_strikes}

pub step_rising : (p : Pid) (k j : Kernel) → IsRising k → one_step p k ≡ Some j → IsRising j
step_rising p k j rising made = (one_step-pids (pids_in k) p k j (record { rising = rising; are = refl }) made).rising

-- ---- what no step, no fork and no take raises

module _ (f : SmallState → ℕ) (silent : (s t : ProcState) → next_step s ≡ Silent t → f t.small ≤ f s.small) (sends : (s t : ProcState) (e : Emission) → next_step s ≡ Emits e t → f t.small ≤ f s.small)
    (forks : (s : ProcState) (c : Pid) → next_step s ≡ Forks → f (fork_parent s c).small + f (fork_child s c).small ≤ f s.small) (takes : (s : ProcState) → can_take s ≡ true → f (taken s).small ≤ f s.small) where
  record IsBelow (most : ℕ) (k : Kernel) : Type 0 where
    pub rising : IsRising k
    pub below : sum_of f k ≤ most

  one_below : (most : ℕ) (p : Pid) (k j : Kernel) → IsBelow most k → one_step p k ≡ Some j → IsBelow most j
  one_below most p k j is made =
      let less = step_lowers f 0 (λ s t next. omega (arith, silent s t next)) (λ s t e next. omega (arith, sends s t e next)) p k j is.rising made in
      record { rising = step_rising p k j is.rising made; below = omega (arith, less, is.below) }

  fork_below : (most : ℕ) (p c : Pid) (k j : Kernel) → IsBelow most k → fork_step p c k ≡ Some j → IsBelow most j
  fork_below most p c k j is made =
      let less = fork_lowers f 0 (λ s c next. omega (arith, forks s c next)) p c k j is.rising made in
      record { rising = fork_step-rising p c k j is.rising made; below = omega (arith, less, is.below) }

  take_below : (most : ℕ) (p : Pid) (k j : Kernel) → IsBelow most k → take_step p k ≡ Some j → IsBelow most j
  take_below most p k j is made =
      let t = take_made p k j made in
      let sum = process_sum f k p t.was (taken t.was) is.rising t.there in
      let less = takes t.was t.can in
      record { rising = take_step-rising p k j is.rising made; below = omega (arith, sum, less, is.below, ap (sum_of f) t.after) }

  -- items do not raise it
  pub sum_items : (items : List Item) (k j : Kernel) → IsRising k → apply_all items k ≡ Some j → sum_of f j ≤ sum_of f k
  sum_items items k j rising made = (items_keep (IsBelow (sum_of f k)) (one_below (sum_of f k)) (fork_below (sum_of f k)) (take_below (sum_of f k)) items k j (record { rising = rising; below = omega arith }) made).below

  -- nor does an entry
  pub sum_entry : (system : System) (log : List Entry) (e : Entry) (a : Applied system log e) → sum_of f a.new ≤ sum_of f a.old
  sum_entry system log e a = sum_items (items_of a.old (what e)) a.old a.new (plain_after-rising system log a.old a.before) a.made

  -- so after a log it is no more than at boot
  pub sum_after : (system : System) (log : List Entry) (k : Kernel) → plain_after system log ≡ Some k → sum_of f k ≤ sum_of f (boot system)
  sum_after system log k is =
      (log_keeps_all (IsBelow (sum_of f (boot system))) (one_below (sum_of f (boot system))) (fork_below (sum_of f (boot system))) (take_below (sum_of f (boot system))) system log k (record { rising = boot-rising system; below = omega arith }) is).below

-- ---- the steps that the processes and the children that they may still fork have left

silent_less : (s t : ProcState) → next_step s ≡ Silent t → weight_with_children t.small ≤ weight_with_children s.small
silent_less s t is = omega (arith, silent_lightens s t is)

sends_less : (s t : ProcState) (e : Emission) → next_step s ≡ Emits e t → weight_with_children t.small ≤ weight_with_children s.small
sends_less s t e is = omega (arith, emits_lightens s t e is)

forks_less : (s : ProcState) (c : Pid) → next_step s ≡ Forks → weight_with_children (fork_parent s c).small + weight_with_children (fork_child s c).small ≤ weight_with_children s.small
forks_less s c is = omega (arith, fork_lightens s c (forks_can s is))

takes_less : (s : ProcState) → can_take s ≡ true → weight_with_children (taken s).small ≤ weight_with_children s.small
takes_less s can = (taken_strikes s can).weight_children

pub load_items : (items : List Item) (k j : Kernel) → IsRising k → apply_all items k ≡ Some j → family_load j ≤ family_load k
load_items = sum_items weight_with_children silent_less sends_less forks_less takes_less

pub load_entry : (system : System) (log : List Entry) (e : Entry) (a : Applied system log e) → family_load a.new ≤ family_load a.old
load_entry = sum_entry weight_with_children silent_less sends_less forks_less takes_less

pub load_after : (system : System) (log : List Entry) (k : Kernel) → plain_after system log ≡ Some k → family_load k ≤ family_load (boot system)
load_after = sum_after weight_with_children silent_less sends_less forks_less takes_less

-- an entry that tells of what a process sent leaves one fewer at least
pub load_sent : (system : System) (log : List Entry) (entry : Entry) (p : Pid) (at : ℕ) (e : Emission) (t : ProcState) (k j : Kernel) → plain_after system log ≡ Some k → plain_after system (log ++ entry ∷ []) ≡ Some j
    → emission_at system log p at ≡ Some (e, t) → Tells p at e (what entry) → family_load j + 1 ≤ family_load k
load_sent system log entry p at e t k j before after is tells =
    let s = sent_from system log p at e t is in
    let l = last_sent _ s.was e t s.sends in
    let less : weight_with_children t.small + 1 ≤ weight_with_children (s.was).small = omega (arith, silently_lightens l.earlier s.was l.before l.silent, emits_lightens l.before t e l.last) in
    let new : emitted (with_process s.kernel p t) e ≡ j = same_Some (emitted (with_process s.kernel p t) e) j (sym (plain_after-sent system log entry p at e t s.kernel s.before is tells) ∙ after) in
    let old : s.kernel ≡ k = same_Some s.kernel k (sym s.before ∙ before) in
    let lowers = sent_lowers weight_with_children 1 s.kernel p s.was t e (plain_after-rising system log s.kernel s.before) s.there less in
    omega (arith, ap family_load new, ap family_load old, lowers)

-- and one that tells of a birth two
pub load_birth : (system : System) (log : List Entry) (e : Entry) (parent : Pid) (at : ℕ) (child : Pid) (end : ℕ) (a : Applied system log e) → what e ≡ Birth parent at child end → family_load a.new + 2 ≤ family_load a.old
load_birth system log e parent at child end a is =
    let r = run_and_fork (run_upto a.old parent (at - 1)) parent child a.old a.new (ap (λ w. apply_all (items_of a.old w) a.old) (sym is) ∙ a.made) in
    let rising = plain_after-rising system log a.old a.before in
    let ran = load_items (run_upto a.old parent (at - 1)) a.old r.to rising r.ran in
    let run_rising = items_keep IsRising step_rising fork_step-rising take_step-rising (run_upto a.old parent (at - 1)) a.old r.to rising r.ran in
    let forked = fork_step_lightens parent child r.to a.new run_rising r.forks in
    omega (arith, ran, forked)
