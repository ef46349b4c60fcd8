-- One more entry, which moves no process and bears none: what is left of the processes, of the births and of the steps of the kernel twice, in sum, does not rise where starts stay.
use Rattle.std.proofs.Common.{◌≡◌, ℕ, ◌+◌, ◌*◌, ◌≤◌, refl, sym, ◌∙◌, ap, arith, List, [], ◌∷◌, ◌++◌, Bool, true, false, not, ◌||◌, ltb, Some, None}
use Rattle.std.specs.Prelude.{option_and_then, sum_by}
use Rattle.std.specs.List.{list_any}
use Rattle.std.specs.Option.{option_map_or}
use Rattle.t32_base.specs.declared.process.Pid.{Pid}
use Rattle.sys_text.specs.declared.system.System.{System}
use Rattle.sys_text.specs.Valid.{is_system}
use Rattle.proc_state.specs.State.{ProcState}
use Rattle.plain_kernel.specs.Kernel.{Kernel, process_at}
use Rattle.bus_msg.specs.declared.entry.By.{By}
use Rattle.bus_msg.specs.declared.entry.Entry.{Entry}
use Rattle.bus_msg.specs.declared.placed.Placed.{Placed}
use Rattle.bus_msg.specs.Places.{Places, same_pid, unended_in}
use Rattle.bus_msg.specs.PlacedAfter.{what}
use Rattle.cert_sched.specs.Schedule.{items_of, done, plain_after, placement}
use Rattle.cert_sched.specs.Told.{cluster_lost}
use Rattle.cert_sched.specs.Moved.{any_since_moved, is_page_at}
use Rattle.cert_sched.specs.Steps.{start_steps, page_count}
use Rattle.cert_sched.specs.Rules.{is_by_home}
use Rattle.cert_sched.specs.Legal.{IsLegalBy, Stands}
use Rattle.cert_sched.specs.Deeds.{is_cut, is_birth_of, start_of}
use Rattle.cert_sched.specs.Record.{has_state}
use Rattle.cert_sched.proofs.BirthKind.{is_birth}
use Rattle.cert_sched.proofs.CutLaws.{by_home_there}
use Rattle.cert_sched.proofs.LoadLaws.{load_entry}
use Rattle.cert_sched.proofs.RecordLaws.{has_state-snoc}
use Rattle.cert_sched.proofs.RunItems.{forkless_keep, items_forkless}
use Rattle.cert_sched.proofs.StepLaws.{Applied, applied, done_kernel, plain_after-rising}
use Rattle.cert_sched.proofs.RisingLaws.{NoTwo}
use Rattle.cert_sched.proofs.PidLaws.{placed_pids, apart_fewer}
use Rattle.cert_sched.proofs.FreshLaws.{numbered}
use Rattle.log_laws.proofs.pages.BornSums.{itself}
use Rattle.log_laws.proofs.pages.OneEntry.{moves_none, any_since-goes_on}
use Rattle.log_laws.proofs.pages.PagesStay.{page_count-snoc}
use Rattle.log_laws.proofs.pages.Leaving.{one_if, sum_by-le-each, sum_by-less, unended_there}
use Rattle.checkpoint_laws.proofs.posts.Beside.{start_stays}
use Rattle.checkpoint_laws.specs.remaining.Load.{kernel_births, kernel_load, log_births, log_load}
use Rattle.checkpoint_laws.specs.remaining.Left.{has_stepped, is_unsent, left_of_process, left_of_syncs, may_sync, may_take, most_of, most_steps, pairs_that, takes_signals}
use Rattle.checkpoint_laws.proofs.remaining.Pairs.{one_if-le, pairs-le}
use Rattle.checkpoint_laws.proofs.remaining.OneStep.{IsBounded, left_in, most_in, one_step-bounded, take_step-bounded, takes_in}

-- ---- the kernel after a log

pub most_kernel : (system : System) (log : List Entry) (k : Kernel) (p : Pid) → plain_after system log ≡ Some k → most_steps system log p ≡ most_in k p
most_kernel system log k p is = ap (λ o. option_map_or most_of (option_and_then (λ k. process_at k p) o) 0) is

takes_kernel : (system : System) (log : List Entry) (k : Kernel) (p : Pid) → plain_after system log ≡ Some k → may_take system log p ≡ takes_in k p
takes_kernel system log k p is = ap (λ o. option_map_or (λ (s : ProcState). takes_signals s.small) (option_and_then (λ k. process_at k p) o) false) is

pub load_kernel : (system : System) (log : List Entry) (k : Kernel) → plain_after system log ≡ Some k → log_load system log ≡ kernel_load k
load_kernel system log k is = ap (λ o. option_map_or kernel_load o 0) is

pub births_kernel : (system : System) (log : List Entry) (k : Kernel) → plain_after system log ≡ Some k → log_births system log ≡ kernel_births k
births_kernel system log k is = ap (λ o. option_map_or kernel_births o 0) is

-- no two processes that have not ended have one pid
pub unended_apart : (system : System) (log : List Entry) → is_system system ≡ true → IsLegalBy Stands system log → NoTwo (placed_pids (unended_in (placement system log)))
unended_apart system log valid legal = apart_fewer (λ (q : Placed). not q.ended) (placement system log).placed (numbered Stands itself system log valid legal).two

-- who sends has not ended
pub sender_among : (places : Places) (by : By) (p : Pid) → is_by_home places by (Some p) ≡ true → list_any (λ (q : Placed). same_pid q.pid p) (unended_in places) ≡ true
sender_among places by p right = unended_there p places.placed (by_home_there places by p right)

-- a page that was not sent with the entry was not sent before it
unsent_before : (a b : Bool) → not (a || b) ≡ true → not a ≡ true
unsent_before true b is = is
unsent_before false b is = refl

module _ (system : System) (log : List Entry) (e : Entry) (stands : Stands system log e) where
  pub there : Applied system log e
  there = applied system log e stands.applies

  -- what is left of a process with its start and its pages before the entry, in the kernel after it
  abbrev pub left_then : Pid → ℕ
  left_then r = left_in (start_steps system log) (λ p. not (has_state system log p)) (is_unsent system log) (page_count system log) there.new r

  -- what is left before the entry, of the processes that have not ended
  pub bounded_before : IsBounded (start_steps system log) (λ p. not (has_state system log p)) (is_unsent system log) (page_count system log) (unended_in (placement system log)) (left_of_syncs system log + 2 * log_load system log) there.old
  bounded_before =
      let a = there in
      let qs = unended_in (placement system log) in
      let start = start_steps system log in
      let uncut : Pid → Bool = λ p. not (has_state system log p) in
      let unsent = is_unsent system log in
      let pages = page_count system log in
      let before : (r : Pid) → left_in start uncut unsent pages a.old r ≤ left_of_process system log r = λ r.
      let count = done_kernel system log a.old r a.before in
      let most = most_kernel system log a.old r a.before in
      let takes = takes_kernel system log a.old r a.before in
      let same : left_of_process system log r ≡ left_in start uncut unsent pages a.old r = λ i. one_if (ltb (start r) (count i) || uncut r) + one_if (takes i) + pairs_that (unsent r) (pages r) (most i) in
      omega (arith, same) in
      let sums = sum_by-le-each (λ (q : Placed). left_in start uncut unsent pages a.old q.pid) (λ (q : Placed). left_of_process system log q.pid) (λ q. before q.pid) qs in
      record { rising = plain_after-rising system log a.old a.before; left = omega (arith, sums, births_kernel system log a.old a.before, load_kernel system log a.old a.before) }

  -- the steps that are left do not rise
  pub load_most : log_load system (log ++ e ∷ []) ≤ log_load system log
  load_most =
      let a = there in
      let most = load_entry system log e a in
      omega (arith, most, load_kernel system log a.old a.before, load_kernel system (log ++ e ∷ []) a.new a.after)

  module _ (no_fork : is_birth (what e) ≡ false) where
    -- with these no more is left in sum
    pub then_most : is_system system ≡ true → IsLegalBy Stands system log
        → sum_by (λ (q : Placed). left_then q.pid) (unended_in (placement system log)) + log_births system (log ++ e ∷ []) + 2 * log_load system (log ++ e ∷ []) ≤ left_of_syncs system log + 2 * log_load system log
    then_most valid legal =
        let a = there in
        let qs = unended_in (placement system log) in
        let limit = left_of_syncs system log + 2 * log_load system log in
        let kept = forkless_keep (IsBounded (start_steps system log) (λ p. not (has_state system log p)) (is_unsent system log) (page_count system log) qs limit)
        (one_step-bounded (start_steps system log) (λ p. not (has_state system log p)) (is_unsent system log) (page_count system log) qs limit (unended_apart system log valid legal))
        (take_step-bounded (start_steps system log) (λ p. not (has_state system log p)) (is_unsent system log) (page_count system log) qs limit) (items_of a.old (what e)) a.old a.new
        (items_forkless a.old (what e) no_fork) bounded_before a.made in
        omega (arith, kept.left, births_kernel system (log ++ e ∷ []) a.new a.after, load_kernel system (log ++ e ∷ []) a.new a.after)

  module _ (no_loss : cluster_lost (what e) ≡ None) where
    -- a page that was not sent after the entry was not before
    pub unsent_still : (r : Pid) (i n : ℕ) → is_unsent system (log ++ e ∷ []) r i n ≡ true → is_unsent system log r i n ≡ true
    unsent_still r i n is =
        let stays = moves_none system log e no_loss r in
        unsent_before (any_since_moved system log r (is_page_at r i n)) (is_page_at r i n (what e)) (sym (ap not (any_since-goes_on system log e r (is_page_at r i n) stays)) ∙ is)

    -- what is left after the entry but for a synchronisation is that of the kernel after it, for a process that it does not bear
    pub unsent_after : (r : Pid) → is_birth_of r (what e) ≡ false → left_of_process system (log ++ e ∷ []) r ≡ one_if (may_sync system (log ++ e ∷ []) r) + one_if (takes_in there.new r) + pairs_that (is_unsent system (log ++ e ∷ []) r) (page_count system log r) (most_in there.new r)
    unsent_after r no_birth =
        let most = most_kernel system (log ++ e ∷ []) there.new r there.after in
        let pages = page_count-snoc system log e r no_birth stands.applies in
        let takes = takes_kernel system (log ++ e ∷ []) there.new r there.after in
        λ j. one_if (may_sync system (log ++ e ∷ []) r) + one_if (takes j) + pairs_that (is_unsent system (log ++ e ∷ []) r) (pages j) (most j)

    pub unsent_fewer : (r : Pid) → pairs_that (is_unsent system (log ++ e ∷ []) r) (page_count system log r) (most_in there.new r) ≤ pairs_that (is_unsent system log r) (page_count system log r) (most_in there.new r)
    unsent_fewer r = pairs-le (is_unsent system (log ++ e ∷ []) r) (is_unsent system log r) (unsent_still r) (page_count system log r) (most_in there.new r) (most_in there.new r) (omega arith)

    -- a process that may synchronise after the entry might with its start before it
    pub each_most : (r : Pid) → is_birth_of r (what e) ≡ false → (may_sync system (log ++ e ∷ []) r ≡ true → (ltb (start_steps system log r) (done there.new r) || not (has_state system log r)) ≡ true) → left_of_process system (log ++ e ∷ []) r ≤ left_then r
    each_most r no_birth stepped =
        let is = unsent_after r no_birth in
        let one = one_if-le (may_sync system (log ++ e ∷ []) r) (ltb (start_steps system log r) (done there.new r) || not (has_state system log r)) stepped in
        omega (arith, is, one, unsent_fewer r)

    -- where its start stays
    pub stepped_stays : (r : Pid) → start_of system (log ++ e ∷ []) r ≡ start_of system log r → has_stepped system (log ++ e ∷ []) r ≡ ltb (start_steps system log r) (done there.new r)
    stepped_stays r stays =
        let count = done_kernel system (log ++ e ∷ []) there.new r there.after in
        λ i. ltb (option_map_or (λ s. (s.small).steps) (stays i) 0) (count i)

    -- a process without a state had none
    none_before : (a s c : Bool) → (a || not (s || c)) ≡ true → (a || not s) ≡ true
    none_before true s c is = refl
    none_before false true c is = is
    none_before false false c is = refl

    pub stays_most : (r : Pid) → is_birth_of r (what e) ≡ false → start_of system (log ++ e ∷ []) r ≡ start_of system log r → left_of_process system (log ++ e ∷ []) r ≤ left_then r
    stays_most r no_birth stays =
        each_most r no_birth (λ is.
        none_before (ltb (start_steps system log r) (done there.new r)) (has_state system log r) (is_cut r (what e))
        (sym (λ i. stepped_stays r stays i || not (has_state-snoc system log e r i)) ∙ is))

    -- an entry that starts no process again: after it, no more is left of the processes that had not ended
    pub all_most : is_system system ≡ true → IsLegalBy Stands system log → is_birth (what e) ≡ false → ((r : Pid) → is_cut r (what e) ≡ false) → ((r : Pid) → is_birth_of r (what e) ≡ false)
        → sum_by (λ (q : Placed). left_of_process system (log ++ e ∷ []) q.pid) (unended_in (placement system log)) + log_births system (log ++ e ∷ []) + 2 * log_load system (log ++ e ∷ []) ≤ left_of_syncs system log + 2 * log_load system log
    all_most valid legal no_fork no_cut no_birth =
        let each = sum_by-le-each (λ (q : Placed). left_of_process system (log ++ e ∷ []) q.pid) (λ (q : Placed). left_then q.pid)
        (λ q. stays_most q.pid (no_birth q.pid) (start_stays system log e q.pid (no_cut q.pid) (no_birth q.pid))) (unended_in (placement system log)) in
        omega (arith, each, then_most no_fork valid legal)

    -- where less is left of one of them by it, less is left in sum
    pub one_less : is_system system ≡ true → IsLegalBy Stands system log → is_birth (what e) ≡ false → (p : Pid) → list_any (λ (q : Placed). same_pid q.pid p) (unended_in (placement system log)) ≡ true
        → ((q : Placed) → left_of_process system (log ++ e ∷ []) q.pid ≤ left_then q.pid) → ((q : Placed) → same_pid q.pid p ≡ true → left_of_process system (log ++ e ∷ []) q.pid + 1 ≤ left_then q.pid)
        → sum_by (λ (q : Placed). left_of_process system (log ++ e ∷ []) q.pid) (unended_in (placement system log)) + log_births system (log ++ e ∷ []) + 2 * log_load system (log ++ e ∷ []) + 1 ≤ left_of_syncs system log + 2 * log_load system log
    one_less valid legal no_fork p among each here =
        let less = sum_by-less (λ (q : Placed). left_of_process system (log ++ e ∷ []) q.pid) (λ (q : Placed). left_then q.pid) (λ (q : Placed). same_pid q.pid p) each here (unended_in (placement system log)) among in
        omega (arith, less, then_most no_fork valid legal)
