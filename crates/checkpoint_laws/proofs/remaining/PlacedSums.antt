-- Sums over the processes that are placed: no two have one pid, and each is in the kernel without failures, so they are no more than the sum over that.
use Rattle.std.proofs.Common.{◌≡◌, ℕ, ◌+◌, ◌-◌, ◌*◌, ◌≤◌, refl, sym, ◌∙◌, ap, subst, arith, List, [], ◌∷◌, length, Bool, true, false, cond, ◌||◌, eqb, eq-eqb, Option, Some, None, is_some, true≢false}
use Rattle.std.specs.Prelude.{option_and_then, sum_by}
use Rattle.std.specs.List.{list_any}
use Rattle.std.specs.Option.{option_map_or}
use Rattle.std.specs.Ordering.{is_eq, nat_cmp}
use Rattle.std.specs.FinMap.{find}
use Rattle.std.proofs.lemmas.Bool.Decides.{nat_tests}
use Rattle.std.proofs.lemmas.Nat.{mul-le}
use Rattle.std.proofs.lemmas.List.Sums.{sum_by-cons}
use Rattle.t32_base.specs.declared.process.Pid.{Pid}
use Rattle.t32_base.specs.Small.{SmallState}
use Rattle.sys_text.specs.declared.system.System.{System}
use Rattle.sys_text.specs.Valid.{is_system}
use Rattle.proc_state.specs.State.{ProcState, can_take}
use Rattle.sys_calls.specs.declared.steps.Emission.{Emission}
use Rattle.sys_calls.specs.Calls.{Emits, Forks, Silent}
use Rattle.sys_calls.specs.Fork.{child_births, fork_child, fork_parent}
use Rattle.sys_calls.specs.Next.{next_step}
use Rattle.sys_calls.proofs.Bearing.{Bears, KeepsBirths, next_bears}
use Rattle.sys_calls.proofs.ForkLaws.{forks_can}
use Rattle.plain_kernel.specs.Kernel.{Kernel, boot, pid_cmp, process_at}
use Rattle.bus_msg.specs.declared.entry.Entry.{Entry}
use Rattle.bus_msg.specs.declared.placed.Placed.{Placed}
use Rattle.bus_msg.specs.Places.{same_pid}
use Rattle.cert_sched.specs.Schedule.{plain_after, placement, process_after}
use Rattle.cert_sched.specs.Legal.{IsLegalBy, Stands}
use Rattle.cert_sched.proofs.FreshLaws.{numbered}
use Rattle.cert_sched.proofs.KernelSums.{sum_of}
use Rattle.cert_sched.proofs.LoadLaws.{sum_after}
use Rattle.cert_sched.proofs.PidLaws.{placed_pids}
use Rattle.cert_sched.proofs.RisingLaws.{NoTwo}
use Rattle.cert_sched.proofs.ThereLaws.{placed_there, plain_there}
use Rattle.log_laws.proofs.pages.BornSums.{itself}
use Rattle.checkpoint_laws.proofs.remaining.Forked.{halved}
use Rattle.checkpoint_laws.proofs.remaining.Rising.{one_rises}
use Rattle.sys_calls.specs.Take.{taken}
use Rattle.sys_calls.proofs.TakeLaws.{taken_strikes}

other_is : (n m : ℕ) → eqb n m ≡ false → is_eq (nat_cmp n m) ≡ false
other_is n m is = grind (arith, nat_tests)

same_is : (n m : ℕ) → eqb n m ≡ true → is_eq (nat_cmp n m) ≡ true
same_is n m is = grind (arith, nat_tests)

module _ (f : SmallState → ℕ) where
  abbrev of_entry : Pid × ProcState → ℕ
  of_entry e = f (e.1).small

  abbrev found_at : List (Pid × ProcState) → Placed → ℕ
  found_at es q = option_map_or (λ (s : ProcState). f s.small) (find pid_cmp q.pid es) 0

  none_sum : (qs : List Placed) → sum_by (found_at []) qs ≤ 0
  none_sum [] = omega arith
  none_sum (q ∷ qs) = let rest = none_sum qs in omega (arith, rest, sum_by-cons (found_at []) q qs)

  -- with other pids they have no more than all processes of the kernel
  found_within : (es : List (Pid × ProcState)) (qs : List Placed) → NoTwo (placed_pids qs) → sum_by (found_at es) qs ≤ sum_by of_entry es
  found_within [] qs apart = none_sum qs
  found_within (e ∷ es) qs apart =
      let rises = one_rises (found_at es) (found_at (e ∷ es)) e.0 (f (e.1).small) others each qs apart in
      let rest = found_within es qs apart in
      omega (arith, rises, rest, sum_by-cons of_entry e es)
    where
      others : (q : Placed) → same_pid q.pid e.0 ≡ false → found_at (e ∷ es) q ≤ found_at es q
      others q other =
          let same : found_at (e ∷ es) q ≡ found_at es q = ap (λ b. option_map_or (λ (s : ProcState). f s.small) (cond b (Some e.1) (find pid_cmp q.pid es)) 0) (other_is (q.pid).0 (e.0).0 other) in
          omega (arith, same)

      each : (q : Placed) → same_pid q.pid e.0 ≡ true → found_at (e ∷ es) q ≤ found_at es q + f (e.1).small
      each q is =
          let here : found_at (e ∷ es) q ≡ f (e.1).small = ap (λ b. option_map_or (λ (s : ProcState). f s.small) (cond b (Some e.1) (find pid_cmp q.pid es)) 0) (same_is (q.pid).0 (e.0).0 is) in
          omega (arith, here)

  module _ (g : Placed → ℕ) (k : Kernel) (each : (q : Placed) (s : ProcState) → process_at k q.pid ≡ Some s → g q ≤ f s.small) where
    -- where all are there
    found_most : (qs : List Placed) → ((q : Placed) → list_any (λ m. eqb m (q.pid).0) (placed_pids qs) ≡ true → is_some (process_at k q.pid) ≡ true) → sum_by g qs ≤ sum_by (found_at k.processes) qs
    found_most [] there = omega arith
    found_most (q ∷ qs) there =
        let first = by_process (process_at k q.pid) refl (there q (ap (λ b. b || list_any (λ m. eqb m (q.pid).0) (placed_pids qs)) (eq-eqb (q.pid).0 (q.pid).0 refl))) in
        let rest = found_most qs (λ r among. there r (later r among)) in
        omega (arith, first, rest, sum_by-cons g q qs, sum_by-cons (found_at k.processes) q qs)
      where
        or_true : (b : Bool) → (b || true) ≡ true
        or_true true = refl
        or_true false = refl

        later : (r : Placed) → list_any (λ m. eqb m (r.pid).0) (placed_pids qs) ≡ true → list_any (λ m. eqb m (r.pid).0) (placed_pids (q ∷ qs)) ≡ true
        later r among = ap (λ b. eqb (q.pid).0 (r.pid).0 || b) among ∙ or_true (eqb (q.pid).0 (r.pid).0)

        by_process : (o : Option ProcState) → process_at k q.pid ≡ o → is_some o ≡ true → g q ≤ option_map_or (λ (s : ProcState). f s.small) o 0
        by_process None here some = absurd (true≢false (sym some))
        by_process (Some s) here some = each q s here

    -- in a legal log: what each that is placed has at most, all have at most in the kernel
    pub placed_most : (system : System) (log : List Entry) → is_system system ≡ true → IsLegalBy Stands system log → plain_after system log ≡ Some k → sum_by g (placement system log).placed ≤ sum_of f k
    placed_most system log valid legal is =
        let qs = (placement system log).placed in
        let found = found_within k.processes qs (numbered Stands itself system log valid legal).two in
        let most = found_most qs (λ q among. ap (λ o. is_some (option_and_then (λ k. process_at k q.pid) o)) (sym is) ∙ placed_there Stands itself system log q.pid valid legal among) in
        omega (arith, found, most)

-- ---- how many processes there can be, and how many pages

-- so much for a process, and for each child that it and they may still fork
abbrev pub of_family : (SmallState → ℕ) → SmallState → ℕ
of_family f s = f s * (1 + s.births)

shared : (f births kept given : ℕ) → births ≡ 1 + given + kept → f * (1 + kept) + f * (1 + given) ≤ f * (1 + births)
shared f births kept given shares = let whole : f * (1 + births) ≡ f * (1 + (1 + given + kept)) = ap (λ n. f * (1 + n)) shares in omega (arith, whole)

-- of what no step and no take changes, and a child has as its parent
module _ (f : SmallState → ℕ) (silent : (s t : ProcState) → next_step s ≡ Silent t → f t.small ≡ f s.small) (sends : (s t : ProcState) (e : Emission) → next_step s ≡ Emits e t → f t.small ≡ f s.small)
    (parent : (s : ProcState) (c : Pid) → f (fork_parent s c).small ≡ f s.small) (child : (s : ProcState) (c : Pid) → f (fork_child s c).small ≡ f s.small)
    (takes : (s : ProcState) → can_take s ≡ true → f (taken s).small ≡ f s.small) where
  kept_family : (s t : ProcState) → f t.small ≡ f s.small → KeepsBirths s t → of_family f t.small ≤ of_family f s.small
  kept_family s t same kept = mul-le (f t.small) (1 + (t.small).births) (f s.small) (1 + (s.small).births) (omega (arith, same)) (omega (arith, kept.0))

  silent_family : (s t : ProcState) → next_step s ≡ Silent t → of_family f t.small ≤ of_family f s.small
  silent_family s t is = kept_family s t (silent s t is) (subst (Bears s) is (next_bears s))

  sends_family : (s t : ProcState) (e : Emission) → next_step s ≡ Emits e t → of_family f t.small ≤ of_family f s.small
  sends_family s t e is = kept_family s t (sends s t e is) (subst (Bears s) is (next_bears s))

  takes_family : (s : ProcState) → can_take s ≡ true → of_family f (taken s).small ≤ of_family f s.small
  takes_family s can = let t = taken_strikes s can in kept_family s (taken s) (takes s can) (t.births, omega (arith, t.left))

  fork_family : (s : ProcState) (c : Pid) → next_step s ≡ Forks → of_family f (fork_parent s c).small + of_family f (fork_child s c).small ≤ of_family f s.small
  fork_family s c is =
      let kept = (s.small).births - 1 - child_births (s.small).births in
      let given = child_births (s.small).births in
      let sum = shared (f s.small) (s.small).births kept given (halved (s.small).births (forks_can s is).births) in
      let first : of_family f (fork_parent s c).small ≡ f s.small * (1 + kept) = ap (λ n. n * (1 + kept)) (parent s c) in
      let second : of_family f (fork_child s c).small ≡ f s.small * (1 + given) = ap (λ n. n * (1 + given)) (child s c) in
      omega (arith, sum, first, second)

  -- all that are placed have no more than those at boot and the children that they might fork
  placed_family : (g : System → List Entry → Placed → ℕ) → ((system : System) (log : List Entry) (q : Placed) (s : ProcState) → process_after system log q.pid ≡ Some s → g system log q ≤ f s.small)
      → (system : System) (log : List Entry) → is_system system ≡ true → IsLegalBy Stands system log → sum_by (g system log) (placement system log).placed ≤ sum_of (of_family f) (boot system)
  placed_family g each system log valid legal = by_kernel (plain_after system log) refl (plain_there Stands itself system log legal)
    where
      by_kernel : (o : Option Kernel) → plain_after system log ≡ o → is_some o ≡ true → sum_by (g system log) (placement system log).placed ≤ sum_of (of_family f) (boot system)
      by_kernel None is some = absurd (true≢false (sym some))
      by_kernel (Some k) is some =
          let here : (q : Placed) (s : ProcState) → process_at k q.pid ≡ Some s → g system log q ≤ of_family f s.small = λ q s there.
          let one = each system log q s (ap (option_and_then (λ k. process_at k q.pid)) is ∙ there) in
          omega (arith, one) in
          let most = placed_most (of_family f) (g system log) k here system log valid legal is in
          let boots = sum_after (of_family f) silent_family sends_family fork_family takes_family system log k is in
          omega (arith, most, boots)

ones : (qs : List Placed) → length qs ≤ sum_by (λ (q : Placed). 1) qs
ones [] = omega arith
ones (q ∷ qs) = let rest = ones qs in omega (arith, rest, sum_by-cons (λ (q : Placed). 1) q qs)

-- in a legal log no more processes are placed than were at boot, with the children that they might fork
pub placed_few : (system : System) (log : List Entry) → is_system system ≡ true → IsLegalBy Stands system log → length (placement system log).placed ≤ sum_of (of_family (λ (s : SmallState). 1)) (boot system)
placed_few system log valid legal =
    let most = placed_family (λ (s : SmallState). 1) (λ s t is. refl) (λ s t e is. refl) (λ s c. refl) (λ s c. refl) (λ s can. refl) (λ system log q. 1) (λ system log q s there. omega arith) system log valid legal in
    omega (arith, most, ones (placement system log).placed)
