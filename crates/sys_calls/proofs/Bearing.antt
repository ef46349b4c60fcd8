-- Each step leaves fewer steps to a process and the children that it may still fork, and a fork leaves fewer to the two.
use Rattle.std.proofs.Common.{◌≡◌, ℕ, zero, suc, ◌+◌, ◌-◌, ◌*◌, ◌/◌, ◌<◌, ◌≤◌, refl, ◌∙◌, ap, subst, arith, Bool, true, false, cond, eqb, ltb, not, Option, Some, None, is_none, option_and_then, unwrap_or}
use Rattle.std.specs.List.{count_by}
use Rattle.std.proofs.lemmas.Nat.{mul-le}
use Rattle.std.proofs.lemmas.List.Sums.{count_by-le-length}
use Rattle.t32_base.specs.declared.process.Pid.{Pid}
use Rattle.t32_base.specs.declared.process.End.{End}
use Rattle.t32_base.specs.declared.process.Status.{Status}
use Rattle.t32_base.specs.declared.process.Status.TheVariants.{Live, Closing, Ended}
use Rattle.t32_base.specs.declared.letter.Body.TheVariants.{Said}
use Rattle.t32_base.specs.declared.letter.Arrived.{Arrived}
use Rattle.t32_base.specs.declared.letter.To.{To}
use Rattle.t32_base.specs.declared.letter.To.TheVariants.{Proc, Tty}
use Rattle.t32_base.specs.Small.{is_unshut, stages}
use Rattle.rv_mem.specs.Memory.{is_inside, bytes_at}
use Rattle.t32_base.specs.Registers.{Registers}
use Rattle.rv_cpu.specs.Exec.{Executed, Steps, Calls, Traps, exec, reg}
use Rattle.proc_state.specs.Ends.{free_end, leads_at}
use Rattle.proc_state.specs.State.{ProcState, with_small}
use Rattle.proc_state.proofs.Linking.{linked_unshut}
use Rattle.sys_calls.specs.Small.{lowest_linked, spent, weight, weight_with_children}
use Rattle.sys_calls.specs.declared.steps.Emission.{Emission}
use Rattle.sys_calls.specs.declared.steps.Emission.TheVariants.{Mail}
use Rattle.sys_calls.specs.declared.reading.Reading.{Reading}
use Rattle.sys_calls.specs.declared.reading.Reading.TheVariants.{Refused, AtEnd, Wants}
use Rattle.sys_calls.specs.declared.reading.Wanted.{Wanted}
use Rattle.sys_calls.specs.declared.reading.Wanted.TheVariants.{On, AnyLinked}
use Rattle.sys_calls.specs.Calls.{Next, Silent, Blocked, Forks, Emits, Over, Call, ExitCall, Write, Read, ReadAny, ForkCall, GetPid, Handler, Kill, SigReturn, Close, Unknown, answers, arg, call_of, called, close_to, first_wanted, letter_to, read_any_checked, read_call, read_checked, read_found, refused, write_to, handled_at, is_signal_number, signalled, sigreturn_call, is_aligned}
use Rattle.sys_calls.specs.Next.{after_exec, closing_step, live_step, next_step, silent_of, silently, step_by}
use Rattle.sys_calls.specs.Fork.{CanFork, child_births, fork_child, fork_parent}
use Rattle.sys_calls.proofs.Weighing.{emits_leaves, next_leaves, Leaves}

-- ---- one step

-- as many births, and no more instructions
abbrev pub KeepsBirths : ProcState → ProcState → Type 0
KeepsBirths s t = ((t.small).births ≡ (s.small).births) × ((t.small).left ≤ (s.small).left)

-- what each kind of step leaves
abbrev pub Bears : ProcState → Next → Type 0
Bears s (Silent t) = KeepsBirths s t
Bears s Blocked = Unit {0}
Bears s Forks = Unit {0}
Bears s (Emits e t) = KeepsBirths s t
Bears s Over = Unit {0}

-- p is the process s after its instruction was spent
module _ (s p : ProcState) (kept : KeepsBirths s p) where
  written_some : (e ptr len : ℕ) (to : To) (none : Bool)
      → Bears s (cond none (Silent (answers p 0)) (Emits (Mail (letter_to p e to (Said (bytes_at p.memory ptr len)))) (answers p len)))
  written_some e ptr len to true = kept
  written_some e ptr len to false = kept

  written_inside : (e ptr len : ℕ) (to : To) (outside none : Bool)
      → Bears s (cond outside (refused p 14) (cond none (Silent (answers p 0)) (Emits (Mail (letter_to p e to (Said (bytes_at p.memory ptr len)))) (answers p len))))
  written_inside e ptr len to true none = kept
  written_inside e ptr len to false none = written_some e ptr len to none

  written_short : (e ptr len : ℕ) (to : To) (long outside none : Bool)
      → Bears s (cond long (refused p 22) (cond outside (refused p 14) (cond none (Silent (answers p 0)) (Emits (Mail (letter_to p e to (Said (bytes_at p.memory ptr len)))) (answers p len)))))
  written_short e ptr len to true outside none = kept
  written_short e ptr len to false outside none = written_inside e ptr len to outside none

  written : (e ptr len : ℕ) (to : Option To) → Bears s (write_to p e ptr len to)
  written e ptr len None = kept
  written e ptr len (Some to) = written_short e ptr len to (ltb 256 len) (not (is_inside p.memory ptr len)) (eqb len 0)

  closed_to : (e : ℕ) (to : Option To) → Bears s (close_to p e to)
  closed_to e None = kept
  closed_to e (Some (Tty t)) = kept
  closed_to e (Some (Proc peer far)) = kept

  found : (wanted : Wanted) (ptr room : ℕ) (o : Option Arrived) → Bears s (read_found p wanted ptr room o)
  found wanted ptr room None = tt
  found (On e) ptr room (Some a) = kept
  found AnyLinked ptr room (Some a) = kept

  read : (reading : Reading) → Bears s (read_call p reading)
  read (Refused error) = kept
  read AtEnd = kept
  read (Wants wanted ptr room) = found wanted ptr room (first_wanted p wanted)

  forked : (none full : Bool) → Bears s (cond none (refused p 11) (cond full (refused p 24) Forks))
  forked true full = kept
  forked false true = kept
  forked false false = tt

  handles : (ok : Bool) → Bears s (handled_at ok p (arg p 0))
  handles true = kept
  handles false = kept

  signals : (ok : Bool) → Bears s (signalled ok p (arg p 0) (arg p 1))
  signals true = kept
  signals false = kept

  returns : (o : Option Registers) → Bears s (sigreturn_call p o)
  returns None = kept
  returns (Some regs) = kept

  called_bears : (c : Call) → Bears s (called c p)
  called_bears ExitCall = kept
  called_bears Write = written (arg p 0) (arg p 1) (arg p 2) (leads_at (p.small).ends (arg p 0))
  called_bears Read = read (read_checked p)
  called_bears ReadAny = read (read_any_checked p)
  called_bears ForkCall = forked (eqb (p.small).births 0) (is_none (free_end (p.small).ends))
  called_bears GetPid = kept
  called_bears Handler = handles (is_aligned (arg p 0))
  called_bears Kill = signals (is_signal_number (arg p 1))
  called_bears SigReturn = returns (p.small).frame
  called_bears Close = closed_to (arg p 0) (leads_at (p.small).ends (arg p 0))
  called_bears Unknown = kept

spends : (s : ProcState) → KeepsBirths s (with_small s (spent s.small))
spends s = (refl, omega arith)

stays : (s : ProcState) → KeepsBirths s s
stays s = (refl, omega arith)

executed : (s : ProcState) (x : Executed) → Bears s (after_exec x (with_small s (spent s.small)))
executed s (Steps regs bytes) = spends s
executed s (Traps code) = spends s
executed s Calls = called_bears s (with_small s (spent s.small)) (spends s) (call_of (reg (s.small).regs 17))

lived : (s : ProcState) (b : Bool) → Bears s (live_step b s)
lived s true = stays s
lived s false = executed s (exec (s.small).regs s.memory)

closed : (s : ProcState) (end : End) (o : Option (ℕ × To)) → Bears s (closing_step o end s)
closed s end None = stays s
closed s end (Some found) = stays s

by_status : (s : ProcState) (status : Status) → Bears s (step_by status s)
by_status s Live = lived s (eqb (s.small).left 0)
by_status s (Closing end) = closed s end (lowest_linked (s.small).ends)
by_status s (Ended end) = tt

pub next_bears : (s : ProcState) → Bears s (next_step s)
next_bears s = by_status s (s.small).status

-- one step less to it is one less to it and its children
lightens : (births left weighs births' left' weighs' : ℕ) → births' ≡ births → left' ≤ left → weighs' + 1 ≤ weighs → weighs' + births' * (left' + 34) + 1 ≤ weighs + births * (left + 34)
lightens births left weighs births' left' weighs' same fewer lighter =
    let children : births' * (left' + 34) ≤ births * (left + 34) = mul-le births' (left' + 34) births (left + 34) (omega (arith, same)) (omega (arith, fewer)) in
    omega (arith, children, lighter)

pub silent_lightens : (s t : ProcState) → next_step s ≡ Silent t → weight_with_children t.small + 1 ≤ weight_with_children s.small
silent_lightens s t is =
    let kept = subst (Bears s) is (next_bears s) in
    lightens (s.small).births (s.small).left (weight s.small) (t.small).births (t.small).left (weight t.small) kept.0 kept.1 (subst (Leaves s) is (next_leaves s))

pub emits_lightens : (s t : ProcState) (e : Emission) → next_step s ≡ Emits e t → weight_with_children t.small + 1 ≤ weight_with_children s.small
emits_lightens s t e is =
    let kept = subst (Bears s) is (next_bears s) in
    lightens (s.small).births (s.small).left (weight s.small) (t.small).births (t.small).left (weight t.small) kept.0 kept.1 (emits_leaves s t e is)

-- ---- several silent steps

pub silently_lightens : (n : ℕ) (s t : ProcState) → silently n s ≡ Some t → weight_with_children t.small + n ≤ weight_with_children s.small
unfolding silently
silently_lightens zero s t is = let same : s ≡ t = ap (λ o. unwrap_or o s) is in omega (arith, ap (λ (p : ProcState). weight_with_children p.small) same)
silently_lightens (suc n) s t is = by_case (silently n s) refl is (λ q. silently_lightens n s q)
  where
    last : (q : ProcState) (next : Next) → next_step q ≡ next → silent_of next ≡ Some t → weight_with_children t.small + 1 ≤ weight_with_children q.small
    last q (Silent u) is e = let same : u ≡ t = ap (λ o. unwrap_or o u) e in silent_lightens q t (is ∙ ap Silent same)
    last q Blocked is e = cc
    last q Forks is e = cc
    last q (Emits what u) is e = cc
    last q Over is e = cc

    by_case : (o : Option ProcState) → silently n s ≡ o → option_and_then (λ q. silent_of (next_step q)) o ≡ Some t → ((q : ProcState) → silently n s ≡ Some q → weight_with_children q.small + n ≤ weight_with_children s.small)
        → weight_with_children t.small + suc n ≤ weight_with_children s.small
    by_case None from e more = cc
    by_case (Some q) from e more = omega (arith, more q from, last q (next_step q) refl e)

-- ---- a fork

-- of so many births one is used up, and the two share the rest; each has one instruction less
shared : (births left rest unshut parent child kept given : ℕ) → births ≡ 1 + given + kept → left ≡ rest + 1 → parent ≤ unshut → child ≤ 32
    → rest + parent + 2 + kept * (rest + 34) + (rest + child + 2 + given * (rest + 34)) + 2 ≤ left + unshut + 2 + births * (left + 34)
shared births left rest unshut parent child kept given shares one fewer few =
    let more : left + 34 ≡ rest + 35 = omega (arith, one) in
    let whole : births * (left + 34) ≡ (1 + given + kept) * (rest + 35) = ap (λ n. n * (left + 34)) shares ∙ ap (λ n. (1 + given + kept) * n) more in
    omega (arith, whole, one, fewer, few)

halved : (births : ℕ) → 0 < births → births ≡ 1 + (births - 1) / 2 + (births - 1 - (births - 1) / 2)
halved births some = omega (arith, some)

pub fork_lightens : (s : ProcState) (child : Pid) → CanFork s → weight_with_children (fork_parent s child).small + weight_with_children (fork_child s child).small + 2 ≤ weight_with_children s.small
fork_lightens s child can =
    let base = shared (s.small).births (s.small).left ((s.small).left - 1) (count_by is_unshut (s.small).ends) (count_by is_unshut ((fork_parent s child).small).ends) (count_by is_unshut ((fork_child s child).small).ends)
    ((s.small).births - 1 - child_births (s.small).births) (child_births (s.small).births) (halved (s.small).births can.births) (omega (arith, can.some))
    (let same = linked_unshut (s.small).ends child 1 in omega (arith, same)) (count_by-le-length is_unshut ((fork_child s child).small).ends) in
    omega (arith, base, ap stages can.live)
