-- Instructions that step are silent steps.
use Rattle.std.proofs.Common.{◌≡◌, ℕ, zero, suc, ◌+◌, ◌-◌, ◌≤◌, Bool, false, List, Option, Some, None, refl, sym, ap, ◌∙◌, eqb, arith, option_map, option_and_then}
use Rattle.std.proofs.lemmas.Bool.Decides.{nat_tests}
use Rattle.std.proofs.lemmas.Option.{same_Some}
use Rattle.t32_base.specs.declared.process.Status.{Status}
use Rattle.t32_base.specs.declared.process.Status.TheVariants.{Live}
use Rattle.t32_base.specs.Registers.{Registers}
use Rattle.rv_cpu.specs.Exec.{Executed, Steps, Calls, Traps, exec, exec_marks}
use Rattle.rv_cpu.specs.Run.{Machine, stepped, one, ran}
use Rattle.proc_state.specs.State.{ProcState, with_small}
use Rattle.sys_calls.specs.Small.{spent, after_instructions}
use Rattle.sys_calls.specs.Next.{Marked, next_step, step_by, live_step, after_exec, silent_of, silent_step, silently, silently_marked, step_marks, marks_by, marks_executed, marks_live}

-- the process after n instructions that left a machine
abbrev moved : ℕ → ProcState → Machine → ProcState
moved n p m = record p { small = after_instructions n p.small m.regs; memory = m.bytes }

abbrev moved_marked : ℕ → ProcState → Machine → Marked
moved_marked n p m = record { state = moved n p m; marks = m.dirty }

left_over : (left n : ℕ) → suc n ≤ left → eqb (left - n) 0 ≡ false
left_over left n h = grind (arith, nat_tests)

abbrev pub of_process : ProcState → List Bool → Machine
of_process p dirty = record { regs = (p.small).regs; bytes = p.memory; dirty = dirty }

counted : (p : ProcState) (n : ℕ) (regs : Registers) (bytes : List ℕ) →
    record p { small = record (p.small) { regs = regs; left = (p.small).left - n - 1; steps = (p.small).steps + n + 1 }; memory = bytes }
    ≡ record p { small = record (p.small) { regs = regs; left = (p.small).left - suc n; steps = (p.small).steps + suc n }; memory = bytes }
counted p n regs bytes =
    let left : (p.small).left - n - 1 ≡ (p.small).left - suc n = omega arith in
    let steps : (p.small).steps + n + 1 ≡ (p.small).steps + suc n = omega arith in
    λ i. record p { small = record (p.small) { regs = regs; left = left i; steps = steps i }; memory = bytes }

-- what a step leaves is a silent step of a process for which an instruction was spent
by_outcome : (x : Executed) (n : ℕ) (p : ProcState) (m m' : Machine) (dirty : List Bool) → stepped x dirty ≡ Some m'
    → option_map (λ (q : ProcState). let r : Marked = record { state = q; marks = marks_executed x (moved n p m) dirty } in r) (silent_of (after_exec x (with_small (moved n p m) (spent (moved n p m).small)))) ≡ Some (moved_marked (suc n) p m')
by_outcome (Steps regs bytes) n p m m' dirty e =
    let is : record { regs = regs; bytes = bytes; dirty = dirty } ≡ m' = same_Some _ m' e in
    ap (λ q. Some (record { state = q; marks = dirty })) (counted p n regs bytes) ∙ ap (λ x. Some (moved_marked (suc n) p x)) is
by_outcome Calls n p m m' dirty e = cc
by_outcome (Traps code) n p m m' dirty e = cc

-- one more instruction
one_more : (n : ℕ) (p : ProcState) (m m' : Machine) → (p.small).status ≡ Live → suc n ≤ (p.small).left → one m ≡ Some m' → silent_step (moved_marked n p m) ≡ Some (moved_marked (suc n) p m')
unfolding one
one_more n p m m' live some steps =
    ap (λ s. after_status s) live ∙ ap after_left (left_over (p.small).left n some) ∙ by_outcome (exec m.regs m.bytes) n p m m' (exec_marks m.regs m.bytes m.dirty) steps
  where
    after_status : Status → Option Marked
    after_status s = option_map (λ q. record { state = q; marks = marks_by s (moved n p m) m.dirty }) (silent_of (step_by s (moved n p m)))

    after_left : Bool → Option Marked
    after_left b = option_map (λ q. record { state = q; marks = marks_live b (moved n p m) m.dirty }) (silent_of (live_step b (moved n p m)))

none_moved : (p : ProcState) (dirty : List Bool) → moved_marked 0 p (of_process p dirty) ≡ record { state = p; marks = dirty }
none_moved p dirty =
    let left : (p.small).left - 0 ≡ (p.small).left = omega arith in
    let steps : (p.small).steps + 0 ≡ (p.small).steps = omega arith in
    λ i. record { state = record p { small = record (p.small) { left = left i; steps = steps i } }; marks = dirty }

more_ran : (n : ℕ) (p : ProcState) (dirty : List Bool) (m : Machine) (o : Option Machine) → (p.small).status ≡ Live → suc n ≤ (p.small).left → ran n (of_process p dirty) ≡ o → option_and_then one o ≡ Some m
    → ((m1 : Machine) → ran n (of_process p dirty) ≡ Some m1 → silently_marked n (record { state = p; marks = dirty }) ≡ Some (moved_marked n p m1))
    → option_and_then silent_step (silently_marked n (record { state = p; marks = dirty })) ≡ Some (moved_marked (suc n) p m)
more_ran n p dirty m None live some is e before = cc
more_ran n p dirty m (Some m1) live some is e before = rw (before m1 is) (one_more n p m1 m live some e)

pub ran_silently : (n : ℕ) (p : ProcState) (dirty : List Bool) (m : Machine) → (p.small).status ≡ Live → n ≤ (p.small).left → ran n (of_process p dirty) ≡ Some m
    → silently_marked n (record { state = p; marks = dirty }) ≡ Some (moved_marked n p m)
unfolding ran silently_marked
ran_silently zero p dirty m live some steps = ap Some (sym (none_moved p dirty)) ∙ ap (λ x. Some (moved_marked 0 p x)) (same_Some _ m steps)
ran_silently (suc n) p dirty m live some steps =
    more_ran n p dirty m (ran n (of_process p dirty)) live some refl steps (λ m1 is. ran_silently n p dirty m1 live (omega arith) is)

pub none_made : (p : Marked) → silently_marked 0 p ≡ Some p
unfolding silently_marked
none_made p = refl

-- ---- the same without the marks

one_unmarked : (r q : Marked) (o : Option ProcState) → option_map (λ (t : ProcState). let x : Marked = record { state = t; marks = step_marks r.state r.marks } in x) o ≡ Some q → o ≡ Some q.state
one_unmarked r q None f = cc
one_unmarked r q (Some t) f = ap (option_map (λ (x : Marked). x.state)) f

more_unmarked : (n : ℕ) (p q : Marked) (o : Option Marked) → silently_marked n p ≡ o → option_and_then silent_step o ≡ Some q
    → ((r : Marked) → silently_marked n p ≡ Some r → silently n p.state ≡ Some r.state) → option_and_then (λ t. silent_of (next_step t)) (silently n p.state) ≡ Some q.state
more_unmarked n p q None is e before = cc
more_unmarked n p q (Some r) is e before = rw (before r is) (one_unmarked r q (silent_of (next_step r.state)) e)

pub silently-marked : (n : ℕ) (p q : Marked) → silently_marked n p ≡ Some q → silently n p.state ≡ Some q.state
unfolding silently_marked silently
silently-marked zero p q e = ap (option_map (λ (x : Marked). x.state)) e
silently-marked (suc n) p q e = more_unmarked n p q (silently_marked n p) refl e (λ r is. silently-marked n p r is)
