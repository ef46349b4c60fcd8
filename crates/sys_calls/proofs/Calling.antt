use Rattle.std.proofs.lemmas.Bool.Decides.{nat_tests}
use Rattle.std.proofs.Common.{◌≡◌, ◌<◌, ℕ, arith, eqb, Bool, false, List, Result, refl, sym, ap, ◌∙◌, subst}
use Rattle.rv_cpu.specs.declared.Did.{Did}
use Rattle.rv_cpu.specs.declared.Did.TheVariants.{Stepped, Call, Trap}
use Rattle.rv_mem.specs.Marks.{Memory}
use Rattle.t32_base.specs.Registers.{Registers}
use Rattle.t32_base.specs.Small.{SmallState}
use Rattle.rv_cpu.specs.Exec.{Executed, Steps, Calls, Traps, did_of, bytes_after, exec, exec_marks, regs_after}
use Rattle.rv_cpu.specs.Run.{Stops}
use Rattle.rv_cpu.proofs.Steps.{bytes_stay, marks_stay, regs_stay}
use Rattle.proc_state.specs.declared.process.Process.{Process}
use Rattle.proc_state.specs.State.{ProcState, state_of, with_small}
use Rattle.t32_base.specs.declared.streams.NoMemory.{NoMemory}
use Rattle.sys_calls.specs.declared.steps.Step.{Step}
use Rattle.sys_calls.specs.Steps.{Makes, Marks, Shorter, Took, Touches, taken_by}
use Rattle.sys_calls.specs.Small.{spent, with_regs}
use Rattle.sys_calls.specs.Next.{after_exec, letter_live, live_step, marks_executed, marks_live}

-- ---- one that is none

pub calls : (x : Executed) → Call ≡ did_of x → x ≡ Calls
calls (Steps regs bytes) e = cc
calls Calls e = refl
calls (Traps code) e = cc

abbrev trap_of : Did → ℕ
trap_of (Trap code) = code
trap_of Call = 0
trap_of Stepped = 0

pub traps : (x : Executed) (code : ℕ) → Trap code ≡ did_of x → x ≡ Traps code
traps (Steps regs bytes) code e = cc
traps Calls code e = cc
traps (Traps other) code e = ap Traps (sym (ap trap_of e))

pub live_as : (p : ProcState) (x : Executed) → exec (p.small).regs p.memory ≡ x → live_step false p ≡ after_exec x (with_small p (spent p.small))
live_as p x is = ap (λ y. after_exec y (with_small p (spent p.small))) is

no_step : (x : Executed) (did : Did) → Stops x did → Stepped ≡ did_of x → ⊥
no_step x did stops e = stops.1 (stops.0 ∙ sym e)

pub marks_as : (p : ProcState) (dirty : List Bool) (did : Did) (x : Executed) → Stops (exec (p.small).regs p.memory) did → exec (p.small).regs p.memory ≡ x → marks_live false p dirty ≡ marks_executed x p dirty
marks_as p dirty did x stops is =
    ap (marks_executed (exec (p.small).regs p.memory) p) (marks_stay (p.small).regs p.memory dirty (no_step (exec (p.small).regs p.memory) did stops))
    ∙ ap (λ y. marks_executed y p dirty) is

-- it changes nothing of the process
pub unchanged : (p : Process) (small : SmallState) (ram : Memory) (did : Did) → did ≡ did_of (exec (p.small).regs (p.ram).bytes) → (did ≡ Stepped → ⊥) → small ≡ with_regs p.small (regs_after (exec (p.small).regs (p.ram).bytes) (p.small).regs)
    → ram.bytes ≡ bytes_after (exec (p.small).regs (p.ram).bytes) (p.ram).bytes → ram.dirty ≡ exec_marks (p.small).regs (p.ram).bytes (p.ram).dirty
    → p ≡ record { small = small; ram = ram; mail = p.mail; read = p.read; since = p.since }
unchanged p small ram did is not s b d =
    let none : Stepped ≡ did_of (exec (p.small).regs (p.ram).bytes) → ⊥ = λ e. not (is ∙ sym e) in
    let same_small = sym (s ∙ ap (with_regs p.small) (regs_stay (exec (p.small).regs (p.ram).bytes) (p.small).regs none)) in
    let same_bytes = sym (b ∙ bytes_stay (exec (p.small).regs (p.ram).bytes) (p.ram).bytes none) in
    let same_marks = sym (d ∙ marks_stay (p.small).regs (p.ram).bytes (p.ram).dirty none) in
    λ i. record { small = same_small i; ram = record { bytes = same_bytes i; dirty = same_marks i }; mail = p.mail; read = p.read; since = p.since }

pub some_left : (small now : SmallState) (regs : Registers) → now ≡ with_regs small regs → eqb small.left 0 ≡ false → 0 < now.left
some_left small now regs same left = let e : now.left ≡ small.left = ap (λ (s : SmallState). s.left) same in grind (arith, nat_tests)

-- ---- what a live process did

pub record Lives (b : Bool) (p : Process) (result : Result Step NoMemory) (new : Process) : Type 0 where
  pub makes : Makes (live_step b (state_of p)) result (state_of p) (state_of new)
  pub marks : Marks result (marks_live b (state_of p) (p.ram).dirty) (p.ram).dirty (new.ram).dirty
  pub count : Took (taken_by result (letter_live b (state_of p))) p new
  pub shorter : Shorter result p.small new.small
  pub touches : Touches result p new

pub lives_as : (p mid new : Process) (b : Bool) (result : Result Step NoMemory) → p ≡ mid → b ≡ false → Lives false mid result new → Lives b p result new
lives_as p mid new b result same is lives = subst (λ c. Lives c p result new) (sym is) (subst (λ q. Lives false q result new) (sym same) lives)
