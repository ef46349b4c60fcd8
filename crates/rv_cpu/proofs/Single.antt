-- One instruction, as the loop over many makes it.
use Rattle.std.proofs.Common.{◌≡◌, ◌≤◌, ◌<◌, ℕ, zero, suc, List, Bool, Some, refl, ap, subst, sym, ◌∙◌, arith}
use Rattle.t32_base.specs.Registers.{Registers}
use Rattle.rv_mem.specs.Marks.{Memory}
use Rattle.rv_cpu.specs.declared.Did.{Did}
use Rattle.rv_cpu.specs.declared.Did.TheVariants.{Stepped}
use Rattle.rv_cpu.specs.Exec.{Executed, Steps, Calls, Traps, bytes_after, did_of, exec, exec_marks, regs_after}
use Rattle.rv_cpu.specs.Run.{Machine, Stops, machine_of, one, ran, stepped}
use Rattle.rv_cpu.proofs.Steps.{all_stays, left_by, ran_none}

some_is : {a b : Machine} → Some a ≡ Some b → a ≡ b
some_is h = cc

-- what a step left, where one was made
step_left : (e : Executed) (dirty : List Bool) (regs : Registers) (bytes : List ℕ) (m : Machine) → stepped e dirty ≡ Some m
    → (Stepped ≡ did_of e) × (left_by e dirty regs bytes ≡ m)
step_left (Steps r b) dirty regs bytes m h = (refl, some_is h)
step_left Calls dirty regs bytes m h = absurd cc
step_left (Traps code) dirty regs bytes m h = absurd cc

taken : (regs : Registers) (memory : Memory) (m : Machine) → one (machine_of regs memory) ≡ Some m
    → (Stepped ≡ did_of (exec regs memory.bytes)) × (left_by (exec regs memory.bytes) (exec_marks regs memory.bytes memory.dirty) regs memory.bytes ≡ m)
unfolding one
taken regs memory m h = step_left (exec regs memory.bytes) (exec_marks regs memory.bytes memory.dirty) regs memory.bytes m h

-- what the clauses of an instruction say
pub record Made (before : Registers) (memory : Memory) (done : Did) (after : Registers) (memory' : Memory) : Type 0 where
  pub did : done ≡ did_of (exec before memory.bytes)
  pub regs : after ≡ regs_after (exec before memory.bytes) before
  pub bytes : memory'.bytes ≡ bytes_after (exec before memory.bytes) memory.bytes
  pub dirty : memory'.dirty ≡ exec_marks before memory.bytes memory.dirty

stayed : (did : Did) (regs : Registers) (memory : Memory) (m : Machine) → machine_of regs memory ≡ m → Stops (exec m.regs m.bytes) did
    → (did ≡ did_of (exec regs memory.bytes)) × (m ≡ left_by (exec regs memory.bytes) (exec_marks regs memory.bytes memory.dirty) regs memory.bytes)
stayed did regs memory m same stops =
    let now : Stops (exec regs memory.bytes) did = subst (λ (n : Machine). Stops (exec n.regs n.bytes) did) (sym same) stops in
    let no_step : Stepped ≡ did_of (exec regs memory.bytes) → ⊥ = λ h. now.1 (now.0 ∙ sym h) in
    (now.0, sym same ∙ sym (all_stays regs memory no_step))

left_alone : (regs : Registers) (memory : Memory) (did : Did) (regs' : Registers) (memory' : Memory) → did ≡ did_of (exec regs memory.bytes)
    → machine_of regs' memory' ≡ left_by (exec regs memory.bytes) (exec_marks regs memory.bytes memory.dirty) regs memory.bytes
    → Made regs memory did regs' memory'
left_alone regs memory did regs' memory' told left = record {
  did = told;
  regs = ap (λ (m : Machine). m.regs) left;
  bytes = ap (λ (m : Machine). m.bytes) left;
  dirty = ap (λ (m : Machine). m.dirty) left;
}

first_step : (m : Machine) → ran 1 m ≡ one m
unfolding ran
first_step m = refl

pub single : (n : ℕ) (did : Did) (regs : Registers) (memory : Memory) (regs' : Registers) (memory' : Memory) → n ≤ 1
    → ran n (machine_of regs memory) ≡ Some (machine_of regs' memory')
    → (n < 1 → Stops (exec regs' memory'.bytes) did)
    → (1 ≤ n → did ≡ Stepped)
    → Made regs memory did regs' memory'
single zero did regs memory regs' memory' within made stops all =
    let same = some_is (sym (ran_none (machine_of regs memory)) ∙ made) in
    let stays = stayed did regs memory (machine_of regs' memory') same (stops (omega arith)) in
    left_alone regs memory did regs' memory' stays.0 stays.1
single (suc zero) did regs memory regs' memory' within made stops all =
    let left = taken regs memory (machine_of regs' memory') (sym (first_step (machine_of regs memory)) ∙ made) in
    left_alone regs memory did regs' memory' (all (omega arith) ∙ left.0) (sym left.1)
single (suc (suc n)) did regs memory regs' memory' within made stops all = absurd (omega arith)
