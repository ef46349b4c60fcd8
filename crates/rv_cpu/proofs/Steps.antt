-- What one instruction leaves, by its answer.
use Rattle.std.proofs.Common.{◌≡◌, ℕ, suc, Bool, List, Option, Some, None, option_and_then, refl, ap, sym, ◌∙◌}
use Rattle.t32_base.specs.Registers.{Registers}
use Rattle.rv_mem.specs.Marks.{Memory}
use Rattle.rv_insn.specs.declared.Insn.{Insn}
use Rattle.rv_insn.specs.Table.{decoded}
use Rattle.rv_cpu.specs.declared.Did.TheVariants.{Stepped, Call}
use Rattle.rv_cpu.specs.Exec.{Executed, Steps, Calls, Traps, bytes_after, did_of, exec, exec_decoded, exec_fetched, exec_marks, executed, fetched, marks_after, marks_decoded, marks_fetched, regs_after}
use Rattle.rv_cpu.specs.Run.{Machine, machine_of, one, ran, stepped}

abbrev machine : Registers → List ℕ → List Bool → Machine
machine r b d = record { regs = r; bytes = b; dirty = d }

-- the machine that exec's clauses describe
abbrev pub left_by : Executed → List Bool → Registers → List ℕ → Machine
left_by e dirty regs bytes = record { regs = regs_after e regs; bytes = bytes_after e bytes; dirty = dirty }

same_parts : {r r' : Registers} {b b' : List ℕ} {d d' : List Bool} → r ≡ r' → b ≡ b' → d ≡ d' → machine r b d ≡ machine r' b' d'
same_parts {r' = r'} {b = b} {b' = b'} {d = d} p q s =
    ap (λ (x : Registers). machine x b d) p ∙ ap (λ (x : List ℕ). machine r' x d) q ∙ ap (λ (x : List Bool). machine r' b' x) s

pub call_is_no_step : Call ≡ Stepped → ⊥
call_is_no_step h = cc

-- a step leaves what the clauses say
pub steps_on : (e : Executed) (dirty : List Bool) (regs : Registers) (bytes : List ℕ) → Stepped ≡ did_of e → stepped e dirty ≡ Some (left_by e dirty regs bytes)
steps_on (Steps r m) dirty regs bytes h = refl
steps_on Calls dirty regs bytes h = absurd cc
steps_on (Traps code) dirty regs bytes h = absurd cc

pub regs_stay : (e : Executed) (regs : Registers) → (Stepped ≡ did_of e → ⊥) → regs_after e regs ≡ regs
regs_stay (Steps r m) regs h = absurd (h refl)
regs_stay Calls regs h = refl
regs_stay (Traps code) regs h = refl

pub bytes_stay : (e : Executed) (bytes : List ℕ) → (Stepped ≡ did_of e → ⊥) → bytes_after e bytes ≡ bytes
bytes_stay (Steps r m) bytes h = absurd (h refl)
bytes_stay Calls bytes h = refl
bytes_stay (Traps code) bytes h = refl

after_stay : (e : Executed) (i : Insn) (regs : Registers) (dirty : List Bool) → (Stepped ≡ did_of e → ⊥) → marks_after e i regs dirty ≡ dirty
after_stay (Steps r m) i regs dirty h = absurd (h refl)
after_stay Calls i regs dirty h = refl
after_stay (Traps code) i regs dirty h = refl

decoded_stay : (o : Option Insn) (regs : Registers) (bytes : List ℕ) (dirty : List Bool) → (Stepped ≡ did_of (exec_decoded o regs bytes) → ⊥) → marks_decoded o regs bytes dirty ≡ dirty
decoded_stay None regs bytes dirty h = refl
decoded_stay (Some i) regs bytes dirty h = after_stay (executed i regs bytes) i regs dirty h

fetched_stay : (o : Option ℕ) (regs : Registers) (bytes : List ℕ) (dirty : List Bool) → (Stepped ≡ did_of (exec_fetched o regs bytes) → ⊥) → marks_fetched o regs bytes dirty ≡ dirty
fetched_stay None regs bytes dirty h = refl
fetched_stay (Some w) regs bytes dirty h = decoded_stay (decoded w) regs bytes dirty h

pub marks_stay : (regs : Registers) (bytes : List ℕ) (dirty : List Bool) → (Stepped ≡ did_of (exec regs bytes) → ⊥) → exec_marks regs bytes dirty ≡ dirty
marks_stay regs bytes dirty h = fetched_stay (fetched regs bytes) regs bytes dirty h

-- one more step at the end
pub ran_more : (n : ℕ) (first m next : Machine) → ran n first ≡ Some m → one m ≡ Some next → ran (suc n) first ≡ Some next
unfolding ran
ran_more n first m next before step = ap (option_and_then one) before ∙ step

pub ran_none : (m : Machine) → ran 0 m ≡ Some m
unfolding ran
ran_none m = refl

-- the same of a machine in its parts
pub one_steps : (regs : Registers) (memory : Memory) → Stepped ≡ did_of (exec regs memory.bytes) →
    one (machine_of regs memory) ≡ Some (left_by (exec regs memory.bytes) (exec_marks regs memory.bytes memory.dirty) regs memory.bytes)
unfolding one
one_steps regs memory h = steps_on (exec regs memory.bytes) (exec_marks regs memory.bytes memory.dirty) regs memory.bytes h

pub all_stays : (regs : Registers) (memory : Memory) → (Stepped ≡ did_of (exec regs memory.bytes) → ⊥) →
    left_by (exec regs memory.bytes) (exec_marks regs memory.bytes memory.dirty) regs memory.bytes ≡ machine_of regs memory
all_stays regs memory h = same_parts (regs_stay (exec regs memory.bytes) regs h) (bytes_stay (exec regs memory.bytes) memory.bytes h) (marks_stay regs memory.bytes memory.dirty h)

-- two memories with their parts equal, in the machine that the clauses describe
pub left_is : (regs : Registers) (memory : Memory) (regs' : Registers) (memory' : Memory) →
    regs' ≡ regs_after (exec regs memory.bytes) regs →
    memory'.bytes ≡ bytes_after (exec regs memory.bytes) memory.bytes →
    memory'.dirty ≡ exec_marks regs memory.bytes memory.dirty →
    left_by (exec regs memory.bytes) (exec_marks regs memory.bytes memory.dirty) regs memory.bytes ≡ machine_of regs' memory'
left_is regs memory regs' memory' r b d = same_parts (sym r) (sym b) (sym d)
