use Rattle.std.proofs.Common.{◌≡◌, ◌∙◌, refl, ap, sym, Some, add-one, arith}
use Rattle.rv_cpu.specs.declared.Did.TheVariants.{Stepped}
use Rattle.rv_cpu.specs.Exec.{did_of, exec, exec_marks}
use Rattle.rv_cpu.specs.Run.{Machine, machine_of}
use Rattle.rv_cpu.proofs.Steps.{all_stays, left_by, left_is, one_steps, ran_more, ran_none}
use Rattle.rv_cpu.proofs.run.Goals as goal

pub loop-made-init : goal.loop-made-init
loop-made-init c = record { so_far = ran_none (machine_of c.args.regs.now c.args.ram.now); marks = refl }

pub loop-made-preserved : goal.loop-made-preserved
loop-made-preserved c =
    let step = one_steps c.loop-made.regs c.loop-made.ram (sym c.in-Stepped.is ∙ c.instruct.ensures.did) in
    let after : left_by (exec c.loop-made.regs c.loop-made.ram.bytes) (exec_marks c.loop-made.regs c.loop-made.ram.bytes c.loop-made.ram.dirty) c.loop-made.regs c.loop-made.ram.bytes ≡ machine_of c.instruct.new.regs c.instruct.new.ram =
    left_is c.loop-made.regs c.loop-made.ram c.instruct.new.regs c.instruct.new.ram c.instruct.ensures.regs c.instruct.ensures.bytes c.instruct.ensures.dirty in
    record {
      so_far = rw add-one (ran_more c.loop-made.made (machine_of c.args.regs.now c.args.ram.now) (machine_of c.loop-made.regs c.loop-made.ram) (machine_of c.instruct.new.regs c.instruct.new.ram) c.loop-made.invariant.so_far (step ∙ ap (λ (m : Machine). Some m) after));
      marks = c.instruct.ensures.marks ∙ c.loop-made.invariant.marks;
    }

pub returns-in_default : goal.returns-in_default
returns-in_default c =
    let no_step : Stepped ≡ did_of (exec c.loop-made.regs c.loop-made.ram.bytes) → ⊥ = λ h. c.in_default.not-Stepped (c.instruct.ensures.did ∙ sym h) in
    let same = sym (left_is c.loop-made.regs c.loop-made.ram c.instruct.new.regs c.instruct.new.ram c.instruct.ensures.regs c.instruct.ensures.bytes c.instruct.ensures.dirty) ∙ all_stays c.loop-made.regs c.loop-made.ram no_step in
    record {
      made = omega arith;
      ran = c.loop-made.invariant.so_far ∙ ap (λ (m : Machine). Some m) (sym same);
      stops = λ _. (c.instruct.ensures.did ∙ ap (λ (m : Machine). did_of (exec m.regs m.bytes)) (sym same), λ h. no_step (sym h ∙ c.instruct.ensures.did));
      all = λ h. absurd (omega arith);
      marks = c.instruct.ensures.marks ∙ c.loop-made.invariant.marks;
    }
