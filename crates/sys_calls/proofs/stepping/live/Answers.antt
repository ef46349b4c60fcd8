use Rattle.std.proofs.Common.{ap, sym, ◌∙◌, subst}
use Rattle.t32_base.specs.Small.{SmallState}
use Rattle.rv_cpu.specs.Exec.{exec}
use Rattle.rv_cpu.specs.Run.{Stops}
use Rattle.proc_state.specs.declared.process.Process.{Process}
use Rattle.sys_calls.proofs.Calling.{lives_as, some_left, unchanged}
use Rattle.sys_calls.proofs.stepping.live.Goals as goal

pub stopped-requires : goal.stopped-requires
stopped-requires c =
    let same = unchanged c.args.p.now c.instruct.new.small c.instruct.new.ram c.instruct.result c.instruct.ensures.did c.in_default.not-Stepped c.instruct.ensures.small c.instruct.ensures.bytes c.instruct.ensures.marks in
    record {
      some = some_left c.args.p.now.small c.instruct.new.small _ c.instruct.ensures.small (sym c.is_spent_up.ensures ∙ c.if-is_spent_up.false);
      live = ap (λ (s : SmallState). s.status) c.instruct.ensures.small ∙ c.requires.live;
      stops = subst (λ (q : Process). Stops (exec (q.small).regs (q.ram).bytes) c.instruct.result) same (c.instruct.ensures.did, c.in_default.not-Stepped);
    }

pub returns-in_default : goal.returns-in_default
returns-in_default c =
    let same = unchanged c.args.p.now c.instruct.new.small c.instruct.new.ram c.instruct.result c.instruct.ensures.did c.in_default.not-Stepped c.instruct.ensures.small c.instruct.ensures.bytes c.instruct.ensures.marks in
    let lives = lives_as c.args.p.now _ c.stopped.new.p _ c.stopped.result same (sym c.is_spent_up.ensures ∙ c.if-is_spent_up.false)
    (record { makes = c.stopped.ensures.makes; marks = c.stopped.ensures.marks; count = c.stopped.ensures.count; shorter = c.stopped.ensures.shorter; touches = c.stopped.ensures.touches }) in
    record { makes = lives.makes; marks = lives.marks; count = lives.count; shorter = lives.shorter; touches = lives.touches }
