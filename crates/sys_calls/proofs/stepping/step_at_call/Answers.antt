use Rattle.proc_state.specs.State.{state_of}
use Rattle.sys_calls.proofs.Passing.{call_by, call_letter, call_marks}
use Rattle.std.proofs.Common.{sym, subst}
use Rattle.sys_calls.specs.Steps.{Makes, Marks, Took, taken_by}
use Rattle.sys_calls.proofs.stepping.step_at_call.Goals as goal

pub stopped-requires : goal.stopped-requires
stopped-requires c = record { some = c.requires.0; live = c.requires.1; stops = c.requires.2 }

pub returns-clause-makes : goal.returns-clause-makes
returns-clause-makes c = subst (λ n. Makes n c.stopped.result (state_of c.args.p.now) (state_of c.stopped.new.p)) (sym (call_by c.args.p.now c.requires)) c.stopped.ensures.makes

pub returns-clause-marks : goal.returns-clause-marks
returns-clause-marks c = subst (λ m. Marks c.stopped.result m c.args.p.now.ram.dirty c.stopped.new.p.ram.dirty) (sym (call_marks c.args.p.now c.requires)) c.stopped.ensures.marks

pub returns-clause-count : goal.returns-clause-count
returns-clause-count c = subst (λ l. Took (taken_by c.stopped.result l) c.args.p.now c.stopped.new.p) (sym (call_letter c.args.p.now c.requires)) c.stopped.ensures.count
