use Rattle.std.proofs.Common.{List, subst}
use Rattle.std.specs.Arc.{arc_value}
use Rattle.cert_sched.specs.declared.script.ScriptWord.{ScriptWord}
use Rattle.cluster_run.specs.Completed.{IsCompleted}
use Rattle.sys_text.specs.Reading.{reading_of}
use Rattle.sys_text.specs.declared.system.System.{System}
use Rattle.text_parts.specs.Lines.{lines_of}
use Rattle.targon_cli.specs.Noted.{MayNoteRun}
use Rattle.targon_cli.specs.Reply.{IsTextOf, run_text}
use Rattle.targon_cli.proofs.Endings.{nothing_to_explain, run_noted, unread_noted}
use Rattle.targon_cli.proofs.Tales.{read_valid, ran_makes}
use Rattle.targon_cli.proofs.runs.simulate.Goals as goal

pub sim-requires-clause-valid : goal.sim-requires-clause-valid
sim-requires-clause-valid c = read_valid (reading_of c.args.bytes.now) c.args.script.now c.in-System.system (rw c.in-System.is at c.in_ok-system.ensures.read)

pub tell-requires-clause-valid : goal.tell-requires-clause-valid
tell-requires-clause-valid c = rw c.deref.ensures (read_valid (reading_of c.args.bytes.now) c.args.script.now c.in-System.system (rw c.in-System.is at c.in_ok-system.ensures.read))

pub returns-in_ok-reply-in-System-clause-makes : goal.returns-in_ok-reply-in-System-clause-makes
returns-in_ok-reply-in-System-clause-makes c =
    let ran = c.in_ok-ran-in-System.ran in
    let reply = c.in_ok-reply-in-System.reply in
    ran_makes (reading_of c.args.bytes.now) c.args.script.now c.in-System.system (run_text c.args.log) reply ran (rw c.in-System.is at c.in_ok-system.ensures.read)
    (subst (λ (words : List ScriptWord). IsCompleted (arc_value c.in-System.system) words ran) c.as_slice.ensures c.in_ok-ran-in-System.ensures)
    c.in_ok-reply-in-System.ensures.done.0 (subst (λ (s : System). IsTextOf s (run_text c.args.log) ran.run reply.text) c.deref.ensures c.in_ok-reply-in-System.ensures.text)

pub returns-in_ok-reply-in-System-clause-why : goal.returns-in_ok-reply-in-System-clause-why
returns-in_ok-reply-in-System-clause-why c =
    let done = c.in_ok-reply-in-System.ensures.done in
    nothing_to_explain (reading_of c.args.bytes.now) c.args.script.now (lines_of c.args.bytes.now) c.in-System.system (c.in_ok-ran-in-System.ran.run).ended _ _ (rw c.in-System.is at c.in_ok-system.ensures.read) done.0 done.1

pub returns-in_ok-reply-in-System-clause-notes : goal.returns-in_ok-reply-in-System-clause-notes
returns-in_ok-reply-in-System-clause-notes c =
    let ran = c.in_ok-ran-in-System.ran in
    let reply = c.in_ok-reply-in-System.reply in
    run_noted (reading_of c.args.bytes.now) c.args.script.now (lines_of c.args.bytes.now) c.in-System.system ran reply.notes (rw c.in-System.is at c.in_ok-system.ensures.read)
    (subst (λ (s : System). MayNoteRun (lines_of c.args.bytes.now) s c.args.script.now ran.run reply.notes) c.deref.ensures
    (subst (λ (words : List ScriptWord). MayNoteRun (lines_of c.args.bytes.now) c.deref.result.now words ran.run reply.notes) c.as_slice-in-System.ensures c.in_ok-reply-in-System.ensures.notes))

pub returns-in-Refused-clause-notes : goal.returns-in-Refused-clause-notes
returns-in-Refused-clause-notes c = unread_noted (reading_of c.args.bytes.now) c.args.script.now (lines_of c.args.bytes.now) c.in-Refused.reply.notes (rw c.in-Refused.is at c.in_ok-system.ensures.notes)
