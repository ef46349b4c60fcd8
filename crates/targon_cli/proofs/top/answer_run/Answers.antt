use Rattle.std.proofs.Common.{ℕ, List, Option, refl, subst}
use Rattle.std.specs.Prelude.{IfOk}
use Rattle.cluster_run.specs.declared.life.Ran.{Ran}
use Rattle.command_words.specs.declared.command.Command.TheVariants as commands
use Rattle.targon_cli.specs.declared.reply.Reply.{Reply}
use Rattle.targon_cli.specs.Explained.{Explains}
use Rattle.targon_cli.specs.Noted.{Notes}
use Rattle.targon_cli.specs.Reply.{Makes}
use Rattle.targon_cli.proofs.Endings.{ends_by, noted_by}
use Rattle.targon_cli.proofs.Handing.{handed_after}
use Rattle.targon_cli.proofs.top.answer_run.Goals as goal

pub returns-in-Ok-clause-answered : goal.returns-in-Ok-clause-answered
returns-in-Ok-clause-answered g c =
    let P : List ℕ → Type 0 = λ b. IfOk c.run_threads-made.result (λ (r : Reply × Option Ran). Makes (commands.Run c.args.log c.args.script.now) b (r.0).status (r.0).text r.1) in
    handed_after (commands.Run c.args.log c.args.script.now) c.in-Ok.bytes c.run_threads-made.result c.hand_out.result _ _ _ _ _ _ c.hand_out.new.ran c.in-Ok.ensures.read
    (subst P c.as_slice.ensures c.run_threads-made.ensures.makes) c.in-Ok.ensures.kept c.in-Ok.ensures.counted c.hand_out.ensures.made

pub returns-in-Ok-clause-explained : goal.returns-in-Ok-clause-explained
returns-in-Ok-clause-explained g c =
    let P : List ℕ → Type 0 = λ b. IfOk c.run_threads-made.result (λ (r : Reply × Option Ran). Explains (commands.Run c.args.log c.args.script.now) b (r.0).status (r.0).why) in
    ends_by (commands.Run c.args.log c.args.script.now) c.in-Ok.bytes c.run_threads-made.result c.hand_out.result _ _ _ c.hand_out.new.why c.in-Ok.ensures.read
    (subst P c.as_slice.ensures c.run_threads-made.ensures.why) c.hand_out.ensures.why

pub returns-in-Err-clause-answered : goal.returns-in-Err-clause-answered
returns-in-Err-clause-answered g c = rw c.requires.unran (c.in-Err.ensures.unread (commands.Run c.args.log c.args.script.now) refl)

pub returns-in-Ok-clause-noted : goal.returns-in-Ok-clause-noted
returns-in-Ok-clause-noted g c =
    let P : List ℕ → Type 0 = λ b. IfOk c.run_threads-made.result (λ (r : Reply × Option Ran). Notes (commands.Run c.args.log c.args.script.now) b r.1 (r.0).notes) in
    noted_by (commands.Run c.args.log c.args.script.now) c.in-Ok.bytes c.run_threads-made.result c.hand_out.new.ran _ _ _ c.hand_out.new.notes c.in-Ok.ensures.read
    (subst P c.as_slice.ensures c.run_threads-made.ensures.notes) c.hand_out.ensures.notes
