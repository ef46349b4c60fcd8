use Rattle.std.proofs.Common.{sym}
use Rattle.command_words.specs.declared.command.Command.TheVariants as commands
use Rattle.targon_cli.proofs.Causes.{answers_same}
use Rattle.targon_cli.proofs.Endings.{ends_same, noted_same}
use Rattle.targon_cli.proofs.Replies.{runs_load}
use Rattle.targon_cli.proofs.top.answer_by_threads.Goals as goal

pub returns-in-Run-clause-answered : goal.returns-in-Run-clause-answered
returns-in-Run-clause-answered g c = answers_same (commands.Run c.in-Run.log c.in-Run.script) c.args.command _ _ _ _ _ _ _ (sym c.in-Run.is) c.answer_run.ensures.answered

pub returns-in-Run-clause-explained : goal.returns-in-Run-clause-explained
returns-in-Run-clause-explained g c = ends_same (commands.Run c.in-Run.log c.in-Run.script) c.args.command _ _ _ _ _ (sym c.in-Run.is) c.answer_run.ensures.explained

pub returns-in-Load-clause-answered : goal.returns-in-Load-clause-answered
returns-in-Load-clause-answered g c = c.answer_load.ensures.answered c.args.command (runs_load c.args.command c.in-Load.size _ c.in-Load.script c.in-Load.is c.requires.threads) _ _

pub returns-in-Load-clause-explained : goal.returns-in-Load-clause-explained
returns-in-Load-clause-explained g c = c.answer_load.ensures.explained c.args.command (runs_load c.args.command c.in-Load.size _ c.in-Load.script c.in-Load.is c.requires.threads) _ _

pub returns-in-Run-clause-noted : goal.returns-in-Run-clause-noted
returns-in-Run-clause-noted g c = noted_same (commands.Run c.in-Run.log c.in-Run.script) c.args.command _ _ _ _ _ (sym c.in-Run.is) c.answer_run.ensures.noted

pub returns-in-Load-clause-noted : goal.returns-in-Load-clause-noted
returns-in-Load-clause-noted g c = c.answer_load.ensures.noted c.args.command (runs_load c.args.command c.in-Load.size _ c.in-Load.script c.in-Load.is c.requires.threads) _ _
