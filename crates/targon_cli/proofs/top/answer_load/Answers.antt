use Rattle.std.proofs.Common.{[], refl}
use Rattle.targon_cli.proofs.Endings.{ends_by, noted_by}
use Rattle.targon_cli.proofs.Handing.{handed_after, takes_load}
use Rattle.targon_cli.proofs.Replies.{loads_explain, loads_make, loads_noted}
use Rattle.targon_cli.proofs.top.answer_load.Goals as goal

pub returns-clause-answered : goal.returns-clause-answered
returns-clause-answered g c = λ command is input ended.
    handed_after command [] c.run_load-made.result c.hand_out.result input input ended _ _ _ c.hand_out.new.ran (takes_load command c.args.size c.args.script.now input ended is)
    (loads_make command c.args.size c.args.script.now [] c.run_load-made.result is c.run_load-made.ensures.makes) refl refl c.hand_out.ensures.made

pub returns-clause-explained : goal.returns-clause-explained
returns-clause-explained g c = λ command is input ended.
    ends_by command [] c.run_load-made.result c.hand_out.result input input ended c.hand_out.new.why (takes_load command c.args.size c.args.script.now input ended is)
    (loads_explain command c.args.size c.args.script.now [] c.run_load-made.result is c.run_load-made.ensures.why) c.hand_out.ensures.why

pub returns-clause-noted : goal.returns-clause-noted
returns-clause-noted g c = λ command is input ended.
    noted_by command [] c.run_load-made.result c.hand_out.new.ran input input ended c.hand_out.new.notes (takes_load command c.args.size c.args.script.now input ended is)
    (loads_noted command c.args.size c.args.script.now [] c.run_load-made.result is c.run_load-made.ensures.notes) c.hand_out.ensures.notes
