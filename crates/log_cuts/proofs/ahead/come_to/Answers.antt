use Rattle.std.proofs.lemmas.Result.{IfOk-weaker}
use Rattle.proc_state.specs.State.{state_of}
use Rattle.counted_steps.specs.Counted.{MakesSilently}
use Rattle.log_cuts.specs.Ahead.{ComesTo}
use Rattle.log_cuts.proofs.Copies.{comes}
use Rattle.log_cuts.proofs.ahead.come_to.Goals as goal

pub returns : goal.returns
returns c =
    IfOk-weaker c.make_silent_steps.result (λ made. MakesSilently c.steps_upto-steps.result c.args.process.now made c.make_silent_steps.new.p) (λ came. ComesTo c.args.at (state_of c.args.process.now) came (state_of c.make_silent_steps.new.p))
    (λ made makes. comes c.args.at c.steps_upto-steps.result c.args.process.now c.make_silent_steps.new.p made c.steps_upto-steps.ensures makes) c.make_silent_steps.ensures
