use Rattle.std.proofs.Common.{◌∙◌, sym}
use Rattle.audited_process.proofs.Waits.{alone_is}
use Rattle.audited_process.proofs.waiting.is_alone.Goals as goal

pub returns : goal.returns
returns c = c.lives_alone.ensures ∙ alone_is c.args.places.now c.args.pid c.in-Some.placed (sym c.unended.ensures ∙ c.in-Some.is)
