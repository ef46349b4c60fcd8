use Rattle.std.proofs.Common.{refl}
use Rattle.targon_cli.proofs.Endings.{said_tells}
use Rattle.targon_cli.proofs.top.usage.Goals as goal

pub returns-clause-explained : goal.returns-clause-explained
returns-clause-explained g c = record { tells = said_tells 1 _ _ _ _ refl c.say-status.ensures; told = c.why_of.ensures }
