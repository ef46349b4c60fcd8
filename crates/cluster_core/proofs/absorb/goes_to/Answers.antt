use Rattle.std.proofs.Common.{ap, eqb, ◌^◌}
use Rattle.std.specs.Prelude.{◌/◌}
use Rattle.std.proofs.lemmas.Nat.{and_mask}
use Rattle.cluster_core.proofs.absorb.goes_to.Goals as goal

pub returns : goal.returns
returns c = ap (λ n. eqb n 1) (and_mask ((c.args.dests.now).clusters / 2 ^ (c.args.number).0) 1)
