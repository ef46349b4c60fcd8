use Rattle.std.proofs.Common.{List, ap, subst, sym, not, ◌∙◌}
use Rattle.std.specs.Prelude.{filter}
use Rattle.std.specs.Map.{values_of}
use Rattle.t32_base.specs.declared.letter.BackRec.{BackRec}
use Rattle.bus_msg.specs.Places.{same_pid}
use Rattle.backup_records.specs.ByPid.{IsByPid}
use Rattle.backup_records.proofs.ByPidLaws.{by_pid_removed, values_removed}
use Rattle.backup_records.proofs.records.Records.let_go.Goals as goal

pub invariant_of-self : goal.invariant_of-self
invariant_of-self c = subst IsByPid (sym c.remove.ensures.entries) (by_pid_removed (c.args.pid).0 c.self.inside.by_pid.entries c.self.invariant)

pub returns : goal.returns
returns c =
    ap values_of c.remove.ensures.entries
    ∙ values_removed c.args.pid c.self.inside.by_pid.entries c.self.invariant
    ∙ ap (λ (recs : List BackRec). filter (λ (r : BackRec). not (same_pid r.pid c.args.pid)) recs) c.self.view_is
