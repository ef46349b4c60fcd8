use Rattle.std.proofs.Common.{List, ap, map, refl, subst, sym, ◌∙◌}
use Rattle.std.specs.Map.{values_of}
use Rattle.t32_base.specs.declared.letter.BackRec.{BackRec}
use Rattle.backup_records.specs.ByPid.{IsByPid}
use Rattle.backup_records.specs.Records.{cut_of_synced, record_in, with_cut}
use Rattle.backup_records.proofs.ByPidLaws.{by_pid_changed, record_found, values_changed}
use Rattle.backup_records.proofs.records.Records.cut.Goals as goal

pub cut_at-requires : goal.cut_at-requires
cut_at-requires c = λ r found.
    c.requires r (ap (λ (recs : List BackRec). record_in recs c.args.pid) (sym c.self.view_is) ∙ record_found c.args.pid c.self.inside.by_pid.entries c.self.invariant.own ∙ found)

pub invariant_of-self : goal.invariant_of-self
invariant_of-self c = subst IsByPid (sym c.cut_at.ensures) (by_pid_changed (c.args.pid).0 (with_cut c.args.state.now c.args.read.now) c.self.inside.by_pid.entries (λ r. refl) c.self.invariant)

pub returns : goal.returns
returns c =
    ap values_of c.cut_at.ensures
    ∙ values_changed c.args.pid (with_cut c.args.state.now c.args.read.now) c.self.inside.by_pid.entries c.self.invariant.own
    ∙ ap (λ (recs : List BackRec). map (cut_of_synced c.args.pid c.args.state.now c.args.read.now) recs) c.self.view_is
