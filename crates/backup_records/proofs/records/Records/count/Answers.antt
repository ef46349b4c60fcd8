use Rattle.std.proofs.Common.{List, ap, map, refl, subst, sym, ◌∙◌}
use Rattle.std.specs.Map.{values_of}
use Rattle.t32_base.specs.declared.letter.BackRec.{BackRec}
use Rattle.backup_records.specs.ByPid.{IsByPid}
use Rattle.backup_records.specs.Records.{counted_by_sender, record_in, with_counted}
use Rattle.backup_records.proofs.ByPidLaws.{by_pid_changed, record_found, values_changed}
use Rattle.backup_records.proofs.records.Records.count.Goals as goal

pub count_at-requires : goal.count_at-requires
count_at-requires c = λ r found.
    let letter = c.args.letter.now in
    c.requires r (ap (λ (recs : List BackRec). record_in recs letter.from) (sym c.self.view_is) ∙ record_found letter.from c.self.inside.by_pid.entries c.self.invariant.own ∙ found)

pub invariant_of-self : goal.invariant_of-self
invariant_of-self c = subst IsByPid (sym c.count_at.ensures) (by_pid_changed (c.args.letter.now.from).0 (with_counted c.args.letter.now) c.self.inside.by_pid.entries (λ r. refl) c.self.invariant)

pub returns : goal.returns
returns c =
    ap values_of c.count_at.ensures
    ∙ values_changed c.args.letter.now.from (with_counted c.args.letter.now) c.self.inside.by_pid.entries c.self.invariant.own
    ∙ ap (λ (recs : List BackRec). map (counted_by_sender c.args.letter.now) recs) c.self.view_is
