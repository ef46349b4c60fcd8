use Rattle.std.proofs.Common.{List, ap, sym, ◌∙◌}
use Rattle.t32_base.specs.declared.letter.BackRec.{BackRec}
use Rattle.backup_records.specs.Records.{record_in}
use Rattle.backup_records.proofs.ByPidLaws.{record_found}
use Rattle.backup_records.proofs.records.Records.get.Goals as goal

pub returns : goal.returns
returns c =
    c.get.ensures.value
    ∙ sym (record_found c.args.pid c.self.inside.by_pid.entries c.self.invariant.own)
    ∙ ap (λ (recs : List BackRec). record_in recs c.args.pid) c.self.view_is
