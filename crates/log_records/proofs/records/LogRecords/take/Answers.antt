use Rattle.std.proofs.Common.{List, ◌∙◌, ap, subst, sym}
use Rattle.std.proofs.lemmas.Result.{on_ok_weaker}
use Rattle.t32_base.specs.declared.letter.BackRec.{BackRec}
use Rattle.bus_msg.specs.PlacedAfter.{what}
use Rattle.log_records.specs.Records.{TakesEntry, all_after}
use Rattle.log_records.proofs.Taking.{entry_taken}
use Rattle.log_records.proofs.records.LogRecords.take.Goals as goal

pub returns-clause-ok : goal.returns-clause-ok
returns-clause-ok c =
    on_ok_weaker c.note.result
    (λ is. subst (λ (new : List BackRec). TakesEntry c.args.self.now new c.args.entry.now) (sym (is ∙ ap (all_after (what c.args.entry.now)) c.self.view_is))
    (entry_taken c.args.self.now c.args.entry.now))
    c.note.ensures.ok
