use Rattle.std.proofs.Common.{◌+◌, ◌<◌, ◌∙◌, List, arith, length, subst, sym, take}
use Rattle.t32_base.specs.declared.letter.BackRec.{BackRec}
use Rattle.log_records.specs.Records.{AreFirstOf}
use Rattle.log_records.proofs.Booting.{next_first, none_beyond}
use Rattle.log_records.proofs.records.first_records.Goals as goal
use Rattle.log_records.proofs.records.first_records.Goals.{in-Some+in_ok-add_first, in_default}

pub loop-index-preserved : goal.loop-index-preserved
loop-index-preserved c =
    let placed = c.args.placed.now.placed in
    let starts = c.args.starts.now.entries in
    let i = c.loop-index.index in
    let within : i < length placed = omega (arith, c.loop-index-test.true, c.len-index-end.ensures.number) in
    elim c.match-at.branch [
      | in-Some+in_ok-add_first w ↦ (subst (λ (recs : List BackRec). AreFirstOf (take (i + 1) placed) starts recs) (sym (w.records-is ∙ w.in_ok-add_first.ensures))
          (next_first starts placed i w.in-Some.root c.loop-index.records within (sym w.in-Some.is ∙ c.at.ensures) c.loop-index.invariant))
      | in_default w ↦ absurd (none_beyond placed i within (sym w.in_default.is ∙ c.at.ensures))
    ]
