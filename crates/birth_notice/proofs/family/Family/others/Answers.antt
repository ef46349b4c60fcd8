use Rattle.std.proofs.Common.{◌∙◌, sym, ap}
use Rattle.t32_base.specs.declared.process.Pid.{Pid}
use Rattle.birth_notice.proofs.JoinedLaws.{none_joins, one_joins, own_joins}
use Rattle.birth_notice.proofs.family.Family.others.Goals as goal
use Rattle.birth_notice.proofs.family.Family.others.Goals.{then-birth-pid+in_ok-insert, then-birth-pid-via-then-birth-pid, then-birth-pid-via-else-birth-pid+then-contains, else-birth-pid+else-contains}

pub loop-birth-preserved : goal.loop-birth-preserved
loop-birth-preserved c =
    let births = c.as_slice-birth-items.result.now in
    let i = c.loop-birth.birth-index in
    let d : Pid × Pid = (record { 0 = 0 }, record { 0 = 0 }) in
    let so_far = c.loop-birth.invariant in
    elim c.if-birth-pid.branch [
      | then-birth-pid+in_ok-insert w ↦
          ap (λ s. s.keys) w.others-is ∙ w.in_ok-insert.ensures.keys
          ∙ (elim w.then-birth-pid.branch [
            | then-birth-pid-via-then-birth-pid v ↦ own_joins births i d c.args.pid c.loop-birth.others.keys c.loop-birth-test.true so_far v.if-birth-pid.true
            | then-birth-pid-via-else-birth-pid+then-contains v ↦ one_joins births i d c.args.pid c.loop-birth.others.keys c.loop-birth-test.true so_far (sym v.contains.ensures ∙ v.if-contains.true)
          ])
      | else-birth-pid+else-contains w ↦
          ap (λ s. s.keys) w.others-is
          ∙ none_joins births i d c.args.pid c.loop-birth.others.keys c.loop-birth-test.true so_far w.if-birth-pid.false (sym w.contains.ensures ∙ w.if-contains.false)
    ]
