use Rattle.std.proofs.Common.{List, ap, map, refl, ◌∙◌}
use Rattle.std.specs.Map.{values_of}
use Rattle.std.proofs.lemmas.Result.{on_ok_weaker, on_err_weaker}
use Rattle.t32_base.specs.declared.letter.BackRec.{BackRec}
use Rattle.backup_records.specs.Records.{with_child, with_child_of}
use Rattle.backup_records.proofs.ByPidLaws.{by_pid_kept, values_changed}
use Rattle.backup_records.proofs.records.Records.bear.Goals as goal

pub invariant_of-self : goal.invariant_of-self
invariant_of-self c =
    by_pid_kept c.bear_at.result (c.args.parent).0 (with_child c.args.child) c.self.inside.by_pid.entries c.bear_at.new.records.entries (λ r. refl) c.bear_at.ensures.ok c.bear_at.ensures.err c.self.invariant

pub returns-clause-ok : goal.returns-clause-ok
returns-clause-ok c =
    on_ok_weaker c.bear_at.result
    (λ is.
    ap values_of is
    ∙ values_changed c.args.parent (with_child c.args.child) c.self.inside.by_pid.entries c.self.invariant.own
    ∙ ap (λ (recs : List BackRec). map (with_child_of c.args.parent c.args.child) recs) c.self.view_is)
    c.bear_at.ensures.ok

pub returns-clause-err : goal.returns-clause-err
returns-clause-err c = on_err_weaker c.bear_at.result (λ is. ap values_of is ∙ c.self.view_is) c.bear_at.ensures.err
