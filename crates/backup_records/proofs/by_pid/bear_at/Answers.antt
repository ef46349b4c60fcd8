use Rattle.std.proofs.Common.{sym, ap, ◌∙◌}
use Rattle.std.specs.Map.{set_value}
use Rattle.std.proofs.lemmas.Result.{on_err_weaker, on_ok_weaker}
use Rattle.t32_base.specs.declared.letter.BackRec.{BackRec}
use Rattle.backup_records.specs.Records.{with_child}
use Rattle.backup_records.proofs.ByPidLaws.{at, none_changed, written, written_same}
use Rattle.backup_records.proofs.by_pid.bear_at.Goals as goal

pub returns-in-Some-clause-ok : goal.returns-in-Some-clause-ok
returns-in-Some-clause-ok c =
    on_ok_weaker c.add_birth.result
    (λ is.
    (c.get_mut.follows.holds c.add_birth.new.self).0
    ∙ written c.args.pid (with_child c.args.child) c.in-Some.record.now c.add_birth.new.self c.args.records.now.entries c.get_mut.ensures.ordered (sym c.in-Some.ensures.value) is)
    c.add_birth.ensures.ok

pub returns-in-Some-clause-err : goal.returns-in-Some-clause-err
returns-in-Some-clause-err c =
    on_err_weaker c.add_birth.result
    (λ is.
    (c.get_mut.follows.holds c.add_birth.new.self).0
    ∙ ap (λ (r : BackRec). set_value (at c.args.pid) c.args.records.now.entries r) is
    ∙ written_same c.args.pid c.in-Some.record.now c.args.records.now.entries (sym c.in-Some.ensures.value))
    c.add_birth.ensures.err

pub returns-in-None-clause-ok : goal.returns-in-None-clause-ok
returns-in-None-clause-ok c =
    ap (λ m. m.entries) c.get_mut.follows.holds-at-none
    ∙ sym (none_changed c.args.pid (with_child c.args.child) c.args.records.now.entries (sym c.in-None.ensures.value))
