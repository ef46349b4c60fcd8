use Rattle.std.proofs.Common.{sym, ap, ◌∙◌}
use Rattle.std.specs.Prelude.{Result, Ok, Err, OnErr}
use Rattle.std.specs.Map.{set_value}
use Rattle.std.proofs.lemmas.Result.{on_ok_weaker}
use Rattle.t32_base.specs.declared.letter.BackRec.{BackRec}
use Rattle.t32_base.specs.declared.letter.Letter.{Letter}
use Rattle.t32_base.specs.declared.streams.NoMemory.{NoMemory}
use Rattle.backup_records.specs.Records.{with_saved}
use Rattle.backup_records.proofs.ByPidLaws.{at, none_changed, written, written_same}
use Rattle.backup_records.proofs.by_pid.save_at.Goals as goal

any_err : {P : Type 0} → (r : Result (Unit {0}) NoMemory) → P → OnErr r P
any_err (Ok done) p = tt
any_err (Err fault) p = p

on_err : {P Q : Type 0} → (r : Result (Unit {0}) NoMemory) → (P → Q) → OnErr r P → OnErr r Q
on_err (Ok done) f h = tt
on_err (Err fault) f h = f h

pub returns-in_err-copy-in-Some-clause-err : goal.returns-in_err-copy-in-Some-clause-err
returns-in_err-copy-in-Some-clause-err c =
    any_err c.from_residual.result ((c.get_mut.follows.holds c.in-Some.record.now).0 ∙ written_same c.args.pid c.in-Some.record.now c.args.records.now.entries (sym c.in-Some.ensures.value))

pub returns-in_ok-copy-in-Some-clause-ok : goal.returns-in_ok-copy-in-Some-clause-ok
returns-in_ok-copy-in-Some-clause-ok c =
    on_ok_weaker c.save.result
    (λ is.
    (c.get_mut.follows.holds c.save.new.self).0
    ∙ written c.args.pid (with_saved c.args.letter.now) c.in-Some.record.now c.save.new.self c.args.records.now.entries c.get_mut.ensures.ordered (sym c.in-Some.ensures.value)
    (is ∙ ap (λ (l : Letter). with_saved l c.in-Some.record.now) c.in_ok-copy-in-Some.ensures))
    c.save.ensures.ok

pub returns-in_ok-copy-in-Some-clause-err : goal.returns-in_ok-copy-in-Some-clause-err
returns-in_ok-copy-in-Some-clause-err c =
    on_err c.save.result
    (λ is.
    (c.get_mut.follows.holds c.save.new.self).0
    ∙ ap (λ (r : BackRec). set_value (at c.args.pid) c.args.records.now.entries r) is
    ∙ written_same c.args.pid c.in-Some.record.now c.args.records.now.entries (sym c.in-Some.ensures.value))
    c.save.ensures.err

pub returns-in-None-clause-ok : goal.returns-in-None-clause-ok
returns-in-None-clause-ok c =
    ap (λ m. m.entries) c.get_mut.follows.holds-at-none
    ∙ sym (none_changed c.args.pid (with_saved c.args.letter.now) c.args.records.now.entries (sym c.in-None.ensures.value))
