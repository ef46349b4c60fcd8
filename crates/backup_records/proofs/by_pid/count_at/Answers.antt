use Rattle.std.proofs.Common.{sym, ap, ◌∙◌}
use Rattle.backup_records.specs.Records.{with_counted}
use Rattle.backup_records.proofs.ByPidLaws.{none_changed, written}
use Rattle.backup_records.proofs.by_pid.count_at.Goals as goal

pub count-requires-clause-end : goal.count-requires-clause-end
count-requires-clause-end c = (c.requires c.in-Some.record.now (sym c.in-Some.ensures.value)).0

pub count-requires-clause-room : goal.count-requires-clause-room
count-requires-clause-room c = (c.requires c.in-Some.record.now (sym c.in-Some.ensures.value)).1

pub returns-in-Some : goal.returns-in-Some
returns-in-Some c =
    (c.get_mut.follows.holds c.count.new.self).0
    ∙ written c.args.pid (with_counted c.args.letter.now) c.in-Some.record.now c.count.new.self c.args.records.now.entries c.get_mut.ensures.ordered (sym c.in-Some.ensures.value) c.count.ensures

pub returns-in_default : goal.returns-in_default
returns-in_default c =
    ap (λ m. m.entries) c.get_mut.follows.holds-at-none
    ∙ sym (none_changed c.args.pid (with_counted c.args.letter.now) c.args.records.now.entries (sym c.in_default.ensures.value))
