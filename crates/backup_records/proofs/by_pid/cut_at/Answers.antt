use Rattle.std.proofs.Common.{sym, ap, ◌∙◌}
use Rattle.t32_base.specs.Small.{SmallState}
use Rattle.backup_records.specs.Records.{with_cut}
use Rattle.backup_records.proofs.ByPidLaws.{none_changed, written}
use Rattle.backup_records.proofs.by_pid.cut_at.Goals as goal

pub cut-requires-clause-fronts : goal.cut-requires-clause-fronts
cut-requires-clause-fronts c = (c.requires c.in-Some.record.now (sym c.in-Some.ensures.value)).0

pub cut-requires-clause-ends : goal.cut-requires-clause-ends
cut-requires-clause-ends c = (c.requires c.in-Some.record.now (sym c.in-Some.ensures.value)).1

pub returns-in-Some : goal.returns-in-Some
returns-in-Some c =
    (c.get_mut.follows.holds c.cut.new.self).0
    ∙ written c.args.pid (with_cut c.args.state.now c.args.read.now) c.in-Some.record.now c.cut.new.self c.args.records.now.entries c.get_mut.ensures.ordered (sym c.in-Some.ensures.value)
    (c.cut.ensures ∙ ap (λ (state : SmallState). with_cut state c.args.read.now c.in-Some.record.now) c.copy.ensures)

pub returns-in_default : goal.returns-in_default
returns-in_default c =
    ap (λ m. m.entries) c.get_mut.follows.holds-at-none
    ∙ sym (none_changed c.args.pid (with_cut c.args.state.now c.args.read.now) c.args.records.now.entries (sym c.in_default.ensures.value))
