use Rattle.std.proofs.Common.{◌∙◌, ◌∷◌, ap, List, Option, subst, sym}
use Rattle.t32_base.specs.declared.letter.BackRec.{BackRec}
use Rattle.log_renewals.specs.Standing.{TakesRecords, is_stated}
use Rattle.log_renewals.proofs.Handing.{standing_acted, standing_follows, standing_unlike, standing_unowed, standing_unrecorded, standing_unsent, standing_unstated}
use Rattle.log_renewals.proofs.standing.next_standing.Goals as goal

pub returns-in_default : goal.returns-in_default
returns-in_default c = standing_unsent c.args.front.now c.args.head c.args.others.now c.args.moved_only c.args.family.now c.args.records.now
    (sym c.home_next.ensures ∙ c.in_default.is)

pub returns-then-not-may_wait : goal.returns-then-not-may_wait
returns-then-not-may_wait c = standing_acted c.args.front.now c.args.head c.args.others.now c.args.moved_only c.args.family.now c.args.records.now
    (sym c.may_wait.ensures ∙ c.if-not-may_wait.true)

pub returns-in_default-backup_told : goal.returns-in_default-backup_told
returns-in_default-backup_told c = standing_unowed c.args.front.now c.args.head c.args.others.now c.args.moved_only c.args.family.now c.args.records.now
    (sym c.backup_told.ensures ∙ c.in_default-backup_told.is)

pub returns-then-not-branch : goal.returns-then-not-branch
returns-then-not-branch c = standing_unlike c.args.front.now c.args.head c.args.others.now c.args.moved_only c.args.family.now c.args.records.now
    (sym c.in_ok-is_family.ensures ∙ c.if-not-branch.true)

pub returns-in_default-2 : goal.returns-in_default-2
returns-in_default-2 c =
    standing_unrecorded c.args.front.now c.args.head c.args.others.now c.args.moved_only c.args.family.now c.args.records.now
    (subst (λ (o : Option (List BackRec)). TakesRecords c.args.records.now ((c.args.head.pid).0 ∷ c.args.others.now) o) c.in_default-2.is c.in_ok-recs.ensures)

pub returns-then-not-is_stated : goal.returns-then-not-is_stated
returns-then-not-is_stated c =
    standing_unstated c.args.front.now c.args.head c.args.others.now c.args.moved_only c.args.family.now c.args.records.now c.in-Some-2.recs
    (subst (λ (o : Option (List BackRec)). TakesRecords c.args.records.now ((c.args.head.pid).0 ∷ c.args.others.now) o) c.in-Some-2.is c.in_ok-recs.ensures)
    (sym (ap is_stated c.as_slice.ensures) ∙ sym c.is_stated.ensures ∙ c.if-not-is_stated.true)

pub returns : goal.returns
returns c =
    standing_follows c.args.front.now c.args.head c.args.others.now c.args.moved_only c.args.family.now c.args.records.now c.in-Some.home
    c.in-Some-backup_told.to c.in-Some-2.recs c.in_ok-standing_entry.field-0
    (sym c.home_next.ensures ∙ c.in-Some.is) (sym c.may_wait.ensures ∙ c.if-not-may_wait.false) (sym c.backup_told.ensures
    ∙ c.in-Some-backup_told.is) (sym c.in_ok-is_family.ensures ∙ c.if-not-branch.false)
    (subst (λ (o : Option (List BackRec)). TakesRecords c.args.records.now ((c.args.head.pid).0 ∷ c.args.others.now) o) c.in-Some-2.is c.in_ok-recs.ensures)
    (sym (ap is_stated c.as_slice.ensures) ∙ sym c.is_stated.ensures ∙ c.if-not-is_stated.false) c.in_ok-standing_entry.ensures
