use Rattle.std.proofs.Common.{◌≡◌, ◌∷◌, [], sym, ap, ◌∙◌}
use Rattle.text_parts.specs.Lines.{fields_of}
use Rattle.sys_text.specs.Line.{or_kind}
use Rattle.sys_text.proofs.Fields.{none_left, seven, root_more}
use Rattle.sys_text.proofs.line.root_fields.Goals as goal
use Rattle.sys_text.proofs.line.root_fields.Goals.{In_ok-tty}

cut : (c : In_ok-tty) → fields_of c.args.text.now ≡ c.in_ok-home.home.now ∷ c.in_ok-backup.backup.now ∷ c.in_ok-mode.mode.now ∷ c.in_ok-image.image.now ∷ c.in_ok-limit.limit.now ∷ c.in_ok-births.births.now ∷ c.in_ok-tty.tty.now ∷ fields_of c.in_ok-tty.rest.now
cut c = seven _ _ _ _ _ _ _ _ _ _ _ _ _ _ _ c.in_ok-home.ensures c.in_ok-backup.ensures c.in_ok-mode.ensures c.in_ok-image.ensures c.in_ok-limit.ensures c.in_ok-births.ensures c.in_ok-tty.ensures

pub returns-in-Err : goal.returns-in-Err
returns-in-Err c = rw (cut (goal.at.returns-in-Err c).In_ok-tty) (root_more c.in_ok-home.home.now c.in_ok-backup.backup.now c.in_ok-mode.mode.now c.in_ok-image.image.now c.in_ok-limit.limit.now c.in_ok-births.births.now c.in_ok-tty.tty.now (fields_of c.in_ok-tty.rest.now) c.in-Err.rule (sym c.no_field.ensures ∙ c.in-Err.is))

pub returns-in-Some : goal.returns-in-Some
returns-in-Some c =
    let none : fields_of c.in_ok-tty.rest.now ≡ [] = none_left _ _ (sym c.no_field.ensures ∙ c.in-Ok.is) in
    rw (cut (goal.at.returns-in-Some c).In_ok-tty, none) (ap or_kind c.in-Some.ensures)

pub returns-in-None : goal.returns-in-None
returns-in-None c =
    let none : fields_of c.in_ok-tty.rest.now ≡ [] = none_left _ _ (sym c.no_field.ensures ∙ c.in-Ok.is) in
    rw (cut (goal.at.returns-in-None c).In_ok-tty, none) (ap or_kind c.in-None.ensures)
