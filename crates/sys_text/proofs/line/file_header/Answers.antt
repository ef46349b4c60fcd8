use Rattle.std.proofs.Common.{◌≡◌, ◌∷◌, [], sym, ap, ◌∙◌}
use Rattle.text_parts.specs.Lines.{fields_of}
use Rattle.sys_text.specs.Line.{or_kind}
use Rattle.sys_text.proofs.Fields.{none_left, three, file_more}
use Rattle.sys_text.proofs.line.file_header.Goals as goal
use Rattle.sys_text.proofs.line.file_header.Goals.{In_ok-size}

cut : (c : In_ok-size) → fields_of c.args.text.now ≡ c.in_ok-name.name.now ∷ c.in_ok-pages.pages.now ∷ c.in_ok-size.size.now ∷ fields_of c.in_ok-size.rest.now
cut c = three _ _ _ _ _ _ _ c.in_ok-name.ensures c.in_ok-pages.ensures c.in_ok-size.ensures

pub returns-in-Err : goal.returns-in-Err
returns-in-Err c = rw (cut (goal.at.returns-in-Err c).In_ok-size) (file_more c.in_ok-name.name.now c.in_ok-pages.pages.now c.in_ok-size.size.now (fields_of c.in_ok-size.rest.now) c.in-Err.rule (sym c.no_field.ensures ∙ c.in-Err.is))

pub returns-in-Some : goal.returns-in-Some
returns-in-Some c =
    let none : fields_of c.in_ok-size.rest.now ≡ [] = none_left _ _ (sym c.no_field.ensures ∙ c.in-Ok.is) in
    rw (cut (goal.at.returns-in-Some c).In_ok-size, none) (ap or_kind c.in-Some.ensures)

pub returns-in-None : goal.returns-in-None
returns-in-None c =
    let none : fields_of c.in_ok-size.rest.now ≡ [] = none_left _ _ (sym c.no_field.ensures ∙ c.in-Ok.is) in
    rw (cut (goal.at.returns-in-None c).In_ok-size, none) (ap or_kind c.in-None.ensures)
