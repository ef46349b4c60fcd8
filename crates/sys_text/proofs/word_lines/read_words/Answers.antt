use Rattle.std.proofs.Common.{◌≡◌, [], rules, arith, ◌∙◌}
use Rattle.text_parts.specs.Lines.{fields_of}
use Rattle.sys_text.proofs.WordLines.{Read, so_far_more, read_all, no_fields, no_room, in_room}
use Rattle.sys_text.proofs.word_lines.read_words.Goals as goal
use Rattle.sys_text.proofs.word_lines.read_words.Goals.{In_default}

read : (c : In_default) → Read c.args.words.now c.fields.words (fields_of c.args.fields.now)
read c =
    let none : fields_of c.fields.rest.now ≡ [] = search (rules, c.in_default.ensures) in
    read_all c.args.words.now c.fields.words c.fields.rest.now (fields_of c.args.fields.now) c.fields.invariant none

pub fields-preserved : goal.fields-preserved
fields-preserved c = so_far_more c.args.words.now c.fields.words c.push.new.self c.fields.rest.now c.in-Some.after.now (fields_of c.args.fields.now) c.in-Some.ensures.field c.in-Some-value.value c.fields.invariant c.in-Some.ensures.fields (c.in-Some.ensures.value_is ∙ c.in-Some-value.is) c.in_ok-push.ensures.ok

pub returns-then-len-before-clause-refused : goal.returns-then-len-before-clause-refused
returns-then-len-before-clause-refused c =
    rw (no_fields c.args.words.now c.fields.words (fields_of c.args.fields.now) c.args.pages (read (goal.at.returns-then-len-before-clause-refused c).In_default) (omega (arith, c.if-len-before.true, c.len.ensures, c.len-before.ensures))) c.refused-then-len-before.ensures

pub returns-then-not-fit_limit-clause-refused : goal.returns-then-not-fit_limit-clause-refused
returns-then-not-fit_limit-clause-refused c =
    rw (no_room c.args.words.now c.fields.words (fields_of c.args.fields.now) c.args.pages (read (goal.at.returns-then-not-fit_limit-clause-refused c).In_default) (λ e. absurd (omega (arith, e, c.if-len-before.false, c.len.ensures, c.len-before.ensures))) (search rules)) c.refused-then-not-fit_limit.ensures

pub returns-clause-kept : goal.returns-clause-kept
returns-clause-kept c =
    in_room c.args.words.now c.fields.words (fields_of c.args.fields.now) c.args.pages (read (goal.at.returns-clause-kept c).In_default) (λ e. absurd (omega (arith, e, c.if-len-before.false, c.len.ensures, c.len-before.ensures))) (search rules)
