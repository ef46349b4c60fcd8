use Rattle.std.proofs.Common.{Some, sym, ◌∙◌}
use Rattle.text_parts.specs.Lines.{fields_of}
use Rattle.sys_text.specs.Line.{said}
use Rattle.sys_text.specs.Rules.{lowest_of_file}
use Rattle.sys_text.proofs.Spelling.{rule_named}
use Rattle.sys_text.proofs.Keeping.{kept_rules, lowest_read, lowest_file}
use Rattle.sys_text.proofs.LineSteps.{fits, end_closes, asm_opens_block, none_broken, kept_read, goes_on, refused_at}
use Rattle.sys_text.proofs.Taking.{taken_keeps}
use Rattle.sys_text.proofs.reading.take_fields.Goals as goal

pub add_line-requires-clause-numbers : goal.add_line-requires-clause-numbers
add_line-requires-clause-numbers c = fits c.args.reader.now.state (said c.in-Ok.read) (sym c.in-None.ensures) c.requires.room

pub add_line-requires-clause-named : goal.add_line-requires-clause-named
add_line-requires-clause-named c = (kept_rules c.args.reader.now.state (said c.in-Ok.read) (sym c.in-None.ensures)).name

pub add_line-requires-clause-words : goal.add_line-requires-clause-words
add_line-requires-clause-words c = (kept_rules c.args.reader.now.state (said c.in-Ok.read) (sym c.in-None.ensures)).room

pub add_line-requires-clause-open_block : goal.add_line-requires-clause-open_block
add_line-requires-clause-open_block c = end_closes c.args.reader.now.state c.args.keyword (fields_of c.args.text.now) (said c.in-Ok.read) (sym c.in-Ok.ensures) c.requires.starts.stands c.requires.room

pub returns-in-Err-clause-step : goal.returns-in-Err-clause-step
returns-in-Err-clause-step c =
    let named = rule_named c.args.reader.now.state c.args.keyword (fields_of c.args.text.now) c.in-Err.rule (sym c.in-Err.ensures) in
    refused_at c.args.reader.now.state c.args.number c.args.line.now (Some c.in-Err.rule) c.refused.result (c.requires.starts.broken ∙ named) c.refused.ensures

pub returns-in-Some-clause-step : goal.returns-in-Some-clause-step
returns-in-Some-clause-step c =
    let named = lowest_read c.args.reader.now.state c.args.keyword (fields_of c.args.text.now) (said c.in-Ok.read) c.in-Some.rule (sym c.in-Ok.ensures) (sym c.in-Some.ensures) in
    refused_at c.args.reader.now.state c.args.number c.args.line.now (Some c.in-Some.rule) c.refused-in-Some.result (c.requires.starts.broken ∙ named) c.refused-in-Some.ensures

pub returns-in-Ok-add_line-clause-step : goal.returns-in-Ok-add_line-clause-step
returns-in-Ok-add_line-clause-step c =
    let state = c.args.reader.now.state in
    let read = said c.in-Ok.read in
    let none = none_broken state c.args.line.now c.args.keyword (fields_of c.args.text.now) read c.requires.starts (sym c.in-Ok.ensures) (sym c.in-None.ensures) c.in-Ok-add_line.ensures.kept in
    let kept = kept_read state c.add_line.new.reader.state c.args.line.now c.args.keyword (fields_of c.args.text.now) read c.opens_block.result c.requires.starts (sym c.in-Ok.ensures) c.in-Ok-add_line.ensures.added c.opens_block.ensures in
    goes_on state c.add_line.new.reader.state c.args.number c.args.line.now c.opens_block.result none kept

pub returns-in-Ok-add_line-clause-opens : goal.returns-in-Ok-add_line-clause-opens
returns-in-Ok-add_line-clause-opens c =
    asm_opens_block c.args.reader.now.state c.add_line.new.reader.state c.args.keyword (fields_of c.args.text.now) (said c.in-Ok.read) c.opens_block.result (sym c.in-Ok.ensures) c.in-Ok-add_line.ensures.added c.opens_block.ensures

pub returns-in-Ok-add_line-clause-room : goal.returns-in-Ok-add_line-clause-room
returns-in-Ok-add_line-clause-room c =
    let state = c.args.reader.now.state in
    let read = said c.in-Ok.read in
    let none = none_broken state c.args.line.now c.args.keyword (fields_of c.args.text.now) read c.requires.starts (sym c.in-Ok.ensures) (sym c.in-None.ensures) c.in-Ok-add_line.ensures.kept in
    let kept = kept_read state c.add_line.new.reader.state c.args.line.now c.args.keyword (fields_of c.args.text.now) read c.opens_block.result c.requires.starts (sym c.in-Ok.ensures) c.in-Ok-add_line.ensures.added c.opens_block.ensures in
    taken_keeps state c.add_line.new.reader.state c.args.line.now c.opens_block.result none kept c.requires.room

pub returns-in-Err-add_line-clause-step : goal.returns-in-Err-add_line-clause-step
returns-in-Err-add_line-clause-step c =
    let state = c.args.reader.now.state in
    let read = said c.in-Ok.read in
    let broken = c.requires.starts.broken ∙ lowest_file state c.args.keyword (fields_of c.args.text.now) read (sym c.in-Ok.ensures) (sym c.in-None.ensures) in
    refused_at state c.args.number c.args.line.now (lowest_of_file state read) c.in-Err-add_line.refused broken c.in-Err-add_line.ensures.refused
