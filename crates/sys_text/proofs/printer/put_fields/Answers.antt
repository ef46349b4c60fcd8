use Rattle.sys_text.proofs.WordFields.{fields_are}
use Rattle.sys_text.proofs.printer.put_fields.Goals as goal

pub returns : goal.returns
returns c = rw (← fields_are c.args.words.now) c.push_words.ensures
