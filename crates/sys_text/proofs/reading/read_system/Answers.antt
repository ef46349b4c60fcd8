use Rattle.std.proofs.Common.{sym, ap, ◌∙◌, Ok, Err}
use Rattle.sys_text.specs.Types.{have_words, have_numbers}
use Rattle.sys_text.proofs.Reached.{system_is_valid}
use Rattle.sys_text.proofs.Refusing.{system_from_answer, cause_from_answer}
use Rattle.sys_text.proofs.reading.read_system.Goals as goal

pub returns-in-Ok-clause-valid : goal.returns-in-Ok-clause-valid
returns-in-Ok-clause-valid c =
    system_is_valid c.args.text.now c.in-Ok.system c.in-Ok.ensures (ap have_words (sym c.as_slice.ensures) ∙ c.all_words_fit.ensures) (ap have_numbers (sym c.as_slice-in-Ok.ensures) ∙ c.all_numbers_fit.ensures)

pub returns-in-Ok-clause-system : goal.returns-in-Ok-clause-system
returns-in-Ok-clause-system c = system_from_answer c.args.text.now (Ok c.in-Ok.system) c.in-Ok.ensures

pub returns-in-Err-clause-refused : goal.returns-in-Err-clause-refused
returns-in-Err-clause-refused c = cause_from_answer c.args.text.now (Err c.in-Err.refused) c.in-Err.ensures
