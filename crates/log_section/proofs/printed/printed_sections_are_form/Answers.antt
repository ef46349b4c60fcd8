use Rattle.log_section.proofs.Whole.{printed_form}
use Rattle.log_section.proofs.printed.printed_sections_are_form.Goals as goal

pub returns : goal.returns
returns c = printed_form
