use Rattle.std.proofs.Common.{List, Some, ◌∙◌, ◌++◌, map, ap, sym}
use Rattle.bus_msg.specs.declared.entry.Entry.{Entry}
use Rattle.entry_lines.specs.Told.{told_of}
use Rattle.report_text.specs.RunReport.{report_of, log_text_of}
use Rattle.log_section.specs.Form.{form_of}
use Rattle.audit_rules.proofs.explained.explained_sections_are_form.Goals as goal

pub returns : goal.returns
returns c system section is kernel run =
    ap form_of (is.section_is ∙ ap (λ (log : List Entry). report_of is.kernel is.run ++ log_text_of log) (sym is.is))
    ∙ c.printed_sections_are_form.ensures is.kernel is.run kernel run ∙ ap (λ (log : List Entry). Some (map told_of log)) is.is
