use Rattle.std.proofs.Common.{◌≡◌, ◌-◌, length}
use Rattle.log_section.specs.Lines.{behind_most}
use Rattle.log_section.specs.Form.{behind_tty}
use Rattle.log_section.proofs.form.ttys.Given as goal

abbrev pub invariant-loop : goal.invariant-loop
invariant-loop l = behind_most behind_tty (length l.text - l.counter) l.rest ≡ behind_most behind_tty (length l.text) l.text
