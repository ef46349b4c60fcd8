use Rattle.std.proofs.Common.{◌≡◌, take, string_bytes}
use Rattle.entry_lines.specs.Text.{pids_text}
use Rattle.entry_lines.proofs.text.pids_of.Given as goal

abbrev pub invariant-loop-pid : goal.invariant-loop-pid
invariant-loop-pid l = string_bytes l.text ≡ pids_text (take l.pid-index l.pids)
