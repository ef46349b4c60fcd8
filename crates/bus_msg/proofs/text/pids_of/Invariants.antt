use Rattle.std.proofs.Common.{◌≡◌, take, string_bytes}
use Rattle.bus_msg.specs.Text.{pids_text}
use Rattle.bus_msg.proofs.text.pids_of.Given as goal

abbrev pub invariant-loop-rec : goal.invariant-loop-rec
invariant-loop-rec l = string_bytes l.text ≡ pids_text (take l.rec-index l.recs)
