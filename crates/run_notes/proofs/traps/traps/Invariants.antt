use Rattle.std.proofs.Common.{◌≡◌, take}
use Rattle.text_parts.specs.Lines.{lines_of}
use Rattle.run_notes.specs.Traps.{traps_of}
use Rattle.run_notes.proofs.traps.traps.Given as goal

abbrev pub invariant-loop-pid : goal.invariant-loop-pid
invariant-loop-pid l = l.note ≡ traps_of (lines_of l.text) l.system l.items l.plain (take l.pid-index l.pid-items)
