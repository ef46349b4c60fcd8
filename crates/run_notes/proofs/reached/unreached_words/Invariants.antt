use Rattle.std.proofs.Common.{◌≡◌, take}
use Rattle.std.specs.List.{flat_map}
use Rattle.run_notes.specs.Reached.{unreached}
use Rattle.run_notes.proofs.reached.unreached_words.Given as goal

abbrev pub invariant-loop-word : goal.invariant-loop-word
invariant-loop-word l = l.text ≡ flat_map (unreached l.run) (take l.word-index l.script)
