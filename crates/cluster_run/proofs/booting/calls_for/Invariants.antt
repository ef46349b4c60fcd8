use Rattle.std.proofs.Common.{◌≡◌, take}
use Rattle.cluster_turns.specs.Disks.{calls_for}
use Rattle.cluster_run.proofs.booting.calls_for.Given as goal

abbrev pub invariant-loop-word : goal.invariant-loop-word
invariant-loop-word l = l.calls ≡ calls_for l.number (take l.word-index l.script)
