use Rattle.std.proofs.Common.{◌≡◌, Some, take}
use Rattle.clap.specs.Walk.{texts}
use Rattle.command_words.specs.Script.{script_words}
use Rattle.command_words.proofs.script.script_words.Given as goal

-- the words so far are the script words of the texts so far
abbrev pub invariant-loop-text : goal.invariant-loop-text
invariant-loop-text l = script_words (texts (take l.text-index l.texts)) ≡ Some l.words
