use Rattle.std.proofs.Common.{◌≡◌, true, take}
use Rattle.std.specs.List.{list_all}
use Rattle.std.specs.Str.{is_utf8}
use Rattle.clap.specs.Walk.{texts}
use Rattle.command_words.proofs.command.texts.Given as goal

-- the texts are the words so far, and each of these is one
abbrev pub invariant-loop-word : goal.invariant-loop-word
invariant-loop-word l = (texts l.texts.items ≡ take l.word-index l.words) × (list_all is_utf8 (take l.word-index l.words) ≡ true)
