-- The parts of a command's words, as the code holds them.
use Rattle.std.specs.Prelude.{option_map}
use Rattle.clap.specs.Walk.{texts}
use Rattle.command_words.specs.declared.options.Parts.{Parts}
use Rattle.command_words.specs.Options.{Given}

-- what the parts say is given
abbrev pub given_by : Parts → Given
given_by p = record { flag = p.flag; pick = option_map (λ s. s.now) p.pick; plain = texts p.plain.items }
