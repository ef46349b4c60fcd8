-- What a line says, if it is the line of an entry.
use Rattle.std.specs.Prelude.{ℕ, if◌then◌else◌, List, Option, Some, None}
use Rattle.std.specs.Str.{bytes_eq}
use Rattle.entry_lines.specs.declared.told.Told.{Told}
use Rattle.entry_lines.specs.Text.{text_of}
use Rattle.entry_lines.specs.Guess.{guess_of}

-- what the line would say, if that is its line
abbrev pub told_in : List ℕ → Option Told
told_in line = if bytes_eq (text_of (guess_of line)) line then Some (guess_of line) else None
