-- Lines that were parsed.
use Rattle.std.specs.Prelude.{ℕ, List, map}
use Rattle.rv_asm.specs.declared.parsed.Parsed.{Parsed}

-- the texts of the lines
abbrev pub texts_of : List Parsed → List (List ℕ)
texts_of lines = map (λ parsed. parsed.line.now) lines
