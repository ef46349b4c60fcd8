-- The first fields of the lines of a system text, and its modes, by their names.
use Rattle.std.specs.Prelude.{ℕ, List, [], ◌∷◌, Option, codes}
use Rattle.text_parts.specs.Table.{lookup}
use Rattle.t32_base.specs.declared.process.Mode.{Mode}
use Rattle.t32_base.specs.declared.process.Mode.TheVariants as modes
use Rattle.sys_text.specs.declared.stage.Keyword.{Keyword}
use Rattle.sys_text.specs.declared.stage.Keyword.TheVariants as keywords

infix 20 ◌is◌
-- a row of a table of names
abbrev ◌is◌ : {V : Type 0} → List ℕ → V → List ℕ × V
name is value = (name, value)

-- the first fields of the lines
abbrev pub keywords_by_name : List (List ℕ × Keyword)
keywords_by_name =
    (codes "clusters" is keywords.Clusters) ∷ (codes "pager" is keywords.Pager) ∷ (codes "syncreads" is keywords.Syncreads)
    ∷ (codes "syncsteps" is keywords.Syncsteps)
    ∷ (codes "image" is keywords.Image) ∷ (codes "asm" is keywords.Asm) ∷ (codes "elf" is keywords.Elf)
    ∷ (codes "words" is keywords.Words) ∷ (codes "end" is keywords.End) ∷ (codes "root" is keywords.Root) ∷ (codes "chan" is keywords.Chan) ∷ []

-- the modes by their names
abbrev pub modes_by_name : List (List ℕ × Mode)
modes_by_name = (codes "quarter" is modes.Quarter) ∷ (codes "half" is modes.Half) ∷ (codes "full" is modes.Full) ∷ []

-- the mode that a field names
abbrev pub mode_named : List ℕ → Option Mode
mode_named field = lookup modes_by_name field
