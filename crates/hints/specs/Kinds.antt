-- The lines of a system text by their first fields, and what the fields behind these are.
use Rattle.std.specs.Prelude.{ℕ, ◌-◌, ◌==◌, Bool, true, false, List, codes, Option, Some, None, if◌then◌else◌}
use Rattle.sys_text.specs.declared.stage.Keyword.{Keyword}
use Rattle.sys_text.specs.declared.stage.Keyword.TheVariants as keywords
use Rattle.hints.specs.declared.kinds.Field.{Field}
use Rattle.hints.specs.declared.kinds.Field.TheVariants as fields
use Rattle.hints.specs.declared.kinds.Wanted.{Wanted}
use Rattle.hints.specs.declared.kinds.Wanted.TheVariants as wants

-- such a line stands outside blocks alone
abbrev pub is_outside : Keyword → Bool
is_outside keywords.Words = false
is_outside keywords.End = false
is_outside _ = true

abbrev pub first_or_second : (index : ℕ) → (first second : Option Field) → Option Field
first_or_second index first second = if index == 0 then first else if index == 1 then second else None

-- NAME, PAGES, and what may stand behind these
abbrev pub header_field : (index : ℕ) → (third : Option Field) → Option Field
header_field index third = if index == 0 then Some fields.Name else if index == 1 then Some fields.Pages else if index == 2 then third else None

-- `root HOME BACKUP MODE NAME LIMIT BIRTHS TTY`
abbrev pub root_field : (index : ℕ) → Option Field
root_field index =
    if index == 0 then Some fields.Home
    else if index == 1 then Some fields.Backup
    else if index == 2 then Some fields.Mode
    else if index == 3 then Some fields.Name
    else if index == 4 then Some fields.Limit
    else if index == 5 then Some fields.Births
    else if index == 6 then Some fields.Tty
    else None

-- the field after so many others behind the first
abbrev pub field_at : Keyword → (index : ℕ) → Option Field
field_at keywords.Clusters index = first_or_second index (Some fields.Clusters) None
field_at keywords.Pager index = first_or_second index (Some fields.First) (Some fields.Second)
field_at keywords.Syncreads index = first_or_second index (Some fields.Reads) None
field_at keywords.Syncsteps index = first_or_second index (Some fields.Steps) None
field_at keywords.Image index = header_field index (Some fields.Entry)
field_at keywords.Asm index = header_field index None
field_at keywords.Elf index = header_field index (Some fields.Len)
field_at keywords.Words index = Some fields.Word
field_at keywords.End index = None
field_at keywords.Root index = root_field index
field_at keywords.Chan index = first_or_second index (Some fields.RootA) (Some fields.RootB)

abbrev pub name_of : Field → List ℕ
name_of fields.Clusters = codes "N"
name_of fields.First = codes "A"
name_of fields.Second = codes "B"
name_of fields.Reads = codes "N"
name_of fields.Steps = codes "N"
name_of fields.Name = codes "NAME"
name_of fields.Pages = codes "PAGES"
name_of fields.Entry = codes "ENTRY"
name_of fields.Len = codes "LEN"
name_of fields.Word = codes "W"
name_of fields.Home = codes "HOME"
name_of fields.Backup = codes "BACKUP"
name_of fields.Mode = codes "MODE"
name_of fields.Limit = codes "LIMIT"
name_of fields.Births = codes "BIRTHS"
name_of fields.Tty = codes "TTY"
name_of fields.RootA = codes "A"
name_of fields.RootB = codes "B"

abbrev pub wanted : Field → Wanted
wanted fields.Name = wants.Name
wanted fields.Word = wants.Word
wanted fields.Mode = wants.Mode
wanted _ = wants.Number

-- the limits of a number, where there are so many clusters
abbrev pub limits : (clusters : ℕ) → Field → Option (ℕ × ℕ)
limits clusters fields.Clusters = Some (2, 16)
limits clusters fields.First = Some (0, clusters - 1)
limits clusters fields.Second = Some (0, clusters - 1)
limits clusters fields.Reads = Some (1, 1000)
limits clusters fields.Steps = Some (64, 100000)
limits clusters fields.Name = None
limits clusters fields.Pages = Some (1, 256)
limits clusters fields.Entry = Some (65536, 131068)
limits clusters fields.Len = Some (1, 65536)
limits clusters fields.Word = None
limits clusters fields.Home = Some (0, clusters - 1)
limits clusters fields.Backup = Some (0, clusters - 1)
limits clusters fields.Mode = None
limits clusters fields.Limit = Some (1, 100000)
limits clusters fields.Births = Some (0, 31)
limits clusters fields.Tty = Some (0, 15)
limits clusters fields.RootA = None
limits clusters fields.RootB = None
