-- The numbers of a line that breaks no rule fit the types of a system.
use Rattle.std.specs.Prelude.{ℕ, ◌≤◌, ◌<◌, ◌^◌}
use Rattle.sys_text.specs.declared.line.RootFields.{RootFields}
use Rattle.sys_text.specs.Line.{Line, default_entry}
use Rattle.sys_text.specs.Line as lines

-- the numbers of a root fit one byte, and its limit four
pub record RootFits (root : RootFields) : Type 0 where
  pub home : root.home ≤ 255
  pub backup : root.backup ≤ 255
  pub limit : root.limit ≤ 100000
  pub births : root.births ≤ 255
  pub tty : root.tty ≤ 255

-- an image has 1 to 256 pages, and the number behind them fits four bytes
pub record FitsHeader (pages number : ℕ) : Type 0 where
  pub least : 1 ≤ pages
  pub most : pages ≤ 256
  pub fits : number < 2 ^ 32

-- the numbers of a line fit one, two or four bytes
abbrev pub Fits : Line → Type 0
Fits (lines.Clusters count) = count ≤ 255
Fits (lines.Pager first second) = (first ≤ 255) × (second ≤ 255)
Fits (lines.Syncreads count) = count ≤ 100000
Fits (lines.Syncsteps count) = count ≤ 100000
Fits (lines.Image name pages entry) = FitsHeader pages entry
Fits (lines.Asm name pages) = FitsHeader pages default_entry
Fits (lines.Elf name pages size) = FitsHeader pages size
Fits (lines.Words words) = Unit {0}
Fits lines.End = Unit {0}
Fits (lines.Root root image) = RootFits root
Fits (lines.Chan first second) = (first ≤ 255) × (second ≤ 255)
