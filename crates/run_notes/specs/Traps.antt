-- Where the processes of a run were trapped.
use Rattle.std.specs.Prelude.{ℕ, ◌-◌, ◌/◌, ◌%◌, ◌==◌, Bool, false, if◌then◌else◌, List, [], ◌++◌, codes, filter, fold, reverse, nat_le, slice_get, Option, Some, None, option_map}
use Rattle.std.specs.List.{flat_map}
use Rattle.std.specs.Fmt.{decimal, digits}
use Rattle.t32_base.specs.declared.process.Pid.{Pid}
use Rattle.t32_base.specs.declared.process.End.TheVariants.{Trap}
use Rattle.t32_base.specs.declared.process.Status.{Status}
use Rattle.t32_base.specs.declared.process.Status.TheVariants.{Ended}
use Rattle.proc_state.specs.State.{ProcState}
use Rattle.plain_kernel.specs.Kernel.{Kernel, process_at}
use Rattle.plain_kernel.specs.declared.item.Item.{Item}
use Rattle.plain_kernel.specs.declared.item.Item.TheVariants.{Fork}
use Rattle.sys_text.specs.declared.system.System.{System}
use Rattle.sys_text.specs.declared.system.Root.{Root}
use Rattle.hints.specs.AsmLines.{asm_line}

-- the parent of a process, where the item is its birth, and else the process
abbrev pub parent_or : Pid → Item → Pid
parent_or pid (Fork parent child) = if child.0 == pid.0 then parent else pid
parent_or pid _ = pid

-- the root from which a process comes by these items
abbrev pub elder : List Item → Pid → Pid
elder items pid = fold parent_or pid (reverse items)

-- a root's pid has this home
abbrev pub has_home : Pid → Root → Bool
has_home pid root = (root.home).0 == pid.0 % 16

-- the image of the root after so many of those with the home of the pid
abbrev pub image_at : List Root → Pid → (index : ℕ) → Option ℕ
image_at roots pid index = option_map (λ (r : Root). r.image) (slice_get (filter (has_home pid) roots) index)

-- The image of a root: its pid is its home and 16 times the how manieth of those with that home it is.
abbrev pub image_of : List Root → Pid → Option ℕ
image_of roots pid = image_at roots pid (pid.0 / 16 - 1)

-- the line that made the instruction at this address of an image: its word is counted from 0
abbrev pub line_at : List (List ℕ) → (pc : ℕ) → Option ℕ → Option ℕ
line_at lines pc None = None
line_at lines pc (Some image) = if nat_le 0x10000 pc then asm_line lines image ((pc - 0x10000) / 4) else None

abbrev pub trap_line : List (List ℕ) → System → List Item → Pid → (pc : ℕ) → Option ℕ
trap_line lines system items pid pc = line_at lines pc (image_of system.roots (elder items pid))

-- the end of a line, with the line of the text where it is known
abbrev pub line_text : Option ℕ → List ℕ
line_text None = codes "\n"
line_text (Some number) = codes ", line " ++ (decimal number ++ codes " of the text\n")

abbrev pub trap_text : (pid code pc : ℕ) → List ℕ
trap_text pid code pc = codes "t32: pid " ++ (decimal pid ++ (codes ": trap " ++ (decimal code ++ (codes " at pc 0x" ++ digits 16 false pc))))

-- the line of a process that ended by a trap, nothing of any other
abbrev pub status_part : List (List ℕ) → System → List Item → Pid → (pc : ℕ) → Status → List ℕ
status_part lines system items pid pc (Ended (Trap code)) = trap_text pid.0 code pc ++ line_text (trap_line lines system items pid pc)
status_part lines system items pid pc _ = []

abbrev pub trap_part : List (List ℕ) → System → List Item → Pid → Option ProcState → List ℕ
trap_part lines system items pid None = []
trap_part lines system items pid (Some s) = status_part lines system items pid ((s.small).regs).pc (s.small).status

-- the lines of these processes of a kernel to which these items lead, where the text has these lines
abbrev pub traps_of : List (List ℕ) → System → List Item → Kernel → List Pid → List ℕ
traps_of lines system items kernel pids = flat_map (λ (p : Pid). trap_part lines system items p (process_at kernel p)) pids
