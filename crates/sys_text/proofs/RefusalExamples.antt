-- Worked examples of refusals: what each rule by itself says of a line, and which line and rule are named. Each is by evaluation.
use Rattle.std.proofs.Common.{◌≡◌, ℕ, true, false, List, [], ◌++◌, Err, refl}
use Rattle.std.specs.Prelude.{codes}
use Rattle.rv_asm.specs.Program.{reading_of_lines}
use Rattle.sys_text.specs.declared.refusal.Rule.TheVariants.{FieldKind, Limit, Same, Name, Assembler, Ended, Elf}
use Rattle.rv_elf.specs.declared.refusal.Rule.TheVariants.{NoElf}
use Rattle.sys_text.specs.Files.{breaks_in}
use Rattle.sys_text.specs.Reading.{reading_of, system_of_lines}
use Rattle.sys_text.specs.RuleByRule.{line_breaks}

-- `x` is no number: line 2 breaks rule 4, and the rules 5 to 8 are of lines that are read
abbrev no_cluster : List ℕ
no_cluster = codes "clusters 2\npager 2 x\n"

no_number : line_breaks no_cluster 1 FieldKind ≡ true
no_number = refl

not_asked : line_breaks no_cluster 1 Limit ≡ false
not_asked = refl

not_the_same : line_breaks no_cluster 1 Same ≡ false
not_the_same = refl

first_line_kept : line_breaks no_cluster 0 Ended ≡ false
first_line_kept = refl

no_cluster_named : reading_of no_cluster ≡ Err (2, FieldKind)
unfolding system_of_lines
no_cluster_named = refl

abbrev front : List ℕ
front = codes "clusters 2\npager 0 1\nsyncreads 32\nsyncsteps 4096\n"

-- there is no image of this name, and its clusters are the same: line 5 breaks the rules 6 and 7, and 6 is named
abbrev no_image_named : List ℕ
no_image_named = front ++ codes "root 0 0 half hi 1 0 0"

same_clusters : line_breaks no_image_named 4 Same ≡ true
same_clusters = refl

not_there : line_breaks no_image_named 4 Name ≡ true
not_there = refl

same_named : reading_of no_image_named ≡ Err (5, Same)
unfolding system_of_lines
same_named = refl

-- a block with an end: its line 6 breaks rule 9
abbrev bad_block : List ℕ
bad_block = front ++ codes "asm a 1\nfoo\nend\n"

not_assembled : line_breaks bad_block 5 Assembler ≡ true
unfolding reading_of_lines
not_assembled = refl

bad_block_named : reading_of bad_block ≡ Err (6, Assembler)
unfolding system_of_lines reading_of_lines
bad_block_named = refl

-- a block without an end: the same line keeps rule 9, and the last line breaks rule 10
abbrev open_block : List ℕ
open_block = front ++ codes "asm a 1\nfoo\necall\n"

not_tested : line_breaks open_block 5 Assembler ≡ false
not_tested = refl

ended_early : line_breaks open_block 6 Ended ≡ true
ended_early = refl

open_block_named : reading_of open_block ≡ Err (7, Ended)
unfolding system_of_lines
open_block_named = refl

-- a file of too few bytes: the end of its block breaks rule 11, and rule 10 as well where it is the last line
abbrev no_elf_file : List ℕ
no_elf_file = front ++ codes "elf a 1 4\nwords 00000000\nend\n"

no_elf_broken : line_breaks no_elf_file 6 (Elf NoElf) ≡ true
unfolding breaks_in
no_elf_broken = refl

no_elf_last : line_breaks no_elf_file 6 Ended ≡ true
no_elf_last = refl

no_elf_last_named : reading_of no_elf_file ≡ Err (7, Ended)
unfolding system_of_lines breaks_in
no_elf_last_named = refl

no_elf_named : reading_of (no_elf_file ++ codes "#\n") ≡ Err (7, Elf NoElf)
unfolding system_of_lines breaks_in
no_elf_named = refl

-- an empty text ends before its first root
nothing : line_breaks [] 0 Ended ≡ true
nothing = refl

nothing_named : reading_of [] ≡ Err (1, Ended)
unfolding system_of_lines
nothing_named = refl
