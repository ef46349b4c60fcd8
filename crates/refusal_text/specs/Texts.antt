-- What is said of each rule.
use Rattle.std.specs.Prelude.{ℕ, ◌==◌, List, codes, if◌then◌else◌}

-- of a line of a system text, by the number of the rule
unfoldable pub system_rule_text : ℕ → List ℕ
system_rule_text rule =
    if rule == 1 then codes "it has a byte outside 0x20 to 0x7E, shown as ?"
    else if rule == 2 then codes "no line with this first field may stand here"
    else if rule == 3 then codes "it has too few or too many fields"
    else if rule == 4 then codes "a field is no number, name, word or mode where one must stand"
    else if rule == 5 then codes "a number is outside its limit"
    else if rule == 6 then codes "its two clusters or its two roots are the same"
    else if rule == 7 then codes "its image name is used twice, or its image or root is not there"
    else if rule == 8 then codes "it has more words, processes or ends than there is room for, or not the words of its file"
    else if rule == 9 then codes "the assembler refuses it"
    else if rule == 10 then codes "the text ends before its first root, or inside a block"
    else if rule == 11 then codes "its file is too short, or does not begin as an ELF file"
    else if rule == 12 then codes "its file has numbers that are not of 32 bits, lowest byte first"
    else if rule == 13 then codes "its file is no executable for RISC-V"
    else if rule == 14 then codes "its file has compressed code"
    else if rule == 15 then codes "the table of program headers is not in its file, or has rows that are not of 32 bytes"
    else if rule == 16 then codes "its file is to be linked when it is loaded"
    else if rule == 17 then codes "a segment of its file has more bytes than memory, or bytes that are not in the file"
    else if rule == 18 then codes "a segment of its file is not in memory"
    else if rule == 19 then codes "two segments of its file have a byte of memory in common"
    else codes "the first instruction of its file is not in memory, or has an address that is no multiple of 4"

-- of a line of an assembler text
unfoldable pub asm_rule_text : ℕ → List ℕ
asm_rule_text rule =
    if rule == 1 then codes "it has a byte outside 0x20 to 0x7E, shown as ?"
    else if rule == 2 then codes "no statement has this word"
    else if rule == 3 then codes "its operands are not those of the statement, or its label is no name"
    else if rule == 4 then codes "a number is outside its range"
    else if rule == 5 then codes "an earlier line defines the same label"
    else if rule == 6 then codes "no line defines the label that it names"
    else if rule == 7 then codes "the label is too far from the branch or the jump"
    else codes "the program is longer than 16384 words"
