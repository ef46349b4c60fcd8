-- Why the program ended as it did, and what is said of it.
use Rattle.std.specs.Prelude.{ℕ, ◌≡◌, ◌⊎◌, ◌==◌, ◌+◌, List, [], ◌∷◌, ◌++◌, length, codes, if◌then◌else◌, Option, Some, None}
use Rattle.std.specs.List.{slice_get}
use Rattle.std.specs.Fmt.{decimal}
use Rattle.refusal_text.specs.declared.why.Why.{Why}
use Rattle.refusal_text.specs.declared.why.Why.TheVariants as whys
use Rattle.refusal_text.specs.declared.why.ItemFault.{ItemFault}
use Rattle.refusal_text.specs.declared.why.ItemFault.TheVariants.{Unreadable, Inapplicable}
use Rattle.refusal_text.specs.Lines.{line_at, item_at, begins_well}
use Rattle.refusal_text.specs.Block.{inner_rule}
use Rattle.refusal_text.specs.Shown.{shown_where}
use Rattle.refusal_text.specs.Texts.{system_rule_text, asm_rule_text}

-- ---- what is to be said of a refusal

-- the assembler's rule, behind rule 9 alone
abbrev pub inner_of : List (List ℕ) → (line rule : ℕ) → Option ℕ
inner_of lines line rule = if rule == 9 then inner_rule lines line else None

-- of a line of a system text that breaks a rule: the assembler's rule behind it, and the line as it stands
abbrev pub system_why : List (List ℕ) → (line rule : ℕ) → Why
system_why lines line rule = whys.SystemLine line rule (inner_of lines line rule) (shown_where (line_at lines line))

abbrev pub asm_why : List (List ℕ) → (line rule : ℕ) → Why
asm_why lines line rule = whys.AsmLine line rule (shown_where (line_at lines line))

-- of an item of a schedule section, and its line as it stands
abbrev pub item_why : List (List ℕ) → (index : ℕ) → ItemFault → Why
item_why section index fault = whys.Item index fault (shown_where (item_at section index))

-- of the line that begins a schedule section behind these lines of a system text
abbrev pub schedule_line_why : (lines section : List (List ℕ)) → Why
schedule_line_why lines section = whys.ScheduleLine (length lines + 1) (shown_where (slice_get section 0))

-- of a schedule section that cannot be read, where its item with this index is named: that line where it is malformed, or that item
abbrev pub unreadable_why : (lines section : List (List ℕ)) → (index : ℕ) → Why
unreadable_why lines section index = if begins_well section then item_why section index Unreadable else schedule_line_why lines section

-- the same without what has to be made anew
abbrev pub shortened : Why → Why
shortened (whys.SystemLine line rule inner shown) = whys.SystemLine line rule None None
shortened (whys.AsmLine line rule shown) = whys.AsmLine line rule None
shortened (whys.Item index fault shown) = whys.Item index fault None
shortened (whys.ScheduleLine line shown) = whys.ScheduleLine line None
shortened why = why

-- all that is to be said; or less, where memory was refused
abbrev pub Says : Why → Why → Type 0
Says whole why = (why ≡ whole) ⊎ (why ≡ shortened whole)

-- ---- what is to be said by the status alone

abbrev pub why_of : (status : ℕ) → Option Why
why_of status =
    if status == 1 then Some whys.Usage
    else if status == 4 then Some whys.ReadFault
    else if status == 5 then Some whys.WriteFault
    else if status == 6 then Some whys.NoMemory
    else if status == 8 then Some whys.TooLong
    else None

-- ---- the texts

abbrev pub usage_text : List ℕ
usage_text = codes "t32: the words are no command\n\n    t32 WORD [OPTION]..\n\nplain                            runs a system without clusters, by the schedule behind its text or by the default one\nsim [--log] [--pick N] [LOSS]..  runs its clusters in turns on one thread; N, 0 to 2147483647, is another order\nrun [--log] [LOSS]..             runs its clusters, each on a thread of its own\ncheck                            prints a system text in canonical form\nasm                              assembles a program and prints its words\nload N [LOSS]..                  runs, as run does, a ring of processes round which a token goes N times, 1 to 1000\n                                 and writes a line that counts what came of it; with --text it prints its text alone\n\nLOSS is crash:K@bus:N, by which cluster K is lost at place N of the log; crash:K@step:N, by which it is lost directly\nbefore its kernel step N; disk:K@N, by which it is lost since call N of its page disk fails, where it is one of the two\npage servers; or return:K@bus:N, by which it comes back at place N. All of these are counted from 0.\nThere are 32 such words at most. A loss is not covered where a process loses both its clusters, or no page server is left.\n\nThe text is read from standard input, as in: t32 sim --log < examples/hi.t32\nThe status is 0 done, 1 no such command or cluster, 2 the text is refused, 3 an item of the schedule is refused, 4 the\ninput failed, 5 the output failed, 6 memory was refused, 7 a loss was not covered, 8 the input is too long.\n"

-- what is said where no memory is left for more
abbrev pub headline : Why → List ℕ
headline whys.Usage = usage_text
headline whys.NoCluster = codes "t32: a word names a cluster that the system does not have, or the disk of one that is no page server\n"
headline (whys.SystemLine line rule inner shown) = codes "t32: a line of the system text breaks a rule\n"
headline (whys.AsmLine line rule shown) = codes "t32: a line of the assembler text breaks a rule\n"
headline (whys.Item index fault shown) = codes "t32: an item of the schedule is refused\n"
headline (whys.ScheduleLine line shown) = codes "t32: the line that begins the schedule is malformed\n"
headline whys.ReadFault = codes "t32: standard input could not be read\n"
headline whys.WriteFault = codes "t32: standard output could not be written\n"
headline whys.NoMemory = codes "t32: memory was refused\n"
headline whys.TooLong = codes "t32: the input is longer than 4194304 bytes\n"

abbrev pub fault_text : ItemFault → List ℕ
fault_text Unreadable = codes "read: its line or the first line is malformed or missing, or its line is one too many"
fault_text Inapplicable = codes "applied: its process cannot do that here"

-- the line behind its number
abbrev pub line_text : (number : ℕ) → Option (List ℕ) → List ℕ
line_text number None = []
line_text number (Some shown) = decimal number ++ (codes " | " ++ (shown ++ 10 ∷ []))

abbrev pub inner_text : Option ℕ → List ℕ
inner_text None = codes "\n"
inner_text (Some rule) = codes ", by its rule " ++ (decimal rule ++ (codes ": " ++ (asm_rule_text rule ++ 10 ∷ [])))

abbrev pub system_head : (line rule : ℕ) → List ℕ
system_head line rule = codes "t32: line " ++ (decimal line ++ (codes " of the system text breaks rule " ++ (decimal rule ++ (codes ": " ++ system_rule_text rule))))

abbrev pub asm_head : (line rule : ℕ) → List ℕ
asm_head line rule = codes "t32: line " ++ (decimal line ++ (codes " of the assembler text breaks rule " ++ (decimal rule ++ (codes ": " ++ (asm_rule_text rule ++ 10 ∷ [])))))

abbrev pub item_head : (index : ℕ) → ItemFault → List ℕ
item_head index fault = codes "t32: item " ++ (decimal index ++ (codes " of the schedule cannot be " ++ (fault_text fault ++ 10 ∷ [])))

abbrev pub schedule_head : (line : ℕ) → List ℕ
schedule_head line = codes "t32: line " ++ (decimal line ++ codes " begins the schedule, and has to be: schedule N, with N below 4294967296\n")

-- what is said
abbrev pub text_of : Why → List ℕ
text_of (whys.SystemLine line rule inner shown) = (system_head line rule ++ inner_text inner) ++ line_text line shown
text_of (whys.AsmLine line rule shown) = asm_head line rule ++ line_text line shown
text_of (whys.Item index fault shown) = item_head index fault ++ line_text index shown
text_of (whys.ScheduleLine line shown) = schedule_head line ++ line_text line shown
text_of why = headline why
