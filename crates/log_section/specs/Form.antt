-- What a printed section is: a report and its log, with any numbers below 2^64.
use Rattle.std.specs.Prelude.{ℕ, zero, suc, List, [], ◌∷◌, drop, length, codes, Option, Some, None, option_map, Result, Ok, Err, ◌≡◌}
use Rattle.std.specs.Option.{option_and_then, option_map_or}
use Rattle.text_parts.specs.Lines.{is_newline, before, from}
use Rattle.entry_lines.specs.declared.told.Told.{Told}
use Rattle.entry_lines.specs.Reading.{told_in}
use Rattle.log_section.specs.declared.refusal.SectionRefused.{SectionRefused}
use Rattle.log_section.specs.declared.refusal.SectionRefused.TheVariants.{Form, NoMemory}
use Rattle.log_section.specs.Lines.{Left, past_byte, behind_line, behind_one, behind_count, behind_most}

-- ---- the shapes of the lines

abbrev pub tty_shape : List ℕ
tty_shape = codes "tty # #\n"

abbrev pub process_shapes : List (List ℕ)
process_shapes =
    codes "pid # exit #\n" ∷ codes "pid # trap #\n" ∷ codes "pid # killed #\n"
    ∷ codes "pid # limit\n" ∷ codes "pid # waiting\n" ∷ codes "pid # running\n" ∷ []

abbrev pub no_crash_shape : List ℕ
no_crash_shape = codes "crash none\n"

abbrev pub loss_shapes : List (List ℕ)
loss_shapes = codes "crash # at #\n" ∷ codes "return # at #\n" ∷ []

abbrev pub lost_shape : List ℕ
lost_shape = codes "lost # at #\n"

abbrev pub bus_shape : List ℕ
bus_shape = codes "bus # syncs # withheld #\n"

abbrev pub schedule_shape : List ℕ
schedule_shape = codes "schedule #\n"

abbrev pub item_shapes : List (List ℕ)
item_shapes = codes "run # #\n" ∷ codes "fork # #\n" ∷ codes "take #\n" ∷ []

abbrev pub log_shape : List ℕ
log_shape = codes "log #\n"

-- ---- the parts, in their order; each leaves the text behind it

abbrev pub behind_feed : List ℕ → Option (List ℕ)
behind_feed text = option_map (λ (left : Left). left.1) (past_byte 10 0 text)

-- a terminal: as many bytes as its line tells, whatever they are, and a line feed
abbrev pub behind_tty : List ℕ → Option (List ℕ)
behind_tty text = option_and_then (λ (left : Left). behind_feed (drop left.0 left.1)) (behind_line tty_shape text)

-- all terminals
abbrev pub behind_ttys : List ℕ → List ℕ
behind_ttys text = behind_most behind_tty (length text) text

-- all processes
abbrev pub behind_processes : List ℕ → List ℕ
behind_processes text = behind_most (behind_one process_shapes) (length text) text

-- one loss, and all that follow it
abbrev pub behind_some_losses : List ℕ → Option (List ℕ)
behind_some_losses text = option_map (λ rest. behind_most (behind_one loss_shapes) (length rest) rest) (behind_one loss_shapes text)

-- that there was no crash, or the losses
abbrev pub behind_losses : List ℕ → Option (List ℕ)
behind_losses text = option_map_or (λ (left : Left). Some left.1) (behind_line no_crash_shape text) (behind_some_losses text)

-- the loss that ended the run, if one did
abbrev pub behind_lost : List ℕ → List ℕ
behind_lost text = option_map_or (λ (left : Left). left.1) (behind_line lost_shape text) text

abbrev pub behind_bus : List ℕ → Option (List ℕ)
behind_bus text = option_map (λ (left : Left). left.1) (behind_line bus_shape text)

-- as many items as the line `schedule` tells
abbrev pub behind_items : List ℕ → Option (List ℕ)
behind_items text = option_and_then (λ (left : Left). behind_count (behind_one item_shapes) left.0 left.1) (behind_line schedule_shape text)

-- the number of entries, and their lines
abbrev pub log_part : List ℕ → Option Left
log_part section =
    option_and_then (behind_line log_shape) (option_and_then behind_items (option_and_then behind_bus
    (option_map behind_lost (behind_losses (behind_processes (behind_ttys section))))))

-- ---- the log

-- the line in front, which ends
abbrev pub ended_line : List ℕ → List ℕ → Option (List ℕ)
ended_line line [] = None
ended_line line (feed ∷ rest) = Some line

abbrev pub first_told : List ℕ → Option Told
first_told text = option_and_then told_in (ended_line (before is_newline text) (from is_newline text))

-- so many lines of entries, and nothing behind them
abbrev pub told_lines : ℕ → List ℕ → Option (List Told)
told_lines zero [] = Some []
told_lines zero (b ∷ bs) = None
told_lines (suc n) text =
    option_and_then (λ (t : Told). option_map (λ (ts : List Told). t ∷ ts) (told_lines n (drop 1 (from is_newline text)))) (first_told text)

-- what the log of a section says; None where the section is of no such form
abbrev pub form_of : List ℕ → Option (List Told)
form_of section = option_and_then (λ (left : Left). told_lines left.0 left.1) (log_part section)

-- the section is of the form, and its log says this
abbrev pub IsForm : List ℕ → List Told → Type 0
IsForm section log = form_of section ≡ Some log

-- the answer to a section
abbrev pub Answers : Option (List Told) → Result (List Told) SectionRefused → Type 0
Answers form (Ok log) = form ≡ Some log
Answers form (Err Form) = form ≡ None
Answers form (Err NoMemory) = Unit {0}
