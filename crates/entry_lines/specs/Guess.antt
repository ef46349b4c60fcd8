-- What a line would say if it were the line of an entry: whether it is one shows where its own text is compared with it.
use Rattle.std.specs.Prelude.{ℕ, ◌+◌, ◌-◌, ◌*◌, ◌%◌, ◌^◌, ◌==◌, Bool, if◌then◌else◌, List, [], ◌∷◌, drop, codes, Option, Some, None, Result, Ok, Err}
use Rattle.std.specs.Str.{bytes_eq}
use Rattle.hex.specs.Hex.{decode_of}
use Rattle.hex.specs.declared.error.FromHexError.{FromHexError}
use Rattle.text_parts.specs.Lines.{is_space, before, from}
use Rattle.bus_msg.specs.declared.entry.Cause.{Cause}
use Rattle.bus_msg.specs.declared.entry.Cause.TheVariants.{Place, Step, Disk}
use Rattle.entry_lines.specs.declared.told.ToldBy.{ToldBy}
use Rattle.entry_lines.specs.declared.told.ToldBy.TheVariants.{Cluster, Bus}
use Rattle.entry_lines.specs.declared.told.ToldEnd.{ToldEnd}
use Rattle.entry_lines.specs.declared.told.ToldEnd.TheVariants.{Exit as Exited, Trap, Killed, Limit}
use Rattle.entry_lines.specs.declared.told.ToldLetter.{ToldLetter}
use Rattle.entry_lines.specs.declared.told.ToldLetter.TheVariants.{Shown, Said, EndOf, Signal}
use Rattle.entry_lines.specs.declared.told.ToldWhat.{ToldWhat}
use Rattle.entry_lines.specs.declared.told.ToldWhat.TheVariants.{Mail, Birth, Exit, Page, Sync, Fetch, PageIs, Crash, Return, Fresh, Standing, Done, Stop}
use Rattle.entry_lines.specs.declared.told.Told.{Told}

-- ---- words and numbers

-- what stands before the first space
abbrev pub word : List ℕ → List ℕ
word text = before is_space text

-- and what stands behind it
abbrev pub after : List ℕ → List ℕ
after text = drop 1 (from is_space text)

-- what stands behind the second space
abbrev pub past : List ℕ → List ℕ
past text = after (after text)

-- a number with one more digit, in 64 bits
abbrev pub with_digit : ℕ → ℕ → ℕ
with_digit n b = (n * 10 % 2 ^ 64 + (b - 48)) % 2 ^ 64

abbrev pub number_after : ℕ → List ℕ → ℕ
number_after n [] = n
number_after n (b ∷ bs) = number_after (with_digit n b) bs

-- the number that the first word would be
abbrev pub number : List ℕ → ℕ
number text = number_after 0 (word text)

-- the numbers that end with a space; the first goes on from n
abbrev pub numbers_after : ℕ → List ℕ → List ℕ
numbers_after n [] = []
numbers_after n (b ∷ bs) = if is_space b then n ∷ numbers_after 0 bs else numbers_after (with_digit n b) bs

abbrev pub decoded : Result (List ℕ) FromHexError → List ℕ
decoded (Ok bytes) = bytes
decoded (Err e) = []

-- the bytes that the digits would be
abbrev pub bytes_in : List ℕ → List ℕ
bytes_in digits = decoded (decode_of digits)

-- ---- the parts of an entry

abbrev pub by_named : List ℕ → ToldBy
by_named name = if bytes_eq name (codes "bus") then Bus else Cluster (number_after 0 name)

abbrev pub end_in : List ℕ → ToldEnd
end_in text =
    if bytes_eq (word text) (codes "exit") then Exited (number (after text))
    else if bytes_eq (word text) (codes "trap") then Trap (number (after text))
    else if bytes_eq (word text) (codes "killed") then Killed (number (after text))
    else Limit

abbrev pub took_in : List ℕ → Option ℕ
took_in text = if bytes_eq (word text) (codes "take") then Some (number (after text)) else None

abbrev pub cause_in : List ℕ → Cause
cause_in text =
    if bytes_eq (word text) (codes "step") then Step (number (after text))
    else if bytes_eq (word text) (codes "disk") then Disk (number (after text))
    else Place

-- `Q end E` and `eof` or digits
abbrev pub body_in : ℕ → List ℕ → ToldLetter
body_in out text =
    if bytes_eq (after (past text)) (codes "eof") then EndOf out (number text) (number (past text))
    else Said out (number text) (number (past text)) (bytes_in (after (past text)))

-- `X tty T` and digits, or `X to` and the rest
abbrev pub sent_in : List ℕ → ToldLetter
sent_in text =
    if bytes_eq (word (after text)) (codes "tty") then Shown (number text) (number (past text)) (bytes_in (after (past text)))
    else body_in (number text) (past text)

-- `out` and the rest, or `to Q sig G`
abbrev pub letter_in : List ℕ → ToldLetter
letter_in text =
    if bytes_eq (word text) (codes "out") then sent_in (after text)
    else Signal (number (after text)) (number (past (after text)))

-- ---- the kinds

-- `P at S` and the letter
abbrev pub mail_in : List ℕ → ToldWhat
mail_in text = Mail (number text) (number (past text)) (letter_in (after (past text)))

abbrev pub birth_in : List ℕ → ToldWhat
birth_in text = Birth (number text) (number (past text)) (number (past (past text))) (number (past (past (past text))))

abbrev pub exit_in : List ℕ → ToldWhat
exit_in text = Exit (number text) (number (past text)) (end_in (after (past text)))

abbrev pub page_in : List ℕ → ToldWhat
page_in text = Page (number text) (number (past text)) (number (after (past text)))

abbrev pub sync_in : List ℕ → ToldWhat
sync_in text = Sync (number text) (number (past text)) (took_in (after (past text)))

abbrev pub fetch_in : List ℕ → ToldWhat
fetch_in text = Fetch (number text) (number (after text))

abbrev pub answer_in : List ℕ → ToldWhat
answer_in text = PageIs (number text) (number (after text))

abbrev pub crash_in : List ℕ → ToldWhat
crash_in text = Crash (number text) (cause_in (after text))

-- the pids stand before the first `t`, which is that of `at` or of `to`
abbrev pub is_t : ℕ → Bool
is_t b = b == 116

-- the pids, and what stands from the `t` on: `to K standing`, or the end of `at S to K fresh`
abbrev pub backup_in : List ℕ → List ℕ → ToldWhat
backup_in pids text =
    if bytes_eq (word text) (codes "to") then Standing pids (number (after text))
    else Fresh pids (number (after text)) (number (past (after text)))

abbrev pub rebackup_in : List ℕ → ToldWhat
rebackup_in text = backup_in (numbers_after 0 (before is_t text)) (from is_t text)

abbrev pub loss_in : List ℕ → List ℕ → ToldWhat
loss_in kind text =
    if bytes_eq kind (codes "crash") then crash_in text
    else if bytes_eq kind (codes "return") then Return (number text)
    else if bytes_eq kind (codes "rebackup") then rebackup_in text
    else if bytes_eq kind (codes "done") then Done
    else Stop

abbrev pub pages_in : List ℕ → List ℕ → ToldWhat
pages_in kind text =
    if bytes_eq kind (codes "page") then page_in text
    else if bytes_eq kind (codes "sync") then sync_in text
    else if bytes_eq kind (codes "fetch") then fetch_in text
    else if bytes_eq kind (codes "pageis") then answer_in text
    else loss_in kind text

abbrev pub what_in : List ℕ → List ℕ → ToldWhat
what_in kind text =
    if bytes_eq kind (codes "mail") then mail_in text
    else if bytes_eq kind (codes "birth") then birth_in text
    else if bytes_eq kind (codes "exit") then exit_in text
    else pages_in kind text

abbrev pub guess_of : List ℕ → Told
guess_of line = record { place = number line; by = by_named (word (after line)); what = what_in (word (past line)) (after (past line)) }
