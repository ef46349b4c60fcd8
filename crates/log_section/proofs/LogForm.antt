-- The lines of a printed log are read.
use Rattle.std.proofs.Common.{◌≡◌, ℕ, zero, suc, ◌/◌, ◌%◌, ◌<◌, ◌&&◌, Bool, true, false, not, List, [], ◌∷◌, ◌++◌, length, get_or, map, drop, codes, Option, Some, None, refl, sym, ap, ◌∙◌, arith, append_assoc, true≢false}
use Rattle.std.specs.List.{list_all}
use Rattle.std.specs.Option.{option_map, option_and_then}
use Rattle.std.specs.Fmt.{decimal}
use Rattle.std.specs.Str.{bytes_eq}
use Rattle.std.proofs.lemmas.Fmt.{decimal_is_IsNumeral}
use Rattle.std.proofs.lemmas.Slice.Eq.{bytes_eq-Decides}
use Rattle.hex.specs.Hex.{encode_lower, encode_with, lower_digits, IsBytes}
use Rattle.text_parts.specs.Lines.{is_newline, before, from}
use Rattle.bus_msg.specs.declared.entry.Entry.{Entry}
use Rattle.bus_msg.specs.declared.entry.Cause.{Cause}
use Rattle.bus_msg.specs.declared.entry.Cause.TheVariants.{Place, Step, Disk}
use Rattle.bus_msg.specs.Text.{cause_text}
use Rattle.entry_lines.specs.declared.told.ToldBy.{ToldBy}
use Rattle.entry_lines.specs.declared.told.ToldBy.TheVariants.{Cluster, Bus}
use Rattle.entry_lines.specs.declared.told.ToldEnd.{ToldEnd}
use Rattle.entry_lines.specs.declared.told.ToldEnd.TheVariants.{Exit as Exited, Trap, Killed, Limit}
use Rattle.entry_lines.specs.declared.told.ToldLetter.{ToldLetter}
use Rattle.entry_lines.specs.declared.told.ToldLetter.TheVariants.{Shown, Said, EndOf, Signal}
use Rattle.entry_lines.specs.declared.told.ToldWhat.{ToldWhat}
use Rattle.entry_lines.specs.declared.told.ToldWhat.TheVariants.{Mail, Birth, Exit, Page, Sync, Fetch, PageIs, Crash, Return, Fresh, Standing, Done, Stop}
use Rattle.entry_lines.specs.declared.told.Told.{Told}
use Rattle.entry_lines.specs.Told.{IsSmall, ByFits, EndFits, LetterFits, CauseFits, TookFits, AllSmall, WhatFits, Fits, told_of}
use Rattle.entry_lines.specs.Text.{by_text, end_text, letter_text, took_text, pids_text, what_text, text_of}
use Rattle.entry_lines.specs.Guess.{guess_of}
use Rattle.entry_lines.specs.Reading.{told_in}
use Rattle.entry_lines.proofs.Words.{Without, without-append, before_first, from_first, digits_without}
use Rattle.entry_lines.proofs.ReadBack.{guess_back}
use Rattle.entry_lines.proofs.Printed.{line_told}
use Rattle.report_text.specs.Report.{newline}
use Rattle.report_text.specs.RunReport.{log_lines}
use Rattle.log_section.specs.Form.{ended_line, told_lines}
use Rattle.log_section.specs.Printed.{LogFits}

-- ---- no line of an entry has a line feed in it

abbrev Clean : List ℕ → Type 0
Clean text = Without is_newline text

abbrev is_clean : List ℕ → Bool
is_clean text = list_all (λ b. not (is_newline b)) text

clean : (text : List ℕ) → is_clean text ≡ true → Clean text
clean [] h = tt
clean (b ∷ bs) h = by_byte (λ g. clean bs g) (is_newline b) refl
  where
    by_byte : (is_clean bs ≡ true → Clean bs) → (t : Bool) → is_newline b ≡ t → Clean (b ∷ bs)
    by_byte more true e = absurd (true≢false (sym h ∙ ap (λ (t : Bool). not t && is_clean bs) e))
    by_byte more false e = (e, more (sym (ap (λ (t : Bool). not t && is_clean bs) e) ∙ h))

number_clean : (n : ℕ) → IsSmall n → Clean (decimal n)
number_clean n small = digits_without 10 (omega arith) (decimal n) (decimal_is_IsNumeral n small).0.1

both : (xs ys : List ℕ) → Clean xs → Clean ys → Clean (xs ++ ys)
both xs ys h g = without-append is_newline xs ys h g

-- a number, and more
more_clean : (n : ℕ) (ys : List ℕ) → IsSmall n → Clean ys → Clean (decimal n ++ ys)
more_clean n ys small h = both (decimal n) ys (number_clean n small) h

digit_clean : (t : List ℕ) (k : ℕ) → Clean t → k < length t → is_newline (get_or t k 0) ≡ false
digit_clean [] k h lt = absurd (omega (arith, lt))
digit_clean (x ∷ xs) zero h lt = h.0
digit_clean (x ∷ xs) (suc k) h lt = digit_clean xs k h.1 (omega (arith, lt))

hex_clean : (bytes : List ℕ) → IsBytes bytes → Clean (encode_with lower_digits bytes)
unfolding encode_with
hex_clean [] h = tt
hex_clean (b ∷ bs) h =
    let table = clean lower_digits refl in
    let small : b < 256 = h 0 in
    let high : b / 16 < 16 = omega (arith, small) in
    let low : b % 16 < 16 = omega arith in
    (digit_clean lower_digits (b / 16) table high, (digit_clean lower_digits (b % 16) table low, hex_clean bs (λ i. h (suc i))))

pids_clean : (pids : List ℕ) → AllSmall pids → Clean (pids_text pids)
pids_clean [] h = tt
pids_clean (p ∷ ps) h = (refl, both (decimal p) (pids_text ps) (number_clean p h.0) (pids_clean ps h.1))

by_clean : (by : ToldBy) → ByFits by → Clean (by_text by)
by_clean (Cluster k) h = number_clean k h
by_clean Bus h = clean (codes "bus") refl

end_clean : (e : ToldEnd) → EndFits e → Clean (end_text e)
end_clean (Exited s) h = both (codes "exit ") (decimal s) (clean (codes "exit ") refl) (number_clean s h)
end_clean (Trap c) h = both (codes "trap ") (decimal c) (clean (codes "trap ") refl) (number_clean c h)
end_clean (Killed g) h = both (codes "killed ") (decimal g) (clean (codes "killed ") refl) (number_clean g h)
end_clean Limit h = clean (codes "limit") refl

word_clean : (word : List ℕ) (n : ℕ) (ys : List ℕ) → is_clean word ≡ true → IsSmall n → Clean ys → Clean (word ++ (decimal n ++ ys))
word_clean word n ys h small g = both word (decimal n ++ ys) (clean word h) (more_clean n ys small g)

last_clean : (word : List ℕ) (n : ℕ) → is_clean word ≡ true → IsSmall n → Clean (word ++ decimal n)
last_clean word n h small = both word (decimal n) (clean word h) (number_clean n small)

letter_clean : (l : ToldLetter) → LetterFits l → Clean (letter_text l)
letter_clean (Shown out tty bytes) h =
    word_clean (codes "out ") out _ refl h.0 (word_clean (codes " tty ") tty _ refl h.1 (both (codes " ") (encode_lower bytes) (clean (codes " ") refl) (hex_clean bytes h.2)))
letter_clean (Said out to end bytes) h =
    word_clean (codes "out ") out _ refl h.0 (word_clean (codes " to ") to _ refl h.1 (word_clean (codes " end ") end _ refl h.2
    (both (codes " ") (encode_lower bytes) (clean (codes " ") refl) (hex_clean bytes h.3))))
letter_clean (EndOf out to end) h =
    word_clean (codes "out ") out _ refl h.0 (word_clean (codes " to ") to _ refl h.1 (word_clean (codes " end ") end _ refl h.2 (clean (codes " eof") refl)))
letter_clean (Signal to signal) h = word_clean (codes "to ") to _ refl h.0 (last_clean (codes " sig ") signal refl h.1)

took_clean : (t : Option ℕ) → TookFits t → Clean (took_text t)
took_clean None h = clean (codes " plain") refl
took_clean (Some g) h = last_clean (codes " take ") g refl h

cause_clean : (c : Cause) → CauseFits c → Clean (cause_text c)
cause_clean Place h = clean (codes " place") refl
cause_clean (Step n) h = last_clean (codes " step ") n refl h
cause_clean (Disk n) h = last_clean (codes " disk ") n refl h

what_clean : (w : ToldWhat) → WhatFits w → Clean (what_text w)
what_clean (Mail from at letter) h =
    word_clean (codes "mail ") from _ refl h.0 (word_clean (codes " at ") at _ refl h.1 (both (codes " ") (letter_text letter) (clean (codes " ") refl) (letter_clean letter h.2)))
what_clean (Birth parent at child end) h =
    word_clean (codes "birth ") parent _ refl h.0 (word_clean (codes " at ") at _ refl h.1 (word_clean (codes " child ") child _ refl h.2 (last_clean (codes " end ") end refl h.3)))
what_clean (Exit pid at end) h = word_clean (codes "exit ") pid _ refl h.0 (word_clean (codes " at ") at _ refl h.1 (both (codes " ") (end_text end) (clean (codes " ") refl) (end_clean end h.2)))
what_clean (Page pid at index) h = word_clean (codes "page ") pid _ refl h.0 (word_clean (codes " at ") at _ refl h.1 (last_clean (codes " ") index refl h.2))
what_clean (Sync pid at took) h = word_clean (codes "sync ") pid _ refl h.0 (word_clean (codes " at ") at _ refl h.1 (took_clean took h.2))
what_clean (Fetch pid index) h = word_clean (codes "fetch ") pid _ refl h.0 (last_clean (codes " ") index refl h.1)
what_clean (PageIs pid index) h = word_clean (codes "pageis ") pid _ refl h.0 (last_clean (codes " ") index refl h.1)
what_clean (Crash k cause) h = word_clean (codes "crash ") k _ refl h.0 (cause_clean cause h.1)
what_clean (Return k) h = last_clean (codes "return ") k refl h
what_clean (Fresh pids at to) h =
    both (codes "rebackup") _ (clean (codes "rebackup") refl) (both (pids_text pids) _ (pids_clean pids h.0)
    (word_clean (codes " at ") at _ refl h.1 (word_clean (codes " to ") to _ refl h.2 (clean (codes " fresh") refl))))
what_clean (Standing pids to) h =
    both (codes "rebackup") _ (clean (codes "rebackup") refl) (both (pids_text pids) _ (pids_clean pids h.0) (word_clean (codes " to ") to _ refl h.1 (clean (codes " standing") refl)))
what_clean Done h = clean (codes "done") refl
what_clean Stop h = clean (codes "stop") refl

line_clean : (t : Told) → Fits t → Clean (text_of t)
line_clean t h =
    more_clean t.place _ h.0 (both (codes " ") _ (clean (codes " ") refl) (both (by_text t.by) _ (by_clean t.by h.1) (both (codes " ") _ (clean (codes " ") refl) (what_clean t.what h.2))))

-- ---- the lines are read

own_line : (t : Told) → Fits t → told_in (text_of t) ≡ Some t
own_line t h =
    let same = guess_back t h in
    let printed : bytes_eq (text_of (guess_of (text_of t))) (text_of t) ≡ true = (bytes_eq-Decides (text_of (guess_of (text_of t))) (text_of t)).1 (ap text_of same) in
    rw printed (ap Some same)

-- what the lines of entries say, whatever stands between
line_read : (t : Told) (n : ℕ) (more : List ℕ) → Fits t
    → told_lines (suc n) (text_of t ++ 10 ∷ more) ≡ option_map (λ (ts : List Told). t ∷ ts) (told_lines n more)
line_read t n more h =
    let line = line_clean t h in
    ap (λ (text : List ℕ). option_and_then (λ (u : Told). option_map (λ (ts : List Told). u ∷ ts) (told_lines n (drop 1 text)))
    (option_and_then told_in (ended_line (before is_newline (text_of t ++ 10 ∷ more)) text)))
    (from_first is_newline (text_of t) 10 more line refl)
    ∙ ap (λ (text : List ℕ). option_and_then (λ (u : Told). option_map (λ (ts : List Told). u ∷ ts) (told_lines n more)) (told_in text)) (before_first is_newline (text_of t) 10 more line refl)
    ∙ ap (option_and_then (λ (u : Told). option_map (λ (ts : List Told). u ∷ ts) (told_lines n more))) (own_line t h)

pub log_read : (log : List Entry) → LogFits log → told_lines (length log) (log_lines log) ≡ Some (map told_of log)
log_read [] fits = refl
log_read (e ∷ es) fits =
    ap (λ (text : List ℕ). told_lines (suc (length es)) ((text ++ newline) ++ log_lines es)) (line_told e)
    ∙ ap (told_lines (suc (length es))) (append_assoc (text_of (told_of e)) newline (log_lines es))
    ∙ line_read (told_of e) (length es) (log_lines es) fits.0
    ∙ ap (option_map (λ (ts : List Told). told_of e ∷ ts)) (log_read es fits.1)
