-- The definitions at worked schedules, and at one refused section for each rule.
use Rattle.std.proofs.Common.{◌≡◌, ℕ, true, false, List, [], ◌∷◌, ◌++◌, Ok, Err, refl, codes}
use Rattle.std.specs.Fmt.{digits}
use Rattle.t32_base.specs.declared.process.Pid.{Pid}
use Rattle.plain_kernel.specs.declared.item.Item.{Item}
use Rattle.plain_kernel.specs.declared.item.Item.TheVariants.{Run, Fork, Take}
use Rattle.cert_sched.specs.Reading.{reading_of, is_bad_item}
use Rattle.cert_sched.specs.Printing.{items_text_of}

infixr 10 ◌/◌
-- a line and its end, and what follows
abbrev ◌/◌ : List ℕ → List ℕ → List ℕ
line / more = line ++ (10 ∷ more)

abbrev pid : ℕ → Pid
pid p = record { 0 = p }

-- ---- worked schedules, printed and read

abbrev hi : List Item
hi = Run (pid 16) 6 ∷ Run (pid 16) 4 ∷ []

abbrev hi_text : List ℕ
hi_text = codes "schedule 2" / codes "run 16 6" / codes "run 16 4" / []

hi_printed : items_text_of hi ≡ hi_text
unfolding digits
hi_printed = refl

hi_read : reading_of hi_text ≡ Ok hi
hi_read = refl

abbrev forker : List Item
forker = Run (pid 16) 1 ∷ Fork (pid 16) (pid 32) ∷ Run (pid 32) 7 ∷ Run (pid 16) 5 ∷ Run (pid 32) 4 ∷ Run (pid 32) 1 ∷ Run (pid 16) 1 ∷ []

abbrev forker_text : List ℕ
forker_text = codes "schedule 7" / codes "run 16 1" / codes "fork 16 32" / codes "run 32 7" / codes "run 16 5" / codes "run 32 4" / codes "run 32 1" / codes "run 16 1" / []

forker_printed : items_text_of forker ≡ forker_text
unfolding digits
forker_printed = refl

forker_read : reading_of forker_text ≡ Ok forker
forker_read = refl

abbrev sig : List Item
sig = Run (pid 16) 9 ∷ Take (pid 16) ∷ Run (pid 16) 6 ∷ Run (pid 16) 6 ∷ []

abbrev sig_text : List ℕ
sig_text = codes "schedule 4" / codes "run 16 9" / codes "take 16" / codes "run 16 6" / codes "run 16 6" / []

sig_printed : items_text_of sig ≡ sig_text
unfolding digits
sig_printed = refl

sig_read : reading_of sig_text ≡ Ok sig
sig_read = refl

none_printed : items_text_of [] ≡ codes "schedule 0" / []
unfolding digits
none_printed = refl

none_read : reading_of (codes "schedule 0" / []) ≡ Ok []
none_read = refl

-- this can be read; that its second item cannot be applied is found later
wait_read : reading_of (codes "schedule 2" / codes "run 16 4" / codes "run 16 1" / []) ≡ Ok (Run (pid 16) 4 ∷ Run (pid 16) 1 ∷ [])
wait_read = refl

-- spaces and leading zeros, skipped lines with a byte outside 0x20 to 0x7E among them, and no newline at the end
loosely : reading_of ([] / codes "  # two items" / codes " schedule  0002 " / (35 ∷ 255 ∷ 9 ∷ []) / codes "run 16 0000000004" / codes "   " / codes "fork 4294967295  0 " / codes "#" / codes "#take 16") ≡ Ok (Run (pid 16) 4 ∷ Fork (pid 4294967295) (pid 0) ∷ [])
loosely = refl

last_without_newline : reading_of (codes "schedule 1" / codes "take 16") ≡ Ok (Take (pid 16) ∷ [])
last_without_newline = refl

-- ---- one refused section for each rule

-- the section is refused with this item
abbrev Refuses : List ℕ → ℕ → Type 0
Refuses text index = reading_of text ≡ Err index

-- the text with this line as its second item of three
abbrev with_second : List ℕ → List ℕ
with_second line = codes "schedule 3" / codes "run 16 4" / line / codes "run 16 1" / []

-- the first line is missing or malformed
no_line : Refuses [] 0
no_line = refl

skipped_lines_only : Refuses (codes "# schedule 0" / []) 0
skipped_lines_only = refl

other_first_word : Refuses (codes "items 0" / []) 0
other_first_word = refl

no_count : Refuses (codes "schedule" / codes "run 16 4" / []) 0
no_count = refl

two_counts : Refuses (codes "schedule 1 1" / codes "run 16 4" / []) 0
two_counts = refl

count_is_no_number : Refuses (codes "schedule one" / codes "run 16 4" / []) 0
count_is_no_number = refl

count_is_too_great : Refuses (codes "schedule 4294967296" / codes "run 16 4" / []) 0
count_is_too_great = refl

-- an item is malformed
unknown_word : Refuses (with_second (codes "give 16 1")) 1
unknown_word = refl

word_in_capitals : Refuses (with_second (codes "RUN 16 1")) 1
word_in_capitals = refl

run_without_steps : Refuses (with_second (codes "run 16")) 1
run_without_steps = refl

run_with_a_comment : Refuses (with_second (codes "run 16 4 #")) 1
run_with_a_comment = refl

fork_without_child : Refuses (with_second (codes "fork 16")) 1
fork_without_child = refl

fork_of_two : Refuses (with_second (codes "fork 16 32 48")) 1
fork_of_two = refl

take_without_pid : Refuses (with_second (codes "take")) 1
take_without_pid = refl

take_of_two : Refuses (with_second (codes "take 16 32")) 1
take_of_two = refl

run_of_no_steps : Refuses (with_second (codes "run 16 0")) 1
run_of_no_steps = refl

with_a_sign : Refuses (with_second (codes "run 16 +1")) 1
with_a_sign = refl

hexadecimal : Refuses (with_second (codes "run 0x10 1")) 1
hexadecimal = refl

eleven_digits : Refuses (with_second (codes "take 00000000016")) 1
eleven_digits = refl

steps_too_great : Refuses (with_second (codes "run 16 4294967296")) 1
steps_too_great = refl

pid_too_great : Refuses (with_second (codes "take 4294967296")) 1
pid_too_great = refl

child_too_great : Refuses (with_second (codes "fork 16 9999999999")) 1
child_too_great = refl

with_a_tab : Refuses (with_second (codes "run 16" ++ 9 ∷ codes "1")) 1
with_a_tab = refl

with_a_carriage_return : Refuses (with_second (codes "take 16" ++ 13 ∷ [])) 1
with_a_carriage_return = refl

-- an item is missing
all_are_missing : Refuses (codes "schedule 2" / []) 0
all_are_missing = refl

last_is_missing : Refuses (codes "schedule 3" / codes "run 16 4" / codes "# take 16" / codes "run 16 1" / []) 2
last_is_missing = refl

most_are_missing : Refuses (codes "schedule 4294967295" / codes "run 16 4" / []) 1
most_are_missing = refl

-- a further line stands behind the last item
further_line : Refuses (codes "schedule 2" / codes "run 16 4" / codes "run 16 1" / codes "take 16" / []) 2
further_line = refl

further_line_after_none : Refuses (codes "schedule 0" / codes "?") 0
further_line_after_none = refl

-- the first of several is named
malformed_before_further : Refuses (codes "schedule 2" / codes "run 16 4" / codes "run 16" / codes "take 16" / []) 1
malformed_before_further = refl

-- ---- which items are bad, by themselves

second_is_bad : is_bad_item (with_second (codes "run 16")) 1 ≡ true
second_is_bad = refl

first_is_not : is_bad_item (with_second (codes "run 16")) 0 ≡ false
first_is_not = refl

nor_is_the_third : is_bad_item (with_second (codes "run 16")) 2 ≡ false
nor_is_the_third = refl

third_is_missing : is_bad_item (codes "schedule 3" / codes "run 16 4" / codes "take 16" / []) 2 ≡ true
third_is_missing = refl

further_is_bad : is_bad_item (codes "schedule 1" / codes "run 16 4" / codes "take 16" / []) 1 ≡ true
further_is_bad = refl

none_is_bad : is_bad_item (codes "schedule 1" / codes "run 16 4" / []) 1 ≡ false
none_is_bad = refl
