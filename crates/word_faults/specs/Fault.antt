-- The first word that is wrong.
use Rattle.std.specs.Prelude.{ℕ, ◌+◌, ◌-◌, List, [], ◌∷◌, ◌++◌, codes, Option, Some, None, option_map, Result, Ok, Err, slice_get, unwrap_or, if◌then◌else◌}
use Rattle.std.specs.Fmt.{decimal}
use Rattle.std.specs.Str.{is_utf8}
use Rattle.text_parts.specs.Table.{lookup}
use Rattle.refusal_text.specs.Shown.{shown}
use Rattle.word_faults.specs.declared.fault.Name.{Name}
use Rattle.word_faults.specs.declared.fault.Name.TheVariants as names
use Rattle.word_faults.specs.declared.fault.WordFault.{WordFault}
use Rattle.word_faults.specs.declared.seen.Form.TheVariants as forms
use Rattle.word_faults.specs.declared.seen.Reason.{Reason}
use Rattle.word_faults.specs.declared.seen.Reason.TheVariants.{NoText, NoCommand, TakesNone, NoOption, Twice, NoPick, LacksSize, NoSize, NoScriptWord, TooMany}
use Rattle.word_faults.specs.declared.seen.Seen.{Seen}
use Rattle.word_faults.specs.Seen.{missing, nothing_of, with_word}

abbrev pub names_by_text : List (List ℕ × Name)
names_by_text =
    (codes "plain", names.Alone) ∷ (codes "check", names.Alone) ∷ (codes "asm", names.Alone) ∷ (codes "sim", names.Sim) ∷ (codes "run", names.Run)
    ∷ (codes "load", names.Load) ∷ (codes "help", names.Help) ∷ (codes "--help", names.Help) ∷ (codes "-h", names.Help) ∷ []

abbrev pub word_after : Seen → List ℕ → Result Seen Reason
word_after seen word = if is_utf8 word then with_word seen word else Err NoText

-- what is missing at the end of the words: the size behind the first of them, or what belongs behind the last
abbrev pub missing_by : (place : ℕ) → Option Reason → Option WordFault
missing_by place None = None
missing_by place (Some LacksSize) = Some (record { place = 1; reason = LacksSize })
missing_by place (Some reason) = Some (record { place = place - 1; reason = reason })

abbrev pub missing_at : Seen → (place : ℕ) → Option WordFault
missing_at seen place = missing_by place (missing seen)

-- a word with this place is wrong, or others follow it
abbrev pub fault_then : (place : ℕ) → Result Seen Reason → (Seen → Option WordFault) → Option WordFault
fault_then place (Err reason) rest = Some (record { place = place; reason = reason })
fault_then place (Ok seen) rest = rest seen

-- the first wrong word of these, of which the first has this place
abbrev pub fault_from : Seen → (place : ℕ) → List (List ℕ) → Option WordFault
fault_from seen place [] = missing_at seen place
fault_from seen place (word ∷ words) = fault_then place (word_after seen word) (λ more. fault_from more (place + 1) words)

abbrev pub nothing_behind : List (List ℕ) → Option WordFault
nothing_behind [] = None
nothing_behind (word ∷ words) = Some (record { place = 2; reason = TakesNone })

abbrev pub fault_of_name : Option Name → List (List ℕ) → Option WordFault
fault_of_name None words = Some (record { place = 1; reason = NoCommand })
fault_of_name (Some names.Alone) words = nothing_behind words
fault_of_name (Some names.Sim) words = fault_from (nothing_of forms.Sim) 2 words
fault_of_name (Some names.Run) words = fault_from (nothing_of forms.Run) 2 words
fault_of_name (Some names.Load) words = fault_from (nothing_of forms.Load) 2 words
fault_of_name (Some names.Help) words = None

abbrev pub fault_by : List ℕ → List (List ℕ) → Option WordFault
fault_by first words = fault_of_name (lookup names_by_text first) words

-- the first of the words of the program that is wrong; none where there is no word or help is asked for
abbrev pub fault_of : List (List ℕ) → Option WordFault
fault_of [] = None
fault_of (first ∷ words) = fault_by first words

abbrev pub reason_text : Reason → List ℕ
reason_text NoText = codes "it is no UTF-8\n"
reason_text NoCommand = codes "no command has this name\n"
reason_text TakesNone = codes "this command takes no words\n"
reason_text NoOption = codes "this command has no such option\n"
reason_text Twice = codes "this option stands twice\n"
reason_text NoPick = codes "--pick takes a number, 0 to 2147483647\n"
reason_text LacksSize = codes "load takes its size, 1 to 1000, before any other word that is no option\n"
reason_text NoSize = codes "the size of load is a number, 1 to 1000\n"
reason_text NoScriptWord = codes "it is none of crash:K@bus:N, crash:K@step:N, disk:K@N and return:K@bus:N, where K and N are 1 to 10 digits and N is at most 4294967295\n"
reason_text TooMany = codes "a script has 32 words at most\n"

abbrev pub fault_text : List (List ℕ) → WordFault → List ℕ
fault_text words fault = codes "t32: word " ++ decimal fault.place ++ codes ": " ++ shown (unwrap_or (slice_get words (fault.place - 1)) []) ++ codes ": " ++ reason_text fault.reason

-- what is said of it
abbrev pub word_hint : List (List ℕ) → Option (List ℕ)
word_hint words = option_map (fault_text words) (fault_of words)
