-- What the words of a command have given so far, and whether one more may stand behind them.
use Rattle.std.specs.Prelude.{ℕ, ◌+◌, ◌&&◌, Bool, true, false, not, List, codes, Option, Some, None, Result, Ok, Err, nat_le, nat_lt, if◌then◌else◌}
use Rattle.std.specs.Str.{bytes_eq}
use Rattle.text_parts.specs.Numbers.{number_of}
use Rattle.cert_sched.specs.declared.script.ScriptWord.{ScriptWord}
use Rattle.command_words.specs.Options.{begins_with_hyphen, is_end}
use Rattle.command_words.specs.Script.{behind, script_word}
use Rattle.word_faults.specs.declared.seen.Form.{Form}
use Rattle.word_faults.specs.declared.seen.Form.TheVariants.{Sim, Run, Load}
use Rattle.word_faults.specs.declared.seen.Seen.{Seen}
use Rattle.word_faults.specs.declared.seen.Reason.{Reason}
use Rattle.word_faults.specs.declared.seen.Reason.TheVariants.{NoOption, Twice, NoPick, LacksSize, NoSize, NoScriptWord, TooMany}

abbrev pub nothing_of : Form → Seen
nothing_of form = record { form = form; flag = false; pick = false; awaits = false; size = false; words = 0; ended = false }

abbrev pub flag_of : Form → List ℕ
flag_of Sim = codes "--log"
flag_of Run = codes "--log"
flag_of Load = codes "--text"

abbrev pub is_sim : Form → Bool
is_sim Sim = true
is_sim Run = false
is_sim Load = false

abbrev pub is_load : Form → Bool
is_load Sim = false
is_load Run = false
is_load Load = true

abbrev pub lacks_size : Seen → Bool
lacks_size seen = is_load seen.form && not seen.size

-- a number from the low one on and below the limit
abbrev pub is_below : (low limit : ℕ) → Option ℕ → Bool
is_below low limit None = false
is_below low limit (Some n) = nat_le low n && nat_lt n limit

-- a value of `--pick` has 31 bits
abbrev pub with_pick_value : Seen → List ℕ → Result Seen Reason
with_pick_value seen word = if is_below 0 2147483648 (number_of word) then Ok (record seen { awaits = false }) else Err NoPick

abbrev pub with_flag : Seen → Result Seen Reason
with_flag seen = if seen.flag then Err Twice else Ok (record seen { flag = true })

abbrev pub with_pick : Seen → (awaits : Bool) → Result Seen Reason
with_pick seen awaits = if seen.pick then Err Twice else Ok (record seen { pick = true; awaits = awaits })

abbrev pub with_value : Seen → Option (List ℕ) → Result Seen Reason
with_value seen None = Err NoOption
with_value seen (Some value) = if is_below 0 2147483648 (number_of value) then with_pick seen false else Err NoPick

-- `--pick=` and its value
abbrev pub with_pick_in : Seen → List ℕ → Result Seen Reason
with_pick_in seen word = with_value seen (behind (codes "--pick=") word)

abbrev pub with_option : Seen → List ℕ → Result Seen Reason
with_option seen word =
    if bytes_eq word (flag_of seen.form) then with_flag seen
    else if not (is_sim seen.form) then Err NoOption
    else if bytes_eq word (codes "--pick") then with_pick seen true
    else with_pick_in seen word

-- a script word more: a script has 32 at most
abbrev pub with_one : Seen → Result Seen Reason
with_one seen = if nat_lt seen.words 32 then Ok (record seen { words = seen.words + 1 }) else Err TooMany

abbrev pub with_word_of : Seen → Option ScriptWord → Result Seen Reason
with_word_of seen None = Err NoScriptWord
with_word_of seen (Some word) = with_one seen

abbrev pub with_script_word : Seen → List ℕ → Result Seen Reason
with_script_word seen word = if lacks_size seen then Err LacksSize else with_word_of seen (script_word word)

-- a word that is no option: the size of `load`, which is 1 to 1000, or a script word
abbrev pub with_plain : Seen → List ℕ → Result Seen Reason
with_plain seen word =
    if not (lacks_size seen) then with_script_word seen word
    else if is_below 1 1001 (number_of word) then Ok (record seen { size = true })
    else Err NoSize

-- one word more, or why that may not stand there
abbrev pub with_word : Seen → List ℕ → Result Seen Reason
with_word seen word =
    if seen.awaits then with_pick_value seen word
    else if seen.ended then with_script_word seen word
    else if is_end word then Ok (record seen { ended = true })
    else if begins_with_hyphen word then with_option seen word
    else with_plain seen word

-- why no command is whole here
abbrev pub missing : Seen → Option Reason
missing seen = if seen.awaits then Some NoPick else if lacks_size seen then Some LacksSize else None
