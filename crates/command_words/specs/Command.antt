-- The commands, by their words.
use Rattle.std.specs.Prelude.{ℕ, ◌^◌, Bool, nat_le, if◌then◌else◌, List, [], ◌∷◌, ◌++◌, codes, Option, Some, None, option_map, option_and_then}
use Rattle.std.specs.List.{after_first, before_first, list_all}
use Rattle.std.specs.Str.{bytes_eq, is_utf8}
use Rattle.command_words.specs.declared.command.Command.{Command}
use Rattle.command_words.specs.declared.command.Command.TheVariants.{Plain, Check, Asm, Sim, Run, Load}
use Rattle.command_words.specs.declared.options.Form.TheVariants as form
use Rattle.command_words.specs.Options.{Text, Given, given_of, is_end}
use Rattle.command_words.specs.Script.{number_below, script_of}

-- the words before the first `--`, and those behind it
abbrev pub before_end : List Text → List Text
before_end words = before_first is_end words

abbrev pub behind_end : List Text → List Text
behind_end words = after_first is_end words

-- the pick is a number of 31 bits, and 0 where none is given
abbrev pub pick_of : Option Text → Option ℕ
pick_of None = Some 0
pick_of (Some text) = number_below (2 ^ 31) text

-- a command that takes no words
abbrev pub alone : Command → List Text → Option Command
alone command [] = Some command
alone command (word ∷ words) = None

-- `sim`, by what is given before `--` and the words behind it: each word that is no option is a script word
abbrev pub sim_by : List Text → Given → Option Command
sim_by behind g = option_and_then (λ pick. option_map (λ script. Sim pick g.flag script) (script_of (g.plain ++ behind))) (pick_of g.pick)

abbrev pub run_by : List Text → Given → Option Command
run_by behind g = option_map (λ script. Run g.flag script) (script_of (g.plain ++ behind))

-- the size of a workload is 1 to 1000
abbrev pub size_of : Text → Option ℕ
size_of text = option_and_then (λ n. if nat_le 1 n then Some n else None) (number_below 1001 text)

-- `load`: the first word that is no option is the size, and the others are script words
abbrev pub load_with : Bool → List Text → List Text → Option Command
load_with flag behind [] = None
load_with flag behind (size ∷ plain) = option_and_then (λ n. option_map (λ script. Load n flag script) (script_of (plain ++ behind))) (size_of size)

abbrev pub load_by : List Text → Given → Option Command
load_by behind g = load_with g.flag behind g.plain

-- the command of a first word and the words after it
abbrev pub command_by : Text → List Text → Option Command
command_by first words =
    if bytes_eq first (codes "plain") then alone Plain words
    else if bytes_eq first (codes "check") then alone Check words
    else if bytes_eq first (codes "asm") then alone Asm words
    else if bytes_eq first (codes "sim") then option_and_then (sim_by (behind_end words)) (given_of form.Sim (before_end words))
    else if bytes_eq first (codes "run") then option_and_then (run_by (behind_end words)) (given_of form.Run (before_end words))
    else if bytes_eq first (codes "load") then option_and_then (load_by (behind_end words)) (given_of form.Load (before_end words))
    else None

abbrev pub command_of_texts : List Text → Option Command
command_of_texts [] = None
command_of_texts (first ∷ words) = command_by first words

-- the command that words are: each word is a UTF-8 text
abbrev pub command_of : List Text → Option Command
command_of words = if list_all is_utf8 words then command_of_texts words else None
