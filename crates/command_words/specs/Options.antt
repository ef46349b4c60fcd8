-- The words of a command that takes words: its options, and its other words.
use Rattle.std.specs.Prelude.{ℕ, ◌==◌, ◌&&◌, Bool, true, false, List, [], ◌∷◌, ◌++◌, take, drop, codes, Option, Some, None, option_and_then, is_some, if◌then◌else◌}
use Rattle.std.specs.Str.{bytes_eq}
use Rattle.command_words.specs.declared.options.Form.{Form}
use Rattle.command_words.specs.declared.options.Form.TheVariants.{Sim, Run, Load}

abbrev pub Text : Type 0
Text = List ℕ

-- the name of the flag that a command takes
abbrev pub flag_of : Form → Text
flag_of Sim = codes "log"
flag_of Run = codes "log"
flag_of Load = codes "text"

-- whether a command takes `--pick`
abbrev pub takes_pick : Form → Bool
takes_pick Sim = true
takes_pick Run = false
takes_pick Load = false

-- what words give: whether the flag stands among them, the value of `--pick`, and the words that are no options
pub record Given : Type 0 where
  pub flag : Bool
  pub pick : Option Text
  pub plain : List Text

abbrev pub begins_with_hyphen : Text → Bool
begins_with_hyphen [] = false
begins_with_hyphen (b ∷ bs) = b == 45

-- each option stands once at most
abbrev pub with_flag : Given → Option Given
with_flag g = if g.flag then None else Some (record g { flag = true })

abbrev pub with_pick : Text → Given → Option Given
with_pick value g = if is_some g.pick then None else Some (record g { pick = Some value })

abbrev pub with_plain : Text → Given → Given
with_plain word g = record g { plain = g.plain ++ word ∷ [] }

-- one option more, of one word: the flag, or `--pick=` and the value
abbrev pub with_option : Text → Bool → Text → Given → Option Given
with_option flag picks word g =
    if bytes_eq word (codes "--" ++ flag) then with_flag g
    else if picks && bytes_eq (take 7 word) (codes "--pick=") then with_pick (drop 7 word) g
    else None

-- one word more: an option, or a word that is none, which begins with no hyphen
abbrev pub with_word : Text → Bool → Text → Given → Option Given
with_word flag picks word g = if begins_with_hyphen word then with_option flag picks word g else Some (with_plain word g)

-- what was given and what the words give: one word more, or `--pick` and its value, which begins with no hyphen
abbrev pub given_after : Text → Bool → List Text → Given → Option Given
given_after flag picks [] g = Some g
given_after flag picks (word ∷ []) g = with_word flag picks word g
given_after flag picks (word ∷ next ∷ words) g =
    if picks && bytes_eq word (codes "--pick")
    then (if begins_with_hyphen next then None else option_and_then (given_after flag picks words) (with_pick next g))
    else option_and_then (given_after flag picks (next ∷ words)) (with_word flag picks word g)

abbrev pub nothing_given : Given
nothing_given = record { flag = false; pick = None; plain = [] }

-- a hyphen alone
abbrev pub is_hyphen : Text → Bool
is_hyphen word = bytes_eq word (codes "-")

-- the word behind which every word is a script word
abbrev pub is_end : Text → Bool
is_end word = bytes_eq word (codes "--")

-- what the words of a command before `--` give
abbrev pub given_of : Form → List Text → Option Given
given_of form words = given_after (flag_of form) (takes_pick form) words nothing_given
