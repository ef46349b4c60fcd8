-- What the matches of a parse tell.
use Rattle.std.specs.Prelude.{◌≡◌, false, List, [], ◌∷◌, codes, Option, Some, None, option_map, unwrap_or, if◌then◌else◌}
use Rattle.std.specs.Str.{IsUtf8, bytes_eq}
use Rattle.clap.specs.Words.{first_value, found_of, matched_of, one_text, raw_values}
use Rattle.clap.specs.declared.parser.matches.ArgMatches.{ArgMatches}
use Rattle.command_words.specs.Options.{Text, Given}

-- a word that may stand before `--`: a text that is no hyphen alone and not `--`
pub record IsFine (word : Text) : Type 0 where
  pub text : IsUtf8 word
  pub no_hyphen : bytes_eq word (codes "-") ≡ false
  pub no_end : bytes_eq word (codes "--") ≡ false

abbrev pub AreFine : List Text → Type 0
AreFine [] = Unit {0}
AreFine (word ∷ words) = IsFine word × AreFine words

-- the matches tell what was given
pub record Tells (m : ArgMatches) (g : Given) : Type 0 where
  pub flag : one_text (found_of m) (codes "flag") ≡ Some (if g.flag then codes "true" else codes "false")
  pub pick : first_value (found_of m) (codes "pick") ≡ g.pick
  pub plain : unwrap_or (option_map raw_values (matched_of (found_of m) (codes "words"))) [] ≡ g.plain

-- there are matches exactly where something is given, and they tell it
abbrev pub IsParsedAs : Option Given → Option ArgMatches → Type 0
IsParsedAs None None = Unit {0}
IsParsedAs None (Some m) = ⊥
IsParsedAs (Some g) None = ⊥
IsParsedAs (Some g) (Some m) = Tells m g
