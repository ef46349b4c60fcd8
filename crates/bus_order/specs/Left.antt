-- What is known of the words of a script that are left without a look at each.
use Rattle.std.specs.Prelude.{ℕ, ◌≡◌, Bool, false, not, nat_le, min, List, fold, Option, Some, None}
use Rattle.std.specs.List.{list_any}
use Rattle.cert_sched.specs.declared.script.ScriptWord.{ScriptWord}
use Rattle.cert_sched.specs.declared.script.ScriptWord.TheVariants.{CrashAt, CrashStep, DiskAt, ReturnAt}
use Rattle.cert_sched.specs.Looked.{is_bus_word}

-- the place of the log that a word names
abbrev pub place_named : ScriptWord → Option ℕ
place_named (CrashAt k place) = Some place
place_named (CrashStep k step) = None
place_named (DiskAt k call) = None
place_named (ReturnAt k place) = Some place

-- the lesser of two places, as far as there are any
abbrev pub lesser_place : Option ℕ → Option ℕ → Option ℕ
lesser_place None other = other
lesser_place (Some place) None = Some place
lesser_place (Some place) (Some other) = Some (min place other)

-- the least place that one of the words names
abbrev pub least_place : List ScriptWord → Option ℕ
least_place words = fold (λ least w. lesser_place least (place_named w)) None words

-- a log of this length has reached that place
abbrev pub is_due : ℕ → Option ℕ → Bool
is_due length None = false
is_due length (Some place) = nat_le place length

-- a word for a step or a disk call
abbrev pub is_counted_word : ScriptWord → Bool
is_counted_word w = not (is_bus_word w)

-- such a word is left
abbrev pub has_counted : List ScriptWord → Bool
has_counted words = list_any is_counted_word words

-- the least place that one of them names, and whether one for a step or a disk call is among them
pub record IsKnown (words : List ScriptWord) (due : Option ℕ) (counted : Bool) : Type 0 where
  pub least : due ≡ least_place words
  pub counts : counted ≡ has_counted words
