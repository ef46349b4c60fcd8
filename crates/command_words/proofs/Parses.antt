-- A whole parse: it fails exactly where nothing is given, and else its matches tell what is given.
use Rattle.std.proofs.Common.{◌≡◌, ◌∙◌, refl, sym, subst, ap, cond, Bool, true, false, ◌||◌, List, [], ◌∷◌, Option, Some, None, codes, is_some, option_map, ⊎_elim}
use Rattle.std.specs.Prelude.{if◌then◌else◌, slice_get, unwrap_or}
use Rattle.std.specs.Option.{option_and_then, option_map_or}
use Rattle.std.specs.Str.{bytes_eq}
use Rattle.t32_base.proofs.Facts.{cond_same}
use Rattle.clap.specs.Lexer.{has_byte}
use Rattle.clap.specs.Matches.{found_of}
use Rattle.clap.specs.Values.{kind_of}
use Rattle.clap.specs.Walk.{Held, Row, all_of, finished, first_of, has_row, nothing_held, one_of, row_text, rows_of, settled, walk, walk_from, with_default, with_values, idle}
use Rattle.clap.specs.Simple.{App, entered, is_simple, matches_of}
use Rattle.clap.specs.Kinds.{HasKind, IsAmong, Kinds, or_else}
use Rattle.clap.specs.Faults.{built_fault, check_fault, default_fault, defaults_fault, entered_fault, fault_of, is_simple_and_free, level_fault, settle_fault, walk_fault}
use Rattle.clap.specs.declared.error.Error.{Error}
use Rattle.clap.specs.declared.error.kind.ErrorKind.TheVariants as kind
use Rattle.clap.specs.declared.parser.matches.ArgMatches.{ArgMatches}
use Rattle.clap.specs.declared.builder.value_parser.Reading.TheVariants.{AsWritten}
use Rattle.clap.specs.declared.parser.matches.ValueSource.TheVariants.{DefaultValue}
use Rattle.clap.proofs.WalkLemmas.{first_value-rows, one_text-rows, raw_values-rows}
use Rattle.command_words.specs.declared.options.Form.{Form}
use Rattle.command_words.specs.declared.options.Form.TheVariants.{Sim, Run, Load}
use Rattle.command_words.specs.Options.{Text, Given, flag_of, given_of, nothing_given, takes_pick}
use Rattle.command_words.specs.Grammar.{app_for, app_with}
use Rattle.command_words.specs.Parsed.{AreFine, IsParsedAs}
use Rattle.command_words.proofs.Rows.{Leads, Shows, flag_row, flag_rule, fresh, grown, no_row, pick_row, pick_rule, row_at, row_at-values, row_at-values_other, some_row, words_row, words_rule}
use Rattle.command_words.proofs.Turns.{or_else-nil, rules_with, shape_with}
use Rattle.command_words.proofs.Walked.{words_end}

abbrev no_kinds : Kinds
no_kinds = []

pub simple_and_free : (flag : Text) (picks : Bool) → is_simple_and_free (app_with flag picks) ≡ true
simple_and_free flag true = refl
simple_and_free flag false = refl

-- ---- after the walk nothing fails

nothing_twice : (b : Bool) → (if b then no_kinds else no_kinds) ≡ no_kinds
nothing_twice true = refl
nothing_twice false = refl

nothing_left : (b : Bool) (k : Kinds) → (if b || true then no_kinds else k) ≡ no_kinds
nothing_left true k = refl
nothing_left false k = refl

flag_default : (flag : Text) (rows : List Row) → default_fault rows (flag_rule flag) ≡ []
flag_default flag rows = nothing_twice (has_row (codes "flag") rows || false)

defaults_pass : (flag : Text) (picks : Bool) (rows : List Row) → defaults_fault rows (rules_with flag picks) ≡ []
unfolding defaults_fault
defaults_pass flag true rows =
    ap (λ k. or_else k (defaults_fault (with_default rows (flag_rule flag)) (pick_rule ∷ words_rule ∷ []))) (flag_default flag rows)
    ∙ ap (λ k. or_else k (defaults_fault (with_default (with_default rows (flag_rule flag)) pick_rule) (words_rule ∷ []))) (nothing_left _ _)
    ∙ ap (λ k. or_else k []) (nothing_left _ _)
defaults_pass flag false rows =
    ap (λ k. or_else k (defaults_fault (with_default rows (flag_rule flag)) (words_rule ∷ []))) (flag_default flag rows)
    ∙ ap (λ k. or_else k []) (nothing_left _ _)

checks_pass : (flag : Text) (picks : Bool) (rows : List Row) → check_fault (shape_with flag picks) rows false ≡ []
checks_pass flag true rows = refl
checks_pass flag false rows = refl

-- what is held when the words are read
abbrev end_of : Text → Bool → List Text → Held
end_of flag picks words = (walk (rules_with flag picks) [] nothing_held words).held

-- the fault is that of the words and of what is pending behind them
fault_is : (flag : Text) (picks : Bool) (words : List Text) → fault_of (app_with flag picks) words
    ≡ or_else (walk_fault (shape_with flag picks) [] (walk_from nothing_held) words) (settle_fault (rules_with flag picks) false (end_of flag picks words))
fault_is flag picks words = of_built picks ∙ of_level (walk (rules_with flag picks) [] nothing_held words).stopped ∙ nothing_more
  where
    app : App
    app = record { top = shape_with flag picks; subs = [] }

    of_built : (b : Bool) → fault_of (app_with flag b) words ≡ built_fault (record { top = shape_with flag b; subs = [] }) nothing_held words
    of_built true = refl
    of_built false = refl

    of_level : (stop : Option (Text × List Text))
        → level_fault (shape_with flag picks) [] nothing_held words (is_some (entered (record { top = shape_with flag picks; subs = [] }) stop)) (entered_fault (record { top = shape_with flag picks; subs = [] }) stop)
        ≡ level_fault (shape_with flag picks) [] nothing_held words false []
    of_level None = refl
    of_level (Some p) = refl

    nothing_more : level_fault (shape_with flag picks) [] nothing_held words false []
        ≡ or_else (walk_fault (shape_with flag picks) [] (walk_from nothing_held) words) (settle_fault (rules_with flag picks) false (end_of flag picks words))
    nothing_more = ap (or_else (walk_fault (shape_with flag picks) [] (walk_from nothing_held) words))
        (ap (λ k. or_else (settle_fault (rules_with flag picks) false (end_of flag picks words)) (or_else k (check_fault (shape_with flag picks) (finished (rules_with flag picks) (end_of flag picks words)) false)))
        (defaults_pass flag picks (settled (rules_with flag picks) (end_of flag picks words)).rows)
        ∙ ap (or_else (settle_fault (rules_with flag picks) false (end_of flag picks words))) (checks_pass flag picks (finished (rules_with flag picks) (end_of flag picks words)))
        ∙ or_else-nil _)

-- ---- the rows with their defaults

matches_are : (flag : Text) (picks : Bool) (words : List Text) → matches_of (app_with flag picks) words ≡ finished (rules_with flag picks) (end_of flag picks words)
matches_are flag true words = refl
matches_are flag false words = refl

-- what the rows tell
record RowsTell (rows : List Row) (g : Given) : Type 0 where
  pub flag : one_of (codes "flag") rows ≡ Some (if g.flag then codes "true" else codes "false")
  pub pick : first_of (codes "pick") rows ≡ g.pick
  pub plain : unwrap_or (all_of (codes "words") rows) [] ≡ g.plain

finished_is : (flag : Text) (picks : Bool) (h : Held) → finished (rules_with flag picks) h ≡ with_default (settled (rules_with flag picks) h).rows (flag_rule flag)
finished_is flag true h = cond_same _ _ ∙ cond_same _ _
finished_is flag false h = cond_same _ _

module _ (flag : Text) (rows : List Row) (g : Given) (shows : Shows rows g) where
  words_are : (o : Option Row) (words : List Text) → o ≡ words_row words → unwrap_or (option_map (λ (r : Row). r.values) o) [] ≡ words
  words_are o words e = ap (λ r. unwrap_or (option_map (λ (r : Row). r.values) r) []) e ∙ go words
    where
      go : (words : List Text) → unwrap_or (option_map (λ (r : Row). r.values) (words_row words)) [] ≡ words
      go [] = refl
      go (w ∷ ws) = refl

  pick_is : (o : Option Row) (p : Option Text) → o ≡ option_map pick_row p → option_and_then (λ (r : Row). slice_get r.values 0) o ≡ p
  pick_is o p e = ap (option_and_then (λ (r : Row). slice_get r.values 0)) e ∙ go p
    where
      go : (p : Option Text) → option_and_then (λ (r : Row). slice_get r.values 0) (option_map pick_row p) ≡ p
      go None = refl
      go (Some v) = refl

  defaulted : RowsTell (with_default rows (flag_rule flag)) g
  defaulted = go g.flag refl
    where
      row_is : (b : Bool) → g.flag ≡ b → row_at (codes "flag") rows ≡ cond b (Some flag_row) None
      row_is b e = shows.flag ∙ ap (λ x. cond x (Some flag_row) None) e

      default_is : (b : Bool) → has_row (codes "flag") rows ≡ b → with_default rows (flag_rule flag) ≡ cond b rows (with_values (codes "flag") AsWritten DefaultValue (codes "false" ∷ []) rows)
      default_is b e = ap (λ x. cond x rows (with_values (codes "flag") AsWritten DefaultValue (codes "false" ∷ []) rows)) e

      go : (b : Bool) → g.flag ≡ b → RowsTell (with_default rows (flag_rule flag)) g
      go true e =
          let row = row_is true e in
          let same = default_is true (some_row (codes "flag") flag_row rows row) in
          subst (λ (rs : List Row). RowsTell rs g) (sym same) (record {
            flag = ap (option_and_then row_text) row ∙ ap (λ x. Some (cond x (codes "true") (codes "false"))) (sym e);
            pick = pick_is (row_at (codes "pick") rows) g.pick shows.pick;
            plain = words_are (row_at (codes "words") rows) g.plain shows.plain;
          })
      go false e =
          let none = row_is false e in
          let is = default_is false (no_row (codes "flag") rows none) in
          subst (λ (rs : List Row). RowsTell rs g) (sym is) (record {
            flag = ap (option_and_then row_text) (row_at-values (codes "flag") AsWritten DefaultValue (codes "false" ∷ []) rows refl
                ∙ ap (λ o. Some (option_map_or (grown DefaultValue (codes "false" ∷ [])) o (fresh (codes "flag") AsWritten DefaultValue (codes "false" ∷ [])))) none)
                ∙ ap (λ x. Some (cond x (codes "true") (codes "false"))) (sym e);
            pick = pick_is (row_at (codes "pick") (with_values (codes "flag") AsWritten DefaultValue (codes "false" ∷ []) rows)) g.pick
                (row_at-values_other (codes "flag") (codes "pick") AsWritten DefaultValue (codes "false" ∷ []) rows refl ∙ shows.pick);
            plain = words_are (row_at (codes "words") (with_values (codes "flag") AsWritten DefaultValue (codes "false" ∷ []) rows)) g.plain
                (row_at-values_other (codes "flag") (codes "words") AsWritten DefaultValue (codes "false" ∷ []) rows refl ∙ shows.plain);
          })

-- ---- the whole parse

-- what a name of a flag has to be, where the grammar is to be read as it is meant
no_equals : (form : Form) → has_byte 61 (flag_of form) ≡ false
no_equals Sim = refl
no_equals Run = refl
no_equals Load = refl

no_pick : (form : Form) → bytes_eq (flag_of form) (codes "pick") ≡ false
no_pick Sim = refl
no_pick Run = refl
no_pick Load = refl

pub free_app : (form : Form) → is_simple_and_free (app_for form) ≡ true
free_app form = simple_and_free (flag_of form) (takes_pick form)

pub simple_app : (form : Form) → is_simple (app_for form) ≡ true
simple_app Sim = refl
simple_app Run = refl
simple_app Load = refl

leads : (form : Form) (words : List Text) → AreFine words
    → Leads (fault_of (app_for form) words) (settled (rules_with (flag_of form) (takes_pick form)) (end_of (flag_of form) (takes_pick form) words)).rows (given_of form words)
leads form words fine =
    let ends = words_end (flag_of form) (takes_pick form) (no_equals form) (no_pick form) words fine [] None idle (Some nothing_given) refl (refl, record { flag = refl; pick = refl; plain = refl }) in
    let family : Kinds → Type 0 = λ k. Leads k (settled (rules_with (flag_of form) (takes_pick form)) (end_of (flag_of form) (takes_pick form) words)).rows (given_of form words) in
    subst family (sym (fault_is (flag_of form) (takes_pick form) words)) ends

-- matches come only where something is given, and tell it
pub parsed_ok : (form : Form) (words : List Text) (m : ArgMatches) → AreFine words → fault_of (app_for form) words ≡ [] → rows_of (found_of m) ≡ matches_of (app_for form) words
    → IsParsedAs (given_of form words) (Some m)
parsed_ok form words m fine none rows = go (given_of form words) (leads form words fine)
  where
    go : (o : Option Given) → Leads (fault_of (app_for form) words) (settled (rules_with (flag_of form) (takes_pick form)) (end_of (flag_of form) (takes_pick form) words)).rows o → IsParsedAs o (Some m)
    go None fails = fails none
    go (Some g) led =
        let h = end_of (flag_of form) (takes_pick form) words in
        let is = rows ∙ matches_are (flag_of form) (takes_pick form) words ∙ finished_is (flag_of form) (takes_pick form) h in
        let tell = subst (λ (rs : List Row). RowsTell rs g) (sym is) (defaulted (flag_of form) (settled (rules_with (flag_of form) (takes_pick form)) h).rows g led.1) in
        record {
          flag = one_text-rows (found_of m) (codes "flag") ∙ tell.flag;
          pick = first_value-rows (found_of m) (codes "pick") ∙ tell.pick;
          plain = ap (λ o. unwrap_or o []) (raw_values-rows (found_of m) (codes "words")) ∙ tell.plain;
        }

-- an error but want of memory comes only where nothing is given
pub parsed_err : (form : Form) (words : List Text) (e : Error) → AreFine words → HasKind (fault_of (app_for form) words) e → (kind_of e ≡ kind.OutOfMemory → ⊥)
    → IsParsedAs (given_of form words) None
parsed_err form words e fine has other = go (given_of form words) (leads form words fine)
  where
    go : (o : Option Given) → Leads (fault_of (app_for form) words) (settled (rules_with (flag_of form) (takes_pick form)) (end_of (flag_of form) (takes_pick form) words)).rows o → IsParsedAs o None
    go None fails = tt
    go (Some g) led = ⊎_elim other (λ among. subst (λ (k : Kinds). IsAmong (kind_of e) k) led.0 among) has
