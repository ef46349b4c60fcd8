-- The rows of the flag, of `--pick` and of the other words, as a parse adds to them.
use Rattle.std.proofs.Common.{◌≡◌, ◌∙◌, refl, sym, ap, cond, Bool, true, false, not, ◌&&◌, ◌||◌, List, [], ◌∷◌, ◌++◌, Option, Some, None, codes, is_some, option_map, MatchOption, true≢false}
use Rattle.std.specs.Prelude.{if◌then◌else◌}
use Rattle.std.specs.List.{find}
use Rattle.std.specs.Option.{option_map_or}
use Rattle.std.specs.Str.{bytes_eq}
use Rattle.std.specs.Cmp.Lexicographic.{same_text}
use Rattle.clap.specs.Walk.{Row, Rule, has_row, stronger, used, with_values, without}
use Rattle.clap.specs.Kinds.{Kinds, or_else}
use Rattle.clap.specs.Faults.{repeat_fault, use_fault}
use Rattle.clap.specs.Simple.{filled, with_index}
use Rattle.clap.specs.declared.builder.value_parser.Reading.{Reading}
use Rattle.clap.specs.declared.builder.value_parser.Reading.TheVariants.{AsWritten}
use Rattle.clap.specs.declared.parser.matches.ValueSource.{ValueSource}
use Rattle.clap.specs.declared.parser.matches.ValueSource.TheVariants.{CommandLine}
use Rattle.clap.specs.declared.error.kind.ErrorKind.TheVariants as kind
use Rattle.command_words.specs.Options.{Text, Given, with_flag, with_pick, with_plain}
use Rattle.command_words.specs.Grammar.{flag_argument, pick_argument, words_argument}

-- the row of an argument
abbrev pub row_at : Text → List Row → Option Row
row_at id rows = find (λ r. bytes_eq r.id id) rows

pub has_row-row_at : (id : Text) (rows : List Row) → has_row id rows ≡ is_some (row_at id rows)
has_row-row_at id [] = refl
has_row-row_at id (r ∷ rows) = go (bytes_eq r.id id) (has_row-row_at id rows)
  where
    go : (b : Bool) → has_row id rows ≡ is_some (row_at id rows) → (b || has_row id rows) ≡ is_some (cond b (Some r) (row_at id rows))
    go true e = refl
    go false e = e

-- ---- rows with more values of an argument

abbrev pub fresh : Text → Reading → ValueSource → List Text → Row
fresh id how s values = record { id = id; values = values; count = None; source = Some s; reading = how }

abbrev pub grown : ValueSource → List Text → Row → Row
grown s values r = record r { values = r.values ++ values; source = Some (stronger r.source s) }

pub row_at-values : (id : Text) (how : Reading) (s : ValueSource) (values : List Text) (rows : List Row) → bytes_eq id id ≡ true
    → row_at id (with_values id how s values rows) ≡ Some (option_map_or (grown s values) (row_at id rows) (fresh id how s values))
row_at-values id how s values [] same = ap (λ b. cond b (Some (fresh id how s values)) None) same
row_at-values id how s values (r ∷ rows) same = go (bytes_eq r.id id) refl (row_at-values id how s values rows same)
  where
    go : (b : Bool) → bytes_eq r.id id ≡ b → row_at id (with_values id how s values rows) ≡ Some (option_map_or (grown s values) (row_at id rows) (fresh id how s values))
        → row_at id (cond b (grown s values r ∷ [] ++ rows) (r ∷ with_values id how s values rows))
        ≡ Some (option_map_or (grown s values) (cond b (Some r) (row_at id rows)) (fresh id how s values))
    go true e rest = ap (λ b. cond b (Some (grown s values r)) (row_at id rows)) e
    go false e rest = ap (λ b. cond b (Some r) (row_at id (with_values id how s values rows))) e ∙ rest

other_id : (a id other : Text) → bytes_eq a id ≡ true → bytes_eq id other ≡ false → bytes_eq a other ≡ false
other_id a id other is e = ap (λ t. bytes_eq t other) (same_text a id (sym is)) ∙ e

pub row_at-values_other : (id other : Text) (how : Reading) (s : ValueSource) (values : List Text) (rows : List Row) → bytes_eq id other ≡ false
    → row_at other (with_values id how s values rows) ≡ row_at other rows
row_at-values_other id other how s values [] e = ap (λ b. cond b (Some (fresh id how s values)) None) e
row_at-values_other id other how s values (r ∷ rows) e = go (bytes_eq r.id id) refl (row_at-values_other id other how s values rows e)
  where
    go : (b : Bool) → bytes_eq r.id id ≡ b → row_at other (with_values id how s values rows) ≡ row_at other rows
        → row_at other (cond b (grown s values r ∷ [] ++ rows) (r ∷ with_values id how s values rows)) ≡ row_at other (r ∷ rows)
    go true is rest =
        let no = other_id r.id id other is e in
        ap (λ b. cond b (Some (grown s values r)) (row_at other rows)) no ∙ sym (ap (λ b. cond b (Some r) (row_at other rows)) no)
    go false is rest = ap (λ o. cond (bytes_eq r.id other) (Some r) o) rest

-- an argument with no row has none to take out
pub without-none : (id : Text) (rows : List Row) → row_at id rows ≡ None → without id rows ≡ rows
without-none id [] e = refl
without-none id (r ∷ rows) e = go (bytes_eq r.id id) (without-none id rows) e
  where
    go : (b : Bool) → (row_at id rows ≡ None → without id rows ≡ rows) → cond b (Some r) (row_at id rows) ≡ None
        → cond b ([] ++ rows) (r ∷ without id rows) ≡ r ∷ rows
    go true rest e = absurd (true≢false (ap is_some e))
    go false rest e = ap (λ rs. r ∷ rs) (rest e)

-- ---- the rows that show what was given

abbrev pub flag_row : Row
flag_row = fresh (codes "flag") AsWritten CommandLine (codes "true" ∷ [])

abbrev pub pick_row : Text → Row
pick_row value = fresh (codes "pick") AsWritten CommandLine (value ∷ [])

abbrev pub words_row : List Text → Option Row
words_row [] = None
words_row (word ∷ words) = Some (fresh (codes "words") AsWritten CommandLine (word ∷ words))

pub record Shows (rows : List Row) (g : Given) : Type 0 where
  pub flag : row_at (codes "flag") rows ≡ (if g.flag then Some flag_row else None)
  pub pick : row_at (codes "pick") rows ≡ option_map pick_row g.pick
  pub plain : row_at (codes "words") rows ≡ words_row g.plain

-- a step fails where nothing can be given, and else its rows show what is given
abbrev pub Leads : Kinds → List Row → Option Given → Type 0
Leads fault rows o = MatchOption o (fault ≡ [] → ⊥) (λ g. (fault ≡ []) × Shows rows g)

-- ---- one use of an argument

abbrev pub flag_rule : Text → Rule
flag_rule flag = filled (flag_argument flag)

abbrev pub pick_rule : Rule
pick_rule = filled pick_argument

abbrev pub words_rule : Rule
words_rule = with_index 1 (filled words_argument)

-- a second use is refused
used_again : (id : Text) (rows : List Row) → has_row id rows ≡ true → or_else (repeat_fault false id rows) [] ≡ kind.ArgumentConflict ∷ []
used_again id rows has = ap (λ b. or_else (if b && not false then kind.ArgumentConflict ∷ [] else []) []) has

used_first : (id : Text) (rows : List Row) → has_row id rows ≡ false → or_else (repeat_fault false id rows) [] ≡ []
used_first id rows has = ap (λ b. or_else (if b && not false then kind.ArgumentConflict ∷ [] else []) []) has

pub no_row : (id : Text) (rows : List Row) → row_at id rows ≡ None → has_row id rows ≡ false
no_row id rows none = has_row-row_at id rows ∙ ap is_some none

pub some_row : (id : Text) (r : Row) (rows : List Row) → row_at id rows ≡ Some r → has_row id rows ≡ true
some_row id r rows some = has_row-row_at id rows ∙ ap is_some some

-- the rows after the first use of an argument
first_row : (id : Text) (values : List Text) (rows : List Row) → bytes_eq id id ≡ true → row_at id rows ≡ None
    → row_at id (with_values id AsWritten CommandLine values (without id rows)) ≡ Some (fresh id AsWritten CommandLine values)
first_row id values rows same none =
    ap (λ rs. row_at id (with_values id AsWritten CommandLine values rs)) (without-none id rows none) ∙ row_at-values id AsWritten CommandLine values rows same
    ∙ ap (λ o. Some (option_map_or (grown CommandLine values) o (fresh id AsWritten CommandLine values))) none

row_beside : (id other : Text) (values : List Text) (rows : List Row) → bytes_eq id other ≡ false → row_at id rows ≡ None
    → row_at other (with_values id AsWritten CommandLine values (without id rows)) ≡ row_at other rows
row_beside id other values rows differs none =
    ap (λ rs. row_at other (with_values id AsWritten CommandLine values rs)) (without-none id rows none) ∙ row_at-values_other id other AsWritten CommandLine values rows differs

module _ (flag : Text) (rows : List Row) (g : Given) (shows : Shows rows g) where
  pub flag_used : Leads (use_fault false (flag_rule flag) [] rows) (used (flag_rule flag) [] rows) (with_flag g)
  flag_used = go g.flag refl
    where
      row_is : (b : Bool) → g.flag ≡ b → row_at (codes "flag") rows ≡ cond b (Some flag_row) None
      row_is b e = shows.flag ∙ ap (λ x. cond x (Some flag_row) None) e

      go : (b : Bool) → g.flag ≡ b → Leads (use_fault false (flag_rule flag) [] rows) (used (flag_rule flag) [] rows) (cond b None (Some (record g { flag = true })))
      go true e = λ h. let bad : kind.ArgumentConflict ∷ [] ≡ [] = sym (used_again (codes "flag") rows (some_row (codes "flag") flag_row rows (row_is true e))) ∙ h in cc
      go false e =
          let none = row_is false e in (
            used_first (codes "flag") rows (no_row (codes "flag") rows none),
            record {
              flag = first_row (codes "flag") (codes "true" ∷ []) rows refl none;
              pick = row_beside (codes "flag") (codes "pick") (codes "true" ∷ []) rows refl none ∙ shows.pick;
              plain = row_beside (codes "flag") (codes "words") (codes "true" ∷ []) rows refl none ∙ shows.plain;
            },
          )

  pub pick_used : (value : Text) → Leads (use_fault false pick_rule (value ∷ []) rows) (used pick_rule (value ∷ []) rows) (with_pick value g)
  pick_used value = go g.pick refl
    where
      row_is : (o : Option Text) → g.pick ≡ o → row_at (codes "pick") rows ≡ option_map pick_row o
      row_is o e = shows.pick ∙ ap (option_map pick_row) e

      go : (o : Option Text) → g.pick ≡ o → Leads (use_fault false pick_rule (value ∷ []) rows) (used pick_rule (value ∷ []) rows) (cond (is_some o) None (Some (record g { pick = Some value })))
      go (Some v) e = λ h. let bad : kind.ArgumentConflict ∷ [] ≡ [] = sym (used_again (codes "pick") rows (some_row (codes "pick") (pick_row v) rows (row_is (Some v) e))) ∙ h in cc
      go None e =
          let none = row_is None e in (
            used_first (codes "pick") rows (no_row (codes "pick") rows none),
            record {
              flag = row_beside (codes "pick") (codes "flag") (value ∷ []) rows refl none ∙ shows.flag;
              pick = first_row (codes "pick") (value ∷ []) rows refl none;
              plain = row_beside (codes "pick") (codes "words") (value ∷ []) rows refl none ∙ shows.plain;
            },
          )

  pub word_used : (word : Text) → Leads (use_fault false words_rule (word ∷ []) rows) (used words_rule (word ∷ []) rows) (Some (with_plain word g))
  word_used word = (
    refl,
    record {
      flag = row_at-values_other (codes "words") (codes "flag") AsWritten CommandLine (word ∷ []) rows refl ∙ shows.flag;
      pick = row_at-values_other (codes "words") (codes "pick") AsWritten CommandLine (word ∷ []) rows refl ∙ shows.pick;
      plain = row_at-values (codes "words") AsWritten CommandLine (word ∷ []) rows refl ∙ ap (λ o. Some (option_map_or (grown CommandLine (word ∷ [])) o (fresh (codes "words") AsWritten CommandLine (word ∷ [])))) shows.plain ∙ more g.plain;
    },
  )
    where
      more : (words : List Text) → Some (option_map_or (grown CommandLine (word ∷ [])) (words_row words) (fresh (codes "words") AsWritten CommandLine (word ∷ []))) ≡ words_row (words ++ word ∷ [])
      more [] = refl
      more (w ∷ ws) = refl
