-- One word of a parse, and what it leads to.
use Rattle.std.proofs.Common.{◌≡◌, ◌∙◌, refl, sym, subst, ap, ap₂, cond, Bool, true, false, not, ◌&&◌, ◌||◌, ℕ, List, [], ◌∷◌, length, drop, Option, Some, None, codes, is_some, MatchOption, true≢false}
use Rattle.std.specs.Prelude.{encode_utf8}
use Rattle.std.specs.List.{find}
use Rattle.std.specs.Option.{option_and_then, option_map_or}
use Rattle.std.specs.Str.{IsUtf8, bytes_eq}
use Rattle.t32_base.proofs.Facts.{and_false}
use Rattle.clap.specs.Lexer.{long_of, short_of}
use Rattle.clap.specs.Walk.{Held, Outcome, Row, Rule, Step, Waiting, Walk, after_flag, after_step, arg_by_id, arg_by_index, arg_by_long, arg_by_short, has_long, idle, is_pending, long_met, long_or_other, option, plain_word, positional, pushed, settled, settled_rows, subcommand_met, short_or_plain, subcommand_or_other, to_positional, used_by_id, trailing, value, walked, word_met}
use Rattle.clap.specs.Simple.{Shape, new_shape}
use Rattle.clap.specs.Kinds.{Kinds, or_else}
use Rattle.clap.specs.Faults.{bundle_fault, bundle_step_fault, flag_word_fault, flags_fault, long_fault, other_fault, positional_fault, settle_fault, short_fault, step_fault, stray_fault, turn_fault, use_fault, word_fault}
use Rattle.clap.specs.declared.error.kind.ErrorKind.TheVariants as kind
use Rattle.command_words.specs.Options.{Text, Given, begins_with_hyphen, with_flag, with_pick, with_plain}
use Rattle.command_words.proofs.Lexical.{behind_hyphen, first_char, no_end, no_long, no_short}
use Rattle.command_words.proofs.Rows.{Leads, Shows, flag_rule, flag_used, pick_rule, pick_used, word_used, words_rule}

-- ---- the command as it is built

abbrev pub rules_with : Text → Bool → List Rule
rules_with flag true = flag_rule flag ∷ pick_rule ∷ words_rule ∷ []
rules_with flag false = flag_rule flag ∷ words_rule ∷ []

abbrev pub shape_with : Text → Bool → Shape
shape_with flag picks = record (new_shape (codes "t32")) {
  rules = rules_with flag picks;
  no_binary_name = true;
  disable_help_flag = true;
  disable_help_subcommand = true;
  is_built = true;
}

-- ---- where a parse stands between two words

abbrev pub held : List Row → Option (Text × List Text) → Held
held rows pending = record { rows = rows; pending = pending; skip = 0 }

abbrev pub at : List Row → Option (Text × List Text) → Waiting → Walk
at rows pending waiting = record { held = held rows pending; waiting = waiting; position = 1; is_trailing = false; stopped = None }

abbrev pub is_between : Waiting → Bool
is_between (option id) = false
is_between _ = true

no_subcommand : (waiting : Waiting) (word : Text) → subcommand_met [] waiting word ≡ None
no_subcommand idle word = refl
no_subcommand (option id) word = refl
no_subcommand positional word = refl

pub or_else-nil : (k : Kinds) → or_else k [] ≡ k
or_else-nil [] = refl
or_else-nil (x ∷ xs) = refl

-- a step after another
leads_on : (a b : Kinds) (rows after : List Row) (o : Option Given) (k : Given → Option Given) → Leads a rows o → ((g : Given) → Shows rows g → Leads b after (k g))
    → Leads (or_else a b) after (option_and_then k o)
leads_on [] b rows after None k fails onward = absurd (fails refl)
leads_on (x ∷ xs) b rows after None k fails onward = λ h. let bad : x ∷ xs ≡ [] = h in cc
leads_on a b rows after (Some g) k led onward =
    let family : Kinds → Type 0 = λ f. Leads f after (k g) in
    subst family (sym (ap (λ f. or_else f b) led.0)) (onward g led.1)

-- ---- the arguments that names find

index_one : (flag : Text) (picks : Bool) → arg_by_index (rules_with flag picks) 1 ≡ Some words_rule
index_one flag true = refl
index_one flag false = refl

no_shorts : (flag : Text) (picks : Bool) (x : ℕ) → arg_by_short (rules_with flag picks) x ≡ None
no_shorts flag true x = refl
no_shorts flag false x = refl

words_by_id : (flag : Text) (picks : Bool) → arg_by_id (rules_with flag picks) (codes "words") ≡ Some words_rule
words_by_id flag true = refl
words_by_id flag false = refl

pub pick_by_id : (flag : Text) (picks : Bool) → picks ≡ true → arg_by_id (rules_with flag picks) (codes "pick") ≡ Some pick_rule
pick_by_id flag true e = refl
pick_by_id flag false e = absurd (true≢false (sym e))

pub long_flag : (flag : Text) (picks : Bool) (name : Text) → bytes_eq flag name ≡ true → arg_by_long (rules_with flag picks) name ≡ Some (flag_rule flag)
long_flag flag picks name e = go picks
  where
    go : (b : Bool) → arg_by_long (rules_with flag b) name ≡ Some (flag_rule flag)
    go true = ap (λ b. cond (b || false) (Some (flag_rule flag)) (find (λ a. not (is_some a.index) && has_long a name) (pick_rule ∷ words_rule ∷ []))) e
    go false = ap (λ b. cond (b || false) (Some (flag_rule flag)) (find (λ a. not (is_some a.index) && has_long a name) (words_rule ∷ []))) e

pub long_pick : (flag : Text) (picks : Bool) (name : Text) → bytes_eq flag name ≡ false → (picks && bytes_eq (codes "pick") name) ≡ true
    → arg_by_long (rules_with flag picks) name ≡ Some pick_rule
long_pick flag false name e named = absurd (true≢false (sym named))
long_pick flag true name e named =
    ap (λ b. cond (b || false) (Some (flag_rule flag)) (find (λ a. not (is_some a.index) && has_long a name) (pick_rule ∷ words_rule ∷ []))) e
    ∙ ap (λ b. cond (b || false) (Some pick_rule) None) named

pub long_none : (flag : Text) (picks : Bool) (name : Text) → bytes_eq flag name ≡ false → (picks && bytes_eq (codes "pick") name) ≡ false → arg_by_long (rules_with flag picks) name ≡ None
long_none flag true name e unnamed =
    ap (λ b. cond (b || false) (Some (flag_rule flag)) (find (λ a. not (is_some a.index) && has_long a name) (pick_rule ∷ words_rule ∷ []))) e
    ∙ ap (λ b. cond (b || false) (Some pick_rule) None) unnamed
long_none flag false name e unnamed =
    ap (λ b. cond (b || false) (Some (flag_rule flag)) (find (λ a. not (is_some a.index) && has_long a name) (words_rule ∷ []))) e

abbrev flag_read : List Rule → Waiting → Text → Held × Outcome → Held × Step
flag_read rules waiting word met = after_flag rules waiting word met.0 met.1

-- the parse after a word that goes to the other words
abbrev placed : Text → Held → Walk
placed word h = record { held = pushed (codes "words") word h; waiting = positional; position = 1; is_trailing = false; stopped = None }

plain_value : (rules : List Rule) (waiting : Waiting) (word : Text) (h : Held) → is_between waiting ≡ true → plain_word rules waiting word h ≡ (h, value)
plain_value rules idle word h e = refl
plain_value rules (option id) word h e = absurd (true≢false (sym e))
plain_value rules positional word h e = refl

module _ (flag : Text) (picks : Bool) where
  -- what stands when what is pending has been used
  abbrev pub Settles : List Row → Option (Text × List Text) → Option Given → Type 0
  Settles rows pending o = Leads (settle_fault (rules_with flag picks) false (held rows pending)) (settled_rows (rules_with flag picks) pending rows) o

  -- the parse stands between two words where it shows what was given
  pub record Arrives (w : Walk) (g : Given) : Type 0 where
    pub rows : List Row
    pub pending : Option (Text × List Text)
    pub waiting : Waiting
    pub is : w ≡ at rows pending waiting
    pub between : is_between waiting ≡ true
    pub settled : Settles rows pending (Some g)

  -- the word is refused where nothing can be given, and else the parse comes to show what is given
  abbrev pub Stepped : Walk → Text → Option Given → Type 0
  Stepped w word o = MatchOption o (turn_fault (shape_with flag picks) [] w word ≡ [] → ⊥)
      (λ g. (turn_fault (shape_with flag picks) [] w word ≡ []) × Arrives (walked (rules_with flag picks) [] w word) g)

  stepped_used : (w : Walk) (word : Text) (fault : Kinds) (after : List Row) (o : Option Given) → turn_fault (shape_with flag picks) [] w word ≡ fault
      → walked (rules_with flag picks) [] w word ≡ at after None idle → Leads fault after o → Stepped w word o
  stepped_used w word fault after None faults walks led = λ h. led (sym faults ∙ h)
  stepped_used w word fault after (Some g) faults walks led = (
    faults ∙ led.0,
    record {
      rows = after;
      pending = None;
      waiting = idle;
      is = walks;
      between = refl;
      settled = (refl, led.1);
    },
  )

  stepped_refused : (w : Walk) (word : Text) (k : Kinds) → turn_fault (shape_with flag picks) [] w word ≡ k → (k ≡ [] → ⊥) → Stepped w word None
  stepped_refused w word k faults some h = some (sym faults ∙ h)

  module _ (rows : List Row) (pending : Option (Text × List Text)) (waiting : Waiting) (word : Text) where
    abbrev here : Walk
    here = at rows pending waiting

    abbrev before : Held
    before = held rows pending

    pub turn_is : (fault : Kinds) (m : Held × Step) → word_fault (shape_with flag picks) [] false waiting word (held rows pending) ≡ fault
        → word_met (rules_with flag picks) [] false waiting 1 word (held rows pending) ≡ m
        → (turn_fault (shape_with flag picks) [] (at rows pending waiting) word ≡ or_else fault (step_fault (shape_with flag picks) 1 m.0 m.1))
        × (walked (rules_with flag picks) [] (at rows pending waiting) word ≡ after_step (rules_with flag picks) word (at rows pending waiting) m.0 m.1)
    unfolding walked
    turn_is fault m faults met = (
      ap₂ (λ (k : Kinds) (n : Held × Step). or_else k (step_fault (shape_with flag picks) 1 n.0 n.1)) faults met,
      ap (λ (n : Held × Step). after_step (rules_with flag picks) word (at rows pending waiting) n.0 n.1) met,
    )

    pub fault_here : bytes_eq word (codes "--") ≡ false
        → word_fault (shape_with flag picks) [] false waiting word (held rows pending) ≡ flag_word_fault (rules_with flag picks) false (long_of word) word (held rows pending)
    fault_here no_end =
        ap (λ o. other_fault (shape_with flag picks) o word (held rows pending)) (no_subcommand waiting word)
        ∙ ap (λ b. cond b [] (flag_word_fault (rules_with flag picks) false (long_of word) word (held rows pending))) no_end

    pub met_here : bytes_eq word (codes "--") ≡ false
        → word_met (rules_with flag picks) [] false waiting 1 word (held rows pending) ≡ long_or_other (rules_with flag picks) waiting word (long_of word) (held rows pending)
    met_here no_end =
        ap (λ o. subcommand_or_other (rules_with flag picks) o waiting 1 word (held rows pending)) (no_subcommand waiting word)
        ∙ ap (λ b. cond b (held rows pending, trailing 1) (long_or_other (rules_with flag picks) waiting word (long_of word) (held rows pending))) no_end

    -- a word `--name` or `--name=value`, by the argument that the name finds
    module _ (name : Text) (v : Option Text) (found : Option Rule) (no_end : bytes_eq word (codes "--") ≡ false) (long : long_of word ≡ Some (name, v))
        (finds : arg_by_long (rules_with flag picks) name ≡ found) where
      long_turn : let met = flag_read (rules_with flag picks) waiting word (long_met (rules_with flag picks) found v (held rows pending)) in
          (turn_fault (shape_with flag picks) [] (at rows pending waiting) word
          ≡ or_else (long_fault (rules_with flag picks) false found v (held rows pending)) (step_fault (shape_with flag picks) 1 met.0 met.1))
          × (walked (rules_with flag picks) [] (at rows pending waiting) word ≡ after_step (rules_with flag picks) word (at rows pending waiting) met.0 met.1)
      long_turn = turn_is _ _
          (fault_here no_end ∙ ap (λ o. flag_word_fault (rules_with flag picks) false o word (held rows pending)) long ∙ ap (λ o. long_fault (rules_with flag picks) false o v (held rows pending)) finds)
          (met_here no_end ∙ ap (λ o. long_or_other (rules_with flag picks) waiting word o (held rows pending)) long
          ∙ ap (λ o. flag_read (rules_with flag picks) waiting word (long_met (rules_with flag picks) o v (held rows pending))) finds)

    pub flag_stepped : (name : Text) (o : Option Given) → bytes_eq word (codes "--") ≡ false → long_of word ≡ Some (name, None)
        → arg_by_long (rules_with flag picks) name ≡ Some (flag_rule flag) → Settles rows pending o → Stepped (at rows pending waiting) word (option_and_then with_flag o)
    flag_stepped name o no_end long finds settled =
        let turn = long_turn name None (Some (flag_rule flag)) no_end long finds in
        stepped_used (at rows pending waiting) word _ _ _ (turn.0 ∙ or_else-nil _) turn.1
        (leads_on (settle_fault (rules_with flag picks) false (held rows pending)) _ (settled_rows (rules_with flag picks) pending rows) _ o with_flag settled
        (λ g shows. flag_used flag (settled_rows (rules_with flag picks) pending rows) g shows))

    pub pick_stepped : (name chosen : Text) (o : Option Given) → bytes_eq word (codes "--") ≡ false → long_of word ≡ Some (name, Some chosen)
        → arg_by_long (rules_with flag picks) name ≡ Some pick_rule → Settles rows pending o → Stepped (at rows pending waiting) word (option_and_then (with_pick chosen) o)
    pick_stepped name chosen o no_end long finds settled =
        let turn = long_turn name (Some chosen) (Some pick_rule) no_end long finds in
        stepped_used (at rows pending waiting) word _ _ _ (turn.0 ∙ or_else-nil _) turn.1
        (leads_on (settle_fault (rules_with flag picks) false (held rows pending)) _ (settled_rows (rules_with flag picks) pending rows) _ o (with_pick chosen) settled
        (λ g shows. pick_used flag (settled_rows (rules_with flag picks) pending rows) g shows chosen))

    pub pick_waits : (name : Text) → bytes_eq word (codes "--") ≡ false → long_of word ≡ Some (name, None) → arg_by_long (rules_with flag picks) name ≡ Some pick_rule
        → (turn_fault (shape_with flag picks) [] (at rows pending waiting) word ≡ settle_fault (rules_with flag picks) false (held rows pending))
        × (walked (rules_with flag picks) [] (at rows pending waiting) word ≡ at (settled_rows (rules_with flag picks) pending rows) (Some (codes "pick", [])) (option (codes "pick")))
    pick_waits name no_end long finds =
        let turn = long_turn name None (Some pick_rule) no_end long finds in
        (turn.0 ∙ or_else-nil _, turn.1)

    pub flag_valued : (name chosen : Text) → bytes_eq word (codes "--") ≡ false → long_of word ≡ Some (name, Some chosen)
        → arg_by_long (rules_with flag picks) name ≡ Some (flag_rule flag) → Stepped (at rows pending waiting) word None
    flag_valued name chosen no_end long finds =
        let turn = long_turn name (Some chosen) (Some (flag_rule flag)) no_end long finds in
        stepped_refused (at rows pending waiting) word _ turn.0 (λ h. cc h)

    pub name_unknown : (name : Text) (v : Option Text) → bytes_eq word (codes "--") ≡ false → long_of word ≡ Some (name, v) → arg_by_long (rules_with flag picks) name ≡ None
        → Stepped (at rows pending waiting) word None
    name_unknown name v no_end long finds =
        let turn = long_turn name v None no_end long finds in
        stepped_refused (at rows pending waiting) word _ turn.0 (λ h. cc h)

    -- no word with one hyphen is an option
    pub letter_unknown : (b : ℕ) (bs : Text) → word ≡ 45 ∷ b ∷ bs → IsUtf8 word → bytes_eq word (codes "--") ≡ false → long_of word ≡ None → short_of word ≡ Some (b ∷ bs)
        → Stepped (at rows pending waiting) word None
    unfolding flags_fault
    letter_unknown b bs is text no_end long short =
        let first = first_char b bs (behind_hyphen (b ∷ bs) (subst IsUtf8 is text)) in
        let fault = fault_here no_end ∙ ap (λ o. flag_word_fault (rules_with flag picks) false o word (held rows pending)) long
        ∙ ap (λ o. option_map_or (λ flags. bundle_fault (rules_with flag picks) false flags (held rows pending)) o []) short
        ∙ ap (λ o. bundle_step_fault (rules_with flag picks) false o (b ∷ bs) 0 (held rows pending) (flags_fault (rules_with flag picks) false (length bs))) first.1
        ∙ ap (λ o. short_fault (rules_with flag picks) false o (drop (length (encode_utf8 first.0)) (b ∷ bs)) (held rows pending)
        (flags_fault (rules_with flag picks) false (length bs) (drop (length (encode_utf8 first.0)) (b ∷ bs)) 0)) (no_shorts flag picks first.0) in
        stepped_refused (at rows pending waiting) word _ (turn_is (kind.UnknownArgument ∷ []) _ fault refl).0 (λ h. cc h)

    pub plain_stepped : (o : Option Given) → begins_with_hyphen word ≡ false → is_between waiting ≡ true → Settles rows pending o
        → Stepped (at rows pending waiting) word (option_and_then (λ g. Some (with_plain word g)) o)
    plain_stepped o no_hyphen between settles =
        let turn = turn_is [] (held rows pending, value)
        (fault_here (no_end word no_hyphen) ∙ ap (λ l. flag_word_fault (rules_with flag picks) false l word (held rows pending)) (no_long word no_hyphen)
        ∙ ap (λ l. option_map_or (λ flags. bundle_fault (rules_with flag picks) false flags (held rows pending)) l []) (no_short word no_hyphen))
        (met_here (no_end word no_hyphen) ∙ ap (λ l. long_or_other (rules_with flag picks) waiting word l (held rows pending)) (no_long word no_hyphen)
        ∙ ap (λ l. short_or_plain (rules_with flag picks) waiting word l (held rows pending)) (no_short word no_hyphen)
        ∙ plain_value (rules_with flag picks) waiting word (held rows pending) between) in
        let several = and_false (is_pending words_rule pending) in
        let fault = turn.0 ∙ ap (λ f. option_map_or (λ a. positional_fault (rules_with flag picks) false a (held rows pending)) f (stray_fault (shape_with flag picks))) (index_one flag picks)
        ∙ ap (λ b. cond b [] (settle_fault (rules_with flag picks) false (held rows pending))) several in
        let walk = turn.1 ∙ ap (λ f. to_positional (rules_with flag picks) f word (at rows pending waiting) (held rows pending)) (index_one flag picks)
        ∙ ap (λ b. placed word (cond b (held rows pending) (settled (rules_with flag picks) (held rows pending)))) several in
        go o fault walk settles
      where
        used_next : (g : Given) → Shows (settled_rows (rules_with flag picks) pending rows) g
            → Settles (settled_rows (rules_with flag picks) pending rows) (Some (codes "words", word ∷ [])) (Some (with_plain word g))
        used_next g shows =
            let rows' = settled_rows (rules_with flag picks) pending rows in
            let family : Option Rule → Type 0 = λ f. Leads (option_map_or (λ a. use_fault false a (word ∷ []) rows') f []) (used_by_id f (word ∷ []) rows') (Some (with_plain word g)) in
            subst family (sym (words_by_id flag picks)) (word_used flag rows' g shows word)

        go : (o : Option Given) → turn_fault (shape_with flag picks) [] (at rows pending waiting) word ≡ settle_fault (rules_with flag picks) false (held rows pending)
            → walked (rules_with flag picks) [] (at rows pending waiting) word ≡ at (settled_rows (rules_with flag picks) pending rows) (Some (codes "words", word ∷ [])) positional
            → Settles rows pending o → Stepped (at rows pending waiting) word (option_and_then (λ g. Some (with_plain word g)) o)
        go None fault walk fails = λ h. fails (sym fault ∙ h)
        go (Some g) fault walk led = (
          fault ∙ led.0,
          record {
            rows = settled_rows (rules_with flag picks) pending rows;
            pending = Some (codes "words", word ∷ []);
            waiting = positional;
            is = walk;
            between = refl;
            settled = used_next g led.1;
          },
        )
