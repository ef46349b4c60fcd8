-- A parse of words gives what the words give.
use Rattle.std.proofs.Common.{◌≡◌, ◌∙◌, refl, sym, subst, ap, ap₂, cond, Bool, true, false, ◌&&◌, ℕ, List, [], ◌∷◌, ◌++◌, take, drop, fold, Option, Some, None, codes, is_some, true≢false}
use Rattle.std.specs.Prelude.{if◌then◌else◌, ◌==◌}
use Rattle.std.specs.List.{after_first, before_first}
use Rattle.std.specs.Option.{option_and_then, option_map_or}
use Rattle.std.specs.Str.{IsUtf8, bytes_eq}
use Rattle.std.specs.Cmp.Lexicographic.{same_text}
use Rattle.std.proofs.lemmas.Bool.{eqb-true, false_from_ne_true}
use Rattle.std.proofs.lemmas.Slice.Eq.{bytes_eq-Decides}
use Rattle.t32_base.proofs.Facts.{and_false}
use Rattle.clap.specs.Lexer.{has_byte, long_of_rest, name_and_value}
use Rattle.clap.specs.Walk.{Held, Row, Rule, Waiting, Walk, idle, long_or_other, next, option, option_word, settled, short_or_plain, settled_rows, used_by_id, walked}
use Rattle.clap.specs.Kinds.{Kinds, or_else}
use Rattle.clap.specs.Faults.{bundle_fault, flag_word_fault, settle_fault, turn_fault, use_fault, walk_fault}
use Rattle.clap.specs.declared.error.kind.ErrorKind.TheVariants as kind
use Rattle.command_words.specs.Options.{Text, Given, begins_with_hyphen, given_after, with_flag, with_pick, with_option, with_plain, with_word}
use Rattle.command_words.specs.Parsed.{AreFine, IsFine}
use Rattle.command_words.proofs.Booleans.{both}
use Rattle.command_words.proofs.Lexical.{named_pick, no_end, no_long, no_short, pick_named, whole_name}
use Rattle.command_words.proofs.Rows.{Leads, Shows, pick_used}
use Rattle.command_words.proofs.Turns.{Settles, Stepped, at, fault_here, flag_stepped, flag_valued, held, is_between, letter_unknown, long_flag, long_none, long_pick, met_here, name_unknown, pick_by_id, pick_stepped, pick_waits, plain_stepped, rules_with, shape_with, turn_is}

-- ---- tests

same : (a b : Text) → a ≡ b → bytes_eq a b ≡ true
same a b e = (bytes_eq-Decides a b).1 e

turned : (a b : Text) (x : Bool) → bytes_eq a b ≡ x → bytes_eq b a ≡ x
turned a b true e = same b a (sym (same_text a b (sym e)))
turned a b false e = false_from_ne_true (bytes_eq b a) (λ t. true≢false (sym (same a b (sym (same_text b a (sym t)))) ∙ e))

then_same : (o : Option Given) (j k : Given → Option Given) → ((g : Given) → j g ≡ k g) → option_and_then j o ≡ option_and_then k o
then_same None j k e = refl
then_same (Some g) j k e = e g

then_none : (o : Option Given) → option_and_then {T = Given} {U = Given} (λ g. None) o ≡ None
then_none None = refl
then_none (Some g) = refl

module _ (flag : Text) (picks : Bool) (no_equals : has_byte 61 flag ≡ false) (no_pick : bytes_eq flag (codes "pick") ≡ false) where
  -- what an option adds, where it is known which it is
  adds_none : (word : Text) → bytes_eq word (codes "--" ++ flag) ≡ false → (picks && bytes_eq (take 7 word) (codes "--pick=")) ≡ false
      → (g : Given) → with_option flag picks word g ≡ None
  adds_none word a b g =
      ap (λ x. cond x (with_flag g) (cond (picks && bytes_eq (take 7 word) (codes "--pick=")) (with_pick (drop 7 word) g) None)) a
      ∙ ap (λ x. cond x (with_pick (drop 7 word) g) None) b

  adds_flag : (word : Text) → bytes_eq word (codes "--" ++ flag) ≡ true → (g : Given) → with_option flag picks word g ≡ with_flag g
  adds_flag word a g = ap (λ x. cond x (with_flag g) (cond (picks && bytes_eq (take 7 word) (codes "--pick=")) (with_pick (drop 7 word) g) None)) a

  adds_pick : (word : Text) → bytes_eq word (codes "--" ++ flag) ≡ false → (picks && bytes_eq (take 7 word) (codes "--pick=")) ≡ true
      → (g : Given) → with_option flag picks word g ≡ with_pick (drop 7 word) g
  adds_pick word a b g =
      ap (λ x. cond x (with_flag g) (cond (picks && bytes_eq (take 7 word) (codes "--pick=")) (with_pick (drop 7 word) g) None)) a
      ∙ ap (λ x. cond x (with_pick (drop 7 word) g) None) b

  -- where the value of `--pick` is attached, the name says so
  no_value : (body : Text) (name : Text) → name_and_value body ≡ (name, None) → (picks && bytes_eq (take 5 body) (codes "pick=")) ≡ false
  no_value body name is = false_from_ne_true _ (λ t. true≢false (sym (ap (λ (p : Text × Option Text). is_some p.1) (sym is ∙ pick_named body (both picks _ t).1))))

  other_name : (body name : Text) (v : Option Text) → name_and_value body ≡ (name, v) → (picks && bytes_eq (codes "pick") name) ≡ false
      → (picks && bytes_eq (take 5 body) (codes "pick=")) ≡ false
  other_name body name v is unnamed = go picks unnamed
    where
      go : (b : Bool) → (b && bytes_eq (codes "pick") name) ≡ false → (b && bytes_eq (take 5 body) (codes "pick=")) ≡ false
      go false e = refl
      go true e = false_from_ne_true _ (λ t. true≢false (sym (same (codes "pick") name (sym (ap (λ p. p.0) (sym is ∙ pick_named body t)))) ∙ e))

  module _ (rows : List Row) (pending : Option (Text × List Text)) (waiting : Waiting) (o : Option Given) (settles : Settles flag picks rows pending o) where
    -- a word `--` and a body, by the name in the body
    module _ (z : ℕ) (zs : Text) where
      refused_here : Stepped flag picks (at rows pending waiting) (45 ∷ 45 ∷ z ∷ zs) None → bytes_eq (z ∷ zs) flag ≡ false → (picks && bytes_eq (take 5 (z ∷ zs)) (codes "pick=")) ≡ false
          → Stepped flag picks (at rows pending waiting) (45 ∷ 45 ∷ z ∷ zs) (option_and_then (with_word flag picks (45 ∷ 45 ∷ z ∷ zs)) o)
      refused_here none a b =
          subst (λ (r : Option Given). Stepped flag picks (at rows pending waiting) (45 ∷ 45 ∷ z ∷ zs) r)
          (sym (then_same o _ _ (adds_none (45 ∷ 45 ∷ z ∷ zs) a b) ∙ then_none o)) none

      -- a name with no value
      bare : name_and_value (z ∷ zs) ≡ (z ∷ zs, None) → (picks && bytes_eq (z ∷ zs) (codes "pick")) ≡ false
          → Stepped flag picks (at rows pending waiting) (45 ∷ 45 ∷ z ∷ zs) (option_and_then (with_word flag picks (45 ∷ 45 ∷ z ∷ zs)) o)
      bare is unpicked = go (bytes_eq flag (z ∷ zs)) refl
        where
          unnamed : (b : Bool) → (b && bytes_eq (z ∷ zs) (codes "pick")) ≡ false → (b && bytes_eq (codes "pick") (z ∷ zs)) ≡ false
          unnamed false e = refl
          unnamed true e = turned (z ∷ zs) (codes "pick") false e

          go : (x : Bool) → bytes_eq flag (z ∷ zs) ≡ x → Stepped flag picks (at rows pending waiting) (45 ∷ 45 ∷ z ∷ zs) (option_and_then (with_word flag picks (45 ∷ 45 ∷ z ∷ zs)) o)
          go true e =
              subst (λ (r : Option Given). Stepped flag picks (at rows pending waiting) (45 ∷ 45 ∷ z ∷ zs) r)
              (sym (then_same o _ _ (adds_flag (45 ∷ 45 ∷ z ∷ zs) (turned flag (z ∷ zs) true e))))
              (flag_stepped flag picks rows pending waiting (45 ∷ 45 ∷ z ∷ zs) (z ∷ zs) o refl (ap Some is) (long_flag flag picks (z ∷ zs) e) settles)
          go false e =
              refused_here (name_unknown flag picks rows pending waiting (45 ∷ 45 ∷ z ∷ zs) (z ∷ zs) None refl (ap Some is) (long_none flag picks (z ∷ zs) e (unnamed picks unpicked)))
              (turned flag (z ∷ zs) false e) (no_value (z ∷ zs) (z ∷ zs) is)

      -- a name and its value
      valued : (name chosen : Text) → has_byte 61 (z ∷ zs) ≡ true → name ≡ before_first (λ x. x == 61) (z ∷ zs) → chosen ≡ after_first (λ x. x == 61) (z ∷ zs)
          → name_and_value (z ∷ zs) ≡ (name, Some chosen)
          → Stepped flag picks (at rows pending waiting) (45 ∷ 45 ∷ z ∷ zs) (option_and_then (with_word flag picks (45 ∷ 45 ∷ z ∷ zs)) o)
      valued name chosen has front back is = go (bytes_eq flag name) refl (picks && bytes_eq (codes "pick") name) refl
        where
          no_flag : bytes_eq (z ∷ zs) flag ≡ false
          no_flag = false_from_ne_true _ (λ t. true≢false (sym has ∙ ap (has_byte 61) (same_text (z ∷ zs) flag (sym t)) ∙ no_equals))

          flag_unpicked : (b : Bool) → bytes_eq flag name ≡ true → (b && bytes_eq (codes "pick") name) ≡ false
          flag_unpicked false e = refl
          flag_unpicked true e = false_from_ne_true _ (λ t. true≢false (sym (same flag (codes "pick") (same_text flag name (sym e) ∙ sym (same_text (codes "pick") name (sym t)))) ∙ no_pick))

          go : (x : Bool) → bytes_eq flag name ≡ x → (y : Bool) → (picks && bytes_eq (codes "pick") name) ≡ y
              → Stepped flag picks (at rows pending waiting) (45 ∷ 45 ∷ z ∷ zs) (option_and_then (with_word flag picks (45 ∷ 45 ∷ z ∷ zs)) o)
          go true e y named =
              refused_here (flag_valued flag picks rows pending waiting (45 ∷ 45 ∷ z ∷ zs) name chosen refl (ap Some is) (long_flag flag picks name e))
              no_flag (other_name (z ∷ zs) name (Some chosen) is (flag_unpicked picks e))
          go false e false named =
              refused_here (name_unknown flag picks rows pending waiting (45 ∷ 45 ∷ z ∷ zs) name (Some chosen) refl (ap Some is) (long_none flag picks name e named))
              no_flag (other_name (z ∷ zs) name (Some chosen) is named)
          go false e true named =
              let parts = both picks _ named in
              let pick = named_pick (z ∷ zs) has (ap (bytes_eq (codes "pick")) (sym front) ∙ parts.1) in
              let adds : (g : Given) → with_word flag picks (45 ∷ 45 ∷ z ∷ zs) g ≡ with_pick chosen g =
              λ g. adds_pick (45 ∷ 45 ∷ z ∷ zs) no_flag (ap₂ (λ (x y : Bool). x && y) parts.0 pick.0) g ∙ ap (λ v. with_pick v g) (pick.1 ∙ sym back) in
              subst (λ (r : Option Given). Stepped flag picks (at rows pending waiting) (45 ∷ 45 ∷ z ∷ zs) r) (sym (then_same o _ _ adds))
              (pick_stepped flag picks rows pending waiting (45 ∷ 45 ∷ z ∷ zs) name chosen o refl (ap Some is) (long_pick flag picks name e named) settles)

      named_stepped : (picks && bytes_eq (z ∷ zs) (codes "pick")) ≡ false
          → Stepped flag picks (at rows pending waiting) (45 ∷ 45 ∷ z ∷ zs) (option_and_then (with_word flag picks (45 ∷ 45 ∷ z ∷ zs)) o)
      named_stepped unpicked = go (has_byte 61 (z ∷ zs)) refl
        where
          go : (x : Bool) → has_byte 61 (z ∷ zs) ≡ x → Stepped flag picks (at rows pending waiting) (45 ∷ 45 ∷ z ∷ zs) (option_and_then (with_word flag picks (45 ∷ 45 ∷ z ∷ zs)) o)
          go true e = valued _ _ e refl refl (ap (λ x. (before_first (λ y. y == 61) (z ∷ zs), cond x (Some (after_first (λ y. y == 61) (z ∷ zs))) None)) e)
          go false e = bare (ap₂ (λ (t : Text) (x : Bool). (t, cond x (Some (after_first (λ y. y == 61) (z ∷ zs))) None)) (whole_name (z ∷ zs) e) e) unpicked

    -- one hyphen and more
    letter_stepped : (b : ℕ) (bs : Text) → IsUtf8 (45 ∷ b ∷ bs) → (b == 45) ≡ false → Stepped flag picks (at rows pending waiting) (45 ∷ b ∷ bs) (option_and_then (with_word flag picks (45 ∷ b ∷ bs)) o)
    letter_stepped b bs text other =
        subst (λ (r : Option Given). Stepped flag picks (at rows pending waiting) (45 ∷ b ∷ bs) r)
        (sym (then_same o _ _ (adds_none (45 ∷ b ∷ bs) (ap (λ x. x && bytes_eq bs flag) other) (go picks)) ∙ then_none o))
        (letter_unknown flag picks rows pending waiting (45 ∷ b ∷ bs) b bs refl text (ap (λ x. x && bytes_eq bs []) other)
        (ap (λ x. option_and_then long_of_rest (cond x (Some bs) None)) other) (ap (λ x. cond x None (Some (b ∷ bs))) other))
      where
        go : (x : Bool) → (x && bytes_eq (take 7 (45 ∷ b ∷ bs)) (codes "--pick=")) ≡ false
        go false = refl
        go true = ap (λ x. x && bytes_eq (take 5 bs) (codes "pick=")) other

    -- any word but `--pick`
    pub word_stepped : (word : Text) → IsFine word → (begins_with_hyphen word ≡ false → is_between waiting ≡ true) → (picks && bytes_eq word (codes "--pick")) ≡ false
        → Stepped flag picks (at rows pending waiting) word (option_and_then (with_word flag picks word) o)
    word_stepped [] fine between unpicked = plain_stepped flag picks rows pending waiting [] o refl (between refl) settles
    word_stepped (a ∷ rest) fine between unpicked = go (a == 45) refl
      where
        hyphen : (rest : Text) → IsFine (45 ∷ rest) → (picks && bytes_eq (45 ∷ rest) (codes "--pick")) ≡ false
            → Stepped flag picks (at rows pending waiting) (45 ∷ rest) (option_and_then (with_word flag picks (45 ∷ rest)) o)
        hyphen [] fine unpicked = absurd (true≢false fine.no_hyphen)
        hyphen (b ∷ bs) fine unpicked = second (b == 45) refl
          where
            two : (bs : Text) → IsFine (45 ∷ 45 ∷ bs) → (picks && bytes_eq (45 ∷ 45 ∷ bs) (codes "--pick")) ≡ false
                → Stepped flag picks (at rows pending waiting) (45 ∷ 45 ∷ bs) (option_and_then (with_word flag picks (45 ∷ 45 ∷ bs)) o)
            two [] fine unpicked = absurd (true≢false fine.no_end)
            two (z ∷ zs) fine unpicked = named_stepped z zs unpicked

            second : (x : Bool) → (b == 45) ≡ x → Stepped flag picks (at rows pending waiting) (45 ∷ b ∷ bs) (option_and_then (with_word flag picks (45 ∷ b ∷ bs)) o)
            second false e = letter_stepped b bs fine.text e
            second true e =
                let is : 45 ≡ b = sym (eqb-true b 45 e) in
                let family : ℕ → Type 0 = λ c. IsFine (45 ∷ c ∷ bs) → (picks && bytes_eq (45 ∷ c ∷ bs) (codes "--pick")) ≡ false
                → Stepped flag picks (at rows pending waiting) (45 ∷ c ∷ bs) (option_and_then (with_word flag picks (45 ∷ c ∷ bs)) o) in
                subst family is (two bs) fine unpicked

        go : (x : Bool) → (a == 45) ≡ x → Stepped flag picks (at rows pending waiting) (a ∷ rest) (option_and_then (with_word flag picks (a ∷ rest)) o)
        go false e =
            subst (λ (r : Option Given). Stepped flag picks (at rows pending waiting) (a ∷ rest) r)
            (sym (then_same o _ _ (λ g. ap (λ x. cond x (with_option flag picks (a ∷ rest) g) (Some (with_plain (a ∷ rest) g))) e)))
            (plain_stepped flag picks rows pending waiting (a ∷ rest) o e (between e) settles)
        go true e =
            let is : 45 ≡ a = sym (eqb-true a 45 e) in
            let family : ℕ → Type 0 = λ c. IsFine (c ∷ rest) → (picks && bytes_eq (c ∷ rest) (codes "--pick")) ≡ false
            → Stepped flag picks (at rows pending waiting) (c ∷ rest) (option_and_then (with_word flag picks (c ∷ rest)) o) in
            subst family is (hyphen rest) fine unpicked

  -- ---- all the words

  -- the words lead to what they give: the parse fails where they give nothing
  abbrev pub Ends : Walk → List Text → Option Given → Type 0
  Ends w words o = Leads (or_else (walk_fault (shape_with flag picks) [] w words) (settle_fault (rules_with flag picks) false (fold (walked (rules_with flag picks) []) w words).held))
      (settled (rules_with flag picks) (fold (walked (rules_with flag picks) []) w words).held).rows o

  -- a word, and then the others
  refused_first : (w : Walk) (word : Text) (words : List Text) → (turn_fault (shape_with flag picks) [] w word ≡ [] → ⊥) → Ends w (word ∷ words) None
  unfolding walk_fault
  refused_first w word words some = go (turn_fault (shape_with flag picks) [] w word) some
    where
      go : (k : Kinds) → (k ≡ [] → ⊥) → or_else (or_else k (walk_fault (shape_with flag picks) [] (walked (rules_with flag picks) [] w word) words))
          (settle_fault (rules_with flag picks) false (fold (walked (rules_with flag picks) []) w (word ∷ words)).held) ≡ [] → ⊥
      go [] some h = some refl
      go (x ∷ xs) some h = cc h

  passed_first : (w after : Walk) (word : Text) (words : List Text) (o : Option Given) → turn_fault (shape_with flag picks) [] w word ≡ [] → walked (rules_with flag picks) [] w word ≡ after
      → Ends after words o → Ends w (word ∷ words) o
  unfolding walk_fault
  passed_first w after word words o fault walks ends =
      let at_walk : Ends (walked (rules_with flag picks) [] w word) words o = subst (λ (v : Walk). Ends v words o) (sym walks) ends in
      let family : Kinds → Type 0 = λ k. Leads (or_else (or_else k (walk_fault (shape_with flag picks) [] (walked (rules_with flag picks) [] w word) words))
      (settle_fault (rules_with flag picks) false (fold (walked (rules_with flag picks) []) w (word ∷ words)).held))
      (settled (rules_with flag picks) (fold (walked (rules_with flag picks) []) w (word ∷ words)).held).rows o in
      subst family (sym fault) at_walk

  -- what is to be shown of the words from a place on
  abbrev pub Onward : List Text → Type 0
  Onward words = (rows : List Row) (pending : Option (Text × List Text)) (waiting : Waiting) (o : Option Given) → is_between waiting ≡ true → Settles flag picks rows pending o
      → Ends (at rows pending waiting) words (option_and_then (given_after flag picks words) o)

  stepped_on : (w : Walk) (word : Text) (words : List Text) (o : Option Given) → Onward words → Stepped flag picks w word o → Ends w (word ∷ words) (option_and_then (given_after flag picks words) o)
  stepped_on w word words None onward some = refused_first w word words some
  stepped_on w word words (Some g) onward (fault, to) =
      passed_first w (at to.rows to.pending to.waiting) word words (given_after flag picks words g) fault to.is (onward to.rows to.pending to.waiting (Some g) to.between to.settled)

  none_end : Onward []
  unfolding walk_fault
  none_end rows pending waiting None between settles = settles
  none_end rows pending waiting (Some g) between settles = settles

  -- the word `--pick`
  picks_here : (rows : List Row) (pending : Option (Text × List Text)) (waiting : Waiting) (word : Text) → (picks && bytes_eq word (codes "--pick")) ≡ true
      → (turn_fault (shape_with flag picks) [] (at rows pending waiting) word ≡ settle_fault (rules_with flag picks) false (held rows pending))
      × (walked (rules_with flag picks) [] (at rows pending waiting) word ≡ at (settled_rows (rules_with flag picks) pending rows) (Some (codes "pick", [])) (option (codes "pick")))
  picks_here rows pending waiting word e =
      let parts = both picks _ e in
      let is : codes "--pick" ≡ word = sym (same_text word (codes "--pick") (sym parts.1)) in
      let family : Text → Type 0 = λ w. (turn_fault (shape_with flag picks) [] (at rows pending waiting) w ≡ settle_fault (rules_with flag picks) false (held rows pending))
      × (walked (rules_with flag picks) [] (at rows pending waiting) w ≡ at (settled_rows (rules_with flag picks) pending rows) (Some (codes "pick", [])) (option (codes "pick"))) in
      subst family is (pick_waits flag picks rows pending waiting (codes "--pick") (codes "pick") refl refl (long_pick flag picks (codes "pick") no_pick (ap (λ x. x && true) parts.0)))

  pick_alone : (word : Text) → (picks && bytes_eq word (codes "--pick")) ≡ true → (g : Given) → with_word flag picks word g ≡ None
  pick_alone word e g =
      let is : codes "--pick" ≡ word = sym (same_text word (codes "--pick") (sym (both picks _ e).1)) in
      let family : Text → Type 0 = λ w. with_word flag picks w g ≡ None in
      subst family is (adds_none (codes "--pick") (turned flag (codes "pick") false no_pick) (and_false picks) g)

  -- `--pick`, and the word after it
  module _ (rows : List Row) (g : Given) (picked : picks ≡ true) (shows : Shows rows g) where
    no_value_end : Settles flag picks rows (Some (codes "pick", [])) None
    no_value_end h =
        let bad : kind.InvalidValue ∷ [] ≡ [] = sym (ap (λ f. option_map_or (λ a. use_fault false a [] rows) f []) (pick_by_id flag picks picked)) ∙ h in
        cc

    bare_end : Ends (at rows (Some (codes "pick", [])) (option (codes "pick"))) [] None
    unfolding walk_fault
    bare_end = no_value_end

    value_settles : (chosen : Text) → Settles flag picks rows (Some (codes "pick", chosen ∷ [])) (with_pick chosen g)
    value_settles chosen =
        let family : Option Rule → Type 0 = λ f. Leads (option_map_or (λ a. use_fault false a (chosen ∷ []) rows) f []) (used_by_id f (chosen ∷ []) rows) (with_pick chosen g) in
        subst family (sym (pick_by_id flag picks picked)) (pick_used flag rows g shows chosen)

    value_turn : (word : Text) → begins_with_hyphen word ≡ false
        → (turn_fault (shape_with flag picks) [] (at rows (Some (codes "pick", [])) (option (codes "pick"))) word ≡ [])
        × (walked (rules_with flag picks) [] (at rows (Some (codes "pick", [])) (option (codes "pick"))) word ≡ at rows (Some (codes "pick", word ∷ [])) idle)
    value_turn word no_hyphen =
        let h : Held = held rows (Some (codes "pick", [])) in
        turn_is flag picks rows (Some (codes "pick", [])) (option (codes "pick")) word [] (held rows (Some (codes "pick", word ∷ [])), next idle)
        (fault_here flag picks rows (Some (codes "pick", [])) (option (codes "pick")) word (no_end word no_hyphen)
        ∙ ap (λ l. flag_word_fault (rules_with flag picks) false l word h) (no_long word no_hyphen)
        ∙ ap (λ l. option_map_or (λ flags. bundle_fault (rules_with flag picks) false flags h) l []) (no_short word no_hyphen))
        (met_here flag picks rows (Some (codes "pick", [])) (option (codes "pick")) word (no_end word no_hyphen)
        ∙ ap (λ l. long_or_other (rules_with flag picks) (option (codes "pick")) word l h) (no_long word no_hyphen)
        ∙ ap (λ l. short_or_plain (rules_with flag picks) (option (codes "pick")) word l h) (no_short word no_hyphen)
        ∙ ap (λ f. ((option_word f (codes "pick") word h).0, next (option_word f (codes "pick") word h).1)) (pick_by_id flag picks picked))

    -- a value that begins with a hyphen is refused
    value_refused : (word : Text) → IsFine word → begins_with_hyphen word ≡ true
        → turn_fault (shape_with flag picks) [] (at rows (Some (codes "pick", [])) (option (codes "pick"))) word ≡ [] → ⊥
    value_refused word fine hyphen = go (picks && bytes_eq word (codes "--pick")) refl
      where
        go : (x : Bool) → (picks && bytes_eq word (codes "--pick")) ≡ x → turn_fault (shape_with flag picks) [] (at rows (Some (codes "pick", [])) (option (codes "pick"))) word ≡ [] → ⊥
        go false e = word_stepped rows (Some (codes "pick", [])) (option (codes "pick")) None no_value_end word fine (λ no. absurd (true≢false (sym hyphen ∙ no))) e
        go true e = λ h. no_value_end (sym (picks_here rows (Some (codes "pick", [])) (option (codes "pick")) word e).0 ∙ h)

    value_end : (word : Text) (words : List Text) → IsFine word → Onward words
        → Ends (at rows (Some (codes "pick", [])) (option (codes "pick"))) (word ∷ words)
        (if begins_with_hyphen word then None else option_and_then (given_after flag picks words) (with_pick word g))
    value_end word words fine onward = go (begins_with_hyphen word) refl
      where
        go : (x : Bool) → begins_with_hyphen word ≡ x → Ends (at rows (Some (codes "pick", [])) (option (codes "pick"))) (word ∷ words)
            (cond x None (option_and_then (given_after flag picks words) (with_pick word g)))
        go true e = refused_first (at rows (Some (codes "pick", [])) (option (codes "pick"))) word words (value_refused word fine e)
        go false e =
            let turn = value_turn word e in
            passed_first (at rows (Some (codes "pick", [])) (option (codes "pick"))) (at rows (Some (codes "pick", word ∷ [])) idle) word words _ turn.0 turn.1
            (onward rows (Some (codes "pick", word ∷ [])) idle (with_pick word g) refl (value_settles word))

  -- one word, and no other
  one_end : (word : Text) → IsFine word → Onward (word ∷ [])
  one_end word fine rows pending waiting o between settles = go (picks && bytes_eq word (codes "--pick")) refl
    where
      same_some : (r : Option Given) → option_and_then (given_after flag picks []) r ≡ r
      same_some None = refl
      same_some (Some g) = refl

      apart : (r : Option Given) → option_and_then (given_after flag picks (word ∷ [])) r ≡ option_and_then (with_word flag picks word) r
      apart None = refl
      apart (Some g) = refl

      picked : (r : Option Given) → Settles flag picks rows pending r → (picks && bytes_eq word (codes "--pick")) ≡ true
          → Ends (at rows pending waiting) (word ∷ []) (option_and_then (given_after flag picks (word ∷ [])) r)
      picked None none e = refused_first (at rows pending waiting) word [] (λ h. none (sym (picks_here rows pending waiting word e).0 ∙ h))
      picked (Some g) led e =
          let turn = picks_here rows pending waiting word e in
          let after = settled_rows (rules_with flag picks) pending rows in
          subst (λ (r : Option Given). Ends (at rows pending waiting) (word ∷ []) r) (sym (pick_alone word e g))
          (passed_first (at rows pending waiting) (at after (Some (codes "pick", [])) (option (codes "pick"))) word [] None (turn.0 ∙ led.0) turn.1
          (bare_end after g (both picks _ e).0 led.1))

      go : (x : Bool) → (picks && bytes_eq word (codes "--pick")) ≡ x → Ends (at rows pending waiting) (word ∷ []) (option_and_then (given_after flag picks (word ∷ [])) o)
      go false e =
          subst (λ (r : Option Given). Ends (at rows pending waiting) (word ∷ []) r) (same_some _ ∙ sym (apart o))
          (stepped_on (at rows pending waiting) word [] (option_and_then (with_word flag picks word) o) none_end
          (word_stepped rows pending waiting o settles word fine (λ no. between) e))
      go true e = picked o settles e

  -- two words, and others
  two_end : (word second : Text) (words : List Text) → IsFine word → IsFine second → Onward (second ∷ words) → Onward words → Onward (word ∷ second ∷ words)
  two_end word second words fine also onward beyond rows pending waiting o between settles = go (picks && bytes_eq word (codes "--pick")) refl
    where
      apart : (r : Option Given) → (picks && bytes_eq word (codes "--pick")) ≡ false
          → option_and_then (given_after flag picks (word ∷ second ∷ words)) r ≡ option_and_then (given_after flag picks (second ∷ words)) (option_and_then (with_word flag picks word) r)
      apart None e = refl
      apart (Some g) e =
          ap (λ x. cond x (cond (begins_with_hyphen second) None (option_and_then (given_after flag picks words) (with_pick second g)))
          (option_and_then (given_after flag picks (second ∷ words)) (with_word flag picks word g))) e

      picked : (r : Option Given) → Settles flag picks rows pending r → (picks && bytes_eq word (codes "--pick")) ≡ true
          → Ends (at rows pending waiting) (word ∷ second ∷ words) (option_and_then (given_after flag picks (word ∷ second ∷ words)) r)
      picked None none e = refused_first (at rows pending waiting) word (second ∷ words) (λ h. none (sym (picks_here rows pending waiting word e).0 ∙ h))
      picked (Some g) led e =
          let turn = picks_here rows pending waiting word e in
          let after = settled_rows (rules_with flag picks) pending rows in
          let is = ap (λ x. cond x (cond (begins_with_hyphen second) None (option_and_then (given_after flag picks words) (with_pick second g)))
          (option_and_then (given_after flag picks (second ∷ words)) (with_word flag picks word g))) e in
          subst (λ (r : Option Given). Ends (at rows pending waiting) (word ∷ second ∷ words) r) (sym is)
          (passed_first (at rows pending waiting) (at after (Some (codes "pick", [])) (option (codes "pick"))) word (second ∷ words) _ (turn.0 ∙ led.0) turn.1
          (value_end after g (both picks _ e).0 led.1 second words also beyond))

      go : (x : Bool) → (picks && bytes_eq word (codes "--pick")) ≡ x → Ends (at rows pending waiting) (word ∷ second ∷ words) (option_and_then (given_after flag picks (word ∷ second ∷ words)) o)
      go false e =
          subst (λ (r : Option Given). Ends (at rows pending waiting) (word ∷ second ∷ words) r) (sym (apart o e))
          (stepped_on (at rows pending waiting) word (second ∷ words) (option_and_then (with_word flag picks word) o) onward
          (word_stepped rows pending waiting o settles word fine (λ no. between) e))
      go true e = picked o settles e

  pub words_end : (words : List Text) → AreFine words → Onward words
  words_end [] fine = none_end
  words_end (word ∷ []) fine = one_end word fine.0
  words_end (word ∷ second ∷ words) fine = two_end word second words fine.0 (fine.1).0 (words_end (second ∷ words) fine.1) (words_end words (fine.1).1)
