-- Words that may stand before `--`.
use Rattle.std.proofs.Common.{◌≡◌, ◌∙◌, refl, sym, subst, ap, cond, Bool, true, false, ◌&&◌, ◌||◌, List, [], ◌∷◌, Option, Some, None, codes, true≢false}
use Rattle.std.specs.List.{list_all, list_any}
use Rattle.std.specs.Option.{option_and_then}
use Rattle.std.specs.Str.{bytes_eq, is_utf8}
use Rattle.std.specs.Borrow.{Bor}
use Rattle.std.specs.Cmp.Lexicographic.{same_text}
use Rattle.std.proofs.lemmas.Str.{IsUtf8-from_is_utf8}
use Rattle.t32_base.proofs.Facts.{and_false}
use Rattle.clap.specs.Walk.{texts}
use Rattle.command_words.specs.Options.{Text, Given, begins_with_hyphen, given_after, is_end, is_hyphen, with_pick, with_word}
use Rattle.command_words.specs.Parsed.{AreFine}
use Rattle.command_words.proofs.Booleans.{both, neither}

any_text : (words : List (Bor Text)) → list_any (λ word. is_hyphen word.now) words ≡ list_any is_hyphen (texts words)
any_text [] = refl
any_text (word ∷ words) = ap (λ b. is_hyphen word.now || b) (any_text words)

are_fine : (words : List Text) → list_all is_utf8 words ≡ true → list_any is_end words ≡ false → list_any is_hyphen words ≡ false → AreFine words
are_fine [] text no_end no_hyphen = tt
are_fine (word ∷ words) text no_end no_hyphen =
    let t = both _ _ text in
    let e = neither _ _ no_end in
    let h = neither _ _ no_hyphen in
    (record { text = IsUtf8-from_is_utf8 word t.0; no_hyphen = h.0; no_end = e.0 }, are_fine words t.1 e.1 h.1)

pub words_fine : (words : List (Bor Text)) → list_all is_utf8 (texts words) ≡ true → list_any is_end (texts words) ≡ false → list_any (λ word. is_hyphen word.now) words ≡ false
    → AreFine (texts words)
words_fine words text no_end no_hyphen = are_fine (texts words) text no_end (sym (any_text words) ∙ no_hyphen)

-- ---- a hyphen alone gives nothing

module _ (flag : Text) (picks : Bool) where
  hyphen_adds : (word : Text) → is_hyphen word ≡ true → (g : Given) → with_word flag picks word g ≡ None
  hyphen_adds word e g =
      let family : Text → Type 0 = λ w. with_word flag picks w g ≡ None in
      subst family (sym (same_text word (codes "-") (sym e))) (ap (λ x. cond x (with_pick [] g) None) (and_false picks))

  hyphen_begins : (word : Text) → is_hyphen word ≡ true → begins_with_hyphen word ≡ true
  hyphen_begins word e = ap begins_with_hyphen (same_text word (codes "-") (sym e))

  no_hyphen_pick : (word : Text) → (picks && bytes_eq word (codes "--pick")) ≡ true → is_hyphen word ≡ false
  no_hyphen_pick word e = ap is_hyphen (same_text word (codes "--pick") (sym (both picks _ e).1))

  always_none : (o : Option Given) (k : Given → Option Given) → ((g : Given) → k g ≡ None) → option_and_then k o ≡ None
  always_none None k e = refl
  always_none (Some g) k e = e g

  none_twice : (b : Bool) (o : Option Given) → o ≡ None → cond b None o ≡ None
  none_twice true o e = refl
  none_twice false o e = e

  behind_word : (word : Text) (words : List Text) (g : Given) (x : Bool) → is_hyphen word ≡ x → (x || list_any is_hyphen words) ≡ true
      → (list_any is_hyphen words ≡ true → (g : Given) → given_after flag picks words g ≡ None) → option_and_then (given_after flag picks words) (with_word flag picks word g) ≡ None
  behind_word word words g true e has rest = ap (option_and_then (given_after flag picks words)) (hyphen_adds word e g)
  behind_word word words g false e has rest = always_none (with_word flag picks word g) (given_after flag picks words) (rest has)

  behind_value : (word : Text) (words : List Text) (g : Given) (x : Bool) → is_hyphen word ≡ x → (x || list_any is_hyphen words) ≡ true
      → (list_any is_hyphen words ≡ true → (g : Given) → given_after flag picks words g ≡ None)
      → cond (begins_with_hyphen word) None (option_and_then (given_after flag picks words) (with_pick word g)) ≡ None
  behind_value word words g true e has rest = ap (λ x. cond x None (option_and_then (given_after flag picks words) (with_pick word g))) (hyphen_begins word e)
  behind_value word words g false e has rest = none_twice (begins_with_hyphen word) _ (always_none (with_pick word g) (given_after flag picks words) (rest has))

  last_word : (word : Text) (g : Given) (x : Bool) → is_hyphen word ≡ x → (x || false) ≡ true → with_word flag picks word g ≡ None
  last_word word g true e has = hyphen_adds word e g
  last_word word g false e has = absurd (true≢false (sym has))

  two_words : (word second : Text) (words : List Text) (g : Given) (t : Bool) → (picks && bytes_eq word (codes "--pick")) ≡ t → list_any is_hyphen (word ∷ second ∷ words) ≡ true
      → (list_any is_hyphen (second ∷ words) ≡ true → (g : Given) → given_after flag picks (second ∷ words) g ≡ None)
      → (list_any is_hyphen words ≡ true → (g : Given) → given_after flag picks words g ≡ None)
      → cond t (cond (begins_with_hyphen second) None (option_and_then (given_after flag picks words) (with_pick second g)))
      (option_and_then (given_after flag picks (second ∷ words)) (with_word flag picks word g)) ≡ None
  two_words word second words g true e has next rest =
      behind_value second words g (is_hyphen second) refl (sym (ap (λ x. x || list_any is_hyphen (second ∷ words)) (no_hyphen_pick word e)) ∙ has) rest
  two_words word second words g false e has next rest = behind_word word (second ∷ words) g (is_hyphen word) refl has next

  gives_none : (words : List Text) → list_any is_hyphen words ≡ true → (g : Given) → given_after flag picks words g ≡ None
  gives_none [] has g = absurd (true≢false (sym has))
  gives_none (word ∷ []) has g = last_word word g (is_hyphen word) refl has
  gives_none (word ∷ second ∷ words) has g =
      two_words word second words g (picks && bytes_eq word (codes "--pick")) refl has (gives_none (second ∷ words)) (gives_none words)

  pub hyphen_gives_none : (words : List (Bor Text)) → list_any (λ word. is_hyphen word.now) words ≡ true → (g : Given) → given_after flag picks (texts words) g ≡ None
  hyphen_gives_none words has g = gives_none (texts words) (sym (any_text words) ∙ has) g
