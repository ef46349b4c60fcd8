-- The script words of texts, one text more at a time.
use Rattle.std.proofs.Common.{◌≡◌, ◌∙◌, ◌<◌, ◌+◌, refl, sym, ap, ap₂, arith, ℕ, zero, suc, List, [], ◌∷◌, ◌++◌, length, take, Option, Some, None, option_map}
use Rattle.std.specs.List.{slice_index_or}
use Rattle.std.specs.Option.{option_and_then}
use Rattle.std.specs.Borrow.{Bor}
use Rattle.std.proofs.lemmas.List.{map-append, take_more}
use Rattle.clap.specs.Walk.{Text, texts}
use Rattle.cert_sched.specs.declared.script.ScriptWord.{ScriptWord}
use Rattle.command_words.specs.Script.{checked, script_of, script_word, script_words}

-- words put before others
abbrev onto : List ScriptWord → Option (List ScriptWord) → Option (List ScriptWord)
onto words others = option_map (λ more. words ++ more) others

abbrev joined : Option (List ScriptWord) → Option (List ScriptWord) → Option (List ScriptWord)
joined o others = option_and_then (λ words. onto words others) o

script_words-append : (front back : List Text) → script_words (front ++ back) ≡ joined (script_words front) (script_words back)
script_words-append [] back = sym (go (script_words back))
  where
    go : (others : Option (List ScriptWord)) → onto [] others ≡ others
    go None = refl
    go (Some words) = refl
script_words-append (text ∷ front) back = first (script_word text) (script_words-append front back)
  where
    onto_more : (word : ScriptWord) (words : List ScriptWord) (others : Option (List ScriptWord)) → option_map (λ more. word ∷ more) (onto words others) ≡ onto (word ∷ words) others
    onto_more word words None = refl
    onto_more word words (Some more) = refl

    rest : (word : ScriptWord) (o : Option (List ScriptWord)) → option_map (λ more. word ∷ more) (joined o (script_words back)) ≡ joined (option_map (λ more. word ∷ more) o) (script_words back)
    rest word None = refl
    rest word (Some words) = onto_more word words (script_words back)

    first : (o : Option ScriptWord) → script_words (front ++ back) ≡ joined (script_words front) (script_words back)
        → option_and_then (λ word. option_map (λ more. word ∷ more) (script_words (front ++ back))) o
        ≡ joined (option_and_then (λ word. option_map (λ more. word ∷ more) (script_words front)) o) (script_words back)
    first None e = refl
    first (Some word) e = ap (option_map (λ more. word ∷ more)) e ∙ rest word (script_words front)

-- one text more that is a script word
pub script_words_more : (xs : List (Bor Text)) (i : ℕ) (d : Bor Text) (words : List ScriptWord) (word : ScriptWord) → i < length xs → script_words (texts (take i xs)) ≡ Some words
    → script_word (slice_index_or xs i d).now ≡ Some word → script_words (texts (take (i + 1) xs)) ≡ Some (words ++ word ∷ [])
script_words_more xs i d words word below front next =
    ap (λ ys. script_words (texts ys)) (take_more xs i d below) ∙ ap script_words (map-append (λ (s : Bor Text). s.now) (take i xs) (slice_index_or xs i d ∷ []))
    ∙ script_words-append (texts (take i xs)) ((slice_index_or xs i d).now ∷ [])
    ∙ ap (λ o. joined o (script_words ((slice_index_or xs i d).now ∷ []))) front
    ∙ ap (λ o. onto words (option_and_then (λ w. option_map (λ more. w ∷ more) (Some [])) o)) next

-- one text that is no script word
pub script_words_none : (xs : List (Bor Text)) (i : ℕ) (d : Bor Text) → i < length xs → script_word (slice_index_or xs i d).now ≡ None → script_words (texts xs) ≡ None
script_words_none [] i d below none = absurd (omega arith)
script_words_none (x ∷ xs) zero d below none = ap (option_and_then (λ w. option_map (λ more. w ∷ more) (script_words (texts xs)))) none
script_words_none (x ∷ xs) (suc i) d below none = go (script_word x.now) (script_words_none xs i d (omega arith) none)
  where
    go : (o : Option ScriptWord) → script_words (texts xs) ≡ None → option_and_then (λ w. option_map (λ more. w ∷ more) (script_words (texts xs))) o ≡ None
    go None e = refl
    go (Some w) e = ap (option_map (λ more. w ∷ more)) e

-- the script of the texts of two lists, by the words of each
pub script_of_both : (front back : List Text) (a b : Option (List ScriptWord)) → a ≡ script_words front → b ≡ script_words back
    → option_and_then checked (option_and_then (λ words. option_map (λ more. words ++ more) b) a) ≡ script_of (front ++ back)
script_of_both front back a b first second = sym (ap (option_and_then checked) (script_words-append front back ∙ ap₂ joined (sym first) (sym second)))
