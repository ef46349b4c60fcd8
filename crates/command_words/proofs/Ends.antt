-- The words before the first `--`.
use Rattle.std.proofs.Common.{◌≡◌, ◌∙◌, refl, sym, ap, ap₂, cond, Bool, true, false, not, ◌&&◌, ◌||◌, ℕ, zero, suc, ◌+◌, ◌-◌, length-drop, List, [], ◌∷◌, ◌++◌, take, drop, length, ◌<◌, ◌≤◌, arith, Some, None, true≢false}
use Rattle.std.specs.List.{slice_index_or, after_first, before_first, list_all, list_any, position, position_or_len}
use Rattle.std.specs.Borrow.{Bor}
use Rattle.std.specs.Prelude.{nat_lt}
use Rattle.std.proofs.lemmas.Bool.{ltb-false, ltb-true}
use Rattle.std.proofs.lemmas.List.{drop_all, map-append, take_all, take_more}
use Rattle.clap.specs.Walk.{Text, texts}
use Rattle.command_words.proofs.Lexical.{one_more}

position_of_texts : (p : Text → Bool) (words : List (Bor Text)) → position_or_len (λ word. p word.now) words ≡ position_or_len p (texts words)
position_of_texts p [] = refl
position_of_texts p (word ∷ words) = ap (λ n. cond (not (p word.now)) (1 + n) 0) (position_of_texts p words)

texts-take : (n : ℕ) (words : List (Bor Text)) → texts (take n words) ≡ take n (texts words)
texts-take zero words = refl
texts-take (suc n) [] = refl
texts-take (suc n) (word ∷ words) = ap (λ ts. word.now ∷ ts) (texts-take n words)

texts-drop : (n : ℕ) (words : List (Bor Text)) → texts (drop n words) ≡ drop n (texts words)
texts-drop zero words = refl
texts-drop (suc n) [] = refl
texts-drop (suc n) (word ∷ words) = texts-drop n words

pub before_texts : (p : Text → Bool) (words : List (Bor Text)) → texts (take (position_or_len (λ word. p word.now) words) words) ≡ before_first p (texts words)
before_texts p words = texts-take (position_or_len (λ word. p word.now) words) words ∙ ap (λ n. take n (texts words)) (position_of_texts p words)

pub behind_texts : (p : Text → Bool) (words : List (Bor Text)) → texts (drop (position_or_len (λ word. p word.now) words + 1) words) ≡ after_first p (texts words)
behind_texts p words = texts-drop (position_or_len (λ word. p word.now) words + 1) words ∙ ap (λ n. drop (n + 1) (texts words)) (position_of_texts p words)

pub all_before : (q : Text → Bool) (n : ℕ) (words : List Text) → list_all q words ≡ true → list_all q (take n words) ≡ true
all_before q zero words all = refl
all_before q (suc n) [] all = refl
all_before q (suc n) (word ∷ words) all = go (q word) all (all_before q n words)
  where
    go : (b : Bool) → (b && list_all q words) ≡ true → (list_all q words ≡ true → list_all q (take n words) ≡ true) → (b && list_all q (take n words)) ≡ true
    go true e rest = rest e
    go false e rest = absurd (true≢false (sym e))

pub none_before : (p : Text → Bool) (words : List Text) → list_any p (before_first p words) ≡ false
none_before p [] = refl
none_before p (word ∷ words) = go (p word) refl (none_before p words)
  where
    go : (b : Bool) → p word ≡ b → list_any p (take (position_or_len p words) words) ≡ false → list_any p (take (cond (not b) (1 + position_or_len p words) 0) (word ∷ words)) ≡ false
    go true e rest = refl
    go false e rest = ap (λ n. list_any p (take n (word ∷ words))) (one_more (position_or_len p words)) ∙ ap (λ b. b || list_any p (take (position_or_len p words) words)) e ∙ rest

-- the words before and behind the place where the first passes, or all of them
module _ (p : Text → Bool) (words : List (Bor Text)) where
  found_at : (n : ℕ) → Some n ≡ position (λ word. p word.now) words → (position_or_len (λ word. p word.now) words ≡ n) × (n < length words)
  found_at n e = go (nat_lt (position_or_len (λ word. p word.now) words) (length words)) refl e
    where
      go : (b : Bool) → nat_lt (position_or_len (λ word. p word.now) words) (length words) ≡ b → Some n ≡ cond b (Some (position_or_len (λ word. p word.now) words)) None
          → (position_or_len (λ word. p word.now) words ≡ n) × (n < length words)
      go true below is =
          let same : position_or_len (λ word. p word.now) words ≡ n = cc in
          (same, ap_lt same (ltb-true _ _ below))
        where
          ap_lt : position_or_len (λ word. p word.now) words ≡ n → position_or_len (λ word. p word.now) words < length words → n < length words
          ap_lt same below = omega arith
      go false below is = let bad : Some n ≡ None = is in cc

  not_found : None ≡ position (λ word. p word.now) words → length words ≤ position_or_len (λ word. p word.now) words
  not_found e = go (nat_lt (position_or_len (λ word. p word.now) words) (length words)) refl e
    where
      go : (b : Bool) → nat_lt (position_or_len (λ word. p word.now) words) (length words) ≡ b → None ≡ cond b (Some (position_or_len (λ word. p word.now) words)) None
          → length words ≤ position_or_len (λ word. p word.now) words
      go true below is = let bad : None ≡ Some (position_or_len (λ word. p word.now) words) = is in cc
      go false below is = ltb-false _ _ below

  pub within : (n : ℕ) → Some n ≡ position (λ word. p word.now) words → n < length words
  within n e = (found_at n e).1

  pub before_found : (n : ℕ) → Some n ≡ position (λ word. p word.now) words → texts (take n words) ≡ before_first p (texts words)
  before_found n e = ap (λ k. texts (take k words)) (sym (found_at n e).0) ∙ before_texts p words

  pub behind_found : (n : ℕ) → Some n ≡ position (λ word. p word.now) words → texts (drop (n + 1) words) ≡ after_first p (texts words)
  behind_found n e = ap (λ k. texts (drop (k + 1) words)) (sym (found_at n e).0) ∙ behind_texts p words

  pub all_before_none : None ≡ position (λ word. p word.now) words → texts words ≡ before_first p (texts words)
  all_before_none e = ap texts (sym (take_all _ words (not_found e))) ∙ before_texts p words

  pub none_behind : None ≡ position (λ word. p word.now) words → [] ≡ after_first p (texts words)
  none_behind e =
      let past : length words ≤ position_or_len (λ word. p word.now) words + 1 = omega (arith, not_found e) in
      ap texts (sym (drop_all (position_or_len (λ word. p word.now) words + 1) words past)) ∙ behind_texts p words

-- a slice from a place to the end is what stands there
pub rest_all : (n : ℕ) (words : List (Bor Text)) → take (length words - n) (drop n words) ≡ drop n words
rest_all n words = take_all _ (drop n words) (omega (arith, length-drop n words))

pub all_taken : (words : List (Bor Text)) → take (length words) words ≡ words
all_taken words = take_all _ words (omega arith)

pub none_left : (words : List (Bor Text)) → drop (length words) words ≡ []
none_left words = drop_all (length words) words (omega arith)

-- ---- one word more

pub not_all : (q : Text → Bool) (words : List Text) (i : ℕ) (d : Text) → i < length words → q (slice_index_or words i d) ≡ false → list_all q words ≡ false
not_all q [] i d below fails = absurd (omega arith)
not_all q (word ∷ words) zero d below fails = ap (λ b. b && list_all q words) fails
not_all q (word ∷ words) (suc i) d below fails = go (q word) (not_all q words i d (omega arith) fails)
  where
    go : (b : Bool) → list_all q words ≡ false → (b && list_all q words) ≡ false
    go true e = e
    go false e = refl

pub all_more : (q : Text → Bool) (words : List Text) (i : ℕ) (d : Text) → i < length words → list_all q (take i words) ≡ true → q (slice_index_or words i d) ≡ true
    → list_all q (take (i + 1) words) ≡ true
all_more q words i d below all holds = ap (list_all q) (take_more words i d below) ∙ go (take i words) all
  where
    go : (front : List Text) → list_all q front ≡ true → list_all q (front ++ slice_index_or words i d ∷ []) ≡ true
    go [] e = ap (λ b. b && true) holds
    go (word ∷ front) e = step (q word) e (go front)
      where
        step : (b : Bool) → (b && list_all q front) ≡ true → (list_all q front ≡ true → list_all q (front ++ slice_index_or words i d ∷ []) ≡ true) → (b && list_all q (front ++ slice_index_or words i d ∷ [])) ≡ true
        step true e rest = rest e
        step false e rest = absurd (true≢false (sym e))

pub texts_more : (texts_so_far : List (Bor Text)) (words : List Text) (i : ℕ) (d : Text) (text : Bor Text) → i < length words → texts texts_so_far ≡ take i words → text.now ≡ slice_index_or words i d
    → texts (texts_so_far ++ text ∷ []) ≡ take (i + 1) words
texts_more so_far words i d text below front is =
    map-append (λ (s : Bor Text). s.now) so_far (text ∷ []) ∙ ap₂ (λ (xs : List Text) (x : Text). xs ++ x ∷ []) front is ∙ sym (take_more words i d below)
