-- Reading line by line.
use Rattle.std.proofs.Common.{◌≡◌, ℕ, ◌+◌, ◌≤◌, Bool, true, false, List, [], ◌∷◌, ◌++◌, length, Option, None, Result, Ok, Err, refl, sym, ap, ◌∙◌, arith, append_assoc}
use Rattle.std.specs.List.{find}
use Rattle.std.specs.Int.{div_ceil}
use Rattle.std.proofs.lemmas.List.{append-nil, length-append}
use Rattle.std.proofs.lemmas.Bool.{ltb-false}
use Rattle.rv_asm.specs.declared.labels.Place.{Place}
use Rattle.rv_asm.specs.declared.refusal.Rule.{Rule}
use Rattle.rv_asm.specs.declared.refusal.Rule.TheVariants.{ForeignByte, UnknownWord, BadForm, NumberRange, DefinedTwice, NeverDefined, TooFar, TooLong}
use Rattle.rv_asm.specs.declared.refusal.AsmRefused.{AsmRefused}
use Rattle.rv_asm.specs.declared.refusal.AsmRefused.TheVariants as refusals
use Rattle.rv_asm.specs.Statement.{Code, Nothing, One, Two, BranchTo, JumpTo, AddressOf, Bytes}
use Rattle.rv_asm.specs.Labels.{size_of, line_code, line_size, labels_from}
use Rattle.rv_asm.specs.Program.{is_undefined, too_far, target_of, words_of_bytes, breaks, broken_by, words_at, address_after, with_front, line_then, reading_from, reading_of_lines}
use Rattle.rv_asm.specs.Answers.{Refuses, RefusesLine}

-- ---- how many words

div_ceil_more : (n : ℕ) → div_ceil (n + 4) 4 ≡ div_ceil n 4 + 1
div_ceil_more n = omega arith

length-words_of_bytes : (bytes : List ℕ) → length (words_of_bytes bytes) ≡ div_ceil (length bytes) 4
length-words_of_bytes [] = refl
length-words_of_bytes (a ∷ []) = refl
length-words_of_bytes (a ∷ b ∷ []) = refl
length-words_of_bytes (a ∷ b ∷ c ∷ []) = refl
length-words_of_bytes (a ∷ b ∷ c ∷ d ∷ more) = omega (arith, length-words_of_bytes more, div_ceil_more (length more))

length-words_at : (labels : List (List ℕ × Place)) (here : ℕ) (code : Code) → length (words_at labels here code) ≡ size_of code
length-words_at labels here Nothing = refl
length-words_at labels here (One word) = refl
length-words_at labels here (Two first second) = refl
length-words_at labels here (BranchTo branch rs1 rs2 target) = refl
length-words_at labels here (JumpTo rd target) = refl
length-words_at labels here (AddressOf rd target) = refl
length-words_at labels here (Bytes bytes) = length-words_of_bytes bytes

-- ---- no rule is broken

none_passes : (p : Rule → Bool) (x : Rule) (xs : List Rule) → find p (x ∷ xs) ≡ None → (p x ≡ false) × (find p xs ≡ None)
none_passes p x xs e = by_test (p x) refl
  where
    by_test : (b : Bool) → p x ≡ b → (p x ≡ false) × (find p xs ≡ None)
    by_test true h = let f = rw h at e in absurd cc
    by_test false h = (h, rw h at e)

module _ (labels : List (List ℕ × Place)) where
  pub fits : (n words : ℕ) (line : List ℕ) → broken_by labels n words line ≡ None → words + line_size line ≤ 16384
  fits n words line e =
      let p = breaks labels n words line in
      let s1 = (none_passes p ForeignByte (UnknownWord ∷ BadForm ∷ NumberRange ∷ DefinedTwice ∷ NeverDefined ∷ TooFar ∷ TooLong ∷ []) e).1 in
      let s2 = (none_passes p UnknownWord (BadForm ∷ NumberRange ∷ DefinedTwice ∷ NeverDefined ∷ TooFar ∷ TooLong ∷ []) s1).1 in
      let s3 = (none_passes p BadForm (NumberRange ∷ DefinedTwice ∷ NeverDefined ∷ TooFar ∷ TooLong ∷ []) s2).1 in
      let s4 = (none_passes p NumberRange (DefinedTwice ∷ NeverDefined ∷ TooFar ∷ TooLong ∷ []) s3).1 in
      let s5 = (none_passes p DefinedTwice (NeverDefined ∷ TooFar ∷ TooLong ∷ []) s4).1 in
      let s6 = (none_passes p NeverDefined (TooFar ∷ TooLong ∷ []) s5).1 in
      let s7 = (none_passes p TooFar (TooLong ∷ []) s6).1 in
      ltb-false 16384 (words + line_size line) (none_passes p TooLong [] s7).0

  -- a line that breaks no rule names a label that is defined and near
  pub reaches_label : (n words : ℕ) (line : List ℕ) → broken_by labels n words line ≡ None
      → (is_undefined labels (target_of (line_code line)) ≡ false) × (too_far labels (line_code line) (address_after words) (target_of (line_code line)) ≡ false)
  reaches_label n words line e =
      let p = breaks labels n words line in
      let s1 = (none_passes p ForeignByte (UnknownWord ∷ BadForm ∷ NumberRange ∷ DefinedTwice ∷ NeverDefined ∷ TooFar ∷ TooLong ∷ []) e).1 in
      let s2 = (none_passes p UnknownWord (BadForm ∷ NumberRange ∷ DefinedTwice ∷ NeverDefined ∷ TooFar ∷ TooLong ∷ []) s1).1 in
      let s3 = (none_passes p BadForm (NumberRange ∷ DefinedTwice ∷ NeverDefined ∷ TooFar ∷ TooLong ∷ []) s2).1 in
      let s4 = (none_passes p NumberRange (DefinedTwice ∷ NeverDefined ∷ TooFar ∷ TooLong ∷ []) s3).1 in
      let s5 = (none_passes p DefinedTwice (NeverDefined ∷ TooFar ∷ TooLong ∷ []) s4).1 in
      let s6 = none_passes p NeverDefined (TooFar ∷ TooLong ∷ []) s5 in
      (s6.0, (none_passes p TooFar (TooLong ∷ []) s6.1).0)

  -- ---- a line more

  with_front_twice : (a b : List ℕ) (r : Result (List ℕ) (ℕ × Rule)) → with_front a (with_front b r) ≡ with_front (a ++ b) r
  with_front_twice a b (Ok rest) = ap Ok (sym (append_assoc a b rest))
  with_front_twice a b (Err refused) = refl

  -- the words so far, and what reading the lines that are left gives
  pub record ReadsOn (total : Result (List ℕ) (ℕ × Rule)) (words : List ℕ) (n : ℕ) (lines : List (List ℕ)) : Type 0 where
    pub same : with_front words (reading_from labels n (length words) lines) ≡ total
    pub room : length words ≤ 16384

  -- and so many words
  pub longer : (words new : List ℕ) (line : List ℕ) → new ≡ words ++ words_at labels (address_after (length words)) (line_code line) → length new ≡ length words + line_size line
  longer words new line is =
      ap length is ∙ length-append words (words_at labels (address_after (length words)) (line_code line)) ∙ ap (λ (k : ℕ). length words + k) (length-words_at labels (address_after (length words)) (line_code line))

  pub line_read : (total : Result (List ℕ) (ℕ × Rule)) (words new : List ℕ) (n : ℕ) (line : List ℕ) (lines : List (List ℕ)) → ReadsOn total words n (line ∷ lines) → broken_by labels n (length words) line ≡ None
      → new ≡ words ++ words_at labels (address_after (length words)) (line_code line) → ReadsOn total new (n + 1) lines
  line_read total words new n line lines reads none is =
      let added = words_at labels (address_after (length words)) (line_code line) in
      let long = longer words new line is in
      record {
        same = rw (long, is) (sym (with_front_twice words added (reading_from labels (n + 1) (length words + line_size line) lines))
            ∙ ap (λ (o : Option Rule). with_front words (line_then n o added (reading_from labels (n + 1) (length words + line_size line) lines))) (sym none)
            ∙ reads.same);
        room = rw long (fits n (length words) line none);
      }

  pub line_step : (total : Result (List ℕ) (ℕ × Rule)) (words new : List ℕ) (n : ℕ) (line : List ℕ) (left lines : List (List ℕ)) → left ≡ line ∷ lines → ReadsOn total words n left → broken_by labels n (length words) line ≡ None
      → new ≡ words ++ words_at labels (address_after (length words)) (line_code line) → ReadsOn total new (n + 1) lines
  line_step total words new n line left lines left_is reads none is =
      let r : ReadsOn total words n (line ∷ lines) = rw (← left_is) reads in
      line_read total words new n line lines r none is

  line_refused : (total : Result (List ℕ) (ℕ × Rule)) (words : List ℕ) (n : ℕ) (line : List ℕ) (lines : List (List ℕ)) (refused : AsmRefused) → ReadsOn total words n (line ∷ lines)
      → RefusesLine refused n (broken_by labels n (length words) line) → Refuses refused total
  line_refused total words n line lines (refusals.Line number rule) reads refuses =
      (refuses.0, sym reads.same ∙ ap (λ (o : Option Rule). with_front words (line_then n o (words_at labels (address_after (length words)) (line_code line)) (reading_from labels (n + 1) (length words + line_size line) lines))) refuses.1 ∙ ap (λ (k : ℕ). Err (k, refuses.0)) (sym refuses.2), refuses.3)
  line_refused total words n line lines refusals.NoMemory reads refuses = tt

  pub line_refused_by : (total : Result (List ℕ) (ℕ × Rule)) (words : List ℕ) (n : ℕ) (line : List ℕ) (left lines : List (List ℕ)) (refused : AsmRefused) (broken : Option Rule) → left ≡ line ∷ lines → ReadsOn total words n left
      → broken ≡ broken_by labels n (length words) line → RefusesLine refused n broken → Refuses refused total
  line_refused_by total words n line left lines refused broken left_is reads broken_is refuses =
      let r : ReadsOn total words n (line ∷ lines) = rw (← left_is) reads in
      let refuses' : RefusesLine refused n (broken_by labels n (length words) line) = rw (← broken_is) refuses in
      line_refused total words n line lines refused r refuses'

  pub all_read : (total : Result (List ℕ) (ℕ × Rule)) (words : List ℕ) (n : ℕ) → ReadsOn total words n [] → total ≡ Ok words
  all_read total words n reads = sym reads.same ∙ ap Ok (append-nil words)

pub reads_none : (lines : List (List ℕ)) → ReadsOn (labels_from 1 0 lines) (reading_of_lines lines) [] 1 lines
unfolding reading_of_lines
reads_none lines = record { same = front-nil (reading_from (labels_from 1 0 lines) 1 0 lines); room = omega arith }
  where
    front-nil : (r : Result (List ℕ) (ℕ × Rule)) → with_front [] r ≡ r
    front-nil (Ok rest) = refl
    front-nil (Err refused) = refl
