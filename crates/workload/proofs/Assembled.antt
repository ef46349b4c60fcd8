-- The words of the two programs, by the definition of the assembler.
use Rattle.std.proofs.Common.{◌≡◌, ◌∙◌, refl, ap, ℕ, ◌+◌, ◌*◌, ◌≤◌, ◌<◌, ◌-◌, Bool, true, false, List, [], ◌∷◌, ◌++◌, length, get_or, None, Result, Ok, Err, arith}
use Rattle.std.specs.Prelude.{◌&&◌, ◌==◌}
use Rattle.std.specs.Fmt.{digits}
use Rattle.std.specs.List.{list_all, range_with_len}
use Rattle.std.proofs.lemmas.Bool.Decides.{nat_tests}
use Rattle.std.proofs.lemmas.List.Folds.{list_all_at}
use Rattle.std.proofs.lemmas.List.FromFn.{length-range_with_len, get_or-range_with_len}
use Rattle.text_parts.specs.Lines.{are_printable}
use Rattle.rv_asm.specs.declared.refusal.Rule.{Rule}
use Rattle.rv_asm.specs.Line.{label_of}
use Rattle.rv_asm.specs.declared.labels.Place.{Place}
use Rattle.rv_asm.specs.Labels.{labels_from, own_code, code_or_nothing, line_code, line_size, size_of, if_label, defined_in, entry_at}
use Rattle.rv_asm.specs.Statement.{Code, Nothing, One, Two, BranchTo, JumpTo, AddressOf, Bytes, code_in}
use Rattle.rv_asm.specs.Program.{reading_from, reading_of_lines, broken_by, with_front, line_then, words_at, address_after}
use Rattle.workload.specs.Programs.{rounds_line, head_loop, words_or_none, head_words, link_words}
use Rattle.workload.specs.declared.programs.TheConstants.{HEAD, LINK}
use Rattle.workload.specs.Ring.{is_size}

-- ---- a program behind its first line: one word without a label

-- such a line breaks no rule
unbroken : (labels : List (List ℕ × Place)) (line : List ℕ) (word : ℕ) → are_printable line ≡ true → own_code line ≡ Ok (One word) → label_of line ≡ None → broken_by labels 1 0 line ≡ None
unbroken labels line word printable own unlabelled = rw (printable, own, unlabelled) refl

-- a first line without a label, which stands for one word
with_first : (line : List ℕ) (word : ℕ) (lines : List (List ℕ)) (words : List ℕ) → are_printable line ≡ true → own_code line ≡ Ok (One word) → label_of line ≡ None
    → reading_from (labels_from 2 1 lines) 2 1 lines ≡ Ok words → reading_of_lines (line ∷ lines) ≡ Ok (word ∷ words)
unfolding reading_of_lines
with_first line word lines words printable own unlabelled rest =
    let labels = labels_from 1 0 (line ∷ lines) in
    let size : line_size line ≡ 1 = ap (λ c. size_of (code_or_nothing c)) own in
    let code : line_code line ≡ One word = ap code_or_nothing own in
    let label : defined_in line ≡ None = ap if_label unlabelled in
    let same : labels ≡ labels_from 2 1 lines = λ i. entry_at 1 0 (label i) ++ labels_from 2 (0 + size i) lines in
    let front : reading_of_lines (line ∷ lines) ≡ with_front (word ∷ []) (reading_from labels 2 1 lines) =
    λ i. line_then 1 (unbroken labels line word printable own unlabelled i) (words_at labels (address_after 0) (code i)) (reading_from labels 2 (0 + size i) lines) in
    front ∙ ap (λ (l : List (List ℕ × Place)). with_front (word ∷ []) (reading_from l 2 1 lines)) same ∙ ap (with_front (word ∷ [])) rest

-- ---- the first line of `head`, at each size

abbrev stands_for : Result Code Rule → ℕ → Bool
stands_for (Ok (One word)) wanted = word == wanted
stands_for _ wanted = false

stands_for_one : (code : Result Code Rule) (word : ℕ) → stands_for code word ≡ true → code ≡ Ok (One word)
stands_for_one (Ok Nothing) word e = cc
stands_for_one (Ok (One other)) word e = let same : other ≡ word = grind (arith, nat_tests, e) in ap (λ w. Ok (One w)) same
stands_for_one (Ok (Two a b)) word e = cc
stands_for_one (Ok (BranchTo b x y t)) word e = cc
stands_for_one (Ok (JumpTo d t)) word e = cc
stands_for_one (Ok (AddressOf d t)) word e = cc
stands_for_one (Ok (Bytes b)) word e = cc
stands_for_one (Err r) word e = cc

-- the word of `li s0, size`
abbrev pub rounds_word : ℕ → ℕ
rounds_word size = 1043 + 1048576 * size

abbrev is_assembled : ℕ → Bool
is_assembled size = are_printable (rounds_line size) && stands_for (own_code (rounds_line size)) (rounds_word size)

-- what holds of each number of a range holds of one
at_number : (p : ℕ → Bool) (from count n : ℕ) → list_all p (range_with_len from count) ≡ true → from ≤ n → n < from + count → p n ≡ true
at_number p from count n all low high = by_test (p n) refl
  where
    by_test : (b : Bool) → p n ≡ b → p n ≡ true
    by_test true e = e
    by_test false e =
        let within : n - from < length (range_with_len from count) = omega (arith, length-range_with_len from count, low, high) in
        let place : get_or (range_with_len from count) (n - from) 0 ≡ n = omega (arith, get_or-range_with_len from count (n - from) 0 (omega (arith, low, high)), low) in
        let fails : list_all p (range_with_len from count) ≡ false = list_all_at p (range_with_len from count) (n - from) 0 within (ap p place ∙ e) in
        cc

all_sizes : list_all is_assembled (range_with_len 1 1000) ≡ true
unfolding digits code_in
all_sizes = refl

size_assembled : (size : ℕ) → is_size size ≡ true → is_assembled size ≡ true
size_assembled size e = at_number is_assembled 1 1000 size all_sizes (grind (arith, nat_tests, e)) (grind (arith, nat_tests, e))

and_left : (a b : Bool) → a && b ≡ true → a ≡ true
and_left true b e = refl
and_left false b e = cc

and_right : (a b : Bool) → a && b ≡ true → b ≡ true
and_right true b e = e
and_right false b e = cc

-- ---- the words

-- what stands behind the first word of `head`
head_rest : reading_from (labels_from 2 1 head_loop) 2 1 head_loop ≡ Ok HEAD
unfolding code_in
head_rest = refl

pub head_words_are : (size : ℕ) → is_size size ≡ true → head_words size ≡ rounds_word size ∷ HEAD
head_words_are size e =
    let printable : are_printable (rounds_line size) ≡ true = and_left _ _ (size_assembled size e) in
    let own : own_code (rounds_line size) ≡ Ok (One (rounds_word size)) = stands_for_one _ _ (and_right _ _ (size_assembled size e)) in
    ap words_or_none (with_first (rounds_line size) (rounds_word size) head_loop HEAD printable own refl head_rest)

pub link_words_are : link_words ≡ LINK
unfolding reading_of_lines code_in
link_words_are = refl
