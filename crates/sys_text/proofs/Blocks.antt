use Rattle.std.proofs.Common.{◌≡◌, ℕ, zero, suc, ◌+◌, ◌*◌, ◌<◌, ◌≤◌, ◌^◌, Bool, true, false, cond, eqb, List, [], ◌∷◌, ◌++◌, length, take, drop, Option, Some, None, Result, Ok, Err, refl, sym, ap, ◌∙◌, arith, append_assoc, append-nil}
use Rattle.std.specs.List.{onto_first}
use Rattle.std.specs.Prelude.{codes}
use Rattle.std.specs.Option.{option_map}
use Rattle.std.specs.Str.{bytes_eq}
use Rattle.std.proofs.lemmas.Bool.{lt-leb}
use Rattle.text_parts.specs.Lines.{is_newline, lines_of, fields_of}
use Rattle.rv_asm.specs.declared.labels.Place.{Place as LabelPlace}
use Rattle.rv_asm.specs.Labels.{labels_from, line_size, line_code}
use Rattle.rv_asm.specs.Program.{reading_of_lines, reading_from as asm_reading_from, with_front, broken_by as asm_broken_by, words_at, address_after}
use Rattle.rv_asm.specs.declared.refusal.Rule.{Rule as AsmRule}
use Rattle.rv_asm.specs.declared.refusal.Rule.TheVariants as asm_rules
use Rattle.rv_asm.specs.declared.refusal.AsmRefused.{AsmRefused}
use Rattle.rv_asm.specs.declared.refusal.AsmRefused.TheVariants as asm_refusals
use Rattle.rv_asm.specs.Refusal.{number_of_rule as asm_number}
use Rattle.rv_asm.specs.Answers.{Refuses as AsmRefuses}
use Rattle.sys_text.specs.declared.refusal.SystemRefused.{SystemRefused}
use Rattle.sys_text.specs.declared.refusal.SystemRefused.TheVariants as refusals
use Rattle.sys_text.specs.declared.refusal.Rule.{Rule}
use Rattle.sys_text.specs.declared.refusal.Rule.TheVariants.{Room}
use Rattle.sys_text.specs.declared.system.Image.{Image}
use Rattle.sys_text.specs.declared.state.State.{State}
use Rattle.sys_text.specs.Refusal.{number_of_rule}
use Rattle.sys_text.specs.Rules.{fit_open}
use Rattle.sys_text.specs.Reading.{Answer, Place, Step, Goes, Refuses, InBlock, close_block, rule_in_block, is_end, lines_before_end, ended_in_block, reading_from, named, goes_on}
use Rattle.sys_text.specs.Answers.{IsRefusal, RefusesStep, RefusesBlock, IsCounted}
use Rattle.sys_text.proofs.LastLines.{block_named}

-- ---- how many lines

-- each line has a byte, or ends with one
pub length-lines : (text : List ℕ) → length (lines_of text) ≤ length text
length-lines [] = omega arith
length-lines (b ∷ bs) = by_head (length-lines bs) (is_newline b) refl
  where
    onto_le : (lines : List (List ℕ)) (n : ℕ) → length lines ≤ n → length (onto_first b lines) ≤ suc n
    onto_le [] n le = omega arith
    onto_le (line ∷ lines) n le = omega (arith, le)

    by_head : length (lines_of bs) ≤ length bs → (c : Bool) → is_newline b ≡ c → length (lines_of (b ∷ bs)) ≤ suc (length bs)
    by_head next true e = rw e (omega (arith, next))
    by_head next false e = rw e (onto_le (lines_of bs) (length bs) next)

count_some : (o : Option ℕ) (k : ℕ) → option_map (λ n. n + 1) o ≡ Some k → (j : ℕ) × (o ≡ Some j) × (k ≡ j + 1)
count_some None k e = absurd cc
count_some (Some j) k e = (j, refl, cc)

-- ---- the line of the end

pub other_first_field : (field : List ℕ) (fields : List (List ℕ)) → bytes_eq field (codes "end") ≡ false → is_end (field ∷ fields) ≡ false
other_first_field field [] e = e
other_first_field field (next ∷ fields) e = refl

-- ---- the lines up to the end

block_ends : (state : State) (header n : ℕ) (block : List (List ℕ)) (line : List ℕ) (lines : List (List ℕ)) → is_end (fields_of line) ≡ true
    → reading_from (InBlock state header block) n (line ∷ lines) ≡ goes_on (close_block state header (n + 1) (reading_of_lines block)) lines (λ next. reading_from next (n + 1) lines)
block_ends state header n block line lines e = rw e refl

block_line : (state : State) (header n : ℕ) (block : List (List ℕ)) (line : List ℕ) (lines : List (List ℕ)) → is_end (fields_of line) ≡ false → reading_from (InBlock state header block) n (line ∷ lines) ≡ reading_from (InBlock state header (block ++ line ∷ [])) (n + 1) lines
block_line state header n block line lines e = rw e refl

ends_here : (state : State) (header n m k : ℕ) (block : List (List ℕ)) (line : List ℕ) (lines : List (List ℕ)) → k ≡ 0 → m ≡ n + 1 → is_end (fields_of line) ≡ true
    → reading_from (InBlock state header block) n (line ∷ lines) ≡ goes_on (close_block state header m (reading_of_lines (block ++ take k (line ∷ lines)))) (drop 1 (drop k (line ∷ lines))) (λ next. reading_from next m (drop 1 (drop k (line ∷ lines))))
ends_here state header n m k block line lines first at e = rw (first, at, append-nil block) (block_ends state header n block line lines e)

one_line_more : (state : State) (header m k j : ℕ) (block : List (List ℕ)) (line : List ℕ) (lines : List (List ℕ)) → k ≡ suc j
    → goes_on (close_block state header m (reading_of_lines ((block ++ line ∷ []) ++ take j lines))) (drop 1 (drop j lines)) (λ next. reading_from next m (drop 1 (drop j lines))) ≡ goes_on (close_block state header m (reading_of_lines (block ++ take k (line ∷ lines)))) (drop 1 (drop k (line ∷ lines))) (λ next. reading_from next m (drop 1 (drop k (line ∷ lines))))
one_line_more state header m k j block line lines e = rw e (ap (λ b. goes_on (close_block state header m (reading_of_lines b)) (drop 1 (drop j lines)) (λ next. reading_from next m (drop 1 (drop j lines)))) (append_assoc block (line ∷ []) (take j lines)))

to_end : (state : State) (header n m k : ℕ) (block lines : List (List ℕ)) → lines_before_end lines ≡ Some k → m ≡ n + k + 1
    → reading_from (InBlock state header block) n lines ≡ goes_on (close_block state header m (reading_of_lines (block ++ take k lines))) (drop 1 (drop k lines)) (λ next. reading_from next m (drop 1 (drop k lines)))
to_end state header n m k block [] e is = absurd cc
to_end state header n m k block (line ∷ lines) e is = by_end (λ j f at. to_end state header (n + 1) m j (block ++ line ∷ []) lines f at) (is_end (fields_of line)) refl
  where
    by_end : ((j : ℕ) → lines_before_end lines ≡ Some j → m ≡ (n + 1) + j + 1 → reading_from (InBlock state header (block ++ line ∷ [])) (n + 1) lines ≡ goes_on (close_block state header m (reading_of_lines ((block ++ line ∷ []) ++ take j lines))) (drop 1 (drop j lines)) (λ next. reading_from next m (drop 1 (drop j lines))))
        → (b : Bool) → is_end (fields_of line) ≡ b → reading_from (InBlock state header block) n (line ∷ lines) ≡ goes_on (close_block state header m (reading_of_lines (block ++ take k (line ∷ lines)))) (drop 1 (drop k (line ∷ lines))) (λ next. reading_from next m (drop 1 (drop k (line ∷ lines))))
    by_end next true h =
        let f = rw h at e in
        let zero : k ≡ 0 = cc in
        let at : m ≡ n + 1 = omega (arith, is, zero) in
        ends_here state header n m k block line lines zero at h
    by_end next false h =
        let f = rw h at e in
        let j = count_some (lines_before_end lines) k f in
        let at : m ≡ (n + 1) + j.0 + 1 = omega (arith, is, j.2) in
        let one_more : k ≡ suc j.0 = omega (arith, j.2) in
        block_line state header n block line lines h ∙ next j.0 j.1 at
        ∙ one_line_more state header m k j.0 block line lines one_more

one_more_dropped : (k : ℕ) (lines : List (List ℕ)) → drop 1 (drop k lines) ≡ drop (suc k) lines
one_more_dropped zero [] = refl
one_more_dropped zero (line ∷ lines) = refl
one_more_dropped (suc k) [] = refl
one_more_dropped (suc k) (line ∷ lines) = one_more_dropped k lines

pub block_read : (state : State) (header count : ℕ) (text block after : List ℕ) → lines_before_end (lines_of text) ≡ Some count → lines_of block ≡ take count (lines_of text) → lines_of after ≡ drop (count + 1) (lines_of text)
    → reading_from (InBlock state header []) header (lines_of text) ≡ goes_on (close_block state header (header + count + 1) (reading_of_lines (lines_of block))) (lines_of after) (λ next. reading_from next (header + count + 1) (lines_of after))
block_read state header count text block after e front left =
    let m = header + count + 1 in
    let next : suc count ≡ count + 1 = omega arith in
    let behind : drop 1 (drop count (lines_of text)) ≡ lines_of after = one_more_dropped count (lines_of text) ∙ ap (λ n. drop n (lines_of text)) next ∙ sym left in
    to_end state header header m count [] (lines_of text) e refl
    ∙ ap (λ b. goes_on (close_block state header m (reading_of_lines b)) (drop 1 (drop count (lines_of text))) (λ next. reading_from next m (drop 1 (drop count (lines_of text))))) (sym front)
    ∙ ap (λ ls. goes_on (close_block state header m (reading_of_lines (lines_of block))) ls (λ next. reading_from next m ls)) behind

-- a block that does not end
pub no_end : (state : State) (header n : ℕ) (block lines : List (List ℕ)) → lines_before_end lines ≡ None → reading_from (InBlock state header block) n lines ≡ ended_in_block header (block ++ lines)
no_end state header n block [] e = ap (ended_in_block header) (sym (append-nil block))
no_end state header n block (line ∷ lines) e = by_end (λ f. no_end state header (n + 1) (block ++ line ∷ []) lines f) (is_end (fields_of line)) refl
  where
    none : (o : Option ℕ) → option_map (λ n. n + 1) o ≡ None → o ≡ None
    none None h = refl
    none (Some k) h = absurd cc

    by_end : (lines_before_end lines ≡ None → reading_from (InBlock state header (block ++ line ∷ [])) (n + 1) lines ≡ ended_in_block header ((block ++ line ∷ []) ++ lines))
        → (b : Bool) → is_end (fields_of line) ≡ b → reading_from (InBlock state header block) n (line ∷ lines) ≡ ended_in_block header (block ++ line ∷ lines)
    by_end next true h = let f = rw h at e in absurd cc
    by_end next false h =
        let f = rw h at e in
        block_line state header n block line lines h ∙ next (none (lines_before_end lines) f) ∙ ap (ended_in_block header) (append_assoc block (line ∷ []) lines)

-- ---- what the assembler says

front_err : (front : List ℕ) (r : Result (List ℕ) (ℕ × AsmRule)) (e : ℕ × AsmRule) → with_front front r ≡ Err e → r ≡ Err e
front_err front (Ok rest) e h = absurd cc
front_err front (Err refused) e h = h

-- the refused line is one of the block
refused_within : (labels : List (List ℕ × LabelPlace)) (n words : ℕ) (lines : List (List ℕ)) (m : ℕ) (rule : AsmRule) → asm_reading_from labels n words lines ≡ Err (m, rule) → m < n + length lines
refused_within labels n words [] m rule e = absurd cc
refused_within labels n words (line ∷ lines) m rule e = by_rule (λ f. refused_within labels (n + 1) (words + line_size line) lines m rule f) (asm_broken_by labels n words line) refl
  where
    line_in : Result (List ℕ) (ℕ × AsmRule) → ℕ
    line_in (Ok words) = n
    line_in (Err refused) = refused.0

    by_rule : (asm_reading_from labels (n + 1) (words + line_size line) lines ≡ Err (m, rule) → m < (n + 1) + length lines) → (o : Option AsmRule) → asm_broken_by labels n words line ≡ o → m < n + suc (length lines)
    by_rule next (Some r) h = let f = rw h at e in let same : n ≡ m = ap line_in f in omega (arith, same)
    by_rule next None h =
        let f = rw h at e in
        omega (arith, next (front_err (words_at labels (address_after words) (line_code line)) (asm_reading_from labels (n + 1) (words + line_size line) lines) (m, rule) f))

lines_within : (lines : List (List ℕ)) (m : ℕ) (rule : AsmRule) → reading_of_lines lines ≡ Err (m, rule) → m < 1 + length lines
unfolding reading_of_lines
lines_within lines m rule e = refused_within (labels_from 1 0 lines) 1 0 lines m rule e

pub refused_is_counted : (header : ℕ) (block : List ℕ) (asm : AsmRefused) → AsmRefuses asm (reading_of_lines (lines_of block)) → header + length block < 2 ^ 64 → IsCounted header asm
refused_is_counted header block (asm_refusals.Line line rule) a few = omega (arith, lines_within (lines_of block) line a.0 a.1, length-lines block, few)
refused_is_counted header block asm_refusals.NoMemory a few = tt

rule_is : (broken : AsmRule) (rule : ℕ) → rule ≡ asm_number broken → cond (eqb rule 1) 1 9 ≡ number_of_rule (rule_in_block broken)
rule_is asm_rules.ForeignByte rule e = rw e refl
rule_is asm_rules.UnknownWord rule e = rw e refl
rule_is asm_rules.BadForm rule e = rw e refl
rule_is asm_rules.NumberRange rule e = rw e refl
rule_is asm_rules.DefinedTwice rule e = rw e refl
rule_is asm_rules.NeverDefined rule e = rw e refl
rule_is asm_rules.TooFar rule e = rw e refl
rule_is asm_rules.TooLong rule e = rw e refl

pub refused_closes : (state : State) (header n : ℕ) (lines : List (List ℕ)) (asm : AsmRefused) (refused : SystemRefused) → AsmRefuses asm (reading_of_lines lines) → RefusesBlock refused header asm → RefusesStep refused (close_block state header n (reading_of_lines lines))
refused_closes state header n lines asm refusals.NoMemory a r = tt
refused_closes state header n lines (asm_refusals.Line asm_line asm_rule) (refusals.BadLine line rule) a r =
    (rule_in_block a.0, ap (close_block state header n) a.1 ∙ ap (λ (k : ℕ). Refuses k (rule_in_block a.0)) (sym r.0), r.1 ∙ rule_is a.0 asm_rule a.2)
refused_closes state header n lines asm_refusals.NoMemory (refusals.BadLine line rule) a r = absurd r

pub words_too_many : (state : State) (header n : ℕ) (words : List ℕ) (image : Image) → state.block ≡ Some image → 64 * image.pages < length words → close_block state header n (Ok words) ≡ Refuses n Room
words_too_many state header n words image is lt = rw (is, lt-leb (length words) (64 * image.pages) lt) refl

-- ---- the answer

abbrev refused_by : Rule → Step → Rule
refused_by other (Goes place) = other
refused_by other (Refuses line rule) = rule

-- the line that is refused is one of the block, or its end
closing_named : (state : State) (header n : ℕ) (reading : Result (List ℕ) (ℕ × AsmRule)) (line : ℕ) (rule : Rule) (after : List (List ℕ)) → close_block state header n reading ≡ Refuses line rule → named rule after ≡ rule
closing_named state header n (Err refused) line rule after e = let same : rule_in_block refused.1 ≡ rule = ap (refused_by Room) e in ap (λ (r : Rule). named r after) (sym same) ∙ block_named refused.1 after ∙ same
closing_named state header n (Ok words) line rule after e = by_fit (fit_open state.block (length words)) refl
  where
    by_fit : (b : Bool) → fit_open state.block (length words) ≡ b → named rule after ≡ rule
    by_fit true h = let f = rw h at e in absurd cc
    by_fit false h = let f = rw h at e in let same : Room ≡ rule = ap (refused_by Room) f in ap (λ (r : Rule). named r after) (sym same) ∙ same

pub refused_read : (refused : SystemRefused) (state : State) (header n : ℕ) (reading : Result (List ℕ) (ℕ × AsmRule)) (after : List (List ℕ)) (rest : Place → Answer) → RefusesStep refused (close_block state header n reading) → IsRefusal refused (goes_on (close_block state header n reading) after rest)
refused_read (refusals.BadLine line rule) state header n reading after rest r =
    (r.0, ap (λ (s : Step). goes_on s after rest) r.1 ∙ ap (λ (broken : Rule). Err (line, broken)) (closing_named state header n reading line r.0 after r.1), r.2)
refused_read refusals.NoMemory state header n reading after rest r = tt
