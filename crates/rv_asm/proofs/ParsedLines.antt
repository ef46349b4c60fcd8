-- The texts of lines that were parsed, from one of them on.
use Rattle.std.proofs.Common.{◌≡◌, ℕ, ◌+◌, ◌<◌, ◌≤◌, List, [], ◌∷◌, ◌++◌, length, get_or, drop, Result, Ok, sym, ap, ◌∙◌}
use Rattle.std.proofs.lemmas.List.{drop_more, drop_all, append-nil}
use Rattle.rv_asm.specs.declared.parsed.Parsed.{Parsed}
use Rattle.rv_asm.specs.declared.labels.Place.{Place}
use Rattle.std.specs.List.{All, Contains}
use Rattle.rv_asm.specs.declared.refusal.Rule.{Rule}
use Rattle.rv_asm.specs.Labels.{labels_from}
use Rattle.rv_asm.specs.Program.{reading_of_lines}
use Rattle.rv_asm.proofs.Reading.{ReadsOn, reads_none, all_read}
use Rattle.rv_asm.specs.Parsed.{texts_of}

-- the line with this number, counted from 0, and those after it
pub at_line : (lines : List Parsed) (i : ℕ) (parsed : Parsed) → i < length lines → parsed ≡ get_or lines i parsed → texts_of (drop i lines) ≡ parsed.line.now ∷ texts_of (drop (i + 1) lines)
at_line lines i parsed lt is = ap texts_of (drop_more lines i parsed lt ∙ ap (λ (p : Parsed). p ∷ drop (i + 1) lines) (sym is))

-- after the last line
pub past_lines : (lines : List Parsed) (i : ℕ) → length lines ≤ i → texts_of (drop i lines) ≡ []
past_lines lines i le = ap texts_of (drop_all i lines le)

pub labels_end : (old total : List (List ℕ × Place)) (n words : ℕ) (texts : List (List ℕ)) → texts ≡ [] → old ++ labels_from n words texts ≡ total → old ≡ total
labels_end old total n words texts none so_far = sym (append-nil old) ∙ ap (λ (t : List (List ℕ)). old ++ labels_from n words t) (sym none) ∙ so_far

-- ---- before the first line and after the last

pub reads_first : (words : List ℕ) (lines : List (List ℕ)) → words ≡ [] → ReadsOn (labels_from 1 0 lines) (reading_of_lines lines) words 1 lines
reads_first words lines none = rw none (reads_none lines)

pub reads_last : (labels : List (List ℕ × Place)) (total : Result (List ℕ) (ℕ × Rule)) (words : List ℕ) (n : ℕ) (texts : List (List ℕ)) → texts ≡ [] → ReadsOn labels total words n texts → total ≡ Ok words
reads_last labels total words n texts none reads = let r : ReadsOn labels total words n [] = rw (sym none) reads in all_read labels total words n r

pub own_first : (labels : List (List ℕ × Place)) (words : List ℕ) (lines : List (List ℕ)) → words ≡ [] → All (Contains labels) (labels_from 1 0 lines) → All (Contains labels) (labels_from 1 (length words) lines)
own_first labels words lines none own = rw none own
