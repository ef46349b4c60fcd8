-- The lines that are kept of a text, by its first line.
use Rattle.std.proofs.Common.{◌≡◌, ℕ, false, not, List, ◌∷◌, map, refl, ap, ◌∙◌}
use Rattle.std.specs.List.{filter}
use Rattle.text_parts.specs.Lines.{lines_of, fields_of}
use Rattle.cert_sched.specs.Lines.{is_skipped, kept_lines}

abbrev kept_of : List (List ℕ) → List (List (List ℕ))
kept_of lines = filter (λ fields. not (is_skipped fields)) (map fields_of lines)

keep : (line : List ℕ) (lines : List (List ℕ)) → is_skipped (fields_of line) ≡ false → kept_of (line ∷ lines) ≡ fields_of line ∷ kept_of lines
keep line lines kept = rw kept refl

-- a first line that is not skipped
pub kept_first : (text line rest : List ℕ) → lines_of text ≡ line ∷ lines_of rest → is_skipped (fields_of line) ≡ false → kept_lines text ≡ fields_of line ∷ kept_lines rest
kept_first text line rest is kept = ap kept_of is ∙ keep line (lines_of rest) kept
