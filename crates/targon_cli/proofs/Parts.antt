-- The parts of an input.
use Rattle.std.proofs.Common.{◌≡◌, ℕ, ◌≤◌, ◌<◌, Bool, true, false, List, [], ◌∷◌, length, refl, sym, ◌∙◌, true≢false, ap, arith}
use Rattle.std.specs.Prelude.{◌==◌}
use Rattle.std.specs.List.{onto_first}
use Rattle.text_parts.specs.Lines.{lines_of, is_newline}
use Rattle.sys_text.specs.declared.system.System.{System}
use Rattle.targon_cli.specs.Sections.{begins_section, lines_before_section, items_of_lines}
use Rattle.targon_cli.specs.Reply.{RunsBy, FollowsSection}

-- the section begins behind at most all lines
pub before_within : (word : List ℕ) (lines : List (List ℕ)) → lines_before_section word lines ≤ length lines
before_within word [] = omega arith
before_within word (line ∷ lines) = by_line (before_within word lines) (begins_section word line) refl
  where
    by_line : lines_before_section word lines ≤ length lines → (b : Bool) → begins_section word line ≡ b → lines_before_section word (line ∷ lines) ≤ length (line ∷ lines)
    by_line h true e = rw e (omega arith)
    by_line h false e = rw e (omega (arith, h))

-- bytes that are not found empty are some
pub some_of : (bytes : List ℕ) (b : Bool) → b ≡ (length bytes == 0) → b ≡ false → 0 < length bytes
some_of [] b e f = absurd (true≢false (sym e ∙ f))
some_of (x ∷ xs) b e f = omega arith

onto_some : (b : ℕ) (lines : List (List ℕ)) → onto_first b lines ≡ [] → ⊥
onto_some b [] e = omega (arith, ap length e)
onto_some b (line ∷ lines) e = omega (arith, ap length e)

-- bytes have a line
pub lines_some : (text : List ℕ) → 0 < length text → lines_of text ≡ [] → ⊥
lines_some [] p e = omega arith
lines_some (b ∷ bs) p e = by_newline (is_newline b) refl
  where
    by_newline : (n : Bool) → is_newline b ≡ n → ⊥
    by_newline true f = omega (arith, ap length (rw f at e))
    by_newline false f = onto_some b (lines_of bs) (rw f at e)

-- a section that has lines is followed
pub runs_section : (system : System) (lines : List (List ℕ)) (status : ℕ) (text : List ℕ) → (lines ≡ [] → ⊥) → FollowsSection system (items_of_lines lines) status text → RunsBy system lines status text
runs_section system [] status text n f = absurd (n refl)
runs_section system (line ∷ lines) status text n f = f
