-- All parts in front of a text are passed.
use Rattle.std.proofs.Common.{◌≡◌, ℕ, zero, suc, ◌≤◌, List, [], ◌∷◌, ◌++◌, length, Option, Some, None, refl, sym, ap, ◌∙◌, arith, length-append, append_assoc, subst}
use Rattle.std.specs.Option.{option_map_or}
use Rattle.log_section.specs.Lines.{behind_most}
use Rattle.log_section.proofs.Walks.{most_bad}

-- the text is left where such parts in front of it are passed, however many more may be looked for
abbrev pub Reaches : (List ℕ → Option (List ℕ)) → List ℕ → List ℕ → Type 0
Reaches part text left = (n : ℕ) → length text ≤ n → behind_most part n text ≡ left

pub reach_here : (part : List ℕ → Option (List ℕ)) (text : List ℕ) → part text ≡ None → Reaches part text text
reach_here part text e n le = most_bad part n text (behind_most part n text) e refl

pub reach_more : (part : List ℕ → Option (List ℕ)) (b : ℕ) (front rest left : List ℕ) → part ((b ∷ front) ++ rest) ≡ Some rest → Reaches part rest left → Reaches part ((b ∷ front) ++ rest) left
reach_more part b front rest left e h zero le = absurd (omega (arith, le))
reach_more part b front rest left e h (suc m) le =
    ap (λ (o : Option (List ℕ)). option_map_or (behind_most part m) o ((b ∷ front) ++ rest)) e ∙ h m (omega (arith, le, length-append front rest))

-- what is said of a text is said of it with its first part written otherwise
pub of_part : (P : List ℕ → Type 0) (front line more rest : List ℕ) → front ≡ line → P (line ++ (more ++ rest)) → P ((front ++ more) ++ rest)
of_part P front line more rest e h = subst (λ (x : List ℕ). P ((x ++ more) ++ rest)) (sym e) (subst P (sym (append_assoc line more rest)) h)

pub of_nothing : (P : List ℕ → Type 0) (front more rest : List ℕ) → front ≡ [] → P (more ++ rest) → P ((front ++ more) ++ rest)
of_nothing P front more rest e h = subst (λ (x : List ℕ). P ((x ++ more) ++ rest)) (sym e) h
