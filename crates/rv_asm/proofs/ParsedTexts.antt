-- The texts of the lines that were parsed so far, and of one line more.
use Rattle.std.proofs.Common.{◌≡◌, ℕ, List, [], ◌∷◌, ◌++◌, refl, sym, ap, ◌∙◌, append_assoc}
use Rattle.rv_asm.specs.declared.parsed.Parsed.{Parsed}
use Rattle.rv_asm.specs.Parsed.{texts_of}

texts_push : (old : List Parsed) (parsed : Parsed) → texts_of (old ++ parsed ∷ []) ≡ texts_of old ++ parsed.line.now ∷ []
texts_push [] parsed = refl
texts_push (p ∷ ps) parsed = ap (λ (t : List (List ℕ)). p.line.now ∷ t) (texts_push ps parsed)

pub parsed_more : (old new : List Parsed) (parsed : Parsed) (line : List ℕ) (rest after total : List (List ℕ)) → new ≡ old ++ parsed ∷ [] → parsed.line.now ≡ line → rest ≡ line ∷ after → texts_of old ++ rest ≡ total → texts_of new ++ after ≡ total
parsed_more old new parsed line rest after total new_is line_is rest_is so_far =
    ap (λ (t : List Parsed). texts_of t ++ after) new_is
    ∙ ap (λ (t : List (List ℕ)). t ++ after) (texts_push old parsed)
    ∙ append_assoc (texts_of old) (parsed.line.now ∷ []) after
    ∙ ap (λ (l : List ℕ). texts_of old ++ l ∷ after) line_is
    ∙ ap (λ (t : List (List ℕ)). texts_of old ++ t) (sym rest_is)
    ∙ so_far
