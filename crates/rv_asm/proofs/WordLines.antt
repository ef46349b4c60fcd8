-- Lines of eight words.
use Rattle.std.proofs.Common.{◌≡◌, ℕ, ◌<◌, ◌≤◌, List, [], ◌∷◌, ◌++◌, length, take, drop, refl, sym, ap, ◌∙◌, arith, append_assoc}
use Rattle.rv_asm.specs.Printing.{line_of, words_text_of}

pub eight : (ws : List ℕ) → 8 ≤ length ws → words_text_of ws ≡ line_of (take 8 ws) ++ words_text_of (drop 8 ws)
eight [] h = absurd (omega arith)
eight (a ∷ []) h = absurd (omega arith)
eight (a ∷ b ∷ []) h = absurd (omega arith)
eight (a ∷ b ∷ c ∷ []) h = absurd (omega arith)
eight (a ∷ b ∷ c ∷ d ∷ []) h = absurd (omega arith)
eight (a ∷ b ∷ c ∷ d ∷ e ∷ []) h = absurd (omega arith)
eight (a ∷ b ∷ c ∷ d ∷ e ∷ f ∷ []) h = absurd (omega arith)
eight (a ∷ b ∷ c ∷ d ∷ e ∷ f ∷ g ∷ []) h = absurd (omega arith)
eight (a ∷ b ∷ c ∷ d ∷ e ∷ f ∷ g ∷ k ∷ more) h = refl

pub fewer : (ws : List ℕ) → 0 < length ws → length ws < 8 → words_text_of ws ≡ line_of ws
fewer [] s h = absurd (omega arith)
fewer (a ∷ []) s h = refl
fewer (a ∷ b ∷ []) s h = refl
fewer (a ∷ b ∷ c ∷ []) s h = refl
fewer (a ∷ b ∷ c ∷ d ∷ []) s h = refl
fewer (a ∷ b ∷ c ∷ d ∷ e ∷ []) s h = refl
fewer (a ∷ b ∷ c ∷ d ∷ e ∷ f ∷ []) s h = refl
fewer (a ∷ b ∷ c ∷ d ∷ e ∷ f ∷ g ∷ []) s h = refl
fewer (a ∷ b ∷ c ∷ d ∷ e ∷ f ∷ g ∷ k ∷ more) s h = absurd (omega arith)

pub line_more : (all old new rest line after : List ℕ) → 8 ≤ length rest → line ≡ take 8 rest → after ≡ drop 8 rest → new ≡ old ++ line_of line → old ++ words_text_of rest ≡ all → new ++ words_text_of after ≡ all
line_more all old new rest line after long line_is after_is new_is so_far =
    ap (λ (t : List ℕ). t ++ words_text_of after) (new_is ∙ ap (λ (t : List ℕ). old ++ line_of t) line_is)
    ∙ append_assoc old (line_of (take 8 rest)) (words_text_of after)
    ∙ ap (λ (t : List ℕ). old ++ (line_of (take 8 rest) ++ words_text_of t)) after_is
    ∙ ap (λ (t : List ℕ). old ++ t) (sym (eight rest long)) ∙ so_far
