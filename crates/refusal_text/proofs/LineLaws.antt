-- One line more.
use Rattle.std.proofs.Common.{◌≡◌, ℕ, zero, suc, ◌+◌, ◌-◌, ◌<◌, cond, List, ◌∷◌, refl, arith}
use Rattle.refusal_text.specs.Block.{opens_block, header_after}

-- the header before one line more
pub header_after-line : (header count left : ℕ) (line : List ℕ) (lines : List (List ℕ)) → 0 < left →
    header_after header count left (line ∷ lines) ≡ header_after (cond (opens_block line) (count + 1) header) (count + 1) (left - 1) lines
header_after-line header count zero line lines p = absurd (omega arith)
header_after-line header count (suc n) line lines p = let e : suc n - 1 ≡ n = omega arith in rw e refl
