-- One line more.
use Rattle.std.proofs.Common.{◌≡◌, ℕ, zero, suc, ◌+◌, ◌-◌, ◌<◌, List, ◌∷◌, Option, arith, refl}
use Rattle.hints.specs.declared.blocks.Block.{Block}
use Rattle.hints.specs.Blocks.{block_after, with_line}

-- the block behind one line more
pub block_after-line : (before : Option Block) (number left : ℕ) (line : List ℕ) (lines : List (List ℕ)) → 0 < left →
    block_after before number left (line ∷ lines) ≡ block_after (with_line before (number + 1) line) (number + 1) (left - 1) lines
block_after-line before number zero line lines p = absurd (omega arith)
block_after-line before number (suc n) line lines p = let e : suc n - 1 ≡ n = omega arith in rw e refl
