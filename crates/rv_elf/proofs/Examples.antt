-- A worked file: one segment, which is the whole file, at the front of memory.
use Rattle.std.proofs.Common.{◌≡◌, ℕ, List, [], ◌∷◌, Some, None, refl}
use Rattle.std.specs.Prelude.{slice_set}
use Rattle.rv_elf.specs.declared.refusal.Rule.TheVariants as rules
use Rattle.rv_elf.specs.File.{entry, headers}
use Rattle.rv_elf.specs.Loaded.{byte_at}
use Rattle.rv_elf.specs.Rules.{broken}

-- its file header and program header, and the program that writes "hi" and ends
small : List ℕ
small =
    127 ∷ 69 ∷ 76 ∷ 70 ∷ 1 ∷ 1 ∷ 1 ∷ 0 ∷ 0 ∷ 0 ∷ 0 ∷ 0 ∷ 0 ∷ 0 ∷ 0 ∷ 0 ∷ 2 ∷ 0 ∷ 243 ∷ 0 ∷ 1 ∷ 0 ∷ 0 ∷ 0 ∷ 84 ∷ 0 ∷ 1 ∷ 0 ∷
    52 ∷ 0 ∷ 0 ∷ 0 ∷ 0 ∷ 0 ∷ 0 ∷ 0 ∷ 0 ∷ 0 ∷ 0 ∷ 0 ∷ 52 ∷ 0 ∷ 32 ∷ 0 ∷ 1 ∷ 0 ∷ 0 ∷ 0 ∷ 0 ∷ 0 ∷ 0 ∷ 0 ∷ 1 ∷ 0 ∷ 0 ∷ 0 ∷
    0 ∷ 0 ∷ 0 ∷ 0 ∷ 0 ∷ 0 ∷ 1 ∷ 0 ∷ 0 ∷ 0 ∷ 1 ∷ 0 ∷ 124 ∷ 0 ∷ 0 ∷ 0 ∷ 124 ∷ 0 ∷ 0 ∷ 0 ∷ 5 ∷ 0 ∷ 0 ∷ 0 ∷ 0 ∷ 16 ∷ 0 ∷ 0 ∷
    147 ∷ 8 ∷ 32 ∷ 0 ∷ 19 ∷ 5 ∷ 0 ∷ 0 ∷ 183 ∷ 5 ∷ 1 ∷ 0 ∷ 147 ∷ 133 ∷ 133 ∷ 7 ∷ 19 ∷ 6 ∷ 48 ∷ 0 ∷ 115 ∷ 0 ∷ 0 ∷ 0 ∷ 147 ∷ 8 ∷ 16 ∷ 0 ∷
    19 ∷ 5 ∷ 0 ∷ 0 ∷ 115 ∷ 0 ∷ 0 ∷ 0 ∷ 104 ∷ 105 ∷ 10 ∷ 0 ∷ []

kept : broken small 1 ≡ None
unfolding small
kept = refl

begins : entry small ≡ 0x10054
unfolding small
begins = refl

-- its last word is the bytes of the text, and behind it memory is zero
text : byte_at small (headers small) 0x10078 ≡ 104
unfolding small
text = refl

behind : byte_at small (headers small) 0x1007c ≡ 0
unfolding small
behind = refl

-- compressed code, and a segment that begins a byte later in the file
compressed : broken (slice_set small 36 1) 1 ≡ Some rules.Compressed
unfolding small
compressed = refl

cut_off : broken (slice_set small 56 1) 1 ≡ Some rules.FileBytes
unfolding small
cut_off = refl
