-- The definition at work: one example of each outcome, closed by evaluation. The words are those of the GNU assembler.
use Rattle.std.proofs.Common.{◌≡◌, ℕ, [], ◌∷◌, replicate, refl}
use Rattle.t32_base.specs.Registers.{Registers}
use Rattle.rv_cpu.specs.Exec.{Calls, Steps, Traps, exec}

-- all registers 0 but x5
abbrev with_x5 : ℕ → ℕ → Registers
with_x5 value pc = record { x = 0 ∷ 0 ∷ 0 ∷ 0 ∷ 0 ∷ value ∷ replicate 26 0; pc = pc }

-- addi x5, x5, -1
steps : exec (with_x5 7 65536) (0x93 ∷ 0x82 ∷ 0xf2 ∷ 0xff ∷ []) ≡ Steps (with_x5 6 65540) (0x93 ∷ 0x82 ∷ 0xf2 ∷ 0xff ∷ [])
steps = refl

-- sb x5, 4(x5), where x5 is 65536
stores_a_byte : exec (with_x5 65536 65536) (0x23 ∷ 0x82 ∷ 0x52 ∷ 0x00 ∷ 9 ∷ []) ≡ Steps (with_x5 65536 65540) (0x23 ∷ 0x82 ∷ 0x52 ∷ 0x00 ∷ 0 ∷ [])
stores_a_byte = refl

-- ecall, ebreak, and a word of zeros
calls : exec (with_x5 0 65536) (0x73 ∷ 0 ∷ 0 ∷ 0 ∷ []) ≡ Calls
calls = refl

breaks : exec (with_x5 0 65536) (0x73 ∷ 0 ∷ 0x10 ∷ 0 ∷ []) ≡ Traps 3
breaks = refl

is_illegal : exec (with_x5 0 65536) (0 ∷ 0 ∷ 0 ∷ 0 ∷ []) ≡ Traps 2
is_illegal = refl

-- the last byte of the word is outside
is_not_there : exec (with_x5 0 65537) (0x73 ∷ 0 ∷ 0 ∷ 0 ∷ []) ≡ Traps 1
is_not_there = refl

-- jal x1, .+2
jumps_between : exec (with_x5 0 65536) (0xef ∷ 0x00 ∷ 0x20 ∷ 0x00 ∷ []) ≡ Traps 0
jumps_between = refl

-- lw x6, 0(x5)
loads_between : exec (with_x5 65538 65536) (0x03 ∷ 0xa3 ∷ 0x02 ∷ 0x00 ∷ []) ≡ Traps 4
loads_between = refl

loads_outside : exec (with_x5 65540 65536) (0x03 ∷ 0xa3 ∷ 0x02 ∷ 0x00 ∷ []) ≡ Traps 5
loads_outside = refl

-- sw x6, 0(x5)
stores_between : exec (with_x5 65538 65536) (0x23 ∷ 0xa0 ∷ 0x62 ∷ 0x00 ∷ []) ≡ Traps 6
stores_between = refl

stores_outside : exec (with_x5 65540 65536) (0x23 ∷ 0xa0 ∷ 0x62 ∷ 0x00 ∷ []) ≡ Traps 7
stores_outside = refl
