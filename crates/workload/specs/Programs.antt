-- The two programs of the workload, in the language of the assembler.
use Rattle.std.specs.Prelude.{ℕ, List, [], ◌∷◌, ◌++◌, codes, Result, Ok, Err}
use Rattle.std.specs.Fmt.{decimal}
use Rattle.rv_asm.specs.declared.refusal.Rule.{Rule}
use Rattle.rv_asm.specs.Program.{reading_of_lines}

-- the first line of `head`: how often the token goes round
abbrev pub rounds_line : ℕ → List ℕ
rounds_line size = codes "li s0, " ++ decimal size

-- so often it sends the token to the next of the ring, waits until it comes from the one before, and writes a dot
abbrev pub head_loop : List (List ℕ)
head_loop =
    codes "loop: li a7, 2" ∷ codes "li a0, 1" ∷ codes "la a1, tok" ∷ codes "li a2, 1" ∷ codes "ecall" ∷ codes "li a7, 3" ∷ codes "li a0, 2" ∷ codes "la a1, buf" ∷ codes "li a2, 1"
    ∷ codes "ecall" ∷ codes "li a7, 2" ∷ codes "li a0, 0" ∷ codes "la a1, tok" ∷ codes "li a2, 1" ∷ codes "ecall" ∷ codes "addi s0, s0, -1" ∷ codes "bne s0, x0, loop" ∷ codes "li a7, 1"
    ∷ codes "li a0, 0" ∷ codes "ecall" ∷ (codes "tok: .ascii " ++ (34 ∷ 46 ∷ 34 ∷ [])) ∷ codes "buf: .word 0" ∷ []

abbrev pub head_program : ℕ → List (List ℕ)
head_program size = rounds_line size ∷ head_loop

-- `link` makes a child. Until the ring ends it hands what it reads to the child, reads it from there again, and sends it to the next of the ring; the
-- child sends back what it reads
abbrev pub link_program : List (List ℕ)
link_program =
    codes "li a7, 5" ∷ codes "ecall" ∷ codes "beq a0, x0, kid" ∷ codes "mv s1, a1" ∷ codes "loop: li a7, 3" ∷ codes "li a0, 1" ∷ codes "la a1, buf" ∷ codes "li a2, 1" ∷ codes "ecall"
    ∷ codes "beq a0, x0, out" ∷ codes "li a7, 2" ∷ codes "mv a0, s1" ∷ codes "la a1, buf" ∷ codes "li a2, 1" ∷ codes "ecall" ∷ codes "li a7, 3" ∷ codes "mv a0, s1" ∷ codes "la a1, buf"
    ∷ codes "li a2, 1" ∷ codes "ecall" ∷ codes "li a7, 2" ∷ codes "li a0, 2" ∷ codes "la a1, buf" ∷ codes "li a2, 1" ∷ codes "ecall" ∷ codes "j loop" ∷ codes "out: li a7, 1"
    ∷ codes "li a0, 0" ∷ codes "ecall" ∷ codes "kid: li a7, 3" ∷ codes "li a0, 1" ∷ codes "la a1, buf" ∷ codes "li a2, 1" ∷ codes "ecall" ∷ codes "beq a0, x0, out" ∷ codes "li a7, 2"
    ∷ codes "li a0, 1" ∷ codes "la a1, buf" ∷ codes "li a2, 1" ∷ codes "ecall" ∷ codes "j kid" ∷ codes "buf: .word 0" ∷ []

-- the words of a program; none, where the assembler refuses it
abbrev pub words_or_none : Result (List ℕ) (ℕ × Rule) → List ℕ
words_or_none (Ok words) = words
words_or_none (Err refused) = []

abbrev pub head_words : ℕ → List ℕ
head_words size = words_or_none (reading_of_lines (head_program size))

abbrev pub link_words : List ℕ
link_words = words_or_none (reading_of_lines link_program)
