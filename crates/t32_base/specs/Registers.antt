-- The registers and the program counter, as contracts see them (RISC-V unprivileged specification, RV32I: programmers' model).
use Rattle.std.specs.Prelude.{ℕ, List}

-- x has 32 numbers, of which the first is 0
pub record Registers : Type 0 where
  pub x : List ℕ
  pub pc : ℕ
