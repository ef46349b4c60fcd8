-- Statements in the code.
use Rattle.std.specs.Prelude.{Bool, true, IsTrue, nat_lt, ◌&&◌, false, [], Result, Ok, Err, unwrap_or}
use Rattle.rv_asm.specs.declared.refusal.Rule.{Rule}
use Rattle.rv_asm.specs.declared.statement.Statement.{Statement}
use Rattle.rv_asm.specs.declared.statement.Statement.TheVariants as statements
use Rattle.rv_asm.specs.Statement.{Code, Nothing, One, Two, BranchTo, JumpTo, AddressOf, Bytes}
use Rattle.rv_asm.specs.Quoted.{text_from}

-- what a statement stands for, without where its texts lie in memory
abbrev pub seen : Statement → Code
seen statements.Nothing = Nothing
seen (statements.One word) = One word
seen (statements.Two first second) = Two first second
seen (statements.BranchTo branch rs1 rs2 target) = BranchTo branch rs1 rs2 target.now
seen (statements.JumpTo rd target) = JumpTo rd target.now
seen (statements.AddressOf rd target) = AddressOf rd target.now
seen (statements.Bytes text) = Bytes (unwrap_or (text_from false text.now) [])

abbrev pub seen_result : Result Statement Rule → Result Code Rule
seen_result (Ok statement) = Ok (seen statement)
seen_result (Err rule) = Err rule

-- the fields of a statement are in their ranges
abbrev pub fields_fit : Statement → Bool
fields_fit statements.Nothing = true
fields_fit (statements.One word) = true
fields_fit (statements.Two first second) = true
fields_fit (statements.BranchTo branch rs1 rs2 target) = nat_lt rs1 32 && nat_lt rs2 32
fields_fit (statements.JumpTo rd target) = nat_lt rd 32
fields_fit (statements.AddressOf rd target) = nat_lt rd 32
fields_fit (statements.Bytes text) = true

abbrev pub FieldsFit : Statement → Type 0
FieldsFit statement = IsTrue (fields_fit statement)
