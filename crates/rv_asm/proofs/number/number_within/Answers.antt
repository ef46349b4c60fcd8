use Rattle.std.proofs.Common.{◌∙◌, sym, rules}
use Rattle.std.specs.Prelude.{FitsSigned}
use mir.Syntax.{w64}
use Rattle.std.proofs.lemmas.Int.{to_z-of_z}
use Rattle.rv_asm.proofs.Signed.{ranged_from}
use Rattle.rv_asm.specs.Number.{number_of}
use Rattle.rv_asm.proofs.number.number_within.Goals as goal

pub returns-clause-number : goal.returns-clause-number
returns-clause-number c =
    let low_fits : FitsSigned w64 c.args.low = c.ranges.low in
    let high_fits : FitsSigned w64 c.args.high = c.ranges.high in
    let value_fits : FitsSigned w64 c.in_ok-value.value = search rules in
    let told = simp to_z-of_z at c.within.ensures.number in
    told ∙ ranged_from c.args.low c.args.high (number_of c.args.text.now) c.number.result c.in_ok-value.value c.requires.low c.requires.high c.number.ensures (sym c.in_ok-value.ensures.value)
