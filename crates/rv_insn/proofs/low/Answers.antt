use Rattle.std.proofs.Common.{◌≡◌, ◌∙◌, ◌<◌, ◌%◌, ◌^◌, ℕ, ap, subst, rules, w32}
use Rattle.std.specs.Int.{cast_unsigned}
use Rattle.rv_insn.proofs.Fields.{whole_size, low_bits}
use Rattle.rv_insn.proofs.low.Goals as goal

pub returns-clause-value : goal.returns-clause-value
returns-clause-value c =
    let same : c.cast_unsigned.result ≡ cast_unsigned w32 c.args.imm = search rules in
    c.bits.ensures.value ∙ low_bits c.cast_unsigned.result c.args.size c.requires.low ∙ ap (λ (n : ℕ). n % 2 ^ c.args.size) same

pub returns-clause-fits : goal.returns-clause-fits
returns-clause-fits c = subst (λ (k : ℕ). c.bits.result < 2 ^ k) (whole_size c.args.size c.requires.low) c.bits.ensures.fits
