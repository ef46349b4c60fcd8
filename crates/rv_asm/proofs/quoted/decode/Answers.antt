use Rattle.std.proofs.Common.{◌≡◌, ◌∷◌, Some, false, sym, ◌∙◌, rules}
use Rattle.rv_asm.specs.Quoted.{is_quote, spelled}
use Rattle.rv_asm.proofs.QuotedTexts.{decoded_step}
use Rattle.rv_asm.proofs.quoted.decode.Goals as goal

pub loop-byte-preserved : goal.loop-byte-preserved
loop-byte-preserved c =
    let cut : c.loop-byte.rest.now ≡ c.in-Some.byte.now ∷ c.in-Some.after.now = search (rules, c.in-Some.ensures.cases) in
    let no_quote : is_quote c.loop-byte.escaped c.in-Some.byte.now ≡ false = sym c.is_quote.ensures ∙ c.if-is_quote.false in
    let is_spelled : spelled c.loop-byte.escaped c.in-Some.byte.now ≡ Some c.in-Some-spelled.byte_spelled = search (rules, c.in-Some-spelled.ensures) in
    rw (c.in_ok-push_some.ensures, c.escapes-escaped.ensures) (decoded_step c.args.text.now c.loop-byte.bytes.items c.loop-byte.escaped c.loop-byte.rest.now c.in-Some.byte.now c.in-Some.after.now c.in-Some-spelled.byte_spelled cut no_quote is_spelled c.loop-byte.invariant)
