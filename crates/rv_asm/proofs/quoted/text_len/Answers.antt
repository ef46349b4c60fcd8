use Rattle.std.proofs.Common.{◌≡◌, ◌∷◌, Some, false, sym, ◌∙◌, rules}
use Rattle.rv_asm.specs.Quoted.{is_quote, spelled}
use Rattle.rv_asm.proofs.QuotedTexts.{counted_more}
use Rattle.rv_asm.proofs.quoted.text_len.Goals as goal

pub loop-byte-preserved : goal.loop-byte-preserved
loop-byte-preserved c =
    let cut : c.loop-byte.rest.now ≡ c.in-Some.byte.now ∷ c.in-Some.after.now = search (rules, c.in-Some.ensures.cases) in
    let no_quote : is_quote c.loop-byte.escaped c.in-Some.byte.now ≡ false = sym c.is_quote.ensures ∙ c.if-is_quote.false in
    let is_spelled : spelled c.loop-byte.escaped c.in-Some.byte.now ≡ Some c.in_ok-byte_spelled.byte_spelled = sym c.spelled.ensures ∙ c.in_ok-byte_spelled.was in
    rw (c.count_of-count.ensures.count, c.escapes-escaped.ensures) (counted_more c.args.text.now c.loop-byte.count c.loop-byte.escaped c.loop-byte.rest.now c.in-Some.byte.now c.in-Some.after.now c.in_ok-byte_spelled.byte_spelled cut no_quote is_spelled c.loop-byte.invariant)
