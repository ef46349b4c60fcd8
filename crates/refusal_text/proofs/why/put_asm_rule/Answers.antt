use Rattle.std.proofs.Common.{◌≡◌, ◌∙◌, ◌++◌, List, ℕ, Some, refl, subst}
use Rattle.std.specs.Prelude.{OnOk}
use Rattle.refusal_text.specs.Why.{inner_text}
use Rattle.refusal_text.proofs.why.put_asm_rule.Goals as goal

pub returns : goal.returns
returns c =
    let same : c.as_bytes.result.now ≡ inner_text (Some c.args.rule) = c.as_bytes.ensures.value ∙ c.in_ok-part.ensures.ok ∙ rw c.asm_rule_text-broken.ensures refl in
    let P : List ℕ → Type 0 = λ bytes. OnOk c.extend.result (c.extend.new.self ≡ c.args.text.now ++ bytes) in
    subst P same c.extend.ensures.ok
