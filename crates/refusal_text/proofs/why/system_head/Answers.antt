use Rattle.std.proofs.Common.{◌∙◌, refl}
use Rattle.std.proofs.lemmas.Result.{IfOk-weaker}
use Rattle.refusal_text.proofs.why.system_head.Goals as goal

pub returns : goal.returns
returns c =
    IfOk-weaker c.copy_of.result _ _ (λ text is. is ∙ c.as_bytes.ensures.value ∙ c.in_ok-head.ensures.ok ∙ rw c.system_rule_text-broken.ensures refl) c.copy_of.ensures
