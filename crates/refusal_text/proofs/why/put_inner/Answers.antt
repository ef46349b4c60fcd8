use Rattle.refusal_text.proofs.why.put_inner.Goals as goal

pub returns-in-Some : goal.returns-in-Some
returns-in-Some c = rw c.in-Some.is c.put_asm_rule.ensures
