use Rattle.std.proofs.Common.{◌≡◌, ℕ, eqb, [], arith, drop, take, ◌∙◌}
use Rattle.text_parts.specs.Lines.{before, from}
use Rattle.text_parts.proofs.Splitting.{cut_first, cut_none}
use Rattle.text_parts.proofs.lines.cut_far.Goals as goal
use Rattle.text_parts.proofs.lines.cut_far.Goals.{In-Some, In-None}

found : (c : In-Some) → (take c.in-Some.at c.args.text.now ≡ before (λ (b : ℕ). eqb b c.args.byte) c.args.text.now) × (drop c.in-Some.at c.args.text.now ≡ from (λ (b : ℕ). eqb b c.args.byte) c.args.text.now)
found c = cut_first (λ (b : ℕ). eqb b c.args.byte) c.args.text.now c.in-Some.at c.in-Some.ensures.0.high c.in-Some.ensures.1 (λ j l e. c.in-Some.ensures.0.before j (omega arith) l e)

absent : (c : In-None) → (c.args.text.now ≡ before (λ (b : ℕ). eqb b c.args.byte) c.args.text.now) × ([] ≡ from (λ (b : ℕ). eqb b c.args.byte) c.args.text.now)
absent c = cut_none (λ (b : ℕ). eqb b c.args.byte) c.args.text.now (λ j l e. c.in-None.ensures j (omega arith) l e)

pub returns-in-Some-clause-before : goal.returns-in-Some-clause-before
returns-in-Some-clause-before c = c.split_at.ensures.front ∙ (found (goal.at.returns-in-Some-clause-before c).In-Some).0

pub returns-in-Some-clause-from : goal.returns-in-Some-clause-from
returns-in-Some-clause-from c = c.split_at.ensures.back ∙ (found (goal.at.returns-in-Some-clause-from c).In-Some).1

pub returns-in-None-clause-before : goal.returns-in-None-clause-before
returns-in-None-clause-before c = (absent (goal.at.returns-in-None-clause-before c).In-None).0

pub returns-in-None-clause-from : goal.returns-in-None-clause-from
returns-in-None-clause-from c = (absent (goal.at.returns-in-None-clause-from c).In-None).1
