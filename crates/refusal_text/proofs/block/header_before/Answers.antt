use Rattle.std.proofs.Common.{◌∙◌, ◌+◌, ◌-◌, ◌<◌, ◌≤◌, sym, ap, arith, cond, length, Bool, true, false, ℕ}
use Rattle.text_parts.specs.Lines.{lines_of}
use Rattle.refusal_text.specs.Block.{header_after, opens_block}
use Rattle.refusal_text.proofs.LineLaws.{header_after-line}
use Rattle.refusal_text.proofs.block.header_before.Goals as goal

chosen_within : (b : Bool) (count header : ℕ) → header ≤ count → cond b (count + 1) header ≤ count + 1
chosen_within true count header h = omega arith
chosen_within false count header h = omega arith

pub loop-left-preserved : goal.loop-left-preserved
loop-left-preserved c =
    let some : 0 < c.loop-left.left = omega arith in
    let line = c.first_line.result.0.now in
    let rest = c.first_line.result.1.now in
    record {
      same =
          ap (λ h. header_after h (c.loop-left.count + 1) (c.loop-left.left - 1) (lines_of rest)) c.header_with-header.ensures
          ∙ sym (header_after-line c.loop-left.header c.loop-left.count c.loop-left.left line (lines_of rest) some)
          ∙ sym (ap (header_after c.loop-left.header c.loop-left.count c.loop-left.left) c.first_line.ensures.lines)
          ∙ c.loop-left.invariant.same;
      few = omega (arith, c.first_line.ensures.shorter);
      lines = omega (arith, ap length c.first_line.ensures.lines);
      behind = rw c.header_with-header.ensures (chosen_within (opens_block line) c.loop-left.count c.loop-left.header c.loop-left.invariant.behind);
    }
