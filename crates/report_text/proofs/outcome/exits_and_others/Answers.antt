use Rattle.std.proofs.Common.{◌≡◌, ℕ, Option, ◌∙◌, sym, ap, arith, true, false}
use Rattle.std.specs.Prelude.{not}
use Rattle.t32_base.specs.declared.process.End.{End}
use Rattle.report_text.specs.Load.{is_exit_0}
use Rattle.report_text.proofs.EndCounts.{fails, one_less, passes}
use Rattle.report_text.proofs.outcome.exits_and_others.Goals as goal

pub overflow_add-exits : goal.overflow_add-exits
overflow_add-exits c = omega (arith, c.loop-end.invariant.all, c.loop-end.invariant.fits)

pub overflow_add-others : goal.overflow_add-others
overflow_add-others c = omega (arith, c.loop-end.invariant.all, c.loop-end.invariant.fits)

pub loop-end-preserved-then-is_exit_0 : goal.loop-end-preserved-then-is_exit_0
loop-end-preserved-then-is_exit_0 c =
    let i = c.loop-end.invariant in
    let e : ℕ × Option End = (c.in-Some.field-0-0.now, c.in-Some.end.now) in
    let passed : is_exit_0 c.in-Some.end.now ≡ true = sym c.if-is_exit_0.ensures in
    let steps = c.in-Some.ensures.steps in record {
      exits = passes is_exit_0 e c.loop-end.end-iterator c.next.new.self c.loop-end.exits _ steps passed i.exits;
      others = fails (λ end. not (is_exit_0 end)) e c.loop-end.end-iterator c.next.new.self c.loop-end.others _ steps (ap not passed) i.others;
      all = omega (arith, i.all, one_less e c.loop-end.end-iterator c.next.new.self steps);
      fits = i.fits;
    }

pub loop-end-preserved : goal.loop-end-preserved
loop-end-preserved c =
    let i = c.loop-end.invariant in
    let e : ℕ × Option End = (c.in-Some.field-0-0.now, c.in-Some.end.now) in
    let failed : is_exit_0 c.in-Some.end.now ≡ false = sym c.is_exit_0.ensures ∙ c.if-is_exit_0.false in
    let steps = c.in-Some.ensures.steps in record {
      exits = fails is_exit_0 e c.loop-end.end-iterator c.next.new.self c.loop-end.exits _ steps failed i.exits;
      others = passes (λ end. not (is_exit_0 end)) e c.loop-end.end-iterator c.next.new.self c.loop-end.others _ steps (ap not failed) i.others;
      all = omega (arith, i.all, one_less e c.loop-end.end-iterator c.next.new.self steps);
      fits = i.fits;
    }
