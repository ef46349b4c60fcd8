use Rattle.std.proofs.Common.{◌≡◌, suc, ◌+◌, ◌-◌, ◌++◌, ◌∷◌, [], ◌∙◌, sym, ap, arith, append_assoc}
use Rattle.std.specs.List.{range_with_len}
use Rattle.log_cuts.proofs.Lists.{range_more}
use Rattle.log_cuts.proofs.numbers.put_from.Goals as goal

pub loop-number-preserved : goal.loop-number-preserved
loop-number-preserved c =
    let first = c.args.first in
    let n = c.loop-number.number in
    let old = c.args.numbers.now.items in
    let from = c.loop-number.invariant.from in
    let below = c.loop-number-test.true in
    let last : first + (n - first) ≡ n = omega (arith, from) in
    let more : suc (n - first) ≡ n + 1 - first = omega (arith, from) in
    record {
      put =
          c.in_ok-push.ensures.items ∙ ap (λ items. items ++ n ∷ []) c.loop-number.invariant.put ∙ append_assoc old (range_with_len first (n - first)) (n ∷ [])
          ∙ ap (λ k. old ++ (range_with_len first (n - first) ++ k ∷ [])) (sym last) ∙ ap (λ rest. old ++ rest) (sym (range_more first (n - first))) ∙ ap (λ k. old ++ range_with_len first k) more;
      from = omega (arith, from);
      upto = omega (arith, from, below);
    }
