use Rattle.std.proofs.Common.{◌+◌, ◌++◌, ◌∷◌, [], ◌∙◌, refl, sym, ap, arith, append_assoc, drop, get_or}
use Rattle.std.proofs.lemmas.List.{drop_more}
use Rattle.log_cuts.specs.Numbers.{without}
use Rattle.log_cuts.proofs.Lists.{without_next, without_other}
use Rattle.log_cuts.proofs.numbers.without.Goals as goal
use Rattle.log_cuts.proofs.numbers.without.Goals.{then-stands_at, else-stands_at+in_ok-push}

pub loop-number-preserved : goal.loop-number-preserved
loop-number-preserved c =
    let numbers = c.args.numbers.now in
    let others = c.args.others.now in
    let i = c.loop-number.number-index in
    let n = get_or numbers i 0 in
    let rest = drop (i + 1) numbers in
    let next = c.loop-number.next in
    let is = ap (λ ns. without ns (drop next others)) (drop_more numbers i 0 c.loop-number-test.true) in
    let before = c.loop-number.invariant in
    elim c.if-stands_at.branch [
      | then-stands_at w ↦ (
          let within = w.if-stands_at.ensures.within refl in
          let at = w.next-is in
          record {
            within = omega (arith, within, at);
            left =
                before.left ∙ ap (λ r. c.loop-number.left.items ++ r) (is ∙ without_next n rest others next (sym w.if-stands_at.ensures.stands) within)
                ∙ (λ j. (sym w.left-is j).items ++ without rest (drop (sym at j) others));
          })
      | else-stands_at+in_ok-push w ↦ (
          let within = before.within in
          let at = w.next-is in
          record {
            within = omega (arith, within, at);
            left =
                before.left ∙ ap (λ r. c.loop-number.left.items ++ r) (is ∙ without_other n rest others next (sym w.if-stands_at.ensures.stands))
                ∙ sym (append_assoc c.loop-number.left.items (n ∷ []) (without rest (drop next others)))
                ∙ ap (λ items. items ++ without rest (drop next others)) (sym w.in_ok-push.ensures.items)
                ∙ (λ j. (sym w.left-is j).items ++ without rest (drop (sym at j) others));
          })
    ]
