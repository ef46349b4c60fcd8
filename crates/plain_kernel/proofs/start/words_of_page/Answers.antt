use Rattle.std.proofs.Common.{arith}
use Rattle.plain_kernel.proofs.StartPages.{words_at}
use Rattle.plain_kernel.proofs.start.words_of_page.Goals as goal

pub returns : goal.returns
returns c =
    let first = c.min-first.ensures in
    let count = c.min.ensures in
    words_at c.args.words.now _ _ _ (omega (arith, first)) (omega (arith, first)) (λ lt. omega (arith, first, lt)) (omega (arith, count)) (λ lt. omega (arith, count, lt))
