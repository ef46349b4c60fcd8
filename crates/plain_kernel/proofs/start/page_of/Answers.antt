use Rattle.std.proofs.Common.{ap, ◌*◌, arith, drop, length}
use Rattle.std.proofs.lemmas.List.{length-take}
use Rattle.plain_kernel.proofs.start.page_of.Goals as goal

pub put_words-requires : goal.put_words-requires
put_words-requires c = omega (arith, ap length c.words_of_page.ensures, length-take 64 (drop (64 * c.args.i) c.args.words.now))
