use Rattle.std.proofs.Common.{◌≡◌, true, take}
use Rattle.sys_text.specs.Types.{have_words}
use Rattle.sys_text.proofs.types.all_words_fit.Given as goal

abbrev pub invariant-loop-image : goal.invariant-loop-image
invariant-loop-image l = have_words (take l.image-index l.images) ≡ true
