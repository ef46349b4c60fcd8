use Rattle.std.proofs.Common.{refl}
use Rattle.workload.proofs.Assembled.{head_words_are}
use Rattle.workload.proofs.programs.head_words.Goals as goal

pub returns : goal.returns
returns c =
    rw (c.from_vec.ensures, head_words_are c.args.size c.requires, c.in_ok-extend_from_slice.ensures.items, c.in_ok-push.ensures.items, c.new-words.ensures.items) refl
