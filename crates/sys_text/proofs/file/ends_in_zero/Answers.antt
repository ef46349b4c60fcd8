use Rattle.std.proofs.Common.{length, refl, arith}
use Rattle.sys_text.proofs.FileWords.{last_dropped, last_kept}
use Rattle.sys_text.proofs.file.ends_in_zero.Goals as goal

pub returns-then-count-gt0-clause-dropped : goal.returns-then-count-gt0-clause-dropped
returns-then-count-gt0-clause-dropped c = λ zero. last_dropped c.args.words.now (length c.args.words.now) refl (omega (arith, c.if-count-gt0.true)) zero

pub returns-then-count-gt0-clause-kept : goal.returns-then-count-gt0-clause-kept
returns-then-count-gt0-clause-kept c = λ some. last_kept c.args.words.now (length c.args.words.now) refl (omega (arith, c.if-count-gt0.true)) some
