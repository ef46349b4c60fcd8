use Rattle.std.proofs.Common.{arith}
use Rattle.sys_text.proofs.FileWords.{words_by_place}
use Rattle.sys_text.proofs.file.read_words.Goals as goal

pub returns : goal.returns
returns c = words_by_place c.read_u32_into.new.dst c.args.bytes.now (omega arith) c.read_u32_into.ensures
