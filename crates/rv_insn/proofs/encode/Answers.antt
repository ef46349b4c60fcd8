use Rattle.std.proofs.Common.{ap, ◌∙◌}
use Rattle.rv_insn.specs.Table.{decoded}
use Rattle.rv_insn.proofs.ReadsBack.{reads_back}
use Rattle.rv_insn.proofs.encode.Goals as goal

pub returns-clause-reads_back : goal.returns-clause-reads_back
returns-clause-reads_back c = ap decoded c.word_of.ensures ∙ reads_back c.args.insn c.requires
