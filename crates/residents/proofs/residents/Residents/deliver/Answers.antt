use Rattle.std.proofs.Common.{sym}
use Rattle.residents.proofs.Coming.{no_end_of}
use Rattle.residents.proofs.residents.Residents.deliver.Goals as goal

pub returns-in-Tty-clause-ok : goal.returns-in-Tty-clause-ok
returns-in-Tty-clause-ok c = sym (no_end_of c.args.letter.now (c.args.letter.now).to c.in-Tty.field-0 c.args.self.now.here c.in-Tty.is)
