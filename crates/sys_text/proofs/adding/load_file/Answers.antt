use Rattle.std.proofs.Common.{sym}
use Rattle.sys_text.proofs.FileRules.{file_kept, refused_by}
use Rattle.sys_text.proofs.adding.load_file.Goals as goal

pub returns-in-Ok-clause-kept : goal.returns-in-Ok-clause-kept
returns-in-Ok-clause-kept c = file_kept c.args.reader.now.state c.in-Some-as_mut.block.now c.in-Some.size (sym c.in-Some-as_mut.ensures.value) c.in-Some.is c.in-Ok.ensures.kept

pub returns-in-Err-clause-refused : goal.returns-in-Err-clause-refused
returns-in-Err-clause-refused c = refused_by c.args.reader.now.state c.in-Some-as_mut.block.now c.in-Some.size c.args.number c.in-Err.refused c.file_refused.result (sym c.in-Some-as_mut.ensures.value) c.in-Some.is c.in-Err.ensures.refused c.file_refused.ensures
