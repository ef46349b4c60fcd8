use Rattle.log_laws.proofs.records.BirthRecords.{child_record}
use Rattle.log_laws.proofs.records.one_entry.children_begin.Goals as goal

pub returns : goal.returns
returns c = λ system log e parent at child end valid legal is. child_record system log e valid legal parent at child end is
