use Rattle.checkpoint_laws.proofs.posts.CutReads.{cut_reads, cut_takes}
use Rattle.checkpoint_laws.proofs.posts.MarksLead.{marks_reads, marks_due, marks_account}
use Rattle.checkpoint_laws.proofs.posts.marks.marks_lead_there.Goals as goal

pub returns-clause-reads : goal.returns-clause-reads
returns-clause-reads c = marks_reads

pub returns-clause-cut : goal.returns-clause-cut
returns-clause-cut c = cut_reads

pub returns-clause-takes : goal.returns-clause-takes
returns-clause-takes c = cut_takes

pub returns-clause-due : goal.returns-clause-due
returns-clause-due c = marks_due

pub returns-clause-account : goal.returns-clause-account
returns-clause-account c = marks_account
