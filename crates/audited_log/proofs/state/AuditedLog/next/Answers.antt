use Rattle.std.proofs.Common.{◌≡◌, sym, ◌∙◌, subst, arith, true, not, eqb, eqb-true, Some, None, Option}
use Rattle.std.proofs.lemmas.Bool.{and_parts}
use Rattle.std.specs.Option.{IfSome}
use Rattle.bus_msg.specs.declared.entry.Entry.{Entry}
use Rattle.cert_sched.proofs.MayLaws.{legal_may_stand}
use Rattle.log_audit.specs.Front.{is_next}
use Rattle.audited_log.specs.declared.answer.Answer.{Answer}
use Rattle.audited_log.specs.State.{KeepsState}
use Rattle.audited_log.specs.Answers.{AnswersTold, FollowsTold, Leads, entry_of}
use Rattle.audited_log.proofs.Awaiting.{answer_follows, none_follows, stands_follows}
use Rattle.audited_log.proofs.Walking.{goes_on, keeps}
use Rattle.audited_log.proofs.state.AuditedLog.next.Goals as goal

pub returns-in_ok-take-in-Some-clause-decides : goal.returns-in_ok-take-in-Some-clause-decides
returns-in_ok-take-in-Some-clause-decides c =
    subst (λ (e : Entry). FollowsTold c.args.self.now c.args.told.now (Some e)) (sym c.in_ok-take-in-Some.ensures.entry)
    (answer_follows c.args.self.now c.args.told.now c.keeps_backups.result c.keeps_backups.ensures c.if-not-keeps_backups.false c.in-Some.answer c.in-Some.is c.in_ok-answer.ensures.decides)

pub returns-in_ok-take-in-Some-clause-keeps : goal.returns-in_ok-take-in-Some-clause-keeps
returns-in_ok-take-in-Some-clause-keeps c =
    subst (KeepsState c.args.self.now c.take.new.self) (sym c.in_ok-take-in-Some.ensures.entry)
    (keeps c.args.self.now c.answer_to.new.state c.take.new.self c.args.told.now c.in-Some.answer
    (answer_follows c.args.self.now c.args.told.now c.keeps_backups.result c.keeps_backups.ensures c.if-not-keeps_backups.false c.in-Some.answer c.in-Some.is c.in_ok-answer.ensures.decides)
    (subst (λ (o : Option Answer). IfSome o (Leads c.args.self.now c.answer_to.new.state)) c.in-Some.is c.in_ok-answer.ensures.leads) c.in_ok-take-in-Some.ensures.takes)

pub returns-in_ok-take-in-Some-clause-some : goal.returns-in_ok-take-in-Some-clause-some
returns-in_ok-take-in-Some-clause-some c =
    goes_on c.args.self.now c.answer_to.new.state c.take.new.self c.args.told.now c.in-Some.answer
    (answer_follows c.args.self.now c.args.told.now c.keeps_backups.result c.keeps_backups.ensures c.if-not-keeps_backups.false c.in-Some.answer c.in-Some.is c.in_ok-answer.ensures.decides)
    (subst (λ (o : Option Answer). IfSome o (Leads c.args.self.now c.answer_to.new.state)) c.in-Some.is c.in_ok-answer.ensures.leads) c.in_ok-take-in-Some.ensures.takes c.requires

pub returns-then-not-keeps_backups-clause-decides : goal.returns-then-not-keeps_backups-clause-decides
returns-then-not-keeps_backups-clause-decides c =
    none_follows c.args.self.now c.args.told.now c.keeps_backups.result c.keeps_backups.ensures c.if-not-keeps_backups.true

pub returns-in-None-clause-decides : goal.returns-in-None-clause-decides
returns-in-None-clause-decides c =
    stands_follows c.args.self.now c.args.told.now c.keeps_backups.result c.keeps_backups.ensures c.if-not-keeps_backups.false None
    (subst (λ (o : Option Answer). AnswersTold c.args.self.now c.args.told.now (entry_of o)) c.in-None.is c.in_ok-answer.ensures.decides)

pub take-requires : goal.take-requires
take-requires c =
    let some = c.requires in
    let stands = legal_may_stand some.system some.log some.legal in
    let next : is_next (c.args.self.now.common).front (c.args.told.now).place ≡ true = sym c.is_next.ensures ∙ c.if-not-is_next.false in
    let at : ((c.args.self.now.common).front).length ≡ (c.args.told.now).place =
    eqb-true ((c.args.self.now.common).front).length (c.args.told.now).place (and_parts (eqb ((c.args.self.now.common).front).length (c.args.told.now).place) (not ((c.args.self.now.common).front).over) next).0 in
    let long = (((some.is).common).front).length in
    let last = c.if-told.false in
    record {
      system = some.system;
      log = some.log;
      valid = some.valid;
      legal = stands;
      may = (subst (λ (o : Option Answer). AnswersTold c.args.self.now c.args.told.now (entry_of o)) c.in-Some.is c.in_ok-answer.ensures.decides some.system some.log some.valid stands some.is).1;
      room = omega (arith, at, long, last);
      is = subst (λ (o : Option Answer). IfSome o (Leads c.args.self.now c.answer_to.new.state)) c.in-Some.is c.in_ok-answer.ensures.leads some.system some.log some.valid stands some.is;
    }
