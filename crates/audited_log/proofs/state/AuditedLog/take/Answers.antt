use Rattle.std.proofs.Common.{sym, ◌∙◌, subst, List, [], ◌∷◌, ◌++◌}
use Rattle.t32_base.specs.declared.process.Pid.{Pid}
use Rattle.bus_msg.specs.Places.{Places}
use Rattle.bus_msg.specs.PlacedAfter.{what}
use Rattle.channel_table.specs.Changes.{CanBeAbsorbed}
use Rattle.cert_sched.specs.Legal.{MayStand}
use Rattle.cert_sched.proofs.LogLaws.{IsLegal-snoc}
use Rattle.cert_sched.proofs.NextChildren.{may_be_absorbed}
use Rattle.log_laws.proofs.records.Standing.{all_stand}
use Rattle.log_processes.specs.Families.{CanBear}
use Rattle.log_processes.proofs.Children.{can_bear}
use Rattle.audited_log.proofs.Taking.{goes_on_so}
use Rattle.audited_log.proofs.state.AuditedLog.take.Goals as goal

pub take-requires-2-clause-next : goal.take-requires-2-clause-next
take-requires-2-clause-next c =
    let r = c.requires in
    let e = c.args.answer.entry in
    subst (λ (places : Places). CanBeAbsorbed places (what e)) (sym (((r.is).common).front).places) (may_be_absorbed r.system r.log e r.valid r.legal (r.may).stands)

pub take-requires-2-clause-births : goal.take-requires-2-clause-births
take-requires-2-clause-births c =
    let r = c.requires in
    let e = c.args.answer.entry in
    subst (λ (births : List (Pid × Pid)). CanBear births (what e)) (sym ((r.is).common).family) (can_bear r.system r.log e r.valid r.legal r.may)

pub take-requires-2-clause-records : goal.take-requires-2-clause-records
take-requires-2-clause-records c =
    let r = c.requires in
    let e = c.args.answer.entry in
    c.entries_can_be_taken.ensures r.system r.log e (c.args.self.now.common).records r.valid (all_stand r.system (r.log ++ e ∷ []) (IsLegal-snoc MayStand r.system r.log e r.legal r.may)) r.room
    ((r.is).common).records

pub returns-clause-takes : goal.returns-clause-takes
returns-clause-takes c = λ system log valid legal may is. record {
  common = c.in_ok-take-2.ensures system log valid legal may is.common;
  processes = λ runs. c.in_ok-take.ensures system log valid legal may (sym ((is.common).front).places ∙ sym c.places-before.ensures) (is.processes
      (goes_on_so system log c.args.answer.entry runs)) is.child runs;
}
