use Rattle.std.proofs.Common.{refl, Option}
use Rattle.std.specs.Prelude.{option_map}
use Rattle.std.specs.Option.{IfSome}
use Rattle.proc_state.specs.State.{state_of}
use Rattle.log_births.specs.declared.births.Born.{Born}
use Rattle.log_births.specs.Births.{AnswersBirth, BearsChild}
use Rattle.audited_process.specs.declared.audited.Audited.{Audited}
use Rattle.audited_process.specs.Lines.{KeepsAudited, LeadsTo}
use Rattle.audited_process.proofs.LineLeads.{both_if_ok, birth_leads}
use Rattle.audited_process.proofs.lines.birth.Goals as goal

pub returns-clause-leads : goal.returns-clause-leads
returns-clause-leads c =
    let a = c.args.audited.now in
    let new : Audited = record a { process = c.next_birth.new.process } in
    both_if_ok c.next_birth.result (λ (o : Option Born). AnswersBirth c.args.front.now c.args.limits c.args.head c.args.kept (state_of a.process) c.args.told (option_map (λ (b : Born). b.entry) o))
    (λ (o : Option Born). IfSome o (λ (b : Born). BearsChild c.args.front.now c.args.limits c.args.head.pid c.args.kept (state_of a.process) b (state_of new.process)))
    (λ (o : Option Born). IfSome o (λ (b : Born). LeadsTo (KeepsAudited c.args.front.now c.args.limits c.args.head.pid a c.args.kept) c.args.head.pid new b.entry))
    (birth_leads c.args.front.now c.args.limits c.args.head a c.args.kept c.args.told new (refl, refl)) c.next_birth.ensures.decides c.next_birth.ensures.bears
