use Rattle.std.proofs.Common.{Option, sym, subst}
use Rattle.std.specs.Prelude.{option_map}
use Rattle.proc_state.specs.State.{state_of}
use Rattle.bus_msg.specs.declared.entry.Entry.{Entry}
use Rattle.cert_sched.specs.Legal.{MayStand}
use Rattle.entry_lines.specs.declared.told.Told.{Told}
use Rattle.entry_lines.specs.declared.told.ToldWhat.TheVariants.{Birth}
use Rattle.log_audit.specs.Decides.{Decides}
use Rattle.log_births.specs.declared.births.Born.{Born}
use Rattle.log_processes.specs.Sending.{KeepsSender}
use Rattle.audited_log.specs.One.{KeepsOne}
use Rattle.audited_log.proofs.OneLaws.{birth_leads, born_entry, decides_more, sender}
use Rattle.audited_log.proofs.births.answer.Goals as goal

pub returns-clause-decides : goal.returns-clause-decides
returns-clause-decides c =
    let common = c.args.common.now in
    let p = c.args.head.pid in
    let a = c.args.audited.now in
    let kept = c.sender_of-kept.result in
    let told : Told = record { place = c.args.head.place; by = c.args.head.by; what = Birth p.0 c.args.head.at c.args.child c.args.end } in
    subst (λ (o : Option Entry). Decides MayStand (KeepsOne common p a) told o) (sym (born_entry c.args.child c.in_ok-born.born c.in_ok-answer.answer c.in_ok-answer.ensures))
    (decides_more (KeepsSender common.front common.limits p (state_of a.process) kept) (KeepsOne common p a) told (sender common p a kept c.sender_of-kept.ensures) (option_map (λ
    (b : Born). b.entry) c.in_ok-born.born) c.in_ok-born.ensures.decides)

pub returns-clause-leads : goal.returns-clause-leads
returns-clause-leads c =
    let common = c.args.common.now in
    let p = c.args.head.pid in
    let a = c.args.audited.now in
    let kept = c.sender_of-kept.result in
    let told : Told = record { place = c.args.head.place; by = c.args.head.by; what = Birth p.0 c.args.head.at c.args.child c.args.end } in
    birth_leads common p a kept c.sender_of-kept.ensures c.args.head.place c.args.head.at c.args.child c.args.end c.args.head.by c.next_birth.new.process c.in_ok-born.born c.in_ok-answer.answer
    c.in_ok-answer.ensures
    (decides_more (KeepsSender common.front common.limits p (state_of a.process) kept) (KeepsOne common p a) told (sender common p a kept c.sender_of-kept.ensures) (option_map (λ
    (b : Born). b.entry) c.in_ok-born.born) c.in_ok-born.ensures.decides)
    c.in_ok-born.ensures.bears
