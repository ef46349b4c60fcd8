use Rattle.std.proofs.Common.{◌≡◌, sym, ap, subst, ◌∙◌, List}
use Rattle.sys_text.specs.declared.system.System.{System}
use Rattle.sys_text.specs.Valid.{is_system}
use Rattle.bus_msg.specs.declared.entry.Entry.{Entry}
use Rattle.cert_sched.specs.Legal.{IsLegalBy, Stands}
use Rattle.cert_sched.specs.Counted.{counted}
use Rattle.log_laws.proofs.records.Standing.{all_stand}
use Rattle.report_text.specs.Good.{EndsAs}
use Rattle.bus_order.proofs.Lawful.{lawful_stands}
use Rattle.cluster_run.proofs.Ended.{ends_finished}
use Rattle.cluster_run.proofs.GoodRun.{good_run}
use Rattle.cluster_turns.proofs.Worded.{spread_closes}
use Rattle.cluster_run.proofs.leaving.run_of.Goals as goal

pub counts_of-requires-clause-valid : goal.counts_of-requires-clause-valid
counts_of-requires-clause-valid c = ap is_system (sym c.requires.system) ∙ c.requires.left.valid

pub counts_of-requires-clause-legal : goal.counts_of-requires-clause-legal
counts_of-requires-clause-legal c =
    let Of : System → Type 0 = λ system. IsLegalBy Stands system c.args.bus.log in
    let At : List Entry → Type 0 = λ log. IsLegalBy Stands c.args.system.now log in
    subst At (sym (c.as_slice.ensures ∙ c.in_ok-log.ensures.log)) (subst Of c.requires.system (all_stand c.args.bus.system c.args.bus.log (lawful_stands c.in_ok-log.ensures.lawful)))

pub returns-clause-good : goal.returns-clause-good
returns-clause-good c =
    let b = c.args.bus in
    let lawful = c.in_ok-log.ensures.lawful in
    let counts = c.in_ok-counts.counts in
    let log : c.as_slice.result.now ≡ b.log = c.as_slice.ensures ∙ c.in_ok-log.ensures.log in
    let count : counts.withheld ≡ counted b.system b.log = c.in_ok-counts.ensures.withheld ∙ (λ i. counted (sym c.requires.system i) (log i)) in
    let ends : EndsAs b.system b.log c.ended_of-ended.result = c.ended_of-ended.ensures in
    good_run b c.args.clusters.now c.in_ok-log.log c.in_ok-log.items counts.steps counts.disk_calls counts.withheld c.ended_of-ended.result lawful.legal lawful.scripted ends c.requires.left c.in_ok-log.ensures.log c.in_ok-log.ensures.items
    c.in_ok-counts.ensures.steps c.in_ok-counts.ensures.calls count

pub returns-clause-spread : goal.returns-clause-spread
returns-clause-spread c spread =
    let b = c.args.bus in
    let lawful = c.in_ok-log.ensures.lawful in
    let ends : EndsAs b.system b.log c.ended_of-ended.result = c.ended_of-ended.ensures in
    ends_finished b.system b.log c.ended_of-ended.result (lawful_stands lawful) (λ over. spread_closes b c.requires.left.valid lawful spread over) ends
