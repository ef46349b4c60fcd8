use Rattle.std.proofs.Common.{◌≡◌, ◌∙◌, sym, false}
use Rattle.cert_sched.specs.Rules.{is_over}
use Rattle.cluster_run.proofs.Within.{round_falls}
use Rattle.cluster_run.proofs.rounds.run_rounds.Goals as goal

pub rounds-smaller : goal.rounds-smaller
rounds-smaller c =
    let one = c.in_ok-run_round.ensures in
    let goes_on : is_over c.rounds.bus.system c.rounds.bus.log ≡ false = sym c.is_over.ensures ∙ c.rounds-test.true in
    round_falls c.rounds.bus c.run_round.new.bus c.rounds.clusters c.run_round.new.clusters one.owned one.along one.system goes_on one.gets_on
