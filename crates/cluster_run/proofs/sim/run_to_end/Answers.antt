use Rattle.std.proofs.Common.{◌≡◌, ◌∙◌, ◌⊎◌, inl, inr, sym, true, true≢false}
use Rattle.bus_order.specs.View.{BusView}
use Rattle.cert_sched.specs.Scripted.{is_finished}
use Rattle.cluster_turns.specs.Ends.{ends_lost}
use Rattle.cluster_run.specs.Left.{AllCaught}
use Rattle.cluster_run.proofs.AtTheEnd.{all_gone}
use Rattle.cluster_run.proofs.Together.{past_kept}
use Rattle.cluster_turns.proofs.CutOff.{over_run_out, run_out_parts}
use Rattle.cluster_run.proofs.sim.run_to_end.Goals as goal

-- where the end does not stand last a loss has ended the run
pub returns-else-is_finished-clause-caught : goal.returns-else-is_finished-clause-caught
returns-else-is_finished-clause-caught c =
    let b : BusView = c.run_rounds.new.bus in
    let ran = c.in_ok-run_rounds.ensures in
    by_end (run_out_parts b.system b.log (over_run_out b.system b.log ran.over ran.owned.unstopped))
  where
    by_end : (is_finished c.run_rounds.new.bus.log ≡ true) ⊎ (ends_lost c.run_rounds.new.bus.system c.run_rounds.new.bus.log ≡ true) → AllCaught c.run_rounds.new.bus c.run_rounds.new.clusters
    by_end (inl finished) = absurd (true≢false (sym finished ∙ sym c.is_finished.ensures ∙ c.if-is_finished.false))
    by_end (inr ended) = all_gone c.run_rounds.new.bus c.run_rounds.new.clusters c.in_ok-run_rounds.ensures.owned.sound ended c.in_ok-run_rounds.ensures.along

pub returns-in_ok-take_all_in-clause-past : goal.returns-in_ok-take_all_in-clause-past
returns-in_ok-take_all_in-clause-past c =
    past_kept c.run_rounds.new.bus c.run_rounds.new.past.items c.run_rounds.new.clusters c.take_all_in.new.clusters c.in_ok-take_all_in.ensures.lives c.in_ok-run_rounds.ensures.past
