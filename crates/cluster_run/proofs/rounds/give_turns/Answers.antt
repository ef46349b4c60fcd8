use Rattle.std.proofs.Common.{◌≡◌, ◌∙◌, arith, length}
use Rattle.cluster_turns.specs.Progress.{remaining}
use Rattle.cluster_turns.proofs.Progressing.{lasts_then, one_given}
use Rattle.cluster_run.proofs.rounds.give_turns.Goals as goal

pub loop-number-preserved : goal.loop-number-preserved
loop-number-preserved c =
    let so_far = c.loop-number.invariant in
    let one = c.in_ok-give_turn.ensures in
    let left = remaining c.args.bus.now c.args.clusters.now in
    let now = remaining c.loop-number.bus c.loop-number.clusters in
    let still = remaining c.give_turn.new.bus c.give_turn.new.clusters in
    record {
      owned = one.owned;
      along = one.along;
      stopped = one.stopped;
      past = one.past;
      within = let long : length c.give_turn.new.clusters ≡ length c.loop-number.clusters = c.give_turn.auto.clusters in omega (arith, long, so_far.within);
      system = one.system ∙ so_far.system;
      script = one.script ∙ so_far.script;
      over = λ ended. one.over (so_far.over ended);
      lasts = lasts_then c.loop-number.bus c.give_turn.new.bus left now still one.over so_far.lasts one.lasts;
      gets_on = one_given c.args.bus.now c.loop-number.bus c.give_turn.new.bus left now still c.args.from c.loop-number.number one.over so_far.lasts one.lasts so_far.gets_on one.gets_on;
    }
