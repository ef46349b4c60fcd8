use Rattle.std.proofs.Common.{◌≡◌, sym, ap, ◌∙◌, length}
use Rattle.sys_text.specs.declared.system.System.{System}
use Rattle.cluster_turns.specs.Progress.{remaining}
use Rattle.cluster_turns.proofs.Progressing.{round_gets_on}
use Rattle.cluster_run.proofs.rounds.run_round.Goals as goal

pub returns-clause-gets_on : goal.returns-clause-gets_on
returns-clause-gets_on c =
    let each : length c.args.clusters.now ≡ c.give_turns-2.new.bus.system.clusters =
    c.requires.along.each ∙ ap (λ (s : System). s.clusters) (sym c.in_ok-give_turns.ensures.system) ∙ ap (λ (s : System). s.clusters) (sym c.in_ok-give_turns-2.ensures.system) in
    round_gets_on c.args.bus.now c.give_turns.new.bus c.give_turns-2.new.bus (remaining c.args.bus.now c.args.clusters.now) (remaining c.give_turns.new.bus c.give_turns.new.clusters) (remaining c.give_turns-2.new.bus c.give_turns-2.new.clusters)
    c.args.first (length c.args.clusters.now) c.in_ok-give_turns-2.ensures.owned.sound.valid c.in_ok-give_turns-2.ensures.owned.sound.legal each c.in_ok-give_turns-2.ensures.over c.in_ok-give_turns.ensures.lasts c.in_ok-give_turns-2.ensures.lasts
    c.in_ok-give_turns.ensures.gets_on c.in_ok-give_turns-2.ensures.gets_on
