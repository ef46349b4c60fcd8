use Rattle.bus_tests.proofs.script.played.Goals as goal

pub play-requires-clause-may : goal.play-requires-clause-may
play-requires-clause-may c =
    let bus = c.in_ok-bus.bus in
    rw c.in_ok-bus.ensures.script
    (rw c.in_ok-bus.ensures.log
    (c.requires bus.system))
