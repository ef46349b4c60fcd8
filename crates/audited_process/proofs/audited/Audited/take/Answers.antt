use Rattle.proc_state.specs.State.{state_of}
use Rattle.bus_msg.specs.PlacedAfter.{what}
use Rattle.audited_process.specs.Concerns.{changes}
use Rattle.audited_process.specs.Begun.{GoesOn}
use Rattle.audited_process.proofs.CopyStays.{ahead_on}
use Rattle.audited_process.proofs.audited.Audited.take.Goals as goal

pub returns-clause-ahead : goal.returns-clause-ahead
returns-clause-ahead c =
    ahead_on (changes c.args.pid (what c.args.entry.now)) (state_of (c.args.self.now).process) (state_of c.go_on.new.process) (c.args.self.now).ahead c.drop_copy.new.ahead c.go_on.result
    (GoesOn c.args.entry.now c.args.pid (state_of (c.args.self.now).process) (c.args.self.now).begun (state_of c.go_on.new.process) c.go_on.new.begun)
    c.go_on.ensures.goes_on c.drop_copy.ensures.dropped c.drop_copy.ensures.kept c.requires.ahead c.go_on.ensures.stays
