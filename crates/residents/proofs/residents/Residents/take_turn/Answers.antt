use Rattle.std.proofs.Common.{◌∙◌, ap, sym}
use Rattle.std.specs.List.{list_any}
use Rattle.plain_kernel.specs.Maps.{at_key, pid_of}
use Rattle.residents.specs.ChildrenFirst.{is_free, is_hindered}
use Rattle.residents.proofs.Choosing.{chosen_turn}
use Rattle.residents.proofs.Free.{next_passes}
use Rattle.residents.proofs.Slots.{not_true}
use Rattle.residents.proofs.residents.Residents.take_turn.Goals as goal

pub give_turn-requires-clause-ready : goal.give_turn-requires-clause-ready
give_turn-requires-clause-ready c = (next_passes (is_free c.choices.self.duty c.args.family.now c.choices.self.here) c.choices.self.ready c.choices.self.last c.in-Some.pid (sym c.next.ensures.next ∙ c.in-Some.is)).0

pub give_turn-requires-clause-free : goal.give_turn-requires-clause-free
give_turn-requires-clause-free c =
    not_true (is_hindered c.choices.self.duty c.args.family.now c.choices.self.here (pid_of c.in-Some.pid)) (next_passes (is_free c.choices.self.duty c.args.family.now c.choices.self.here) c.choices.self.ready c.choices.self.last c.in-Some.pid (sym c.next.ensures.next ∙ c.in-Some.is)).1

pub returns-in_default-2-clause-turn : goal.returns-in_default-2-clause-turn
returns-in_default-2-clause-turn c =
    chosen_turn c.args.by c.args.family.now c.in-Some.pid c.args.self.now c.choices.self c.give_turn.new.self c.choose.new.self c.choices.invariant.2 c.choices.invariant.0 c.choices.invariant.1 (c.next.ensures.able c.in-Some.pid c.in-Some.is)
    c.choose.ensures.here c.choose.ensures.last c.in_ok-quantum.quantum c.in_ok-quantum.ensures.turn c.in_default-2.not-Stuck

pub rest-requires-clause-there : goal.rest-requires-clause-there
rest-requires-clause-there c =
    ap (list_any (at_key c.in-Some.pid)) (c.in_ok-quantum.ensures.ready c.in-Stuck.is) ∙ (next_passes (is_free c.choices.self.duty c.args.family.now c.choices.self.here) c.choices.self.ready c.choices.self.last c.in-Some.pid (sym c.next.ensures.next ∙ c.in-Some.is)).0
