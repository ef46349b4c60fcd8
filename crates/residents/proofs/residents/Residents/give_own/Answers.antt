use Rattle.std.proofs.Common.{sym, ◌∙◌, ap, is_none, subst}
use Rattle.plain_kernel.specs.Maps.{pid_of}
use Rattle.residents.specs.Residents.{RunsAt}
use Rattle.residents.proofs.ChildFirst.{last_childless, none_is, none_told}
use Rattle.residents.proofs.Owed.{given_own, owed_runs}
use Rattle.residents.proofs.residents.Residents.give_own.Goals as goal

pub renew-requires-clause-runs : goal.renew-requires-clause-runs
renew-requires-clause-runs c = owed_runs c.args.self.now.duty c.args.self.now.here (pid_of c.args.pid) c.in-Some.to (sym c.owed.ensures.owed ∙ c.in-Some.is)

pub run-requires-clause-last : goal.run-requires-clause-last
run-requires-clause-last c = λ comes.
    none_told c.first_unsynced.result c.is_none-childless.result c.is_none-childless.ensures
    (ap is_none c.first_unsynced.ensures.first ∙ last_childless c.args.self.now.duty c.args.family.now c.args.self.now.here (pid_of c.args.pid) c.requires.alone comes)

pub returns-in-None-clause-turn : goal.returns-in-None-clause-turn
returns-in-None-clause-turn c =
    let p = pid_of c.args.pid in
    given_own c.args.self.now.duty c.args.by c.args.family.now p c.args.self.now.here c.run.new.self.here c.requires.alone (sym c.in-None.ensures.owed) c.in-None.ensures.ordered c.run.result
    (subst (λ childless. RunsAt (c.args.self.now.duty).limits c.args.by childless p c.args.self.now.here c.run.result c.run.new.self.here) (none_is c.first_unsynced.result c.is_none-childless.result c.is_none-childless.ensures ∙ ap is_none c.first_unsynced.ensures.first) c.run.ensures.turn)
