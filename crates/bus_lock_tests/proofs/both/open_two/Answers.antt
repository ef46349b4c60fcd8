use Rattle.std.proofs.Common.{◌≡◌, ap, sym, ◌∙◌, subst, Some, arith}
use Rattle.bus_lock.specs.Seats.{AllFresh, IsFresh}
use Rattle.bus_lock_tests.proofs.both.open_two.Goals as goal

pub returns-clause-first : goal.returns-clause-first
returns-clause-first c =
    let same : Some c.new.result.topic ≡ Some c.args.topic = ap Some c.new.ensures.1 in
    let a = c.two_of-first.result.0 in
    let all = subst (AllFresh c.in_ok-lock.lock (Some c.new.result.topic)) (sym c.into_vec.ensures ∙ c.two_of-first.ensures) c.in_ok-lock.ensures.seats in
    subst (λ o. IsFresh c.in_ok-lock.lock o 0 a) same (all 0 a (omega arith))

pub returns-clause-second : goal.returns-clause-second
returns-clause-second c =
    let same : Some c.new.result.topic ≡ Some c.args.topic = ap Some c.new.ensures.1 in
    let b = c.two_of-first.result.1 in
    let all = subst (AllFresh c.in_ok-lock.lock (Some c.new.result.topic)) (sym c.into_vec.ensures ∙ c.two_of-first.ensures) c.in_ok-lock.ensures.seats in
    subst (λ o. IsFresh c.in_ok-lock.lock o 1 b) same (all 1 b (omega arith))
