use Rattle.std.proofs.Common.{rules, ◌≡◌, ◌∙◌, ap, sym, subst, length, filter}
use Rattle.residents.specs.ChildrenFirst.{is_free}
use Rattle.residents.specs.Residents.{ResidentsView, NextAble, are_rising, next_ready, none_has_turn}
use Rattle.residents.proofs.Kept.{rising_here}
use Rattle.residents.proofs.Choosing.{next_able, none_next}
use Rattle.residents.proofs.Free.{next_above_last, next_from_start, none_where_empty}
use Rattle.residents.proofs.residents.Residents.next.Goals as goal

pub returns-then-is_empty-clause-next : goal.returns-then-is_empty-clause-next
returns-then-is_empty-clause-next c =
    let empty : length c.self.inside.ready.keys ≡ 0 = search (rules, c.if-is_empty.ensures) in
    sym (none_where_empty (is_free c.args.self.now.duty c.args.family.now c.args.self.now.here) c.args.self.now.ready c.args.self.now.last (ap (λ (v : ResidentsView). length v.ready) (sym c.self.view_is) ∙ empty))

pub returns-then-is_empty-clause-stuck : goal.returns-then-is_empty-clause-stuck
returns-then-is_empty-clause-stuck c = λ none.
    let empty : length c.self.inside.ready.keys ≡ 0 = search (rules, c.if-is_empty.ensures) in
    ap (λ (v : ResidentsView). none_has_turn v.duty c.args.family.now v.here) (sym c.self.view_is)
    ∙ none_next c.self.inside.duty c.args.family.now c.self.inside.residents c.self.inside.keys.entries c.self.inside.ready.keys c.self.inside.asking.keys c.self.inside.last c.self.invariant.0 (none_where_empty _ c.self.inside.ready.keys c.self.inside.last empty)

pub returns-in-Some-clause-next : goal.returns-in-Some-clause-next
returns-in-Some-clause-next c =
    sym (next_above_last (is_free c.args.self.now.duty c.args.family.now c.args.self.now.here) c.args.self.now.ready c.args.self.now.last c.in-Some.pid (sym c.next_above.ensures.found ∙ c.in-Some.is))

pub returns-in-Some-clause-able : goal.returns-in-Some-clause-able
returns-in-Some-clause-able c = λ pid is.
    let next = next_above_last (is_free c.args.self.now.duty c.args.family.now c.args.self.now.here) c.args.self.now.ready c.args.self.now.last c.in-Some.pid (sym c.next_above.ensures.found ∙ c.in-Some.is) ∙ is in
    subst (NextAble pid c.args.family.now) c.self.view_is
    (λ h there acts.
    next_able c.self.inside.duty c.args.family.now c.self.inside.residents c.self.inside.keys.entries c.self.inside.ready.keys c.self.inside.asking.keys c.self.inside.last c.self.invariant.0 pid h
    (ap (λ (v : ResidentsView). are_rising v.ready) c.self.view_is ∙ c.next_above.ensures.ordered)
    (rising_here c.self.inside.duty c.self.inside.residents c.self.inside.keys.entries c.self.inside.ready.keys c.self.inside.asking.keys c.self.invariant.0)
    (ap (λ (v : ResidentsView). next_ready (filter (is_free v.duty c.args.family.now v.here) v.ready) v.last) c.self.view_is ∙ next) there acts)

pub returns-in-None-clause-next : goal.returns-in-None-clause-next
returns-in-None-clause-next c =
    c.lowest_free.ensures ∙ sym (next_from_start (is_free c.args.self.now.duty c.args.family.now c.args.self.now.here) c.args.self.now.ready c.args.self.now.last (sym c.next_above.ensures.found ∙ c.in-None.is))

pub returns-in-None-clause-stuck : goal.returns-in-None-clause-stuck
returns-in-None-clause-stuck c = λ none.
    let next = next_from_start (is_free c.args.self.now.duty c.args.family.now c.args.self.now.here) c.args.self.now.ready c.args.self.now.last (sym c.next_above.ensures.found ∙ c.in-None.is) ∙ sym c.lowest_free.ensures ∙ none in
    ap (λ (v : ResidentsView). none_has_turn v.duty c.args.family.now v.here) (sym c.self.view_is)
    ∙ none_next c.self.inside.duty c.args.family.now c.self.inside.residents c.self.inside.keys.entries c.self.inside.ready.keys c.self.inside.asking.keys c.self.inside.last c.self.invariant.0
    (ap (λ (v : ResidentsView). next_ready (filter (is_free v.duty c.args.family.now v.here) v.ready) v.last) c.self.view_is ∙ next)

pub returns-in-None-clause-able : goal.returns-in-None-clause-able
returns-in-None-clause-able c = λ pid is.
    let next = next_from_start (is_free c.args.self.now.duty c.args.family.now c.args.self.now.here) c.args.self.now.ready c.args.self.now.last (sym c.next_above.ensures.found ∙ c.in-None.is) ∙ sym c.lowest_free.ensures ∙ is in
    subst (NextAble pid c.args.family.now) c.self.view_is
    (λ h there acts.
    next_able c.self.inside.duty c.args.family.now c.self.inside.residents c.self.inside.keys.entries c.self.inside.ready.keys c.self.inside.asking.keys c.self.inside.last c.self.invariant.0 pid h
    (ap (λ (v : ResidentsView). are_rising v.ready) c.self.view_is ∙ c.next_above.ensures.ordered)
    (rising_here c.self.inside.duty c.self.inside.residents c.self.inside.keys.entries c.self.inside.ready.keys c.self.inside.asking.keys c.self.invariant.0)
    (ap (λ (v : ResidentsView). next_ready (filter (is_free v.duty c.args.family.now v.here) v.ready) v.last) c.self.view_is ∙ next) there acts)
