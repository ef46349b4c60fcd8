use Rattle.std.proofs.Common.{◌≡◌, ◌∙◌, sym, ap, refl, true, Some}
use Rattle.birth_notice.specs.Family.{are_births, children_of, lowest, first_unsynced}
use Rattle.birth_notice.proofs.LowestLaws.{none-lowest}
use Rattle.birth_notice.proofs.WalkLaws.{first-some, first-childless}
use Rattle.birth_notice.proofs.family.Family.first_unsynced.Goals as goal

pub returns-in-Some-clause-first : goal.returns-in-Some-clause-first
returns-in-Some-clause-first c =
    let births = c.as_slice-births.result.now in
    let ok : are_births births ≡ true = ap are_births c.as_slice-births.ensures.value ∙ c.self.invariant in
    ap Some c.first_from.ensures ∙ sym (first-some births ok c.args.parent c.in-Some.child (sym c.in-Some.ensures))
    ∙ ap (λ l. first_unsynced l c.args.parent) (c.as_slice-births.ensures.value ∙ c.self.view_is)

pub returns-in-Some-clause-childless : goal.returns-in-Some-clause-childless
returns-in-Some-clause-childless c =
    let ok : are_births c.args.self.now ≡ true = ap are_births (sym c.self.view_is) ∙ c.self.invariant in
    first-childless c.args.self.now ok c.args.parent c.first_from.result (sym (returns-in-Some-clause-first c))

pub returns-in-None-clause-none : goal.returns-in-None-clause-none
returns-in-None-clause-none c =
    let births = c.args.self.now in
    let none = c.in-None.ensures ∙ ap (λ l. lowest (children_of l c.args.parent)) (c.as_slice-births.ensures.value ∙ c.self.view_is) in
    (λ _. none-lowest (children_of births c.args.parent) (sym none), λ _. refl)
