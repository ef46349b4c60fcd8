-- A birth of a child that is new here may stand behind the others.
use Rattle.std.proofs.Common.{◌≡◌, ◌∙◌, ap, false}
use Rattle.std.specs.List.{list_any}
use Rattle.birth_notice.specs.Family.{stands_in}
use Rattle.birth_notice.proofs.BirthLaws.{births_born}
use Rattle.birth_notice.proofs.family.Family.born.Goals as goal

pub invariant_of-self-2 : goal.invariant_of-self-2
invariant_of-self-2 c =
    let new : list_any (stands_in c.args.child) c.self.inside.births.items ≡ false = ap (list_any (stands_in c.args.child)) c.self.view_is ∙ c.requires.new in
    rw c.in_ok-push.ensures.items (births_born c.self.inside.births.items c.args.parent c.args.child c.self.invariant c.requires.other new)
