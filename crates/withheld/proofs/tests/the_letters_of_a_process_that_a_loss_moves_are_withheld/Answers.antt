use Rattle.std.proofs.Common.{[], ◌∷◌, ◌++◌, ◌∙◌}
use Rattle.withheld.specs.Worked.{two_and_one, two_writers, with_loss}
use Rattle.withheld.proofs.WorkedLog.{legal, legal_as, legal_before}
use Rattle.withheld.proofs.tests.the_letters_of_a_process_that_a_loss_moves_are_withheld.Goals as goal

pub withheld-requires-clause-legal : goal.withheld-requires-clause-legal
withheld-requires-clause-legal g c = legal_as two_writers c.in_ok-system.system two_and_one c.deref.result.now legal_before c.in_ok-system.ensures (c.deref.ensures.value ∙ c.in_ok-log.ensures)

pub withheld-requires-2-clause-legal : goal.withheld-requires-2-clause-legal
withheld-requires-2-clause-legal g c =
    legal_as two_writers c.in_ok-system.system with_loss c.deref-2.result.now legal c.in_ok-system.ensures (c.deref-2.ensures.value ∙ c.in_ok-push.ensures.items ∙ (λ i. c.in_ok-log.ensures i ++ c.loss.ensures i ∷ []))
