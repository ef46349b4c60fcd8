use Rattle.std.proofs.Common.{◌∙◌}
use Rattle.withheld.specs.Worked.{two_waiting, with_cut}
use Rattle.withheld.proofs.WorkedLog.{legal_as, legal_with_cut}
use Rattle.withheld.proofs.tests.letters_before_a_synchronisation_are_not_withheld.Goals as goal

pub withheld-requires-clause-legal : goal.withheld-requires-clause-legal
withheld-requires-clause-legal g c = legal_as two_waiting c.in_ok-system.system with_cut c.deref.result.now legal_with_cut c.in_ok-system.ensures (c.deref.ensures.value ∙ c.in_ok-log.ensures)
