-- A log that is legal by a rule is legal by a weaker one.
use Rattle.std.proofs.Common.{List, [], ◌∷◌, ◌++◌}
use Rattle.sys_text.specs.declared.system.System.{System}
use Rattle.bus_msg.specs.declared.entry.Entry.{Entry}
use Rattle.cert_sched.specs.Legal.{IsLegalBy, IsLegalFrom, Stands, MayStand}
use Rattle.cert_sched.proofs.CameLaws.{IsStandingRule}

stands_from : (May : System → List Entry → Entry → Type 0) → IsStandingRule May → (system : System) (log rest : List Entry) → IsLegalFrom May system log rest → IsLegalFrom Stands system log rest
stands_from May standing system log [] legal = tt
stands_from May standing system log (e ∷ rest) legal = (standing system log e legal.0, stands_from May standing system (log ++ e ∷ []) rest legal.1)

-- by one under which each entry stands, each entry stands
pub legal_stands : (May : System → List Entry → Entry → Type 0) → IsStandingRule May → (system : System) (log : List Entry) → IsLegalBy May system log → IsLegalBy Stands system log
unfolding IsLegalBy
legal_stands May standing system log legal = stands_from May standing system [] log legal

-- so it does in a log of the entries that are built so far
pub all_stand : (system : System) (log : List Entry) → IsLegalBy MayStand system log → IsLegalBy Stands system log
all_stand = legal_stands MayStand (λ system log e may. may.stands)

pub itself : IsStandingRule Stands
itself system log e stands = stands
