-- One rule for an entry and the other.
use Rattle.std.proofs.Common.{◌≡◌, refl, sym, List, [], ◌∷◌, ◌++◌, true, true≢false}
use Rattle.sys_text.specs.declared.system.System.{System}
use Rattle.bus_msg.specs.declared.entry.What.{What}
use Rattle.bus_msg.specs.declared.entry.What.TheVariants.{Page}
use Rattle.bus_msg.specs.declared.entry.Entry.{Entry}
use Rattle.cert_sched.specs.Rules.{is_new_page, tells_or_closes}
use Rattle.cert_sched.specs.Legal.{IsLegal, IsLegalBy, IsLegalFrom, MayFollow, MayStand}

-- what tells of steps or closes the log is no page
pub telling_sends_no_page : (system : System) (log : List Entry) (w : What) → tells_or_closes w ≡ true → is_new_page system log w ≡ true
telling_sends_no_page system log (Page pid at index bytes) h = absurd (true≢false (sym h))
telling_sends_no_page system log _ h = refl

-- what may follow may stand next
pub may_stand : (system : System) (log : List Entry) (e : Entry) → MayFollow system log e → MayStand system log e
may_stand system log e may = record { stands = may.stands; limits = may.limits; new_page = may.new_page; pages = may.pages }

each_stands : (system : System) (log rest : List Entry) → IsLegalFrom MayFollow system log rest → IsLegalFrom MayStand system log rest
each_stands system log [] h = tt
each_stands system log (e ∷ rest) h = (may_stand system log e h.0, each_stands system (log ++ e ∷ []) rest h.1)

-- so a legal log is one by all rules but that of new backups
pub legal_may_stand : (system : System) (log : List Entry) → IsLegal system log → IsLegalBy MayStand system log
unfolding IsLegalBy
legal_may_stand system log legal = each_stands system [] log legal
