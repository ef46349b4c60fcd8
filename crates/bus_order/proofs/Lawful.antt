use Rattle.cert_sched.specs.Legal.{IsLegalBy, MayStand}
use Rattle.cert_sched.proofs.MayLaws.{legal_may_stand}
use Rattle.bus_order.specs.View.{BusView, IsLawful}

-- the log of a bus is one by all rules but that of new backups, of which most laws ask no more
pub lawful_stands : {b : BusView} → IsLawful b → IsLegalBy MayStand b.system b.log
lawful_stands {b} lawful = legal_may_stand b.system b.log lawful.legal
