-- The cert before the first entry.
use Rattle.std.proofs.Common.{subst, sym}
use Rattle.cert_sched.specs.CertAfter.{StartsSchedule}
use Rattle.cert_sched.proofs.CertLaws.{none_starts}
use Rattle.cert_sched.proofs.cert.Cert.none.Goals as goal

-- src/cert.rt:34:5
pub returns-clause-starts : goal.returns-clause-starts
returns-clause-starts c =
    let items = c.new.ensures.items in
    let done = c.new-2.ensures.empty in
    subst StartsSchedule (λ i. record { items = sym items i; done = sym done i }) none_starts
