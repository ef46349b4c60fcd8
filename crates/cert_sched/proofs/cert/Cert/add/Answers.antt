-- The cert after an entry.
use Rattle.cert_sched.proofs.CertLaws.{kept}
use Rattle.cert_sched.proofs.cert.Cert.add.Goals as goal

-- src/cert.rt:46:5
pub returns-clause-keeps : goal.returns-clause-keeps
returns-clause-keeps c =
    kept c.add_entry.result c.args.self.now
    (record { items = c.self.inside.items.items; done = c.self.inside.done.entries })
    (record { items = c.add_entry.new.items.items; done = c.add_entry.new.done.entries })
    c.args.entry.now c.self.view_is c.add_entry.ensures.items c.add_entry.ensures.done
