use Rattle.cert_sched.proofs.FirstBad.{items_from_answer, cause_from_answer}
use Rattle.cert_sched.proofs.reading.read_items.Goals as goal

pub returns-clause-items : goal.returns-clause-items
returns-clause-items c = items_from_answer c.args.text.now c.read_section.result c.read_section.ensures

pub returns-clause-refused : goal.returns-clause-refused
returns-clause-refused c = cause_from_answer c.args.text.now c.read_section.result c.read_section.ensures
