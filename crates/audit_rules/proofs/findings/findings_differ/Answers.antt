use Rattle.cert_sched.specs.Legal.{MayFollow}
use Rattle.audit_rules.proofs.Found.{none_found, one_finding}
use Rattle.audit_rules.proofs.findings.findings_differ.Goals as goal

pub returns-clause-one : goal.returns-clause-one
returns-clause-one c system section = one_finding MayFollow system section

pub returns-clause-none : goal.returns-clause-none
returns-clause-none c system section is kernel run = none_found MayFollow system section is (c.explained_sections_are_form.ensures system section is kernel run)
