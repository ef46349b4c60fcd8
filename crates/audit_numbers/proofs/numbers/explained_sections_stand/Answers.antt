use Rattle.audit_numbers.proofs.numbers.explained_sections_stand.Goals as goal

pub returns-clause-form : goal.returns-clause-form
returns-clause-form c = λ system section valid short is.
    c.explained_sections_are_form.ensures system section is (c.explained_numbers_fit.ensures.kernel system section valid short is) (c.explained_numbers_fit.ensures.run system section valid short is)

pub returns-clause-none : goal.returns-clause-none
returns-clause-none c = λ system section found valid short is.
    c.findings_differ.ensures.none system section is (c.explained_numbers_fit.ensures.kernel system section valid short is) (c.explained_numbers_fit.ensures.run system section valid short is) found
