use Rattle.std.proofs.Common.{◌∙◌, ap, sym}
use Rattle.cert_sched.specs.Parts.{first_of}
use Rattle.residents.specs.Residents.{ResidentsView}
use Rattle.residents.specs.Asking.{any_lacks, is_lowest_lacking}
use Rattle.plain_kernel.specs.Maps.{pid_of}
use Rattle.residents.proofs.Kept.{first_is}
use Rattle.residents.proofs.Asking.{lowest_asks, none_asks}
use Rattle.residents.proofs.residents.Residents.next_asking.Goals as goal

pub returns-clause-first : goal.returns-clause-first
returns-clause-first c =
    c.copied.ensures ∙ first_is c.first.result c.self.inside.asking.keys c.first.ensures.first c.first.ensures.variant.1 ∙ ap (λ (v : ResidentsView). first_of v.asking) c.self.view_is

pub returns-clause-none : goal.returns-clause-none
returns-clause-none c = λ none.
    let first = c.copied.ensures ∙ first_is c.first.result c.self.inside.asking.keys c.first.ensures.first c.first.ensures.variant.1 in
    ap (λ (v : ResidentsView). any_lacks v.here) (sym c.self.view_is) ∙ none_asks c.self.inside.duty c.self.inside.residents c.self.inside.keys.entries c.self.inside.ready.keys c.self.inside.asking.keys c.self.invariant.0 (sym first ∙ none)

pub returns-clause-lowest : goal.returns-clause-lowest
returns-clause-lowest c = λ pid is.
    ap (λ (v : ResidentsView). is_lowest_lacking (pid_of pid) v.here) (sym c.self.view_is)
    ∙ lowest_asks c.self.inside.duty c.self.inside.residents c.self.inside.keys.entries c.self.inside.ready.keys c.self.inside.asking.keys c.first.result pid c.self.invariant.0 c.first.ensures.all_from (sym c.copied.ensures ∙ is)
