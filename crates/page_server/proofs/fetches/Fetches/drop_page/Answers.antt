-- The answer to a fetch that is first and alone leaves the others; else all are looked at.
use Rattle.std.proofs.Common.{sym, ap, ◌∙◌, subst}
use Rattle.page_server.specs.Account.{fetches_but}
use Rattle.page_server.specs.Fetches.{Noted}
use Rattle.page_server.proofs.FetchLaws.{first_was_all, page_dropped}
use Rattle.page_server.proofs.fetches.Fetches.drop_page.Goals as goal

pub invariant_of-self : goal.invariant_of-self
invariant_of-self c =
    subst (Noted c.remove-note.new.self)
    (sym (c.pop_front.ensures.rest ∙ first_was_all c.self.inside.notes c.args.pid c.args.i c.self.inside.waiting.items
    (c.is_first_alone.ensures.first c.if-is_first_alone.true) (sym c.remove-note.ensures.value ∙ c.is_first_alone.ensures.alone c.if-is_first_alone.true) c.self.invariant))
    (page_dropped c.self.inside.notes c.remove-note.new.self c.args.pid c.args.i c.self.inside.waiting.items c.remove-note.ensures.updates.0 c.self.invariant)

pub invariant_of-self-else-is_first_alone : goal.invariant_of-self-else-is_first_alone
invariant_of-self-else-is_first_alone c =
    subst (Noted c.remove-note.new.self) (sym c.drop_fetch.ensures)
    (page_dropped c.self.inside.notes c.remove-note.new.self c.args.pid c.args.i c.self.inside.waiting.items c.remove-note.ensures.updates.0 c.self.invariant)

pub returns-then-is_first_alone : goal.returns-then-is_first_alone
returns-then-is_first_alone c =
    c.pop_front.ensures.rest
    ∙ first_was_all c.self.inside.notes c.args.pid c.args.i c.self.inside.waiting.items
    (c.is_first_alone.ensures.first c.if-is_first_alone.true) (sym c.remove-note.ensures.value ∙ c.is_first_alone.ensures.alone c.if-is_first_alone.true) c.self.invariant
    ∙ ap (fetches_but c.args.pid c.args.i) c.self.view_is
