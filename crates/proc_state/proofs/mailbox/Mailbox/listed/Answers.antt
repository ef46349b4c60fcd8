use Rattle.std.proofs.Common.{◌≡◌, [], ◌++◌, sym, ap, ◌∙◌, subst}
use Rattle.std.proofs.lemmas.List.{append-nil}
use Rattle.proc_state.specs.Mail.{MailState, RiseTo}
use Rattle.proc_state.proofs.QueueLaws.{queue_from_none}
use Rattle.proc_state.proofs.FirstLaws.{numbers_rise}
use Rattle.proc_state.proofs.mailbox.Mailbox.listed.Goals as goal

pub returns-clause-numbers : goal.returns-clause-numbers
returns-clause-numbers c =
    let items = c.loop-arrived.letters.items in
    let left : c.loop-arrived.rest.letters ≡ [] = queue_from_none c.loop-arrived.rest.letters (sym c.in_default.ensures.taken) in
    let all : items ≡ c.args.self.now.letters = sym (append-nil items) ∙ ap (λ rest. items ++ rest) (sym left) ∙ c.loop-arrived.invariant in
    subst (λ letters. RiseTo 0 letters c.args.self.now.next) (sym (c.from_vec.ensures ∙ all))
    (subst (λ (m : MailState). RiseTo 0 m.letters m.next) c.self.view_is (numbers_rise c.self.inside.queues.items c.self.inside.next c.self.invariant.sorted))
