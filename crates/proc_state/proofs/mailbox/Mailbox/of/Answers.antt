use Rattle.std.proofs.Common.{◌≡◌, ◌+◌, ◌≤◌, ◌∷◌, drop, sym, ap, ◌∙◌, subst, arith}
use Rattle.std.proofs.lemmas.List.{drop_more}
use Rattle.proc_state.specs.Mail.{MailState, RiseTo}
use Rattle.proc_state.proofs.FirstLaws.{rise_at_most}
use Rattle.proc_state.proofs.mailbox.Mailbox.of.Goals as goal

pub receive-requires : goal.receive-requires
receive-requires c =
    let letters = c.args.letters.now in
    let i = c.loop-arrived.arrived-index in
    let a = c.arrived-item.result in
    let more : drop i letters ≡ a ∷ drop (i + 1) letters = drop_more letters i a c.loop-arrived-test.true ∙ ap (λ x. x ∷ drop (i + 1) letters) (sym c.arrived-item.is) in
    let rises = subst (λ rest. RiseTo c.loop-arrived.mail.next rest c.args.next) more c.loop-arrived.invariant.1 in
    let most : a.number + 1 ≤ c.args.next = rise_at_most (a.number + 1) (drop (i + 1) letters) c.args.next rises.1 in
    let now = ap (λ (m : MailState). m.next) c.skip_to.ensures in
    omega (arith, most, now, c.ranges.next.fits)
