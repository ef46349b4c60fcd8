use Rattle.std.proofs.Common.{◌≡◌, [], ◌-◌, drop, set, slice_get, sym, ap, ◌∙◌, subst}
use Rattle.std.proofs.lemmas.List.{get_or_default}
use Rattle.proc_state.specs.Mail.{MailState}
use Rattle.proc_state.specs.Queues.{in_order, first_number, IsEarliestOfAll, IsMailbox}
use Rattle.proc_state.proofs.QueueLaws.{some_taken}
use Rattle.proc_state.proofs.FirstLaws.{first_in_order, none_in_order}
use Rattle.proc_state.proofs.mailbox.Mailbox.take_earliest.Goals as goal

pub returns-in_err-end-clause-taken : goal.returns-in_err-end-clause-taken
returns-in_err-end-clause-taken c =
    let queues = c.self.inside.queues.items in
    let none : in_order queues ≡ [] = none_in_order queues (λ e. ap (λ qs. first_number qs e) (sym c.as_slice.ensures.value) ∙ c.in_err-end.ensures e) in
    c.from_residual.ensures ∙ ap (λ letters. slice_get letters 0) (sym none) ∙ ap (λ (m : MailState). slice_get m.letters 0) c.self.view_is

pub returns-in_err-end-clause-left : goal.returns-in_err-end-clause-left
returns-in_err-end-clause-left c =
    let inside = c.self.inside in
    let none : in_order inside.queues.items ≡ [] = none_in_order inside.queues.items (λ e. ap (λ qs. first_number qs e) (sym c.as_slice.ensures.value) ∙ c.in_err-end.ensures e) in
    sym c.self.view_is ∙ (λ i. record { letters = (none ∙ ap (drop 1) (sym none)) i; next = inside.next })
    ∙ ap (λ (m : MailState). record m { letters = drop 1 m.letters }) c.self.view_is

pub overflow_sub-self : goal.overflow_sub-self
overflow_sub-self c =
    let inside = c.self.inside in
    let queues = inside.queues.items in
    let earliest : IsEarliestOfAll queues c.in_ok-end.end = rw (← c.as_slice.ensures.value) c.in_ok-end.ensures in
    let queue = c.index_mut.ensures.value ∙ get_or_default queues c.in_ok-end.end c.index_mut.result.now [] earliest.within in
    (some_taken queues inside.unread inside.next c.in_ok-end.end c.in-Some.arrived (c.in-Some.ensures.taken ∙ ap (λ q. slice_get q 0) queue) c.self.invariant).0

pub invariant_of-self : goal.invariant_of-self
invariant_of-self c =
    let inside = c.self.inside in
    let queues = inside.queues.items in
    let earliest : IsEarliestOfAll queues c.in_ok-end.end = rw (← c.as_slice.ensures.value) c.in_ok-end.ensures in
    let queue = c.index_mut.ensures.value ∙ get_or_default queues c.in_ok-end.end c.index_mut.result.now [] earliest.within in
    subst (λ q. IsMailbox (set queues c.in_ok-end.end q) (inside.unread - 1) inside.next) (sym (c.in-Some.ensures.left ∙ ap (drop 1) queue))
    ((some_taken queues inside.unread inside.next c.in_ok-end.end c.in-Some.arrived (c.in-Some.ensures.taken ∙ ap (λ q. slice_get q 0) queue) c.self.invariant).1)

pub returns-in-Some-clause-taken : goal.returns-in-Some-clause-taken
returns-in-Some-clause-taken c =
    let inside = c.self.inside in
    let queues = inside.queues.items in
    let earliest : IsEarliestOfAll queues c.in_ok-end.end = rw (← c.as_slice.ensures.value) c.in_ok-end.ensures in
    let queue = c.index_mut.ensures.value ∙ get_or_default queues c.in_ok-end.end c.index_mut.result.now [] earliest.within in
    let order = first_in_order queues inside.next c.in_ok-end.end c.in-Some.arrived c.self.invariant.sorted earliest (sym (c.in-Some.ensures.taken ∙ ap (λ q. slice_get q 0) queue)) in
    ap (λ letters. slice_get letters 0) (sym order) ∙ ap (λ (m : MailState). slice_get m.letters 0) c.self.view_is

pub returns-in-Some-clause-left : goal.returns-in-Some-clause-left
returns-in-Some-clause-left c =
    let inside = c.self.inside in
    let queues = inside.queues.items in
    let earliest : IsEarliestOfAll queues c.in_ok-end.end = rw (← c.as_slice.ensures.value) c.in_ok-end.ensures in
    let queue = c.index_mut.ensures.value ∙ get_or_default queues c.in_ok-end.end c.index_mut.result.now [] earliest.within in
    let order = first_in_order queues inside.next c.in_ok-end.end c.in-Some.arrived c.self.invariant.sorted earliest (sym (c.in-Some.ensures.taken ∙ ap (λ q. slice_get q 0) queue)) in
    let left = ap (λ q. in_order (set queues c.in_ok-end.end q)) (c.in-Some.ensures.left ∙ ap (drop 1) queue) ∙ ap (drop 1) (sym order) in
    (λ i. record { letters = left i; next = inside.next }) ∙ ap (λ (m : MailState). record m { letters = drop 1 m.letters }) c.self.view_is
