use Rattle.std.proofs.Common.{◌∙◌, ap, sym, subst, refl, true, false}
use Rattle.plain_kernel.specs.Maps.{pid_of}
use Rattle.std.specs.Prelude.{option_and_then}
use Rattle.residents.specs.ForkingAgain.{child_again, waits_for_fork_at, CanForkAgainNow}
use Rattle.residents.specs.Held.{held_of}
use Rattle.residents.proofs.RollingParts.{bears_next, begins_same, begins_with, fork_alone}
use Rattle.residents.proofs.residents.Residents.fork_again.Goals as goal

pub returns-then-not-waits_for_fork-clause-ok : goal.returns-then-not-waits_for_fork-clause-ok
returns-then-not-waits_for_fork-clause-ok c =
    let p = pid_of c.args.pid in
    let old = c.args.self.now.here in
    let mid = c.bear_again.new.self.here in
    let bears = c.in_ok-bear_again.ensures.ok in
    let child = bears_next p old mid false c.in_ok-bear_again.field-0 bears c.in-Some.child (sym c.next_child.ensures ∙ c.in-Some.is) in
    fork_alone p old mid false c.in_ok-bear_again.field-0 bears c.waits_for_fork.ensures.ordered (ap (waits_for_fork_at old) (sym child) ∙ sym c.if-not-waits_for_fork.ensures.waits)

pub begin_again-requires-clause-can : goal.begin_again-requires-clause-can
begin_again-requires-clause-can c = λ h at.
    let p = pid_of c.args.pid in
    let old = c.make_ready.new.self.here in
    let mid = c.bear_again-2.new.self.here in
    let bears = c.in_ok-born.ensures.ok in
    let same = c.in_ok-make_ready.ensures.here in
    let child = bears_next p old mid true c.in_ok-born.field-0 bears c.in-Some.child (ap (λ hs. option_and_then child_again (held_of hs p)) same ∙ sym c.next_child.ensures ∙ c.in-Some.is) in
    begins_with p old mid true c.in_ok-born.field-0 bears c.in-Some-2.born (begins_same p old mid true c.in_ok-born.field-0 bears (subst (CanForkAgainNow p) (sym same) c.requires.can))
    (ap (waits_for_fork_at old) (sym child) ∙ ap (λ hs. waits_for_fork_at hs c.in-Some.child) same ∙ sym c.if-not-waits_for_fork.ensures.waits) refl c.in-Some-2.is h (ap (held_of mid) (sym child) ∙ at)
