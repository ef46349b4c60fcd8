use Rattle.std.proofs.Common.{refl, sym, ◌∙◌, ap, true≢false}
use Rattle.bus_msg.specs.PlacedAfter.{what}
use Rattle.cert_sched.specs.Account.{is_exit_of}
use Rattle.audited_log.proofs.Taking.{comes_same, comes_with, comes_without, no_birth_at, no_exit_at, takes_all}
use Rattle.audited_log.proofs.processes.take.Goals as goal

pub returns-in-Exit : goal.returns-in-Exit
returns-in-Exit c =
    let old = c.args.processes.now.entries in
    let gone = c.go_on_all.new.processes.entries in
    takes_all c.args.before.now c.args.entry.now c.args.child old gone c.remove.new.self.entries c.in_ok-go_on_all.ensures
    (comes_without c.args.before.now c.args.entry.now c.args.child old gone c.remove.new.self.entries c.in-Exit.pid c.in-Exit.at c.in-Exit.end c.in-Exit.is c.remove.ensures.updates.0)

pub returns-in_ok-insert-in-Birth : goal.returns-in_ok-insert-in-Birth
returns-in_ok-insert-in-Birth c =
    let old = c.args.processes.now.entries in
    let gone = c.go_on_all.new.processes.entries in
    takes_all c.args.before.now c.args.entry.now c.args.child old gone c.insert.new.self.entries c.in_ok-go_on_all.ensures
    (comes_with c.args.before.now c.args.entry.now c.args.child old gone c.insert.new.self.entries c.in-Birth.parent c.in-Birth.at c.in-Birth.pid c.in-Birth.end c.in-Some.born
    c.in_ok-child-in-Birth.field-0
    c.in-Birth.is c.in-Some.is c.in_ok-insert-in-Birth.ensures.updates.0 c.in_ok-child-in-Birth.ensures.audited c.in_ok-child-in-Birth.ensures.ahead)

pub returns-in_default-child : goal.returns-in_default-child
returns-in_default-child c =
    let old = c.args.processes.now.entries in
    let gone = c.go_on_all.new.processes.entries in
    takes_all c.args.before.now c.args.entry.now c.args.child old gone gone c.in_ok-go_on_all.ensures
    (comes_same c.args.before.now c.args.entry.now c.args.child old gone gone refl (λ p. ap (is_exit_of p) c.in-Birth.is) (λ p s own there. c.in_default-child.not-Some s there))

pub returns-in_default : goal.returns-in_default
returns-in_default c =
    let old = c.args.processes.now.entries in
    let gone = c.go_on_all.new.processes.entries in
    takes_all c.args.before.now c.args.entry.now c.args.child old gone gone c.in_ok-go_on_all.ensures
    (comes_same c.args.before.now c.args.entry.now c.args.child old gone gone refl
    (no_exit_at (what c.args.entry.now) c.in_default.not-Exit)
    (λ p s own there. true≢false (sym own ∙ no_birth_at (what c.args.entry.now) c.in_default.not-Birth p)))
