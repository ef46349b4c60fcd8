use Rattle.std.proofs.Common.{◌≡◌, ◌<◌, ◌∙◌, sym, ap, subst, length, true, Ok, Some}
use Rattle.std.specs.Prelude.{slice_set}
use Rattle.std.specs.List.{list_any}
use Rattle.sys_text.specs.declared.system.System.{System}
use Rattle.cert_sched.specs.Looked.{is_reached}
use Rattle.cert_sched.specs.Schedule.{placement}
use Rattle.bus_order.specs.View.{Admits, BusView, after_words, is_awaited, with_mark}
use Rattle.bus_order.proofs.Admitting.{grown_after, has_after, mark_after}
use Rattle.bus_order.proofs.Looking.{IsSettled, settled_after}
use Rattle.bus_order.proofs.MarksLaws.{marks_restored}
use Rattle.bus_order.proofs.bus.Bus.idle.Goals as goal

pub set_mark-before-requires-clause-has : goal.set_mark-before-requires-clause-has
set_mark-before-requires-clause-has c =
    let same : c.look.new.self ≡ after_words c.args.self.now = c.in_default.ensures.ok in
    has_after c.args.self.now c.look.new.self c.args.cursor same c.requires.seen c.in_ok-admit.ensures.admits.0 c.in_ok-admit.ensures.admits.2 c.args.by c.args.mark c.requires

pub set_mark-before-requires-clause-holds : goal.set_mark-before-requires-clause-holds
set_mark-before-requires-clause-holds c =
    let same : c.look.new.self ≡ after_words c.args.self.now = c.in_default.ensures.ok in
    mark_after c.args.self.now c.look.new.self c.args.cursor same c.requires.seen c.in_ok-admit.ensures.admits.0 c.in_ok-admit.ensures.admits.2 c.args.by c.args.mark c.requires

pub returns-then-is_waiting-clause-idles : goal.returns-then-is_waiting-clause-idles
returns-then-is_waiting-clause-idles c =
    let old = c.args.self.now in
    let mid = c.look.new.self in
    let new = c.set_mark-before.new.self in
    let same : mid ≡ after_words old = c.in_default.ensures.ok in
    let system : new.system ≡ old.system = ap (λ (b : BusView). b.system) c.set_mark-before.ensures.set ∙ (grown_after old mid same).system in
    let log : new.log ≡ (after_words old).log = ap (λ (b : BusView). b.log) c.set_mark-before.ensures.set ∙ ap (λ (b : BusView). b.log) same in
    let awaited : is_awaited (placement old.system (after_words old).log) new.marks ≡ true = sym (λ i. is_awaited (placement (system i) (log i)) new.marks) ∙ sym c.if-is_waiting.ensures in
    let admits : Admits (after_words old) c.args.by c.args.cursor (Ok tt) = subst (λ b. Admits b c.args.by c.args.cursor (Ok tt)) same c.in_ok-admit.ensures.admits in
    (admits, awaited, c.set_mark-before.ensures.set ∙ ap (λ b. with_mark b c.args.by c.args.mark) same)

pub end-requires-clause-looked : goal.end-requires-clause-looked
end-requires-clause-looked c =
    let same : c.look.new.self ≡ after_words c.args.self.now = c.in_default.ensures.ok in
    ap (λ (b : BusView). list_any (is_reached (length b.log)) b.left) c.set_mark-before.ensures.set ∙ subst IsSettled (sym same) (settled_after c.args.self.now) c.in_ok-admit.ensures.admits.0

pub set_mark-requires-clause-has : goal.set_mark-requires-clause-has
set_mark-requires-clause-has c =
    let old = c.args.self.now in
    let mid = c.look.new.self in
    let same : mid ≡ after_words old = c.in_default.ensures.ok in
    let system : c.end.new.self.system ≡ old.system = ap (λ (b : BusView). b.system) (c.in-Err-end.ensures.err ∙ c.set_mark-before.ensures.set) ∙ (grown_after old mid same).system in
    subst (λ (s : System). c.args.by.0 < s.clusters) (sym system) c.requires.has

pub returns-in-Err-end-clause-idles : goal.returns-in-Err-end-clause-idles
returns-in-Err-end-clause-idles c =
    let mid = c.look.new.self in
    let same : mid ≡ after_words c.args.self.now = c.in_default.ensures.ok in
    let marked : c.end.new.self ≡ with_mark mid c.args.by c.args.mark = c.in-Err-end.ensures.err ∙ c.set_mark-before.ensures.set in (
      length c.args.self.now.left,
      c.set_mark.ensures.set
          ∙ ap (λ (b : BusView). record b { marks = slice_set b.marks c.args.by.0 c.set_mark-before.result }) marked
          ∙ ap (λ m. record mid { marks = slice_set (slice_set mid.marks c.args.by.0 (Some c.args.mark)) c.args.by.0 m }) c.set_mark-before.ensures.before
          ∙ ap (λ ms. record mid { marks = ms }) (marks_restored mid.marks c.args.by (Some c.args.mark))
          ∙ same,
    )
