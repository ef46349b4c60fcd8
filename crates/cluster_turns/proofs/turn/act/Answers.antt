use Rattle.std.proofs.Common.{◌≡◌, ◌∙◌, ap, drop, false, refl, subst, sym, is_some, true, ℕ}
use Rattle.sys_text.specs.Valid.{is_system}
use Rattle.std.specs.Prelude.{IfErr, IfOk, OnOk, Ok, Err, Result}
use Rattle.cluster_core.specs.declared.hurt.Hurt.{Hurt}
use Rattle.cluster_core.specs.declared.hurt.Hurt.TheVariants.{Disk}
use Rattle.cluster_core.specs.declared.worked.Worked.{Worked}
use Rattle.cluster_core.specs.declared.worked.Worked.TheVariants.{Moved, Queued, Waits, Rests}
use Rattle.cluster_core.specs.Calls.{FailsBy, GoesOn, HurtIs, KeepsPlace, WorkIs}
use Rattle.cluster_core.specs.View.{ClusterView, head_of}
use Rattle.cluster_core.proofs.working.Lightening.{moved_lightens}
use Rattle.cert_sched.specs.Losses.{was_lost_in}
use Rattle.page_server.specs.declared.disk.DiskFault.{DiskFault}
use Rattle.cluster_turns.specs.Turns.{GoesOwn, LosesOwn, SendsAll, TurnsOwn}
use Rattle.cluster_turns.proofs.StepLosses.{failed_named}
use Rattle.cluster_turns.proofs.Owning.{gone_turn, moves_turn, sends_turn, tells_turn, waits_turn, where_ok}
use Rattle.cluster_turns.proofs.Failing.{call_failed}
use Rattle.cluster_turns.proofs.Posting.{follows_some, queued_head, worked_posting, worked_shown}
use Rattle.cluster_turns.proofs.Answering.{along_answered, along_awaits}
use Rattle.t32_base.specs.declared.process.ClusterNo.{ClusterNo}
use Rattle.cluster_turns.specs.Progress.{HasAnswered}
use Rattle.cluster_turns.proofs.TakingIn.{none_taken, seen_unlost}
use Rattle.cluster_turns.proofs.Staying.{stays_there}
use Rattle.cluster_turns.proofs.Growing.{grown_none}
use Rattle.cluster_turns.specs.Along.{StaysAlive}
use Rattle.cluster_turns.proofs.turn.act.Goals as goal

-- what a work says, where it answered so
module _ (old new : ClusterView) (r : Result Worked Hurt) (w : Worked) (is : r ≡ Ok w) where
  work_is : IfOk r (λ worked. WorkIs old worked new) → WorkIs old w new
  work_is holds = subst (λ r. IfOk r (λ worked. WorkIs old worked new)) is holds

  goes_on : OnOk r (GoesOn old new) → GoesOn old new
  goes_on holds = subst (λ r. OnOk r (GoesOn old new)) is holds

  keeps : OnOk r (KeepsPlace old new) → KeepsPlace old new
  keeps holds = subst (λ r. OnOk r (KeepsPlace old new)) is holds

-- or what its error says
hurt_is : (old new : ClusterView) (r : Result Worked Hurt) (fault : DiskFault) → r ≡ Err (Disk fault) → IfErr r (λ hurt. HurtIs old hurt new) → FailsBy fault.call old new
hurt_is old new r fault is holds = subst (λ r. IfErr r (λ hurt. HurtIs old hurt new)) is holds

pub work-requires-clause-follows : goal.work-requires-clause-follows
work-requires-clause-follows g c = follows_some (g.P.Port.bus c.args.port.now) c.args.cluster.now c.requires.shown.sound c.requires.shown.along

pub send-requires-clause-posting : goal.send-requires-clause-posting
send-requires-clause-posting g c =
    let v = c.args.cluster.now in
    let worked : ClusterView = c.work.new.self in
    worked_posting (g.P.Port.shows c.args.port.now) (g.P.Port.from c.args.port.now) (g.P.Port.bus c.args.port.now) v worked c.requires.shown c.requires.unnamed c.requires.seen c.requires.goes_on
    (goes_on v worked c.work.result Queued (c.in-Ok-Queued.is ∙ ap (λ w. Ok w) c.in-Ok-Queued.field-0-is) c.work.ensures.follows) (keeps v worked c.work.result Queued (c.in-Ok-Queued.is ∙ ap (λ w. Ok w) c.in-Ok-Queued.field-0-is) c.work.ensures.place) (work_is v worked c.work.result Queued (c.in-Ok-Queued.is ∙ ap (λ w. Ok w) c.in-Ok-Queued.field-0-is) c.work.ensures.work)

pub tell-requires-clause-shown : goal.tell-requires-clause-shown
tell-requires-clause-shown g c =
    let v = c.args.cluster.now in
    let worked : ClusterView = c.work.new.self in
    worked_shown (g.P.Port.shows c.args.port.now) (g.P.Port.from c.args.port.now) (g.P.Port.bus c.args.port.now) v worked Rests c.requires.shown c.requires.unnamed
    (goes_on v worked c.work.result Rests (c.in-Ok-Rests.is ∙ ap (λ w. Ok w) c.in-Ok-Rests.field-0-is) c.work.ensures.follows) (keeps v worked c.work.result Rests (c.in-Ok-Rests.is ∙ ap (λ w. Ok w) c.in-Ok-Rests.field-0-is) c.work.ensures.place) (work_is v worked c.work.result Rests (c.in-Ok-Rests.is ∙ ap (λ w. Ok w) c.in-Ok-Rests.field-0-is) c.work.ensures.work)

pub returns-in-Ok-Moved-clause-stands : goal.returns-in-Ok-Moved-clause-stands
returns-in-Ok-Moved-clause-stands g c =
    let v = c.args.cluster.now in
    let worked : ClusterView = c.work.new.self in
    worked_shown (g.P.Port.shows c.args.port.now) (g.P.Port.from c.args.port.now) (g.P.Port.bus c.args.port.now) v worked Moved c.requires.shown c.requires.unnamed
    (goes_on v worked c.work.result Moved (c.in-Ok-Moved.is ∙ ap (λ w. Ok w) c.in-Ok-Moved.field-0-is) c.work.ensures.follows) (keeps v worked c.work.result Moved (c.in-Ok-Moved.is ∙ ap (λ w. Ok w) c.in-Ok-Moved.field-0-is) c.work.ensures.place) (work_is v worked c.work.result Moved (c.in-Ok-Moved.is ∙ ap (λ w. Ok w) c.in-Ok-Moved.field-0-is) c.work.ensures.work)

pub returns-in-Ok-Moved-clause-own : goal.returns-in-Ok-Moved-clause-own
returns-in-Ok-Moved-clause-own g c alone own =
    let b = g.P.Port.bus c.args.port.now in
    let v = c.args.cluster.now in
    let worked : ClusterView = c.work.new.self in
    let is = work_is v worked c.work.result Moved (c.in-Ok-Moved.is ∙ ap (λ w. Ok w) c.in-Ok-Moved.field-0-is) c.work.ensures.work in
    let place = keeps v worked c.work.result Moved (c.in-Ok-Moved.is ∙ ap (λ w. Ok w) c.in-Ok-Moved.field-0-is) c.work.ensures.place in
    let follows = follows_some b v c.requires.shown.sound c.requires.shown.along in
    let valid : is_system v.system ≡ true = ap is_system c.requires.shown.along.system ∙ ((own.0).sound).valid in
    moves_turn b b v v worked refl own (none_taken b v c.requires.shown.along) (moved_lightens v valid follows worked is) place.cursor (ap (λ (v : ClusterView). v.queue) (is.2).rest ∙ c.requires.empty)

pub returns-in-Ok-Queued-clause-own : goal.returns-in-Ok-Queued-clause-own
returns-in-Ok-Queued-clause-own g c =
    let a = g.P.Port.alone in
    let b = g.P.Port.bus c.args.port.now in
    let after = g.P.Port.bus c.send.new.port in
    let v = c.args.cluster.now in
    let worked : ClusterView = c.work.new.self in
    let new : ClusterView = c.send.new.cluster in
    let is = work_is v worked c.work.result Queued (c.in-Ok-Queued.is ∙ ap (λ w. Ok w) c.in-Ok-Queued.field-0-is) c.work.ensures.work in
    let place = keeps v worked c.work.result Queued (c.in-Ok-Queued.is ∙ ap (λ w. Ok w) c.in-Ok-Queued.field-0-is) c.work.ensures.place in
    let queued : is_some (head_of worked.queue) ≡ true = queued_head v worked is in
    where_ok c.send.result (a ≡ true → GoesOwn b → SendsAll b after worked new) (a ≡ true → GoesOwn b → TurnsOwn b after v new)
    (λ holds alone own.
    let sends = holds alone own in
    sends_turn b b after v v worked new refl (none_taken b v c.requires.shown.along) place.number (sends.some queued) sends)
    c.send.ensures.own

pub returns-in_ok-tell-in-Ok-Rests-clause-own : goal.returns-in_ok-tell-in-Ok-Rests-clause-own
returns-in_ok-tell-in-Ok-Rests-clause-own g c alone own =
    let b = g.P.Port.bus c.args.port.now in
    let v = c.args.cluster.now in
    let worked : ClusterView = c.work.new.self in
    let is = work_is v worked c.work.result Rests (c.in-Ok-Rests.is ∙ ap (λ w. Ok w) c.in-Ok-Rests.field-0-is) c.work.ensures.work in
    let place = keeps v worked c.work.result Rests (c.in-Ok-Rests.is ∙ ap (λ w. Ok w) c.in-Ok-Rests.field-0-is) c.work.ensures.place in
    tells_turn b b (g.P.Port.bus c.tell.new.port) v v worked refl (none_taken b v c.requires.shown.along) is.3 c.requires.empty (c.in_ok-tell-in-Ok-Rests.ensures.own alone own (place.cursor ∙ c.requires.seen))

pub tell-requires-clause-answered : goal.tell-requires-clause-answered
tell-requires-clause-answered g c =
    let b = g.P.Port.bus c.args.port.now in
    let v = c.args.cluster.now in
    let worked : ClusterView = c.work.new.self in
    let is = work_is v worked c.work.result Rests (c.in-Ok-Rests.is ∙ ap (λ w. Ok w) c.in-Ok-Rests.field-0-is) c.work.ensures.work in
    subst (λ (k : ClusterNo). HasAnswered b k.0) (sym (ap (λ (v : ClusterView). v.number) is.3)) (along_answered b v c.requires.shown.sound c.requires.shown.along c.requires.seen c.requires.goes_on is.2)

pub returns-in-Ok-Waits-clause-stands : goal.returns-in-Ok-Waits-clause-stands
returns-in-Ok-Waits-clause-stands g c =
    let v = c.args.cluster.now in
    let worked : ClusterView = c.work.new.self in
    worked_shown (g.P.Port.shows c.args.port.now) (g.P.Port.from c.args.port.now) (g.P.Port.bus c.args.port.now) v worked Waits c.requires.shown c.requires.unnamed
    (goes_on v worked c.work.result Waits (c.in-Ok-Waits.is ∙ ap (λ w. Ok w) c.in-Ok-Waits.field-0-is) c.work.ensures.follows) (keeps v worked c.work.result Waits (c.in-Ok-Waits.is ∙ ap (λ w. Ok w) c.in-Ok-Waits.field-0-is) c.work.ensures.place) (work_is v worked c.work.result Waits (c.in-Ok-Waits.is ∙ ap (λ w. Ok w) c.in-Ok-Waits.field-0-is) c.work.ensures.work)

pub returns-in-Ok-Waits-clause-own : goal.returns-in-Ok-Waits-clause-own
returns-in-Ok-Waits-clause-own g c alone own =
    let b = g.P.Port.bus c.args.port.now in
    let v = c.args.cluster.now in
    let worked : ClusterView = c.work.new.self in
    let is = work_is v worked c.work.result Waits (c.in-Ok-Waits.is ∙ ap (λ w. Ok w) c.in-Ok-Waits.field-0-is) c.work.ensures.work in
    waits_turn b b v v worked refl own (none_taken b v c.requires.shown.along) is.4 c.requires.empty (along_awaits b v c.requires.shown.sound c.requires.shown.along c.requires.seen c.requires.goes_on is.2)
    (along_answered b v c.requires.shown.sound c.requires.shown.along c.requires.seen c.requires.goes_on is.3)

pub lose-requires-clause-before : goal.lose-requires-clause-before
lose-requires-clause-before g c =
    let b = g.P.Port.bus c.args.port.now in
    let v = c.args.cluster.now in
    let worked : ClusterView = c.work.new.self in
    (call_failed b v worked _ c.requires.shown.sound c.requires.shown.along c.requires.unnamed (hurt_is v worked c.work.result _ (c.in-Err-Disk.is ∙ ap (λ h. Err h) c.in-Err-Disk.field-0-is) c.work.ensures.hurts)).before

pub lose-requires-clause-named : goal.lose-requires-clause-named
lose-requires-clause-named g c =
    let b = g.P.Port.bus c.args.port.now in
    let v = c.args.cluster.now in
    let worked : ClusterView = c.work.new.self in
    failed_named b worked (call_failed b v worked _ c.requires.shown.sound c.requires.shown.along c.requires.unnamed (hurt_is v worked c.work.result _ (c.in-Err-Disk.is ∙ ap (λ h. Err h) c.in-Err-Disk.field-0-is) c.work.ensures.hurts))

pub returns-in_ok-lose-in-Err-Disk-clause-own : goal.returns-in_ok-lose-in-Err-Disk-clause-own
returns-in_ok-lose-in-Err-Disk-clause-own g c alone own =
    let b = g.P.Port.bus c.args.port.now in
    let after = g.P.Port.bus c.lose.new.self in
    let v = c.args.cluster.now in
    let worked : ClusterView = c.work.new.self in
    let fails = hurt_is v worked c.work.result _ (c.in-Err-Disk.is ∙ ap (λ h. Err h) c.in-Err-Disk.field-0-is) c.work.ensures.hurts in
    let number : worked.number ≡ v.number = ap (λ (v : ClusterView). v.number) fails.rest in
    let cursor : worked.cursor ≡ v.cursor = ap (λ (v : ClusterView). v.cursor) fails.rest in
    let lives : was_lost_in (drop worked.cursor b.log) worked.number ≡ false = seen_unlost b.log worked.number worked.cursor (cursor ∙ c.requires.seen) in
    gone_turn b after v worked number (subst (λ (k : ClusterNo). LosesOwn k worked.cursor b after) number (c.in_ok-lose-in-Err-Disk.ensures.own alone own lives))

-- ---- it lives on where it comes to

pub returns-in-Ok-Moved-clause-life : goal.returns-in-Ok-Moved-clause-life
returns-in-Ok-Moved-clause-life g c =
    let v = c.args.cluster.now in
    let worked : ClusterView = c.work.new.self in
    let place = keeps v worked c.work.result Moved (c.in-Ok-Moved.is ∙ ap (λ w. Ok w) c.in-Ok-Moved.field-0-is) c.work.ensures.place in
    stays_there v.number (g.P.Port.bus c.args.port.now).log v.cursor worked.cursor place.cursor

pub returns-in-Ok-Waits-clause-life : goal.returns-in-Ok-Waits-clause-life
returns-in-Ok-Waits-clause-life g c =
    let v = c.args.cluster.now in
    let worked : ClusterView = c.work.new.self in
    let place = keeps v worked c.work.result Waits (c.in-Ok-Waits.is ∙ ap (λ w. Ok w) c.in-Ok-Waits.field-0-is) c.work.ensures.place in
    stays_there v.number (g.P.Port.bus c.args.port.now).log v.cursor worked.cursor place.cursor

pub returns-in_ok-tell-in-Ok-Rests-clause-life : goal.returns-in_ok-tell-in-Ok-Rests-clause-life
returns-in_ok-tell-in-Ok-Rests-clause-life g c =
    let v = c.args.cluster.now in
    let worked : ClusterView = c.work.new.self in
    let place = keeps v worked c.work.result Rests (c.in-Ok-Rests.is ∙ ap (λ w. Ok w) c.in-Ok-Rests.field-0-is) c.work.ensures.place in
    stays_there v.number (g.P.Port.bus c.tell.new.port).log v.cursor worked.cursor place.cursor

pub returns-in_ok-lose-in-Err-Disk-clause-life : goal.returns-in_ok-lose-in-Err-Disk-clause-life
returns-in_ok-lose-in-Err-Disk-clause-life g c =
    let v = c.args.cluster.now in
    let worked : ClusterView = c.work.new.self in
    let fails = hurt_is v worked c.work.result _ (c.in-Err-Disk.is ∙ ap (λ h. Err h) c.in-Err-Disk.field-0-is) c.work.ensures.hurts in
    stays_there v.number (g.P.Port.bus c.lose.new.self).log v.cursor worked.cursor (ap (λ (v : ClusterView). v.cursor) fails.rest)

pub returns-in-Ok-Queued-clause-life : goal.returns-in-Ok-Queued-clause-life
returns-in-Ok-Queued-clause-life g c =
    let after = g.P.Port.bus c.send.new.port in
    let v = c.args.cluster.now in
    let worked : ClusterView = c.work.new.self in
    let n = c.send.new.cluster.cursor in
    let place = keeps v worked c.work.result Queued (c.in-Ok-Queued.is ∙ ap (λ w. Ok w) c.in-Ok-Queued.field-0-is) c.work.ensures.place in
    let Life : ClusterNo → ℕ → Type 0 = λ k from. StaysAlive k after.log from n in
    where_ok c.send.result (Life worked.number worked.cursor) (Life v.number v.cursor) (λ holds. subst (λ from. Life v.number from) place.cursor (subst (λ k. Life k worked.cursor) place.number holds)) c.send.ensures.life

-- ---- the log grows

pub returns-in-Ok-Moved-clause-grows : goal.returns-in-Ok-Moved-clause-grows
returns-in-Ok-Moved-clause-grows g c = grown_none (g.P.Port.bus c.args.port.now)

pub returns-in-Ok-Waits-clause-grows : goal.returns-in-Ok-Waits-clause-grows
returns-in-Ok-Waits-clause-grows g c = grown_none (g.P.Port.bus c.args.port.now)
