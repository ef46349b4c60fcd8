use Rattle.std.proofs.Common.{ℕ, Bool, List, ap, ◌∙◌}
use Rattle.std.specs.Prelude.{filter, Result, Ok, Err, IfOk}
use Rattle.std.specs.Map.{values_of}
use Rattle.std.proofs.lemmas.Result.{on_ok_weaker}
use Rattle.t32_base.specs.declared.letter.BackRec.{BackRec}
use Rattle.t32_base.specs.declared.streams.NoMemory.{NoMemory}
use Rattle.crash_notice.specs.Splitting.{moves_here, stays}
use Rattle.backup_records.specs.ByPid.{left_after, taken_at}
use Rattle.backup_records.specs.Records.{are_rising}
use Rattle.backup_records.proofs.ByPidLaws.{by_pid_out, left_that, rising, rising_some, taken_that}
use Rattle.backup_records.proofs.records.Records.take_moved.Goals as goal

if_ok : {X : Type 0} {P Q : X → Type 0} → (r : Result X NoMemory) → ((x : X) → P x → Q x) → IfOk r P → IfOk r Q
if_ok (Ok x) f p = f x p
if_ok (Err fault) f p = tt

pub invariant_of-self : goal.invariant_of-self
invariant_of-self c = by_pid_out c.take_out.result (c.in_ok-pids.pids).items c.self.inside.by_pid.entries c.take_out.new.records.entries c.take_out.ensures.left c.take_out.ensures.err c.self.invariant

pub returns-clause-moved : goal.returns-clause-moved
returns-clause-moved c =
    let test : BackRec → Bool = moves_here c.args.before.now c.args.lost c.args.here in
    if_ok c.take_out.result
    (λ moved is.
    is
    ∙ ap (λ (ks : List ℕ). taken_at ks c.self.inside.by_pid.entries) c.in_ok-pids.ensures
    ∙ taken_that test c.self.inside.by_pid.entries c.self.invariant.ordered
    ∙ ap (λ (recs : List BackRec). filter test recs) c.self.view_is)
    c.take_out.ensures.taken

pub returns-clause-stay : goal.returns-clause-stay
returns-clause-stay c =
    let test : BackRec → Bool = moves_here c.args.before.now c.args.lost c.args.here in
    on_ok_weaker c.take_out.result
    (λ is.
    ap values_of is
    ∙ ap (λ (ks : List ℕ). values_of (left_after ks c.self.inside.by_pid.entries)) c.in_ok-pids.ensures
    ∙ left_that test c.self.inside.by_pid.entries c.self.invariant.ordered
    ∙ ap (λ (recs : List BackRec). filter (stays c.args.before.now c.args.lost c.args.here) recs) c.self.view_is)
    c.take_out.ensures.left

pub returns-clause-rising : goal.returns-clause-rising
returns-clause-rising c =
    let test : BackRec → Bool = moves_here c.args.before.now c.args.lost c.args.here in
    if_ok c.take_out.result
    (λ moved is.
    ap are_rising (is ∙ ap (λ (ks : List ℕ). taken_at ks c.self.inside.by_pid.entries) c.in_ok-pids.ensures ∙ taken_that test c.self.inside.by_pid.entries c.self.invariant.ordered)
    ∙ rising_some test (values_of c.self.inside.by_pid.entries) (rising c.self.inside.by_pid.entries c.self.invariant))
    c.take_out.ensures.taken
