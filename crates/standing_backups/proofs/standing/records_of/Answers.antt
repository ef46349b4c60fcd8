use Rattle.std.proofs.Common.{◌≡◌, ◌++◌, ◌||◌, ◌∙◌, ap, sym, map, Bool, true, false, refl, Option, Some}
use Rattle.std.specs.List.{list_any}
use Rattle.std.proofs.lemmas.List.{append-nil}
use Rattle.t32_base.specs.declared.process.Pid.{Pid}
use Rattle.t32_base.specs.declared.letter.BackRec.{BackRec}
use Rattle.plain_kernel.specs.Maps.{at_key, pid_of}
use Rattle.residents.specs.Records.{record_at}
use Rattle.residents.proofs.Slots.{at_key_is}
use Rattle.std.proofs.Common.{eq-eqb}
use Rattle.standing_backups.proofs.RecordLaws.{one_more}
use Rattle.standing_backups.proofs.standing.records_of.Goals as goal

right : (a b : Bool) → b ≡ true → (a || b) ≡ true
right true b h = refl
right false b h = h

pub told-requires-in-loop-other : goal.told-requires-in-loop-other
told-requires-in-loop-other c =
    let n = c.in-Some.other.now in
    c.loop-other.invariant.left n (ap (list_any (at_key n)) c.in-Some.ensures.steps ∙ ap (λ b. b || list_any (at_key n) c.next.new.self) (at_key_is n n ∙ eq-eqb n n refl))

pub loop-other-preserved : goal.loop-other-preserved
loop-other-preserved c =
    let f : Pid → Option BackRec = record_at c.args.here.now.here in
    let n = c.in-Some.other.now in
    let rest = c.next.new.self in
    record {
      said =
          ap (λ rs. map Some rs ++ map f (map pid_of rest)) c.in_ok-push-2.ensures.ok
          ∙ one_more f c.loop-other.recs c.in_ok-told-2.field-0 n rest c.in_ok-told-2.ensures
          ∙ ap (λ ns. map Some c.loop-other.recs ++ map f (map pid_of ns)) (sym c.in-Some.ensures.steps)
          ∙ c.loop-other.invariant.said;
      left = λ m there. c.loop-other.invariant.left m (ap (list_any (at_key m)) c.in-Some.ensures.steps ∙ right (at_key m n) (list_any (at_key m) rest) there);
    }

pub returns-clause-rising : goal.returns-clause-rising
returns-clause-rising c = c.iter-other-items.ensures.ordered

pub returns-clause-records : goal.returns-clause-records
returns-clause-records c =
    let f : Pid → Option BackRec = record_at c.args.here.now.here in
    sym (append-nil (map Some c.loop-other.recs))
    ∙ ap (λ ns. map Some c.loop-other.recs ++ map f (map pid_of ns)) (sym c.in-None.ensures.steps.0)
    ∙ c.loop-other.invariant.said
