use Rattle.std.proofs.Common.{◌≡◌, ◌∙◌, sym, false}
use Rattle.quanta.specs.Limited.{is_due}
use Rattle.residents.proofs.RestTold.{rest_told, runs_told}
use Rattle.residents.proofs.resident.act_on.Goals as goal
use Rattle.residents.proofs.resident.act_on.Goals.{else-made-eq0-via-then-made-eq0+else-ask, else-made-eq0-via-else-made-eq0}

pub tell-requires : goal.tell-requires
tell-requires c = runs_told c.args.limits c.args.made c.args.process.now c.run_rest.new.p c.in_ok-ran.ran c.in_ok-ran.ensures.runs

pub returns : goal.returns
returns c =
    rest_told c.args.limits c.args.by c.args.childless c.args.made c.args.process.now c.run_rest.new.p undue c.requires.last c.in_ok-ran.ensures.within c.in_ok-ran.ran c.tell.result c.tell.new.process c.in_ok-ran.ensures.runs c.tell.ensures
  where
    undue : c.args.made ≡ 0 → is_due c.args.limits c.args.process.now ≡ false
    undue none = elim c.else-made-eq0.branch [
      | else-made-eq0-via-then-made-eq0+else-ask w ↦ sym w.ask.ensures ∙ w.if-ask.false
      | else-made-eq0-via-else-made-eq0 w ↦ absurd (w.if-made-eq0.false none)
    ]
