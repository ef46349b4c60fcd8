use Rattle.std.proofs.Common.{sym, subst, ap}
use Rattle.residents.specs.Duty.{DutyView}
use Rattle.residents.specs.Residents.{ResidentsView}
use Rattle.residents.specs.Slots.{IsKept}
use Rattle.residents.proofs.Owed.{AreReady, kept_owing}
use Rattle.residents.proofs.residents.Residents.owe.Goals as goal

pub invariant_of-self : goal.invariant_of-self
invariant_of-self c = (
  subst (λ (duty : DutyView). IsKept duty c.self.inside.residents c.self.inside.keys.entries c.self.inside.ready.keys c.self.inside.asking.keys) (sym c.owe.ensures)
      (kept_owing c.self.inside.duty c.args.owing.entries c.self.inside.residents c.self.inside.keys.entries c.self.inside.ready.keys c.self.inside.asking.keys
      (subst (λ left. AreReady c.args.owing.entries left c.self.inside.ready.keys) c.in-None.ensures.steps.0
      (subst (AreReady c.args.owing.entries c.loop-pid.pid-iterator) (sym (ap (λ (v : ResidentsView). v.ready) c.self.view_is)) c.loop-pid.invariant.ready)) c.self.invariant.0),
  tt,
)
