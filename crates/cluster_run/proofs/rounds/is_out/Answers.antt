use Rattle.std.proofs.Common.{◌≡◌, ℕ, ◌∙◌, refl, sym, ap, not, ◌||◌, Option, Some, None, is_none, is_some}
use Rattle.bus_msg.specs.Places.{lives_in}
use Rattle.bus_order.specs.Script.{off_at}
use Rattle.bus_order.specs.View.{BusView}
use Rattle.script_laws.proofs.OffLosses.{all_stand}
use Rattle.script_laws.proofs.OffSince.{lives_unless_off}
use Rattle.cluster_run.proofs.rounds.is_out.Goals as goal

not_none : (o : Option ℕ) → not (is_none o) ≡ is_some o
not_none None = refl
not_none (Some n) = refl

pub returns-then-is_over : goal.returns-then-is_over
returns-then-is_over c =
    let b : BusView = c.args.bus.now in
    c.if-is_over.true ∙ sym (ap (λ t. t || is_some (off_at b.log c.args.number)) (sym c.is_over.ensures ∙ c.if-is_over.true))

pub returns-else-is_over : goal.returns-else-is_over
returns-else-is_over c =
    let b : BusView = c.args.bus.now in
    let k = c.args.number in
    ap not (c.living.ensures.lives ∙ ap (λ p. lives_in p k) c.places.ensures ∙ lives_unless_off b.system b.log k (all_stand b.system b.log c.requires.sound.legal) c.requires.has) ∙ not_none (off_at b.log k)
    ∙ ap (λ t. t || is_some (off_at b.log k)) (sym (sym c.is_over.ensures ∙ c.if-is_over.false))
