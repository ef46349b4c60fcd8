use Rattle.std.proofs.Common.{ℕ, List, [], true, subst}
use Rattle.bus_msg.specs.Places.{Places}
use Rattle.log_fetches.specs.declared.kept.Kept.{Kept}
use Rattle.log_fetches.specs.Kept.{ChangesAmong, with_state}
use Rattle.log_fetches.proofs.Booting.{fetches_at_boot}
use Rattle.log_fetches.proofs.fetches.Fetches.start.Goals as goal

pub returns : goal.returns
returns c =
    fetches_at_boot c.args.system.now c.state_each.new.kept.entries
    (subst (λ (places : Places). ChangesAmong (λ _. true) with_state places.placed [] c.state_each.new.kept.entries) c.in_ok-roots.ensures
    (subst (λ (old : List (ℕ × Kept)). ChangesAmong (λ _. true) with_state c.in_ok-roots.roots.placed old c.state_each.new.kept.entries) c.new-kept.ensures.empty c.in_ok-state_each.ensures))
