use Rattle.std.proofs.Common.{ℕ, List, sym, ◌∙◌, ap}
use Rattle.std.specs.BTreeMap.{is_at}
use Rattle.std.specs.Map.{lookup}
use Rattle.std.specs.Option.{unwrap_or}
use Rattle.std.specs.Ordering.{nat_cmp}
use Rattle.withheld.proofs.Beginnings.{none_at_start, placed_at_start}
use Rattle.withheld.proofs.walk.Walk.start.Goals as goal

pub returns : goal.returns
returns c = record {
  places = c.in_ok-placement_at_boot.ensures ∙ sym (placed_at_start c.args.system.now);
  counts = λ p. ap (λ (entries : List (ℕ × ℕ)). unwrap_or (lookup (is_at (nat_cmp p.0)) entries) 0) c.new.ensures.empty;
  total = sym (none_at_start c.args.system.now);
}
