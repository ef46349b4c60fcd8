use Rattle.std.proofs.Common.{◌∙◌, ap, sym, subst, map, not, ℕ}
use Rattle.std.specs.Prelude.{filter, List}
use Rattle.std.specs.List.Sorted.{IsStrictlySortedBy}
use Rattle.std.specs.Ordering.{nat_cmp}
use Rattle.bus_msg.specs.Places.{same_pid}
use Rattle.residents.specs.Residents.{ResidentsView}
use Rattle.residents.specs.Slots.{stands_in, IsKept}
use Rattle.residents.proofs.Slots.{nobody_goes, no_entry}
use Rattle.residents.proofs.Kept.{kept_gone, goes}
use Rattle.residents.proofs.residents.Residents.let_go.Goals as goal

pub invariant_of-self : goal.invariant_of-self
invariant_of-self c = (
  subst (λ (es : List (ℕ × ℕ)). IsKept c.self.inside.duty c.clear.new.residents es c.remove-in-Some.new.self.keys c.remove-in-Some-2.new.self.keys) (sym c.remove.ensures.entries)
      (kept_gone c.self.inside.duty c.self.inside.residents c.clear.new.residents (c.args.pid).0 c.in-Some.key c.self.inside.keys.entries c.self.inside.ready.keys c.remove-in-Some.new.self.keys c.self.inside.asking.keys c.remove-in-Some-2.new.self.keys
      (sym c.in-Some.ensures.value) c.clear.ensures (λ q other. c.remove-in-Some.ensures.updates.2 q other) (λ q other. c.remove-in-Some-2.ensures.updates.2 q other)
      (subst (λ (es : List (ℕ × ℕ)). IsStrictlySortedBy nat_cmp (map (λ (e : ℕ × ℕ). e.0) es)) c.remove.ensures.entries c.remove.ensures.ordered) c.self.invariant.0),
  tt,
)

pub returns-in-Some-clause-here : goal.returns-in-Some-clause-here
returns-in-Some-clause-here c =
    ap (stands_in c.clear.new.residents) c.remove.ensures.entries
    ∙ goes c.self.inside.duty c.self.inside.residents c.clear.new.residents (c.args.pid).0 c.in-Some.key c.self.inside.keys.entries c.self.inside.ready.keys c.self.inside.asking.keys c.self.invariant.0 (sym c.in-Some.ensures.value) c.clear.ensures
    ∙ ap (λ (v : ResidentsView). filter (λ e. not (same_pid e.0 c.args.pid)) v.here) c.self.view_is

pub returns-in_default-clause-here : goal.returns-in_default-clause-here
returns-in_default-clause-here c =
    ap (stands_in c.self.inside.residents) c.in_default.ensures.unchanged
    ∙ sym (nobody_goes c.self.inside.residents (c.args.pid).0 c.self.inside.keys.entries (no_entry (c.args.pid).0 c.self.inside.keys.entries (sym c.in_default.ensures.value)))
    ∙ ap (λ (v : ResidentsView). filter (λ e. not (same_pid e.0 c.args.pid)) v.here) c.self.view_is
