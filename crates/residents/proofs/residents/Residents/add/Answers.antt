use Rattle.std.proofs.Common.{◌∙◌, ap, sym, subst, is_some, map, ℕ, List, Some}
use Rattle.std.specs.List.{list_any}
use Rattle.std.specs.List.Sorted.{IsStrictlySortedBy}
use Rattle.std.specs.Ordering.{nat_cmp}
use Rattle.slab.specs.Slab.{Slab}
use Rattle.bus_msg.specs.Places.{same_pid}
use Rattle.residents.specs.Held.{Held}
use Rattle.residents.specs.Residents.{ResidentsView}
use Rattle.residents.specs.Changed.{with_more}
use Rattle.residents.specs.Slots.{stands_in, IsKept}
use Rattle.residents.proofs.Slots.{others_stand}
use Rattle.residents.proofs.Kept.{asking_put, kept_added, kept_beside, more_room, none_here, ready_put, stands_put, unnamed}
use Rattle.residents.proofs.residents.Residents.add.Goals as goal

pub invariant_of-self-in_err-insert-2 : goal.invariant_of-self-in_err-insert-2
invariant_of-self-in_err-insert-2 c = (
  subst (λ (asking : List ℕ). IsKept c.self.inside.duty c.self.inside.residents c.self.inside.keys.entries c.insert.new.self.keys asking) (sym c.in_err-insert-2.ensures.err)
      (ready_put c.self.inside.duty c.self.inside.residents c.self.inside.keys.entries (c.args.pid).0 c.self.inside.ready.keys c.insert.new.self.keys c.self.inside.asking.keys c.in_ok-insert.ensures.updates.0 c.self.invariant.0),
  tt,
)

pub invariant_of-self-in_err-key : goal.invariant_of-self-in_err-key
invariant_of-self-in_err-key c = (
  more_room c.self.inside.duty c.self.inside.residents c.insert-3.new.self c.self.inside.keys.entries c.insert.new.self.keys c.insert-2.new.self.keys (ap (λ (s : Slab Held). s.slots) c.in_err-key.ensures.err)
      (asking_put c.self.inside.duty c.self.inside.residents c.self.inside.keys.entries (c.args.pid).0 c.insert.new.self.keys c.self.inside.asking.keys c.insert-2.new.self.keys c.in_ok-insert-2.ensures.updates.0
      (ready_put c.self.inside.duty c.self.inside.residents c.self.inside.keys.entries (c.args.pid).0 c.self.inside.ready.keys c.insert.new.self.keys c.self.inside.asking.keys c.in_ok-insert.ensures.updates.0 c.self.invariant.0)),
  tt,
)

pub invariant_of-self-in_err-insert-3 : goal.invariant_of-self-in_err-insert-3
invariant_of-self-in_err-insert-3 c = (
  subst (λ (es : List (ℕ × ℕ)). IsKept c.self.inside.duty c.insert-3.new.self es c.insert.new.self.keys c.insert-2.new.self.keys) (sym c.in_err-insert-3.ensures.err)
      (kept_beside c.self.inside.duty c.self.inside.residents c.insert-3.new.self c.in_ok-key.key (Some c.args.resident) c.self.inside.keys.entries c.insert.new.self.keys c.insert-2.new.self.keys c.in_ok-key.ensures.was_vacant c.in_ok-key.ensures.updates
      (asking_put c.self.inside.duty c.self.inside.residents c.self.inside.keys.entries (c.args.pid).0 c.insert.new.self.keys c.self.inside.asking.keys c.insert-2.new.self.keys c.in_ok-insert-2.ensures.updates.0
      (ready_put c.self.inside.duty c.self.inside.residents c.self.inside.keys.entries (c.args.pid).0 c.self.inside.ready.keys c.insert.new.self.keys c.self.inside.asking.keys c.in_ok-insert.ensures.updates.0 c.self.invariant.0))),
  tt,
)

pub invariant_of-self-2 : goal.invariant_of-self-2
invariant_of-self-2 c =
    let others = none_here c.self.inside.duty c.self.inside.residents c.self.inside.ready.keys c.self.inside.asking.keys (c.args.pid).0 c.self.inside.keys.entries (c.self.invariant.0).each (ap (λ (v : ResidentsView). list_any (λ e. same_pid e.0 c.args.pid) v.here) c.self.view_is ∙ c.requires) in
    let kept =
    kept_beside c.self.inside.duty c.self.inside.residents c.insert-3.new.self c.in_ok-key.key (Some c.args.resident) c.self.inside.keys.entries c.insert.new.self.keys c.insert-2.new.self.keys c.in_ok-key.ensures.was_vacant c.in_ok-key.ensures.updates
    (asking_put c.self.inside.duty c.self.inside.residents c.self.inside.keys.entries (c.args.pid).0 c.insert.new.self.keys c.self.inside.asking.keys c.insert-2.new.self.keys c.in_ok-insert-2.ensures.updates.0
    (ready_put c.self.inside.duty c.self.inside.residents c.self.inside.keys.entries (c.args.pid).0 c.self.inside.ready.keys c.insert.new.self.keys c.self.inside.asking.keys c.in_ok-insert.ensures.updates.0 c.self.invariant.0))
    in (
      subst (λ (es : List (ℕ × ℕ)). IsKept c.self.inside.duty c.insert-3.new.self es c.insert.new.self.keys c.insert-2.new.self.keys) (sym c.in_ok-insert-3.ensures.entries)
          (kept_added c.self.inside.duty c.insert-3.new.self (c.args.pid).0 c.in_ok-key.key c.self.inside.keys.entries c.insert.new.self.keys c.insert-2.new.self.keys (ap is_some c.in_ok-key.ensures.updates.changed)
          (unnamed c.self.inside.duty c.self.inside.residents c.self.inside.ready.keys c.self.inside.asking.keys c.in_ok-key.key c.self.inside.keys.entries (c.self.invariant.0).each c.in_ok-key.ensures.was_vacant) others
          c.in_ok-insert.ensures.updates.1 c.in_ok-insert-2.ensures.updates.1
          (subst (λ (es : List (ℕ × ℕ)). IsStrictlySortedBy nat_cmp (map (λ (e : ℕ × ℕ). e.0) es)) c.in_ok-insert-3.ensures.entries c.insert-4.ensures.ordered)
          kept),
      tt,
    )

pub returns-clause-here : goal.returns-clause-here
returns-clause-here c =
    let others = none_here c.self.inside.duty c.self.inside.residents c.self.inside.ready.keys c.self.inside.asking.keys (c.args.pid).0 c.self.inside.keys.entries (c.self.invariant.0).each (ap (λ (v : ResidentsView). list_any (λ e. same_pid e.0 c.args.pid) v.here) c.self.view_is ∙ c.requires) in
    let kept =
    kept_beside c.self.inside.duty c.self.inside.residents c.insert-3.new.self c.in_ok-key.key (Some c.args.resident) c.self.inside.keys.entries c.self.inside.ready.keys c.self.inside.asking.keys c.in_ok-key.ensures.was_vacant c.in_ok-key.ensures.updates c.self.invariant.0
    in
    ap (stands_in c.insert-3.new.self) c.in_ok-insert-3.ensures.entries
    ∙ stands_put c.self.inside.duty c.insert-3.new.self c.self.inside.ready.keys c.self.inside.asking.keys (c.args.pid).0 c.in_ok-key.key c.args.resident c.self.inside.keys.entries c.in_ok-key.ensures.updates.changed kept.each others
    ∙ ap (with_more c.args.pid c.args.resident)
    (others_stand c.self.inside.residents c.insert-3.new.self c.in_ok-key.key (Some c.args.resident) c.self.inside.keys.entries c.in_ok-key.ensures.updates
    (unnamed c.self.inside.duty c.self.inside.residents c.self.inside.ready.keys c.self.inside.asking.keys c.in_ok-key.key c.self.inside.keys.entries (c.self.invariant.0).each c.in_ok-key.ensures.was_vacant)
    ∙ ap (λ (v : ResidentsView). v.here) c.self.view_is)
