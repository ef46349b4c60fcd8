use Rattle.std.proofs.Common.{◌∙◌, sym, subst, ap, map, refl, true}
use Rattle.std.specs.Map.{values_of}
use Rattle.bus_msg.specs.declared.placed.Placed.{Placed}
use Rattle.channel_table.specs.Keys.{IsTable}
use Rattle.bus_msg.specs.PlacedAfter.{after_sync}
use Rattle.channel_table.proofs.KeyLaws.{changed-values, changed-table, unchanged-values}
use Rattle.channel_table.proofs.processes.Processes.sync.Goals as goal
use Rattle.channel_table.proofs.processes.Processes.sync.Goals.{in-Some, in_default}

pub invariant_of-self : goal.invariant_of-self
invariant_of-self c =
    let g : Placed → Placed = λ q. record q { synced = true } in
    elim c.match-get_mut.branch [
      | in-Some w ↦
          let v = w.in-Some.placed.now in
          subst IsTable (sym (c.get_mut.follows.holds (g v)).0 ∙ ap (λ i. i.map.entries) (sym w.self-inside-is))
          (changed-table c.args.pid.0 g (λ q. refl) c.self.inside.map.entries c.self.invariant.keyed v w.in-Some.ensures.unique (sym w.in-Some.ensures.value))
      | in_default w ↦
          subst IsTable (ap (λ m. m.entries) (sym c.get_mut.follows.holds-at-none) ∙ ap (λ i. i.map.entries) (sym w.self-inside-is)) c.self.invariant
    ]

pub returns : goal.returns
returns c =
    let g : Placed → Placed = λ q. record q { synced = true } in
    elim c.match-get_mut.branch [
      | in-Some w ↦
          let v = w.in-Some.placed.now in
          ap (λ i. values_of i.map.entries) w.self-inside-is ∙ ap values_of (c.get_mut.follows.holds (g v)).0
          ∙ changed-values c.args.pid.0 g (λ q. refl) c.self.inside.map.entries c.self.invariant.keyed v w.in-Some.ensures.unique (sym w.in-Some.ensures.value)
          ∙ ap (map (after_sync c.args.pid)) c.self.view_is
      | in_default w ↦
          ap (λ i. values_of i.map.entries) w.self-inside-is ∙ ap (λ m. values_of m.entries) c.get_mut.follows.holds-at-none
          ∙ unchanged-values c.args.pid.0 g (λ q. refl) c.self.inside.map.entries c.self.invariant.keyed (sym w.in_default.ensures.value)
          ∙ ap (map (after_sync c.args.pid)) c.self.view_is
    ]
