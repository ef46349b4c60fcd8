use Rattle.std.proofs.Common.{◌≡◌, ◌<◌, ◌-◌, ◌^◌, ◌∙◌, sym, ap, subst, slice_get, length, arith}
use Rattle.std.proofs.lemmas.List.{with_items_is}
use Rattle.std.specs.Option.{option_map_or}
use Rattle.bus_msg.specs.Places.{ClusterPlace, Places, placed_at}
use Rattle.bus_msg.specs.PlacedAfter.{changed_at, raised_serial, with_birth}
use Rattle.channel_table.specs.Changes.{CanBeBorn}
use Rattle.channel_table.proofs.ChangeLaws.{room_at_home, born}
use Rattle.channel_table.proofs.placement.Placement.add_birth.Goals as goal

pub count_birth-requires : goal.count_birth-requires
count_birth-requires c =
    let places : Places = record { clusters = c.self.inside.clusters.items; pager = c.self.inside.pager; placed = c.self.inside.processes } in
    let can : CanBeBorn places c.args.parent c.args.child = subst (λ p. CanBeBorn p c.args.parent c.args.child) (sym c.self.view_is) c.requires in
    subst (λ cs. option_map_or (λ (x : ClusterPlace). x.next_serial) (slice_get cs (c.in-Some.parent.home).0) 0 < 2 ^ 32 - 1) (sym c.deref_mut.ensures.value)
    (room_at_home places c.args.parent c.args.child c.in-Some.parent can c.in-Some.ensures)

pub returns-in_ok-push-in-Some-clause-ok : goal.returns-in_ok-push-in-Some-clause-ok
returns-in_ok-push-in-Some-clause-ok c =
    let places : Places = record { clusters = c.self.inside.clusters.items; pager = c.self.inside.pager; placed = c.self.inside.processes } in
    let q = c.in-Some.parent in
    let same : length c.count_birth.new.clusters ≡ c.self.inside.clusters.len = omega (arith, ap length c.deref_mut.ensures.value) in
    ap (λ cs. record places { clusters = cs; placed = c.push.new.self }) (with_items_is c.self.inside.clusters c.count_birth.new.clusters same)
    ∙ born places c.args.parent c.args.child q c.count_birth.new.clusters c.push.new.self c.in-Some.ensures
    (c.count_birth.ensures ∙ ap (λ cs. changed_at (q.home).0 raised_serial (slice_get cs (q.home).0) cs) c.deref_mut.ensures.value)
    c.in_ok-push-in-Some.ensures.ok
    ∙ ap (λ p. with_birth p c.args.child (placed_at p c.args.parent)) c.self.view_is
