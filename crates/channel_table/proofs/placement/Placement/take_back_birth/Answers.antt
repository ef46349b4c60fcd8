use Rattle.std.proofs.Common.{◌≡◌, ◌∙◌, sym, ap, slice_get, length, arith}
use Rattle.std.proofs.lemmas.List.{with_items_is}
use Rattle.bus_msg.specs.Places.{Places}
use Rattle.bus_msg.specs.PlacedAfter.{changed_at}
use Rattle.channel_table.specs.Changes.{lowered_serial}
use Rattle.channel_table.proofs.ChangeLaws.{born_back, none_born}
use Rattle.channel_table.proofs.placement.Placement.take_back_birth.Goals as goal

pub returns-in-Some : goal.returns-in-Some
returns-in-Some c = λ before child is.
    let old : Places = record { clusters = c.self.inside.clusters.items; pager = c.self.inside.pager; placed = c.self.inside.processes } in
    let k = (c.in-Some.parent.home).0 in
    let same : length c.uncount_birth.new.clusters ≡ c.self.inside.clusters.len = omega (arith, ap length c.deref_mut.ensures.value) in
    ap (λ cs. record old { clusters = cs; placed = c.pop.new.self }) (with_items_is c.self.inside.clusters c.uncount_birth.new.clusters same)
    ∙ born_back before old c.args.parent child c.in-Some.parent c.uncount_birth.new.clusters c.pop.new.self c.in-Some.ensures (c.self.view_is ∙ is)
    (c.uncount_birth.ensures ∙ ap (λ cs. changed_at k lowered_serial (slice_get cs k) cs) c.deref_mut.ensures.value) c.pop.ensures

pub returns-in-None : goal.returns-in-None
returns-in-None c = λ before child is.
    let old : Places = record { clusters = c.self.inside.clusters.items; pager = c.self.inside.pager; placed = c.self.inside.processes } in
    sym c.self.view_is ∙ none_born before old c.args.parent child (sym c.in-None.ensures) (c.self.view_is ∙ is)
