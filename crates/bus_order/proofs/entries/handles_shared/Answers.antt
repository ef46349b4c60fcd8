use Rattle.std.proofs.Common.{◌+◌, sym, ◌∙◌, ap, arith, Some, refl, map}
use Rattle.std.specs.Prelude.{option_map}
use Rattle.std.specs.Arc.{arc_value}
use Rattle.std.proofs.lemmas.List.{length-map}
use Rattle.std.proofs.lemmas.Option.{slice_get-get_or, slice_get-map}
use Rattle.bus_order.proofs.LogParts.{one_shared}
use Rattle.bus_order.proofs.entries.handles_shared.Goals as goal

pub loop-place-preserved : goal.loop-place-preserved
loop-place-preserved c =
    let n = c.loop-place.place in
    let items = c.args.entries.now.items in
    one_shared (map arc_value items) c.loop-place.news.items c.push.new.self.items c.args.from n (n + 1) (arc_value c.index.result.now) c.in_ok-entry.entry c.loop-place.invariant (omega arith) (omega (arith, length-map items arc_value)) refl
    (slice_get-map arc_value items n ∙ ap (option_map arc_value) (slice_get-get_or items n c.index.result.now (omega arith) ∙ ap Some (sym c.index.ensures))) c.in_ok-entry.ensures c.in_ok-push.ensures.items
