use Rattle.std.proofs.Common.{rules, tests, ◌∙◌, sym, refl, arith, ℕ, Bool, ◌&&◌, length, is_none}
use Rattle.std.specs.List.{range_with_len}
use Rattle.std.proofs.lemmas.Iterator.{YieldsList-from_range}
use Rattle.std.proofs.lemmas.Iterator.Search.{any_from_yields_List}
use Rattle.bus_msg.specs.Places.{cluster_no, lives_in}
use Rattle.bus_order.specs.View.{mark_in}
use Rattle.bus_order.proofs.MarksLaws.{any_cluster}
use Rattle.bus_order.proofs.marks.is_waiting.Goals as goal

pub returns : goal.returns
returns c =
    let n = length c.args.places.now.clusters in
    let t : ℕ → Bool = λ k. lives_in c.args.places.now (cluster_no k) && is_none (mark_in c.args.marks.now (cluster_no k)) in
    any_from_yields_List t _ _ _ c.any.ensures.ran (YieldsList-from_range 0 c.clusters.result n refl (omega (arith, c.clusters.ensures.number))) (λ x b q k. search (rules, tests))
    ∙ sym (any_cluster (λ j. lives_in c.args.places.now j && is_none (mark_in c.args.marks.now j)) (range_with_len 0 n))
