use Rattle.std.proofs.Common.{◌≡◌, ℕ, suc, ◌+◌, ◌∙◌, ap, arith, add-one, take, Option}
use Rattle.std.specs.Prelude.{filter, slice_get}
use Rattle.std.specs.List.{sum_by}
use Rattle.std.specs.Option.{option_map_or}
use Rattle.bus_msg.specs.declared.placed.Placed.{Placed}
use Rattle.bus_msg.specs.Places.{is_moved_by}
use Rattle.withheld.specs.Counts.{count_if_moved, count_of}
use Rattle.withheld.proofs.Sums.{moved_next}
use Rattle.withheld.proofs.walk.with_moved.Goals as goal

pub loop-index-preserved : goal.loop-index-preserved
loop-index-preserved c =
    let upto : ℕ → ℕ = λ n. sum_by (λ (q : Placed). count_of c.args.counts.now q.pid) (filter (is_moved_by c.args.k) (take n (c.args.places.now).placed)) in
    let adds : ℕ = option_map_or (count_if_moved (count_of c.args.counts.now) c.args.k) (slice_get (c.args.places.now).placed c.loop-index.index) 0 in
    let next : upto (suc c.loop-index.index) ≡ upto c.loop-index.index + adds = moved_next (count_of c.args.counts.now) c.args.k c.loop-index.index (c.args.places.now).placed in
    let place : upto (c.loop-index.index + 1) ≡ upto (suc c.loop-index.index) = ap upto (add-one c.loop-index.index) in
    let added : c.count_if_moved.result ≡ adds = c.count_if_moved.ensures ∙ ap (λ (o : Option Placed). option_map_or (count_if_moved (count_of c.args.counts.now) c.args.k) o 0) c.at.ensures in
    let before : c.loop-index.sum ≡ c.args.total + upto c.loop-index.index = c.loop-index.invariant in
    let sum : c.in_ok-sum.sum ≡ c.loop-index.sum + c.count_if_moved.result = c.in_ok-sum.ensures in
    omega (arith, next, place, added, before, sum)
