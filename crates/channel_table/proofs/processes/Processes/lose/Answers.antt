use Rattle.std.proofs.Common.{◌≡◌, ◌∙◌, sym, ap, subst, length, map, Some, slice_get, add-one, arith}
use Rattle.std.specs.Map.{values_of}
use Rattle.indexmap.specs.IndexMap.{set_value_at}
use Rattle.bus_msg.specs.PlacedAfter.{after_loss}
use Rattle.channel_table.specs.Keys.{IsTable}
use Rattle.channel_table.proofs.KeyLaws.{changed_first, changed_first-zero, changed_first-suc, length-changed_first, values-changed_all, changed_all-table}
use Rattle.channel_table.proofs.ChangeLaws.{number_of-after_loss}
use Rattle.channel_table.proofs.processes.Processes.lose.Goals as goal

pub loop-index-init : goal.loop-index-init
loop-index-init c = record { entries = sym (changed_first-zero (after_loss c.args.k) c.self.inside.map.entries); all = c.len-index-end.ensures.len }

pub invariant_of-self : goal.invariant_of-self
invariant_of-self c =
    let f = after_loss c.args.k in
    let es = c.self.inside.map.entries in
    let last : c.loop-index.index ≡ length es = omega arith in
    subst IsTable (sym (c.loop-index.invariant.entries ∙ ap (λ i. changed_first f i es) last)) (changed_all-table f (number_of-after_loss c.args.k) es c.self.invariant)

pub index_mut-placed-requires : goal.index_mut-placed-requires
index_mut-placed-requires c =
    let same : length c.loop-index.self-inside.map.entries ≡ length c.self.inside.map.entries =
    ap length c.loop-index.invariant.entries ∙ length-changed_first (after_loss c.args.k) c.loop-index.index c.self.inside.map.entries in
    omega arith

pub loop-index-preserved : goal.loop-index-preserved
loop-index-preserved c =
    let f = after_loss c.args.k in
    let es = c.self.inside.map.entries in
    let i = c.loop-index.index in
    let v = c.index_mut-placed.result.now in
    let before : c.loop-index.self-inside.map.entries ≡ changed_first f i es = c.loop-index.invariant.entries in
    let at : slice_get (values_of (changed_first f i es)) i ≡ Some v = ap (λ l. slice_get (values_of l) i) (sym before) ∙ c.index_mut-placed.ensures.value in
    record {
      entries =
          (λ j. set_value_at (before j) i (c.moved_by_loss.ensures j)) ∙ changed_first-suc f i es v at ∙ ap (λ n. changed_first f n es) (sym (add-one i));
      all = c.loop-index.invariant.all;
    }

pub returns : goal.returns
returns c =
    let f = after_loss c.args.k in
    let es = c.self.inside.map.entries in
    let last : c.loop-index.index ≡ length es = omega arith in
    ap values_of (c.loop-index.invariant.entries ∙ ap (λ i. changed_first f i es) last) ∙ values-changed_all f es ∙ ap (map f) c.self.view_is
