use Rattle.std.proofs.Common.{◌≡◌, true, false, length, ◌∙◌, sym, ap, ◌++◌, ◌∷◌, [], arith}
use Rattle.std.proofs.lemmas.List.FromFn.{map-range_with_len_more, length-map-range_with_len}
use Rattle.bus_msg.specs.Places.{boot_cluster}
use Rattle.channel_table.proofs.placement.clusters_at_boot.Goals as goal

pub loop-k-preserved : goal.loop-k-preserved
loop-k-preserved c =
    let boots = boot_cluster c.args.roots.now in
    let record_is : c.new.result ≡ boots c.loop-k.k = c.new.ensures ∙ (λ i. record { lives = true; was_lost = false; next_serial = c.serial_above.ensures i }) in
    c.in_ok-push.ensures.items ∙ (λ i. c.loop-k.invariant i ++ record_is i ∷ []) ∙ sym (map-range_with_len_more boots 0 c.loop-k.k c.loop-k.k (omega arith))

pub returns-clause-number : goal.returns-clause-number
returns-clause-number c =
    let boots = boot_cluster c.args.roots.now in
    let last : c.loop-k.k ≡ c.args.clusters = omega arith in
    ap length c.loop-k.invariant ∙ length-map-range_with_len boots 0 c.loop-k.k ∙ last
