use Rattle.std.proofs.Common.{◌≡◌, ◌+◌, ◌∙◌, sym, ap, refl, map, take, ◌++◌, ◌∷◌, []}
use Rattle.std.proofs.lemmas.List.{take_more}
use Rattle.bus_msg.specs.PlacedAfter.{after_rebackup}
use Rattle.channel_table.specs.Changes.{with_backup}
use Rattle.channel_table.proofs.ChangeLaws.{map-then, map-same, after_rebackup-push}
use Rattle.channel_table.proofs.placement.Placement.rebackup.Goals as goal

pub loop-rec-init : goal.loop-rec-init
loop-rec-init c = λ i. record c.self.inside { processes = map-same (after_rebackup c.args.to c.args.fresh []) (λ q. refl) c.self.inside.processes i }

pub loop-rec-preserved : goal.loop-rec-preserved
loop-rec-preserved c =
    let to = c.args.to in
    let fresh = c.args.fresh in
    let recs = c.args.recs.now in
    let i = c.loop-rec.rec-index in
    let r = c.rec-item.result in
    let before = c.loop-rec.invariant in
    let more : take (i + 1) recs ≡ take i recs ++ r ∷ [] = take_more recs i r c.loop-rec-test.true ∙ ap (λ x. take i recs ++ x ∷ []) (sym c.rec-item.is) in
    let changed =
    c.set_backup.ensures ∙ ap (λ s. map (with_backup to fresh r.pid) s.processes) before
    ∙ map-then (after_rebackup to fresh (take i recs)) (with_backup to fresh r.pid) (after_rebackup to fresh (take i recs ++ r ∷ [])) (after_rebackup-push to fresh (take i recs) r) c.self.inside.processes
    ∙ ap (λ rs. map (after_rebackup to fresh rs) c.self.inside.processes) (sym more) in
    λ j. record { clusters = (before j).clusters; pager = (before j).pager; processes = changed j }
