-- Nothing is withheld in a log without a loss.
use Rattle.std.proofs.Common.{◌≡◌, ℕ, ◌+◌, refl, ◌∙◌, arith, List, [], ◌∷◌, ◌++◌, false, ◌||◌, Option, Some, None, is_some, true≢false}
use Rattle.std.specs.List.{sum_by}
use Rattle.std.specs.Option.{option_map_or}
use Rattle.std.proofs.lemmas.List.Sums.{sum_by-cons}
use Rattle.t32_base.specs.declared.process.ClusterNo.{ClusterNo}
use Rattle.sys_text.specs.declared.system.System.{System}
use Rattle.bus_msg.specs.declared.entry.Entry.{Entry}
use Rattle.bus_msg.specs.Places.{Places}
use Rattle.bus_msg.specs.PlacedAfter.{placed_after, what}
use Rattle.cert_sched.specs.Schedule.{places_at_boot}
use Rattle.cert_sched.specs.Told.{Told, cluster_lost, told, told_from}
use Rattle.cert_sched.specs.Counted.{counted, counted_at}
use Rattle.withheld.specs.Losses.{has_loss}

module _ (system : System) where
  abbrev added : Told → ℕ
  added t = option_map_or (counted_at system t) (cluster_lost (what t.entry)) 0

  none_from : (before : List Entry) (places : Places) (rest : List Entry) → has_loss rest ≡ false → sum_by added (told_from before places rest) ≡ 0
  none_from before places [] none = refl
  none_from before places (e ∷ rest) none =
      sum_by-cons added (record { log = before; places = places; entry = e }) (told_from (before ++ e ∷ []) (placed_after places (what e)) rest)
      ∙ by_loss (cluster_lost (what e)) none (none_from (before ++ e ∷ []) (placed_after places (what e)) rest)
    where
      others : ℕ
      others = sum_by added (told_from (before ++ e ∷ []) (placed_after places (what e)) rest)

      by_loss : (o : Option ClusterNo) → (is_some o || has_loss rest) ≡ false → (has_loss rest ≡ false → others ≡ 0) → option_map_or (counted_at system (record { log = before; places = places; entry = e })) o 0 + others ≡ 0
      by_loss None none more = let rest_none = more none in omega (arith, rest_none)
      by_loss (Some k) none more = absurd (true≢false none)

pub none_withheld : (system : System) (log : List Entry) → has_loss log ≡ false → counted system log ≡ 0
unfolding told
none_withheld system log none = none_from system [] (places_at_boot system) log none
