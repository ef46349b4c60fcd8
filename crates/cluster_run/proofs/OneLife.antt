-- By words for losses alone each cluster has one life, from the boot on.
use Rattle.std.proofs.Common.{◌≡◌, ℕ, sym, ◌∙◌, ap, List, take, drop, is_some, Bool, false, ◌||◌, None}
use Rattle.std.proofs.lemmas.List.{take-append-drop}
use Rattle.std.proofs.lemmas.List.Folds.{list_any-append}
use Rattle.t32_base.specs.declared.process.ClusterNo.{ClusterNo}
use Rattle.bus_msg.specs.declared.entry.Entry.{Entry}
use Rattle.bus_msg.specs.PlacedAfter.{what}
use Rattle.cert_sched.specs.Losses.{is_crash_of, was_lost_in}
use Rattle.bus_order.specs.Script.{off_at}
use Rattle.script_laws.specs.Off.{comes_back, has_returned_in}
use Rattle.script_laws.proofs.OffLosses.{lost_off, not_off_not_lost}
use Rattle.cluster_turns.proofs.Prefixes.{any_front}

abbrev its_loss : ClusterNo → Entry → Bool
its_loss k e = is_crash_of k (what e)

module _ (log : List Entry) (k : ClusterNo) (n : ℕ) (unreturned : has_returned_in log k ≡ false) (on : off_at (take n log) k ≡ None) where
  -- it was not lost up to where it is
  pub unlost_before : was_lost_in (take n log) k ≡ false
  unlost_before = not_off_not_lost (take n log) k (any_front (λ (e : Entry). comes_back k (what e)) log n unreturned) on

  -- so it was lost behind that, where it was lost at all
  pub lost_behind : was_lost_in log k ≡ was_lost_in (drop n log) k
  lost_behind =
      ap (λ l. was_lost_in l k) (sym (take-append-drop n log)) ∙ list_any-append (its_loss k) (take n log) (drop n log)
      ∙ ap (λ t. t || was_lost_in (drop n log) k) unlost_before

  -- and by the end it is off where it was
  pub off_behind : was_lost_in (drop n log) k ≡ is_some (off_at log k)
  off_behind = sym lost_behind ∙ lost_off log k unreturned
