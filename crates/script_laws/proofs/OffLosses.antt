-- A cluster that no entry brings back is off from its loss on: it is lost once at most, lives exactly where it was not lost, and sends nothing afterwards.
use Rattle.std.proofs.Common.{◌≡◌, ℕ, ◌+◌, ◌<◌, refl, sym, ◌∙◌, ap, List, [], ◌∷◌, ◌++◌, take, drop, false, true, not, ◌||◌, None, Option, Some, is_none, is_some}
use Rattle.std.specs.List.{list_any}
use Rattle.std.proofs.lemmas.Bool.{or_parts}
use Rattle.std.proofs.lemmas.List.{take-append-drop}
use Rattle.std.proofs.lemmas.List.Folds.{list_any-append}
use Rattle.t32_base.specs.declared.process.ClusterNo.{ClusterNo}
use Rattle.sys_text.specs.declared.system.System.{System}
use Rattle.bus_msg.specs.declared.entry.Entry.{Entry}
use Rattle.bus_msg.specs.Places.{lives_in}
use Rattle.bus_msg.specs.PlacedAfter.{what}
use Rattle.cert_sched.specs.Schedule.{placement}
use Rattle.cert_sched.specs.Losses.{is_by_cluster, is_crash_of, was_lost_in}
use Rattle.cert_sched.specs.Legal.{IsLegalBy, IsLegalFrom, Stands, MayStand}
use Rattle.bus_order.specs.Script.{off_at, turns}
use Rattle.script_laws.specs.Off.{IsItsLoss, comes_back, has_returned_in}
use Rattle.script_laws.proofs.OffSince.{lives_unless_off, off_since, off_where_lost, silent_until_back, turns_parts}
use Rattle.script_laws.proofs.Alternating.{lost_follows, stood_at}

-- ---- a log by the rule that is in force

stands_from : (system : System) (log rest : List Entry) → IsLegalFrom MayStand system log rest → IsLegalFrom Stands system log rest
stands_from system log [] legal = tt
stands_from system log (e ∷ rest) legal = ((legal.0).stands, stands_from system (log ++ e ∷ []) rest legal.1)

-- each of its entries stands
pub all_stand : (system : System) (log : List Entry) → IsLegalBy MayStand system log → IsLegalBy Stands system log
unfolding IsLegalBy
all_stand system log legal = stands_from system [] log legal

-- ---- the parts of a log in which nothing brings the cluster back

back_parts : (log : List Entry) (k : ClusterNo) (n : ℕ) → has_returned_in log k ≡ false → (has_returned_in (take n log) k ≡ false) × (has_returned_in (drop n log) k ≡ false)
back_parts log k n none =
    or_parts (has_returned_in (take n log) k) (has_returned_in (drop n log) k)
    (sym (ap (λ l. has_returned_in l k) (sym (take-append-drop n log)) ∙ list_any-append (λ (e : Entry). comes_back k (what e)) (take n log) (drop n log)) ∙ none)

-- where nothing turns it, it is not lost
unturned_unlost : (log : List Entry) (k : ClusterNo) → list_any (λ (e : Entry). turns k (what e)) log ≡ false → was_lost_in log k ≡ false
unturned_unlost [] k none = refl
unturned_unlost (e ∷ log) k none =
    let parts = or_parts (turns k (what e)) (list_any (λ (e : Entry). turns k (what e)) log) none in
    let here = or_parts (is_crash_of k (what e)) (comes_back k (what e)) (sym (turns_parts k (what e)) ∙ parts.0) in
    ap (λ b. b || was_lost_in log k) here.0 ∙ unturned_unlost log k parts.1

-- ---- off exactly where it was lost

pub lost_off : (log : List Entry) (k : ClusterNo) → has_returned_in log k ≡ false → was_lost_in log k ≡ is_some (off_at log k)
lost_off log k none = sym (off_where_lost log k none)

pub not_off_not_lost : (log : List Entry) (k : ClusterNo) → has_returned_in log k ≡ false → off_at log k ≡ None → was_lost_in log k ≡ false
not_off_not_lost log k none on = lost_off log k none ∙ ap is_some on

-- a cluster of the system lives exactly where it was not lost
pub lives_unless_lost : (system : System) (log : List Entry) (k : ClusterNo) → IsLegalBy MayStand system log → has_returned_in log k ≡ false → k.0 < system.clusters → lives_in (placement system log) k ≡ not (was_lost_in log k)
lives_unless_lost system log k legal none within = lives_unless_off system log k (all_stand system log legal) within ∙ by_off (off_at log k) ∙ sym (ap not (lost_off log k none))
  where
    by_off : (o : Option ℕ) → is_none o ≡ not (is_some o)
    by_off None = refl
    by_off (Some n) = refl

-- ---- the loss

-- where a cluster is off it was lost there, and nowhere else
pub off_is_its_loss : (system : System) (log : List Entry) (k : ClusterNo) (at : ℕ) → IsLegalBy MayStand system log → has_returned_in log k ≡ false → off_at log k ≡ Some at → IsItsLoss log k at
off_is_its_loss system log k at legal none off =
    let all = all_stand system log legal in
    let since = off_since system log k at all off in
    let stood = stood_at Stands system log at since.entry all since.there in
    record {
      entry = since.entry;
      there = since.there;
      loses = since.loses;
      none_before = not_off_not_lost (take at log) k (back_parts log k at none).0 (lost_follows system (take at log) since.entry k stood.0 stood.1 since.loses).1;
      none_after = unturned_unlost (drop (at + 1) log) k since.none_after;
    }

-- ---- what a cluster sends

-- no entry of a cluster stands after its loss
pub silent_once_lost : (system : System) (log : List Entry) (k : ClusterNo) (n : ℕ) → IsLegalBy MayStand system log → has_returned_in log k ≡ false → was_lost_in (take n log) k ≡ true → list_any (is_by_cluster k) (drop n log) ≡ false
silent_once_lost system log k n legal none lost =
    let parts = back_parts log k n none in
    silent_until_back system log k n (all_stand system log legal) (off_where_lost (take n log) k parts.0 ∙ lost) parts.1
