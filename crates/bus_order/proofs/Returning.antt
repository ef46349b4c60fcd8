-- The return of a cluster that was lost may stand next, by a word for a place that was reached.
use Rattle.std.proofs.Common.{◌≡◌, ℕ, ◌<◌, refl, sym, ◌∙◌, ap, subst, arith, List, [], ◌∷◌, ◌++◌, length, Bool, cond, not, true, false, Option, Some, None, is_some, true≢false}
use Rattle.std.specs.Prelude.{remove, slice_get}
use Rattle.std.specs.Option.{option_map_or}
use Rattle.std.proofs.lemmas.Option.{slice_get_within}
use Rattle.t32_base.specs.declared.process.ClusterNo.{ClusterNo}
use Rattle.sys_text.specs.declared.system.System.{System}
use Rattle.bus_msg.specs.declared.entry.What.TheVariants.{Crash, Return}
use Rattle.bus_msg.specs.declared.entry.Cause.TheVariants.{Place}
use Rattle.bus_msg.specs.declared.entry.Entry.{Entry}
use Rattle.bus_msg.specs.Places.{ClusterPlace, Places, lives_in, is_lost_in}
use Rattle.cert_sched.specs.declared.script.ScriptWord.{ScriptWord}
use Rattle.cert_sched.specs.declared.script.ScriptWord.TheVariants.{CrashAt, CrashStep, DiskAt, ReturnAt}
use Rattle.cert_sched.specs.CertAfter.{CertView}
use Rattle.cert_sched.specs.Schedule.{placement}
use Rattle.cert_sched.specs.Rules.{is_over}
use Rattle.cert_sched.specs.Legal.{IsLegalBy, MayFollow, MayStand}
use Rattle.cert_sched.specs.Looked.{Looked, gives, first_reached, is_bus_word, is_reached, given_by, without_reached}
use Rattle.cert_sched.proofs.LogLaws.{no_items}
use Rattle.cert_sched.proofs.ThereLaws.{plain_there}
use Rattle.bus_order.specs.Script.{IsFirst, is_loss_for}
use Rattle.bus_order.specs.View.{BusView, IsKept, KeepsScript, MayReturn, return_entry}
use Rattle.bus_order.proofs.WordsLaws.{find-filter, without-filter, length-without}
use Rattle.bus_order.proofs.Keeping.{IsMore, accounts_more, no_loss_for, reached_bus, words_stay}

-- ---- a cluster that is lost

pub lost_within : (places : Places) (k : ClusterNo) → is_lost_in places k ≡ true → k.0 < length places.clusters
lost_within places k lost = by_cluster (slice_get places.clusters k.0) refl lost
  where
    by_cluster : (o : Option ClusterPlace) → slice_get places.clusters k.0 ≡ o → option_map_or (λ (c : ClusterPlace). not c.lives) o false ≡ true → k.0 < length places.clusters
    by_cluster (Some c) there lost = slice_get_within places.clusters k.0 c there
    by_cluster None there lost = absurd (true≢false (sym lost))

-- ---- its return

-- it may stand next in a log that goes on
pub return_may_follow : (system : System) (log : List Entry) (k : ClusterNo) → IsLegalBy MayStand system log → is_over system log ≡ false → is_lost_in (placement system log) k ≡ true → MayFollow system log (return_entry system log k)
return_may_follow system log k legal goes_on lost = record {
  stands = record {
    placed = (refl, refl, goes_on);
    by_right = refl;
    applies = ap is_some (no_items system log (return_entry system log k) (λ k. refl)) ∙ plain_there MayStand (λ system log e may. may.stands) system log legal;
    kind = lost;
  };
  limits = refl;
  backup = refl;
  new_page = refl;
  pages = refl;
}

pub return_more : (b : BusView) (k : ClusterNo) (left : List ScriptWord) → IsLegalBy MayStand b.system b.log → MayReturn b k left → IsMore b (return_entry b.system b.log k) left
return_more b k left legal may = record {
  may = return_may_follow b.system b.log k legal may.goes_on may.lost;
  looked = may.looked;
  scripted = refl;
  used = may.used;
  fewer = may.fewer;
}

-- ---- by a word for a place

-- a return is that of a cluster that is lost
given_lost : (places : Places) (w : ScriptWord) (k : ClusterNo) → given_by places w ≡ Some (Return k) → is_lost_in places k ≡ true
given_lost places (CrashAt j place) k given = by_test (lives_in places j) given
  where
    by_test : (b : Bool) → cond b (Some (Crash j Place)) None ≡ Some (Return k) → is_lost_in places k ≡ true
    by_test true e = cc
    by_test false e = cc
given_lost places (CrashStep j step) k given = cc
given_lost places (DiskAt j call) k given = cc
given_lost places (ReturnAt j place) k given = by_test (is_lost_in places j) refl given
  where
    by_test : (b : Bool) → is_lost_in places j ≡ b → cond b (Some (Return j)) None ≡ Some (Return k) → is_lost_in places k ≡ true
    by_test true is e = let same : j ≡ k = cc in ap (is_lost_in places) (sym same) ∙ is
    by_test false is e = cc

-- the return that the first word that was reached gives may stand next
pub given_returns : (b : BusView) (w : ScriptWord) (k : ClusterNo) → KeepsScript b → is_over b.system b.log ≡ false → first_reached b.log b.left ≡ Some w
    → given_by (placement b.system b.log) w ≡ Some (Return k) → MayReturn b k (without_reached b.log b.left)
given_returns b w k keeps goes_on first given = record {
  goes_on = goes_on;
  lost = given_lost (placement b.system b.log) w k given;
  looked =
      subst (Looked b.system b.script (b.log ++ return_entry b.system b.log k ∷ [])) (without-filter (is_reached (length b.log)) is_bus_word (reached_bus (length b.log)) b.left)
      (gives keeps.looked w (return_entry b.system b.log k) (find-filter (is_reached (length b.log)) is_bus_word (reached_bus (length b.log)) b.left ∙ first) given);
  used = accounts_more b.script b.left (without_reached b.log b.left) b.log (return_entry b.system b.log k) keeps.used (λ j cause.
      let stay = words_stay (length b.log) b.left w j cause first in
      let none : ◌≡◌ {A = ℕ} (cond (is_loss_for j cause (Return k)) 1 0) 0 = ap (λ (c : Bool). cond c 1 0) (no_loss_for j cause (Return k) refl) in
      omega (arith, stay, none));
  fewer = let one = length-without (is_reached (length b.log)) b.left w first in omega (arith, one);
}

pub place_returns : (b : BusView) (over : Bool) (places : Places) (cert : CertView) (number : ℕ) (w : ScriptWord) (k : ClusterNo) → IsKept b over places cert → is_over b.system b.log ≡ false → IsFirst (is_reached (length b.log)) b.left number w
    → given_by (placement b.system b.log) w ≡ Some (Return k) → MayReturn b k (remove b.left number)
place_returns b over places cert number w k kept goes_on first given = subst (MayReturn b k) (sym first.2) (given_returns b w k kept.lawful.scripted goes_on first.0 given)
