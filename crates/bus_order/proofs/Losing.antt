-- The loss of a cluster may stand next, by a word for a place that was reached, or by one for a step or a disk call.
use Rattle.std.proofs.Common.{◌≡◌, ℕ, refl, sym, ◌∙◌, ap, subst, arith, List, [], ◌∷◌, ◌++◌, length, Bool, cond, ◌&&◌, true, false, eqb, eqb-true, Some, None, is_some, true≢false}
use Rattle.std.specs.Prelude.{remove}
use Rattle.std.proofs.Math.Bool.{and-false}
use Rattle.std.proofs.lemmas.Bool.{and_parts}
use Rattle.proc_state.specs.Mail.{without_first}
use Rattle.t32_base.specs.declared.process.ClusterNo.{ClusterNo}
use Rattle.sys_text.specs.declared.system.System.{System}
use Rattle.bus_msg.specs.declared.entry.What.TheVariants.{Crash, Return}
use Rattle.bus_msg.specs.declared.entry.Cause.{Cause}
use Rattle.bus_msg.specs.declared.entry.Cause.TheVariants.{Place, Step, Disk}
use Rattle.bus_msg.specs.declared.entry.Entry.{Entry}
use Rattle.bus_msg.specs.Places.{Places, same_cluster, lives_in, is_lost_in}
use Rattle.cert_sched.specs.declared.script.ScriptWord.{ScriptWord}
use Rattle.cert_sched.specs.declared.script.ScriptWord.TheVariants.{CrashAt, CrashStep, DiskAt, ReturnAt}
use Rattle.cert_sched.specs.CertAfter.{CertView}
use Rattle.cert_sched.specs.Schedule.{placement}
use Rattle.cert_sched.specs.Rules.{is_over}
use Rattle.cert_sched.specs.Legal.{IsLegalBy, MayFollow, MayStand}
use Rattle.cert_sched.specs.Looked.{Looked, gives, goes_on as goes_by, first_reached, is_bus_word, is_reached, given_by, waits_for_no_word, without_reached}
use Rattle.cert_sched.specs.Losses.{is_scripted_cause}
use Rattle.cert_sched.specs.Simulation.{crash_entry}
use Rattle.cert_sched.proofs.LogLaws.{no_items}
use Rattle.cert_sched.proofs.ThereLaws.{plain_there}
use Rattle.bus_order.specs.Script.{IsFirst, is_loss_for, is_word_for}
use Rattle.bus_order.specs.View.{BusView, IsKept, KeepsScript, MayLose}
use Rattle.bus_order.proofs.WordsLaws.{find-filter, without-filter, filter-without, found_passes, count-without, length-without}
use Rattle.bus_order.proofs.LeftLaws.{word_not_bus}
use Rattle.bus_order.proofs.Keeping.{IsMore, accounts_more, reached_bus, words_stay}

-- the crash of a cluster that lives may stand next in a log that goes on
pub crash_may_follow : (system : System) (log : List Entry) (k : ClusterNo) (cause : Cause) → IsLegalBy MayStand system log → is_over system log ≡ false → lives_in (placement system log) k ≡ true → MayFollow system log (crash_entry system log k cause)
crash_may_follow system log k cause legal goes_on lives = record {
  stands = record {
    placed = (refl, refl, goes_on);
    by_right = refl;
    applies = ap is_some (no_items system log (crash_entry system log k cause) (λ k. refl)) ∙ plain_there MayStand (λ system log e may. may.stands) system log legal;
    kind = lives;
  };
  limits = refl;
  backup = refl;
  new_page = refl;
  pages = refl;
}

pub loss_more : (b : BusView) (k : ClusterNo) (cause : Cause) (left : List ScriptWord) → IsLegalBy MayStand b.system b.log → MayLose b k cause left → IsMore b (crash_entry b.system b.log k cause) left
loss_more b k cause left legal may = record {
  may = crash_may_follow b.system b.log k cause legal may.goes_on may.lives;
  looked = may.looked;
  scripted = may.scripted;
  used = may.used;
  fewer = may.fewer;
}

-- ---- by a word for a place

-- what it gives is a crash of a cluster that lives
given_lives : (places : Places) (w : ScriptWord) (k : ClusterNo) → given_by places w ≡ Some (Crash k Place) → lives_in places k ≡ true
given_lives places (CrashAt j place) k given = by_test (lives_in places j) refl given
  where
    by_test : (b : Bool) → lives_in places j ≡ b → cond b (Some (Crash j Place)) None ≡ Some (Crash k Place) → lives_in places k ≡ true
    by_test true is e = let same : j ≡ k = cc in ap (lives_in places) (sym same) ∙ is
    by_test false is e = cc
given_lives places (CrashStep j step) k given = cc
given_lives places (DiskAt j call) k given = cc
given_lives places (ReturnAt j place) k given = by_test (is_lost_in places j) given
  where
    by_test : (b : Bool) → cond b (Some (Return j)) None ≡ Some (Crash k Place) → lives_in places k ≡ true
    by_test true e = cc
    by_test false e = cc

pub no_place_loss : (j k : ClusterNo) (cause : Cause) → is_loss_for j cause (Crash k Place) ≡ false
no_place_loss j k Place = refl
no_place_loss j k (Step n) = and-false (same_cluster k j)
no_place_loss j k (Disk n) = and-false (same_cluster k j)

-- the loss that the first word that was reached gives may stand next
pub given_loses : (b : BusView) (w : ScriptWord) (k : ClusterNo) → KeepsScript b → is_over b.system b.log ≡ false → first_reached b.log b.left ≡ Some w
    → given_by (placement b.system b.log) w ≡ Some (Crash k Place) → MayLose b k Place (without_reached b.log b.left)
given_loses b w k keeps goes_on first given = record {
  goes_on = goes_on;
  lives = given_lives (placement b.system b.log) w k given;
  looked =
      subst (Looked b.system b.script (b.log ++ crash_entry b.system b.log k Place ∷ [])) (without-filter (is_reached (length b.log)) is_bus_word (reached_bus (length b.log)) b.left)
      (gives keeps.looked w (crash_entry b.system b.log k Place) (find-filter (is_reached (length b.log)) is_bus_word (reached_bus (length b.log)) b.left ∙ first) given);
  scripted = refl;
  used = accounts_more b.script b.left (without_reached b.log b.left) b.log (crash_entry b.system b.log k Place) keeps.used (λ j cause.
      let stay = words_stay (length b.log) b.left w j cause first in
      let none : ◌≡◌ {A = ℕ} (cond (is_loss_for j cause (Crash k Place)) 1 0) 0 = ap (λ (c : Bool). cond c 1 0) (no_place_loss j k cause) in
      omega (arith, stay, none));
  fewer = let one = length-without (is_reached (length b.log)) b.left w first in omega (arith, one);
}

pub place_loses : (b : BusView) (over : Bool) (places : Places) (cert : CertView) (number : ℕ) (w : ScriptWord) (k : ClusterNo) → IsKept b over places cert → is_over b.system b.log ≡ false → IsFirst (is_reached (length b.log)) b.left number w
    → given_by (placement b.system b.log) w ≡ Some (Crash k Place) → MayLose b k Place (remove b.left number)
place_loses b over places cert number w k kept goes_on first given = subst (MayLose b k Place) (sym first.2) (given_loses b w k kept.lawful.scripted goes_on first.0 given)

-- ---- by a word for a step or a disk call

-- the loss that it gives comes by no look
word_unlooked : (k : ClusterNo) (cause : Cause) (w : ScriptWord) → is_word_for k cause w ≡ true → waits_for_no_word (Crash k cause) ≡ true
word_unlooked k Place w h = absurd (true≢false (sym h))
word_unlooked k (Step n) w h = refl
word_unlooked k (Disk n) w h = refl

same_pair : (i k j : ClusterNo) (call n m : ℕ) → (same_cluster i k && eqb call n) ≡ true → (same_cluster i j && eqb call m) ≡ (same_cluster k j && eqb n m)
same_pair i k j call n m h =
    let parts = and_parts (same_cluster i k) (eqb call n) h in
    ap (λ a. eqb a j.0 && eqb call m) (eqb-true i.0 k.0 parts.0) ∙ ap (λ a. eqb k.0 j.0 && eqb a m) (eqb-true call n parts.1)

-- it is a word for another cluster and cause exactly where the loss is one of that cluster for that cause
same_loss : (k : ClusterNo) (cause : Cause) (w : ScriptWord) (j : ClusterNo) (other : Cause) → is_word_for k cause w ≡ true → is_word_for j other w ≡ is_loss_for j other (Crash k cause)
same_loss k Place w j other h = absurd (true≢false (sym h))
same_loss k (Step n) (CrashAt i place) j other h = absurd (true≢false (sym h))
same_loss k (Step n) (CrashStep i step) j Place h = refl
same_loss k (Step n) (CrashStep i step) j (Step m) h = same_pair i k j step n m h
same_loss k (Step n) (CrashStep i step) j (Disk m) h = sym (and-false (same_cluster k j))
same_loss k (Step n) (DiskAt i call) j other h = absurd (true≢false (sym h))
same_loss k (Step n) (ReturnAt i place) j other h = absurd (true≢false (sym h))
same_loss k (Disk n) (CrashAt i place) j other h = absurd (true≢false (sym h))
same_loss k (Disk n) (CrashStep i step) j other h = absurd (true≢false (sym h))
same_loss k (Disk n) (DiskAt i call) j Place h = refl
same_loss k (Disk n) (DiskAt i call) j (Step m) h = sym (and-false (same_cluster k j))
same_loss k (Disk n) (DiskAt i call) j (Disk m) h = same_pair i k j call n m h
same_loss k (Disk n) (ReturnAt i place) j other h = absurd (true≢false (sym h))

pub word_loses : (b : BusView) (over : Bool) (places : Places) (cert : CertView) (number : ℕ) (w : ScriptWord) (k : ClusterNo) (cause : Cause) → IsKept b over places cert → is_over b.system b.log ≡ false → lives_in (placement b.system b.log) k ≡ true
    → IsFirst (is_word_for k cause) b.left number w → is_scripted_cause b.system b.script b.log k cause ≡ true → MayLose b k cause (remove b.left number)
word_loses b over places cert number w k cause kept going lives first scripted = subst (MayLose b k cause) (sym first.2) (record {
  goes_on = going;
  lives = lives;
  looked =
      subst (Looked b.system b.script (b.log ++ crash_entry b.system b.log k cause ∷ [])) (sym (filter-without (is_word_for k cause) is_bus_word (word_not_bus k cause) b.left))
      (goes_by (kept.lawful.scripted).looked (crash_entry b.system b.log k cause) (word_unlooked k cause w is_for));
  scripted = scripted;
  used = accounts_more b.script b.left (without_first (is_word_for k cause) b.left) b.log (crash_entry b.system b.log k cause) (kept.lawful.scripted).used (λ j other.
      let counted = count-without (is_word_for k cause) (is_word_for j other) b.left w first.0 in
      let same : ◌≡◌ {A = ℕ} (cond (is_word_for j other w) 1 0) (cond (is_loss_for j other (Crash k cause)) 1 0) = ap (λ (c : Bool). cond c 1 0) (same_loss k cause w j other is_for) in
      omega (arith, counted, same));
  fewer = let one = length-without (is_word_for k cause) b.left w first.0 in omega (arith, one);
})
  where
    is_for : is_word_for k cause w ≡ true
    is_for = found_passes (is_word_for k cause) b.left w first.0
