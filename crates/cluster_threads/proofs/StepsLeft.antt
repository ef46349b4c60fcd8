-- Which of a cluster's steps words name that are left, while it is in one life.
use Rattle.std.proofs.Common.{◌≡◌, ℕ, ◌+◌, ◌<◌, ◌≤◌, arith, refl, sym, ◌∙◌, ap, List, [], ◌∷◌, ◌++◌, length, take, get_or, drop, Bool, true, false, ◌&&◌, ◌||◌, Option, Some}
use Rattle.std.specs.Prelude.{◌==◌, count_by}
use Rattle.std.specs.List.{list_any}
use Rattle.std.proofs.lemmas.Bool.{ltb-true}
use Rattle.std.proofs.lemmas.List.{take-append-le, take_more}
use Rattle.std.proofs.lemmas.List.Folds.{list_any-append}
use Rattle.t32_base.proofs.Facts.{and_false}
use Rattle.t32_base.specs.declared.process.ClusterNo.{ClusterNo}
use Rattle.bus_msg.specs.declared.entry.Cause.TheVariants.{Step}
use Rattle.bus_msg.specs.declared.entry.Entry.{Entry}
use Rattle.bus_msg.specs.declared.entry.Post.{Post}
use Rattle.bus_msg.specs.PlacedAfter.{what}
use Rattle.cert_sched.specs.declared.script.ScriptWord.{ScriptWord}
use Rattle.cert_sched.specs.Losses.{has_step_left, is_step_crash, is_step_word}
use Rattle.cluster_core.specs.View.{ClusterView, head_of}
use Rattle.bus_order.specs.declared.marks.Mark.{Mark}
use Rattle.bus_order.specs.declared.marks.Idled.{Idled}
use Rattle.bus_order.specs.Script.{has_unused}
use Rattle.bus_order.specs.View.{BusView, KeepsScript, after_words}
use Rattle.script_laws.proofs.Counts.{any_counted}
use Rattle.cluster_turns.specs.Along.{IsAlong, IsSound}
use Rattle.cluster_turns.specs.Gone.{is_own_loss}
use Rattle.cluster_turns.specs.Offers.{OfferIs, TellIs, Visits}
use Rattle.cluster_turns.specs.declared.offers.Offered.{Offered}
use Rattle.cluster_turns.specs.declared.offers.Offered.TheVariants.{Sent, Behind, Over, Off}
use Rattle.cluster_turns.proofs.Offering.{told_along, was_behind, was_off, was_over, was_sent}
use Rattle.cluster_turns.proofs.OwnLosses.{left_kept, none_own_lived, unused_left}
use Rattle.cluster_turns.proofs.Sending.{sent_unlost}
use Rattle.cluster_turns.proofs.StepLosses.{before_along}
use Rattle.cluster_threads.specs.Steps.{AreStepsLeft, TakesStep}

-- from a place on no loss stands that a cluster tells of itself
abbrev pub TellsNoLoss : ClusterNo → List Entry → ℕ → Type 0
TellsNoLoss k log n = list_any (λ (e : Entry). is_own_loss k (what e)) (drop n log) ≡ false

-- the same steps are left then
pub steps_kept : (script : List ScriptWord) (log after : List Entry) (k : ClusterNo) (n : ℕ) (steps : List ℕ) → take n after ≡ take n log → TellsNoLoss k log n → TellsNoLoss k after n → AreStepsLeft script log k steps → AreStepsLeft script after k steps
steps_kept script log after k n steps front none still are m = are m ∙ sym (left_kept script log after k n (Step m) front none still)

-- and so in a log that has grown
pub steps_longer : (script : List ScriptWord) (was log more : List Entry) (k : ClusterNo) (n : ℕ) (steps : List ℕ) → log ≡ was ++ more → n ≤ length was → TellsNoLoss k was n → TellsNoLoss k log n → AreStepsLeft script was k steps → AreStepsLeft script log k steps
steps_longer script was log more k n steps longer within none still are = steps_kept script was log k n steps (ap (take n) longer ∙ take-append-le n was more within) none still are

-- ---- the cluster had the bus

module _ (b after : BusView) (c : ClusterView) (along : IsAlong b c) (sound : IsSound after) where
  along_tells : IsAlong after c → TellsNoLoss c.number after.log c.cursor
  along_tells there = (before_along after c sound there).kept

  -- it offered its head
  pub offered_tells : (post : Post) (o : Offered) → head_of c.queue ≡ Some post → c.tried ≡ true → OfferIs c.number c.cursor post o b after → TellsNoLoss c.number after.log c.cursor
  offered_tells post o head tried is = by_way o is
    where
      visit : (o : Offered) → OfferIs c.number c.cursor post o b after → Visits true c.number b after (OfferIs c.number c.cursor post o)
      visit o is = record { found = b; left = after; later = refl; is_left = refl; done = is }

      by_way : (o : Offered) → OfferIs c.number c.cursor post o b after → TellsNoLoss c.number after.log c.cursor
      by_way Sent is = none_own_lived c.number (drop c.cursor after.log) (sent_unlost (after_words b).log c post after (was_sent true b after c post along sound head tried (visit Sent is)))
      by_way Behind is = along_tells (was_behind true b after c post along (visit Behind is)).0
      by_way Over is = along_tells (was_over true b after c post along (visit Over is))
      by_way Off is = along_tells (was_off true b after c post along (visit Off is)).0

  -- or told that nothing can move in it
  pub told_tells : (m : Mark) (t : Option Idled) → TellIs c.number c.cursor m t b after → TellsNoLoss c.number after.log c.cursor
  told_tells m t is = along_tells (told_along true b after c m t along (record { found = b; left = after; later = refl; is_left = refl; done = is }))

-- ---- the steps are collected

-- one word more
pub steps_more : (left script : List ScriptWord) (k : ClusterNo) (i : ℕ) (w : ScriptWord) (old new : List ℕ) → i < length script → ((n : ℕ) → list_any (λ (s : ℕ). s == n) old ≡ (list_any (is_step_word k n) (take i script) && has_unused left k (Step n)))
    → TakesStep left k (get_or script i w) old new → (n : ℕ) → list_any (λ (s : ℕ). s == n) new ≡ (list_any (is_step_word k n) (take (i + 1) script) && has_unused left k (Step n))
steps_more left script k i w old new within so_far takes n =
    takes n ∙ ap (λ t. t || (is_step_word k n (get_or script i w) && has_unused left k (Step n))) (so_far n)
    ∙ both (list_any (is_step_word k n) (take i script)) (is_step_word k n (get_or script i w)) (has_unused left k (Step n))
    ∙ sym (ap (λ t. t && has_unused left k (Step n)) (ap (list_any (is_step_word k n)) (take_more script i w within) ∙ list_any-append (is_step_word k n) (take i script) (get_or script i w ∷ [])))
  where
    both : (a b u : Bool) → (a && u || b && u) ≡ ((a || (b || false)) && u)
    both true true true = refl
    both true true false = refl
    both true false true = refl
    both true false false = refl
    both false true true = refl
    both false true false = refl
    both false false true = refl
    both false false false = refl

-- once all words were looked at
pub steps_all : (b : BusView) (k : ClusterNo) (steps : List ℕ) → KeepsScript b → ((n : ℕ) → list_any (λ (s : ℕ). s == n) steps ≡ (list_any (is_step_word k n) b.script && has_unused b.left k (Step n))) → AreStepsLeft b.script b.log k steps
steps_all b k steps keeps are n = are n ∙ ap (λ t. list_any (is_step_word k n) b.script && t) (unused_left b k (Step n) keeps) ∙ by_test (has_step_left b.script b.log k n) refl
  where
    by_test : (t : Bool) → has_step_left b.script b.log k n ≡ t → (list_any (is_step_word k n) b.script && has_step_left b.script b.log k n) ≡ has_step_left b.script b.log k n
    by_test false none = ap (λ t. list_any (is_step_word k n) b.script && t) none ∙ and_false (list_any (is_step_word k n) b.script) ∙ sym none
    by_test true some =
        let less = ltb-true (count_by (λ (e : Entry). is_step_crash k n (what e)) b.log) (count_by (is_step_word k n) b.script) some in
        ap (λ t. t && has_step_left b.script b.log k n) (any_counted (is_step_word k n) b.script (omega (arith, less)))
