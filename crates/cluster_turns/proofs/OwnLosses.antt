-- The losses that a cluster tells itself, and what stands in a log that has none.
use Rattle.std.proofs.Common.{◌≡◌, ◌+◌, ◌≤◌, ℕ, zero, suc, refl, sym, ◌∙◌, ap, arith, List, [], ◌∷◌, ◌++◌, take, drop, Bool, true, false, cond, not, ◌&&◌, ◌||◌, Some, None, slice_get, true≢false, eqb-true, eq-eqb, inl, inr}
use Rattle.std.specs.Prelude.{◌==◌, count_by, nat_le, nat_lt}
use Rattle.std.proofs.lemmas.Bool.Decides.{nat_tests}
use Rattle.std.specs.List.{list_all, list_any}
use Rattle.std.proofs.lemmas.Bool.{and_parts, lt-ltb, or_left, or_right, or_parts}
use Rattle.std.proofs.lemmas.List.{take-append-drop}
use Rattle.std.proofs.lemmas.List.Folds.{list_all-append, list_any-append}
use Rattle.std.proofs.lemmas.List.Sums.{sum_by-append}
use Rattle.cert_sched.proofs.ListLaws.{list_all-weaker}
use Rattle.t32_base.specs.declared.process.ClusterNo.{ClusterNo}
use Rattle.sys_text.specs.declared.system.System.{System}
use Rattle.bus_msg.specs.declared.entry.By.{By}
use Rattle.bus_msg.specs.declared.entry.By.TheVariants.{Cluster, Bus}
use Rattle.bus_msg.specs.declared.entry.What.{What}
use Rattle.bus_msg.specs.declared.entry.What.TheVariants.{Crash, Stop}
use Rattle.bus_msg.specs.declared.entry.Cause.{Cause}
use Rattle.bus_msg.specs.declared.entry.Cause.TheVariants.{Place, Step, Disk}
use Rattle.bus_msg.specs.declared.entry.Entry.{Entry}
use Rattle.bus_msg.specs.Places.{Places, same_cluster}
use Rattle.bus_msg.specs.PlacedAfter.{what}
use Rattle.cert_sched.specs.declared.script.ScriptWord.{ScriptWord}
use Rattle.cert_sched.specs.declared.script.ScriptWord.TheVariants.{CrashAt, CrashStep, DiskAt, ReturnAt}
use Rattle.cert_sched.specs.Schedule.{placement}
use Rattle.cert_sched.specs.Rules.{is_bus, is_by_right}
use Rattle.cert_sched.specs.Legal.{IsLegalBy, MayStand}
use Rattle.cert_sched.specs.Losses.{has_step_left, is_by_cluster, is_crash_of, is_disk_crash, is_disk_word, is_from, is_step_crash, is_step_word, was_lost_in}
use Rattle.cert_sched.proofs.Induction.{legal_induction}
use Rattle.cluster_core.specs.View.{ClusterView, next_count}
use Rattle.bus_lock.specs.Lists.{is_author}
use Rattle.bus_order.specs.Log.{author}
use Rattle.bus_order.specs.Script.{has_unused, is_loss_for, is_unpassed}
use Rattle.bus_order.specs.View.{BusView, KeepsScript}
use Rattle.script_laws.specs.Crashes.{is_loss}
use Rattle.script_laws.proofs.Counts.{count_none, count_some}
use Rattle.script_laws.proofs.PassedWords.{unpassed_unnamed}
use Rattle.cluster_turns.specs.Gone.{is_own_loss, is_told_by}
use Rattle.cluster_turns.specs.Along.{IsUnnamed, is_left}
use Rattle.cluster_turns.specs.Lives.{EndsBy, cause_in}

-- ---- lists

-- where no element passes a test, none passes a stronger one
pub any_weaker : {X : Type 0} (s t : X → Bool) (xs : List X) → ((x : X) → s x ≡ false → t x ≡ false) → list_any s xs ≡ false → list_any t xs ≡ false
any_weaker s t [] weaker none = refl
any_weaker s t (x ∷ xs) weaker none =
    let parts = or_parts (s x) (list_any s xs) none in
    λ i. weaker x parts.0 i || any_weaker s t xs weaker parts.1 i

-- the same for elements that all pass a further one
any_weaker_of : {X : Type 0} (s t all : X → Bool) (xs : List X) → ((x : X) → all x ≡ true → s x ≡ false → t x ≡ false) → list_all all xs ≡ true → list_any s xs ≡ false → list_any t xs ≡ false
any_weaker_of s t all [] weaker pass none = refl
any_weaker_of s t all (x ∷ xs) weaker pass none =
    let parts = or_parts (s x) (list_any s xs) none in
    let those = and_parts (all x) (list_all all xs) pass in
    λ i. weaker x those.0 parts.0 i || any_weaker_of s t all xs weaker those.1 parts.1 i

all_drop : {X : Type 0} (t : X → Bool) (n : ℕ) (xs : List X) → list_all t xs ≡ true → list_all t (drop n xs) ≡ true
all_drop t zero xs all = all
all_drop t (suc n) [] all = refl
all_drop t (suc n) (x ∷ xs) all = all_drop t n xs (and_parts (t x) (list_all t xs) all).1

none_of_them : {X : Type 0} (t : X → Bool) (xs : List X) (n : ℕ) (x : X) → list_any t xs ≡ false → slice_get xs n ≡ Some x → t x ≡ false
none_of_them t [] n x none at = cc
none_of_them t (y ∷ xs) zero x none at = let same : y ≡ x = cc in ap t (sym same) ∙ (or_parts (t y) (list_any t xs) none).0
none_of_them t (y ∷ xs) (suc n) x none at = none_of_them t xs n x (or_parts (t y) (list_any t xs) none).1 at

-- ---- what a cluster tells

-- it tells what it sent
pub told_sent : (k : ClusterNo) (by : By) (w : What) → is_author k.0 (author by w) ≡ false → is_from k by ≡ false
told_sent k Bus w none = refl
told_sent k (Cluster j) w none = by_test (same_cluster j k) refl
  where
    by_test : (t : Bool) → same_cluster j k ≡ t → t ≡ false
    by_test true is = absurd (true≢false (sym (eq-eqb k.0 j.0 (sym (eqb-true j.0 k.0 is))) ∙ none))
    by_test false is = refl

pub none_sent : (k : ClusterNo) (xs : List Entry) → list_any (is_told_by k) xs ≡ false → list_any (is_by_cluster k) xs ≡ false
none_sent k xs none = any_weaker (is_told_by k) (is_by_cluster k) xs (λ e told. told_sent k (e.post).by (what e) told) none

-- the bus tells of losses
abbrev told_by_bus : Entry → Bool
told_by_bus e = is_bus (e.post).by || not (is_loss (what e))

loss_by_bus : (places : Places) (by : By) (w : What) → is_by_right places by w ≡ true → (is_bus by || not (is_loss w)) ≡ true
loss_by_bus places by (Crash k cause) h = ap (λ t. t || false) h
loss_by_bus places by _ h = or_right (is_bus by) true refl

losses_by_bus : (system : System) (log : List Entry) → IsLegalBy MayStand system log → list_all told_by_bus log ≡ true
losses_by_bus system log legal =
    legal_induction MayStand system (λ log. list_all told_by_bus log ≡ true) refl
    (λ log e before may. list_all-append told_by_bus log (e ∷ []) ∙ (λ i. before i && (loss_by_bus (placement system log) (e.post).by (what e) (may.stands).by_right i && true))) log legal

-- so a loss that the cluster did not tell is none of its own
other_cluster : (k j : ClusterNo) → is_author k.0 (Some j.0) ≡ false → same_cluster j k ≡ false
other_cluster k j none = told_sent k (Cluster j) Stop none

own_told : (k : ClusterNo) (by : By) (w : What) → (is_bus by || not (is_loss w)) ≡ true → is_author k.0 (author by w) ≡ false → is_own_loss k w ≡ false
own_told k Bus (Crash j Place) right none = refl
own_told k Bus (Crash j (Step n)) right none = other_cluster k j none
own_told k Bus (Crash j (Disk n)) right none = other_cluster k j none
own_told k (Cluster i) (Crash j cause) right none = absurd (true≢false (sym right))
own_told k by _ right none = refl

-- nor is one that loses another cluster
pub own_living : (k : ClusterNo) (w : What) → is_crash_of k w ≡ false → is_own_loss k w ≡ false
own_living k (Crash j (Step n)) none = none
own_living k (Crash j (Disk n)) none = none
own_living k _ none = refl

-- what a cluster did not tell, of a legal log from a place on, is no loss of its own
pub none_own_told : (system : System) (log : List Entry) (n : ℕ) (k : ClusterNo) → IsLegalBy MayStand system log → list_any (is_told_by k) (drop n log) ≡ false → list_any (λ (e : Entry). is_own_loss k (what e)) (drop n log) ≡ false
none_own_told system log n k legal none =
    any_weaker_of (is_told_by k) (λ (e : Entry). is_own_loss k (what e)) told_by_bus (drop n log) (λ e right told. own_told k (e.post).by (what e) right told) (all_drop told_by_bus n log (losses_by_bus system log legal)) none

-- nor is what it has lived through
pub none_own_lived : (k : ClusterNo) (xs : List Entry) → was_lost_in xs k ≡ false → list_any (λ (e : Entry). is_own_loss k (what e)) xs ≡ false
none_own_lived k xs lives = any_weaker (λ (e : Entry). is_crash_of k (what e)) (λ (e : Entry). is_own_loss k (what e)) xs (λ e none. own_living k (what e) none) lives

-- so one that was not lost up to a place, and told no loss from there on, told none
pub none_own : (log : List Entry) (n : ℕ) (k : ClusterNo) → was_lost_in (take n log) k ≡ false → list_any (λ (e : Entry). is_own_loss k (what e)) (drop n log) ≡ false → list_any (λ (e : Entry). is_own_loss k (what e)) log ≡ false
none_own log n k lives none =
    ap (list_any (λ (e : Entry). is_own_loss k (what e))) (sym (take-append-drop n log)) ∙ list_any-append (λ (e : Entry). is_own_loss k (what e)) (take n log) (drop n log)
    ∙ (λ i. none_own_lived k (take n log) lives i || none i)

-- ---- how a life ends where the cluster told no loss

ends_by_other : (k : ClusterNo) (w : What) (c : ClusterView) → is_own_loss k w ≡ false → EndsBy (cause_in k w) c
ends_by_other k (Crash j Place) c none = by_same (same_cluster j k)
  where
    by_same : (b : Bool) → EndsBy (cond b (Some Place) None) c
    by_same true = tt
    by_same false = tt
ends_by_other k (Crash j (Step n)) c none = by_same (same_cluster j k) none
  where
    by_same : (b : Bool) → b ≡ false → EndsBy (cond b (Some (Step n)) None) c
    by_same true is = absurd (true≢false is)
    by_same false is = tt
ends_by_other k (Crash j (Disk n)) c none = by_same (same_cluster j k) none
  where
    by_same : (b : Bool) → b ≡ false → EndsBy (cond b (Some (Disk n)) None) c
    by_same true is = absurd (true≢false is)
    by_same false is = tt
ends_by_other k _ c none = tt

-- an entry of the log then ends its life by nothing that it has to show
pub ends_there : (log : List Entry) (k : ClusterNo) (c : ClusterView) (n : ℕ) (e : Entry) → list_any (λ (e : Entry). is_own_loss k (what e)) log ≡ false → slice_get log n ≡ Some e → EndsBy (cause_in k (what e)) c
ends_there log k c n e none at = ends_by_other k (what e) c (none_of_them (λ (e : Entry). is_own_loss k (what e)) log n e none at)

-- ---- the words for its steps and its disk calls

own_step : (k : ClusterNo) (n : ℕ) (w : What) → is_own_loss k w ≡ false → is_step_crash k n w ≡ false
own_step k n (Crash j Place) none = by_same (same_cluster j k)
  where
    by_same : (b : Bool) → (b && false) ≡ false
    by_same true = refl
    by_same false = refl
own_step k n (Crash j (Step m)) none = ap (λ b. b && m == n) none
own_step k n (Crash j (Disk m)) none = ap (λ b. b && false) none
own_step k n _ none = refl

own_disk : (k : ClusterNo) (n : ℕ) (w : What) → is_own_loss k w ≡ false → is_disk_crash k n w ≡ false
own_disk k n (Crash j Place) none = by_same (same_cluster j k)
  where
    by_same : (b : Bool) → (b && false) ≡ false
    by_same true = refl
    by_same false = refl
own_disk k n (Crash j (Step m)) none = ap (λ b. b && false) none
own_disk k n (Crash j (Disk m)) none = ap (λ b. b && m == n) none
own_disk k n _ none = refl

own_loss : (k : ClusterNo) (cause : Cause) (w : What) → is_own_loss k w ≡ false → is_loss_for k cause w ≡ false
own_loss k Place w none = refl
own_loss k (Step n) w none = own_step k n w none
own_loss k (Disk n) w none = own_disk k n w none

not_less : (m : ℕ) → nat_lt m m ≡ false
not_less m = grind (arith, nat_tests)

-- what is left of as many as there were
left_any : {X : Type 0} (t : X → Bool) (xs : List X) (m n : ℕ) → count_by t xs + m ≡ n → list_any t xs ≡ nat_lt m n
left_any t xs m n all = by_test (list_any t xs) refl
  where
    by_test : (b : Bool) → list_any t xs ≡ b → b ≡ nat_lt m n
    by_test true some = let few = count_some t xs some in sym (lt-ltb m n (omega (arith, all, few)))
    by_test false none =
        let same : n ≡ m = let gone = count_none t xs none in omega (arith, all, gone) in
        sym (ap (nat_lt m) same ∙ not_less m)

none_placed : (words : List ScriptWord) → list_any (λ (w : ScriptWord). false) words ≡ false
none_placed [] = refl
none_placed (w ∷ words) = none_placed words

-- the words that a bus has left are those of its script that gave no loss
pub unused_left : (b : BusView) (k : ClusterNo) (cause : Cause) → KeepsScript b → has_unused b.left k cause ≡ is_left b.script b.log k cause
unused_left b k Place keeps = none_placed b.left
unused_left b k (Step n) keeps = left_any (is_step_word k n) b.left (count_by (λ (e : Entry). is_step_crash k n (what e)) b.log) (count_by (is_step_word k n) b.script) (keeps.used k (Step n))
unused_left b k (Disk n) keeps = left_any (is_disk_word k n) b.left (count_by (λ (e : Entry). is_disk_crash k n (what e)) b.log) (count_by (is_disk_word k n) b.script) (keeps.used k (Disk n))

some_left : {X : Type 0} (t : X → Bool) (xs : List X) (m : ℕ) → m ≡ 0 → nat_lt m (count_by t xs) ≡ list_any t xs
some_left t xs m none = by_test (list_any t xs) refl
  where
    by_test : (b : Bool) → list_any t xs ≡ b → nat_lt m (count_by t xs) ≡ b
    by_test true some = let few = count_some t xs some in lt-ltb m (count_by t xs) (omega (arith, none, few))
    by_test false gone = (λ i. nat_lt (none i) (count_none t xs gone i))

none_lost_so : (log : List Entry) (k : ClusterNo) (cause : Cause) → list_any (λ (e : Entry). is_own_loss k (what e)) log ≡ false → count_by (λ (e : Entry). is_loss_for k cause (what e)) log ≡ 0
none_lost_so log k cause none = count_none (λ (e : Entry). is_loss_for k cause (what e)) log (any_weaker (λ (e : Entry). is_own_loss k (what e)) (λ (e : Entry). is_loss_for k cause (what e)) log (λ e own. own_loss k cause (what e) own) none)

-- each that the script has is left where the cluster told no loss
pub left_as_named : (script : List ScriptWord) (log : List Entry) (k : ClusterNo) (cause : Cause) → list_any (λ (e : Entry). is_own_loss k (what e)) log ≡ false → is_left script log k cause ≡ has_unused script k cause
left_as_named script log k Place none = sym (none_placed script)
left_as_named script log k (Step n) none = some_left (is_step_word k n) script (count_by (λ (e : Entry). is_step_crash k n (what e)) log) (none_lost_so log k (Step n) none)
left_as_named script log k (Disk n) none = some_left (is_disk_word k n) script (count_by (λ (e : Entry). is_disk_crash k n (what e)) log) (none_lost_so log k (Disk n) none)

-- ---- the words that it has passed

either_less : (a b : Bool) (m n step : ℕ) → m ≤ n → (a || b || nat_le n step) ≡ true → (a || b || nat_le m step) ≡ true
either_less true b m n step less h = refl
either_less false true m n step less h = refl
either_less false false m n step less h = grind (arith, nat_tests)

-- fewer steps have passed no more words
passed_less : (k : ClusterNo) (log : List Entry) (m n : ℕ) (script : List ScriptWord) → m ≤ n → list_all (is_unpassed k log n) script ≡ true → list_all (is_unpassed k log m) script ≡ true
passed_less k log m n script less all = list_all-weaker (is_unpassed k log n) (is_unpassed k log m) by_word script all
  where
    by_word : (w : ScriptWord) → is_unpassed k log n w ≡ true → is_unpassed k log m w ≡ true
    by_word (CrashAt j place) h = refl
    by_word (CrashStep j step) h = either_less (not (same_cluster j k)) (list_any (λ (e : Entry). is_step_crash j step (what e)) log) m n step less h
    by_word (DiskAt j call) h = refl
    by_word (ReturnAt j place) h = refl

-- nor has a step of which no word is left: each gave a loss
passed_left : (k : ClusterNo) (log : List Entry) (steps : ℕ) (script : List ScriptWord) → has_step_left script log k steps ≡ false → list_all (is_unpassed k log steps) script ≡ true → list_all (is_unpassed k log (steps + 1)) script ≡ true
passed_left k log steps script none all = by_lost (list_any (λ (e : Entry). is_step_crash k steps (what e)) log) refl
  where
    by_lost : (b : Bool) → list_any (λ (e : Entry). is_step_crash k steps (what e)) log ≡ b → list_all (is_unpassed k log (steps + 1)) script ≡ true
    by_lost false unlost =
        unpassed_unnamed k log steps script (sym (some_left (is_step_word k steps) script (count_by (λ (e : Entry). is_step_crash k steps (what e)) log) (count_none (λ (e : Entry). is_step_crash k steps (what e)) log unlost)) ∙ none) all
    by_lost true lost = list_all-weaker (is_unpassed k log steps) (is_unpassed k log (steps + 1)) by_word script all
      where
        by_word : (w : ScriptWord) → is_unpassed k log steps w ≡ true → is_unpassed k log (steps + 1) w ≡ true
        by_word (CrashAt j place) h = refl
        by_word (DiskAt j call) h = refl
        by_word (ReturnAt j place) h = refl
        by_word (CrashStep j step) h = by_same (same_cluster j k) refl h
          where
            gave : Bool
            gave = list_any (λ (e : Entry). is_step_crash j step (what e)) log

            further : (c : Bool) → (step == steps) ≡ false → (c || nat_le steps step) ≡ true → (c || nat_le (steps + 1) step) ≡ true
            further true other h = refl
            further false other h = grind (arith, nat_tests)

            by_step : (t : Bool) → (step == steps) ≡ t → j ≡ k → (gave || nat_le steps step) ≡ true → (gave || nat_le (steps + 1) step) ≡ true
            by_step true here same h = or_left gave (nat_le (steps + 1) step) ((λ i. list_any (λ (e : Entry). is_step_crash (same i) (eqb-true step steps here i) (what e)) log) ∙ lost)
            by_step false other same h = further gave other h

            by_same : (s : Bool) → same_cluster j k ≡ s → (not s || gave || nat_le steps step) ≡ true → (not s || gave || nat_le (steps + 1) step) ≡ true
            by_same false other h = refl
            by_same true is h = by_step (step == steps) refl (λ i. record { 0 = eqb-true j.0 k.0 is i }) h

pub passed_next : (b : BusView) (c : ClusterView) → IsUnnamed b c → list_all (is_unpassed c.number b.log c.steps) b.script ≡ true → list_all (is_unpassed c.number b.log (next_count c.steps)) b.script ≡ true
passed_next b c (inl none) all = passed_less c.number b.log (next_count c.steps) (c.steps + 1) b.script (omega arith) (passed_left c.number b.log c.steps b.script none all)
passed_next b c (inr still) all = passed_less c.number b.log (next_count c.steps) c.steps b.script (omega (arith, still)) all

-- ---- a cluster that tells no loss from a place on

-- as many pass then as in the beginning
count_front : (t : Entry → Bool) (n : ℕ) (log : List Entry) → list_any t (drop n log) ≡ false → count_by t log ≡ count_by t (take n log)
count_front t n log none =
    let parts : count_by t (take n log ++ drop n log) ≡ count_by t (take n log) + count_by t (drop n log) = sum_by-append (λ (e : Entry). cond (t e) 1 0) (take n log) (drop n log) in
    let whole : count_by t (take n log ++ drop n log) ≡ count_by t log = ap (count_by t) (take-append-drop n log) in
    let gone = count_none t (drop n log) none in
    omega (arith, parts, whole, gone)

-- so the same words for its steps and its disk calls are left
pub left_kept : (script : List ScriptWord) (log after : List Entry) (k : ClusterNo) (n : ℕ) (cause : Cause) → take n after ≡ take n log → list_any (λ (e : Entry). is_own_loss k (what e)) (drop n log) ≡ false
    → list_any (λ (e : Entry). is_own_loss k (what e)) (drop n after) ≡ false → is_left script after k cause ≡ is_left script log k cause
left_kept script log after k n cause front none still = by_cause cause
  where
    its : Cause → Entry → Bool
    its cause e = is_loss_for k cause (what e)

    untold : (cause : Cause) (xs : List Entry) → list_any (λ (e : Entry). is_own_loss k (what e)) xs ≡ false → list_any (its cause) xs ≡ false
    untold cause xs none = any_weaker (λ (e : Entry). is_own_loss k (what e)) (its cause) xs (λ e none. own_loss k cause (what e) none) none

    same : (cause : Cause) → count_by (its cause) after ≡ count_by (its cause) log
    same cause = count_front (its cause) n after (untold cause (drop n after) still) ∙ ap (count_by (its cause)) front ∙ sym (count_front (its cause) n log (untold cause (drop n log) none))

    by_cause : (cause : Cause) → is_left script after k cause ≡ is_left script log k cause
    by_cause Place = refl
    by_cause (Step m) = ap (λ c. nat_lt c (count_by (is_step_word k m) script)) (same (Step m))
    by_cause (Disk m) = ap (λ c. nat_lt c (count_by (is_disk_word k m) script)) (same (Disk m))
