-- The words for a step that a cluster has not passed, as its log and its steps grow.
use Rattle.std.proofs.Common.{◌≡◌, ℕ, ◌+◌, refl, sym, ◌∙◌, ap, arith, List, [], ◌∷◌, ◌++◌, Bool, true, false, not, ◌&&◌, ◌||◌, eqb, eqb-true, eq-eqb, true≢false}
use Rattle.std.specs.Prelude.{nat_le}
use Rattle.std.specs.List.{list_any, list_all}
use Rattle.std.proofs.lemmas.Bool.{and_parts, and_from, or_parts}
use Rattle.std.proofs.lemmas.Bool.Decides.{nat_tests}
use Rattle.std.proofs.lemmas.List.Folds.{list_any-append}
use Rattle.t32_base.specs.declared.process.ClusterNo.{ClusterNo}
use Rattle.bus_msg.specs.declared.entry.Cause.TheVariants.{Step}
use Rattle.bus_msg.specs.declared.entry.Entry.{Entry}
use Rattle.bus_msg.specs.Places.{same_cluster}
use Rattle.bus_msg.specs.PlacedAfter.{what}
use Rattle.cert_sched.specs.declared.script.ScriptWord.{ScriptWord}
use Rattle.cert_sched.specs.declared.script.ScriptWord.TheVariants.{CrashAt, CrashStep, DiskAt, ReturnAt}
use Rattle.cert_sched.specs.Losses.{is_step_crash, is_step_word}
use Rattle.cert_sched.proofs.ListLaws.{list_all-weaker}
use Rattle.bus_order.specs.Script.{has_unused, is_unpassed}
use Rattle.bus_order.specs.View.{BusView, KeepsScript}
use Rattle.script_laws.proofs.Counts.{any_counted, count_none, count_some}

-- ---- at boot

pub unpassed_at_boot : (k : ClusterNo) (w : ScriptWord) → is_unpassed k [] 0 w ≡ true
unpassed_at_boot k (CrashAt j place) = refl
unpassed_at_boot k (CrashStep j step) = by_test (not (same_cluster j k))
  where
    none : nat_le 0 step ≡ true
    none = grind (arith, nat_tests)

    by_test : (b : Bool) → (b || false || nat_le 0 step) ≡ true
    by_test true = refl
    by_test false = none
unpassed_at_boot k (DiskAt j call) = refl
unpassed_at_boot k (ReturnAt j place) = refl

pub all_at_boot : (k : ClusterNo) (script : List ScriptWord) → list_all (is_unpassed k [] 0) script ≡ true
all_at_boot k [] = refl
all_at_boot k (w ∷ script) = and_from (is_unpassed k [] 0 w) (list_all (is_unpassed k [] 0) script) (unpassed_at_boot k w) (all_at_boot k script)

-- ---- a longer log

or_more : (a b c d : Bool) → (a || b || d) ≡ true → (a || (b || c) || d) ≡ true
or_more true b c d h = refl
or_more false true c d h = refl
or_more false false true d h = refl
or_more false false false d h = h

pub unpassed_longer : (k : ClusterNo) (log more : List Entry) (steps : ℕ) (w : ScriptWord) → is_unpassed k log steps w ≡ true → is_unpassed k (log ++ more) steps w ≡ true
unpassed_longer k log more steps (CrashAt j place) h = refl
unpassed_longer k log more steps (CrashStep j step) h =
    ap (λ b. not (same_cluster j k) || b || nat_le steps step) (list_any-append (λ (e : Entry). is_step_crash j step (what e)) log more)
    ∙ or_more (not (same_cluster j k)) (list_any (λ (e : Entry). is_step_crash j step (what e)) log) (list_any (λ (e : Entry). is_step_crash j step (what e)) more) (nat_le steps step) h
unpassed_longer k log more steps (DiskAt j call) h = refl
unpassed_longer k log more steps (ReturnAt j place) h = refl

pub all_longer : (k : ClusterNo) (log more : List Entry) (steps : ℕ) (script : List ScriptWord) → list_all (is_unpassed k log steps) script ≡ true → list_all (is_unpassed k (log ++ more) steps) script ≡ true
all_longer k log more steps script all = list_all-weaker (is_unpassed k log steps) (is_unpassed k (log ++ more) steps) (unpassed_longer k log more steps) script all

-- ---- one step more

-- a word that does not name the step, or gave a loss
unpassed_next : (k : ClusterNo) (log : List Entry) (steps : ℕ) (w : ScriptWord) → is_step_word k steps w ≡ false → is_unpassed k log steps w ≡ true → is_unpassed k log (steps + 1) w ≡ true
unpassed_next k log steps (CrashAt j place) other h = refl
unpassed_next k log steps (CrashStep j step) other h = by_tests (same_cluster j k) (list_any (λ (e : Entry). is_step_crash j step (what e)) log) refl other h
  where
    by_tests : (a b : Bool) → same_cluster j k ≡ a → (a && eqb step steps) ≡ false → (not a || b || nat_le steps step) ≡ true → (not a || b || nat_le (steps + 1) step) ≡ true
    by_tests false b is other h = refl
    by_tests true true is other h = refl
    by_tests true false is other h =
        let apart : step ≡ steps → ⊥ = λ e. true≢false (sym (eq-eqb step steps e) ∙ other) in
        grind (arith, nat_tests)
unpassed_next k log steps (DiskAt j call) other h = refl
unpassed_next k log steps (ReturnAt j place) other h = refl

all_next : (k : ClusterNo) (log : List Entry) (steps : ℕ) (script : List ScriptWord) → list_any (is_step_word k steps) script ≡ false → list_all (is_unpassed k log steps) script ≡ true → list_all (is_unpassed k log (steps + 1)) script ≡ true
all_next k log steps [] none all = refl
all_next k log steps (w ∷ script) none all =
    let other = or_parts (is_step_word k steps w) (list_any (is_step_word k steps) script) none in
    let parts = and_parts (is_unpassed k log steps w) (list_all (is_unpassed k log steps) script) all in
    and_from (is_unpassed k log (steps + 1) w) (list_all (is_unpassed k log (steps + 1)) script) (unpassed_next k log steps w other.0 parts.0) (all_next k log steps script other.1 parts.1)

-- a script that does not name the step
pub unpassed_unnamed : (k : ClusterNo) (log : List Entry) (steps : ℕ) (script : List ScriptWord) → has_unused script k (Step steps) ≡ false → list_all (is_unpassed k log steps) script ≡ true → list_all (is_unpassed k log (steps + 1)) script ≡ true
unpassed_unnamed k log steps script none all = all_next k log steps script none all

-- a word that gave a loss at the step, where one did
unpassed_used : (k : ClusterNo) (log : List Entry) (steps : ℕ) (w : ScriptWord) → list_any (λ (e : Entry). is_step_crash k steps (what e)) log ≡ true → is_unpassed k log steps w ≡ true → is_unpassed k log (steps + 1) w ≡ true
unpassed_used k log steps w lost h = by_test (is_step_word k steps w) refl
  where
    named : (w : ScriptWord) → is_step_word k steps w ≡ true → is_unpassed k log (steps + 1) w ≡ true
    named (CrashAt j place) is = refl
    named (CrashStep j step) is =
        let parts = and_parts (same_cluster j k) (eqb step steps) is in
        let cluster : j ≡ k = λ i. record { 0 = eqb-true j.0 k.0 parts.0 i } in
        let there : list_any (λ (e : Entry). is_step_crash j step (what e)) log ≡ true = (λ i. list_any (λ (e : Entry). is_step_crash (cluster i) (eqb-true step steps parts.1 i) (what e)) log) ∙ lost in
        or_middle (not (same_cluster j k)) (list_any (λ (e : Entry). is_step_crash j step (what e)) log) (nat_le (steps + 1) step) there
      where
        or_middle : (a b c : Bool) → b ≡ true → (a || b || c) ≡ true
        or_middle true b c h = refl
        or_middle false true c h = refl
        or_middle false false c h = absurd (true≢false (sym h))
    named (DiskAt j call) is = refl
    named (ReturnAt j place) is = refl

    by_test : (b : Bool) → is_step_word k steps w ≡ b → is_unpassed k log (steps + 1) w ≡ true
    by_test true is = named w is
    by_test false is = unpassed_next k log steps w is h

-- a script of which no word for the step is left
pub unpassed_unused : (b : BusView) (k : ClusterNo) (steps : ℕ) → KeepsScript b → has_unused b.left k (Step steps) ≡ false → list_all (is_unpassed k b.log steps) b.script ≡ true → list_all (is_unpassed k b.log (steps + 1)) b.script ≡ true
unpassed_unused b k steps keeps none all = by_word (list_any (is_step_word k steps) b.script) refl
  where
    by_word : (c : Bool) → list_any (is_step_word k steps) b.script ≡ c → list_all (is_unpassed k b.log (steps + 1)) b.script ≡ true
    by_word true named =
        let some = count_some (is_step_word k steps) b.script named in
        let zero_left = count_none (is_step_word k steps) b.left none in
        let used = keeps.used k (Step steps) in
        let lost = any_counted (λ (e : Entry). is_step_crash k steps (what e)) b.log (omega (arith, some, zero_left, used)) in
        list_all-weaker (is_unpassed k b.log steps) (is_unpassed k b.log (steps + 1)) (λ w h. unpassed_used k b.log steps w lost h) b.script all
    by_word false unnamed = all_next k b.log steps b.script unnamed all
