-- The losses at a step or a disk call in a log, and the words for them in a script, as the clusters and the causes that they name.
use Rattle.std.proofs.Common.{◌≡◌, ℕ, ◌+◌, ◌≤◌, refl, sym, ◌∙◌, ap, arith, List, [], ◌∷◌, ◌++◌, length, Bool, true, false, cond, ◌&&◌, eqb, eqb-true, eq-eqb, true≢false}
use Rattle.std.specs.Prelude.{count_by}
use Rattle.std.specs.List.{flat_map}
use Rattle.std.proofs.Math.Bool.{and-false}
use Rattle.std.proofs.lemmas.Bool.{and_parts, and_from}
use Rattle.std.proofs.lemmas.List.Sums.{sum_by-append}
use Rattle.t32_base.specs.declared.process.ClusterNo.{ClusterNo}
use Rattle.proc_state.specs.Mail.{without_first}
use Rattle.bus_msg.specs.declared.entry.What.{What}
use Rattle.bus_msg.specs.declared.entry.What.TheVariants.{Crash}
use Rattle.bus_msg.specs.declared.entry.Cause.{Cause}
use Rattle.bus_msg.specs.declared.entry.Cause.TheVariants.{Place, Step, Disk}
use Rattle.bus_msg.specs.declared.entry.Entry.{Entry}
use Rattle.bus_msg.specs.Places.{same_cluster}
use Rattle.bus_msg.specs.PlacedAfter.{what}
use Rattle.cert_sched.specs.declared.script.ScriptWord.{ScriptWord}
use Rattle.cert_sched.specs.declared.script.ScriptWord.TheVariants.{CrashAt, CrashStep, DiskAt, ReturnAt}
use Rattle.cert_sched.specs.Losses.{is_step, is_disk}
use Rattle.bus_order.specs.Script.{is_loss_for, is_word_for}
use Rattle.bus_order.proofs.Keeping.{no_loss_for}
use Rattle.bus_order.proofs.Losing.{no_place_loss}
use Rattle.bus_order.proofs.WordsLaws.{count-without, length-without}
use Rattle.script_laws.proofs.Counts.{count-cons, counted_as, found_some, zero_added}

abbrev pub is_cause : Cause → Cause → Bool
is_cause Place Place = true
is_cause Place (Step m) = false
is_cause Place (Disk m) = false
is_cause (Step n) cause = is_step n cause
is_cause (Disk n) cause = is_disk n cause

abbrev pub is_key : ClusterNo → Cause → ClusterNo × Cause → Bool
is_key k cause x = same_cluster x.0 k && is_cause cause x.1

-- what a word names, where it is one for a step or a disk call
abbrev pub key_of_word : ScriptWord → List (ClusterNo × Cause)
key_of_word (CrashAt j place) = []
key_of_word (CrashStep j step) = (j, Step step) ∷ []
key_of_word (DiskAt j call) = (j, Disk call) ∷ []
key_of_word (ReturnAt j place) = []

-- what an entry names, where it is a loss at a step or a disk call
abbrev pub key_of : What → List (ClusterNo × Cause)
key_of (Crash j Place) = []
key_of (Crash j (Step n)) = (j, Step n) ∷ []
key_of (Crash j (Disk n)) = (j, Disk n) ∷ []
key_of _ = []

abbrev pub keys_of_words : List ScriptWord → List (ClusterNo × Cause)
keys_of_words words = flat_map key_of_word words

abbrev pub keys_of : List Entry → List (ClusterNo × Cause)
keys_of log = flat_map (λ (e : Entry). key_of (what e)) log

-- ---- how many name the same

counted : {X : Type 0} (keys : X → List (ClusterNo × Cause)) (t : X → Bool) (k : ClusterNo) (cause : Cause) → ((x : X) → cond (t x) 1 0 ≡ count_by (is_key k cause) (keys x)) → (xs : List X) → count_by t xs ≡ count_by (is_key k cause) (flat_map keys xs)
counted keys t k cause each [] = refl
counted keys t k cause each (x ∷ xs) =
    let here = each x in
    let later = counted keys t k cause each xs in
    let one = count-cons t x xs in
    let parts : count_by (is_key k cause) (keys x ++ flat_map keys xs) ≡ count_by (is_key k cause) (keys x) + count_by (is_key k cause) (flat_map keys xs) = sum_by-append (λ p. cond (is_key k cause p) 1 0) (keys x) (flat_map keys xs) in
    omega (arith, here, later, one, parts)

as_said : {a b : Bool} → a ≡ b → ◌≡◌ {A = ℕ} (cond a 1 0) (cond b 1 0)
as_said is = ap (λ (b : Bool). cond b 1 0) is

one_key : (k : ClusterNo) (cause : Cause) (x : ClusterNo × Cause) {b : Bool} → b ≡ is_key k cause x → cond b 1 0 ≡ count_by (is_key k cause) (x ∷ [])
one_key k cause x is = as_said is ∙ sym (zero_added (cond (is_key k cause x) 1 0))

pub counted_words : (words : List ScriptWord) (k : ClusterNo) (cause : Cause) → count_by (is_word_for k cause) words ≡ count_by (is_key k cause) (keys_of_words words)
counted_words words k cause = counted key_of_word (is_word_for k cause) k cause (each cause) words
  where
    each : (cause : Cause) (w : ScriptWord) → cond (is_word_for k cause w) 1 0 ≡ count_by (is_key k cause) (key_of_word w)
    each Place (CrashAt j place) = refl
    each Place (CrashStep j step) = one_key k Place (j, Step step) (sym (and-false (same_cluster j k)))
    each Place (DiskAt j call) = one_key k Place (j, Disk call) (sym (and-false (same_cluster j k)))
    each Place (ReturnAt j place) = refl
    each (Step n) (CrashAt j place) = refl
    each (Step n) (CrashStep j step) = one_key k (Step n) (j, Step step) refl
    each (Step n) (DiskAt j call) = one_key k (Step n) (j, Disk call) (sym (and-false (same_cluster j k)))
    each (Step n) (ReturnAt j place) = refl
    each (Disk n) (CrashAt j place) = refl
    each (Disk n) (CrashStep j step) = one_key k (Disk n) (j, Step step) (sym (and-false (same_cluster j k)))
    each (Disk n) (DiskAt j call) = one_key k (Disk n) (j, Disk call) refl
    each (Disk n) (ReturnAt j place) = refl

pub counted_crashes : (log : List Entry) (k : ClusterNo) (cause : Cause) → count_by (λ (e : Entry). is_loss_for k cause (what e)) log ≡ count_by (is_key k cause) (keys_of log)
counted_crashes log k cause = counted (λ (e : Entry). key_of (what e)) (λ (e : Entry). is_loss_for k cause (what e)) k cause (λ e. each (what e)) log
  where
    at_step : (cause : Cause) (j : ClusterNo) (m : ℕ) → is_loss_for k cause (Crash j (Step m)) ≡ is_key k cause (j, Step m)
    at_step Place j m = sym (and-false (same_cluster j k))
    at_step (Step n) j m = refl
    at_step (Disk n) j m = refl

    at_call : (cause : Cause) (j : ClusterNo) (m : ℕ) → is_loss_for k cause (Crash j (Disk m)) ≡ is_key k cause (j, Disk m)
    at_call Place j m = sym (and-false (same_cluster j k))
    at_call (Step n) j m = refl
    at_call (Disk n) j m = refl

    each : (w : What) → cond (is_loss_for k cause w) 1 0 ≡ count_by (is_key k cause) (key_of w)
    each (Crash j Place) = as_said (no_place_loss k j cause)
    each (Crash j (Step m)) = one_key k cause (j, Step m) (at_step cause j m)
    each (Crash j (Disk m)) = one_key k cause (j, Disk m) (at_call cause j m)
    each w = as_said (no_loss_for k cause w refl)

-- ---- no more of each, so no more in all

same_self : (cause : Cause) → is_cause cause cause ≡ true
same_self Place = refl
same_self (Step n) = eq-eqb n n refl
same_self (Disk n) = eq-eqb n n refl

same_cause : (first second : Cause) → is_cause first second ≡ true → second ≡ first
same_cause Place Place same = refl
same_cause Place (Step m) same = absurd (true≢false (sym same))
same_cause Place (Disk m) same = absurd (true≢false (sym same))
same_cause (Step n) Place same = absurd (true≢false (sym same))
same_cause (Step n) (Step m) same = ap Step (eqb-true m n same)
same_cause (Step n) (Disk m) same = absurd (true≢false (sym same))
same_cause (Disk n) Place same = absurd (true≢false (sym same))
same_cause (Disk n) (Step m) same = absurd (true≢false (sym same))
same_cause (Disk n) (Disk m) same = ap Disk (eqb-true m n same)

same_key : (x y : ClusterNo × Cause) (k : ClusterNo) (cause : Cause) → is_key x.0 x.1 y ≡ true → is_key k cause y ≡ is_key k cause x
same_key x y k cause same =
    let parts = and_parts (eqb (y.0).0 (x.0).0) (is_cause x.1 y.1) same in
    ap (λ a. eqb a k.0 && is_cause cause y.1) (eqb-true (y.0).0 (x.0).0 parts.0) ∙ ap (λ c. eqb (x.0).0 k.0 && is_cause cause c) (same_cause x.1 y.1 parts.1)

-- a list that names nothing more often than another is no longer
pub few_keys : (xs ys : List (ClusterNo × Cause)) → ((k : ClusterNo) (cause : Cause) → count_by (is_key k cause) xs ≤ count_by (is_key k cause) ys) → length xs ≤ length ys
few_keys [] ys each = omega arith
few_keys (x ∷ xs) ys each =
    let here : is_key x.0 x.1 x ≡ true = and_from (eqb (x.0).0 (x.0).0) (is_cause x.1 x.1) (eq-eqb (x.0).0 (x.0).0 refl) (same_self x.1) in
    let one = counted_as (is_key x.0 x.1) x true here in
    let all = count-cons (is_key x.0 x.1) x xs in
    let there = found_some (is_key x.0 x.1) ys (let e = each x.0 x.1 in omega (arith, one, all, e)) in
    let fewer = length-without (is_key x.0 x.1) ys there.found there.first in
    let later = few_keys xs (without_first (is_key x.0 x.1) ys) (λ k cause.
    let a = count-without (is_key x.0 x.1) (is_key k cause) ys there.found there.first in
    let b = count-cons (is_key k cause) x xs in
    let c = each k cause in
    let d = counted_as (is_key k cause) there.found (is_key k cause x) (same_key x there.found k cause there.passes) in
    omega (arith, a, b, c, d)) in
    omega (arith, fewer, later)
