-- A log of a script has no more losses than the script has words.
use Rattle.std.proofs.Common.{◌≡◌, ℕ, ◌+◌, ◌≤◌, refl, sym, ◌∙◌, arith, List, [], ◌∷◌, ◌++◌, length, length-append, Bool, true, false, cond, true≢false}
use Rattle.std.specs.Prelude.{count_by, filter}
use Rattle.std.proofs.lemmas.List.Sums.{sum_by-append}
use Rattle.t32_base.proofs.Facts.{one_at_most}
use Rattle.sys_text.specs.declared.system.System.{System}
use Rattle.bus_msg.specs.declared.entry.What.{What}
use Rattle.bus_msg.specs.declared.entry.What.TheVariants.{Crash, Return}
use Rattle.bus_msg.specs.declared.entry.Cause.TheVariants.{Place, Step, Disk}
use Rattle.bus_msg.specs.declared.entry.Entry.{Entry}
use Rattle.bus_msg.specs.PlacedAfter.{what}
use Rattle.cert_sched.specs.declared.script.ScriptWord.{ScriptWord}
use Rattle.cert_sched.specs.declared.script.ScriptWord.TheVariants.{CrashAt, CrashStep, DiskAt, ReturnAt}
use Rattle.cert_sched.specs.Looked.{Looked, at_start, gives_nothing, gives, goes_on, none_reached, is_bus_word, is_given, is_reached, waits_for_no_word, waits_for_words}
use Rattle.bus_order.specs.View.{BusView, KeepsScript}
use Rattle.bus_order.proofs.WordsLaws.{length-without}
use Rattle.script_laws.specs.Crashes.{is_loss, crashes}
use Rattle.script_laws.proofs.Counts.{count-snoc, count-cons, counted_as}
use Rattle.script_laws.proofs.LossKeys.{is_key, key_of, keys_of, keys_of_words, counted_words, counted_crashes, few_keys}

-- ---- entries that words for a place gave

abbrev given_in : List Entry → ℕ
given_in log = count_by (λ (e : Entry). is_given (what e)) log

-- an entry that a word gave comes by a look at that word
given_waits : (w : What) → is_given w ≡ true → (waits_for_no_word w ≡ false) × (waits_for_words w ≡ false)
given_waits (Crash k Place) h = (refl, refl)
given_waits (Crash k (Step n)) h = absurd (true≢false (sym h))
given_waits (Crash k (Disk n)) h = absurd (true≢false (sym h))
given_waits (Return k) h = (refl, refl)
given_waits _ h = absurd (true≢false (sym h))

-- one more entry that no word for a place gave
same_given : (log : List Entry) (e : Entry) (waits : Bool) → (is_given (what e) ≡ true → waits ≡ false) → waits ≡ true → given_in (log ++ e ∷ []) ≡ given_in log
same_given log e waits apart is = by_test (is_given (what e)) refl
  where
    by_test : (b : Bool) → is_given (what e) ≡ b → given_in (log ++ e ∷ []) ≡ given_in log
    by_test true given = absurd (true≢false (sym is ∙ apart given))
    by_test false given =
        let more = count-snoc (λ (e : Entry). is_given (what e)) log e in
        let none = counted_as (λ (e : Entry). is_given (what e)) e false given in
        omega (arith, more, none)

-- with the words that are still to be looked at they are no more than the words for a place
looked_within : (system : System) (script : List ScriptWord) (log : List Entry) (left : List ScriptWord) → Looked system script log left → given_in log + length left ≤ length (filter is_bus_word script)
looked_within system script _ _ at_start = omega arith
looked_within system script _ _ (gives_nothing {log} {left} looked w first nothing) =
    let before = looked_within system script log left looked in
    let one = length-without (is_reached (length log)) left w first in
    omega (arith, before, one)
looked_within system script _ _ (gives {log} {left} looked w e first given) =
    let before = looked_within system script log left looked in
    let one = length-without (is_reached (length log)) left w first in
    let more = count-snoc (λ (e : Entry). is_given (what e)) log e in
    let most = one_at_most (is_given (what e)) in
    omega (arith, before, one, more, most)
looked_within system script _ _ (goes_on {log} {left} looked e alone) =
    let before = looked_within system script log left looked in
    let same = same_given log e (waits_for_no_word (what e)) (λ given. (given_waits (what e) given).0) alone in
    omega (arith, before, same)
looked_within system script _ _ (none_reached {log} {left} looked e waits none) =
    let before = looked_within system script log left looked in
    let same = same_given log e (waits_for_words (what e)) (λ given. (given_waits (what e) given).1) waits in
    omega (arith, before, same)

-- ---- the words

-- each names a place, or a step or a disk call
words_parted : (words : List ScriptWord) → length (keys_of_words words) + length (filter is_bus_word words) ≡ length words
words_parted [] = refl
words_parted (w ∷ words) = by_word w (words_parted words)
  where
    by_word : (w : ScriptWord) → length (keys_of_words words) + length (filter is_bus_word words) ≡ length words → length (keys_of_words (w ∷ words)) + length (filter is_bus_word (w ∷ words)) ≡ length (w ∷ words)
    by_word (CrashAt k place) more = omega (arith, more)
    by_word (CrashStep k step) more = omega (arith, more)
    by_word (DiskAt k call) more = omega (arith, more)
    by_word (ReturnAt k place) more = omega (arith, more)

-- ---- the losses of a log

-- each is given by a word for a place, or names a step or a disk call
loss_parts : (w : What) → cond (is_loss w) 1 0 ≤ cond (is_given w) 1 0 + length (key_of w)
loss_parts (Crash k (Step n)) = omega arith
loss_parts (Crash k (Disk n)) = omega arith
loss_parts _ = omega arith

crash_parts : (log : List Entry) → crashes log ≤ given_in log + length (keys_of log)
crash_parts [] = omega arith
crash_parts (e ∷ log) =
    let later = crash_parts log in
    let here = loss_parts (what e) in
    let a = count-cons (λ (e : Entry). is_loss (what e)) e log in
    let b = count-cons (λ (e : Entry). is_given (what e)) e log in
    let c = length-append (key_of (what e)) (keys_of log) in
    omega (arith, later, here, a, b, c)

-- ---- a bus

-- the words for a step or a disk call that are left, and the losses there, are no more than such words of the script
keys_within : (b : BusView) → KeepsScript b → length (keys_of_words b.left) + length (keys_of b.log) ≤ length (keys_of_words b.script)
keys_within b keeps =
    let all = few_keys (keys_of_words b.left ++ keys_of b.log) (keys_of_words b.script) (λ k cause.
    let parts : count_by (is_key k cause) (keys_of_words b.left ++ keys_of b.log) ≡ count_by (is_key k cause) (keys_of_words b.left) + count_by (is_key k cause) (keys_of b.log) = sum_by-append (λ p. cond (is_key k cause p) 1 0) (keys_of_words b.left) (keys_of b.log) in
    let x = counted_words b.left k cause in
    let y = counted_words b.script k cause in
    let z = counted_crashes b.log k cause in
    let used = keeps.used k cause in
    omega (arith, parts, x, y, z, used)) in
    let long = length-append (keys_of_words b.left) (keys_of b.log) in
    omega (arith, all, long)

-- no more losses than words
pub crashes_within : (b : BusView) → KeepsScript b → crashes b.log ≤ length b.script
crashes_within b keeps =
    let each = crash_parts b.log in
    let places = looked_within b.system b.script b.log (filter is_bus_word b.left) keeps.looked in
    let keys = keys_within b keeps in
    let all = words_parted b.script in
    omega (arith, each, places, keys, all)

-- nor with those that are left
pub crashes_and_left : (b : BusView) → KeepsScript b → crashes b.log + length b.left ≤ length b.script
crashes_and_left b keeps =
    let each = crash_parts b.log in
    let places = looked_within b.system b.script b.log (filter is_bus_word b.left) keeps.looked in
    let keys = keys_within b keeps in
    let all = words_parted b.script in
    let these = words_parted b.left in
    omega (arith, each, places, keys, all, these)
