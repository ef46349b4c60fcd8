-- Each loss in a log of a script is that of a cluster that a word of the script loses.
use Rattle.std.proofs.Common.{◌≡◌, refl, sym, ◌∙◌, ap, subst, arith, List, [], ◌∷◌, ◌++◌, Bool, true, false, cond, ◌&&◌, ◌||◌, eq-eqb, Some, None, unwrap_or, true≢false}
use Rattle.std.specs.Prelude.{filter, length}
use Rattle.std.specs.List.{list_any, list_all}
use Rattle.std.specs.Option.{option_map_or}
use Rattle.std.proofs.lemmas.Bool.{and_from, and_parts, or_left, or_right}
use Rattle.std.proofs.lemmas.List.Folds.{list_all-append}
use Rattle.t32_base.specs.declared.process.ClusterNo.{ClusterNo}
use Rattle.sys_text.specs.declared.system.System.{System}
use Rattle.bus_msg.specs.declared.entry.What.{What}
use Rattle.bus_msg.specs.declared.entry.What.TheVariants.{Crash, Return}
use Rattle.bus_msg.specs.declared.entry.Cause.{Cause}
use Rattle.bus_msg.specs.declared.entry.Cause.TheVariants.{Place, Step, Disk}
use Rattle.bus_msg.specs.declared.entry.Entry.{Entry}
use Rattle.bus_msg.specs.Places.{Places, lives_in, is_lost_in, same_cluster}
use Rattle.bus_msg.specs.PlacedAfter.{what}
use Rattle.cert_sched.specs.declared.script.ScriptWord.{ScriptWord}
use Rattle.cert_sched.specs.declared.script.ScriptWord.TheVariants.{CrashAt, CrashStep, DiskAt, ReturnAt}
use Rattle.cert_sched.specs.Schedule.{placement}
use Rattle.cert_sched.specs.Told.{cluster_lost}
use Rattle.cert_sched.specs.Scripted.{is_lost_by, loses}
use Rattle.cert_sched.specs.Looked.{Looked, at_start, gives_nothing, gives, goes_on, none_reached, given_by, is_bus_word, is_reached, waits_for_no_word, waits_for_words}
use Rattle.bus_order.specs.Script.{is_loss_for, is_word_for}
use Rattle.bus_order.specs.View.{BusView, KeepsScript}
use Rattle.script_laws.proofs.Counts.{any_counted, count_some}
use Rattle.script_laws.proofs.LookedOn.{any-within, found_any}

-- ---- lists

any_weaker : {X : Type 0} (t u : X → Bool) → ((x : X) → t x ≡ true → u x ≡ true) → (xs : List X) → list_any t xs ≡ true → list_any u xs ≡ true
any_weaker t u within [] some = some
any_weaker t u within (x ∷ xs) some = by_test (t x) refl some (any_weaker t u within xs)
  where
    by_test : (b : Bool) → t x ≡ b → (b || list_any t xs) ≡ true → (list_any t xs ≡ true → list_any u xs ≡ true) → (u x || list_any u xs) ≡ true
    by_test true is some more = or_left (u x) (list_any u xs) (within x is)
    by_test false is some more = or_right (u x) (list_any u xs) (more some)

any_filtered : {X : Type 0} (t u : X → Bool) (xs : List X) → list_any t (filter u xs) ≡ true → list_any t xs ≡ true
any_filtered t u [] some = some
any_filtered t u (x ∷ xs) some = by_test (u x) some (any_filtered t u xs)
  where
    by_here : (b : Bool) → (b || list_any t (filter u xs)) ≡ true → (list_any t (filter u xs) ≡ true → list_any t xs ≡ true) → (b || list_any t xs) ≡ true
    by_here true h more = refl
    by_here false h more = more h

    by_test : (b : Bool) → list_any t (cond b (x ∷ filter u xs) (filter u xs)) ≡ true → (list_any t (filter u xs) ≡ true → list_any t xs ≡ true) → (t x || list_any t xs) ≡ true
    by_test true h more = by_here (t x) h more
    by_test false h more = or_right (t x) (list_any t xs) (more h)

all_more : {X : Type 0} (t : X → Bool) (xs : List X) (x : X) → list_all t xs ≡ true → t x ≡ true → list_all t (xs ++ x ∷ []) ≡ true
all_more t xs x all here = list_all-append t xs (x ∷ []) ∙ and_from (list_all t xs) (t x && true) all (and_from (t x) true here refl)

all_of_two : {X : Type 0} (t u v : X → Bool) → ((x : X) → t x ≡ true → u x ≡ true → v x ≡ true) → (xs : List X) → list_all t xs ≡ true → list_all u xs ≡ true → list_all v xs ≡ true
all_of_two t u v both [] first second = refl
all_of_two t u v both (x ∷ xs) first second =
    let here = and_parts (t x) (list_all t xs) first in
    let there = and_parts (u x) (list_all u xs) second in
    and_from (v x) (list_all v xs) (both x here.0 there.0) (all_of_two t u v both xs here.1 there.1)

-- ---- at a place of the log

-- a loss at a place is that of a cluster that a word loses
abbrev is_worded_place : List ScriptWord → What → Bool
is_worded_place script (Crash k Place) = is_lost_by script k
is_worded_place script (Crash k (Step n)) = true
is_worded_place script (Crash k (Disk n)) = true
is_worded_place script _ = true

-- and one at a step or a disk call
abbrev is_worded_number : List ScriptWord → What → Bool
is_worded_number script (Crash k Place) = true
is_worded_number script (Crash k (Step n)) = is_lost_by script k
is_worded_number script (Crash k (Disk n)) = is_lost_by script k
is_worded_number script _ = true

-- the words that are left are words of the script
pub left_in : (system : System) (script : List ScriptWord) (test : ScriptWord → Bool) (log : List Entry) (left : List ScriptWord) → Looked system script log left → list_any test left ≡ true → list_any test script ≡ true
left_in system script test _ _ at_start some = any_filtered test is_bus_word script some
left_in system script test _ _ (gives_nothing {log} {left} looked w first nothing) some = left_in system script test log left looked (any-within (is_reached (length log)) test left some)
left_in system script test _ _ (gives {log} {left} looked w e first given) some = left_in system script test log left looked (any-within (is_reached (length log)) test left some)
left_in system script test _ _ (goes_on {log} {left} looked e alone) some = left_in system script test log left looked some
left_in system script test _ _ (none_reached {log} {left} looked e waits none) some = left_in system script test log left looked some

given_worded : (script : List ScriptWord) (places : Places) (w : ScriptWord) (v : What) → given_by places w ≡ Some v → ((k : ClusterNo) → loses k w ≡ true → is_lost_by script k ≡ true) → is_worded_place script v ≡ true
given_worded script places (CrashAt j place) v given worded = by_test (lives_in places j) given
  where
    by_test : (b : Bool) → cond b (Some (Crash j Place)) None ≡ Some v → is_worded_place script v ≡ true
    by_test true e = let same : Crash j Place ≡ v = ap (λ o. unwrap_or o v) e in subst (λ v. is_worded_place script v ≡ true) same (worded j (eq-eqb j.0 j.0 refl))
    by_test false e = cc
given_worded script places (CrashStep j step) v given worded = cc
given_worded script places (DiskAt j call) v given worded = cc
given_worded script places (ReturnAt j place) v given worded = by_test (is_lost_in places j) given
  where
    by_test : (b : Bool) → cond b (Some (Return j)) None ≡ Some v → is_worded_place script v ≡ true
    by_test true e = let same : Return j ≡ v = ap (λ o. unwrap_or o v) e in subst (λ v. is_worded_place script v ≡ true) same refl
    by_test false e = cc

alone_worded : (script : List ScriptWord) (w : What) → waits_for_no_word w ≡ true → is_worded_place script w ≡ true
alone_worded script (Crash k Place) h = absurd (true≢false (sym h))
alone_worded script (Crash k (Step n)) h = refl
alone_worded script (Crash k (Disk n)) h = refl
alone_worded script _ h = refl

waits_worded : (script : List ScriptWord) (w : What) → waits_for_words w ≡ true → is_worded_place script w ≡ true
waits_worded script (Crash k cause) h = absurd (true≢false (sym h))
waits_worded script _ h = refl

places_worded : (system : System) (script : List ScriptWord) (log : List Entry) (left : List ScriptWord) → Looked system script log left → list_all (λ (e : Entry). is_worded_place script (what e)) log ≡ true
places_worded system script _ _ at_start = refl
places_worded system script _ _ (gives_nothing {log} {left} looked w first nothing) = places_worded system script log left looked
places_worded system script _ _ (gives {log} {left} looked w e first given) =
    all_more (λ (e : Entry). is_worded_place script (what e)) log e (places_worded system script log left looked)
    (given_worded script (placement system log) w (what e) given
    (λ k is. left_in system script (loses k) log left looked (found_any (is_reached (length log)) (loses k) left w first is)))
places_worded system script _ _ (goes_on {log} {left} looked e alone) = all_more (λ (e : Entry). is_worded_place script (what e)) log e (places_worded system script log left looked) (alone_worded script (what e) alone)
places_worded system script _ _ (none_reached {log} {left} looked e waits none) = all_more (λ (e : Entry). is_worded_place script (what e)) log e (places_worded system script log left looked) (waits_worded script (what e) waits)

-- ---- at a step or a disk call

word_loses : (k : ClusterNo) (cause : Cause) (w : ScriptWord) → is_word_for k cause w ≡ true → loses k w ≡ true
word_loses k Place w h = absurd (true≢false (sym h))
word_loses k (Step n) (CrashAt j place) h = absurd (true≢false (sym h))
word_loses k (Step n) (CrashStep j step) h = (and_parts (same_cluster j k) _ h).0
word_loses k (Step n) (DiskAt j call) h = absurd (true≢false (sym h))
word_loses k (Step n) (ReturnAt j place) h = absurd (true≢false (sym h))
word_loses k (Disk n) (CrashAt j place) h = absurd (true≢false (sym h))
word_loses k (Disk n) (CrashStep j step) h = absurd (true≢false (sym h))
word_loses k (Disk n) (DiskAt j call) h = (and_parts (same_cluster j k) _ h).0
word_loses k (Disk n) (ReturnAt j place) h = absurd (true≢false (sym h))

-- where such a loss stands the script has its word
lost_worded : (b : BusView) → KeepsScript b → (k : ClusterNo) (cause : Cause) → list_any (λ (e : Entry). is_loss_for k cause (what e)) b.log ≡ true → is_lost_by b.script k ≡ true
lost_worded b keeps k cause some =
    let used = keeps.used k cause in
    let one = count_some (λ (e : Entry). is_loss_for k cause (what e)) b.log some in
    any_weaker (is_word_for k cause) (loses k) (word_loses k cause) b.script (any_counted (is_word_for k cause) b.script (omega (arith, used, one)))

numbers_worded : (script : List ScriptWord) (log : List Entry) → ((k : ClusterNo) (cause : Cause) → list_any (λ (e : Entry). is_loss_for k cause (what e)) log ≡ true → is_lost_by script k ≡ true)
    → list_all (λ (e : Entry). is_worded_number script (what e)) log ≡ true
numbers_worded script [] worded = refl
numbers_worded script (e ∷ log) worded =
    and_from (is_worded_number script (what e)) (list_all (λ (e : Entry). is_worded_number script (what e)) log)
    (by_what (what e) (λ k cause is. worded k cause (or_left (is_loss_for k cause (what e)) _ is)))
    (numbers_worded script log (λ k cause some. worded k cause (or_right (is_loss_for k cause (what e)) _ some)))
  where
    by_what : (w : What) → ((k : ClusterNo) (cause : Cause) → is_loss_for k cause w ≡ true → is_lost_by script k ≡ true) → is_worded_number script w ≡ true
    by_what (Crash k Place) worded = refl
    by_what (Crash k (Step n)) worded = worded k (Step n) (and_from (same_cluster k k) _ (eq-eqb k.0 k.0 refl) (eq-eqb n n refl))
    by_what (Crash k (Disk n)) worded = worded k (Disk n) (and_from (same_cluster k k) _ (eq-eqb k.0 k.0 refl) (eq-eqb n n refl))
    by_what _ worded = refl

-- ---- the whole

either_worded : (script : List ScriptWord) (w : What) → is_worded_place script w ≡ true → is_worded_number script w ≡ true → option_map_or (is_lost_by script) (cluster_lost w) true ≡ true
either_worded script (Crash k Place) place number = place
either_worded script (Crash k (Step n)) place number = number
either_worded script (Crash k (Disk n)) place number = number
either_worded script _ place number = refl

pub all_worded : (b : BusView) → KeepsScript b → list_all (λ (e : Entry). option_map_or (is_lost_by b.script) (cluster_lost (what e)) true) b.log ≡ true
all_worded b keeps =
    all_of_two (λ (e : Entry). is_worded_place b.script (what e)) (λ (e : Entry). is_worded_number b.script (what e)) (λ (e : Entry). option_map_or (is_lost_by b.script) (cluster_lost (what e)) true)
    (λ e place number. either_worded b.script (what e) place number) b.log
    (places_worded b.system b.script b.log (filter is_bus_word b.left) keeps.looked)
    (numbers_worded b.script b.log (lost_worded b keeps))
