-- Each return in a log of a script is that of a cluster that a word of the script brings back.
use Rattle.std.proofs.Common.{◌≡◌, refl, sym, ◌∙◌, ap, List, [], ◌∷◌, ◌++◌, Bool, true, false, cond, ◌||◌, Some, None, unwrap_or, true≢false}
use Rattle.std.specs.Prelude.{filter, length}
use Rattle.std.specs.List.{list_any, list_all}
use Rattle.std.proofs.lemmas.Bool.{and_parts}
use Rattle.std.proofs.lemmas.List.Folds.{list_any-append}
use Rattle.t32_base.specs.declared.process.ClusterNo.{ClusterNo}
use Rattle.sys_text.specs.declared.system.System.{System}
use Rattle.bus_msg.specs.declared.entry.What.{What}
use Rattle.bus_msg.specs.declared.entry.What.TheVariants.{Crash, Return}
use Rattle.bus_msg.specs.declared.entry.Cause.TheVariants.{Place}
use Rattle.bus_msg.specs.declared.entry.Entry.{Entry}
use Rattle.bus_msg.specs.Places.{Places, lives_in, is_lost_in}
use Rattle.bus_msg.specs.PlacedAfter.{what}
use Rattle.cert_sched.specs.declared.script.ScriptWord.{ScriptWord}
use Rattle.cert_sched.specs.declared.script.ScriptWord.TheVariants.{CrashAt, CrashStep, DiskAt, ReturnAt}
use Rattle.cert_sched.specs.Schedule.{placement}
use Rattle.cert_sched.specs.Losses.{is_loss_word}
use Rattle.cert_sched.specs.Looked.{Looked, at_start, gives_nothing, gives, goes_on, none_reached, given_by, is_bus_word, is_reached, waits_for_no_word, waits_for_words}
use Rattle.bus_order.specs.View.{BusView, KeepsScript}
use Rattle.script_laws.specs.Off.{brings_back, comes_back, has_returned_in}
use Rattle.script_laws.proofs.LookedOn.{found_any}
use Rattle.script_laws.proofs.OffSince.{or_one}
use Rattle.script_laws.proofs.WordLosses.{left_in}

-- what gives a return brings its cluster back
given_back : (places : Places) (w : ScriptWord) (k : ClusterNo) (v : What) → given_by places w ≡ Some v → comes_back k v ≡ true → brings_back k w ≡ true
given_back places (CrashAt j place) k v given back = by_test (lives_in places j) given
  where
    by_test : (b : Bool) → cond b (Some (Crash j Place)) None ≡ Some v → false ≡ true
    by_test true e = let same : Crash j Place ≡ v = ap (λ o. unwrap_or o v) e in ap (comes_back k) same ∙ back
    by_test false e = cc
given_back places (CrashStep j step) k v given back = cc
given_back places (DiskAt j call) k v given back = cc
given_back places (ReturnAt j place) k v given back = by_test (is_lost_in places j) given
  where
    by_test : (b : Bool) → cond b (Some (Return j)) None ≡ Some v → brings_back k (ReturnAt j place) ≡ true
    by_test true e = let same : Return j ≡ v = ap (λ o. unwrap_or o v) e in ap (comes_back k) same ∙ back
    by_test false e = cc

-- and no other entry is one
alone_stays : (k : ClusterNo) (w : What) → waits_for_no_word w ≡ true → comes_back k w ≡ false
alone_stays k (Return j) h = absurd (true≢false (sym h))
alone_stays k _ h = refl

waits_stays : (k : ClusterNo) (w : What) → waits_for_words w ≡ true → comes_back k w ≡ false
waits_stays k (Return j) h = absurd (true≢false (sym h))
waits_stays k _ h = refl

returned-snoc : (log : List Entry) (e : Entry) (k : ClusterNo) → has_returned_in (log ++ e ∷ []) k ≡ (has_returned_in log k || comes_back k (what e))
returned-snoc log e k = list_any-append (λ (e : Entry). comes_back k (what e)) log (e ∷ []) ∙ or_one (has_returned_in log k) (comes_back k (what e))

-- one more entry that brings nobody back
returned_before : (log : List Entry) (e : Entry) (k : ClusterNo) → comes_back k (what e) ≡ false → has_returned_in (log ++ e ∷ []) k ≡ true → has_returned_in log k ≡ true
returned_before log e k other returned = by_test (has_returned_in log k) refl (sym (ap (λ b. has_returned_in log k || b) other) ∙ sym (returned-snoc log e k) ∙ returned)
  where
    by_test : (b : Bool) → has_returned_in log k ≡ b → (has_returned_in log k || false) ≡ true → has_returned_in log k ≡ true
    by_test true is either = is
    by_test false is either = absurd (true≢false (sym either ∙ ap (λ b. b || false) is))

-- ---- in a log of a script

looked_back : (system : System) (script : List ScriptWord) (k : ClusterNo) (log : List Entry) (left : List ScriptWord) → Looked system script log left → has_returned_in log k ≡ true → list_any (brings_back k) script ≡ true
looked_back system script k _ _ at_start returned = absurd (true≢false (sym returned))
looked_back system script k _ _ (gives_nothing {log} {left} looked w first nothing) returned = looked_back system script k log left looked returned
looked_back system script k _ _ (gives {log} {left} looked w e first given) returned = by_test (comes_back k (what e)) refl (looked_back system script k log left looked)
  where
    by_test : (b : Bool) → comes_back k (what e) ≡ b → (has_returned_in log k ≡ true → list_any (brings_back k) script ≡ true) → list_any (brings_back k) script ≡ true
    by_test true back before = left_in system script (brings_back k) log left looked (found_any (is_reached (length log)) (brings_back k) left w first (given_back (placement system log) w k (what e) given back))
    by_test false other before = before (returned_before log e k other returned)
looked_back system script k _ _ (goes_on {log} {left} looked e alone) returned = looked_back system script k log left looked (returned_before log e k (alone_stays k (what e) alone) returned)
looked_back system script k _ _ (none_reached {log} {left} looked e waits none) returned = looked_back system script k log left looked (returned_before log e k (waits_stays k (what e) waits) returned)

pub returns_worded : (b : BusView) (k : ClusterNo) → KeepsScript b → has_returned_in b.log k ≡ true → list_any (brings_back k) b.script ≡ true
returns_worded b k keeps returned = looked_back b.system b.script k b.log (filter is_bus_word b.left) keeps.looked returned

-- by words for losses alone no cluster returns
pub none_returned : (b : BusView) (k : ClusterNo) → KeepsScript b → list_all is_loss_word b.script ≡ true → has_returned_in b.log k ≡ false
none_returned b k keeps losses = by_test (has_returned_in b.log k) refl
  where
    none_back : (ws : List ScriptWord) → list_all is_loss_word ws ≡ true → list_any (brings_back k) ws ≡ false
    none_back [] all = refl
    none_back (w ∷ ws) all = by_word w (and_parts (is_loss_word w) (list_all is_loss_word ws) all).0 ∙ none_back ws (and_parts (is_loss_word w) (list_all is_loss_word ws) all).1
      where
        by_word : (w : ScriptWord) → is_loss_word w ≡ true → (brings_back k w || list_any (brings_back k) ws) ≡ list_any (brings_back k) ws
        by_word (CrashAt j place) built = refl
        by_word (CrashStep j step) built = refl
        by_word (DiskAt j call) built = refl
        by_word (ReturnAt j place) built = absurd (true≢false (sym built))

    by_test : (x : Bool) → has_returned_in b.log k ≡ x → has_returned_in b.log k ≡ false
    by_test true returned = absurd (true≢false (sym (returns_worded b k keeps returned) ∙ none_back b.script losses))
    by_test false none = none
