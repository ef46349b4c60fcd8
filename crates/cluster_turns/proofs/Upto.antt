-- Up to where a cluster follows a log.
use Rattle.std.proofs.Common.{◌≡◌, ℕ, suc, ◌+◌, ◌≤◌, ◌<◌, refl, sym, ◌∙◌, ap, arith, List, [], ◌∷◌, length, take, drop, slice_get, Bool, true, false, cond, not, ◌||◌, Option, Some, None, true≢false}
use Rattle.std.specs.List.{list_any, position_or_len}
use Rattle.std.proofs.lemmas.List.{length-drop}
use Rattle.std.proofs.lemmas.List.Folds.{list_any-append}
use Rattle.t32_base.specs.declared.process.ClusterNo.{ClusterNo}
use Rattle.sys_text.specs.declared.system.System.{System}
use Rattle.bus_msg.specs.declared.entry.Entry.{Entry}
use Rattle.bus_msg.specs.PlacedAfter.{what}
use Rattle.cert_sched.specs.Losses.{is_crash_of, was_lost_in}
use Rattle.cert_sched.specs.Rules.{is_over}
use Rattle.bus_order.specs.Script.{off_at, place_of_loss, turns}
use Rattle.bus_order.proofs.LogParts.{less_of, take_one}
use Rattle.bus_order.proofs.OffLaws.{off_taken}
use Rattle.script_laws.proofs.Alternating.{on_until_lost}
use Rattle.cluster_turns.specs.Along.{upto}
use Rattle.cluster_turns.specs.Ends.{followed_length}
use Rattle.cluster_turns.proofs.Prefixes.{drop_next}

-- ---- the first that passes

-- where none passes it is the length
pub first_none : {X : Type 0} (t : X → Bool) (xs : List X) → list_any t xs ≡ false → position_or_len t xs ≡ length xs
first_none t [] none = refl
first_none t (x ∷ xs) none = by_test (t x) none (first_none t xs)
  where
    by_test : (b : Bool) → (b || list_any t xs) ≡ false → (list_any t xs ≡ false → position_or_len t xs ≡ length xs) → cond (not b) (1 + position_or_len t xs) 0 ≡ length (x ∷ xs)
    by_test true none more = absurd (true≢false none)
    by_test false none more = omega (arith, more none)

-- ---- up to where a cluster follows

abbrev its_loss : ClusterNo → Entry → Bool
its_loss k e = is_crash_of k (what e)

pub upto_followed : (k : ClusterNo) (system : System) (log : List Entry) (n : ℕ) → upto k system log n ≤ followed_length system log
upto_followed k system log n = omega arith

-- what it takes in next does not lose it
pub no_loss_at : (k : ClusterNo) (system : System) (log : List Entry) (n : ℕ) (e : Entry) → slice_get log n ≡ Some e → n < upto k system log n → is_crash_of k (what e) ≡ false
no_loss_at k system log n e at low = by_test (is_crash_of k (what e)) refl
  where
    by_test : (b : Bool) → is_crash_of k (what e) ≡ b → b ≡ false
    by_test true loses =
        let first : position_or_len (its_loss k) (drop n log) ≡ 0 = ap (position_or_len (its_loss k)) (drop_next log n e at) ∙ ap (λ b. cond (not b) (1 + position_or_len (its_loss k) (drop (suc n) log)) 0) loses in
        absurd (omega (arith, low, first))
    by_test false other = refl

-- an entry that does not lose it is taken in, as far as the log is followed
pub upto_next : (k : ClusterNo) (system : System) (log : List Entry) (n : ℕ) (e : Entry) → slice_get log n ≡ Some e → n < followed_length system log → is_crash_of k (what e) ≡ false → n < upto k system log n
upto_next k system log n e at low other =
    let first : position_or_len (its_loss k) (drop n log) ≡ 1 + position_or_len (its_loss k) (drop (suc n) log) =
    ap (position_or_len (its_loss k)) (drop_next log n e at) ∙ ap (λ b. cond (not b) (1 + position_or_len (its_loss k) (drop (suc n) log)) 0) other in
    omega (arith, low, first)

-- it stops before its loss
pub upto_loss : (k : ClusterNo) (system : System) (log : List Entry) (n : ℕ) (e : Entry) → slice_get log n ≡ Some e → n ≤ followed_length system log → is_crash_of k (what e) ≡ true → n ≡ upto k system log n
upto_loss k system log n e at low loses =
    let first : position_or_len (its_loss k) (drop n log) ≡ 0 = ap (position_or_len (its_loss k)) (drop_next log n e at) ∙ ap (λ b. cond (not b) (1 + position_or_len (its_loss k) (drop (suc n) log)) 0) loses in
    omega (arith, low, first)

-- and where the log is followed no further
pub upto_end : (k : ClusterNo) (system : System) (log : List Entry) (n : ℕ) → n ≡ followed_length system log → n ≡ upto k system log n
upto_end k system log n end = omega (arith, end)

-- one that was not lost from there on follows all, but the last entry where the log is over
pub upto_living : (k : ClusterNo) (system : System) (log : List Entry) (n : ℕ) → n ≤ length log → was_lost_in (drop n log) k ≡ false → upto k system log n ≡ followed_length system log
upto_living k system log n within lives = let short = less_of (is_over system log) (length log) in omega (arith, within, first_none (its_loss k) (drop n log) lives, length-drop n log, short)

-- where it stopped before that, it was lost there
pub stopped_lost : (k : ClusterNo) (system : System) (log : List Entry) (n : ℕ) → n ≤ length log → n ≡ upto k system log n → n < followed_length system log → was_lost_in (drop n log) k ≡ true
stopped_lost k system log n within stops low = by_test (was_lost_in (drop n log) k) refl
  where
    by_test : (b : Bool) → was_lost_in (drop n log) k ≡ b → b ≡ true
    by_test true lost = refl
    by_test false lives = absurd (omega (arith, upto_living k system log n within lives, stops, low))

-- ---- who is off

no_place : (k : ClusterNo) (e : Entry) (o : Option ℕ) → is_crash_of k (what e) ≡ false → o ≡ None → cond (turns k (what e)) (place_of_loss k (Some e)) o ≡ None
no_place k e o other on = by_test (turns k (what e))
  where
    by_test : (b : Bool) → cond b (place_of_loss k (Some e)) o ≡ None
    by_test true = ap (λ b. cond b (Some e.place) None) other
    by_test false = on

-- an entry that does not lose a cluster leaves it as it is, or brings it back
pub on_next : (log : List Entry) (n : ℕ) (e : Entry) (k : ClusterNo) → slice_get log n ≡ Some e → is_crash_of k (what e) ≡ false → off_at (take n log) k ≡ None → off_at (take (n + 1) log) k ≡ None
on_next log n e k at other on = off_taken log n e k at ∙ no_place k e (off_at (take n log) k) other on

-- and it was lost in as much
pub lost_next : (log : List Entry) (n : ℕ) (e : Entry) (k : ClusterNo) → slice_get log n ≡ Some e → is_crash_of k (what e) ≡ false → was_lost_in (take (suc n) log) k ≡ was_lost_in (take n log) k
lost_next log n e k at other =
    ap (λ l. was_lost_in l k) (take_one log n e at) ∙ list_any-append (its_loss k) (take n log) (e ∷ []) ∙ ap (λ b. was_lost_in (take n log) k || (b || false)) other ∙ by_test (was_lost_in (take n log) k)
  where
    by_test : (b : Bool) → (b || (false || false)) ≡ b
    by_test true = refl
    by_test false = refl

-- one that is off, and was not so at a place, was lost from there on
pub lost_since : (log : List Entry) (k : ClusterNo) (n at : ℕ) → off_at (take n log) k ≡ None → off_at log k ≡ Some at → was_lost_in (drop n log) k ≡ true
lost_since log k n at on off = by_test (was_lost_in (drop n log) k) refl
  where
    differ : ◌≡◌ {A = Option ℕ} (Some at) None → ⊥
    differ h = cc

    by_test : (b : Bool) → was_lost_in (drop n log) k ≡ b → b ≡ true
    by_test true lost = refl
    by_test false lives = absurd (differ (sym off ∙ on_until_lost log k n on lives))
