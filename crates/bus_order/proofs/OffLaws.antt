-- A cluster of the system lives exactly where no crash of it stands that no return follows.
use Rattle.std.proofs.Common.{◌≡◌, ℕ, zero, suc, ◌+◌, ◌<◌, length, take, refl, sym, ◌∙◌, ap, subst, arith, List, [], ◌∷◌, ◌++◌, map, Bool, true, false, cond, not, eqb, eqb-true, eq-eqb, Option, Some, None, is_none, Bor, true≢false}
use Rattle.std.specs.Prelude.{slice_get}
use Rattle.std.specs.List.{list_any}
use Rattle.std.specs.Option.{option_copied, option_map_or}
use Rattle.std.proofs.lemmas.List.Folds.{list_any-append}
use Rattle.t32_base.specs.declared.process.ClusterNo.{ClusterNo}
use Rattle.sys_text.specs.declared.system.System.{System}
use Rattle.sys_text.specs.Boot.{roots_of}
use Rattle.bus_msg.specs.declared.entry.What.{What}
use Rattle.bus_msg.specs.declared.entry.What.TheVariants.{Birth, Crash, Return}
use Rattle.bus_msg.specs.declared.entry.Cause.{Cause}
use Rattle.bus_msg.specs.declared.entry.Entry.{Entry}
use Rattle.bus_msg.specs.Places.{ClusterPlace, Places, placed_at, same_cluster, lives_in, is_lost_in}
use Rattle.bus_msg.specs.PlacedAfter.{what, placed_after, changed_at, lost_cluster, returned_cluster}
use Rattle.cert_sched.specs.Parts.{last_that}
use Rattle.cert_sched.specs.Schedule.{placement, placed_root}
use Rattle.cert_sched.specs.Losses.{is_crash_of}
use Rattle.cert_sched.specs.Kinds.{KindHolds}
use Rattle.cert_sched.specs.Legal.{IsLegalBy, Stands, MayStand}
use Rattle.cert_sched.proofs.LogLaws.{placement-snoc}
use Rattle.cert_sched.proofs.Induction.{legal_induction}
use Rattle.cert_sched.proofs.FreshLaws.{kept_elsewhere, put_here}
use Rattle.cert_sched.proofs.LiveLaws.{boot_lives}
use Rattle.cert_sched.proofs.HomesLaws.{lives_within, stand_clusters-length}
use Rattle.bus_order.specs.Script.{off_at, place_of_loss, turns}
use Rattle.bus_order.proofs.LogParts.{take_one}
use Rattle.cert_sched.proofs.BirthClusters.{birth_keeps}
use Rattle.cert_sched.proofs.ListLaws.{or_last}

-- ---- one more entry

any-snoc : {X : Type 0} (t : X → Bool) (xs : List X) (x : X) → list_any t (xs ++ x ∷ []) ≡ cond (t x) true (list_any t xs)
any-snoc t xs x = list_any-append t xs (x ∷ []) ∙ or_last (list_any t xs) (t x)

last_that-snoc : {X : Type 0} (t : X → Bool) (xs : List X) (x : X) → last_that t (xs ++ x ∷ []) ≡ cond (t x) (Some x) (last_that t xs)
last_that-snoc t [] x = refl
last_that-snoc t (y ∷ ys) x = rw (any-snoc t ys x, last_that-snoc t ys x) (by_cases (t x) (list_any t ys) (t y))
  where
    by_cases : (last any here : Bool) → cond (cond last true any) (cond last (Some x) (last_that t ys)) (cond here (Some y) None) ≡ cond last (Some x) (cond any (last_that t ys) (cond here (Some y) None))
    by_cases true any here = refl
    by_cases false true here = refl
    by_cases false false true = refl
    by_cases false false false = refl

pub off_at-snoc : (log : List Entry) (e : Entry) (k : ClusterNo) → off_at (log ++ e ∷ []) k ≡ cond (turns k (what e)) (place_of_loss k (Some e)) (off_at log k)
off_at-snoc log e k = ap (place_of_loss k) (last_that-snoc (λ (e : Entry). turns k (what e)) log e) ∙ by_test (turns k (what e))
  where
    by_test : (b : Bool) → place_of_loss k (cond b (Some e) (last_that (λ (e : Entry). turns k (what e)) log)) ≡ cond b (place_of_loss k (Some e)) (off_at log k)
    by_test true = refl
    by_test false = refl

-- of the first entries
pub off_taken : (log : List Entry) (n : ℕ) (e : Entry) (k : ClusterNo) → slice_get log n ≡ Some e → off_at (take (n + 1) log) k ≡ cond (turns k (what e)) (place_of_loss k (Some e)) (off_at (take n log) k)
off_taken log n e k there =
    ap (λ m. off_at (take m log) k) (let m : n + 1 ≡ suc n = omega arith in m) ∙ ap (λ l. off_at l k) (take_one log n e there) ∙ off_at-snoc (take n log) e k

-- there is one at each place below the length
pub none_within : (log : List Entry) (n : ℕ) → n < length log → slice_get log n ≡ None → ⊥
none_within [] n within none = absurd (omega (arith, within))
none_within (e ∷ log) zero within none = cc
none_within (e ∷ log) (suc n) within none = none_within log n (omega (arith, within)) none

-- ---- who lives

crash_lives : (places : Places) (j k : ClusterNo) (cause : Cause) → lives_in (placed_after places (Crash j cause)) k ≡ cond (same_cluster j k) false (lives_in places k)
crash_lives places j k cause = by_number (eqb j.0 k.0) refl
  where
    at : Option ClusterPlace → Bool
    at o = option_map_or (λ (c : ClusterPlace). c.lives) o false

    by_number : (b : Bool) → eqb j.0 k.0 ≡ b → at (slice_get (changed_at j.0 lost_cluster (slice_get places.clusters j.0) places.clusters) k.0) ≡ cond b false (at (slice_get places.clusters k.0))
    by_number true same =
        sym (ap (λ n. at (slice_get (changed_at j.0 lost_cluster (slice_get places.clusters j.0) places.clusters) n)) (eqb-true j.0 k.0 same)) ∙ here (slice_get places.clusters j.0) refl
      where
        here : (o : Option ClusterPlace) → slice_get places.clusters j.0 ≡ o → at (slice_get (changed_at j.0 lost_cluster o places.clusters) j.0) ≡ false
        here None there = ap at there
        here (Some c) there = ap at (put_here places.clusters j.0 (lost_cluster c) c there)
    by_number false apart = elsewhere (slice_get places.clusters j.0)
      where
        elsewhere : (o : Option ClusterPlace) → at (slice_get (changed_at j.0 lost_cluster o places.clusters) k.0) ≡ at (slice_get places.clusters k.0)
        elsewhere None = refl
        elsewhere (Some c) = ap at (kept_elsewhere places.clusters j.0 k.0 (lost_cluster c) (λ e. true≢false (sym (eq-eqb j.0 k.0 (sym e)) ∙ apart)))

-- who was lost and returns lives, and nobody else is changed
return_lives : (places : Places) (j k : ClusterNo) → is_lost_in places j ≡ true → lives_in (placed_after places (Return j)) k ≡ cond (same_cluster j k) true (lives_in places k)
return_lives places j k lost = by_number (eqb j.0 k.0) refl
  where
    at : Option ClusterPlace → Bool
    at o = option_map_or (λ (c : ClusterPlace). c.lives) o false

    by_number : (b : Bool) → eqb j.0 k.0 ≡ b → at (slice_get (changed_at j.0 returned_cluster (slice_get places.clusters j.0) places.clusters) k.0) ≡ cond b true (at (slice_get places.clusters k.0))
    by_number true same =
        sym (ap (λ n. at (slice_get (changed_at j.0 returned_cluster (slice_get places.clusters j.0) places.clusters) n)) (eqb-true j.0 k.0 same)) ∙ here (slice_get places.clusters j.0) refl lost
      where
        here : (o : Option ClusterPlace) → slice_get places.clusters j.0 ≡ o → option_map_or (λ (c : ClusterPlace). not c.lives) o false ≡ true → at (slice_get (changed_at j.0 returned_cluster o places.clusters) j.0) ≡ true
        here None there lost = absurd (true≢false (sym lost))
        here (Some c) there lost = ap at (put_here places.clusters j.0 (returned_cluster c) c there)
    by_number false apart = elsewhere (slice_get places.clusters j.0)
      where
        elsewhere : (o : Option ClusterPlace) → at (slice_get (changed_at j.0 returned_cluster o places.clusters) k.0) ≡ at (slice_get places.clusters k.0)
        elsewhere None = refl
        elsewhere (Some c) = ap at (kept_elsewhere places.clusters j.0 k.0 (returned_cluster c) (λ e. true≢false (sym (eq-eqb j.0 k.0 (sym e)) ∙ apart)))

-- whether it lives after an entry, where it lives exactly where it is not off
lives_after : (places : Places) (off : Option ℕ) (k : ClusterNo) (e : Entry) (w : What) → what e ≡ w → ((j : ClusterNo) → w ≡ Return j → is_lost_in places j ≡ true) → lives_in places k ≡ is_none off → lives_in (placed_after places w) k ≡ is_none (cond (turns k w) (place_of_loss k (Some e)) off)
lives_after places off k e (Birth parent at child end) is lost before = birth_keeps (λ (c : ClusterPlace). c.lives) (λ c. refl) places child (placed_at places parent) k ∙ before
lives_after places off k e (Crash j cause) is lost before = crash_lives places j k cause ∙ by_test (same_cluster j k) refl
  where
    by_test : (b : Bool) → same_cluster j k ≡ b → cond b false (lives_in places k) ≡ is_none (cond b (place_of_loss k (Some e)) off)
    by_test true same = sym (ap (λ c. is_none (cond c (Some e.place) None)) (ap (is_crash_of k) is ∙ same))
    by_test false apart = before
lives_after places off k e (Return j) is lost before = return_lives places j k (lost j refl) ∙ by_test (same_cluster j k)
  where
    by_test : (b : Bool) → cond b true (lives_in places k) ≡ is_none (cond b (place_of_loss k (Some e)) off)
    by_test true = sym (ap (λ w. is_none (cond (is_crash_of k w) (Some e.place) None)) is)
    by_test false = before
lives_after places off k e _ is lost before = before

-- in any log that stands, also where clusters return
module _ (May : System → List Entry → Entry → Type 0) (stands_in : (system : System) (log : List Entry) (e : Entry) → May system log e → Stands system log e) where
  pub lives_where_not_off : (system : System) (log : List Entry) (k : ClusterNo) → IsLegalBy May system log → k.0 < system.clusters → lives_in (placement system log) k ≡ is_none (off_at log k)
  unfolding placement
  lives_where_not_off system log k legal within =
      legal_induction May system (λ log. lives_in (placement system log) k ≡ is_none (off_at log k)) (boot_lives system (map placed_root (roots_of system)) k.0 within)
      (λ log e before may.
      ap (λ p. lives_in p k) (placement-snoc system log e)
      ∙ lives_after (placement system log) (off_at log k) k e (what e) refl (λ j is. subst (KindHolds system log e) is (stands_in system log e may).kind) before
      ∙ sym (ap is_none (off_at-snoc log e k))) log legal

lives_unless_off : (system : System) (log : List Entry) (k : ClusterNo) → IsLegalBy MayStand system log → k.0 < system.clusters → lives_in (placement system log) k ≡ is_none (off_at log k)
lives_unless_off = lives_where_not_off MayStand (λ system log e may. may.stands)

is_nothing : (o : Option ℕ) → is_none o ≡ true → o ≡ None
is_nothing None h = refl
is_nothing (Some n) h = absurd (true≢false (sym h))

-- a cluster that lives is not off
pub living_not_off : (system : System) (log : List Entry) (k : ClusterNo) → IsLegalBy MayStand system log → lives_in (placement system log) k ≡ true → off_at log k ≡ None
living_not_off system log k legal lives =
    let within : k.0 < system.clusters = omega (arith, lives_within (placement system log) k lives, stand_clusters-length system log legal) in
    is_nothing (off_at log k) (sym (lives_unless_off system log k legal within) ∙ lives)

-- and one of the system that is not off lives
pub not_off_lives : (system : System) (log : List Entry) (k : ClusterNo) → IsLegalBy MayStand system log → k.0 < system.clusters → off_at log k ≡ None → lives_in (placement system log) k ≡ true
not_off_lives system log k legal within none = lives_unless_off system log k legal within ∙ ap is_none none

-- what is read at a place below the length is there
pub got : (log : List Entry) (n : ℕ) (r : Option (Bor Entry)) → option_copied r ≡ slice_get log n → n < length log → ((x : Bor Entry) → r ≡ Some x → ⊥) → ⊥
got log n None is within none = none_within log n within (sym is)
got log n (Some x) is within none = none x refl
