-- What each kind of entry makes of what is kept of a process.
use Rattle.std.proofs.Common.{◌≡◌, ℕ, zero, suc, ◌/◌, ◌%◌, refl, ◌∙◌, ap, List, Bool, true, false, cond, ◌||◌, eqb, get_or, Option}
use Rattle.std.specs.Int.{bit_at}
use Rattle.std.proofs.lemmas.Nat.Bits.{bit_at-zero}
use Rattle.t32_base.specs.declared.process.Pid.{Pid}
use Rattle.t32_base.specs.declared.process.ClusterNo.{ClusterNo}
use Rattle.t32_base.specs.Small.{SmallState}
use Rattle.bus_msg.specs.declared.entry.Cause.{Cause}
use Rattle.bus_msg.specs.declared.entry.What.TheVariants.{Sync, Crash}
use Rattle.bus_msg.specs.Places.{Places, is_moved_by, same_pid}
use Rattle.cert_sched.specs.Told.{is_moved}
use Rattle.log_fetches.specs.declared.kept.Kept.{Kept}
use Rattle.log_fetches.specs.Pages.{has_page}
use Rattle.log_fetches.specs.Kept.{ChangesAmong, ChangesOnly, Notes, begun_again, kept_in, no_pages, with_state}
use Rattle.log_fetches.proofs.Among.{changed}

zeros : (n : ℕ) → get_or no_pages n 0 ≡ 0
zeros zero = refl
zeros (suc zero) = refl
zeros (suc (suc zero)) = refl
zeros (suc (suc (suc zero))) = refl
zeros (suc (suc (suc (suc n)))) = refl

-- no page is among none
pub none_there : (i : ℕ) → has_page no_pages i ≡ false
none_there i = ap (λ w. eqb (bit_at w (i % 64)) 1) (zeros (i / 64)) ∙ ap (λ b. eqb b 1) (bit_at-zero (i % 64))

-- a synchronisation
pub notes_sync : (places : Places) (pid : Pid) (small : SmallState) (read : List ℕ) (took : Option ℕ) (old new : List (ℕ × Kept))
    → ChangesOnly old new pid (with_state (kept_in old pid)) → Notes places (Sync pid small read took) old new
notes_sync places pid small read took old new only p = record {
  stated = ap (λ (k : Kept). k.stated) is ∙ now_stated (same_pid pid p);
  moved = ap (λ (k : Kept). k.moved) is ∙ still_moved (same_pid pid p);
  asked = λ i. ap (λ (k : Kept). has_page k.asked i) is ∙ still_asked i (same_pid pid p);
  come = λ i. ap (λ (k : Kept). has_page k.come i) is ∙ still_come i (same_pid pid p);
}
  where
    is : kept_in new p ≡ cond (same_pid pid p) (with_state (kept_in old p)) (kept_in old p)
    is = changed with_state old new pid only p

    now_stated : (b : Bool) → (cond b (with_state (kept_in old p)) (kept_in old p)).stated ≡ (b || (kept_in old p).stated)
    now_stated true = refl
    now_stated false = refl

    still_moved : (b : Bool) → (cond b (with_state (kept_in old p)) (kept_in old p)).moved ≡ (kept_in old p).moved
    still_moved true = refl
    still_moved false = refl

    still_asked : (i : ℕ) (b : Bool) → has_page (cond b (with_state (kept_in old p)) (kept_in old p)).asked i ≡ has_page (kept_in old p).asked i
    still_asked i true = refl
    still_asked i false = refl

    still_come : (i : ℕ) (b : Bool) → has_page (cond b (with_state (kept_in old p)) (kept_in old p)).come i ≡ has_page (kept_in old p).come i
    still_come i true = refl
    still_come i false = refl

-- a loss
pub notes_loss : (places : Places) (k : ClusterNo) (cause : Cause) (old new : List (ℕ × Kept)) → ChangesAmong (is_moved_by k) begun_again places.placed old new → Notes places (Crash k cause) old new
notes_loss places k cause old new among p = record {
  stated = ap (λ (k : Kept). k.stated) (among p) ∙ still_stated (is_moved p places k);
  moved = ap (λ (k : Kept). k.moved) (among p) ∙ now_moved (is_moved p places k);
  asked = λ i. ap (λ (k : Kept). has_page k.asked i) (among p) ∙ unasked i (is_moved p places k);
  come = λ i. ap (λ (k : Kept). has_page k.come i) (among p) ∙ uncome i (is_moved p places k);
}
  where
    still_stated : (b : Bool) → (cond b (begun_again (kept_in old p)) (kept_in old p)).stated ≡ (kept_in old p).stated
    still_stated true = refl
    still_stated false = refl

    now_moved : (b : Bool) → (cond b (begun_again (kept_in old p)) (kept_in old p)).moved ≡ cond b (kept_in old p).stated (kept_in old p).moved
    now_moved true = refl
    now_moved false = refl

    unasked : (i : ℕ) (b : Bool) → has_page (cond b (begun_again (kept_in old p)) (kept_in old p)).asked i ≡ cond b false (has_page (kept_in old p).asked i)
    unasked i true = none_there i
    unasked i false = refl

    uncome : (i : ℕ) (b : Bool) → has_page (cond b (begun_again (kept_in old p)) (kept_in old p)).come i ≡ cond b false (has_page (kept_in old p).come i)
    uncome i true = none_there i
    uncome i false = refl
