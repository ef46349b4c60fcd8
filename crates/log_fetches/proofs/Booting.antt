-- At boot the records of the roots have a state, and nothing was asked for.
use Rattle.std.proofs.Common.{◌≡◌, ℕ, refl, sym, ◌∙◌, ap, List, [], ◌∷◌, map, Bool, true, false, cond, ◌&&◌, ◌||◌}
use Rattle.std.specs.List.{list_any}
use Rattle.t32_base.specs.declared.process.Pid.{Pid}
use Rattle.sys_text.specs.declared.system.System.{System}
use Rattle.sys_text.specs.declared.system.Root.{Root}
use Rattle.sys_text.specs.Boot.{roots_of}
use Rattle.bus_msg.specs.declared.placed.Placed.{Placed}
use Rattle.bus_msg.specs.Places.{same_pid}
use Rattle.cert_sched.specs.Moved.{any_since_moved, is_fetch, is_page_is, moved_with_state}
use Rattle.cert_sched.specs.Schedule.{placed_root, places_at_boot}
use Rattle.cert_sched.specs.Told.{told}
use Rattle.bus_msg.specs.declared.entry.What.{What}
use Rattle.log_fetches.specs.declared.kept.Kept.{Kept}
use Rattle.log_fetches.specs.Pages.{has_page}
use Rattle.log_fetches.specs.Kept.{ChangesAmong, nothing, with_state}
use Rattle.log_fetches.specs.Fetches.{IsFetchesOf}
use Rattle.log_fetches.proofs.Notes.{none_there}

among_roots : (p : Pid) (roots : List (Pid × Root)) → list_any (λ (q : Placed). same_pid q.pid p && true) (map placed_root roots) ≡ list_any (λ (r : Pid × Root). same_pid r.0 p) roots
among_roots p [] = refl
among_roots p (r ∷ roots) = λ i. and_true (same_pid r.0 p) i || among_roots p roots i
  where
    and_true : (b : Bool) → (b && true) ≡ b
    and_true true = refl
    and_true false = refl

unmoved : (system : System) (p : Pid) → moved_with_state system [] p ≡ false
unfolding told
unmoved system p = refl

unseen : (system : System) (p : Pid) (test : What → Bool) → any_since_moved system [] p test ≡ false
unfolding told
unseen system p test = refl

pub fetches_at_boot : (system : System) (new : List (ℕ × Kept)) → ChangesAmong (λ _. true) with_state (places_at_boot system).placed [] new → IsFetchesOf system [] new
fetches_at_boot system new among p = record {
  stated = ap (λ (k : Kept). k.stated) (among p) ∙ by_root (is_placed p) ∙ ap (λ b. b || false) (among_roots p (roots_of system));
  moved = ap (λ (k : Kept). k.moved) (among p) ∙ still_moved (is_placed p) ∙ sym (unmoved system p);
  asked = λ i. ap (λ (k : Kept). has_page k.asked i) (among p) ∙ unasked i (is_placed p) ∙ sym (unseen system p (is_fetch p i));
  come = λ i low. ap (λ (k : Kept). has_page k.come i) (among p) ∙ uncome i (is_placed p) ∙ sym (unseen system p (is_page_is p i));
}
  where
    is_placed : Pid → Bool
    is_placed p = list_any (λ (q : Placed). same_pid q.pid p && true) (places_at_boot system).placed

    by_root : (b : Bool) → (cond b (with_state nothing) nothing).stated ≡ (b || false)
    by_root true = refl
    by_root false = refl

    still_moved : (b : Bool) → (cond b (with_state nothing) nothing).moved ≡ false
    still_moved true = refl
    still_moved false = refl

    unasked : (i : ℕ) (b : Bool) → has_page (cond b (with_state nothing) nothing).asked i ≡ false
    unasked i true = none_there i
    unasked i false = none_there i

    uncome : (i : ℕ) (b : Bool) → has_page (cond b (with_state nothing) nothing).come i ≡ false
    uncome i true = none_there i
    uncome i false = none_there i
