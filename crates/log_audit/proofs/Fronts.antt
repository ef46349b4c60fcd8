-- The front of a log, entry by entry.
use Rattle.std.proofs.Common.{◌≡◌, ℕ, ◌+◌, sym, ◌∙◌, ap, [], ◌∷◌, length-append, false}
use Rattle.sys_text.specs.declared.system.System.{System}
use Rattle.bus_msg.specs.declared.entry.Entry.{Entry}
use Rattle.bus_msg.specs.Places.{Places}
use Rattle.bus_msg.specs.PlacedAfter.{what, placed_after}
use Rattle.cert_sched.specs.Schedule.{placement, places_at_boot}
use Rattle.cert_sched.specs.Rules.{ends_run, is_over}
use Rattle.cert_sched.specs.Told.{told}
use Rattle.cert_sched.proofs.Induction.{is_over-snoc}
use Rattle.cert_sched.proofs.LogLaws.{placement-snoc}
use Rattle.log_audit.specs.Front.{FrontState, IsFrontOf, KeepsFront}

pub front_at_start : (system : System) (f : FrontState) → f.places ≡ places_at_boot system → f.over ≡ false → f.length ≡ 0 → IsFrontOf system [] f
unfolding placement is_over told
front_at_start system f places over none = record { places = places; over = over; length = none }

pub front_after : (old new : FrontState) (e : Entry) → new.places ≡ placed_after old.places (what e) → new.over ≡ ends_run old.places (what e) → new.length ≡ old.length + 1 → KeepsFront old new e
front_after old new e places over more system log front =
    let before = front.length in
    record {
      places = places ∙ ap (λ (p : Places). placed_after p (what e)) front.places ∙ sym (placement-snoc system log e);
      over = over ∙ ap (λ (p : Places). ends_run p (what e)) front.places ∙ sym (is_over-snoc system log e);
      length = more ∙ ap (λ (n : ℕ). n + 1) before ∙ sym (length-append log (e ∷ []));
    }
