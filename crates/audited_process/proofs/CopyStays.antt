-- A copy that was led ahead of a process, after an entry.
use Rattle.std.proofs.Common.{◌≡◌, refl, sym, subst, Bool, true, false, Option, None, Result}
use Rattle.std.specs.Prelude.{OnOk}
use Rattle.std.proofs.lemmas.Result.{on_ok_weaker}
use Rattle.proc_state.specs.State.{ProcState}
use Rattle.log_cuts.specs.Ahead.{IsAhead}

-- a copy that was led ahead is one of the process after the entry, where that did not change it
pub ahead_on : {E : Type 0} (b : Bool) (s t : ProcState) (old new : Option ProcState) (r : Result (Unit {0}) E) (P : Type 0) → OnOk r P → (b ≡ true → new ≡ None) → (b ≡ false → new ≡ old)
    → (b ≡ false → IsAhead s old)
    → (b ≡ false → OnOk r (t ≡ s)) → OnOk r (IsAhead t new)
ahead_on true s t old new r P some dropped kept ahead stays = on_ok_weaker r (λ _. subst (IsAhead t) (sym (dropped refl)) tt) some
ahead_on false s t old new r P some dropped kept ahead stays = on_ok_weaker r (λ (same : t ≡ s). subst (λ x. IsAhead x new) (sym same) (subst (IsAhead s) (sym (kept refl)) (ahead refl))) (stays refl)
