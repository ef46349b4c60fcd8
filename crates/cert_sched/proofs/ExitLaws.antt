-- What an exit makes of the processes that have not ended.
use Rattle.std.proofs.Common.{◌≡◌, refl, sym, ◌∙◌, ap, List, [], ◌∷◌, map, Bool, true, false, cond, not, ◌&&◌, eqb-true, Option, Some, None, true≢false}
use Rattle.std.specs.Prelude.{find, ◌≢◌}
use Rattle.t32_base.specs.declared.process.Pid.{Pid}
use Rattle.bus_msg.specs.declared.placed.Placed.{Placed}
use Rattle.bus_msg.specs.Places.{same_pid}
use Rattle.bus_msg.specs.PlacedAfter.{after_exit}

-- a process that exits is found no more
pub exited : (p : Pid) (qs : List Placed) → find (λ (q : Placed). same_pid q.pid p && not q.ended) (map (after_exit p) qs) ≡ None
exited p [] = refl
exited p (q ∷ qs) = by_test (same_pid q.pid p) refl (exited p qs)
  where
    by_test : (b : Bool) → same_pid q.pid p ≡ b → find (λ (q : Placed). same_pid q.pid p && not q.ended) (map (after_exit p) qs) ≡ None
        → cond (same_pid (cond b (record q { ended = true }) q).pid p && not (cond b (record q { ended = true }) q).ended) (Some (cond b (record q { ended = true }) q)) (find (λ (q : Placed). same_pid q.pid p && not q.ended) (map (after_exit p) qs)) ≡ None
    by_test true is more = ap (λ b. cond (b && false) (Some (record q { ended = true })) (find (λ (q : Placed). same_pid q.pid p && not q.ended) (map (after_exit p) qs))) is ∙ more
    by_test false is more = ap (λ b. cond (b && not q.ended) (Some q) (find (λ (q : Placed). same_pid q.pid p && not q.ended) (map (after_exit p) qs))) is ∙ more

-- every other is found as before
pub unended_exit : (p r : Pid) (qs : List Placed) → r.0 ≢ p.0 → find (λ (q : Placed). same_pid q.pid r && not q.ended) (map (after_exit p) qs) ≡ find (λ (q : Placed). same_pid q.pid r && not q.ended) qs
unended_exit p r [] apart = refl
unended_exit p r (q ∷ qs) apart = by_test (same_pid q.pid p) refl (unended_exit p r qs apart)
  where
    skipped : (b : Bool) → b ≡ false → (f : Option Placed) (x y : Placed) (c d : Bool) → cond (b && c) (Some x) f ≡ cond (b && d) (Some y) f
    skipped true is f x y c d = absurd (true≢false is)
    skipped false is f x y c d = refl

    unlike : (b : Bool) → same_pid q.pid r ≡ b → same_pid q.pid p ≡ true → b ≡ false
    unlike false is at = refl
    unlike true is at = absurd (apart (sym (eqb-true (q.pid).0 r.0 is) ∙ eqb-true (q.pid).0 p.0 at))

    by_test : (b : Bool) → same_pid q.pid p ≡ b →
        find (λ (q : Placed). same_pid q.pid r && not q.ended) (map (after_exit p) qs) ≡ find (λ (q : Placed). same_pid q.pid r && not q.ended) qs →
        cond (same_pid (cond b (record q { ended = true }) q).pid r && not (cond b (record q { ended = true }) q).ended) (Some (cond b (record q { ended = true }) q)) (find (λ (q : Placed). same_pid q.pid r && not q.ended) (map (after_exit p) qs))
        ≡ cond (same_pid q.pid r && not q.ended) (Some q) (find (λ (q : Placed). same_pid q.pid r && not q.ended) qs)
    by_test true is more =
        ap (λ f. cond (same_pid q.pid r && false) (Some (record q { ended = true })) f) more
        ∙ skipped (same_pid q.pid r) (unlike (same_pid q.pid r) refl is) (find (λ (q : Placed). same_pid q.pid r && not q.ended) qs) (record q { ended = true }) q false (not q.ended)
    by_test false is more = ap (λ f. cond (same_pid q.pid r && not q.ended) (Some q) f) more
