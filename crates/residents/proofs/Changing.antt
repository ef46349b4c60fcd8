-- What is held of one process changes, and that of the others stays.
use Rattle.std.proofs.Common.{◌≡◌, refl, sym, ◌∙◌, ap, List, [], ◌∷◌, Bool, true, false, cond, ◌||◌, eqb, eqb-true, eq-eqb, Some, true≢false}
use Rattle.std.specs.Prelude.{find, option_map}
use Rattle.std.specs.List.{list_any}
use Rattle.t32_base.specs.declared.process.Pid.{Pid}
use Rattle.bus_msg.specs.Places.{same_pid}
use Rattle.residents.specs.Held.{Held, held_of}
use Rattle.residents.specs.Residents.{pids_in}
use Rattle.residents.specs.Changed.{with_changed}

pub pid_same : (p q : Pid) → p.0 ≡ q.0 → p ≡ q
pid_same p q h = λ i. record { 0 = h i }

pub same_itself : (p : Pid) → same_pid p p ≡ true
same_itself p = eq-eqb p.0 p.0 refl

-- ---- one process has changed

-- the pids stay
pub pids_changed : (p : Pid) (now : Held) (here : List (Pid × Held)) → pids_in (with_changed p now here) ≡ pids_in here
pids_changed p now [] = refl
pids_changed p now (e ∷ here) = by_test (same_pid e.0 p) refl (pids_changed p now here)
  where
    by_test : (b : Bool) → same_pid e.0 p ≡ b → pids_in (with_changed p now here) ≡ pids_in here → ((cond b (p, now) e).0).0 ∷ pids_in (with_changed p now here) ≡ (e.0).0 ∷ pids_in here
    by_test true is more = (λ i. sym (eqb-true (e.0).0 p.0 is) i ∷ more i)
    by_test false is more = ap (λ ns. (e.0).0 ∷ ns) more

-- what is at a pid after one process has changed: that process, or what was there
pub record FoundChanged (p : Pid) (now : Held) (here : List (Pid × Held)) (q : Pid) (h : Held) : Type 0 where
  pub was : Held
  pub there : held_of here q ≡ Some was
  pub is : (same_pid q p ≡ true → h ≡ now) × (same_pid q p ≡ false → h ≡ was)

pub found_changed : (p : Pid) (now : Held) (here : List (Pid × Held)) (q : Pid) (h : Held) → held_of (with_changed p now here) q ≡ Some h → FoundChanged p now here q h
found_changed p now [] q h at = cc
found_changed p now (e ∷ here) q h at = by_tests (same_pid e.0 p) (same_pid e.0 q) refl refl at (found_changed p now here q h)
  where
    skip : (b : Bool) → same_pid e.0 q ≡ b → b ≡ false → held_of (e ∷ here) q ≡ held_of here q
    skip true is other = absurd (true≢false other)
    skip false is other = ap (λ b. option_map (λ (e : Pid × Held). e.1) (cond b (Some e) (find (λ (e : Pid × Held). same_pid e.0 q) here))) is

    first : (b : Bool) → same_pid e.0 q ≡ b → b ≡ true → held_of (e ∷ here) q ≡ Some e.1
    first true is own = ap (λ b. option_map (λ (e : Pid × Held). e.1) (cond b (Some e) (find (λ (e : Pid × Held). same_pid e.0 q) here))) is
    first false is own = absurd (true≢false (sym own))

    same_of : same_pid e.0 p ≡ true → same_pid e.0 q ≡ same_pid p q
    same_of is = ap (λ r. same_pid r q) (pid_same e.0 p (eqb-true (e.0).0 p.0 is))

    turned : (a b : Pid) → same_pid a b ≡ true → same_pid b a ≡ true
    turned a b is = eq-eqb b.0 a.0 (sym (eqb-true a.0 b.0 is))

    by_tests : (b c : Bool) → same_pid e.0 p ≡ b → same_pid e.0 q ≡ c
        → option_map (λ (e : Pid × Held). e.1) (find (λ (e : Pid × Held). same_pid e.0 q) (cond b (p, now) e ∷ with_changed p now here)) ≡ Some h
        → (held_of (with_changed p now here) q ≡ Some h → FoundChanged p now here q h) → FoundChanged p now (e ∷ here) q h
    by_tests true true is own at more =
        let found : Some now ≡ Some h = sym (ap (λ b. option_map (λ (e : Pid × Held). e.1) (cond b (Some (p, now)) (find (λ (e : Pid × Held). same_pid e.0 q) (with_changed p now here)))) (sym (same_of is) ∙ own)) ∙ at in
        let mine : h ≡ now = cc in
        record {
          was = e.1;
          there = first (same_pid e.0 q) refl own;
          is = (λ at_p. mine, λ other. absurd (true≢false (sym (turned p q (sym (same_of is) ∙ own)) ∙ other)));
        }
    by_tests true false is other at more =
        let rest = more (sym (ap (λ b. option_map (λ (e : Pid × Held). e.1) (cond b (Some (p, now)) (find (λ (e : Pid × Held). same_pid e.0 q) (with_changed p now here)))) (sym (same_of is) ∙ other)) ∙ at) in
        record { was = rest.was; there = skip (same_pid e.0 q) refl other ∙ rest.there; is = rest.is }
    by_tests false true is own at more =
        let found : Some e.1 ≡ Some h = sym (ap (λ b. option_map (λ (e : Pid × Held). e.1) (cond b (Some e) (find (λ (e : Pid × Held). same_pid e.0 q) (with_changed p now here)))) own) ∙ at in
        let mine : h ≡ e.1 = cc in
        record {
          was = e.1;
          there = first (same_pid e.0 q) refl own;
          is = (
            λ at_p. absurd (true≢false (sym (turned p e.0 (ap (same_pid p) (pid_same e.0 q (eqb-true (e.0).0 q.0 own)) ∙ turned q p at_p)) ∙ is)),
            λ other. mine,
          );
        }
    by_tests false false is other at more =
        let rest = more (sym (ap (λ b. option_map (λ (e : Pid × Held). e.1) (cond b (Some e) (find (λ (e : Pid × Held). same_pid e.0 q) (with_changed p now here)))) other) ∙ at) in
        record { was = rest.was; there = skip (same_pid e.0 q) refl other ∙ rest.there; is = rest.is }

-- a process that has changed is found as it is now
pub changed_there : (p : Pid) (now : Held) (here : List (Pid × Held)) (was : Held) → held_of here p ≡ Some was → held_of (with_changed p now here) p ≡ Some now
changed_there p now [] was there = cc
changed_there p now (e ∷ here) was there = by_test (same_pid e.0 p) refl there (changed_there p now here was)
  where
    first : (b : Bool) → b ≡ true → option_map (λ (e : Pid × Held). e.1) (cond b (Some (p, now)) (find (λ (e : Pid × Held). same_pid e.0 p) (with_changed p now here))) ≡ Some now
    first true is = refl
    first false is = absurd (true≢false (sym is))

    by_test : (b : Bool) → same_pid e.0 p ≡ b → option_map (λ (e : Pid × Held). e.1) (cond b (Some e) (find (λ (e : Pid × Held). same_pid e.0 p) here)) ≡ Some was
        → (held_of here p ≡ Some was → held_of (with_changed p now here) p ≡ Some now)
        → option_map (λ (e : Pid × Held). e.1) (find (λ (e : Pid × Held). same_pid e.0 p) (cond b (p, now) e ∷ with_changed p now here)) ≡ Some now
    by_test true is at more = first (same_pid p p) (same_itself p)
    by_test false is at more = ap (λ b. option_map (λ (e : Pid × Held). e.1) (cond b (Some e) (find (λ (e : Pid × Held). same_pid e.0 p) (with_changed p now here)))) is ∙ more at

-- ---- the birth itself

-- a process that is among them, by its pid
pub any_pids : (p : Pid) (here : List (Pid × Held)) → list_any (λ (e : Pid × Held). same_pid e.0 p) here ≡ list_any (λ n. eqb n p.0) (pids_in here)
any_pids p [] = refl
any_pids p (e ∷ here) = ap (λ b. eqb (e.0).0 p.0 || b) (any_pids p here)
