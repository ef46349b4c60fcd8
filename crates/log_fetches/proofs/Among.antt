-- Some processes are changed, one after another.
use Rattle.std.proofs.Common.{◌≡◌, ℕ, Bool, true, false, ◌&&◌, ◌||◌, cond, ◌+◌, ◌<◌, List, [], ◌∷◌, ◌++◌, length, take, get_or, refl, sym, ◌∙◌, ap, subst, arith, Some, None, slice_get, eqb-true}
use Rattle.std.specs.List.{list_any}
use Rattle.std.proofs.lemmas.List.{take_more}
use Rattle.std.proofs.lemmas.List.Folds.{list_any-append}
use Rattle.std.proofs.lemmas.Option.{slice_get-get_or, same_Some}
use Rattle.t32_base.specs.declared.process.Pid.{Pid}
use Rattle.bus_msg.specs.declared.placed.Placed.{Placed}
use Rattle.bus_msg.specs.Places.{same_pid}
use Rattle.log_fetches.specs.declared.kept.Kept.{Kept}
use Rattle.log_fetches.specs.Kept.{ChangesAmong, ChangesOnly, kept_in}

-- where one process is changed by a function, each is changed that is this one
pub changed : (change : Kept → Kept) (old new : List (ℕ × Kept)) (q : Pid)
    → ChangesOnly old new q (change (kept_in old q)) → (p : Pid) → kept_in new p ≡ cond (same_pid q p) (change (kept_in old p)) (kept_in old p)
changed change old new q only p = by_test (same_pid q p) refl
  where
    by_test : (b : Bool) → same_pid q p ≡ b → kept_in new p ≡ cond b (change (kept_in old p)) (kept_in old p)
    by_test true is =
        let same : q ≡ p = λ i. record { 0 = eqb-true q.0 p.0 is i } in
        subst (λ (p : Pid). kept_in new p ≡ change (kept_in old p)) same only.this
    by_test false is = only.others p is

module _ (test : Placed → Bool) (change : Kept → Kept) (twice : (x : Kept) → change (change x) ≡ change x) where
  both : (a b : Bool) (x : Kept) → cond b (change (cond a (change x) x)) (cond a (change x) x) ≡ cond (a || b) (change x) x
  both true true x = twice x
  both true false x = refl
  both false true x = refl
  both false false x = refl

  more : (some others : List Placed) (x y z : List (ℕ × Kept)) → ChangesAmong test change some x y → ChangesAmong test change others y z → ChangesAmong test change (some ++ others) x z
  more some others x y z first after p =
      let t : Placed → Bool = λ q. same_pid q.pid p && test q in
      after p ∙ ap (λ (k : Kept). cond (list_any t others) (change k) k) (first p) ∙ both (list_any t some) (list_any t others) (kept_in x p)
      ∙ ap (λ b. cond b (change (kept_in x p)) (kept_in x p)) (sym (list_any-append t some others))

  -- none of none
  pub among_none : (x : List (ℕ × Kept)) → ChangesAmong test change [] x x
  among_none x p = refl

  -- one that does not pass
  pub among_not : (q : Placed) (x : List (ℕ × Kept)) → test q ≡ false → ChangesAmong test change (q ∷ []) x x
  among_not q x fails p = sym (ap (λ b. cond b (change (kept_in x p)) (kept_in x p)) (never (same_pid q.pid p) (test q) fails))
    where
      never : (a b : Bool) → b ≡ false → ((a && b) || false) ≡ false
      never true b is = ap (λ c. c || false) is
      never false b is = refl

  -- one that does
  pub among_one : (q : Placed) (x y : List (ℕ × Kept)) → test q ≡ true → ChangesOnly x y q.pid (change (kept_in x q.pid)) → ChangesAmong test change (q ∷ []) x y
  among_one q x y passes only p = changed change x y q.pid only p ∙ ap (λ b. cond b (change (kept_in x p)) (kept_in x p)) (sym (always (same_pid q.pid p) (test q) passes))
    where
      always : (a b : Bool) → b ≡ true → ((a && b) || false) ≡ a
      always true b is = ap (λ c. c || false) is
      always false b is = refl

  -- the process at a place, behind those in front of it
  pub among_next : (placed : List Placed) (i : ℕ) (q : Placed) (x y z : List (ℕ × Kept))
      → i < length placed → Some q ≡ slice_get placed i → ChangesAmong test change (take i placed) x y → ChangesAmong test change (q ∷ []) y z
      → ChangesAmong test change (take (i + 1) placed) x z
  among_next placed i q x y z within at before one =
      let same : q ≡ get_or placed i q = same_Some q (get_or placed i q) (at ∙ slice_get-get_or placed i q within) in
      subst (λ qs. ChangesAmong test change qs x z) (sym (take_more placed i q within ∙ ap (λ r. take i placed ++ r ∷ []) (sym same))) (more (take i placed) (q ∷ []) x y z before one)

-- a place of the list has a process
pub none_beyond : (placed : List Placed) (i : ℕ) → i < length placed → None ≡ slice_get placed i → ⊥
none_beyond [] i within at = omega (arith, within)
none_beyond (q ∷ placed) i within at = let there = at ∙ slice_get-get_or (q ∷ placed) i q within in cc
