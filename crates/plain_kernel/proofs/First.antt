-- The first of the entries in order that passes a test.
use Rattle.std.proofs.Common.{◌≡◌, ℕ, Bool, true, false, cond, List, ◌∷◌, [], find, refl, sym, ap, ◌∙◌, subst, Some, None, option_map}
use Rattle.std.specs.Ordering.{nat_cmp}
use Rattle.std.specs.declared.cmp.Ordering.TheVariants.{Less, Equal, Greater}
use Rattle.std.specs.List.{AllByRecursion}
use Rattle.std.specs.List.Sorted.{IsStrictlySortedBy}
use Rattle.std.specs.Map.{lookup}
use Rattle.std.specs.FinMap.{put}
use Rattle.std.specs.FinMap.Entries.{by_order as in_order}
use Rattle.std.proofs.lemmas.Option.{same_Some}
use Rattle.t32_base.specs.declared.process.Pid.{Pid}
use Rattle.proc_state.specs.declared.process.Process.{Process}
use Rattle.proc_state.specs.State.{ProcState, state_of}
use Rattle.plain_kernel.specs.Kernel.{pid_cmp}
use Rattle.plain_kernel.specs.Maps.{at_key, pid_of, processes_of}
use Rattle.plain_kernel.proofs.Entries.{keys, later_no_key, tied}

pub found_above : {X : Type 0} → (p : ℕ × X → Bool) (x : ℕ) (es : List (ℕ × X)) (e : ℕ × X) → AllByRecursion (λ y. nat_cmp x y ≡ Less) (keys es) → find p es ≡ Some e → nat_cmp x e.0 ≡ Less
found_above p x [] e a f = cc
found_above p x (y ∷ es) e a f = by_test (p y) f (λ later. found_above p x es e a.1 later)
  where
    by_test : (b : Bool) → cond b (Some y) (find p es) ≡ Some e → (find p es ≡ Some e → nat_cmp x e.0 ≡ Less) → nat_cmp x e.0 ≡ Less
    by_test true f ih = let same : y ≡ e = same_Some y e f in ap (λ z. nat_cmp x z.0) (sym same) ∙ a.0
    by_test false f ih = ih f

-- it is the one at its key
pub found_at : {X : Type 0} → (p : ℕ × X → Bool) (es : List (ℕ × X)) (e : ℕ × X) → IsStrictlySortedBy nat_cmp (keys es) → find p es ≡ Some e → lookup (at_key e.0) es ≡ Some e.1
unfolding IsStrictlySortedBy
found_at p [] e s f = cc
found_at p (x ∷ es) e s f = by_test (p x) f (λ later. found_at p es e s.1 later)
  where
    by_test : (b : Bool) → cond b (Some x) (find p es) ≡ Some e → (find p es ≡ Some e → lookup (at_key e.0) es ≡ Some e.1) → cond (at_key e.0 x.0) (Some x.1) (lookup (at_key e.0) es) ≡ Some e.1
    by_test true f ih = let same : x ≡ e = same_Some x e f in subst (λ z. cond (at_key z.0 x.0) (Some x.1) (lookup (at_key z.0) es) ≡ Some z.1) same (rw (tied x.0) refl)
    by_test false f ih = rw (later_no_key x.0 e.0 (found_above p x.0 es e s.0 f)) (ih f)

-- it passes
pub first_able : {X : Type 0} → (p : X → Bool) (es : List X) (e : X) → find p es ≡ Some e → p e ≡ true
first_able p [] e f = cc
first_able p (x ∷ es) e f = by_test (p x) refl f (λ later. first_able p es e later)
  where
    by_test : (b : Bool) → p x ≡ b → cond b (Some x) (find p es) ≡ Some e → (find p es ≡ Some e → p e ≡ true) → p e ≡ true
    by_test true is f ih = ap p (sym (same_Some x e f)) ∙ is
    by_test false is f ih = ih f

-- where none passes, none at a key does
pub none_found : {X : Type 0} → (p : X → Bool) (k : ℕ) (v : X) (es : List (ℕ × X)) → find (λ (e : ℕ × X). p e.1) es ≡ None → lookup (at_key k) es ≡ Some v → p v ≡ false
none_found p k v [] none there = cc
none_found {X = X} p k v (x ∷ es) none there = by_tests (p x.1) (at_key k x.0) refl none there (λ none there. none_found p k v es none there)
  where
    by_tests : (b c : Bool) → p x.1 ≡ b → cond b (Some x) (find (λ (e : ℕ × X). p e.1) es) ≡ None → cond c (Some x.1) (lookup (at_key k) es) ≡ Some v → (find (λ (e : ℕ × X). p e.1) es ≡ None → lookup (at_key k) es ≡ Some v → p v ≡ false) → p v ≡ false
    by_tests true c is none there more = cc
    by_tests false true is none there more = ap p (sym (same_Some x.1 v there)) ∙ is
    by_tests false false is none there more = more none there

-- the first of the entries is the first of the states
pub first_states : (f : ProcState → Bool) (es : List (ℕ × Process)) → find (λ (e : Pid × ProcState). f e.1) (processes_of es) ≡ option_map (λ (e : ℕ × Process). (pid_of e.0, state_of e.1)) (find (λ (e : ℕ × Process). f (state_of e.1)) es)
first_states f [] = refl
first_states f (x ∷ es) =
    elim (f (state_of x.1)) as (λ b. cond b (Some (pid_of x.0, state_of x.1)) (find (λ (e : Pid × ProcState). f e.1) (processes_of es)) ≡ option_map (λ (e : ℕ × Process). (pid_of e.0, state_of e.1)) (cond b (Some x) (find (λ (e : ℕ × Process). f (state_of e.1)) es)))
    [ true ↦ refl | false ↦ first_states f es ]

-- one that does not pass is put where none passes
pub none_put : (f : ProcState → Bool) (k : Pid) (t : ProcState) (es : List (Pid × ProcState)) → find (λ (e : Pid × ProcState). f e.1) es ≡ None → f t ≡ false → find (λ (e : Pid × ProcState). f e.1) (put pid_cmp k t es) ≡ None
none_put f k t [] none fails = ap (λ b. cond b (Some (k, t)) None) fails
none_put f k t (x ∷ es) none fails = by_test (f x.1) refl none (λ later. none_put f k t es later fails)
  where
    by_test : (b : Bool) → f x.1 ≡ b → cond b (Some x) (find (λ (e : Pid × ProcState). f e.1) es) ≡ None → (find (λ (e : Pid × ProcState). f e.1) es ≡ None → find (λ (e : Pid × ProcState). f e.1) (put pid_cmp k t es) ≡ None)
        → find (λ (e : Pid × ProcState). f e.1) (put pid_cmp k t (x ∷ es)) ≡ None
    by_test true is none ih = cc
    by_test false is none ih =
        elim (pid_cmp k x.0) as (λ o. find (λ (e : Pid × ProcState). f e.1) (in_order o ((k, t) ∷ x ∷ es) ((x.0, t) ∷ es) (x ∷ put pid_cmp k t es)) ≡ None) [
          | Less ↦ ap (λ b. cond b (Some (k, t)) (cond (f x.1) (Some x) (find (λ (e : Pid × ProcState). f e.1) es))) fails ∙ ap (λ b. cond b (Some x) (find (λ (e : Pid × ProcState). f e.1) es)) is ∙ none
          | Equal ↦ ap (λ b. cond b (Some (x.0, t)) (find (λ (e : Pid × ProcState). f e.1) es)) fails ∙ none
          | Greater ↦ ap (λ b. cond b (Some x) (find (λ (e : Pid × ProcState). f e.1) (put pid_cmp k t es))) is ∙ ih none
        ]
