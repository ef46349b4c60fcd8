-- Which processes have not ended after a birth: the child, and those before.
use Rattle.std.proofs.Common.{◌≡◌, refl, sym, ◌∙◌, ap, List, [], ◌∷◌, Bool, true, false, cond, not, ◌&&◌, eq-eqb, Option, Some, None, is_some, true≢false}
use Rattle.std.specs.Prelude.{find, option_map}
use Rattle.std.specs.Option.{option_or}
use Rattle.std.proofs.lemmas.List.Folds.{find-append}
use Rattle.t32_base.specs.declared.process.Pid.{Pid}
use Rattle.bus_msg.specs.declared.placed.Placed.{Placed}
use Rattle.bus_msg.specs.Places.{Places, same_pid, placed_at, unended_at}
use Rattle.bus_msg.specs.PlacedAfter.{with_birth, child_of}
use Rattle.cert_sched.specs.Kinds.{next_child_at}

-- a process that has not ended is placed
pub unended_placed : (p : Pid) (qs : List Placed) → is_some (find (λ (q : Placed). same_pid q.pid p && not q.ended) qs) ≡ true → is_some (find (λ (q : Placed). same_pid q.pid p) qs) ≡ true
unended_placed p [] there = there
unended_placed p (q ∷ qs) there = by_pid (same_pid q.pid p) there (unended_placed p qs)
  where
    by_pid : (b : Bool) → is_some (cond (b && not q.ended) (Some q) (find (λ (q : Placed). same_pid q.pid p && not q.ended) qs)) ≡ true
        → (is_some (find (λ (q : Placed). same_pid q.pid p && not q.ended) qs) ≡ true → is_some (find (λ (q : Placed). same_pid q.pid p) qs) ≡ true) → is_some (cond b (Some q) (find (λ (q : Placed). same_pid q.pid p) qs)) ≡ true
    by_pid true h more = refl
    by_pid false h more = more h

-- the parent of a birth that stands has not ended
pub parent_unended : (places : Places) (parent child : Pid) → option_map (next_child_at places) (unended_at places parent) ≡ Some child → is_some (unended_at places parent) ≡ true
parent_unended places parent child is = by_found (unended_at places parent) is
  where
    by_found : (o : Option Placed) → option_map (next_child_at places) o ≡ Some child → is_some o ≡ true
    by_found None e = cc
    by_found (Some q) e = refl

-- every process but the child is found as before among those that have not ended
pub born_beside : (p child : Pid) (places : Places) (o : Option Placed) → same_pid child p ≡ false → unended_at (with_birth places child o) p ≡ unended_at places p
born_beside p child places None other = refl
born_beside p child places (Some q) other =
    find-append (λ (q : Placed). same_pid q.pid p && not q.ended) places.placed (child_of q child ∷ [])
    ∙ (λ i. option_or (unended_at places p) (cond (other i && true) (Some (child_of q child)) None)) ∙ or_none (unended_at places p)
  where
    or_none : (o : Option Placed) → option_or o None ≡ o
    or_none None = refl
    or_none (Some r) = refl

-- and the child is found, where the parent is placed
pub born_found : (child : Pid) (places : Places) (o : Option Placed) → is_some o ≡ true → is_some (unended_at (with_birth places child o) child) ≡ true
born_found child places None placed = absurd (true≢false (sym placed))
born_found child places (Some q) placed =
    ap is_some (find-append (λ (q : Placed). same_pid q.pid child && not q.ended) places.placed (child_of q child ∷ []))
    ∙ ap (λ b. is_some (option_or (unended_at places child) (cond (b && true) (Some (child_of q child)) None))) (eq-eqb child.0 child.0 refl) ∙ by_found (unended_at places child)
  where
    by_found : (o : Option Placed) → is_some (option_or o (Some (child_of q child))) ≡ true
    by_found None = refl
    by_found (Some r) = refl

-- so it is, over a birth that stands
pub child_found : (places : Places) (parent child : Pid) → option_map (next_child_at places) (unended_at places parent) ≡ Some child → is_some (unended_at (with_birth places child (placed_at places parent)) child) ≡ true
child_found places parent child is = born_found child places (placed_at places parent) (unended_placed parent places.placed (parent_unended places parent child is))
