-- The lowest of some pids: with one more, and that it is one of them.
use Rattle.std.proofs.Common.{◌≡◌, ℕ, ◌+◌, ◌<◌, Bool, true, false, ◌&&◌, ◌||◌, cond, List, [], ◌∷◌, ◌++◌, map, filter, take, get_or, length, Option, None, Some, refl, sym, ◌∙◌, ap, arith, eq-eqb, nat_lt}
use Rattle.std.specs.List.{list_any}
use Rattle.std.proofs.lemmas.List.{map-append, take_more}
use Rattle.std.proofs.lemmas.List.Elements.{filter-append}
use Rattle.std.proofs.lemmas.Bool.{ne_eqb, or_right}
use Rattle.std.proofs.lemmas.Bool.Decides.{nat_tests}
use Rattle.t32_base.specs.declared.process.Pid.{Pid}
use Rattle.t32_base.proofs.Facts.{same_pid_of}
use Rattle.bus_msg.specs.Places.{same_pid}
use Rattle.birth_notice.specs.Family.{is_of, children_of, lower, lowest}

-- ---- one more

abbrev low : ℕ → ℕ → ℕ
low a b = cond (nat_lt b a) b a

low_swap : (a b : ℕ) → low a b ≡ low b a
low_swap a b = grind (arith, nat_tests)

low_turn : (a b c : ℕ) → low a (low b c) ≡ low b (low a c)
low_turn a b c = grind (arith, nat_tests)

number_by : (p q : Pid) (b : Bool) → (cond b q p).0 ≡ cond b q.0 p.0
number_by p q true = refl
number_by p q false = refl

number : (p q : Pid) → (lower p (Some q)).0 ≡ low p.0 q.0
number p q = number_by p q (nat_lt q.0 p.0)

turn : (p q : Pid) (o : Option Pid) → lower p (Some (lower q o)) ≡ lower q (Some (lower p o))
turn p q None = same_pid_of (lower p (Some q)) (lower q (Some p)) (number p q ∙ low_swap p.0 q.0 ∙ sym (number q p))
turn p q (Some r) =
    same_pid_of (lower p (Some (lower q (Some r)))) (lower q (Some (lower p (Some r))))
    (number p (lower q (Some r)) ∙ ap (low p.0) (number q r) ∙ low_turn p.0 q.0 r.0 ∙ ap (low q.0) (sym (number p r)) ∙ sym (number q (lower p (Some r))))

pub lowest-push : (ps : List Pid) (q : Pid) → lowest (ps ++ q ∷ []) ≡ Some (lower q (lowest ps))
lowest-push [] q = refl
lowest-push (p ∷ ps) q = ap (λ o. Some (lower p o)) (lowest-push ps q) ∙ ap Some (turn p q (lowest ps))

-- the children with one birth more
pub children-push : (births : List (Pid × Pid)) (b : Pid × Pid) (parent : Pid) → children_of (births ++ b ∷ []) parent ≡ children_of births parent ++ children_of (b ∷ []) parent
children-push births b parent =
    ap (map (λ (x : Pid × Pid). x.1)) (filter-append (is_of parent) births (b ∷ [])) ∙ map-append (λ (x : Pid × Pid). x.1) (filter (is_of parent) births) (filter (is_of parent) (b ∷ []))

pub lowest-child : (births : List (Pid × Pid)) (b : Pid × Pid) (parent : Pid) → is_of parent b ≡ true → lowest (children_of (births ++ b ∷ []) parent) ≡ Some (lower b.1 (lowest (children_of births parent)))
lowest-child births b parent is =
    ap lowest (children-push births b parent ∙ ap (λ t. children_of births parent ++ map (λ (x : Pid × Pid). x.1) (cond t (b ∷ []) [])) is)
    ∙ lowest-push (children_of births parent) b.1

append_none : (ps : List Pid) → ps ++ [] ≡ ps
append_none [] = refl
append_none (p ∷ ps) = ap (λ l. p ∷ l) (append_none ps)

pub lowest-other : (births : List (Pid × Pid)) (b : Pid × Pid) (parent : Pid) → is_of parent b ≡ false → lowest (children_of (births ++ b ∷ []) parent) ≡ lowest (children_of births parent)
lowest-other births b parent is =
    ap lowest
    (children-push births b parent ∙ ap (λ t. children_of births parent ++ map (λ (x : Pid × Pid). x.1) (cond t (b ∷ []) [])) is ∙ append_none (children_of births parent))

-- the children among the first births, with one more of them
pub lowest-more : (births : List (Pid × Pid)) (i : ℕ) (d : Pid × Pid) (parent : Pid) → i < length births → ((get_or births i d).0).0 ≡ parent.0
    → lowest (children_of (take (i + 1) births) parent) ≡ Some (lower (get_or births i d).1 (lowest (children_of (take i births) parent)))
lowest-more births i d parent within is = ap (λ l. lowest (children_of l parent)) (take_more births i d within) ∙ lowest-child (take i births) (get_or births i d) parent (eq-eqb ((get_or births i d).0).0 parent.0 is)

pub lowest-no_more : (births : List (Pid × Pid)) (i : ℕ) (d : Pid × Pid) (parent : Pid) → i < length births → (((get_or births i d).0).0 ≡ parent.0 → ⊥)
    → lowest (children_of (take (i + 1) births) parent) ≡ lowest (children_of (take i births) parent)
lowest-no_more births i d parent within is = ap (λ l. lowest (children_of l parent)) (take_more births i d within) ∙ lowest-other (take i births) (get_or births i d) parent (ne_eqb ((get_or births i d).0).0 parent.0 is)

-- ---- it is one of them

same_self : (p : Pid) → same_pid p p ≡ true
same_self p = grind (arith, nat_tests)

or_left : (a b : Bool) → a ≡ true → (a || b) ≡ true
or_left a b h i = h i || b

pub lowest-in : (ps : List Pid) (c : Pid) → lowest ps ≡ Some c → list_any (λ p. same_pid p c) ps ≡ true
lowest-in [] c found = cc
lowest-in (p ∷ ps) c found = by (lowest ps) refl found (λ here. lowest-in ps c here)
  where
    here : p ≡ c → list_any (λ q. same_pid q c) (p ∷ ps) ≡ true
    here same = or_left (same_pid p c) (list_any (λ q. same_pid q c) ps) (ap (λ q. same_pid q c) same ∙ same_self c)

    pick : (q : Pid) (b : Bool) → (q ≡ c → list_any (λ q. same_pid q c) ps ≡ true) → Some (cond b q p) ≡ Some c → list_any (λ q. same_pid q c) (p ∷ ps) ≡ true
    pick q true rest found = let same : q ≡ c = cc in or_right (same_pid p c) (list_any (λ q. same_pid q c) ps) (rest same)
    pick q false rest found = let same : p ≡ c = cc in here same

    by : (o : Option Pid) → lowest ps ≡ o → Some (lower p o) ≡ Some c → (lowest ps ≡ Some c → list_any (λ q. same_pid q c) ps ≡ true) → list_any (λ q. same_pid q c) (p ∷ ps) ≡ true
    by None is found rest = let same : p ≡ c = cc in here same
    by (Some q) is found rest = pick q (nat_lt q.0 p.0) (λ same. rest (is ∙ ap Some same)) found

any_child : (births : List (Pid × Pid)) (parent c : Pid) → list_any (λ p. same_pid p c) (children_of births parent) ≡ list_any (λ (b : Pid × Pid). is_of parent b && same_pid b.1 c) births
any_child [] parent c = refl
any_child (b ∷ bs) parent c = by (is_of parent b) (any_child bs parent c)
  where
    by : (t : Bool) → list_any (λ p. same_pid p c) (children_of bs parent) ≡ list_any (λ (b : Pid × Pid). is_of parent b && same_pid b.1 c) bs
        → list_any (λ p. same_pid p c) (map (λ (x : Pid × Pid). x.1) (cond t (b ∷ filter (is_of parent) bs) (filter (is_of parent) bs)))
        ≡ (t && same_pid b.1 c || list_any (λ (b : Pid × Pid). is_of parent b && same_pid b.1 c) bs)
    by true rest = ap (λ r. same_pid b.1 c || r) rest
    by false rest = rest

-- a lowest child was born by its parent
pub lowest-born : (births : List (Pid × Pid)) (parent c : Pid) → lowest (children_of births parent) ≡ Some c → list_any (λ (b : Pid × Pid). is_of parent b && same_pid b.1 c) births ≡ true
lowest-born births parent c found = sym (any_child births parent c) ∙ lowest-in (children_of births parent) c found

-- there is none only of none
pub none-lowest : (ps : List Pid) → lowest ps ≡ None → ps ≡ []
none-lowest [] none = refl
none-lowest (p ∷ ps) none = cc
