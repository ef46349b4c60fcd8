-- The processes of a cluster in their slots: what a write, a removal and one more make of them.
use Rattle.std.proofs.Common.{◌≡◌, ◌≢◌, ℕ, Bool, true, false, cond, not, ◌||◌, ◌&&◌, eqb, eqb-true, eq-eqb, List, [], ◌∷◌, map, find, refl, sym, ap, subst, ◌∙◌, arith, Option, Some, None, IsSome, option_map, true≢false}
use Rattle.std.specs.Prelude.{filter}
use Rattle.std.specs.List.{list_all, list_any, AllByRecursion}
use Rattle.std.specs.List.Sorted.{IsStrictlySortedBy}
use Rattle.std.specs.Ordering.{nat_cmp}
use Rattle.std.specs.declared.cmp.Ordering.TheVariants.{Less}
use Rattle.std.specs.Map.{lookup, remove_entry}
use Rattle.std.proofs.lemmas.Bool.Decides.{nat_tests}
use Rattle.std.proofs.lemmas.Bool.{false≢true, or_parts}
use Rattle.std.proofs.lemmas.Option.{same_Some}
use Rattle.slab.specs.Slab.{Slab, get, Updates}
use Rattle.t32_base.specs.declared.process.Pid.{Pid}
use Rattle.bus_msg.specs.Places.{same_pid}
use Rattle.plain_kernel.specs.Maps.{at_key, pid_of}
use Rattle.cert_sched.proofs.RisingLaws.{NoTwo}
use Rattle.residents.specs.Held.{Held, held_of}
use Rattle.residents.specs.Slots.{in_slot, stands_in}

abbrev pub pids : List (ℕ × ℕ) → List ℕ
pids es = map (λ (e : ℕ × ℕ). e.0) es

abbrev pub slot_keys : List (ℕ × ℕ) → List ℕ
slot_keys es = map (λ (e : ℕ × ℕ). e.1) es

-- ---- tests

pub at_key_is : (n m : ℕ) → at_key n m ≡ eqb m n
at_key_is n m = grind (arith, nat_tests)

pub turned : (m n : ℕ) → eqb m n ≡ false → eqb n m ≡ false
turned m n apart = grind (arith, nat_tests)

pub later_is_other : (x m n : ℕ) → nat_cmp x m ≡ Less → x ≡ n → eqb m n ≡ false
later_is_other x m n later same = grind (arith, nat_tests)

pub both_true : (a b : Bool) → (a && b) ≡ true → (a ≡ true) × (b ≡ true)
both_true true b h = (refl, h)
both_true false b h = absurd (false≢true h)

pub not_true : (b : Bool) → not b ≡ true → b ≡ false
not_true true h = absurd (false≢true h)
not_true false h = refl

pub none_not_some : {X : Type 0} → (o : Option X) → o ≡ None → IsSome o → ⊥
none_not_some None e h = absurd (false≢true h)
none_not_some (Some x) e h = cc

-- ---- what holds of each entry

pub all_with : {X : Type 0} → (P Q R : X → Type 0) → ((x : X) → P x → Q x → R x) → (xs : List X) → AllByRecursion P xs → AllByRecursion Q xs → AllByRecursion R xs
all_with P Q R f [] ps qs = tt
all_with P Q R f (x ∷ xs) ps qs = (f x ps.0 qs.0, all_with P Q R f xs ps.1 qs.1)

pub all_more : {X : Type 0} → (P R : X → Type 0) → ((x : X) → P x → R x) → (xs : List X) → AllByRecursion P xs → AllByRecursion R xs
all_more P R f [] ps = tt
all_more P R f (x ∷ xs) ps = (f x ps.0, all_more P R f xs ps.1)

pub all_removed : (P : ℕ × ℕ → Type 0) (t : ℕ → Bool) (es : List (ℕ × ℕ)) → AllByRecursion P es → AllByRecursion P (remove_entry t es)
all_removed P t [] ps = tt
all_removed P t (e ∷ es) ps = by_test (t e.0) (all_removed P t es ps.1)
  where
    by_test : (b : Bool) → AllByRecursion P (remove_entry t es) → AllByRecursion P (cond b es (e ∷ remove_entry t es))
    by_test true more = ps.1
    by_test false more = (ps.0, more)

-- ---- one key of one pid

-- an entry has the pid where it has the key, and only there
abbrev pub IsOne : ℕ → ℕ → ℕ × ℕ → Type 0
IsOne n key e = eqb e.0 n ≡ eqb e.1 key

-- the key that a look-up finds is among the keys
other_key : (n key k : ℕ) (es : List (ℕ × ℕ)) → lookup (at_key n) es ≡ Some key → list_any (λ m. eqb m k) (slot_keys es) ≡ false → eqb key k ≡ false
other_key n key k [] found none = cc
other_key n key k (e ∷ es) found none =
    let parts = or_parts (eqb e.1 k) (list_any (λ m. eqb m k) (slot_keys es)) none in
    by_test (at_key n e.0) found parts.0 (λ later. other_key n key k es later parts.1)
  where
    by_test : (b : Bool) → cond b (Some e.1) (lookup (at_key n) es) ≡ Some key → eqb e.1 k ≡ false → (lookup (at_key n) es ≡ Some key → eqb key k ≡ false) → eqb key k ≡ false
    by_test true found apart more = let same : e.1 ≡ key = same_Some e.1 key found in subst (λ m. eqb m k ≡ false) same apart
    by_test false found apart more = more found

-- no later entry has the pid or the key of the first
others_apart : (n key x k : ℕ) (es : List (ℕ × ℕ)) → AllByRecursion (λ y. nat_cmp x y ≡ Less) (pids es) → list_any (λ m. eqb m k) (slot_keys es) ≡ false → x ≡ n → k ≡ key → AllByRecursion (IsOne n key) es
others_apart n key x k [] later none is_pid is_key = tt
others_apart n key x k (e ∷ es) later none is_pid is_key =
    let parts = or_parts (eqb e.1 k) (list_any (λ m. eqb m k) (slot_keys es)) none in
    (later_is_other x e.0 n later.0 is_pid ∙ sym (subst (λ j. eqb e.1 j ≡ false) is_key parts.0), others_apart n key x k es later.1 parts.1 is_pid is_key)

pub one_key : (n key : ℕ) (es : List (ℕ × ℕ)) → IsStrictlySortedBy nat_cmp (pids es) → NoTwo (slot_keys es) → lookup (at_key n) es ≡ Some key → AllByRecursion (IsOne n key) es
unfolding IsStrictlySortedBy
one_key n key [] ordered apart found = tt
one_key n key (e ∷ es) ordered apart found = by_test (eqb e.0 n) refl (subst (λ b. cond b (Some e.1) (lookup (at_key n) es) ≡ Some key) (at_key_is n e.0) found) (λ found. one_key n key es ordered.1 apart.1 found)
  where
    by_test : (b : Bool) → eqb e.0 n ≡ b → cond b (Some e.1) (lookup (at_key n) es) ≡ Some key → (lookup (at_key n) es ≡ Some key → AllByRecursion (IsOne n key) es) → AllByRecursion (IsOne n key) (e ∷ es)
    by_test true is found more =
        let same : e.1 ≡ key = same_Some e.1 key found in
        (is ∙ sym (eq-eqb e.1 key same), others_apart n key e.0 e.1 es ordered.0 apart.0 (eqb-true e.0 n is) same)
    by_test false is found more = (is ∙ sym (turned key e.1 (other_key n key e.1 es found apart.0)), more found)

-- ---- look-ups

in_slot_find : (pid p : Pid) (o : Option Held) (rest : List (Pid × Held)) → same_pid pid p ≡ false → held_of (in_slot pid o rest) p ≡ held_of rest p
in_slot_find pid p None rest other = refl
in_slot_find pid p (Some q) rest other = ap (λ b. option_map (λ (e : Pid × Held). e.1) (cond b (Some (pid, q)) (find (λ (e : Pid × Held). same_pid e.0 p) rest))) other

in_slot_found : (pid p : Pid) (o : Option Held) (q : Held) (rest : List (Pid × Held)) → same_pid pid p ≡ true → o ≡ Some q → held_of (in_slot pid o rest) p ≡ Some q
in_slot_found pid p None q rest same is = cc
in_slot_found pid p (Some r) q rest same is = ap (λ b. option_map (λ (e : Pid × Held). e.1) (cond b (Some (pid, r)) (find (λ (e : Pid × Held). same_pid e.0 p) rest))) same ∙ is

-- the process with a pid is in the slot of its key
pub process_there : (slots : Slab Held) (n key : ℕ) (p : Held) (es : List (ℕ × ℕ)) → lookup (at_key n) es ≡ Some key → get slots key ≡ Some p → held_of (stands_in slots es) (pid_of n) ≡ Some p
process_there slots n key p [] found is = cc
process_there slots n key p (e ∷ es) found is = by_test (eqb e.0 n) refl (subst (λ b. cond b (Some e.1) (lookup (at_key n) es) ≡ Some key) (at_key_is n e.0) found) (λ found. process_there slots n key p es found is)
  where
    by_test : (b : Bool) → eqb e.0 n ≡ b → cond b (Some e.1) (lookup (at_key n) es) ≡ Some key → (lookup (at_key n) es ≡ Some key → held_of (stands_in slots es) (pid_of n) ≡ Some p) → held_of (stands_in slots (e ∷ es)) (pid_of n) ≡ Some p
    by_test true same found more = in_slot_found (pid_of e.0) (pid_of n) (get slots e.1) p (stands_in slots es) same (ap (get slots) (same_Some e.1 key found) ∙ is)
    by_test false other found more = in_slot_find (pid_of e.0) (pid_of n) (get slots e.1) (stands_in slots es) other ∙ more found

-- ---- a pid that is not there

-- no entry has the pid
pub no_entry : (n : ℕ) (es : List (ℕ × ℕ)) → lookup (at_key n) es ≡ None → AllByRecursion (λ (e : ℕ × ℕ). eqb e.0 n ≡ false) es
no_entry n [] none = tt
no_entry n (e ∷ es) none = by_test (eqb e.0 n) refl (subst (λ b. cond b (Some e.1) (lookup (at_key n) es) ≡ None) (at_key_is n e.0) none) (λ none. no_entry n es none)
  where
    by_test : (b : Bool) → eqb e.0 n ≡ b → cond b (Some e.1) (lookup (at_key n) es) ≡ None → (lookup (at_key n) es ≡ None → AllByRecursion (λ (e : ℕ × ℕ). eqb e.0 n ≡ false) es) → AllByRecursion (λ (e : ℕ × ℕ). eqb e.0 n ≡ false) (e ∷ es)
    by_test true is none more = absurd (none_not_some (Some e.1) none refl)
    by_test false is none more = (is, more none)

-- none is held of it
pub nobody_held : (slots : Slab Held) (n : ℕ) (es : List (ℕ × ℕ)) → AllByRecursion (λ (e : ℕ × ℕ). eqb e.0 n ≡ false) es → held_of (stands_in slots es) (pid_of n) ≡ None
nobody_held slots n [] none = refl
nobody_held slots n (e ∷ es) none = in_slot_find (pid_of e.0) (pid_of n) (get slots e.1) (stands_in slots es) none.0 ∙ nobody_held slots n es none.1

-- a change of the process with that pid changes nothing
pub nobody_changed : (slots : Slab Held) (n : ℕ) (g : Pid × Held → Pid × Held) (es : List (ℕ × ℕ)) → AllByRecursion (λ (e : ℕ × ℕ). eqb e.0 n ≡ false) es
    → map (λ (e : Pid × Held). cond (same_pid e.0 (pid_of n)) (g e) e) (stands_in slots es) ≡ stands_in slots es
nobody_changed slots n g [] none = refl
nobody_changed slots n g (e ∷ es) none = in_front (get slots e.1) (nobody_changed slots n g es none.1)
  where
    in_front : (o : Option Held) → map (λ (e : Pid × Held). cond (same_pid e.0 (pid_of n)) (g e) e) (stands_in slots es) ≡ stands_in slots es
        → map (λ (e : Pid × Held). cond (same_pid e.0 (pid_of n)) (g e) e) (in_slot (pid_of e.0) o (stands_in slots es)) ≡ in_slot (pid_of e.0) o (stands_in slots es)
    in_front None more = more
    in_front (Some p) more = λ i. cond (none.0 i) (g (pid_of e.0, p)) (pid_of e.0, p) ∷ more i

-- and no process goes where it goes
pub nobody_goes : (slots : Slab Held) (n : ℕ) (es : List (ℕ × ℕ)) → AllByRecursion (λ (e : ℕ × ℕ). eqb e.0 n ≡ false) es
    → filter (λ (e : Pid × Held). not (same_pid e.0 (pid_of n))) (stands_in slots es) ≡ stands_in slots es
nobody_goes slots n [] none = refl
nobody_goes slots n (e ∷ es) none = in_front (get slots e.1) (nobody_goes slots n es none.1)
  where
    in_front : (o : Option Held) → filter (λ (e : Pid × Held). not (same_pid e.0 (pid_of n))) (stands_in slots es) ≡ stands_in slots es
        → filter (λ (e : Pid × Held). not (same_pid e.0 (pid_of n))) (in_slot (pid_of e.0) o (stands_in slots es)) ≡ in_slot (pid_of e.0) o (stands_in slots es)
    in_front None more = more
    in_front (Some p) more = λ i. cond (not (none.0 i)) ((pid_of e.0, p) ∷ more i) (more i)

-- ---- a test of the process with a pid

-- it passes, if it is there
abbrev pub passes_at : (Held → Bool) → Pid → List (Pid × Held) → Bool
passes_at t pid here = list_all (λ (e : Pid × Held). not (same_pid e.0 pid) || t e.1) here

pub nobody_fails : (t : Held → Bool) (slots : Slab Held) (n : ℕ) (es : List (ℕ × ℕ)) → AllByRecursion (λ (e : ℕ × ℕ). eqb e.0 n ≡ false) es → passes_at t (pid_of n) (stands_in slots es) ≡ true
nobody_fails t slots n [] none = refl
nobody_fails t slots n (e ∷ es) none = in_front (get slots e.1) (nobody_fails t slots n es none.1)
  where
    in_front : (o : Option Held) → passes_at t (pid_of n) (stands_in slots es) ≡ true → passes_at t (pid_of n) (in_slot (pid_of e.0) o (stands_in slots es)) ≡ true
    in_front None more = more
    in_front (Some p) more = ap (λ b. (not b || t p) && passes_at t (pid_of n) (stands_in slots es)) none.0 ∙ more

passes_here : (t : Held → Bool) (n pid : ℕ) (o : Option Held) (rest : List (Pid × Held)) → IsSome o → passes_at t (pid_of n) (in_slot (pid_of pid) o rest) ≡ true
    → ((p : Held) → o ≡ Some p → eqb pid n ≡ true → t p ≡ true) × (passes_at t (pid_of n) rest ≡ true)
passes_here t n pid None rest there passes = absurd (false≢true there)
passes_here t n pid (Some q) rest there passes =
    let parts = both_true (not (eqb pid n) || t q) (passes_at t (pid_of n) rest) passes in
    (λ p same at. ap t (sym (same_Some q p same)) ∙ (λ i. not (sym at i) || t q) ∙ parts.0, parts.1)

-- where it passes, what is in the slot of its key passes
pub passes_each : (t : Held → Bool) (slots : Slab Held) (n : ℕ) (es : List (ℕ × ℕ)) → AllByRecursion (λ (e : ℕ × ℕ). IsSome (get slots e.1)) es → passes_at t (pid_of n) (stands_in slots es) ≡ true
    → AllByRecursion (λ (e : ℕ × ℕ). (p : Held) → get slots e.1 ≡ Some p → eqb e.0 n ≡ true → t p ≡ true) es
passes_each t slots n [] filled passes = tt
passes_each t slots n (e ∷ es) filled passes =
    let parts = passes_here t n e.0 (get slots e.1) (stands_in slots es) filled.0 passes in
    (parts.0, passes_each t slots n es filled.1 parts.1)

-- and the other way round
pub passes_there : (t : Held → Bool) (slots : Slab Held) (n key : ℕ) (was : Held) (es : List (ℕ × ℕ)) → AllByRecursion (IsOne n key) es → get slots key ≡ Some was → t was ≡ true → passes_at t (pid_of n) (stands_in slots es) ≡ true
passes_there t slots n key was [] one there passes = refl
passes_there t slots n key was (e ∷ es) one there passes = by_test (eqb e.1 key) refl (passes_there t slots n key was es one.1 there passes)
  where
    or_true : (b : Bool) → ((b || true) && true) ≡ true
    or_true true = refl
    or_true false = refl

    here : (o : Option Held) (m : ℕ) → o ≡ Some was → passes_at t (pid_of n) (stands_in slots es) ≡ true → passes_at t (pid_of n) (in_slot (pid_of m) o (stands_in slots es)) ≡ true
    here None m same more = more
    here (Some q) m same more =
        let passed : t q ≡ true = ap t (same_Some q was same) ∙ passes in
        (λ i. (not (eqb m n) || passed i) && more i) ∙ or_true (not (eqb m n))

    elsewhere : (o : Option Held) (m : ℕ) → eqb m n ≡ false → passes_at t (pid_of n) (stands_in slots es) ≡ true → passes_at t (pid_of n) (in_slot (pid_of m) o (stands_in slots es)) ≡ true
    elsewhere None m other more = more
    elsewhere (Some q) m other more = λ i. ((λ j. (not (other j) || t q) && passes_at t (pid_of n) (stands_in slots es)) ∙ more) i

    by_test : (b : Bool) → eqb e.1 key ≡ b → passes_at t (pid_of n) (stands_in slots es) ≡ true → passes_at t (pid_of n) (stands_in slots (e ∷ es)) ≡ true
    by_test true is more = here (get slots e.1) e.0 (ap (get slots) (eqb-true e.1 key is) ∙ there) more
    by_test false is more = elsewhere (get slots e.1) e.0 (one.0 ∙ is) more

-- ---- a slot is written

-- slots that no entry names may change
pub others_stand : (slots new : Slab Held) (key : ℕ) (o : Option Held) (es : List (ℕ × ℕ)) → Updates slots new key o → AllByRecursion (λ (e : ℕ × ℕ). eqb e.1 key ≡ false) es → stands_in new es ≡ stands_in slots es
others_stand slots new key o [] updates others = refl
others_stand slots new key o (e ∷ es) updates others =
    let other : e.1 ≢ key = λ same. true≢false (sym (eq-eqb e.1 key same) ∙ others.0) in
    λ i. in_slot (pid_of e.0) (updates.others e.1 other i) (others_stand slots new key o es updates others.1 i)

-- the process with a pid is written
pub written : (slots new : Slab Held) (n key : ℕ) (was now : Held) (g : Pid × Held → Pid × Held) (es : List (ℕ × ℕ)) → AllByRecursion (IsOne n key) es → get slots key ≡ Some was → Updates slots new key (Some now) → g (pid_of n, was) ≡ (pid_of n, now)
    → stands_in new es ≡ map (λ (e : Pid × Held). cond (same_pid e.0 (pid_of n)) (g e) e) (stands_in slots es)
written slots new n key was now g [] one there updates changes = refl
written slots new n key was now g (e ∷ es) one there updates changes = by_test (eqb e.1 key) refl (written slots new n key was now g es one.1 there updates changes)
  where
    here : (o p : Option Held) (m : ℕ) → o ≡ Some was → p ≡ Some now → eqb m n ≡ true → stands_in new es ≡ map (λ (e : Pid × Held). cond (same_pid e.0 (pid_of n)) (g e) e) (stands_in slots es)
        → in_slot (pid_of m) p (stands_in new es) ≡ map (λ (e : Pid × Held). cond (same_pid e.0 (pid_of n)) (g e) e) (in_slot (pid_of m) o (stands_in slots es))
    here None p m is_was is_now same more = cc
    here (Some q) None m is_was is_now same more = cc
    here (Some q) (Some r) m is_was is_now same more =
        let at : m ≡ n = eqb-true m n same in
        let was_is : q ≡ was = same_Some q was is_was in
        let now_is : r ≡ now = same_Some r now is_now in
        let goes : g (pid_of m, q) ≡ (pid_of m, r) = (λ i. g (pid_of (at i), was_is i)) ∙ changes ∙ (λ i. (pid_of (sym at i), sym now_is i)) in
        let head : cond (eqb m n) (g (pid_of m, q)) (pid_of m, q) ≡ (pid_of m, r) = ap (λ b. cond b (g (pid_of m, q)) (pid_of m, q)) same ∙ goes in
        λ i. sym head i ∷ more i

    elsewhere : (o p : Option Held) (m : ℕ) → p ≡ o → eqb m n ≡ false → stands_in new es ≡ map (λ (e : Pid × Held). cond (same_pid e.0 (pid_of n)) (g e) e) (stands_in slots es)
        → in_slot (pid_of m) p (stands_in new es) ≡ map (λ (e : Pid × Held). cond (same_pid e.0 (pid_of n)) (g e) e) (in_slot (pid_of m) o (stands_in slots es))
    elsewhere None p m same other more = ap (λ p. in_slot (pid_of m) p (stands_in new es)) same ∙ more
    elsewhere (Some q) p m same other more = ap (λ p. in_slot (pid_of m) p (stands_in new es)) same ∙ (λ i. cond (sym other i) (g (pid_of m, q)) (pid_of m, q) ∷ more i)

    by_test : (b : Bool) → eqb e.1 key ≡ b → stands_in new es ≡ map (λ (e : Pid × Held). cond (same_pid e.0 (pid_of n)) (g e) e) (stands_in slots es)
        → stands_in new (e ∷ es) ≡ map (λ (e : Pid × Held). cond (same_pid e.0 (pid_of n)) (g e) e) (stands_in slots (e ∷ es))
    by_test true is more =
        let at : e.1 ≡ key = eqb-true e.1 key is in
        here (get slots e.1) (get new e.1) e.0 (ap (get slots) at ∙ there) (ap (get new) at ∙ updates.changed) (one.0 ∙ is) more
    by_test false is more =
        elsewhere (get slots e.1) (get new e.1) e.0 (updates.others e.1 (λ same. true≢false (sym (eq-eqb e.1 key same) ∙ is))) (one.0 ∙ is) more

-- the process with a pid was taken out of its slot
pub taken_out : (slots new : Slab Held) (n key : ℕ) (es : List (ℕ × ℕ)) → AllByRecursion (IsOne n key) es → Updates slots new key None → stands_in new es ≡ filter (λ (e : Pid × Held). not (same_pid e.0 (pid_of n))) (stands_in slots es)
taken_out slots new n key [] one updates = refl
taken_out slots new n key (e ∷ es) one updates = by_test (eqb e.1 key) refl (taken_out slots new n key es one.1 updates)
  where
    here : (o p : Option Held) (m : ℕ) → p ≡ None → eqb m n ≡ true → stands_in new es ≡ filter (λ (e : Pid × Held). not (same_pid e.0 (pid_of n))) (stands_in slots es)
        → in_slot (pid_of m) p (stands_in new es) ≡ filter (λ (e : Pid × Held). not (same_pid e.0 (pid_of n))) (in_slot (pid_of m) o (stands_in slots es))
    here None p m none same more = ap (λ p. in_slot (pid_of m) p (stands_in new es)) none ∙ more
    here (Some q) p m none same more =
        ap (λ p. in_slot (pid_of m) p (stands_in new es)) none ∙ more
        ∙ (λ i. cond (not (sym same i)) ((pid_of m, q) ∷ filter (λ (e : Pid × Held). not (same_pid e.0 (pid_of n))) (stands_in slots es)) (filter (λ (e : Pid × Held). not (same_pid e.0 (pid_of n))) (stands_in slots es)))

    elsewhere : (o p : Option Held) (m : ℕ) → p ≡ o → eqb m n ≡ false → stands_in new es ≡ filter (λ (e : Pid × Held). not (same_pid e.0 (pid_of n))) (stands_in slots es)
        → in_slot (pid_of m) p (stands_in new es) ≡ filter (λ (e : Pid × Held). not (same_pid e.0 (pid_of n))) (in_slot (pid_of m) o (stands_in slots es))
    elsewhere None p m same other more = ap (λ p. in_slot (pid_of m) p (stands_in new es)) same ∙ more
    elsewhere (Some q) p m same other more =
        ap (λ p. in_slot (pid_of m) p (stands_in new es)) same ∙ (λ i. (pid_of m, q) ∷ more i)
        ∙ (λ i. cond (not (sym other i)) ((pid_of m, q) ∷ filter (λ (e : Pid × Held). not (same_pid e.0 (pid_of n))) (stands_in slots es)) (filter (λ (e : Pid × Held). not (same_pid e.0 (pid_of n))) (stands_in slots es)))

    by_test : (b : Bool) → eqb e.1 key ≡ b → stands_in new es ≡ filter (λ (e : Pid × Held). not (same_pid e.0 (pid_of n))) (stands_in slots es)
        → stands_in new (e ∷ es) ≡ filter (λ (e : Pid × Held). not (same_pid e.0 (pid_of n))) (stands_in slots (e ∷ es))
    by_test true is more = here (get slots e.1) (get new e.1) e.0 (ap (get new) (eqb-true e.1 key is) ∙ updates.changed) (one.0 ∙ is) more
    by_test false is more =
        elsewhere (get slots e.1) (get new e.1) e.0 (updates.others e.1 (λ same. true≢false (sym (eq-eqb e.1 key same) ∙ is))) (one.0 ∙ is) more

-- an entry whose slot is empty may go
pub entry_goes : (slots : Slab Held) (t : ℕ → Bool) (key : ℕ) (es : List (ℕ × ℕ)) → lookup t es ≡ Some key → get slots key ≡ None → stands_in slots (remove_entry t es) ≡ stands_in slots es
entry_goes slots t key [] found none = refl
entry_goes slots t key (e ∷ es) found none = by_test (t e.0) found (λ found. entry_goes slots t key es found none)
  where
    by_test : (b : Bool) → cond b (Some e.1) (lookup t es) ≡ Some key → (lookup t es ≡ Some key → stands_in slots (remove_entry t es) ≡ stands_in slots es) → stands_in slots (cond b es (e ∷ remove_entry t es)) ≡ stands_in slots (e ∷ es)
    by_test true found more = ap (λ o. in_slot (pid_of e.0) o (stands_in slots es)) (sym (ap (get slots) (same_Some e.1 key found) ∙ none))
    by_test false found more = ap (λ rest. in_slot (pid_of e.0) (get slots e.1) rest) (more found)
