-- A value that is changed in its place in an ordered map, seen as a finite map.
use Rattle.std.proofs.Common.{◌≡◌, ℕ, ◌+◌, ◌≤◌, Bool, true, false, cond, List, [], ◌∷◌, map, refl, sym, ap, subst, ◌∙◌, arith, Option, Some, None, IsSome, is_some, option_map}
use Rattle.std.specs.List.{sum_by, AllByRecursion}
use Rattle.std.specs.List.Sorted.{IsStrictlySortedBy}
use Rattle.std.proofs.lemmas.List.Sums.{sum_by-cons}
use Rattle.std.proofs.lemmas.Map.Entries.{sum_by-set_value}
use Rattle.std.proofs.lemmas.Map.Views.{IfSome-lookup_from_All}
use Rattle.std.specs.Option.{IfSome}
use Rattle.std.proofs.lemmas.Bool.Decides.{nat_tests}
use Rattle.std.proofs.lemmas.Bool.{false≢true}
use Rattle.std.specs.BTreeMap.{insert_entry}
use Rattle.std.specs.Ordering.{nat_cmp, is_eq, match_ordering}
use Rattle.std.specs.declared.cmp.Ordering.{Ordering}
use Rattle.std.specs.declared.cmp.Ordering.TheVariants.{Less, Equal, Greater}
use Rattle.std.specs.Map.{lookup, set_value, values_of}
use Rattle.std.specs.FinMap.{put}
use Rattle.std.specs.FinMap.Entries.{by_order as in_order}
use Rattle.std.specs.FinMap as finmap
use Rattle.std.proofs.lemmas.Cmp.{nat_cmp_total}
use Rattle.std.specs.Cmp.{tied_itself}
use Rattle.std.proofs.lemmas.Option.{same_Some}
use Rattle.proc_state.specs.declared.process.Process.{Process}
use Rattle.proc_state.specs.State.{IsFresh, ProcState, state_of}
use Rattle.plain_kernel.specs.Kernel.{pid_cmp}
use Rattle.plain_kernel.specs.Starts.{starts_in}
use Rattle.plain_kernel.specs.Maps.{at_key, pid_of, processes_of, load, total_load, AreFresh, Changes, SameBut}

pub tied : (n : ℕ) → nat_cmp n n ≡ Equal
tied n = tied_itself nat_cmp_total n

abbrev pub keys : {X : Type 0} → List (ℕ × X) → List ℕ
keys es = map (λ e. e.0) es

-- ---- keys in order

below_not_equal : (k x y : ℕ) → nat_cmp k x ≡ Less → nat_cmp x y ≡ Less → at_key k y ≡ false
below_not_equal k x y p q = grind (arith, nat_tests)

pub later_no_key : (x y : ℕ) → nat_cmp x y ≡ Less → at_key y x ≡ false
later_no_key x y h = grind (arith, nat_tests)

pub later_above : (x y : ℕ) → nat_cmp x y ≡ Less → nat_cmp y x ≡ Greater
later_above x y h = grind (arith, nat_tests)

not_there : {X : Type 0} → (k x : ℕ) (es : List (ℕ × X)) → nat_cmp k x ≡ Less → AllByRecursion (λ y. nat_cmp x y ≡ Less) (keys es) → lookup (at_key k) es ≡ None
not_there k x [] p h = refl
not_there k x (e ∷ es) p h = rw (below_not_equal k x e.0 p h.0) (not_there k x es p h.1)

none_is_no_some : {X : Type 0} → (o : Option X) → o ≡ None → IsSome o → ⊥
none_is_no_some None e h = absurd (false≢true h)
none_is_no_some (Some x) e h = cc

-- a value written at a key that is there is put there
pub put_here : {X : Type 0} → (k : ℕ) (w : X) (es : List (ℕ × X)) → IsStrictlySortedBy nat_cmp (keys es) → IsSome (lookup (at_key k) es) → set_value (at_key k) es w ≡ put nat_cmp k w es
unfolding IsStrictlySortedBy
put_here k w [] s h = absurd (false≢true h)
put_here k w (e ∷ es) s h = by_order (nat_cmp k e.0) refl h (λ later. put_here k w es s.1 later)
  where
    by_order : (o : Ordering) → nat_cmp k e.0 ≡ o → IsSome (cond (is_eq o) (Some e.1) (lookup (at_key k) es)) → (IsSome (lookup (at_key k) es) → set_value (at_key k) es w ≡ put nat_cmp k w es)
        → set_value (at_key k) (e ∷ es) w ≡ put nat_cmp k w (e ∷ es)
    by_order Less o h ih = absurd (none_is_no_some _ (not_there k e.0 es o s.0) h)
    by_order Equal o h ih = rw o refl
    by_order Greater o h ih = rw o (ap (λ r. e ∷ r) (ih h))

-- the same of entries whose states are seen by pid; the state is any
pub put_seen : {X : Type 0} → (f : X → ProcState) (k : ℕ) (w : X) (es : List (ℕ × X)) → IsStrictlySortedBy nat_cmp (keys es) → IsSome (lookup (at_key k) es)
    → map (λ (e : ℕ × X). (pid_of e.0, f e.1)) (set_value (at_key k) es w) ≡ put pid_cmp (pid_of k) (f w) (map (λ (e : ℕ × X). (pid_of e.0, f e.1)) es)
unfolding IsStrictlySortedBy
put_seen f k w [] s h = absurd (false≢true h)
put_seen {X = X} f k w (e ∷ es) s h = by_order (nat_cmp k e.0) refl h (λ later. put_seen f k w es s.1 later)
  where
    by_order : (o : Ordering) → nat_cmp k e.0 ≡ o → IsSome (cond (is_eq o) (Some e.1) (lookup (at_key k) es))
        → (IsSome (lookup (at_key k) es) → map (λ (e : ℕ × X). (pid_of e.0, f e.1)) (set_value (at_key k) es w) ≡ put pid_cmp (pid_of k) (f w) (map (λ (e : ℕ × X). (pid_of e.0, f e.1)) es))
        → map (λ (e : ℕ × X). (pid_of e.0, f e.1)) (set_value (at_key k) (e ∷ es) w) ≡ put pid_cmp (pid_of k) (f w) (map (λ (e : ℕ × X). (pid_of e.0, f e.1)) (e ∷ es))
    by_order Less o h ih = absurd (none_is_no_some _ (not_there k e.0 es o s.0) h)
    by_order Equal o h ih = rw o refl
    by_order Greater o h ih = rw o (ap (λ r. (pid_of e.0, f e.1) ∷ r) (ih h))

pub put_state : (k : ℕ) (w : Process) (es : List (ℕ × Process)) → IsStrictlySortedBy nat_cmp (keys es) → IsSome (lookup (at_key k) es)
    → processes_of (set_value (at_key k) es w) ≡ put pid_cmp (pid_of k) (state_of w) (processes_of es)
put_state k w es s h = put_seen state_of k w es s h

-- one that is inserted is put, seen by pid
pub insert_seen : {X : Type 0} → (f : X → ProcState) (k : ℕ) (w : X) (es : List (ℕ × X)) → map (λ (e : ℕ × X). (pid_of e.0, f e.1)) (insert_entry nat_cmp es k w) ≡ put pid_cmp (pid_of k) (f w) (map (λ (e : ℕ × X). (pid_of e.0, f e.1)) es)
insert_seen f k w [] = refl
insert_seen {X = X} f k w (e ∷ es) =
    elim (nat_cmp k e.0) as (λ o. map (λ (e : ℕ × X). (pid_of e.0, f e.1)) (match_ordering o ((k, w) ∷ e ∷ es) ((e.0, w) ∷ es) (e ∷ insert_entry nat_cmp es k w))
    ≡ in_order o ((pid_of k, f w) ∷ map (λ (e : ℕ × X). (pid_of e.0, f e.1)) (e ∷ es)) ((pid_of e.0, f w) ∷ map (λ (e : ℕ × X). (pid_of e.0, f e.1)) es) ((pid_of e.0, f e.1) ∷ put pid_cmp (pid_of k) (f w) (map (λ (e : ℕ × X). (pid_of e.0, f e.1)) es))) [
      | Less ↦ refl
      | Equal ↦ refl
      | Greater ↦ ap (λ r. (pid_of e.0, f e.1) ∷ r) (insert_seen f k w es)
    ]

-- the look-up of a map is that of the finite map
pub lookup_find : {X : Type 0} → (k : ℕ) (es : List (ℕ × X)) → lookup (at_key k) es ≡ finmap.find nat_cmp k es
lookup_find k [] = refl
lookup_find k (e ∷ es) = ap (λ r. cond (at_key k e.0) (Some e.1) r) (lookup_find k es)

pub lookup_seen : {X : Type 0} → (f : X → ProcState) (k : ℕ) (es : List (ℕ × X)) → finmap.find pid_cmp (pid_of k) (map (λ (e : ℕ × X). (pid_of e.0, f e.1)) es) ≡ option_map f (lookup (at_key k) es)
lookup_seen f k [] = refl
lookup_seen {X = X} f k (e ∷ es) =
    elim (at_key k e.0) as (λ b. cond b (Some (f e.1)) (finmap.find pid_cmp (pid_of k) (map (λ (e : ℕ × X). (pid_of e.0, f e.1)) es)) ≡ option_map f (cond b (Some e.1) (lookup (at_key k) es))) [
      | true ↦ refl
      | false ↦ lookup_seen f k es
    ]

pub lookup_state : (k : ℕ) (es : List (ℕ × Process)) → finmap.find pid_cmp (pid_of k) (processes_of es) ≡ option_map state_of (lookup (at_key k) es)
lookup_state k es = lookup_seen state_of k es

-- of roots at their start, which are seen as their states
pub lookup_start : (k : ℕ) (es : List (ℕ × ProcState)) → finmap.find pid_cmp (pid_of k) (starts_in es) ≡ lookup (at_key k) es
lookup_start k es = lookup_seen (λ s. s) k es ∙ itself (lookup (at_key k) es)
  where
    itself : (o : Option ProcState) → option_map (λ s. s) o ≡ o
    itself None = refl
    itself (Some s) = refl

-- ---- a value that is written in its place

pub written_again : {X : Type 0} → (t : ℕ → Bool) (es : List (ℕ × X)) (v w : X) → set_value t (set_value t es v) w ≡ set_value t es w
written_again t [] v w = refl
written_again t (e ∷ es) v w = by_test (t e.0) refl (written_again t es v w)
  where
    by_test : (b : Bool) → t e.0 ≡ b → set_value t (set_value t es v) w ≡ set_value t es w → set_value t (set_value t (e ∷ es) v) w ≡ set_value t (e ∷ es) w
    by_test true is ih = rw (is, is) refl
    by_test false is ih = rw (is, is) (ap (λ r. e ∷ r) ih)

pub written_same : {X : Type 0} → (t : ℕ → Bool) (es : List (ℕ × X)) (v : X) → lookup t es ≡ Some v → set_value t es v ≡ es
written_same t [] v h = refl
written_same t (e ∷ es) v h = by_test (t e.0) refl h (λ later. written_same t es v later)
  where
    by_test : (b : Bool) → t e.0 ≡ b → cond b (Some e.1) (lookup t es) ≡ Some v → (lookup t es ≡ Some v → set_value t es v ≡ es) → set_value t (e ∷ es) v ≡ e ∷ es
    by_test true is h ih = rw is (ap (λ x. (e.0, x) ∷ es) (sym (same_Some e.1 v h)))
    by_test false is h ih = rw is (ap (λ r. e ∷ r) (ih h))

pub written_there : {X : Type 0} → (t : ℕ → Bool) (es : List (ℕ × X)) (v w : X) → lookup t es ≡ Some v → lookup t (set_value t es w) ≡ Some w
written_there t [] v w h = cc
written_there t (e ∷ es) v w h = by_test (t e.0) refl h (λ later. written_there t es v w later)
  where
    by_test : (b : Bool) → t e.0 ≡ b → cond b (Some e.1) (lookup t es) ≡ Some v → (lookup t es ≡ Some v → lookup t (set_value t es w) ≡ Some w) → lookup t (set_value t (e ∷ es) w) ≡ Some w
    by_test true is h ih = rw (is, is) refl
    by_test false is h ih = rw (is, is) (ih h)

other_key : (k q x : ℕ) → at_key k q ≡ false → at_key k x ≡ true → at_key q x ≡ false
other_key k q x other same = grind (arith, nat_tests)

pub written_other : {X : Type 0} → (k q : ℕ) (es : List (ℕ × X)) (w : X) → at_key k q ≡ false → lookup (at_key q) (set_value (at_key k) es w) ≡ lookup (at_key q) es
written_other k q [] w other = refl
written_other k q (e ∷ es) w other = by_test (at_key k e.0) refl (written_other k q es w other)
  where
    by_test : (b : Bool) → at_key k e.0 ≡ b → lookup (at_key q) (set_value (at_key k) es w) ≡ lookup (at_key q) es → lookup (at_key q) (set_value (at_key k) (e ∷ es) w) ≡ lookup (at_key q) (e ∷ es)
    by_test true is ih = rw (is, other_key k q e.0 other is) refl
    by_test false is ih = rw is (ap (λ r. cond (at_key q e.0) (Some e.1) r) ih)

pub same_keys : {X : Type 0} → (t : ℕ → Bool) (es : List (ℕ × X)) (w : X) → keys (set_value t es w) ≡ keys es
same_keys t [] w = refl
same_keys t (e ∷ es) w = elim (t e.0) as (λ b. keys (cond b ((e.0, w) ∷ es) (e ∷ set_value t es w)) ≡ e.0 ∷ keys es) [ true ↦ refl | false ↦ ap (λ r. e.0 ∷ r) (same_keys t es w) ]

-- a process is there where its map has the same keys
pub still_there : {X : Type 0} → (k : ℕ) (es fs : List (ℕ × X)) → keys fs ≡ keys es → IsSome (lookup (at_key k) es) → IsSome (lookup (at_key k) fs)
still_there k [] [] same there = there
still_there k [] (f ∷ fs) same there = absurd (false≢true there)
still_there k (e ∷ es) [] same there = cc
still_there k (e ∷ es) (f ∷ fs) same there =
    let first : f.0 ≡ e.0 = ap (head f.0) same in
    let rest : keys fs ≡ keys es = ap tail same in
    by_test (at_key k e.0) refl first there (still_there k es fs rest)
  where
    head : ℕ → List ℕ → ℕ
    head d [] = d
    head d (n ∷ ns) = n

    tail : List ℕ → List ℕ
    tail [] = []
    tail (n ∷ ns) = ns

    by_test : (b : Bool) → at_key k e.0 ≡ b → f.0 ≡ e.0 → IsSome (cond b (Some e.1) (lookup (at_key k) es)) → (IsSome (lookup (at_key k) es) → IsSome (lookup (at_key k) fs)) → IsSome (lookup (at_key k) (f ∷ fs))
    by_test true is first there ih = rw (first, is) refl
    by_test false is first there ih = rw (first, is) (ih there)

-- ---- a number among those that a sum adds

pub one_of_sum : {X : Type 0} → (f : X → ℕ) (test : ℕ → Bool) (es : List (ℕ × X)) (v : X) → lookup test es ≡ Some v → f v ≤ sum_by f (values_of es)
one_of_sum f test [] v h = cc
one_of_sum f test (e ∷ es) v h = by_test (test e.0) h (λ later. one_of_sum f test es v later)
  where
    by_test : (b : Bool) → cond b (Some e.1) (lookup test es) ≡ Some v → (lookup test es ≡ Some v → f v ≤ sum_by f (values_of es)) → f v ≤ sum_by f (values_of (e ∷ es))
    by_test true h ih = let same : e.1 ≡ v = same_Some e.1 v h in omega (arith, sum_by-cons f e.1 (values_of es), ap f same)
    by_test false h ih = omega (arith, sum_by-cons f e.1 (values_of es), ih h)

-- ---- a process that is found

-- one of processes at their start is at its start
pub found_fresh : (es : List (ℕ × Process)) (pid : ℕ) (p : Process) → AreFresh es → lookup (at_key pid) es ≡ Some p → IsFresh p
found_fresh es pid p fresh found = subst (λ (o : Option Process). IfSome o IsFresh) found (IfSome-lookup_from_All IsFresh (at_key pid) es fresh)

-- ---- what follows from a change

pub there_before : (old new : List (ℕ × Process)) (pid : ℕ) (was now : Process) → Changes old new pid was now → IsSome (lookup (at_key pid) old)
there_before old new pid was now c = ap is_some c.found

pub found_after : (old new : List (ℕ × Process)) (pid : ℕ) (was now : Process) → Changes old new pid was now → lookup (at_key pid) new ≡ Some now
found_after old new pid was now c = rw c.entries (written_there (at_key pid) old was now c.found)

pub there_after : (old new : List (ℕ × Process)) (pid : ℕ) (was now : Process) → Changes old new pid was now → IsSome (lookup (at_key pid) new)
there_after old new pid was now c = ap is_some (found_after old new pid was now c)

pub ordered_after : (old new : List (ℕ × Process)) (pid : ℕ) (was now : Process) → Changes old new pid was now → IsStrictlySortedBy nat_cmp (keys new)
ordered_after old new pid was now c = rw c.entries (rw (same_keys (at_key pid) old now) c.ordered)

pub put_after : (old new : List (ℕ × Process)) (pid : ℕ) (was now : Process) → Changes old new pid was now → processes_of new ≡ put pid_cmp (pid_of pid) (state_of now) (processes_of old)
put_after old new pid was now c = ap processes_of c.entries ∙ put_state pid now old c.ordered (there_before old new pid was now c)

pub state_before : (old new : List (ℕ × Process)) (pid : ℕ) (was now : Process) → Changes old new pid was now → finmap.find pid_cmp (pid_of pid) (processes_of old) ≡ Some (state_of was)
state_before old new pid was now c = lookup_state pid old ∙ ap (option_map state_of) c.found

pub load_after : (old new : List (ℕ × Process)) (pid : ℕ) (was now : Process) → Changes old new pid was now → total_load new + load was ≡ total_load old + load now
load_after old new pid was now c = ap (λ es. total_load es + load was) c.entries ∙ sum_by-set_value load (at_key pid) old was now c.found

-- the others are as they were
pub others_stay : (old new : List (ℕ × Process)) (pid : ℕ) (was now : Process) → Changes old new pid was now → SameBut (at_key pid) old new
others_stay old new pid was now c = λ q other. ap (lookup (at_key q)) c.entries ∙ written_other pid q old now other

-- a second change of the same process is one change
pub changes_again : (old mid new : List (ℕ × Process)) (pid : ℕ) (was then now : Process) → Changes old mid pid was then → (again : Process) → Changes mid new pid again now → Changes old new pid was now
changes_again old mid new pid was then now c again d = record {
  found = c.found;
  entries = d.entries ∙ ap (λ es. set_value (at_key pid) es now) c.entries ∙ written_again (at_key pid) old then now;
  ordered = c.ordered;
}

-- what was changed back is as it was
pub changed_back : (old new : List (ℕ × Process)) (pid : ℕ) (was now : Process) → Changes old new pid was now → now ≡ was → new ≡ old
changed_back old new pid was now c same = c.entries ∙ ap (set_value (at_key pid) old) same ∙ written_same (at_key pid) old was c.found
