-- Laws of the records in a map by pid: what a change, a removal, one more and a whole removal make of their list.
use Rattle.std.proofs.Common.{◌≡◌, ℕ, Bool, true, false, cond, not, ◌&&◌, eqb, eqb-true, List, [], ◌∷◌, ◌++◌, map, refl, sym, ap, subst, ◌∙◌, arith, Some, None}
use Rattle.std.specs.Prelude.{filter, nat_lt, Result, Ok, Err, OnOk, OnErr}
use Rattle.std.specs.BTreeMap.{is_at, insert_entry}
use Rattle.std.specs.List.{AllByRecursion, list_all}
use Rattle.std.specs.List.Sorted.{IsStrictlySortedBy}
use Rattle.std.specs.Map.{keys_of, values_of, lookup, set_value, remove_entry}
use Rattle.std.specs.Option.{option_to_list}
use Rattle.std.specs.Ordering.{nat_cmp, match_ordering}
use Rattle.std.specs.declared.cmp.Ordering.{Ordering}
use Rattle.std.specs.declared.cmp.Ordering.TheVariants.{Less, Equal, Greater}
use Rattle.std.proofs.lemmas.Bool.{and_parts}
use Rattle.std.proofs.lemmas.Bool.Decides.{nat_tests}
use Rattle.std.proofs.lemmas.Option.{same_Some}
use Rattle.t32_base.specs.declared.process.Pid.{Pid}
use Rattle.t32_base.specs.declared.letter.BackRec.{BackRec}
use Rattle.t32_base.specs.declared.streams.NoMemory.{NoMemory}
use Rattle.bus_msg.specs.Places.{same_pid}
use Rattle.backup_records.specs.Records.{record_in, are_rising, with_record}
use Rattle.backup_records.specs.ByPid.{IsOwn, IsByPid, changed_at, left_after, taken_at}

abbrev pub at : ℕ → ℕ → Bool
at k q = is_at (nat_cmp k) q

-- each key from here on is above another
abbrev AllAbove : ℕ → List (ℕ × BackRec) → Type 0
AllAbove x es = AllByRecursion (λ y. nat_cmp x y ≡ Less) (keys_of es)

-- ---- keys

at_is : (k q : ℕ) → at k q ≡ eqb q k
at_is k q = grind (arith, nat_tests)

turned : (n m : ℕ) → eqb n m ≡ eqb m n
turned n m = grind (arith, nat_tests)

at_own : (k : ℕ) → at k k ≡ true
at_own k = grind (arith, nat_tests)

later_is_other : (x y k : ℕ) → nat_cmp x y ≡ Less → eqb x k ≡ true → eqb y k ≡ false
later_is_other x y k later same = grind (arith, nat_tests)

later_not_at : (x y : ℕ) → nat_cmp x y ≡ Less → at y x ≡ false
later_not_at x y later = grind (arith, nat_tests)

less_is : (n m : ℕ) → nat_cmp n m ≡ Less → nat_lt n m ≡ true
less_is n m h = grind (arith, nat_tests)

equal_is : (n m : ℕ) → nat_cmp n m ≡ Equal → (nat_lt n m ≡ false) × (eqb m n ≡ true)
equal_is n m h = (grind (arith, nat_tests), grind (arith, nat_tests))

greater_is : (n m : ℕ) → nat_cmp n m ≡ Greater → (nat_lt n m ≡ false) × (eqb m n ≡ false)
greater_is n m h = (grind (arith, nat_tests), grind (arith, nat_tests))

not_none : {X : Type 0} → (x : X) → Some x ≡ None → ⊥
not_none x e = cc

-- ---- a look-up

-- the record at a key is that of the process
pub record_found : (p : Pid) (es : List (ℕ × BackRec)) → AllByRecursion IsOwn es → record_in (values_of es) p ≡ lookup (at p.0) es
record_found p [] own = refl
record_found p (e ∷ es) own =
    let same : eqb ((e.1).pid).0 p.0 ≡ at p.0 e.0 = ap (λ n. eqb n p.0) (sym own.0) ∙ sym (at_is p.0 e.0) in
    λ i. cond (same i) (Some e.1) (record_found p es own.1 i)

-- ---- a change

keys_changed : (k : ℕ) (f : BackRec → BackRec) (es : List (ℕ × BackRec)) → keys_of (changed_at k f es) ≡ keys_of es
keys_changed k f [] = refl
keys_changed k f (e ∷ es) = λ i. same (eqb e.0 k) i ∷ keys_changed k f es i
  where
    same : (b : Bool) → (cond b (e.0, f e.1) e).0 ≡ e.0
    same true = refl
    same false = refl

-- where no key is the one, nothing is changed
later_unchanged : (k x : ℕ) (f : BackRec → BackRec) (es : List (ℕ × BackRec)) → AllAbove x es → eqb x k ≡ true → changed_at k f es ≡ es
later_unchanged k x f [] above same = refl
later_unchanged k x f (e ∷ es) above same = λ i. cond (later_is_other x e.0 k above.0 same i) (e.0, f e.1) e ∷ later_unchanged k x f es above.1 same i

pub none_changed : (k : ℕ) (f : BackRec → BackRec) (es : List (ℕ × BackRec)) → lookup (at k) es ≡ None → changed_at k f es ≡ es
none_changed k f [] none = refl
none_changed k f (e ∷ es) none = by_test (eqb e.0 k) refl (subst (λ b. cond b (Some e.1) (lookup (at k) es) ≡ None) (at_is k e.0) none) (λ none. none_changed k f es none)
  where
    by_test : (b : Bool) → eqb e.0 k ≡ b → cond b (Some e.1) (lookup (at k) es) ≡ None → (lookup (at k) es ≡ None → changed_at k f es ≡ es) → changed_at k f (e ∷ es) ≡ e ∷ es
    by_test true is none more = absurd (not_none e.1 none)
    by_test false is none more = λ i. cond (is i) (e.0, f e.1) e ∷ more none i

-- what is written at a key that is there is the change of what stood there
pub written : (k : ℕ) (f : BackRec → BackRec) (was now : BackRec) (es : List (ℕ × BackRec)) → IsStrictlySortedBy nat_cmp (keys_of es) → lookup (at k) es ≡ Some was → now ≡ f was
    → set_value (at k) es now ≡ changed_at k f es
unfolding IsStrictlySortedBy
written k f was now [] ordered found is = cc
written k f was now (e ∷ es) ordered found is =
    ap (λ b. cond b ((e.0, now) ∷ es) (e ∷ set_value (at k) es now)) (at_is k e.0)
    ∙ by_test (eqb e.0 k) refl (subst (λ b. cond b (Some e.1) (lookup (at k) es) ≡ Some was) (at_is k e.0) found) (λ found. written k f was now es ordered.1 found is)
  where
    by_test : (b : Bool) → eqb e.0 k ≡ b → cond b (Some e.1) (lookup (at k) es) ≡ Some was → (lookup (at k) es ≡ Some was → set_value (at k) es now ≡ changed_at k f es)
        → cond b ((e.0, now) ∷ es) (e ∷ set_value (at k) es now) ≡ changed_at k f (e ∷ es)
    by_test true same found more =
        let here : now ≡ f e.1 = is ∙ ap f (sym (same_Some e.1 was found)) in
        (λ i. (e.0, here i) ∷ sym (later_unchanged k e.0 f es ordered.0 same) i) ∙ (λ i. cond (sym same i) (e.0, f e.1) e ∷ changed_at k f es)
    by_test false other found more = λ i. cond (sym other i) (e.0, f e.1) e ∷ more found i

-- the same record written again is no change
pub written_same : (k : ℕ) (was : BackRec) (es : List (ℕ × BackRec)) → lookup (at k) es ≡ Some was → set_value (at k) es was ≡ es
written_same k was [] found = refl
written_same k was (e ∷ es) found = by_test (at k e.0) found (λ found. written_same k was es found)
  where
    by_test : (b : Bool) → cond b (Some e.1) (lookup (at k) es) ≡ Some was → (lookup (at k) es ≡ Some was → set_value (at k) es was ≡ es) → cond b ((e.0, was) ∷ es) (e ∷ set_value (at k) es was) ≡ e ∷ es
    by_test true found more = λ i. (e.0, sym (same_Some e.1 was found) i) ∷ es
    by_test false found more = λ i. e ∷ more found i

-- the list of the records after it
pub values_changed : (p : Pid) (f : BackRec → BackRec) (es : List (ℕ × BackRec)) → AllByRecursion IsOwn es → values_of (changed_at p.0 f es) ≡ map (λ (r : BackRec). cond (same_pid p r.pid) (f r) r) (values_of es)
values_changed p f [] own = refl
values_changed p f (e ∷ es) own =
    let same : eqb e.0 p.0 ≡ eqb p.0 ((e.1).pid).0 = turned e.0 p.0 ∙ ap (eqb p.0) own.0 in
    λ i. (under (eqb e.0 p.0) ∙ ap (λ b. cond b (f e.1) e.1) same) i ∷ values_changed p f es own.1 i
  where
    under : (b : Bool) → (cond b (e.0, f e.1) e).1 ≡ cond b (f e.1) e.1
    under true = refl
    under false = refl

own_changed : (k : ℕ) (f : BackRec → BackRec) (es : List (ℕ × BackRec)) → ((r : BackRec) → (f r).pid ≡ r.pid) → AllByRecursion IsOwn es → AllByRecursion IsOwn (changed_at k f es)
own_changed k f [] keeps own = tt
own_changed k f (e ∷ es) keeps own = (by_test (eqb e.0 k), own_changed k f es keeps own.1)
  where
    by_test : (b : Bool) → IsOwn (cond b (e.0, f e.1) e)
    by_test true = own.0 ∙ ap (λ (p : Pid). p.0) (sym (keeps e.1))
    by_test false = own.0

pub by_pid_changed : (k : ℕ) (f : BackRec → BackRec) (es : List (ℕ × BackRec)) → ((r : BackRec) → (f r).pid ≡ r.pid) → IsByPid es → IsByPid (changed_at k f es)
by_pid_changed k f es keeps is = record {
  ordered = subst (IsStrictlySortedBy nat_cmp) (sym (keys_changed k f es)) is.ordered;
  own = own_changed k f es keeps is.own;
}

-- a change that can be refused keeps them as they have to be
pub by_pid_kept : (r : Result (Unit {0}) NoMemory) (k : ℕ) (f : BackRec → BackRec) (es new : List (ℕ × BackRec)) → ((r : BackRec) → (f r).pid ≡ r.pid)
    → OnOk r (new ≡ changed_at k f es) → OnErr r (new ≡ es) → IsByPid es → IsByPid new
by_pid_kept (Ok done) k f es new keeps ok err is = subst IsByPid (sym ok) (by_pid_changed k f es keeps is)
by_pid_kept (Err fault) k f es new keeps ok err is = subst IsByPid (sym err) is

-- ---- a removal

all_removed : (P : ℕ → Type 0) (t : ℕ → Bool) (es : List (ℕ × BackRec)) → AllByRecursion P (keys_of es) → AllByRecursion P (keys_of (remove_entry t es))
all_removed P t [] ps = tt
all_removed P t (e ∷ es) ps = by_test (t e.0) (all_removed P t es ps.1)
  where
    by_test : (b : Bool) → AllByRecursion P (keys_of (remove_entry t es)) → AllByRecursion P (keys_of (cond b es (e ∷ remove_entry t es)))
    by_test true more = ps.1
    by_test false more = (ps.0, more)

ordered_removed : (t : ℕ → Bool) (es : List (ℕ × BackRec)) → IsStrictlySortedBy nat_cmp (keys_of es) → IsStrictlySortedBy nat_cmp (keys_of (remove_entry t es))
unfolding IsStrictlySortedBy
ordered_removed t [] ordered = tt
ordered_removed t (e ∷ es) ordered = by_test (t e.0) (ordered_removed t es ordered.1)
  where
    by_test : (b : Bool) → IsStrictlySortedBy nat_cmp (keys_of (remove_entry t es)) → IsStrictlySortedBy nat_cmp (keys_of (cond b es (e ∷ remove_entry t es)))
    by_test true more = ordered.1
    by_test false more = (all_removed (λ y. nat_cmp e.0 y ≡ Less) t es ordered.0, more)

own_removed : (t : ℕ → Bool) (es : List (ℕ × BackRec)) → AllByRecursion IsOwn es → AllByRecursion IsOwn (remove_entry t es)
own_removed t [] own = tt
own_removed t (e ∷ es) own = by_test (t e.0) (own_removed t es own.1)
  where
    by_test : (b : Bool) → AllByRecursion IsOwn (remove_entry t es) → AllByRecursion IsOwn (cond b es (e ∷ remove_entry t es))
    by_test true more = own.1
    by_test false more = (own.0, more)

pub by_pid_removed : (k : ℕ) (es : List (ℕ × BackRec)) → IsByPid es → IsByPid (remove_entry (at k) es)
by_pid_removed k es is = record { ordered = ordered_removed (at k) es is.ordered; own = own_removed (at k) es is.own }

later_kept : (p : Pid) (x : ℕ) (es : List (ℕ × BackRec)) → AllByRecursion IsOwn es → AllAbove x es → eqb x p.0 ≡ true → filter (λ (r : BackRec). not (same_pid r.pid p)) (values_of es) ≡ values_of es
later_kept p x [] own above same = refl
later_kept p x (e ∷ es) own above same =
    let other : eqb ((e.1).pid).0 p.0 ≡ false = ap (λ n. eqb n p.0) (sym own.0) ∙ later_is_other x e.0 p.0 above.0 same in
    λ i. cond (not (other i)) (e.1 ∷ later_kept p x es own.1 above.1 same i) (later_kept p x es own.1 above.1 same i)

-- the record of the process is not in the list
values_removed_in : (p : Pid) (es : List (ℕ × BackRec)) → IsStrictlySortedBy nat_cmp (keys_of es) → AllByRecursion IsOwn es → values_of (remove_entry (at p.0) es) ≡ filter (λ (r : BackRec). not (same_pid r.pid p)) (values_of es)
unfolding IsStrictlySortedBy
values_removed_in p [] ordered own = refl
values_removed_in p (e ∷ es) ordered own =
    ap (λ b. values_of (cond b es (e ∷ remove_entry (at p.0) es))) (at_is p.0 e.0)
    ∙ by_test (eqb e.0 p.0) refl (values_removed_in p es ordered.1 own.1)
    ∙ ap (λ n. cond (not (eqb n p.0)) (e.1 ∷ kept es) (kept es)) own.0
  where
    kept : List (ℕ × BackRec) → List BackRec
    kept es = filter (λ (r : BackRec). not (same_pid r.pid p)) (values_of es)

    by_test : (b : Bool) → eqb e.0 p.0 ≡ b → values_of (remove_entry (at p.0) es) ≡ kept es → values_of (cond b es (e ∷ remove_entry (at p.0) es)) ≡ cond (not (eqb e.0 p.0)) (e.1 ∷ kept es) (kept es)
    by_test true is more = sym (later_kept p e.0 es own.1 ordered.0 is) ∙ (λ i. cond (not (sym is i)) (e.1 ∷ kept es) (kept es))
    by_test false is more = (λ i. e.1 ∷ more i) ∙ (λ i. cond (not (sym is i)) (e.1 ∷ kept es) (kept es))

pub values_removed : (p : Pid) (es : List (ℕ × BackRec)) → IsByPid es → values_of (remove_entry (at p.0) es) ≡ filter (λ (r : BackRec). not (same_pid r.pid p)) (values_of es)
values_removed p es is = values_removed_in p es is.ordered is.own

-- ---- one more

pub values_put : (r : BackRec) (es : List (ℕ × BackRec)) → AllByRecursion IsOwn es → values_of (insert_entry nat_cmp es (r.pid).0 r) ≡ with_record r (values_of es)
values_put r [] own = refl
values_put r (e ∷ es) own = by_order (nat_cmp (r.pid).0 e.0) refl (values_put r es own.1)
  where
    by_order : (o : Ordering) → nat_cmp (r.pid).0 e.0 ≡ o → values_of (insert_entry nat_cmp es (r.pid).0 r) ≡ with_record r (values_of es)
        → values_of (match_ordering o (((r.pid).0, r) ∷ e ∷ es) ((e.0, r) ∷ es) (e ∷ insert_entry nat_cmp es (r.pid).0 r)) ≡ with_record r (values_of (e ∷ es))
    by_order Less o more = let t = less_is (r.pid).0 ((e.1).pid).0 (ap (nat_cmp (r.pid).0) (sym own.0) ∙ o) in rw t refl
    by_order Equal o more = let t = equal_is (r.pid).0 ((e.1).pid).0 (ap (nat_cmp (r.pid).0) (sym own.0) ∙ o) in rw (t.0, t.1) refl
    by_order Greater o more = let t = greater_is (r.pid).0 ((e.1).pid).0 (ap (nat_cmp (r.pid).0) (sym own.0) ∙ o) in rw (t.0, t.1) (ap (λ rs. e.1 ∷ rs) more)

pub own_put : (r : BackRec) (es : List (ℕ × BackRec)) → AllByRecursion IsOwn es → AllByRecursion IsOwn (insert_entry nat_cmp es (r.pid).0 r)
own_put r [] own = (refl, tt)
own_put r (e ∷ es) own = by_order (nat_cmp (r.pid).0 e.0) refl (own_put r es own.1)
  where
    by_order : (o : Ordering) → nat_cmp (r.pid).0 e.0 ≡ o → AllByRecursion IsOwn (insert_entry nat_cmp es (r.pid).0 r)
        → AllByRecursion IsOwn (match_ordering o (((r.pid).0, r) ∷ e ∷ es) ((e.0, r) ∷ es) (e ∷ insert_entry nat_cmp es (r.pid).0 r))
    by_order Less o more = (refl, own)
    by_order Equal o more = (sym (eqb-true (r.pid).0 e.0 (grind (arith, nat_tests, o))), own.1)
    by_order Greater o more = (own.0, more)

-- ---- their order

all_above : (r : BackRec) (x : ℕ) (es : List (ℕ × BackRec)) → x ≡ (r.pid).0 → AllByRecursion IsOwn es → AllAbove x es → list_all (λ (s : BackRec). nat_lt (r.pid).0 (s.pid).0) (values_of es) ≡ true
all_above r x [] is own above = refl
all_above r x (e ∷ es) is own above =
    let first : nat_lt (r.pid).0 ((e.1).pid).0 ≡ true = (λ i. nat_lt (sym is i) (sym own.0 i)) ∙ less_is x e.0 above.0 in
    λ i. first i && all_above r x es is own.1 above.1 i

rising_in : (es : List (ℕ × BackRec)) → IsStrictlySortedBy nat_cmp (keys_of es) → AllByRecursion IsOwn es → are_rising (values_of es) ≡ true
unfolding IsStrictlySortedBy
rising_in [] ordered own = refl
rising_in (e ∷ es) ordered own = λ i. all_above e.1 e.0 es own.0 own.1 ordered.0 i && rising_in es ordered.1 own.1 i

pub rising : (es : List (ℕ × BackRec)) → IsByPid es → are_rising (values_of es) ≡ true
rising es is = rising_in es is.ordered is.own

-- ---- several are taken out

pub by_pid_left : (ks : List ℕ) (es : List (ℕ × BackRec)) → IsByPid es → IsByPid (left_after ks es)
by_pid_left [] es is = is
by_pid_left (k ∷ ks) es is = by_pid_left ks (remove_entry (at k) es) (by_pid_removed k es is)

-- where taking them out can be refused
pub by_pid_out : {X : Type 0} → (r : Result X NoMemory) (ks : List ℕ) (es new : List (ℕ × BackRec)) → OnOk r (new ≡ left_after ks es) → OnErr r (new ≡ es) → IsByPid es → IsByPid new
by_pid_out (Ok taken) ks es new ok err is = subst IsByPid (sym ok) (by_pid_left ks es is)
by_pid_out (Err fault) ks es new ok err is = subst IsByPid (sym err) is

-- keys that are none of these leave the first entry, and take nothing of it
first_stays : (e : ℕ × BackRec) (ks : List ℕ) (es : List (ℕ × BackRec)) → AllByRecursion (λ y. nat_cmp e.0 y ≡ Less) ks → left_after ks (e ∷ es) ≡ e ∷ left_after ks es
first_stays e [] es above = refl
first_stays e (k ∷ ks) es above = ap (λ b. left_after ks (cond b es (e ∷ remove_entry (at k) es))) (later_not_at e.0 k above.0) ∙ first_stays e ks (remove_entry (at k) es) above.1

first_untaken : (e : ℕ × BackRec) (ks : List ℕ) (es : List (ℕ × BackRec)) → AllByRecursion (λ y. nat_cmp e.0 y ≡ Less) ks → taken_at ks (e ∷ es) ≡ taken_at ks es
first_untaken e [] es above = refl
first_untaken e (k ∷ ks) es above =
    (λ i. option_to_list (cond (later_not_at e.0 k above.0 i) (Some e.1) (lookup (at k) es)) ++ taken_at ks (cond (later_not_at e.0 k above.0 i) es (e ∷ remove_entry (at k) es)))
    ∙ ap (λ rs. option_to_list (lookup (at k) es) ++ rs) (first_untaken e ks (remove_entry (at k) es) above.1)

-- the keys of the entries that pass a test
abbrev pub keys_that : (BackRec → Bool) → List (ℕ × BackRec) → List ℕ
keys_that test es = keys_of (filter (λ (e : ℕ × BackRec). test e.1) es)

keys_above : (test : BackRec → Bool) (x : ℕ) (es : List (ℕ × BackRec)) → AllAbove x es → AllByRecursion (λ y. nat_cmp x y ≡ Less) (keys_that test es)
keys_above test x [] above = tt
keys_above test x (e ∷ es) above = by_test (test e.1) (keys_above test x es above.1)
  where
    by_test : (b : Bool) → AllByRecursion (λ y. nat_cmp x y ≡ Less) (keys_that test es) → AllByRecursion (λ y. nat_cmp x y ≡ Less) (keys_of (cond b (e ∷ filter (λ (e : ℕ × BackRec). test e.1) es) (filter (λ (e : ℕ × BackRec). test e.1) es)))
    by_test true more = (above.0, more)
    by_test false more = more

-- the records whose keys these are leave, and the others stay
pub taken_that : (test : BackRec → Bool) (es : List (ℕ × BackRec)) → IsStrictlySortedBy nat_cmp (keys_of es) → taken_at (keys_that test es) es ≡ filter test (values_of es)
unfolding IsStrictlySortedBy
taken_that test [] ordered = refl
taken_that test (e ∷ es) ordered = by_test (test e.1) (taken_that test es ordered.1)
  where
    passing : List (ℕ × BackRec)
    passing = filter (λ (e : ℕ × BackRec). test e.1) es

    by_test : (b : Bool) → taken_at (keys_that test es) es ≡ filter test (values_of es) → taken_at (keys_of (cond b (e ∷ passing) passing)) (e ∷ es) ≡ cond b (e.1 ∷ filter test (values_of es)) (filter test (values_of es))
    by_test true more =
        (λ i. option_to_list (cond (at_own e.0 i) (Some e.1) (lookup (at e.0) es)) ++ taken_at (keys_of passing) (cond (at_own e.0 i) es (e ∷ remove_entry (at e.0) es)))
        ∙ ap (λ rs. e.1 ∷ rs) more
    by_test false more = first_untaken e (keys_of passing) es (keys_above test e.0 es ordered.0) ∙ more

pub left_that : (test : BackRec → Bool) (es : List (ℕ × BackRec)) → IsStrictlySortedBy nat_cmp (keys_of es) → values_of (left_after (keys_that test es) es) ≡ filter (λ r. not (test r)) (values_of es)
unfolding IsStrictlySortedBy
left_that test [] ordered = refl
left_that test (e ∷ es) ordered = by_test (test e.1) (left_that test es ordered.1)
  where
    passing : List (ℕ × BackRec)
    passing = filter (λ (e : ℕ × BackRec). test e.1) es

    others : List BackRec
    others = filter (λ r. not (test r)) (values_of es)

    by_test : (b : Bool) → values_of (left_after (keys_that test es) es) ≡ others → values_of (left_after (keys_of (cond b (e ∷ passing) passing)) (e ∷ es)) ≡ cond (not b) (e.1 ∷ others) others
    by_test true more = (λ i. values_of (left_after (keys_of passing) (cond (at_own e.0 i) es (e ∷ remove_entry (at e.0) es)))) ∙ more
    by_test false more = ap values_of (first_stays e (keys_of passing) es (keys_above test e.0 es ordered.0)) ∙ ap (λ rs. e.1 ∷ rs) more

-- so are some of them
above_some : (n : ℕ) (t : BackRec → Bool) (recs : List BackRec) → list_all (λ (s : BackRec). nat_lt n (s.pid).0) recs ≡ true → list_all (λ (s : BackRec). nat_lt n (s.pid).0) (filter t recs) ≡ true
above_some n t [] above = refl
above_some n t (r ∷ recs) above =
    let parts = and_parts (nat_lt n (r.pid).0) (list_all (λ (s : BackRec). nat_lt n (s.pid).0) recs) above in
    by_test (t r) (above_some n t recs parts.1) parts.0
  where
    by_test : (b : Bool) → list_all (λ (s : BackRec). nat_lt n (s.pid).0) (filter t recs) ≡ true → nat_lt n (r.pid).0 ≡ true → list_all (λ (s : BackRec). nat_lt n (s.pid).0) (cond b (r ∷ filter t recs) (filter t recs)) ≡ true
    by_test true more first = λ i. first i && more i
    by_test false more first = more

pub rising_some : (t : BackRec → Bool) (recs : List BackRec) → are_rising recs ≡ true → are_rising (filter t recs) ≡ true
rising_some t [] is = refl
rising_some t (r ∷ recs) is =
    let parts = and_parts (list_all (λ (s : BackRec). nat_lt (r.pid).0 (s.pid).0) recs) (are_rising recs) is in
    by_test (t r) (above_some (r.pid).0 t recs parts.0) (rising_some t recs parts.1)
  where
    by_test : (b : Bool) → list_all (λ (s : BackRec). nat_lt (r.pid).0 (s.pid).0) (filter t recs) ≡ true → are_rising (filter t recs) ≡ true → are_rising (cond b (r ∷ filter t recs) (filter t recs)) ≡ true
    by_test true above more = λ i. above i && more i
    by_test false above more = more
