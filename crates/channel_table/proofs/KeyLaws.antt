-- Laws of a list of entries whose keys are the numbers of their processes.
use Rattle.std.proofs.Common.{◌≡◌, ℕ, zero, suc, ◌<◌, Bool, true, false, not, ◌&&◌, ◌||◌, cond, List, [], ◌∷◌, ◌++◌, map, find, take, length, slice_get, get_or, Option, None, Some, refl, sym, ◌∙◌, ap, subst, arith, nat_eq, eqb}
use Rattle.std.specs.Map.{keys_of, values_of, lookup, set_value}
use Rattle.std.specs.List.{IsDistinct, list_any}
use Rattle.std.specs.Cmp.{nat_eq_equiv}
use Rattle.std.proofs.lemmas.Bool.Decides.{nat_tests}
use Rattle.std.proofs.lemmas.List.{map-append}
use Rattle.std.proofs.lemmas.Map.{lookup-none, keys-set_value}
use Rattle.std.proofs.lemmas.Map.Keys.{IsDistinct-tail}
use Rattle.std.proofs.lemmas.Map.Entries.{none_past_head}
use Rattle.t32_base.proofs.Facts.{eqb_turned}
use Rattle.bus_msg.specs.declared.placed.Placed.{Placed}
use Rattle.indexmap.specs.IndexMap.{set_value_at}
use Rattle.channel_table.specs.Keys.{number_of, IsKeyed, IsTable}
use Rattle.channel_table.specs.Changes.{pids_differ}

keyed_head : (e : ℕ × Placed) (es : List (ℕ × Placed)) → IsKeyed (e ∷ es) → e.0 ≡ number_of e.1
keyed_head e es keyed = cc

keyed_tail : (e : ℕ × Placed) (es : List (ℕ × Placed)) → IsKeyed (e ∷ es) → IsKeyed es
keyed_tail e es keyed = cc

-- what a look-up by number finds is the first process with it
pub lookup-keyed : (n : ℕ) (es : List (ℕ × Placed)) → IsKeyed es → lookup (nat_eq n) es ≡ find (λ q. eqb (number_of q) n) (values_of es)
lookup-keyed n [] keyed = refl
lookup-keyed n (e ∷ es) keyed =
    let test : nat_eq n e.0 ≡ eqb (number_of e.1) n = eqb_turned n e.0 ∙ ap (λ k. eqb k n) (keyed_head e es keyed) in
    let rest = lookup-keyed n es (keyed_tail e es keyed) in
    λ i. cond (test i) (Some e.1) (rest i)

-- f leaves every process but the one with the number n
abbrev pub LeavesOthers : ℕ → (Placed → Placed) → Type 0
LeavesOthers n f = (q : Placed) → eqb (number_of q) n ≡ false → f q ≡ q

abbrev pub KeepsNumbers : (Placed → Placed) → Type 0
KeepsNumbers f = (q : Placed) → number_of (f q) ≡ number_of q

-- where no process has the number n, f changes none
pub map-absent : (n : ℕ) (f : Placed → Placed) → LeavesOthers n f → (es : List (ℕ × Placed)) → IsKeyed es → lookup (nat_eq n) es ≡ None → map f (values_of es) ≡ values_of es
map-absent n f leaves [] keyed none = refl
map-absent n f leaves (e ∷ es) keyed none = by (nat_eq n e.0) refl (λ later. map-absent n f leaves es (keyed_tail e es keyed) later)
  where
    by : (b : Bool) → nat_eq n e.0 ≡ b → (lookup (nat_eq n) es ≡ None → map f (values_of es) ≡ values_of es) → map f (values_of (e ∷ es)) ≡ values_of (e ∷ es)
    by true is more = let found : Some e.1 ≡ None = ap (λ b. cond b (Some e.1) (lookup (nat_eq n) es)) (sym is) ∙ none in cc
    by false is more =
        let same : f e.1 ≡ e.1 = leaves e.1 (ap (λ k. eqb k n) (sym (keyed_head e es keyed)) ∙ eqb_turned e.0 n ∙ is) in
        let rest = more (ap (λ b. cond b (Some e.1) (lookup (nat_eq n) es)) (sym is) ∙ none) in
        λ i. same i ∷ rest i

-- where the process v has the number n, and no two have one number, writing f v in its place is what f does
pub map-present : (n : ℕ) (f : Placed → Placed) → LeavesOthers n f → (es : List (ℕ × Placed)) (v : Placed) → IsKeyed es → IsDistinct nat_eq (keys_of es)
    → lookup (nat_eq n) es ≡ Some v → values_of (set_value (nat_eq n) es (f v)) ≡ map f (values_of es)
map-present n f leaves [] v keyed distinct found = refl
map-present n f leaves (e ∷ es) v keyed distinct found =
    by (nat_eq n e.0) refl (λ later. map-present n f leaves es v (keyed_tail e es keyed) (IsDistinct-tail nat_eq e.0 (keys_of es) distinct) later)
  where
    by : (b : Bool) → nat_eq n e.0 ≡ b → (lookup (nat_eq n) es ≡ Some v → values_of (set_value (nat_eq n) es (f v)) ≡ map f (values_of es))
        → values_of (set_value (nat_eq n) (e ∷ es) (f v)) ≡ map f (values_of (e ∷ es))
    by true is more =
        let here : Some e.1 ≡ Some v = ap (λ b. cond b (Some e.1) (lookup (nat_eq n) es)) (sym is) ∙ found in
        let same : v ≡ e.1 = cc in
        let rest = map-absent n f leaves es (keyed_tail e es keyed) (lookup-none (nat_eq n) es (none_past_head nat_eq_equiv n e es distinct is)) in
        ap (λ b. values_of (cond b ((e.0, f v) ∷ es) (e ∷ set_value (nat_eq n) es (f v)))) is ∙ (λ i. f (same i) ∷ sym rest i)
    by false is more =
        let same : f e.1 ≡ e.1 = leaves e.1 (ap (λ k. eqb k n) (sym (keyed_head e es keyed)) ∙ eqb_turned e.0 n ∙ is) in
        let rest = more (ap (λ b. cond b (Some e.1) (lookup (nat_eq n) es)) (sym is) ∙ found) in
        ap (λ b. values_of (cond b ((e.0, f v) ∷ es) (e ∷ set_value (nat_eq n) es (f v)))) is ∙ (λ i. sym same i ∷ rest i)

-- the numbers stay where f keeps them
pub numbers-map : (f : Placed → Placed) → KeepsNumbers f → (qs : List Placed) → map number_of (map f qs) ≡ map number_of qs
numbers-map f keeps [] = refl
numbers-map f keeps (q ∷ qs) = let rest = numbers-map f keeps qs in λ i. keeps q i ∷ rest i

-- what a look-up by number finds has that number
lookup-number : (n : ℕ) (es : List (ℕ × Placed)) (v : Placed) → IsKeyed es → lookup (nat_eq n) es ≡ Some v → eqb (number_of v) n ≡ true
lookup-number n [] v keyed found = cc
lookup-number n (e ∷ es) v keyed found = by (nat_eq n e.0) refl (λ later. lookup-number n es v (keyed_tail e es keyed) later)
  where
    by : (b : Bool) → nat_eq n e.0 ≡ b → (lookup (nat_eq n) es ≡ Some v → eqb (number_of v) n ≡ true) → eqb (number_of v) n ≡ true
    by true is more =
        let here : Some e.1 ≡ Some v = ap (λ b. cond b (Some e.1) (lookup (nat_eq n) es)) (sym is) ∙ found in
        let same : v ≡ e.1 = cc in
        ap (λ q. eqb (number_of q) n) same ∙ ap (λ k. eqb k n) (sym (keyed_head e es keyed)) ∙ eqb_turned e.0 n ∙ is
    by false is more = more (ap (λ b. cond b (Some e.1) (lookup (nat_eq n) es)) (sym is) ∙ found)

-- g, for the process with the number n alone
abbrev pub at_number : ℕ → (Placed → Placed) → Placed → Placed
at_number n g q = cond (eqb (number_of q) n) (g q) q

leaves : (n : ℕ) (g : Placed → Placed) → LeavesOthers n (at_number n g)
leaves n g q other = ap (λ b. cond b (g q) q) other

keeps_by : (b : Bool) (q r : Placed) → number_of r ≡ number_of q → number_of (cond b r q) ≡ number_of q
keeps_by true q r same = same
keeps_by false q r same = refl

-- A change of the process with the number n, where no two have one number: it is written in its place, or no process has that number.
module _ (n : ℕ) (g : Placed → Placed) (keeps : KeepsNumbers g) (es : List (ℕ × Placed)) (keyed : IsKeyed es) where
  pub changed-values : (v : Placed) → IsDistinct nat_eq (keys_of es) → lookup (nat_eq n) es ≡ Some v → values_of (set_value (nat_eq n) es (g v)) ≡ map (at_number n g) (values_of es)
  changed-values v distinct found =
      ap (λ w. values_of (set_value (nat_eq n) es w)) (sym (ap (λ b. cond b (g v) v) (lookup-number n es v keyed found)))
      ∙ map-present n (at_number n g) (leaves n g) es v keyed distinct found

  pub changed-table : (v : Placed) → IsDistinct nat_eq (keys_of es) → lookup (nat_eq n) es ≡ Some v → IsTable (set_value (nat_eq n) es (g v))
  changed-table v distinct found = record {
    keyed =
        keys-set_value (nat_eq n) es (g v) ∙ keyed
        ∙ sym (numbers-map (at_number n g) (λ q. keeps_by (eqb (number_of q) n) q (g q) (keeps q)) (values_of es))
        ∙ ap (map number_of) (sym (changed-values v distinct found));
    distinct = subst (IsDistinct nat_eq) (sym (keys-set_value (nat_eq n) es (g v))) distinct;
  }

  pub unchanged-values : lookup (nat_eq n) es ≡ None → values_of es ≡ map (at_number n g) (values_of es)
  unchanged-values none = sym (map-absent n (at_number n g) (leaves n g) es keyed none)

-- ---- one more process

pub values-push : (es : List (ℕ × Placed)) (e : ℕ × Placed) → values_of (es ++ e ∷ []) ≡ values_of es ++ e.1 ∷ []
values-push es e = map-append (λ (x : ℕ × Placed). x.1) es (e ∷ [])

pub keyed-push : (es : List (ℕ × Placed)) (q : Placed) → IsKeyed es → IsKeyed (es ++ (number_of q, q) ∷ [])
keyed-push es q keyed =
    map-append (λ (x : ℕ × Placed). x.0) es ((number_of q, q) ∷ [])
    ∙ ap (λ ks. ks ++ number_of q ∷ []) keyed
    ∙ sym (map-append number_of (values_of es) (q ∷ []))
    ∙ ap (map number_of) (sym (values-push es (number_of q, q)))

-- ---- a process that has not ended

abbrev pub has : ℕ → Placed → Bool
has n q = eqb (number_of q) n && not q.ended

-- nothing where it has ended
abbrev pub if_unended : Option Placed → Option Placed
if_unended None = None
if_unended (Some q) = cond q.ended None (Some q)

find-absent : (n : ℕ) (es : List (ℕ × Placed)) → IsKeyed es → lookup (nat_eq n) es ≡ None → find (has n) (values_of es) ≡ None
find-absent n [] keyed none = refl
find-absent n (e ∷ es) keyed none = by (nat_eq n e.0) refl (λ later. find-absent n es (keyed_tail e es keyed) later)
  where
    by : (b : Bool) → nat_eq n e.0 ≡ b → (lookup (nat_eq n) es ≡ None → find (has n) (values_of es) ≡ None) → find (has n) (values_of (e ∷ es)) ≡ None
    by true is more = let found : Some e.1 ≡ None = ap (λ b. cond b (Some e.1) (lookup (nat_eq n) es)) (sym is) ∙ none in cc
    by false is more =
        let test : eqb (number_of e.1) n ≡ false = ap (λ k. eqb k n) (sym (keyed_head e es keyed)) ∙ eqb_turned e.0 n ∙ is in
        ap (λ b. cond (b && not (e.1).ended) (Some e.1) (find (has n) (values_of es))) test ∙ more (ap (λ b. cond b (Some e.1) (lookup (nat_eq n) es)) (sym is) ∙ none)

-- the first process with this number that has not ended is the one that a look-up finds, where no two have one number
pub find-unended : (n : ℕ) (es : List (ℕ × Placed)) → IsKeyed es → IsDistinct nat_eq (keys_of es) → find (has n) (values_of es) ≡ if_unended (lookup (nat_eq n) es)
find-unended n [] keyed distinct = refl
find-unended n (e ∷ es) keyed distinct = by (nat_eq n e.0) refl (find-unended n es (keyed_tail e es keyed) (IsDistinct-tail nat_eq e.0 (keys_of es) distinct))
  where
    at_head : (b : Bool) → (e.1).ended ≡ b → find (has n) (values_of es) ≡ None → cond (not b) (Some e.1) (find (has n) (values_of es)) ≡ cond b None (Some e.1)
    at_head true is none = none
    at_head false is none = refl

    by : (b : Bool) → nat_eq n e.0 ≡ b → find (has n) (values_of es) ≡ if_unended (lookup (nat_eq n) es) → find (has n) (values_of (e ∷ es)) ≡ if_unended (lookup (nat_eq n) (e ∷ es))
    by true is more =
        let test : eqb (number_of e.1) n ≡ true = ap (λ k. eqb k n) (sym (keyed_head e es keyed)) ∙ eqb_turned e.0 n ∙ is in
        ap (λ b. cond (b && not (e.1).ended) (Some e.1) (find (has n) (values_of es))) test
        ∙ at_head (e.1).ended refl (find-absent n es (keyed_tail e es keyed) (lookup-none (nat_eq n) es (none_past_head nat_eq_equiv n e es distinct is)))
        ∙ ap (λ b. if_unended (cond b (Some e.1) (lookup (nat_eq n) es))) (sym is)
    by false is more =
        let test : eqb (number_of e.1) n ≡ false = ap (λ k. eqb k n) (sym (keyed_head e es keyed)) ∙ eqb_turned e.0 n ∙ is in
        ap (λ b. cond (b && not (e.1).ended) (Some e.1) (find (has n) (values_of es))) test ∙ more
        ∙ ap (λ b. if_unended (cond b (Some e.1) (lookup (nat_eq n) es))) (sym is)

-- ---- a change of every process, from the first on

-- f for the first processes, as many as the number says
abbrev pub changed_first : (Placed → Placed) → ℕ → List (ℕ × Placed) → List (ℕ × Placed)
changed_first f i [] = []
changed_first f zero (e ∷ es) = e ∷ es
changed_first f (suc i) (e ∷ es) = (e.0, f e.1) ∷ changed_first f i es

pub changed_first-zero : (f : Placed → Placed) (es : List (ℕ × Placed)) → changed_first f 0 es ≡ es
changed_first-zero f [] = refl
changed_first-zero f (e ∷ es) = refl

pub length-changed_first : (f : Placed → Placed) (i : ℕ) (es : List (ℕ × Placed)) → length (changed_first f i es) ≡ length es
length-changed_first f i [] = refl
length-changed_first f zero (e ∷ es) = refl
length-changed_first f (suc i) (e ∷ es) = ap suc (length-changed_first f i es)

-- one more is changed by a write in its place
pub changed_first-suc : (f : Placed → Placed) (i : ℕ) (es : List (ℕ × Placed)) (v : Placed) → slice_get (values_of (changed_first f i es)) i ≡ Some v
    → set_value_at (changed_first f i es) i (f v) ≡ changed_first f (suc i) es
changed_first-suc f i [] v at = refl
changed_first-suc f zero (e ∷ es) v at =
    let here : Some e.1 ≡ Some v = at in
    let same : v ≡ e.1 = cc in
    λ i. (e.0, f (same i)) ∷ sym (changed_first-zero f es) i
changed_first-suc f (suc i) (e ∷ es) v at = ap (λ l. (e.0, f e.1) ∷ l) (changed_first-suc f i es v at)

pub keys-changed_first : (f : Placed → Placed) (i : ℕ) (es : List (ℕ × Placed)) → keys_of (changed_first f i es) ≡ keys_of es
keys-changed_first f i [] = refl
keys-changed_first f zero (e ∷ es) = refl
keys-changed_first f (suc i) (e ∷ es) = ap (λ l. e.0 ∷ l) (keys-changed_first f i es)

-- in the end all are changed
pub values-changed_all : (f : Placed → Placed) (es : List (ℕ × Placed)) → values_of (changed_first f (length es) es) ≡ map f (values_of es)
values-changed_all f [] = refl
values-changed_all f (e ∷ es) = ap (λ l. f e.1 ∷ l) (values-changed_all f es)

pub changed_all-table : (f : Placed → Placed) → KeepsNumbers f → (es : List (ℕ × Placed)) → IsTable es → IsTable (changed_first f (length es) es)
changed_all-table f keeps es table = record {
  keyed = keys-changed_first f (length es) es ∙ table.keyed ∙ sym (numbers-map f keeps (values_of es)) ∙ ap (map number_of) (sym (values-changed_all f es));
  distinct = subst (IsDistinct nat_eq) (sym (keys-changed_first f (length es) es)) table.distinct;
}

-- ---- different processes

any-at : (test : Placed → Bool) (qs : List Placed) (i : ℕ) (d : Placed) → list_any test qs ≡ false → i < length qs → test (get_or qs i d) ≡ false
any-at test [] i d none within = absurd (omega arith)
any-at test (q ∷ qs) zero d none within = by (test q) none
  where
    by : (b : Bool) → (b || list_any test qs) ≡ false → b ≡ false
    by true h = h
    by false h = refl
any-at test (q ∷ qs) (suc i) d none within = by (test q) none (λ rest. any-at test qs i d rest (omega arith))
  where
    by : (b : Bool) → (b || list_any test qs) ≡ false → (list_any test qs ≡ false → test (get_or qs i d) ≡ false) → test (get_or qs i d) ≡ false
    by true h more = cc
    by false h more = more h

both : (a b : Bool) → (not a && b) ≡ true → (a ≡ false) × (b ≡ true)
both true b h = cc
both false b h = (refl, h)

-- the processes before one have other numbers
pub find-different : (i : ℕ) (qs : List Placed) (d : Placed) → pids_differ qs ≡ true → i < length qs → find (λ q. eqb (number_of q) (number_of (get_or qs i d))) (take i qs) ≡ None
find-different i [] d different within = absurd (omega arith)
find-different zero (q ∷ qs) d different within = refl
find-different (suc i) (q ∷ qs) d different within =
    let parts = both (list_any (λ p. eqb (number_of p) (number_of q)) qs) (pids_differ qs) different in
    let apart : eqb (number_of q) (number_of (get_or qs i d)) ≡ false =
    eqb_turned (number_of q) (number_of (get_or qs i d)) ∙ any-at (λ p. eqb (number_of p) (number_of q)) qs i d parts.0 (omega arith) in
    ap (λ b. cond b (Some q) (find (λ p. eqb (number_of p) (number_of (get_or qs i d))) (take i qs))) apart
    ∙ find-different i qs d parts.1 (omega arith)

none-any : (test : Placed → Bool) (qs : List Placed) → find test qs ≡ None → list_any test qs ≡ false
none-any test [] none = refl
none-any test (q ∷ qs) none = by (test q) none (λ rest. none-any test qs rest)
  where
    by : (b : Bool) → cond b (Some q) (find test qs) ≡ None → (find test qs ≡ None → list_any test qs ≡ false) → (b || list_any test qs) ≡ false
    by true h more = cc
    by false h more = more h

-- where no two keys are equal, no two processes have one number
pub pids_differ-table : (es : List (ℕ × Placed)) → IsKeyed es → IsDistinct nat_eq (keys_of es) → pids_differ (values_of es) ≡ true
pids_differ-table [] keyed distinct = refl
pids_differ-table (e ∷ es) keyed distinct =
    let own : eqb e.0 e.0 ≡ true = grind (arith, nat_tests) in
    let none : lookup (nat_eq e.0) es ≡ None = lookup-none (nat_eq e.0) es (none_past_head nat_eq_equiv e.0 e es distinct own) in
    let others : list_any (λ p. eqb (number_of p) (number_of e.1)) (values_of es) ≡ false =
    ap (λ n. list_any (λ p. eqb (number_of p) n) (values_of es)) (sym (keyed_head e es keyed))
    ∙ none-any (λ p. eqb (number_of p) e.0) (values_of es) (sym (lookup-keyed e.0 es (keyed_tail e es keyed)) ∙ none) in
    let rest = pids_differ-table es (keyed_tail e es keyed) (IsDistinct-tail nat_eq e.0 (keys_of es) distinct) in
    λ i. not (others i) && rest i
