-- The marks of the clusters, one changed or all taken away.
use Rattle.std.proofs.Common.{◌≡◌, ℕ, zero, suc, ◌+◌, ◌<◌, ◌≤◌, refl, sym, ◌∙◌, ap, subst, arith, List, [], ◌∷◌, ◌++◌, map, length, get_or, replicate, Bool, true, false, ◌||◌, eqb, eqb-true, eq-eqb, Option, None, true≢false}
use Rattle.std.specs.Prelude.{slice_get, slice_set, option_and_then}
use Rattle.std.specs.List.{list_any, range_with_len}
use Rattle.std.proofs.lemmas.Bool.Decides.{nat_tests}
use Rattle.std.proofs.lemmas.List.{get_or-set_same, get_or-set_other}
use Rattle.std.proofs.lemmas.Bool.{or_parts}
use Rattle.t32_base.specs.declared.process.ClusterNo.{ClusterNo}
use Rattle.sys_text.specs.declared.system.System.{System}
use Rattle.bus_msg.specs.declared.entry.Entry.{Entry}
use Rattle.bus_msg.specs.Places.{cluster_no}
use Rattle.cert_sched.specs.declared.script.ScriptWord.{ScriptWord}
use Rattle.bus_order.specs.declared.marks.Mark.{Mark}
use Rattle.bus_order.specs.View.{mark_in, no_marks, MarkHolds}

-- the mark of a cluster is the element with its number
pub mark_in-get_or : (marks : List (Option Mark)) (k : ClusterNo) → mark_in marks k ≡ get_or marks k.0 None
mark_in-get_or marks k = at marks k.0
  where
    at : (marks : List (Option Mark)) (i : ℕ) → option_and_then (λ m. m) (slice_get marks i) ≡ get_or marks i None
    at [] i = refl
    at (m ∷ marks) zero = refl
    at (m ∷ marks) (suc i) = at marks i

-- no cluster has a mark where all are taken away, and at the start
pub mark_in-no_marks : (marks : List (Option Mark)) (k : ClusterNo) → mark_in (no_marks marks) k ≡ None
mark_in-no_marks marks k = at marks k.0
  where
    at : (marks : List (Option Mark)) (i : ℕ) → option_and_then (λ m. m) (slice_get (no_marks marks) i) ≡ None
    at [] i = refl
    at (m ∷ marks) zero = refl
    at (m ∷ marks) (suc i) = at marks i

pub mark_in-replicate : (n : ℕ) (k : ClusterNo) → mark_in (replicate n None) k ≡ None
mark_in-replicate n k = at n k.0
  where
    at : (n i : ℕ) → option_and_then {T = Option Mark} (λ m. m) (slice_get (replicate n None) i) ≡ None
    at zero i = refl
    at (suc n) zero = refl
    at (suc n) (suc i) = at n i

-- every mark holds still where one is changed to one that holds
pub holds_set : (system : System) (script : List ScriptWord) (log : List Entry) (marks : List (Option Mark)) (k : ClusterNo) (m : Option Mark) → k.0 < length marks → ((j : ClusterNo) → MarkHolds system script log j (mark_in marks j)) → MarkHolds system script log k m
    → (j : ClusterNo) → MarkHolds system script log j (mark_in (slice_set marks k.0 m) j)
holds_set system script log marks k m within all here j = by_test (eqb j.0 k.0) refl
  where
    by_test : (b : Bool) → eqb j.0 k.0 ≡ b → MarkHolds system script log j (mark_in (slice_set marks k.0 m) j)
    by_test true is =
        let number : j.0 ≡ k.0 = eqb-true j.0 k.0 is in
        let same : k ≡ j = λ i. record { 0 = sym number i } in
        let value : mark_in (slice_set marks k.0 m) k ≡ m = mark_in-get_or (slice_set marks k.0 m) k ∙ get_or-set_same marks k.0 m None within in
        subst (λ j. MarkHolds system script log j (mark_in (slice_set marks k.0 m) j)) same (subst (MarkHolds system script log k) (sym value) here)
    by_test false is =
        let value : mark_in (slice_set marks k.0 m) j ≡ mark_in marks j =
        mark_in-get_or (slice_set marks k.0 m) j ∙ get_or-set_other marks k.0 j.0 m None (λ e. true≢false (sym (eq-eqb j.0 k.0 e) ∙ is)) ∙ sym (mark_in-get_or marks j) in
        subst (MarkHolds system script log j) (sym value) (all j)

-- a mark that is put back
pub marks_restored : (marks : List (Option Mark)) (k : ClusterNo) (m : Option Mark) → slice_set (slice_set marks k.0 m) k.0 (mark_in marks k) ≡ marks
marks_restored marks k m = ap (slice_set (slice_set marks k.0 m) k.0) (mark_in-get_or marks k) ∙ at marks k.0
  where
    at : (marks : List (Option Mark)) (i : ℕ) → slice_set (slice_set marks i m) i (get_or marks i None) ≡ marks
    at [] i = refl
    at (x ∷ marks) zero = refl
    at (x ∷ marks) (suc i) = ap (λ l. x ∷ l) (at marks i)

-- ---- all of them

-- marks of which none is there
pub none_there : (new old : List (Option Mark)) → length new ≡ length old → ((k : ℕ) → k < length new → get_or new k None ≡ None) → new ≡ no_marks old
none_there [] [] same none = refl
none_there [] (m ∷ old) same none = absurd (omega arith)
none_there (n ∷ new) [] same none = absurd (omega arith)
none_there (n ∷ new) (m ∷ old) same none =
    let rest = none_there new old (omega arith) (λ k within. none (suc k) (omega arith)) in
    let first : n ≡ None = none 0 (omega arith) in
    λ i. first i ∷ rest i

-- one more cluster without a mark
pub replicate-more : (n : ℕ) → replicate {A = Option Mark} n None ++ None ∷ [] ≡ replicate (n + 1) None
replicate-more n = last n ∙ ap (λ m. replicate {A = Option Mark} m None) (let e : suc n ≡ n + 1 = omega arith in e)
  where
    last : (n : ℕ) → replicate {A = Option Mark} n None ++ None ∷ [] ≡ replicate (suc n) None
    last zero = refl
    last (suc n) = ap (λ l. None ∷ l) (last n)

-- the clusters by their numbers
pub any_cluster : (t : ClusterNo → Bool) (ns : List ℕ) → list_any t (map cluster_no ns) ≡ list_any (λ n. t (cluster_no n)) ns
any_cluster t [] = refl
any_cluster t (n ∷ ns) = ap (λ b. t (cluster_no n) || b) (any_cluster t ns)

pub none_in_range : (t : ℕ → Bool) (a len : ℕ) → list_any t (range_with_len a len) ≡ false → (k : ℕ) → a ≤ k → k < a + len → t k ≡ false
none_in_range t a zero none k low high = absurd (omega arith)
none_in_range t a (suc len) none k low high = by_test (eqb k a) refl (λ low high. none_in_range t (a + 1) len parts.1 k low high)
  where
    parts : (t a ≡ false) × (list_any t (range_with_len (a + 1) len) ≡ false)
    parts = or_parts (t a) (list_any t (range_with_len (a + 1) len)) none

    by_test : (b : Bool) → eqb k a ≡ b → (a + 1 ≤ k → k < a + 1 + len → t k ≡ false) → t k ≡ false
    by_test true is more = ap t (eqb-true k a is) ∙ parts.0
    by_test false is more = more (above (λ e. true≢false (sym (eq-eqb k a e) ∙ is))) (omega arith)
      where
        above : (k ≡ a → ⊥) → a + 1 ≤ k
        above apart = grind (arith, nat_tests)
