-- A search through a table from its first row on.
use Rattle.std.proofs.Common.{◌≡◌, ℕ, ◌+◌, ◌<◌, ◌≤◌, Bool, true, false, ltb, List, [], ◌∷◌, length, get_or, drop, Option, Some, None, refl, sym, ap, ◌∙◌}
use Rattle.std.specs.Str.{bytes_eq}
use Rattle.std.specs.List.{list_all}
use Rattle.std.specs.Prelude.{IfSome}
use Rattle.std.proofs.lemmas.Bool.{and_parts, ltb-true}
use Rattle.std.proofs.lemmas.List.{drop_more, drop_all}
use Rattle.text_parts.specs.Table.{lookup, rows_of}
use denote.Ref.{Bor}

module _ {V : Type 0} (table : List (Bor (List ℕ) × V)) (name : List ℕ) where
  -- the rows from i on have the answer
  pub record IsAmongRest (i : ℕ) : Type 0 where
    pub same : lookup (rows_of (drop i table)) name ≡ lookup (rows_of table) name

  at_row : (i : ℕ) (row : Bor (List ℕ) × V) → i < length table → row ≡ get_or table i row → drop i table ≡ row ∷ drop (i + 1) table
  at_row i row lt is = drop_more table i row lt ∙ ap (λ (r : Bor (List ℕ) × V). r ∷ drop (i + 1) table) (sym is)

  hit : (row : Bor (List ℕ) × V) (rows : List (Bor (List ℕ) × V)) → bytes_eq row.0.now name ≡ true → lookup (rows_of (row ∷ rows)) name ≡ Some row.1
  hit row rows e = rw e refl

  miss : (row : Bor (List ℕ) × V) (rows : List (Bor (List ℕ) × V)) → bytes_eq row.0.now name ≡ false → lookup (rows_of (row ∷ rows)) name ≡ lookup (rows_of rows) name
  miss row rows e = rw e refl

  pub found : (i : ℕ) (row : Bor (List ℕ) × V) → i < length table → row ≡ get_or table i row → bytes_eq row.0.now name ≡ true → IsAmongRest i → Some row.1 ≡ lookup (rows_of table) name
  found i row lt is e rest = sym (hit row (drop (i + 1) table) e) ∙ ap (λ (t : List (Bor (List ℕ) × V)). lookup (rows_of t) name) (sym (at_row i row lt is)) ∙ rest.same

  pub passed : (i : ℕ) (row : Bor (List ℕ) × V) → i < length table → row ≡ get_or table i row → bytes_eq row.0.now name ≡ false → IsAmongRest i → IsAmongRest (i + 1)
  passed i row lt is e rest = record { same = sym (miss row (drop (i + 1) table) e) ∙ ap (λ (t : List (Bor (List ℕ) × V)). lookup (rows_of t) name) (sym (at_row i row lt is)) ∙ rest.same }

  pub not_found : (i : ℕ) → length table ≤ i → IsAmongRest i → None ≡ lookup (rows_of table) name
  not_found i le rest = ap (λ (t : List (Bor (List ℕ) × V)). lookup (rows_of t) name) (sym (drop_all i table le)) ∙ rest.same

-- what holds of each value holds of the one that is found
pub lookup_passes : {V : Type 0} (p : V → Bool) (rows : List (List ℕ × V)) (name : List ℕ) (v : V) → list_all (λ row. p row.1) rows ≡ true → lookup rows name ≡ Some v → p v ≡ true
lookup_passes p [] name v all e = absurd cc
lookup_passes p (row ∷ rows) name v all e = by_name (λ rest f. lookup_passes p rows name v rest f) (bytes_eq row.0 name) refl
  where
    parts : (p row.1 ≡ true) × (list_all (λ r. p r.1) rows ≡ true)
    parts = and_parts (p row.1) (list_all (λ r. p r.1) rows) all

    by_name : (list_all (λ r. p r.1) rows ≡ true → lookup rows name ≡ Some v → p v ≡ true) → (b : Bool) → bytes_eq row.0 name ≡ b → p v ≡ true
    by_name next true h = let f = rw h at e in let same : row.1 ≡ v = cc in ap p (sym same) ∙ parts.0
    by_name next false h = let f = rw h at e in next parts.1 f

pub found_passes : {V : Type 0} (p : V → Bool) (rows : List (List ℕ × V)) (name : List ℕ) (r : Option V) → list_all (λ row. p row.1) rows ≡ true → r ≡ lookup rows name → IfSome r (λ v. p v ≡ true)
found_passes p rows name None all e = tt
found_passes p rows name (Some v) all e = lookup_passes p rows name v all (sym e)

pub below_from_test : (limit : ℕ) (r : Option ℕ) → IfSome r (λ v. ltb v limit ≡ true) → IfSome r (λ v. v < limit)
below_from_test limit None h = tt
below_from_test limit (Some v) h = ltb-true v limit h

-- ---- two names byte by byte

-- the bytes from i on answer for the whole
pub record AreSameBefore (first second : List ℕ) (i : ℕ) : Type 0 where
  pub as_long : length first ≡ length second
  pub same : bytes_eq (drop i first) (drop i second) ≡ bytes_eq first second
