-- A table is looked up in a part of its rows, which their first bytes tell.
use Rattle.std.proofs.Common.{◌≡◌, ℕ, Bool, true, false, cond, List, [], ◌∷◌, Option, Some, refl, sym, ap, ◌∙◌}
use Rattle.std.specs.List.{filter}
use Rattle.std.specs.Str.{bytes_eq}
use Rattle.std.proofs.lemmas.Slice.Eq.{bytes_eq-Decides}
use Rattle.text_parts.specs.Table.{lookup}
use Rattle.rv_asm.specs.FirstByte.{first_byte}

-- the rows whose first byte passes answer for a name whose first byte passes
pub parted : {V : Type 0} (p : ℕ → Bool) (rows : List (List ℕ × V)) (name : List ℕ) → p (first_byte name) ≡ true → lookup (filter (λ row. p (first_byte row.0)) rows) name ≡ lookup rows name
parted p [] name own = refl
parted {V} p (row ∷ rows) name own = by_test (parted p rows name own) (p (first_byte row.0)) refl
  where
    other : p (first_byte row.0) ≡ false → (t : Bool) → bytes_eq row.0 name ≡ t → bytes_eq row.0 name ≡ false
    other e true f =
        let is : row.0 ≡ name = (bytes_eq-Decides row.0 name).0 f in
        let t : true ≡ false = sym own ∙ ap (λ (n : List ℕ). p (first_byte n)) (sym is) ∙ e in
        absurd cc
    other e false f = f

    miss : bytes_eq row.0 name ≡ false → lookup (row ∷ rows) name ≡ lookup rows name
    miss f = rw f refl

    by_test : lookup (filter (λ r. p (first_byte r.0)) rows) name ≡ lookup rows name → (t : Bool) → p (first_byte row.0) ≡ t → lookup (filter (λ r. p (first_byte r.0)) (row ∷ rows)) name ≡ lookup (row ∷ rows) name
    by_test next true e = rw e (ap (λ (o : Option V). cond (bytes_eq row.0 name) (Some row.1) o) next)
    by_test next false e = rw e (next ∙ sym (miss (other e (bytes_eq row.0 name) refl)))
