-- Laws of the list of records where a child is born: what is found of one record more, and of the birth.
use Rattle.std.proofs.Common.{◌≡◌, Bool, true, false, cond, not, eqb, eqb-true, eq-eqb, List, [], ◌∷◌, map, refl, sym, ap, ◌∙◌, Option, Some, None, is_some, option_map}
use Rattle.std.specs.Prelude.{filter, nat_lt}
use Rattle.t32_base.specs.declared.process.Pid.{Pid}
use Rattle.t32_base.specs.declared.letter.BackRec.{BackRec}
use Rattle.bus_msg.specs.Places.{same_pid}
use Rattle.backup_records.specs.Records.{after_birth, record_in, record_of_child, with_child, with_child_of, with_record}
use Rattle.backup_records.proofs.RecordLaws.{record_mapped}

-- ---- one record more

-- where no record of a process is found, none is one of its
none_unlike : (r : BackRec) (p : Pid) (rest : List BackRec) → record_in (r ∷ rest) p ≡ None → (same_pid r.pid p ≡ false) × (record_in rest p ≡ None)
none_unlike r p rest none = by_test (same_pid r.pid p) refl none
  where
    by_test : (b : Bool) → same_pid r.pid p ≡ b → cond b (Some r) (record_in rest p) ≡ None → (same_pid r.pid p ≡ false) × (record_in rest p ≡ None)
    by_test true is e = cc
    by_test false is e = (is, e)

-- it is found
pub record_put : (r : BackRec) (recs : List BackRec) → record_in (with_record r recs) r.pid ≡ Some r
record_put r [] = ap (λ b. cond b (Some r) None) (eq-eqb (r.pid).0 (r.pid).0 refl)
record_put r (s ∷ rest) = by_tests (nat_lt (r.pid).0 (s.pid).0) (same_pid s.pid r.pid) refl (record_put r rest)
  where
    found : (others : List BackRec) → record_in (r ∷ others) r.pid ≡ Some r
    found others = ap (λ b. cond b (Some r) (record_in others r.pid)) (eq-eqb (r.pid).0 (r.pid).0 refl)

    by_tests : (below same : Bool) → same_pid s.pid r.pid ≡ same → record_in (with_record r rest) r.pid ≡ Some r → record_in (cond below (r ∷ s ∷ rest) (cond same (r ∷ rest) (s ∷ with_record r rest))) r.pid ≡ Some r
    by_tests true same is more = found (s ∷ rest)
    by_tests false true is more = found rest
    by_tests false false is more = ap (λ b. cond b (Some s) (record_in (with_record r rest) r.pid)) is ∙ more

-- and every other as before
pub record_put-other : (r : BackRec) (recs : List BackRec) (p : Pid) → same_pid r.pid p ≡ false → record_in (with_record r recs) p ≡ record_in recs p
record_put-other r [] p apart = ap (λ b. cond b (Some r) None) apart
record_put-other r (s ∷ rest) p apart = by_tests (nat_lt (r.pid).0 (s.pid).0) (same_pid s.pid r.pid) refl (record_put-other r rest p apart)
  where
    passed : (others : List BackRec) → record_in (r ∷ others) p ≡ record_in others p
    passed others = ap (λ b. cond b (Some r) (record_in others p)) apart

    by_tests : (below same : Bool) → same_pid s.pid r.pid ≡ same → record_in (with_record r rest) p ≡ record_in rest p → record_in (cond below (r ∷ s ∷ rest) (cond same (r ∷ rest) (s ∷ with_record r rest))) p ≡ record_in (s ∷ rest) p
    by_tests true same is more = passed (s ∷ rest)
    by_tests false true is more =
        let unlike : same_pid s.pid p ≡ false = ap (λ n. eqb n p.0) (eqb-true (s.pid).0 (r.pid).0 is) ∙ apart in
        passed rest ∙ ap (λ b. cond b (Some s) (record_in rest p)) (sym unlike)
    by_tests false false is more = ap (cond (same_pid s.pid p) (Some s)) more

-- where no record of a process is found, all stay without it
pub none_goes : (p : Pid) (recs : List BackRec) → record_in recs p ≡ None → filter (λ (r : BackRec). not (same_pid r.pid p)) recs ≡ recs
none_goes p [] none = refl
none_goes p (r ∷ rest) none =
    let parts = none_unlike r p rest none in
    ap (λ b. cond (not b) (r ∷ others) others) parts.0 ∙ ap (λ rs. r ∷ rs) (none_goes p rest parts.1)
  where
    others : List BackRec
    others = filter (λ (r : BackRec). not (same_pid r.pid p)) rest

-- a record that is put where there was none, and goes again, leaves all as they were
pub put_goes : (r : BackRec) (recs : List BackRec) → record_in recs r.pid ≡ None → filter (λ (s : BackRec). not (same_pid s.pid r.pid)) (with_record r recs) ≡ recs
put_goes r [] none = ap (λ b. cond (not b) (r ∷ []) []) (eq-eqb (r.pid).0 (r.pid).0 refl)
put_goes r (s ∷ rest) none =
    let parts = none_unlike s r.pid rest none in
    by_test (nat_lt (r.pid).0 (s.pid).0) parts.0 (none_goes r.pid (s ∷ rest) none) (put_goes r rest parts.1)
  where
    left : List BackRec → List BackRec
    left recs = filter (λ (s : BackRec). not (same_pid s.pid r.pid)) recs

    by_test : (below : Bool) → same_pid s.pid r.pid ≡ false → left (s ∷ rest) ≡ s ∷ rest → left (with_record r rest) ≡ rest
        → left (cond below (r ∷ s ∷ rest) (cond (same_pid s.pid r.pid) (r ∷ rest) (s ∷ with_record r rest))) ≡ s ∷ rest
    by_test true apart first more = ap (λ b. cond (not b) (r ∷ left (s ∷ rest)) (left (s ∷ rest))) (eq-eqb (r.pid).0 (r.pid).0 refl) ∙ first
    by_test false apart first more =
        ap (λ b. left (cond b (r ∷ rest) (s ∷ with_record r rest))) apart
        ∙ ap (λ b. cond (not b) (s ∷ left (with_record r rest)) (left (with_record r rest))) apart
        ∙ ap (λ rs. s ∷ rs) more

-- ---- a birth

pub child_pid : (parent child : Pid) (r : BackRec) → (with_child_of parent child r).pid ≡ r.pid
child_pid parent child r = by_test (same_pid parent r.pid)
  where
    by_test : (b : Bool) → (cond b (with_child child r) r).pid ≡ r.pid
    by_test true = refl
    by_test false = refl

-- the record that is found is that of the process
pub found_own : (recs : List BackRec) (p : Pid) (r : BackRec) → record_in recs p ≡ Some r → same_pid r.pid p ≡ true
found_own [] p r there = cc
found_own (s ∷ rest) p r there = by_test (same_pid s.pid p) refl there (found_own rest p r)
  where
    by_test : (b : Bool) → same_pid s.pid p ≡ b → cond b (Some s) (record_in rest p) ≡ Some r → (record_in rest p ≡ Some r → same_pid r.pid p ≡ true) → same_pid r.pid p ≡ true
    by_test true is e more = let same : s ≡ r = cc in ap (λ (x : BackRec). same_pid x.pid p) (sym same) ∙ is
    by_test false is e more = more e

module _ (parent child : Pid) (recs : List BackRec) where
  -- where the record of the parent is not here, none has changed
  pub birth-elsewhere : record_in recs parent ≡ None → after_birth parent child recs ≡ recs
  birth-elsewhere none = ap (λ (o : Option BackRec). cond (is_some o) (map (with_child_of parent child) (with_record (record_of_child child) recs)) recs) none

  birth-here : is_some (record_in recs parent) ≡ true → after_birth parent child recs ≡ map (with_child_of parent child) (with_record (record_of_child child) recs)
  birth-here here = ap (λ b. cond b (map (with_child_of parent child) (with_record (record_of_child child) recs)) recs) here

  -- where it is here, the child has one
  pub birth-child : is_some (record_in recs parent) ≡ true → same_pid parent child ≡ false → record_in (after_birth parent child recs) child ≡ Some (record_of_child child)
  birth-child here apart =
      ap (λ rs. record_in rs child) (birth-here here)
      ∙ record_mapped (with_child_of parent child) (child_pid parent child) (with_record (record_of_child child) recs) child
      ∙ ap (option_map (with_child_of parent child)) (record_put (record_of_child child) recs)
      ∙ ap (λ b. Some (cond b (with_child child (record_of_child child)) (record_of_child child))) apart

  -- and every other process has the one that the birth makes of its own
  pub birth-other : (p : Pid) → same_pid child p ≡ false → record_in (after_birth parent child recs) p ≡ option_map (with_child_of parent child) (record_in recs p)
  birth-other p other = by_parent (record_in recs parent) refl
    where
      unlike : (r : BackRec) → record_in recs p ≡ Some r → record_in recs parent ≡ None → (b : Bool) → same_pid parent r.pid ≡ b → r ≡ cond b (with_child child r) r
      unlike r there none true same =
          let number : parent.0 ≡ p.0 = eqb-true parent.0 (r.pid).0 same ∙ eqb-true (r.pid).0 p.0 (found_own recs p r there) in
          let is : parent ≡ p = λ i. record { 0 = number i } in
          let clash : None ≡ Some r = sym none ∙ ap (record_in recs) is ∙ there in
          cc
      unlike r there none false same = refl

      left : record_in recs parent ≡ None → (o : Option BackRec) → record_in recs p ≡ o → o ≡ option_map (with_child_of parent child) o
      left none None there = refl
      left none (Some r) there = ap Some (unlike r there none (same_pid parent r.pid) refl)

      by_parent : (o : Option BackRec) → record_in recs parent ≡ o → record_in (after_birth parent child recs) p ≡ option_map (with_child_of parent child) (record_in recs p)
      by_parent None none = ap (λ rs. record_in rs p) (birth-elsewhere none) ∙ left none (record_in recs p) refl
      by_parent (Some r) there =
          ap (λ rs. record_in rs p) (birth-here (ap is_some there))
          ∙ record_mapped (with_child_of parent child) (child_pid parent child) (with_record (record_of_child child) recs) p
          ∙ ap (option_map (with_child_of parent child)) (record_put-other (record_of_child child) recs p other)
