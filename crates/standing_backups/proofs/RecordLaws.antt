-- The records of a family, one more and all.
use Rattle.std.proofs.Common.{◌≡◌, ℕ, refl, sym, ◌∙◌, ap, subst, List, [], ◌∷◌, ◌++◌, get_or, map, Option, Some, None, is_some, true, false, append_assoc}
use Rattle.std.specs.Prelude.{drop}
use Rattle.std.specs.Option.{option_map_or}
use Rattle.std.specs.List.Sorted.{IsStrictlySortedBy}
use Rattle.std.specs.Ordering.{nat_cmp}
use Rattle.std.proofs.lemmas.List.{map-append}
use Rattle.t32_base.specs.declared.process.Pid.{Pid}
use Rattle.t32_base.specs.declared.letter.BackRec.{BackRec}
use Rattle.plain_kernel.specs.Maps.{pid_of}
use Rattle.backup_mode.specs.Renewal.{AreInOrder, number_of}
use Rattle.residents.specs.Held.{Held}
use Rattle.residents.specs.Records.{record_at}
use Rattle.standing_backups.specs.Standing.{AreNamed, is_stated_at}

-- the record of the next of those that are left
pub one_more : (f : Pid → Option BackRec) (recs : List BackRec) (r : BackRec) (n : ℕ) (rest : List ℕ) → f (pid_of n) ≡ Some r
    → map Some (recs ++ r ∷ []) ++ map f (map pid_of rest) ≡ map Some recs ++ map f (map pid_of (n ∷ rest))
one_more f recs r n rest is =
    ap (λ rs. rs ++ map f (map pid_of rest)) (map-append Some recs (r ∷ []))
    ∙ append_assoc (map Some recs) (Some r ∷ []) (map f (map pid_of rest))
    ∙ ap (λ o. map Some recs ++ o ∷ map f (map pid_of rest)) (sym is)

module _ (here : List (Pid × Held)) (named : AreNamed here) where
  abbrev AreOf : List BackRec → List Pid → Type 0
  AreOf recs pids = map Some recs ≡ map (record_at here) pids

  -- each stands under the pid of its process
  pub pids_are : (recs : List BackRec) (pids : List Pid) → AreOf recs pids → map (λ (r : BackRec). r.pid) recs ≡ pids
  pids_are [] [] is = refl
  pids_are [] (p ∷ pids) is = cc
  pids_are (r ∷ recs) [] is = cc
  pids_are (r ∷ recs) (p ∷ pids) is =
      let first : Some r ≡ record_at here p = ap (λ os. get_or os 0 (Some r)) is in
      let rest : AreOf recs pids = ap (drop 1) is in
      λ i. named p r (sym first) i ∷ pids_are recs pids rest i

  of_pids : (recs : List BackRec) → map number_of recs ≡ map (λ (p : Pid). p.0) (map (λ (r : BackRec). r.pid) recs)
  of_pids [] = refl
  of_pids (r ∷ recs) = ap (λ ns. number_of r ∷ ns) (of_pids recs)

  own_numbers : (ns : List ℕ) → map (λ (p : Pid). p.0) (map pid_of ns) ≡ ns
  own_numbers [] = refl
  own_numbers (n ∷ ns) = ap (λ ns. n ∷ ns) (own_numbers ns)

  pub numbers_are : (recs : List BackRec) (p : Pid) (others : List ℕ) → AreOf recs (p ∷ map pid_of others) → map number_of recs ≡ p.0 ∷ others
  numbers_are recs p others is = of_pids recs ∙ ap (map (λ (p : Pid). p.0)) (pids_are recs (p ∷ map pid_of others) is) ∙ ap (λ ns. p.0 ∷ ns) (own_numbers others)

  at_pids : (recs : List BackRec) → map (record_at here) (map (λ (r : BackRec). r.pid) recs) ≡ map (λ (r : BackRec). record_at here r.pid) recs
  at_pids [] = refl
  at_pids (r ∷ recs) = ap (λ os. record_at here r.pid ∷ os) (at_pids recs)

  -- so each is that of its own process
  pub records_are : (recs : List BackRec) (pids : List Pid) → AreOf recs pids → map Some recs ≡ map (λ (r : BackRec). record_at here r.pid) recs
  records_are recs pids is = is ∙ ap (map (record_at here)) (sym (pids_are recs pids is)) ∙ at_pids recs

  -- where the first has a state and the others rise they are in order
  pub in_order : (recs : List BackRec) (p : Pid) (others : List ℕ) → AreOf recs (p ∷ map pid_of others) → is_stated_at here p.0 ≡ true → IsStrictlySortedBy nat_cmp others
      → AreInOrder recs
  in_order [] p others is stated rising = cc
  in_order (first ∷ rest) p others is stated rising =
      let own : Some first ≡ record_at here p = ap (λ os. get_or os 0 (Some first)) is in (
        ap (λ o. option_map_or (λ (r : BackRec). is_some r.state) o true) own ∙ with_true (record_at here p) stated,
        subst (IsStrictlySortedBy nat_cmp) (sym (ap (drop 1) (numbers_are (first ∷ rest) p others is))) rising,
      )
    where
      with_true : (o : Option BackRec) → option_map_or (λ (r : BackRec). is_some r.state) o false ≡ true → option_map_or (λ (r : BackRec). is_some r.state) o true ≡ true
      with_true None h = refl
      with_true (Some r) h = h
