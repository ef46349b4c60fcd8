-- Which processes here are to get a new backup by where they are placed, found one after the other in rising pid order.
use Rattle.std.proofs.Common.{◌≡◌, ℕ, refl, sym, ◌∙◌, ap, Bool, ltb, arith, List, [], ◌∷◌, ◌++◌, Option, Some, None, true}
use Rattle.std.specs.Prelude.{option_map}
use Rattle.std.specs.BTreeMap.{insert_entry}
use Rattle.std.specs.List.{cons_option, list_all}
use Rattle.std.specs.Map.{keys_of}
use Rattle.std.specs.Ordering.{nat_cmp}
use Rattle.std.specs.declared.cmp.Ordering.TheVariants.{Greater}
use Rattle.std.proofs.lemmas.Bool.{and_from, and_parts}
use Rattle.std.proofs.lemmas.Bool.Decides.{nat_tests}
use Rattle.std.proofs.lemmas.List.{append_assoc}
use Rattle.t32_base.specs.declared.process.ClusterNo.{ClusterNo}
use Rattle.bus_msg.specs.Places.{Places}
use Rattle.bus_msg.specs.NewBackup.{next_backup_at}
use Rattle.plain_kernel.specs.Maps.{pid_of}
use Rattle.residents.specs.Owing.{owing_in}
use Rattle.residents.specs.Residents.{are_rising}

-- ---- they rise

-- what each of some pids passes each of those among them passes that is to get one
owing_all : (t : ℕ → Bool) (places : Places) (pids : List ℕ) → list_all t pids ≡ true → list_all t (keys_of (owing_in places pids)) ≡ true
owing_all t places [] all = refl
owing_all t places (n ∷ pids) all = by_next (next_backup_at places (pid_of n)) (and_parts (t n) (list_all t pids) all) (owing_all t places pids)
  where
    by_next : (o : Option ClusterNo) → (t n ≡ true) × (list_all t pids ≡ true) → (list_all t pids ≡ true → list_all t (keys_of (owing_in places pids)) ≡ true)
        → list_all t (keys_of (cons_option (option_map (λ k. (n, k)) o) (owing_in places pids))) ≡ true
    by_next (Some k) both more = and_from (t n) (list_all t (keys_of (owing_in places pids))) both.0 (more both.1)
    by_next None both more = more both.1

owing_rises : (places : Places) (pids : List ℕ) → are_rising pids ≡ true → are_rising (keys_of (owing_in places pids)) ≡ true
owing_rises places [] rise = refl
owing_rises places (n ∷ pids) rise = by_next (next_backup_at places (pid_of n)) (owing_rises places pids parts.1)
  where
    parts : (list_all (λ m. ltb n m) pids ≡ true) × (are_rising pids ≡ true)
    parts = and_parts (list_all (λ m. ltb n m) pids) (are_rising pids) rise

    by_next : (o : Option ClusterNo) → are_rising (keys_of (owing_in places pids)) ≡ true → are_rising (keys_of (cons_option (option_map (λ k. (n, k)) o) (owing_in places pids))) ≡ true
    by_next (Some k) more = and_from (list_all (λ m. ltb n m) (keys_of (owing_in places pids))) (are_rising (keys_of (owing_in places pids))) (owing_all (λ m. ltb n m) places pids parts.0) more
    by_next None more = more

-- ---- one is put behind all

-- what all keys pass one of them passes
passes_at : (t : ℕ → Bool) (n : ℕ) (k : ClusterNo) (es rest : List (ℕ × ClusterNo)) → list_all t (keys_of (es ++ (n, k) ∷ rest)) ≡ true → t n ≡ true
passes_at t n k [] rest all = (and_parts (t n) (list_all t (keys_of rest)) all).0
passes_at t n k (e ∷ es) rest all = passes_at t n k es rest (and_parts (t e.0) (list_all t (keys_of (es ++ (n, k) ∷ rest))) all).1

above_it : (n x : ℕ) → ltb x n ≡ true → nat_cmp n x ≡ Greater
above_it n x is = grind (arith, nat_tests)

-- one that stands behind these where all rise is put last
put_last : (n : ℕ) (k : ClusterNo) (es rest : List (ℕ × ClusterNo)) → are_rising (keys_of (es ++ (n, k) ∷ rest)) ≡ true → insert_entry nat_cmp es n k ≡ es ++ (n, k) ∷ []
put_last n k [] rest rise = refl
put_last n k (e ∷ es) rest rise =
    let parts = and_parts (list_all (λ m. ltb e.0 m) (keys_of (es ++ (n, k) ∷ rest))) (are_rising (keys_of (es ++ (n, k) ∷ rest))) rise in
    rw (above_it n e.0 (passes_at (λ m. ltb e.0 m) n k es rest parts.0)) (ap (λ fs. e ∷ fs) (put_last n k es rest parts.1))

-- ---- one after the other

module _ (places : Places) (keys : List ℕ) (n : ℕ) (left : List ℕ) (owing : List (ℕ × ClusterNo)) (found : owing ++ owing_in places (n ∷ left) ≡ owing_in places keys) where
  -- the next of them gets none
  pub found_not : next_backup_at places (pid_of n) ≡ None → owing ++ owing_in places left ≡ owing_in places keys
  found_not none = ap (λ (o : Option ClusterNo). owing ++ cons_option (option_map (λ k. (n, k)) o) (owing_in places left)) (sym none) ∙ found

  -- it gets this cluster
  pub found_more : (to : ClusterNo) → next_backup_at places (pid_of n) ≡ Some to → are_rising keys ≡ true → insert_entry nat_cmp owing n to ++ owing_in places left ≡ owing_in places keys
  found_more to gets rise =
      let all : owing ++ (n, to) ∷ owing_in places left ≡ owing_in places keys =
      ap (λ (o : Option ClusterNo). owing ++ cons_option (option_map (λ k. (n, k)) o) (owing_in places left)) (sym gets) ∙ found in
      let last = put_last n to owing (owing_in places left) (ap (λ es. are_rising (keys_of es)) all ∙ owing_rises places keys rise) in
      ap (λ es. es ++ owing_in places left) last ∙ append_assoc owing ((n, to) ∷ []) (owing_in places left) ∙ all
