-- Records by rising pid, and those of them that pass a test of their pid.
use Rattle.std.proofs.Common.{◌≡◌, ℕ, refl, sym, ◌∙◌, ap, arith, List, [], ◌∷◌, map, Bool, true, false, cond, ◌||◌, eqb, eqb-true, Some, None, is_some}
use Rattle.std.specs.Prelude.{filter, nat_lt}
use Rattle.std.specs.List.{list_all, list_any, AllByRecursion}
use Rattle.std.proofs.lemmas.Bool.{and_parts}
use Rattle.std.proofs.lemmas.Bool.Decides.{nat_tests}
use Rattle.t32_base.specs.declared.process.Pid.{Pid}
use Rattle.t32_base.specs.declared.letter.BackRec.{BackRec}
use Rattle.bus_msg.specs.Places.{same_pid}
use Rattle.backup_records.specs.Records.{are_rising, record_in}
use Rattle.page_waits.specs.Begun.{number_of}
use Rattle.residents.proofs.Changing.{pid_same, same_itself}

-- the record that is found of a process has its pid
pub record_pid : (recs : List BackRec) (p : Pid) (r : BackRec) → record_in recs p ≡ Some r → r.pid ≡ p
record_pid [] p r found = cc
record_pid (s ∷ rest) p r found = by_test (same_pid s.pid p) refl found (record_pid rest p r)
  where
    by_test : (b : Bool) → same_pid s.pid p ≡ b → cond b (Some s) (record_in rest p) ≡ Some r → (record_in rest p ≡ Some r → r.pid ≡ p) → r.pid ≡ p
    by_test true is at more = let same : s ≡ r = cc in ap (λ (x : BackRec). x.pid) (sym same) ∙ pid_same s.pid p (eqb-true (s.pid).0 p.0 is)
    by_test false is at more = more at

pub above_found : (n : ℕ) (recs : List BackRec) (p : Pid) (r : BackRec) → list_all (λ (s : BackRec). nat_lt n (s.pid).0) recs ≡ true → record_in recs p ≡ Some r → nat_lt n (r.pid).0 ≡ true
above_found n [] p r above found = cc
above_found n (s ∷ rest) p r above found =
    let parts = and_parts (nat_lt n (s.pid).0) (list_all (λ (s : BackRec). nat_lt n (s.pid).0) rest) above in
    by_test (same_pid s.pid p) found parts.0 (above_found n rest p r parts.1)
  where
    by_test : (b : Bool) → cond b (Some s) (record_in rest p) ≡ Some r → nat_lt n (s.pid).0 ≡ true → (record_in rest p ≡ Some r → nat_lt n (r.pid).0 ≡ true) → nat_lt n (r.pid).0 ≡ true
    by_test true at first more = let same : s ≡ r = cc in ap (λ (x : BackRec). nat_lt n (x.pid).0) (sym same) ∙ first
    by_test false at first more = more at

pub apart : (m n : ℕ) → nat_lt m n ≡ true → eqb m n ≡ false
apart m n below = grind (arith, nat_tests)

-- what holds of each that is found holds of each
pub all_recorded : (P : BackRec → Type 0) (recs : List BackRec) → are_rising recs ≡ true → ((r : BackRec) → record_in recs r.pid ≡ Some r → P r) → AllByRecursion P recs
all_recorded P [] rising each = tt
all_recorded P (r ∷ rest) rising each =
    let parts = and_parts (list_all (λ (s : BackRec). nat_lt (r.pid).0 (s.pid).0) rest) (are_rising rest) rising in (
      each r (ap (λ b. cond b (Some r) (record_in rest r.pid)) (same_itself r.pid)),
      all_recorded P rest parts.1 (λ s there. each s (ap (λ b. cond b (Some r) (record_in rest s.pid)) (apart (r.pid).0 (s.pid).0 (above_found (r.pid).0 rest s.pid s parts.0 there)) ∙ there)),
    )

-- of those that pass the same is found, where the pid passes
pub passing_record : (t : Pid → Bool) (recs : List BackRec) (p : Pid) → record_in (filter (λ (r : BackRec). t r.pid) recs) p ≡ cond (t p) (record_in recs p) None
passing_record t [] p = by_test (t p)
  where
    by_test : (b : Bool) → record_in [] p ≡ cond b (record_in [] p) None
    by_test true = refl
    by_test false = refl
passing_record t (r ∷ rest) p = by_pid (same_pid r.pid p) refl (passing_record t rest p)
  where
    left : List BackRec
    left = filter (λ (r : BackRec). t r.pid) rest

    here : (b : Bool) → t r.pid ≡ b → same_pid r.pid p ≡ true → t p ≡ b → record_in left p ≡ cond (t p) (record_in rest p) None → record_in (cond b (r ∷ left) left) p ≡ cond b (Some r) None
    here true is same passes more = ap (λ b. cond b (Some r) (record_in left p)) same
    here false is same passes more = more ∙ ap (λ b. cond b (record_in rest p) None) passes

    elsewhere : (b : Bool) → same_pid r.pid p ≡ false → record_in left p ≡ cond (t p) (record_in rest p) None → record_in (cond b (r ∷ left) left) p ≡ cond (t p) (record_in rest p) None
    elsewhere true other more = ap (λ b. cond b (Some r) (record_in left p)) other ∙ more
    elsewhere false other more = more

    by_pid : (b : Bool) → same_pid r.pid p ≡ b → record_in left p ≡ cond (t p) (record_in rest p) None → record_in (cond (t r.pid) (r ∷ left) left) p ≡ cond (t p) (cond b (Some r) (record_in rest p)) None
    by_pid true same more =
        let pids : r.pid ≡ p = pid_same r.pid p (eqb-true (r.pid).0 p.0 same) in
        here (t r.pid) refl same (sym (ap t pids)) more ∙ ap (λ q. cond (t q) (Some r) None) pids
    by_pid false other more = elsewhere (t r.pid) other more

-- a process has a record exactly where its number is one of theirs
pub number_there : (recs : List BackRec) (p : Pid) → list_any (λ m. eqb m p.0) (map number_of recs) ≡ is_some (record_in recs p)
number_there [] p = refl
number_there (r ∷ rest) p = by_test (eqb (number_of r) p.0) (number_there rest p)
  where
    by_test : (b : Bool) → list_any (λ m. eqb m p.0) (map number_of rest) ≡ is_some (record_in rest p) → (b || list_any (λ m. eqb m p.0) (map number_of rest)) ≡ is_some (cond b (Some r) (record_in rest p))
    by_test true more = refl
    by_test false more = more
