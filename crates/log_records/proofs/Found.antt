-- What is found among those records that pass a test of their processes.
use Rattle.std.proofs.Common.{◌≡◌, refl, sym, ◌∙◌, ap, List, [], ◌∷◌, Bool, true, false, cond, eqb-true, Some, None}
use Rattle.std.specs.Prelude.{filter}
use Rattle.t32_base.specs.declared.process.Pid.{Pid}
use Rattle.t32_base.specs.declared.letter.BackRec.{BackRec}
use Rattle.t32_base.proofs.Facts.{same_pid_of}
use Rattle.bus_msg.specs.Places.{same_pid}
use Rattle.backup_records.specs.Records.{record_in}

-- those of the processes that pass
abbrev pub passing : (Pid → Bool) → List BackRec → List BackRec
passing t recs = filter (λ (r : BackRec). t r.pid) recs

-- of a process that passes what was found is found, and of any other nothing
pub found_passing : (t : Pid → Bool) (recs : List BackRec) (p : Pid) → record_in (passing t recs) p ≡ cond (t p) (record_in recs p) None
found_passing t [] p = by_test (t p)
  where
    by_test : (b : Bool) → record_in [] p ≡ cond b (record_in [] p) None
    by_test true = refl
    by_test false = refl
found_passing t (r ∷ rest) p = by_pid (same_pid r.pid p) refl (found_passing t rest p)
  where
    left : List BackRec
    left = passing t rest

    here : (b : Bool) → t r.pid ≡ b → same_pid r.pid p ≡ true → t p ≡ b → record_in left p ≡ cond (t p) (record_in rest p) None → record_in (cond b (r ∷ left) left) p ≡ cond b (Some r) None
    here true is same passes more = ap (λ b. cond b (Some r) (record_in left p)) same
    here false is same passes more = more ∙ ap (λ b. cond b (record_in rest p) None) passes

    elsewhere : (b : Bool) → same_pid r.pid p ≡ false → record_in left p ≡ cond (t p) (record_in rest p) None → record_in (cond b (r ∷ left) left) p ≡ cond (t p) (record_in rest p) None
    elsewhere true apart more = ap (λ b. cond b (Some r) (record_in left p)) apart ∙ more
    elsewhere false apart more = more

    by_pid : (b : Bool) → same_pid r.pid p ≡ b → record_in left p ≡ cond (t p) (record_in rest p) None
        → record_in (cond (t r.pid) (r ∷ left) left) p ≡ cond (t p) (cond (same_pid r.pid p) (Some r) (record_in rest p)) None
    by_pid true same more =
        let pids : r.pid ≡ p = same_pid_of r.pid p (eqb-true (r.pid).0 p.0 same) in
        here (t r.pid) refl same (sym (ap t pids)) more
        ∙ ap (λ q. cond (t q) (Some r) None) pids
        ∙ ap (λ b. cond (t p) (cond b (Some r) (record_in rest p)) None) (sym same)
    by_pid false apart more = elsewhere (t r.pid) apart more ∙ ap (λ b. cond (t p) (cond b (Some r) (record_in rest p)) None) (sym apart)
