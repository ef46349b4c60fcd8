-- The processes of a map under their pids, and those of a kernel whose pids pass a test.
use Rattle.std.proofs.Common.{◌≡◌, ℕ, Bool, true, false, ◌||◌, cond, eqb, List, [], ◌∷◌, map, refl, sym, ap, ◌∙◌, Option, Some, None, eqb-true, arith}
use Rattle.std.specs.Prelude.{filter, find, option_map}
use Rattle.std.specs.FinMap as finmap
use Rattle.std.specs.List.{list_any}
use Rattle.std.specs.Map.{lookup}
use Rattle.std.specs.Ordering.{is_eq, nat_cmp}
use Rattle.std.proofs.lemmas.Bool.Decides.{nat_tests}
use Rattle.std.proofs.lemmas.Bool.{or_parts}
use Rattle.t32_base.specs.declared.process.Pid.{Pid}
use Rattle.proc_state.specs.declared.process.Process.{Process}
use Rattle.proc_state.specs.State.{ProcState}
use Rattle.plain_kernel.specs.Kernel.{pid_cmp}
use Rattle.plain_kernel.specs.Maps.{at_key, processes_of as states_of}
use Rattle.bus_msg.specs.Places.{same_pid}
use Rattle.cert_sched.proofs.BootPids.{state_pids}
use Rattle.cert_sched.proofs.RisingLaws.{NoTwo}
use Rattle.cluster_core.specs.Booting.{running_at}
use Rattle.residents.specs.Residents.{pids_in}
use Rattle.residents.specs.Held.{Held, Runs, held_of}
use Rattle.residents.proofs.Slots.{at_key_is}

-- ---- the processes of a map

-- the process with a pid is that of the map
under_pid : (es : List (ℕ × Process)) (p : Pid) → held_of (map running_at es) p ≡ option_map Runs (lookup (at_key p.0) es)
under_pid [] p = refl
under_pid (e ∷ es) p = by_test (eqb e.0 p.0) refl (under_pid es p)
  where
    found : (b : Bool) → eqb e.0 p.0 ≡ b → option_map Runs (cond (at_key p.0 e.0) (Some e.1) (lookup (at_key p.0) es)) ≡ option_map Runs (cond b (Some e.1) (lookup (at_key p.0) es))
    found b same = ap (λ b. option_map Runs (cond b (Some e.1) (lookup (at_key p.0) es))) (at_key_is p.0 e.0 ∙ same)

    first : (b : Bool) → eqb e.0 p.0 ≡ b → held_of (running_at e ∷ map running_at es) p ≡ cond b (Some (Runs e.1)) (held_of (map running_at es) p)
    first true same = ap (λ b. option_map (λ (x : Pid × Held). x.1) (cond b (Some (running_at e)) (find (λ (x : Pid × Held). same_pid x.0 p) (map running_at es)))) same
    first false same = ap (λ b. option_map (λ (x : Pid × Held). x.1) (cond b (Some (running_at e)) (find (λ (x : Pid × Held). same_pid x.0 p) (map running_at es)))) same

    by_test : (b : Bool) → eqb e.0 p.0 ≡ b → held_of (map running_at es) p ≡ option_map Runs (lookup (at_key p.0) es)
        → held_of (running_at e ∷ map running_at es) p ≡ option_map Runs (cond (at_key p.0 e.0) (Some e.1) (lookup (at_key p.0) es))
    by_test true same more = first true same ∙ sym (found true same)
    by_test false same more = first false same ∙ more ∙ sym (found false same)

-- one of them is a process of the map
pub record IsOfMap (es : List (ℕ × Process)) (p : Pid) (h : Held) : Type 0 where
  pub process : Process
  pub found : lookup (at_key p.0) es ≡ Some process
  pub is : h ≡ Runs process

pub process_is : (es : List (ℕ × Process)) (p : Pid) (h : Held) → held_of (map running_at es) p ≡ Some h → IsOfMap es p h
process_is es p h there = by_case (lookup (at_key p.0) es) refl (sym (under_pid es p) ∙ there)
  where
    by_case : (o : Option Process) → lookup (at_key p.0) es ≡ o → option_map Runs o ≡ Some h → IsOfMap es p h
    by_case (Some q) found e = record { process = q; found = found; is = cc }
    by_case None found e = cc

-- their pids are those of their states
pub pids_under : (es : List (ℕ × Process)) → pids_in (map running_at es) ≡ state_pids (states_of es)
pids_under [] = refl
pids_under (e ∷ es) = ap (λ ns. e.0 ∷ ns) (pids_under es)

-- ---- those that pass

abbrev pub passing : (ℕ → Bool) → List (Pid × ProcState) → List (Pid × ProcState)
passing test ss = filter (λ (e : Pid × ProcState). test (e.0).0) ss

same_number : (p q : Pid) → is_eq (pid_cmp p q) ≡ true → q.0 ≡ p.0
same_number p q same = eqb-true q.0 p.0 (both q.0 p.0 same)
  where
    both : (m n : ℕ) → is_eq (nat_cmp n m) ≡ true → eqb m n ≡ true
    both m n is = grind (arith, nat_tests)

-- the process with a pid is that of the kernel, where the pid passes
find_passing : (test : ℕ → Bool) (ss : List (Pid × ProcState)) (p : Pid) → finmap.find pid_cmp p (passing test ss) ≡ cond (test p.0) (finmap.find pid_cmp p ss) None
find_passing test [] p = by_test (test p.0)
  where
    by_test : (b : Bool) → finmap.find pid_cmp p (passing test []) ≡ cond b None None
    by_test true = refl
    by_test false = refl
find_passing test (e ∷ ss) p = by_tests (test (e.0).0) (is_eq (pid_cmp p e.0)) refl refl (find_passing test ss p)
  where
    moved : (b : Bool) → test (e.0).0 ≡ b → is_eq (pid_cmp p e.0) ≡ true → test p.0 ≡ b
    moved b passes same = ap test (sym (same_number p e.0 same)) ∙ passes

    first : (b : Bool) → is_eq (pid_cmp p e.0) ≡ b → finmap.find pid_cmp p (e ∷ passing test ss) ≡ cond b (Some e.1) (finmap.find pid_cmp p (passing test ss))
    first b same = ap (λ b. cond b (Some e.1) (finmap.find pid_cmp p (passing test ss))) same

    found : (b : Bool) → is_eq (pid_cmp p e.0) ≡ b → cond (test p.0) (finmap.find pid_cmp p (e ∷ ss)) None ≡ cond (test p.0) (cond b (Some e.1) (finmap.find pid_cmp p ss)) None
    found b same = ap (λ b. cond (test p.0) (cond b (Some e.1) (finmap.find pid_cmp p ss)) None) same

    by_tests : (b c : Bool) → test (e.0).0 ≡ b → is_eq (pid_cmp p e.0) ≡ c → finmap.find pid_cmp p (passing test ss) ≡ cond (test p.0) (finmap.find pid_cmp p ss) None
        → finmap.find pid_cmp p (cond b (e ∷ passing test ss) (passing test ss)) ≡ cond (test p.0) (finmap.find pid_cmp p (e ∷ ss)) None
    by_tests true true passes same more = first true same ∙ sym (ap (λ t. cond t (Some e.1) None) (moved true passes same)) ∙ sym (found true same)
    by_tests true false passes same more = first false same ∙ more ∙ sym (found false same)
    by_tests false true passes same more =
        more ∙ ap (λ t. cond t (finmap.find pid_cmp p ss) None) (moved false passes same)
        ∙ sym (ap (λ t. cond t (finmap.find pid_cmp p (e ∷ ss)) None) (moved false passes same))
    by_tests false false passes same more = more ∙ sym (found false same)

pub found_passing : (test : ℕ → Bool) (ss : List (Pid × ProcState)) (p : Pid) (s : ProcState) → finmap.find pid_cmp p (passing test ss) ≡ Some s → finmap.find pid_cmp p ss ≡ Some s
found_passing test ss p s there = by_test (test p.0) (sym (find_passing test ss p) ∙ there)
  where
    by_test : (b : Bool) → cond b (finmap.find pid_cmp p ss) None ≡ Some s → finmap.find pid_cmp p ss ≡ Some s
    by_test true e = e
    by_test false e = cc

-- their pids are those that pass
pub pids_pass : (test : ℕ → Bool) (ss : List (Pid × ProcState)) → state_pids (passing test ss) ≡ filter test (state_pids ss)
pids_pass test [] = refl
pids_pass test (e ∷ ss) = by_test (test (e.0).0) (pids_pass test ss)
  where
    by_test : (b : Bool) → state_pids (passing test ss) ≡ filter test (state_pids ss) → state_pids (cond b (e ∷ passing test ss) (passing test ss)) ≡ cond b ((e.0).0 ∷ filter test (state_pids ss)) (filter test (state_pids ss))
    by_test true more = ap (λ ns. (e.0).0 ∷ ns) more
    by_test false more = more

-- no number stands twice among them where none does among all
passing_none : (t test : ℕ → Bool) (ns : List ℕ) → list_any t ns ≡ false → list_any t (filter test ns) ≡ false
passing_none t test [] none = refl
passing_none t test (n ∷ ns) none = by_test (test n) (or_parts (t n) (list_any t ns) none) (passing_none t test ns)
  where
    by_test : (b : Bool) → (t n ≡ false) × (list_any t ns ≡ false) → (list_any t ns ≡ false → list_any t (filter test ns) ≡ false) → list_any t (cond b (n ∷ filter test ns) (filter test ns)) ≡ false
    by_test true parts more = ap (λ b. b || list_any t (filter test ns)) parts.0 ∙ more parts.1
    by_test false parts more = more parts.1

pub passing_apart : (test : ℕ → Bool) (ns : List ℕ) → NoTwo ns → NoTwo (filter test ns)
passing_apart test [] two = tt
passing_apart test (n ∷ ns) two = by_test (test n) (passing_apart test ns two.1)
  where
    by_test : (b : Bool) → NoTwo (filter test ns) → NoTwo (cond b (n ∷ filter test ns) (filter test ns))
    by_test true more = (passing_none (λ m. eqb m n) test ns two.0, more)
    by_test false more = more
