-- The roots of a map, one after another: those that belong to a cluster come to run there.
use Rattle.std.proofs.Common.{◌≡◌, ℕ, Bool, true, false, ◌&&◌, ◌||◌, cond, eqb, ltb, List, All, [], ◌∷◌, ◌++◌, map, refl, sym, ap, subst, ◌∙◌, append-nil, arith}
use Rattle.std.specs.Prelude.{filter}
use Rattle.std.specs.Map.{values_of}
use Rattle.std.specs.List.{list_all, list_any, AllByRecursion}
use Rattle.std.specs.List.Sorted.{IsStrictlySortedBy}
use Rattle.std.specs.Ordering.{nat_cmp}
use Rattle.std.specs.declared.cmp.Ordering.TheVariants.{Less}
use Rattle.std.proofs.lemmas.Bool.{and_parts}
use Rattle.std.proofs.lemmas.Bool.Decides.{nat_tests}
use Rattle.std.proofs.lemmas.List.{map-append}
use Rattle.std.proofs.lemmas.List.Elements.{All-push}
use Rattle.t32_base.specs.declared.process.Pid.{Pid}
use Rattle.t32_base.specs.declared.process.ClusterNo.{ClusterNo}
use Rattle.proc_state.specs.declared.process.Process.{Process}
use Rattle.proc_state.specs.State.{IsFresh, ProcState, state_of}
use Rattle.plain_kernel.specs.Maps.{pid_of}
use Rattle.plain_kernel.specs.Starts.{starts_in}
use Rattle.bus_msg.specs.Places.{same_pid}
use Rattle.cert_sched.proofs.BootPids.{state_pids}
use Rattle.cluster_core.specs.Booting.{RunFrom, belongs_to, running_at}
use Rattle.residents.specs.Residents.{pids_in}
use Rattle.residents.specs.Changed.{with_more}
use Rattle.residents.specs.Held.{Held, Runs}
use Rattle.cluster_core.proofs.boot.Passing.{passing, pids_pass, pids_under}

-- ---- the next pid is above those before it

abbrev keys : List (ℕ × ProcState) → List ℕ
keys ss = map (λ (e : ℕ × ProcState). e.0) ss

less_is : (n m : ℕ) → nat_cmp n m ≡ Less → ltb n m ≡ true
less_is n m less = grind (arith, nat_tests)

later_one : (P : ℕ → Type 0) (es : List (ℕ × ProcState)) (e : ℕ × ProcState) (rest : List (ℕ × ProcState)) → AllByRecursion P (keys (es ++ e ∷ rest)) → P e.0
later_one P [] e rest all = all.0
later_one P (d ∷ es) e rest all = later_one P es e rest all.1

below_next : (es : List (ℕ × ProcState)) (e : ℕ × ProcState) (rest : List (ℕ × ProcState)) → IsStrictlySortedBy nat_cmp (keys (es ++ e ∷ rest)) → list_all (λ n. ltb n e.0) (keys es) ≡ true
unfolding IsStrictlySortedBy
below_next [] e rest ordered = refl
below_next (d ∷ es) e rest ordered = λ i. less_is d.0 e.0 (later_one (λ n. nat_cmp d.0 n ≡ Less) es e rest ordered.0) i && below_next es e rest ordered.1 i

passing_below : (t test : ℕ → Bool) (ns : List ℕ) → list_all t ns ≡ true → list_all t (filter test ns) ≡ true
passing_below t test [] all = refl
passing_below t test (n ∷ ns) all = by_test (test n) (and_parts (t n) (list_all t ns) all) (passing_below t test ns)
  where
    by_test : (b : Bool) → (t n ≡ true) × (list_all t ns ≡ true) → (list_all t ns ≡ true → list_all t (filter test ns) ≡ true) → list_all t (cond b (n ∷ filter test ns) (filter test ns)) ≡ true
    by_test true parts more = λ i. parts.0 i && more parts.1 i
    by_test false parts more = more parts.1

by_pid : (n : ℕ) (here : List (Pid × Held)) → list_all (λ m. ltb m n) (pids_in here) ≡ true → list_all (λ (d : Pid × Held). ltb (d.0).0 n) here ≡ true
by_pid n [] below = refl
by_pid n (d ∷ here) below = let parts = and_parts (ltb (d.0).0 n) (list_all (λ m. ltb m n) (pids_in here)) below in λ i. parts.0 i && by_pid n here parts.1 i

keys_in : (ss : List (ℕ × ProcState)) → state_pids (starts_in ss) ≡ keys ss
keys_in [] = refl
keys_in (e ∷ ss) = ap (λ ns. e.0 ∷ ns) (keys_in ss)

-- one more above them all is none of them, and stands last
none_same : (pid : Pid) (here : List (Pid × Held)) → list_all (λ (d : Pid × Held). ltb (d.0).0 pid.0) here ≡ true → list_any (λ (d : Pid × Held). same_pid d.0 pid) here ≡ false
none_same pid [] below = refl
none_same pid (d ∷ here) below = let parts = and_parts (ltb (d.0).0 pid.0) (list_all (λ (d : Pid × Held). ltb (d.0).0 pid.0) here) below in λ i. other (d.0).0 pid.0 parts.0 i || none_same pid here parts.1 i
  where
    other : (m n : ℕ) → ltb m n ≡ true → eqb m n ≡ false
    other m n less = grind (arith, nat_tests)

last_more : (pid : Pid) (p : Held) (here : List (Pid × Held)) → list_all (λ (d : Pid × Held). ltb (d.0).0 pid.0) here ≡ true → with_more pid p here ≡ here ++ (pid, p) ∷ []
last_more pid p [] below = refl
last_more pid p (d ∷ here) below =
    let parts = and_parts (ltb (d.0).0 pid.0) (list_all (λ (d : Pid × Held). ltb (d.0).0 pid.0) here) below in
    ap (λ b. cond b ((pid, p) ∷ d ∷ here) (d ∷ with_more pid p here)) (after (d.0).0 pid.0 parts.0) ∙ ap (λ ds. d ∷ ds) (last_more pid p here parts.1)
  where
    after : (m n : ℕ) → ltb m n ≡ true → ltb n m ≡ false
    after m n less = grind (arith, nat_tests)

-- ---- one root more

-- of roots the next one alone may pass at the end
passing_next : (test : ℕ → Bool) (es : List (ℕ × ProcState)) (e : ℕ × ProcState) (b : Bool) → test e.0 ≡ b → passing test (starts_in (es ++ e ∷ [])) ≡ passing test (starts_in es) ++ cond b ((pid_of e.0, e.1) ∷ []) []
passing_next test [] e b is = ap (λ b. cond b ((pid_of e.0, e.1) ∷ []) []) is
passing_next test (d ∷ es) e b is = by_test (test d.0) (passing_next test es e b is)
  where
    by_test : (c : Bool) → passing test (starts_in (es ++ e ∷ [])) ≡ passing test (starts_in es) ++ cond b ((pid_of e.0, e.1) ∷ []) []
        → cond c ((pid_of d.0, d.1) ∷ passing test (starts_in (es ++ e ∷ []))) (passing test (starts_in (es ++ e ∷ [])))
        ≡ cond c ((pid_of d.0, d.1) ∷ passing test (starts_in es)) (passing test (starts_in es)) ++ cond b ((pid_of e.0, e.1) ∷ []) []
    by_test true more = ap (λ l. (pid_of d.0, d.1) ∷ l) more
    by_test false more = more

module _ (number : ClusterNo) (es : List (ℕ × ProcState)) (e : ℕ × ProcState) (rest : List (ℕ × ProcState)) (here : List (Pid × Held)) (ordered : IsStrictlySortedBy nat_cmp (keys (es ++ e ∷ rest))) (run : RunFrom (starts_in es) number here) where
  pids_here : pids_in here ≡ filter (belongs_to number) (keys es)
  pids_here = ap pids_in run.own ∙ pids_under run.all ∙ ap state_pids run.states ∙ pids_pass (belongs_to number) (starts_in es) ∙ ap (filter (belongs_to number)) (keys_in es)

  all_below : list_all (λ (d : Pid × Held). ltb (d.0).0 e.0) here ≡ true
  all_below = by_pid e.0 here (ap (list_all (λ m. ltb m e.0)) pids_here ∙ passing_below (λ m. ltb m e.0) (belongs_to number) (keys es) (below_next es e rest ordered))

  -- it is not here yet
  pub not_here : list_any (λ (d : Pid × Held). same_pid d.0 (pid_of e.0)) here ≡ false
  not_here = none_same (pid_of e.0) here all_below

  -- it belongs here, and comes to run
  pub more_run : (p : Process) → belongs_to number e.0 ≡ true → state_of p ≡ e.1 → IsFresh p → RunFrom (starts_in (es ++ e ∷ [])) number (with_more (pid_of e.0) (Runs p) here)
  more_run p belongs state fresh = record {
    all = run.all ++ (e.0, p) ∷ [];
    states = map-append (λ (d : ℕ × Process). (pid_of d.0, state_of d.1)) run.all ((e.0, p) ∷ [])
        ∙ ap (λ l. l ++ (pid_of e.0, state_of p) ∷ []) run.states
        ∙ ap (λ s. passing (belongs_to number) (starts_in es) ++ (pid_of e.0, s) ∷ []) state
        ∙ sym (passing_next (belongs_to number) es e true belongs);
    fresh = subst (All IsFresh) (sym (map-append (λ (d : ℕ × Process). d.1) run.all ((e.0, p) ∷ []))) (All-push IsFresh (values_of run.all) p run.fresh fresh);
    own = last_more (pid_of e.0) (Runs p) here all_below ∙ ap (λ l. l ++ running_at (e.0, p) ∷ []) run.own ∙ sym (map-append running_at run.all ((e.0, p) ∷ []));
  }

  -- it belongs elsewhere
  pub same_run : belongs_to number e.0 ≡ false → RunFrom (starts_in (es ++ e ∷ [])) number here
  same_run away = record {
    all = run.all;
    states = run.states ∙ sym (append-nil (passing (belongs_to number) (starts_in es))) ∙ sym (passing_next (belongs_to number) es e false away);
    fresh = run.fresh;
    own = run.own;
  }
