-- Roots at their start: the maps of their processes, and the pages of their memories.
use Rattle.std.proofs.Common.{◌≡◌, ℕ, ◌+◌, List, [], ◌∷◌, ◌++◌, map, refl, sym, ap, subst, ◌∙◌}
use Rattle.std.specs.List.{AllByRecursion, sum_by}
use Rattle.std.specs.List.Sorted.{IsStrictlySortedBy}
use Rattle.std.specs.BTreeMap.{insert_entry}
use Rattle.std.specs.Ordering.{nat_cmp, match_ordering}
use Rattle.std.specs.declared.cmp.Ordering.TheVariants.{Less}
use Rattle.std.proofs.lemmas.List.{map-append}
use Rattle.std.proofs.lemmas.List.Sums.{sum_by-cons}
use Rattle.std.specs.Map.{values_of}
use Rattle.t32_base.specs.declared.process.Pid.{Pid}
use Rattle.std.proofs.lemmas.Map.Views.{All-values-insert_entry}
use Rattle.proc_state.specs.declared.process.Process.{Process}
use Rattle.proc_state.specs.State.{IsFresh, ProcState, state_of}
use Rattle.plain_kernel.specs.Maps.{AreFresh, load, pid_of, total_load}
use Rattle.plain_kernel.specs.Maps.{processes_of as states_of}
use Rattle.plain_kernel.specs.Starts.{starts_in, starts_load, state_load}
use Rattle.plain_kernel.proofs.Entries.{keys, later_above}

-- ---- as much is to come of the processes as of the roots

pub loads_alike : (es : List (ℕ × Process)) (ss : List (ℕ × ProcState)) → states_of es ≡ starts_in ss → total_load es ≡ starts_load ss
loads_alike es ss same = of_processes es ∙ ap total same ∙ sym (of_starts ss)
  where
    total : List (Pid × ProcState) → ℕ
    total l = sum_by (λ (e : Pid × ProcState). state_load e.1) l

    of_processes : (es : List (ℕ × Process)) → total_load es ≡ total (states_of es)
    of_processes [] = refl
    of_processes (e ∷ es) = sum_by-cons load e.1 (values_of es) ∙ ap (λ n. load e.1 + n) (of_processes es) ∙ sym (sum_by-cons (λ (e : Pid × ProcState). state_load e.1) (pid_of e.0, state_of e.1) (states_of es))

    of_starts : (ss : List (ℕ × ProcState)) → starts_load ss ≡ total (starts_in ss)
    of_starts [] = refl
    of_starts (e ∷ ss) = sum_by-cons state_load e.1 (values_of ss) ∙ ap (λ n. state_load e.1 + n) (of_starts ss) ∙ sym (sum_by-cons (λ (e : Pid × ProcState). state_load e.1) (pid_of e.0, e.1) (starts_in ss))

-- ---- a process more, of the next pid

-- the keys of both maps
same_pids : (es : List (ℕ × Process)) (ss : List (ℕ × ProcState)) → states_of es ≡ starts_in ss → keys es ≡ keys ss
same_pids es ss same = pids_of es ∙ ap (map (λ (e : Pid × ProcState). (e.0).0)) same ∙ sym (pids_in ss)
  where
    pids_of : (es : List (ℕ × Process)) → keys es ≡ map (λ (e : Pid × ProcState). (e.0).0) (states_of es)
    pids_of [] = refl
    pids_of (e ∷ es) = ap (λ ns. e.0 ∷ ns) (pids_of es)

    pids_in : (ss : List (ℕ × ProcState)) → keys ss ≡ map (λ (e : Pid × ProcState). (e.0).0) (starts_in ss)
    pids_in [] = refl
    pids_in (e ∷ ss) = ap (λ ns. e.0 ∷ ns) (pids_in ss)

-- one above all others goes to the end
insert_last : {X : Type 0} → (k : ℕ) (v : X) (es : List (ℕ × X)) → AllByRecursion (λ n. nat_cmp n k ≡ Less) (keys es) → insert_entry nat_cmp es k v ≡ es ++ (k, v) ∷ []
insert_last k v [] below = refl
insert_last k v (e ∷ es) below =
    ap (λ o. match_ordering o ((k, v) ∷ e ∷ es) ((e.0, v) ∷ es) (e ∷ insert_entry nat_cmp es k v)) (later_above e.0 k below.0) ∙ ap (λ r. e ∷ r) (insert_last k v es below.1)

later_key : (P : ℕ → Type 0) (ns : List ℕ) (n : ℕ) (rest : List ℕ) → AllByRecursion P (ns ++ n ∷ rest) → P n
later_key P [] n rest all = all.0
later_key P (m ∷ ns) n rest all = later_key P ns n rest all.1

-- those before one in a list that rises are below it
below_next : (ns : List ℕ) (n : ℕ) (rest : List ℕ) → IsStrictlySortedBy nat_cmp (ns ++ n ∷ rest) → AllByRecursion (λ m. nat_cmp m n ≡ Less) ns
unfolding IsStrictlySortedBy
below_next [] n rest ordered = tt
below_next (m ∷ ns) n rest ordered = (later_key (λ n. nat_cmp m n ≡ Less) ns n rest ordered.0, below_next ns n rest ordered.1)

module _ (es fs : List (ℕ × Process)) (ss : List (ℕ × ProcState)) (s : ℕ × ProcState) (rest : List (ℕ × ProcState)) (p : Process) (ordered : IsStrictlySortedBy nat_cmp (map (λ (e : ℕ × ProcState). e.0) (ss ++ s ∷ rest)))
    (before : states_of es ≡ starts_in ss) (insert : fs ≡ insert_entry nat_cmp es s.0 p) where
  -- the states of the processes of the roots so far
  pub made_more : state_of p ≡ s.1 → states_of fs ≡ starts_in (ss ++ s ∷ [])
  made_more made =
      ap states_of (insert ∙ insert_last s.0 p es (subst (AllByRecursion (λ n. nat_cmp n s.0 ≡ Less)) (sym (same_pids es ss before)) (below_next (keys ss) s.0 (keys rest) (subst (IsStrictlySortedBy nat_cmp) (map-append (λ (e : ℕ × ProcState). e.0) ss (s ∷ rest)) ordered))))
      ∙ map-append (λ (e : ℕ × Process). (pid_of e.0, state_of e.1)) es ((s.0, p) ∷ [])
      ∙ ap (λ l. l ++ (pid_of s.0, state_of p) ∷ []) before
      ∙ ap (λ t. starts_in ss ++ (pid_of s.0, t) ∷ []) made
      ∙ sym (map-append (λ (e : ℕ × ProcState). (pid_of e.0, e.1)) ss (s ∷ []))

  -- each is at its start
  pub fresh_more : AreFresh es → IsFresh p → AreFresh fs
  fresh_more fresh one = subst AreFresh (sym insert) (All-values-insert_entry nat_cmp s.0 p IsFresh es fresh one)
