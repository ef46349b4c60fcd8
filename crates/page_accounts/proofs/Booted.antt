-- The memories of the roots of a kernel at their start, put one after another.
use Rattle.std.proofs.Common.{◌≡◌, ℕ, refl, sym, ◌∙◌, ap, arith, List, [], ◌∷◌, ◌++◌, map, Bool, true, false, cond, eqb, eqb-true, eq-eqb, Some, None, Bor}
use Rattle.std.specs.FinMap as finmap
use Rattle.std.specs.Map.{lookup}
use Rattle.std.specs.Option.{option_map_or}
use Rattle.std.specs.Ordering.{nat_cmp}
use Rattle.std.specs.List.{AllByRecursion}
use Rattle.std.specs.List.Sorted.{IsStrictlySortedBy}
use Rattle.std.specs.declared.cmp.Ordering.TheVariants.{Less}
use Rattle.std.proofs.lemmas.Bool.Decides.{nat_tests}
use Rattle.t32_base.specs.declared.process.Pid.{Pid}
use Rattle.sys_text.specs.declared.system.System.{System}
use Rattle.proc_state.specs.State.{ProcState}
use Rattle.plain_kernel.specs.Kernel.{Kernel, boot, pid_cmp, process_at}
use Rattle.plain_kernel.specs.Maps.{at_key, booted_ttys, linked_processes, pid_of}
use Rattle.plain_kernel.specs.Starts.{starts_in}
use Rattle.plain_kernel.proofs.Entries.{lookup_start}
use Rattle.plain_kernel.proofs.Roots.{booted}
use Rattle.cert_sched.specs.Account.{Account, no_pages, account_after, image_pages}
use Rattle.cert_sched.specs.Told.{told}
use Rattle.page_server.specs.Account.{PagerState, account, Changes}
use Rattle.page_accounts.specs.Booting.{whole_memory}
use Rattle.page_accounts.specs.Keeps.{KeepsAccounts}

-- the entries of a map that were seen
abbrev pub seen : List (Bor ℕ × Bor ProcState) → List (ℕ × ProcState)
seen es = map (λ (e : Bor ℕ × Bor ProcState). ((e.0).now, (e.1).now)) es

pub seen_last : (es : List (Bor ℕ × Bor ProcState)) (e : Bor ℕ × Bor ProcState) → seen (es ++ e ∷ []) ≡ seen es ++ ((e.0).now, (e.1).now) ∷ []
seen_last [] e = refl
seen_last (d ∷ es) e = ap (λ ds. ((d.0).now, (d.1).now) ∷ ds) (seen_last es e)

-- both accounts of each of these processes hold its memory, and those of the others are empty
abbrev pub memory_of : List (ℕ × ProcState) → Pid → Account
memory_of es p = option_map_or (λ (s : ProcState). whole_memory s.memory) (lookup (at_key p.0) es) no_pages

abbrev pub HoldsMemories : List (ℕ × ProcState) → PagerState → Type 0
HoldsMemories es state = (p : Pid) → account state p ≡ memory_of es p

-- ---- one process more of a map that rises

at_key_is : (n m : ℕ) → at_key n m ≡ eqb m n
at_key_is n m = grind (arith, nat_tests)

pub later_key : (P : ℕ → Type 0) (es : List (ℕ × ProcState)) (e : ℕ × ProcState) (rest : List (ℕ × ProcState)) → AllByRecursion P (map (λ (d : ℕ × ProcState). d.0) (es ++ e ∷ rest)) → P e.0
later_key P [] e rest all = all.0
later_key P (d ∷ es) e rest all = later_key P es e rest all.1

not_key : (m n : ℕ) → nat_cmp m n ≡ Less → eqb m n ≡ false
not_key m n less = grind (arith, nat_tests)

pub key_new : (es : List (ℕ × ProcState)) (e : ℕ × ProcState) (rest : List (ℕ × ProcState)) → IsStrictlySortedBy nat_cmp (map (λ (d : ℕ × ProcState). d.0) (es ++ e ∷ rest)) → lookup (at_key e.0) es ≡ None
unfolding IsStrictlySortedBy
key_new [] e rest ordered = refl
key_new (d ∷ es) e rest ordered =
    ap (λ b. cond b (Some d.1) (lookup (at_key e.0) es)) (at_key_is e.0 d.0 ∙ not_key d.0 e.0 (later_key (λ n. nat_cmp d.0 n ≡ Less) es e rest ordered.0)) ∙ key_new es e rest ordered.1

pub lookup_last : (n : ℕ) (es : List (ℕ × ProcState)) (e : ℕ × ProcState) → lookup (at_key n) es ≡ None → lookup (at_key n) (es ++ e ∷ []) ≡ cond (at_key n e.0) (Some e.1) None
lookup_last n [] e none = refl
lookup_last n (d ∷ es) e none = by_test (at_key n d.0) none (lookup_last n es e)
  where
    by_test : (b : Bool) → cond b (Some d.1) (lookup (at_key n) es) ≡ None → (lookup (at_key n) es ≡ None → lookup (at_key n) (es ++ e ∷ []) ≡ cond (at_key n e.0) (Some e.1) None)
        → cond b (Some d.1) (lookup (at_key n) (es ++ e ∷ [])) ≡ cond (at_key n e.0) (Some e.1) None
    by_test true none more = cc
    by_test false none more = more none

pub lookup_before : (n : ℕ) (es : List (ℕ × ProcState)) (e : ℕ × ProcState) → at_key n e.0 ≡ false → lookup (at_key n) (es ++ e ∷ []) ≡ lookup (at_key n) es
lookup_before n [] e other = ap (λ b. cond b (Some e.1) None) other
lookup_before n (d ∷ es) e other = ap (λ o. cond (at_key n d.0) (Some d.1) o) (lookup_before n es e other)

module _ (es : List (ℕ × ProcState)) (e : ℕ × ProcState) (rest : List (ℕ × ProcState)) (ordered : IsStrictlySortedBy nat_cmp (map (λ (d : ℕ × ProcState). d.0) (es ++ e ∷ rest))) where
  -- the next process has no pages yet
  pub next_empty : (state : PagerState) → HoldsMemories es state → account state (pid_of e.0) ≡ no_pages
  next_empty state holds = holds (pid_of e.0) ∙ ap (λ o. option_map_or (λ (s : ProcState). whole_memory s.memory) o no_pages) (key_new es e rest ordered)

  -- and then its memory
  pub next_holds : (old new : PagerState) → HoldsMemories es old → Changes old new (pid_of e.0) (λ _. whole_memory (e.1).memory) → HoldsMemories (es ++ e ∷ []) new
  next_holds old new holds changes p = changes p ∙ by_test (eqb p.0 e.0) refl
    where
      found : lookup (at_key e.0) (es ++ e ∷ []) ≡ Some e.1
      found = lookup_last e.0 es e (key_new es e rest ordered) ∙ ap (λ b. cond b (Some e.1) None) (at_key_is e.0 e.0 ∙ eq-eqb e.0 e.0 refl)

      other : (m n : ℕ) → eqb m n ≡ false → at_key m n ≡ false
      other m n is = grind (arith, nat_tests)

      by_test : (b : Bool) → eqb p.0 e.0 ≡ b → cond b (whole_memory (e.1).memory) (account old p) ≡ memory_of (es ++ e ∷ []) p
      by_test true is =
          sym (ap (λ n. option_map_or (λ (s : ProcState). whole_memory s.memory) (lookup (at_key n) (es ++ e ∷ [])) no_pages) (eqb-true p.0 e.0 is)
          ∙ ap (λ o. option_map_or (λ (s : ProcState). whole_memory s.memory) o no_pages) found)
      by_test false is = holds p ∙ sym (ap (λ o. option_map_or (λ (s : ProcState). whole_memory s.memory) o no_pages) (lookup_before p.0 es e (other p.0 e.0 is)))

-- ---- all of them

pub boot_has : (system : System) → (boot system).processes ≡ linked_processes system
boot_has system = ap (λ (k : Kernel). k.processes) (sym (booted system (linked_processes system) (booted_ttys system.roots) refl refl))

-- with the memories of a kernel at its start the accounts are those of the empty log
pub all_kept : (system : System) (all : List (ℕ × ProcState)) (state : PagerState) → starts_in all ≡ linked_processes system → HoldsMemories all state → state.fetches ≡ [] → KeepsAccounts system [] state
unfolding account_after told
all_kept system all state states holds none = record {
  accounts = λ p. holds p ∙ sym (ap (λ o. option_map_or image_pages o no_pages) (at p));
  waits = none;
}
  where
    at : (p : Pid) → process_at (boot system) p ≡ lookup (at_key p.0) all
    at p = ap (finmap.find pid_cmp p) (boot_has system ∙ sym states) ∙ lookup_start p.0 all
