-- The birth of a process that stands before its fork stands next, with the next pid of its home for the child and its lowest end that was never linked.
use Rattle.std.proofs.Common.{◌≡◌, ℕ, ◌+◌, ◌-◌, refl, sym, ◌∙◌, ap, arith, List, [], ◌∷◌, ◌++◌, true, false, cond, eqb, eq-eqb, Option, Some, None, is_some, true≢false}
use Rattle.std.specs.Prelude.{◌≢◌, option_and_then, option_map}
use Rattle.std.specs.List.{list_any}
use Rattle.std.specs.Ordering.{nat_cmp, is_eq}
use Rattle.std.specs.FinMap.{find as find_in}
use Rattle.std.proofs.lemmas.Bool.Decides.{nat_tests}
use Rattle.std.proofs.lemmas.Bool.{or_parts}
use Rattle.t32_base.specs.declared.process.Pid.{Pid}
use Rattle.sys_text.specs.declared.system.System.{System}
use Rattle.sys_text.specs.Valid.{is_system}
use Rattle.proc_state.specs.State.{ProcState}
use Rattle.sys_calls.specs.Calls.{Forks}
use Rattle.sys_calls.specs.Next.{next_step, silently}
use Rattle.sys_calls.specs.Fork.{before_fork, if_forks, next_end}
use Rattle.plain_kernel.specs.declared.item.Item.TheVariants.{Fork}
use Rattle.plain_kernel.specs.Kernel.{Kernel, pid_cmp, process_at}
use Rattle.plain_kernel.specs.Apply.{apply_all}
use Rattle.plain_kernel.proofs.Forking.{fork_makes}
use Rattle.plain_kernel.proofs.Laws.{apply_all-append}
use Rattle.bus_msg.specs.declared.entry.What.TheVariants.{Birth}
use Rattle.bus_msg.specs.declared.entry.By.{By}
use Rattle.bus_msg.specs.declared.entry.Entry.{Entry}
use Rattle.bus_msg.specs.Places.{unended_at}
use Rattle.cert_sched.specs.Appended.{entry_of}
use Rattle.cert_sched.specs.Schedule.{after_entry, done_after, placement, plain_after, process_after, run_upto}
use Rattle.cert_sched.specs.Steps.{before_fork_at, silent_upto}
use Rattle.cert_sched.specs.Kinds.{next_child_at}
use Rattle.cert_sched.specs.Legal.{IsLegalBy, Stands}
use Rattle.cert_sched.proofs.AmongLaws.{all_alike}
use Rattle.cert_sched.proofs.BootPids.{state_pids}
use Rattle.cert_sched.proofs.CutLaws.{by_home_there}
use Rattle.cert_sched.proofs.FamilyLaws.{not_in}
use Rattle.cert_sched.proofs.FreshLaws.{born_rightly, child_new, numbered}
use Rattle.cert_sched.proofs.LogLaws.{plain_after-snoc}
use Rattle.cert_sched.proofs.PidLaws.{placed_pids}
use Rattle.cert_sched.proofs.RunsLaws.{led, led-silent_upto, run_made}
use Rattle.cert_sched.proofs.StepLaws.{SilentFrom, silent_from}
use Rattle.cert_sched.proofs.ThereLaws.{found_among}
use Rattle.log_laws.proofs.letters.LogReads.{itself}
use Rattle.checkpoint_laws.specs.posts.Sending.{MaySend}
use Rattle.checkpoint_laws.proofs.posts.Standing.{reached_later}

-- a process before its fork, to which silent steps lead, is where the log says that it forks by its next step
pub forks_at : (system : System) (log : List Entry) (p : Pid) (s : ProcState) → silent_upto system log p (s.small).steps ≡ Some s → next_step s ≡ Forks → before_fork_at system log p ((s.small).steps + 1) ≡ Some s
unfolding before_fork_at silent_upto
forks_at system log p s reached forks =
    let same : (s.small).steps + 1 - 1 - done_after system log p ≡ (s.small).steps - done_after system log p = omega arith in
    ap (λ n. option_and_then (before_fork n) (process_after system log p)) same ∙ by_process (process_after system log p) reached
  where
    n : ℕ
    n = (s.small).steps - done_after system log p

    by_process : (o : Option ProcState) → option_and_then (silently n) o ≡ Some s → option_and_then (before_fork n) o ≡ Some s
    by_process None is = cc
    by_process (Some w) is = ap (λ o. option_and_then (λ q. if_forks q (next_step q)) o) is ∙ ap (if_forks s) forks

-- a pid that is not among those of the processes is found for none
untied : (n m : ℕ) → eqb m n ≡ false → is_eq (nat_cmp n m) ≡ false
untied n m apart = grind (arith, nat_tests)

not_found : (p : Pid) (es : List (Pid × ProcState)) → list_any (λ m. eqb m p.0) (state_pids es) ≡ false → find_in pid_cmp p es ≡ None
not_found p [] none = refl
not_found p (e ∷ es) none =
    let parts = or_parts (eqb (e.0).0 p.0) (list_any (λ m. eqb m p.0) (state_pids es)) none in
    ap (λ b. cond b (Some e.1) (find_in pid_cmp p es)) (untied p.0 (e.0).0 parts.0) ∙ not_found p es parts.1

module _ (system : System) (log : List Entry) (by : By) (p : Pid) (s : ProcState) (child : Pid) (valid : is_system system ≡ true) (legal : IsLegalBy Stands system log) (may : MaySend system log by p s) (forks : next_step s ≡ Forks)
    (child_is : option_map (next_child_at (placement system log)) (unended_at (placement system log) p) ≡ Some child) where
  abbrev at : ℕ
  at = (s.small).steps + 1

  abbrev birth_entry : Entry
  birth_entry = entry_of system log (record { by = by; what = Birth p at child (next_end s) })

  -- ---- the child is new

  new : list_any (λ m. eqb m child.0) (placed_pids (placement system log).placed) ≡ false
  new = child_new (placement system log) p child (numbered Stands itself system log valid legal) (born_rightly (placement system log) by p child may.by_home child_is)

  away : child.0 ≢ p.0
  away same = true≢false (sym (eq-eqb child.0 p.0 same) ∙ not_in p.0 child (placement system log) new (found_among p (placement system log).placed (by_home_there (placement system log) by p may.by_home)))

  -- ---- the kernel makes the steps and the fork

  from : SilentFrom system log p (s.small).steps s
  from = silent_from system log p (s.small).steps s may.reached

  absent : process_at from.kernel child ≡ None
  absent = not_found child (from.kernel).processes ((all_alike Stands itself system log valid legal from.kernel from.before).among child ∙ new)

  applies : is_some (plain_after system (log ++ birth_entry ∷ [])) ≡ true
  applies =
      let k : Kernel = from.kernel in
      let led_is : led k (p, (s.small).steps) ≡ Some s = sym (led-silent_upto system log k (p, (s.small).steps) from.before) ∙ may.reached in
      let r = run_made k k (p, (s.small).steps) (ap is_some led_is) refl in
      let forked = fork_makes p child r.to s (r.here ∙ led_is) forks (r.others child away ∙ absent) in
      let before : at - 1 ≡ (s.small).steps = omega arith in
      ap is_some
      (plain_after-snoc system log birth_entry
      ∙ ap (λ o. after_entry o birth_entry) from.before
      ∙ apply_all-append (run_upto k p (at - 1)) (Fork p child ∷ []) k
      ∙ ap (λ n. option_and_then (apply_all (Fork p child ∷ [])) (apply_all (run_upto k p n) k)) before
      ∙ ap (option_and_then (apply_all (Fork p child ∷ []))) r.made
      ∙ ap (option_and_then (λ j. Some j)) forked)

  pub birth_stands : Stands system log birth_entry
  birth_stands =
      let low = reached_later system log p s may.reached in
      record {
        placed = (refl, refl, may.goes_on);
        by_right = may.by_home;
        applies = applies;
        kind = record { later = omega (arith, low); end_is = ap (option_map next_end) (forks_at system log p s may.reached forks); child_is = child_is };
      }
