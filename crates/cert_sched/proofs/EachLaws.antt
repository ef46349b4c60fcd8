-- What the steps and the forks of a process and letters that arrive keep of it stays over a log; and where the children that are forked have it too, each process after a log has it.
use Rattle.std.proofs.Common.{◌≡◌, refl, sym, ◌∙◌, ap, subst, List, [], ◌∷◌, ◌++◌, Bool, true, false, cond, eqb-true, Option, Some, None, is_some, true≢false}
use Rattle.std.specs.Prelude.{IfSome, fold, option_and_then, option_map}
use Rattle.std.proofs.lemmas.List.Sums.{fold-append}
use Rattle.std.proofs.lemmas.Option.{same_Some}
use Rattle.t32_base.specs.declared.process.Pid.{Pid}
use Rattle.t32_base.specs.declared.letter.Letter.{Letter}
use Rattle.sys_text.specs.declared.system.System.{System}
use Rattle.proc_state.specs.State.{ProcState, delivered, has_ended, can_take}
use Rattle.sys_calls.specs.declared.steps.Emission.{Emission}
use Rattle.sys_calls.specs.declared.steps.Emission.TheVariants.{Mail as Sent, Exit as Ended}
use Rattle.sys_calls.specs.Calls.{Next, Silent, Blocked, Forks, Emits, Over}
use Rattle.sys_calls.specs.Next.{next_step}
use Rattle.sys_calls.specs.Fork.{fork_child, fork_parent}
use Rattle.plain_kernel.specs.Kernel.{Kernel, boot, process_at, with_process, emitted}
use Rattle.plain_kernel.specs.Apply.{after_step, fork_step, one_step, take_step}
use Rattle.plain_kernel.proofs.AtBoot.{Each}
use Rattle.plain_kernel.proofs.Forking.{fork_made}
use Rattle.plain_kernel.proofs.Laws.{process_at-same}
use Rattle.plain_kernel.proofs.Others.{process_at-other}
use Rattle.bus_msg.specs.declared.entry.Entry.{Entry}
use Rattle.bus_msg.specs.Places.{same_pid}
use Rattle.cert_sched.specs.Schedule.{after_entry, plain_after, process_after}
use Rattle.cert_sched.specs.Deeds.{is_end_of}
use Rattle.cert_sched.proofs.MadeLaws.{apart_from}
use Rattle.cert_sched.proofs.MailLaws.{process_at-emitted, received}
use Rattle.cert_sched.proofs.StepLaws.{log_keeps, log_keeps_all}
use Rattle.sys_calls.specs.Take.{taken}
use Rattle.plain_kernel.proofs.Taking.{take_made}

-- its own steps keep it, silent ones, those that send and its forks, and so do its takes, and a letter that arrives
pub record StaysSo (Q : ProcState → Type 0) : Type 0 where
  pub silent : (s t : ProcState) → next_step s ≡ Silent t → Q s → Q t
  pub sends : (s t : ProcState) (e : Emission) → next_step s ≡ Emits e t → Q s → Q t
  pub forks : (s : ProcState) (child : Pid) → next_step s ≡ Forks → Q s → Q (fork_parent s child)
  pub takes : (s : ProcState) → can_take s ≡ true → Q s → Q (taken s)
  pub arrives : (s : ProcState) (letter : Letter) → Q s → Q (delivered s letter)

received_so : (Q : ProcState → Type 0) → StaysSo Q → (e : Emission) (p : Pid) (s : ProcState) → Q s → Q (received e p s)
received_so Q stays (Ended end) p s has = has
received_so Q stays (Sent letter) p s has = by_tests (has_ended (s.small).status) (is_end_of p letter.to)
  where
    by_tests : (b c : Bool) → Q (cond b s (cond c (delivered s letter) s))
    by_tests true c = has
    by_tests false true = stays.arrives s letter has
    by_tests false false = has

same_of : (p q : Pid) → same_pid p q ≡ true → p ≡ q
same_of p q is i = record { 0 = eqb-true p.0 q.0 is i }

-- ---- one process that is there

-- the process is there, and has it
pub record Has (Q : ProcState → Type 0) (p : Pid) (k : Kernel) : Type 0 where
  pub now : ProcState
  pub there : process_at k p ≡ Some now
  pub has : Q now

module _ (Q : ProcState → Type 0) (stays : StaysSo Q) (p : Pid) where
  -- so it has it where it is found
  found_has : (k : Kernel) (q : Pid) (s : ProcState) → Has Q p k → same_pid q p ≡ true → process_at k q ≡ Some s → Q s
  found_has k q s h same there = subst Q (same_Some h.now s (sym h.there ∙ ap (process_at k) (sym (same_of q p same)) ∙ there)) h.has

  put_has : (k : Kernel) (q : Pid) (t : ProcState) → (same_pid q p ≡ true → Q t) → Has Q p k → Has Q p (with_process k q t)
  put_has k q t here h = by_pid (same_pid q p) refl here
    where
      by_pid : (b : Bool) → same_pid q p ≡ b → (b ≡ true → Q t) → Has Q p (with_process k q t)
      by_pid true is own = record { now = t; there = ap (process_at (with_process k q t)) (sym (same_of q p is)) ∙ process_at-same k q t; has = own refl }
      by_pid false is own = record { now = h.now; there = process_at-other k q t p (apart_from q p is) ∙ h.there; has = h.has }

  emitted_has : (k : Kernel) (e : Emission) → Has Q p k → Has Q p (emitted k e)
  emitted_has k e h = record { now = received e p h.now; there = process_at-emitted k e p ∙ ap (option_map (received e p)) h.there; has = received_so Q stays e p h.now h.has }

  -- a step of any process keeps it
  pub one_has : (q : Pid) (k j : Kernel) → Has Q p k → one_step q k ≡ Some j → Has Q p j
  unfolding one_step
  one_has q k j h made = by_process (process_at k q) refl made
    where
      by_next : (s : ProcState) (next : Next) → process_at k q ≡ Some s → next_step s ≡ next → after_step k q next ≡ Some j → Has Q p j
      by_next s (Silent t) there is e = subst (Has Q p) (same_Some (with_process k q t) j e) (put_has k q t (λ same. stays.silent s t is (found_has k q s h same there)) h)
      by_next s (Emits what t) there is e =
          subst (Has Q p) (same_Some (emitted (with_process k q t) what) j e) (emitted_has (with_process k q t) what (put_has k q t (λ same. stays.sends s t what is (found_has k q s h same there)) h))
      by_next s Blocked there is e = cc
      by_next s Forks there is e = cc
      by_next s Over there is e = cc

      by_process : (o : Option ProcState) → process_at k q ≡ o → option_and_then (λ s. after_step k q (next_step s)) o ≡ Some j → Has Q p j
      by_process None there e = cc
      by_process (Some s) there e = by_next s (next_step s) there refl e

  -- and so does a fork of any
  pub fork_has : (q c : Pid) (k j : Kernel) → Has Q p k → fork_step q c k ≡ Some j → Has Q p j
  fork_has q c k j h made =
      let f = fork_made q c k j made in
      subst (Has Q p) f.after
      (put_has (with_process k q (fork_parent f.was c)) c (fork_child f.was c) (λ same. absurd (true≢false (ap is_some (sym h.there ∙ ap (process_at k) (sym (same_of c p same)) ∙ f.absent))))
      (put_has k q (fork_parent f.was c) (λ same. stays.forks f.was c f.forks (found_has k q f.was h same f.there)) h))

  -- and a take of any
  pub take_has : (q : Pid) (k j : Kernel) → Has Q p k → take_step q k ≡ Some j → Has Q p j
  take_has q k j h made =
      let t = take_made q k j made in
      subst (Has Q p) (sym t.after) (put_has k q (taken t.was) (λ same. stays.takes t.was t.can (found_has k q t.was h same t.there)) h)

  -- over several entries, births of others and its own among them, it stays so
  pub rest_so : (system : System) (log rest : List Entry) (was now : ProcState) → process_after system log p ≡ Some was → Q was → process_after system (log ++ rest) p ≡ Some now → Q now
  unfolding plain_after
  rest_so system log rest was now there has after =
      by_after (fold after_entry (plain_after system log) rest) (log_keeps (Has Q p) one_has fork_has take_has (plain_after system log) rest (by_before (plain_after system log) there))
      (sym (ap (option_and_then (λ k. process_at k p)) (fold-append after_entry (Some (boot system)) log rest)) ∙ after)
    where
      by_before : (o : Option Kernel) → option_and_then (λ k. process_at k p) o ≡ Some was → IfSome o (Has Q p)
      by_before None e = tt
      by_before (Some k) e = record { now = was; there = e; has = has }

      by_after : (o : Option Kernel) → IfSome o (Has Q p) → option_and_then (λ k. process_at k p) o ≡ Some now → Q now
      by_after None h e = cc
      by_after (Some k) h e = subst Q (same_Some h.now now (sym h.there ∙ e)) h.has

  pub entry_so : (system : System) (log : List Entry) (e : Entry) (was now : ProcState) → process_after system log p ≡ Some was → Q was → process_after system (log ++ e ∷ []) p ≡ Some now → Q now
  entry_so system log e was now there has after = rest_so system log (e ∷ []) was now there has after

-- ---- each process

module _ (Q : Pid → ProcState → Type 0) (stays : (p : Pid) → StaysSo (Q p)) (inherits : (p c : Pid) (s : ProcState) → next_step s ≡ Forks → Q p s → Q c (fork_child s c)) where
  each_put : (k : Kernel) (q : Pid) (t : ProcState) → Q q t → Each Q k → Each Q (with_process k q t)
  each_put k q t has each p s there = by_pid (same_pid q p) refl
    where
      by_pid : (b : Bool) → same_pid q p ≡ b → Q p s
      by_pid true is =
          let pid : q ≡ p = same_of q p is in
          let state : t ≡ s = same_Some t s (sym (process_at-same k q t) ∙ ap (process_at (with_process k q t)) pid ∙ there) in
          subst (λ x. Q x s) pid (subst (Q q) state has)
      by_pid false is = each p s (sym (process_at-other k q t p (apart_from q p is)) ∙ there)

  each_emitted : (k : Kernel) (e : Emission) → Each Q k → Each Q (emitted k e)
  each_emitted k e each p s there = by_process (process_at k p) refl (sym (process_at-emitted k e p) ∙ there)
    where
      by_process : (o : Option ProcState) → process_at k p ≡ o → option_map (received e p) o ≡ Some s → Q p s
      by_process None here h = cc
      by_process (Some was) here h = subst (Q p) (same_Some (received e p was) s h) (received_so (Q p) (stays p) e p was (each p was here))

  pub each_one : (p : Pid) (k j : Kernel) → Each Q k → one_step p k ≡ Some j → Each Q j
  unfolding one_step
  each_one p k j each made = by_process (process_at k p) refl made
    where
      by_next : (s : ProcState) (next : Next) → process_at k p ≡ Some s → next_step s ≡ next → after_step k p next ≡ Some j → Each Q j
      by_next s (Silent t) there is e = subst (Each Q) (same_Some (with_process k p t) j e) (each_put k p t ((stays p).silent s t is (each p s there)) each)
      by_next s (Emits what t) there is e =
          subst (Each Q) (same_Some (emitted (with_process k p t) what) j e) (each_emitted (with_process k p t) what (each_put k p t ((stays p).sends s t what is (each p s there)) each))
      by_next s Blocked there is e = cc
      by_next s Forks there is e = cc
      by_next s Over there is e = cc

      by_process : (o : Option ProcState) → process_at k p ≡ o → option_and_then (λ s. after_step k p (next_step s)) o ≡ Some j → Each Q j
      by_process None there e = cc
      by_process (Some s) there e = by_next s (next_step s) there refl e

  pub each_fork : (p c : Pid) (k j : Kernel) → Each Q k → fork_step p c k ≡ Some j → Each Q j
  each_fork p c k j each made =
      let f = fork_made p c k j made in
      let had : Q p f.was = each p f.was f.there in
      subst (Each Q) f.after (each_put (with_process k p (fork_parent f.was c)) c (fork_child f.was c) (inherits p c f.was f.forks had) (each_put k p (fork_parent f.was c) ((stays p).forks f.was c f.forks had) each))

  pub each_take : (p : Pid) (k j : Kernel) → Each Q k → take_step p k ≡ Some j → Each Q j
  each_take p k j each made =
      let t = take_made p k j made in
      subst (Each Q) (sym t.after) (each_put k p (taken t.was) ((stays p).takes t.was t.can (each p t.was t.there)) each)

  -- what each process has at boot, each has after a log
  pub each_so : (system : System) (log : List Entry) (p : Pid) (s : ProcState) → Each Q (boot system) → process_after system log p ≡ Some s → Q p s
  each_so system log p s start there = by_kernel (plain_after system log) refl there
    where
      by_kernel : (o : Option Kernel) → plain_after system log ≡ o → option_and_then (λ k. process_at k p) o ≡ Some s → Q p s
      by_kernel None is e = cc
      by_kernel (Some k) is e = log_keeps_all (Each Q) each_one each_fork each_take system log k start is p s e
