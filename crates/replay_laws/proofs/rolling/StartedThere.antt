-- A process that is in the kernel without failures stays there; so one that started in a legal log is there, and no later entry bears it.
use Rattle.std.proofs.Common.{◌≡◌, refl, sym, ◌∙◌, ap, subst, List, [], ◌∷◌, ◌++◌, Bool, true, false, cond, Option, Some, None, is_some, true≢false}
use Rattle.std.specs.Prelude.{option_and_then, option_map}
use Rattle.std.specs.declared.cmp.Ordering.{Ordering}
use Rattle.std.specs.declared.cmp.Ordering.TheVariants.{Less, Equal, Greater}
use Rattle.std.specs.Ordering.{is_eq}
use Rattle.std.proofs.lemmas.Option.{same_Some}
use Rattle.t32_base.specs.declared.process.Pid.{Pid}
use Rattle.sys_text.specs.declared.system.System.{System}
use Rattle.proc_state.specs.State.{ProcState}
use Rattle.sys_calls.specs.declared.steps.Emission.{Emission}
use Rattle.sys_calls.specs.Calls.{Next, Silent, Blocked, Forks, Emits, Over}
use Rattle.sys_calls.specs.Next.{next_step}
use Rattle.sys_calls.specs.Fork.{fork_child, fork_parent}
use Rattle.plain_kernel.specs.Kernel.{Kernel, pid_cmp, process_at, with_process, emitted}
use Rattle.plain_kernel.specs.Apply.{after_step, one_step, fork_step, take_step}
use Rattle.plain_kernel.proofs.Laws.{process_at-with_process}
use Rattle.plain_kernel.proofs.Others.{items_keep}
use Rattle.plain_kernel.proofs.Forking.{fork_made}
use Rattle.bus_msg.specs.declared.entry.Entry.{Entry}
use Rattle.bus_msg.specs.PlacedAfter.{what}
use Rattle.cert_sched.specs.Parts.{upto_last}
use Rattle.cert_sched.specs.Schedule.{items_of, plain_after, process_after}
use Rattle.cert_sched.specs.Deeds.{starts, is_birth_of, start_of}
use Rattle.cert_sched.specs.Legal.{IsLegalBy, Stands}
use Rattle.cert_sched.proofs.ListLaws.{upto_last-snoc}
use Rattle.cert_sched.proofs.Induction.{legal_induction}
use Rattle.cert_sched.proofs.StepLaws.{applied}
use Rattle.cert_sched.proofs.MailLaws.{received, process_at-emitted}
use Rattle.cert_sched.proofs.BornLaws.{there_not_born}
use Rattle.cert_sched.proofs.CameLaws.{IsStandingRule}
use Rattle.plain_kernel.proofs.Taking.{take_made}
use Rattle.sys_calls.specs.Take.{taken}

-- ---- in a kernel

abbrev IsThere : Pid → Kernel → Type 0
IsThere p k = is_some (process_at k p) ≡ true

put_there : (p q : Pid) (k : Kernel) (s : ProcState) → IsThere p k → IsThere p (with_process k q s)
put_there p q k s there = ap is_some (process_at-with_process k q s p) ∙ by_order (pid_cmp p q)
  where
    by_order : (o : Ordering) → is_some (cond (is_eq o) (Some s) (process_at k p)) ≡ true
    by_order Less = there
    by_order Equal = refl
    by_order Greater = there

emitted_there : (p : Pid) (k : Kernel) (m : Emission) → IsThere p k → IsThere p (emitted k m)
emitted_there p k m there = ap is_some (process_at-emitted k m p) ∙ by_process (process_at k p) there
  where
    by_process : (o : Option ProcState) → is_some o ≡ true → is_some (option_map (received m p) o) ≡ true
    by_process None h = absurd (true≢false (sym h))
    by_process (Some s) h = refl

step_there : (p q : Pid) (k j : Kernel) → IsThere p k → one_step q k ≡ Some j → IsThere p j
unfolding one_step
step_there p q k j there made = by_process (process_at k q) made
  where
    by_next : (next : Next) → after_step k q next ≡ Some j → IsThere p j
    by_next (Silent t) e = subst (IsThere p) (same_Some (with_process k q t) j e) (put_there p q k t there)
    by_next (Emits m t) e = subst (IsThere p) (same_Some (emitted (with_process k q t) m) j e) (emitted_there p (with_process k q t) m (put_there p q k t there))
    by_next Blocked e = cc
    by_next Forks e = cc
    by_next Over e = cc

    by_process : (o : Option ProcState) → option_and_then (λ s. after_step k q (next_step s)) o ≡ Some j → IsThere p j
    by_process None e = cc
    by_process (Some s) e = by_next (next_step s) e

fork_there : (p q c : Pid) (k j : Kernel) → IsThere p k → fork_step q c k ≡ Some j → IsThere p j
fork_there p q c k j there made =
    let f = fork_made q c k j made in
    subst (IsThere p) f.after (put_there p c (with_process k q (fork_parent f.was c)) (fork_child f.was c) (put_there p q k (fork_parent f.was c) there))

take_there : (p q : Pid) (k j : Kernel) → IsThere p k → take_step q k ≡ Some j → IsThere p j
take_there p q k j there made =
    let t = take_made q k j made in
    subst (IsThere p) (sym t.after) (put_there p q k (taken t.was) there)

-- ---- in a log

-- who is in the kernel stays there
pub there_stays : (system : System) (log : List Entry) (e : Entry) (p : Pid) → is_some (plain_after system (log ++ e ∷ [])) ≡ true → is_some (process_after system log p) ≡ true → is_some (process_after system (log ++ e ∷ []) p) ≡ true
there_stays system log e p applies there =
    let a = applied system log e applies in
    ap (λ o. is_some (option_and_then (λ k. process_at k p) o)) a.after
    ∙ items_keep (IsThere p) (step_there p) (fork_there p) (take_there p) (items_of a.old (what e)) a.old a.new (sym (ap (λ o. is_some (option_and_then (λ k. process_at k p) o)) a.before) ∙ there) a.made

-- so who was there after the last entry of some kind is there
pub upto_there : (May : System → List Entry → Entry → Type 0) → IsStandingRule May → (system : System) (test : Entry → Bool) (log : List Entry) (p : Pid) → IsLegalBy May system log → is_some (process_after system (upto_last test log) p) ≡ true
    → is_some (process_after system log p) ≡ true
upto_there May standing system test log p legal =
    legal_induction May system (λ log. is_some (process_after system (upto_last test log) p) ≡ true → is_some (process_after system log p) ≡ true) (λ there. there) (λ log e before may. more log e before (standing system log e may)) log legal
  where
    more : (log : List Entry) (e : Entry) → (is_some (process_after system (upto_last test log) p) ≡ true → is_some (process_after system log p) ≡ true) → Stands system log e → is_some (process_after system (upto_last test (log ++ e ∷ [])) p) ≡ true
        → is_some (process_after system (log ++ e ∷ []) p) ≡ true
    more log e before stands there = by_test (test e) (sym (ap (λ l. is_some (process_after system l p)) (upto_last-snoc test log e)) ∙ there)
      where
        by_test : (b : Bool) → is_some (process_after system (cond b (log ++ e ∷ []) (upto_last test log)) p) ≡ true → is_some (process_after system (log ++ e ∷ []) p) ≡ true
        by_test true there = there
        by_test false there = there_stays system log e p stands.applies (before there)

-- so no entry bears who started before it
pub started_not_born : (May : System → List Entry → Entry → Type 0) → IsStandingRule May → (system : System) (log : List Entry) (e : Entry) (p : Pid) (start : ProcState) → IsLegalBy May system log → Stands system log e → start_of system log p ≡ Some start
    → is_birth_of p (what e) ≡ false
started_not_born May standing system log e p start legal stands started = by_process (process_after system log p) refl (upto_there May standing system (starts p) log p legal (ap is_some started))
  where
    by_process : (o : Option ProcState) → process_after system log p ≡ o → is_some o ≡ true → is_birth_of p (what e) ≡ false
    by_process None here there = absurd (true≢false (sym there))
    by_process (Some was) here there = there_not_born system log e p was stands.applies here
