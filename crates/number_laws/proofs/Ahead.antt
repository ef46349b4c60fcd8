-- The numbers of a process that is ahead of a legal log, and of what it sends there.
use Rattle.std.proofs.Common.{◌≡◌, ℕ, zero, suc, ◌-◌, ◌<◌, ◌≤◌, refl, ◌∙◌, ap, subst, arith, List, true, Option, Some, None}
use Rattle.std.specs.Prelude.{option_and_then}
use Rattle.std.specs.Option.{option_map_or}
use Rattle.std.proofs.lemmas.Option.{same_Some}
use Rattle.t32_base.specs.declared.process.Pid.{Pid}
use Rattle.sys_text.specs.declared.system.System.{System}
use Rattle.sys_text.specs.Valid.{is_system}
use Rattle.proc_state.specs.State.{ProcState}
use Rattle.sys_calls.specs.declared.steps.Emission.{Emission}
use Rattle.sys_calls.specs.Calls.{Next, Silent, Blocked, Forks, Emits, Over}
use Rattle.sys_calls.specs.Next.{next_step, silent_of, silently}
use Rattle.sys_calls.specs.Fork.{before_fork}
use Rattle.sys_calls.proofs.Counting.{last_sent}
use Rattle.sys_calls.proofs.Weighing.{silently_leaves}
use Rattle.plain_kernel.specs.Kernel.{process_at}
use Rattle.bus_msg.specs.declared.entry.Entry.{Entry}
use Rattle.cert_sched.specs.Schedule.{done, done_after, process_after}
use Rattle.cert_sched.specs.Steps.{before_fork_at, emission_at, page_count, silent_upto}
use Rattle.cert_sched.specs.Legal.{IsLegalBy, MayStand}
use Rattle.cert_sched.proofs.ReplayLaws.{fork_after}
use Rattle.cert_sched.proofs.SpentLaws.{process_after-few}
use Rattle.cert_sched.proofs.StepLaws.{sent_from, silent_from}
use Rattle.state_numbers.specs.Fits.{EmissionFits, IsWord, NextFits, StateFits}
use Rattle.state_numbers.proofs.Stepping.{next_fits}
use Rattle.number_laws.proofs.Counts.{done_is}
use Rattle.number_laws.proofs.LogPids.{states_fit, there_fits}

silently_fits : (n : ℕ) (s t : ProcState) → StateFits s → silently n s ≡ Some t → StateFits t
unfolding silently
silently_fits zero s t f is = subst StateFits (same_Some s t is) f
silently_fits (suc n) s t f is = by_mid (silently n s) refl is (λ q. silently_fits n s q f)
  where
    by_next : (q : ProcState) (x : Next) → next_step q ≡ x → silent_of x ≡ Some t → StateFits q → StateFits t
    by_next q (Silent u) step e fits = subst StateFits (same_Some u t e) (subst NextFits step (next_fits q fits))
    by_next q Blocked step e fits = cc
    by_next q Forks step e fits = cc
    by_next q (Emits m u) step e fits = cc
    by_next q Over step e fits = cc

    by_mid : (o : Option ProcState) → silently n s ≡ o → option_and_then (λ q. silent_of (next_step q)) o ≡ Some t → ((q : ProcState) → silently n s ≡ Some q → StateFits q) → StateFits t
    by_mid None mid e more = cc
    by_mid (Some q) mid e more = by_next q (next_step q) refl e (more q mid)

-- where silent steps up to a count lead
pub record Reached (p : Pid) (at : ℕ) (t : ProcState) : Type 0 where
  pub pid : IsWord p.0
  pub fits : StateFits t
  pub count : at ≤ 100068

pub record Sends (p : Pid) (at : ℕ) (m : Emission) : Type 0 where
  pub pid : IsWord p.0
  pub fits : EmissionFits m
  pub count : at ≤ 100069

module _ (system : System) (log : List Entry) (valid : is_system system ≡ true) (legal : IsLegalBy MayStand system log) where
  pub reached : (p : Pid) (at : ℕ) (t : ProcState) → silent_upto system log p at ≡ Some t → Reached p at t
  reached p at t is =
      let f = silent_from system log p at t is in
      let there : process_after system log p ≡ Some f.was = ap (option_and_then (λ k. process_at k p)) f.before ∙ f.there in
      let few = process_after-few system log p f.was valid there in
      let left = silently_leaves (at - done f.kernel p) f.was t f.silent in
      let steps : done f.kernel p ≡ ((f.was).small).steps = ap (λ (o : Option ProcState). option_map_or (λ (s : ProcState). (s.small).steps) o 0) f.there in
      record {
        pid = there_fits system log p f.was valid legal there;
        fits = silently_fits (at - done f.kernel p) f.was t (states_fit system log p f.was valid legal there) f.silent;
        count = omega (arith, few, left, steps);
      }

  pub sends : (p : Pid) (at : ℕ) (m : Emission) (t : ProcState) → emission_at system log p at ≡ Some (m, t) → Sends p at m
  sends p at m t is =
      let f = sent_from system log p at m t is in
      let l = last_sent (at - done f.kernel p) f.was m t f.sends in
      let there : process_after system log p ≡ Some f.was = ap (option_and_then (λ k. process_at k p)) f.before ∙ f.there in
      let few = process_after-few system log p f.was valid there in
      let left = silently_leaves l.earlier f.was l.before l.silent in
      let steps : done f.kernel p ≡ ((f.was).small).steps = ap (λ (o : Option ProcState). option_map_or (λ (s : ProcState). (s.small).steps) o 0) f.there in
      let before = silently_fits l.earlier f.was l.before (states_fit system log p f.was valid legal there) l.silent in
      let after = subst NextFits l.last (next_fits l.before before) in
      record { pid = there_fits system log p f.was valid legal there; fits = after.0; count = (let n = l.count in omega (arith, few, left, steps, n)) }

  pub forks : (p : Pid) (at : ℕ) (q : ProcState) → before_fork_at system log p at ≡ Some q → Reached p (at - 1) q
  unfolding before_fork_at
  forks p at q is = by_process (process_after system log p) refl is
    where
      by_process : (o : Option ProcState) → process_after system log p ≡ o → option_and_then (before_fork (at - 1 - done_after system log p)) o ≡ Some q → Reached p (at - 1) q
      by_process None there e = cc
      by_process (Some s) there e =
          let f = fork_after (at - 1 - done_after system log p) s q e in
          let few = process_after-few system log p s valid there in
          let left = silently_leaves (at - 1 - done_after system log p) s q f.silent in
          let steps = done_is system log p s there in
          record {
            pid = there_fits system log p s valid legal there;
            fits = silently_fits (at - 1 - done_after system log p) s q (states_fit system log p s valid legal there) f.silent;
            count = omega (arith, few, left, steps);
          }

  -- the number of a page of a process
  pub page_word : (p : Pid) (i : ℕ) → i < page_count system log p → IsWord i
  page_word p i within = by_process (process_after system log p) refl within
    where
      by_process : (o : Option ProcState) → process_after system log p ≡ o → i < option_map_or (λ (s : ProcState). (s.small).pages) o 0 → IsWord i
      by_process None there less = omega (arith, less)
      by_process (Some s) there less = let pages = (states_fit system log p s valid legal there).pages in omega (arith, less, pages)
