-- A birth that stands, in the kernel without failures: silent steps lead the parent to its fork, and the child, which was not there, is as it was forked.
use Rattle.std.proofs.Common.{◌≡◌, ℕ, ◌-◌, refl, sym, ◌∙◌, ap, List, [], ◌∷◌, ◌++◌, Bool, true, false, eqb-true, Option, Some, None, is_some, true≢false}
use Rattle.std.specs.Prelude.{◌≢◌, option_and_then, option_map}
use Rattle.t32_base.specs.declared.process.Pid.{Pid}
use Rattle.sys_text.specs.declared.system.System.{System}
use Rattle.proc_state.specs.State.{ProcState}
use Rattle.sys_calls.specs.Fork.{next_end}
use Rattle.plain_kernel.specs.declared.item.Item.TheVariants.{Fork}
use Rattle.plain_kernel.specs.Kernel.{Kernel, process_at}
use Rattle.plain_kernel.specs.Apply.{fork_step, apply_all}
use Rattle.plain_kernel.proofs.Laws.{apply_all-append}
use Rattle.plain_kernel.proofs.Others.{small_at}
use Rattle.plain_kernel.proofs.Forking.{fork_made, fork-apart}
use Rattle.bus_msg.specs.declared.entry.What.{What}
use Rattle.bus_msg.specs.declared.entry.What.TheVariants.{Birth}
use Rattle.bus_msg.specs.declared.entry.Entry.{Entry}
use Rattle.bus_msg.specs.Places.{same_pid}
use Rattle.bus_msg.specs.PlacedAfter.{what}
use Rattle.cert_sched.specs.Schedule.{after_entry, items_of, plain_after, process_after, run_upto}
use Rattle.cert_sched.specs.Deeds.{is_birth_of}
use Rattle.cert_sched.specs.Steps.{before_fork_at}
use Rattle.cert_sched.proofs.LogLaws.{plain_after-snoc}
use Rattle.cert_sched.proofs.RunAndFork.{one_fork, run_and_fork}
use Rattle.cert_sched.proofs.StepLaws.{applied, run_upto-small}
use Rattle.cert_sched.proofs.MadeLaws.{BirthMade}
use Rattle.cert_sched.proofs.BirthLaws.{birth_made}

none_small : (k : Kernel) (q : Pid) → small_at k q ≡ None → process_at k q ≡ None
none_small k q none = by_process (process_at k q) none
  where
    by_process : (o : Option ProcState) → option_map (λ (s : ProcState). s.small) o ≡ None → o ≡ None
    by_process None e = refl
    by_process (Some s) e = cc

module _ (system : System) (log : List Entry) (e : Entry) (parent : Pid) (at : ℕ) (child : Pid) (end : ℕ) (is : what e ≡ Birth parent at child end) (applies : is_some (plain_after system (log ++ e ∷ [])) ≡ true) where
  -- the items of the entry are the run before the fork, and the fork
  forked_after : (k : Kernel) → plain_after system log ≡ Some k → plain_after system (log ++ e ∷ []) ≡ option_and_then (fork_step parent child) (apply_all (run_upto k parent (at - 1)) k)
  forked_after k before =
      plain_after-snoc system log e ∙ ap (λ o. after_entry o e) before ∙ ap (λ w. apply_all (items_of k w) k) is
      ∙ apply_all-append (run_upto k parent (at - 1)) (Fork parent child ∷ []) k
      ∙ ap (λ f. option_and_then f (apply_all (run_upto k parent (at - 1)) k)) (λ i j. one_fork parent child j i)

  -- the child was not there, and is not the parent
  record IsNew : Type 0 where
    pub absent : process_after system log child ≡ None
    pub apart : same_pid child parent ≡ false

  is_new : IsNew
  is_new =
      let a = applied system log e applies in
      let r = run_and_fork (run_upto a.old parent (at - 1)) parent child a.old a.new (ap (λ w. apply_all (items_of a.old w) a.old) (sym is) ∙ a.made) in
      let f = fork_made parent child r.to a.new r.forks in
      let away = fork-apart parent child r.to a.new f in
      record {
        absent =
            ap (option_and_then (λ k. process_at k child)) a.before
            ∙ none_small a.old child (sym (run_upto-small parent (at - 1) a.old r.to child r.ran (λ same. away (sym same))) ∙ ap (option_map (λ (s : ProcState). s.small)) f.absent);
        apart = by_pid away (same_pid child parent) refl;
      }
    where
      by_pid : parent.0 ≢ child.0 → (b : Bool) → same_pid child parent ≡ b → b ≡ false
      by_pid away true same = absurd (away (sym (eqb-true child.0 parent.0 same)))
      by_pid away false other = refl

  -- so the kernel makes the birth, from where silent steps lead the parent
  pub birth_from : (q : ProcState) → before_fork_at system log parent at ≡ Some q → (b : BirthMade system log e parent child) × (b.before ≡ q)
  birth_from q forks = birth_made system log e parent child at q forks is_new.apart is_new.absent forked_after

  pub birth_applied : option_map next_end (before_fork_at system log parent at) ≡ Some end → BirthMade system log e parent child
  birth_applied ends = by_fork (before_fork_at system log parent at) refl ends
    where
      by_fork : (o : Option ProcState) → before_fork_at system log parent at ≡ o → option_map next_end o ≡ Some end → BirthMade system log e parent child
      by_fork None forks ends = cc
      by_fork (Some q) forks ends = (birth_from q forks).0

  -- and the child was not there before
  pub child_absent : process_after system log child ≡ None
  child_absent = is_new.absent

-- a process that was there before an entry is not born by it
pub there_not_born : (system : System) (log : List Entry) (e : Entry) (p : Pid) (was : ProcState) → is_some (plain_after system (log ++ e ∷ [])) ≡ true → process_after system log p ≡ Some was → is_birth_of p (what e) ≡ false
there_not_born system log e p was applies there = by_what (what e) refl
  where
    by_pid : (parent : Pid) (at : ℕ) (child : Pid) (end : ℕ) → what e ≡ Birth parent at child end → (b : Bool) → same_pid child p ≡ b → b ≡ false
    by_pid parent at child end is true same =
        let pid : child ≡ p = λ i. record { 0 = eqb-true child.0 p.0 same i } in
        absurd (true≢false (ap is_some (sym there ∙ ap (process_after system log) (sym pid) ∙ child_absent system log e parent at child end is applies)))
    by_pid parent at child end is false other = refl

    by_what : (w : What) → what e ≡ w → is_birth_of p w ≡ false
    by_what (Birth parent at child end) is = by_pid parent at child end is (same_pid child p) refl
    by_what _ is = refl
