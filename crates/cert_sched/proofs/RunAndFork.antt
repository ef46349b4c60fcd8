-- A run of a process and then a fork of it: the kernel between the two, and what both leave of the counts.
use Rattle.std.proofs.Common.{◌≡◌, refl, sym, ◌∙◌, ap, List, [], ◌∷◌, ◌++◌, Bool, true, false, eqb-true, Option, Some, None}
use Rattle.std.specs.Prelude.{◌≢◌, option_and_then}
use Rattle.std.specs.Option.{option_map_or}
use Rattle.t32_base.specs.declared.process.Pid.{Pid}
use Rattle.proc_state.specs.State.{ProcState}
use Rattle.plain_kernel.specs.declared.item.Item.{Item}
use Rattle.plain_kernel.specs.declared.item.Item.TheVariants.{Fork}
use Rattle.plain_kernel.specs.Kernel.{Kernel}
use Rattle.plain_kernel.specs.Apply.{fork_step, apply_all}
use Rattle.plain_kernel.proofs.Laws.{apply_all-append}
use Rattle.plain_kernel.proofs.Forking.{ForkMade, fork_made, fork-steps_child, fork-steps_other}
use Rattle.bus_msg.specs.Places.{same_pid}
use Rattle.cert_sched.specs.Schedule.{done}
use Rattle.cert_sched.proofs.MadeLaws.{apart_from}

-- a run, and then a fork
pub record RunAndFork (run : List Item) (p c : Pid) (k j : Kernel) : Type 0 where
  pub to : Kernel
  pub ran : apply_all run k ≡ Some to
  pub forks : fork_step p c to ≡ Some j

pub one_fork : (p c : Pid) (k : Kernel) → apply_all (Fork p c ∷ []) k ≡ fork_step p c k
one_fork p c k = whole (fork_step p c k)
  where
    whole : (o : Option Kernel) → option_and_then (λ j. Some j) o ≡ o
    whole None = refl
    whole (Some j) = refl

pub run_and_fork : (run : List Item) (p c : Pid) (k j : Kernel) → apply_all (run ++ Fork p c ∷ []) k ≡ Some j → RunAndFork run p c k j
run_and_fork run p c k j made = by_run (apply_all run k) refl (sym (apply_all-append run (Fork p c ∷ []) k) ∙ made)
  where
    by_run : (o : Option Kernel) → apply_all run k ≡ o → option_and_then (apply_all (Fork p c ∷ [])) o ≡ Some j → RunAndFork run p c k j
    by_run None is e = cc
    by_run (Some i) is e = record { to = i; ran = is; forks = sym (one_fork p c i) ∙ e }

-- every process but the parent has as many steps after the fork as before it: the child has none, and was not there
pub fork_beside : (p c : Pid) (k j : Kernel) (q : Pid) → fork_step p c k ≡ Some j → q.0 ≢ p.0 → done j q ≡ done k q
fork_beside p c k j q made apart = by_child (same_pid c q) refl
  where
    f : ForkMade p c k j
    f = fork_made p c k j made

    child : done j c ≡ done k c
    child = fork-steps_child p c k j f ∙ sym (ap (λ o. option_map_or (λ (s : ProcState). (s.small).steps) o 0) f.absent)

    by_child : (b : Bool) → same_pid c q ≡ b → done j q ≡ done k q
    by_child true is =
        let same : c ≡ q = λ i. record { 0 = eqb-true c.0 q.0 is i } in
        ap (done j) (sym same) ∙ child ∙ ap (done k) same
    by_child false is = fork-steps_other p c k j f q apart (apart_from c q is)
