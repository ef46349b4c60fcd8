-- Where silent steps lead a process of a log.
use Rattle.std.proofs.Common.{◌≡◌, ℕ, ◌-◌, ◌*◌, refl, ◌∙◌, ap, List, length, true, Option, Some, None}
use Rattle.std.specs.Prelude.{option_and_then, option_map}
use Rattle.std.specs.Option.{option_map_or}
use Rattle.t32_base.specs.declared.process.Pid.{Pid}
use Rattle.sys_text.specs.declared.system.System.{System}
use Rattle.sys_text.specs.Valid.{is_system}
use Rattle.proc_state.specs.State.{ProcState}
use Rattle.sys_calls.specs.Next.{silently}
use Rattle.bus_msg.specs.declared.entry.Entry.{Entry}
use Rattle.cert_sched.specs.Schedule.{done_after, plain_after, process_after}
use Rattle.cert_sched.specs.Steps.{page_count, silent_upto}
use Rattle.log_laws.proofs.pages.SizesStay.{process_sized}
use Rattle.checkpoint_laws.proofs.posts.SilentSizes.{silent_sizes}
use Rattle.log_processes.proofs.Sent.{steps_there}
use Rattle.log_cuts.specs.Ahead.{upto}

module _ (system : System) (log : List Entry) (p : Pid) (s : ProcState) (there : process_after system log p ≡ Some s) where
  pub done_then : done_after system log p ≡ (s.small).steps
  done_then = steps_there p s (plain_after system log) there

  pub silent_then : (at : ℕ) → silent_upto system log p at ≡ upto at s
  unfolding silent_upto
  silent_then at = λ i. option_and_then (silently (at - done_then i)) (there i)

  pub count_then : page_count system log p ≡ (s.small).pages
  count_then = ap (λ (o : Option ProcState). option_map_or (λ (s : ProcState). (s.small).pages) o 0) there

  -- the memory has its pages there
  pub sized_then : (at : ℕ) (t : ProcState) → is_system system ≡ true → upto at s ≡ Some t → length t.memory ≡ 256 * (s.small).pages
  sized_then at t valid led = (silent_sizes (at - (s.small).steps) s t led).bytes ∙ process_sized system log p s valid there

-- where something is said of where they lead, they lead there
pub record Led (o : Option ProcState) : Type 0 where
  pub to : ProcState
  pub is : o ≡ Some to

pub told_there : {B : Type 0} (f : ProcState → B) (o : Option ProcState) (b : B) → option_map f o ≡ Some b → Led o
told_there f None b is = cc
told_there f (Some t) b is = record { to = t; is = refl }
