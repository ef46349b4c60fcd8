-- What a run leaves that came to its end.
use Rattle.std.specs.Prelude.{ℕ, ◌≡◌, true, List, ◌++◌, slice_get, Some, None}
use Rattle.sys_text.specs.declared.system.System.{System}
use Rattle.cert_sched.specs.declared.script.ScriptWord.{ScriptWord}
use Rattle.cert_sched.specs.Scripted.{is_spread}
use Rattle.report_text.specs.declared.run.Ended.TheVariants.{Finished}
use Rattle.report_text.specs.Good.{IsGood}
use Rattle.cluster_core.specs.View.{disk_calls}
use Rattle.cluster_run.specs.declared.life.Life.{Life}
use Rattle.cluster_run.specs.declared.life.Ran.{Ran}
use Rattle.cluster_turns.specs.Lives.{ends_at_done}
use Rattle.cluster_run.specs.Lived.{Lived}

-- the run has, for each life that ends with it and in which no disk failed, the kernel steps of that cluster
abbrev pub HasStepsOf : Ran → Type 0
HasStepsOf ran = (n : ℕ) (l : Life) → slice_get ran.lives n ≡ Some l → ends_at_done (ran.run).log l.cluster l.from ≡ true → (l.value).failed ≡ None → slice_get (ran.run).steps (l.cluster).0 ≡ Some (l.value).steps

-- and the disk calls of that cluster
abbrev pub HasCallsOf : Ran → Type 0
HasCallsOf ran = (n : ℕ) (l : Life) → slice_get ran.lives n ≡ Some l → ends_at_done (ran.run).log l.cluster l.from ≡ true → (l.value).failed ≡ None → slice_get (ran.run).disk_calls (l.cluster).0 ≡ Some (disk_calls l.value)

-- The run is what its system and its script allow: its clusters did its work, and it has their steps and disk calls. It came to its end where the words that lose
-- clusters are spread: neither both clusters of a root nor both page servers.
pub record IsCompleted (system : System) (script : List ScriptWord) (ran : Ran) : Type 0 where
  pub good : IsGood system script ran.run
  pub finished : is_spread system script ≡ true → (ran.run).ended ≡ Finished
  pub lived : Lived system script (ran.run).log (ran.past ++ ran.lives)
  pub steps : HasStepsOf ran
  pub calls : HasCallsOf ran
