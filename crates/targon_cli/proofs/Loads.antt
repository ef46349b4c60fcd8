-- What is told of a workload that was run is what `load` makes.
use Rattle.std.proofs.Common.{◌≡◌, ℕ, false, Option, List, [], sym, ◌∙◌, subst}
use Rattle.std.specs.Prelude.{Result, Ok, Err, IfOk}
use Rattle.t32_base.specs.declared.streams.NoMemory.{NoMemory}
use Rattle.cert_sched.specs.declared.script.ScriptWord.{ScriptWord}
use Rattle.sys_text.specs.declared.system.System.{System}
use Rattle.cluster_run.specs.declared.life.Ran.{Ran}
use Rattle.targon_cli.specs.declared.reply.Reply.{Reply}
use Rattle.targon_cli.specs.Explained.{ExplainsLoad}
use Rattle.targon_cli.specs.Noted.{NotesRan}
use Rattle.targon_cli.specs.Reply.{MakesLoad}

-- the system that is run is that of the workload
module _ (size : ℕ) (ran_system ring : System) (script : List ScriptWord) (exact : ran_system ≡ ring) where
  pub ring_made : (made : Result (Reply × Option Ran) NoMemory) → IfOk made (λ (r : Reply × Option Ran). MakesLoad false size ran_system script (r.0).status (r.0).text r.1)
      → IfOk made (λ (r : Reply × Option Ran). (system : System) → system ≡ ring → MakesLoad false size system script (r.0).status (r.0).text r.1)
  ring_made (Ok r) m = λ system is. subst (λ (s : System). MakesLoad false size s script (r.0).status (r.0).text r.1) (exact ∙ sym is) m
  ring_made (Err e) m = tt

  pub ring_explained : (made : Result (Reply × Option Ran) NoMemory) → IfOk made (λ (r : Reply × Option Ran). ExplainsLoad ran_system script (r.0).status (r.0).why)
      → IfOk made (λ (r : Reply × Option Ran). (system : System) → system ≡ ring → ExplainsLoad system script (r.0).status (r.0).why)
  ring_explained (Ok r) m = λ system is. subst (λ (s : System). ExplainsLoad s script (r.0).status (r.0).why) (exact ∙ sym is) m
  ring_explained (Err e) m = tt

  pub ring_noted : (made : Result (Reply × Option Ran) NoMemory) → IfOk made (λ (r : Reply × Option Ran). NotesRan [] ran_system script r.1 (r.0).notes)
      → IfOk made (λ (r : Reply × Option Ran). (system : System) → system ≡ ring → NotesRan [] system script r.1 (r.0).notes)
  ring_noted (Ok r) m = λ system is. subst (λ (s : System). NotesRan [] s script r.1 (r.0).notes) (exact ∙ sym is) m
  ring_noted (Err e) m = tt
