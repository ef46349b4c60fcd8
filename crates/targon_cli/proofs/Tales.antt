-- What is told of a run.
use Rattle.std.proofs.Common.{◌≡◌, ◌∙◌, sym, ap, subst, ℕ, true, List, Some, Global}
use Rattle.std.specs.Prelude.{Ok, Err}
use Rattle.std.specs.Arc.{arc_value}
use Rattle.std.specs.declared.sync.Arc.{Arc}
use Rattle.sys_text.specs.declared.system.System.{System}
use Rattle.sys_text.specs.Reading.{Answer}
use Rattle.sys_text.specs.Valid.{is_system}
use Rattle.plain_kernel.specs.Kernel.{Kernel}
use Rattle.plain_kernel.specs.Apply.{plain_run}
use Rattle.plain_kernel.specs.Still.{is_still}
use Rattle.cert_sched.specs.declared.script.ScriptWord.{ScriptWord}
use Rattle.cert_sched.specs.Scripted.{is_finished}
use Rattle.cert_sched.proofs.Applied.{finished_kernel_still}
use Rattle.report_text.specs.declared.run.Run.{Run}
use Rattle.report_text.specs.declared.run.Ended.{Ended}
use Rattle.report_text.specs.declared.run.Ended.TheVariants.{Finished}
use Rattle.report_text.specs.Good.{IsGood, EndsAs}
use Rattle.cluster_run.specs.declared.life.Ran.{Ran}
use Rattle.cluster_run.specs.Completed.{IsCompleted}
use Rattle.targon_cli.specs.declared.reply.Reply.{Reply}
use Rattle.targon_cli.specs.declared.runs.Read.TheVariants.{System as AsSystem}
use Rattle.cert_sched.proofs.MayLaws.{legal_may_stand}
use Rattle.targon_cli.specs.Reply.{IsRead, IsTextOf, MakesRun, TellsOf, status_of}

-- a run that came to its end has a log that did
ends_finished : (system : System) (r : Run) → r.ended ≡ Finished → EndsAs system r.log r.ended → is_finished r.log ≡ true
ends_finished system r e h = subst (λ (k : Ended). EndsAs system r.log k) e h

-- nothing can move in the kernel of a good run that is finished
still : (system : System) (script : List ScriptWord) (r : Run) (kernel : Kernel) → IsGood system script r → r.ended ≡ Finished → plain_run system r.items ≡ Some kernel → is_still kernel ≡ true
still system script r kernel good ended runs =
    finished_kernel_still system r.log kernel (legal_may_stand system r.log good.legal) (ends_finished system r ended good.ended) (ap (plain_run system) (sym good.items) ∙ runs)

-- a run is told of by its text
tells : (system : System) (script : List ScriptWord) (print : Kernel → Run → List ℕ) (text : List ℕ) (ran : Ran) → IsCompleted system script ran → IsTextOf system print ran.run text → TellsOf system script print text ran
tells system script print text ran completed told = record {
  completed = completed;
  kernel = told.0;
  scheduled = told.1;
  still = λ ended. still system script ran.run told.0 completed.good ended told.1;
  told = told.2;
}

-- a text that was read as its system: this is valid
pub read_valid : (reading : Answer) (script : List ScriptWord) (shared : Arc System Global) → IsRead reading script (AsSystem shared) → is_system (arc_value shared) ≡ true
read_valid (Ok system) script shared is = subst (λ (s : System). is_system s ≡ true) (sym is.0) is.1
read_valid (Err refused) script shared is = absurd is

-- what is told of its run is what the text makes
pub ran_makes : (reading : Answer) (script : List ScriptWord) (shared : Arc System Global) (print : Kernel → Run → List ℕ) (reply : Reply) (ran : Ran) → IsRead reading script (AsSystem shared)
    → IsCompleted (arc_value shared) script ran → reply.status ≡ status_of (ran.run).ended → IsTextOf (arc_value shared) print ran.run reply.text → MakesRun reading script print reply.status reply.text (Some ran)
ran_makes (Ok system) script shared print reply ran is completed done told =
    rw is.2 (done, tells system script print reply.text ran (subst (λ (s : System). IsCompleted s script ran) is.0 completed) (subst (λ (s : System). IsTextOf s print ran.run reply.text) is.0 told))
ran_makes (Err refused) script shared print reply ran is completed done told = absurd is
