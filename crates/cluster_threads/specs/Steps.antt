-- The kernel steps at which words of a script lose a cluster.
use Rattle.std.specs.Prelude.{ℕ, ◌≡◌, ◌==◌, false, ◌&&◌, ◌||◌, List, Option, Some, None}
use Rattle.std.specs.List.{list_any}
use Rattle.t32_base.specs.declared.process.ClusterNo.{ClusterNo}
use Rattle.bus_msg.specs.declared.entry.Cause.TheVariants.{Step}
use Rattle.bus_msg.specs.declared.entry.Entry.{Entry}
use Rattle.cert_sched.specs.declared.script.ScriptWord.{ScriptWord}
use Rattle.cert_sched.specs.Losses.{has_step_left, is_step_word}
use Rattle.bus_order.specs.Script.{has_unused}

-- just these are the steps of the cluster that words of the script name which gave no loss yet
abbrev pub AreStepsLeft : List ScriptWord → List Entry → ClusterNo → List ℕ → Type 0
AreStepsLeft script log k steps = (n : ℕ) → list_any (λ (s : ℕ). s == n) steps ≡ has_step_left script log k n

-- a word loses the cluster at this step, or at none
abbrev pub IsStepOf : ClusterNo → ScriptWord → Option ℕ → Type 0
IsStepOf k word (Some s) = (n : ℕ) → is_step_word k n word ≡ (s == n)
IsStepOf k word None = (n : ℕ) → is_step_word k n word ≡ false

-- the step of the cluster that a word names is there too, where a word for it is left
abbrev pub TakesStep : (left : List ScriptWord) → ClusterNo → ScriptWord → (old new : List ℕ) → Type 0
TakesStep left k word old new =
    (n : ℕ) → list_any (λ (s : ℕ). s == n) new ≡ (list_any (λ (s : ℕ). s == n) old || (is_step_word k n word && has_unused left k (Step n)))
