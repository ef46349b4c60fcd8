-- The words of a script that a run did not come to.
use Rattle.std.specs.Prelude.{ℕ, ◌==◌, Bool, false, if◌then◌else◌, List, [], ◌∷◌, ◌++◌, length, codes, slice_get, unwrap_or}
use Rattle.std.specs.List.{list_any}
use Rattle.std.specs.Fmt.{decimal}
use Rattle.t32_base.specs.declared.process.ClusterNo.{ClusterNo}
use Rattle.bus_msg.specs.declared.entry.What.{What}
use Rattle.bus_msg.specs.declared.entry.What.TheVariants.{Crash, Return}
use Rattle.bus_msg.specs.declared.entry.Entry.{Entry}
use Rattle.bus_msg.specs.PlacedAfter.{what}
use Rattle.cert_sched.specs.declared.script.ScriptWord.{ScriptWord}
use Rattle.cert_sched.specs.declared.script.ScriptWord.TheVariants.{CrashAt, CrashStep, DiskAt, ReturnAt}
use Rattle.report_text.specs.declared.run.Run.{Run}

-- what an entry says: this cluster is lost, or it returns
abbrev pub loses : What → ClusterNo → Bool
loses (Crash k cause) cluster = k.0 == cluster.0
loses _ cluster = false

abbrev pub returns : What → ClusterNo → Bool
returns (Return k) cluster = k.0 == cluster.0
returns _ cluster = false

-- it tells of the word: its cluster is lost, or returns
abbrev pub is_for : What → ScriptWord → Bool
is_for w (CrashAt k place) = loses w k
is_for w (CrashStep k step) = loses w k
is_for w (DiskAt k call) = loses w k
is_for w (ReturnAt k place) = returns w k

-- an entry of the log tells of the word
abbrev pub has : List Entry → ScriptWord → Bool
has log word = list_any (λ (e : Entry). is_for (what e) word) log

abbrev pub crash_text : (k place entries : ℕ) → List ℕ
crash_text k place entries = codes "t32: crash:" ++ (decimal k ++ (codes "@bus:" ++ (decimal place ++ (codes " was not reached; entries of the log: " ++ (decimal entries ++ 10 ∷ [])))))

abbrev pub return_text : (k place entries : ℕ) → List ℕ
return_text k place entries = codes "t32: return:" ++ (decimal k ++ (codes "@bus:" ++ (decimal place ++ (codes " was not reached; entries of the log: " ++ (decimal entries ++ 10 ∷ [])))))

abbrev pub step_text : (k step steps : ℕ) → List ℕ
step_text k step steps = codes "t32: crash:" ++ (decimal k ++ (codes "@step:" ++ (decimal step ++ (codes " was not reached; kernel steps of the cluster: " ++ (decimal steps ++ 10 ∷ [])))))

abbrev pub call_text : (k call calls : ℕ) → List ℕ
call_text k call calls = codes "t32: disk:" ++ (decimal k ++ (codes "@" ++ (decimal call ++ (codes " was not reached; calls of the page disk: " ++ (decimal calls ++ 10 ∷ [])))))

-- the line of a word that was not reached, with how far the run came
abbrev pub unreached_text : Run → ScriptWord → List ℕ
unreached_text r (CrashAt k place) = crash_text k.0 place (length r.log)
unreached_text r (CrashStep k step) = step_text k.0 step (unwrap_or (slice_get r.steps k.0) 0)
unreached_text r (DiskAt k call) = call_text k.0 call (unwrap_or (slice_get r.disk_calls k.0) 0)
unreached_text r (ReturnAt k place) = return_text k.0 place (length r.log)

-- nothing where the word was reached
abbrev pub unreached : Run → ScriptWord → List ℕ
unreached r word = if has r.log word then [] else unreached_text r word
