-- A process whose last page has come begins marked.
use Rattle.std.proofs.Common.{◌≡◌, ℕ, sym, subst, Bool, true, List, [], ◌∷◌, ◌++◌, false, length}
use Rattle.t32_base.specs.declared.process.Pid.{Pid}
use Rattle.sys_text.specs.declared.system.System.{System}
use Rattle.sys_text.specs.Valid.{is_system}
use Rattle.roll_forward.specs.Rolling.{RollingState}
use Rattle.bus_msg.specs.declared.entry.What.TheVariants.{PageIs}
use Rattle.bus_msg.specs.declared.entry.Entry.{Entry}
use Rattle.bus_msg.specs.PlacedAfter.{what}
use Rattle.cert_sched.specs.Legal.{MayStand}
use Rattle.cert_sched.specs.Legal.{IsLegalBy}
use Rattle.cert_sched.specs.Simulation.{IsUnended}
use Rattle.log_laws.proofs.pages.StartPages.{stand_waits}
use Rattle.checkpoint_laws.specs.posts.Marked.{IsMarked}
use Rattle.checkpoint_laws.specs.marks.Sent.{SentUpto}
use Rattle.checkpoint_laws.proofs.marks.BegunMarks.{begun_marked, begun_sent}
use Rattle.page_waits.specs.Waiting.{WaitingState}
use Rattle.replay_laws.specs.pages.Waits.{GoesOnAs, WaitsAs}
use Rattle.std.proofs.lemmas.List.{length-replicate}
use Rattle.cluster_core.specs.Holds.{CarriesMarks}

goes_on_marked : (system : System) (log : List Entry) (e : Entry) (p : Pid) (i : ℕ) (bytes : List ℕ) (queued : ℕ → Bool) (w : WaitingState) → is_system system ≡ true → IsLegalBy MayStand system (log ++ e ∷ [])
    → IsUnended system (log ++ e ∷ []) p → what e ≡ PageIs p i bytes → WaitsAs system (log ++ e ∷ []) p queued w → (goes : GoesOnAs system (log ++ e ∷ []) p w) → IsMarked system (log ++ e ∷ []) p (goes.rolling).process
goes_on_marked system log e p i bytes queued w valid legal unended is waits goes =
    subst (λ (r : RollingState). IsMarked system (log ++ e ∷ []) p r.process) (sym goes.begins)
    (begun_marked MayStand stand_waits system log e p i bytes goes.start w.kept valid legal unended is goes.started waits.kept)

goes_on_unsent : (system : System) (log : List Entry) (e : Entry) (p : Pid) (i : ℕ) (bytes : List ℕ) (n : ℕ) → IsLegalBy MayStand system (log ++ e ∷ []) → what e ≡ PageIs p i bytes → SentUpto system (log ++ e ∷ []) p n
goes_on_unsent = begun_sent MayStand stand_waits

-- so it carries the marks of the log
pub goes_on_carries : (system : System) (log : List Entry) (e : Entry) (p : Pid) (i : ℕ) (bytes : List ℕ) (queued : ℕ → Bool) (w : WaitingState) → is_system system ≡ true → IsLegalBy MayStand system (log ++ e ∷ [])
    → IsUnended system (log ++ e ∷ []) p → what e ≡ PageIs p i bytes → WaitsAs system (log ++ e ∷ []) p queued w → (goes : GoesOnAs system (log ++ e ∷ []) p w) → CarriesMarks system (log ++ e ∷ []) p (goes.rolling).process
goes_on_carries system log e p i bytes queued w valid legal unended is waits goes = record {
  marked = goes_on_marked system log e p i bytes queued w valid legal unended is waits goes;
  pages = subst (λ (r : RollingState). ((r.process).small).pages ≡ length ((r.process).ram).dirty) (sym goes.begins) (sym (length-replicate ((goes.start).small).pages false));
  sent = goes_on_unsent system log e p i bytes (((goes.rolling).process).small).steps legal is;
}
