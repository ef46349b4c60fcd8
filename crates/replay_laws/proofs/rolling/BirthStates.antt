-- A process as it was born: later entries leave that, and one that never was cut starts from there.
use Rattle.std.proofs.Common.{◌≡◌, refl, sym, ◌∙◌, ap, List, [], ◌∷◌, ◌++◌, Bool, true, false, cond, ◌||◌, Option, Some, None, is_some, true≢false}
use Rattle.std.specs.List.{list_any}
use Rattle.std.proofs.lemmas.Bool.{or_parts}
use Rattle.t32_base.specs.declared.process.Pid.{Pid}
use Rattle.sys_text.specs.declared.system.System.{System}
use Rattle.proc_state.specs.State.{ProcState}
use Rattle.bus_msg.specs.declared.entry.Entry.{Entry}
use Rattle.bus_msg.specs.PlacedAfter.{what}
use Rattle.cert_sched.specs.Parts.{upto_last}
use Rattle.cert_sched.specs.Schedule.{process_after}
use Rattle.cert_sched.specs.Deeds.{starts, is_cut, is_birth_of, start_of}
use Rattle.cert_sched.specs.Record.{has_state, is_root}
use Rattle.cert_sched.specs.Legal.{IsLegalBy, Stands}
use Rattle.cert_sched.proofs.ListLaws.{upto_last-snoc}
use Rattle.cert_sched.proofs.BornLaws.{there_not_born}
use Rattle.cert_sched.proofs.CameLaws.{IsStandingRule}
use Rattle.replay_laws.proofs.rolling.StartedThere.{upto_there}

-- the process after the entry that bore it
abbrev pub birth_state : System → List Entry → Pid → Option ProcState
birth_state system log p = process_after system (upto_last (λ e. is_birth_of p (what e)) log) p

pub birth_state-snoc : (system : System) (log : List Entry) (e : Entry) (p : Pid) → birth_state system (log ++ e ∷ []) p ≡ cond (is_birth_of p (what e)) (process_after system (log ++ e ∷ []) p) (birth_state system log p)
birth_state-snoc system log e p = ap (λ l. process_after system l p) (upto_last-snoc (λ e. is_birth_of p (what e)) log e) ∙ by_test (is_birth_of p (what e))
  where
    by_test : (b : Bool) → process_after system (cond b (log ++ e ∷ []) (upto_last (λ e. is_birth_of p (what e)) log)) p ≡ cond b (process_after system (log ++ e ∷ []) p) (birth_state system log p)
    by_test true = refl
    by_test false = refl

-- who was born is there
pub born_there : (May : System → List Entry → Entry → Type 0) → IsStandingRule May → (system : System) (log : List Entry) (p : Pid) → IsLegalBy May system log → is_some (birth_state system log p) ≡ true → is_some (process_after system log p) ≡ true
born_there May standing system log p = upto_there May standing system (λ e. is_birth_of p (what e)) log p

-- so no later entry bears it again
pub birth_state-kept : (May : System → List Entry → Entry → Type 0) → IsStandingRule May → (system : System) (log : List Entry) (e : Entry) (p : Pid) (born : ProcState) → IsLegalBy May system log → Stands system log e → birth_state system log p ≡ Some born
    → birth_state system (log ++ e ∷ []) p ≡ birth_state system log p
birth_state-kept May standing system log e p born legal stands is =
    birth_state-snoc system log e p
    ∙ ap (λ b. cond b (process_after system (log ++ e ∷ []) p) (birth_state system log p)) (by_process (process_after system log p) refl (born_there May standing system log p legal (ap is_some is)))
  where
    by_process : (o : Option ProcState) → process_after system log p ≡ o → is_some o ≡ true → is_birth_of p (what e) ≡ false
    by_process None here there = absurd (true≢false (sym there))
    by_process (Some was) here there = there_not_born system log e p was stands.applies here

-- ---- where it never was cut

record Alike (p : Pid) (log : List Entry) : Type 0 where
  pub any : list_any (starts p) log ≡ list_any (λ e. is_birth_of p (what e)) log
  pub upto : upto_last (starts p) log ≡ upto_last (λ e. is_birth_of p (what e)) log

uncut_alike : (p : Pid) (log : List Entry) → list_any (λ e. is_cut p (what e)) log ≡ false → Alike p log
uncut_alike p [] none = record { any = refl; upto = refl }
uncut_alike p (e ∷ log) none =
    let parts = or_parts (is_cut p (what e)) (list_any (λ e. is_cut p (what e)) log) none in
    let rest = uncut_alike p log parts.1 in
    let here : starts p e ≡ is_birth_of p (what e) = ap (λ b. b || is_birth_of p (what e)) parts.0 in
    record { any = λ i. here i || rest.any i; upto = λ i. cond (rest.any i) (e ∷ rest.upto i) (cond (here i) (e ∷ []) []) }

-- a process without a state in its record starts as it was born
pub stateless_start : (system : System) (log : List Entry) (p : Pid) → has_state system log p ≡ false → start_of system log p ≡ birth_state system log p
stateless_start system log p none = ap (λ l. process_after system l p) (uncut_alike p log (or_parts (is_root system p) (list_any (λ e. is_cut p (what e)) log) none).1).upto
