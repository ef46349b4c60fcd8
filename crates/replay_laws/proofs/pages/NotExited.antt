-- A process that has not ended in a legal log has no exit in it: it was not there before its birth, and is not after its exit.
use Rattle.std.proofs.Common.{◌≡◌, ℕ, refl, sym, ◌∙◌, ap, subst, List, [], ◌∷◌, ◌++◌, Bool, true, false, ◌||◌, Option, Some, None, is_some, true≢false}
use Rattle.std.specs.Prelude.{option_and_then}
use Rattle.std.specs.List.{list_any}
use Rattle.std.proofs.lemmas.List.Folds.{list_any-append}
use Rattle.t32_base.specs.declared.process.Pid.{Pid}
use Rattle.t32_base.specs.declared.process.End.{End}
use Rattle.sys_text.specs.declared.system.System.{System}
use Rattle.proc_state.specs.State.{ProcState}
use Rattle.sys_calls.specs.declared.steps.Emission.TheVariants.{Exit as Ended}
use Rattle.plain_kernel.specs.Kernel.{process_at}
use Rattle.bus_msg.specs.declared.entry.What.{What}
use Rattle.bus_msg.specs.declared.entry.What.TheVariants.{Exit}
use Rattle.bus_msg.specs.declared.entry.Entry.{Entry}
use Rattle.bus_msg.specs.Places.{unended_at}
use Rattle.bus_msg.specs.PlacedAfter.{what}
use Rattle.cert_sched.specs.Schedule.{placement, process_after}
use Rattle.cert_sched.specs.Deeds.{is_birth_of}
use Rattle.cert_sched.specs.Account.{is_exit_of}
use Rattle.cert_sched.specs.Kinds.{KindHolds}
use Rattle.cert_sched.specs.Legal.{IsLegalBy, Stands}
use Rattle.cert_sched.specs.Simulation.{IsUnended}
use Rattle.cert_sched.proofs.LogLaws.{placement-snoc, IsLegal-snoc}
use Rattle.cert_sched.proofs.Induction.{legal_induction}
use Rattle.cert_sched.proofs.StepLaws.{is_sent, sent_from}
use Rattle.cert_sched.proofs.CameLaws.{same_of}
use Rattle.cert_sched.proofs.BornLaws.{there_not_born}
use Rattle.replay_laws.proofs.rolling.StartedThere.{there_stays}
use Rattle.replay_laws.proofs.rolling.UnendedBefore.{before_unended}
use Rattle.checkpoint_laws.proofs.marks.BegunMarks.{none_legal}

abbrev pub has_exited : List Entry → Pid → Bool
has_exited log p = list_any (λ (e : Entry). is_exit_of p (what e)) log

pub has_exited-snoc : (log : List Entry) (e : Entry) (p : Pid) → has_exited (log ++ e ∷ []) p ≡ (has_exited log p || is_exit_of p (what e))
has_exited-snoc log e p = list_any-append (λ (e : Entry). is_exit_of p (what e)) log (e ∷ []) ∙ or_of_one (has_exited log p) (is_exit_of p (what e))
  where
    or_of_one : (a b : Bool) → (a || (b || false)) ≡ (a || b)
    or_of_one true b = refl
    or_of_one false true = refl
    or_of_one false false = refl

-- ---- who exits was there

exits_there : (system : System) (log : List Entry) (e : Entry) (p : Pid) → Stands system log e → is_exit_of p (what e) ≡ true → is_some (process_after system log p) ≡ true
exits_there system log e p stands = by_kind (what e) stands.kind
  where
    sender_there : (q : Pid) (at : ℕ) (end : End) → KindHolds system log e (Exit q at end) → is_some (process_after system log q) ≡ true
    sender_there q at end kind =
        let s = is_sent system log q at (Ended end) kind.0 in
        let f = sent_from system log q at (Ended end) s.after s.is in
        ap is_some (ap (option_and_then (λ k. process_at k q)) f.before ∙ f.there)

    by_kind : (w : What) → KindHolds system log e w → is_exit_of p w ≡ true → is_some (process_after system log p) ≡ true
    by_kind (Exit q at end) kind exit = subst (λ r. is_some (process_after system log r) ≡ true) (same_of q p exit) (sender_there q at end kind)
    by_kind _ kind exit = absurd (true≢false (sym exit))

-- so who has exited is in the kernel
exited_there : (system : System) (log : List Entry) (p : Pid) → IsLegalBy Stands system log → has_exited log p ≡ true → is_some (process_after system log p) ≡ true
exited_there system log p legal = legal_induction Stands system (λ log. has_exited log p ≡ true → is_some (process_after system log p) ≡ true) (λ exited. absurd (true≢false (sym exited))) more log legal
  where
    more : (log : List Entry) (e : Entry) → (has_exited log p ≡ true → is_some (process_after system log p) ≡ true) → Stands system log e → has_exited (log ++ e ∷ []) p ≡ true → is_some (process_after system (log ++ e ∷ []) p) ≡ true
    more log e before stands exited = there_stays system log e p stands.applies (by_tests (has_exited log p) (is_exit_of p (what e)) refl refl (sym (has_exited-snoc log e p) ∙ exited))
      where
        by_tests : (a b : Bool) → has_exited log p ≡ a → is_exit_of p (what e) ≡ b → (a || b) ≡ true → is_some (process_after system log p) ≡ true
        by_tests true b was exit h = before was
        by_tests false true was exit h = exits_there system log e p stands exit
        by_tests false false was exit h = absurd (true≢false (sym h))

-- and no entry bears it
born_unexited : (system : System) (log : List Entry) (e : Entry) (p : Pid) → IsLegalBy Stands system log → Stands system log e → is_birth_of p (what e) ≡ true → has_exited log p ≡ false
born_unexited system log e p legal stands birth = by_test (has_exited log p) refl
  where
    never : is_some (process_after system log p) ≡ true → ⊥
    never there = by_process (process_after system log p) refl there
      where
        by_process : (o : Option ProcState) → process_after system log p ≡ o → is_some o ≡ true → ⊥
        by_process None here some = true≢false (sym some)
        by_process (Some was) here some = true≢false (sym birth ∙ there_not_born system log e p was stands.applies here)

    by_test : (b : Bool) → has_exited log p ≡ b → b ≡ false
    by_test true exited = absurd (never (exited_there system log p legal exited))
    by_test false none = refl

-- ---- who has not ended has not exited

birth_no_exit : (p : Pid) (w : What) → is_birth_of p w ≡ true → is_exit_of p w ≡ false
birth_no_exit p (Exit q at end) birth = absurd (true≢false (sym birth))
birth_no_exit p w birth = refl

pub unended_not_exited : (system : System) (log : List Entry) (p : Pid) → IsLegalBy Stands system log → IsUnended system log p → has_exited log p ≡ false
unended_not_exited system log p legal =
    (legal_induction Stands system (λ log. IsLegalBy Stands system log × (IsUnended system log p → has_exited log p ≡ false)) (none_legal system, λ unended. refl)
    (λ log e both stands. (IsLegal-snoc Stands system log e both.0 stands, more log e both.0 stands both.1)) log legal).1
  where
    more : (log : List Entry) (e : Entry) → IsLegalBy Stands system log → Stands system log e → (IsUnended system log p → has_exited log p ≡ false) → IsUnended system (log ++ e ∷ []) p → has_exited (log ++ e ∷ []) p ≡ false
    more log e legal stands before unended = has_exited-snoc log e p ∙ by_birth (is_birth_of p (what e)) refl
      where
        by_birth : (b : Bool) → is_birth_of p (what e) ≡ b → (has_exited log p || is_exit_of p (what e)) ≡ false
        by_birth true birth = λ i. born_unexited system log e p legal stands birth i || birth_no_exit p (what e) birth i
        by_birth false unborn =
            let was = before_unended (what e) (placement system log) p unborn (sym (ap (λ places. is_some (unended_at places p)) (placement-snoc system log e)) ∙ unended) in
            λ i. before was.1 i || was.0 i
