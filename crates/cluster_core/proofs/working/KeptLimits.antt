-- What is posted leaves its process within the limits of the log.
use Rattle.std.proofs.Common.{◌≡◌, ℕ, refl, sym, ◌∙◌, ap, subst, List, [], ◌∷◌, Bool, true, false, cond, Some}
use Rattle.std.specs.Prelude.{option_map}
use Rattle.std.specs.Option.{option_map_or}
use Rattle.t32_base.specs.declared.process.Pid.{Pid}
use Rattle.t32_base.specs.declared.letter.To.{To}
use Rattle.t32_base.specs.declared.letter.To.TheVariants.{Proc, Tty}
use Rattle.sys_text.specs.declared.system.System.{System}
use Rattle.proc_state.specs.State.{ProcState, delivered}
use Rattle.sys_calls.specs.declared.steps.Emission.{Emission}
use Rattle.sys_calls.specs.declared.steps.Emission.TheVariants.{Mail as Sent, Exit as Ended}
use Rattle.sys_calls.proofs.RunLemma.{all_delivered}
use Rattle.bus_msg.specs.declared.entry.What.{What}
use Rattle.bus_msg.specs.declared.entry.Entry.{Entry}
use Rattle.bus_msg.specs.Places.{same_pid}
use Rattle.cert_sched.specs.Legal.{KeepsLimits}
use Rattle.cert_sched.specs.Deeds.{is_end_of, letter_for, to_process}
use Rattle.cert_sched.specs.Rules.{keeps_limits}
use Rattle.cert_sched.specs.Steps.{emission_at}
use Rattle.cert_sched.proofs.MailLaws.{with_arrival}
use Rattle.cert_sched.proofs.StepLaws.{Tells}

-- ---- what tells of an emission

module _ (system : System) (log : List Entry) (p : Pid) (at : ℕ) (m : Emission) (s : ProcState) (is : emission_at system log p at ≡ Some (m, s)) where
  abbrev limited : Pid → Bool
  limited q = option_map_or (keeps_limits system log q) (option_map (λ (r : Emission × ProcState). r.1) (emission_at system log q at)) false

  limited_is : limited p ≡ keeps_limits system log p s
  limited_is = ap (λ o. option_map_or (keeps_limits system log p) (option_map (λ (r : Emission × ProcState). r.1) o) false) is

  -- keeps the limits where the process is within them after it,
  pub told_keeps : (w : What) → Tells p at m w → keeps_limits system log p s ≡ true → KeepsLimits system log w
  told_keeps w tells keeps = by_emission m tells
    where
      by_emission : (m : Emission) → Tells p at m w → KeepsLimits system log w
      by_emission (Sent letter) tells = subst (KeepsLimits system log) (sym tells.1) (ap limited tells.0 ∙ limited_is ∙ keeps)
      by_emission (Ended end) tells = subst (KeepsLimits system log) (sym tells) (limited_is ∙ keeps)

  -- and only there
  pub told_within : (w : What) → Tells p at m w → KeepsLimits system log w → keeps_limits system log p s ≡ true
  told_within w tells limits = by_emission m tells
    where
      by_emission : (m : Emission) → Tells p at m w → keeps_limits system log p s ≡ true
      by_emission (Sent letter) tells =
          let sent : limited letter.from ≡ true = subst (KeepsLimits system log) tells.1 limits in
          sym limited_is ∙ ap limited (sym tells.0) ∙ sent
      by_emission (Ended end) tells =
          let ended : limited p ≡ true = subst (KeepsLimits system log) tells limits in
          sym limited_is ∙ ended

-- ---- after an entry

-- what an emission brings a process are the letters of the entry that tells of it
pub arrival_brings : (w : What) (q : Pid) (at : ℕ) (m : Emission) (p : Pid) (s : ProcState) → Tells q at m w → with_arrival m p s ≡ all_delivered s (letter_for p w)
arrival_brings w q at (Sent letter) p s tells = by_to letter.to ∙ ap (λ w. all_delivered s (letter_for p w)) (sym tells.1)
  where
    by_pid : (b : Bool) → cond b (delivered s letter) s ≡ all_delivered s (cond b (letter ∷ []) [])
    by_pid true = refl
    by_pid false = refl

    by_to : (to : To) → cond (is_end_of p to) (delivered s letter) s ≡ all_delivered s (to_process p letter to)
    by_to (Proc r end) = by_pid (same_pid r p)
    by_to (Tty t) = refl
arrival_brings w q at (Ended end) p s tells = ap (λ w. all_delivered s (letter_for p w)) (sym tells)
