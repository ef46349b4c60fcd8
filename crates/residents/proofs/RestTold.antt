-- What the rest of a turn is, by what the process did in it and what a cluster says of that.
use Rattle.std.proofs.Common.{◌≡◌, ℕ, zero, suc, ◌+◌, ◌≤◌, Bool, refl, sym, ◌∙◌, ap, subst, arith, true, false, true≢false, Some, None, Ok}
use Rattle.std.proofs.lemmas.Bool.{or_right}
use Rattle.t32_base.specs.declared.process.ClusterNo.{ClusterNo}
use Rattle.proc_state.specs.declared.process.Process.{Process}
use Rattle.proc_state.specs.State.{ProcState, state_of}
use Rattle.sys_calls.specs.Next.{is_exit, next_step, silently}
use Rattle.sys_calls.specs.declared.steps.Emission.TheVariants.{Mail as SentMail, Exit as SentExit}
use Rattle.sys_calls.proofs.Counting.{emits_counts}
use Rattle.sys_calls.proofs.ForkLaws.{forks_can}
use Rattle.quanta.specs.declared.limits.Limits.{Limits}
use Rattle.quanta.specs.declared.quantum.Ran.{Ran}
use Rattle.quanta.specs.declared.quantum.Ran.TheVariants.{Moved as RanOn, Refused, Sent as RanSending, Stuck as RanStuck, Forks as RanToFork, Ends as RanToEnd}
use Rattle.quanta.specs.Limited.{is_due, is_within}
use Rattle.quanta.specs.Quantum.{RunsRest, StandsAtEnd}
use Rattle.quanta.proofs.Within.{step_within}
use Rattle.residents.specs.declared.quantum.Quantum.{Quantum}
use Rattle.residents.specs.declared.quantum.Quantum.TheVariants.{Moved, Sent, Stuck, Forks as AtFork}
use Rattle.residents.specs.ChildrenFirst.{comes_after_children}
use Rattle.residents.specs.Quantum.{ActsOn, CanTell, EndsNow, EndsOrStays, Tells, forking_of, sending_of}
use Rattle.residents.specs.Held.{Runs}
use Rattle.residents.proofs.Quanta.{none_silent}

-- the end of a process that is not due leaves it within its limits
end_within : (limits : Limits) (old : Process) (quantum : Quantum) (new : Process) → is_due limits old ≡ false → EndsNow old quantum new → is_within limits new ≡ true
end_within limits old quantum new undue e =
    step_within limits None old new undue (record { read = ap (λ (p : Process). p.read) e.touches; since = ap (λ (p : Process). p.since) e.touches }) (emits_counts (state_of old) (state_of new) (SentExit e.end) e.ends).steps

-- one that stands before its end has made a step, where it is not to end now
made_some : (limits : Limits) (childless : Bool) (made steps : ℕ) (old mid : Process) → (made ≡ 0 → comes_after_children limits (Runs old) ≡ true → childless ≡ true) → silently steps (state_of old) ≡ Some (state_of mid) → is_exit (next_step (state_of mid)) ≡ true → childless ≡ false
    → 1 ≤ made + steps
made_some limits childless zero zero old mid last silent ends stays =
    let same : state_of old ≡ state_of mid = none_silent (state_of old) (state_of mid) silent in
    absurd (true≢false (sym (last refl (or_right (is_due limits old) (is_exit (next_step (state_of old))) (ap (λ (s : ProcState). is_exit (next_step s)) same ∙ ends))) ∙ stays))
made_some limits childless zero (suc n) old mid last silent ends stays = omega arith
made_some limits childless (suc n) steps old mid last silent ends stays = omega arith

-- of what ran a cluster can tell
pub runs_told : (limits : Limits) (made : ℕ) (old mid : Process) (ran : Ran) → RunsRest limits 64 made old (Ok ran) mid → CanTell ran mid
runs_told limits made old mid RanOn runs = tt
runs_told limits made old mid Refused runs = tt
runs_told limits made old mid (RanSending letter) runs = tt
runs_told limits made old mid RanStuck runs = tt
runs_told limits made old mid RanToFork runs = forks_can (state_of mid) runs.forks
runs_told limits made old mid (RanToEnd count) runs = runs.ends

module _ (limits : Limits) (by : ClusterNo) (childless : Bool) (made : ℕ) (old mid : Process) (undue : made ≡ 0 → is_due limits old ≡ false) (last : made ≡ 0 → comes_after_children limits (Runs old) ≡ true → childless ≡ true) (within : is_within limits old ≡ true → is_within limits mid ≡ true) where
  abbrev Acts : Quantum → Process → Type 0
  Acts quantum new = ActsOn limits by 64 childless made old (Ok quantum) new

  -- where the process stays as it is then
  stays : (quantum told : Quantum) (new : Process) → (told ≡ quantum) × (new ≡ mid) → Acts quantum mid → Acts told new
  stays quantum told new same acts = subst (λ q. Acts q new) (sym same.0) (subst (Acts quantum) (sym same.1) acts)

  -- one that stands before its end
  ends : (count : ℕ) (quantum : Quantum) (new : Process) (b : Bool) → childless ≡ b → StandsAtEnd limits 64 made old count mid → EndsOrStays b mid quantum new → Acts quantum new
  ends count quantum new true is runs tells =
      subst (λ q. Acts q new) (sym tells.is) (
        record {
          steps = runs.steps;
          before = mid;
          few = runs.few;
          silent = runs.silent;
          undue = runs.undue;
          sends = tells.ends;
          touches = tells.touches;
          within = λ inside. end_within limits mid quantum new runs.undue tells;
          pid_is = refl;
          at_is = refl;
        },
        λ end. is,
      )
  ends count quantum new false is runs tells =
      stays Moved quantum new tells (record {
        moves = record {
          steps = runs.steps;
          some = made_some limits childless made runs.steps old mid last (runs.silent).silent runs.ends is;
          few = omega (arith, runs.few);
          silent = runs.silent;
        };
        within = within;
      })

  pub rest_told : (ran : Ran) (quantum : Quantum) (new : Process) → RunsRest limits 64 made old (Ok ran) mid → Tells ran childless mid quantum new → Acts quantum new
  rest_told RanOn quantum new runs tells = stays Moved quantum new tells (record { moves = runs.moves; within = within })
  rest_told Refused quantum new runs tells = stays Moved quantum new tells (record { moves = runs; within = within })
  rest_told (RanSending letter) quantum new runs tells =
      stays (Sent (sending_of mid.small (SentMail letter))) quantum new tells (
        record {
          steps = runs.steps;
          before = runs.before;
          few = runs.few;
          silent = runs.silent;
          undue = runs.undue;
          sends = runs.sends;
          touches = runs.touches;
          within = within;
          pid_is = refl;
          at_is = refl;
        },
        λ end. absurd (true≢false (sym end)),
      )
  rest_told RanStuck quantum new runs tells = stays Stuck quantum new tells (runs.0, undue runs.0, runs.1, runs.2)
  rest_told RanToFork quantum new runs tells = stays (AtFork (forking_of mid.small)) quantum new tells (record { stands = runs; within = within; forking_is = refl })
  rest_told (RanToEnd count) quantum new runs tells = ends count quantum new childless refl runs tells
