-- What one more entry does to each process.
use Rattle.std.proofs.Common.{◌≡◌, ℕ, ◌-◌, refl, sym, ◌∙◌, ap, arith, List, [], ◌∷◌, ◌++◌, Bool, true, false, cond, Option, Some, None, true≢false}
use Rattle.std.specs.Prelude.{◌≢◌, is_some, option_map, option_and_then}
use Rattle.std.specs.Option.{option_map_or}
use Rattle.t32_base.specs.Small.{SmallState}
use Rattle.t32_base.specs.declared.process.Pid.{Pid}
use Rattle.t32_base.specs.declared.process.End.{End}
use Rattle.t32_base.specs.declared.letter.Letter.{Letter}
use Rattle.sys_text.specs.declared.system.System.{System}
use Rattle.proc_state.specs.State.{ProcState, delivered, has_ended}
use Rattle.sys_calls.specs.declared.steps.Emission.{Emission}
use Rattle.sys_calls.specs.declared.steps.Emission.TheVariants.{Mail as Sent, Exit as Ended}
use Rattle.sys_calls.specs.Next.{silently}
use Rattle.plain_kernel.specs.Kernel.{Kernel, process_at}
use Rattle.bus_msg.specs.declared.entry.What.{What}
use Rattle.bus_msg.specs.declared.entry.What.TheVariants.{Mail, Exit, Done, Stop}
use Rattle.bus_msg.specs.declared.entry.Entry.{Entry}
use Rattle.bus_msg.specs.Places.{unended_at}
use Rattle.bus_msg.specs.PlacedAfter.{what}
use Rattle.cert_sched.specs.Schedule.{done, plain_after, process_after, done_after, placement}
use Rattle.cert_sched.specs.Deeds.{is_end_of}
use Rattle.cert_sched.specs.Steps.{process_of, silent_upto, emission_at, after_items}
use Rattle.cert_sched.specs.Kinds.{KindHolds}
use Rattle.cert_sched.specs.Rules.{is_by_home, is_by_right, is_over, ends_run, tells_or_closes}
use Rattle.cert_sched.specs.Legal.{IsLegalBy, MayStand}
use Rattle.cluster_core.specs.Sent.{TellingMayStand}
use Rattle.cert_sched.specs.Scripted.{closes}
use Rattle.cert_sched.proofs.Induction.{is_over-snoc}
use Rattle.cert_sched.proofs.StepLaws.{Tells, SentTo, is_sent}
use Rattle.cert_sched.proofs.MailLaws.{emission_at-receiver, process_after-sender, received, received-goes_on, with_arrival}
use Rattle.cert_sched.proofs.EndedLaws.{letter_told, silent_upto-arrives}
use Rattle.cluster_core.proofs.absorbing.ByKind.{by_kind}

-- ---- what an entry tells

-- a letter or an exit of a process, by its home
pub record Telling (system : System) (log : List Entry) (e : Entry) : Type 0 where
  pub pid : Pid
  pub at : ℕ
  pub emission : Emission
  pub after : ProcState
  pub is : emission_at system log pid at ≡ Some (emission, after)
  pub tells : Tells pid at emission (what e)
  pub by_home : is_by_home (placement system log) (e.post).by (Some pid) ≡ true
  pub process : process_of (what e) ≡ Some pid
  pub items : after_items system log (what e) ≡ Some after

telling_letter : (system : System) (log : List Entry) (e : Entry) (at : ℕ) (letter : Letter) → what e ≡ Mail at letter → SentTo system log letter.from at (Sent letter)
    → is_by_right (placement system log) (e.post).by (what e) ≡ true → Telling system log e
telling_letter system log e at letter same sent by = record {
  pid = letter.from;
  at = at;
  emission = Sent letter;
  after = sent.after;
  is = sent.is;
  tells = (refl, same);
  by_home = ap (is_by_right (placement system log) (e.post).by) (sym same) ∙ by;
  process = ap process_of same;
  items = ap (after_items system log) same ∙ ap (option_map (λ (r : Emission × ProcState). r.1)) sent.is;
}

telling_exit : (system : System) (log : List Entry) (e : Entry) (pid : Pid) (at : ℕ) (end : End) → what e ≡ Exit pid at end → SentTo system log pid at (Ended end)
    → is_by_right (placement system log) (e.post).by (what e) ≡ true → Telling system log e
telling_exit system log e pid at end same sent by = record {
  pid = pid;
  at = at;
  emission = Ended end;
  after = sent.after;
  is = sent.is;
  tells = same;
  by_home = ap (is_by_right (placement system log) (e.post).by) (sym same) ∙ by;
  process = ap process_of same;
  items = ap (after_items system log) same ∙ ap (option_map (λ (r : Emission × ProcState). r.1)) sent.is;
}

-- each entry, but for the end and a stop
pub telling : (system : System) (log : List Entry) (e : Entry) → TellingMayStand system log e → closes (what e) ≡ false → Telling system log e
telling system log e may other =
    by_kind (λ w. what e ≡ w → KindHolds system log e w → closes w ≡ false → Telling system log e)
    (λ at letter same kind other. telling_letter system log e at letter same (is_sent system log letter.from at (Sent letter) kind) (may.stands).by_right)
    (λ pid at end same kind other. telling_exit system log e pid at end same (is_sent system log pid at (Ended end) kind.0) (may.stands).by_right)
    (λ rests same kind other. absurd (true≢false other))
    (λ same kind other. absurd (true≢false other))
    (what e) may.of_kind refl (may.stands).kind other

-- an entry after which the log is not over is neither the end nor a stop
pub not_closed : (system : System) (log : List Entry) (e : Entry) → tells_or_closes (what e) ≡ true → is_over system (log ++ e ∷ []) ≡ false → closes (what e) ≡ false
not_closed system log e of_kind goes_on =
    by_kind (λ w. what e ≡ w → closes w ≡ false) (λ at letter same. refl) (λ pid at end same. refl) (λ rests same. ends (Done rests) same refl) (λ same. ends Stop same refl) (what e) of_kind refl
  where
    ends : (w : What) → what e ≡ w → ends_run (placement system log) w ≡ true → true ≡ false
    ends w same over = sym over ∙ ap (ends_run (placement system log)) (sym same) ∙ sym (is_over-snoc system log e) ∙ goes_on

-- ---- the processes after it

-- the steps of a process are those in its state
pub done_is : (system : System) (log : List Entry) (p : Pid) → done_after system log p ≡ option_map_or (λ (s : ProcState). (s.small).steps) (process_after system log p) 0
done_is system log p = by_kernel (plain_after system log)
  where
    by_kernel : (o : Option Kernel) → option_map_or (λ k. done k p) o 0 ≡ option_map_or (λ (s : ProcState). (s.small).steps) (option_and_then (λ k. process_at k p) o) 0
    by_kernel None = refl
    by_kernel (Some k) = refl

-- a process at its own step count
pub at_once : (system : System) (log : List Entry) (p : Pid) (s : ProcState) → process_after system log p ≡ Some s → silent_upto system log p (s.small).steps ≡ Some s
unfolding silent_upto silently
at_once system log p s is =
    let done : done_after system log p ≡ (s.small).steps = done_is system log p ∙ ap (λ o. option_map_or (λ (s : ProcState). (s.small).steps) o 0) is in
    let none : (s.small).steps - done_after system log p ≡ 0 = omega (arith, done) in
    ap (λ m. option_and_then (silently m) (process_after system log p)) none ∙ ap (option_and_then (silently 0)) is

-- what its items make of the process that an entry tells of
pub items_told : (system : System) (log : List Entry) (w : What) (p : Pid) (at : ℕ) (m : Emission) (t : ProcState) → emission_at system log p at ≡ Some (m, t) → Tells p at m w → after_items system log w ≡ Some t
items_told system log w p at (Sent letter) t is tells =
    ap (after_items system log) tells.1 ∙ ap (λ q. option_map (λ (r : Emission × ProcState). r.1) (emission_at system log q at)) tells.0 ∙ ap (option_map (λ (r : Emission × ProcState). r.1)) is
items_told system log w p at (Ended end) t is tells = ap (after_items system log) tells ∙ ap (option_map (λ (r : Emission × ProcState). r.1)) is

received_small : (m : Emission) (p : Pid) (s : ProcState) → (received m p s).small ≡ s.small
received_small (Ended end) p s = refl
received_small (Sent letter) p s = by_tests (has_ended (s.small).status) (is_end_of p letter.to)
  where
    by_tests : (b c : Bool) → (cond b s (cond c (delivered s letter) s)).small ≡ s.small
    by_tests true c = refl
    by_tests false true = refl
    by_tests false false = refl

-- who sends a letter has not ended, so it gets its own letter where it wrote to itself
received_own : (system : System) (log : List Entry) (p : Pid) (at : ℕ) (m : Emission) (t : ProcState) → emission_at system log p at ≡ Some (m, t) → received m p t ≡ with_arrival m p t
received_own system log p at (Sent letter) t is = received-goes_on (Sent letter) p t (letter_told system log p at letter t is)
received_own system log p at (Ended end) t is = refl

-- the process that an entry tells of, at its own step count after the entry
pub told_now : (system : System) (log : List Entry) (e : Entry) (t : Telling system log e) → silent_upto system (log ++ e ∷ []) t.pid ((t.after).small).steps ≡ Some (with_arrival t.emission t.pid t.after)
told_now system log e t =
    let after : process_after system (log ++ e ∷ []) t.pid ≡ Some (received t.emission t.pid t.after) = process_after-sender system log e t.pid t.at t.emission t.after t.is t.tells in
    ap (λ (s : SmallState). silent_upto system (log ++ e ∷ []) t.pid s.steps) (sym (received_small t.emission t.pid t.after))
    ∙ at_once system (log ++ e ∷ []) t.pid (received t.emission t.pid t.after) after ∙ ap Some (received_own system log t.pid t.at t.emission t.after t.is)

-- what another process sends ahead of the log it sends after the entry too
pub sends_still : (system : System) (log : List Entry) (e : Entry) (t : Telling system log e) (q : Pid) (n : ℕ) (m : Emission) (s : ProcState) → q.0 ≢ (t.pid).0 → emission_at system log q n ≡ Some (m, s)
    → emission_at system (log ++ e ∷ []) q n ≡ Some (m, with_arrival t.emission q s)
sends_still system log e t q n m s apart sends = emission_at-receiver system log e t.pid t.at t.emission t.after q n m s t.is t.tells apart sends

-- where silent steps lead another process that has not ended, they lead after the entry too
pub silent_still : (system : System) (log : List Entry) (e : Entry) (t : Telling system log e) (q : Pid) (n : ℕ) (s : ProcState) → IsLegalBy MayStand system log → is_over system log ≡ false → q.0 ≢ (t.pid).0
    → is_some (unended_at (placement system log) q) ≡ true → silent_upto system log q n ≡ Some s → silent_upto system (log ++ e ∷ []) q n ≡ Some (with_arrival t.emission q s)
silent_still system log e t q n s legal goes_on apart placed silent = silent_upto-arrives MayStand (λ system log e may. may.stands) system log e t.pid t.at t.emission t.after legal goes_on t.is t.tells q n s apart placed silent
