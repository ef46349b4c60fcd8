-- What is held here, and what an entry makes of it.
use Rattle.std.proofs.Common.{◌≡◌, ℕ, refl, sym, ◌∙◌, ap, List, [], ◌∷◌, Bool, true, false, cond, not, ◌||◌, eqb, eqb-true, Option, Some, None, true≢false}
use Rattle.std.specs.Prelude.{filter, find, option_map}
use Rattle.std.specs.List.{list_any}
use Rattle.t32_base.specs.declared.process.Pid.{Pid}
use Rattle.t32_base.specs.declared.process.Counts.{Counts}
use Rattle.t32_base.specs.declared.letter.Letter.{Letter}
use Rattle.t32_base.specs.declared.letter.To.{To}
use Rattle.t32_base.specs.declared.letter.To.TheVariants.{Proc, Tty}
use Rattle.proc_state.specs.declared.process.Process.{Process}
use Rattle.proc_state.specs.State.{state_of, delivered}
use Rattle.sys_calls.specs.declared.steps.Emission.{Emission}
use Rattle.sys_calls.specs.declared.steps.Emission.TheVariants.{Mail as Sent, Exit as Ended}
use Rattle.sys_calls.proofs.RunLemma.{all_delivered}
use Rattle.bus_msg.specs.declared.entry.What.{What}
use Rattle.bus_msg.specs.declared.entry.What.TheVariants.{Mail}
use Rattle.bus_msg.specs.Places.{same_pid}
use Rattle.cert_sched.specs.Rules.{tells_or_closes}
use Rattle.cert_sched.specs.Deeds.{is_end_of, letter_for, to_process}
use Rattle.cert_sched.proofs.StepLaws.{Tells}
use Rattle.cert_sched.proofs.MailLaws.{with_arrival}
use Rattle.quanta.specs.declared.limits.Limits.{Limits}
use Rattle.residents.specs.Held.{Held, Runs, Rolls, IsHeldWithin, arrived, arrived_held, held_of}
use Rattle.residents.specs.Residents.{pids_in}
use Rattle.cluster_core.specs.Calls.{here_after}
use Rattle.residents.specs.Arriving.{with_letter}
use Rattle.cluster_core.proofs.absorbing.ByKind.{by_kind}
use Rattle.residents.proofs.Changing.{pid_same}

-- ---- which are here

pub is_among : (here : List (Pid × Held)) (p : Pid) (h : Held) → held_of here p ≡ Some h → list_any (λ n. eqb n p.0) (pids_in here) ≡ true
is_among [] p h there = cc
is_among (e ∷ here) p h there = by_test (same_pid e.0 p) there (is_among here p h)
  where
    by_test : (b : Bool) → option_map (λ (e : Pid × Held). e.1) (cond b (Some e) (find (λ (e : Pid × Held). same_pid e.0 p) here)) ≡ Some h
        → (held_of here p ≡ Some h → list_any (λ n. eqb n p.0) (pids_in here) ≡ true) → (b || list_any (λ n. eqb n p.0) (pids_in here)) ≡ true
    by_test true is more = refl
    by_test false is more = more is

-- ---- one process, after an entry

-- what an entry makes of one process
abbrev pub arrival_at : What → Pid → Held → Held
arrival_at (Mail at letter) p h = cond (is_end_of p letter.to) (arrived_held h letter) h
arrival_at w p h = h

-- a process that is here after an entry was here before it, and did not end by it
pub record WasHere (w : What) (here : List (Pid × Held)) (p : Pid) (h : Held) : Type 0 where
  pub was : Held
  pub there : held_of here p ≡ Some was
  pub same : h ≡ arrival_at w p was

abbrev LetterFound : Letter → List (Pid × Held) → Pid → Type 0
LetterFound letter here p = held_of (with_letter letter here) p ≡ option_map (λ (h : Held). cond (is_end_of p letter.to) (arrived_held h letter) h) (held_of here p)

letter_found : (letter : Letter) (here : List (Pid × Held)) (p : Pid) → LetterFound letter here p
letter_found letter [] p = refl
letter_found letter (e ∷ here) p = by_tests (is_end_of e.0 letter.to) refl (letter_found letter here p)
  where
    by_pid : (x : Held) (b : Bool) → (b ≡ true → x ≡ cond (is_end_of p letter.to) (arrived_held e.1 letter) e.1) → LetterFound letter here p
        → option_map (λ (e : Pid × Held). e.1) (cond b (Some (e.0, x)) (find (λ (e : Pid × Held). same_pid e.0 p) (with_letter letter here)))
        ≡ option_map (λ (h : Held). cond (is_end_of p letter.to) (arrived_held h letter) h) (option_map (λ (e : Pid × Held). e.1) (cond b (Some e) (find (λ (e : Pid × Held). same_pid e.0 p) here)))
    by_pid x true is more = ap Some (is refl)
    by_pid x false is more = more

    at_end : (b : Bool) → same_pid e.0 p ≡ b → b ≡ true → is_end_of e.0 letter.to ≡ is_end_of p letter.to
    at_end b at is = ap (λ q. is_end_of q letter.to) (pid_same e.0 p (eqb-true (e.0).0 p.0 (at ∙ is)))

    by_tests : (b : Bool) → is_end_of e.0 letter.to ≡ b → LetterFound letter here p
        → option_map (λ (e : Pid × Held). e.1) (find (λ (e : Pid × Held). same_pid e.0 p) (cond b (e.0, arrived_held e.1 letter) e ∷ with_letter letter here))
        ≡ option_map (λ (h : Held). cond (is_end_of p letter.to) (arrived_held h letter) h) (held_of (e ∷ here) p)
    by_tests true is more = by_pid (arrived_held e.1 letter) (same_pid e.0 p) (λ at. ap (λ b. cond b (arrived_held e.1 letter) e.1) (sym is ∙ at_end (same_pid e.0 p) refl at)) more
    by_tests false is more = by_pid e.1 (same_pid e.0 p) (λ at. ap (λ b. cond b (arrived_held e.1 letter) e.1) (sym is ∙ at_end (same_pid e.0 p) refl at)) more

letter_was : (at : ℕ) (letter : Letter) (here : List (Pid × Held)) (p : Pid) (h : Held) (o : Option Held) → held_of here p ≡ o
    → option_map (λ (h : Held). cond (is_end_of p letter.to) (arrived_held h letter) h) o ≡ Some h → WasHere (Mail at letter) here p h
letter_was at letter here p h None there is = cc
letter_was at letter here p h (Some was) there is = record { was = was; there = there; same = cc }

exit_found : (pid : Pid) (here : List (Pid × Held)) (p : Pid) (h : Held) → held_of (filter (λ (e : Pid × Held). not (same_pid e.0 pid)) here) p ≡ Some h → (held_of here p ≡ Some h) × (same_pid p pid ≡ false)
exit_found pid [] p h at = cc
exit_found pid (e ∷ here) p h at = by_exit (same_pid e.0 pid) refl at (exit_found pid here p h)
  where
    later : (b : Bool) → same_pid e.0 p ≡ b → (held_of here p ≡ Some h) × (same_pid p pid ≡ false) → same_pid e.0 pid ≡ true → (held_of (e ∷ here) p ≡ Some h) × (same_pid p pid ≡ false)
    later true is found exits = absurd (true≢false (sym exits ∙ ap (λ q. same_pid q pid) (pid_same e.0 p (eqb-true (e.0).0 p.0 is)) ∙ found.1))
    later false is found exits = (ap (λ b. option_map (λ (e : Pid × Held). e.1) (cond b (Some e) (find (λ (e : Pid × Held). same_pid e.0 p) here))) is ∙ found.0, found.1)

    by_pid : (b : Bool) → same_pid e.0 p ≡ b → option_map (λ (e : Pid × Held). e.1) (cond b (Some e) (find (λ (e : Pid × Held). same_pid e.0 p) (filter (λ (e : Pid × Held). not (same_pid e.0 pid)) here))) ≡ Some h
        → (held_of (filter (λ (e : Pid × Held). not (same_pid e.0 pid)) here) p ≡ Some h → (held_of here p ≡ Some h) × (same_pid p pid ≡ false)) → same_pid e.0 pid ≡ false
        → (held_of (e ∷ here) p ≡ Some h) × (same_pid p pid ≡ false)
    by_pid true is at more stays = (
      ap (λ b. option_map (λ (e : Pid × Held). e.1) (cond b (Some e) (find (λ (e : Pid × Held). same_pid e.0 p) here))) is ∙ at,
      ap (λ q. same_pid q pid) (sym (pid_same e.0 p (eqb-true (e.0).0 p.0 is))) ∙ stays,
    )
    by_pid false is at more stays = let found = more at in (ap (λ b. option_map (λ (e : Pid × Held). e.1) (cond b (Some e) (find (λ (e : Pid × Held). same_pid e.0 p) here))) is ∙ found.0, found.1)

    by_exit : (b : Bool) → same_pid e.0 pid ≡ b
        → held_of (cond (not b) (e ∷ filter (λ (e : Pid × Held). not (same_pid e.0 pid)) here) (filter (λ (e : Pid × Held). not (same_pid e.0 pid)) here)) p ≡ Some h
        → (held_of (filter (λ (e : Pid × Held). not (same_pid e.0 pid)) here) p ≡ Some h → (held_of here p ≡ Some h) × (same_pid p pid ≡ false)) → (held_of (e ∷ here) p ≡ Some h) × (same_pid p pid ≡ false)
    by_exit true is at more = later (same_pid e.0 p) refl (more at) is
    by_exit false is at more = by_pid (same_pid e.0 p) refl at more is

pub was_here : (w : What) (here : List (Pid × Held)) (p : Pid) (h : Held) → tells_or_closes w ≡ true → held_of (here_after w here) p ≡ Some h → WasHere w here p h
was_here w here p h =
    by_kind (λ w. held_of (here_after w here) p ≡ Some h → WasHere w here p h)
    (λ at letter is. letter_was at letter here p h (held_of here p) refl (sym (letter_found letter here p) ∙ is))
    (λ pid at end is. record { was = h; there = (exit_found pid here p h is).0; same = refl })
    (λ rests is. record { was = h; there = is; same = refl })
    (λ is. record { was = h; there = is; same = refl })
    w

-- what an entry makes of one that runs
abbrev pub arrival_in : What → Pid → Process → Process
arrival_in (Mail at letter) p s = cond (is_end_of p letter.to) (arrived s letter) s
arrival_in w p s = s

pub runs_after : (w : What) (p : Pid) (s : Process) → tells_or_closes w ≡ true → arrival_at w p (Runs s) ≡ Runs (arrival_in w p s)
runs_after w p s = by_kind (λ w. arrival_at w p (Runs s) ≡ Runs (arrival_in w p s)) (λ at letter. by_test letter (is_end_of p letter.to)) (λ pid at end. refl) (λ rests. refl) refl w
  where
    by_test : (letter : Letter) (b : Bool) → cond b (Runs (arrived s letter)) (Runs s) ≡ Runs (cond b (arrived s letter) s)
    by_test letter true = refl
    by_test letter false = refl

pub rolls_after : (w : What) (p : Pid) (s : Process) (counts : Counts) (births : List Pid) → tells_or_closes w ≡ true → arrival_at w p (Rolls s counts births) ≡ Rolls (arrival_in w p s) counts births
rolls_after w p s counts births =
    by_kind (λ w. arrival_at w p (Rolls s counts births) ≡ Rolls (arrival_in w p s) counts births) (λ at letter. by_test letter (is_end_of p letter.to)) (λ pid at end. refl) (λ rests. refl) refl w
  where
    by_test : (letter : Letter) (b : Bool) → cond b (Rolls (arrived s letter) counts births) (Rolls s counts births) ≡ Rolls (cond b (arrived s letter) s) counts births
    by_test letter true = refl
    by_test letter false = refl

-- its state is that with the letters that the entry brings it
pub arrival_letters : (w : What) (p : Pid) (s : Process) → tells_or_closes w ≡ true → state_of (arrival_in w p s) ≡ all_delivered (state_of s) (letter_for p w)
arrival_letters w p s = by_kind (λ w. state_of (arrival_in w p s) ≡ all_delivered (state_of s) (letter_for p w)) (λ at letter. by_to letter letter.to) (λ pid at end. refl) (λ rests. refl) refl w
  where
    by_pid : (letter : Letter) (b : Bool) → state_of (cond b (arrived s letter) s) ≡ all_delivered (state_of s) (cond b (letter ∷ []) [])
    by_pid letter true = refl
    by_pid letter false = refl

    by_to : (letter : Letter) (to : To) → state_of (cond (is_end_of p to) (arrived s letter) s) ≡ all_delivered (state_of s) (to_process p letter to)
    by_to letter (Proc q end) = by_pid letter (same_pid q p)
    by_to letter (Tty t) = refl

-- its state is that of the kernel's process with the letter, where the entry tells of an emission
pub arrival_state : (w : What) (q : Pid) (at : ℕ) (m : Emission) (p : Pid) (s : Process) → Tells q at m w → state_of (arrival_in w p s) ≡ with_arrival m p (state_of s)
arrival_state w q at (Sent letter) p s tells = ap (λ w. state_of (arrival_in w p s)) tells.1 ∙ by_test (is_end_of p letter.to)
  where
    by_test : (b : Bool) → state_of (cond b (arrived s letter) s) ≡ cond b (delivered (state_of s) letter) (state_of s)
    by_test true = refl
    by_test false = refl
arrival_state w q at (Ended end) p s tells = ap (λ w. state_of (arrival_in w p s)) tells

-- a letter changes neither the steps nor the rest of the small state
pub arrival_small : (w : What) (p : Pid) (s : Process) → tells_or_closes w ≡ true → (arrival_in w p s).small ≡ s.small
arrival_small w p s = by_kind (λ w. (arrival_in w p s).small ≡ s.small) (λ at letter. by_test letter (is_end_of p letter.to)) (λ pid at end. refl) (λ rests. refl) refl w
  where
    by_test : (letter : Letter) (b : Bool) → (cond b (arrived s letter) s).small ≡ s.small
    by_test letter true = refl
    by_test letter false = refl

-- a letter changes neither its steps nor what it has read
pub arrival_within : (limits : Limits) (w : What) (p : Pid) (h : Held) → tells_or_closes w ≡ true → IsHeldWithin limits h → IsHeldWithin limits (arrival_at w p h)
arrival_within limits w p h tells within = by_kind (λ w. IsHeldWithin limits (arrival_at w p h)) (λ at letter. by_end letter (is_end_of p letter.to)) (λ pid at end. within) (λ rests. within) within w tells
  where
    by_held : (letter : Letter) (h : Held) → IsHeldWithin limits h → IsHeldWithin limits (arrived_held h letter)
    by_held letter (Runs s) within = within
    by_held letter _ within = tt

    by_end : (letter : Letter) (b : Bool) → IsHeldWithin limits (cond b (arrived_held h letter) h)
    by_end letter true = by_held letter h within
    by_end letter false = within
