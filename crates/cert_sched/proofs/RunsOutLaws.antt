-- The record alone leads there: a process that starts again makes so many steps until nothing of its record is left, and silent steps from there to where it is.
use Rattle.std.proofs.Common.{◌≡◌, ℕ, zero, suc, ◌+◌, ◌-◌, ◌<◌, refl, sym, ◌∙◌, ap, subst, arith, List, [], ◌∷◌, length, Bool, true, false, eqb, Some, true≢false, All, zero-add}
use Rattle.std.specs.Prelude.{option_and_then, option_map}
use Rattle.std.proofs.lemmas.List.Elements.{All-nil, All-cons}
use Rattle.std.proofs.lemmas.Bool.Decides.{nat_tests}
use Rattle.std.proofs.lemmas.Option.{same_Some}
use Rattle.t32_base.specs.declared.process.Pid.{Pid}
use Rattle.t32_base.specs.declared.process.Counts.{Counts}
use Rattle.t32_base.specs.declared.letter.Letter.{Letter}
use Rattle.t32_base.specs.declared.letter.BackRec.{BackRec}
use Rattle.sys_text.specs.declared.system.System.{System}
use Rattle.sys_text.specs.Valid.{is_system}
use Rattle.proc_state.specs.State.{ProcState, has_ended}
use Rattle.sys_calls.specs.declared.steps.Emission.TheVariants.{Mail as Sent, Exit as Ended}
use Rattle.sys_calls.specs.Calls.{Next, Silent, Blocked, Forks, Emits, Over}
use Rattle.sys_calls.specs.Next.{next_step, silently, silent_of}
use Rattle.sys_calls.specs.Fork.{fork_parent}
use Rattle.sys_calls.proofs.Counting.{exit_ends}
use Rattle.sys_calls.proofs.Leaving.{silent_ends, emits_ends, letter_leaves, fork_ends}
use Rattle.write_count.specs.Counting.{counts_of, total_of, count_for, lowered}
use Rattle.write_count.proofs.CountLaws.{counts_of-cons, count_for-raised, length-counts_of, total_of-counts_of}
use Rattle.write_count.proofs.Prefix.{lowered-counts_of}
use Rattle.plain_kernel.proofs.Laws.{last_silent}
use Rattle.bus_msg.specs.declared.entry.Entry.{Entry}
use Rattle.cert_sched.specs.Schedule.{process_after}
use Rattle.cert_sched.specs.Parts.{upto_last}
use Rattle.roll_forward.specs.Deeds.{Deed, Sends, Bears, letters_in, births_in}
use Rattle.cert_sched.specs.Deeds.{starts, start_of, since}
use Rattle.cert_sched.specs.Record.{backup_record, record_from}
use Rattle.roll_forward.specs.RunsOut.{RunsOut, RunsOn, nothing_left}
use Rattle.roll_forward.specs.Replay.{replayed}
use Rattle.cert_sched.specs.Rolling.{refilled}
use Rattle.cert_sched.specs.Legal.{IsLegalBy}
use Rattle.cert_sched.specs.Simulation.{RecordLeads}
use Rattle.cert_sched.proofs.ReplayLaws.{Sharp, Replays, ReplaysBy, replays_none, replays_goes_on, replays_computes}
use Rattle.cert_sched.proofs.CameLaws.{IsStandingRule}
use Rattle.cert_sched.proofs.RollLaws.{Rolls, rolls_steps, all_roll}
use Rattle.cert_sched.proofs.EndsLaws.{process_after-ends}

-- ---- the deeds of a replay

-- a letter leaves from one of 32 ends, and no deed is an exit
abbrev pub Fine : Deed → Type 0
Fine (Sends (Sent letter)) = letter.out < 32
Fine (Sends (Ended end)) = ⊥
Fine (Bears child) = Unit {0}

abbrev pub AllFine : List Deed → Type 0
AllFine [] = Unit {0}
AllFine (d ∷ ds) = Fine d × AllFine ds

step_fine : (n : ℕ) (s t : ProcState) (next : Next) (ds : List Deed) → has_ended (t.small).status ≡ false → length (s.small).ends ≡ 32 → next_step s ≡ next → ReplaysBy s (λ x r. Replays n x r t) next ds
    → ((x : ProcState) (r : List Deed) → length (x.small).ends ≡ 32 → Replays n x r t → AllFine r) → AllFine ds
step_fine n s t (Silent x) ds goes_on ends is h on = on x ds (silent_ends s x is ∙ ends) h
step_fine n s t Blocked ds goes_on ends is h on = absurd h
step_fine n s t Forks [] goes_on ends is h on = absurd h
step_fine n s t Forks (Sends e ∷ rest) goes_on ends is h on = absurd h
step_fine n s t Forks (Bears child ∷ rest) goes_on ends is h on = (tt, on (fork_parent s child) rest (fork_ends s child ∙ ends) h)
step_fine n s t (Emits e x) [] goes_on ends is h on = absurd h
step_fine n s t (Emits e x) (Sends (Sent letter) ∷ rest) goes_on ends is h on =
    let leaves : letter.out < length (s.small).ends = letter_leaves s x letter (is ∙ ap (λ m. Emits m x) (sym h.0)) (omega (arith, ends)) in
    (omega (arith, leaves, ends), on x rest (emits_ends s x e is ∙ ends) h.1)
step_fine n s t (Emits e x) (Sends (Ended end) ∷ rest) goes_on ends is h on =
    absurd (true≢false (sym (exit_ends s x end (is ∙ ap (λ m. Emits m x) (sym h.0))) ∙ replays_goes_on n x t rest h.1 goes_on))
step_fine n s t (Emits e x) (Bears child ∷ rest) goes_on ends is h on = absurd h
step_fine n s t Over ds goes_on ends is h on = absurd h

-- so it is where the process has 32 ends, and has not ended after it
pub replays_fine : (n : ℕ) (s t : ProcState) (ds : List Deed) → has_ended (t.small).status ≡ false → length (s.small).ends ≡ 32 → Replays n s ds t → AllFine ds
replays_fine zero s t ds goes_on ends h = subst AllFine (sym h.0) tt
replays_fine (suc n) s t ds goes_on ends h = step_fine n s t (next_step s) ds goes_on ends refl h (λ x r e g. replays_fine n x t r goes_on e g)

abbrev LeaveWithin : List Letter → Type 0
LeaveWithin letters = All (λ (letter : Letter). letter.out < 32) letters

fine_letters : (ds : List Deed) → AllFine ds → LeaveWithin (letters_in ds)
fine_letters [] fine = All-nil (λ (letter : Letter). letter.out < 32)
fine_letters (Sends (Sent letter) ∷ ds) fine = All-cons (λ (letter : Letter). letter.out < 32) letter (letters_in ds) fine.0 (fine_letters ds fine.1)
fine_letters (Sends (Ended end) ∷ ds) fine = absurd fine.0
fine_letters (Bears child ∷ ds) fine = fine_letters ds fine.1

-- ---- what is left

abbrev Left : List Deed → Bool
Left ds = nothing_left (counts_of (letters_in ds)) (births_in ds)

-- while a deed is to be done something is left
some_left : (d : Deed) (ds : List Deed) → AllFine (d ∷ ds) → Left (d ∷ ds) ≡ false
some_left (Sends (Sent letter)) ds fine = by_births (births_in ds)
  where
    above : (n m : ℕ) → n ≡ suc m → eqb n 0 ≡ false
    above n m e = grind (arith, nat_tests)

    by_births : (bs : List Pid) → nothing_left (counts_of (letter ∷ letters_in ds)) bs ≡ false
    by_births [] = above (total_of (counts_of (letter ∷ letters_in ds))) (length (letters_in ds)) (total_of-counts_of (letter ∷ letters_in ds) (fine_letters (Sends (Sent letter) ∷ ds) fine))
    by_births (b ∷ bs) = refl
some_left (Sends (Ended end)) ds fine = absurd fine.0
some_left (Bears child) ds fine = refl

-- ---- the record runs out

-- so many steps until nothing is left, and silent steps from there on
pub record RanOut (n : ℕ) (s : ProcState) (ds : List Deed) (t : ProcState) : Type 0 where
  pub ahead : ℕ
  pub rest : ℕ
  pub count : n ≡ ahead + rest
  pub there : ProcState
  pub runs_out : RunsOut s (counts_of (letters_in ds)) (births_in ds) ahead
  pub replays : Replays ahead s ds there
  pub silent : Replays rest there [] t

-- where nothing is to be done it has run out
ran_none : (n : ℕ) (s t : ProcState) → Replays n s [] t → RanOut n s [] t
ran_none n s t h = record { ahead = 0; rest = n; count = sym (zero-add n); there = s; runs_out = refl; replays = replays_none s; silent = h }

one_further : (n : ℕ) (s x t : ProcState) (d : Deed) (ds ds' : List Deed) → Left (d ∷ ds) ≡ false → (r : RanOut n x ds' t)
    → RunsOn s (counts_of (letters_in (d ∷ ds))) (λ t left rest. RunsOut t left rest r.ahead) (next_step s) (births_in (d ∷ ds))
    → Replays (suc r.ahead) s (d ∷ ds) r.there → RanOut (suc n) s (d ∷ ds) t
one_further n s x t d ds ds' left r runs made =
    let count = r.count in
    record { ahead = suc r.ahead; rest = r.rest; count = omega (arith, count); there = r.there; runs_out = (left, runs); replays = made; silent = r.silent }

-- a deed is to be done: what the next step does to what is left
step_runs : (n : ℕ) (s t : ProcState) (next : Next) (d : Deed) (ds : List Deed) → AllFine (d ∷ ds) → next_step s ≡ next → ReplaysBy s (λ x r. Replays n x r t) next (d ∷ ds)
    → ((x : ProcState) (r : List Deed) → AllFine r → Replays n x r t → RanOut n x r t) → RanOut (suc n) s (d ∷ ds) t
step_runs n s t (Silent x) d ds fine is h on =
    let r = on x (d ∷ ds) fine h in
    let runs : RunsOn s (counts_of (letters_in (d ∷ ds))) (λ t left rest. RunsOut t left rest r.ahead) (Silent x) (births_in (d ∷ ds)) = r.runs_out in
    let made : ReplaysBy s (λ u rest. Replays r.ahead u rest r.there) (Silent x) (d ∷ ds) = r.replays in
    one_further n s x t d ds (d ∷ ds) (some_left d ds fine) r
    (subst (λ next. RunsOn s (counts_of (letters_in (d ∷ ds))) (λ t left rest. RunsOut t left rest r.ahead) next (births_in (d ∷ ds))) (sym is) runs)
    (subst (λ next. ReplaysBy s (λ u rest. Replays r.ahead u rest r.there) next (d ∷ ds)) (sym is) made)
step_runs n s t Blocked d ds fine is h on = absurd h
step_runs n s t Forks (Sends e) ds fine is h on = absurd h
step_runs n s t Forks (Bears child) ds fine is h on =
    let r = on (fork_parent s child) ds fine.1 h in
    let runs : RunsOn s (counts_of (letters_in ds)) (λ t left rest. RunsOut t left rest r.ahead) Forks (child ∷ births_in ds) = r.runs_out in
    let made : ReplaysBy s (λ u rest. Replays r.ahead u rest r.there) Forks (Bears child ∷ ds) = r.replays in
    one_further n s (fork_parent s child) t (Bears child) ds ds (some_left (Bears child) ds fine) r
    (subst (λ next. RunsOn s (counts_of (letters_in ds)) (λ t left rest. RunsOut t left rest r.ahead) next (child ∷ births_in ds)) (sym is) runs)
    (subst (λ next. ReplaysBy s (λ u rest. Replays r.ahead u rest r.there) next (Bears child ∷ ds)) (sym is) made)
step_runs n s t (Emits e x) (Sends (Sent letter)) ds fine is h on =
    let same : next_step s ≡ Emits (Sent letter) x = is ∙ ap (λ m. Emits m x) (sym h.0) in
    let out : letter.out < 32 = fine.0 in
    let r = on x ds fine.1 h.1 in
    let long = length-counts_of (letters_in ds) in
    let more : count_for (counts_of (letter ∷ letters_in ds)) letter ≡ count_for (counts_of (letters_in ds)) letter + 1 =
    ap (λ counts. count_for counts letter) (counts_of-cons letter (letters_in ds) out) ∙ count_for-raised (counts_of (letters_in ds)) letter (omega (arith, long, out)) in
    let runs : RunsOn s (counts_of (letter ∷ letters_in ds)) (λ t left rest. RunsOut t left rest r.ahead) (Emits (Sent letter) x) (births_in ds) =
    (omega (arith, more), subst (λ counts. RunsOut x counts (births_in ds) r.ahead) (sym (lowered-counts_of letter (letters_in ds) out)) r.runs_out) in
    let made : ReplaysBy s (λ u rest. Replays r.ahead u rest r.there) (Emits (Sent letter) x) (Sends (Sent letter) ∷ ds) = (refl, r.replays) in
    one_further n s x t (Sends (Sent letter)) ds ds (some_left (Sends (Sent letter)) ds fine) r
    (subst (λ next. RunsOn s (counts_of (letter ∷ letters_in ds)) (λ t left rest. RunsOut t left rest r.ahead) next (births_in ds)) (sym same) runs)
    (subst (λ next. ReplaysBy s (λ u rest. Replays r.ahead u rest r.there) next (Sends (Sent letter) ∷ ds)) (sym same) made)
step_runs n s t (Emits e x) (Sends (Ended end)) ds fine is h on = absurd fine.0
step_runs n s t (Emits e x) (Bears child) ds fine is h on = absurd h
step_runs n s t Over d ds fine is h on = absurd h

no_deed : (d : Deed) (ds : List Deed) → (d ∷ ds) ≡ [] → ⊥
no_deed d ds e = cc

-- a replay runs out its own counts and births
pub replays_run_out : (n : ℕ) (s t : ProcState) (ds : List Deed) → AllFine ds → Replays n s ds t → RanOut n s ds t
replays_run_out n s t [] fine h = ran_none n s t h
replays_run_out zero s t (d ∷ ds) fine h = absurd (no_deed d ds h.0)
replays_run_out (suc n) s t (d ∷ ds) fine h = step_runs n s t (next_step s) d ds fine refl h (λ x r f g. replays_run_out n x t r f g)

-- ---- one number of steps

runs_on_same : (s : ProcState) (counts : Counts) (A B : ProcState → Counts → List Pid → Type 0) (C : Type 0) → ((t : ProcState) (left : Counts) (rest : List Pid) → A t left rest → B t left rest → C)
    → (next : Next) (births : List Pid) → RunsOn s counts A next births → RunsOn s counts B next births → C
runs_on_same s counts A B C both (Silent t) births a b = both t counts births a b
runs_on_same s counts A B C both Blocked births a b = absurd a
runs_on_same s counts A B C both Forks [] a b = absurd a
runs_on_same s counts A B C both Forks (child ∷ rest) a b = both (fork_parent s child) counts rest a b
runs_on_same s counts A B C both (Emits (Sent letter) t) births a b = both t (lowered counts letter) births a.1 b.1
runs_on_same s counts A B C both (Emits (Ended end) t) births a b = absurd a
runs_on_same s counts A B C both Over births a b = absurd a

-- counts and births run out at one number of steps alone
pub runs_out_once : (n m : ℕ) (s : ProcState) (counts : Counts) (births : List Pid) → RunsOut s counts births n → RunsOut s counts births m → n ≡ m
runs_out_once zero zero s counts births a b = refl
runs_out_once zero (suc m) s counts births a b = absurd (true≢false (sym a ∙ b.0))
runs_out_once (suc n) zero s counts births a b = absurd (true≢false (sym b ∙ a.0))
runs_out_once (suc n) (suc m) s counts births a b =
    ap suc (runs_on_same s counts (λ t left rest. RunsOut t left rest n) (λ t left rest. RunsOut t left rest m) (n ≡ m) (λ t left rest x y. runs_out_once n m t left rest x y) (next_step s) births a.1 b.1)

-- ---- silent steps

silent_first : (n : ℕ) (s x t : ProcState) → next_step s ≡ Silent x → silently n x ≡ Some t → silently (suc n) s ≡ Some t
unfolding silently
silent_first zero s x t is then = ap silent_of is ∙ then
silent_first (suc n) s x t is then =
    let l = last_silent n x t then in
    ap (option_and_then (λ q. silent_of (next_step q))) (silent_first n s x l.before is l.made) ∙ ap silent_of l.last

step_silently : (n : ℕ) (s t : ProcState) (next : Next) → next_step s ≡ next → ReplaysBy s (λ x r. Replays n x r t) next [] → ((x : ProcState) → Replays n x [] t → silently n x ≡ Some t) → silently (suc n) s ≡ Some t
step_silently n s t (Silent x) is h on = silent_first n s x t is (on x h)
step_silently n s t Blocked is h on = absurd h
step_silently n s t Forks is h on = absurd h
step_silently n s t (Emits e x) is h on = absurd h
step_silently n s t Over is h on = absurd h

none_silent : (s t : ProcState) → t ≡ s → silently 0 s ≡ Some t
unfolding silently
none_silent s t same = ap Some (sym same)

-- steps that do nothing that others see are silent
pub replays_no_deed : (n : ℕ) (s t : ProcState) → Replays n s [] t → silently n s ≡ Some t
replays_no_deed zero s t h = none_silent s t h.1
replays_no_deed (suc n) s t h = step_silently n s t (next_step s) refl h (λ x g. replays_no_deed n x t g)

-- ---- the record of a process

pub record_of : (system : System) (log : List Entry) (p : Pid) (start : ProcState) (r : BackRec) → start_of system log p ≡ Some start → backup_record system log p ≡ Some r → record_from system log p start ≡ r
unfolding backup_record
record_of system log p start r started is = same_Some (record_from system log p start) r (sym (ap (option_map (record_from system log p)) started) ∙ is)

pub start_ends : (system : System) (log : List Entry) (p : Pid) (start : ProcState) → start_of system log p ≡ Some start → length (start.small).ends ≡ 32
start_ends system log p start started = process_after-ends system (upto_last (starts p) log) p start started

led_by_record : (system : System) (log : List Entry) (p : Pid) (now : ProcState) (r : BackRec) → has_ended (now.small).status ≡ false → (start : ProcState) → start_of system log p ≡ Some start
    → (n : ℕ) → (now.small).steps - (start.small).steps ≡ n → Replays n (refilled log p start) (since log p) now → backup_record system log p ≡ Some r → RecordLeads system log p r now
led_by_record system log p now r goes_on start started n steps replays is =
    let same : record_from system log p start ≡ r = record_of system log p start r started is in
    let s = refilled log p start in
    let out = replays_run_out n s now (since log p) (replays_fine n s now (since log p) goes_on (start_ends system log p start started) replays) replays in
    let count = out.count in
    let left : (now.small).steps - (start.small).steps - out.ahead ≡ out.rest = omega (arith, steps, count) in
    record {
      start = start;
      started = started;
      saved = ap (λ (b : BackRec). b.saved) same;
      next = ap (λ (b : BackRec). b.next) same;
      ahead = out.ahead;
      within = omega (arith, steps, count);
      runs_out = subst (λ (b : BackRec). RunsOut s b.counts b.births out.ahead) same out.runs_out;
      there = out.there;
      made = ap (λ (b : BackRec). replayed out.ahead s b.births) (sym same) ∙ replays_computes out.ahead s out.there (since log p) out.replays;
      silent = ap (λ n. silently n out.there) left ∙ replays_no_deed out.rest out.there now out.silent;
    }

-- a process that came to where it is so, and has not ended, is led there by its record
pub rolls_record : (system : System) (log : List Entry) (p : Pid) (now : ProcState) (r : BackRec) → has_ended (now.small).status ≡ false → Rolls system log p now → backup_record system log p ≡ Some r → RecordLeads system log p r now
rolls_record system log p now r goes_on rolls is =
    let steps = rolls_steps system log p now rolls in
    led_by_record system log p now r goes_on rolls.start rolls.started rolls.made (omega (arith, steps)) rolls.replays is

-- in a legal log the record of each process that has not ended leads to where it is
pub record_leads : (May : System → List Entry → Entry → Type 0) → IsStandingRule May → (system : System) (log : List Entry) (p : Pid) (now : ProcState) (r : BackRec) → is_system system ≡ true → IsLegalBy May system log
    → process_after system log p ≡ Some now → has_ended (now.small).status ≡ false → backup_record system log p ≡ Some r → RecordLeads system log p r now
record_leads May standing system log p now r valid legal there goes_on is =
    rolls_record system log p now r goes_on ((all_roll May standing system log valid legal).rolls p now there goes_on) is

-- ---- up to the last deed

step_sharp : (n : ℕ) (s t : ProcState) (next : Next) (d : Deed) (ds : List Deed) → AllFine (d ∷ ds) → ReplaysBy s (λ x r. Sharp n x r t) next (d ∷ ds)
    → ((x : ProcState) (r : List Deed) → AllFine r → Sharp n x r t → RunsOut x (counts_of (letters_in r)) (births_in r) n) → RunsOn s (counts_of (letters_in (d ∷ ds))) (λ t left rest. RunsOut t left rest n) next (births_in (d ∷ ds))
step_sharp n s t (Silent x) d ds fine h on = on x (d ∷ ds) fine h
step_sharp n s t Blocked d ds fine h on = absurd h
step_sharp n s t Forks (Sends e) ds fine h on = absurd h
step_sharp n s t Forks (Bears child) ds fine h on = on (fork_parent s child) ds fine.1 h
step_sharp n s t (Emits e x) (Sends (Sent letter)) ds fine h on =
    let out : letter.out < 32 = fine.0 in
    let long = length-counts_of (letters_in ds) in
    let more : count_for (counts_of (letter ∷ letters_in ds)) letter ≡ count_for (counts_of (letters_in ds)) letter + 1 =
    ap (λ counts. count_for counts letter) (counts_of-cons letter (letters_in ds) out) ∙ count_for-raised (counts_of (letters_in ds)) letter (omega (arith, long, out)) in
    let runs : RunsOn s (counts_of (letter ∷ letters_in ds)) (λ t left rest. RunsOut t left rest n) (Emits (Sent letter) x) (births_in ds) =
    (omega (arith, more), subst (λ counts. RunsOut x counts (births_in ds) n) (sym (lowered-counts_of letter (letters_in ds) out)) (on x ds fine.1 h.1)) in
    subst (λ m. RunsOn s (counts_of (letter ∷ letters_in ds)) (λ t left rest. RunsOut t left rest n) (Emits m x) (births_in ds)) h.0 runs
step_sharp n s t (Emits e x) (Sends (Ended end)) ds fine h on = absurd fine.0
step_sharp n s t (Emits e x) (Bears child) ds fine h on = absurd h
step_sharp n s t Over d ds fine h on = absurd h

-- a replay up to its last deed makes its counts and births run out just there
pub sharp_runs_out : (n : ℕ) (s t : ProcState) (ds : List Deed) → AllFine ds → Sharp n s ds t → RunsOut s (counts_of (letters_in ds)) (births_in ds) n
sharp_runs_out zero s t ds fine h = ap Left h.0
sharp_runs_out (suc n) s t [] fine h = absurd h.0
sharp_runs_out (suc n) s t (d ∷ ds) fine h = (some_left d ds fine, step_sharp n s t (next_step s) d ds fine h.1 (λ x r f g. sharp_runs_out n x t r f g))
