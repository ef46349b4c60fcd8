-- The steps of a process that rolls forward: each does again what is next, and is followed by a process that rolls forward.
use Rattle.std.proofs.Common.{◌≡◌, ℕ, zero, suc, ◌+◌, ◌<◌, ◌≤◌, refl, sym, ◌∙◌, ap, subst, arith, List, [], ◌∷◌, ◌++◌, false, Option, Some, None, true≢false, add-zero}
use Rattle.std.specs.Prelude.{option_and_then}
use Rattle.std.proofs.lemmas.Option.{same_Some}
use Rattle.t32_base.specs.declared.process.Pid.{Pid}
use Rattle.t32_base.specs.declared.process.Counts.{Counts}
use Rattle.sys_text.specs.declared.system.System.{System}
use Rattle.proc_state.specs.State.{ProcState, state_of}
use Rattle.sys_calls.specs.declared.steps.Emission.TheVariants.{Mail as Sent, Exit as Ended}
use Rattle.sys_calls.specs.Calls.{Next, Silent, Blocked, Forks, Emits, Over}
use Rattle.sys_calls.specs.Next.{next_step}
use Rattle.sys_calls.specs.Fork.{fork_parent}
use Rattle.write_count.specs.Counting.{counts_of, count_for, lowered}
use Rattle.write_count.proofs.CountLaws.{counts_of-cons, count_for-raised, length-counts_of}
use Rattle.write_count.proofs.Prefix.{lowered-counts_of}
use Rattle.bus_msg.specs.declared.entry.Entry.{Entry}
use Rattle.roll_forward.specs.Deeds.{Deed, Sends, Bears, letters_in, births_in}
use Rattle.roll_forward.specs.RunsOut.{RunsOut, RunsOn, nothing_left}
use Rattle.roll_forward.specs.Rolling.{RollingState}
use Rattle.roll_forward.specs.Advancing.{Advances, Going, Makes, born, counts_after, gone_on, rolled_on}
use Rattle.roll_forward.specs.declared.rolled.Rolled.{Rolled}
use Rattle.roll_forward.specs.declared.rolled.Rolled.TheVariants.{Silent as WasSilent, Withheld, Born}
use Rattle.roll_forward.proofs.RollLaws.{none_rolled}
use Rattle.cert_sched.specs.Deeds.{since}
use Rattle.cert_sched.specs.Rolling.{refilled, RollsAs}
use Rattle.cert_sched.proofs.ReplayLaws.{Replays, ReplaysBy, replays_counts, replays_silent, replays_sent, replays_fork}
use Rattle.cert_sched.proofs.RunsOutLaws.{AllFine}
use Rattle.replay_laws.specs.rolling.Behind.{IsBehind, RollsBehind}
use Rattle.replay_laws.proofs.rolling.Replaying.{Part, rolling_of, rolls_as}
use Rattle.replay_laws.proofs.rolling.Reaching.{Led, Reach, on_way, beyond, reach, part_on, fine_left, same_part}

no_deed : (d : Deed) (ds : List Deed) → (d ∷ ds) ≡ [] → ⊥
no_deed d ds e = cc

module _ (system : System) (log : List Entry) (p : Pid) (now : ProcState) (led : Led system log p now) where
  after : (t : ProcState) (rest : List Deed) (m : ℕ) → Part (refilled log p led.start) (since log p) t rest → Replays m t rest now → RollsBehind system log p t (counts_of (letters_in rest)) (births_in rest)
  after t rest m part on =
      let steps = (replays_counts m t now rest on).steps in
      let count = led.count in
      record {
        rolls =
            rolls_as system log p t (counts_of (letters_in rest)) (births_in rest)
            (record { start = led.start; started = led.started; rest = rest; part = part; counts_left = refl; births_left = refl });
        behind = omega (arith, steps, count);
      }

  -- what the next step does, where a deed is left
  step_rolls : (m : ℕ) (s : ProcState) (d : Deed) (ds : List Deed) → Part (refilled log p led.start) (since log p) s (d ∷ ds) → AllFine (d ∷ ds) → (next : Next) → next_step s ≡ next → ReplaysBy s (λ x r. Replays m x r now) next (d ∷ ds)
      → RunsOn s (counts_of (letters_in (d ∷ ds))) (λ t left rest. RollsBehind system log p t left rest) next (births_in (d ∷ ds))
  step_rolls m s d ds part fine (Silent x) is h = after x (d ∷ ds) m (part_on (refilled log p led.start) (since log p) s x [] (d ∷ ds) part (replays_silent s x is)) h
  step_rolls m s d ds part fine Blocked is h = absurd h
  step_rolls m s (Sends e) ds part fine Forks is h = absurd h
  step_rolls m s (Bears child) ds part fine Forks is h =
      after (fork_parent s child) ds m (part_on (refilled log p led.start) (since log p) s (fork_parent s child) (Bears child ∷ []) ds part (replays_fork s child is)) h
  step_rolls m s (Sends (Sent letter)) ds part fine (Emits e x) is h =
      let same : next_step s ≡ Emits (Sent letter) x = is ∙ ap (λ w. Emits w x) (sym h.0) in
      let out : letter.out < 32 = fine.0 in
      let long = length-counts_of (letters_in ds) in
      let more : count_for (counts_of (letter ∷ letters_in ds)) letter ≡ count_for (counts_of (letters_in ds)) letter + 1 =
      ap (λ counts. count_for counts letter) (counts_of-cons letter (letters_in ds) out) ∙ count_for-raised (counts_of (letters_in ds)) letter (omega (arith, long, out)) in
      let on = after x ds m (part_on (refilled log p led.start) (since log p) s x (Sends (Sent letter) ∷ []) ds part (replays_sent s x (Sent letter) same)) h.1 in
      let runs : RunsOn s (counts_of (letter ∷ letters_in ds)) (λ t left rest. RollsBehind system log p t left rest) (Emits (Sent letter) x) (births_in ds) =
      (omega (arith, more), subst (λ counts. RollsBehind system log p x counts (births_in ds)) (sym (lowered-counts_of letter (letters_in ds) out)) on) in
      subst (λ w. RunsOn s (counts_of (letter ∷ letters_in ds)) (λ t left rest. RollsBehind system log p t left rest) (Emits w x) (births_in ds)) h.0 runs
  step_rolls m s (Sends (Ended end)) ds part fine (Emits e x) is h = absurd fine.0
  step_rolls m s (Bears child) ds part fine (Emits e x) is h = absurd h
  step_rolls m s d ds part fine Over is h = absurd h

  -- Where something is left, the next step is silent, or sends a letter that is counted, or is a fork that bears the next child; and the process
  -- rolls forward from there.
  pub rolls_on : (s : ProcState) (counts : Counts) (births : List Pid) → RollsAs system log p s counts births → nothing_left counts births ≡ false
      → RunsOn s counts (λ t left rest. RollsBehind system log p t left rest) (next_step s) births
  rolls_on s counts births rolls left =
      let r = rolling_of system log p s counts births rolls in
      let part = same_part system log p now s counts births led r in
      let left' : nothing_left (counts_of (letters_in r.rest)) (births_in r.rest) ≡ false = (λ i. nothing_left (sym r.counts_left i) (sym r.births_left i)) ∙ left in
      let on = by_rest r.rest part left' in
      subst (λ c. RunsOn s c (λ t left rest. RollsBehind system log p t left rest) (next_step s) births) (sym r.counts_left)
      (subst (λ b. RunsOn s (counts_of (letters_in r.rest)) (λ t left rest. RollsBehind system log p t left rest) (next_step s) b) (sym r.births_left) on)
    where
      by_reach : (d : Deed) (ds : List Deed) (part : Part (refilled log p led.start) (since log p) s (d ∷ ds)) → Reach part.steps led.made s (d ∷ ds) now
          → RunsOn s (counts_of (letters_in (d ∷ ds))) (λ t left rest. RollsBehind system log p t left rest) (next_step s) (births_in (d ∷ ds))
      by_reach d ds part (on_way zero sum on) = absurd (no_deed d ds on.0)
      by_reach d ds part (on_way (suc m) sum on) = step_rolls m s d ds part (fine_left (refilled log p led.start) (since log p) s (d ∷ ds) part led.fine) (next_step s) refl on
      by_reach d ds part (beyond k sum none silent) = absurd (no_deed d ds none)

      by_rest : (rest : List Deed) → Part (refilled log p led.start) (since log p) s rest → nothing_left (counts_of (letters_in rest)) (births_in rest) ≡ false
          → RunsOn s (counts_of (letters_in rest)) (λ t left rest. RollsBehind system log p t left rest) (next_step s) (births_in rest)
      by_rest [] part some = absurd (true≢false some)
      by_rest (d ∷ ds) part some = by_reach d ds part (reach (refilled log p led.start) (since log p) s (d ∷ ds) led.made now part led.replays)

  -- ---- several steps

  -- it rolls forward after n of the steps ahead, and the others are ahead then
  pub record Went (ahead n : ℕ) (g h : Going) : Type 0 where
    pub rolls : RollsAs system log p h.state h.counts h.births
    pub left : ℕ
    pub sum : left + n ≡ ahead
    pub runs_out : RunsOut h.state h.counts h.births left
    pub behind : 0 < n → IsBehind system log p h.state

  gone_step : (g h : Going) (After : ProcState → Counts → List Pid → Type 0) (next : Next) → RunsOn g.state g.counts After next g.births → gone_on g next ≡ Some h → After h.state h.counts h.births
  gone_step g h After (Silent t) on e = subst (λ (k : Going). After k.state k.counts k.births) (same_Some _ h e) on
  gone_step g h After Blocked on e = cc
  gone_step g h After Forks on e = cc
  gone_step g h After (Emits (Sent letter) t) on e = subst (λ (k : Going). After k.state k.counts k.births) (same_Some _ h e) on.1
  gone_step g h After (Emits (Ended end) t) on e = cc
  gone_step g h After Over on e = cc

  one_further : (ahead n : ℕ) (g j h : Going) → suc n ≤ ahead → Went ahead n g j → gone_on j (next_step j.state) ≡ Some h → Went ahead (suc n) g h
  one_further ahead n g j h within went e = by_left went.left went.sum went.runs_out
    where
      by_left : (left : ℕ) → left + n ≡ ahead → RunsOut j.state j.counts j.births left → Went ahead (suc n) g h
      by_left zero sum runs = absurd (omega (arith, sum, within))
      by_left (suc left) sum runs =
          let on = gone_step j h (λ t c b. RollsBehind system log p t c b) (next_step j.state) (rolls_on j.state j.counts j.births went.rolls runs.0) e in
          record {
            rolls = on.rolls;
            left = left;
            sum = omega (arith, sum);
            runs_out = gone_step j h (λ t c b. RunsOut t c b left) (next_step j.state) runs.1 e;
            behind = λ _. on.behind;
          }

  pub went_on : (ahead n : ℕ) (g h : Going) → RollsAs system log p g.state g.counts g.births → RunsOut g.state g.counts g.births ahead → n ≤ ahead → rolled_on n g ≡ Some h → Went ahead n g h
  unfolding rolled_on
  went_on ahead zero g h rolls runs within e =
      let same : g ≡ h = same_Some g h e in
      record {
        rolls = subst (λ (k : Going). RollsAs system log p k.state k.counts k.births) same rolls;
        left = ahead;
        sum = add-zero ahead;
        runs_out = subst (λ (k : Going). RunsOut k.state k.counts k.births ahead) same runs;
        behind = λ none. absurd (omega arith);
      }
  went_on ahead (suc n) g h rolls runs within e = by_case (rolled_on n g) refl e (λ j is. went_on ahead n g j rolls runs (omega arith) is)
    where
      by_case : (o : Option Going) → rolled_on n g ≡ o → option_and_then (λ j. gone_on j (next_step j.state)) o ≡ Some h → ((j : Going) → rolled_on n g ≡ Some j → Went ahead n g j) → Went ahead (suc n) g h
      by_case None is last before = cc
      by_case (Some j) is last before = one_further ahead n g j h within (before j is) last

  -- so it is behind after them where it was behind
  pub behind_on : (ahead n : ℕ) (g h : Going) → RollsBehind system log p g.state g.counts g.births → RunsOut g.state g.counts g.births ahead → n ≤ ahead → rolled_on n g ≡ Some h → RollsBehind system log p h.state h.counts h.births
  behind_on ahead zero g h rolls runs within e = subst (λ (k : Going). RollsBehind system log p k.state k.counts k.births) (same_Some g h (sym (none_rolled g) ∙ e)) rolls
  behind_on ahead (suc n) g h rolls runs within e =
      let w = went_on ahead (suc n) g h rolls.rolls runs within e in
      record { rolls = w.rolls; behind = w.behind (omega arith) }

  -- ---- one step, as `advance` tells it, a fork among them

  pub rolls_advanced : (old new : RollingState) (r : Rolled) → RollsAs system log p (state_of old.process) old.counts old.births → nothing_left old.counts old.births ≡ false → Advances r old new
      → RollsBehind system log p (state_of new.process) new.counts new.births
  rolls_advanced old new r rolls left did = by_kind r did.step did.counts did.births
    where
      on : RunsOn (state_of old.process) old.counts (λ t left rest. RollsBehind system log p t left rest) (next_step (state_of old.process)) old.births
      on = rolls_on (state_of old.process) old.counts old.births rolls left

      to : (counts : Counts) (births : List Pid) → new.counts ≡ counts → births ≡ new.births → RollsBehind system log p (state_of new.process) counts births → RollsBehind system log p (state_of new.process) new.counts new.births
      to counts births same_counts same_births h = subst (λ c. RollsBehind system log p (state_of new.process) c new.births) (sym same_counts) (subst (λ b. RollsBehind system log p (state_of new.process) counts b) same_births h)

      as_next : (next : Next) (births : List Pid) → next_step (state_of old.process) ≡ next → old.births ≡ births → RunsOn (state_of old.process) old.counts (λ t left rest. RollsBehind system log p t left rest) next births
      as_next next births is same =
          subst (λ b. RunsOn (state_of old.process) old.counts (λ t left rest. RollsBehind system log p t left rest) next b) same
          (subst (λ n. RunsOn (state_of old.process) old.counts (λ t left rest. RollsBehind system log p t left rest) n old.births) is on)

      by_kind : (r : Rolled) → Makes r (state_of old.process) (state_of new.process) → new.counts ≡ counts_after old.counts r → old.births ≡ born r ++ new.births → RollsBehind system log p (state_of new.process) new.counts new.births
      by_kind WasSilent step counts births = to old.counts old.births counts births (as_next (Silent (state_of new.process)) old.births step refl)
      by_kind (Withheld letter) step counts births = to (lowered old.counts letter) old.births counts births (as_next (Emits (Sent letter) (state_of new.process)) old.births step refl).1
      by_kind (Born child made) step counts births =
          to old.counts new.births counts refl
          (subst (λ s. RollsBehind system log p s old.counts new.births) (sym step.1) (as_next Forks (child ∷ new.births) step.0 births))
