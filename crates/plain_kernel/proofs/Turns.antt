-- The process that has the turn in the default schedule.
use Rattle.std.proofs.Common.{◌≡◌, ℕ, zero, suc, ◌+◌, ◌*◌, ◌<◌, ◌≤◌, Bool, true, false, cond, not, ◌||◌, eqb, List, [], ◌∷◌, map, find, length, refl, sym, ap, ◌∙◌, subst, arith, Option, Some, None, Result, Ok, Err, inl, inr, is_some, option_map, option_and_then}
use Rattle.std.specs.Ordering.{nat_cmp}
use Rattle.std.specs.declared.cmp.Ordering.TheVariants.{Equal}
use Rattle.std.specs.List.{list_any}
use Rattle.std.specs.List.Sorted.{IsStrictlySortedBy}
use Rattle.std.specs.Map.{lookup, set_value}
use Rattle.std.specs.FinMap.{put}
use Rattle.t32_base.specs.declared.process.Pid.{Pid}
use Rattle.proc_state.specs.declared.process.Process.{Process}
use Rattle.proc_state.specs.State.{ProcState, can_take, state_of}
use Rattle.sys_calls.specs.Calls.{Next, Silent, Blocked, Forks, Emits, Over}
use Rattle.sys_calls.specs.Next.{next_step, has_step, is_fork, silently}
use Rattle.sys_calls.specs.Steps.{StaysUntaken}
use Rattle.plain_kernel.specs.Kernel.{Kernel, pid_cmp, with_process}
use Rattle.plain_kernel.specs.declared.item.Item.{Item}
use Rattle.plain_kernel.specs.declared.item.Item.TheVariants.{Run}
use Rattle.plain_kernel.specs.declared.item.NotApplied.{NotApplied}
use Rattle.plain_kernel.specs.declared.item.NotApplied.TheVariants.{Disabled, NoMemory as NoStepMemory}
use Rattle.plain_kernel.specs.Answers.{Applies, StopsAt, runs_pid}
use Rattle.std.proofs.lemmas.Bool.Decides.{nat_tests}
use Rattle.std.proofs.lemmas.Option.{same_Some}
use Rattle.plain_kernel.specs.Apply.{after_step, fork_step, one_step, steps, apply}
use Rattle.plain_kernel.specs.Still.{can_act, lowest, lowest_taker, next_child, default_item, default_step, default_after, Reaches}
use Rattle.plain_kernel.specs.Maps.{at_key, pid_of, processes_of, kernel_of, total_load, Changes, RunsAt, Advances, lowest_of, IsTurn, NoneTakes, NoneTakesBut, RunsSteps, TookAt, Turns}
use Rattle.plain_kernel.proofs.Entries.{tied, later_no_key, later_above, lookup_state, ordered_after, put_state, written_same, found_after, put_after, load_after}
use Rattle.plain_kernel.proofs.First.{first_states, found_above, found_at, none_put}
use Rattle.plain_kernel.proofs.Takers.{no_taker, none_ran, only_taker, take_load, take_made_at, takes_there, no_steps}
use Rattle.plain_kernel.proofs.Laws.{steps_joined, steps_more, steps_stuck, one_silent, silent_steps, last_silent, no_silent, default_joined, default_one, default_none, default_over, default_steps, default_forks, default_takes}

abbrev keys : {X : Type 0} → List (ℕ × X) → List ℕ
keys es = map (λ e. e.0) es

-- ---- the first of the entries in order that passes a test

-- another value at its key that passes is the first too
found_stays : {X : Type 0} → (p : ℕ × X → Bool) (k : ℕ) (v w : X) (es : List (ℕ × X)) → IsStrictlySortedBy nat_cmp (keys es) → find p es ≡ Some (k, v) → p (k, w) ≡ true → find p (set_value (at_key k) es w) ≡ Some (k, w)
unfolding IsStrictlySortedBy
found_stays p k v w [] s f h = cc
found_stays p k v w (x ∷ es) s f h = by_test (p x) refl f (λ later. found_stays p k v w es s.1 later h)
  where
    by_test : (b : Bool) → p x ≡ b → cond b (Some x) (find p es) ≡ Some (k, v) → (find p es ≡ Some (k, v) → find p (set_value (at_key k) es w) ≡ Some (k, w)) → find p (set_value (at_key k) (x ∷ es) w) ≡ Some (k, w)
    by_test true is f ih = let same : x ≡ (k, v) = same_Some x (k, v) f in subst (λ z. find p (cond (at_key k z.0) ((z.0, w) ∷ es) (x ∷ set_value (at_key k) es w)) ≡ Some (k, w)) (sym same) (rw (tied k) (ap (λ b. cond b (Some (k, w)) (find p es)) h))
    by_test false is f ih = rw (later_no_key x.0 k (found_above p x.0 es (k, v) s.0 f)) (rw is (ih f))

-- the same of the states, of which any may be put
lowest_put : (k : ℕ) (v : Process) (t : ProcState) (es : List (ℕ × Process)) → IsStrictlySortedBy nat_cmp (keys es) → lowest_of es ≡ Some (k, v) → has_step (next_step t) ≡ true
    → find (λ (e : Pid × ProcState). has_step (next_step e.1)) (put pid_cmp (pid_of k) t (processes_of es)) ≡ Some (pid_of k, t)
unfolding IsStrictlySortedBy
lowest_put k v t [] s f h = cc
lowest_put k v t (x ∷ es) s f h = by_test (has_step (next_step (state_of x.1))) refl f (λ later. lowest_put k v t es s.1 later h)
  where
    by_test : (b : Bool) → has_step (next_step (state_of x.1)) ≡ b → cond b (Some x) (lowest_of es) ≡ Some (k, v) → (lowest_of es ≡ Some (k, v) → find (λ (e : Pid × ProcState). has_step (next_step e.1)) (put pid_cmp (pid_of k) t (processes_of es)) ≡ Some (pid_of k, t))
        → find (λ (e : Pid × ProcState). has_step (next_step e.1)) (put pid_cmp (pid_of k) t (processes_of (x ∷ es))) ≡ Some (pid_of k, t)
    by_test true is f ih =
        let same : x.0 ≡ k = ap (λ (z : ℕ × Process). z.0) (same_Some x (k, v) f) in
        let here : nat_cmp k x.0 ≡ Equal = ap (nat_cmp k) same ∙ tied k in
        rw here (rw h (ap (λ n. Some (pid_of n, t)) same))
    by_test false is f ih = rw (later_above x.0 k (found_above _ x.0 es (k, v) s.0 f)) (rw is (ih f))

-- ---- the process that has the turn

pub record HasTurn (pid : ℕ) (es : List (ℕ × Process)) : Type 0 where
  pub process : Process
  pub first : lowest_of es ≡ Some (pid, process)

pub has_turn : (pid : ℕ) (es : List (ℕ × Process)) → IsTurn (Some pid) es → HasTurn pid es
has_turn pid es e = by_case (lowest_of es) refl e
  where
    by_case : (o : Option (ℕ × Process)) → lowest_of es ≡ o → Some pid ≡ option_map (λ (e : ℕ × Process). e.0) o → HasTurn pid es
    by_case None is f = cc
    by_case (Some x) is f = record { process = x.1; first = is ∙ ap (λ n. Some (n, x.1)) (sym (same_Some pid x.0 f)) }

-- where nothing has a step and none can take a signal the default schedule is over
pub over : (es : List (ℕ × Process)) (ts : List (ℕ × List ℕ)) → IsStrictlySortedBy nat_cmp (keys es) → NoneTakes es → IsTurn None es → default_item (kernel_of es ts) ≡ None
over es ts ordered none e = by_case (lowest_of es) refl e
  where
    by_case : (o : Option (ℕ × Process)) → lowest_of es ≡ o → None ≡ option_map (λ (e : ℕ × Process). e.0) o → default_item (kernel_of es ts) ≡ None
    by_case None is f = default_over (kernel_of es ts) (no_taker es ts ordered none) (first_states (λ s. has_step (next_step s)) es ∙ ap (option_map (λ (e : ℕ × Process). (pid_of e.0, state_of e.1))) is)
    by_case (Some x) is f = cc

-- ---- a process that made a step, or is stuck

had_step : (k j : Kernel) (p : Pid) (next : Next) → after_step k p next ≡ Some j → has_step next ≡ true
had_step k j p (Silent s) e = refl
had_step k j p Blocked e = cc
had_step k j p Forks e = cc
had_step k j p (Emits what s) e = refl
had_step k j p Over e = cc

-- a step that is made is no fork
not_forked : (k j : Kernel) (p : Pid) (next : Next) → after_step k p next ≡ Some j → is_fork next ≡ false
not_forked k j p (Silent s) e = refl
not_forked k j p Blocked e = refl
not_forked k j p Forks e = cc
not_forked k j p (Emits what s) e = refl
not_forked k j p Over e = refl

-- ---- the steps of the process that has the turn are items of the default schedule

same_kernel : (es : List (ℕ × Process)) (ts : List (ℕ × List ℕ)) (pid : ℕ) (v : Process) → IsStrictlySortedBy nat_cmp (keys es) → lookup (at_key pid) es ≡ Some v → with_process (kernel_of es ts) (pid_of pid) (state_of v) ≡ kernel_of es ts
same_kernel es ts pid v s found =
    ap (λ ps. record { processes = ps; ttys = ts }) (sym (put_state pid v es s (ap is_some found)) ∙ ap processes_of (written_same (at_key pid) es v found))

-- so long as it can take no signal between them
default_silent : (n pid : ℕ) (v : Process) (es : List (ℕ × Process)) (ts : List (ℕ × List ℕ)) (t : ProcState) → IsStrictlySortedBy nat_cmp (keys es) → lowest_taker (kernel_of es ts) ≡ None
    → ((m : ℕ) (q : ProcState) → m ≤ n → silently m (state_of v) ≡ Some q → can_take q ≡ false) → lowest_of es ≡ Some (pid, v) → silently n (state_of v) ≡ Some t
    → default_after n (kernel_of es ts) ≡ Some (with_process (kernel_of es ts) (pid_of pid) t)
unfolding default_after
default_silent zero pid v es ts t s none free first e =
    ap Some (sym (same_kernel es ts pid v s (found_at _ es (pid, v) s first))) ∙ ap (λ q. Some (with_process (kernel_of es ts) (pid_of pid) q)) (no_silent (state_of v) t e)
default_silent (suc n) pid v es ts t s none free first e =
    let last = last_silent n (state_of v) t e in
    ap (option_and_then default_step) (default_silent n pid v es ts last.before s none (λ m q within made. free m q (omega (arith, within)) made) first last.made)
    ∙ default_steps (with_process (kernel_of es ts) (pid_of pid) last.before) (pid_of pid) last.before (none_put can_take (pid_of pid) last.before (processes_of es) none (free n last.before (omega arith) last.made))
    (lowest_put pid v last.before es s first (ap has_step last.last)) (ap is_fork last.last)
    ∙ one_silent (kernel_of es ts) (pid_of pid) last.before t last.last

same_process : (ps qs : List (ℕ × Process)) (pid : ℕ) (was now : Process) (h : HasTurn pid ps) → Changes ps qs pid was now → h.process ≡ was
same_process ps qs pid was now h c = same_Some _ _ (sym (found_at _ ps (pid, h.process) c.ordered h.first) ∙ c.found)

ran : (ps qs : List (ℕ × Process)) (ts : List (ℕ × List ℕ)) (pid n : ℕ) → IsTurn (Some pid) ps → NoneTakes ps → (r : RunsAt ps qs pid n) → StaysUntaken n (state_of r.was) → default_after n (kernel_of ps ts) ≡ Some (kernel_of qs ts)
ran ps qs ts pid n turn none r free =
    let h = has_turn pid ps turn in
    let first : lowest_of ps ≡ Some (pid, r.was) = h.first ∙ ap (λ p. Some (pid, p)) (same_process ps qs pid r.was r.now h r.changes) in
    default_silent n pid r.was ps ts (state_of r.now) (r.changes).ordered (no_taker ps ts (r.changes).ordered none) (free (sym (takes_there ps pid r.was (r.changes).found) ∙ none pid)) first r.silent
    ∙ ap (λ l. Some (record { processes = l; ttys = ts })) (sym (put_after ps qs pid r.was r.now r.changes))

-- where it still has a step it has the turn
keeps_turn : (ps qs : List (ℕ × Process)) (pid : ℕ) (was now : Process) → IsTurn (Some pid) ps → Changes ps qs pid was now → has_step (next_step (state_of now)) ≡ true → lowest_of qs ≡ Some (pid, now)
keeps_turn ps qs pid was now turn c able =
    let h = has_turn pid ps turn in
    ap lowest_of c.entries ∙ found_stays (λ (e : ℕ × Process). has_step (next_step (state_of e.1))) pid h.process now ps c.ordered h.first able

next_of : (ps qs : List (ℕ × Process)) (ts : List (ℕ × List ℕ)) (pid : ℕ) (was now : Process) → Changes ps qs pid was now → one_step (pid_of pid) (kernel_of qs ts) ≡ after_step (kernel_of qs ts) (pid_of pid) (next_step (state_of now))
unfolding one_step
next_of ps qs ts pid was now c = rw (lookup_state pid qs, found_after ps qs pid was now c) refl

pub able : (ps qs rs : List (ℕ × Process)) (ts us : List (ℕ × List ℕ)) (pid n : ℕ) (r : RunsAt ps qs pid n) → Advances pid qs rs ts us → has_step (next_step (state_of r.now)) ≡ true
able ps qs rs ts us pid n r a = had_step _ _ (pid_of pid) _ (sym (next_of ps qs ts pid r.was r.now r.changes) ∙ a.one)

-- the kernel in which it has the turn still
lowest_stays : (ps qs : List (ℕ × Process)) (ts : List (ℕ × List ℕ)) (pid n : ℕ) → IsTurn (Some pid) ps → (r : RunsAt ps qs pid n) → has_step (next_step (state_of r.now)) ≡ true → lowest (kernel_of qs ts) ≡ Some (pid_of pid, state_of r.now)
lowest_stays ps qs ts pid n turn r steps = first_states (λ s. has_step (next_step s)) qs ∙ ap (option_map (λ (e : ℕ × Process). (pid_of e.0, state_of e.1))) (keeps_turn ps qs pid r.was r.now turn r.changes steps)

-- after its silent steps no process can take a signal
none_after : (ps qs : List (ℕ × Process)) (ts : List (ℕ × List ℕ)) (pid n : ℕ) → NoneTakes ps → (r : RunsAt ps qs pid n) → StaysUntaken n (state_of r.was) → lowest_taker (kernel_of qs ts) ≡ None
none_after ps qs ts pid n none r free = no_taker qs ts (ordered_after ps qs pid r.was r.now r.changes) (none_ran ps qs pid n r free none)

advanced : (ps qs rs : List (ℕ × Process)) (ts us : List (ℕ × List ℕ)) (pid n : ℕ) → IsTurn (Some pid) ps → NoneTakes ps → (r : RunsAt ps qs pid n) → StaysUntaken n (state_of r.was) → Advances pid qs rs ts us → default_after (n + 1) (kernel_of ps ts) ≡ Some (kernel_of rs us)
advanced ps qs rs ts us pid n turn none r free a =
    let lowest_is = lowest_stays ps qs ts pid n turn r (able ps qs rs ts us pid n r a) in
    let other : is_fork (next_step (state_of r.now)) ≡ false = not_forked _ _ (pid_of pid) _ (sym (next_of ps qs ts pid r.was r.now r.changes) ∙ a.one) in
    default_joined n 1 _ _ _ (ran ps qs ts pid n turn none r free) (default_one _ _ (default_steps (kernel_of qs ts) (pid_of pid) (state_of r.now) (none_after ps qs ts pid n none r free) lowest_is other ∙ a.one))

-- a fork is an item too, whose child is the next
forked_on : (ps qs rs : List (ℕ × Process)) (ts : List (ℕ × List ℕ)) (pid n : ℕ) → IsTurn (Some pid) ps → NoneTakes ps → (r : RunsAt ps qs pid n) → StaysUntaken n (state_of r.was) → next_step (state_of r.now) ≡ Forks
    → fork_step (pid_of pid) (next_child (kernel_of qs ts) (pid_of pid)) (kernel_of qs ts) ≡ Some (kernel_of rs ts) → default_after (n + 1) (kernel_of ps ts) ≡ Some (kernel_of rs ts)
forked_on ps qs rs ts pid n turn none r free is forks =
    let lowest_is = lowest_stays ps qs ts pid n turn r (ap has_step is) in
    default_joined n 1 _ _ _ (ran ps qs ts pid n turn none r free) (default_one _ _ (default_forks (kernel_of qs ts) (pid_of pid) (state_of r.now) (none_after ps qs ts pid n none r free) lowest_is is ∙ forks))

pub less : (ps qs : List (ℕ × Process)) (pid n : ℕ) → RunsAt ps qs pid n → total_load qs + 2 * n ≤ total_load ps
less ps qs pid n r = omega (arith, load_after ps qs pid r.was r.now r.changes, r.lighter)

-- a step was made
pub turns : (ps qs rs : List (ℕ × Process)) (ts us : List (ℕ × List ℕ)) (ready left : List ℕ) (pid n : ℕ) → IsTurn (Some pid) ps → NoneTakes ps → (r : RunsAt ps qs pid n) → StaysUntaken n (state_of r.was) → Advances pid qs rs ts us → length left ≤ length ready + 1 → Turns ps rs ts us ready left
turns ps qs rs ts us ready left pid n turn none r free a one_more = record {
  items = n + 1;
  made = advanced ps qs rs ts us pid n turn none r free a;
  lighter = omega (arith, less ps qs pid n r, a.lighter);
  less = omega (arith, less ps qs pid n r, a.lighter, one_more);
}

-- a fork was made
pub turns_forked : (ps qs rs : List (ℕ × Process)) (ts : List (ℕ × List ℕ)) (ready left : List ℕ) (pid n : ℕ) → IsTurn (Some pid) ps → NoneTakes ps → (r : RunsAt ps qs pid n) → StaysUntaken n (state_of r.was) → next_step (state_of r.now) ≡ Forks
    → fork_step (pid_of pid) (next_child (kernel_of qs ts) (pid_of pid)) (kernel_of qs ts) ≡ Some (kernel_of rs ts) → total_load rs + 4 ≤ total_load qs → length left ≤ length ready + 1 → Turns ps rs ts ts ready left
turns_forked ps qs rs ts ready left pid n turn none r free is forks lighter one_more = record {
  items = n + 1;
  made = forked_on ps qs rs ts pid n turn none r free is forks;
  lighter = omega (arith, less ps qs pid n r, lighter);
  less = omega (arith, less ps qs pid n r, lighter, one_more);
}

-- and then the only process that can took a signal
pub turns_taken : (ps rs fs : List (ℕ × Process)) (ts us : List (ℕ × List ℕ)) (ready left : List ℕ) (pid : ℕ) → Turns ps rs ts us ready left → TookAt rs fs pid → NoneTakesBut (at_key pid) rs → Turns ps fs ts us ready left
turns_taken ps rs fs ts us ready left pid t took others =
    let only = only_taker rs us pid took.was (took.changes).ordered (took.changes).found (took.took).can others in
    record {
      items = t.items + 1;
      made = default_joined t.items 1 _ _ _ t.made (default_one _ _ (default_takes (kernel_of rs us) (pid_of pid) (state_of took.was) only ∙ take_made_at rs fs us pid took));
      lighter = omega (arith, t.lighter, take_load rs fs pid took);
      less = omega (arith, t.less, take_load rs fs pid took);
    }

-- a process that makes silent steps had a step
able_before : (n : ℕ) (s t : ProcState) → silently n s ≡ Some t → 1 ≤ n → has_step (next_step s) ≡ true
able_before zero s t e some = absurd (omega arith)
able_before (suc zero) s t e some =
    let last = last_silent 0 s t e in
    ap (λ q. has_step (next_step q)) (no_silent s last.before last.made) ∙ ap has_step last.last
able_before (suc (suc n)) s t e some = let last = last_silent (suc n) s t e in able_before (suc n) s last.before last.made (omega arith)

-- one that made steps, or makes one now, had a step before
pub able_ran : (ps qs : List (ℕ × Process)) (pid n : ℕ) (r : RunsAt ps qs pid n) → 1 ≤ n → has_step (next_step (state_of r.was)) ≡ true
able_ran ps qs pid n r some = able_before n (state_of r.was) (state_of r.now) r.silent some

pub able_first : (ps qs : List (ℕ × Process)) (pid n : ℕ) (r : RunsAt ps qs pid n) → has_step (next_step (state_of r.now)) ≡ true → has_step (next_step (state_of r.was)) ≡ true
able_first ps qs pid zero r steps = ap (λ s. has_step (next_step s)) (no_silent (state_of r.was) (state_of r.now) r.silent) ∙ steps
able_first ps qs pid (suc n) r steps = able_ran ps qs pid (suc n) r (omega arith)

-- ---- a run to the end

pub no_turns : (ps : List (ℕ × Process)) (ts : List (ℕ × List ℕ)) → default_after 0 (kernel_of ps ts) ≡ Some (kernel_of ps ts)
no_turns ps ts = default_none (kernel_of ps ts)

pub more_turns : (n m : ℕ) (k j i : Kernel) → default_after n k ≡ Some j → default_after m j ≡ Some i → default_after (n + m) k ≡ Some i
more_turns = default_joined

pub reached : (n : ℕ) (from : Kernel) (qs : List (ℕ × Process)) (us : List (ℕ × List ℕ)) → default_after n from ≡ Some (kernel_of qs us) → IsStrictlySortedBy nat_cmp (keys qs) → NoneTakes qs → IsTurn None qs → Reaches from (kernel_of qs us)
reached n from qs us made ordered none turn = record { items = n; made = made; still = over qs us ordered none turn }

-- ---- a run of one process

ran_steps : (ps qs : List (ℕ × Process)) (ts : List (ℕ × List ℕ)) (pid n : ℕ) → RunsAt ps qs pid n → steps n (pid_of pid) (kernel_of ps ts) ≡ Some (kernel_of qs ts)
ran_steps ps qs ts pid n r =
    silent_steps n (kernel_of ps ts) (pid_of pid) (state_of r.was) (state_of r.now) (same_kernel ps ts pid r.was (r.changes).ordered (r.changes).found) r.silent
    ∙ ap (λ l. Some (record { processes = l; ttys = ts })) (sym (put_after ps qs pid r.was r.now r.changes))

pub more_ran : (done : ℕ) (from : Kernel) (ps qs : List (ℕ × Process)) (ts : List (ℕ × List ℕ)) (pid n : ℕ) → steps done (pid_of pid) from ≡ Some (kernel_of ps ts) → RunsAt ps qs pid n
    → steps (done + n) (pid_of pid) from ≡ Some (kernel_of qs ts)
more_ran done from ps qs ts pid n made r = steps_joined done n (pid_of pid) from (kernel_of ps ts) (kernel_of qs ts) made (ran_steps ps qs ts pid n r)

pub more_made : (done : ℕ) (from : Kernel) (ps qs rs : List (ℕ × Process)) (ts us : List (ℕ × List ℕ)) (pid n : ℕ) → steps done (pid_of pid) from ≡ Some (kernel_of ps ts) → RunsAt ps qs pid n → Advances pid qs rs ts us
    → steps (done + n + 1) (pid_of pid) from ≡ Some (kernel_of rs us)
more_made done from ps qs rs ts us pid n made r a = steps_more (done + n) (pid_of pid) from (kernel_of qs ts) (kernel_of rs us) (more_ran done from ps qs ts pid n made r) a.one

-- the kernel stands where it was stuck
pub stood : (n : ℕ) (p : Pid) (from : Kernel) (qs rs : List (ℕ × Process)) (ts us : List (ℕ × List ℕ)) → steps n p from ≡ Some (kernel_of qs ts) → rs ≡ qs → us ≡ ts → steps n p from ≡ Some (kernel_of rs us)
stood n p from qs rs ts us made same same_ttys = made ∙ ap (λ es. Some (kernel_of es ts)) (sym same) ∙ ap (λ t. Some (kernel_of rs t)) (sym same_ttys)

pub stuck_there : (p : Pid) (qs rs : List (ℕ × Process)) (ts us : List (ℕ × List ℕ)) → one_step p (kernel_of qs ts) ≡ None → rs ≡ qs → us ≡ ts → one_step p (kernel_of rs us) ≡ None
stuck_there p qs rs ts us none same same_ttys = ap (λ es. one_step p (kernel_of es us)) same ∙ ap (λ t. one_step p (kernel_of qs t)) same_ttys ∙ none

-- a process that was stuck is taken out of those that may have a step
pub turns_stuck : (ps qs rs : List (ℕ × Process)) (ts us : List (ℕ × List ℕ)) (ready left : List ℕ) (pid n : ℕ) → (1 ≤ n → IsTurn (Some pid) ps) → NoneTakes ps → (r : RunsAt ps qs pid n) → StaysUntaken n (state_of r.was) → rs ≡ qs → us ≡ ts → length left < length ready → Turns ps rs ts us ready left
turns_stuck ps qs rs ts us ready left pid n turn none r free same same_ttys shorter = record {
  items = n;
  made = by_count n turn r free ∙ ap (λ es. Some (kernel_of es ts)) (sym same) ∙ ap (λ t. Some (kernel_of rs t)) (sym same_ttys);
  lighter = omega (arith, less ps qs pid n r, ap total_load same);
  less = omega (arith, less ps qs pid n r, ap total_load same, shorter);
}
  where
    by_count : (m : ℕ) → (1 ≤ m → IsTurn (Some pid) ps) → (r : RunsAt ps qs pid m) → StaysUntaken m (state_of r.was) → default_after m (kernel_of ps ts) ≡ Some (kernel_of qs ts)
    by_count zero turn r free = no_turns ps ts ∙ sym (no_steps (pid_of pid) (kernel_of ps ts)) ∙ ran_steps ps qs ts pid 0 r
    by_count (suc m) turn r free = ran ps qs ts pid (suc m) (turn (omega arith)) none r free

-- one that is not there as well
pub turns_nobody : (ps rs : List (ℕ × Process)) (ts us : List (ℕ × List ℕ)) (ready left : List ℕ) → rs ≡ ps → us ≡ ts → length left < length ready → Turns ps rs ts us ready left
turns_nobody ps rs ts us ready left same same_ttys shorter = record {
  items = 0;
  made = no_turns ps ts ∙ ap (λ es. Some (kernel_of es ts)) (sym same) ∙ ap (λ t. Some (kernel_of rs t)) (sym same_ttys);
  lighter = omega (arith, ap total_load same);
  less = omega (arith, ap total_load same, shorter);
}

-- ---- what the calls of a kernel answer

pub any_acts : (es : List (ℕ × Process)) → list_any (λ (e : ℕ × Process). has_step (next_step (state_of e.1)) || can_take (state_of e.1)) es ≡ not (not (list_any can_act (processes_of es)))
any_acts [] = refl
any_acts (x ∷ es) =
    elim (has_step (next_step (state_of x.1)) || can_take (state_of x.1)) as (λ b. (b || list_any (λ (e : ℕ × Process). has_step (next_step (state_of e.1)) || can_take (state_of e.1)) es) ≡ not (not (b || list_any can_act (processes_of es))))
    [ true ↦ refl | false ↦ any_acts es ]

-- a process that is not there makes no step
pub nobody_there : (es : List (ℕ × Process)) (ts : List (ℕ × List ℕ)) (pid : ℕ) → is_some (lookup (at_key pid) es) ≡ false → one_step (pid_of pid) (kernel_of es ts) ≡ None
unfolding one_step
nobody_there es ts pid none = rw (lookup_state pid es) (by_case (lookup (at_key pid) es) none)
  where
    by_case : (o : Option Process) → is_some o ≡ false → option_and_then (λ s. after_step (kernel_of es ts) (pid_of pid) (next_step s)) (option_map state_of o) ≡ None
    by_case None e = refl
    by_case (Some p) e = cc

not_none : (most : ℕ) (k : Kernel) (p : Pid) → (most ≡ 0 → ⊥) → apply k (Run p most) ≡ steps most p k
not_none most k p some = ap (λ b. cond b None (steps most p k)) (tested most some)
  where
    tested : (n : ℕ) → (n ≡ 0 → ⊥) → eqb n 0 ≡ false
    tested n h = grind (arith, nat_tests)

-- a run of no steps is no item
pub applies_none : (p : Pid) (most : ℕ) (k : Kernel) → most ≡ 0 → Applies (Run p most) (Err (Disabled 0)) k k
applies_none p most k none = (ap (λ n. apply k (Run p n)) none, no_steps p k, inl (none, refl))

pub applies_nobody : (p : Pid) (most : ℕ) (k : Kernel) → (most ≡ 0 → ⊥) → one_step p k ≡ None → Applies (Run p most) (Err (Disabled 0)) k k
applies_nobody p most k some none =
    let less : 0 < most = omega (arith, some) in
    (not_none most k p some ∙ steps_stuck 0 most p k k (no_steps p k) none less, no_steps p k, inr (less, none))

pub applies_run : (r : Result (Unit {0}) NotApplied) (pid most : ℕ) (ps qs : List (ℕ × Process)) (ts us : List (ℕ × List ℕ)) → (most ≡ 0 → ⊥) → RunsSteps r pid most ps qs ts us
    → Applies (Run (pid_of pid) most) r (kernel_of ps ts) (kernel_of qs us)
applies_run (Ok all) pid most ps qs ts us some runs = not_none most (kernel_of ps ts) (pid_of pid) some ∙ runs.0
applies_run (Err (Disabled done)) pid most ps qs ts us some runs =
    (not_none most (kernel_of ps ts) (pid_of pid) some ∙ steps_stuck done most (pid_of pid) (kernel_of ps ts) (kernel_of qs us) runs.0 runs.3 runs.2, runs.0, inr (runs.2, runs.3))
applies_run (Err (NoStepMemory done)) pid most ps qs ts us some runs = (runs.0, runs.2)

pub applies_other : (item : Item) (k : Kernel) → apply k item ≡ None → StopsAt item 0 k → Applies item (Err (Disabled 0)) k k
applies_other item k none stops = (none, no_steps (runs_pid item) k, stops)

pub pids_are : (es : List (ℕ × Process)) → map pid_of (keys es) ≡ map (λ (e : Pid × ProcState). e.0) (processes_of es)
pids_are [] = refl
pids_are (x ∷ es) = ap (λ r. pid_of x.0 ∷ r) (pids_are es)
