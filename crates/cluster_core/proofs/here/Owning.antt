-- What is here keeps its pid.
use Rattle.std.proofs.Common.{◌≡◌, ℕ, ◌+◌, ◌-◌, ◌^◌, ◌<◌, ◌≤◌, ◌∙◌, refl, sym, subst, arith, List, [], ◌∷◌, Bool, true, false, cond, not, ◌&&◌, ◌||◌, eqb-true, Option, Some, None, is_some, ap, true≢false}
use Rattle.std.specs.Prelude.{filter, find, option_map}
use Rattle.t32_base.specs.declared.process.Pid.{Pid}
use Rattle.t32_base.specs.declared.process.Counts.{Counts}
use Rattle.t32_base.specs.declared.letter.Letter.{Letter}
use Rattle.proc_state.specs.declared.process.Process.{Process}
use Rattle.proc_state.specs.State.{can_take, state_of}
use Rattle.sys_calls.specs.Next.{next_step, has_step, silently}
use Rattle.sys_calls.proofs.Counting.{silently_counts, emits_counts}
use Rattle.bus_msg.specs.declared.entry.What.{What}
use Rattle.bus_msg.specs.declared.entry.What.TheVariants.{Mail, Rebackup}
use Rattle.bus_msg.specs.declared.entry.Post.{Post}
use Rattle.t32_base.specs.declared.letter.BackRec.{BackRec}
use Rattle.bus_msg.specs.Places.{same_pid}
use Rattle.cert_sched.specs.Deeds.{is_end_of}
use Rattle.sync_point.specs.Batch.{synced}
use Rattle.sync_point.proofs.Cuts.{cut_keeps}
use Rattle.sync_point.specs.Due.{is_due_by}
use Rattle.quanta.specs.declared.limits.Limits.{Limits}
use Rattle.residents.specs.Duty.{DutyView, backup_owed, is_able, is_owed}
use Rattle.residents.specs.ChildrenFirst.{comes_after, comes_after_children}
use Rattle.residents.proofs.ChildFirst.{comes_acts}
use Rattle.std.proofs.lemmas.Bool.{or_right}
use Rattle.cert_sched.specs.Rests.{is_idle}
use Rattle.residents.specs.Held.{Held, Runs, Rolls, Waits, can_act, arrived, arrived_held, held_of, next_number, asked_held, going_on, page_held, renewed_held, rolling_held, is_waiting, with_renewed}
use Rattle.residents.specs.Changed.{with_changed}
use Rattle.residents.specs.Residents.{are_stuck, is_stuck, HasRoom, are_settled, is_settled}
use Rattle.cluster_core.specs.View.{renewed_by, renewed_by_head}
use Rattle.cluster_core.specs.Parts.{IsHeldOwn, IsOwn, WaitsOwn, AllOwn}
use Rattle.cluster_core.specs.Calls.{here_after}
use Rattle.residents.specs.Arriving.{with_page_come}
use Rattle.residents.specs.declared.quantum.Sending.{Sending}
use Rattle.residents.specs.declared.quantum.Forking.{Forking}
use Rattle.residents.specs.Quantum.{ComesToFork, Moves, RollsTo, RunsTo, Sends}
use Rattle.roll_forward.specs.Advancing.{going, rolled_on}
use Rattle.roll_forward.proofs.RolledLaws.{rolled_keeps}
use Rattle.cert_sched.specs.Rules.{tells_or_closes}
use Rattle.residents.proofs.Changing.{pid_same}
use Rattle.cluster_core.proofs.absorbing.ByKind.{by_kind}
use Rattle.t32_base.specs.Small.{SmallState}
use Rattle.page_waits.specs.Waiting.{WaitingState, is_whole, start_of, with_page}
use Rattle.residents.specs.Asking.{any_waits}
use Rattle.page_waits.specs.Begun.{begun}
use Rattle.roll_forward.specs.RunsOut.{nothing_left}
use Rattle.std.specs.Option.{IfSome, option_map_or}
use Rattle.std.proofs.lemmas.Bool.{or_parts}

-- ---- one of them

-- what is found is its own
pub own_at : (cursor : ℕ) (here : List (Pid × Held)) (p : Pid) (h : Held) → AllOwn cursor here → held_of here p ≡ Some h → IsHeldOwn cursor p h
own_at cursor [] p h own there = cc
own_at cursor (e ∷ here) p h own there = by_test (same_pid e.0 p) refl there (own_at cursor here p h own.1)
  where
    by_test : (b : Bool) → same_pid e.0 p ≡ b → option_map (λ (e : Pid × Held). e.1) (cond b (Some e) (find (λ (e : Pid × Held). same_pid e.0 p) here)) ≡ Some h
        → (held_of here p ≡ Some h → IsHeldOwn cursor p h) → IsHeldOwn cursor p h
    by_test true is at more =
        let same : e.1 ≡ h = cc in
        let At : Pid → Type 0 = λ q. IsHeldOwn cursor q e.1 in
        let Of : Held → Type 0 = λ x. IsHeldOwn cursor p x in
        subst Of same (subst At (pid_same e.0 p (eqb-true (e.0).0 p.0 is)) own.0)
    by_test false is at more = more at

-- each may get one letter more
pub has_room : (cursor : ℕ) (here : List (Pid × Held)) → AllOwn cursor here → cursor < 2 ^ 64 - 1 → HasRoom here
has_room cursor here own room p h there = by_held h (own_at cursor here p h own there)
  where
    by_held : (h : Held) → IsHeldOwn cursor p h → next_number h < 2 ^ 64 - 1
    by_held (Runs s) o = omega (arith, o.arrived, room)
    by_held _ o = omega (arith, o.arrived, room)

-- ---- none of them can move

-- one that can have no turn and waits for no page runs, and is idle
pub settled_idle : (duty : DutyView) (p : Pid) (process : Process) → is_settled duty (p, Runs process) ≡ true → is_idle (state_of process) ≡ true
settled_idle duty p s = by_parts (is_some (backup_owed duty p) && true) (has_step (next_step (state_of s))) (is_due_by s (duty.limits).reads (duty.limits).steps) (can_take (state_of s))
  where
    by_parts : (o a b t : Bool) → (not (o || (a || (b || t))) && true) ≡ true → (not (a || t)) ≡ true
    by_parts true a b t is = absurd (true≢false (sym is))
    by_parts false true b t is = absurd (true≢false (sym is))
    by_parts false false true t is = absurd (true≢false (sym is))
    by_parts false false false true is = absurd (true≢false (sym is))
    by_parts false false false false is = refl

-- one that rolls forward can act
pub rolls_unsettled : (duty : DutyView) (p : Pid) (process : Process) (counts : Counts) (births : List Pid) → is_settled duty (p, Rolls process counts births) ≡ true → ⊥
rolls_unsettled duty p process counts births = by_owed (is_some (backup_owed duty p))
  where
    by_owed : (o : Bool) → (not ((o && false) || true) && true) ≡ true → ⊥
    by_owed true is = true≢false (sym is)
    by_owed false is = true≢false (sym is)

-- where none waits, those that can have no turn are settled
pub none_waits : (duty : DutyView) (here : List (Pid × Held)) → any_waits here ≡ false → are_settled duty here ≡ are_stuck duty here
none_waits duty [] none = refl
none_waits duty (e ∷ here) none =
    let parts = or_parts (is_waiting e.1) (any_waits here) none in
    λ i. by_stuck (is_stuck duty e) (is_waiting e.1) parts.0 i && none_waits duty here parts.1 i
  where
    and_true : (a : Bool) → (a && true) ≡ a
    and_true true = refl
    and_true false = refl

    by_stuck : (a b : Bool) → b ≡ false → (a && not b) ≡ a
    by_stuck a b is = ap (λ b. a && not b) is ∙ and_true a

-- where one waits, not all are settled
pub waiting_unsettled : (duty : DutyView) (here : List (Pid × Held)) → any_waits here ≡ true → are_settled duty here ≡ false
waiting_unsettled duty [] waits = absurd (true≢false (sym waits))
waiting_unsettled duty (e ∷ here) waits = by_wait (is_waiting e.1) (is_stuck duty e) waits (waiting_unsettled duty here)
  where
    by_wait : (w a : Bool) → (w || any_waits here) ≡ true → (any_waits here ≡ true → are_settled duty here ≡ false) → ((a && not w) && are_settled duty here) ≡ false
    by_wait true true is more = refl
    by_wait true false is more = refl
    by_wait false true is more = more is
    by_wait false false is more = refl

-- where one can have a turn by itself, not all are settled
pub some_moves : (duty : DutyView) (here : List (Pid × Held)) (p : Pid) (h : Held) → held_of here p ≡ Some h → is_able duty (p, h) ≡ true → are_settled duty here ≡ false
some_moves duty [] p h there able = cc
some_moves duty (e ∷ here) p h there able = by_test (same_pid e.0 p) refl there (some_moves duty here p h)
  where
    none : (a b : Bool) → b ≡ false → (a && b) ≡ false
    none true b g = g
    none false b g = refl

    first : (a w b : Bool) → a ≡ true → ((not a && w) && b) ≡ false
    first true w b g = refl
    first false w b g = absurd (true≢false (sym g))

    by_test : (b : Bool) → same_pid e.0 p ≡ b → option_map (λ (e : Pid × Held). e.1) (cond b (Some e) (find (λ (e : Pid × Held). same_pid e.0 p) here)) ≡ Some h
        → (held_of here p ≡ Some h → is_able duty (p, h) ≡ true → are_settled duty here ≡ false) → are_settled duty (e ∷ here) ≡ false
    by_test true is at more =
        let same : e.1 ≡ h = cc in
        first (is_able duty e) (not (is_waiting e.1)) (are_settled duty here) (sym (λ i. is_able duty (pid_same p e.0 (sym (eqb-true (e.0).0 p.0 is)) i, sym same i)) ∙ able)
    by_test false is at more = none (is_settled duty e) (are_settled duty here) (more at able)

-- who can act, or comes after its children, can have a turn by itself
pub acts_able : (duty : DutyView) (p : Pid) (h : Held) → can_act duty.limits h ≡ true → is_able duty (p, h) ≡ true
acts_able duty p h acts = or_right (is_owed duty (p, h)) (can_act duty.limits h) acts

pub comes_able : (duty : DutyView) (p : Pid) (h : Held) → comes_after duty (p, h) ≡ true → is_able duty (p, h) ≡ true
comes_able duty p h = by_owed (is_owed duty (p, h))
  where
    by_owed : (o : Bool) → (o || comes_after_children duty.limits h) ≡ true → (o || can_act duty.limits h) ≡ true
    by_owed true comes = refl
    by_owed false comes = comes_acts duty.limits h comes

-- ---- a turn

pub own_moved : (cursor : ℕ) (pid : Pid) (was now : Process) (steps : ℕ) → IsOwn cursor pid was → silently steps (state_of was) ≡ Some (state_of now) → IsOwn cursor pid now
own_moved cursor pid was now steps own silent =
    let counts = silently_counts steps (state_of was) (state_of now) silent in
    record {
      pid_is = counts.pid ∙ own.pid_is;
      arrived = subst (λ n. n ≤ cursor) (sym counts.next) own.arrived;
    }

own_rolled : (cursor : ℕ) (pid : Pid) (was : Process) (counts left : Counts) (births unborn : List Pid) (n : ℕ) (now : Process) → rolled_on n (going was counts births) ≡ Some (going now left unborn) → IsOwn cursor pid was → IsOwn cursor pid now
own_rolled cursor pid was counts left births unborn n now rolled own =
    let kept = rolled_keeps n (going was counts births) (going now left unborn) rolled in
    record { pid_is = kept.pid ∙ own.pid_is; arrived = subst (λ n. n ≤ cursor) (sym kept.next) own.arrived }

-- one that made steps that are withheld is its own
pub own_between : (cursor : ℕ) (pid : Pid) (n : ℕ) (was between : Held) → IsHeldOwn cursor pid was → RollsTo n was between → IsHeldOwn cursor pid between
own_between cursor pid n (Runs p) (Runs q) own rolls = subst (IsOwn cursor pid) (sym rolls.1) own
own_between cursor pid n (Rolls p counts births) (Runs q) own rolls = own_rolled cursor pid p counts rolls.0 births rolls.1 n q (rolls.2).rolled own
own_between cursor pid n (Rolls p counts births) (Rolls q left unborn) own rolls = own_rolled cursor pid p counts left births unborn n q (rolls.2).rolled own
own_between cursor pid n was between own rolls = absurd rolls

own_after_silent : (cursor : ℕ) (pid : Pid) (m : ℕ) (between now : Held) → IsHeldOwn cursor pid between → RunsTo m between now → IsHeldOwn cursor pid now
own_after_silent cursor pid m (Runs p) (Runs q) own runs = own_moved cursor pid p q m own runs.silent
own_after_silent cursor pid m (Rolls p counts births) now own runs = subst (IsHeldOwn cursor pid) (sym runs.1) own
own_after_silent cursor pid m between now own runs = absurd runs

-- so is one that had a quantum
pub own_quantum : (limits : Limits) (cursor : ℕ) (pid : Pid) (made : ℕ) (was now : Held) → IsHeldOwn cursor pid was → Moves limits 64 made was now → IsHeldOwn cursor pid now
own_quantum limits cursor pid made was now own m = own_after_silent cursor pid m.silent was now own m.runs

pub own_before_sent : (limits : Limits) (cursor : ℕ) (pid : Pid) (made : ℕ) (was : Held) (sending : Sending) (new : Held) → IsHeldOwn cursor pid was → (s : Sends limits 64 made was sending new) → IsOwn cursor pid s.between
own_before_sent limits cursor pid made was sending new own s = subst (IsHeldOwn cursor pid) s.old_is own

pub own_sent : (limits : Limits) (cursor : ℕ) (pid : Pid) (made : ℕ) (was : Held) (sending : Sending) (new : Held) → IsHeldOwn cursor pid was → (s : Sends limits 64 made was sending new) → IsOwn cursor pid s.now
own_sent limits cursor pid made was sending new own s =
    let mine = own_before_sent limits cursor pid made was sending new own s in
    let counts = silently_counts s.silent (state_of s.between) (state_of s.before) (s.runs).silent in
    let last = emits_counts (state_of s.before) (state_of s.now) sending.emission s.sends in
    record {
      pid_is = last.pid ∙ counts.pid ∙ mine.pid_is;
      arrived = subst (λ n. n ≤ cursor) (sym (last.next ∙ counts.next)) mine.arrived;
    }

-- so is one that came to its fork
pub own_at_fork : (limits : Limits) (cursor : ℕ) (pid : Pid) (made : ℕ) (was : Held) (forking : Forking) (new : Held) → IsHeldOwn cursor pid was → (k : ComesToFork limits 64 made was forking new) → IsOwn cursor pid k.now
own_at_fork limits cursor pid made was forking new own k = own_moved cursor pid k.between k.now k.silent (subst (IsHeldOwn cursor pid) k.old_is own) (k.runs).silent

-- one that synchronised is its own as before
pub own_synced : (cursor : ℕ) (pid : Pid) (p : Process) → IsOwn cursor pid p → IsOwn cursor pid (synced p)
own_synced cursor pid p own = record { pid_is = (cut_keeps p).pid ∙ own.pid_is; arrived = subst (λ n. n ≤ cursor) (sym (cut_keeps p).next) own.arrived }

pub own_changed : (cursor : ℕ) (pid : Pid) (now : Held) (here : List (Pid × Held)) → AllOwn cursor here → IsHeldOwn cursor pid now → AllOwn cursor (with_changed pid now here)
own_changed cursor pid now [] own mine = tt
own_changed cursor pid now (e ∷ here) own mine = (by_test (same_pid e.0 pid), own_changed cursor pid now here own.1 mine)
  where
    by_test : (b : Bool) → IsHeldOwn cursor (cond b (pid, now) e).0 (cond b (pid, now) e).1
    by_test true = mine
    by_test false = own.0

-- ---- an entry

one_later : (cursor : ℕ) (pid : Pid) (h : Held) → IsHeldOwn cursor pid h → IsHeldOwn (cursor + 1) pid h
one_later cursor pid (Waits waiting) own = record {
  pid_is = own.pid_is;
  state = own.state;
  arrived = omega (arith, own.arrived);
  lacks = own.lacks;
}
one_later cursor pid _ own = record { pid_is = own.pid_is; arrived = omega (arith, own.arrived) }

pub own_later : (cursor : ℕ) (here : List (Pid × Held)) → AllOwn cursor here → AllOwn (cursor + 1) here
own_later cursor [] own = tt
own_later cursor (e ∷ here) own = (one_later cursor e.0 e.1 own.0, own_later cursor here own.1)

own_arrived : (cursor : ℕ) (pid : Pid) (s : Process) (letter : Letter) → IsOwn cursor pid s → IsOwn (cursor + 1) pid (arrived s letter)
own_arrived cursor pid s letter own = record { pid_is = own.pid_is; arrived = omega (arith, own.arrived) }

one_letter : (cursor : ℕ) (pid : Pid) (h : Held) (letter : Letter) → IsHeldOwn cursor pid h → IsHeldOwn (cursor + 1) pid (arrived_held h letter)
one_letter cursor pid (Runs s) letter own = own_arrived cursor pid s letter own
one_letter cursor pid (Rolls s counts births) letter own = own_arrived cursor pid s letter own
one_letter cursor pid (Waits waiting) letter own = record {
  pid_is = own.pid_is;
  state = own.state;
  arrived = omega (arith, own.arrived);
  lacks = own.lacks;
}

own_letter : (cursor : ℕ) (letter : Letter) (here : List (Pid × Held)) → AllOwn cursor here → AllOwn (cursor + 1) (here_after (Mail 0 letter) here)
own_letter cursor letter [] own = tt
own_letter cursor letter (e ∷ here) own = (by_test (is_end_of e.0 letter.to), own_letter cursor letter here own.1)
  where
    by_test : (b : Bool) → IsHeldOwn (cursor + 1) (cond b (e.0, arrived_held e.1 letter) e).0 (cond b (e.0, arrived_held e.1 letter) e).1
    by_test true = one_letter cursor e.0 e.1 letter own.0
    by_test false = one_later cursor e.0 e.1 own.0

own_exit : (cursor : ℕ) (pid : Pid) (here : List (Pid × Held)) → AllOwn cursor here → AllOwn cursor (filter (λ (e : Pid × Held). not (same_pid e.0 pid)) here)
own_exit cursor pid [] own = tt
own_exit cursor pid (e ∷ here) own = by_test (not (same_pid e.0 pid)) (own_exit cursor pid here own.1)
  where
    by_test : (b : Bool) → AllOwn cursor (filter (λ (e : Pid × Held). not (same_pid e.0 pid)) here)
        → AllOwn cursor (cond b (e ∷ filter (λ (e : Pid × Held). not (same_pid e.0 pid)) here) (filter (λ (e : Pid × Held). not (same_pid e.0 pid)) here))
    by_test true more = (own.0, more)
    by_test false more = more

pub own_after : (cursor : ℕ) (w : What) (here : List (Pid × Held)) → tells_or_closes w ≡ true → AllOwn cursor here → AllOwn (cursor + 1) (here_after w here)
own_after cursor w here =
    by_kind (λ w. AllOwn cursor here → AllOwn (cursor + 1) (here_after w here))
    (λ at letter own. own_letter cursor letter here own) (λ pid at end own. own_later cursor _ (own_exit cursor pid here own)) (λ rests own. own_later cursor here own) (λ own. own_later cursor here own) w

-- ---- a page comes

-- where all pages have come to one that waits under its own pid, what goes on from there is its own
own_going_on : (cursor : ℕ) (pid : Pid) (w : WaitingState) (o : Option SmallState) → (w.kept).state ≡ o → IfSome o (λ small. small.pid ≡ pid) → (w.kept).pid ≡ pid → (w.kept).next ≤ cursor
    → IsHeldOwn cursor pid (going_on w)
own_going_on cursor pid w o state_is small_is pid_is arrived =
    subst (λ o. IsHeldOwn cursor pid (cond (is_whole w) (option_map_or rolling_held (option_map (λ (small : SmallState). begun (start_of w small) w.kept) o) (Waits w)) (Waits w))) (sym state_is) (by_state o state_is small_is)
  where
    by_left : (small : SmallState) → small.pid ≡ pid → (b : Bool) → IsHeldOwn cursor pid (cond b (Runs (begun (start_of w small) w.kept).process) (Rolls (begun (start_of w small) w.kept).process (w.kept).counts (w.kept).births))
    by_left small is true = record { pid_is = is; arrived = arrived }
    by_left small is false = record { pid_is = is; arrived = arrived }

    waits_on : (o : Option SmallState) → (w.kept).state ≡ o → IfSome o (λ small. small.pid ≡ pid) → (is_some o ≡ true → is_whole w ≡ false) → WaitsOwn cursor pid w
    waits_on o is own lacks = record { pid_is = pid_is; state = subst (λ o. IfSome o (λ small. small.pid ≡ pid)) (sym is) own; arrived = arrived; lacks = λ some. lacks (ap is_some (sym is) ∙ some) }

    by_state : (o : Option SmallState) → (w.kept).state ≡ o → IfSome o (λ small. small.pid ≡ pid)
        → IsHeldOwn cursor pid (cond (is_whole w) (option_map_or rolling_held (option_map (λ (small : SmallState). begun (start_of w small) w.kept) o) (Waits w)) (Waits w))
    by_state None is own = by_whole (is_whole w)
      where
        by_whole : (b : Bool) → IsHeldOwn cursor pid (cond b (Waits w) (Waits w))
        by_whole true = waits_on None is own (λ some. absurd (true≢false (sym some)))
        by_whole false = waits_on None is own (λ some. absurd (true≢false (sym some)))
    by_state (Some small) is own = by_whole (is_whole w) refl
      where
        by_whole : (b : Bool) → is_whole w ≡ b → IsHeldOwn cursor pid (cond b (rolling_held (begun (start_of w small) w.kept)) (Waits w))
        by_whole true whole = by_left small own (nothing_left (w.kept).counts (w.kept).births)
        by_whole false lacks = waits_on (Some small) is own (λ some. lacks)

one_page : (cursor : ℕ) (pid : Pid) (i : ℕ) (bytes : List ℕ) (h : Held) → IsHeldOwn cursor pid h → IsHeldOwn cursor pid (page_held i bytes h)
one_page cursor pid i bytes (Waits waiting) own = own_going_on cursor pid (with_page i bytes waiting) (waiting.kept).state refl own.state own.pid_is own.arrived
one_page cursor pid i bytes _ own = own

pub own_page : (cursor : ℕ) (p : Pid) (i : ℕ) (bytes : List ℕ) (here : List (Pid × Held)) → AllOwn cursor here → AllOwn cursor (with_page_come p i bytes here)
own_page cursor p i bytes [] own = tt
own_page cursor p i bytes (e ∷ here) own = (by_test (same_pid e.0 p), own_page cursor p i bytes here own.1)
  where
    by_test : (b : Bool) → IsHeldOwn cursor (cond b (e.0, page_held i bytes e.1) e).0 (cond b (e.0, page_held i bytes e.1) e).1
    by_test true = one_page cursor e.0 i bytes e.1 own.0
    by_test false = own.0

-- ---- its new backup was sent

one_renewed : (cursor : ℕ) (pid : Pid) (h : Held) → IsHeldOwn cursor pid h → IsHeldOwn cursor pid (renewed_held h)
one_renewed cursor pid (Runs process) own = record { pid_is = own.pid_is; arrived = own.arrived }
one_renewed cursor pid _ own = own

own_counts : (cursor : ℕ) (p : Pid) (here : List (Pid × Held)) → AllOwn cursor here → AllOwn cursor (with_renewed p here)
own_counts cursor p [] own = tt
own_counts cursor p (e ∷ here) own = (by_test (same_pid e.0 p), own_counts cursor p here own.1)
  where
    by_test : (b : Bool) → IsHeldOwn cursor (cond b (e.0, renewed_held e.1) e).0 (cond b (e.0, renewed_held e.1) e).1
    by_test true = one_renewed cursor e.0 e.1 own.0
    by_test false = own.0

pub own_renewed : (cursor : ℕ) (w : What) (here : List (Pid × Held)) → AllOwn cursor here → AllOwn cursor (renewed_by w here)
own_renewed cursor (Rebackup to true recs) here own = by_recs recs
  where
    by_recs : (recs : List BackRec) → AllOwn cursor (renewed_by (Rebackup to true recs) here)
    by_recs [] = own
    by_recs (r ∷ rs) = own_counts cursor r.pid here own
own_renewed cursor _ here own = own

pub own_by_head : (cursor : ℕ) (queue : List Post) (here : List (Pid × Held)) → AllOwn cursor here → AllOwn cursor (renewed_by_head queue here)
own_by_head cursor [] here own = own
own_by_head cursor (head ∷ rest) here own = own_renewed cursor head.what here own

-- ---- a page is asked for

pub own_asked : (cursor : ℕ) (pid : Pid) (h : Held) → IsHeldOwn cursor pid h → IsHeldOwn cursor pid (asked_held h)
own_asked cursor pid (Waits waiting) own = record { pid_is = own.pid_is; state = own.state; arrived = own.arrived; lacks = own.lacks }
own_asked cursor pid _ own = own
