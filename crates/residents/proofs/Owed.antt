-- Who is to get a new backup: it can have a turn by that, and comes after its children.
use Rattle.std.proofs.Common.{◌≡◌, ℕ, refl, sym, ◌∙◌, ap, arith, cond, Bool, ◌||◌, ◌&&◌, not, ltb, eqb-true, List, [], ◌∷◌, Option, Some, None, is_none, is_some, true, false, Ok, Err, inl}
use Rattle.std.specs.Prelude.{Result, IfOk, OnErr, find, option_map}
use Rattle.std.specs.Option.{option_map_or}
use Rattle.std.specs.List.{list_all, list_any}
use Rattle.std.specs.Map.{lookup}
use Rattle.std.proofs.lemmas.Bool.{and_from, and_parts, or_right}
use Rattle.std.proofs.lemmas.Bool.Decides.{nat_tests}
use Rattle.slab.specs.Slab.{Slab, get}
use Rattle.t32_base.specs.declared.process.Pid.{Pid}
use Rattle.t32_base.specs.declared.process.ClusterNo.{ClusterNo}
use Rattle.t32_base.specs.declared.streams.NoMemory.{NoMemory}
use Rattle.bus_msg.specs.declared.entry.Post.{Post}
use Rattle.bus_msg.specs.Places.{same_pid}
use Rattle.birth_notice.specs.Family.{first_unsynced}
use Rattle.plain_kernel.specs.Maps.{at_key, pid_of}
use Rattle.proc_state.specs.declared.process.Process.{Process}
use Rattle.sync_point.specs.Batch.{synced}
use Rattle.residents.specs.declared.quantum.Quantum.{Quantum}
use Rattle.residents.specs.declared.quantum.Quantum.TheVariants.{Moved, Sent, Synced, Renewed, Stuck, Forks}
use Rattle.residents.specs.ChildrenFirst.{child_before, comes_after, comes_after_children}
use Rattle.residents.specs.Duty.{DutyView, backup_owed, is_able, is_owed, owed_at}
use Rattle.residents.specs.Held.{Held, Runs, can_act, held_of, is_running, runs_at}
use Rattle.residents.specs.Quantum.{SyncsNow}
use Rattle.residents.specs.Residents.{GivenTurnIs, RunsAt, are_rising, is_stuck, is_stuck_at, pids_in, stays_at}
use Rattle.residents.specs.Slots.{IsKept, IsSlot}
use Rattle.residents.proofs.ChildFirst.{comes_acts, syncs_acts}
use Rattle.residents.proofs.Slots.{all_more}

-- ---- who can have a turn

-- one that can move can have one
pub acts_able : (duty : DutyView) (p : Pid) (h : Held) → can_act duty.limits h ≡ true → is_able duty (p, h) ≡ true
acts_able duty p h acts = or_right (is_owed duty (p, h)) (can_act duty.limits h) acts

-- so can one that comes after its children
pub comes_able : (duty : DutyView) (p : Pid) (h : Held) → comes_after duty (p, h) ≡ true → is_able duty (p, h) ≡ true
comes_able duty p h comes = by_owed (is_owed duty (p, h)) comes
  where
    by_owed : (b : Bool) → (b || comes_after_children duty.limits h) ≡ true → (b || can_act duty.limits h) ≡ true
    by_owed true comes = refl
    by_owed false comes = comes_acts duty.limits h comes

-- so can one that runs and is to get a new backup
pub owed_able : (duty : DutyView) (here : List (Pid × Held)) (p : Pid) (to : ClusterNo) (process : Process) → held_of here p ≡ Some (Runs process) → owed_at duty here p ≡ Some to → is_able duty (p, Runs process) ≡ true
owed_able duty here p to process there owed =
    let runs : runs_at here p ≡ true = ap (λ o. option_map_or is_running o false) there in
    let some : backup_owed duty p ≡ Some to = ap (λ b. cond b (backup_owed duty p) None) (sym runs) ∙ owed in
    ap (λ (o : Option ClusterNo). (is_some o && true) || can_act duty.limits (Runs process)) some

-- one that has just synchronised could have one where it can now
pub syncs_able : (duty : DutyView) (p : Pid) (by : ClusterNo) (was now : Held) (r : Result (List Post) NoMemory) → IfOk r (λ posts. SyncsNow by was posts now) → OnErr r (now ≡ was) → is_able duty (p, now) ≡ true → is_able duty (p, was) ≡ true
syncs_able duty p by was now (Ok posts) s err able =
    ap (λ (h : Held). is_able duty (p, h)) s.old_is
    ∙ by_owed (is_some (backup_owed duty p) && true) (λ acts. sym (ap (can_act duty.limits) s.old_is) ∙ syncs_acts duty.limits by was now (Ok posts) s err (ap (can_act duty.limits) s.new_is ∙ acts))
    (sym (ap (λ (h : Held). is_able duty (p, h)) s.new_is) ∙ able)
  where
    by_owed : (b : Bool) → (can_act duty.limits (Runs (synced s.process)) ≡ true → can_act duty.limits (Runs s.process) ≡ true) → (b || can_act duty.limits (Runs (synced s.process))) ≡ true → (b || can_act duty.limits (Runs s.process)) ≡ true
    by_owed true acts able = refl
    by_owed false acts able = acts able
syncs_able duty p by was now (Err fault) s err able = ap (λ (h : Held). is_able duty (p, h)) (sym err) ∙ able

-- ---- who cannot

-- none behind a pid that rises has it
others_pass : (t : Held → Bool) (p : Pid) (here : List (Pid × Held)) → list_all (λ m. ltb p.0 m) (pids_in here) ≡ true → list_all (λ (e : Pid × Held). not (same_pid e.0 p) || t e.1) here ≡ true
others_pass t p [] later = refl
others_pass t p (e ∷ here) later =
    let parts = and_parts (ltb p.0 (e.0).0) (list_all (λ m. ltb p.0 m) (pids_in here)) later in
    let other : same_pid e.0 p ≡ false = apart (e.0).0 p.0 parts.0 in
    ap (λ b. (not b || t e.1) && list_all (λ (e : Pid × Held). not (same_pid e.0 p) || t e.1) here) other ∙ others_pass t p here parts.1
  where
    apart : (m n : ℕ) → ltb n m ≡ true → same_pid (pid_of m) (pid_of n) ≡ false
    apart m n below = grind (arith, nat_tests)

-- one that cannot move, and is not to get a new backup now, cannot have a turn
pub unowed_stuck : (duty : DutyView) (p : Pid) (here : List (Pid × Held)) → are_rising (pids_in here) ≡ true → owed_at duty here p ≡ None → stays_at duty.limits p here ≡ true → is_stuck_at duty p here ≡ true
unowed_stuck duty p [] rise none stays = refl
unowed_stuck duty p (e ∷ here) rise none stays = by_pid (same_pid e.0 p) refl none stays (unowed_stuck duty p here parts.1)
  where
    parts : (list_all (λ m. ltb (e.0).0 m) (pids_in here) ≡ true) × (are_rising (pids_in here) ≡ true)
    parts = and_parts (list_all (λ m. ltb (e.0).0 m) (pids_in here)) (are_rising (pids_in here)) rise

    still : (runs acts : Bool) → cond runs (backup_owed duty p) None ≡ None → not acts ≡ true → not ((is_some (backup_owed duty p) && runs) || acts) ≡ true
    still true acts none stays = ap (λ (o : Option ClusterNo). not ((is_some o && true) || acts)) none ∙ stays
    still false acts none stays = by_some (is_some (backup_owed duty p)) acts stays
      where
        by_some : (b acts : Bool) → not acts ≡ true → not ((b && false) || acts) ≡ true
        by_some true acts stays = stays
        by_some false acts stays = stays

    -- what is owed, where the first is the process or is not
    owed_where : Bool → Option ClusterNo
    owed_where b = cond (option_map_or is_running (option_map (λ (f : Pid × Held). f.1) (cond b (Some e) (find (λ (f : Pid × Held). same_pid f.0 p) here))) false) (backup_owed duty p) None

    by_pid : (b : Bool) → same_pid e.0 p ≡ b → owed_at duty (e ∷ here) p ≡ None → stays_at duty.limits p (e ∷ here) ≡ true
        → (owed_at duty here p ≡ None → stays_at duty.limits p here ≡ true → is_stuck_at duty p here ≡ true) → is_stuck_at duty p (e ∷ here) ≡ true
    by_pid true is none stays later =
        let acts = and_parts (not (same_pid e.0 p) || not (can_act duty.limits e.1)) (stays_at duty.limits p here) stays in
        let quiet : not (can_act duty.limits e.1) ≡ true = ap (λ b. not b || not (can_act duty.limits e.1)) (sym is) ∙ acts.0 in
        let last : list_all (λ m. ltb p.0 m) (pids_in here) ≡ true = ap (λ n. list_all (λ m. ltb n m) (pids_in here)) (sym (eqb-true (e.0).0 p.0 is)) ∙ parts.0 in
        and_from (not (same_pid e.0 p) || is_stuck duty (p, e.1)) (is_stuck_at duty p here)
        (or_right (not (same_pid e.0 p)) (is_stuck duty (p, e.1)) (still (is_running e.1) (can_act duty.limits e.1) (sym (ap owed_where is) ∙ none) quiet))
        (others_pass (λ h. is_stuck duty (p, h)) p here last)
    by_pid false is none stays later =
        let more = and_parts (not (same_pid e.0 p) || not (can_act duty.limits e.1)) (stays_at duty.limits p here) stays in
        and_from (not (same_pid e.0 p) || is_stuck duty (p, e.1)) (is_stuck_at duty p here) (ap (λ b. not b || is_stuck duty (p, e.1)) is)
        (later (sym (ap owed_where is) ∙ none) more.1)

-- ---- its own turn

-- the turn of a process before which no child is to synchronise, and that is to get no new backup now
pub given_own : (duty : DutyView) (by : ClusterNo) (family : List (Pid × Pid)) (p : Pid) (old new : List (Pid × Held)) → child_before duty family old p ≡ None → owed_at duty old p ≡ None → are_rising (pids_in old) ≡ true
    → (r : Result Quantum NoMemory) → RunsAt duty.limits by (is_none (first_unsynced family p)) p old r new → GivenTurnIs duty by family p old r new
given_own duty by family p old new alone none rise (Ok Moved) ran = record { alone = alone; unowed = none; ran = ran }
given_own duty by family p old new alone none rise (Ok (Sent sending)) ran = record { alone = alone; unowed = none; ran = ran }
given_own duty by family p old new alone none rise (Ok (Synced posts)) ran = inl (record { alone = alone; unowed = none; ran = ran })
given_own duty by family p old new alone none rise (Ok (Renewed posts)) ran = absurd ran
given_own duty by family p old new alone none rise (Ok (Forks forking)) ran = record { alone = alone; unowed = none; ran = ran }
given_own duty by family p old new alone none rise (Ok Stuck) ran = (unowed_stuck duty p old rise none ran.0, ran.1)
given_own duty by family p old new alone none rise (Err fault) ran = ran

-- one that is to get a new backup now runs
pub owed_runs : (duty : DutyView) (here : List (Pid × Held)) (p : Pid) (to : ClusterNo) → owed_at duty here p ≡ Some to → runs_at here p ≡ true
owed_runs duty here p to is = by_runs (runs_at here p) is
  where
    by_runs : (b : Bool) → cond b (backup_owed duty p) None ≡ Some to → b ≡ true
    by_runs true is = refl
    by_runs false is = cc

-- ---- other processes are to get one

-- each of those that are to get one is ready, or still to come
abbrev pub AreReady : List (ℕ × ClusterNo) → List (ℕ × ClusterNo) → List ℕ → Type 0
AreReady owing left ready = (n : ℕ) → is_some (lookup (at_key n) owing) ≡ true → (is_some (lookup (at_key n) left) || list_any (at_key n) ready) ≡ true

-- where all are ready what is kept is so by what is owed then
pub kept_owing : (duty : DutyView) (owing : List (ℕ × ClusterNo)) (slots : Slab Held) (keys : List (ℕ × ℕ)) (ready asking : List ℕ) → AreReady owing [] ready → IsKept duty slots keys ready asking → IsKept (record duty { owing = owing }) slots keys ready asking
kept_owing duty owing slots keys ready asking all k = record {
  ordered = k.ordered;
  apart = k.apart;
  each = all_more (IsSlot duty slots ready asking) (IsSlot new slots ready asking) each keys k.each;
}
  where
    new : DutyView
    new = record duty { owing = owing }

    each : (e : ℕ × ℕ) → IsSlot duty slots ready asking e → IsSlot new slots ready asking e
    each e s = record {
      filled = s.filled;
      able = λ h there able. by_owed (lookup (at_key e.0) owing) refl h there able;
      lacks = s.lacks;
    }
      where
        by_owed : (o : Option ClusterNo) → lookup (at_key e.0) owing ≡ o → (h : Held) → get slots e.1 ≡ Some h → ((is_some o && is_running h) || can_act duty.limits h) ≡ true → list_any (at_key e.0) ready ≡ true
        by_owed (Some to) is h there able = all e.0 (ap is_some is)
        by_owed None is h there able = s.able h there (acts_able duty (pid_of e.0) h able)
