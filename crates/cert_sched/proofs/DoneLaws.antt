-- When the end of a run may stand next.
use Rattle.std.proofs.Common.{◌≡◌, ℕ, refl, sym, ◌∙◌, ap, subst, List, [], ◌∷◌, ◌++◌, map, Bool, true, false, cond, not, ◌&&◌, ◌||◌, eqb, Option, Some, None, is_some, true≢false, is_none}
use Rattle.std.specs.Prelude.{find, filter, option_map, option_and_then}
use Rattle.std.specs.List.{list_any, list_all}
use Rattle.std.specs.Option.{option_map_or}
use Rattle.std.proofs.lemmas.Bool.{and_parts}
use Rattle.t32_base.specs.declared.process.Pid.{Pid}
use Rattle.sys_text.specs.declared.system.System.{System}
use Rattle.sys_text.specs.Valid.{is_system}
use Rattle.proc_state.specs.State.{ProcState, can_take, has_ended, is_live}
use Rattle.sys_calls.specs.Next.{has_step}
use Rattle.sys_calls.proofs.Counting.{ended_is_over}
use Rattle.plain_kernel.specs.Kernel.{Kernel, process_at}
use Rattle.plain_kernel.specs.Still.{is_still}
use Rattle.bus_msg.specs.declared.entry.What.TheVariants.{Done}
use Rattle.bus_msg.specs.declared.entry.By.TheVariants.{Bus}
use Rattle.bus_msg.specs.declared.entry.Entry.{Entry}
use Rattle.bus_msg.specs.declared.placed.Placed.{Placed}
use Rattle.bus_msg.specs.Places.{same_pid, unended_in}
use Rattle.cert_sched.specs.Parts.{rising}
use Rattle.cert_sched.specs.Schedule.{plain_after, after_entry, placement}
use Rattle.cert_sched.specs.Steps.{silent_upto}
use Rattle.cert_sched.specs.Rules.{is_over, owes_no_backup}
use Rattle.cert_sched.specs.Kinds.{is_silent_rest}
use Rattle.cert_sched.specs.Rests.{is_idle, is_idle_at}
use Rattle.cert_sched.specs.Legal.{IsLegalBy, MayFollow, MayStand}
use Rattle.cert_sched.specs.Appended.{entry_of}
use Rattle.cert_sched.proofs.ListLaws.{list_all-weaker}
use Rattle.cert_sched.proofs.LogLaws.{plain_after-snoc}
use Rattle.cert_sched.proofs.StepLaws.{plain_after-rising}
use Rattle.cert_sched.proofs.RisingLaws.{NoTwo, rising-any, rising-apart}
use Rattle.cert_sched.proofs.PidLaws.{placed_pids, apart_fewer}
use Rattle.cert_sched.proofs.FreshLaws.{numbered}
use Rattle.cert_sched.proofs.RunsLaws.{rest_pids, led, led-silent_upto, after_runs, RunsTo, runs_made}
use Rattle.cert_sched.proofs.EndedLaws.{EndsTold, stand_ended}
use Rattle.cert_sched.proofs.StillLaws.{still_where_none_acts, acts}
use Rattle.cert_sched.proofs.Applied.{legal_applies}
use Rattle.proc_state.specs.Mail.{first_signal}
use Rattle.t32_base.specs.declared.process.Status.{Status}
use Rattle.t32_base.specs.declared.process.Status.TheVariants.{Live, Closing, Ended}

-- The processes that have not ended, once and rising, with counts at which they are idle.
pub record AllRest (system : System) (log : List Entry) (rests : List (Pid × ℕ)) : Type 0 where
  pub named : rest_pids rests ≡ rising (map (λ (q : Placed). (q.pid).0) (unended_in (placement system log)))
  pub idle : list_all (is_idle_at system log) rests ≡ true

-- ---- the pids

-- no two processes of such a log have one pid
pub stand_apart : (system : System) (log : List Entry) → is_system system ≡ true → IsLegalBy MayStand system log → NoTwo (placed_pids (placement system log).placed)
stand_apart system log valid legal = (numbered MayStand (λ system log e may. may.stands) system log valid legal).two

-- a process that is none of those that have not ended is not found among them
unnamed : (qs : List Placed) (p : Pid) → list_any (λ m. eqb m p.0) (placed_pids (filter (λ (q : Placed). not q.ended) qs)) ≡ false → find (λ (q : Placed). same_pid q.pid p && not q.ended) qs ≡ None
unnamed [] p none = refl
unnamed (q ∷ qs) p none = by_tests q.ended (same_pid q.pid p) refl none (unnamed qs p)
  where
    by_tests : (b c : Bool) → same_pid q.pid p ≡ c → list_any (λ m. eqb m p.0) (placed_pids (cond (not b) (q ∷ filter (λ (q : Placed). not q.ended) qs) (filter (λ (q : Placed). not q.ended) qs))) ≡ false
        → (list_any (λ m. eqb m p.0) (placed_pids (filter (λ (q : Placed). not q.ended) qs)) ≡ false → find (λ (q : Placed). same_pid q.pid p && not q.ended) qs ≡ None)
        → cond (c && not b) (Some q) (find (λ (q : Placed). same_pid q.pid p && not q.ended) qs) ≡ None
    by_tests true true is e more = more e
    by_tests true false is e more = more e
    by_tests false true is e more = absurd (true≢false (sym (ap (λ b. b || list_any (λ m. eqb m p.0) (placed_pids (filter (λ (q : Placed). not q.ended) qs))) is) ∙ e))
    by_tests false false is e more = more (sym (ap (λ b. b || list_any (λ m. eqb m p.0) (placed_pids (filter (λ (q : Placed). not q.ended) qs))) is) ∙ e)

-- ---- the kernel

idle_acts_not : (s : ProcState) → is_idle s ≡ true → acts s ≡ false
idle_acts_not s idle = by_test (acts s) idle
  where
    by_test : (b : Bool) → not b ≡ true → b ≡ false
    by_test true e = absurd (true≢false (sym e))
    by_test false e = refl

-- nor does one that has ended
ended_acts_not : (s : ProcState) → has_ended (s.small).status ≡ true → acts s ≡ false
ended_acts_not s ended =
    ap (λ b. b || can_take s) (ap has_step (ended_is_over s ended)) ∙ ap (λ b. b && is_none (s.small).frame && is_some (first_signal s.mail)) (by_status (s.small).status ended)
  where
    by_status : (status : Status) → has_ended status ≡ true → is_live status ≡ false
    by_status Live h = absurd (true≢false (sym h))
    by_status (Closing end) h = refl
    by_status (Ended end) h = refl

-- a process after the runs is one of them, which is idle, or as it was
idle_after : (k : Kernel) (rs : List (Pid × ℕ)) (o : Option ProcState) (q : Pid) (s : ProcState) → list_all (λ r. option_map_or is_idle (led k r) false) rs ≡ true → after_runs k rs o q ≡ Some s
    → (list_any (λ m. eqb m q.0) (rest_pids rs) ≡ false → o ≡ Some s → acts s ≡ false) → acts s ≡ false
idle_after k [] o q s idle there other = other refl there
idle_after k (r ∷ rs) o q s idle there other =
    let parts = and_parts (option_map_or is_idle (led k r) false) (list_all (λ r. option_map_or is_idle (led k r) false) rs) idle in
    by_test parts.0 (same_pid r.0 q) refl there (λ e later. idle_after k rs o q s parts.1 e later)
  where
    by_test : option_map_or is_idle (led k r) false ≡ true → (b : Bool) → same_pid r.0 q ≡ b → cond b (led k r) (after_runs k rs o q) ≡ Some s
        → (after_runs k rs o q ≡ Some s → (list_any (λ m. eqb m q.0) (rest_pids rs) ≡ false → o ≡ Some s → acts s ≡ false) → acts s ≡ false) → acts s ≡ false
    by_test here true is e more = idle_acts_not s (sym (ap (λ o. option_map_or is_idle o false) e) ∙ here)
    by_test here false is e more = more e (λ none same. other (ap (λ b. b || list_any (λ m. eqb m q.0) (rest_pids rs)) is ∙ none) same)

-- ---- the entry

abbrev pub done_entry : System → List Entry → List (Pid × ℕ) → Entry
done_entry system log rests = entry_of system log (record { by = Bus; what = Done rests })

-- the kernel after it
record DoneKernel (system : System) (log : List Entry) (rests : List (Pid × ℕ)) : Type 0 where
  pub kernel : Kernel
  pub before : plain_after system log ≡ Some kernel
  pub runs : RunsTo kernel kernel rests
  pub after : plain_after system (log ++ done_entry system log rests ∷ []) ≡ Some runs.to

idle_reached : (system : System) (log : List Entry) (r : Pid × ℕ) → is_idle_at system log r ≡ true → is_some (silent_upto system log r.0 r.1) ≡ true
idle_reached system log r idle =
    let halves = and_parts (is_silent_rest system log r) (option_map_or is_idle (silent_upto system log r.0 r.1) false) idle in
    (and_parts _ (is_some (silent_upto system log r.0 r.1)) halves.0).1

done_kernel : (system : System) (log : List Entry) (rests : List (Pid × ℕ)) → is_system system ≡ true → IsLegalBy MayStand system log → AllRest system log rests → DoneKernel system log rests
done_kernel system log rests valid legal rest = by_kernel (plain_after system log) refl (legal_applies system log legal)
  where
    two : NoTwo (rest_pids rests)
    two = subst NoTwo (sym rest.named) (rising-apart (placed_pids (unended_in (placement system log))) (apart_fewer (λ (q : Placed). not q.ended) (placement system log).placed (stand_apart system log valid legal)))

    by_kernel : (o : Option Kernel) → plain_after system log ≡ o → is_some o ≡ true → DoneKernel system log rests
    by_kernel None is e = absurd (true≢false (sym e))
    by_kernel (Some k) is e = record { kernel = k; before = is; runs = runs; after = plain_after-snoc system log (done_entry system log rests) ∙ ap (λ o. after_entry o (done_entry system log rests)) is ∙ runs.made }
      where
        runs : RunsTo k k rests
        runs = runs_made k rests two (list_all-weaker (is_idle_at system log) (λ r. is_some (led k r)) (λ r idle. sym (ap is_some (led-silent_upto system log k r is)) ∙ idle_reached system log r idle) rests rest.idle)

done_still : (system : System) (log : List Entry) (rests : List (Pid × ℕ)) → IsLegalBy MayStand system log → is_over system log ≡ false → AllRest system log rests → (d : DoneKernel system log rests) → is_still (d.runs).to ≡ true
done_still system log rests legal goes_on rest d =
    still_where_none_acts (d.runs).to (plain_after-rising system (log ++ done_entry system log rests ∷ []) (d.runs).to d.after) none_moves
  where
    told : EndsTold system log
    told = stand_ended system log legal goes_on

    idle : list_all (λ r. option_map_or is_idle (led d.kernel r) false) rests ≡ true
    idle = list_all-weaker (is_idle_at system log) (λ r. option_map_or is_idle (led d.kernel r) false)
        (λ r idle. ap (λ o. option_map_or is_idle o false) (sym (led-silent_upto system log d.kernel r d.before)) ∙ (and_parts (is_silent_rest system log r) (option_map_or is_idle (silent_upto system log r.0 r.1) false) idle).1) rests rest.idle

    none_moves : (q : Pid) (s : ProcState) → process_at (d.runs).to q ≡ Some s → acts s ≡ false
    none_moves q s there =
        idle_after d.kernel rests (process_at d.kernel q) q s idle (sym ((d.runs).are q) ∙ there) (λ none was.
        let apart : list_any (λ m. eqb m q.0) (placed_pids (unended_in (placement system log))) ≡ false =
        sym (rising-any (λ m. eqb m q.0) (placed_pids (unended_in (placement system log)))) ∙ sym (ap (list_any (λ m. eqb m q.0)) rest.named) ∙ none in
        ended_acts_not s (told q s (ap (option_and_then (λ k. process_at k q)) d.before ∙ was) (unnamed (placement system log).placed q apart)))

-- where all rest, the end of the run may stand next,
pub done_may_stand : (system : System) (log : List Entry) (rests : List (Pid × ℕ)) → is_system system ≡ true → IsLegalBy MayStand system log → is_over system log ≡ false → AllRest system log rests
    → MayStand system log (done_entry system log rests)
done_may_stand system log rests valid legal goes_on rest =
    let d = done_kernel system log rests valid legal rest in
    record {
      stands = record {
        placed = (refl, refl, goes_on);
        by_right = refl;
        applies = ap is_some d.after;
        kind = record {
          named = rest.named;
          silent = list_all-weaker (is_idle_at system log) (is_silent_rest system log) (λ r idle. (and_parts (is_silent_rest system log r) (option_map_or is_idle (silent_upto system log r.0 r.1) false) idle).0) rests rest.idle;
          still = ap (option_map is_still) d.after ∙ ap Some (done_still system log rests legal goes_on rest d);
        };
      };
      limits = refl;
      new_page = refl;
      pages = refl;
    }

-- and where no backup is owed beside that it may follow
pub done_may_follow : (system : System) (log : List Entry) (rests : List (Pid × ℕ)) → is_system system ≡ true → IsLegalBy MayStand system log → is_over system log ≡ false → AllRest system log rests
    → owes_no_backup (placement system log) ≡ true → MayFollow system log (done_entry system log rests)
done_may_follow system log rests valid legal goes_on rest backed =
    let may = done_may_stand system log rests valid legal goes_on rest in record { stands = may.stands; limits = may.limits; backup = backed; new_page = may.new_page; pages = may.pages }
