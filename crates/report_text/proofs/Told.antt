-- What a kernel tells of its end, and what a step leaves of that.
use Rattle.std.proofs.Common.{◌≡◌, ℕ, zero, suc, refl, sym, ◌∙◌, ap, List, [], ◌∷◌, map, Bool, true, false, cond, T, Option, Some, None, true≢false, is_some}
use Rattle.std.specs.declared.cmp.Ordering.{Ordering}
use Rattle.std.specs.declared.cmp.Ordering.TheVariants.{Less, Equal, Greater}
use Rattle.std.specs.Ordering.{nat_cmp, is_eq}
use Rattle.std.specs.FinMap.{find, is_sorted, put}
use Rattle.std.specs.FinMap.Entries.{by_order}
use Rattle.std.proofs.lemmas.Option.{same_Some}
use Rattle.t32_base.specs.declared.process.Pid.{Pid}
use Rattle.t32_base.specs.declared.process.End.{End}
use Rattle.t32_base.specs.declared.process.Status.{Status}
use Rattle.t32_base.specs.declared.process.Status.TheVariants.{Live, Closing, Ended}
use Rattle.t32_base.specs.declared.letter.Letter.{Letter}
use Rattle.t32_base.specs.declared.letter.To.{To}
use Rattle.t32_base.specs.declared.letter.To.TheVariants.{Proc, Tty}
use Rattle.proc_state.specs.State.{ProcState, delivered, has_ended, can_take}
use Rattle.sys_calls.specs.Calls.{Over}
use Rattle.sys_calls.specs.Next.{next_step, silently}
use Rattle.sys_calls.proofs.Counting.{ended_is_over}
use Rattle.plain_kernel.specs.Kernel.{Kernel, letter_put, letter_to, pid_cmp, process_at, with_process}
use Rattle.plain_kernel.proofs.Laws.{last_silent, no_silent}
use Rattle.plain_kernel.proofs.Pids.{HasPids, IsRising, left_true, not_found, put_process, right_true}
use Rattle.cert_sched.proofs.MailLaws.{silent_not_over, silently_ends}
use Rattle.cert_sched.proofs.RunsLaws.{Quietly, quietly_keeps}
use Rattle.report_text.specs.Outcome.{Outcome, end_of, ttys_with}
use Rattle.sys_calls.specs.Take.{taken}
use Rattle.sys_calls.proofs.TakeLaws.{taken_strikes, taker_lives}

-- ---- how a process stands

abbrev pub standing : ProcState → Option End
standing s = end_of (s.small).status

-- one that has not ended has no end
pub open_standing : (s : ProcState) → has_ended (s.small).status ≡ false → standing s ≡ None
open_standing s goes_on = by_status (s.small).status goes_on
  where
    by_status : (status : Status) → has_ended status ≡ false → end_of status ≡ None
    by_status (Ended end) h = absurd (true≢false h)
    by_status (Closing end) h = refl
    by_status Live h = refl

-- ---- of all processes

abbrev pub numbered : Pid × ProcState → ℕ × Option End
numbered e = ((e.0).0, standing e.1)

abbrev pub told_by : Kernel → Outcome
told_by k = record { ttys = k.ttys; ends = map numbered k.processes }

-- a process that is put has its end put
pub put_standing : (p : Pid) (t : ProcState) (es : List (Pid × ProcState)) → map numbered (put pid_cmp p t es) ≡ put nat_cmp p.0 (standing t) (map numbered es)
put_standing p t [] = refl
put_standing p t (e ∷ es) = by_case (pid_cmp p e.0) (put_standing p t es)
  where
    by_case : (o : Ordering) → map numbered (put pid_cmp p t es) ≡ put nat_cmp p.0 (standing t) (map numbered es)
        → map numbered (by_order o ((p, t) ∷ e ∷ es) ((e.0, t) ∷ es) (e ∷ put pid_cmp p t es))
        ≡ by_order o ((p.0, standing t) ∷ numbered e ∷ map numbered es) (((e.0).0, standing t) ∷ map numbered es) (numbered e ∷ put nat_cmp p.0 (standing t) (map numbered es))
    by_case Less more = refl
    by_case Equal more = refl
    by_case Greater more = ap (λ ns. numbered e ∷ ns) more

-- where its end was the same before, all stay
stays : (p : Pid) (s : ProcState) (o : Option End) (es : List (Pid × ProcState)) → T (is_sorted pid_cmp es) → find pid_cmp p es ≡ Some s → standing s ≡ o → put nat_cmp p.0 o (map numbered es) ≡ map numbered es
stays p s o [] rising there same = cc
stays p s o (e ∷ es) rising there same = by_case (pid_cmp p e.0) refl there (λ later. stays p s o es (right_true _ _ rising) later same)
  where
    by_case : (c : Ordering) → pid_cmp p e.0 ≡ c → cond (is_eq c) (Some e.1) (find pid_cmp p es) ≡ Some s
        → (find pid_cmp p es ≡ Some s → put nat_cmp p.0 o (map numbered es) ≡ map numbered es)
        → by_order c ((p.0, o) ∷ numbered e ∷ map numbered es) (((e.0).0, o) ∷ map numbered es) (numbered e ∷ put nat_cmp p.0 o (map numbered es)) ≡ numbered e ∷ map numbered es
    by_case Less is found more = absurd (true≢false (ap is_some (sym found ∙ not_found p e.0 es is (left_true _ _ rising))))
    by_case Equal is found more = ap (λ x. ((e.0).0, x) ∷ map numbered es) (sym same ∙ ap (λ (s : ProcState). standing s) (sym (same_Some e.1 s found)))
    by_case Greater is found more = ap (λ ns. numbered e ∷ ns) (more found)

-- ---- what a kernel tells after a change

-- a process is put that stands as before
pub told_same : (k : Kernel) (p : Pid) (s t : ProcState) → IsRising k → process_at k p ≡ Some s → standing t ≡ standing s → told_by (with_process k p t) ≡ told_by k
told_same k p s t rising there same =
    ap (λ ends. record (told_by k) { ends = ends }) (put_standing p t k.processes ∙ stays p s (standing t) k.processes rising there (sym same))

-- or one that has ended now
pub told_ended : (k : Kernel) (p : Pid) (t : ProcState) (end : End) → (t.small).status ≡ Ended end → told_by (with_process k p t) ≡ record (told_by k) { ends = put nat_cmp p.0 (Some end) (told_by k).ends }
told_ended k p t end is = ap (λ ends. record (told_by k) { ends = ends }) (put_standing p t k.processes ∙ ap (λ o. put nat_cmp p.0 o (map numbered k.processes)) (ap end_of is))

-- or one that has not, be it new
pub told_open : (k : Kernel) (p : Pid) (t : ProcState) → standing t ≡ None → told_by (with_process k p t) ≡ record (told_by k) { ends = put nat_cmp p.0 None (told_by k).ends }
told_open k p t is = ap (λ ends. record (told_by k) { ends = ends }) (put_standing p t k.processes ∙ ap (λ o. put nat_cmp p.0 o (map numbered k.processes)) is)

-- a letter is delivered
pub told_letter : (k : Kernel) (letter : Letter) (to : To) → IsRising k → told_by (letter_to k letter to) ≡ record (told_by k) { ttys = ttys_with letter to k.ttys }
told_letter k letter (Tty t) rising = refl
told_letter k letter (Proc p e) rising = by_process (process_at k p) refl
  where
    by_status : (s : ProcState) → process_at k p ≡ Some s → (b : Bool) → told_by (record k { processes = cond b k.processes (put pid_cmp p (delivered s letter) k.processes) }) ≡ told_by k
    by_status s there true = refl
    by_status s there false = told_same k p s (delivered s letter) rising there refl

    by_process : (o : Option ProcState) → process_at k p ≡ o → told_by (record k { processes = letter_put letter p o k.processes }) ≡ told_by k
    by_process None there = refl
    by_process (Some s) there = by_status s there (has_ended (s.small).status)

-- ---- silent steps

-- a process that has ended makes none
ended_stays : (n : ℕ) (s t : ProcState) → has_ended (s.small).status ≡ true → silently n s ≡ Some t → s ≡ t
ended_stays zero s t ended silent = no_silent s t silent
ended_stays (suc n) s t ended silent =
    let l = last_silent n s t silent in
    let over : next_step l.before ≡ Over = ended_is_over l.before (silently_ends n s l.before l.made ∙ ended) in
    absurd (silent_not_over (next_step l.before) t l.last over)

-- they leave how a process stands
silent_standing : (n : ℕ) (s t : ProcState) → silently n s ≡ Some t → standing t ≡ standing s
silent_standing n s t silent = by_ended (has_ended (s.small).status) refl
  where
    by_ended : (b : Bool) → has_ended (s.small).status ≡ b → standing t ≡ standing s
    by_ended true ended = ap (λ (x : ProcState). standing x) (sym (ended_stays n s t ended silent))
    by_ended false goes_on = open_standing t (silently_ends n s t silent ∙ goes_on) ∙ sym (open_standing s goes_on)

-- a take ends no process
taken_standing : (s : ProcState) → can_take s ≡ true → standing (taken s) ≡ standing s
taken_standing s can = open_standing (taken s) (taken_strikes s can).open_still ∙ sym (open_standing s (ap has_ended (taker_lives s can)))

-- and so what a kernel tells
pub told_quietly : (pids : List Pid) (k j : Kernel) → HasPids pids k → Quietly j k → told_by j ≡ told_by k
told_quietly pids k j has quiet = (quietly_keeps (λ i. HasPids pids i × (told_by i ≡ told_by k)) one take j k quiet (has, refl)).1
  where
    one : (i : Kernel) (p : Pid) (n : ℕ) (s t : ProcState) → process_at i p ≡ Some s → silently n s ≡ Some t → HasPids pids i × (told_by i ≡ told_by k) → HasPids pids (with_process i p t) × (told_by (with_process i p t) ≡ told_by k)
    one i p n s t there silent keeps = (put_process pids i p s t (keeps.0) there, told_same i p s t (keeps.0).rising there (silent_standing n s t silent) ∙ keeps.1)

    take : (i : Kernel) (p : Pid) (s : ProcState) → process_at i p ≡ Some s → can_take s ≡ true → HasPids pids i × (told_by i ≡ told_by k) → HasPids pids (with_process i p (taken s)) × (told_by (with_process i p (taken s)) ≡ told_by k)
    take i p s there can keeps = (put_process pids i p s (taken s) (keeps.0) there, told_same i p s (taken s) (keeps.0).rising there (taken_standing s can) ∙ keeps.1)
