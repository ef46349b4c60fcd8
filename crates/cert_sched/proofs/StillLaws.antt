-- Nothing moves in a kernel where no process that is there has a step or can take a signal.
use Rattle.std.proofs.Common.{◌≡◌, refl, sym, ◌∙◌, ap, List, [], ◌∷◌, Bool, true, false, cond, not, ◌&&◌, ◌||◌, T, Some, None}
use Rattle.std.specs.List.{list_any}
use Rattle.std.specs.declared.cmp.Ordering.{Ordering}
use Rattle.std.specs.declared.cmp.Ordering.TheVariants.{Less, Equal, Greater}
use Rattle.std.specs.Ordering.{is_eq, is_lt}
use Rattle.std.specs.Cmp.{tied_itself}
use Rattle.std.specs.FinMap.{find, is_sorted}
use Rattle.std.specs.FinMap.Entries.{below_all, find_tied}
use Rattle.t32_base.specs.declared.process.Pid.{Pid}
use Rattle.proc_state.specs.State.{ProcState, can_take}
use Rattle.sys_calls.specs.Next.{next_step, has_step}
use Rattle.plain_kernel.specs.Kernel.{Kernel, pid_cmp, process_at}
use Rattle.plain_kernel.specs.Still.{can_act, is_still}
use Rattle.plain_kernel.proofs.Laws.{pid_cmp_total}
use Rattle.plain_kernel.proofs.Pids.{IsRising}

left : (a b : Bool) → T (a && b) → T a
left true b x = tt
left false b x = absurd x

right : (a b : Bool) → T (a && b) → T b
right true b x = x
right false b x = absurd x

-- a process below all others is none of them
none_below : (p : Pid) (es : List (Pid × ProcState)) → T (below_all pid_cmp p es) → find pid_cmp p es ≡ None
none_below p [] below = refl
none_below p (e ∷ es) below = by_order (pid_cmp p e.0) (left _ _ below) (none_below p es (right _ _ below))
  where
    by_order : (o : Ordering) → T (is_lt o) → find pid_cmp p es ≡ None → cond (is_eq o) (Some e.1) (find pid_cmp p es) ≡ None
    by_order Less h more = more
    by_order Equal h more = absurd h
    by_order Greater h more = more

-- it has a step, or can take a signal
abbrev pub acts : ProcState → Bool
acts s = has_step (next_step s) || can_take s

abbrev NoneActs : List (Pid × ProcState) → Type 0
NoneActs es = (q : Pid) (s : ProcState) → find pid_cmp q es ≡ Some s → acts s ≡ false

-- a process that is found among the later ones is found
pub found_later : (e : Pid × ProcState) (es : List (Pid × ProcState)) (q : Pid) (s : ProcState) → T (below_all pid_cmp e.0 es) → find pid_cmp q es ≡ Some s → find pid_cmp q (e ∷ es) ≡ Some s
found_later e es q s below there = by_order (pid_cmp q e.0) refl
  where
    by_order : (o : Ordering) → pid_cmp q e.0 ≡ o → cond (is_eq o) (Some e.1) (find pid_cmp q es) ≡ Some s
    by_order Less is = there
    by_order Equal is = let gone : find pid_cmp q es ≡ None = sym (find_tied pid_cmp pid_cmp_total q e.0 is es) ∙ none_below e.0 es below in cc
    by_order Greater is = there

none_acts : (es : List (Pid × ProcState)) → T (is_sorted pid_cmp es) → NoneActs es → list_any can_act es ≡ false
none_acts [] rising none = refl
none_acts (e ∷ es) rising none =
    ap (λ b. b || list_any can_act es) (none e.0 e.1 (ap (λ o. cond (is_eq o) (Some e.1) (find pid_cmp e.0 es)) (tied_itself pid_cmp_total e.0)))
    ∙ none_acts es (right _ _ rising) (λ q s there. none q s (found_later e es q s (left _ _ rising) there))

pub still_where_none_acts : (k : Kernel) → IsRising k → ((q : Pid) (s : ProcState) → process_at k q ≡ Some s → acts s ≡ false) → is_still k ≡ true
still_where_none_acts k rising none = ap not (none_acts k.processes rising none)
