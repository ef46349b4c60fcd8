-- The pids of a kernel after a fork: the child's is put in its place, and each process has the one under which it stands.
use Rattle.std.proofs.Common.{◌≡◌, refl, sym, ap, subst, ◌∙◌, Bool, true, false, ◌||◌, List, [], ◌∷◌, map, Some}
use Rattle.std.specs.declared.cmp.Ordering.{Ordering}
use Rattle.std.specs.declared.cmp.Ordering.TheVariants.{Less, Equal, Greater}
use Rattle.std.specs.List.{list_any}
use Rattle.std.specs.Prelude.{option_map}
use Rattle.std.specs.FinMap.{put}
use Rattle.std.specs.FinMap.Entries.{by_order, is_sorted-put}
use Rattle.t32_base.specs.declared.process.Pid.{Pid}
use Rattle.proc_state.specs.State.{ProcState}
use Rattle.sys_calls.specs.Fork.{fork_child, fork_parent}
use Rattle.plain_kernel.specs.Kernel.{Kernel, pid_cmp, with_process}
use Rattle.plain_kernel.specs.Apply.{fork_step}
use Rattle.plain_kernel.proofs.Laws.{pid_cmp_total}
use Rattle.plain_kernel.proofs.Pids.{HasOwnPids, HasPids, IsRising, pids_in, put_own, put_process}
use Rattle.plain_kernel.proofs.Forking.{fork_made}

-- ---- the pids

-- a pid among pids that rise, in its place; one that is there stays
abbrev pub with_pid : Pid → List Pid → List Pid
with_pid c [] = c ∷ []
with_pid c (p ∷ ps) = by_order (pid_cmp c p) (c ∷ p ∷ ps) (p ∷ ps) (p ∷ with_pid c ps)

pub put_with_pid : (c : Pid) (s : ProcState) (es : List (Pid × ProcState)) → map (λ (e : Pid × ProcState). e.0) (put pid_cmp c s es) ≡ with_pid c (map (λ (e : Pid × ProcState). e.0) es)
put_with_pid c s [] = refl
put_with_pid c s (e ∷ es) = by_case (pid_cmp c e.0) (put_with_pid c s es)
  where
    by_case : (o : Ordering) → map (λ (e : Pid × ProcState). e.0) (put pid_cmp c s es) ≡ with_pid c (map (λ (e : Pid × ProcState). e.0) es) → map (λ (e : Pid × ProcState). e.0) (by_order o ((c, s) ∷ e ∷ es) ((e.0, s) ∷ es) (e ∷ put pid_cmp c s es))
        ≡ by_order o (c ∷ e.0 ∷ map (λ (e : Pid × ProcState). e.0) es) (e.0 ∷ map (λ (e : Pid × ProcState). e.0) es) (e.0 ∷ with_pid c (map (λ (e : Pid × ProcState). e.0) es))
    by_case Less more = refl
    by_case Equal more = refl
    by_case Greater more = ap (λ ps. e.0 ∷ ps) more

-- a kernel in which one more process is put
pub put_more : (pids : List Pid) (k : Kernel) (c : Pid) (s : ProcState) → HasPids pids k → HasPids (with_pid c pids) (with_process k c s)
put_more pids k c s has = record { rising = is_sorted-put pid_cmp pid_cmp_total c s k.processes has.rising; are = put_with_pid c s k.processes ∙ ap (with_pid c) has.are }

-- after a fork the pids are those before and the child's
pub fork_step-pids : (pids : List Pid) (p c : Pid) (k j : Kernel) → HasPids pids k → fork_step p c k ≡ Some j → HasPids (with_pid c pids) j
fork_step-pids pids p c k j has made =
    let f = fork_made p c k j made in
    subst (HasPids (with_pid c pids)) f.after
    (put_more pids (with_process k p (fork_parent f.was c)) c (fork_child f.was c) (put_process pids k p f.was (fork_parent f.was c) has f.there))

pub fork_step-rising : (p c : Pid) (k j : Kernel) → IsRising k → fork_step p c k ≡ Some j → IsRising j
fork_step-rising p c k j rising made = (fork_step-pids (pids_in k) p c k j (record { rising = rising; are = refl }) made).rising

-- it is among them, and all that were
pub with_pid-any : (t : Pid → Bool) (c : Pid) (pids : List Pid) → ((p : Pid) → pid_cmp c p ≡ Equal → t p ≡ t c) → list_any t (with_pid c pids) ≡ (t c || list_any t pids)
with_pid-any t c [] alike = refl
with_pid-any t c (p ∷ ps) alike = by_case (pid_cmp c p) refl (with_pid-any t c ps alike)
  where
    twice : (a b : Bool) → (a || b) ≡ (a || (a || b))
    twice true b = refl
    twice false b = refl

    swapped : (a b d : Bool) → (a || (b || d)) ≡ (b || (a || d))
    swapped true true d = refl
    swapped true false d = refl
    swapped false b d = refl

    by_case : (o : Ordering) → pid_cmp c p ≡ o → list_any t (with_pid c ps) ≡ (t c || list_any t ps) → list_any t (by_order o (c ∷ p ∷ ps) (p ∷ ps) (p ∷ with_pid c ps)) ≡ (t c || (t p || list_any t ps))
    by_case Less is more = refl
    by_case Equal is more = ap (λ b. b || list_any t ps) (alike p is) ∙ twice (t c) (list_any t ps) ∙ ap (λ b. t c || (b || list_any t ps)) (sym (alike p is))
    by_case Greater is more = ap (λ b. t p || b) more ∙ swapped (t p) (t c) (list_any t ps)

-- ---- each process has the pid under which it stands

pub fork_step-own : (p c : Pid) (k j : Kernel) → HasOwnPids k → fork_step p c k ≡ Some j → HasOwnPids j
fork_step-own p c k j own made =
    let f = fork_made p c k j made in
    let was : ((f.was).small).pid ≡ p = own p (f.was).small (ap (option_map (λ (s : ProcState). s.small)) f.there) in
    subst HasOwnPids f.after (put_own (with_process k p (fork_parent f.was c)) c (fork_child f.was c) refl (put_own k p (fork_parent f.was c) was own))
