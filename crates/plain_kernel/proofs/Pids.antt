-- The pids of a kernel rise, no step changes them, and each process has the one under which it stands.
use Rattle.std.proofs.Common.{◌≡◌, ℕ, refl, sym, ap, subst, ◌∙◌, arith, Bool, true, false, ◌&&◌, cond, T, List, [], ◌∷◌, map, Option, Some, None, true≢false, is_some}
use Rattle.std.specs.Prelude.{option_and_then, option_map}
use Rattle.std.specs.declared.cmp.Ordering.{Ordering}
use Rattle.std.specs.declared.cmp.Ordering.TheVariants.{Less, Equal, Greater}
use Rattle.std.specs.Ordering.{nat_cmp, is_eq, is_lt}
use Rattle.std.proofs.lemmas.Bool.Decides.{nat_tests}
use Rattle.std.specs.FinMap.{find, put, is_sorted, nat_cmp-IsAntisymmetric}
use Rattle.std.specs.FinMap.Entries.{by_order, below_all, is_sorted-put}
use Rattle.std.proofs.lemmas.Option.{same_Some}
use Rattle.t32_base.specs.declared.process.Pid.{Pid}
use Rattle.t32_base.specs.declared.letter.Letter.{Letter}
use Rattle.t32_base.specs.declared.letter.To.{To}
use Rattle.t32_base.specs.declared.letter.To.TheVariants.{Proc, Tty}
use Rattle.t32_base.specs.Small.{SmallState}
use Rattle.proc_state.specs.State.{ProcState, delivered, has_ended}
use Rattle.sys_calls.specs.declared.steps.Emission.{Emission}
use Rattle.sys_calls.specs.declared.steps.Emission.TheVariants.{Mail, Exit}
use Rattle.sys_calls.specs.Calls.{Next, Silent, Blocked, Forks, Emits, Over}
use Rattle.sys_calls.specs.Next.{next_step}
use Rattle.plain_kernel.specs.Kernel.{Kernel, pid_cmp, process_at, with_process, letter_put, letter_to, emitted}
use Rattle.plain_kernel.specs.Apply.{after_step, one_step}
use Rattle.plain_kernel.proofs.Laws.{pid_cmp_total, process_at-with_process}
use Rattle.plain_kernel.proofs.Others.{small_at, step_made}

-- ---- the pids stay

abbrev pub pids_in : Kernel → List Pid
pids_in k = map (λ (e : Pid × ProcState). e.0) k.processes

-- the processes stand by rising pid
abbrev pub IsRising : Kernel → Type 0
IsRising k = T (is_sorted pid_cmp k.processes)

pub left_true : (a b : Bool) → T (a && b) → T a
left_true true b x = tt
left_true false b x = absurd x

pub right_true : (a b : Bool) → T (a && b) → T b
right_true true b x = x
right_true false b x = absurd x

pub is_below : (o : Ordering) → T (is_lt o) → o ≡ Less
is_below Less x = refl
is_below Equal x = absurd x
is_below Greater x = absurd x

below_both : (x y z : ℕ) → nat_cmp x y ≡ Less → nat_cmp y z ≡ Less → is_eq (nat_cmp x z) ≡ false
below_both x y z a b = grind (arith, nat_tests)

pub not_found : (p x : Pid) (es : List (Pid × ProcState)) → pid_cmp p x ≡ Less → T (below_all pid_cmp x es) → find pid_cmp p es ≡ None
not_found p x [] under rising = refl
not_found p x (e ∷ es) under rising =
    let first : is_eq (pid_cmp p e.0) ≡ false = below_both p.0 x.0 (e.0).0 under (is_below _ (left_true _ _ rising)) in
    ap (λ b. cond b (Some e.1) (find pid_cmp p es)) first ∙ not_found p x es under (right_true _ _ rising)

-- a process that is put where one is leaves the pids
put_pids : (p : Pid) (s t : ProcState) (es : List (Pid × ProcState)) → T (is_sorted pid_cmp es) → find pid_cmp p es ≡ Some s → map (λ (e : Pid × ProcState). e.0) (put pid_cmp p t es) ≡ map (λ (e : Pid × ProcState). e.0) es
put_pids p s t [] rising there = cc
put_pids p s t (e ∷ es) rising there = by_case (pid_cmp p e.0) refl there (put_pids p s t es (right_true _ _ rising))
  where
    by_case : (o : Ordering) → pid_cmp p e.0 ≡ o → cond (is_eq o) (Some e.1) (find pid_cmp p es) ≡ Some s
        → (find pid_cmp p es ≡ Some s → map (λ (e : Pid × ProcState). e.0) (put pid_cmp p t es) ≡ map (λ (e : Pid × ProcState). e.0) es)
        → map (λ (e : Pid × ProcState). e.0) (by_order o ((p, t) ∷ e ∷ es) ((e.0, t) ∷ es) (e ∷ put pid_cmp p t es)) ≡ e.0 ∷ map (λ (e : Pid × ProcState). e.0) es
    by_case Less is found ih = absurd (true≢false (ap is_some (sym found ∙ not_found p e.0 es is (left_true _ _ rising))))
    by_case Equal is found ih = refl
    by_case Greater is found ih = ap (λ ps. e.0 ∷ ps) (ih found)

-- a kernel whose processes rise and have these pids
pub record HasPids (pids : List Pid) (k : Kernel) : Type 0 where
  pub rising : IsRising k
  pub are : pids_in k ≡ pids

-- a process that is put where one is
pub put_process : (pids : List Pid) (k : Kernel) (p : Pid) (s t : ProcState) → HasPids pids k → process_at k p ≡ Some s → HasPids pids (with_process k p t)
put_process pids k p s t has there = record { rising = is_sorted-put pid_cmp pid_cmp_total p t k.processes has.rising; are = put_pids p s t k.processes has.rising there ∙ has.are }

letter_pids : (pids : List Pid) (k : Kernel) (letter : Letter) (to : To) → HasPids pids k → HasPids pids (letter_to k letter to)
letter_pids pids k letter (Tty t) has = record { rising = has.rising; are = has.are }
letter_pids pids k letter (Proc p e) has = by_process (process_at k p) refl
  where
    by_status : (s : ProcState) (b : Bool) → process_at k p ≡ Some s → HasPids pids (record k { processes = cond b k.processes (put pid_cmp p (delivered s letter) k.processes) })
    by_status s true there = has
    by_status s false there = put_process pids k p s (delivered s letter) has there

    by_process : (o : Option ProcState) → process_at k p ≡ o → HasPids pids (record k { processes = letter_put letter p o k.processes })
    by_process None there = has
    by_process (Some s) there = by_status s (has_ended (s.small).status) there

emitted_pids : (pids : List Pid) (k : Kernel) (e : Emission) → HasPids pids k → HasPids pids (emitted k e)
emitted_pids pids k (Mail letter) has = letter_pids pids k letter letter.to has
emitted_pids pids k (Exit end) has = has

-- one step leaves the pids
pub one_step-pids : (pids : List Pid) (p : Pid) (k j : Kernel) → HasPids pids k → one_step p k ≡ Some j → HasPids pids j
unfolding one_step
one_step-pids pids p k j has made = by_process (process_at k p) refl made
  where
    by_next : (s : ProcState) (next : Next) → process_at k p ≡ Some s → after_step k p next ≡ Some j → HasPids pids j
    by_next s (Silent t) there e = subst (HasPids pids) (same_Some (with_process k p t) j e) (put_process pids k p s t has there)
    by_next s (Emits what t) there e = subst (HasPids pids) (same_Some (emitted (with_process k p t) what) j e) (emitted_pids pids (with_process k p t) what (put_process pids k p s t has there))
    by_next s Blocked there e = cc
    by_next s Forks there e = cc
    by_next s Over there e = cc

    by_process : (o : Option ProcState) → process_at k p ≡ o → option_and_then (λ s. after_step k p (next_step s)) o ≡ Some j → HasPids pids j
    by_process None there e = cc
    by_process (Some s) there e = by_next s (next_step s) there e

-- ---- each process has the pid under which it stands

abbrev pub HasOwnPids : Kernel → Type 0
HasOwnPids k = (p : Pid) (s : SmallState) → small_at k p ≡ Some s → s.pid ≡ p

pub tied_pids : (q p : Pid) → pid_cmp q p ≡ Equal → q ≡ p
tied_pids q p tied = let same : q.0 ≡ p.0 = nat_cmp-IsAntisymmetric q.0 p.0 tied in λ i. record { 0 = same i }

pub put_own : (k : Kernel) (p : Pid) (s : ProcState) → (s.small).pid ≡ p → HasOwnPids k → HasOwnPids (with_process k p s)
put_own k p s is own q t there = by_order (pid_cmp q p) refl (sym (ap (option_map (λ (s : ProcState). s.small)) (process_at-with_process k p s q)) ∙ there)
  where
    by_order : (o : Ordering) → pid_cmp q p ≡ o → option_map (λ (s : ProcState). s.small) (cond (is_eq o) (Some s) (process_at k q)) ≡ Some t → t.pid ≡ q
    by_order Less tied e = own q t e
    by_order Equal tied e = ap (λ (x : SmallState). x.pid) (sym (same_Some s.small t e)) ∙ is ∙ sym (tied_pids q p tied)
    by_order Greater tied e = own q t e

-- a step keeps that
pub one_step-own : (p : Pid) (k j : Kernel) → HasOwnPids k → one_step p k ≡ Some j → HasOwnPids j
one_step-own p k j own made =
    let m = step_made p k j made in
    let was : ((m.was).small).pid ≡ p = own p (m.was).small (ap (option_map (λ (s : ProcState). s.small)) m.there) in
    λ q t there. put_own k p m.now ((m.counts).pid ∙ was) own q t (sym (m.smalls_are q) ∙ there)
