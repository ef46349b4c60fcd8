-- Laws of the kernel without failures.
use Rattle.std.proofs.Common.{◌≡◌, ℕ, zero, suc, ◌+◌, refl, sym, ◌∙◌, ap, arith, List, [], ◌∷◌, ◌++◌, ◌-◌, ◌<◌, length, take, get_or, cond, false, Option, Some, None, true≢false, add-suc, add-zero}
use Rattle.std.specs.Prelude.{option_and_then}
use Rattle.std.specs.declared.cmp.Ordering.TheVariants.{Less, Equal, Greater}
use Rattle.std.specs.Ordering.{eq_by_cmp}
use Rattle.std.specs.Cmp.{IsTotalOrder, nat_cmp_total}
use Rattle.std.specs.FinMap.{put}
use Rattle.std.proofs.lemmas.Cmp.{on_total, tied_itself}
use Rattle.std.specs.FinMap.Entries.{by_order, find-put}
use Rattle.t32_base.specs.declared.process.Pid.{Pid}
use Rattle.proc_state.specs.State.{ProcState}
use Rattle.sys_calls.specs.Calls.{Next, Silent, Blocked, Forks, Emits, Over}
use Rattle.sys_calls.specs.Next.{is_fork, next_step, silent_of, silently}
use Rattle.plain_kernel.specs.Kernel.{Kernel, pid_cmp, process_at, with_process}
use Rattle.plain_kernel.specs.Apply.{after_step, fork_step, one_step, steps, take_step, apply, apply_all}
use Rattle.plain_kernel.specs.declared.item.Item.{Item}
use Rattle.plain_kernel.specs.declared.item.Item.TheVariants.{Run}
use Rattle.std.proofs.lemmas.List.{take_more}
use Rattle.std.proofs.lemmas.Option.{same_Some}
use Rattle.plain_kernel.specs.Still.{default_item, default_step, default_after, item_of_step, lowest, lowest_taker, next_child}

pub pid_cmp_total : IsTotalOrder pid_cmp
pid_cmp_total = on_total (λ (p : Pid). p.0) nat_cmp_total

-- what the kernel has at a pid after a process was put
pub process_at-with_process : (k : Kernel) (p : Pid) (s : ProcState) (q : Pid) → process_at (with_process k p s) q ≡ cond (eq_by_cmp pid_cmp q p) (Some s) (process_at k q)
process_at-with_process k p s q = find-put pid_cmp pid_cmp_total q p s k.processes

-- a value that is put twice
pub put-put : (k : Pid) (v w : ProcState) (es : List (Pid × ProcState)) → put pid_cmp k v (put pid_cmp k w es) ≡ put pid_cmp k v es
put-put k v w [] = ap (λ o. by_order o ((k, v) ∷ (k, w) ∷ []) ((k, v) ∷ []) ((k, w) ∷ (k, v) ∷ [])) (tied_itself pid_cmp_total k)
put-put k v w (e ∷ es) =
    elim (pid_cmp k e.0) as (λ o. pid_cmp k e.0 ≡ o → put pid_cmp k v (by_order o ((k, w) ∷ e ∷ es) ((e.0, w) ∷ es) (e ∷ put pid_cmp k w es)) ≡ by_order o ((k, v) ∷ e ∷ es) ((e.0, v) ∷ es) (e ∷ put pid_cmp k v es)) [
      | Less ↦ λ _. ap (λ o. by_order o ((k, v) ∷ (k, w) ∷ e ∷ es) ((k, v) ∷ e ∷ es) ((k, w) ∷ put pid_cmp k v (e ∷ es))) (tied_itself pid_cmp_total k)
      | Equal ↦ λ tied. ap (λ o. by_order o ((k, v) ∷ (e.0, w) ∷ es) ((e.0, v) ∷ es) ((e.0, w) ∷ put pid_cmp k v es)) tied
      | Greater ↦ λ above. ap (λ o. by_order o ((k, v) ∷ e ∷ put pid_cmp k w es) ((e.0, v) ∷ put pid_cmp k w es) (e ∷ put pid_cmp k v (put pid_cmp k w es))) above ∙ ap (λ l. e ∷ l) (put-put k v w es)
    ] refl

pub with_process-twice : (k : Kernel) (p : Pid) (s t : ProcState) → with_process (with_process k p t) p s ≡ with_process k p s
with_process-twice k p s t = ap (λ ps. record k { processes = ps }) (put-put p s t k.processes)

-- the process that was put is there
pub process_at-same : (k : Kernel) (p : Pid) (s : ProcState) → process_at (with_process k p s) p ≡ Some s
process_at-same k p s = process_at-with_process k p s p ∙ rw (tied_itself pid_cmp_total p) refl

-- ---- steps in two parts

pub steps-plus : (n m : ℕ) (p : Pid) (k : Kernel) → steps (n + m) p k ≡ option_and_then (steps m p) (steps n p k)
unfolding steps
steps-plus n zero p k = rw (add-zero n) (whole (steps n p k))
  where
    whole : (o : Option Kernel) → o ≡ option_and_then (λ j. Some j) o
    whole None = refl
    whole (Some j) = refl
steps-plus n (suc m) p k = rw (add-suc n m) (ap (option_and_then (one_step p)) (steps-plus n m p k) ∙ nested (steps n p k))
  where
    nested : (o : Option Kernel) → option_and_then (one_step p) (option_and_then (steps m p) o) ≡ option_and_then (λ j. option_and_then (one_step p) (steps m p j)) o
    nested None = refl
    nested (Some j) = refl

pub steps_joined : (n m : ℕ) (p : Pid) (k j i : Kernel) → steps n p k ≡ Some j → steps m p j ≡ Some i → steps (n + m) p k ≡ Some i
steps_joined n m p k j i first second = steps-plus n m p k ∙ ap (option_and_then (steps m p)) first ∙ second

pub steps_one : (p : Pid) (k : Kernel) → steps 1 p k ≡ one_step p k
unfolding steps
steps_one p k = refl

pub steps_more : (n : ℕ) (p : Pid) (k j i : Kernel) → steps n p k ≡ Some j → one_step p j ≡ Some i → steps (n + 1) p k ≡ Some i
steps_more n p k j i first second = steps_joined n 1 p k j i first (steps_one p j ∙ second)

pub default-plus : (n m : ℕ) (k : Kernel) → default_after (n + m) k ≡ option_and_then (default_after m) (default_after n k)
unfolding default_after
default-plus n zero k = rw (add-zero n) (whole (default_after n k))
  where
    whole : (o : Option Kernel) → o ≡ option_and_then (λ j. Some j) o
    whole None = refl
    whole (Some j) = refl
default-plus n (suc m) k = rw (add-suc n m) (ap (option_and_then default_step) (default-plus n m k) ∙ nested (default_after n k))
  where
    nested : (o : Option Kernel) → option_and_then default_step (option_and_then (default_after m) o) ≡ option_and_then (λ j. option_and_then default_step (default_after m j)) o
    nested None = refl
    nested (Some j) = refl

pub default_joined : (n m : ℕ) (k j i : Kernel) → default_after n k ≡ Some j → default_after m j ≡ Some i → default_after (n + m) k ≡ Some i
default_joined n m k j i first second = default-plus n m k ∙ ap (option_and_then (default_after m)) first ∙ second

pub default_one : (k j : Kernel) → default_step k ≡ Some j → default_after 1 k ≡ Some j
unfolding default_after
default_one k j e = e

-- where no process can take a signal, the next step of the process that has the turn is one item, and so is its fork
pub default_steps : (k : Kernel) (p : Pid) (t : ProcState) → lowest_taker k ≡ None → lowest k ≡ Some (p, t) → is_fork (next_step t) ≡ false → default_step k ≡ one_step p k
unfolding default_step default_item
default_steps k p t none e other = rw (none, e) (ap (apply k) (is_run (next_step t) other) ∙ steps_one p k)
  where
    is_run : (next : Next) → is_fork next ≡ false → item_of_step k p next ≡ Run p 1
    is_run (Silent s) none = refl
    is_run Blocked none = refl
    is_run Forks none = absurd (true≢false none)
    is_run (Emits what s) none = refl
    is_run Over none = refl

pub default_forks : (k : Kernel) (p : Pid) (t : ProcState) → lowest_taker k ≡ None → lowest k ≡ Some (p, t) → next_step t ≡ Forks → default_step k ≡ fork_step p (next_child k p) k
unfolding default_step default_item
default_forks k p t none e is = rw (none, e) (ap (λ next. apply k (item_of_step k p next)) is)

-- a process that can take a signal takes it first
pub default_takes : (k : Kernel) (p : Pid) (t : ProcState) → lowest_taker k ≡ Some (p, t) → default_step k ≡ take_step p k
unfolding default_step default_item
default_takes k p t e = rw e refl

-- where none can and none has a step there is no item
pub default_over : (k : Kernel) → lowest_taker k ≡ None → lowest k ≡ None → default_item k ≡ None
unfolding default_item
default_over k none e = rw (none, e) refl

pub default_none : (k : Kernel) → default_after 0 k ≡ Some k
unfolding default_after
default_none k = refl

-- ---- silent steps

pub silent_next : (next : Next) (t : ProcState) → silent_of next ≡ Some t → next ≡ Silent t
silent_next (Silent s) t e = ap Silent (same_Some s t e)
silent_next Blocked t e = cc
silent_next Forks t e = cc
silent_next (Emits what s) t e = cc
silent_next Over t e = cc

-- a silent step of a process is one of its kernel
pub one_silent : (k : Kernel) (p : Pid) (q t : ProcState) → next_step q ≡ Silent t → one_step p (with_process k p q) ≡ Some (with_process k p t)
unfolding one_step
one_silent k p q t is = rw (process_at-same k p q) (ap (after_step (with_process k p q) p) is ∙ ap Some (with_process-twice k p t q))

-- the last of some silent steps
pub record LastSilent (n : ℕ) (s t : ProcState) : Type 0 where
  pub before : ProcState
  pub made : silently n s ≡ Some before
  pub last : next_step before ≡ Silent t

pub last_silent : (n : ℕ) (s t : ProcState) → silently (suc n) s ≡ Some t → LastSilent n s t
unfolding silently
last_silent n s t e = by_case (silently n s) refl e
  where
    by_case : (o : Option ProcState) → silently n s ≡ o → option_and_then (λ q. silent_of (next_step q)) o ≡ Some t → LastSilent n s t
    by_case None is f = cc
    by_case (Some q) is f = record { before = q; made = is; last = silent_next (next_step q) t f }

pub no_silent : (s t : ProcState) → silently 0 s ≡ Some t → s ≡ t
unfolding silently
no_silent s t e = same_Some s t e

pub silent_steps : (n : ℕ) (k : Kernel) (p : Pid) (s t : ProcState) → with_process k p s ≡ k → silently n s ≡ Some t → steps n p k ≡ Some (with_process k p t)
unfolding steps
silent_steps zero k p s t same e = ap Some (sym same) ∙ ap (λ q. Some (with_process k p q)) (no_silent s t e)
silent_steps (suc n) k p s t same e =
    let last = last_silent n s t e in
    ap (option_and_then (one_step p)) (silent_steps n k p s last.before same last.made) ∙ one_silent k p last.before t last.last

-- ---- runs that stop

pub none_further : (n m : ℕ) (p : Pid) (k : Kernel) → steps n p k ≡ None → steps (n + m) p k ≡ None
none_further n m p k none = steps-plus n m p k ∙ ap (option_and_then (steps m p)) none

-- a run that stops before its last step cannot be applied
pub steps_stuck : (done n : ℕ) (p : Pid) (k j : Kernel) → steps done p k ≡ Some j → one_step p j ≡ None → done < n → steps n p k ≡ None
steps_stuck done n p k j made none less =
    let stopped : steps (done + 1) p k ≡ None = steps-plus done 1 p k ∙ ap (option_and_then (steps 1 p)) made ∙ steps_one p j ∙ none in
    let rest : n ≡ (done + 1) + (n - (done + 1)) = omega arith in
    ap (λ m. steps m p k) rest ∙ none_further (done + 1) (n - (done + 1)) p k stopped

-- items in two parts
pub apply_all-append : (xs ys : List Item) (k : Kernel) → apply_all (xs ++ ys) k ≡ option_and_then (apply_all ys) (apply_all xs k)
apply_all-append [] ys k = refl
apply_all-append (x ∷ xs) ys k = by_first (apply k x) (λ j. apply_all-append xs ys j)
  where
    by_first : (o : Option Kernel) → ((j : Kernel) → apply_all (xs ++ ys) j ≡ option_and_then (apply_all ys) (apply_all xs j)) → option_and_then (apply_all (xs ++ ys)) o ≡ option_and_then (apply_all ys) (option_and_then (apply_all xs) o)
    by_first None rest = refl
    by_first (Some j) rest = rest j

one_item : (x : Item) (k : Kernel) → apply_all (x ∷ []) k ≡ apply k x
one_item x k = whole (apply k x)
  where
    whole : (o : Option Kernel) → option_and_then (λ j. Some j) o ≡ o
    whole None = refl
    whole (Some j) = refl

pub one_applied : (items : List Item) (n : ℕ) (d x : Item) (from k j : Kernel) → n < length items → x ≡ get_or items n d → apply_all (take n items) from ≡ Some k → apply k x ≡ Some j → apply_all (take (n + 1) items) from ≡ Some j
one_applied items n d x from k j within is before now =
    ap (λ l. apply_all l from) (take_more items n d within ∙ ap (λ y. take n items ++ y ∷ []) (sym is)) ∙ apply_all-append (take n items) (x ∷ []) from
    ∙ ap (option_and_then (apply_all (x ∷ []))) before ∙ one_item x k ∙ now
