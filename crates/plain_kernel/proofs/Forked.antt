-- A fork in the map of the processes: the parent stands in its place, and the child is put at its pid.
use Rattle.std.proofs.Common.{◌≡◌, ℕ, ◌+◌, ◌*◌, ◌<◌, ◌≤◌, ◌^◌, Bool, true, false, true≢false, cond, ◌||◌, List, [], ◌∷◌, refl, sym, ap, ◌∙◌, subst, arith, Option, Some, None, IsSome, is_some, option_map}
use Rattle.std.specs.Prelude.{fold, option_and_then, Result, Ok, Err, IfOk, OnOk, OnErr}
use Rattle.std.proofs.lemmas.Bool.{false≢true}
use Rattle.std.proofs.lemmas.Bool.Decides.{nat_tests}
use Rattle.std.proofs.lemmas.Cmp.{nat_cmp_total}
use Rattle.std.proofs.lemmas.Map.Entries.{sum_by-insert_entry}
use Rattle.std.specs.FinMap.{put}
use Rattle.std.specs.FinMap.Entries.{find-put}
use Rattle.std.specs.Map.{lookup}
use Rattle.std.specs.Option.{option_map_or}
use Rattle.std.specs.Ordering.{nat_cmp}
use Rattle.t32_base.specs.declared.process.Pid.{Pid}
use Rattle.t32_base.specs.Small.{SmallState}
use Rattle.proc_state.specs.declared.process.Process.{Process}
use Rattle.t32_base.specs.declared.streams.NoMemory.{NoMemory}
use Rattle.proc_state.specs.State.{ProcState, SameRest, can_take, state_of}
use Rattle.sys_calls.specs.Calls.{Next, Silent, Blocked, Forks, Emits, Over}
use Rattle.sys_calls.specs.Next.{is_fork, next_step}
use Rattle.sys_calls.specs.Small.{weight_with_children}
use Rattle.sys_calls.specs.Fork.{CanFork, fork_child, fork_parent}
use Rattle.sys_calls.proofs.Bearing.{fork_lightens}
use Rattle.sys_calls.proofs.ForkLaws.{forks_can}
use Rattle.plain_kernel.specs.Kernel.{pid_cmp, process_at}
use Rattle.plain_kernel.specs.declared.item.Item.TheVariants.{Fork}
use Rattle.plain_kernel.specs.Answers.{Applies, fork_answer}
use Rattle.plain_kernel.specs.Apply.{after_fork, fork_step}
use Rattle.plain_kernel.specs.Still.{higher, next_child}
use Rattle.plain_kernel.specs.Maps.{at_key, forks_at, higher_key, kernel_of, load, pid_of, processes_of, total_load, Changes, ChangesSmall, ForksAt, NoneTakes, PidsFit, Restores, SameBut, Splits, SplitsAt}
use Rattle.plain_kernel.proofs.Entries.{keys, insert_seen, lookup_find, lookup_state, one_of_sum, same_keys, still_there, changed_back, load_after, ordered_after, others_stay, put_after, state_before}
use Rattle.plain_kernel.proofs.Delivery.{there_small, undone}
use Rattle.plain_kernel.proofs.Forking.{fork_makes}
use Rattle.plain_kernel.proofs.Roots.{insert_put}
use Rattle.plain_kernel.proofs.NextChild.{next_child-within}
use Rattle.plain_kernel.proofs.Takers.{none_changed, none_empty, takes_there, no_steps}

-- ---- a process that forks next

pub fork_next : (next : Next) → is_fork next ≡ true → next ≡ Forks
fork_next (Silent s) is = absurd (false≢true is)
fork_next Blocked is = absurd (false≢true is)
fork_next Forks is = refl
fork_next (Emits what s) is = absurd (false≢true is)
fork_next Over is = absurd (false≢true is)

pub forks_next_at : (es : List (ℕ × Process)) (pid : ℕ) (p : Process) → lookup (at_key pid) es ≡ Some p → forks_at es pid ≡ true → next_step (state_of p) ≡ Forks
forks_next_at es pid p found forks = fork_next (next_step (state_of p)) (ap (λ o. option_map_or (λ (p : Process). is_fork (next_step (state_of p))) o false) (sym found) ∙ forks)

pub can_fork_at : (es : List (ℕ × Process)) (pid : ℕ) (p : Process) → lookup (at_key pid) es ≡ Some p → forks_at es pid ≡ true → CanFork (state_of p)
can_fork_at es pid p found forks = forks_can (state_of p) (forks_next_at es pid p found forks)

pub there_to_fork : (es : List (ℕ × Process)) (pid : ℕ) → forks_at es pid ≡ true → IsSome (lookup (at_key pid) es)
there_to_fork es pid forks = by_case (lookup (at_key pid) es) forks
  where
    by_case : (o : Option Process) → option_map_or (λ (p : Process). is_fork (next_step (state_of p))) o false ≡ true → IsSome o
    by_case None e = absurd (false≢true e)
    by_case (Some p) e = refl

-- ---- a fork in its place

-- what the call that forks leaves
pub split_made : (r : Result Process NoMemory) (old new : List (ℕ × Process)) (pid : ℕ) (child : Pid) (was now : Process) → Changes old new pid was now → IfOk r (λ c. state_of c ≡ fork_child (state_of was) child)
    → OnOk r (state_of now ≡ fork_parent (state_of was) child) → SameRest was now → OnErr r (now ≡ was) → SplitsAt r old new pid child
split_made (Ok made) old new pid child was now c born parent rest err = record {
  was = was;
  now = now;
  changes = c;
  parent = parent;
  born = born;
  rest = λ i. record { small = now.small; ram = rest.ram i; mail = record { letters = (parent i).mail; next = (parent i).next }; read = rest.read i; since = rest.since i };
}
split_made (Err e) old new pid child was now c born parent rest err = changed_back old new pid was now c err

-- where the child was not put, only the parent's state has changed
pub split_small : (old new : List (ℕ × Process)) (pid : ℕ) (child : Pid) (made : Process) → Splits old new pid child made → ChangesSmall old new pid
split_small old new pid child made s = record { was = s.was; now = s.now; changes = s.changes; rest = s.rest }

-- the parent is there, and as it was once its state is put back
pub split_there : (ps between now : List (ℕ × Process)) (pid : ℕ) (child : Pid) (made : Process) → Splits ps between pid child made → now ≡ between → IsSome (lookup (at_key pid) now)
split_there ps between now pid child made s same = subst (λ es. IsSome (lookup (at_key pid) es)) (sym same) (there_small ps between pid (split_small ps between pid child made s))

pub put_back : (ps between now after : List (ℕ × Process)) (pid : ℕ) (child : Pid) (made : Process) (before : SmallState) → Splits ps between pid child made → now ≡ between
    → option_map (λ (p : Process). p.small) (lookup (at_key pid) ps) ≡ Some before → Restores now after pid before → after ≡ ps
put_back ps between now after pid child made before s same saved back = undone ps between after pid before (split_small ps between pid child made s) saved (subst (λ es. Restores es after pid before) same back)

-- ---- the pid of the next child, by the keys

pub highest_key : (pid n : ℕ) (es : List (ℕ × Process)) → fold (higher_key pid) n (keys es) ≡ fold (higher (pid_of pid)) n (processes_of es)
highest_key pid n [] = refl
highest_key pid n (e ∷ es) = highest_key pid (higher_key pid n e.0) es

-- ---- where no fork can be made

-- the process is not there, or its next step is no fork
pub no_fork_at : (es : List (ℕ × Process)) (ts : List (ℕ × List ℕ)) (pid : ℕ) (child : Pid) → forks_at es pid ≡ false → fork_step (pid_of pid) child (kernel_of es ts) ≡ None
unfolding fork_step
no_fork_at es ts pid child none = rw (lookup_state pid es) (by_process (lookup (at_key pid) es) none)
  where
    by_next : (s : ProcState) (next : Next) (o : Option ProcState) → is_fork next ≡ false → after_fork (kernel_of es ts) (pid_of pid) child s next o ≡ None
    by_next s (Silent t) o is = refl
    by_next s Blocked o is = refl
    by_next s Forks o is = absurd (true≢false is)
    by_next s (Emits what t) o is = refl
    by_next s Over o is = refl

    by_process : (o : Option Process) → option_map_or (λ (p : Process). is_fork (next_step (state_of p))) o false ≡ false
        → option_and_then (λ s. after_fork (kernel_of es ts) (pid_of pid) child s (next_step s) (process_at (kernel_of es ts) child)) (option_map state_of o) ≡ None
    by_process None is = refl
    by_process (Some p) is = by_next (state_of p) (next_step (state_of p)) (process_at (kernel_of es ts) child) is

-- the child's pid is there already
pub child_stands : (es : List (ℕ × Process)) (ts : List (ℕ × List ℕ)) (pid : ℕ) (child : Pid) → is_some (lookup (at_key child.0) es) ≡ true → fork_step (pid_of pid) child (kernel_of es ts) ≡ None
unfolding fork_step
child_stands es ts pid child stands = by_process (process_at (kernel_of es ts) (pid_of pid))
  where
    by_next : (s : ProcState) (next : Next) (o : Option ProcState) → is_some o ≡ true → after_fork (kernel_of es ts) (pid_of pid) child s next o ≡ None
    by_next s (Silent t) o is = refl
    by_next s Blocked o is = refl
    by_next s Forks None is = absurd (false≢true is)
    by_next s Forks (Some t) is = refl
    by_next s (Emits what t) o is = refl
    by_next s Over o is = refl

    there : is_some (process_at (kernel_of es ts) child) ≡ true
    there = ap is_some (lookup_state child.0 es) ∙ seen (lookup (at_key child.0) es) ∙ stands
      where
        seen : (o : Option Process) → is_some (option_map state_of o) ≡ is_some o
        seen None = refl
        seen (Some p) = refl

    by_process : (o : Option ProcState) → option_and_then (λ s. after_fork (kernel_of es ts) (pid_of pid) child s (next_step s) (process_at (kernel_of es ts) child)) o ≡ None
    by_process None = refl
    by_process (Some s) = by_next s (next_step s) (process_at (kernel_of es ts) child) there

-- ---- a fork that was made

absent_state : (es : List (ℕ × Process)) (child : Pid) → lookup (at_key child.0) es ≡ None → process_at (record { processes = processes_of es; ttys = [] }) child ≡ None
absent_state es child none = lookup_state child.0 es ∙ ap (option_map state_of) none

same_number : (n m : ℕ) → at_key n m ≡ true → n ≡ m
same_number n m e = grind (arith, nat_tests)

-- the pid of the next child is within what each pid is within
pub child_within : (es : List (ℕ × Process)) (ts : List (ℕ × List ℕ)) (pid : ℕ) → PidsFit es → IsSome (lookup (at_key pid) es) → (next_child (kernel_of es ts) (pid_of pid)).0 + 4 * total_load es < 2 ^ 32 + 16
child_within es ts pid fits there = next_child-within (kernel_of es ts) (pid_of pid) (4 * total_load es) (2 ^ 32) (fits pid there) each
  where
    seen : (o : Option Process) (s : ProcState) → option_map state_of o ≡ Some s → IsSome o
    seen None s e = cc
    seen (Some p) s e = refl

    each : (q : Pid) (s : ProcState) → process_at (kernel_of es ts) q ≡ Some s → q.0 + 4 * total_load es < 2 ^ 32
    each q s found = fits q.0 (seen (lookup (at_key q.0) es) s (sym (lookup_state q.0 es) ∙ found))

-- four are to come at least where a process forks next
pub load_to_fork : (es : List (ℕ × Process)) (pid : ℕ) (p : Process) → lookup (at_key pid) es ≡ Some p → forks_at es pid ≡ true → 4 ≤ total_load es
load_to_fork es pid p found forks =
    let shared = fork_lightens (state_of p) (pid_of pid) (can_fork_at es pid p found forks) in
    omega (arith, shared, one_of_sum load (at_key pid) es p found)

module _ (ps qs : List (ℕ × Process)) (pid : ℕ) (child : Pid) (forks : forks_at ps pid ≡ true) (absent : lookup (at_key child.0) ps ≡ None) (f : ForksAt ps qs pid child) where
  -- it is the fork step of the kernel
  pub forked : (ts : List (ℕ × List ℕ)) → fork_step (pid_of pid) child (kernel_of ps ts) ≡ Some (kernel_of qs ts)
  forked ts =
      let s = f.splits in
      let was : ProcState = state_of s.was in
      let entries : processes_of qs ≡ put pid_cmp child (fork_child was child) (put pid_cmp (pid_of pid) (fork_parent was child) (processes_of ps)) =
      ap processes_of f.entries ∙ insert_seen state_of child.0 f.made f.between
      ∙ ap (λ l. put pid_cmp child (state_of f.made) l) (put_after ps f.between pid s.was s.now s.changes)
      ∙ ap (λ t. put pid_cmp child t (put pid_cmp (pid_of pid) (state_of s.now) (processes_of ps))) s.born
      ∙ ap (λ t. put pid_cmp child (fork_child was child) (put pid_cmp (pid_of pid) t (processes_of ps))) s.parent in
      fork_makes (pid_of pid) child (kernel_of ps ts) was (state_before ps f.between pid s.was s.now s.changes) (forks_next_at ps pid s.was (s.changes).found forks) (absent_state ps child absent)
      ∙ ap (λ l. Some (record { processes = l; ttys = ts })) (sym entries)

  -- which leaves less to come
  pub fork_lighter : total_load qs + 4 ≤ total_load ps
  fork_lighter =
      let s = f.splits in
      let was : ProcState = state_of s.was in
      let shared = fork_lightens was child (can_fork_at ps pid s.was (s.changes).found forks) in
      let parent : load s.now ≡ 2 * weight_with_children (fork_parent was child).small + ((s.was).mail).next = ap (λ (t : ProcState). 2 * weight_with_children t.small + t.next) s.parent in
      let born : load f.made ≡ 2 * weight_with_children (fork_child was child).small + 0 = ap (λ (t : ProcState). 2 * weight_with_children t.small + t.next) s.born in
      let put_in = sum_by-insert_entry load nat_cmp_total f.between child.0 f.made (ordered_after ps f.between pid s.was s.now s.changes) in
      omega (arith, ap total_load f.entries, put_in, load_after ps f.between pid s.was s.now s.changes, parent, born, shared)

  -- a process that is there was there, or is the child
  there_after_fork : (q : ℕ) → lookup (at_key q) qs ≡ cond (at_key q child.0) (Some f.made) (lookup (at_key q) f.between)
  there_after_fork q =
      ap (lookup (at_key q)) (f.entries ∙ insert_put child.0 f.made f.between) ∙ lookup_find q (put nat_cmp child.0 f.made f.between)
      ∙ find-put nat_cmp nat_cmp_total q child.0 f.made f.between ∙ ap (cond (at_key q child.0) (Some f.made)) (sym (lookup_find q f.between))

  -- and lets no process take a signal: the child's mailbox is empty
  pub fork_none : NoneTakes ps → NoneTakes qs
  fork_none none q = ap (λ o. option_map_or taking o false) (there_after_fork q) ∙ by_key (at_key q child.0)
    where
      taking : Process → Bool
      taking p = can_take (state_of p)

      s : Splits ps f.between pid child f.made
      s = f.splits

      before : can_take (state_of s.was) ≡ false
      before = sym (takes_there ps pid s.was (s.changes).found) ∙ none pid

      by_key : (b : Bool) → option_map_or taking (cond b (Some f.made) (lookup (at_key q) f.between)) false ≡ false
      by_key true = none_empty (state_of f.made) (ap (λ (t : ProcState). t.mail) s.born)
      by_key false = none_changed ps f.between pid s.was s.now s.changes none (ap can_take s.parent ∙ before) q

  -- every other is as it was
  pub fork_others : SameBut (λ q. at_key pid q || at_key child.0 q) ps qs
  fork_others q other =
      let parts = neither (at_key pid q) (at_key child.0 q) other in
      let s = f.splits in
      there_after_fork q ∙ ap (λ b. cond b (Some f.made) (lookup (at_key q) f.between)) (turned child.0 q parts.1) ∙ others_stay ps f.between pid s.was s.now s.changes q parts.0
    where
      neither : (b c : Bool) → (b || c) ≡ false → (b ≡ false) × (c ≡ false)
      neither true c none = cc
      neither false c none = (refl, none)

      turned : (n m : ℕ) → at_key n m ≡ false → at_key m n ≡ false
      turned n m e = grind (arith, nat_tests)

  -- and each pid fits still
  pub fork_fits : (ts : List (ℕ × List ℕ)) → child ≡ next_child (kernel_of ps ts) (pid_of pid) → PidsFit ps → PidsFit qs
  fork_fits ts is fits q there = by_key (at_key q child.0) refl (subst IsSome (there_after_fork q) there)
    where
      by_key : (b : Bool) → at_key q child.0 ≡ b → IsSome (cond b (Some f.made) (lookup (at_key q) (f.between))) → q + 4 * total_load qs < 2 ^ 32
      by_key true same now =
          let number : q ≡ child.0 = same_number q child.0 same in
          let within = child_within ps ts pid fits (there_to_fork ps pid forks) in
          omega (arith, number, ap (λ (c : Pid). c.0) is, within, fork_lighter)
      by_key false other now =
          let s = f.splits in
          let same : keys ps ≡ keys f.between = sym (ap keys (s.changes).entries ∙ same_keys (at_key pid) ps s.now) in
          omega (arith, fits q (still_there q f.between ps same now), fork_lighter)

-- ---- what the call answers

pub absent_at : (es : List (ℕ × Process)) (k : ℕ) → is_some (lookup (at_key k) es) ≡ false → lookup (at_key k) es ≡ None
absent_at es k none = by_case (lookup (at_key k) es) none
  where
    by_case : (o : Option Process) → is_some o ≡ false → o ≡ None
    by_case None e = refl
    by_case (Some p) e = absurd (true≢false e)

-- there is room as before
pub kept_room : (r : Result (Unit {0}) NoMemory) (ps qs : List (ℕ × Process)) (pid : ℕ) (child : Pid) → forks_at ps pid ≡ true → lookup (at_key child.0) ps ≡ None → OnOk r (ForksAt ps qs pid child) → OnErr r (qs ≡ ps)
    → total_load ps < 2 ^ 64 → total_load qs < 2 ^ 64
kept_room (Ok all) ps qs pid child forks absent ok err room = let less = fork_lighter ps qs pid child forks absent ok in omega (arith, less, room)
kept_room (Err e) ps qs pid child forks absent ok err room = omega (arith, ap total_load err, room)

-- the item is applied, or nothing has changed
pub applies_fork : (r : Result (Unit {0}) NoMemory) (ps qs : List (ℕ × Process)) (ts : List (ℕ × List ℕ)) (pid : ℕ) (child : Pid) → forks_at ps pid ≡ true → lookup (at_key child.0) ps ≡ None → OnOk r (ForksAt ps qs pid child) → OnErr r (qs ≡ ps)
    → Applies (Fork (pid_of pid) child) (fork_answer r) (kernel_of ps ts) (kernel_of qs ts)
applies_fork (Ok all) ps qs ts pid child forks absent ok err = forked ps qs pid child forks absent ok ts
applies_fork (Err e) ps qs ts pid child forks absent ok err = (no_steps (pid_of pid) (kernel_of ps ts) ∙ ap (λ es. Some (kernel_of es ts)) (sym err), refl)
