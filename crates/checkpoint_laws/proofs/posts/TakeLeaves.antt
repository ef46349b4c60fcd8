-- What the take of a signal, if one is told, leaves of a process.
use Rattle.std.proofs.Common.{◌≡◌, ℕ, refl, ◌∙◌, ap, subst, true, false, Option, Some, None}
use Rattle.std.proofs.lemmas.Bool.{and_parts}
use Rattle.proc_state.specs.State.{ProcState, can_take, has_ended}
use Rattle.sys_calls.proofs.TakeLaws.{taken_strikes, taker_lives}
use Rattle.cert_sched.specs.Kinds.{after_take, took_is}
use Rattle.checkpoint_laws.specs.posts.Cut.{TakesTo}

-- these are the same of both
pub record LeavesSame (s t : ProcState) : Type 0 where
  pub pid : (t.small).pid ≡ (s.small).pid
  pub ends : (t.small).ends ≡ (s.small).ends
  pub left : (t.small).left ≡ (s.small).left
  pub steps : (t.small).steps ≡ (s.small).steps
  pub births : (t.small).births ≡ (s.small).births
  pub pages : (t.small).pages ≡ (s.small).pages
  pub memory : t.memory ≡ s.memory
  pub next : t.next ≡ s.next

pub take_leaves : (took : Option ℕ) (s : ProcState) → took_is took s ≡ true → LeavesSame s (after_take took s)
take_leaves None s can = record { pid = refl; ends = refl; left = refl; steps = refl; births = refl; pages = refl; memory = refl; next = refl }
take_leaves (Some g) s can =
    let kept = taken_strikes s (and_parts (can_take s) _ can).0 in
    record { pid = kept.pid; ends = kept.ends; left = kept.left; steps = kept.steps; births = kept.births; pages = kept.pages; memory = refl; next = refl }

pub takes_leave : (took : Option ℕ) (before s : ProcState) → TakesTo took before s → LeavesSame before s
takes_leave took before s takes = subst (LeavesSame before) takes.after (take_leaves took before takes.can)

-- neither it nor the process after it has ended, where the other has not
pub goes_on_before : (took : Option ℕ) (s : ProcState) → took_is took s ≡ true → has_ended ((after_take took s).small).status ≡ false → has_ended (s.small).status ≡ false
goes_on_before None s can runs = runs
goes_on_before (Some g) s can runs = ap has_ended (taker_lives s (and_parts (can_take s) _ can).0)

pub goes_on_after : (took : Option ℕ) (s : ProcState) → took_is took s ≡ true → has_ended (s.small).status ≡ false → has_ended ((after_take took s).small).status ≡ false
goes_on_after None s can runs = runs
goes_on_after (Some g) s can runs = (taken_strikes s (and_parts (can_take s) _ can).0).open_still

pub runs_before : (took : Option ℕ) (before s : ProcState) → TakesTo took before s → has_ended (s.small).status ≡ false → has_ended (before.small).status ≡ false
runs_before took before s takes runs = goes_on_before took before takes.can (ap (λ (t : ProcState). has_ended (t.small).status) takes.after ∙ runs)
