-- The signal that a process takes when it synchronises: what the take leaves, and that none can be taken after it.
use Rattle.std.proofs.Common.{◌≡◌, ℕ, refl, ap, Bool, true, false, ◌&&◌, cond, eqb, None, is_none, is_some}
use Rattle.std.specs.Prelude.{unwrap_or}
use Rattle.t32_base.specs.Small.{SmallState}
use Rattle.proc_state.specs.declared.process.Process.{Process}
use Rattle.proc_state.specs.Mail.{first_signal}
use Rattle.proc_state.specs.State.{can_take, is_live, state_of}
use Rattle.sys_calls.specs.Take.{struck}
use Rattle.sys_calls.proofs.TakeLaws.{taken_strikes}
use Rattle.sync_point.specs.Batch.{after_take, cut_of, synced, took_by}

-- ---- without a take

pub cut_untaken : (p : Process) → can_take (state_of p) ≡ false → cut_of p ≡ p
cut_untaken p none = ap (λ b. cond b (after_take p) p) none

pub took_none : (p : Process) → can_take (state_of p) ≡ false → took_by p ≡ None
took_none p none = ap (λ b. cond b (first_signal (p.mail).letters) None) none

-- ---- with one or without

-- the process has these as they were
pub record Keeps (p q : Process) : Type 0 where
  pub pid : (q.small).pid ≡ (p.small).pid
  pub ends : (q.small).ends ≡ (p.small).ends
  pub left : (q.small).left ≡ (p.small).left
  pub steps : (q.small).steps ≡ (p.small).steps
  pub births : (q.small).births ≡ (p.small).births
  pub pages : (q.small).pages ≡ (p.small).pages
  pub ram : q.ram ≡ p.ram
  pub next : (q.mail).next ≡ (p.mail).next
  pub since : q.since ≡ p.since

pub cut_keeps : (p : Process) → Keeps p (cut_of p)
cut_keeps p = by_take (can_take (state_of p)) refl
  where
    by_take : (b : Bool) → can_take (state_of p) ≡ b → Keeps p (cond b (after_take p) p)
    by_take true can = let strikes = taken_strikes (state_of p) can in record {
      pid = strikes.pid;
      ends = strikes.ends;
      left = strikes.left;
      steps = strikes.steps;
      births = strikes.births;
      pages = strikes.pages;
      ram = refl;
      next = refl;
      since = refl;
    }
    by_take false none = record { pid = refl; ends = refl; left = refl; steps = refl; births = refl; pages = refl; ram = refl; next = refl; since = refl }

-- ---- after it

never_both : (b c : Bool) → (b && false && c) ≡ false
never_both true c = refl
never_both false c = refl

-- a signal closes the process, or its handler runs
pub struck_takes_none : (b : Bool) (g : ℕ) (s : SmallState) (waits : Bool) → (is_live (struck b g s).status && is_none (struck b g s).frame && waits) ≡ false
struck_takes_none true g s waits = refl
struck_takes_none false g s waits = never_both (is_live s.status) waits

pub synced_takes_none : (p : Process) → can_take (state_of (synced p)) ≡ false
synced_takes_none p = by_take (can_take (state_of p)) refl
  where
    by_take : (b : Bool) → can_take (state_of p) ≡ b → (is_live ((cond b (after_take p) p).small).status && is_none ((cond b (after_take p) p).small).frame && is_some (first_signal ((cond b (after_take p) p).mail).letters)) ≡ false
    by_take true can = struck_takes_none (eqb (p.small).handler 0) (unwrap_or (first_signal (p.mail).letters) 0) p.small (is_some (first_signal ((after_take p).mail).letters))
    by_take false none = none
