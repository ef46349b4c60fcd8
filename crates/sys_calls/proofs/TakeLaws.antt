-- What the take of a signal leaves of a process, and what it changes.
use Rattle.std.proofs.Common.{◌≡◌, ℕ, ◌≤◌, refl, sym, ap, arith, Bool, true, false, ◌&&◌, true≢false, eqb, Option, None, Some, is_some, option_and_then}
use Rattle.std.specs.Prelude.{unwrap_or}
use Rattle.t32_base.specs.declared.process.Status.{Status}
use Rattle.t32_base.specs.declared.process.Status.TheVariants.{Live, Closing, Ended}
use Rattle.t32_base.specs.Small.{SmallState, stages}
use Rattle.proc_state.specs.Mail.{first_signal, signal_letter, signal_of}
use Rattle.proc_state.specs.State.{ProcState, can_take, has_ended, is_live}
use Rattle.sys_calls.specs.Small.{weight, weight_with_children}
use Rattle.sys_calls.specs.Take.{struck, taken}
use Rattle.t32_base.specs.declared.letter.Arrived.{Arrived}

-- a signal leaves these of a process, and as many steps at most
pub record Strikes (s t : SmallState) : Type 0 where
  pub pid : t.pid ≡ s.pid
  pub ends : t.ends ≡ s.ends
  pub left : t.left ≡ s.left
  pub steps : t.steps ≡ s.steps
  pub births : t.births ≡ s.births
  pub pages : t.pages ≡ s.pages
  pub open_still : has_ended t.status ≡ false
  pub weight_is : weight t ≤ weight s
  pub weight_children : weight_with_children t ≤ weight_with_children s

struck_by : (b : Bool) (g : ℕ) (s : SmallState) → s.status ≡ Live → Strikes s (struck b g s)
struck_by true g s live = record {
  pid = refl;
  ends = refl;
  left = refl;
  steps = refl;
  births = refl;
  pages = refl;
  open_still = refl;
  weight_is = omega (arith, ap stages live);
  weight_children = omega (arith, ap stages live);
}
struck_by false g s live = record {
  pid = refl;
  ends = refl;
  left = refl;
  steps = refl;
  births = refl;
  pages = refl;
  open_still = ap has_ended live;
  weight_is = omega arith;
  weight_children = omega arith;
}

both_first : (a b : Bool) → (a && b) ≡ true → a ≡ true
both_first true b h = refl
both_first false b h = absurd (true≢false (sym h))

live_is : (status : Status) → is_live status ≡ true → status ≡ Live
live_is Live h = refl
live_is (Closing end) h = absurd (true≢false (sym h))
live_is (Ended end) h = absurd (true≢false (sym h))

-- a process that can take a signal is live
pub taker_lives : (s : ProcState) → can_take s ≡ true → (s.small).status ≡ Live
taker_lives s can = live_is (s.small).status (both_first _ _ (both_first _ _ can))

pub taken_strikes : (s : ProcState) → can_take s ≡ true → Strikes s.small (taken s).small
taken_strikes s can = struck_by (eqb (s.small).handler 0) (unwrap_or (first_signal s.mail) 0) s.small (taker_lives s can)

-- the letter of the signal that it takes
pub signal_there : (s : ProcState) → can_take s ≡ true → (a : Arrived) × (signal_letter s.mail ≡ Some a)
signal_there s can = by_letter (signal_letter s.mail) refl (both_second _ _ can)
  where
    both_second : (a b : Bool) → (a && b) ≡ true → b ≡ true
    both_second true b h = h
    both_second false b h = absurd (true≢false (sym h))

    by_letter : (o : Option Arrived) → signal_letter s.mail ≡ o → is_some (option_and_then (λ (a : Arrived). signal_of (a.letter).body) o) ≡ true → (a : Arrived) × (signal_letter s.mail ≡ Some a)
    by_letter None is h = absurd (true≢false (sym h))
    by_letter (Some a) is h = (a, is)
