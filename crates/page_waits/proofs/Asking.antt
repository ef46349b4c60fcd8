-- The lowest page that was not asked for.
use Rattle.std.proofs.Common.{◌≡◌, ◌<◌, ◌≤◌, Bool, true, false, cond, length, Some, None, refl, ap}
use Rattle.std.specs.Prelude.{IsSome, is_some, nat_lt}
use Rattle.std.proofs.lemmas.Bool.{le-ltb, lt-ltb, ltb-true}
use Rattle.page_waits.specs.Waiting.{WaitingState, next_page}

pub one_left : (w : WaitingState) → w.asked < length w.come → next_page w ≡ Some w.asked
one_left w less = ap (λ b. cond b (Some w.asked) None) (lt-ltb w.asked (length w.come) less)

pub none_left : (w : WaitingState) → length w.come ≤ w.asked → next_page w ≡ None
none_left w all = ap (λ b. cond b (Some w.asked) None) (le-ltb w.asked (length w.come) all)

pub one_is_left : (w : WaitingState) → IsSome (next_page w) → w.asked < length w.come
one_is_left w some = by_test (nat_lt w.asked (length w.come)) refl some
  where
    by_test : (b : Bool) → nat_lt w.asked (length w.come) ≡ b → is_some (cond b (Some w.asked) None) ≡ true → w.asked < length w.come
    by_test true less some = ltb-true w.asked (length w.come) less
    by_test false all some = cc
