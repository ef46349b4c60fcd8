-- The seats of a new lock, one by one.
use Rattle.std.proofs.Common.{◌≡◌, ℕ, suc, ◌+◌, ◌-◌, ◌<◌, List, [], ◌∷◌, ◌++◌, length, get_or, Option, ap, sym, subst, ◌∙◌, arith, length-append}
use Rattle.std.proofs.Math.ListN.{get_or-append}
use Rattle.std.proofs.Math.Seq.{get_or-append_seam}
use mathlib.Core.Logic.{dite}
use native.Mathlib.Decide.{ℕ_discrete}
use Rattle.bus_lock.specs.declared.view.View.{View}
use Rattle.bus_lock.specs.declared.value.LogValue.{Ghosts}
use Rattle.bus_lock.specs.declared.seat.LogSeat.{LogSeat}
use Rattle.bus_lock.specs.declared.lock.LogLock.{LogLock}
use Rattle.bus_lock.specs.Lists.{numbers_from}
use Rattle.bus_lock.specs.Views.{new_view, next_of, first_of}
use Rattle.bus_lock.specs.Seats.{view_of, IsOf, IsFresh, AllFresh}

module _ {Entry Origin : Type 0} (v : View Entry Origin) (i seats : ℕ) (origin : Option Origin) (is : v ≡ new_view i (seats - i) origin) where
  pub two_left : i + 1 < seats → (n : ℕ) × (v.numbers ≡ numbers_from v.name (suc (suc n)))
  two_left l =
      let n : ℕ = (seats - i) - 2 in
      let e : seats - i ≡ suc (suc n) = omega arith in
      (n, ap (λ (u : View Entry Origin). u.numbers) is ∙ (ap (numbers_from i) e ∙ ap (λ (k : ℕ). numbers_from k (suc (suc n))) (sym (ap (λ (u : View Entry Origin). u.name) is))))

  pub next_is : i + 1 < seats → next_of v ≡ new_view (i + 1) (seats - (i + 1)) origin
  next_is l =
      let n : ℕ = seats - (i + 1) in
      let e : seats - i ≡ suc n = omega arith in
      let up : suc i ≡ i + 1 = omega arith in
      ap next_of (is ∙ ap (λ (k : ℕ). new_view {Entry = Entry} i k origin) e) ∙ ap (λ (k : ℕ). new_view {Entry = Entry} k n origin) up

module _ {Value Entry Origin : Type 0} {g : Ghosts Value Entry Origin} (l : LogLock Value Entry Origin) (origin : Option Origin) where
  made_fresh : (s : LogSeat Value Entry Origin g) (k : ℕ) → IsOf l s → view_of s ≡ new_view k 1 origin → IsFresh l origin k s
  made_fresh s k of e = record {
    of = of;
    named = ap (λ (u : View Entry Origin). u.name) e;
    alone = ap (λ (u : View Entry Origin). u.numbers) e;
    out = ap (λ (u : View Entry Origin). u.inside) e;
    unseen = ap (λ (u : View Entry Origin). u.seen) e;
    none_own = ap (λ (u : View Entry Origin). u.own) e;
    none_added = ap (λ (u : View Entry Origin). u.added) e;
    untold = ap (λ (u : View Entry Origin). u.told) e;
    from = ap (λ (u : View Entry Origin). u.origin) e;
  }

  pub given_fresh : (s : LogSeat Value Entry Origin g) (v : View Entry Origin) (k n : ℕ) → IsOf l s → view_of s ≡ first_of v → v ≡ new_view k n origin → IsFresh l origin k s
  given_fresh s v k n of e is = made_fresh s k of (e ∙ ap first_of is)

  pub last_fresh : (s : LogSeat Value Entry Origin g) (k seats : ℕ) → IsOf l s → view_of s ≡ new_view k (seats - k) origin → k + 1 ≡ seats → IsFresh l origin k s
  last_fresh s k seats of e last = made_fresh s k of (e ∙ (let one : seats - k ≡ 1 = omega arith in ap (λ (n : ℕ). new_view {Entry = Entry} k n origin) one))

  pub fresh_end : (xs : List (LogSeat Value Entry Origin g)) (s : LogSeat Value Entry Origin g) (k : ℕ) → AllFresh l origin xs → length xs ≡ k → IsFresh l origin k s → AllFresh l origin (xs ++ s ∷ [])
  fresh_end xs s k all long new j d inside = dite (ℕ_discrete j (length xs))
      (λ (e : j ≡ length xs). subst (λ (x : ℕ × LogSeat Value Entry Origin g). IsFresh l origin x.0 x.1) (λ i. (sym (e ∙ long) i, sym (ap (λ (n : ℕ). get_or (xs ++ s ∷ []) n d) e ∙ get_or-append_seam xs s [] d) i)) new)
      (λ ne. let near : j < length xs = omega (arith, inside, length-append xs (s ∷ [])) in subst (λ (x : LogSeat Value Entry Origin g). IsFresh l origin j x) (sym (get_or-append xs (s ∷ []) d j near)) (all j d near))
