-- A cluster that was lost in its turn and has come back goes on in the same turn.
use Rattle.std.proofs.Common.{◌≡◌, ◌<◌, ◌⊎◌, refl, sym, ◌∙◌, ap, subst, arith, [], drop, Bool, true, false, inl, inr, true≢false}
use Rattle.std.specs.Prelude.{⊤}
use Rattle.t32_base.specs.declared.process.ClusterNo.{ClusterNo}
use Rattle.cert_sched.specs.Losses.{was_lost_in}
use Rattle.cluster_core.specs.View.{ClusterView}
use Rattle.bus_order.specs.View.{BusView}
use Rattle.cluster_turns.specs.Along.{HasTaken, IsAlong, IsFailed, IsMember, IsSame, IsStopped, TakesIn}
use Rattle.cluster_turns.specs.Offers.{Adds}
use Rattle.cluster_turns.specs.Progress.{Falls, IsOver, left_of_posts, remaining_of}
use Rattle.cluster_turns.specs.Turns.{GoesOwn, HasSpent, LosesOwn, TurnsOwn}
use Rattle.cluster_turns.proofs.Offering.{adds_none}
use Rattle.cluster_turns.proofs.Owning.{adds_more, gone_turn, taken_most, turn_then}
use Rattle.cluster_turns.proofs.Progressing.{falls_then, then_falls}
use Rattle.cluster_run.specs.AtOnce.{GoesFurther, GoesOnAtOnce}
use Rattle.cluster_run.specs.Begun.{IsOrBegan}

-- a life began, where it was lost in the one before
pub began_later : (b : BusView) (c v : ClusterView) → IsOrBegan b c v → was_lost_in (drop c.cursor b.log) c.number ≡ true → was_lost_in (drop v.cursor b.log) v.number ≡ false → IsAlong b v × (v.queue ≡ []) × (c.cursor < v.cursor)
began_later b c v (inl is) lost alive = absurd (true≢false (sym lost ∙ ap (λ (x : ClusterView). was_lost_in (drop x.cursor b.log) x.number) (sym is) ∙ alive))
began_later b c v (inr later) lost alive = later

-- less is left to it then
pub began_falls : (b : BusView) (c v : ClusterView) → IsAlong b v → c.cursor < v.cursor → Falls (remaining_of b c) (remaining_of b v)
began_falls b c v along later = let within = (along.beside).within in inr (refl, inr (inl (refl, omega (arith, later, within))))

module _ (b after : BusView) (c v new : ClusterView) (goes : GoesOwn b) (same : IsSame c v) (falls : Falls (remaining_of b c) (remaining_of b v)) where
  -- it was lost again as it took in what is new
  pub lost_again : new.number ≡ v.number → LosesOwn v.number new.cursor b after → GoesFurther b after c new
  lost_again number loses = record {
    goes_on = goes;
    turns = turn_then b after c v new same.number (inl falls) (gone_turn b after v new number loses);
    falls = inl loses.fewer;
  }

  -- it took in what is new
  pub took_more : after ≡ b → TakesIn b v new → v.queue ≡ [] → GoesFurther b after c new
  took_more unchanged takes empty = subst (λ (x : BusView). GoesFurther b x c new) (sym unchanged) (record {
    goes_on = goes;
    turns = record {
      owned = goes.0;
      adds = adds_none c.number b;
      empty = λ goes_on lives. takes.queue empty;
      spends = inr (inr (refl, inr refl));
      lasts = inr (inl further);
      gets_on = inl further;
    };
    falls = further;
  })
    where
      further : Falls (remaining_of b c) (remaining_of b new)
      further = falls_then (remaining_of b c) (remaining_of b v) (remaining_of b new) falls (taken_most b v new takes)

module _ (b mid after : BusView) (c first new : ClusterView) (number : first.number ≡ c.number) (one : TurnsOwn b mid c first) where
  module _ (more : GoesFurther mid after first new) where
    open_there : IsOver mid → ⊥
    open_there over = true≢false (sym over ∙ (more.goes_on).1)

    falls_more : Falls (remaining_of b c) (remaining_of after new)
    falls_more = elim one.lasts [ inl over ↦ absurd (open_there over) | inr most ↦ then_falls (remaining_of b c) (remaining_of mid first) (remaining_of after new) most more.falls ]

    later_posts : after.log ≡ mid.log → left_of_posts after.system after.log ≡ left_of_posts mid.system mid.log
    later_posts is = λ i. left_of_posts (((more.turns).adds).system i) (is i)

    before_posts : mid.log ≡ b.log → left_of_posts mid.system mid.log ≡ left_of_posts b.system b.log
    before_posts is = λ i. left_of_posts ((one.adds).system i) (is i)

    posts_both : (left_of_posts mid.system mid.log < left_of_posts b.system b.log) ⊎ (mid.log ≡ b.log) → (left_of_posts after.system after.log < left_of_posts mid.system mid.log) ⊎ (after.log ≡ mid.log)
        → (left_of_posts after.system after.log < left_of_posts b.system b.log) ⊎ (after.log ≡ b.log)
    posts_both (inl x) (inl y) = inl (omega (arith, x, y))
    posts_both (inl x) (inr y) = inl (omega (arith, x, later_posts y))
    posts_both (inr x) (inl y) = inl (omega (arith, before_posts x, y))
    posts_both (inr x) (inr y) = inr (y ∙ x)

    spends_both : HasSpent b mid → HasSpent mid after → HasSpent b after
    spends_both (inl over) two = absurd (open_there over)
    spends_both (inr one) (inl over) = inl over
    spends_both (inr (inl fewer)) (inr (inl less)) = inr (inl (omega (arith, fewer, less)))
    spends_both (inr (inl fewer)) (inr (inr same)) = inr (inl (omega (arith, fewer, same.0)))
    spends_both (inr (inr same)) (inr (inl less)) = inr (inl (omega (arith, same.0, less)))
    spends_both (inr (inr same)) (inr (inr then)) = inr (inr (then.0 ∙ same.0, posts_both same.1 then.1))

    turns_further : TurnsOwn b after c new
    turns_further = record {
      owned = (more.turns).owned;
      adds = adds_more c.number b mid after one.adds (subst (λ k. Adds k mid after) number (more.turns).adds);
      empty = (more.turns).empty;
      spends = spends_both one.spends (more.turns).spends;
      lasts = inr (inl falls_more);
      gets_on = inl falls_more;
    }

  -- the turn, and what it did at once after that
  pub turns_at_once : GoesOnAtOnce mid after first new → TurnsOwn b after c new
  turns_at_once (inl same) = subst (λ (x : BusView). TurnsOwn b x c new) (sym same.0) (subst (λ (v : ClusterView). TurnsOwn b mid c v) (sym same.1) one)
  turns_at_once (inr more) = turns_further more

-- ---- what is so of it then

-- on a bus that goes on a cluster that was lost behind its cursor began a life, and took in what is new or was lost again in that
pub record BackAtOnce (b after : BusView) (c v new : ClusterView) (lost : Bool) : Type 0 where
  pub goes : GoesOwn b
  pub same : IsSame c v
  pub later : IsAlong b v × (v.queue ≡ []) × (c.cursor < v.cursor)
  pub alive : was_lost_in (drop v.cursor b.log) v.number ≡ false
  pub number : new.number ≡ v.number
  pub takes : lost ≡ false → HasTaken ⊤ 0 after v new
  pub stops : lost ≡ true → IsStopped after new
  pub kept : lost ≡ false → after ≡ b
  pub loses : lost ≡ true → LosesOwn v.number new.cursor b after

module _ (b after : BusView) (c v new : ClusterView) where
  pub further : (lost : Bool) → BackAtOnce b after c v new lost → GoesFurther b after c new
  further true back = lost_again b after c v new back.goes back.same (began_falls b c v (back.later).0 (back.later).2) back.number (back.loses refl)
  further false back =
      took_more b after c v new back.goes back.same (began_falls b c v (back.later).0 (back.later).2) (back.kept refl) (subst (λ x. TakesIn x v new) (back.kept refl) (back.takes refl).taken) (back.later).1

  pub back_there : (lost : Bool) → BackAtOnce b after c v new lost → IsAlong after new ⊎ IsStopped after new ⊎ IsFailed after new
  back_there true back = inr (inl (back.stops refl))
  back_there false back = inl ((back.takes refl).shown).along

  pub back_member : (lost : Bool) → BackAtOnce b after c v new lost → IsMember after c.number.0 new
  back_member lost back = record {
    number = ap (λ (k : ClusterNo). k.0) (back.number ∙ (back.same).number);
    along = back_there lost back;
    empty = ((further lost back).turns).empty;
  }

  pub back_moving : (lost : Bool) → BackAtOnce b after c v new lost → lost ≡ false → IsAlong after new ⊎ IsFailed after new
  back_moving lost back going = inl ((back.takes going).shown).along
