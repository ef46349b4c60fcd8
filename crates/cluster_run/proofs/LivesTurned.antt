-- A cluster begins its lives and has its turn.
use Rattle.std.proofs.Common.{◌≡◌, ℕ, ◌≤◌, ◌≢◌, ◌⊎◌, refl, sym, ◌∙◌, ap, subst, arith, List, [], length, take, drop, ◌-◌, ◌&&◌, false, None, inl, inr}
use Rattle.std.specs.Prelude.{⊤, nat_lt}
use Rattle.std.specs.List.{list_any}
use Rattle.std.proofs.lemmas.List.{take-append-le}
use Rattle.t32_base.specs.declared.process.ClusterNo.{ClusterNo}
use Rattle.cert_sched.specs.Losses.{was_lost_in}
use Rattle.cluster_core.specs.View.{ClusterView, load}
use Rattle.bus_order.specs.Script.{off_at}
use Rattle.bus_order.specs.View.{BusView}
use Rattle.cluster_turns.specs.Along.{IsAlong, IsDue, IsFailed, IsSound, StaysAlive}
use Rattle.cluster_turns.specs.Offers.{HasGrown}
use Rattle.cluster_turns.specs.Progress.{IsAtMost, remaining_of}
use Rattle.cluster_turns.specs.Turns.{StandsAs}
use Rattle.cluster_turns.specs.declared.turn.Turn.{Turn}
use Rattle.cluster_turns.specs.declared.turn.Turn.TheVariants.{Moved, Waits, Rests, Over, Lost}
use Rattle.cluster_turns.specs.Lives.{begin_of_life, begins_at}
use Rattle.cluster_run.specs.declared.life.Life.{Life}
use Rattle.cluster_run.specs.Begun.{IsOrBegan}
use Rattle.cluster_run.specs.Lived.{is_life}
use Rattle.cluster_run.specs.Past.{ArePastOf}
use Rattle.cluster_run.proofs.Begins.{begin_after}
use Rattle.cluster_run.proofs.OverLives.{each_longer, its_longer}

-- no more is left to it then
pub begun_most : (b : BusView) (old new : ClusterView) → IsOrBegan b old new → IsAtMost (remaining_of b old) (remaining_of b new)
begun_most b old new (inl is) = inr (refl, refl, ap (λ (v : ClusterView). length b.log - v.cursor) is, ap load is)
begun_most b old new (inr (along, queue, later)) = let within = (along.beside).within in inl (inr (refl, inr (inl (refl, omega (arith, later, within)))))

-- what it is before its turn
pub begun_due : (b : BusView) (c : ClusterView) → IsSound b → IsAlong b c ⊎ IsFailed b c → IsDue ⊤ 0 b c
begun_due b c sound (inl along) = inl (record { shows = tt; from_there = omega arith; sound = sound; along = along })
begun_due b c sound (inr failed) = inr (sound, failed)

-- it has nothing to send where it had nothing
pub begun_empty : (b : BusView) (old new : ClusterView) → IsOrBegan b old new → was_lost_in (drop new.cursor b.log) new.number ≡ false → (was_lost_in (drop old.cursor b.log) old.number ≡ false → old.queue ≡ []) → new.queue ≡ []
begun_empty b old new (inl is) alive empty = ap (λ (v : ClusterView). v.queue) is ∙ empty (ap (λ (v : ClusterView). was_lost_in (drop v.cursor b.log) v.number) (sym is) ∙ alive)
begun_empty b old new (inr (along, queue, later)) alive empty = queue

-- it is in the same life after it, so the lives that are over are those that were
pub past_turned : (b after : BusView) (past : List Life) (c new : ClusterView) → IsSound after → HasGrown b after → new.number ≡ c.number → c.cursor ≤ length b.log → new.cursor ≤ length after.log → off_at (take c.cursor b.log) c.number ≡ None
    → StaysAlive c.number after.log c.cursor new.cursor → ArePastOf b past c → ArePastOf after past new
past_turned b after past c new sound grown same within inside on stays are = record {
  each = each_longer b after grown.more past grown.system grown.script grown.log are.each;
  distinct = are.distinct;
  its = λ from.
      let there = its_longer b.log grown.more after.log past c grown.log within are.its from in
      let begin = begin_after after.system after.log c.number sound.legal c.cursor new.cursor stays inside still in
      let Its : ClusterNo → Type 0 = λ k. list_any (is_life k from) past ≡ (begins_at after.log k from && nat_lt from (begin_of_life after.log k new.cursor)) in
      subst Its (sym same) (there ∙ ap (λ m. begins_at after.log c.number from && nat_lt from m) (sym begin));
}
  where
    still : off_at (take c.cursor after.log) c.number ≡ None
    still = ap (λ l. off_at l c.number) (ap (take c.cursor) grown.log ∙ take-append-le c.cursor b.log grown.more within) ∙ on
