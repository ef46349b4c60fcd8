-- The next life of a cluster that was lost behind its cursor and lives.
use Rattle.std.proofs.Common.{◌≡◌, ℕ, zero, suc, ◌+◌, ◌-◌, ◌≤◌, ◌<◌, ◌⊎◌, refl, sym, ◌∙◌, ap, subst, arith, List, [], ◌∷◌, ◌++◌, length, take, drop, Bool, false, true, ◌||◌, Some, None, slice_get, add-one, inl, inr}
use Rattle.std.specs.Option.{option_map_or}
use Rattle.std.proofs.lemmas.Bool.{cases_lt}
use Rattle.std.proofs.lemmas.List.Folds.{list_any-append}
use Rattle.std.proofs.lemmas.Option.{slice_get_cases, slice_get_within}
use Rattle.t32_base.specs.declared.process.ClusterNo.{ClusterNo}
use Rattle.t32_base.specs.declared.process.Pid.{Pid}
use Rattle.bus_msg.specs.Places.{Places}
use Rattle.bus_msg.specs.declared.entry.Entry.{Entry}
use Rattle.bus_msg.specs.PlacedAfter.{what}
use Rattle.cert_sched.specs.Legal.{MayStand}
use Rattle.cert_sched.specs.Losses.{was_lost_in}
use Rattle.cert_sched.specs.Rules.{is_over}
use Rattle.cluster_core.specs.Follows.{IsOpen}
use Rattle.cluster_core.specs.Known.{IsKnown, KnowsNext}
use Rattle.cluster_core.specs.Returned.{returned}
use Rattle.cluster_core.specs.View.{ClusterView}
use Rattle.bus_order.specs.Script.{off_at}
use Rattle.bus_order.specs.View.{BusView}
use Rattle.bus_order.proofs.LogParts.{take_one}
use Rattle.script_laws.specs.Off.{comes_back, has_returned_in}
use Rattle.cluster_turns.specs.Along.{IsAlong, IsFailed, IsSame, IsSound, IsStopped, StaysAlive, TakesIn}
use Rattle.cluster_turns.specs.Gone.{IsBeforeStep}
use Rattle.cluster_turns.proofs.CutOff.{cut_lost}
use Rattle.cluster_turns.proofs.Quiet.{before_quiet}
use Rattle.cluster_turns.proofs.StepLosses.{lost_gone}
use Rattle.cluster_run.proofs.AtTheEnd.{cut_stopped}
use Rattle.cluster_turns.specs.Lives.{begin_of_life, begins_at}
use Rattle.cluster_run.specs.declared.life.Life.{Life}
use Rattle.cluster_run.specs.Begun.{BeginsLife, ComesBackAt, IsOrBegan, KnowsThere}
use Rattle.cluster_run.specs.Left.{life_in}
use Rattle.cluster_run.specs.Past.{ArePastOf, IsPast, IsStillPast}
use Rattle.cluster_run.proofs.Begins.{begin_after, begin_last, begin_low}
use Rattle.cluster_run.proofs.OverLives.{begun_others, begun_past}
use Rattle.cluster_run.proofs.PastLives.{gone_past, left_within}
use Rattle.cluster_run.proofs.Returning.{FollowReturns, back_along, none_there, open_part, return_begins, take_more_by}

-- ---- what it knows

-- what is known of the log up to an entry may be carried on over that
pub knows_next : (b : BusView) (sound : IsSound b) (goes_on : is_over b.system b.log ≡ false) (n : ℕ) (e : Entry) (places after : Places) (family births : List (Pid × Pid))
    → slice_get b.log n ≡ Some e → IsKnown b.system (take n b.log) places family → KnowsNext e places family after births → IsKnown b.system (take (n + 1) b.log) after births
knows_next b sound goes_on n e places after family births at known knows =
    let within = slice_get_within b.log n e at in
    let next : take (n + 1) b.log ≡ take n b.log ++ e ∷ [] = ap (λ m. take m b.log) (add-one n) ∙ take_one b.log n e at in
    subst (λ l. IsKnown b.system l after births) (sym next)
    (knows b.system (take n b.log) sound.valid (open_part b sound goes_on n (omega (arith, within))) (subst (IsOpen MayStand b.system) next (open_part b sound goes_on (n + 1) (omega (arith, within)))) known)

-- a place below the length has an entry
pub no_place : (log : List Entry) (n : ℕ) → n < length log → slice_get log n ≡ None → ⊥
no_place log n within none = elim (slice_get_cases log n).1 [
  | inl there ↦ (let both : Some there.0 ≡ None = sym there.2 ∙ none in cc)
  | inr past ↦ omega (arith, past.0, within)
]

-- at its cursor nothing has brought the cluster back
pub none_yet : (log : List Entry) (k : ClusterNo) (n m : ℕ) → m ≡ n → has_returned_in (take (m - n) (drop n log)) k ≡ false
none_yet log k n m same = ap (λ d. has_returned_in (take d (drop n log)) k) (let e : m - n ≡ 0 = omega (arith, same) in e)

-- and none of the entries up to there brings the cluster back
pub none_next : (log : List Entry) (k : ClusterNo) (n m : ℕ) (e : Entry) → n ≤ m → slice_get log m ≡ Some e → has_returned_in (take (m - n) (drop n log)) k ≡ false → comes_back k (what e) ≡ false → has_returned_in (take ((m + 1) - n) (drop n log)) k ≡ false
none_next log k n m e order at none other =
    ap (λ l. has_returned_in l k) (take_more_by log n m e order at) ∙ list_any-append (λ (e : Entry). comes_back k (what e)) (take (m - n) (drop n log)) (e ∷ []) ∙ (λ i. none i || (other i || false))

-- ---- its life is over, and the next begins

module _ (b : BusView) (sound : IsSound b) (goes_on : is_over b.system b.log ≡ false) (old lost new : ClusterView) (l : Life) (before after : List Life) where
  pub next_life : off_at (take old.cursor b.log) old.number ≡ None → IsSame old lost → StaysAlive old.number b.log old.cursor lost.cursor → IsStopped b lost → was_lost_in (drop lost.cursor b.log) lost.number ≡ true → ComesBackAt b lost new
      → l ≡ life_in b.log lost → after ≡ before ++ l ∷ [] → BeginsLife b old new before after
  next_life on same stays stopped was_lost back is kept = record {
    same = record { system = (back.same).system ∙ same.system; number = (back.same).number ∙ same.number };
    along = back.along;
    queue = back.queue;
    later = let order = stays.order in omega (arith, order, later, place);
    life = l;
    kept = kept;
    past = subst (IsPast b) (sym is) (gone_past b lost stopped.gone was_lost);
    cluster = ap (λ (l : Life). l.cluster) is ∙ same.number;
    from = from_is;
    before_it = let low = begin_low b.log lost.number lost.cursor in let here : l.from ≡ begin_of_life b.log lost.number lost.cursor = ap (λ (l : Life). l.from) is in omega (arith, low, here, later, place);
    begins = ap (begins_at b.log old.number) (place ∙ add-one back.at) ∙ ap (λ k. begins_at b.log k (suc back.at)) (sym same.number) ∙ return_begins b sound goes_on lost stopped was_lost back.at back.return;
    none_between = λ n low high. between n low (omega (arith, high, place));
  }
    where
      later : lost.cursor ≤ back.at
      later = (back.return).later

      place : new.cursor ≡ back.at + 1
      place = back.place

      within : lost.cursor ≤ length b.log
      within = left_within b lost (stopped.gone).left

      from_is : l.from ≡ begin_of_life b.log old.number old.cursor
      from_is = ap (λ (l : Life). l.from) is ∙ ap (λ k. begin_of_life b.log k lost.cursor) same.number ∙ begin_after b.system b.log old.number sound.legal old.cursor lost.cursor stays within on

      between : (n : ℕ) → l.from < n → n ≤ back.at → begins_at b.log old.number n ≡ false
      between n low high = elim (cases_lt lost.cursor n) [
        | inl more ↦ ap (λ k. begins_at b.log k n) (sym same.number) ∙ none_at n more high
        | inr less ↦ begin_last b.log old.number lost.cursor n (let here = from_is ∙ sym (begin_after b.system b.log old.number sound.legal old.cursor lost.cursor stays within on) in omega (arith, low, here)) less
      ]
        where
          none_at : (n : ℕ) → lost.cursor < n → n ≤ back.at → begins_at b.log lost.number n ≡ false
          none_at zero more high = absurd (omega (arith, more))
          none_at (suc m) more high = elim (slice_get_cases b.log m).1 [
            | inl there ↦ ap (λ o. option_map_or (λ (e : Entry). comes_back lost.number (what e)) o false) there.2
                ∙ none_there (λ (e : Entry). comes_back lost.number (what e)) b.log lost.cursor (back.at - lost.cursor) m there.0 (back.return).first (omega (arith, more)) (omega (arith, high, later)) there.2
            | inr past ↦ ap (λ o. option_map_or (λ (e : Entry). comes_back lost.number (what e)) o false) past.1
          ]

-- ---- one life after the other

-- how far its lives have begun
pub record HasBegun (b : BusView) (old new : ClusterView) (before after : List Life) : Type 0 where
  pub same : IsSame old new
  pub began : IsOrBegan b old new
  pub past : ArePastOf b before old → ArePastOf b after new
  pub others : IsStillPast old.number before after

pub one_begun : (b : BusView) (old c new : ClusterView) (before mid after : List Life) → HasBegun b old c before mid → BeginsLife b c new mid after → HasBegun b old new before after
one_begun b old c new before mid after so_far begun = record {
  same = record { system = (begun.same).system ∙ (so_far.same).system; number = (begun.same).number ∙ (so_far.same).number };
  began = inr (begun.along, begun.queue, by_began so_far.began);
  past = λ are. begun_past b c new mid after begun (so_far.past are);
  others = λ j from other. subst (λ k. IsStillPast k mid after) (so_far.same).number (begun_others b c new mid after begun) j from other ∙ so_far.others j from other;
}
  where
    by_began : IsOrBegan b old c → old.cursor < new.cursor
    by_began (inl is) = let more = begun.later in let here : c.cursor ≡ old.cursor = ap (λ (v : ClusterView). v.cursor) is in omega (arith, more, here)
    by_began (inr later) = let more = begun.later in let far = later.2 in omega (arith, more, far)

-- where it is then
pub begun_member : (b : BusView) (old new : ClusterView) → IsOrBegan b old new → IsAlong b old ⊎ IsStopped b old ⊎ IsFailed b old → IsAlong b new ⊎ IsStopped b new ⊎ IsFailed b new
begun_member b old new (inl is) three = subst (λ (c : ClusterView). IsAlong b c ⊎ IsStopped b c ⊎ IsFailed b c) (sym is) three
begun_member b old new (inr later) three = inl later.0

-- ---- up to its loss

-- one that took in the entries before its loss, or came to a step that a word names, has stopped
pub taken_stopped : (b : BusView) (old new : ClusterView) (stops : Bool) → IsSound b → was_lost_in (drop old.cursor b.log) old.number ≡ true → was_lost_in (drop new.cursor b.log) new.number ≡ was_lost_in (drop old.cursor b.log) old.number
    → (stops ≡ false → TakesIn b old new) → (stops ≡ true → IsBeforeStep b new) → IsStopped b new
taken_stopped b old new false sound lost same takes before = cut_stopped b new sound (cut_lost new.number b.system b.log new.cursor (same ∙ lost)) (inl (takes refl).along)
taken_stopped b old new true sound lost same takes before =
    let there = before refl in
    record { sound = sound; gone = lost_gone b new there (same ∙ lost); quiet = before_quiet b new there }

-- ---- it comes back

pub comes_back_at : (b : BusView) (sound : IsSound b) (goes_on : is_over b.system b.log ≡ false) (c new : ClusterView) (places : Places) (family : List (Pid × Pid)) (cursor : ℕ) (stopped : IsStopped b c) (lost : was_lost_in (drop c.cursor b.log) c.number ≡ true)
    → (c.number).0 < (b.system).clusters → FollowReturns → KnowsThere b c places family cursor → new ≡ returned c.system c.number places family cursor c.steps → ComesBackAt b c new
comes_back_at b sound goes_on c new places family cursor stopped lost has law knows is = record {
  at = knows.at;
  return = knows.return;
  place = ap (λ (v : ClusterView). v.cursor) is ∙ knows.place;
  same = record { system = ap (λ (v : ClusterView). v.system) is; number = ap (λ (v : ClusterView). v.number) is };
  along = subst (IsAlong b) (sym there) (back_along b sound goes_on c stopped lost knows.at knows.return law places family has (subst (λ n. IsKnown b.system (take n b.log) places family) knows.place knows.known));
  queue = ap (λ (v : ClusterView). v.queue) is;
}
  where
    there : new ≡ returned b.system c.number places family (knows.at + 1) c.steps
    there = is ∙ (λ i. returned (((stopped.gone).left).system i) c.number places family (knows.place i) c.steps)
