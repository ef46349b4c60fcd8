-- A cluster that was lost behind its cursor, and lives: how its next lives begin.
use Rattle.std.specs.Prelude.{ℕ, ◌≡◌, ◌⊎◌, ◌+◌, ◌-◌, ◌≤◌, ◌<◌, true, false, List, [], ◌∷◌, ◌++◌, take, drop, slice_get, Some}
use Rattle.t32_base.specs.declared.process.Pid.{Pid}
use Rattle.bus_msg.specs.Places.{Places}
use Rattle.bus_msg.specs.declared.entry.Entry.{Entry}
use Rattle.bus_msg.specs.PlacedAfter.{what}
use Rattle.cert_sched.specs.Losses.{was_lost_in}
use Rattle.cluster_core.specs.Known.{IsKnown}
use Rattle.cluster_core.specs.View.{ClusterView}
use Rattle.bus_order.specs.View.{BusView}
use Rattle.script_laws.specs.Off.{comes_back, has_returned_in}
use Rattle.cluster_turns.specs.Along.{IsAlong, IsSame}
use Rattle.cluster_turns.specs.Lives.{begin_of_life, begins_at}
use Rattle.cluster_run.specs.declared.life.Life.{Life}
use Rattle.cluster_run.specs.Past.{ArePastOf, IsPast, IsStillPast}

-- the entry at this place brings the cluster back, and none between its cursor and that does
pub record IsNextReturn (log : List Entry) (c : ClusterView) (at : ℕ) : Type 0 where
  pub entry : Entry
  pub later : c.cursor ≤ at
  pub there : slice_get log at ≡ Some entry
  pub back : comes_back c.number (what entry) ≡ true
  pub first : has_returned_in (take (at - c.cursor) (drop c.cursor log)) c.number ≡ false

-- directly behind its next return in the log these are the placement and the children that never synchronised
pub record KnowsThere (b : BusView) (c : ClusterView) (places : Places) (family : List (Pid × Pid)) (cursor : ℕ) : Type 0 where
  pub at : ℕ
  pub return : IsNextReturn b.log c at
  pub place : cursor ≡ at + 1
  pub known : IsKnown b.system (take cursor b.log) places family

-- the same cluster goes on directly behind its next return
pub record ComesBackAt (b : BusView) (c new : ClusterView) : Type 0 where
  pub at : ℕ
  pub return : IsNextReturn b.log c at
  pub place : new.cursor ≡ at + 1
  pub same : IsSame c new
  pub along : IsAlong b new
  pub queue : new.queue ≡ []

-- The life in which the cluster was is over and is kept, and it goes on in the next one, with nothing to send.
pub record BeginsLife (b : BusView) (old new : ClusterView) (before after : List Life) : Type 0 where
  pub same : IsSame old new
  pub along : IsAlong b new
  pub queue : new.queue ≡ []
  pub later : old.cursor < new.cursor
  pub life : Life
  pub kept : after ≡ before ++ life ∷ []
  pub past : IsPast b life
  pub cluster : life.cluster ≡ old.number
  pub from : life.from ≡ begin_of_life b.log old.number old.cursor
  pub before_it : life.from < new.cursor
  pub begins : begins_at b.log old.number new.cursor ≡ true
  pub none_between : (n : ℕ) → life.from < n → n < new.cursor → begins_at b.log old.number n ≡ false

-- it is as it was; or it goes on in a later life, with nothing to send
abbrev pub IsOrBegan : BusView → ClusterView → ClusterView → Type 0
IsOrBegan b old new = (new ≡ old) ⊎ (IsAlong b new × (new.queue ≡ []) × (old.cursor < new.cursor))

-- all lives that it had before are over and kept, and it was not lost in the one in which it is now
pub record BeginsLives (b : BusView) (old new : ClusterView) (before after : List Life) : Type 0 where
  pub same : IsSame old new
  pub began : IsOrBegan b old new
  pub alive : was_lost_in (drop new.cursor b.log) new.number ≡ false
  pub past : ArePastOf b before old → ArePastOf b after new
  pub others : IsStillPast old.number before after
