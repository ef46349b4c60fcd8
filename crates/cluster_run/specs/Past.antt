-- The lives of a run that were over before it ended: each was lost, and its cluster has come back since.
use Rattle.std.specs.Prelude.{ℕ, ◌≡◌, true, false, ◌&&◌, nat_lt, All, List, drop, slice_get, Some}
use Rattle.std.specs.List.{list_any}
use Rattle.t32_base.specs.declared.process.ClusterNo.{ClusterNo}
use Rattle.bus_msg.specs.declared.entry.Entry.{Entry}
use Rattle.bus_msg.specs.Places.{same_cluster}
use Rattle.cert_sched.specs.Losses.{was_lost_in}
use Rattle.cluster_core.specs.View.{ClusterView}
use Rattle.cluster_core.specs.Follows.{Follows}
use Rattle.bus_order.specs.View.{BusView}
use Rattle.cluster_turns.specs.Lives.{begin_of_life, begins_at}
use Rattle.cluster_run.specs.declared.life.Life.{Life}
use Rattle.cluster_run.specs.Lived.{LifeHolds, are_distinct, is_life}

-- a life that followed the log, and was lost
pub record IsPast (b : BusView) (l : Life) : Type 0 where
  pub holds : LifeHolds Follows b.system b.script b.log l
  pub lost : was_lost_in (drop l.from b.log) l.cluster ≡ true

-- of a cluster just those lives are there that begin before the one that it is in
abbrev pub HasItsPast : List Entry → List Life → ClusterView → Type 0
HasItsPast log past c = (from : ℕ) → list_any (is_life c.number from) past ≡ (begins_at log c.number from && nat_lt from (begin_of_life log c.number c.cursor))

-- each is such a life, and there once, and those of a cluster are there
pub record ArePastOf (b : BusView) (past : List Life) (c : ClusterView) : Type 0 where
  pub each : All (IsPast b) past
  pub distinct : are_distinct past ≡ true
  pub its : HasItsPast b.log past c

-- and so are those of all clusters
pub record AllPast (b : BusView) (past : List Life) (cs : List ClusterView) : Type 0 where
  pub each : All (IsPast b) past
  pub distinct : are_distinct past ≡ true
  pub its : (n : ℕ) (c : ClusterView) → slice_get cs n ≡ Some c → HasItsPast b.log past c

-- a cluster is in the life in which it was
abbrev pub InSameLife : List Entry → ClusterView → ClusterView → Type 0
InSameLife log old new = (new.number ≡ old.number) × (begin_of_life log new.number new.cursor ≡ begin_of_life log old.number old.cursor)

-- and so is each of these
abbrev pub InSameLives : List Entry → List ClusterView → List ClusterView → Type 0
InSameLives log old new = (n : ℕ) (c : ClusterView) → slice_get new n ≡ Some c → (d : ClusterView) × (slice_get old n ≡ Some d) × InSameLife log d c

-- what is there of the lives of any other cluster stays
abbrev pub IsStillPast : ClusterNo → List Life → List Life → Type 0
IsStillPast k before after = (j : ClusterNo) (from : ℕ) → same_cluster j k ≡ false → list_any (is_life j from) after ≡ list_any (is_life j from) before
