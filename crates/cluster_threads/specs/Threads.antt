-- The clusters of a run on threads.
use Rattle.std.specs.Prelude.{ℕ, ◌≡◌, ◌<◌, true, false, List, [], ◌∷◌, ◌++◌, map, length, slice_get, Option, Some, IfSome}
use Rattle.std.specs.List.{flat_map}
use mathlib.Core.List.{IsPrefix}
use Rattle.sys_text.specs.Valid.{is_system}
use Rattle.bus_msg.specs.declared.entry.Entry.{Entry}
use Rattle.cert_sched.specs.Rules.{is_over}
use Rattle.cluster_core.specs.View.{ClusterView}
use Rattle.bus_lock.specs.declared.value.LogValue.{Ghosts}
use Rattle.bus_lock.specs.declared.lock.LogLock.{LogLock}
use Rattle.bus_lock.specs.declared.seat.LogSeat.{LogSeat}
use Rattle.bus_lock.specs.Lists.{numbers_from}
use Rattle.bus_lock.specs.Seats.{IsOf, has_entered, numbers, seat_origin, seen}
use Rattle.bus_order.specs.declared.shared.Origin.{Origin}
use Rattle.bus_order.specs.View.{BusView}
use Rattle.cluster_turns.specs.Along.{AllAlong, IsMember}
use Rattle.cluster_run.specs.declared.life.Life.{Life}
use Rattle.cluster_run.specs.Past.{AllPast, ArePastOf, IsStillPast}
use Rattle.cluster_run.specs.Started.{IsStarted}
use Rattle.cluster_threads.specs.declared.followed.Followed.{Followed}
use Rattle.cluster_threads.specs.Seated.{IsSeatOf, bus_of}

-- a cluster of a valid system, at its start
pub record IsReady (from : Origin) (number : ℕ) (c : ClusterView) : Type 0 where
  pub valid : is_system from.system ≡ true
  pub has : number < (from.system).clusters
  pub started : IsStarted from.system from.script number c

-- clusters at their start, each at the place of its number
abbrev pub AllReady : Origin → List ClusterView → Type 0
AllReady from cs = (n : ℕ) (c : ClusterView) → slice_get cs n ≡ Some c → IsReady from n c

-- the lives that it had before are there, and none of another cluster
pub record HasPast (b : BusView) (f : Followed) : Type 0 where
  pub past : ArePastOf b (f.past).items f.cluster
  pub own : IsStillPast (f.cluster).number [] (f.past).items

-- The cluster with a number, which followed a log until that was over, with the lives of its own that it had before: it stands as it was lost last, or lives.
pub record HasEnded (from : Origin) (number : ℕ) (log : List Entry) (f : Followed) : Type 0 where
  pub over : is_over from.system log ≡ true
  pub member : IsMember (bus_of from log) number f.cluster
  pub past : ArePastOf (bus_of from log) (f.past).items f.cluster
  pub own : IsStillPast (f.cluster).number [] (f.past).items

-- it followed a beginning of this log
pub record EndedWithin (from : Origin) (number : ℕ) (log : List Entry) (f : Followed) : Type 0 where
  pub part : List Entry
  pub begins : IsPrefix part log
  pub ended : HasEnded from number part f

-- so many clusters, each at the place of its number, and each followed a beginning of this log
pub record AllEnded (from : Origin) (count : ℕ) (log : List Entry) (fs : List Followed) : Type 0 where
  pub each : length fs ≡ count
  pub ended : (n : ℕ) (f : Followed) → slice_get fs n ≡ Some f → EndedWithin from n log f

-- the seat holds the numbers of the first so many clusters
pub record HoldsFirst {g : Ghosts BusView Entry Origin} (lock : LogLock BusView Entry Origin) (from : Origin) (count : ℕ) (seat : LogSeat BusView Entry Origin g) : Type 0 where
  pub of : IsOf lock seat
  pub out : has_entered seat ≡ false
  pub all : numbers seat ≡ numbers_from 0 count
  pub origin : seat_origin seat ≡ Some from

-- these clusters, and the one that there is
pub record WithLast (fs : List Followed) (last : Option Followed) (all : List Followed) : Type 0 where
  pub one : Followed
  pub there : last ≡ Some one
  pub all_is : all ≡ fs ++ one ∷ []

-- the seat of one cluster, which followed the log until that was over, or met want of memory
pub record OneEnded {g : Ghosts BusView Entry Origin} (lock : LogLock BusView Entry Origin) (from : Origin) (number : ℕ) (seat : LogSeat BusView Entry Origin g) (followed : Option Followed) : Type 0 where
  pub of : IsOf lock seat
  pub out : has_entered seat ≡ false
  pub alone : numbers seat ≡ number ∷ []
  pub origin : seat_origin seat ≡ Some from
  pub ended : IfSome followed (HasEnded from number (seen seat))

-- the new seat of a cluster at its start
pub record Starts {g : Ghosts BusView Entry Origin} (lock : LogLock BusView Entry Origin) (from : Origin) (seat : LogSeat BusView Entry Origin g) (c : ClusterView) : Type 0 where
  pub seat_is : IsSeatOf lock c.number seat
  pub origin : seat_origin seat ≡ Some from
  pub unseen : seen seat ≡ []
  pub ready : IsReady from (c.number).0 c

-- each cluster as it stands
abbrev pub clusters_of : List Followed → List ClusterView
clusters_of fs = map (λ (f : Followed). f.cluster) fs

-- the lives before those that the clusters are in
abbrev pub past_of : List Followed → List Life
past_of fs = flat_map (λ (f : Followed). (f.past).items) fs

-- the clusters of the bus's system, each beside it, stopped or failed, with the lives that are over
pub record AreBeside (b : BusView) (cs : List ClusterView) (past : List Life) : Type 0 where
  pub all : AllAlong b cs
  pub over : AllPast b past cs
