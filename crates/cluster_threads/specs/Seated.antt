-- A cluster that follows the log behind a lock, with its seat.
use Rattle.std.specs.Prelude.{ℕ, ◌≡◌, ◌⊎◌, true, false, List, [], ◌∷◌, Option, Some, ⊤}
use Rattle.t32_base.specs.declared.process.ClusterNo.{ClusterNo}
use Rattle.sys_text.specs.declared.system.System.{System}
use Rattle.bus_msg.specs.declared.entry.Entry.{Entry}
use Rattle.cert_sched.specs.declared.script.ScriptWord.{ScriptWord}
use Rattle.cert_sched.specs.Rules.{is_over}
use Rattle.cluster_core.specs.View.{ClusterView}
use Rattle.bus_lock.specs.declared.value.LogValue.{Ghosts}
use Rattle.bus_lock.specs.declared.lock.LogLock.{LogLock}
use Rattle.bus_lock.specs.declared.seat.LogSeat.{LogSeat}
use Rattle.bus_lock.specs.Seats.{IsOf, has_entered, name, numbers, seat_origin, seen}
use Rattle.bus_order.specs.declared.shared.Origin.{Origin}
use Rattle.bus_order.specs.View.{BusView}
use Rattle.cluster_turns.specs.declared.offers.News.{News}
use Rattle.cluster_turns.specs.Along.{IsAlong, IsDue, IsFailed, IsSound, StaysAlive}
use Rattle.cluster_turns.specs.Offers.{HasGrown, IsNews}
use Rattle.cluster_threads.specs.Steps.{AreStepsLeft}
use Rattle.cluster_threads.specs.declared.standing.Standing.{Standing}
use Rattle.cluster_threads.specs.declared.standing.Standing.TheVariants.{Over, Off, Lives}

-- what a bus was made from
abbrev pub origin_of : BusView → Origin
origin_of b = record { system = b.system; script = b.script }

abbrev pub made_of : System → List ScriptWord → Origin
made_of system script = record { system = system; script = script }

-- a bus that was made from that, with this log, of which nothing else is known
abbrev pub bus_of : Origin → List Entry → BusView
bus_of from log = record { system = from.system; script = from.script; left = []; log = log; marks = [] }

-- a bus of this system
pub record ComesFrom (system : System) (origin : Option Origin) : Type 0 where
  pub script : List ScriptWord
  pub from : origin ≡ Some (made_of system script)

-- a cluster along each bus that was made from that, with this log
abbrev pub IsAlongAll : Option Origin → List Entry → ClusterView → Type 0
IsAlongAll origin log c = (from : Origin) → origin ≡ Some from → IsAlong (bus_of from log) c

-- a cluster is shown what is new in a log, and which of its steps words name that are left
abbrev pub Shows : Origin → List Entry → News → List ℕ → Type 0
Shows from log news steps = IsNews from.system log news × AreStepsLeft from.script log news.number steps

-- How a cluster stands at a bus: the log is over; or the cluster is off; or it lives, and in the life in which it is has nothing to send.
-- It is shown what is new from where it has come to.
abbrev pub StandsAt : BusView → Standing → ClusterView → Type 0
StandsAt b Over c = is_over b.system b.log ≡ true
StandsAt b (Off length) c = ⊤
StandsAt b (Lives shown) c =
    (IsAlong b c ⊎ IsFailed b c) × (c.queue ≡ []) × ((shown.news).number ≡ c.number) × ((shown.news).from ≡ c.cursor)
    × Shows (origin_of b) b.log shown.news (shown.steps).items

-- the log has grown, and the cluster has come on in it in the life in which it was
pub record LivesOn (b after : BusView) (old new : ClusterView) : Type 0 where
  pub sound : IsSound after
  pub grows : HasGrown b after
  pub life : StaysAlive old.number after.log old.cursor new.cursor

module _ {g : Ghosts BusView Entry Origin} where
  -- the seat came with the lock, is not inside, and holds the number of the cluster alone
  pub record IsSeatOf (lock : LogLock BusView Entry Origin) (k : ClusterNo) (seat : LogSeat BusView Entry Origin g) : Type 0 where
    pub of : IsOf lock seat
    pub out : has_entered seat ≡ false
    pub named : name seat ≡ k.0
    pub alone : numbers seat ≡ k.0 ∷ []

  -- the seat has the bus
  pub record IsInside (lock : LogLock BusView Entry Origin) (k : ClusterNo) (seat : LogSeat BusView Entry Origin g) (b : BusView) : Type 0 where
    pub of : IsOf lock seat
    pub entered : has_entered seat ≡ true
    pub named : name seat ≡ k.0
    pub alone : numbers seat ≡ k.0 ∷ []
    pub origin : seat_origin seat ≡ Some (origin_of b)
    pub whole : seen seat ≡ b.log

  -- what the seat has seen is a log of its system that is over
  abbrev pub SeesEnd : LogSeat BusView Entry Origin g → Type 0
  SeesEnd seat = (from : Origin) → seat_origin seat ≡ Some from → is_over from.system (seen seat) ≡ true

  -- what the seat has seen is shown by these news and these steps, to a cluster whose turn it is
  abbrev pub FindsDue : Origin → LogSeat BusView Entry Origin g → News → List ℕ → ClusterView → Type 0
  FindsDue from seat news steps c = IsDue (Shows from (seen seat) news steps) news.from (bus_of from (seen seat)) c
