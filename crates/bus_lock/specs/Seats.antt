-- What contracts say of a seat and of a lock.
use Rattle.std.specs.Prelude.{◌≡◌, ℕ, ◌<◌, Bool, false, List, [], ◌∷◌, length, Option, slice_index_or}
use Rattle.bus_lock.specs.declared.view.View.{View}
use Rattle.bus_lock.specs.declared.value.LogValue.{Ghosts}
use Rattle.bus_lock.specs.declared.seat.LogSeat.{LogSeat}
use Rattle.bus_lock.specs.declared.lock.LogLock.{LogLock}

-- How many seats came with the lock.
abbrev pub seat_count : {Value Entry Origin : Type 0} → LogLock Value Entry Origin → ℕ
seat_count lock = lock.table.shared.key.seats

module _ {Value Entry Origin : Type 0} {g : Ghosts Value Entry Origin} where
  -- All that the seat knows.
  abbrev pub view_of : LogSeat Value Entry Origin g → View Entry Origin
  view_of seat = seat.seat.me.0

  -- The author that this seat alone may use.
  abbrev pub name : LogSeat Value Entry Origin g → ℕ
  name seat = seat.seat.me.0.name

  -- Its name, and the numbers of the seats that were joined into it.
  abbrev pub numbers : LogSeat Value Entry Origin g → List ℕ
  numbers seat = seat.seat.me.0.numbers

  -- The seat has entered and not left.
  abbrev pub has_entered : LogSeat Value Entry Origin g → Bool
  has_entered seat = seat.seat.me.0.inside

  -- The beginning of the list that it has seen.
  abbrev pub seen : LogSeat Value Entry Origin g → List Entry
  seen seat = seat.seat.me.0.seen

  -- What it added, in order.
  abbrev pub own : LogSeat Value Entry Origin g → List Entry
  own seat = seat.seat.me.0.own

  -- How many entries it added, together with those that were joined into it.
  abbrev pub added : LogSeat Value Entry Origin g → ℕ
  added seat = seat.seat.me.0.added

  -- The greatest length that it was told.
  abbrev pub told : LogSeat Value Entry Origin g → ℕ
  told seat = seat.seat.me.0.told

  -- The origin of every value behind the lock.
  abbrev pub seat_origin : LogSeat Value Entry Origin g → Option Origin
  seat_origin seat = seat.seat.me.0.origin

  -- The seat came with this lock.
  abbrev pub IsOf : LogLock Value Entry Origin → LogSeat Value Entry Origin g → Type 0
  IsOf lock seat = seat.seat.table_id ≡ lock.table.shared.table_id

  -- The seat of this number, as a new lock has it.
  pub record IsFresh (lock : LogLock Value Entry Origin) (origin : Option Origin) (number : ℕ) (seat : LogSeat Value Entry Origin g) : Type 0 where
    pub of : IsOf lock seat
    pub named : name seat ≡ number
    pub alone : numbers seat ≡ number ∷ []
    pub out : has_entered seat ≡ false
    pub unseen : seen seat ≡ []
    pub none_own : own seat ≡ []
    pub none_added : added seat ≡ 0
    pub untold : told seat ≡ 0
    pub from : seat_origin seat ≡ origin

  -- The seats of a new lock, in the order of their numbers.
  abbrev pub AllFresh : LogLock Value Entry Origin → Option Origin → List (LogSeat Value Entry Origin g) → Type 0
  AllFresh lock origin seats = (number : ℕ) (other : LogSeat Value Entry Origin g) → number < length seats → IsFresh lock origin number (slice_index_or seats number other)
