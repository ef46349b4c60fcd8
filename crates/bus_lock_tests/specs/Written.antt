-- What writers wrote, and a seat that has seen what many of them wrote.
use Rattle.std.specs.Prelude.{◌≡◌, ◌*◌, ℕ, ◌<◌, false, List, Some, map, length}
use Rattle.bus_lock.specs.declared.lock.LogLock.{LogLock}
use Rattle.bus_lock.specs.declared.seat.LogSeat.{LogSeat}
use Rattle.bus_lock.specs.declared.value.LogValue.{Ghosts}
use Rattle.bus_lock.specs.Lists.{entries_by, numbers_from}
use Rattle.bus_lock.specs.Seats.{IsOf, added, numbers, has_entered, seen}
use Rattle.bus_lock_tests.specs.declared.notes.Note.{Note}
use Rattle.bus_lock_tests.specs.declared.notes.Notes.{Notes}

-- The note that this writer makes of a value.
abbrev pub note : ℕ → ℕ → Note
note writer value = record { by = Some writer; value = value }

-- The notes of this writer, in order.
abbrev pub written_by : ℕ → List Note → List Note
written_by writer notes = entries_by (λ note. note.by) writer notes

-- The seat holds the numbers of the first so many writers, and has seen a note of each for each value; they added no other.
pub record HasAll {g : Ghosts Notes Note ℕ} (lock : LogLock Notes Note ℕ) (values : List ℕ) (count : ℕ) (seat : LogSeat Notes Note ℕ g) : Type 0 where
  pub of : IsOf lock seat
  pub out : has_entered seat ≡ false
  pub numbers : numbers seat ≡ numbers_from 0 count
  pub written : (writer : ℕ) → writer < count → written_by writer (seen seat) ≡ map (note writer) values
  pub all : added seat ≡ count * length values
