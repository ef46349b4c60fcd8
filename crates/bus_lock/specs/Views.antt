-- What a seat knows, from its first view on and after each call.
use Rattle.std.specs.Prelude.{◌+◌, ◌≡◌, ℕ, suc, ◌≤◌, true, false, List, [], ◌∷◌, ◌++◌, length, drop, max, Option, Some, None}
use mathlib.Core.List.{IsPrefix}
use Rattle.bus_lock.specs.declared.view.Past.{Past}
use Rattle.bus_lock.specs.declared.view.View.{View}
use Rattle.bus_lock.specs.Lists.{Holds, numbers_from, entries_by, IsWithin, longer}

-- What a seat knew before a join, where there was none.
abbrev pub no_past : {Entry : Type 0} → Past Entry
no_past = record { numbers = []; seen = [] }

module _ {Entry Origin : Type 0} where
  -- The view of a seat that has seen nothing, with so many numbers from its name on.
  abbrev pub new_view : ℕ → ℕ → Option Origin → View Entry Origin
  new_view name count origin =
      record { live = true; inside = false; name = name; numbers = numbers_from name count; seen = []; own = []; left = no_past; right = no_past; added = 0; told = 0; origin = origin }

  -- The view of the one seat of a lock that has just been made.
  abbrev pub first_view : ℕ → Origin → View Entry Origin
  first_view seats origin = new_view 0 seats (Some origin)

  -- The view of a seat that has the turn: the whole list is shown to it.
  abbrev pub entered : View Entry Origin → List Entry → View Entry Origin
  entered view log = record view { inside = true; seen = log }

  -- The view after the turn was given on.
  abbrev pub gone : View Entry Origin → View Entry Origin
  gone view = record view { inside = false }

  -- The view after its seat made the list longer: what is new is its own.
  abbrev pub grown : View Entry Origin → List Entry → View Entry Origin
  grown view log =
      record view { seen = log; own = view.own ++ drop (length view.seen) log; added = view.added + length (drop (length view.seen) log); left = no_past; right = no_past }

  -- The view after its seat was told that the list is at least so long.
  abbrev pub informed : View Entry Origin → ℕ → View Entry Origin
  informed view length_told = record view { told = max view.told length_told }

  -- The view with another length that it was told.
  abbrev pub retold : View Entry Origin → ℕ → View Entry Origin
  retold view length_told = record view { told = length_told }

  -- The view that keeps the other numbers, under the next name.
  abbrev pub next_of : View Entry Origin → View Entry Origin
  next_of view = record view { name = suc view.name; numbers = drop 1 view.numbers; left = no_past; right = no_past }

  -- The view of a new seat that is given the first number.
  abbrev pub first_of : View Entry Origin → View Entry Origin
  first_of view = record view { numbers = view.name ∷ []; own = []; added = 0; left = no_past; right = no_past; told = 0 }

  -- What a view knows that a join must keep.
  abbrev pub past_of : View Entry Origin → Past Entry
  past_of view = record { numbers = view.numbers; seen = view.seen }

  -- The view of a seat after the other was joined into it.
  abbrev pub joined : View Entry Origin → View Entry Origin → View Entry Origin
  joined view other =
      record view { numbers = view.numbers ++ other.numbers; seen = longer view.seen other.seen; left = past_of view; right = past_of other; added = view.added + other.added; told = max view.told other.told }

  -- The view of a seat that was joined into another.
  abbrev pub spent_view : View Entry Origin
  spent_view = record { live = false; inside = false; name = 0; numbers = []; seen = []; own = []; left = no_past; right = no_past; added = 0; told = 0; origin = None }

  -- What a view has seen agrees with what was known before a join.
  pub record Remembers (author : Entry → Option ℕ) (view : View Entry Origin) (past : Past Entry) : Type 0 where
    pub begins : length past.seen ≤ length view.seen → IsPrefix past.seen view.seen
    pub known : (number : ℕ) → Holds number past.numbers → entries_by author number view.seen ≡ entries_by author number past.seen

  -- What a seat knows after the other was joined into it.
  pub record Joined (author : Entry → Option ℕ) (view other both : View Entry Origin) : Type 0 where
    pub numbers : both.numbers ≡ view.numbers ++ other.numbers
    pub longer_of : both.seen ≡ longer view.seen other.seen
    pub first : IsPrefix view.seen both.seen
    pub second : IsPrefix other.seen both.seen
    pub first_known : (number : ℕ) → Holds number view.numbers → entries_by author number both.seen ≡ entries_by author number view.seen
    pub second_known : (number : ℕ) → Holds number other.numbers → entries_by author number both.seen ≡ entries_by author number other.seen
    pub told_first : view.told ≤ both.told
    pub told_second : other.told ≤ both.told
    pub added : both.added ≡ view.added + other.added
    pub name : both.name ≡ view.name
    pub own : both.own ≡ view.own
    pub origin : both.origin ≡ view.origin
    pub out : both.inside ≡ view.inside

-- What the value behind the lock shows to a seat with this view.
pub record Shows {Value Entry Origin : Type 0} (list_of : Value → List Entry) (origin_of : Value → Origin) (author : Entry → Option ℕ) (view : View Entry Origin) (value : Value) : Type 0 where
  pub begins : IsPrefix view.seen (list_of value)
  pub told : view.told ≤ length (list_of value)
  pub known : (number : ℕ) → Holds number view.numbers → entries_by author number (list_of value) ≡ entries_by author number view.seen
  pub mine : entries_by author view.name (list_of value) ≡ entries_by author view.name view.own
  pub own : IsWithin view.own view.seen
  pub origin : view.origin ≡ Some (origin_of value)
