-- What each step on the lock's table does to the seat that takes it, by the number that it finds.
use Rattle.std.specs.Prelude.{◌≡◌, ◌≢◌, ℕ, List, [], ◌∷◌, Option, Some}
use Rattle.atomic_table.specs.Table.{Me, Step, rest}
use Rattle.bus_lock.specs.declared.view.View.{View}
use Rattle.bus_lock.specs.Views.{Remembers, Shows, entered, gone, grown, informed}

module _ {Value Entry Origin : Type 0} where
  -- The turn is taken where it was free; the seat then holds the value, which shows it the list.
  abbrev pub takes_turn : (Value → List Entry) → (Value → Origin) → (Entry → Option ℕ) → Step (Option Value) → Me (Option Value) (View Entry Origin) → ℕ → Me (Option Value) (View Entry Origin) → Type 0
  takes_turn list_of origin_of author step old found new =
      (found ≢ 0 → new ≡ old) × (found ≡ 0 → (value : Value) × (new ≡ (entered old.0 (list_of value), (0, Some value) ∷ old.1)) × Shows list_of origin_of author old.0 value)

  -- The list becomes that of the value that the seat holds.
  abbrev pub raises_count : (Value → List Entry) → Step (Option Value) → Me (Option Value) (View Entry Origin) → ℕ → Me (Option Value) (View Entry Origin) → Type 0
  raises_count list_of step old found new = (value : Value) → old.1 ≡ (0, Some value) ∷ [] → new ≡ (grown old.0 (list_of value), old.1)

  -- The turn is given on, with the value.
  abbrev pub gives_turn : Step (Option Value) → Me (Option Value) (View Entry Origin) → ℕ → Me (Option Value) (View Entry Origin) → Type 0
  gives_turn step old found new = new ≡ (gone old.0, rest old.1)

  -- The seat stays as it is.
  abbrev pub stays : Step (Option Value) → Me (Option Value) (View Entry Origin) → ℕ → Me (Option Value) (View Entry Origin) → Type 0
  stays step old found new = new ≡ old

  -- The seat is told the count, and that what it knew at its last join stands.
  abbrev pub loads_count : (Entry → Option ℕ) → Step (Option Value) → Me (Option Value) (View Entry Origin) → ℕ → Me (Option Value) (View Entry Origin) → Type 0
  loads_count author step old found new = (new ≡ (informed old.0 found, old.1)) × Remembers author old.0 old.0.left × Remembers author old.0 old.0.right
