-- The rule of the lock's table: at each moment there is one list, and every view is a part of it.
-- Word 0 is 0 while no seat has the turn; word 1 is the length of the list; of word 2 nothing is said; the one slot has the value.
use Rattle.std.specs.Prelude.{◌+◌, ◌≡◌, ◌≢◌, ℕ, ◌<◌, ◌≤◌, ◌⊎◌, true, false, List, [], ◌∷◌, length, slice_index, Option, Some}
use mathlib.Core.Option.{some}
use mathlib.Core.List.{IsPrefix}
use lib.ListN.{get_elem?}
use Rattle.atomic_table.specs.Table.{State}
use Rattle.bus_lock.specs.declared.view.Past.{Past}
use Rattle.bus_lock.specs.declared.view.View.{View}
use Rattle.bus_lock.specs.Lists.{Holds, entries_by, IsWithin}

-- How many entries these seats added, in all.
abbrev pub all_added : {Entry Origin : Type 0} → List (View Entry Origin) → ℕ
all_added [] = 0
all_added (view ∷ views) = view.added + all_added views

-- What a seat with these numbers knew before a join still stands.
pub record Stands {Entry : Type 0} (author : Entry → Option ℕ) (log : List Entry) (numbers : List ℕ) (past : Past Entry) : Type 0 where
  pub seen : IsPrefix past.seen log
  pub fewer : (number : ℕ) → Holds number past.numbers → Holds number numbers
  pub known : (number : ℕ) → Holds number past.numbers → entries_by author number log ≡ entries_by author number past.seen

module _ {Value Entry Origin : Type 0} (list_of : Value → List Entry) (origin_of : Value → Origin) (author : Entry → Option ℕ) (seats : ℕ) (made_from : Origin) where
  -- What a live view says of the list.
  pub record Fits (log : List Entry) (view : View Entry Origin) : Type 0 where
    pub seen : IsPrefix view.seen log
    pub left : Stands author log view.numbers view.left
    pub right : Stands author log view.numbers view.right
    pub told : view.told ≤ length log
    pub named : Holds view.name view.numbers
    pub below : (number : ℕ) → Holds number view.numbers → number < seats
    pub known : (number : ℕ) → Holds number view.numbers → entries_by author number log ≡ entries_by author number view.seen
    pub mine : entries_by author view.name log ≡ entries_by author view.name view.own
    pub own : IsWithin view.own view.seen
    pub from : view.origin ≡ Some made_from

  -- No seat has the turn, and the slot has a value that stands for the list.
  pub record Free (log : List Entry) (table : State (Option Value) (View Entry Origin)) : Type 0 where
    pub value : Value
    pub zero : slice_index table.words 0 ≡ 0
    pub home : get_elem? table.homes 0 ≡ some (some (Some value))
    pub list : list_of value ≡ log
    pub origin : origin_of value ≡ made_from
    pub nobody : (place : ℕ) (view : View Entry Origin) → get_elem? table.views place ≡ some view → view.inside ≡ false

  -- One seat has the turn, and has seen the whole list.
  pub record Taken (log : List Entry) (table : State (Option Value) (View Entry Origin)) : Type 0 where
    pub holder : ℕ
    pub view : View Entry Origin
    pub more : slice_index table.words 0 ≢ 0
    pub at : get_elem? table.views holder ≡ some view
    pub inside : view.inside ≡ true
    pub live : view.live ≡ true
    pub whole : view.seen ≡ log
    pub alone : (place : ℕ) (other : View Entry Origin) → get_elem? table.views place ≡ some other → other.inside ≡ true → place ≡ holder

  -- The rule.
  pub record Kept (table : State (Option Value) (View Entry Origin)) : Type 0 where
    pub log : List Entry
    pub words : length table.words ≡ 3
    pub slots : length table.homes ≡ 1
    pub count : slice_index table.words 1 ≡ length log
    pub turn : Free log table ⊎ Taken log table
    pub each : (place : ℕ) (view : View Entry Origin) → get_elem? table.views place ≡ some view → view.live ≡ true → Fits log view
    pub total : all_added table.views ≡ length log
    pub spent : (place : ℕ) (view : View Entry Origin) → get_elem? table.views place ≡ some view → view.live ≡ false → view.added ≡ 0
    pub apart : (place place' : ℕ) (view view' : View Entry Origin) → get_elem? table.views place ≡ some view → get_elem? table.views place' ≡ some view' → place ≢ place'
        → (number : ℕ) → Holds number view.numbers → ¬ Holds number view'.numbers
