-- What is kept of each process of a log, entry by entry.
use Rattle.std.specs.Prelude.{ℕ, ◌≡◌, ◌==◌, Bool, true, false, ◌&&◌, ◌||◌, if◌then◌else◌, List, [], ◌∷◌}
use Rattle.std.specs.BTreeMap.{is_at}
use Rattle.std.specs.List.{list_any}
use Rattle.std.specs.Map.{lookup}
use Rattle.std.specs.Option.{option_map_or, unwrap_or}
use Rattle.std.specs.Ordering.{nat_cmp}
use Rattle.t32_base.specs.declared.process.Pid.{Pid}
use Rattle.t32_base.specs.declared.letter.BackRec.{BackRec}
use Rattle.bus_msg.specs.declared.entry.What.{What}
use Rattle.bus_msg.specs.declared.placed.Placed.{Placed}
use Rattle.bus_msg.specs.Places.{Places, same_pid}
use Rattle.cert_sched.specs.Deeds.{is_cut, is_first}
use Rattle.cert_sched.specs.Moved.{is_fetch, is_page_is}
use Rattle.cert_sched.specs.Told.{cluster_lost, is_moved}
use Rattle.log_fetches.specs.declared.kept.Kept.{Kept}
use Rattle.log_fetches.specs.Pages.{has_page, is_page_no}

abbrev pub no_pages : List ℕ
no_pages = 0 ∷ 0 ∷ 0 ∷ 0 ∷ []

-- its record never had a state
abbrev pub nothing : Kept
nothing = record { stated = false; moved = false; asked = no_pages; come = no_pages }

-- by the numbers of the processes; of one that is not there is nothing to keep
abbrev pub kept_in : List (ℕ × Kept) → Pid → Kept
kept_in kept p = unwrap_or (lookup (is_at (nat_cmp p.0)) kept) nothing

-- ---- one process

-- its record has a state from now on
abbrev pub with_state : Kept → Kept
with_state k = record { stated = true; moved = k.moved; asked = k.asked; come = k.come }

-- a loss moved it
abbrev pub begun_again : Kept → Kept
begun_again k = record { stated = k.stated; moved = k.stated; asked = no_pages; come = no_pages }

-- the first process of these records has a state, if it has run
abbrev pub stated_first : Bool → List BackRec → Pid → Kept → Kept
stated_first fresh recs p k = record { stated = (fresh && is_first p recs) || k.stated; moved = k.moved; asked = k.asked; come = k.come }

-- the entry is a loss that moves the process
abbrev pub moves_at : Places → What → Pid → Bool
moves_at places w p = option_map_or (is_moved p places) (cluster_lost w) false

-- What an entry makes of what is kept of a process. A cut gives its record a state, and a loss that moves it finds a state in that or
-- none. Such a loss leaves no page that was asked for or came; otherwise the entry adds the page that it asks for, or that it brings.
pub record IsKeptAfter (places : Places) (w : What) (p : Pid) (old new : Kept) : Type 0 where
  pub stated : new.stated ≡ (is_cut p w || old.stated)
  pub moved : new.moved ≡ (if moves_at places w p then old.stated else old.moved)
  pub asked : (i : ℕ) →
      has_page new.asked i ≡ (if moves_at places w p then false else (is_fetch p i w && is_page_no i) || has_page old.asked i)
  pub come : (i : ℕ) →
      has_page new.come i ≡ (if moves_at places w p then false else (is_page_is p i w && is_page_no i) || has_page old.come i)

-- ---- all of them

-- what an entry makes of what is kept of each
abbrev pub Notes : Places → What → List (ℕ × Kept) → List (ℕ × Kept) → Type 0
Notes places w old new = (p : Pid) → IsKeptAfter places w p (kept_in old p) (kept_in new p)

-- this is kept of the process, and of every other what was
pub record ChangesOnly (old new : List (ℕ × Kept)) (p : Pid) (now : Kept) : Type 0 where
  pub this : kept_in new p ≡ now
  pub others : (q : Pid) → same_pid p q ≡ false → kept_in new q ≡ kept_in old q

-- a page of the process is asked for
pub record Asks (old new : List (ℕ × Kept)) (p : Pid) (index : ℕ) : Type 0 where
  pub now : Kept
  pub only : ChangesOnly old new p now
  pub stated : now.stated ≡ (kept_in old p).stated
  pub moved : now.moved ≡ (kept_in old p).moved
  pub asked : (i : ℕ) → has_page now.asked i ≡ ((index == i && is_page_no i) || has_page (kept_in old p).asked i)
  pub come : now.come ≡ (kept_in old p).come

-- a page of the process has come
pub record Comes (old new : List (ℕ × Kept)) (p : Pid) (index : ℕ) : Type 0 where
  pub now : Kept
  pub only : ChangesOnly old new p now
  pub stated : now.stated ≡ (kept_in old p).stated
  pub moved : now.moved ≡ (kept_in old p).moved
  pub asked : now.asked ≡ (kept_in old p).asked
  pub come : (i : ℕ) → has_page now.come i ≡ ((index == i && is_page_no i) || has_page (kept_in old p).come i)

-- those of these that pass a test are changed so
abbrev pub ChangesAmong : (Placed → Bool) → (Kept → Kept) → List Placed → List (ℕ × Kept) → List (ℕ × Kept) → Type 0
ChangesAmong test change placed old new = (p : Pid) →
    kept_in new p ≡ (if list_any (λ (q : Placed). same_pid q.pid p && test q) placed then change (kept_in old p) else kept_in old p)
