-- The processes that a page server knows, and the place of each, which says where on the disk its pages lie.
use Rattle.std.specs.Prelude.{ℕ, ◌≡◌, ◌≤◌, List, [], map, length, get_or, ◌⊎◌, cond, Option, None, Some, IsSome, option_map, Result}
use Rattle.std.specs.BTreeMap.{BTreeMap, get, is_at}
use Rattle.std.specs.Ordering.{nat_cmp}
use Rattle.t32_base.specs.declared.process.Pid.{Pid}
use Rattle.page_server.specs.declared.pages.Pages.{Pages}
use Rattle.page_server.specs.declared.table.Held.{Held}
use Rattle.page_server.specs.declared.table.Which.{Which}
use Rattle.page_server.specs.declared.disk.DiskRefused.{DiskRefused}
use Rattle.page_server.specs.Disk.{Slots, SlotsAfterPut}
use Rattle.page_server.specs.Account.{Account, no_pages}
use Rattle.page_server.specs.Slots.{slot, absent, spare, account_at, TableAfterPut}

abbrev pub Processes : Type 0
Processes = BTreeMap ℕ Pages

abbrev pub account_of : Slots → Pages → Account
account_of slots pages = account_at slots pages.place pages.table

-- the accounts of each process, by rising pid
abbrev pub accounts_of : Slots → List (ℕ × Pages) → List (Pid × Account)
accounts_of slots entries = map (λ (e : ℕ × Pages). (record { 0 = e.0 }, account_of slots e.1)) entries

-- the accounts of a process that is there or not
abbrev pub account_in : Slots → Option Pages → Account
account_in slots None = no_pages
account_in slots (Some pages) = account_of slots pages

-- ---- what holds of them

-- each process has a place that is its own
pub record Owned (processes : Processes) (owners : List (Option ℕ)) : Type 0 where
  pub few : length owners ≤ 4194304
  pub owned : (pid : ℕ) (pages : Pages) → get nat_cmp processes pid ≡ Some pages → get_or owners pages.place None ≡ Some pid

-- the slot that an account holds has a page
abbrev pub IsThere : Slots → ℕ → ℕ → Option Which → Type 0
IsThere slots place i None = Unit {0}
IsThere slots place i (Some which) = IsSome (slots (slot place i which))

abbrev pub AllThere : Slots → ℕ → List Held → Type 0
AllThere slots place table = (i : ℕ) → IsThere slots place i (get_or table i absent).now × IsThere slots place i (get_or table i absent).kept

abbrev pub EachThere : Slots → Processes → Type 0
EachThere slots processes = (pid : ℕ) (pages : Pages) → get nat_cmp processes pid ≡ Some pages → AllThere slots pages.place pages.table

-- ---- what calls make of them

-- one process has these pages or none now, and the others stay
abbrev pub Becomes : Processes → Processes → ℕ → Option Pages → Type 0
Becomes old new pid pages = (q : ℕ) → get nat_cmp new q ≡ cond (is_at (nat_cmp pid) q) pages (get nat_cmp old q)

-- a process without pages came
pub record Enters (old new : Processes) (pid : ℕ) : Type 0 where
  pub pages : Pages
  pub empty : pages.table ≡ []
  pub becomes : Becomes old new pid (Some pages)

-- no process changed, but one that was not there may have come without pages
abbrev pub Admits : Processes → Processes → Type 0
Admits old new = (q : ℕ) → (get nat_cmp new q ≡ get nat_cmp old q) ⊎ ((get nat_cmp old q ≡ None) × ((pages : Pages) × (get nat_cmp new q ≡ Some pages) × (pages.table ≡ [])))

abbrev pub SameProcesses : Processes → Processes → Type 0
SameProcesses old new = (q : ℕ) → get nat_cmp new q ≡ get nat_cmp old q

-- a page of a process was put
pub record Puts (old new : Processes) (before after : Slots) (pid i : ℕ) (page : List ℕ) (result : Result (Unit {0}) DiskRefused) : Type 0 where
  pub was : Pages
  pub now : Pages
  pub found : get nat_cmp old pid ≡ Some was
  pub becomes : Becomes old new pid (Some now)
  pub place : now.place ≡ was.place
  pub table : TableAfterPut was.table now.table i result
  pub slots : SlotsAfterPut before after (slot was.place i (spare (get_or was.table i absent).kept)) page result

-- every row of a process changed, if the process is there
abbrev pub with_rows : (Held → Held) → Pages → Pages
with_rows change pages = record pages { table = map change pages.table }

abbrev pub ChangesRows : Processes → Processes → ℕ → (Held → Held) → Type 0
ChangesRows old new pid change = Becomes old new pid (option_map (with_rows change) (get nat_cmp old pid))

-- the slot that the committed account of a process holds for a page
abbrev pub slot_held : ℕ → ℕ → Option Which → Option ℕ
slot_held place i None = None
slot_held place i (Some which) = Some (slot place i which)

abbrev pub kept_slot : Option Pages → ℕ → Option ℕ
kept_slot None i = None
kept_slot (Some pages) i = slot_held pages.place i (get_or pages.table i absent).kept

-- and the one that its uncommitted account holds
abbrev pub now_slot : Option Pages → ℕ → Option ℕ
now_slot None i = None
now_slot (Some pages) i = slot_held pages.place i (get_or pages.table i absent).now
