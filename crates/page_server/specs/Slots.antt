-- Where the pages of a process lie on the disk: each page number of it has four slots, of which each of its accounts holds one or none.
use Rattle.std.specs.Prelude.{ℕ, ◌≡◌, ◌+◌, ◌-◌, ◌*◌, ◌++◌, ◌⊎◌, List, [], ◌∷◌, length, get_or, set, replicate, Contains, Option, None, Some, Result, Ok, Err}
use Rattle.page_server.specs.declared.table.Held.{Held}
use Rattle.page_server.specs.declared.table.Which.{Which}
use Rattle.page_server.specs.declared.table.Which.TheVariants.{First, Second, Third, Fourth}
use Rattle.page_server.specs.declared.disk.DiskRefused.{DiskRefused}
use Rattle.page_server.specs.Disk.{Slots}
use Rattle.page_server.specs.Account.{Account}

abbrev pub number_of : Which → ℕ
number_of First = 0
number_of Second = 1
number_of Third = 2
number_of Fourth = 3

-- one of the four slots of a page, of the process at a place
abbrev pub slot : ℕ → ℕ → Which → ℕ
slot place i which = (i * 4194304 + place) * 4 + number_of which

-- neither account has the page
abbrev pub absent : Held
absent = record { now = None; kept = None }

-- a slot that the committed account does not hold
abbrev pub spare : Option Which → Which
spare None = First
spare (Some First) = Second
spare (Some Second) = First
spare (Some Third) = First
spare (Some Fourth) = First

-- what lies in the slot that an account holds
abbrev pub content : Slots → ℕ → ℕ → Option Which → Option (List ℕ)
content slots place i None = None
content slots place i (Some which) = slots (slot place i which)

abbrev pub numbered : ℕ → Option (List ℕ) → List (ℕ × List ℕ) → List (ℕ × List ℕ)
numbered i None pages = pages
numbered i (Some page) pages = (i, page) ∷ pages

-- the pages of an account from the number i on
abbrev pub pages_from : Slots → ℕ → (Held → Option Which) → ℕ → List Held → List (ℕ × List ℕ)
pages_from slots place side i [] = []
pages_from slots place side i (held ∷ rest) = numbered i (content slots place i (side held)) (pages_from slots place side (i + 1) rest)

-- the accounts that a table stands for
abbrev pub account_at : Slots → ℕ → List Held → Account
account_at slots place table = record { now = pages_from slots place (λ (h : Held). h.now) 0 table; kept = pages_from slots place (λ (h : Held). h.kept) 0 table }

-- ---- what calls make of a table

-- with a row for the page i
abbrev pub grown : List Held → ℕ → List Held
grown table i = table ++ replicate (i + 1 - length table) absent

-- the uncommitted account holds the slot that the committed one does not
abbrev pub put_in : Held → Held
put_in held = record { now = Some (spare held.kept); kept = held.kept }

abbrev pub settled : Held → Held
settled held = record { now = held.now; kept = held.now }

abbrev pub restored : Held → Held
restored held = record { now = held.kept; kept = held.kept }

-- a row is changed, where it is there
abbrev pub change_at : (Held → Held) → List Held → ℕ → List Held
change_at change table i = set table i (change (get_or table i absent))

-- a refused put leaves the table, or only gives it its row
abbrev pub TableAfterPut : List Held → List Held → ℕ → Result (Unit {0}) DiskRefused → Type 0
TableAfterPut old new i (Ok done) = new ≡ set (grown old i) i (put_in (get_or old i absent))
TableAfterPut old new i (Err refused) = (new ≡ old) ⊎ (new ≡ grown old i)

-- each page in which the accounts may differ is marked
abbrev pub IsMarked : List Held → List ℕ → Type 0
IsMarked table marks = (k : ℕ) → ((get_or table k absent).now ≡ (get_or table k absent).kept) ⊎ Contains marks k
