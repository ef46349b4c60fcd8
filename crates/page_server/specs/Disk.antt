-- What a page disk keeps, and when a call of it may fail.
use Rattle.std.specs.Prelude.{ℕ, ◌≡◌, ◌≤◌, ◌==◌, Bool, true, false, if◌then◌else◌, List, Option, Some, None, Result, Ok, Err}
use Rattle.std.specs.List.{list_any}
use Rattle.t32_base.specs.Streams.{Rose, one_more}
use Rattle.page_server.specs.declared.disk.DiskFault.{DiskFault}
use Rattle.page_server.specs.declared.disk.DiskRefused.{DiskRefused}
use Rattle.page_server.specs.declared.disk.DiskRefused.TheVariants.{Fault, NoMemory}

-- the pages of a disk, by slot
abbrev pub Slots : Type 0
Slots = ℕ → Option (List ℕ)

-- the same slots, but for one page that was written
abbrev pub written : Slots → ℕ → List ℕ → Slots
written slots slot page other = if other == slot then Some page else slots other

-- how many calls a disk has carried out, how many of them failed, and the numbers of those that fail, where it tells them
pub record Counts : Type 0 where
  pub calls : ℕ
  pub faults : ℕ
  pub failing : Option (List ℕ)

-- whether the call with this number fails, where the disk tells it
abbrev pub Fails : Option (List ℕ) → ℕ → Bool → Type 0
Fails None call fails = Unit {0}
Fails (Some failing) call fails = list_any (λ n. n == call) failing ≡ fails

-- a call was carried out, and did not fail
pub record Passed (old new : Counts) : Type 0 where
  pub calls : new.calls ≡ one_more old.calls
  pub faults : old.faults ≤ new.faults
  pub failing : new.failing ≡ old.failing
  pub listed : Fails old.failing old.calls false

-- a call failed: it has the number of the calls before it, and the count of faults rose
pub record Failed (old new : Counts) (call : ℕ) : Type 0 where
  pub number : call ≡ old.calls
  pub calls : new.calls ≡ one_more old.calls
  pub faults : Rose old.faults new.faults
  pub failing : new.failing ≡ old.failing
  pub listed : Fails old.failing old.calls true

-- no call was carried out
pub record NotMade (old new : Counts) : Type 0 where
  pub calls : new.calls ≡ old.calls
  pub faults : old.faults ≤ new.faults
  pub failing : new.failing ≡ old.failing

abbrev pub CountsAfterPut : Counts → Counts → Result (Unit {0}) DiskRefused → Type 0
CountsAfterPut old new (Ok done) = Passed old new
CountsAfterPut old new (Err (Fault fault)) = Failed old new fault.call
CountsAfterPut old new (Err NoMemory) = NotMade old new

abbrev pub CountsAfterGet : Counts → Counts → Result (List ℕ) DiskFault → Type 0
CountsAfterGet old new (Ok page) = Passed old new
CountsAfterGet old new (Err fault) = Failed old new fault.call

-- a page is put into its slot and no other, and a refused call changes none
abbrev pub SlotsAfterPut : Slots → Slots → ℕ → List ℕ → Result (Unit {0}) DiskRefused → Type 0
SlotsAfterPut old new slot page (Ok done) = new ≡ written old slot page
SlotsAfterPut old new slot page (Err refused) = new ≡ old
