-- The lives of a cluster in a log: from the boot or a return of it on, up to its next loss.
use Rattle.std.specs.Prelude.{position, ℕ, zero, suc, ◌+◌, ◌-◌, ◌≡◌, Bool, true, false, if◌then◌else◌, List, length, take, drop, slice_get, Option, Some, None, option_and_then, ⊤}
use Rattle.std.specs.List.{list_any}
use Rattle.std.specs.Option.{option_map_or}
use Rattle.t32_base.specs.declared.process.ClusterNo.{ClusterNo}
use Rattle.bus_msg.specs.declared.entry.What.{What}
use Rattle.bus_msg.specs.declared.entry.What.TheVariants.{Crash}
use Rattle.bus_msg.specs.declared.entry.Cause.{Cause}
use Rattle.bus_msg.specs.declared.entry.Cause.TheVariants.{Place, Step, Disk}
use Rattle.bus_msg.specs.declared.entry.Entry.{Entry}
use Rattle.bus_msg.specs.Places.{same_cluster}
use Rattle.bus_msg.specs.PlacedAfter.{what}
use Rattle.cert_sched.specs.Losses.{is_by_cluster, is_crash_of}
use Rattle.cert_sched.specs.Scripted.{is_done}
use Rattle.cluster_core.specs.View.{ClusterView}
use Rattle.script_laws.specs.Off.{comes_back}

-- ---- lives

-- a life of k begins at the boot, or directly after a return of k
abbrev pub begins_at : List Entry → ClusterNo → ℕ → Bool
begins_at log k zero = true
begins_at log k (suc n) = option_map_or (λ (e : Entry). comes_back k (what e)) (slice_get log n) false

-- the entry at a place loses k
abbrev pub is_lost_at : List Entry → ClusterNo → ℕ → Bool
is_lost_at log k n = option_map_or (λ (e : Entry). is_crash_of k (what e)) (slice_get log n) false

-- where the life begins in which k has come up to a place
abbrev pub begin_of_life : List Entry → ClusterNo → (cursor : ℕ) → ℕ
begin_of_life log k zero = zero
begin_of_life log k (suc n) = if begins_at log k (suc n) then suc n else begin_of_life log k n

-- it ends at the next crash of k, or else at the last entry
abbrev pub end_of_life : List Entry → ClusterNo → ℕ → ℕ
end_of_life log k from = option_map_or (λ i. from + i) (position (λ (e : Entry). is_crash_of k (what e)) (drop from log)) (length log - 1)

abbrev pub last_entry : List Entry → ClusterNo → ℕ → Option Entry
last_entry log k from = slice_get log (end_of_life log k from)

-- k sent an entry at a place from `from` on and below `upto`
abbrev pub has_sent : List Entry → ClusterNo → ℕ → ℕ → Bool
has_sent log k from upto = list_any (is_by_cluster k) (take (upto - from) (drop from log))

abbrev pub ends_at_done : List Entry → ClusterNo → ℕ → Bool
ends_at_done log k from = option_map_or (λ (e : Entry). is_done (what e)) (last_entry log k from) false

-- the cause of the crash of k that ends a life, where one does
abbrev pub cause_in : ClusterNo → What → Option Cause
cause_in k (Crash j cause) = if same_cluster j k then Some cause else None
cause_in k _ = None

abbrev pub end_cause : List Entry → ClusterNo → ℕ → Option Cause
end_cause log k from = option_and_then (λ (e : Entry). cause_in k (what e)) (last_entry log k from)

-- ---- what holds of each

-- a cluster that was lost at a kernel step has made that many; one that was lost by its disk has failed at that call
abbrev pub EndsBy : Option Cause → ClusterView → Type 0
EndsBy None c = ⊤
EndsBy (Some Place) c = ⊤
EndsBy (Some (Step n)) c = (c.failed ≡ None) × (c.steps ≡ n)
EndsBy (Some (Disk n)) c = c.failed ≡ Some n
