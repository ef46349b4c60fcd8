-- The loss of a cluster in a log, and its return.
use Rattle.std.specs.Prelude.{ℕ, ◌≡◌, ◌+◌, Bool, true, false, List, Some, slice_get, take, drop}
use Rattle.std.specs.List.{list_any}
use Rattle.std.specs.Option.{option_map_or}
use Rattle.t32_base.specs.declared.process.ClusterNo.{ClusterNo}
use Rattle.bus_msg.specs.declared.entry.What.{What}
use Rattle.bus_msg.specs.declared.entry.What.TheVariants.{Return}
use Rattle.bus_msg.specs.declared.entry.Entry.{Entry}
use Rattle.bus_msg.specs.Places.{same_cluster}
use Rattle.bus_msg.specs.PlacedAfter.{what}
use Rattle.cert_sched.specs.declared.script.ScriptWord.{ScriptWord}
use Rattle.cert_sched.specs.declared.script.ScriptWord.TheVariants.{CrashAt, CrashStep, DiskAt, ReturnAt}
use Rattle.cert_sched.specs.Losses.{is_crash_of, was_lost_in}
use Rattle.cert_sched.specs.Parts.{last_that}
use Rattle.bus_order.specs.Script.{turns}

-- The entry at this place loses the cluster, and no entry after it loses the cluster again or brings it back.
pub record IsOffSince (log : List Entry) (k : ClusterNo) (at : ℕ) : Type 0 where
  pub entry : Entry
  pub there : slice_get log at ≡ Some entry
  pub loses : is_crash_of k (what entry) ≡ true
  pub none_after : list_any (λ (e : Entry). turns k (what e)) (drop (at + 1) log) ≡ false

-- an entry that brings the cluster back
abbrev pub comes_back : ClusterNo → What → Bool
comes_back k (Return j) = same_cluster j k
comes_back k _ = false

abbrev pub has_returned_in : List Entry → ClusterNo → Bool
has_returned_in log k = list_any (λ (e : Entry). comes_back k (what e)) log

-- a word that brings the cluster back
abbrev pub brings_back : ClusterNo → ScriptWord → Bool
brings_back k (CrashAt j place) = false
brings_back k (CrashStep j step) = false
brings_back k (DiskAt j call) = false
brings_back k (ReturnAt j place) = same_cluster j k

-- of the entries that lose the cluster or bring it back the last one loses it
abbrev pub is_lost_last : List Entry → ClusterNo → Bool
is_lost_last log k = option_map_or (λ (e : Entry). is_crash_of k (what e)) (last_that (λ (e : Entry). turns k (what e)) log) false

-- The entry at this place loses the cluster, and no entry before or after it does.
pub record IsItsLoss (log : List Entry) (k : ClusterNo) (at : ℕ) : Type 0 where
  pub entry : Entry
  pub there : slice_get log at ≡ Some entry
  pub loses : is_crash_of k (what entry) ≡ true
  pub none_before : was_lost_in (take at log) k ≡ false
  pub none_after : was_lost_in (drop (at + 1) log) k ≡ false
