-- Where an entry goes: to all of these clusters or to none, in one order (Borg et al., Fault Tolerance Under UNIX, ACM TOCS 7(1), 1989: three-way message delivery).
use Rattle.std.specs.Prelude.{ℕ, ◌^◌, bit_or, if◌then◌else◌, List, [], ◌∷◌, ◌++◌, Option, Some, None}
use Rattle.std.specs.Option.{option_map_or}
use Rattle.t32_base.specs.declared.process.Pid.{Pid}
use Rattle.t32_base.specs.declared.process.ClusterNo.{ClusterNo}
use Rattle.t32_base.specs.declared.letter.To.{To}
use Rattle.t32_base.specs.declared.letter.To.TheVariants.{Proc, Tty}
use Rattle.bus_msg.specs.declared.entry.What.{What}
use Rattle.bus_msg.specs.declared.entry.What.TheVariants.{Mail, Birth, Exit, Page, Sync, Fetch, PageIs, Crash, Return, Rebackup, Done, Stop}
use Rattle.bus_msg.specs.declared.entry.Dests.{Dests}
use Rattle.bus_msg.specs.declared.placed.Placed.{Placed}
use Rattle.bus_msg.specs.Places.{Places, lives_in, unended_at, servers_in, all_clusters}

-- one bit for each cluster of a list that lives
abbrev pub bits_of : Places → List ClusterNo → ℕ
bits_of places [] = 0
bits_of places (k ∷ ks) = if lives_in places k then bit_or (2 ^ k.0) (bits_of places ks) else bits_of places ks

abbrev pub to_clusters : Places → List ClusterNo → Dests
to_clusters places ks = record { clusters = bits_of places ks; tty = None }

-- every cluster that lives
abbrev pub to_all : Places → Dests
to_all places = to_clusters places (all_clusters places)

abbrev pub to_list : Option ClusterNo → List ClusterNo
to_list None = []
to_list (Some k) = k ∷ []

-- the home of a process that has not ended, and its backup
abbrev pub home_of : Places → Pid → List ClusterNo
home_of places p = option_map_or (λ (q : Placed). q.home ∷ []) (unended_at places p) []

abbrev pub backup_of : Places → Pid → List ClusterNo
backup_of places p = option_map_or (λ (q : Placed). to_list q.backup) (unended_at places p) []

-- a letter goes to the receiver's home and backup, or to a terminal, and to the sender's backup
abbrev pub letter_dests : Places → Pid → To → Dests
letter_dests places from (Proc p e) = to_clusters places (home_of places p ++ backup_of places p ++ backup_of places from)
letter_dests places from (Tty t) = record { clusters = bits_of places (backup_of places from); tty = Some t }

-- all clusters that live, and the one that returns
abbrev pub return_dests : Places → ClusterNo → Dests
return_dests places k = let all = to_all places in record all { clusters = bit_or (2 ^ k.0) all.clusters }

-- where an entry that says this goes
abbrev pub route : Places → What → Dests
route places (Mail at letter) = letter_dests places letter.from letter.to
route places (Birth parent at child end) = to_all places
route places (Exit pid at end) = to_all places
route places (Page pid at index bytes) = to_clusters places (servers_in places)
route places (Sync pid small read took) = to_clusters places (backup_of places pid ++ servers_in places)
route places (Fetch pid index) = to_clusters places (servers_in places)
route places (PageIs pid index bytes) = to_clusters places (home_of places pid ++ servers_in places)
route places (Crash k cause) = to_all places
route places (Return k) = return_dests places k
route places (Rebackup to fresh recs) = to_all places
route places (Done rests) = to_all places
route places Stop = to_all places
