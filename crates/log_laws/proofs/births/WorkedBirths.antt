-- Worked logs: which births are those of children that never synchronised, after births, a synchronisation, an exit and a loss. Whether the entries may stand is not asked.
use Rattle.std.proofs.Common.{◌≡◌, ℕ, refl, sym, ◌∙◌, ap, arith, List, [], ◌∷◌, length, None}
use Rattle.t32_base.specs.declared.process.Pid.{Pid}
use Rattle.t32_base.specs.declared.process.End.TheVariants.{Exit as Exited}
use Rattle.proc_state.specs.State.{root_state}
use Rattle.bus_msg.specs.declared.entry.What.{What}
use Rattle.bus_msg.specs.declared.entry.What.TheVariants.{Birth, Exit, Sync, Crash}
use Rattle.bus_msg.specs.declared.entry.Cause.TheVariants.{Place}
use Rattle.bus_msg.specs.declared.entry.By.TheVariants.{Cluster}
use Rattle.bus_msg.specs.declared.entry.Entry.{Entry}
use Rattle.cert_sched.specs.Schedule.{placement}
use Rattle.cert_sched.proofs.Systems.{cluster, hi_system}
use Rattle.log_laws.specs.births.Unsynced.{unsynced_births}

-- the root of a system of two clusters, its child, the child of that, and its second child
abbrev pid : ℕ → Pid
pid n = record { 0 = n }

abbrev root_it : Pid
root_it = pid 16

abbrev first : Pid
first = pid 32

abbrev below : Pid
below = pid 48

abbrev second : Pid
second = pid 64

abbrev entry : ℕ → What → Entry
entry place what = record { place = place; post = record { by = Cluster (cluster 0); what = what }; dests = record { clusters = 3; tty = None } }

abbrev three_births : List Entry
three_births = entry 0 (Birth root_it 5 first 3) ∷ entry 1 (Birth first 2 below 3) ∷ entry 2 (Birth root_it 9 second 4) ∷ []

-- the births stand in their order
all_three : unsynced_births hi_system three_births ≡ (root_it, first) ∷ (first, below) ∷ (root_it, second) ∷ []
unfolding placement
all_three = refl

-- the child's child synchronises
abbrev one_synced : List Entry
one_synced = entry 0 (Birth root_it 5 first 3) ∷ entry 1 (Birth first 2 below 3) ∷ entry 2 (Birth root_it 9 second 4) ∷ entry 3 (Sync below (root_state below 65536 1 [] 0 0 0).small [] None) ∷ []

two_left : unsynced_births hi_system one_synced ≡ (root_it, first) ∷ (root_it, second) ∷ []
unfolding placement
two_left = refl

-- the first child exits; the birth of its own child stays
abbrev one_ended : List Entry
one_ended = entry 0 (Birth root_it 5 first 3) ∷ entry 1 (Birth first 2 below 3) ∷ entry 2 (Birth root_it 9 second 4) ∷ entry 3 (Exit first 7 (Exited 0)) ∷ []

below_stays : unsynced_births hi_system one_ended ≡ (first, below) ∷ (root_it, second) ∷ []
unfolding placement
below_stays = refl

-- their home is lost
abbrev home_lost : List Entry
home_lost = entry 0 (Birth root_it 5 first 3) ∷ entry 1 (Birth first 2 below 3) ∷ entry 2 (Birth root_it 9 second 4) ∷ entry 3 (Crash (cluster 0) Place) ∷ []

still_three : unsynced_births hi_system home_lost ≡ (root_it, first) ∷ (first, below) ∷ (root_it, second) ∷ []
unfolding placement
still_three = refl

-- refused: one that synchronised is still there
not_there : unsynced_births hi_system one_synced ≡ (root_it, first) ∷ (first, below) ∷ (root_it, second) ∷ [] → ⊥
not_there e = let wrong : ◌≡◌ {A = ℕ} 2 3 = ap length (sym two_left ∙ e) in omega (arith, wrong)
