-- Worked examples: a line for each kind of entry, and the placement and the routes of small systems. Each is by evaluation.
use Rattle.std.proofs.Common.{◌≡◌, ℕ, Bool, true, false, List, [], ◌∷◌, Option, Some, None, refl}
use Rattle.std.specs.Prelude.{codes}
use Rattle.std.specs.Fmt.{digits}
use Rattle.hex.proofs.OnLiterals.{hex_on_literals}
use Rattle.t32_base.specs.Small.{SmallState}
use Rattle.t32_base.specs.declared.process.Pid.{Pid}
use Rattle.t32_base.specs.declared.process.ClusterNo.{ClusterNo}
use Rattle.t32_base.specs.declared.process.Mode.TheVariants.{Quarter}
use Rattle.t32_base.specs.declared.process.End.TheVariants.{Exit as Exited, Trap, Killed, Limit}
use Rattle.t32_base.specs.declared.letter.Letter.{Letter}
use Rattle.t32_base.specs.declared.letter.BackRec.{BackRec}
use Rattle.t32_base.specs.declared.letter.Body.{Body}
use Rattle.t32_base.specs.declared.letter.Body.TheVariants.{Said, EndOf, Signal}
use Rattle.t32_base.specs.declared.letter.To.{To}
use Rattle.t32_base.specs.declared.letter.To.TheVariants.{Proc, Tty}
use Rattle.bus_msg.specs.declared.entry.What.{What}
use Rattle.bus_msg.specs.declared.entry.What.TheVariants.{Mail, Birth, Exit, Page, Sync, Fetch, PageIs, Crash, Return, Rebackup, Done, Stop}
use Rattle.bus_msg.specs.declared.entry.Cause.TheVariants.{Place, Step, Disk}
use Rattle.bus_msg.specs.declared.entry.By.{By}
use Rattle.bus_msg.specs.declared.entry.By.TheVariants.{Cluster, Bus}
use Rattle.bus_msg.specs.declared.entry.Dests.{Dests}
use Rattle.bus_msg.specs.declared.entry.Entry.{Entry}
use Rattle.bus_msg.specs.declared.placed.Placed.{Placed}
use Rattle.bus_msg.specs.Places.{ClusterPlace, Places, boot_places, is_covered}
use Rattle.bus_msg.specs.PlacedAfter.{placed_after, placement_after}
use Rattle.bus_msg.specs.Route.{route}
use Rattle.bus_msg.specs.Text.{line_of}

abbrev cluster : ℕ → ClusterNo
cluster n = record { 0 = n }

abbrev process : ℕ → Pid
process n = record { 0 = n }

abbrev dests : ℕ → Option ℕ → Dests
dests clusters tty = record { clusters = clusters; tty = tty }

abbrev entry : ℕ → By → What → Entry
entry place by what = record { place = place; post = record { by = by; what = what }; dests = dests 0 None }

abbrev letter : ℕ → ℕ → To → Body → Letter
letter from out to body = record { from = process from; out = out; to = to; body = body }

abbrev by : ℕ → By
by n = Cluster (cluster n)

-- ---- the line of each kind of entry

says_hi : line_of (entry 0 (by 0) (Mail 6 (letter 16 0 (Tty 0) (Said (104 ∷ 105 ∷ 10 ∷ []))))) ≡ codes "0 0 mail 16 at 6 out 0 tty 0 68690a"
unfolding digits hex_on_literals
says_hi = refl

exits : line_of (entry 1 (by 0) (Exit (process 16) 10 (Exited 0))) ≡ codes "1 0 exit 16 at 10 exit 0"
unfolding digits
exits = refl

rests : line_of (entry 2 Bus (Done ((process 16, 10) ∷ []))) ≡ codes "2 bus done"
unfolding digits
rests = refl

says_x : line_of (entry 3 (by 1) (Mail 9 (letter 17 1 (Proc (process 16) 2) (Said (120 ∷ []))))) ≡ codes "3 1 mail 17 at 9 out 1 to 16 end 2 78"
unfolding digits hex_on_literals
says_x = refl

shuts : line_of (entry 4 (by 1) (Mail 9 (letter 17 1 (Proc (process 16) 2) EndOf))) ≡ codes "4 1 mail 17 at 9 out 1 to 16 end 2 eof"
unfolding digits
shuts = refl

signals : line_of (entry 5 (by 1) (Mail 9 (letter 17 0 (Proc (process 16) 0) (Signal 10)))) ≡ codes "5 1 mail 17 at 9 to 16 sig 10"
unfolding digits
signals = refl

forks : line_of (entry 6 (by 0) (Birth (process 16) 3 (process 32) 1)) ≡ codes "6 0 birth 16 at 3 child 32 end 1"
unfolding digits
forks = refl

traps : line_of (entry 7 (by 0) (Exit (process 16) 10 (Trap 2))) ≡ codes "7 0 exit 16 at 10 trap 2"
unfolding digits
traps = refl

is_killed : line_of (entry 8 (by 0) (Exit (process 16) 10 (Killed 9))) ≡ codes "8 0 exit 16 at 10 killed 9"
unfolding digits
is_killed = refl

has_none_left : line_of (entry 9 (by 0) (Exit (process 16) 1000 Limit)) ≡ codes "9 0 exit 16 at 1000 limit"
unfolding digits
has_none_left = refl

sends_a_page : (bytes : List ℕ) → line_of (entry 10 (by 0) (Page (process 16) 40 3 bytes)) ≡ codes "10 0 page 16 at 40 3"
unfolding digits
sends_a_page bytes = refl

synchronises : (s : SmallState) (read : List ℕ) → line_of (entry 11 (by 0) (Sync (process 16) (record s { steps = 40 }) read None)) ≡ codes "11 0 sync 16 at 40 plain"
unfolding digits
synchronises s read = refl

takes : (s : SmallState) (read : List ℕ) → line_of (entry 12 (by 0) (Sync (process 16) (record s { steps = 40 }) read (Some 10))) ≡ codes "12 0 sync 16 at 40 take 10"
unfolding digits
takes s read = refl

fetches : line_of (entry 13 (by 1) (Fetch (process 16) 3)) ≡ codes "13 1 fetch 16 3"
unfolding digits
fetches = refl

serves : (bytes : List ℕ) → line_of (entry 14 (by 0) (PageIs (process 16) 3 bytes)) ≡ codes "14 0 pageis 16 3"
unfolding digits
serves bytes = refl

is_lost_at_a_place : line_of (entry 15 Bus (Crash (cluster 0) Place)) ≡ codes "15 bus crash 0 place"
unfolding digits
is_lost_at_a_place = refl

is_lost_at_a_step : line_of (entry 16 Bus (Crash (cluster 12) (Step 7))) ≡ codes "16 bus crash 12 step 7"
unfolding digits
is_lost_at_a_step = refl

is_lost_with_its_disk : line_of (entry 17 Bus (Crash (cluster 1) (Disk 4294967295))) ≡ codes "17 bus crash 1 disk 4294967295"
unfolding digits
is_lost_with_its_disk = refl

returns : line_of (entry 18 Bus (Return (cluster 0))) ≡ codes "18 bus return 0"
unfolding digits
returns = refl

-- the step count is that of the state in the record
is_backed_up_fresh : (r : BackRec) (s : SmallState) → line_of (entry 19 (by 1) (Rebackup (cluster 0) true (record r { pid = process 17; state = Some (record s { steps = 80 }) } ∷ []))) ≡ codes "19 1 rebackup 17 at 80 to 0 fresh"
unfolding digits
is_backed_up_fresh r s = refl

-- the pids in the order of the records
is_backed_up_standing : (r q : BackRec) → line_of (entry 20 (by 1) (Rebackup (cluster 2) false (record r { pid = process 17 } ∷ record q { pid = process 33 } ∷ []))) ≡ codes "20 1 rebackup 17 33 to 2 standing"
unfolding digits
is_backed_up_standing r q = refl

stops : line_of (entry 21 Bus Stop) ≡ codes "21 bus stop"
unfolding digits
stops = refl

-- ---- the placement of two clusters with one root, which has home 0 and backup 1

abbrev root : ℕ → ℕ → ℕ → Placed
root pid home backup = record {
  pid = process pid;
  home = cluster home;
  backup = Some (cluster backup);
  mode = Quarter;
  lost = None;
  ended = false;
  synced = false;
}

abbrev place : Bool → Bool → ℕ → ClusterPlace
place lives was_lost serial = record { lives = lives; was_lost = was_lost; next_serial = serial }

abbrev placement : List ClusterPlace → List Placed → Places
placement clusters placed = record { clusters = clusters; pager = (cluster 0, cluster 1); placed = placed }

abbrev alone : Placed
alone = root 16 0 1

abbrev two : Places
two = boot_places 2 (cluster 0, cluster 1) (alone ∷ [])

-- cluster 0 has one root, so its next child has serial 2
at_boot : two ≡ placement (place true false 2 ∷ place true false 1 ∷ []) (alone ∷ [])
at_boot = refl

-- it moves to its backup, and then has none
home_lost : placed_after two (Crash (cluster 0) Place) ≡ placement (place false true 2 ∷ place true false 1 ∷ []) (record alone { home = cluster 1; backup = None; lost = Some (cluster 0) } ∷ [])
home_lost = refl

backup_lost : placed_after two (Crash (cluster 1) Place) ≡ placement (place true false 2 ∷ place false true 1 ∷ []) (record alone { backup = None; lost = Some (cluster 1) } ∷ [])
backup_lost = refl

-- one that has ended stays as it is
ended_before : placement_after two (entry 0 (by 0) (Exit (process 16) 10 (Exited 0)) ∷ entry 1 Bus (Crash (cluster 0) Place) ∷ []) ≡ placement (place false true 2 ∷ place true false 1 ∷ []) (record alone { ended = true } ∷ [])
ended_before = refl

-- a child has the places of its parent, and its home counts it
child_placed : (s : SmallState) → placement_after two (entry 0 (by 0) (Sync (process 16) s [] None) ∷ entry 1 (by 0) (Birth (process 16) 3 (process 32) 1) ∷ []) ≡ placement (place true false 3 ∷ place true false 1 ∷ []) (record alone { synced = true } ∷ root 32 0 1 ∷ [])
child_placed s = refl

-- a cluster that returns lives, and was lost; what was moved from it gets a backup there
backed_up_again : (r : BackRec) → placement_after two (entry 0 Bus (Crash (cluster 0) Place) ∷ entry 1 Bus (Return (cluster 0)) ∷ entry 2 (by 1) (Rebackup (cluster 0) true (record r { pid = process 16 } ∷ [])) ∷ []) ≡ placement (place true true 2 ∷ place true false 1 ∷ []) (record alone { home = cluster 1; backup = Some (cluster 0); lost = Some (cluster 0); synced = true } ∷ [])
backed_up_again r = refl

-- standing, it has not synchronised by that
backed_up_standing : (r : BackRec) → placed_after two (Rebackup (cluster 1) false (record r { pid = process 16 } ∷ [])) ≡ two
backed_up_standing r = refl

may_lose_one : is_covered two (cluster 0) ≡ true
may_lose_one = refl

-- its process has no backup any more
may_not_lose_both : is_covered (placed_after two (Crash (cluster 0) Place)) (cluster 1) ≡ false
may_not_lose_both = refl

-- ---- where entries go

-- to the sender's backup and to the terminal
to_a_terminal : (b : Body) → route two (Mail 6 (letter 16 0 (Tty 0) b)) ≡ dests 2 (Some 0)
to_a_terminal b = refl

an_end_to_all : route two (Exit (process 16) 10 (Exited 0)) ≡ dests 3 None
an_end_to_all = refl

-- 16 has home 0 and backup 1, 17 has home 1 and backup 0: each cluster is named once
abbrev crossed : Places
crossed = boot_places 2 (cluster 0, cluster 1) (root 16 0 1 ∷ root 17 1 0 ∷ [])

to_a_crossed_process : (b : Body) → route crossed (Mail 6 (letter 16 1 (Proc (process 17) 1) b)) ≡ dests 3 None
to_a_crossed_process b = refl

-- four clusters: 18 has home 2 and backup 3, 19 has home 3 and backup 1
abbrev four : Places
four = boot_places 4 (cluster 0, cluster 1) (root 18 2 3 ∷ root 19 3 1 ∷ [])

-- to clusters 3 and 1, and 3 once more as the sender's backup
between_two : (b : Body) → route four (Mail 6 (letter 18 1 (Proc (process 19) 1) b)) ≡ dests 10 None
between_two b = refl

-- to clusters 2 and 3, and 1 as the sender's backup
and_back : (b : Body) → route four (Mail 6 (letter 19 1 (Proc (process 18) 1) b)) ≡ dests 14 None
and_back b = refl

-- a receiver that has ended is left out
to_an_ended_one : (b : Body) → route (placed_after four (Exit (process 19) 10 Limit)) (Mail 6 (letter 18 1 (Proc (process 19) 1) b)) ≡ dests 8 None
to_an_ended_one b = refl

-- a lost cluster is left out
after_a_loss : (b : Body) → route (placed_after four (Crash (cluster 3) (Step 2))) (Mail 6 (letter 18 1 (Proc (process 19) 1) b)) ≡ dests 2 None
after_a_loss b = refl

a_page_to_the_servers : (bytes : List ℕ) → route four (Page (process 18) 40 3 bytes) ≡ dests 3 None
a_page_to_the_servers bytes = refl

-- the backup and the servers
a_synchronisation : (s : SmallState) → route four (Sync (process 18) s [] None) ≡ dests 11 None
a_synchronisation s = refl

-- the home and the servers
a_served_page : (bytes : List ℕ) → route four (PageIs (process 18) 3 bytes) ≡ dests 7 None
a_served_page bytes = refl

-- a server that was lost serves no more, also when it has returned
one_server_left : route (placed_after (placed_after four (Crash (cluster 0) Place)) (Return (cluster 0))) (Fetch (process 18) 3) ≡ dests 2 None
one_server_left = refl

-- the three that live, and the one that returns
a_return_to_all : route (placed_after four (Crash (cluster 2) Place)) (Return (cluster 2)) ≡ dests 15 None
a_return_to_all = refl

a_loss_to_all : route four (Crash (cluster 2) Place) ≡ dests 15 None
a_loss_to_all = refl
