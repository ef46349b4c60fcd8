-- The processes at home in a cluster, as its code keeps them.
use Rattle.std.specs.Prelude.{ℕ, ◌≡◌, ◌⊎◌, ◌<◌, ◌-◌, ◌^◌, Bool, true, not, ◌&&◌, nat_lt, List, [], ◌∷◌, map, filter, find, Option, Some, None, is_none, ◌||◌, Result, Ok, Err}
use Rattle.std.specs.List.{list_all}
use Rattle.std.specs.Option.{option_or}
use Rattle.t32_base.specs.declared.process.Pid.{Pid}
use Rattle.t32_base.specs.declared.process.ClusterNo.{ClusterNo}
use Rattle.t32_base.specs.declared.streams.NoMemory.{NoMemory}
use Rattle.proc_state.specs.declared.process.Process.{Process}
use Rattle.bus_msg.specs.declared.entry.Post.{Post}
use Rattle.bus_msg.specs.Places.{same_pid}
use Rattle.birth_notice.specs.Family.{first_unsynced}
use Rattle.sync_point.specs.Batch.{batch, synced}
use Rattle.backup_mode.specs.Renewal.{cleared, renewal}
use Rattle.plain_kernel.specs.Maps.{pid_of}
use Rattle.cert_sched.specs.Parts.{first_of}
use Rattle.quanta.specs.declared.limits.Limits.{Limits}
use Rattle.residents.specs.declared.quantum.Quantum.{Quantum}
use Rattle.residents.specs.declared.quantum.Quantum.TheVariants.{Moved, Sent, Synced, Renewed, Stuck, Forks}
use Rattle.residents.specs.Quantum.{RunsQuantum}
pub use Rattle.residents.specs.Changed.{with_changed, with_more}
use Rattle.residents.specs.ChildrenFirst.{child_before, has_turn}
use Rattle.residents.specs.ForkingAgain.{RollsAgain}
use Rattle.residents.specs.Duty.{DutyView, is_able, owed_at}
use Rattle.residents.specs.Held.{Held, Runs, asked_held, can_act, held_of, is_waiting, next_number, page_lacked}

-- what they owe beside their steps; the processes by rising pid; the pids of those that may move, rising; those of which some may have pages to ask for, rising; and the pid that was chosen last, 0 before any was
pub record ResidentsView : Type 0 where
  pub duty : DutyView
  pub here : List (Pid × Held)
  pub ready : List ℕ
  pub asking : List ℕ
  pub last : ℕ

-- each of them may get one letter more
abbrev pub HasRoom : List (Pid × Held) → Type 0
HasRoom here = (pid : Pid) (h : Held) → held_of here pid ≡ Some h → next_number h < 2 ^ 64 - 1

-- it cannot have a turn
abbrev pub is_stuck : DutyView → Pid × Held → Bool
is_stuck duty e = not (is_able duty e)

-- none of them can
abbrev pub are_stuck : DutyView → List (Pid × Held) → Bool
are_stuck duty here = list_all (is_stuck duty) here

abbrev pub pids_in : List (Pid × Held) → List ℕ
pids_in here = map (λ (e : Pid × Held). (e.0).0) here

-- the pids of those that can have a turn
abbrev pub pids_able : DutyView → List (Pid × Pid) → List (Pid × Held) → List ℕ
pids_able duty family here = pids_in (filter (has_turn duty family here) here)

-- none of them can
abbrev pub none_has_turn : DutyView → List (Pid × Pid) → List (Pid × Held) → Bool
none_has_turn duty family here = list_all (λ (e : Pid × Held). not (has_turn duty family here e)) here

-- each number is below those after it
abbrev pub are_rising : List ℕ → Bool
are_rising [] = true
are_rising (n ∷ ns) = list_all (λ m. nat_lt n m) ns && are_rising ns

-- of these pids, the next in rising order after the one that was chosen last, cyclically
abbrev pub next_ready : List ℕ → ℕ → Option ℕ
next_ready ready last = option_or (find (λ n. nat_lt last n) ready) (first_of ready)

-- the process with a pid is the next one that can have a turn, where it can by itself
abbrev pub NextAble : ℕ → List (Pid × Pid) → ResidentsView → Type 0
NextAble n family rs = (h : Held) → held_of rs.here (pid_of n) ≡ Some h → is_able rs.duty (pid_of n, h) ≡ true → next_ready (pids_able rs.duty family rs.here) rs.last ≡ Some n

-- ---- a turn

-- the process with a pid, which runs here, synchronised by the posts of its batch
pub record SyncsAt (by : ClusterNo) (pid : Pid) (old : List (Pid × Held)) (posts : List Post) (new : List (Pid × Held)) : Type 0 where
  pub process : Process
  pub there : held_of old pid ≡ Some (Runs process)
  pub posts_are : posts ≡ batch process by
  pub here : new ≡ with_changed pid (Runs (synced process)) old

-- the process with a pid made some steps again, and then ran for the rest of the quantum, or synchronised; the others stayed, but for children whose forks were made again
pub record RunsOne (limits : Limits) (by : ClusterNo) (childless : Bool) (pid : Pid) (old : List (Pid × Held)) (quantum : Quantum) (new : List (Pid × Held)) : Type 0 where
  pub made : ℕ
  pub mid : List (Pid × Held)
  pub again : RollsAgain pid made old mid
  pub was : Held
  pub now : Held
  pub there : held_of mid pid ≡ Some was
  pub ran : RunsQuantum limits by 64 childless made was (Ok quantum) now
  pub here : new ≡ with_changed pid now mid

-- the process with a pid, which runs here, sends what brings it its new backup in a cluster: its changed pages, and its record as it is
pub record RenewsAt (by to : ClusterNo) (pid : Pid) (old : List (Pid × Held)) (posts : List Post) (new : List (Pid × Held)) : Type 0 where
  pub process : Process
  pub there : held_of old pid ≡ Some (Runs process)
  pub posts_are : posts ≡ renewal process to by
  pub here : new ≡ with_changed pid (Runs (cleared process)) old

-- the process with a pid, before which no child is to synchronise and which is to get no new backup, had its turn in a cluster, and the others stayed
pub record TakesTurn (duty : DutyView) (by : ClusterNo) (family : List (Pid × Pid)) (pid : Pid) (old : List (Pid × Held)) (quantum : Quantum) (new : List (Pid × Held)) : Type 0 where
  pub alone : child_before duty family old pid ≡ None
  pub unowed : owed_at duty old pid ≡ None
  pub ran : RunsOne duty.limits by (is_none (first_unsynced family pid)) pid old quantum new

-- in its place the child that is to synchronise before it did so, by the posts of its batch
pub record SyncsChild (duty : DutyView) (by : ClusterNo) (family : List (Pid × Pid)) (pid : Pid) (old : List (Pid × Held)) (posts : List Post) (new : List (Pid × Held)) : Type 0 where
  pub child : Pid
  pub before : child_before duty family old pid ≡ Some child
  pub syncs : SyncsAt by child old posts new

-- no child is to synchronise before it, and it sends what brings it the new backup that it is to get
pub record Renews (duty : DutyView) (by : ClusterNo) (family : List (Pid × Pid)) (pid : Pid) (old : List (Pid × Held)) (posts : List Post) (new : List (Pid × Held)) : Type 0 where
  pub alone : child_before duty family old pid ≡ None
  pub to : ClusterNo
  pub owed : owed_at duty old pid ≡ Some to
  pub renews : RenewsAt by to pid old posts new

-- one of these
abbrev pub HasTurn : DutyView → ClusterNo → List (Pid × Pid) → Pid → List (Pid × Held) → Quantum → List (Pid × Held) → Type 0
HasTurn duty by family pid old Moved new = TakesTurn duty by family pid old Moved new
HasTurn duty by family pid old (Sent sending) new = TakesTurn duty by family pid old (Sent sending) new
HasTurn duty by family pid old (Synced posts) new = TakesTurn duty by family pid old (Synced posts) new ⊎ SyncsChild duty by family pid old posts new
HasTurn duty by family pid old (Renewed posts) new = Renews duty by family pid old posts new
HasTurn duty by family pid old (Forks forking) new = TakesTurn duty by family pid old (Forks forking) new
HasTurn duty by family pid old Stuck new = TakesTurn duty by family pid old Stuck new

-- it was the next process that can have a turn, in rising pid order after the one that was chosen last, cyclically
pub record ChosenTurn (by : ClusterNo) (family : List (Pid × Pid)) (old : ResidentsView) (quantum : Quantum) (new : ResidentsView) : Type 0 where
  pub chosen : next_ready (pids_able old.duty family old.here) old.last ≡ Some new.last
  pub takes : HasTurn old.duty by family (pid_of new.last) old.here quantum new.here

-- one of them moved, or sent something, or synchronised, or sent what brings it its new backup, or came to its fork, or none can have a turn; after want of memory no process has changed
abbrev pub TurnIs : ClusterNo → List (Pid × Pid) → ResidentsView → Result Quantum NoMemory → ResidentsView → Type 0
TurnIs by family old (Ok Moved) new = ChosenTurn by family old Moved new
TurnIs by family old (Ok (Sent sending)) new = ChosenTurn by family old (Sent sending) new
TurnIs by family old (Ok (Synced posts)) new = ChosenTurn by family old (Synced posts) new
TurnIs by family old (Ok (Renewed posts)) new = ChosenTurn by family old (Renewed posts) new
TurnIs by family old (Ok (Forks forking)) new = ChosenTurn by family old (Forks forking) new
TurnIs by family old (Ok Stuck) new = (none_has_turn old.duty family old.here ≡ true) × (new.here ≡ old.here) × (new.last ≡ old.last)
TurnIs by family old (Err fault) new = new.here ≡ old.here

-- none of them can have a turn, whichever children never synchronised
abbrev pub NoneHasTurn : ResidentsView → Type 0
NoneHasTurn r = (family : List (Pid × Pid)) → none_has_turn r.duty family r.here ≡ true

-- it cannot have a turn, and does not wait for a page
abbrev pub is_settled : DutyView → Pid × Held → Bool
is_settled duty e = is_stuck duty e && not (is_waiting e.1)

-- so it is of each of them
abbrev pub are_settled : DutyView → List (Pid × Held) → Bool
are_settled duty here = list_all (is_settled duty) here

-- ---- pages to ask for

-- the process with a pid has no page to ask for, if it is there
abbrev pub lacks_none_at : Pid → List (Pid × Held) → Bool
lacks_none_at pid here = list_all (λ (e : Pid × Held). not (same_pid e.0 pid) || is_none (page_lacked e.1)) here

-- the lowest page that the process with a pid had not asked for is asked for
pub record AsksPage (pid : Pid) (old : List (Pid × Held)) (index : ℕ) (new : List (Pid × Held)) : Type 0 where
  pub was : Held
  pub there : held_of old pid ≡ Some was
  pub lacks : page_lacked was ≡ Some index
  pub here : new ≡ with_changed pid (asked_held was) old

-- so it is, or it has none to ask for
abbrev pub AsksOf : Pid → List (Pid × Held) → Option ℕ → List (Pid × Held) → Type 0
AsksOf pid old None new = (lacks_none_at pid old ≡ true) × (new ≡ old)
AsksOf pid old (Some index) new = AsksPage pid old index new

-- ---- a turn of one of them

-- the process with a pid cannot have a turn, if it is there
abbrev pub is_stuck_at : DutyView → Pid → List (Pid × Held) → Bool
is_stuck_at duty pid here = list_all (λ (e : Pid × Held). not (same_pid e.0 pid) || is_stuck duty (pid, e.1)) here

-- it cannot move, if it is there
abbrev pub stays_at : Limits → Pid → List (Pid × Held) → Bool
stays_at limits pid here = list_all (λ (e : Pid × Held). not (same_pid e.0 pid) || not (can_act limits e.1)) here

-- so many steps of the quantum were made before
pub record RunsRest (limits : Limits) (by : ClusterNo) (childless : Bool) (made : ℕ) (pid : Pid) (old : List (Pid × Held)) (quantum : Quantum) (new : List (Pid × Held)) : Type 0 where
  pub was : Held
  pub now : Held
  pub there : held_of old pid ≡ Some was
  pub ran : RunsQuantum limits by 64 childless made was (Ok quantum) now
  pub here : new ≡ with_changed pid now old

-- the rest of a quantum of the process with a pid, or it cannot move, if it is there; where memory is refused for the first step, nothing has changed
abbrev pub RunsOnAt : Limits → ClusterNo → Bool → ℕ → Pid → List (Pid × Held) → Result Quantum NoMemory → List (Pid × Held) → Type 0
RunsOnAt limits by childless made pid old (Ok Moved) new = RunsRest limits by childless made pid old Moved new
RunsOnAt limits by childless made pid old (Ok (Sent sending)) new = RunsRest limits by childless made pid old (Sent sending) new
RunsOnAt limits by childless made pid old (Ok (Synced posts)) new = RunsRest limits by childless made pid old (Synced posts) new
RunsOnAt limits by childless made pid old (Ok (Forks forking)) new = RunsRest limits by childless made pid old (Forks forking) new
RunsOnAt limits by childless made pid old (Ok (Renewed posts)) new = ⊥
RunsOnAt limits by childless made pid old (Ok Stuck) new = (made ≡ 0) × (stays_at limits pid old ≡ true) × (new ≡ old)
RunsOnAt limits by childless made pid old (Err fault) new = (made ≡ 0) × (new ≡ old)

-- so it did, or it cannot move, if it is there; where memory is refused for the first step, nothing has changed
abbrev pub RunsAt : Limits → ClusterNo → Bool → Pid → List (Pid × Held) → Result Quantum NoMemory → List (Pid × Held) → Type 0
RunsAt limits by childless pid old (Ok Moved) new = RunsOne limits by childless pid old Moved new
RunsAt limits by childless pid old (Ok (Sent sending)) new = RunsOne limits by childless pid old (Sent sending) new
RunsAt limits by childless pid old (Ok (Synced posts)) new = RunsOne limits by childless pid old (Synced posts) new
RunsAt limits by childless pid old (Ok (Forks forking)) new = RunsOne limits by childless pid old (Forks forking) new
RunsAt limits by childless pid old (Ok (Renewed posts)) new = ⊥
RunsAt limits by childless pid old (Ok Stuck) new = (stays_at limits pid old ≡ true) × (new ≡ old)
RunsAt limits by childless pid old (Err fault) new = new ≡ old

-- the process with a pid, which no child hinders, had its turn, or cannot have one; after want of memory nothing has changed
abbrev pub GivenTurnIs : DutyView → ClusterNo → List (Pid × Pid) → Pid → List (Pid × Held) → Result Quantum NoMemory → List (Pid × Held) → Type 0
GivenTurnIs duty by family pid old (Ok Moved) new = HasTurn duty by family pid old Moved new
GivenTurnIs duty by family pid old (Ok (Sent sending)) new = HasTurn duty by family pid old (Sent sending) new
GivenTurnIs duty by family pid old (Ok (Synced posts)) new = HasTurn duty by family pid old (Synced posts) new
GivenTurnIs duty by family pid old (Ok (Renewed posts)) new = HasTurn duty by family pid old (Renewed posts) new
GivenTurnIs duty by family pid old (Ok (Forks forking)) new = HasTurn duty by family pid old (Forks forking) new
GivenTurnIs duty by family pid old (Ok Stuck) new = (is_stuck_at duty pid old ≡ true) × (new ≡ old)
GivenTurnIs duty by family pid old (Err fault) new = new ≡ old
