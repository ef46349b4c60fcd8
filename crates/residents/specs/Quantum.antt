-- The turn of a process. It synchronises where it is due; else a quantum: steps that it did before, in which what it sends is withheld; silent steps; and at most one emission at their end.
use Rattle.std.specs.Prelude.{ℕ, ◌+◌, ◌≤◌, ◌<◌, ◌≡◌, Bool, true, false, List, Some, Result, Ok, Err, ⊤}
use Rattle.t32_base.specs.declared.streams.NoMemory.{NoMemory}
use Rattle.t32_base.specs.declared.process.Pid.{Pid}
use Rattle.t32_base.specs.declared.process.ClusterNo.{ClusterNo}
use Rattle.t32_base.specs.declared.process.Counts.{Counts}
use Rattle.t32_base.specs.declared.process.End.{End}
use Rattle.t32_base.specs.Small.{SmallState}
use Rattle.proc_state.specs.declared.process.Process.{Process}
use Rattle.proc_state.specs.State.{state_of}
use Rattle.sys_calls.specs.declared.steps.Emission.{Emission}
use Rattle.sys_calls.specs.declared.steps.Emission.TheVariants.{Mail as SentMail, Exit as SentExit}
use Rattle.sys_calls.specs.Calls.{Emits, Forks}
use Rattle.sys_calls.specs.Next.{next_step, has_step, is_end, is_exit}
use Rattle.sys_calls.specs.Fork.{CanFork, fork_end}
use Rattle.roll_forward.specs.RunsOut.{RunsOut}
use Rattle.roll_forward.specs.Advancing.{going, rolled_on}
use Rattle.bus_msg.specs.declared.entry.What.{What}
use Rattle.bus_msg.specs.declared.entry.What.TheVariants.{Mail, Exit}
use Rattle.bus_msg.specs.declared.entry.By.TheVariants.{Cluster}
use Rattle.bus_msg.specs.declared.entry.Post.{Post}
use Rattle.sync_point.specs.Batch.{batch, synced}
use Rattle.backup_mode.specs.Renewal.{cleared, renewal}
use Rattle.quanta.specs.declared.limits.Limits.{Limits}
use Rattle.quanta.specs.declared.quantum.Ran.{Ran}
use Rattle.quanta.specs.declared.quantum.Ran.TheVariants.{Moved as RanOn, Refused, Sent as RanSending, Stuck as RanStuck, Forks as RanToFork, Ends as RanToEnd}
use Rattle.quanta.specs.Limited.{is_due, is_within}
use Rattle.quanta.specs.Quantum.{RunsOn, Moves as MovesAlone, StandsAtFork}
use Rattle.residents.specs.declared.quantum.Sending.{Sending}
use Rattle.residents.specs.declared.quantum.Forking.{Forking}
use Rattle.residents.specs.declared.quantum.Quantum.{Quantum}
use Rattle.residents.specs.declared.quantum.Quantum.TheVariants.{Moved, Sent, Synced, Renewed, Stuck, Forks as AtFork}
use Rattle.residents.specs.Held.{Held, Runs, Rolls, Waits, IsHeldWithin, can_act}

-- ---- what is withheld

-- n steps of roll-forward, after which so many more are to come until nothing is left to withhold
pub record RollsOn (n ahead : ℕ) (p : Process) (counts : Counts) (births : List Pid) (q : Process) (left : Counts) (unborn : List Pid) : Type 0 where
  pub runs_out : RunsOut (state_of p) counts births (n + ahead)
  pub rolled : rolled_on n (going p counts births) ≡ Some (going q left unborn)
  pub since : q.since ≡ p.since

-- One that runs withholds nothing. One that rolls forward makes n steps, after which it still rolls forward where something is left to withhold, and runs where nothing is.
abbrev pub RollsTo : ℕ → Held → Held → Type 0
RollsTo n (Runs p) (Runs q) = (n ≡ 0) × (q ≡ p)
RollsTo n (Runs p) (Rolls q left unborn) = ⊥
RollsTo n (Runs p) (Waits waiting) = ⊥
RollsTo n (Rolls p counts births) (Runs q) = (left : Counts) × (unborn : List Pid) × RollsOn n 0 p counts births q left unborn
RollsTo n (Rolls p counts births) (Rolls q left unborn) = (ahead : ℕ) × (1 ≤ ahead) × RollsOn n ahead p counts births q left unborn
RollsTo n (Rolls p counts births) (Waits waiting) = ⊥
RollsTo n (Waits waiting) new = ⊥

-- ---- the quantum

-- m silent steps of one that runs; one that still rolls forward makes none
abbrev pub RunsTo : ℕ → Held → Held → Type 0
RunsTo m (Runs p) (Runs q) = RunsOn m p q
RunsTo m (Runs p) (Rolls q left unborn) = ⊥
RunsTo m (Runs p) (Waits waiting) = ⊥
RunsTo m (Rolls p counts births) new = (m ≡ 0) × (new ≡ Rolls p counts births)
RunsTo m (Waits waiting) new = ⊥

-- after so many steps of a quantum, silent ones, one at least of both together, none of which leads beyond the limits
pub record Moves (limits : Limits) (most made : ℕ) (old new : Held) : Type 0 where
  pub silent : ℕ
  pub some : 1 ≤ made + silent
  pub few : made + silent ≤ most
  pub runs : RunsTo silent old new
  pub within : IsHeldWithin limits old → IsHeldWithin limits new

-- silent steps, and then one of a process that is not due, which sends something and touches the state alone
pub record Sends (limits : Limits) (most made : ℕ) (old : Held) (sending : Sending) (new : Held) : Type 0 where
  pub silent : ℕ
  pub between : Process
  pub before : Process
  pub now : Process
  pub few : made + silent < most
  pub old_is : old ≡ Runs between
  pub runs : RunsOn silent between before
  pub undue : is_due limits before ≡ false
  pub sends : next_step (state_of before) ≡ Emits sending.emission (state_of now)
  pub touches : now ≡ record before { small = now.small }
  pub within : is_within limits between ≡ true → is_within limits now ≡ true
  pub new_is : new ≡ Runs now
  pub pid_is : sending.pid ≡ (now.small).pid
  pub at_is : sending.at ≡ (now.small).steps

-- the step that the fork of a process with this state is, and the end that it links
abbrev pub forking_of : SmallState → Forking
forking_of small = record { pid = small.pid; at = small.steps + 1; end = fork_end small }

-- silent steps, after which a process that is not due stands before its fork
pub record ComesToFork (limits : Limits) (most made : ℕ) (old : Held) (forking : Forking) (new : Held) : Type 0 where
  pub silent : ℕ
  pub between : Process
  pub now : Process
  pub few : made + silent < most
  pub old_is : old ≡ Runs between
  pub runs : RunsOn silent between now
  pub undue : is_due limits now ≡ false
  pub forks : next_step (state_of now) ≡ Forks
  pub within : is_within limits between ≡ true → is_within limits now ≡ true
  pub new_is : new ≡ Runs now
  pub forking_is : forking ≡ forking_of now.small

-- one that runs and is due synchronises, by the posts of its batch
pub record Syncs (limits : Limits) (by : ClusterNo) (old : Held) (posts : List Post) (new : Held) : Type 0 where
  pub process : Process
  pub old_is : old ≡ Runs process
  pub due : is_due limits process ≡ true
  pub posts_are : posts ≡ batch process by
  pub new_is : new ≡ Runs (synced process)

-- it ends by it only where it has no child that is to synchronise first
abbrev pub EndsChildless : Bool → Emission → Type 0
EndsChildless childless e = is_end e ≡ true → childless ≡ true

-- After so many steps of the quantum, in which it rolled forward, it moved, or sent something, or came to its fork; where there were none it may have synchronised, or could not move. Want of memory leaves it as it was.
abbrev pub RunsQuantum : Limits → ClusterNo → ℕ → Bool → ℕ → Held → Result Quantum NoMemory → Held → Type 0
RunsQuantum limits by most childless made old (Ok Moved) new = Moves limits most made old new
RunsQuantum limits by most childless made old (Ok (Sent sending)) new = Sends limits most made old sending new × EndsChildless childless sending.emission
RunsQuantum limits by most childless made old (Ok (Synced posts)) new = (made ≡ 0) × Syncs limits by old posts new
RunsQuantum limits by most childless made old (Ok (Renewed posts)) new = ⊥
RunsQuantum limits by most childless made old (Ok Stuck) new = (made ≡ 0) × (can_act limits old ≡ false) × (new ≡ old)
RunsQuantum limits by most childless made old (Ok (AtFork forking)) new = ComesToFork limits most made old forking new
RunsQuantum limits by most childless made old (Err fault) new = (made ≡ 0) × (new ≡ old)

-- one that runs synchronised, by the posts of its batch
pub record SyncsNow (by : ClusterNo) (old : Held) (posts : List Post) (new : Held) : Type 0 where
  pub process : Process
  pub old_is : old ≡ Runs process
  pub posts_are : posts ≡ batch process by
  pub new_is : new ≡ Runs (synced process)

-- one that runs sends what brings it its new backup
pub record RenewsNow (to by : ClusterNo) (old : Held) (posts : List Post) (new : Held) : Type 0 where
  pub process : Process
  pub old_is : old ≡ Runs process
  pub posts_are : posts ≡ renewal process to by
  pub new_is : new ≡ Runs (cleared process)

-- ---- its part in which the process runs

-- what the last step of a process with this state sent
abbrev pub sending_of : SmallState → Emission → Sending
sending_of small emission = record { pid = small.pid; at = small.steps; emission = emission }

-- one that stands before its end ends by its next step
pub record EndsNow (old : Process) (quantum : Quantum) (new : Process) : Type 0 where
  pub end : End
  pub ends : next_step (state_of old) ≡ Emits (SentExit end) (state_of new)
  pub touches : new ≡ record old { small = new.small }
  pub is : quantum ≡ Sent (sending_of new.small (SentExit end))

-- one that stands before its end ends where it has no child that is to synchronise first, and stays there else
abbrev pub EndsOrStays : Bool → Process → Quantum → Process → Type 0
EndsOrStays true old quantum new = EndsNow old quantum new
EndsOrStays false old quantum new = (quantum ≡ Moved) × (new ≡ old)

-- what a cluster says of it, and what becomes of the process
abbrev pub Tells : Ran → Bool → Process → Quantum → Process → Type 0
Tells RanOn childless old quantum new = (quantum ≡ Moved) × (new ≡ old)
Tells Refused childless old quantum new = (quantum ≡ Moved) × (new ≡ old)
Tells (RanSending letter) childless old quantum new = (quantum ≡ Sent (sending_of old.small (SentMail letter))) × (new ≡ old)
Tells RanStuck childless old quantum new = (quantum ≡ Stuck) × (new ≡ old)
Tells RanToFork childless old quantum new = (quantum ≡ AtFork (forking_of old.small)) × (new ≡ old)
Tells (RanToEnd count) childless old quantum new = EndsOrStays childless old quantum new

-- one that is to fork can fork, and one that is to end stands before its end
abbrev pub CanTell : Ran → Process → Type 0
CanTell RanToFork p = CanFork (state_of p)
CanTell (RanToEnd count) p = is_exit (next_step (state_of p)) ≡ true
CanTell ran p = ⊤

-- silent steps, none of which leads beyond the limits
pub record RestMoves (limits : Limits) (most made : ℕ) (old new : Process) : Type 0 where
  pub moves : MovesAlone most made old new
  pub within : is_within limits old ≡ true → is_within limits new ≡ true

-- silent steps, and one of a process that is not due, which sends something and touches the state alone; none of them leads beyond the limits
pub record RestSends (limits : Limits) (most made : ℕ) (old : Process) (sending : Sending) (new : Process) : Type 0 where
  pub steps : ℕ
  pub before : Process
  pub few : made + steps < most
  pub silent : RunsOn steps old before
  pub undue : is_due limits before ≡ false
  pub sends : next_step (state_of before) ≡ Emits sending.emission (state_of new)
  pub touches : new ≡ record before { small = new.small }
  pub within : is_within limits old ≡ true → is_within limits new ≡ true
  pub pid_is : sending.pid ≡ (new.small).pid
  pub at_is : sending.at ≡ (new.small).steps

-- silent steps up to its fork, none of which leads beyond the limits
pub record RestComesToFork (limits : Limits) (most made : ℕ) (old : Process) (forking : Forking) (new : Process) : Type 0 where
  pub stands : StandsAtFork limits most made old new
  pub within : is_within limits old ≡ true → is_within limits new ≡ true
  pub forking_is : forking ≡ forking_of new.small

-- the rest of a turn after so many steps: where there were none, it may be due and synchronise, or have no step, or no memory for the first
abbrev pub ActsOn : Limits → ClusterNo → ℕ → Bool → ℕ → Process → Result Quantum NoMemory → Process → Type 0
ActsOn limits by most childless made old (Ok Moved) new = RestMoves limits most made old new
ActsOn limits by most childless made old (Ok (Sent sending)) new = RestSends limits most made old sending new × EndsChildless childless sending.emission
ActsOn limits by most childless made old (Ok (Synced posts)) new = (made ≡ 0) × (is_due limits old ≡ true) × (posts ≡ batch old by) × (new ≡ synced old)
ActsOn limits by most childless made old (Ok (Renewed posts)) new = ⊥
ActsOn limits by most childless made old (Ok Stuck) new = (made ≡ 0) × (is_due limits old ≡ false) × (has_step (next_step (state_of old)) ≡ false) × (new ≡ old)
ActsOn limits by most childless made old (Ok (AtFork forking)) new = RestComesToFork limits most made old forking new
ActsOn limits by most childless made old (Err fault) new = (made ≡ 0) × (new ≡ old)

-- ---- what is posted

-- of an emission of a process by the step `at`
abbrev pub told_of : Pid → ℕ → Emission → What
told_of pid at (SentMail letter) = Mail at letter
told_of pid at (SentExit end) = Exit pid at end

abbrev pub post_told : ClusterNo → Pid → ℕ → Emission → Post
post_told k pid at e = record { by = Cluster k; what = told_of pid at e }
