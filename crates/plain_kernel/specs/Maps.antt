-- The maps that hold a kernel, and what of it is still to come.
use Rattle.std.specs.Prelude.{ℕ, ◌≡◌, ◌+◌, ◌*◌, ◌^◌, ◌%◌, ◌==◌, ◌≤◌, ◌<◌, max, Bool, true, false, ◌||◌, if◌then◌else◌, List, [], fold, find, length, map, slice_get, option_map, Option, Some, None, IsSome, Result, Ok, Err, All}
use Rattle.std.specs.Ordering.{nat_cmp, is_eq, is_gt}
use Rattle.std.specs.List.Sorted.{IsStrictlySortedBy}
use Rattle.std.specs.List.{list_any, sum_by}
use Rattle.std.specs.Map.{values_of, lookup, set_value}
use Rattle.std.specs.BTreeMap.{insert_entry}
use Rattle.std.specs.Option.{option_map_or}
use Rattle.t32_base.specs.declared.process.Pid.{Pid}
use Rattle.proc_state.specs.declared.process.Process.{Process}
use Rattle.t32_base.specs.declared.letter.Letter.{Letter}
use Rattle.proc_state.specs.State.{ProcState, IsFresh, can_take, delivered, has_ended, state_of}
use Rattle.t32_base.specs.declared.streams.NoMemory.{NoMemory}
use Rattle.sys_calls.specs.declared.steps.Step.{Step}
use Rattle.sys_calls.specs.declared.steps.Step.TheVariants.{Silent, Blocked, Forks, Emit, Over}
use Rattle.sys_calls.specs.Small.{weight_with_children}
use Rattle.sys_calls.specs.Fork.{fork_child, fork_parent}
use Rattle.sys_calls.specs.Next.{has_step, is_fork, next_step, silently}
use Rattle.sys_calls.specs.Steps.{Makes, StaysUntaken, Touches}
use Rattle.sys_calls.specs.Take.{taken}
use Rattle.t32_base.specs.Small.{SmallState}
use Rattle.plain_kernel.specs.declared.sending.Made.{Made}
use Rattle.plain_kernel.specs.declared.sending.Made.TheVariants.{Went, Sent, Stuck}
use Rattle.std.specs.FinMap.{put}
use Rattle.sys_text.specs.declared.system.System.{System}
use Rattle.sys_text.specs.declared.system.Image.{Image}
use Rattle.sys_text.specs.declared.system.Root.{Root}
use Rattle.sys_text.specs.Boot.{roots_of}
use Rattle.plain_kernel.specs.Kernel.{Kernel, pid_cmp, root_process, with_chan}
use Rattle.plain_kernel.specs.Apply.{one_step, steps}
use Rattle.plain_kernel.specs.Still.{default_after}
use Rattle.plain_kernel.specs.declared.item.NotApplied.{NotApplied}
use Rattle.plain_kernel.specs.declared.item.NotApplied.TheVariants.{Disabled, NoMemory as NoStepMemory}

abbrev pub pid_of : ℕ → Pid
pid_of n = record { 0 = n }

abbrev pub processes_of : List (ℕ × Process) → List (Pid × ProcState)
processes_of es = map (λ (e : ℕ × Process). (pid_of e.0, state_of e.1)) es

-- the kernel that two maps hold
abbrev pub kernel_of : List (ℕ × Process) → List (ℕ × List ℕ) → Kernel
kernel_of processes ttys = record { processes = processes_of processes; ttys = ttys }

-- each of them is at its start
abbrev pub AreFresh : List (ℕ × Process) → Type 0
AreFresh es = All IsFresh (values_of es)

-- a step uses up two, and the letter that it sends adds one; what a child uses up is part of its parent's until then
abbrev pub load : Process → ℕ
load p = 2 * weight_with_children p.small + (p.mail).next

-- so no process is ever sent more letters than a number holds, and each run ends
abbrev pub total_load : List (ℕ × Process) → ℕ
total_load es = sum_by load (values_of es)

abbrev pub at_key : ℕ → ℕ → Bool
at_key k q = is_eq (nat_cmp k q)

-- the process with a pid was changed in its place
pub record Changes (old new : List (ℕ × Process)) (pid : ℕ) (was now : Process) : Type 0 where
  pub found : lookup (at_key pid) old ≡ Some was
  pub entries : new ≡ set_value (at_key pid) old now
  pub ordered : IsStrictlySortedBy nat_cmp (map (λ (e : ℕ × Process). e.0) old)

-- each process whose pid does not pass a test is as it was
abbrev pub SameBut : (ℕ → Bool) → List (ℕ × Process) → List (ℕ × Process) → Type 0
SameBut touched old new = (q : ℕ) → touched q ≡ false → lookup (at_key q) new ≡ lookup (at_key q) old

-- a letter went to the process with a pid, and no other changed; or it went to none
abbrev pub GoesTo : Option ℕ → List (ℕ × Process) → List (ℕ × Process) → Type 0
GoesTo None old new = new ≡ old
GoesTo (Some to) old new = SameBut (at_key to) old new

-- it made so many silent steps
pub record RunsAt (old new : List (ℕ × Process)) (pid n : ℕ) : Type 0 where
  pub was : Process
  pub now : Process
  pub changes : Changes old new pid was now
  pub silent : silently n (state_of was) ≡ Some (state_of now)
  pub lighter : load now + 2 * n ≤ load was

-- a step that was made leaves less to come
abbrev pub Lighter : Result Step NoMemory → Process → Process → Type 0
Lighter (Ok Silent) was now = load now + 2 ≤ load was
Lighter (Ok (Emit e)) was now = load now + 2 ≤ load was
Lighter (Ok Blocked) was now = Unit {0}
Lighter (Ok Forks) was now = Unit {0}
Lighter (Ok Over) was now = Unit {0}
Lighter (Err e) was now = Unit {0}

-- it made its next step
pub record StepsAt (old new : List (ℕ × Process)) (pid : ℕ) (result : Result Step NoMemory) : Type 0 where
  pub was : Process
  pub now : Process
  pub changes : Changes old new pid was now
  pub makes : Makes (next_step (state_of was)) result (state_of was) (state_of now)
  pub touches : Touches result was now
  pub lighter : Lighter result was now

-- the state of a process was put back
pub record Restores (old new : List (ℕ × Process)) (pid : ℕ) (before : SmallState) : Type 0 where
  pub was : Process
  pub changes : Changes old new pid was (record was { small = before })

-- a step of the kernel was made, which leaves less to come
pub record Advances (pid : ℕ) (ps qs : List (ℕ × Process)) (ts us : List (ℕ × List ℕ)) : Type 0 where
  pub one : one_step (pid_of pid) (kernel_of ps ts) ≡ Some (kernel_of qs us)
  pub lighter : total_load qs + 1 ≤ total_load ps
  pub keys : map (λ (e : ℕ × Process). e.0) qs ≡ map (λ (e : ℕ × Process). e.0) ps

-- what one step of a process makes of a kernel: a step that changes no other process, one that changes no other but that to which its letter went, or none
abbrev pub Moves : Result Made NoMemory → ℕ → List (ℕ × Process) → List (ℕ × Process) → List (ℕ × List ℕ) → List (ℕ × List ℕ) → Type 0
Moves (Ok Went) pid ps qs ts us = Advances pid ps qs ts us × SameBut (at_key pid) ps qs
Moves (Ok (Sent to)) pid ps qs ts us = Advances pid ps qs ts us × SameBut (λ q. at_key pid q || at_key to q) ps qs
Moves (Ok Stuck) pid ps qs ts us = (one_step (pid_of pid) (kernel_of ps ts) ≡ None) × (qs ≡ ps) × (us ≡ ts)
Moves (Err e) pid ps qs ts us = (qs ≡ ps) × (us ≡ ts)

-- the process with a pid has another small state at most, and nothing else has changed
pub record ChangesSmall (old new : List (ℕ × Process)) (pid : ℕ) : Type 0 where
  pub was : Process
  pub now : Process
  pub changes : Changes old new pid was now
  pub rest : now ≡ record was { small = now.small }

-- what the step makes where nothing puts the process back after want of memory
abbrev pub GoesOn : Result Made NoMemory → ℕ → List (ℕ × Process) → List (ℕ × Process) → List (ℕ × List ℕ) → List (ℕ × List ℕ) → Type 0
GoesOn (Ok made) pid ps qs ts us = Moves (Ok made) pid ps qs ts us
GoesOn (Err e) pid ps qs ts us = ChangesSmall ps qs pid × (us ≡ ts)

-- A letter is last in the mailbox, unless the process has ended. After want of memory nothing is changed.
abbrev pub Receives : Result (Unit {0}) NoMemory → Letter → Process → Process → Type 0
Receives (Ok done) letter old new = (state_of new ≡ (if has_ended (old.small).status then state_of old else delivered (state_of old) letter)) × (load new ≤ load old + 1)
Receives (Err e) letter old new = new ≡ old

-- so many steps of a process were made, or the kernel stands after as many as could be made
abbrev pub RunsSteps : Result (Unit {0}) NotApplied → ℕ → ℕ → List (ℕ × Process) → List (ℕ × Process) → List (ℕ × List ℕ) → List (ℕ × List ℕ) → Type 0
RunsSteps (Ok all) pid most ps qs ts us = (steps most (pid_of pid) (kernel_of ps ts) ≡ Some (kernel_of qs us)) × (total_load qs ≤ total_load ps)
RunsSteps (Err (Disabled done)) pid most ps qs ts us =
    (steps done (pid_of pid) (kernel_of ps ts) ≡ Some (kernel_of qs us)) × (total_load qs ≤ total_load ps) × (done < most) × (one_step (pid_of pid) (kernel_of qs us) ≡ None)
RunsSteps (Err (NoStepMemory done)) pid most ps qs ts us = (steps done (pid_of pid) (kernel_of ps ts) ≡ Some (kernel_of qs us)) × (total_load qs ≤ total_load ps) × (done < most)

-- ---- a fork

-- the process with a pid is there, and its next step is a fork
abbrev pub forks_at : List (ℕ × Process) → ℕ → Bool
forks_at es pid = option_map_or (λ (p : Process). is_fork (next_step (state_of p))) (lookup (at_key pid) es) false

-- the process with a pid forked in its place, and its child is made
pub record Splits (old new : List (ℕ × Process)) (pid : ℕ) (child : Pid) (made : Process) : Type 0 where
  pub was : Process
  pub now : Process
  pub changes : Changes old new pid was now
  pub parent : state_of now ≡ fork_parent (state_of was) child
  pub born : state_of made ≡ fork_child (state_of was) child
  pub rest : now ≡ record was { small = now.small }

-- after want of memory nothing is changed
abbrev pub SplitsAt : Result Process NoMemory → List (ℕ × Process) → List (ℕ × Process) → ℕ → Pid → Type 0
SplitsAt (Ok made) old new pid child = Splits old new pid child made
SplitsAt (Err e) old new pid child = new ≡ old

-- the process with a pid forked, and the child stands at its own
pub record ForksAt (old new : List (ℕ × Process)) (pid : ℕ) (child : Pid) : Type 0 where
  pub made : Process
  pub between : List (ℕ × Process)
  pub splits : Splits old between pid child made
  pub entries : new ≡ insert_entry nat_cmp between child.0 made

-- the highest pid of a cluster among keys and a number
abbrev pub higher_key : ℕ → ℕ → ℕ → ℕ
higher_key pid highest key = if key % 16 == pid % 16 then max highest key else highest

-- a pid fits a number, with those of all children that may still be made: each uses up four, and its pid is at most 16 above the highest
abbrev pub PidsFit : List (ℕ × Process) → Type 0
PidsFit es = (q : ℕ) → IsSome (lookup (at_key q) es) → q + 4 * total_load es < 2 ^ 32

-- ---- signals

-- the process with a pid is there, and can take a signal
abbrev pub takes_at : List (ℕ × Process) → ℕ → Bool
takes_at es pid = option_map_or (λ (p : Process). can_take (state_of p)) (lookup (at_key pid) es) false

-- a process can take a signal, and took the first that waited for it
pub record Took (was now : Process) : Type 0 where
  pub can : can_take (state_of was) ≡ true
  pub after : state_of now ≡ taken (state_of was)

-- it took it; or it can take none, and is as it was; so it is after want of memory
abbrev pub TakesWhere : Result Bool NoMemory → Process → Process → Type 0
TakesWhere (Ok true) was now = Took was now
TakesWhere (Ok false) was now = (can_take (state_of was) ≡ false) × (now ≡ was)
TakesWhere (Err e) was now = now ≡ was

-- the process with a pid took a signal
pub record TookAt (old new : List (ℕ × Process)) (pid : ℕ) : Type 0 where
  pub was : Process
  pub now : Process
  pub changes : Changes old new pid was now
  pub took : Took was now

-- it took it; or it is not there or can take none, and nothing is changed; nor is anything after want of memory
abbrev pub TakesSignal : Result Bool NoMemory → List (ℕ × Process) → List (ℕ × Process) → ℕ → Type 0
TakesSignal (Ok true) old new pid = TookAt old new pid
TakesSignal (Ok false) old new pid = (takes_at old pid ≡ false) × (new ≡ old)
TakesSignal (Err e) old new pid = new ≡ old

-- where it was sent a signal, the process with a pid takes the first that waits, if it can
abbrev pub TakesSent : Bool → List (ℕ × Process) → List (ℕ × Process) → ℕ → Type 0
TakesSent true old new pid = (took : Bool) × TakesSignal (Ok took) old new pid
TakesSent false old new pid = new ≡ old

-- no process can take a signal whose pid does not pass a test
abbrev pub NoneTakesBut : (ℕ → Bool) → List (ℕ × Process) → Type 0
NoneTakesBut touched es = (q : ℕ) → touched q ≡ false → takes_at es q ≡ false

-- no process can take a signal
abbrev pub NoneTakes : List (ℕ × Process) → Type 0
NoneTakes es = (q : ℕ) → takes_at es q ≡ false

-- ---- turns

-- the process with the lowest pid that has a step, if one has
abbrev pub lowest_of : List (ℕ × Process) → Option (ℕ × Process)
lowest_of es = find (λ (e : ℕ × Process). has_step (next_step (state_of e.1))) es

abbrev pub IsTurn : Option ℕ → List (ℕ × Process) → Type 0
IsTurn next es = next ≡ option_map (λ (e : ℕ × Process). e.0) (lowest_of es)

-- each process that has a step has its pid in a list
abbrev pub Covers : List (ℕ × Process) → List ℕ → Type 0
Covers es ready = (q : ℕ) (p : Process) → lookup (at_key q) es ≡ Some p → has_step (next_step (state_of p)) ≡ true → list_any (at_key q) ready ≡ true

-- a pid is in a list, and none there is lower
abbrev pub IsFirst : ℕ → List ℕ → Type 0
IsFirst pid ready = (list_any (at_key pid) ready ≡ true) × ((q : ℕ) → list_any (at_key q) ready ≡ true → is_gt (nat_cmp pid q) ≡ false)

-- items of the default schedule were made, or one pid less is left that may have a step
pub record Turns (ps qs : List (ℕ × Process)) (ts us : List (ℕ × List ℕ)) (ready left : List ℕ) : Type 0 where
  pub items : ℕ
  pub made : default_after items (kernel_of ps ts) ≡ Some (kernel_of qs us)
  pub lighter : total_load qs ≤ total_load ps
  pub less : 2 * total_load qs + length left < 2 * total_load ps + length ready

-- silent steps of the process with a pid, after none of which it can take a signal where it could take none before, and then its next step
pub record RunsAndSteps (old new : List (ℕ × Process)) (pid : ℕ) (step : Step) : Type 0 where
  pub count : ℕ
  pub between : List (ℕ × Process)
  pub runs : RunsAt old between pid count
  pub untaken : StaysUntaken count (state_of runs.was)
  pub steps : StepsAt between new pid (Ok step)

-- so it is with the process, or it is not there
abbrev pub RunsIfThere : Option Step → List (ℕ × Process) → List (ℕ × Process) → ℕ → Type 0
RunsIfThere (Some step) old new pid = RunsAndSteps old new pid step
RunsIfThere None old new pid = (lookup (at_key pid) old ≡ None) × (new ≡ old)

-- ---- boot, one map at a time

-- the roots by pid
abbrev pub booted_processes : System → List (Pid × Root) → List (Pid × ProcState)
booted_processes system roots = fold (λ ps (r : Pid × Root). put pid_cmp r.0 (root_process system r.0 r.1) ps) [] roots

-- the same, linked by the channels
abbrev pub linked_processes : System → List (Pid × ProcState)
linked_processes system = fold (with_chan system) (booted_processes system (roots_of system)) system.chans

-- the terminals that roots name
abbrev pub booted_ttys : List Root → List (ℕ × List ℕ)
booted_ttys roots = fold (λ ts (r : Root). put nat_cmp r.tty [] ts) [] roots

-- the image of a root, which fits its pages
pub record IsImageOf (system : System) (root : Root) (image : Image) : Type 0 where
  pub at : slice_get system.images root.image ≡ Some image
  pub least : 1 ≤ image.pages
  pub pages : image.pages ≤ 256
  pub fits : 4 * length image.words ≤ 256 * image.pages

-- a root that a valid system has
pub record CanBoot (system : System) (root : Root) : Type 0 where
  pub image : Image
  pub is_image : IsImageOf system root image
  pub number : root.image < 2 ^ 64
  pub limit : root.limit ≤ 100000
  pub births : root.births ≤ 31
