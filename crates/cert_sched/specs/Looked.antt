-- The words of a script that name a place of the log, and the looks at them.
use Rattle.std.specs.Prelude.{ℕ, ◌≡◌, Bool, true, false, nat_le, if◌then◌else◌, List, [], ◌∷◌, ◌++◌, length, filter, find, Option, Some, None}
use Rattle.std.specs.List.{list_any}
use Rattle.sys_text.specs.declared.system.System.{System}
use Rattle.proc_state.specs.Mail.{without_first}
use Rattle.bus_msg.specs.declared.entry.What.{What}
use Rattle.bus_msg.specs.declared.entry.What.TheVariants.{Crash, Return, Stop}
use Rattle.bus_msg.specs.declared.entry.Cause.TheVariants.{Place, Step, Disk}
use Rattle.bus_msg.specs.declared.entry.Entry.{Entry}
use Rattle.bus_msg.specs.Places.{Places, lives_in, is_lost_in}
use Rattle.bus_msg.specs.PlacedAfter.{what}
use Rattle.cert_sched.specs.declared.script.ScriptWord.{ScriptWord}
use Rattle.cert_sched.specs.declared.script.ScriptWord.TheVariants.{CrashAt, CrashStep, DiskAt, ReturnAt}
use Rattle.cert_sched.specs.Schedule.{placement}

-- a word that names a place
abbrev pub is_bus_word : ScriptWord → Bool
is_bus_word (CrashAt k place) = true
is_bus_word (CrashStep k step) = false
is_bus_word (DiskAt k call) = false
is_bus_word (ReturnAt k place) = true

-- a log of this length has reached its place
abbrev pub is_reached : ℕ → ScriptWord → Bool
is_reached length (CrashAt k place) = nat_le place length
is_reached length (CrashStep k step) = false
is_reached length (DiskAt k call) = false
is_reached length (ReturnAt k place) = nat_le place length

-- what it gives: the crash of a cluster that lives, or the return of one that was lost and does not live; otherwise it has no effect
abbrev pub given_by : Places → ScriptWord → Option What
given_by places (CrashAt k place) = if lives_in places k then Some (Crash k Place) else None
given_by places (CrashStep k step) = None
given_by places (DiskAt k call) = None
given_by places (ReturnAt k place) = if is_lost_in places k then Some (Return k) else None

-- an entry that a word for a place gave
abbrev pub is_given : What → Bool
is_given (Crash k Place) = true
is_given (Crash k (Step n)) = false
is_given (Crash k (Disk n)) = false
is_given (Return k) = true
is_given _ = false

-- an entry that waits for no word: a crash at a step or a disk call, and a stop
abbrev pub waits_for_no_word : What → Bool
waits_for_no_word (Crash k Place) = false
waits_for_no_word (Crash k (Step n)) = true
waits_for_no_word (Crash k (Disk n)) = true
waits_for_no_word Stop = true
waits_for_no_word _ = false

-- an entry before which each word that was reached is looked at
abbrev pub waits_for_words : What → Bool
waits_for_words (Crash k cause) = false
waits_for_words (Return k) = false
waits_for_words Stop = false
waits_for_words _ = true

abbrev pub first_reached : List Entry → List ScriptWord → Option ScriptWord
first_reached log left = find (is_reached (length log)) left

-- the words that are left when the first that was reached was looked at
abbrev pub without_reached : List Entry → List ScriptWord → List ScriptWord
without_reached log left = without_first (is_reached (length log)) left

-- After the log these words are still to be looked at. Of the words that were reached the first is looked at first, and each once.
pub data Looked (system : System) (script : List ScriptWord) : List Entry → List ScriptWord → Type 0 where
  at_start : Looked system script [] (filter is_bus_word script)
  -- a look that gives nothing
  gives_nothing : {log : List Entry} {left : List ScriptWord} → Looked system script log left → (w : ScriptWord) →
      first_reached log left ≡ Some w → given_by (placement system log) w ≡ None →
      Looked system script log (without_reached log left)
  -- a look that gives an entry
  gives : {log : List Entry} {left : List ScriptWord} → Looked system script log left → (w : ScriptWord) (e : Entry) →
      first_reached log left ≡ Some w → given_by (placement system log) w ≡ Some (what e) →
      Looked system script (log ++ e ∷ []) (without_reached log left)
  -- an entry that waits for no look
  goes_on : {log : List Entry} {left : List ScriptWord} → Looked system script log left → (e : Entry) →
      waits_for_no_word (what e) ≡ true → Looked system script (log ++ e ∷ []) left
  -- any other entry, where each word that was reached was looked at
  none_reached : {log : List Entry} {left : List ScriptWord} → Looked system script log left → (e : Entry) →
      waits_for_words (what e) ≡ true → list_any (is_reached (length log)) left ≡ false → Looked system script (log ++ e ∷ []) left
