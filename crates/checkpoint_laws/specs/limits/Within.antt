-- The limits between two synchronisations: of a process by its own counts, and of what is posted.
use Rattle.std.specs.Prelude.{ℕ, ◌-◌, Bool, ◌&&◌, nat_le, List, [], ◌∷◌, ◌++◌, length, ⊤}
use Rattle.sys_text.specs.declared.system.System.{System}
use Rattle.proc_state.specs.declared.process.Process.{Process}
use Rattle.bus_msg.specs.declared.entry.Post.{Post}
use Rattle.bus_msg.specs.declared.entry.Entry.{Entry}
use Rattle.cert_sched.specs.Appended.{entry_of}
pub use Rattle.cert_sched.specs.Legal.{KeepsLimits}

-- since its last synchronisation it made no more steps, and read no more letters
abbrev pub is_within_by : Process → ℕ → ℕ → Bool
is_within_by p reads steps = nat_le ((p.small).steps - p.since) steps && nat_le (length p.read) reads

-- each of these posts keeps the limits after the log and the posts before it
abbrev pub AllKeepLimits : System → List Entry → List Post → Type 0
AllKeepLimits system log [] = ⊤
AllKeepLimits system log (post ∷ posts) = KeepsLimits system log post.what × AllKeepLimits system (log ++ entry_of system log post ∷ []) posts
