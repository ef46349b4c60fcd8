-- Posts that become entries one after the other.
use Rattle.std.specs.Prelude.{◌≡◌, true, List, [], ◌∷◌, ◌++◌, ⊤}
use Rattle.sys_text.specs.declared.system.System.{System}
use Rattle.bus_msg.specs.declared.entry.Post.{Post}
use Rattle.bus_msg.specs.declared.entry.Entry.{Entry}
use Rattle.cert_sched.specs.Appended.{entry_of}
use Rattle.cert_sched.specs.Rules.{is_new_page}
use Rattle.cert_sched.specs.Legal.{Stands}

-- the log after these posts
abbrev pub log_with : System → List Entry → List Post → List Entry
log_with system log [] = log
log_with system log (post ∷ posts) = log_with system (log ++ entry_of system log post ∷ []) posts

-- each may stand after the log and the posts before it
abbrev pub AllStand : System → List Entry → List Post → Type 0
AllStand system log [] = ⊤
AllStand system log (post ∷ posts) = Stands system log (entry_of system log post) × AllStand system (log ++ entry_of system log post ∷ []) posts

-- and none is a page that was sent at its step count already
abbrev pub AllNew : System → List Entry → List Post → Type 0
AllNew system log [] = ⊤
AllNew system log (post ∷ posts) = (is_new_page system log post.what ≡ true) × AllNew system (log ++ entry_of system log post ∷ []) posts
