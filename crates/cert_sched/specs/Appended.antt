-- The entry that a post becomes.
use Rattle.std.specs.Prelude.{List, length}
use Rattle.sys_text.specs.declared.system.System.{System}
use Rattle.bus_msg.specs.declared.entry.Post.{Post}
use Rattle.bus_msg.specs.declared.entry.Entry.{Entry}
use Rattle.bus_msg.specs.Route.{route}
use Rattle.cert_sched.specs.Schedule.{placement}

-- the entry that a post becomes at the end of a log
abbrev pub entry_of : System → List Entry → Post → Entry
entry_of system log post = record { place = length log; post = post; dests = route (placement system log) post.what }
