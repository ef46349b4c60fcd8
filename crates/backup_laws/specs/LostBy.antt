-- The losses of a log and the clusters that a script loses.
use Rattle.std.specs.Prelude.{◌≡◌, true, List}
use Rattle.std.specs.List.{list_all}
use Rattle.std.specs.Option.{option_map_or}
use Rattle.bus_msg.specs.declared.entry.Entry.{Entry}
use Rattle.bus_msg.specs.PlacedAfter.{what}
use Rattle.cert_sched.specs.declared.script.ScriptWord.{ScriptWord}
use Rattle.cert_sched.specs.Scripted.{is_lost_by}
use Rattle.cert_sched.specs.Told.{cluster_lost}

-- each cluster that is lost in the log is one that a word of the script loses
abbrev pub AllLostBy : List ScriptWord → List Entry → Type 0
AllLostBy script log = list_all (λ (e : Entry). option_map_or (is_lost_by script) (cluster_lost (what e)) true) log ≡ true
