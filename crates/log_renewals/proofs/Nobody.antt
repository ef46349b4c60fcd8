-- A line of a new backup names a process.
use Rattle.std.proofs.Common.{◌≡◌, ℕ, ap, List, [], ◌∷◌, true, false}
use Rattle.bus_msg.specs.declared.entry.What.{What}
use Rattle.bus_msg.specs.declared.entry.What.TheVariants.{Rebackup}
use Rattle.bus_msg.specs.declared.entry.Entry.{Entry}
use Rattle.bus_msg.specs.PlacedAfter.{what}
use Rattle.sys_text.specs.declared.system.System.{System}
use Rattle.cert_sched.specs.Kinds.{KindHolds}
use Rattle.entry_lines.specs.declared.told.ToldBy.{ToldBy}
use Rattle.entry_lines.specs.declared.told.ToldWhat.TheVariants.{Fresh, Standing}
use Rattle.entry_lines.specs.declared.told.Told.{Told}
use Rattle.entry_lines.specs.Told.{told_what}
use Rattle.log_renewals.specs.Named.{AnswersNobody}

none_stands : (system : System) (log : List Entry) (e : Entry) (w : What) (to : ℕ) → told_what w ≡ Standing [] to → KindHolds system log e w → ⊥
none_stands system log e (Rebackup k false []) to line holds = holds
none_stands system log e (Rebackup k false (r ∷ rs)) to line holds = cc
none_stands system log e (Rebackup k true recs) to line holds = cc
none_stands system log e _ to line holds = cc

none_is_fresh : (system : System) (log : List Entry) (e : Entry) (w : What) (at to : ℕ) → told_what w ≡ Fresh [] at to → KindHolds system log e w → ⊥
none_is_fresh system log e (Rebackup k true []) at to line holds = holds
none_is_fresh system log e (Rebackup k true (r ∷ rs)) at to line holds = cc
none_is_fresh system log e (Rebackup k false recs) at to line holds = cc
none_is_fresh system log e _ at to line holds = cc

pub standing_names : (place to : ℕ) (by : ToldBy) → AnswersNobody place by (Standing [] to)
standing_names place to by system log e valid legal kept line may = none_stands system log e (what e) to (ap (λ (t : Told). t.what) line) (may.stands).kind

pub fresh_names : (place at to : ℕ) (by : ToldBy) → AnswersNobody place by (Fresh [] at to)
fresh_names place at to by system log e valid legal kept line may = none_is_fresh system log e (what e) at to (ap (λ (t : Told). t.what) line) (may.stands).kind
