-- Which entries have the line of a loss or of a stop.
use Rattle.std.proofs.Common.{◌≡◌, ℕ, refl, true, false, true≢false, sym}
use Rattle.bus_msg.specs.declared.entry.What.{What}
use Rattle.bus_msg.specs.declared.entry.What.TheVariants.{Crash, Rebackup, Stop}
use Rattle.bus_msg.specs.declared.entry.Cause.{Cause}
use Rattle.bus_msg.specs.declared.entry.By.{By}
use Rattle.bus_msg.specs.declared.entry.By.TheVariants.{Cluster, Bus}
use Rattle.cert_sched.specs.Rules.{is_bus}
use Rattle.entry_lines.specs.declared.told.ToldBy.{ToldBy}
use Rattle.entry_lines.specs.declared.told.ToldBy.TheVariants.{Cluster as ByCluster, Bus as ByBus}
use Rattle.entry_lines.specs.declared.told.ToldWhat.TheVariants.{Crash as ToldCrash, Stop as ToldStop}
use Rattle.entry_lines.specs.Told.{told_by, told_what}
use Rattle.line_laws.specs.Meant.{cluster_no}
use Rattle.log_audit.specs.Front.{is_bus_told}

pub loss_said : (w : What) (k : ℕ) (cause : Cause) → told_what w ≡ ToldCrash k cause → w ≡ Crash (cluster_no k) cause
loss_said (Crash j c) k cause line =
    let same : j.0 ≡ k = cc in
    let why : c ≡ cause = cc in
    λ i. Crash (record { 0 = same i }) (why i)
loss_said (Rebackup to true recs) k cause line = cc
loss_said (Rebackup to false recs) k cause line = cc
loss_said _ k cause line = cc

pub stop_said : (w : What) → told_what w ≡ ToldStop → w ≡ Stop
stop_said Stop line = refl
stop_said (Rebackup to true recs) line = cc
stop_said (Rebackup to false recs) line = cc
stop_said _ line = cc

pub bus_told : (by : By) → is_bus by ≡ true → is_bus_told (told_by by) ≡ true
bus_told Bus is = refl
bus_told (Cluster k) is = absurd (true≢false (sym is))

pub told_bus : (by : ToldBy) → is_bus_told by ≡ true → by ≡ ByBus
told_bus ByBus is = refl
told_bus (ByCluster k) is = absurd (true≢false (sym is))
