-- The entry that a line means, after a log: what the line does not print is what the log gives.
use Rattle.std.specs.Prelude.{ℕ, ◌≡◌, Bool, true, false, List, [], ◌∷◌, map, Option, Some, None, option_map, option_and_then}
use Rattle.t32_base.specs.declared.process.Pid.{Pid}
use Rattle.t32_base.specs.declared.process.ClusterNo.{ClusterNo}
use Rattle.t32_base.specs.declared.letter.BackRec.{BackRec}
use Rattle.sys_text.specs.declared.system.System.{System}
use Rattle.rv_mem.specs.Memory.{page_at}
use Rattle.proc_state.specs.State.{ProcState}
use Rattle.sys_calls.specs.declared.steps.Emission.{Emission}
use Rattle.sys_calls.specs.declared.steps.Emission.TheVariants.{Mail as Sent, Exit as Ended}
use Rattle.bus_msg.specs.declared.entry.What.{What}
use Rattle.bus_msg.specs.declared.entry.What.TheVariants.{Mail, Birth, Exit, Page, Sync, Fetch, PageIs, Crash, Return, Rebackup, Done, Stop}
use Rattle.bus_msg.specs.declared.entry.By.{By}
use Rattle.bus_msg.specs.declared.entry.By.TheVariants.{Cluster, Bus}
use Rattle.bus_msg.specs.declared.entry.Entry.{Entry}
use Rattle.bus_msg.specs.PlacedAfter.{what}
use Rattle.bus_msg.specs.Route.{route}
use Rattle.cert_sched.specs.Parts.{rising}
use Rattle.cert_sched.specs.Schedule.{placement}
use Rattle.cert_sched.specs.Deeds.{arrived_count}
use Rattle.cert_sched.specs.Record.{backup_record, record_with}
use Rattle.cert_sched.specs.Account.{account_after, page_in}
use Rattle.cert_sched.specs.Steps.{silent_upto, emission_at}
use Rattle.cert_sched.specs.Kinds.{after_take, reads_after}
use Rattle.entry_lines.specs.declared.told.ToldBy.{ToldBy}
use Rattle.entry_lines.specs.declared.told.ToldBy.TheVariants.{Cluster as ByCluster, Bus as ByBus}
use Rattle.entry_lines.specs.declared.told.ToldWhat.{ToldWhat}
use Rattle.entry_lines.specs.declared.told.ToldWhat.TheVariants.{Mail as ToldMail, Birth as ToldBirth, Exit as ToldExit, Page as ToldPage, Sync as ToldSync, Fetch as ToldFetch, PageIs as ToldPageIs, Crash as ToldCrash, Return as ToldReturn, Fresh, Standing, Done as ToldDone, Stop as ToldStop}
use Rattle.entry_lines.specs.declared.told.Told.{Told}

-- ---- entries that differ in no more than an order

-- the numbers of the letters that a synchronisation read, in rising order
abbrev pub reads_rising : What → What
reads_rising (Sync pid small read took) = Sync pid small (rising read) took
reads_rising w = w

abbrev pub with_reads_rising : Entry → Entry
with_reads_rising e = record { place = e.place; post = record { by = (e.post).by; what = reads_rising (what e) }; dests = e.dests }

-- the same but for the order of these numbers
abbrev pub SameButReads : Entry → Entry → Type 0
SameButReads e f = with_reads_rising e ≡ with_reads_rising f

-- the end of the run, of which the line prints no count
abbrev pub is_end : What → Bool
is_end (Done rests) = true
is_end w = false

-- ---- what a line means

abbrev pub pid_no : ℕ → Pid
pid_no n = record { 0 = n }

abbrev pub cluster_no : ℕ → ClusterNo
cluster_no k = record { 0 = k }

abbrev pub mail_of : ℕ → Emission → Option What
mail_of at (Sent letter) = Some (Mail at letter)
mail_of at (Ended end) = None

abbrev pub exit_of : Pid → ℕ → Emission → Option What
exit_of p at (Sent letter) = None
exit_of p at (Ended end) = Some (Exit p at end)

-- the synchronisation of a process that stands at s, where it takes such a signal or none
abbrev pub sync_of : System → List Entry → Pid → Option ℕ → ProcState → What
sync_of system log p took s = Sync p (after_take took s).small (reads_after system log p took s) took

-- the record of a process that is cut where it stands at s
abbrev pub cut_record : List Entry → Pid → ProcState → BackRec
cut_record log p s = record_with p true s.mail (arrived_count log p) [] s

abbrev pub fresh_of : System → List Entry → List ℕ → ℕ → ClusterNo → Option What
fresh_of system log (n ∷ []) at to =
    option_map (λ s. Rebackup to true (cut_record log (pid_no n) s ∷ [])) (silent_upto system log (pid_no n) at)
fresh_of system log ns at to = None

-- all of them, where each is there
abbrev pub each_there : {A : Type 0} → List (Option A) → Option (List A)
each_there [] = Some []
each_there (o ∷ os) = option_and_then (λ a. option_map (λ as'. a ∷ as') (each_there os)) o

abbrev pub records_of : System → List Entry → List ℕ → Option (List BackRec)
records_of system log ns = each_there (map (λ n. backup_record system log (pid_no n)) ns)

-- What a line says after a log, where it can say anything. The counts of the end of the run are not asked for here.
unfoldable pub meant : System → List Entry → ToldWhat → Option What
meant system log (ToldMail from at letter) = option_and_then (λ r. mail_of at r.0) (emission_at system log (pid_no from) at)
meant system log (ToldBirth parent at child end) = Some (Birth (pid_no parent) at (pid_no child) end)
meant system log (ToldExit p at end) = option_and_then (λ r. exit_of (pid_no p) at r.0) (emission_at system log (pid_no p) at)
meant system log (ToldPage p at i) =
    option_map (λ (s : ProcState). Page (pid_no p) at i (page_at s.memory i)) (silent_upto system log (pid_no p) at)
meant system log (ToldSync p at took) = option_map (sync_of system log (pid_no p) took) (silent_upto system log (pid_no p) at)
meant system log (ToldFetch p i) = Some (Fetch (pid_no p) i)
meant system log (ToldPageIs p i) = option_map (PageIs (pid_no p) i) (page_in (account_after system log (pid_no p)).kept i)
meant system log (ToldCrash k cause) = Some (Crash (cluster_no k) cause)
meant system log (ToldReturn k) = Some (Return (cluster_no k))
meant system log (Fresh ns at to) = fresh_of system log ns at (cluster_no to)
meant system log (Standing ns to) = option_map (Rebackup (cluster_no to) false) (records_of system log ns)
meant system log ToldDone = None
meant system log ToldStop = Some Stop

abbrev pub by_meant : ToldBy → By
by_meant (ByCluster k) = Cluster (cluster_no k)
by_meant ByBus = Bus

abbrev pub entry_saying : System → List Entry → Told → What → Entry
entry_saying system log t w = record {
  place = t.place;
  post = record { by = by_meant t.by; what = w };
  dests =
      route (placement system log) w;
}

-- the entry of a line after a log
abbrev pub entry_meant : System → List Entry → Told → Option Entry
entry_meant system log t = option_map (entry_saying system log t) (meant system log t.what)
