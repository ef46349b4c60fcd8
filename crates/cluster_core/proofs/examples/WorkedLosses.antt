-- Worked views of the cluster that takes over: cluster 0 is lost directly after the synchronisation of the reader, and after its letter to the terminal; by computation, and views that are refused.
use Rattle.std.proofs.Common.{◌≡◌, ℕ, refl, sym, ap, arith, List, [], ◌∷◌, replicate, length, true, false, cond, get_or, Option, Some, None, inl, lit<, lit≤, true≢false}
use Rattle.std.specs.Prelude.{slice_set}
use Rattle.std.specs.Option.{option_map_or}
use Rattle.t32_base.specs.declared.process.Pid.{Pid}
use Rattle.t32_base.specs.declared.process.Counts.{Counts}
use Rattle.t32_base.specs.declared.letter.Arrived.{Arrived}
use Rattle.t32_base.specs.declared.letter.BackRec.{BackRec}
use Rattle.t32_base.specs.declared.letter.Body.TheVariants.{Said, EndOf}
use Rattle.t32_base.specs.declared.letter.Letter.{Letter}
use Rattle.t32_base.specs.declared.letter.To.TheVariants.{Proc, Tty}
use Rattle.write_count.specs.Counting.{no_counts}
use Rattle.proc_state.specs.declared.process.Process.{Process}
use Rattle.proc_state.specs.State.{ProcState}
use Rattle.sys_calls.specs.declared.steps.Emission.TheVariants.{Mail as Sent}
use Rattle.sys_calls.specs.Next.{silently}
use Rattle.plain_kernel.specs.Kernel.{boot}
use Rattle.plain_kernel.specs.Apply.{one_step, steps}
use Rattle.bus_msg.specs.declared.entry.What.TheVariants.{Mail, Fetch, PageIs, Crash}
use Rattle.bus_msg.specs.declared.entry.Cause.TheVariants.{Place}
use Rattle.bus_msg.specs.declared.entry.By.TheVariants.{Bus}
use Rattle.bus_msg.specs.declared.entry.Entry.{Entry}
use Rattle.bus_msg.specs.Places.{same_pid}
use Rattle.roll_forward.specs.Deeds.{Sends}
use Rattle.cert_sched.specs.Schedule.{plain_after, placement, schedule_of}
use Rattle.cert_sched.specs.Told.{told}
use Rattle.cert_sched.specs.Record.{backup_record}
use Rattle.cert_sched.specs.Account.{account_after}
use Rattle.cert_sched.specs.Steps.{silent_upto, emission_at, before_fork_at}
use Rattle.cert_sched.specs.Rules.{is_over, has_its_pages}
use Rattle.cert_sched.specs.Legal.{IsLegalBy, MayStand}
use Rattle.log_laws.specs.records.Kept.{has_backup_in}
use Rattle.page_waits.specs.Waiting.{WaitingState}
use Rattle.replay_laws.specs.pages.Waits.{WaitsAs, none_queued}
use Rattle.replay_laws.proofs.forks.EitherWait.{kept_so}
use Rattle.cluster_core.specs.View.{ClusterView}
use Rattle.residents.specs.Held.{Held, Runs, Rolls, Waits, page_held}
use Rattle.cluster_core.specs.Holds.{HoldsPages, HoldsProcesses, HoldsRecords, IsHeldAs}
use Rattle.cluster_core.proofs.examples.WorkedRecords.{each_pid, ended_4, ended_log}
use Rattle.cluster_core.proofs.examples.WorkedViews.{pid, cluster, by_cluster, image_page, entry, reader_words, far_system, upto, sent_at, unmarked, empty_view, both, one, one_page, differ, written_by, far_0, far_1, far_2, came, synced_3, synced_log, read_page}

-- ---- the log up to the synchronisation

letter_follows : MayStand far_system [] far_0
unfolding boot one_step steps silently plain_after schedule_of placement told is_over silent_upto emission_at before_fork_at backup_record account_after
letter_follows = record { stands = record { placed = (refl, refl, refl); by_right = refl; applies = refl; kind = refl }; limits = refl; new_page = refl; pages = refl }

end_follows : MayStand far_system (far_0 ∷ []) far_1
unfolding boot one_step steps silently plain_after schedule_of placement told is_over silent_upto emission_at before_fork_at backup_record account_after
end_follows = record { stands = record { placed = (refl, refl, refl); by_right = refl; applies = refl; kind = refl }; limits = refl; new_page = refl; pages = refl }

page_follows : MayStand far_system came far_2
unfolding boot one_step steps silently plain_after schedule_of placement told is_over silent_upto emission_at before_fork_at backup_record account_after
page_follows = record { stands = record { placed = (refl, refl, refl); by_right = refl; applies = refl; kind = record { within = lit< tt; not_before = lit≤ tt; page = refl } }; limits = refl; new_page = refl; pages = refl }

sync_follows : MayStand far_system (far_0 ∷ far_1 ∷ far_2 ∷ []) synced_3
unfolding boot one_step steps silently plain_after schedule_of placement told is_over silent_upto emission_at before_fork_at backup_record account_after
sync_follows = record { stands = record { placed = (refl, refl, refl); by_right = refl; applies = refl; kind = record { state = refl; took_first = refl; reads = refl; children = refl; account = refl; due = refl } }; limits = refl; new_page = refl; pages = refl }

-- ---- directly after the synchronisation

abbrev lost_4 : Entry
lost_4 = entry 4 Bus 3 (Crash (cluster 0) Place)

abbrev lost_log : List Entry
lost_log = far_0 ∷ far_1 ∷ far_2 ∷ synced_3 ∷ lost_4 ∷ []

-- the letter that the reader had not read: the end of the channel
abbrev end_letter : Arrived
end_letter = record { number = 1; letter = record { from = pid 17; out = 1; to = Proc (pid 16) 1; body = EndOf } }

-- the one that it had
abbrev read_letter : Arrived
read_letter = record { number = 0; letter = written_by 17 }

-- it waits for its page, with a record that has its state at its synchronisation, these letters and counts, and has asked for so many pages
abbrev waiting : List Arrived → Counts → ℕ → WaitingState
waiting saved counts asked = record {
  kept = record { pid = pid 16; state = Some (upto far_system came 16 6).small; saved = saved; next = 2; counts = counts; births = [] };
  asked = asked;
  come = None ∷ [];
}

-- the writer has sent both its letters, and its exit is to come
abbrev writer_ends : Process
writer_ends = unmarked (sent_at far_system (far_0 ∷ []) 17 10)

-- cluster 1 with the reader so
abbrev lost_view : Held → ClusterView
lost_view reader = record (empty_view far_system 1 lost_log) { here = (pid 16, reader) ∷ (pid 17, Runs writer_ends) ∷ [] }

-- the reader waits, with the letter that it has not read and nothing to withhold
reader_waits_cut : WaitsAs far_system lost_log (pid 16) none_queued (waiting (end_letter ∷ []) no_counts 0)
unfolding boot one_step steps silently plain_after placement told silent_upto emission_at backup_record account_after
reader_waits_cut = record { kept = refl; moved = refl; pages = refl; some = omega arith; at_most = omega arith; asked = one_page _ refl; come = one_page _ refl }

writer_runs : IsHeldAs far_system lost_log [] (pid 17) (Runs writer_ends)
unfolding boot one_step steps silently plain_after silent_upto emission_at
writer_runs = refl

-- both processes stand in cluster 1 then
lost_held : HoldsProcesses far_system lost_log (lost_view (Waits (waiting (end_letter ∷ []) no_counts 0)))
unfolding placement
lost_held = record { held = both _ _ (IsHeldAs far_system lost_log []) (refl, inl reader_waits_cut) writer_runs; each_once = refl }

-- neither may be left out,
left_out : HoldsProcesses far_system lost_log (record (lost_view (Runs writer_ends)) { here = (pid 17, Runs writer_ends) ∷ [] }) → ⊥
unfolding placement
left_out holds = differ 1 2 refl (ap length holds.each_once)

-- and the letter that the reader had read before is saved no more
read_refused : HoldsProcesses far_system lost_log (lost_view (Waits (waiting (read_letter ∷ end_letter ∷ []) no_counts 0))) → ⊥
unfolding boot one_step steps silently plain_after placement told silent_upto emission_at backup_record
read_refused holds = differ 1 2 refl (ap (λ (o : Option BackRec). option_map_or (λ (r : BackRec). length r.saved) o 0) (kept_so far_system lost_log (pid 16) none_queued (waiting (read_letter ∷ end_letter ∷ []) no_counts 0) (holds.held (pid 16) (Waits (waiting (read_letter ∷ end_letter ∷ []) no_counts 0)) refl).1))

-- the backup of neither lives, so the cluster has no record
abbrev record_due_there : Pid → Option BackRec
record_due_there p = cond (has_backup_in far_system lost_log (cluster 1) p) (backup_record far_system lost_log p) None

others_not_kept : (p : Pid) → same_pid (pid 16) p ≡ false → same_pid (pid 17) p ≡ false → None ≡ record_due_there p
unfolding placement
others_not_kept p reader writer = rw (reader, writer)

lost_records : HoldsRecords far_system lost_log (lost_view (Waits (waiting (end_letter ∷ []) no_counts 0)))
unfolding placement
lost_records = each_pid (λ p. None ≡ record_due_there p) refl refl others_not_kept

-- ---- its page comes, and it goes on

abbrev lost_5 : Entry
lost_5 = entry 5 (by_cluster 1) 2 (Fetch (pid 16) 0)

abbrev lost_6 : Entry
lost_6 = entry 6 (by_cluster 1) 2 (PageIs (pid 16) 0 read_page)

abbrev served_log : List Entry
served_log = far_0 ∷ far_1 ∷ far_2 ∷ synced_3 ∷ lost_4 ∷ lost_5 ∷ lost_6 ∷ []

loss_follows : MayStand far_system synced_log lost_4
unfolding boot one_step steps silently plain_after schedule_of placement told is_over silent_upto emission_at before_fork_at backup_record account_after
loss_follows = record { stands = record { placed = (refl, refl, refl); by_right = refl; applies = refl; kind = refl }; limits = refl; new_page = refl; pages = refl }

fetch_follows : MayStand far_system lost_log lost_5
unfolding boot one_step steps silently plain_after schedule_of placement told is_over silent_upto emission_at before_fork_at backup_record account_after
fetch_follows = record { stands = record { placed = (refl, refl, refl); by_right = refl; applies = refl; kind = record { within = lit< tt; moved = refl; unasked = refl } }; limits = refl; new_page = refl; pages = refl }

page_comes : MayStand far_system (far_0 ∷ far_1 ∷ far_2 ∷ synced_3 ∷ lost_4 ∷ lost_5 ∷ []) lost_6
unfolding boot one_step steps silently plain_after schedule_of placement told is_over silent_upto emission_at before_fork_at backup_record account_after
page_comes = record { stands = record { placed = (refl, refl, refl); by_right = refl; applies = refl; kind = record { asked = refl; page = refl } }; limits = refl; new_page = refl; pages = refl }

served_legal : IsLegalBy MayStand far_system served_log
unfolding IsLegalBy
served_legal = (letter_follows, (end_follows, (page_follows, (sync_follows, (loss_follows, (fetch_follows, (page_comes, tt)))))))

-- the reader as it was at its synchronisation, with the saved letter in its mailbox and no page marked
abbrev resumed : Process
resumed = record {
  small = (upto far_system came 16 6).small;
  ram = record { bytes = read_page; dirty = false ∷ [] };
  mail = record { letters = end_letter ∷ []; next = 2 };
  read = [];
  since = 6;
}

-- nothing is to be withheld: it runs
resumes : page_held 0 read_page (Waits (waiting (end_letter ∷ []) no_counts 1)) ≡ Runs resumed
unfolding boot one_step steps silently plain_after silent_upto
resumes = refl

reader_runs : IsHeldAs far_system served_log [] (pid 16) (Runs resumed)
unfolding boot one_step steps silently plain_after silent_upto emission_at
reader_runs = refl

-- its page is that of its synchronisation, with the bytes that it read, and not that of its start
start_refused : IsHeldAs far_system served_log [] (pid 16) (Runs (record resumed { ram = record { bytes = image_page reader_words; dirty = false ∷ [] } })) → ⊥
unfolding boot one_step steps silently plain_after silent_upto emission_at
start_refused held = differ 120 0 refl (ap (λ (o : Option ProcState). option_map_or (λ (s : ProcState). get_or s.memory 52 0) o 0) held)

-- ---- after the letter to the terminal

abbrev said_letter : Letter
said_letter = record { from = pid 16; out = 0; to = Tty 0; body = Said (120 ∷ 10 ∷ []) }

abbrev said_5 : Entry
said_5 = record (entry 5 (by_cluster 0) 2 (Mail 10 said_letter)) { dests = record { clusters = 2; tty = Some 0 } }

abbrev said_6 : Entry
said_6 = entry 6 Bus 3 (Crash (cluster 0) Place)

abbrev said_log : List Entry
said_log = far_0 ∷ far_1 ∷ far_2 ∷ synced_3 ∷ ended_4 ∷ said_5 ∷ said_6 ∷ []

abbrev one_by_end_0 : Counts
one_by_end_0 = record { ends = slice_set (replicate 32 0) 0 1; signals = 0 }

-- it waits with one letter to withhold,
reader_waits_counted : WaitsAs far_system said_log (pid 16) none_queued (waiting (end_letter ∷ []) one_by_end_0 0)
unfolding boot one_step steps silently plain_after placement told silent_upto emission_at backup_record account_after
reader_waits_counted = record { kept = refl; moved = refl; pages = refl; some = omega arith; at_most = omega arith; asked = one_page _ refl; come = one_page _ refl }

-- and not with none
uncounted_refused : WaitsAs far_system said_log (pid 16) none_queued (waiting (end_letter ∷ []) no_counts 0) → ⊥
unfolding boot one_step steps silently plain_after placement told silent_upto emission_at backup_record
uncounted_refused waits = differ 1 0 refl (ap (λ (o : Option BackRec). option_map_or (λ (r : BackRec). get_or (r.counts).ends 0 0) o 0) waits.kept)

abbrev said_7 : Entry
said_7 = entry 7 (by_cluster 1) 2 (Fetch (pid 16) 0)

abbrev said_8 : Entry
said_8 = entry 8 (by_cluster 1) 2 (PageIs (pid 16) 0 read_page)

abbrev rolled_log : List Entry
rolled_log = far_0 ∷ far_1 ∷ far_2 ∷ synced_3 ∷ ended_4 ∷ said_5 ∷ said_6 ∷ said_7 ∷ said_8 ∷ []

exit_follows : MayStand far_system synced_log ended_4
unfolding boot one_step steps silently plain_after schedule_of placement told is_over silent_upto emission_at before_fork_at backup_record account_after
exit_follows = record { stands = record { placed = (refl, refl, refl); by_right = refl; applies = refl; kind = (refl, refl) }; limits = refl; new_page = refl; pages = refl }

said_follows : MayStand far_system ended_log said_5
unfolding boot one_step steps silently plain_after schedule_of placement told is_over silent_upto emission_at before_fork_at backup_record account_after
said_follows = record { stands = record { placed = (refl, refl, refl); by_right = refl; applies = refl; kind = refl }; limits = refl; new_page = refl; pages = refl }

later_loss_follows : MayStand far_system (far_0 ∷ far_1 ∷ far_2 ∷ synced_3 ∷ ended_4 ∷ said_5 ∷ []) said_6
unfolding boot one_step steps silently plain_after schedule_of placement told is_over silent_upto emission_at before_fork_at backup_record account_after
later_loss_follows = record { stands = record { placed = (refl, refl, refl); by_right = refl; applies = refl; kind = refl }; limits = refl; new_page = refl; pages = refl }

later_fetch_follows : MayStand far_system said_log said_7
unfolding boot one_step steps silently plain_after schedule_of placement told is_over silent_upto emission_at before_fork_at backup_record account_after
later_fetch_follows = record { stands = record { placed = (refl, refl, refl); by_right = refl; applies = refl; kind = record { within = lit< tt; moved = refl; unasked = refl } }; limits = refl; new_page = refl; pages = refl }

later_page_comes : MayStand far_system (far_0 ∷ far_1 ∷ far_2 ∷ synced_3 ∷ ended_4 ∷ said_5 ∷ said_6 ∷ said_7 ∷ []) said_8
unfolding boot one_step steps silently plain_after schedule_of placement told is_over silent_upto emission_at before_fork_at backup_record account_after
later_page_comes = record { stands = record { placed = (refl, refl, refl); by_right = refl; applies = refl; kind = record { asked = refl; page = refl } }; limits = refl; new_page = refl; pages = refl }

rolled_legal : IsLegalBy MayStand far_system rolled_log
unfolding IsLegalBy
rolled_legal = (letter_follows, (end_follows, (page_follows, (sync_follows, (exit_follows, (said_follows, (later_loss_follows, (later_fetch_follows, (later_page_comes, tt)))))))))

-- once its page has come it rolls forward, from its synchronisation on
rolls_forward : page_held 0 read_page (Waits (waiting (end_letter ∷ []) one_by_end_0 1)) ≡ Rolls resumed one_by_end_0 []
unfolding boot one_step steps silently plain_after silent_upto
rolls_forward = refl

reader_rolls : IsHeldAs far_system rolled_log [] (pid 16) (Rolls resumed one_by_end_0 [])
unfolding boot one_step steps silently plain_after silent_upto emission_at
reader_rolls = (
  refl,
  record {
    rolls = record { start = upto far_system came 16 6; steps = 0; done = []; rest = Sends (Sent said_letter) ∷ []; started = refl; replays = refl; parts = refl; counts_left = refl; births_left = refl };
    behind = lit≤ tt;
  },
)

-- it does not run before it has withheld that letter
runs_refused : IsHeldAs far_system rolled_log [] (pid 16) (Runs resumed) → ⊥
unfolding boot one_step steps silently plain_after silent_upto emission_at
runs_refused held = differ 10 6 refl (ap (λ (o : Option ProcState). option_map_or (λ (s : ProcState). (s.small).steps) o 0) held)

-- cluster 1 where it rolls forward
abbrev rolls_view : List Entry → ClusterView
rolls_view log = record (empty_view far_system 1 log) { here = (pid 16, Rolls resumed one_by_end_0 []) ∷ [] }

-- it may after its page,
rolls_paged : HoldsPages far_system rolled_log (rolls_view rolled_log)
unfolding boot one_step steps silently plain_after placement told silent_upto emission_at backup_record account_after
rolls_paged p h at some = one (pid 16, Rolls resumed one_by_end_0 []) (λ p h. has_its_pages far_system rolled_log p ≡ true) refl p h at

-- and not where its page is still to come
rolls_refused : HoldsPages far_system (far_0 ∷ far_1 ∷ far_2 ∷ synced_3 ∷ ended_4 ∷ said_5 ∷ said_6 ∷ said_7 ∷ []) (rolls_view (far_0 ∷ far_1 ∷ far_2 ∷ synced_3 ∷ ended_4 ∷ said_5 ∷ said_6 ∷ said_7 ∷ [])) → ⊥
unfolding boot one_step steps silently plain_after placement told silent_upto emission_at backup_record account_after
rolls_refused pages = true≢false (sym (pages (pid 16) (Rolls resumed one_by_end_0 []) refl refl))
