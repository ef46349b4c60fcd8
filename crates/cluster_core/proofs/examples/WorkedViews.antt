-- Worked views: what a cluster holds of records, pages, marks and accounts, and the batch of a process that is due, by computation; and for each line a view that it refuses.
use Rattle.std.proofs.Common.{◌≡◌, ℕ, zero, suc, ◌+◌, ◌<◌, refl, sym, ap, subst, arith, List, [], ◌∷◌, ◌++◌, replicate, Bool, true, false, cond, eqb, eq-eqb, eqb-true, ◌∙◌, length, get_or, Option, Some, None, lit<, true≢false}
use Rattle.std.specs.Prelude.{option_map, slice_set}
use Rattle.std.specs.Option.{option_map_or}
use Rattle.t32_base.specs.declared.process.Pid.{Pid}
use Rattle.t32_base.specs.declared.process.ClusterNo.{ClusterNo}
use Rattle.t32_base.specs.declared.process.Counts.{Counts}
use Rattle.t32_base.specs.declared.process.Mode.TheVariants.{Quarter}
use Rattle.t32_base.specs.declared.letter.BackRec.{BackRec}
use Rattle.t32_base.specs.declared.letter.Body.TheVariants.{Said, EndOf, Signal}
use Rattle.t32_base.specs.declared.letter.Letter.{Letter}
use Rattle.t32_base.specs.declared.letter.To.TheVariants.{Proc}
use Rattle.sys_text.specs.declared.system.Image.{Image}
use Rattle.sys_text.specs.declared.system.Root.{Root}
use Rattle.sys_text.specs.declared.system.System.{System}
use Rattle.sys_text.specs.Boot.{bytes_of_words}
use Rattle.rv_mem.specs.Memory.{page_at}
use Rattle.write_count.specs.Counting.{no_counts}
use Rattle.proc_state.specs.declared.process.Process.{Process}
use Rattle.proc_state.specs.State.{ProcState, root_state}
use Rattle.sys_calls.specs.declared.steps.Emission.{Emission}
use Rattle.sys_calls.specs.declared.steps.Emission.TheVariants.{Mail as Sent}
use Rattle.sys_calls.specs.Next.{silently}
use Rattle.plain_kernel.specs.Kernel.{boot}
use Rattle.plain_kernel.specs.Apply.{one_step, steps}
use Rattle.bus_msg.specs.declared.entry.What.TheVariants.{Mail, Page, Sync, Fetch, PageIs, Crash}
use Rattle.bus_msg.specs.declared.entry.Cause.TheVariants.{Place}
use Rattle.bus_msg.specs.declared.entry.By.{By}
use Rattle.bus_msg.specs.declared.entry.By.TheVariants.{Bus, Cluster}
use Rattle.bus_msg.specs.declared.entry.What.{What}
use Rattle.bus_msg.specs.declared.entry.Entry.{Entry}
use Rattle.bus_msg.specs.declared.entry.Post.{Post}
use Rattle.bus_msg.specs.Places.{same_pid}
use Rattle.cert_sched.specs.Schedule.{plain_after, placement}
use Rattle.cert_sched.specs.Told.{told}
use Rattle.cert_sched.specs.Rules.{has_its_pages}
use Rattle.cert_sched.specs.Record.{backup_record}
use Rattle.cert_sched.specs.Account.{Account, account_after, page_in}
use Rattle.cert_sched.specs.Steps.{silent_upto, emission_at}
use Rattle.backup_records.specs.Records.{record_in}
use Rattle.log_laws.specs.records.Kept.{has_backup_in}
use Rattle.sync_point.specs.Batch.{batch, synced}
use Rattle.quanta.specs.Limited.{is_due}
use Rattle.page_waits.specs.Waiting.{WaitingState}
use Rattle.replay_laws.specs.pages.Waits.{WaitsAs, none_queued}
use Rattle.cluster_core.specs.View.{ClusterView, account_at, limits_of, process_load}
use Rattle.residents.specs.Held.{Held, Runs, held_of}
use Rattle.cluster_core.specs.Holds.{HoldsAccounts, HoldsMarks, HoldsPages, HoldsRecords, IsMarked, MarkedIfThere, is_fetch_queued, unended_process}
use Rattle.cluster_core.specs.Queue.{with_queue}
use Rattle.residents.proofs.Changing.{pid_same}

-- ---- the systems

abbrev pub pid : ℕ → Pid
pid n = record { 0 = n }

abbrev pub cluster : ℕ → ClusterNo
cluster n = record { 0 = n }

abbrev pub by_cluster : ℕ → By
by_cluster n = Cluster (cluster n)

-- one page with a program at its front
abbrev pub image : List ℕ → Image
image words = record { name = []; pages = 1; entry = 65536; words = words }

abbrev pub image_page : List ℕ → List ℕ
image_page words = page_at (bytes_of_words words ++ replicate 256 0) 0

-- a root with a home and a backup, which runs an image
abbrev pub root : ℕ → ℕ → ℕ → Root
root home backup number = record { home = cluster home; backup = cluster backup; mode = Quarter; image = number; limit = 1000; births = 0; tty = 0 }

-- the entry at a place: by whom, to which clusters, a bit each, and what it says
abbrev pub entry : ℕ → By → ℕ → What → Entry
entry place by clusters what = record { place = place; post = record { by = by; what = what }; dests = record { clusters = clusters; tty = None } }

abbrev pub no_process : ProcState
no_process = root_state (pid 0) 65536 1 [] 0 0 0

-- reads two bytes of end 1, writes them to its terminal, and exits
abbrev pub reader_words : List ℕ
reader_words = 0x00300893 ∷ 0x00100513 ∷ 0x000105b7 ∷ 0x03458593 ∷ 0x00200613 ∷ 0x00000073 ∷ 0x00050613 ∷ 0x00200893 ∷ 0x00000513 ∷ 0x00000073 ∷ 0x00100893 ∷ 0x00000513 ∷ 0x00000073 ∷ 0x00000000 ∷ []

-- writes x and a newline to end 1, and exits
abbrev pub writer_words : List ℕ
writer_words = 0x00200893 ∷ 0x00100513 ∷ 0x000105b7 ∷ 0x02458593 ∷ 0x00200613 ∷ 0x00000073 ∷ 0x00100893 ∷ 0x00000513 ∷ 0x00000073 ∷ 0x00000a78 ∷ []

-- a reader at home in cluster 0 and a writer with this home and backup, linked by a channel; each read is followed by a synchronisation
abbrev pub reading : ℕ → ℕ → System
reading home backup = record {
  clusters = 2;
  pager = (cluster 0, cluster 1);
  syncreads = 1;
  syncsteps = 4096;
  images = image reader_words ∷ image writer_words ∷ [];
  roots = root 0 1 0 ∷ root home backup 1 ∷ [];
  chans = (1, 2) ∷ [];
}

-- the writer is at home in the other cluster, as process 17
abbrev pub far_system : System
far_system = reading 1 0

-- both are at home in cluster 0, and the writer is process 32
abbrev near_system : System
near_system = reading 0 1

-- what the writer with a pid writes to process 16
abbrev pub written_by : ℕ → Letter
written_by n = record { from = pid n; out = 1; to = Proc (pid 16) 1; body = Said (120 ∷ 10 ∷ []) }

-- a process at its own step count, after silent steps or after the one that sends something
abbrev pub upto : System → List Entry → ℕ → ℕ → ProcState
upto system log n at = option_map_or (λ s. s) (silent_upto system log (pid n) at) no_process

abbrev pub sent_at : System → List Entry → ℕ → ℕ → ProcState
sent_at system log n at = option_map_or (λ (r : Emission × ProcState). r.1) (emission_at system log (pid n) at) no_process

-- a process that has read nothing since its start, with no page marked
abbrev pub unmarked : ProcState → Process
unmarked s = record { small = s.small; ram = record { bytes = s.memory; dirty = false ∷ [] }; mail = record { letters = s.mail; next = s.next }; read = []; since = 0 }

-- the cluster with a number of a system, which holds nothing
abbrev pub empty_view : System → ℕ → List Entry → ClusterView
empty_view system n log = record {
  system = system;
  number = cluster n;
  cursor = 0;
  places = placement system log;
  here = [];
  records = [];
  family = [];
  owed = [];
  server = None;
  queue = [];
  tried = false;
  steps = 0;
  failed = None;
}

-- what holds of each of two that are held
pub both : (a b : Pid × Held) (P : Pid → Held → Type 0) → P a.0 a.1 → P b.0 b.1 → (p : Pid) (h : Held) → held_of (a ∷ b ∷ []) p ≡ Some h → P p h
both a b P first second p h at = by_tests (same_pid a.0 p) (same_pid b.0 p) refl refl at
  where
    moved : (e : Pid × Held) → same_pid e.0 p ≡ true → e.1 ≡ h → P e.0 e.1 → P p h
    moved e is same holds = subst (λ x. P p x) same (subst (λ q. P q e.1) (pid_same e.0 p (eqb-true (e.0).0 p.0 is)) holds)

    by_tests : (x y : Bool) → same_pid a.0 p ≡ x → same_pid b.0 p ≡ y → option_map (λ (e : Pid × Held). e.1) (cond x (Some a) (cond y (Some b) None)) ≡ Some h → P p h
    by_tests true y is other found = let same : a.1 ≡ h = cc in moved a is same first
    by_tests false true other is found = let same : b.1 ≡ h = cc in moved b is same second
    by_tests false false other another found = cc

-- and of one
pub one : (a : Pid × Held) (P : Pid → Held → Type 0) → P a.0 a.1 → (p : Pid) (h : Held) → held_of (a ∷ []) p ≡ Some h → P p h
one a P first p h at = by_test (same_pid a.0 p) refl at
  where
    by_test : (x : Bool) → same_pid a.0 p ≡ x → option_map (λ (e : Pid × Held). e.1) (cond x (Some a) None) ≡ Some h → P p h
    by_test true is found =
        let same : a.1 ≡ h = cc in
        subst (λ x. P p x) same (subst (λ q. P q a.1) (pid_same a.0 p (eqb-true (a.0).0 p.0 is)) first)
    by_test false other found = cc

-- what holds of the one page of a process
pub one_page : (P : ℕ → Type 0) → P 0 → (i : ℕ) → i < 1 → P i
one_page P first zero below = first
one_page P first (suc i) below = absurd (omega (arith, below))

-- two numbers that differ
pub differ : (n m : ℕ) → eqb n m ≡ false → n ≡ m → ⊥
differ n m other same = true≢false (sym (eq-eqb n m same) ∙ other)

-- ---- marks: a letter for a neighbour is queued, and has not arrived

abbrev near_post : Post
near_post = record { by = by_cluster 0; what = Mail 6 (written_by 32) }

abbrev near_reader : Process
near_reader = unmarked (upto near_system [] 16 0)

abbrev near_writer : Process
near_writer = unmarked (sent_at near_system [] 32 6)

-- the cluster in which the reader has read letters with these numbers
abbrev near_view : List ℕ → ClusterView
near_view read = record (empty_view near_system 0 []) { here = (pid 16, Runs (record near_reader { read = read })) ∷ (pid 32, Runs near_writer) ∷ []; queue = near_post ∷ [] }

near_reader_marked : IsMarked near_system (with_queue near_system [] (near_post ∷ [])) (pid 16) near_reader
unfolding boot one_step steps silently plain_after placement told silent_upto emission_at account_after
near_reader_marked = record { since_start = refl; read = refl; clean = one_page _ (λ none. refl); unsent = one_page _ (λ marked. absurd (true≢false (sym marked))) }

near_writer_marked : IsMarked near_system (with_queue near_system [] (near_post ∷ [])) (pid 32) near_writer
unfolding boot one_step steps silently plain_after placement told silent_upto emission_at account_after
near_writer_marked = record { since_start = refl; read = refl; clean = one_page _ (λ none. refl); unsent = one_page _ (λ marked. absurd (true≢false (sym marked))) }

-- neither has read a letter
near_marks : HoldsMarks IsMarked near_system [] (near_view [])
unfolding boot one_step steps silently plain_after placement told silent_upto emission_at account_after
near_marks p h at = both _ _ (λ p h. MarkedIfThere IsMarked near_system (with_queue near_system [] (near_post ∷ [])) p (unended_process h)) near_reader_marked near_writer_marked p h at

-- it has not read the letter that has yet to arrive
near_refused : HoldsMarks IsMarked near_system [] (near_view (0 ∷ [])) → ⊥
unfolding boot one_step steps silently plain_after placement told silent_upto emission_at account_after
near_refused marks = differ 1 0 refl (ap length (marks (pid 16) (Runs (record near_reader { read = 0 ∷ [] })) refl).read)

-- ---- marks: a process has sent a signal to itself, which is queued and has not arrived

-- sends signal 9 to process 16, and exits
abbrev signal_words : List ℕ
signal_words = 0x00800893 ∷ 0x01000513 ∷ 0x00900593 ∷ 0x00000073 ∷ 0x00100893 ∷ 0x00000513 ∷ 0x00000073 ∷ []

-- process 16 runs this in place of the reader
abbrev signal_system : System
signal_system = record near_system { images = image signal_words ∷ image writer_words ∷ [] }

abbrev own_signal : Letter
own_signal = record { from = pid 16; out = 0; to = Proc (pid 16) 0; body = Signal 9 }

abbrev own_post : Post
own_post = record { by = by_cluster 0; what = Mail 4 own_signal }

abbrev own_sender : Process
own_sender = unmarked (sent_at signal_system [] 16 4)

-- it sends the signal by its step 4
own_signal_sent : option_map (λ (r : Emission × ProcState). r.0) (emission_at signal_system [] (pid 16) 4) ≡ Some (Sent own_signal)
unfolding boot one_step steps silently plain_after emission_at
own_signal_sent = refl

-- the signal has yet to arrive: it is neither among the saved letters that came to it nor among those that it has read,
own_signal_marked : IsMarked signal_system (with_queue signal_system [] (own_post ∷ [])) (pid 16) own_sender
unfolding boot one_step steps silently plain_after placement told silent_upto emission_at account_after
own_signal_marked = record { since_start = refl; read = refl; clean = one_page _ (λ none. refl); unsent = one_page _ (λ marked. absurd (true≢false (sym marked))) }

-- and may not be counted as read
own_signal_refused : IsMarked signal_system (with_queue signal_system [] (own_post ∷ [])) (pid 16) (record own_sender { read = 0 ∷ [] }) → ⊥
unfolding boot one_step steps silently plain_after placement told silent_upto emission_at account_after
own_signal_refused marks = differ 1 0 refl (ap length marks.read)

-- ---- records: the writer, whose backup is in cluster 0, has sent a letter by its end 1

abbrev pub far_0 : Entry
far_0 = entry 0 (by_cluster 1) 3 (Mail 6 (written_by 17))

abbrev pub writer_record : Counts → BackRec
writer_record counts = record { pid = pid 17; state = Some (upto far_system [] 17 0).small; saved = []; next = 0; counts = counts; births = [] }

abbrev pub one_by_end_1 : Counts
one_by_end_1 = record { ends = slice_set (replicate 32 0) 1 1; signals = 0 }

abbrev pub records_view : Counts → ClusterView
records_view counts = record (empty_view far_system 0 (far_0 ∷ [])) { records = writer_record counts ∷ [] }

-- the record of a process, where its backup is in cluster 0
abbrev pub record_due : Pid → Option BackRec
record_due p = cond (has_backup_in far_system (far_0 ∷ []) (cluster 0) p) (backup_record far_system (far_0 ∷ []) p) None

pub writer_kept : record_in (records_view one_by_end_1).records (pid 17) ≡ record_due (pid 17)
unfolding boot one_step steps silently plain_after placement told silent_upto emission_at backup_record
writer_kept = refl

-- the reader's backup is elsewhere
pub reader_not_kept : record_in (records_view one_by_end_1).records (pid 16) ≡ record_due (pid 16)
unfolding boot one_step steps silently plain_after placement told silent_upto emission_at backup_record
reader_not_kept = refl

-- the letter is to be counted
records_refused : HoldsRecords far_system (far_0 ∷ []) (records_view no_counts) → ⊥
unfolding boot one_step steps silently plain_after placement told silent_upto emission_at backup_record
records_refused records = differ 0 1 refl (ap (λ (o : Option BackRec). option_map_or (λ (r : BackRec). get_or (r.counts).ends 1 0) o 0) (records (pid 17)))

-- ---- waits and pages: cluster 0 is lost after the page and before the synchronisation of the reader, and cluster 1 asks for that page

abbrev pub far_1 : Entry
far_1 = entry 1 (by_cluster 1) 3 (Mail 10 (record { from = pid 17; out = 1; to = Proc (pid 16) 1; body = EndOf }))

abbrev pub came : List Entry
came = far_0 ∷ far_1 ∷ []

-- the page of the reader after its read
abbrev pub read_page : List ℕ
read_page = page_at (upto far_system came 16 6).memory 0

abbrev pub far_2 : Entry
far_2 = entry 2 (by_cluster 0) 3 (Page (pid 16) 6 0 read_page)

abbrev far_3 : Entry
far_3 = entry 3 Bus 3 (Crash (cluster 0) Place)

abbrev fetch_of : Post
fetch_of = record { by = by_cluster 1; what = Fetch (pid 16) 0 }

abbrev far_4 : Entry
far_4 = entry 4 (by_cluster 1) 2 (Fetch (pid 16) 0)

abbrev far_5 : Entry
far_5 = entry 5 (by_cluster 1) 2 (PageIs (pid 16) 0 (image_page reader_words))

abbrev lost_log : List Entry
lost_log = far_0 ∷ far_1 ∷ far_2 ∷ far_3 ∷ []

abbrev asked_log : List Entry
asked_log = far_0 ∷ far_1 ∷ far_2 ∷ far_3 ∷ far_4 ∷ []

abbrev fetched_log : List Entry
fetched_log = far_0 ∷ far_1 ∷ far_2 ∷ far_3 ∷ far_4 ∷ far_5 ∷ []

-- both letters were saved for it
abbrev pub reader_record : BackRec
reader_record = record {
  pid = pid 16;
  state = Some (upto far_system [] 16 0).small;
  saved = record { number = 0; letter = written_by 17 } ∷ record { number = 1; letter = record { from = pid 17; out = 1; to = Proc (pid 16) 1; body = EndOf } } ∷ [];
  next = 2;
  counts = no_counts;
  births = [];
}

-- it has asked for so many pages, and its page has come or not
abbrev pub reader_waits : ℕ → Option (List ℕ) → WaitingState
reader_waits asked page = record { kept = reader_record; asked = asked; come = page ∷ [] }

-- nothing is asked for at first
waits_first : WaitsAs far_system lost_log (pid 16) none_queued (reader_waits 0 None)
unfolding boot one_step steps silently plain_after placement told silent_upto emission_at backup_record account_after
waits_first = record { kept = refl; moved = refl; pages = refl; some = omega arith; at_most = omega arith; asked = one_page _ refl; come = one_page _ refl }

-- its page is asked for where its fetch is queued, and still where that stands in the log
waits_queued : WaitsAs far_system lost_log (pid 16) (is_fetch_queued (pid 16) (fetch_of ∷ [])) (reader_waits 1 None)
unfolding boot one_step steps silently plain_after placement told silent_upto emission_at backup_record account_after
waits_queued = record { kept = refl; moved = refl; pages = refl; some = omega arith; at_most = omega arith; asked = one_page _ refl; come = one_page _ refl }

waits_asked : WaitsAs far_system asked_log (pid 16) none_queued (reader_waits 1 None)
unfolding boot one_step steps silently plain_after placement told silent_upto emission_at backup_record account_after
waits_asked = record { kept = refl; moved = refl; pages = refl; some = omega arith; at_most = omega arith; asked = one_page _ refl; come = one_page _ refl }

-- it may not say that it has asked for fewer pages than the log has fetches of,
asked_refused : WaitsAs far_system asked_log (pid 16) none_queued (reader_waits 0 None) → ⊥
unfolding boot one_step steps silently plain_after placement told silent_upto emission_at backup_record account_after
asked_refused waits = true≢false (sym (waits.asked 0 (lit< tt)))

-- nor for fewer than are queued,
queued_refused : WaitsAs far_system lost_log (pid 16) (is_fetch_queued (pid 16) (fetch_of ∷ [])) (reader_waits 0 None) → ⊥
unfolding boot one_step steps silently plain_after placement told silent_upto emission_at backup_record account_after
queued_refused waits = true≢false (sym (waits.asked 0 (lit< tt)))

-- nor for more than both have
unasked_refused : WaitsAs far_system lost_log (pid 16) none_queued (reader_waits 1 None) → ⊥
unfolding boot one_step steps silently plain_after placement told silent_upto emission_at backup_record account_after
unasked_refused waits = true≢false (waits.asked 0 (lit< tt))

-- the page that comes is that of its start
waits_whole : WaitsAs far_system fetched_log (pid 16) none_queued (reader_waits 1 (Some (image_page reader_words)))
unfolding boot one_step steps silently plain_after placement told silent_upto emission_at backup_record account_after
waits_whole = record { kept = refl; moved = refl; pages = refl; some = omega arith; at_most = omega arith; asked = one_page _ refl; come = one_page _ refl }

-- and not the one that was sent before the synchronisation
waits_refused : WaitsAs far_system fetched_log (pid 16) none_queued (reader_waits 1 (Some read_page)) → ⊥
unfolding boot one_step steps silently plain_after placement told silent_upto emission_at backup_record account_after
waits_refused waits = differ 120 0 refl (ap (λ (o : Option (Option (List ℕ))). option_map_or (λ (o : Option (List ℕ)). option_map_or (λ bytes. get_or bytes 52 0) o 0) o 0) (waits.come 0 (lit< tt)))

-- the reader runs in cluster 1
abbrev runs_view : List Entry → ClusterView
runs_view log = record (empty_view far_system 1 log) { here = (pid 16, Runs (unmarked (upto far_system [] 16 0))) ∷ [] }

-- so it may after its page,
pages_held : HoldsPages far_system fetched_log (runs_view fetched_log)
unfolding boot one_step steps silently plain_after placement told silent_upto emission_at backup_record account_after
pages_held p h at some = one (pid 16, Runs (unmarked (upto far_system [] 16 0))) (λ p h. has_its_pages far_system fetched_log p ≡ true) refl p h at

-- and not before it
pages_refused : HoldsPages far_system asked_log (runs_view asked_log) → ⊥
unfolding boot one_step steps silently plain_after placement told silent_upto emission_at backup_record account_after
pages_refused pages = true≢false (sym (pages (pid 16) (Runs (unmarked (upto far_system [] 16 0))) refl refl))

-- ---- accounts: the reader has synchronised

abbrev pub synced_3 : Entry
synced_3 = entry 3 (by_cluster 0) 3 (Sync (pid 16) (upto far_system came 16 6).small (0 ∷ []) None)

abbrev pub synced_log : List Entry
synced_log = far_0 ∷ far_1 ∷ far_2 ∷ synced_3 ∷ []

abbrev pub one_account : List ℕ → List ℕ → Account
one_account now kept = record { now = (0, now) ∷ []; kept = (0, kept) ∷ [] }

abbrev accounts_view : List ℕ → ClusterView
accounts_view kept = record (empty_view far_system 1 synced_log) {
  server = Some (record {
    accounts = (pid 16, one_account read_page kept) ∷ (pid 17, one_account (image_page writer_words) (image_page writer_words)) ∷ [];
    fetches = [];
    counts = record { calls = 0; faults = 0; failing = None };
  });
}

pub reader_account : account_at (accounts_view read_page) (pid 16) ≡ account_after far_system synced_log (pid 16)
unfolding boot one_step steps silently plain_after placement told silent_upto emission_at backup_record account_after
reader_account = refl

pub writer_account : account_at (accounts_view read_page) (pid 17) ≡ account_after far_system synced_log (pid 17)
unfolding boot one_step steps silently plain_after placement told silent_upto emission_at backup_record account_after
writer_account = refl

-- a process that is not there has no pages
no_account : account_at (accounts_view read_page) (pid 18) ≡ account_after far_system synced_log (pid 18)
unfolding boot one_step steps silently plain_after placement told silent_upto emission_at backup_record account_after
no_account = refl

-- the synchronisation keeps the page that came
accounts_refused : HoldsAccounts far_system synced_log (accounts_view (image_page reader_words)) → ⊥
unfolding boot one_step steps silently plain_after placement told silent_upto emission_at backup_record account_after
accounts_refused holds = differ 0 120 refl (ap (λ (a : Account). option_map_or (λ bytes. get_or bytes 52 0) (page_in a.kept 0) 0) ((holds.keeps).accounts (pid 16)))

-- ---- a batch: the reader has read the one letter after which it is due

abbrev due_reader : Process
due_reader = record (unmarked (upto far_system came 16 6)) { ram = record { bytes = (upto far_system came 16 6).memory; dirty = true ∷ [] }; read = 0 ∷ [] }

reader_due : is_due (limits_of far_system) due_reader ≡ true
reader_due = refl

-- its page is sent, and then its state
reader_batch : batch due_reader (cluster 0) ≡ far_2.post ∷ synced_3.post ∷ []
unfolding boot one_step steps silently plain_after placement told silent_upto emission_at
reader_batch = refl

-- after it the reader is not due,
due_refused : is_due (limits_of far_system) (synced due_reader) ≡ true → ⊥
unfolding boot one_step steps silently plain_after placement told silent_upto emission_at
due_refused due = true≢false (sym due)

-- and has one thing less to do
reader_lighter : process_load (synced due_reader) + 1 ≡ process_load due_reader
unfolding boot one_step steps silently plain_after placement told silent_upto emission_at
reader_lighter = refl
