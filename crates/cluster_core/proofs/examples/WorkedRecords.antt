-- Worked views of whole lines: the records and the accounts of a cluster are those of the log, for the two processes of the system by computation and for every other pid; and for each line views that it refuses.
use Rattle.std.proofs.Common.{◌≡◌, ◌≤◌, ℕ, refl, sym, ◌∙◌, ap, subst, arith, List, [], ◌∷◌, length, Bool, true, false, eqb, eqb-true, Some, None, is_some, lit<, lit≤, true≢false}
use Rattle.std.specs.Ordering.{is_eq, nat_cmp}
use Rattle.std.proofs.lemmas.Bool.Decides.{nat_tests}
use Rattle.t32_base.specs.declared.process.Pid.{Pid}
use Rattle.t32_base.specs.declared.process.End.TheVariants.{Exit as Exited}
use Rattle.t32_base.specs.declared.letter.BackRec.{BackRec}
use Rattle.sys_text.specs.declared.system.System.{System}
use Rattle.sys_calls.specs.Next.{silently}
use Rattle.plain_kernel.specs.Kernel.{boot}
use Rattle.plain_kernel.specs.Apply.{one_step, steps}
use Rattle.bus_msg.specs.declared.entry.What.TheVariants.{Birth, Exit}
use Rattle.bus_msg.specs.declared.entry.Entry.{Entry}
use Rattle.bus_msg.specs.Places.{same_pid}
use Rattle.cert_sched.specs.Schedule.{plain_after, placement}
use Rattle.cert_sched.specs.Told.{told}
use Rattle.cert_sched.specs.Record.{backup_record}
use Rattle.cert_sched.specs.Account.{Account, account_after, no_pages}
use Rattle.cert_sched.specs.Steps.{silent_upto, emission_at, before_fork_at}
use Rattle.cert_sched.specs.Kinds.{BirthHolds}
use Rattle.backup_records.specs.Records.{record_in}
use Rattle.checkpoint_laws.proofs.marks.EntryMarks.{account_stays}
use Rattle.cluster_core.specs.View.{ClusterView, account_at}
use Rattle.cluster_core.specs.Holds.{HoldsAccounts, HoldsRecords}
use Rattle.residents.proofs.Changing.{pid_same}
use Rattle.cluster_core.proofs.examples.WorkedViews.{pid, by_cluster, image, image_page, root, entry, writer_words, far_system, empty_view, differ, far_0, far_1, far_2, came, synced_3, synced_log, read_page, one_account, reader_record, writer_record, one_by_end_1, records_view, record_due, writer_kept, reader_not_kept}

-- what holds of the two processes of the system, and of every pid that is of neither
pub each_pid : (P : Pid → Type 0) → P (pid 16) → P (pid 17) → ((p : Pid) → same_pid (pid 16) p ≡ false → same_pid (pid 17) p ≡ false → P p) → (p : Pid) → P p
each_pid P first second others p = by_tests (same_pid (pid 16) p) (same_pid (pid 17) p) refl refl
  where
    by_tests : (x y : Bool) → same_pid (pid 16) p ≡ x → same_pid (pid 17) p ≡ y → P p
    by_tests true y is other = subst P (pid_same (pid 16) p (eqb-true 16 p.0 is)) first
    by_tests false true other is = subst P (pid_same (pid 17) p (eqb-true 17 p.0 is)) second
    by_tests false false other another = others p other another

-- ---- records: cluster 0 has the record of the writer, with its letter counted

others_not_kept : (p : Pid) → same_pid (pid 16) p ≡ false → same_pid (pid 17) p ≡ false → record_in (records_view one_by_end_1).records p ≡ record_due p
unfolding placement
others_not_kept p reader writer = rw (reader, writer)

-- and no other
records_held : HoldsRecords far_system (far_0 ∷ []) (records_view one_by_end_1)
records_held = each_pid (λ p. record_in (records_view one_by_end_1).records p ≡ record_due p) reader_not_kept writer_kept others_not_kept

-- these records in place of its own
abbrev with_records : List BackRec → ClusterView
with_records records = record (records_view one_by_end_1) { records = records }

-- a record may not be left out,
record_missing : HoldsRecords far_system (far_0 ∷ []) (with_records []) → ⊥
unfolding boot one_step steps silently plain_after placement told silent_upto emission_at backup_record
record_missing records = true≢false (sym (ap is_some (records (pid 17))))

-- nor one kept of a process whose backup is elsewhere
record_too_many : HoldsRecords far_system (far_0 ∷ []) (with_records (reader_record ∷ writer_record one_by_end_1 ∷ [])) → ⊥
unfolding placement
record_too_many records = true≢false (ap is_some (records (pid 16)))

-- ---- accounts: the reader has synchronised

-- cluster 1 after a log, which keeps these accounts and waiting fetches, and has called its disk so often
abbrev served_view : List Entry → List (Pid × Account) → List (Pid × ℕ) → ℕ → ClusterView
served_view log accounts fetches calls = record (empty_view far_system 1 log) {
  server = Some (record { accounts = accounts; fetches = fetches; counts = record { calls = calls; faults = 0; failing = None } });
}

abbrev reader_pages : Pid × Account
reader_pages = (pid 16, one_account read_page read_page)

abbrev writer_pages : Pid × Account
writer_pages = (pid 17, one_account (image_page writer_words) (image_page writer_words))

tied : (n m : ℕ) → is_eq (nat_cmp n m) ≡ eqb m n
tied n m = grind (arith, nat_tests)

-- a pid of neither process has no pages at boot, and each of these entries leaves it so
module _ (p : Pid) (reader : same_pid (pid 16) p ≡ false) (writer : same_pid (pid 17) p ≡ false) where
  at_boot : account_after far_system [] p ≡ no_pages
  unfolding boot told account_after
  at_boot =
      let first : is_eq (nat_cmp p.0 16) ≡ false = tied p.0 16 ∙ reader in
      let second : is_eq (nat_cmp p.0 17) ≡ false = tied p.0 17 ∙ writer in
      rw (first, second)

  after_letters : account_after far_system came p ≡ no_pages
  after_letters =
      account_stays far_system (far_0 ∷ []) far_1 p (record { no_cut = refl; no_birth = refl; no_exit = refl; no_page = refl; stays = refl })
      ∙ account_stays far_system [] far_0 p (record { no_cut = refl; no_birth = refl; no_exit = refl; no_page = refl; stays = refl })
      ∙ at_boot

  after_sync : account_after far_system synced_log p ≡ no_pages
  after_sync =
      account_stays far_system (far_0 ∷ far_1 ∷ far_2 ∷ []) synced_3 p (record { no_cut = reader; no_birth = refl; no_exit = refl; no_page = refl; stays = refl })
      ∙ account_stays far_system came far_2 p (record { no_cut = refl; no_birth = refl; no_exit = refl; no_page = reader; stays = refl })
      ∙ after_letters

  absent_there : account_at (served_view synced_log (reader_pages ∷ writer_pages ∷ []) [] 3) p ≡ account_after far_system synced_log p
  absent_there =
      let first : is_eq (nat_cmp p.0 16) ≡ false = tied p.0 16 ∙ reader in
      let second : is_eq (nat_cmp p.0 17) ≡ false = tied p.0 17 ∙ writer in
      rw (first, second) (sym after_sync)

-- The accounts are those of every process, no fetch waits, and its disk was called for the page of each root and for the page that came.
accounts_held : HoldsAccounts far_system synced_log (served_view synced_log (reader_pages ∷ writer_pages ∷ []) [] 3)
unfolding boot one_step steps silently plain_after placement told silent_upto emission_at account_after
accounts_held = record {
  keeps = record {
    accounts = each_pid (λ p. account_at (served_view synced_log (reader_pages ∷ writer_pages ∷ []) [] 3) p ≡ account_after far_system synced_log p) refl refl absent_there;
    waits = refl;
  };
  there = λ never_lost serves. refl;
  calls = λ never_lost serves. lit≤ tt;
}

-- a page server has accounts,
server_missing : HoldsAccounts far_system synced_log (empty_view far_system 1 synced_log) → ⊥
server_missing holds = true≢false (sym (holds.there refl refl))

-- has called its disk for each of these pages,
calls_refused : HoldsAccounts far_system synced_log (served_view synced_log (reader_pages ∷ writer_pages ∷ []) [] 2) → ⊥
calls_refused holds = let enough : 3 ≤ 2 = holds.calls refl refl in absurd (omega (arith, enough))

-- and no fetch waits
fetch_refused : HoldsAccounts far_system synced_log (served_view synced_log (reader_pages ∷ writer_pages ∷ []) ((pid 16, 0) ∷ []) 3) → ⊥
unfolding told
fetch_refused holds = differ 1 0 refl (ap length (holds.keeps).waits)

-- ---- accounts: then the writer has ended

abbrev pub ended_4 : Entry
ended_4 = entry 4 (by_cluster 1) 3 (Exit (pid 17) 11 (Exited 0))

abbrev pub ended_log : List Entry
ended_log = far_0 ∷ far_1 ∷ far_2 ∷ synced_3 ∷ ended_4 ∷ []

-- a process that has ended has the account with no pages
ended_account : account_after far_system ended_log (pid 17) ≡ no_pages
unfolding boot told account_after
ended_account = refl

ended_absent : (p : Pid) → same_pid (pid 16) p ≡ false → same_pid (pid 17) p ≡ false → account_at (served_view ended_log (reader_pages ∷ []) [] 3) p ≡ account_after far_system ended_log p
ended_absent p reader writer =
    let first : is_eq (nat_cmp p.0 16) ≡ false = tied p.0 16 ∙ reader in
    let gone : account_after far_system ended_log p ≡ no_pages =
    account_stays far_system synced_log ended_4 p (record { no_cut = refl; no_birth = refl; no_exit = writer; no_page = refl; stays = refl }) ∙ after_sync p reader writer in
    rw first (sym gone)

-- so the page server has the pages of the reader alone,
ended_held : HoldsAccounts far_system ended_log (served_view ended_log (reader_pages ∷ []) [] 3)
unfolding boot one_step steps silently plain_after placement told silent_upto emission_at account_after
ended_held = record {
  keeps = record {
    accounts = each_pid (λ p. account_at (served_view ended_log (reader_pages ∷ []) [] 3) p ≡ account_after far_system ended_log p) refl refl ended_absent;
    waits = refl;
  };
  there = λ never_lost serves. refl;
  calls = λ never_lost serves. lit≤ tt;
}

-- and none of the writer
ended_refused : HoldsAccounts far_system ended_log (served_view ended_log (reader_pages ∷ writer_pages ∷ []) [] 3) → ⊥
unfolding boot told account_after
ended_refused holds = differ 1 0 refl (ap (λ (a : Account). length a.now) ((holds.keeps).accounts (pid 17)))

-- ---- accounts: a child is born, and none of its pages has come

-- forks, and exits
abbrev fork_words : List ℕ
fork_words = 0x00500893 ∷ 0x00000073 ∷ 0x00100893 ∷ 0x00000513 ∷ 0x00000073 ∷ []

-- process 16 runs this in place of the reader, and may fork once
abbrev fork_system : System
fork_system = record far_system { images = image fork_words ∷ image writer_words ∷ []; roots = record (root 0 1 0) { births = 1 } ∷ root 1 0 1 ∷ [] }

abbrev birth_0 : Entry
birth_0 = entry 0 (by_cluster 0) 3 (Birth (pid 16) 2 (pid 32) 2)

abbrev birth_log : List Entry
birth_log = birth_0 ∷ []

-- by its step 2 it forks process 32, by its end 2
birth_holds : BirthHolds fork_system [] (pid 16) 2 (pid 32) 2
unfolding boot one_step steps silently plain_after placement before_fork_at
birth_holds = record { later = lit< tt; end_is = refl; child_is = refl }

-- cluster 1 after it, which keeps these accounts
abbrev born_view : List (Pid × Account) → ClusterView
born_view accounts = record (empty_view fork_system 1 birth_log) { server = (served_view birth_log accounts [] 2).server }

abbrev parent_pages : Pid × Account
parent_pages = (pid 16, one_account (image_page fork_words) (image_page fork_words))

abbrev child_pages : Pid × Account
child_pages = (pid 32, one_account (image_page fork_words) (image_page fork_words))

-- a child begins with the account with no pages
child_account : account_after fork_system birth_log (pid 32) ≡ no_pages
unfolding boot told account_after
child_account = refl

module _ (p : Pid) (parent : same_pid (pid 16) p ≡ false) (writer : same_pid (pid 17) p ≡ false) where
  after_birth : account_after fork_system birth_log p ≡ no_pages
  unfolding boot told account_after
  after_birth =
      let first : is_eq (nat_cmp p.0 16) ≡ false = tied p.0 16 ∙ parent in
      let second : is_eq (nat_cmp p.0 17) ≡ false = tied p.0 17 ∙ writer in
      rw (first, second)

  child_absent : account_at (born_view (parent_pages ∷ writer_pages ∷ [])) p ≡ account_after fork_system birth_log p
  child_absent =
      let first : is_eq (nat_cmp p.0 16) ≡ false = tied p.0 16 ∙ parent in
      let second : is_eq (nat_cmp p.0 17) ≡ false = tied p.0 17 ∙ writer in
      rw (first, second) (sym after_birth)

-- so the page server has the pages of the two roots alone,
child_held : HoldsAccounts fork_system birth_log (born_view (parent_pages ∷ writer_pages ∷ []))
unfolding boot one_step steps silently plain_after placement told silent_upto emission_at account_after
child_held = record {
  keeps = record {
    accounts = each_pid (λ p. account_at (born_view (parent_pages ∷ writer_pages ∷ [])) p ≡ account_after fork_system birth_log p) refl refl child_absent;
    waits = refl;
  };
  there = λ never_lost serves. refl;
  calls = λ never_lost serves. lit≤ tt;
}

-- and none of the child
child_refused : HoldsAccounts fork_system birth_log (born_view (parent_pages ∷ writer_pages ∷ child_pages ∷ [])) → ⊥
unfolding boot told account_after
child_refused holds = differ 1 0 refl (ap (λ (a : Account). length a.now) ((holds.keeps).accounts (pid 32)))
