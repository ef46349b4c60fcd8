-- A batch, post by post: each page may stand, and after them the state.
use Rattle.std.proofs.Common.{◌≡◌, ℕ, ◌-◌, ◌<◌, refl, sym, ◌∙◌, ap, subst, arith, List, [], ◌∷◌, ◌++◌, append-nil, map, true, not, ◌||◌, ltb, Option, Some, is_some}
use Rattle.std.specs.Prelude.{nat_le, length, option_and_then}
use Rattle.std.specs.List.{list_all}
use Rattle.std.specs.Option.{option_map_or}
use Rattle.std.proofs.lemmas.Bool.{and_parts}
use Rattle.std.proofs.lemmas.Bool.Decides.{nat_tests}
use Rattle.std.proofs.lemmas.List.Elements.{filter_map-append}
use Rattle.t32_base.specs.declared.process.Pid.{Pid}
use Rattle.t32_base.specs.declared.process.ClusterNo.{ClusterNo}
use Rattle.t32_base.specs.declared.letter.Arrived.{Arrived}
use Rattle.t32_base.specs.Account.{Account, with_page}
use Rattle.t32_base.specs.Small.{SmallState}
use Rattle.sys_text.specs.declared.system.System.{System}
use Rattle.rv_mem.specs.Memory.{page_at}
use Rattle.proc_state.specs.declared.process.Process.{Process}
use Rattle.proc_state.specs.State.{ProcState, state_of}
use Rattle.sys_calls.proofs.Counting.{silently_counts}
use Rattle.plain_kernel.specs.Kernel.{process_at}
use Rattle.bus_msg.specs.declared.entry.What.TheVariants.{Page, Sync}
use Rattle.bus_msg.specs.declared.entry.By.TheVariants.{Cluster}
use Rattle.bus_msg.specs.declared.entry.Post.{Post}
use Rattle.bus_msg.specs.declared.entry.Entry.{Entry}
use Rattle.sync_point.specs.Batch.{batch, cut_of, page_post, page_posts, sync_post, synced, marked_pages, took_by}
use Rattle.sync_point.specs.Due.{is_due_by}
use Rattle.sync_point.specs.Laws.{page_sent, pages_sent, with_pages}
use Rattle.sync_point.proofs.Cuts.{cut_keeps}
use Rattle.sync_point.proofs.WhichMarked.{marked_within}
use Rattle.cert_sched.specs.Appended.{entry_of}
use Rattle.cert_sched.specs.Deeds.{start_of}
use Rattle.cert_sched.specs.Record.{has_state}
use Rattle.cert_sched.specs.Account.{account_after, all_pages}
use Rattle.cert_sched.specs.Steps.{saved_of, numbers_read, page_count, silent_upto}
use Rattle.cert_sched.specs.Rules.{is_by_home}
use Rattle.cert_sched.specs.Kinds.{ChildrenSynced}
use Rattle.cert_sched.specs.Legal.{Stands}
use Rattle.cert_sched.proofs.StepLaws.{silent_from, process_after-own}
use Rattle.checkpoint_laws.specs.posts.Sending.{MaySend, MaySync, is_due_since}
use Rattle.checkpoint_laws.specs.posts.Running.{RunsMarked}
use Rattle.checkpoint_laws.specs.posts.Batched.{log_with, AllStand}
use Rattle.checkpoint_laws.specs.posts.Cut.{CutsAt, TakesTo}
use Rattle.checkpoint_laws.specs.posts.Marked.{IsMarked}
use Rattle.checkpoint_laws.proofs.posts.PageEntry.{page_goes_on, page_places, page_process, page_silent, page_start, page_saved, page_stated, page_children, page_account}
use Rattle.checkpoint_laws.proofs.posts.Standing.{page_stands, sync_stands}
use Rattle.checkpoint_laws.proofs.posts.CutReads.{cut_reads, cut_takes}
use Rattle.checkpoint_laws.proofs.posts.CutMarks.{synced_marks}
use Rattle.checkpoint_laws.proofs.posts.MarksLead.{was_there, marks_count, marks_due, marks_account}

-- ---- posts in order

log_append : (system : System) (log : List Entry) (xs ys : List Post) → log_with system log (xs ++ ys) ≡ log_with system (log_with system log xs) ys
log_append system log [] ys = refl
log_append system log (x ∷ xs) ys = log_append system (log ++ entry_of system log x ∷ []) xs ys

less_of : (i n : ℕ) → ltb i n ≡ true → i < n
less_of i n less = grind (arith, nat_tests)

-- a process that silent steps lead to has the pid under which it stands
pub own_pid : (system : System) (log : List Entry) (p : Pid) (s : ProcState) (at : ℕ) → silent_upto system log p at ≡ Some s → (s.small).pid ≡ p
own_pid system log p s at reached =
    let f = silent_from system log p at s reached in
    (silently_counts _ f.was s f.silent).pid ∙ process_after-own system log p f.was (ap (option_and_then (λ k. process_at k p)) f.before ∙ f.there)

module _ (system : System) (p : Pid) (process : Process) (by : ClusterNo) (own : (process.small).pid ≡ p) where
  -- What stays while the pages are sent: the process may send, has so many pages and starts from there with these letters. Its account is this.
  record Sends (start : Option ProcState) (saved : List Arrived) (a : Account) (log : List Entry) : Type 0 where
    pub may : MaySend system log (Cluster by) p (state_of process)
    pub count : page_count system log p ≡ length (process.ram).dirty
    pub starts : start_of system log p ≡ start
    pub has_saved : saved_of system log p ≡ saved
    pub children : ChildrenSynced system log p
    pub account : account_after system log p ≡ a

  -- ---- one page

  module _ (start : Option ProcState) (saved : List Arrived) (a : Account) (log : List Entry) (i : ℕ) (sends : Sends start saved a log) where
    page_entry : Entry
    page_entry = entry_of system log (page_post process by i)

    one_page : Sends start saved (with_page i (page_at (process.ram).bytes i) a) (log ++ page_entry ∷ [])
    unfolding page_entry
    one_page =
        let at : ℕ = (process.small).steps in
        let bytes : List ℕ = page_at (process.ram).bytes i in
        let is : (page_post process by i).what ≡ Page p at i bytes = ap (λ q. Page q at i bytes) own in
        let e : Entry = entry_of system log (page_post process by i) in
        record {
          may = record {
            goes_on = page_goes_on system log e p at i bytes is;
            by_home = ap (λ places. is_by_home places (Cluster by) (Some p)) (page_places system log e p at i bytes is) ∙ (sends.may).by_home;
            reached = page_silent system log e p at i bytes is p at ∙ (sends.may).reached;
          };
          count = ap (λ (o : Option ProcState). option_map_or (λ (s : ProcState). (s.small).pages) o 0) (page_process system log e p at i bytes is p) ∙ sends.count;
          starts = page_start system log e p at i bytes is p ∙ sends.starts;
          has_saved = page_saved system log e p at i bytes is p ∙ sends.has_saved;
          children = page_children system log e p at i bytes is p ∙ sends.children;
          account = page_account system log e p at i bytes is ∙ ap (with_page i bytes) sends.account;
        }

    one_stands : i < length (process.ram).dirty → Stands system log page_entry
    unfolding page_entry
    one_stands within =
        subst (λ q. Stands system log (entry_of system log (record { by = Cluster by; what = Page q (process.small).steps i (page_at (process.ram).bytes i) }))) (sym own)
        (page_stands system log (Cluster by) p (state_of process) i sends.may (subst (λ n. i < n) (sym sends.count) within))

  -- ---- the pages

  pages : List ℕ → List Post
  pages is = map (page_post process by) is

  all_pages_sent : (start : Option ProcState) (saved : List Arrived) (is : List ℕ) (a : Account) (log : List Entry) → Sends start saved a log → Sends start saved (with_pages (pages_sent (pages is)) a) (log_with system log (pages is))
  unfolding pages page_entry
  all_pages_sent start saved [] a log sends = sends
  all_pages_sent start saved (i ∷ is) a log sends = all_pages_sent start saved is (with_page i (page_at (process.ram).bytes i) a) (log ++ entry_of system log (page_post process by i) ∷ []) (one_page start saved a log i sends)

  all_pages_stand : (start : Option ProcState) (saved : List Arrived) (is : List ℕ) (a : Account) (log : List Entry) (rest : List Post) → list_all (λ i. ltb i (length (process.ram).dirty)) is ≡ true → Sends start saved a log
      → AllStand system (log_with system log (pages is)) rest → AllStand system log (pages is ++ rest)
  unfolding pages page_entry
  all_pages_stand start saved [] a log rest within sends last = last
  all_pages_stand start saved (i ∷ is) a log rest within sends last =
      let parts = and_parts (ltb i (length (process.ram).dirty)) (list_all (λ i. ltb i (length (process.ram).dirty)) is) within in (
        one_stands start saved a log i sends (less_of i (length (process.ram).dirty) parts.0),
        all_pages_stand start saved is (with_page i (page_at (process.ram).bytes i) a) (log ++ entry_of system log (page_post process by i) ∷ []) rest parts.1 (one_page start saved a log i sends) last,
      )

-- ---- the batch

module _ (system : System) (log : List Entry) (p : Pid) (process : Process) (by : ClusterNo) (runs : RunsMarked system log p process) (may : MaySend system log (Cluster by) p (state_of process))
    (children : ChildrenSynced system log p) where
  own : (process.small).pid ≡ p
  own = own_pid system log p (state_of process) (process.small).steps runs.reached

  before : Sends system p process by own (start_of system log p) (saved_of system log p) (account_after system log p) log
  before =
      let w = was_there system log p process runs in
      record {
        may = may;
        count = ap (λ (o : Option ProcState). option_map_or (λ (s : ProcState). (s.small).pages) o 0) w.there ∙ sym w.pages ∙ sym (marks_count system log p process runs);
        starts = refl;
        has_saved = refl;
        children = children;
        account = refl;
      }

  -- pages are no cut
  pages_stated : (is : List ℕ) (log : List Entry) → has_state system (log_with system log (map (page_post process by) is)) p ≡ has_state system log p
  pages_stated [] log = refl
  pages_stated (i ∷ is) log =
      let e : Entry = entry_of system log (page_post process by i) in
      pages_stated is (log ++ e ∷ []) ∙ page_stated system log e (process.small).pid (process.small).steps i (page_at (process.ram).bytes i) refl p

  -- the log after the pages
  paged : List Entry
  paged = log_with system log (page_posts process by)

  after : Sends system p process by own (start_of system log p) (saved_of system log p) (with_pages (pages_sent (page_posts process by)) (account_after system log p)) paged
  unfolding pages paged
  after = all_pages_sent system p process by own (start_of system log p) (saved_of system log p) (marked_pages process) (account_after system log p) log before

  sent_pages : pages_sent (batch process by) ≡ pages_sent (page_posts process by)
  sent_pages = filter_map-append (λ (post : Post). page_sent post.what) (page_posts process by) (sync_post process by ∷ []) ∙ append-nil (pages_sent (page_posts process by))

  whole : (account_after system paged p).now ≡ all_pages (process.ram).bytes
  whole =
      ap (λ (a : Account). a.now) after.account ∙ sym (ap (λ sent. (with_pages sent (account_after system log p)).now) sent_pages)
      ∙ marks_account system log p process runs by

  due_after : is_due_since system paged p (state_of process) ≡ is_due_since system log p (state_of process)
  due_after =
      λ j. nat_le system.syncreads (length (numbers_read (after.has_saved j) (process.mail).letters))
      || nat_le system.syncsteps ((process.small).steps - option_map_or (λ (s : ProcState). (s.small).steps) (after.starts j) 0)

  -- the take of its signal, if it can take one
  takes : TakesTo (took_by process) (state_of process) (state_of (cut_of process))
  takes = cut_takes process

  pub batch_stands : (is_due_by process system.syncreads system.syncsteps || is_some (took_by process) || not (has_state system log p)) ≡ true → AllStand system log (batch process by)
  unfolding pages paged
  batch_stands due =
      all_pages_stand system p process by own (start_of system log p) (saved_of system log p) (marked_pages process) (account_after system log p) log (sync_post process by ∷ []) (marked_within process) before (last, tt)
    where
      sync : MaySync system paged p (state_of process) (cut_of process).read (took_by process)
      sync = record {
        takes = takes.can;
        reads = cut_reads system log p process runs ∙ (λ j. numbers_read (sym after.has_saved j) (sym takes.after j).mail);
        children = after.children;
        account = whole;
        due = (λ j. due_after j || is_some (took_by process) || not (pages_stated (marked_pages process) log j))
            ∙ ap (λ b. b || is_some (took_by process) || not (has_state system log p)) (marks_due system log p process runs) ∙ due;
      }

      last : Stands system paged (entry_of system paged (sync_post process by))
      last =
          subst (λ (r : Pid × SmallState). Stands system paged (entry_of system paged (record { by = Cluster by; what = Sync r.0 r.1 (cut_of process).read (took_by process) })))
          (λ j. (sym own j, (takes.after j).small))
          (sync_stands system paged (Cluster by) p (state_of process) (cut_of process).read (took_by process) after.may sync)

  pub batch_marks : IsMarked system (log_with system log (batch process by)) p (synced process)
  unfolding paged
  batch_marks =
      let cut : CutsAt system paged (entry_of system paged (sync_post process by)) p (state_of (cut_of process)) =
      record {
        read = (cut_of process).read;
        took = took_by process;
        before = state_of process;
        says = ap (λ q. Sync q (cut_of process).small (cut_of process).read (took_by process)) own;
        reached = ap (silent_upto system paged p) (cut_keeps process).steps ∙ (after.may).reached;
        takes = takes;
      } in
      subst (λ l. IsMarked system l p (synced process)) (sym (log_append system log (page_posts process by) (sync_post process by ∷ [])))
      (synced_marks system paged (entry_of system paged (sync_post process by)) p process runs.valid cut whole)
