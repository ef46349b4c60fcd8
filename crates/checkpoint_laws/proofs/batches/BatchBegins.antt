-- A batch that is queued is under way: its pages are those that are marked, and any other is that of the account.
use Rattle.std.proofs.Common.{◌≡◌, ℕ, ◌<◌, refl, sym, ◌∙◌, ap, subst, arith, List, [], ◌∷◌, ◌++◌, length, map, true, false, not, ◌||◌, ltb, Option, Some, is_some}
use Rattle.std.specs.List.{list_all}
use Rattle.std.specs.Option.{option_map_or}
use Rattle.t32_base.specs.declared.process.Pid.{Pid}
use Rattle.t32_base.specs.declared.process.ClusterNo.{ClusterNo}
use Rattle.sys_text.specs.declared.system.System.{System}
use Rattle.rv_mem.specs.Memory.{page_at}
use Rattle.proc_state.specs.declared.process.Process.{Process}
use Rattle.proc_state.specs.State.{ProcState, state_of, has_ended}
use Rattle.bus_msg.specs.declared.entry.What.TheVariants.{Page, Sync}
use Rattle.bus_msg.specs.declared.entry.By.TheVariants.{Cluster}
use Rattle.bus_msg.specs.declared.entry.Post.{Post}
use Rattle.bus_msg.specs.declared.entry.Entry.{Entry}
use Rattle.sync_point.specs.Batch.{batch, cut_of, is_marked, marked_pages, took_by}
use Rattle.sync_point.specs.Due.{is_due_by}
use Rattle.sync_point.proofs.Cuts.{Keeps, cut_keeps}
use Rattle.sync_point.proofs.WhichMarked.{marked_has, marked_within}
use Rattle.cert_sched.specs.Moved.{any_since_moved, is_page_at}
use Rattle.cert_sched.specs.Steps.{page_count}
use Rattle.cert_sched.specs.Kinds.{ChildrenSynced}
use Rattle.cert_sched.specs.Record.{has_state}
use Rattle.checkpoint_laws.specs.posts.Cut.{TakesTo}
use Rattle.checkpoint_laws.specs.posts.Running.{RunsMarked}
use Rattle.checkpoint_laws.specs.posts.Sending.{MaySend}
use Rattle.checkpoint_laws.proofs.posts.MarksLead.{was_there, marks_count, marks_due}
use Rattle.checkpoint_laws.proofs.posts.CutReads.{cut_reads, cut_takes}
use Rattle.checkpoint_laws.proofs.posts.TakeLeaves.{goes_on_after}
use Rattle.checkpoint_laws.proofs.posts.BatchStands.{own_pid}
use Rattle.checkpoint_laws.specs.batches.Underway.{BatchMay, PagesLeft, PagesMay, posts_left}
use Rattle.checkpoint_laws.proofs.batches.MarkedPages.{passing_all, passing_rising}

module _ (system : System) (log : List Entry) (p : Pid) (process : Process) (by : ClusterNo) (runs : RunsMarked system log p process) where
  abbrev marks : ℕ
  marks = length (process.ram).dirty

  count : page_count system log p ≡ (process.small).pages
  count = let w = was_there system log p process runs in ap (λ (o : Option ProcState). option_map_or (λ (s : ProcState). (s.small).pages) o 0) w.there ∙ sym w.pages

  marked : marks ≡ (process.small).pages
  marked = marks_count system log p process runs

  kept : Keeps process (cut_of process)
  kept = cut_keeps process

  takes : TakesTo (took_by process) (state_of process) (state_of (cut_of process))
  takes = cut_takes process

  -- its marked pages are left, at whatever step count and with whatever memory it is that are its own
  left : (steps : ℕ) (memory : List ℕ) → steps ≡ (process.small).steps → memory ≡ (process.ram).bytes → PagesLeft system log p steps memory (marked_pages process)
  left steps memory at bytes = record {
    in_order = passing_rising (is_marked process) 0 marks;
    within = ap (λ n. list_all (λ i. ltb i n) (marked_pages process)) (count ∙ sym marked) ∙ marked_within process;
    unsent = passing_all (is_marked process) (λ i. not (any_since_moved system log p (is_page_at p i steps))) marks 0 marks (omega arith)
        (λ i below is. ap (λ n. not (any_since_moved system log p (is_page_at p i n))) at ∙ ap not ((runs.marked).unsent i (subst (λ n. i < n) marked below) is));
    account = λ i below other. (runs.marked).clean i (subst (λ n. i < n) count below) (sym (marked_has process i) ∙ other) ∙ (λ j. Some (page_at (sym bytes j) i));
  }

  pub pages_begin : MaySend system log (Cluster by) p (state_of process) → ChildrenSynced system log p → PagesMay system log by p (state_of process) (marked_pages process)
  pages_begin may children = record { may = may; runs = runs.runs; left = left (process.small).steps (process.ram).bytes refl refl; children = children }

  pub batch_begins : MaySend system log (Cluster by) p (state_of process) → ChildrenSynced system log p → (is_due_by process system.syncreads system.syncsteps || is_some (took_by process) || not (has_state system log p)) ≡ true
      → BatchMay system log by p (state_of (cut_of process)) (cut_of process).read (took_by process) (marked_pages process)
  batch_begins may children due = record {
    before = state_of process;
    takes = takes;
    may = may;
    runs = subst (λ (t : ProcState). has_ended (t.small).status ≡ false) takes.after (goes_on_after (took_by process) (state_of process) takes.can runs.runs);
    left = left ((cut_of process).small).steps ((cut_of process).ram).bytes kept.steps (λ j. (kept.ram j).bytes);
    reads = cut_reads system log p process runs;
    children = children;
    due = ap (λ b. b || is_some (took_by process) || not (has_state system log p)) (marks_due system log p process runs) ∙ due;
  }

  own : (process.small).pid ≡ p
  own = own_pid system log p (state_of process) (process.small).steps runs.reached

  pub batch_posts : batch process by ≡ posts_left by p (state_of (cut_of process)) (cut_of process).read (took_by process) (marked_pages process)
  batch_posts =
      λ j. map (λ i. let post : Post = record { by = Cluster by; what = Page (own j) (sym kept.steps j) i (page_at (sym kept.ram j).bytes i) } in post) (marked_pages process)
      ++ record { by = Cluster by; what = Sync (own j) (cut_of process).small (cut_of process).read (took_by process) } ∷ []
