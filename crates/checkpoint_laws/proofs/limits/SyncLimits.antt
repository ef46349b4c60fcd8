-- A synchronisation of a process that is within its limits keeps them, whether it takes a signal or not, and so does each post of its batch.
use Rattle.std.proofs.Common.{◌≡◌, ℕ, ◌-◌, refl, sym, ◌∙◌, ap, subst, List, [], ◌∷◌, ◌++◌, map, length, true, false, ◌&&◌, leb, Option}
use Rattle.std.specs.Option.{option_map_or}
use Rattle.t32_base.specs.declared.process.Pid.{Pid}
use Rattle.t32_base.specs.declared.process.ClusterNo.{ClusterNo}
use Rattle.t32_base.specs.Small.{SmallState}
use Rattle.sys_text.specs.declared.system.System.{System}
use Rattle.rv_mem.specs.Memory.{page_at}
use Rattle.proc_state.specs.declared.process.Process.{Process}
use Rattle.proc_state.specs.State.{ProcState, state_of}
use Rattle.sync_point.specs.Batch.{batch, cut_of, marked_pages, page_post, page_posts, sync_post, took_by}
use Rattle.sync_point.proofs.Cuts.{cut_keeps}
use Rattle.bus_msg.specs.declared.entry.What.TheVariants.{Sync}
use Rattle.bus_msg.specs.declared.entry.Post.{Post}
use Rattle.bus_msg.specs.declared.entry.Entry.{Entry}
use Rattle.cert_sched.specs.Appended.{entry_of}
use Rattle.cert_sched.specs.Deeds.{start_of}
use Rattle.cert_sched.specs.Steps.{numbers_read, saved_of, silent_upto}
use Rattle.cert_sched.specs.Rules.{is_within_limits, keeps_limits}
use Rattle.checkpoint_laws.specs.posts.Running.{RunsMarked}
use Rattle.checkpoint_laws.specs.posts.Batched.{log_with}
use Rattle.checkpoint_laws.proofs.posts.PageEntry.{page_saved, page_silent, page_start}
use Rattle.checkpoint_laws.proofs.posts.BatchStands.{own_pid}
use Rattle.checkpoint_laws.specs.limits.Within.{AllKeepLimits, KeepsLimits, is_within_by}
use Rattle.checkpoint_laws.proofs.limits.OwnCounts.{own_limits}

-- ---- where the process starts, and where silent steps lead

-- what the limits of a process depend on is the same after both logs
record SameLimits (system : System) (log later : List Entry) (p : Pid) : Type 0 where
  pub start : start_of system later p ≡ start_of system log p
  pub saved : saved_of system later p ≡ saved_of system log p
  pub silent : (n : ℕ) → silent_upto system later p n ≡ silent_upto system log p n

same_keep : (system : System) (log later : List Entry) (p : Pid) (s : ProcState) → SameLimits system log later p → keeps_limits system later p s ≡ keeps_limits system log p s
same_keep system log later p s same =
    λ j. leb ((s.small).steps - option_map_or (λ (q : ProcState). (q.small).steps) (same.start j) 0) system.syncsteps
    && leb (length (numbers_read (same.saved j) s.mail)) system.syncreads

-- the synchronisation keeps the limits after a later log
module _ (system : System) (log : List Entry) (p : Pid) (process : Process) (runs : RunsMarked system log p process) (within : is_within_by process system.syncreads system.syncsteps ≡ true) where
  later_within : (later : List Entry) (small : SmallState) (read : List ℕ) (took : Option ℕ) → small.steps ≡ (process.small).steps → SameLimits system log later p → is_within_limits system later (Sync p small read took) p ≡ true
  later_within later small read took steps same =
      ap (λ o. option_map_or (keeps_limits system later p) o false) (same.silent small.steps ∙ ap (silent_upto system log p) steps ∙ runs.reached)
      ∙ same_keep system log later p (state_of process) same
      ∙ own_limits system log p process runs
      ∙ within

pub sync_within : (system : System) (log : List Entry) (p : Pid) (process : Process) (small : SmallState) (read : List ℕ) (took : Option ℕ) → RunsMarked system log p process → is_within_by process system.syncreads system.syncsteps ≡ true
    → small.steps ≡ (process.small).steps → is_within_limits system log (Sync p small read took) p ≡ true
sync_within system log p process small read took runs within steps = later_within system log p process runs within log small read took steps (record { start = refl; saved = refl; silent = λ n. refl })

pub sync_keeps : (system : System) (log : List Entry) (p : Pid) (process : Process) (small : SmallState) (read : List ℕ) (took : Option ℕ) → RunsMarked system log p process → is_within_by process system.syncreads system.syncsteps ≡ true
    → small.steps ≡ (process.small).steps → KeepsLimits system log (Sync p small read took)
sync_keeps = sync_within

-- ---- the batch

module _ (system : System) (p : Pid) (process : Process) (by : ClusterNo) where
  pages : List ℕ → List Post
  pages is = map (page_post process by) is

  -- its pages change nothing of that
  pages_same : (is : List ℕ) (log : List Entry) → SameLimits system log (log_with system log (pages is)) p
  unfolding pages
  pages_same [] log = record { start = refl; saved = refl; silent = λ n. refl }
  pages_same (i ∷ is) log =
      let at : ℕ = (process.small).steps in
      let bytes : List ℕ = page_at (process.ram).bytes i in
      let e : Entry = entry_of system log (page_post process by i) in
      let rest = pages_same is (log ++ e ∷ []) in
      record {
        start = rest.start ∙ page_start system log e (process.small).pid at i bytes refl p;
        saved = rest.saved ∙ page_saved system log e (process.small).pid at i bytes refl p;
        silent = λ n. rest.silent n ∙ page_silent system log e (process.small).pid at i bytes refl p n;
      }

  -- and are not limited
  pages_keep : (is : List ℕ) (log : List Entry) (rest : List Post) → AllKeepLimits system (log_with system log (pages is)) rest → AllKeepLimits system log (pages is ++ rest)
  unfolding pages
  pages_keep [] log rest last = last
  pages_keep (i ∷ is) log rest last = (refl, pages_keep is (log ++ entry_of system log (page_post process by i) ∷ []) rest last)

pub batch_keeps : (system : System) (log : List Entry) (p : Pid) (process : Process) (by : ClusterNo) → RunsMarked system log p process → is_within_by process system.syncreads system.syncsteps ≡ true → AllKeepLimits system log (batch process by)
unfolding pages
batch_keeps system log p process by runs within = pages_keep system p process by (marked_pages process) log (sync_post process by ∷ []) (last, tt)
  where
    last : KeepsLimits system (log_with system log (page_posts process by)) (sync_post process by).what
    last =
        subst (λ q. KeepsLimits system (log_with system log (page_posts process by)) (Sync q (cut_of process).small (cut_of process).read (took_by process))) (sym (own_pid system log p (state_of process) (process.small).steps runs.reached))
        (later_within system log p process runs within (log_with system log (page_posts process by)) (cut_of process).small (cut_of process).read (took_by process) (cut_keeps process).steps (pages_same system p process by (marked_pages process) log))
