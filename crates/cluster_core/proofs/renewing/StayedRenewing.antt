-- A process that gets its new backup while an entry of another cluster is taken in: it is still here, with letters more at most, and the rest of its pages is still to be sent.
use Rattle.std.proofs.Common.{◌≡◌, ◌≤◌, ℕ, refl, sym, ◌∙◌, ap, subst, arith, List, [], ◌∷◌, ◌++◌, map, true, false, eqb, Some, None}
use Rattle.std.specs.Prelude.{option_map, replicate}
use Rattle.std.specs.List.{list_any}
use Rattle.t32_base.specs.declared.process.Pid.{Pid}
use Rattle.t32_base.specs.declared.process.ClusterNo.{ClusterNo}
use Rattle.t32_base.specs.declared.letter.Letter.{Letter}
use Rattle.t32_base.specs.Small.{SmallState}
use Rattle.sys_text.specs.declared.system.System.{System}
use Rattle.sys_text.specs.Valid.{is_system}
use Rattle.rv_mem.specs.Memory.{page_at as page_bytes}
use Rattle.proc_state.specs.declared.process.Process.{Process}
use Rattle.proc_state.specs.State.{ProcState, delivered, state_of}
use Rattle.bus_msg.specs.declared.entry.What.TheVariants.{Page}
use Rattle.bus_msg.specs.declared.entry.By.TheVariants.{Cluster}
use Rattle.bus_msg.specs.declared.entry.Post.{Post}
use Rattle.bus_msg.specs.declared.entry.Entry.{Entry}
use Rattle.bus_msg.specs.declared.placed.Placed.{Placed}
use Rattle.bus_msg.specs.PlacedAfter.{what}
use Rattle.cert_sched.specs.Deeds.{arrived_count, letter_for}
use Rattle.cert_sched.specs.Legal.{IsLegalBy, Stands, MayStand}
use Rattle.cert_sched.specs.Losses.{is_by_cluster}
use Rattle.cert_sched.specs.Parts.{rising}
use Rattle.cert_sched.specs.Rests.{home_pids}
use Rattle.cert_sched.specs.Rules.{home_at, is_by_home, keeps_limits}
use Rattle.cert_sched.specs.Schedule.{placement}
use Rattle.cert_sched.specs.Simulation.{IsUnended}
use Rattle.cert_sched.specs.Steps.{numbers_read, saved_of, start_steps}
use Rattle.cert_sched.proofs.CutLaws.{by_home_there}
use Rattle.cert_sched.proofs.LogLaws.{IsLegal-last}
use Rattle.cert_sched.proofs.RisingLaws.{rising-any}
use Rattle.log_laws.proofs.letters.RollingReads.{silent_next}
use Rattle.log_laws.proofs.records.Standing.{all_stand}
use Rattle.checkpoint_laws.specs.marks.Sent.{SentUpto}
use Rattle.checkpoint_laws.specs.posts.Marked.{arrived_below}
use Rattle.checkpoint_laws.proofs.marks.LetterMarks.{letter_kept}
use Rattle.checkpoint_laws.proofs.marks.SentPages.{sent_on}
use Rattle.checkpoint_laws.specs.batches.Between.{ComesBetween}
use Rattle.checkpoint_laws.specs.batches.Underway.{PagesMay, with_letters}
use Rattle.checkpoint_laws.proofs.batches.EntryBetween.{as_delivered, pages_stay}
use Rattle.checkpoint_laws.proofs.batches.OtherSenders.{others_between}
use Rattle.checkpoint_laws.proofs.limits.StayingLimits.{left_keeps}
use Rattle.backup_laws.specs.Posts.{CountsFrom}
use Rattle.backup_laws.proofs.RenewalMarks.{counts_kept}
use Rattle.residents.specs.Held.{Held, Runs, held_of}
use Rattle.residents.specs.Residents.{pids_in}
use Rattle.cluster_core.specs.View.{ClusterView, held_at}
use Rattle.cluster_core.specs.Renewing.{Renews, renewing_left}
use Rattle.cluster_core.specs.Follows.{Follows, IsOpen}
use Rattle.cluster_core.proofs.here.Beside.{FollowsBeside}
use Rattle.cluster_core.proofs.here.Here.{is_among}
use Rattle.cluster_core.proofs.losses.HeldAtHome.{held_there, home_found, home_listed}
use Rattle.cluster_core.proofs.losses.Homes.{HomeHere, pids_apart, home_here, home_lives}
use Rattle.cluster_core.proofs.renewing.Renewing.{sent_there, with_renewal}
use Rattle.cluster_core.proofs.syncs.Batching.{all_but, unqueued}
use Rattle.cluster_core.proofs.syncs.Marking.{not_later}
use Rattle.cluster_core.proofs.syncs.Stayed.{RunsStill}
use Rattle.cluster_core.proofs.working.Working.{home_by}

-- ---- what is queued

-- the pages are told by the small state and the memory
same_pages : (k : ClusterNo) (p : Pid) (s t : ProcState) (indices : List ℕ) → s.small ≡ t.small → s.memory ≡ t.memory → renewing_left k None p s indices ≡ renewing_left k None p t indices
same_pages k p s t indices small memory = λ i. map (λ (n : ℕ). let post : Post = record { by = Cluster k; what = Page p (small i).steps n (page_bytes (memory i) n) } in post) indices ++ []

-- ---- what it counts from

-- letters that come are none that were read
module _ (system : System) (log : List Entry) (p : Pid) (process : Process) where
  abbrev ReadsOf : ProcState → Type 0
  ReadsOf s = rising process.read ≡ numbers_read (arrived_below s.next (saved_of system log p)) s.mail

  read_still : (s : ProcState) (letter : Letter) → ReadsOf s → ReadsOf (delivered s letter)
  read_still s letter reads =
      (letter_kept system log p (record process { small = record (process.small) { pages = 0 }; mail = record { letters = s.mail; next = s.next }; since = start_steps system log p }) letter
      (record { since_start = refl; read = reads; clean = λ i within. absurd (omega (arith, within)); unsent = λ i within. absurd (omega (arith, within)) })).read

  reads_still : (s : ProcState) (letters : List Letter) → ReadsOf s → ReadsOf (with_letters s letters)
  reads_still s [] reads = reads
  reads_still s (letter ∷ letters) reads = reads_still (delivered s letter) letters (read_still s letter reads)

-- so one that has letters more counts from where it counted
counts_told : (system : System) (log : List Entry) (p : Pid) (letters : List Letter) (process now : Process)
    → now.read ≡ process.read → now.since ≡ process.since → state_of now ≡ with_letters (state_of process) letters
    → CountsFrom system log p process → CountsFrom system log p now
counts_told system log p letters process now read since state counts = record {
  since_start = since ∙ counts.since_start;
  read = ap rising read ∙ subst (ReadsOf system log p process) (sym state) (reads_still system log p process (state_of process) letters counts.read);
}

-- ---- the whole

module _ (c : ClusterView) (log : List Entry) (e : Entry) (y : Renews c.system log c) (valid : is_system c.system ≡ true)
    (now : IsOpen MayStand c.system log) (next : IsOpen MayStand c.system (log ++ e ∷ []))
    (f : Follows c.system log c) (foreign : is_by_cluster c.number e ≡ false) where
  abbrev later : List Entry
  later = log ++ e ∷ []

  abbrev p : Pid
  p = y.pid

  abbrev s : ProcState
  s = state_of y.process

  pub home_now : HomeHere (placement c.system log) p c.number
  home_now = home_here (placement c.system log) c.number (pids_in c.here) p (pids_apart c.system log valid now.0) (f.processes).each_once (is_among c.here p (Runs y.process) y.there)

  -- Beside the posts the cluster follows the log with the entry, by which the process neither moved nor changed but for letters that came: then it does so with the pages that are left.
  pub stays_renewing : (new : ClusterView) → new.system ≡ c.system → new.number ≡ c.number → new.queue ≡ renewing_left c.number None p s y.indices
      → FollowsBeside (all_but p) c.system later (unqueued new) → home_at (placement c.system later) p ≡ home_at (placement c.system log) p
      → ((h : Held) → held_at new p ≡ Some h → RunsStill (letter_for p (what e)) y.process h) → Follows c.system later new
  stays_renewing new system_is number queue beside same_home stays = with_renewal c.system later new still valid next beside sent_still
    where
      home_then : HomeHere (placement c.system later) p c.number
      home_then = home_found (placement c.system later) p c.number (home_now.placed).home (same_home ∙ ap (option_map (λ (q : Placed). q.home)) home_now.found) home_now.home

      listed : list_any (λ n. eqb n p.0) (pids_in new.here) ≡ true
      listed =
          sym (rising-any (λ n. eqb n p.0) (pids_in new.here))
          ∙ ap (list_any (λ n. eqb n p.0)) ((beside.processes).each_once ∙ ap (λ k. rising (home_pids c.system later k)) number)
          ∙ rising-any (λ n. eqb n p.0) (home_pids c.system later c.number)
          ∙ home_listed c.number (placement c.system later).placed p home_then.placed home_then.found home_then.home

      at : (h : Held) × (held_of new.here p ≡ Some h)
      at = held_there new.here p listed

      r : RunsStill (letter_for p (what e)) y.process at.0
      r = stays at.0 at.1

      there : held_at new p ≡ Some (Runs r.now)
      there = at.1 ∙ ap Some r.is

      by_home_of : (entries : List Entry) → IsOpen MayStand c.system entries → HomeHere (placement c.system entries) p c.number
          → is_by_home (placement c.system entries) (Cluster c.number) (Some p) ≡ true
      by_home_of entries open_log home = home_by (placement c.system entries) c.number p (home_lives c.system entries p c.number valid open_log.0 open_log.1 home) home

      stands : Stands c.system log e
      stands = (IsLegal-last MayStand c.system log e next.0).stands

      legal : IsLegalBy Stands c.system log
      legal = all_stand c.system log now.0

      between : ComesBetween c.system log e c.number p
      between = others_between c.system log e c.number p valid legal stands foreign (by_home_of log now home_now) next.1 (by_home_of later next home_then)

      may : PagesMay c.system later c.number p (state_of r.now) y.indices
      may = subst (λ t. PagesMay c.system later c.number p t y.indices) (sym r.state) (pages_stay c.system log e c.number p s y.indices between y.may)

      unended : IsUnended c.system log p
      unended = by_home_there (placement c.system log) (Cluster c.number) p ((y.may).may).by_home

      -- as many letters came to it as the log has for it
      came : s.next ≡ arrived_count log p
      came = silent_next c.system log p (s.small).steps s valid legal ((y.may).may).reached (y.may).runs

      -- the letters that came are not read
      within : keeps_limits c.system later p (state_of r.now) ≡ true
      within = ap (keeps_limits c.system later p) (r.state ∙ as_delivered s (letter_for p (what e))) ∙ left_keeps c.system log e p s valid legal unended between.leaves came y.within

      low : s.next ≤ arrived_count log p
      low = omega (arith, came)

      counts : CountsFrom c.system later p r.now
      counts = counts_told c.system later p (letter_for p (what e)) y.process r.now r.read r.since r.state (counts_kept c.system log e p y.process valid legal unended between.leaves low y.counts)

      still : Renews c.system later new
      still = record {
        pid = p;
        process = r.now;
        to = None;
        indices = y.indices;
        posts = queue ∙ same_pages c.number p s (state_of r.now) y.indices (sym r.small) (ap (λ ram. ram.bytes) (sym r.ram)) ∙ ap (λ k. renewing_left k None p (state_of r.now) y.indices) (sym number);
        there = there;
        owed = tt;
        within = within;
        may = subst (λ k. PagesMay c.system later k p (state_of r.now) y.indices) (sym number) may;
        counts = counts;
        unmarked = ap (λ ram. ram.dirty) r.ram ∙ y.unmarked ∙ ap (λ (s : SmallState). replicate s.pages false) (sym r.small);
      }

      sent_still : SentUpto c.system later p ((r.now).small).steps
      sent_still =
          subst (λ (s : SmallState). SentUpto c.system later p s.steps) (sym r.small)
          (sent_on c.system log p e ((y.process).small).steps (not_later p ((y.process).small).steps (what e) (between.leaves).no_page) (sent_there c.system log c y valid now f))
