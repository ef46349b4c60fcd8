-- A process that synchronises while an entry of another cluster is taken in: it is still here, with letters more at most, and the rest of its batch is still under way.
use Rattle.std.proofs.Common.{◌≡◌, ℕ, refl, sym, ◌∙◌, ap, subst, List, [], ◌∷◌, ◌++◌, Bool, true, false, cond, eqb, Option, Some}
use Rattle.std.specs.Prelude.{map, option_map, replicate}
use Rattle.std.specs.List.{list_any}
use Rattle.t32_base.specs.declared.process.Pid.{Pid}
use Rattle.t32_base.specs.declared.process.ClusterNo.{ClusterNo}
use Rattle.t32_base.specs.declared.letter.Letter.{Letter}
use Rattle.t32_base.specs.Small.{SmallState}
use Rattle.sys_text.specs.Valid.{is_system}
use Rattle.rv_mem.specs.Memory.{page_at as page_bytes}
use Rattle.proc_state.specs.declared.process.Process.{Process}
use Rattle.proc_state.specs.State.{ProcState, state_of}
use Rattle.bus_msg.specs.declared.entry.What.{What}
use Rattle.bus_msg.specs.declared.entry.What.TheVariants.{Page, Sync}
use Rattle.bus_msg.specs.declared.entry.By.TheVariants.{Cluster}
use Rattle.bus_msg.specs.declared.entry.Entry.{Entry}
use Rattle.bus_msg.specs.declared.placed.Placed.{Placed}
use Rattle.bus_msg.specs.Places.{same_pid}
use Rattle.bus_msg.specs.PlacedAfter.{what}
use Rattle.cert_sched.specs.Deeds.{is_end_of, letter_for, to_process}
use Rattle.cert_sched.specs.Legal.{Stands, MayStand, KeepsLimits}
use Rattle.cert_sched.specs.Losses.{is_by_cluster}
use Rattle.cert_sched.specs.Parts.{rising}
use Rattle.cert_sched.specs.Rests.{home_pids}
use Rattle.cert_sched.specs.Rules.{home_at, is_by_home, tells_or_closes}
use Rattle.cert_sched.specs.Schedule.{placement}
use Rattle.cert_sched.proofs.LogLaws.{IsLegal-last}
use Rattle.cert_sched.proofs.RisingLaws.{rising-any}
use Rattle.checkpoint_laws.specs.marks.Sent.{SentUpto}
use Rattle.checkpoint_laws.proofs.marks.SentPages.{sent_on}
use Rattle.checkpoint_laws.specs.batches.Between.{ComesBetween}
use Rattle.checkpoint_laws.specs.batches.Underway.{BatchMay, posts_left, with_letters}
use Rattle.checkpoint_laws.proofs.batches.EntryBetween.{batch_stays}
use Rattle.checkpoint_laws.proofs.batches.OtherSenders.{others_between}
use Rattle.checkpoint_laws.proofs.limits.RestLimits.{between_keeps}
use Rattle.log_laws.proofs.records.Standing.{all_stand}
use Rattle.cluster_core.specs.View.{ClusterView, held_at}
use Rattle.residents.specs.Held.{Held, Runs, arrived, arrived_held, held_of, page_held}
use Rattle.residents.specs.Residents.{pids_in}
use Rattle.cluster_core.specs.Syncing.{Synchronises}
use Rattle.cluster_core.specs.Follows.{Follows, IsOpen}
use Rattle.cluster_core.proofs.syncs.Batching.{all_but, sent_there, unqueued, with_batch}
use Rattle.cluster_core.proofs.here.Beside.{FollowsBeside}
use Rattle.cluster_core.proofs.absorbing.ByKind.{by_kind, by_page, is_of_page}
use Rattle.cluster_core.proofs.here.Here.{arrival_at, is_among}
use Rattle.cluster_core.proofs.losses.Homes.{HomeHere, pids_apart, home_here, home_lives}
use Rattle.cluster_core.proofs.paging.Paged.{page_at}
use Rattle.cluster_core.proofs.working.Working.{home_by}
use Rattle.t32_base.specs.declared.letter.To.{To}
use Rattle.t32_base.specs.declared.letter.To.TheVariants.{Proc, Tty}
use Rattle.cluster_core.proofs.losses.HeldAtHome.{home_listed, held_there, home_found}
use Rattle.cluster_core.proofs.syncs.Marking.{not_later}

-- ---- what stays of a process

-- it runs, and has these letters more
pub record RunsStill (letters : List Letter) (process : Process) (h : Held) : Type 0 where
  pub now : Process
  pub is : h ≡ Runs now
  pub small : now.small ≡ process.small
  pub ram : now.ram ≡ process.ram
  pub read : now.read ≡ process.read
  pub since : now.since ≡ process.since
  pub state : state_of now ≡ with_letters (state_of process) letters

pub still_itself : (process : Process) (letters : List Letter) → letters ≡ [] → RunsStill letters process (Runs process)
still_itself process letters none = record { now = process; is = refl; small = refl; ram = refl; read = refl; since = refl; state = ap (with_letters (state_of process)) (sym none) }

pub still_told : (w : What) (p : Pid) (process : Process) → tells_or_closes w ≡ true → RunsStill (letter_for p w) process (arrival_at w p (Runs process))
still_told w p process =
    by_kind (λ w. RunsStill (letter_for p w) process (arrival_at w p (Runs process))) (λ at letter. by_to letter letter.to) (λ pid at end. still_itself process [] refl) (λ rests. still_itself process [] refl) (still_itself process [] refl) w
  where
    by_pid : (letter : Letter) (b : Bool) → RunsStill (cond b (letter ∷ []) []) process (cond b (arrived_held (Runs process) letter) (Runs process))
    by_pid letter true = record { now = arrived process letter; is = refl; small = refl; ram = refl; read = refl; since = refl; state = refl }
    by_pid letter false = still_itself process [] refl

    by_to : (letter : Letter) (to : To) → RunsStill (to_process p letter to) process (cond (is_end_of p to) (arrived_held (Runs process) letter) (Runs process))
    by_to letter (Proc q end) = by_pid letter (same_pid q p)
    by_to letter (Tty t) = still_itself process [] refl

pub still_paged : (w : What) (p : Pid) (process : Process) → is_of_page w ≡ true → RunsStill (letter_for p w) process (page_at w p (Runs process))
still_paged w p process = by_page (λ w. RunsStill (letter_for p w) process (page_at w p (Runs process))) (λ pid index. still_itself process [] refl) (λ pid index bytes. by_pid index bytes (same_pid pid p)) w
  where
    by_pid : (index : ℕ) (bytes : List ℕ) (b : Bool) → RunsStill [] process (cond b (page_held index bytes (Runs process)) (Runs process))
    by_pid index bytes true = still_itself process [] refl
    by_pid index bytes false = still_itself process [] refl

-- what is left of a batch is told by the small state and the memory
same_posts : (k : ClusterNo) (p : Pid) (s t : ProcState) (read : List ℕ) (took : Option ℕ) (indices : List ℕ) → s.small ≡ t.small → s.memory ≡ t.memory → posts_left k p s read took indices ≡ posts_left k p t read took indices
same_posts k p s t read took indices small memory =
    λ i. map (λ (n : ℕ). record { by = Cluster k; what = Page p (small i).steps n (page_bytes (memory i) n) }) indices ++ record { by = Cluster k; what = Sync p (small i) read took } ∷ []

-- ---- who is at home is here

-- ---- the whole

module _ (c : ClusterView) (log : List Entry) (e : Entry) (y : Synchronises c.system log c) (valid : is_system c.system ≡ true) (now : IsOpen MayStand c.system log) (next : IsOpen MayStand c.system (log ++ e ∷ []))
    (f : Follows c.system log c) (foreign : is_by_cluster c.number e ≡ false) where
  abbrev later : List Entry
  later = log ++ e ∷ []

  abbrev p : Pid
  p = y.pid

  pub home_now : HomeHere (placement c.system log) p c.number
  home_now = home_here (placement c.system log) c.number (pids_in c.here) p (pids_apart c.system log valid now.0) (f.processes).each_once (is_among c.here p (Runs y.process) y.there)

  -- beside the batch the cluster follows the log with the entry, by which the process neither moved nor changed but for letters that came: then it does so with the batch
  pub stays_with_batch : (new : ClusterView) → new.system ≡ c.system → new.number ≡ c.number → new.queue ≡ c.queue → FollowsBeside (all_but p) c.system later (unqueued new) → home_at (placement c.system later) p ≡ home_at (placement c.system log) p
      → ((h : Held) → held_at new p ≡ Some h → RunsStill (letter_for p (what e)) y.process h) → Follows c.system later new
  stays_with_batch new system_is number queue beside same_home stays = with_batch c.system later new still valid next beside sent_still
    where
      home_then : HomeHere (placement c.system later) p c.number
      home_then = home_found (placement c.system later) p c.number (home_now.placed).home (same_home ∙ ap (option_map (λ (q : Placed). q.home)) home_now.found) home_now.home

      listed : list_any (λ n. eqb n p.0) (pids_in new.here) ≡ true
      listed =
          sym (rising-any (λ n. eqb n p.0) (pids_in new.here))
          ∙ ap (list_any (λ n. eqb n p.0)) ((beside.processes).each_once ∙ ap (λ k. rising (home_pids c.system later k)) number)
          ∙ rising-any (λ n. eqb n p.0) (home_pids c.system later c.number)
          ∙ home_listed c.number (placement c.system later).placed p home_then.placed home_then.found home_then.home

      at : (h : Held) × (held_of new.here p ≡ Some h)
      at = held_there new.here p listed

      r : RunsStill (letter_for p (what e)) y.process at.0
      r = stays at.0 at.1

      there : held_at new p ≡ Some (Runs r.now)
      there = at.1 ∙ ap Some r.is

      by_home_of : (entries : List Entry) → IsOpen MayStand c.system entries → HomeHere (placement c.system entries) p c.number → is_by_home (placement c.system entries) (Cluster c.number) (Some p) ≡ true
      by_home_of entries open_log home = home_by (placement c.system entries) c.number p (home_lives c.system entries p c.number valid open_log.0 open_log.1 home) home

      stands : Stands c.system log e
      stands = (IsLegal-last MayStand c.system log e next.0).stands

      between : ComesBetween c.system log e c.number p
      between = others_between c.system log e c.number p valid (all_stand c.system log now.0) stands foreign (by_home_of log now home_now) next.1 (by_home_of later next home_then)

      may : BatchMay c.system later c.number p (state_of r.now) y.read y.took y.indices
      may =
          subst (λ t. BatchMay c.system later c.number p t y.read y.took y.indices) (sym r.state)
          (batch_stays c.system log e c.number p (state_of y.process) y.read y.took y.indices between y.may)

      -- the letters that came are not read
      within : KeepsLimits c.system later (Sync p (r.now).small y.read y.took)
      within =
          subst (λ small. KeepsLimits c.system later (Sync p small y.read y.took)) (sym r.small)
          (between_keeps c.system log e c.number p (state_of y.process) y.read y.took y.indices between y.may y.within)

      still : Synchronises c.system later new
      still = record {
        pid = p;
        process = r.now;
        read = y.read;
        took = y.took;
        indices = y.indices;
        posts = queue ∙ y.posts ∙ same_posts c.number p (state_of y.process) (state_of r.now) y.read y.took y.indices (sym r.small) (ap (λ ram. ram.bytes) (sym r.ram)) ∙ ap (λ k. posts_left k p (state_of r.now) y.read y.took y.indices) (sym number);
        there = there;
        within = within;
        may = subst (λ k. BatchMay c.system later k p (state_of r.now) y.read y.took y.indices) (sym number) may;
        unread = r.read ∙ y.unread;
        since = r.since ∙ y.since ∙ ap (λ (s : SmallState). s.steps) (sym r.small);
        unmarked = ap (λ ram. ram.dirty) r.ram ∙ y.unmarked ∙ ap (λ (s : SmallState). replicate s.pages false) (sym r.small);
      }

      sent_still : SentUpto c.system later p ((r.now).small).steps
      sent_still =
          subst (λ (s : SmallState). SentUpto c.system later p s.steps) (sym r.small)
          (sent_on c.system log p e ((y.process).small).steps (not_later p ((y.process).small).steps (what e) (between.leaves).no_page) (sent_there c.system log c y valid now f))
