-- A cluster that follows a log, where the birth of a child of a process here is queued: beside the birth, and with it.
use Rattle.std.proofs.Common.{◌≡◌, ℕ, ◌+◌, ◌≤◌, refl, sym, ◌∙◌, ap, subst, arith, List, [], ◌∷◌, ◌++◌, Bool, true, false, cond, ◌&&◌, eq-eqb, Option, Some, None, inr, inl}
use Rattle.std.specs.Prelude.{is_some, option_map}
use Rattle.std.specs.List.{list_all}
use Rattle.t32_base.specs.declared.process.Pid.{Pid}
use Rattle.t32_base.specs.declared.process.ClusterNo.{ClusterNo}
use Rattle.t32_base.proofs.Facts.{or_first}
use Rattle.sys_text.specs.declared.system.System.{System}
use Rattle.sys_text.specs.Valid.{is_system}
use Rattle.proc_state.specs.declared.process.Process.{Process}
use Rattle.proc_state.specs.State.{ProcState, state_of}
use Rattle.sys_calls.specs.Fork.{next_end}
use Rattle.bus_msg.specs.declared.entry.What.TheVariants.{Birth}
use Rattle.bus_msg.specs.declared.entry.By.TheVariants.{Cluster}
use Rattle.bus_msg.specs.declared.entry.Post.{Post}
use Rattle.bus_msg.specs.declared.entry.Entry.{Entry}
use Rattle.bus_msg.specs.PlacedAfter.{what}
use Rattle.cert_sched.specs.Appended.{entry_of}
use Rattle.cluster_core.specs.Sent.{SentMayStand}
use Rattle.cert_sched.specs.Deeds.{arrived_count}
use Rattle.cert_sched.specs.Legal.{IsLegalBy, Stands, MayStand}
use Rattle.cert_sched.specs.Losses.{capped, is_by_cluster, is_from, is_page_is_entry, least_calls}
use Rattle.cert_sched.specs.Moved.{any_since_moved}
use Rattle.cert_sched.specs.Parts.{rising}
use Rattle.cert_sched.specs.Rests.{home_pids}
use Rattle.cert_sched.specs.Schedule.{placement}
use Rattle.cert_sched.specs.Simulation.{IsUnended}
use Rattle.cert_sched.specs.Steps.{silent_upto}
use Rattle.log_laws.proofs.pages.OneEntry.{any_since-goes_on}
use Rattle.log_laws.proofs.records.Standing.{all_stand}
use Rattle.checkpoint_laws.specs.posts.Running.{RunsMarked}
use Rattle.checkpoint_laws.specs.posts.Sending.{MaySend}
use Rattle.checkpoint_laws.proofs.posts.BirthStands.{birth_stands}
use Rattle.checkpoint_laws.proofs.limits.ForkLimits.{birth_keeps}
use Rattle.checkpoint_laws.specs.marks.Beside.{LeavesMarks}
use Rattle.checkpoint_laws.specs.marks.Sent.{SentUpto, is_later_page}
use Rattle.checkpoint_laws.proofs.marks.EntryMarks.{marks_before, marks_kept}
use Rattle.checkpoint_laws.proofs.marks.ForkMarks.{birth_leaves}
use Rattle.checkpoint_laws.proofs.marks.SentPages.{sent_on}
use Rattle.cluster_core.specs.Bearing.{BearsChild, birth_post}
use Rattle.cluster_core.specs.View.{ClusterView, disk_calls, head_of, held_at}
use Rattle.residents.specs.Held.{Held, Runs}
use Rattle.residents.specs.Residents.{pids_in}
use Rattle.cluster_core.specs.Queue.{Nothing, IsQueueLegal, with_queue}
use Rattle.cluster_core.specs.Holds.{CarriesMarks, IsHeldAs, MarkedIfThere, unended_process}
use Rattle.cluster_core.specs.Follows.{Follows, IsOpen}
use Rattle.cluster_core.proofs.syncs.Batching.{held_alike, unqueued}
use Rattle.cluster_core.proofs.here.Beside.{FollowsBeside, all_of, any_of, one_of_them}
use Rattle.cluster_core.proofs.absorbing.Counted.{count_by-snoc}
use Rattle.cluster_core.proofs.here.Here.{is_among}
use Rattle.cluster_core.proofs.losses.Homes.{HomeHere, pids_apart, home_here, home_lives}
use Rattle.cluster_core.proofs.syncs.Marking.{came_to}
use Rattle.cluster_core.proofs.here.Within.{carried, runs_marked}
use Rattle.cluster_core.proofs.working.Working.{home_by}

-- the entry that the head becomes is the birth
pub birth_head : (system : System) (log : List Entry) (e : Entry) (c : ClusterView) (b : BearsChild system log c) → option_map (entry_of system log) (head_of c.queue) ≡ Some e → entry_of system log (birth_post c.number b.pid (state_of b.process) b.child) ≡ e
birth_head system log e c b head = let both = sym (ap (λ ps. option_map (entry_of system log) (head_of ps)) b.posts) ∙ head in cc

pub birth_is : (system : System) (log : List Entry) (e : Entry) (c : ClusterView) (b : BearsChild system log c) → option_map (entry_of system log) (head_of c.queue) ≡ Some e → what e ≡ Birth b.pid (((b.process).small).steps + 1) b.child (next_end (state_of b.process))
birth_is system log e c b head = sym (ap (λ (x : Entry). what x) (birth_head system log e c b head))

-- ---- what a birth leaves

-- an entry that is no answer is no call of a disk
calls_still : (system : System) (heard log : List Entry) (e : Entry) (k : ClusterNo) → is_page_is_entry (what e) ≡ false → least_calls system heard (log ++ e ∷ []) k ≡ least_calls system heard log k
calls_still system heard log e k other =
    let answered = count_by-snoc (λ (e : Entry). is_page_is_entry (what e) && is_by_cluster k e) log e in
    let none : ◌≡◌ {A = ℕ} (cond (is_page_is_entry (what e) && is_by_cluster k e) 1 0) 0 = ap (λ (b : Bool). cond (b && is_by_cluster k e) 1 0) other in
    omega (arith, answered, none)

-- ---- a birth of a process here

module _ (system : System) (log : List Entry) (c : ClusterView) (b : BearsChild system log c) (valid : is_system system ≡ true) (open_log : IsOpen MayStand system log) where
  abbrev p : Pid
  p = b.pid

  abbrev s : ProcState
  s = state_of b.process

  abbrev post : Post
  post = birth_post c.number p s b.child

  abbrev birth : Entry
  birth = entry_of system log post

  legal : IsLegalBy Stands system log
  legal = all_stand system log open_log.0

  home_of : (q : Pid) (h : Held) → rising (pids_in c.here) ≡ rising (home_pids system log c.number) → held_at c q ≡ Some h → HomeHere (placement system log) q c.number
  home_of q h once there = home_here (placement system log) c.number (pids_in c.here) q (pids_apart system log valid open_log.0) once (is_among c.here q h there)

  -- it is no call of a disk
  calls : least_calls system log (with_queue system log c.queue) c.number ≡ least_calls system log log c.number
  calls = ap (λ ps. least_calls system log (with_queue system log ps) c.number) b.posts ∙ calls_still system log log birth c.number refl

  -- ---- the marks of the processes here, with the birth and without it

  module _ (stands : Stands system log birth) (q : Pid) (unended : IsUnended system log q) where
    leaves : LeavesMarks system log birth q
    leaves = birth_leaves system log birth p ((s.small).steps + 1) b.child (next_end s) q valid legal stands refl unended

    sent_before : (n : ℕ) → SentUpto system (log ++ birth ∷ []) q n → SentUpto system log q n
    sent_before n upto =
        or_first (any_since_moved system log q (is_later_page q n)) (is_later_page q n (what birth)) (sym (any_since-goes_on system log birth q (is_later_page q n) leaves.stays) ∙ upto)

    marks_with : (o : Option Process) → ((process : Process) → o ≡ Some process → (process.mail).next ≡ arrived_count log q) → MarkedIfThere CarriesMarks system log q o → MarkedIfThere CarriesMarks system (log ++ birth ∷ []) q o
    marks_with None came m = tt
    marks_with (Some process) came m =
        let count = came process refl in
        record {
          marked = marks_kept system log birth q process valid legal unended leaves (omega (arith, count)) m.marked;
          pages = m.pages;
          sent = sent_on system log q birth (process.small).steps refl m.sent;
        }

    marks_without : (o : Option Process) → ((process : Process) → o ≡ Some process → (process.mail).next ≡ arrived_count log q) → MarkedIfThere CarriesMarks system (log ++ birth ∷ []) q o → MarkedIfThere CarriesMarks system log q o
    marks_without None came m = tt
    marks_without (Some process) came m =
        let count = came process refl in
        record {
          marked = marks_before system log birth q process valid legal unended leaves (omega (arith, count)) m.marked;
          pages = m.pages;
          sent = sent_before (process.small).steps m.sent;
        }

  -- ---- the birth may stand next

  module _ (f : FollowsBeside all_of system log (unqueued c)) where
    home : HomeHere (placement system log) p c.number
    home = home_of p (Runs b.process) (f.processes).each_once b.there

    reached : silent_upto system log p (s.small).steps ≡ Some s
    reached = (f.processes).held p (Runs b.process) b.there refl

    marked : RunsMarked system log p b.process
    marked =
        let unended : IsUnended system log p = ap is_some home.found in
        runs_marked system log p b.process valid reached legal unended (carried system log p b.process valid reached legal unended (f.marks p (Runs b.process) b.there refl))

    may_send : MaySend system log (Cluster c.number) p s
    may_send = record { goes_on = open_log.1; by_home = home_by (placement system log) c.number p (home_lives system log p c.number valid open_log.0 open_log.1 home) home; reached = reached }

    pub birth_may : SentMayStand system log (entry_of system log (birth_post c.number b.pid (state_of b.process) b.child))
    birth_may = record {
      stands = birth_stands system log (Cluster c.number) p s b.child valid legal may_send b.stands b.next;
      of_kind = refl;
      limits = birth_keeps system log p b.child (next_end s) b.process marked b.undue b.stands;
      new_page = refl;
      pages = f.pages p (Runs b.process) b.there refl;
    }

    -- ---- with the birth

    pub with_birth : Follows system log c
    with_birth = record {
      log = record { cursor = (f.log).cursor; places = (f.log).places };
      processes = record { held = held; each_once = (f.processes).each_once };
      queue = record {
        own = ap (λ ps. list_all (λ (post : Post). is_from c.number post.by) ps) b.posts ∙ ap (λ own. own && true) (eq-eqb (c.number).0 (c.number).0 refl);
        legal = subst (IsQueueLegal SentMayStand system log) (sym b.posts) (birth_may, tt);
      };
      queued = inr (inr (inl b));
      steps = record { counted = (f.steps).counted };
      limits = f.limits;
      pages = f.pages;
      marks = marks;
      records = f.records;
      family = f.family;
      owed = f.owed;
      backups = f.backups;
      forks = f.forks;
      accounts = record { keeps = (f.accounts).keeps; there = (f.accounts).there; calls = λ kept server. subst (λ n. capped n ≤ disk_calls c) (sym calls) ((f.accounts).calls kept server) };
      disk = f.disk;
    }
      where
        held : (q : Pid) (h : Held) → held_at c q ≡ Some h → IsHeldAs system log c.queue q h
        held q h there = subst (λ ps. IsHeldAs system log ps q h) (sym b.posts) (held_alike system log [] (post ∷ []) q h refl refl (λ i. refl) (one_of_them all_of system log [] q h refl ((f.processes).held q h there)))

        marks : (q : Pid) (h : Held) → held_at c q ≡ Some h → MarkedIfThere CarriesMarks system (with_queue system log c.queue) q (unended_process h)
        marks q h there =
            let unended : IsUnended system log q = ap is_some (home_of q h (f.processes).each_once there).found in
            subst (λ ps. MarkedIfThere CarriesMarks system (with_queue system log ps) q (unended_process h)) (sym b.posts)
            (marks_with birth_may.stands q unended (unended_process h) (λ process is. came_to system log q valid legal unended Nothing h process tt tt (one_of_them all_of system log [] q h refl ((f.processes).held q h there)) is) (f.marks q h there refl))

  -- ---- beside the birth

  pub without_birth : Follows system log c → FollowsBeside all_of system log (unqueued c)
  without_birth f = record {
    log = record { cursor = (f.log).cursor; places = (f.log).places };
    processes = record { held = λ q h there. any_of all_of system log [] q h (held q h there); each_once = (f.processes).each_once };
    queue = record { own = refl; legal = tt };
    queued = record { queued = Nothing; posts = refl; together = tt };
    steps = record { counted = (f.steps).counted };
    limits = f.limits;
    pages = f.pages;
    marks = marks;
    records = f.records;
    family = f.family;
    owed = f.owed;
    backups = f.backups;
    forks = f.forks;
    accounts = record { keeps = (f.accounts).keeps; there = (f.accounts).there; calls = λ kept server. subst (λ n. capped n ≤ disk_calls c) calls ((f.accounts).calls kept server) };
    disk = f.disk;
  }
    where
      may : SentMayStand system log birth
      may = (subst (IsQueueLegal SentMayStand system log) b.posts (f.queue).legal).0

      held : (q : Pid) (h : Held) → held_at c q ≡ Some h → IsHeldAs system log [] q h
      held q h there = held_alike system log (post ∷ []) [] q h refl refl (λ i. refl) (subst (λ ps. IsHeldAs system log ps q h) b.posts ((f.processes).held q h there))

      marks : (q : Pid) (h : Held) → held_at c q ≡ Some h → all_of q ≡ true → MarkedIfThere CarriesMarks system log q (unended_process h)
      marks q h there all =
          let unended : IsUnended system log q = ap is_some (home_of q h (f.processes).each_once there).found in
          marks_without may.stands q unended (unended_process h) (λ process is. came_to system log q valid legal unended Nothing h process tt tt (held q h there) is)
          (subst (λ ps. MarkedIfThere CarriesMarks system (with_queue system log ps) q (unended_process h)) b.posts (f.marks q h there))
