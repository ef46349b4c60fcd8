-- The birth of a child that is queued while an entry of another cluster is taken in: the parent still stands before its fork, and its next child has the pid that it had.
use Rattle.std.proofs.Common.{◌≡◌, ℕ, ◌+◌, ◌-◌, refl, sym, ◌∙◌, ap, subst, List, [], ◌∷◌, ◌++◌, Bool, true, false, cond, ◌||◌, eqb, eqb-true, eq-eqb, Option, Some, None, is_none, slice_get, true≢false}
use Rattle.std.specs.Prelude.{length, nat_le, option_map}
use Rattle.std.specs.List.{list_any}
use Rattle.std.specs.Option.{option_map_or}
use Rattle.t32_base.specs.declared.process.Pid.{Pid}
use Rattle.t32_base.specs.declared.process.ClusterNo.{ClusterNo}
use Rattle.t32_base.specs.Small.{SmallState}
use Rattle.sys_text.specs.declared.system.System.{System}
use Rattle.sys_text.specs.Boot.{pid_of}
use Rattle.sys_text.specs.Valid.{is_system}
use Rattle.rv_cpu.specs.Exec.{exec, reg}
use Rattle.proc_state.specs.Ends.{free_end}
use Rattle.proc_state.specs.State.{ProcState, state_of, with_small}
use Rattle.sys_calls.specs.Small.{spent}
use Rattle.sys_calls.specs.Calls.{Forks, call_of, called, refused}
use Rattle.sys_calls.specs.Fork.{fork_end}
use Rattle.sys_calls.specs.Next.{after_exec, live_step, next_step, step_by}
use Rattle.sys_calls.proofs.ForkLaws.{IsForking, is_forking}
use Rattle.bus_msg.specs.declared.entry.What.TheVariants.{Birth}
use Rattle.bus_msg.specs.declared.entry.By.TheVariants.{Cluster}
use Rattle.bus_msg.specs.declared.entry.Entry.{Entry}
use Rattle.bus_msg.specs.declared.entry.Post.{Post}
use Rattle.bus_msg.specs.declared.placed.Placed.{Placed}
use Rattle.bus_msg.specs.Places.{ClusterPlace, Places, next_serial_in, placed_at, same_cluster, unended_at}
use Rattle.bus_msg.specs.PlacedAfter.{changed_at, lost_cluster, placed_after, raised_serial, returned_cluster, what, with_birth}
use Rattle.channel_table.specs.Changes.{pids_differ}
use Rattle.cert_sched.specs.Legal.{MayStand}
use Rattle.cert_sched.specs.Kinds.{KindHolds, next_child_at}
use Rattle.cert_sched.specs.Losses.{is_by_cluster, is_crash_of}
use Rattle.cert_sched.specs.Parts.{rising}
use Rattle.cert_sched.specs.Rests.{home_pids}
use Rattle.cert_sched.specs.Rules.{home_at, is_by, is_by_home, is_by_right}
use Rattle.cert_sched.specs.Schedule.{placement}
use Rattle.cert_sched.proofs.FreshLaws.{BornRightly, born_rightly, kept_elsewhere, only_one}
use Rattle.cert_sched.proofs.LogLaws.{IsLegal-last, placement-snoc}
use Rattle.cert_sched.proofs.PidLaws.{apart_of}
use Rattle.cert_sched.proofs.RisingLaws.{rising-any}
use Rattle.cluster_core.specs.Bearing.{BearsChild, birth_post}
use Rattle.cluster_core.specs.View.{ClusterView, held_at}
use Rattle.residents.specs.Held.{Held, Runs, held_of}
use Rattle.residents.specs.Residents.{pids_in}
use Rattle.cluster_core.specs.Follows.{IsOpen}
use Rattle.cluster_core.proofs.absorbing.Following.{by_home_of, by_one}
use Rattle.cluster_core.proofs.here.Here.{is_among}
use Rattle.cluster_core.proofs.losses.HeldAtHome.{held_there, home_found, home_listed}
use Rattle.cluster_core.proofs.losses.Homes.{HomeHere, pids_apart, home_here}
use Rattle.cluster_core.proofs.losses.Asked.{asked_kept}
use Rattle.cluster_core.proofs.losses.NotMoved.{by_each}
use Rattle.cluster_core.proofs.syncs.Stayed.{RunsStill}
use Rattle.cert_sched.specs.Deeds.{letter_for}
use Rattle.sync_point.specs.Due.{is_due_by}

-- ---- before a fork

-- where all of this is so, the next step is a fork
fork_next : (t : ProcState) → IsForking t → next_step t ≡ Forks
fork_next t f =
    let p : ProcState = with_small t (spent t.small) in
    ap (λ status. step_by status t) f.live
    ∙ ap (λ b. live_step b t) f.some
    ∙ ap (λ x. after_exec x p) f.calls
    ∙ ap (λ c. called c p) f.forks
    ∙ ap (λ b. cond b (refused p 11) (cond (is_none (free_end (t.small).ends)) (refused p 24) Forks)) f.births
    ∙ ap (λ b. cond b (refused p 24) Forks) f.end

-- whether a process stands before its fork is told by the small state and the memory: it does so with more letters
pub forks_alike : (s t : ProcState) → s.small ≡ t.small → s.memory ≡ t.memory → next_step s ≡ Forks → next_step t ≡ Forks
forks_alike s t small memory forks = fork_next t alike
  where
    f : IsForking s
    f = is_forking s forks

    alike : IsForking t
    alike = record {
      live = ap (λ (x : SmallState). x.status) (sym small) ∙ f.live;
      some = ap (λ (x : SmallState). eqb x.left 0) (sym small) ∙ f.some;
      calls = (λ i. exec (sym small i).regs (sym memory i)) ∙ f.calls;
      forks = ap (λ (x : SmallState). call_of (reg x.regs 17)) (sym small) ∙ f.forks;
      births = ap (λ (x : SmallState). eqb x.births 0) (sym small) ∙ f.births;
      end = ap (λ (x : SmallState). is_none (free_end x.ends)) (sym small) ∙ f.end;
    }

-- the birth is told by the small state
same_birth : (k : ClusterNo) (p : Pid) (s t : ProcState) (child : Pid) → s.small ≡ t.small → birth_post k p s child ≡ birth_post k p t child
same_birth k p s t child small = ap (λ (x : SmallState). let post : Post = record { by = Cluster k; what = Birth p (x.steps + 1) child (fork_end x) } in post) small

-- ---- the next serials

abbrev serial_at : List ClusterPlace → ℕ → ℕ
serial_at clusters n = option_map_or (λ (c : ClusterPlace). c.next_serial) (slice_get clusters n) 0

-- a birth elsewhere leaves the next serial of a cluster,
serial_elsewhere : (clusters : List ClusterPlace) (j n : ℕ) (o : Option ClusterPlace) → eqb j n ≡ false → serial_at (changed_at j raised_serial o clusters) n ≡ serial_at clusters n
serial_elsewhere clusters j n None apart = refl
serial_elsewhere clusters j n (Some c) apart =
    ap (λ o. option_map_or (λ (c : ClusterPlace). c.next_serial) o 0) (kept_elsewhere clusters j n (raised_serial c) (λ same. true≢false (sym (eq-eqb j n (sym same)) ∙ apart)))

serial_born : (places : Places) (child : Pid) (k : ClusterNo) (o : Option Placed) → ((q : Placed) → o ≡ Some q → same_cluster q.home k ≡ false) → next_serial_in (with_birth places child o) k ≡ next_serial_in places k
serial_born places child k None away = refl
serial_born places child k (Some q) away = serial_elsewhere places.clusters (q.home).0 k.0 (slice_get places.clusters (q.home).0) (away q refl)

-- the pid of the next child of a process is told by its home
abbrev child_there : Places → ClusterNo → Pid
child_there places h = pid_of h.0 (next_serial_in places h)

child_by_home : (places : Places) (o : Option Placed) → option_map (next_child_at places) o ≡ option_map (child_there places) (option_map (λ (q : Placed). q.home) o)
child_by_home places None = refl
child_by_home places (Some q) = refl

-- ---- an entry of another cluster

module _ (system : System) (valid : is_system system ≡ true) (log : List Entry) (e : Entry) (k : ClusterNo) (now : IsOpen MayStand system log) (next : IsOpen MayStand system (log ++ e ∷ [])) (foreign : is_by_cluster k e ≡ false) where
  abbrev later : List Entry
  later = log ++ e ∷ []

  abbrev places : Places
  places = placement system log

  may_e : MayStand system log e
  may_e = IsLegal-last MayStand system log e next.0

  differ : pids_differ places.placed ≡ true
  differ = pids_apart system log valid now.0

  -- who sends a birth is the home of the parent
  sent_elsewhere : (parent : Pid) (q : Placed) → unended_at places parent ≡ Some q → is_by_home places (e.post).by (Some parent) ≡ true → (b : Bool) → same_cluster q.home k ≡ b → b ≡ false
  sent_elsewhere parent q found right true here =
      let by : is_by (e.post).by (Some q.home) ≡ true = subst (λ h. is_by (e.post).by h ≡ true) (ap (option_map (λ (q : Placed). q.home)) found) (by_home_of places (e.post).by parent right) in
      absurd (true≢false (sym (by_one k (Cluster q.home) (e.post).by (Some q.home) (eq-eqb (q.home).0 (q.home).0 refl) by here) ∙ foreign))
  sent_elsewhere parent q found right false here = refl

  -- so the parent is at home elsewhere
  parent_away : (parent child : Pid) → is_by_home places (e.post).by (Some parent) ≡ true → option_map (next_child_at places) (unended_at places parent) ≡ Some child → (q : Placed) → placed_at places parent ≡ Some q → same_cluster q.home k ≡ false
  parent_away parent child right child_is q placed =
      let born : BornRightly places parent child = born_rightly places (e.post).by parent child right child_is in
      let both : Some q ≡ Some born.at = sym placed ∙ only_one parent places.placed born.at (apart_of places.placed differ) born.found in
      let one : q ≡ born.at = cc in
      ap (λ (x : Placed). same_cluster x.home k) one ∙ sent_elsewhere parent born.at born.found right (same_cluster (born.at).home k) refl

  -- the next child of this cluster has the serial that it had
  pub serial_after : next_serial_in (placement system later) k ≡ next_serial_in places k
  serial_after =
      ap (λ places. next_serial_in places k) (placement-snoc system log e)
      ∙ by_each (λ w. is_by_right places (e.post).by w ≡ true → KindHolds system log e w → next_serial_in (placed_after places w) k ≡ next_serial_in places k)
      (λ at letter right kind. refl) (λ parent at child end right kind. serial_born places child k (placed_at places parent) (parent_away parent child right kind.child_is)) (λ r at end right kind. refl) (λ r index right kind. refl) (λ r index bytes right kind. refl)
      (λ lost cause right kind. asked_kept (λ (c : ClusterPlace). c.next_serial) 0 lost_cluster (λ c. refl) places.clusters lost.0 k.0) (λ r at index bytes right kind. refl) (λ r small read took right kind. refl) (λ to fresh recs right kind. refl)
      (λ j right kind. asked_kept (λ (c : ClusterPlace). c.next_serial) 0 returned_cluster (λ c. refl) places.clusters j.0 k.0) (λ rests right kind. refl) (λ right kind. refl) (what e) (may_e.stands).by_right (may_e.stands).kind

  -- so the next child of a process at home here has the pid that it had, where the process stays at home
  pub child_after : (p child : Pid) → HomeHere places p k → home_at (placement system later) p ≡ home_at places p → option_map (next_child_at places) (unended_at places p) ≡ Some child → option_map (next_child_at (placement system later)) (unended_at (placement system later) p) ≡ Some child
  child_after p child here same_home is =
      child_by_home (placement system later) (unended_at (placement system later) p)
      ∙ ap (option_map (child_there (placement system later))) (same_home ∙ home_is)
      ∙ ap (λ n. Some (pid_of ((here.placed).home).0 n)) serial_there
      ∙ sym (ap (option_map (child_there places)) home_is)
      ∙ sym (child_by_home places (unended_at places p))
      ∙ is
    where
      home_is : home_at places p ≡ Some (here.placed).home
      home_is = ap (option_map (λ (q : Placed). q.home)) here.found

      serial_there : next_serial_in (placement system later) (here.placed).home ≡ next_serial_in places (here.placed).home
      serial_there =
          let same : ((here.placed).home).0 ≡ k.0 = eqb-true ((here.placed).home).0 k.0 here.home in
          ap (serial_at (placement system later).clusters) same ∙ serial_after ∙ sym (ap (serial_at places.clusters) same)

-- ---- the whole

-- the parent neither moved nor changed but for letters that came: its birth still stands next in the queue
pub bears_still : (c : ClusterView) (log : List Entry) (e : Entry) (b : BearsChild c.system log c) → is_system c.system ≡ true → IsOpen MayStand c.system log → IsOpen MayStand c.system (log ++ e ∷ [])
    → rising (pids_in c.here) ≡ rising (home_pids c.system log c.number) → is_by_cluster c.number e ≡ false → is_crash_of c.number (what e) ≡ false
    → (new : ClusterView) → new.system ≡ c.system → new.number ≡ c.number → new.queue ≡ c.queue → rising (pids_in new.here) ≡ rising (home_pids c.system (log ++ e ∷ []) c.number)
    → home_at (placement c.system (log ++ e ∷ [])) b.pid ≡ home_at (placement c.system log) b.pid → ((h : Held) → held_at new b.pid ≡ Some h → RunsStill (letter_for b.pid (what e)) b.process h) → BearsChild c.system (log ++ e ∷ []) new
bears_still c log e b valid now next here_now foreign away new system_is number queue here_then same_home stays = record {
  pid = b.pid;
  process = r.now;
  child = b.child;
  posts = queue ∙ b.posts ∙ ap (λ post. post ∷ []) (same_birth c.number b.pid (state_of b.process) (state_of r.now) b.child (sym r.small) ∙ ap (λ k. birth_post k b.pid (state_of r.now) b.child) (sym number));
  there = at.1 ∙ ap Some r.is;
  stands = forks_alike (state_of b.process) (state_of r.now) (sym r.small) (ap (λ ram. ram.bytes) (sym r.ram)) b.stands;
  undue = undue;
  next = child_after c.system valid log e c.number now next foreign b.pid b.child home_now same_home b.next;
}
  where
    home_now : HomeHere (placement c.system log) b.pid c.number
    home_now = home_here (placement c.system log) c.number (pids_in c.here) b.pid (pids_apart c.system log valid now.0) here_now (is_among c.here b.pid (Runs b.process) b.there)

    home_then : HomeHere (placement c.system (log ++ e ∷ [])) b.pid c.number
    home_then = home_found (placement c.system (log ++ e ∷ [])) b.pid c.number (home_now.placed).home (same_home ∙ ap (option_map (λ (q : Placed). q.home)) home_now.found) home_now.home

    listed : list_any (λ n. eqb n (b.pid).0) (pids_in new.here) ≡ true
    listed =
        sym (rising-any (λ n. eqb n (b.pid).0) (pids_in new.here))
        ∙ ap (list_any (λ n. eqb n (b.pid).0)) here_then
        ∙ rising-any (λ n. eqb n (b.pid).0) (home_pids c.system (log ++ e ∷ []) c.number)
        ∙ home_listed c.number (placement c.system (log ++ e ∷ [])).placed b.pid home_then.placed home_then.found home_then.home

    at : (h : Held) × (held_of new.here b.pid ≡ Some h)
    at = held_there new.here b.pid listed

    r : RunsStill (letter_for b.pid (what e)) b.process at.0
    r = stays at.0 at.1

    undue : is_due_by r.now (c.system).syncreads (c.system).syncsteps ≡ false
    undue = (λ i. nat_le (c.system).syncreads (length (r.read i)) || nat_le (c.system).syncsteps ((r.small i).steps - r.since i)) ∙ b.undue
