-- A cluster that has the answer to a fetch queued follows the log as well without it.
use Rattle.std.proofs.Common.{◌≡◌, ◌≤◌, refl, ap, subst, arith, List, [], ◌∷◌, ◌||◌, true, false, Some, is_some}
use Rattle.std.specs.List.{list_all}
use Rattle.t32_base.specs.declared.process.Pid.{Pid}
use Rattle.sys_text.specs.declared.system.System.{System}
use Rattle.sys_text.specs.Valid.{is_system}
use Rattle.bus_msg.specs.declared.entry.Entry.{Entry}
use Rattle.bus_msg.specs.declared.entry.Post.{Post}
use Rattle.cert_sched.specs.Legal.{MayStand}
use Rattle.cluster_core.specs.Sent.{SentMayStand}
use Rattle.cert_sched.specs.Losses.{capped, is_from, least_calls}
use Rattle.cert_sched.specs.Schedule.{placement}
use Rattle.cert_sched.specs.Simulation.{IsUnended}
use Rattle.log_laws.proofs.records.Standing.{all_stand}
use Rattle.cluster_core.specs.Follows.{Follows, IsOpen}
use Rattle.cluster_core.specs.Holds.{CarriesMarks, IsHeldAs, MarkedIfThere, unended_process}
use Rattle.cert_sched.specs.Moved.{is_fetch}
use Rattle.cluster_core.specs.Queue.{IsQueueLegal, Nothing, One, is_lone, is_rebackup, move_of, with_queue}
use Rattle.residents.specs.Residents.{pids_in}
use Rattle.cluster_core.specs.View.{ClusterView, disk_calls, held_at}
use Rattle.residents.specs.Held.{Held}
use Rattle.cluster_core.proofs.absorbing.Counted.{capped_less}
use Rattle.cluster_core.proofs.absorbing.Fallen.{IsComing}
use Rattle.cluster_core.proofs.absorbing.Served.{IsPlain, least_queued}
use Rattle.cluster_core.proofs.here.Beside.{FollowsBeside, all_of, any_of}
use Rattle.cluster_core.proofs.here.Here.{is_among}
use Rattle.cluster_core.proofs.losses.Homes.{pids_apart, home_here}
use Rattle.cluster_core.proofs.syncs.Batching.{held_alike, unqueued}
use Rattle.cluster_core.proofs.syncs.Marking.{marked_unqueued, queue_tells}

module _ (system : System) (log : List Entry) (c : ClusterView) (post : Post) (posts : c.queue ≡ post ∷ []) (kind : IsComing post.what) (valid : is_system system ≡ true) (open_log : IsOpen MayStand system log) where
  lone : is_lone post.what ≡ true
  lone = ap is_lone kind.same

  plain : IsPlain (One post)
  plain = ap is_rebackup kind.same

  pub without_answer : Follows system log c → FollowsBeside all_of system log (unqueued c)
  without_answer f = record {
    log = record { cursor = (f.log).cursor; places = (f.log).places };
    processes = record { held = λ q h there. any_of all_of system log [] q h (held q h there); each_once = (f.processes).each_once };
    queue = record { own = refl; legal = tt };
    queued = record { queued = Nothing; posts = refl; together = tt };
    steps = record { counted = (f.steps).counted };
    limits = f.limits;
    pages = f.pages;
    marks = λ q h there all. marks q h there;
    records = f.records;
    family = f.family;
    owed = f.owed;
    backups = f.backups;
    forks = f.forks;
    accounts = record { keeps = (f.accounts).keeps; there = (f.accounts).there; calls = λ kept server. calls ((f.accounts).calls kept server) };
    disk = f.disk;
  }
    where
      own : list_all (λ (post : Post). is_from c.number post.by) (post ∷ []) ≡ true
      own = subst (λ ps. list_all (λ (post : Post). is_from c.number post.by) ps ≡ true) posts (f.queue).own

      legal : IsQueueLegal SentMayStand system log (post ∷ [])
      legal = subst (IsQueueLegal SentMayStand system log) posts (f.queue).legal

      was : (q : Pid) (h : Held) → held_at c q ≡ Some h → IsHeldAs system log (post ∷ []) q h
      was q h there = subst (λ ps. IsHeldAs system log ps q h) posts ((f.processes).held q h there)

      -- it tells of no process and asks for no page
      held : (q : Pid) (h : Held) → held_at c q ≡ Some h → IsHeldAs system log [] q h
      held q h there = held_alike system log (post ∷ []) [] q h (ap (λ w. move_of q (record { by = post.by; what = w } ∷ [])) kind.same) refl (λ i. ap (λ w. is_fetch q i w || false) kind.same) (was q h there)

      marks : (q : Pid) (h : Held) → held_at c q ≡ Some h → MarkedIfThere CarriesMarks system log q (unended_process h)
      marks q h there =
          let unended : IsUnended system log q = ap is_some (home_here (placement system log) c.number (pids_in c.here) q (pids_apart system log valid open_log.0) (f.processes).each_once (is_among c.here q h there)).found in
          marked_unqueued system log q valid (all_stand system log open_log.0) unended (One post) h lone (queue_tells system log c.number (One post) own legal) (was q h there)
          (subst (λ ps. MarkedIfThere CarriesMarks system (with_queue system log ps) q (unended_process h)) posts (f.marks q h there))

      calls : capped (least_calls system log (with_queue system log c.queue) c.number) ≤ disk_calls c → capped (least_calls system log log c.number) ≤ disk_calls c
      calls few =
          let same = ap (λ ps. least_calls system log (with_queue system log ps) c.number) posts in
          let more = least_queued system log (One post) c.number plain in
          capped_less (least_calls system log log c.number) (least_calls system log (with_queue system log c.queue) c.number) (disk_calls c) (omega (arith, same, more)) few
