-- A queue only adds to what a log shows.
use Rattle.std.proofs.Common.{ℕ, ◌≤◌, arith, List, [], ◌∷◌, ◌++◌, Bool, true, false, cond}
use Rattle.std.specs.Prelude.{count_by}
use Rattle.t32_base.specs.declared.process.ClusterNo.{ClusterNo}
use Rattle.sys_text.specs.declared.system.System.{System}
use Rattle.bus_msg.specs.declared.entry.Post.{Post}
use Rattle.bus_msg.specs.declared.entry.Entry.{Entry}
use Rattle.cert_sched.specs.Appended.{entry_of}
use Rattle.cert_sched.specs.Losses.{capped, least_calls}
use Rattle.cluster_core.specs.Queue.{is_rebackup, with_queue}
use Rattle.cluster_core.proofs.absorbing.Counted.{count_by-snoc}
use Rattle.cluster_core.proofs.absorbing.Served.{answers}

-- no fewer pass a test with a queue
pub queued_more : (test : Entry → Bool) (system : System) (log : List Entry) (queue : List Post) → count_by test log ≤ count_by test (with_queue system log queue)
queued_more test system log [] = omega arith
queued_more test system log (post ∷ rest) = by_test (is_rebackup post.what) (queued_more test system log rest) (queued_more test system (log ++ entry_of system log post ∷ []) rest)
  where
    one : count_by test log ≤ count_by test (log ++ entry_of system log post ∷ [])
    one = let more = count_by-snoc test log (entry_of system log post) in omega (arith, more)

    by_test : (b : Bool) → count_by test log ≤ count_by test (with_queue system log rest) → count_by test (log ++ entry_of system log post ∷ []) ≤ count_by test (with_queue system (log ++ entry_of system log post ∷ []) rest)
        → count_by test log ≤ count_by test (cond b (with_queue system log rest) (with_queue system (log ++ entry_of system log post ∷ []) rest))
    by_test true same later = same
    by_test false same later = omega (arith, one, later)

-- so calls that are enough for a log with a queue are enough for the log
pub queued_enough : (system : System) (log : List Entry) (queue : List Post) (k : ClusterNo) (calls : ℕ) → capped (least_calls system log (with_queue system log queue) k) ≤ calls → capped (least_calls system log log k) ≤ calls
queued_enough system log queue k calls enough = let more = queued_more (answers k) system log queue in omega (arith, enough, more)
