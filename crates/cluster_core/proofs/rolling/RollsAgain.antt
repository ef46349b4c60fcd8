-- A cluster goes on to follow a log where one process made steps again that are withheld, of which none is a fork.
use Rattle.std.proofs.Common.{◌≡◌, ℕ, ◌≤◌, refl, sym, ◌∙◌, ap, subst, List, [], true, Some, is_some, inl}
use Rattle.t32_base.specs.declared.process.Pid.{Pid}
use Rattle.sys_text.specs.Valid.{is_system}
use Rattle.bus_msg.specs.declared.entry.Entry.{Entry}
use Rattle.cert_sched.specs.Parts.{rising}
use Rattle.cert_sched.specs.Legal.{MayStand}
use Rattle.cluster_core.specs.View.{ClusterView, held_at}
use Rattle.residents.specs.Held.{Held, Waits}
use Rattle.residents.specs.Changed.{with_changed}
use Rattle.cluster_core.specs.Queue.{Nothing, with_queue}
use Rattle.cluster_core.specs.Holds.{CarriesMarks, IsHeldAs, MarkedIfThere, process_in, unended_process}
use Rattle.cluster_core.specs.Follows.{Follows, IsOpen}
use Rattle.residents.specs.Quantum.{RollsTo}
use Rattle.cluster_core.proofs.forks.ForksAgain.{forks_changed, rolled_forks}
use Rattle.residents.proofs.Changing.{pids_changed}
use Rattle.cluster_core.proofs.working.Working.{held_beside, held_between, limits_beside, marked_between, marks_beside, pages_beside, within_between, acts, backups_beside}

-- who makes such steps is no one that waits
rolled_in : (n : ℕ) (was now : Held) → RollsTo n was now → is_some (process_in was) ≡ true
rolled_in n (Waits w) now rolls = absurd rolls
rolled_in n _ now rolls = refl

pub rolls_again_follows : (c : ClusterView) (log : List Entry) (p : Pid) (n : ℕ) (was now : Held) → is_system c.system ≡ true → c.queue ≡ [] → IsOpen MayStand c.system log → Follows c.system log c → held_at c p ≡ Some was → 1 ≤ n → RollsTo n was now
    → Follows c.system log (record c { here = with_changed p now c.here })
rolls_again_follows c log p n was now valid empty go f there some rolls = record {
  log = record { cursor = (f.log).cursor; places = (f.log).places };
  processes = record {
    held = held_beside c log p now c.queue f (subst (λ ps. IsHeldAs c.system log ps p now) (sym empty) (held_between c p was empty there valid log go f n now rolls)) (λ q h other as_before. as_before);
    each_once = ap rising (pids_changed p now c.here) ∙ (f.processes).each_once;
  };
  queue = record { own = (f.queue).own; legal = (f.queue).legal };
  queued = inl (record { queued = Nothing; posts = empty; together = tt });
  steps = record { counted = (f.steps).counted };
  limits = limits_beside c p now f.limits (within_between c p was empty there valid log go f n now rolls);
  pages = pages_beside c log p now f.pages (λ one. f.pages p was there (rolled_in n was now rolls));
  marks = marks_beside c log p now c.queue f (subst (λ ps. MarkedIfThere CarriesMarks c.system (with_queue c.system log ps) p (unended_process now)) (sym empty) (marked_between c p was empty there valid log go f n now rolls)) (λ q h other held m. m);
  records = f.records;
  family = f.family;
  owed = f.owed;
  backups = backups_beside c log p now f.backups (λ begun. f.backups p was there (acts was (rolled_in n was now rolls)));
  forks = forks_changed c.family p was now c.here there (rolled_forks n was now rolls) f.forks;
  accounts = record { keeps = (f.accounts).keeps; there = (f.accounts).there; calls = (f.accounts).calls };
  disk = f.disk;
}
