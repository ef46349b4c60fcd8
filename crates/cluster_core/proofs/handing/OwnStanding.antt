-- A cluster that takes in the post by which it handed on a family goes on to follow the log.
use Rattle.std.proofs.Common.{◌≡◌, ℕ, Option, ◌+◌, ◌≤◌, refl, sym, ◌∙◌, ap, subst, arith, List, [], ◌∷◌, ◌++◌, true, false, cond}
use Rattle.std.specs.Prelude.{option_map}
use Rattle.std.proofs.lemmas.Option.{same_Some}
use Rattle.sys_text.specs.Valid.{is_system}
use Rattle.bus_msg.specs.declared.entry.What.TheVariants.{Rebackup}
use Rattle.bus_msg.specs.declared.entry.Entry.{Entry}
use Rattle.bus_msg.specs.PlacedAfter.{what}
use Rattle.cert_sched.specs.Appended.{entry_of}
use Rattle.cert_sched.specs.Legal.{MayStand}
use Rattle.cert_sched.specs.Losses.{capped, least_steps}
use Rattle.cert_sched.specs.Schedule.{placement}
use Rattle.page_server.specs.Account.{PagerState}
use Rattle.cluster_core.specs.Calls.{with_entry}
use Rattle.cluster_core.specs.Follows.{Follows, IsOpen, StandsBetween}
use Rattle.cluster_core.specs.HandingOn.{HandsOver}
use Rattle.cluster_core.specs.Parts.{AllOwn}
use Rattle.cluster_core.specs.Serving.{Serves}
use Rattle.cluster_core.specs.View.{ClusterView, after_head, after_sent, head_of, with_server}
use Rattle.cluster_core.proofs.absorbing.ByKind.{IsRenewal}
use Rattle.cluster_core.proofs.absorbing.Counted.{capped_less, lost_before}
use Rattle.cluster_core.proofs.absorbing.Following.{counted_own}
use Rattle.cluster_core.proofs.absorbing.Renewed.{follows_handed}
use Rattle.cluster_core.proofs.handing.Queued.{without_standing}
use Rattle.cluster_core.proofs.here.Beside.{FollowsBeside, all_of, sent_of}
use Rattle.cluster_core.proofs.syncs.Batching.{unqueued}

pub follows_own_standing : (c : ClusterView) (log : List Entry) (e : Entry) (server : Option PagerState) → is_system c.system ≡ true → AllOwn c.cursor c.here → IsOpen MayStand c.system log → IsOpen MayStand c.system (log ++ e ∷ [])
    → (s : StandsBetween Follows c.system log e c) → HandsOver s.before → Serves (placement c.system log) e c.server server → Follows c.system (log ++ e ∷ []) (with_server server (with_entry c e))
follows_own_standing c log e server valid own now later s h serves =
    subst (λ (d : ClusterView). Follows c.system (log ++ e ∷ []) (with_server server (with_entry d e))) (sym same)
    (sent_of c.system (log ++ e ∷ []) (with_server server (with_entry left e))
    (follows_handed c.system valid log e renewal now later left server h.recs said (subst (λ (d : ClusterView). AllOwn d.cursor d.here) same own) (subst (λ (d : ClusterView). Serves (placement c.system log) e d.server server) same serves) followed refl
    (λ kept. counted_own c.system log e v.number v.tried v.steps s.tried (((s.followed).steps).counted (lost_before log e v.number kept)))))
  where
    v : ClusterView
    v = s.before

    left : ClusterView
    left = record v { queue = []; tried = false }

    whole : entry_of c.system log h.post ≡ e
    whole = same_Some (entry_of c.system log h.post) e (ap (λ ps. option_map (entry_of c.system log) (head_of ps)) (sym h.posts) ∙ s.head)

    said : what e ≡ Rebackup h.to false h.recs
    said = ap what (sym whole) ∙ h.standing

    renewal : IsRenewal (what e)
    renewal = record { to = h.to; fresh = false; recs = h.recs; same = said }

    same : c ≡ left
    same = s.sent ∙ ap (after_sent v) h.posts ∙ ap (λ (d : ClusterView). record d { queue = []; tried = false }) (ap (after_head v) h.standing)

    beside : FollowsBeside all_of c.system log (unqueued v)
    beside = without_standing c.system log v h s.followed

    fewer : (n steps : ℕ) → capped (n + 1) ≤ steps → capped (n + 0) ≤ steps
    fewer n steps more = capped_less (n + 0) (n + 1) steps (omega arith) more

    -- it follows the log without the post that it has sent
    followed : FollowsBeside all_of c.system log left
    followed = record {
      log = record { cursor = (beside.log).cursor; places = (beside.log).places };
      processes = record { held = (beside.processes).held; each_once = (beside.processes).each_once };
      queue = record { own = refl; legal = tt };
      queued = beside.queued;
      steps = record { counted = λ kept. fewer (least_steps log log v.number) v.steps (subst (λ b. capped (least_steps log log v.number + cond b 1 0) ≤ v.steps) s.tried ((beside.steps).counted kept)) };
      limits = beside.limits;
      pages = beside.pages;
      marks = beside.marks;
      records = beside.records;
      family = beside.family;
      owed = beside.owed;
      backups = beside.backups;
      forks = beside.forks;
      accounts = record { keeps = (beside.accounts).keeps; there = (beside.accounts).there; calls = (beside.accounts).calls };
      disk = beside.disk;
    }
