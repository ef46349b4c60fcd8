-- A call of a cluster's disk fails in a kernel step: it is to be lost by that.
use Rattle.std.proofs.Common.{◌≡◌, ℕ, ◌-◌, ◌^◌, ◌≤◌, ◌<◌, refl, sym, ◌∙◌, ap, subst, arith, List, [], ◌∷◌, take, drop, true, false, inl, inr}
use Rattle.std.specs.List.{list_any}
use Rattle.std.proofs.lemmas.List.{take-append-le, take_all}
use Rattle.sys_text.specs.declared.system.System.{System}
use Rattle.bus_msg.specs.declared.entry.Cause.TheVariants.{Disk}
use Rattle.bus_msg.specs.declared.entry.Post.{Post}
use Rattle.bus_msg.specs.declared.entry.Entry.{Entry}
use Rattle.cert_sched.specs.Rules.{is_over}
use Rattle.cert_sched.specs.Scripted.{is_server}
use Rattle.cert_sched.specs.Losses.{capped, is_by_cluster, least_calls, was_lost_in}
use Rattle.cluster_core.specs.Calls.{FailsBy}
use Rattle.cluster_core.specs.View.{ClusterView, after_sent, disk_calls, failed_at, with_server}
use Rattle.bus_order.specs.Script.{has_unused, off_at}
use Rattle.bus_order.specs.View.{BusView}
use Rattle.cluster_turns.specs.Disks.{HasFailed}
use Rattle.cluster_turns.specs.Gone.{HasCountedCalls}
use Rattle.cluster_turns.specs.Along.{FailsAtNext, IsAlong, IsBeside, IsFailed, IsSame, IsSound, IsUnnamed}
use Rattle.cluster_turns.specs.Turns.{IsSent}
use Rattle.cluster_turns.proofs.DiskCalls.{disk_named, disk_server}
use Rattle.cluster_turns.proofs.OwnLosses.{none_own_told, none_sent, passed_next}
use Rattle.cluster_turns.proofs.Prefixes.{drop_whole}
use Rattle.cluster_turns.proofs.QueuedMore.{queued_enough}
use Rattle.cluster_core.specs.Known.{IsKnown}
use Rattle.cluster_turns.proofs.Sending.{cleared, clears, follows, long, lives_log, next, passed_then, sent_kept}

-- in a work, or as it takes in an entry of another
pub call_failed : (b : BusView) (c new : ClusterView) (call : ℕ) → IsSound b → IsAlong b c → IsUnnamed b c → FailsBy call c new → IsFailed b new
call_failed b c new call sound along unnamed fails = subst (IsFailed b) (sym fails.rest) (record {
  before = record {
    system = along.system;
    has = subst (λ (s : System). (c.number).0 < s.clusters) along.system beside.has;
    within = beside.within;
    goes_on = ap (λ s. is_over s (take c.cursor b.log)) (sym along.system) ∙ beside.goes_on;
    lives = beside.lives;
    stands = inr (record { disk = disk; known = known; first = server.1; sent = inl (record { sent_before = none_sent c.number (drop c.cursor b.log) beside.told_before; counted = inr counted }) });
    kept = none_own_told b.system b.log c.cursor c.number sound.legal beside.told_before;
    passed = passed_next b c unnamed along.passed;
  };
  disk = disk;
})
  where
    beside : IsBeside b.log c
    beside = along.beside

    named : (has_unused b.script c.number (Disk call) ≡ true) × (call < 2 ^ 64 - 1)
    named = disk_named b.script b.log c call along.disk (fails.disk).failing

    known : IsKnown b.system (take c.cursor b.log) c.places c.family
    known = subst (λ s. IsKnown s (take c.cursor b.log) c.places c.family) along.system (record { places_are = ((beside.follows).log).places; family_is = (beside.follows).family })

    server : (is_server c.system c.number ≡ true) × (was_lost_in (take c.cursor b.log) c.number ≡ false)
    server = disk_server b.script b.log c call along.disk (fails.disk).failing

    disk : HasFailed b.script (failed_at call (with_server new.server c))
    disk = record { call = call; failed = refl; named = named.0; fits = named.1; none = refl }

    counted : HasCountedCalls b c call
    counted =
        let held = ((beside.follows).accounts).calls server.1 server.0 in
        let least = queued_enough c.system (take c.cursor b.log) c.queue c.number (disk_calls c) held in
        subst (λ n. capped (least_calls b.system (take c.cursor b.log) (take c.cursor b.log) c.number) ≤ n) (sym (fails.disk).number)
        (subst (λ s. capped (least_calls s (take c.cursor b.log) (take c.cursor b.log) c.number) ≤ disk_calls c) along.system least)

-- it is the same cluster then
pub next_same : (log : List Entry) (c new : ClusterView) → FailsAtNext log c new → IsSame c new
next_same log c new fails = record { system = ap (λ (v : ClusterView). v.system) (fails.fails).rest; number = ap (λ (v : ClusterView). v.number) (fails.fails).rest }

-- as it takes in the page that it sent
module _ (log : List Entry) (c : ClusterView) (post : Post) (after : BusView) (s : IsSent log c post after) (left new : ClusterView) (left_is : left ≡ after_sent c c.queue) where
  pub sent_failed : IsSound after → IsUnnamed after left → FailsAtNext after.log left new → IsFailed after new
  sent_failed sound unnamed' fails' = subst (IsFailed after) (sym (fails.fails).rest) (record {
    before = record {
      system = s.system;
      has = subst (λ (y : System). (c.number).0 < y.clusters) s.system (s.beside).has;
      within = omega (arith, long log c post after s);
      goes_on = (λ i. is_over (sym s.system i) (front i)) ∙ s.goes_on;
      lives = ap (λ l. off_at l c.number) front ∙ lives_log log c post after s;
      stands = inr (record {
        disk = disk;
        known = known;
        first = ap (λ l. was_lost_in l c.number) front ∙ first;
        sent = inr (record {
          entry = fails.entry;
          there = fails.there;
          page = fails.page;
          sent_before = ap (λ n. list_any (is_by_cluster c.number) (drop n after.log)) (sym (long log c post after s)) ∙ ap (list_any (is_by_cluster c.number)) (drop_whole after.log);
          counted = counted;
        });
      });
      kept = sent_kept log c post after s;
      passed = passed_next after (cleared c) unnamed (passed_then log c post after s);
    };
    disk = disk;
  })
    where
      is_left : left ≡ cleared c
      is_left = left_is ∙ clears log c post after s

      unnamed : IsUnnamed after (cleared c)
      unnamed = subst (IsUnnamed after) is_left unnamed'

      fails : FailsAtNext after.log (cleared c) new
      fails = subst (λ v. FailsAtNext after.log v new) is_left fails'

      front : take c.cursor after.log ≡ log
      front = ap (take c.cursor) s.longer ∙ take-append-le c.cursor log (next log c post after s ∷ []) (omega (arith, s.seen)) ∙ take_all c.cursor log (omega (arith, s.seen))

      named : (has_unused after.script c.number (Disk fails.call) ≡ true) × (fails.call < 2 ^ 64 - 1)
      named = disk_named after.script log c fails.call s.disk ((fails.fails).disk).failing

      known : IsKnown after.system (take c.cursor after.log) c.places c.family
      known =
          let held = follows log c post after s in
          subst (λ l. IsKnown after.system l c.places c.family) (sym front) (subst (λ y. IsKnown y log c.places c.family) s.system (record { places_are = (held.log).places; family_is = held.family }))

      server : (is_server c.system c.number ≡ true) × (was_lost_in (take c.cursor log) c.number ≡ false)
      server = disk_server after.script log c fails.call s.disk ((fails.fails).disk).failing

      first : was_lost_in log c.number ≡ false
      first = ap (λ l. was_lost_in l c.number) (sym (take_all c.cursor log (omega (arith, s.seen)))) ∙ server.1

      disk : HasFailed after.script (failed_at fails.call (with_server new.server (cleared c)))
      disk = record { call = fails.call; failed = refl; named = named.0; fits = named.1; none = refl }

      counted : HasCountedCalls after c fails.call
      counted =
          let held = ((follows log c post after s).accounts).calls first server.0 in
          let least = queued_enough c.system log c.queue c.number (disk_calls c) held in
          subst (λ n. capped (least_calls after.system (take c.cursor after.log) (take c.cursor after.log) c.number) ≤ n) (sym ((fails.fails).disk).number)
          (subst (λ l. capped (least_calls after.system l l c.number) ≤ disk_calls c) (sym front) (subst (λ y. capped (least_calls y log log c.number) ≤ disk_calls c) s.system least))
