-- A cluster that has stopped tells nothing behind its end.
use Rattle.std.proofs.Common.{◌≡◌, ℕ, ◌+◌, ◌⊎◌, refl, sym, ◌∙◌, ap, arith, List, [], ◌∷◌, ◌++◌, drop, Bool, true, false, ◌||◌, Some, inl, inr, true≢false, eq-eqb, eqb-true, eqb}
use Rattle.std.specs.List.{list_any}
use Rattle.std.proofs.lemmas.Bool.{or_parts}
use Rattle.std.proofs.lemmas.List.{drop-append-le, drop_all}
use Rattle.std.proofs.lemmas.List.Folds.{list_any-append}
use Rattle.t32_base.specs.declared.process.ClusterNo.{ClusterNo}
use Rattle.bus_msg.specs.declared.entry.By.{By}
use Rattle.bus_msg.specs.declared.entry.By.TheVariants.{Bus, Cluster}
use Rattle.bus_msg.specs.declared.entry.What.{What}
use Rattle.bus_msg.specs.declared.entry.What.TheVariants.{Crash}
use Rattle.bus_msg.specs.declared.entry.Cause.TheVariants.{Place, Step, Disk}
use Rattle.bus_msg.specs.declared.entry.Entry.{Entry}
use Rattle.bus_msg.specs.Places.{same_cluster}
use Rattle.bus_msg.specs.PlacedAfter.{what}
use Rattle.cert_sched.specs.Losses.{is_by_cluster, is_from, was_lost_in}
use Rattle.cert_sched.specs.Rules.{is_over}
use Rattle.cluster_core.specs.View.{ClusterView}
use Rattle.bus_lock.specs.Lists.{is_author}
use Rattle.bus_order.specs.Log.{author}
use Rattle.bus_order.specs.View.{BusView}
use Rattle.cluster_turns.specs.Ends.{ends_lost}
use Rattle.cluster_turns.specs.Gone.{FailedBeside, FailedBetween, IsBeforeStep, Stands, is_own_loss, is_told_by}
use Rattle.cluster_turns.specs.Along.{IsSound, IsStopped}
use Rattle.cluster_turns.specs.Lives.{end_of_life}
use Rattle.cluster_turns.proofs.CutOff.{cut_parts, ended_over}
use Rattle.cluster_turns.proofs.LostLives.{ends_with_log, lost_inside}
use Rattle.cluster_turns.proofs.OwnLosses.{none_sent}
use Rattle.cluster_turns.proofs.Prefixes.{none_later, whole_part}
use Rattle.cluster_turns.proofs.StepLosses.{end_longer, gone_longer}

abbrev own : ClusterNo → Entry → Bool
own k e = is_own_loss k (what e)

-- what a cluster neither sent nor was lost by it has not told
other_author : (k j : ClusterNo) → same_cluster j k ≡ false → is_author k.0 (Some j.0) ≡ false
other_author k j other = by_test (eqb k.0 j.0) refl
  where
    by_test : (t : Bool) → eqb k.0 j.0 ≡ t → t ≡ false
    by_test true is = absurd (true≢false (sym (eq-eqb j.0 k.0 (sym (eqb-true k.0 j.0 is))) ∙ other))
    by_test false is = refl

not_told : (k : ClusterNo) (by : By) (w : What) → is_from k by ≡ false → is_own_loss k w ≡ false → is_author k.0 (author by w) ≡ false
not_told k (Cluster j) w sent none = other_author k j sent
not_told k Bus (Crash j Place) sent none = refl
not_told k Bus (Crash j (Step n)) sent none = other_author k j none
not_told k Bus (Crash j (Disk n)) sent none = other_author k j none
not_told k Bus _ sent none = refl

pub none_told : (k : ClusterNo) (xs : List Entry) → list_any (is_by_cluster k) xs ≡ false → list_any (own k) xs ≡ false → list_any (is_told_by k) xs ≡ false
none_told k [] sent none = refl
none_told k (e ∷ xs) sent none =
    let sent_parts = or_parts (is_by_cluster k e) (list_any (is_by_cluster k) xs) sent in
    let own_parts = or_parts (own k e) (list_any (own k) xs) none in
    λ i. not_told k (e.post).by (what e) sent_parts.0 own_parts.0 i || none_told k xs sent_parts.1 own_parts.1 i

-- one before its next step has sent nothing behind the next place
sent_later : (b : BusView) (c : ClusterView) → Stands b c → list_any (is_by_cluster c.number) (drop (c.cursor + 1) b.log) ≡ false
sent_later b c (inl (unfailed, inl beside)) = none_later (is_by_cluster c.number) b.log c.cursor (c.cursor + 1) (omega arith) beside.sent_before
sent_later b c (inl (unfailed, inr between)) = between.sent_before
sent_later b c (inr failed) = by_way failed.sent
  where
    by_way : FailedBeside b c (failed.disk).call ⊎ FailedBetween b c (failed.disk).call → list_any (is_by_cluster c.number) (drop (c.cursor + 1) b.log) ≡ false
    by_way (inl beside) = none_later (is_by_cluster c.number) b.log c.cursor (c.cursor + 1) (omega arith) beside.sent_before
    by_way (inr between) = between.sent_before

-- so one that was cut off before its next step tells nothing behind its end
pub before_quiet : (b : BusView) (c : ClusterView) → IsBeforeStep b c → list_any (is_told_by c.number) (drop (end_of_life b.log c.number c.cursor + 1) b.log) ≡ false
before_quiet b c before = by_loss (was_lost_in (drop c.cursor b.log) c.number) refl
  where
    end : ℕ
    end = end_of_life b.log c.number c.cursor + 1

    by_loss : (t : Bool) → was_lost_in (drop c.cursor b.log) c.number ≡ t → list_any (is_told_by c.number) (drop end b.log) ≡ false
    by_loss true lost =
        let inside = lost_inside b.log c.number c.cursor lost in
        none_told c.number (drop end b.log) (none_later (is_by_cluster c.number) b.log (c.cursor + 1) end (omega (arith, inside.0)) (sent_later b c before.stands)) (none_later (own c.number) b.log c.cursor end (omega (arith, inside.0)) before.kept)
    by_loss false lives =
        let ends = ends_with_log b.log c.number c.cursor lives in
        ap (list_any (is_told_by c.number)) (drop_all end b.log (omega (arith, ends)))

-- one that has stopped stays so when others add to the log
pub stopped_longer : (b after : BusView) (c : ClusterView) (more : List Entry) → IsSound after → after.system ≡ b.system → after.script ≡ b.script → after.log ≡ b.log ++ more → list_any (is_told_by c.number) more ≡ false → IsStopped b c → IsStopped after c
stopped_longer b after c more sound system script longer others stopped = record {
  sound = sound;
  gone = gone_longer b after c more sound.legal system script longer (none_sent c.number more others) stopped.gone;
  quiet = by_way (cut_parts c.number b.system b.log c.cursor (stopped.gone).lost);
}
  where
    Quiet : Type 0
    Quiet = list_any (is_told_by c.number) (drop (end_of_life after.log c.number c.cursor + 1) after.log) ≡ false

    by_way : (was_lost_in (drop c.cursor b.log) c.number ≡ true) ⊎ ((was_lost_in (drop c.cursor b.log) c.number ≡ false) × (ends_lost b.system b.log ≡ true)) → Quiet
    by_way (inl lost) =
        let ends = end_longer b.log after.log more c.number c.cursor longer lost in
        let inside = lost_inside b.log c.number c.cursor lost in
        ap (λ n. list_any (is_told_by c.number) (drop (n + 1) after.log)) ends
        ∙ ap (list_any (is_told_by c.number)) (ap (drop (end_of_life b.log c.number c.cursor + 1)) longer ∙ drop-append-le (end_of_life b.log c.number c.cursor + 1) b.log more (omega (arith, inside.1)))
        ∙ list_any-append (is_told_by c.number) (drop (end_of_life b.log c.number c.cursor + 1) b.log) more ∙ (λ i. stopped.quiet i || others i)
    by_way (inr (lives, ended)) =
        let over = ap (λ s. is_over s b.log) system ∙ (ended_over b.system b.log ended).0 in
        let same : after.log ≡ b.log = sym (whole_part after.system b.log after.log sound.legal (more, sym longer) over) in
        ap (λ l. list_any (is_told_by c.number) (drop (end_of_life l c.number c.cursor + 1) l)) same ∙ stopped.quiet
