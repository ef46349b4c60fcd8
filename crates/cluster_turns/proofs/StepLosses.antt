-- A cluster is lost before a kernel step, or was lost at a place that it had not taken in: it stops, and stays as it is.
use Rattle.std.proofs.Common.{◌≡◌, ℕ, ◌+◌, ◌-◌, ◌≤◌, ◌<◌, ◌≢◌, ◌⊎◌, append-nil, refl, sym, ◌∙◌, ap, subst, arith, List, [], ◌∷◌, ◌++◌, length, take, drop, length-append, Bool, true, false, cond, not, ◌&&◌, ◌||◌, Option, Some, None, slice_get, true≢false, inl, inr, eq-eqb}
use Rattle.std.specs.Prelude.{nat_le, option_and_then, Result, Ok, Err}
use Rattle.std.specs.List.{list_all, list_any, position_or_len}
use Rattle.std.specs.Option.{option_map_or}
use Rattle.std.proofs.lemmas.List.{take-append-drop, take-append-le, drop-append-le, drop_all, length-drop, take_all}
use Rattle.std.proofs.lemmas.List.Elements.{All-nil, All-cons}
use Rattle.std.proofs.lemmas.List.Folds.{list_any-append}
use Rattle.std.proofs.lemmas.Option.{slice_get_within}
use Rattle.t32_base.specs.declared.process.ClusterNo.{ClusterNo}
use Rattle.sys_text.specs.declared.system.System.{System}
use Rattle.proc_state.specs.Mail.{without_first}
use Rattle.bus_msg.specs.declared.entry.By.TheVariants.{Bus}
use Rattle.bus_msg.specs.declared.entry.What.TheVariants.{Crash}
use Rattle.bus_msg.specs.declared.entry.Post.{Post}
use Rattle.bus_msg.specs.declared.entry.Cause.TheVariants.{Step, Disk}
use Rattle.bus_msg.specs.declared.entry.Entry.{Entry}
use Rattle.bus_msg.specs.Places.{same_cluster}
use Rattle.bus_msg.specs.PlacedAfter.{what}
use Rattle.cert_sched.specs.declared.script.ScriptWord.{ScriptWord}
use Rattle.cert_sched.specs.Appended.{entry_of}
use Rattle.cert_sched.specs.Rules.{is_over}
use Rattle.cert_sched.specs.Legal.{IsLegalBy, MayStand}
use Rattle.cert_sched.specs.Losses.{capped, heard, is_by_cluster, is_crash_of, least_calls, least_steps, was_lost_in}
use Rattle.cluster_core.specs.View.{ClusterView, after_sent}
use Rattle.cluster_core.specs.Follows.{Follows, StandsBetween}
use Rattle.bus_lock.specs.Lists.{MayAdd}
use Rattle.bus_order.specs.Log.{author, author_of}
use Rattle.bus_order.specs.Script.{has_unused, is_unpassed, is_word_for, off_at}
use Rattle.bus_order.specs.View.{BusView, KeepsScript, Loses, MayBeLost, with_loss}
use Rattle.bus_order.specs.declared.refused.Refused.{Refused}
use Rattle.bus_order.specs.declared.refused.Refused.TheVariants.{Over, Off, Behind, NoMemory}
use Rattle.bus_order.proofs.OverLaws.{over_long}
use Rattle.script_laws.proofs.LosingAtCall.{may_at_call, may_at_sent}
use Rattle.script_laws.proofs.LosingAtStep.{may_before, may_sent}
use Rattle.script_laws.proofs.PassedWords.{all_longer}
use Rattle.cluster_turns.specs.Disks.{HasFailed}
use Rattle.cluster_turns.specs.Ends.{ends_lost, is_cut_off}
use Rattle.cluster_turns.specs.Gone.{FailedBeside, FailedBetween, HasCountedCalls, IsBeforeStep, IsGone, LeftAs, Stands, StoodAs, StoodBeside, StoodBetween, StoodFailed, is_own_loss, is_told_by, own_cause}
use Rattle.cluster_turns.specs.Along.{IsAlong, IsFailed, IsNamed, IsSound, IsStopped, is_left}
use Rattle.cluster_turns.specs.Lives.{EndsBy, cause_in, end_cause, end_of_life}
use Rattle.cluster_turns.specs.Offers.{Adds}
use Rattle.cluster_turns.proofs.CutOff.{cut_ended, cut_lost, cut_parts, ended_over}
use Rattle.cluster_turns.proofs.LostLives.{ended_with_log, ends_with_log, life_ends, loss_there, lost_inside}
use Rattle.cluster_turns.proofs.OneLeft.{left_lost}
use Rattle.cluster_turns.proofs.OwnLosses.{ends_there, left_as_named, none_own, none_own_told, none_sent, unused_left}
use Rattle.cluster_turns.proofs.Offering.{adds_none}
use Rattle.cluster_core.specs.Known.{IsKnown}
use Rattle.cluster_turns.proofs.Prefixes.{drop_whole, get_front, get_last, whole_part}

abbrev its_loss : ClusterNo → Entry → Bool
its_loss k e = is_crash_of k (what e)

-- ---- a longer log

-- who stood beside a log, or between it and its next entry, stands so with a longer one to which it sent nothing
pub stood_longer : (b after : BusView) (c : ClusterView) (more : List Entry) → after.system ≡ b.system → after.log ≡ b.log ++ more → c.cursor ≤ length b.log → list_any (is_by_cluster c.number) more ≡ false
    → StoodBeside b c ⊎ StoodBetween b c → StoodBeside after c ⊎ StoodBetween after c
stood_longer b after c more system longer within others (inl beside) =
    let front : take c.cursor after.log ≡ take c.cursor b.log = ap (take c.cursor) longer ∙ take-append-le c.cursor b.log more within in
    let back : drop c.cursor after.log ≡ drop c.cursor b.log ++ more = ap (drop c.cursor) longer ∙ drop-append-le c.cursor b.log more within in
    inl (record {
      follows = subst (λ l. Follows after.system l c) (sym front) (subst (λ s. Follows s (take c.cursor b.log) c) (sym system) beside.follows);
      sent_before = ap (list_any (is_by_cluster c.number)) back ∙ list_any-append (is_by_cluster c.number) (drop c.cursor b.log) more ∙ (λ i. beside.sent_before i || others i);
    })
stood_longer b after c more system longer within others (inr between) =
    let inside : c.cursor < length b.log = slice_get_within b.log c.cursor between.entry between.there in
    let front : take c.cursor after.log ≡ take c.cursor b.log = ap (take c.cursor) longer ∙ take-append-le c.cursor b.log more within in
    let back : drop (c.cursor + 1) after.log ≡ drop (c.cursor + 1) b.log ++ more = ap (drop (c.cursor + 1)) longer ∙ drop-append-le (c.cursor + 1) b.log more (omega (arith, inside)) in
    inr (record {
      entry = between.entry;
      there = ap (λ l. slice_get l c.cursor) longer ∙ get_front b.log more c.cursor inside ∙ between.there;
      between = subst (λ l. StandsBetween Follows after.system l between.entry c) (sym front) (subst (λ s. StandsBetween Follows s (take c.cursor b.log) between.entry c) (sym system) between.between);
      sent_before = ap (list_any (is_by_cluster c.number)) back ∙ list_any-append (is_by_cluster c.number) (drop (c.cursor + 1) b.log) more ∙ (λ i. between.sent_before i || others i);
    })

-- so does one of whose disk a call failed
failed_longer : (b after : BusView) (c : ClusterView) (more : List Entry) → after.system ≡ b.system → after.script ≡ b.script → after.log ≡ b.log ++ more → c.cursor ≤ length b.log → list_any (is_by_cluster c.number) more ≡ false → StoodFailed b c → StoodFailed after c
failed_longer b after c more system script longer within others failed = record {
  disk = record { call = disk.call; failed = disk.failed; named = ap (λ words. has_unused words c.number (Disk disk.call)) script ∙ disk.named; fits = disk.fits; none = disk.none };
  known = subst (λ l. IsKnown after.system l c.places c.family) (sym front) (subst (λ s. IsKnown s (take c.cursor b.log) c.places c.family) (sym system) failed.known);
  first = ap (λ l. was_lost_in l c.number) front ∙ failed.first;
  sent = by_way failed.sent;
}
  where
    disk : HasFailed b.script c
    disk = failed.disk

    front : take c.cursor after.log ≡ take c.cursor b.log
    front = ap (take c.cursor) longer ∙ take-append-le c.cursor b.log more within

    counted : HasCountedCalls b c disk.call → HasCountedCalls after c disk.call
    counted most = subst (λ l. capped (least_calls after.system l l c.number) ≤ disk.call) (sym front) (subst (λ s. capped (least_calls s (take c.cursor b.log) (take c.cursor b.log) c.number) ≤ disk.call) (sym system) most)

    by_way : FailedBeside b c disk.call ⊎ FailedBetween b c disk.call → FailedBeside after c disk.call ⊎ FailedBetween after c disk.call
    by_way (inl beside) =
        let back : drop c.cursor after.log ≡ drop c.cursor b.log ++ more = ap (drop c.cursor) longer ∙ drop-append-le c.cursor b.log more within in
        inl (record {
          sent_before = ap (list_any (is_by_cluster c.number)) back ∙ list_any-append (is_by_cluster c.number) (drop c.cursor b.log) more ∙ (λ i. beside.sent_before i || others i);
          counted = elim beside.counted [
            | inl none ↦ inl (ap (list_any (is_by_cluster c.number)) front ∙ none)
            | inr most ↦ inr (counted most)
          ];
        })
    by_way (inr between) =
        let inside : c.cursor < length b.log = slice_get_within b.log c.cursor between.entry between.there in
        let back : drop (c.cursor + 1) after.log ≡ drop (c.cursor + 1) b.log ++ more = ap (drop (c.cursor + 1)) longer ∙ drop-append-le (c.cursor + 1) b.log more (omega (arith, inside)) in
        inr (record {
          entry = between.entry;
          there = ap (λ l. slice_get l c.cursor) longer ∙ get_front b.log more c.cursor inside ∙ between.there;
          page = between.page;
          sent_before = ap (list_any (is_by_cluster c.number)) back ∙ list_any-append (is_by_cluster c.number) (drop (c.cursor + 1) b.log) more ∙ (λ i. between.sent_before i || others i);
          counted = counted between.counted;
        })

pub stands_longer : (b after : BusView) (c : ClusterView) (more : List Entry) → after.system ≡ b.system → after.script ≡ b.script → after.log ≡ b.log ++ more → c.cursor ≤ length b.log → list_any (is_by_cluster c.number) more ≡ false → Stands b c → Stands after c
stands_longer b after c more system script longer within others (inl (unfailed, stood)) = inl (unfailed, stood_longer b after c more system longer within others stood)
stands_longer b after c more system script longer within others (inr failed) = inr (failed_longer b after c more system script longer within others failed)

-- a cluster stands before its next step still when others have added to the log
pub before_longer : (b after : BusView) (c : ClusterView) (more : List Entry) → IsLegalBy MayStand after.system after.log → after.system ≡ b.system → after.script ≡ b.script → after.log ≡ b.log ++ more → list_any (is_told_by c.number) more ≡ false
    → IsBeforeStep b c → IsBeforeStep after c
before_longer b after c more legal system script longer others before =
    let long : length after.log ≡ length b.log + length more = ap length longer ∙ length-append b.log more in
    let front : take c.cursor after.log ≡ take c.cursor b.log = ap (take c.cursor) longer ∙ take-append-le c.cursor b.log more before.within in
    let rest : drop (length b.log) after.log ≡ more = ap (drop (length b.log)) longer ∙ drop-append-le (length b.log) b.log more (omega arith) ∙ ap (λ l. l ++ more) (drop_whole b.log) in
    let own : list_any (λ (e : Entry). is_own_loss c.number (what e)) more ≡ false =
    ap (list_any (λ (e : Entry). is_own_loss c.number (what e))) (sym rest) ∙ none_own_told after.system after.log (length b.log) c.number legal (ap (list_any (is_told_by c.number)) rest ∙ others) in
    record {
      system = before.system ∙ sym system;
      has = subst (λ (s : System). (c.number).0 < s.clusters) (sym system) before.has;
      within = omega (arith, long, before.within);
      goes_on = (λ i. is_over (system i) (front i)) ∙ before.goes_on;
      lives = ap (λ l. off_at l c.number) front ∙ before.lives;
      stands = stands_longer b after c more system script longer before.within (none_sent c.number more others) before.stands;
      kept = ap (list_any (λ (e : Entry). is_own_loss c.number (what e))) (ap (drop c.cursor) longer ∙ drop-append-le c.cursor b.log more before.within) ∙ list_any-append (λ (e : Entry). is_own_loss c.number (what e)) (drop c.cursor b.log) more ∙ (λ i. before.kept i || own i);
      passed = (λ i. list_all (is_unpassed c.number (longer i) c.steps) (script i)) ∙ all_longer c.number b.log more c.steps b.script before.passed;
    }

-- ---- before a step

-- a cluster along a bus
pub before_along : (b : BusView) (c : ClusterView) → IsSound b → IsAlong b c → IsBeforeStep b c
before_along b c sound along =
    let beside = along.beside in
    record {
      system = along.system;
      has = subst (λ (s : System). (c.number).0 < s.clusters) along.system beside.has;
      within = beside.within;
      goes_on = ap (λ s. is_over s (take c.cursor b.log)) (sym along.system) ∙ beside.goes_on;
      lives = beside.lives;
      stands = inl (beside.unfailed, inl (record { follows = subst (λ s. Follows s (take c.cursor b.log) c) along.system beside.follows; sent_before = none_sent c.number (drop c.cursor b.log) beside.told_before }));
      kept = none_own_told b.system b.log c.cursor c.number sound.legal beside.told_before;
      passed = along.passed;
    }

-- ---- it was lost at a place

-- so it stood where it was cut off
pub stood_as : (b : BusView) (c : ClusterView) → is_cut_off c.number b.system b.log c.cursor ≡ true → Stands b c → StoodAs b c
stood_as b c cut (inl (unfailed, inl beside)) = inl (unfailed, inl beside)
stood_as b c cut (inl (unfailed, inr between)) = inl (unfailed, inr (cut, between))
stood_as b c cut (inr failed) = inr (cut, failed)

-- a cluster that was lost at a place behind its cursor stops
pub lost_gone : (b : BusView) (c : ClusterView) → IsBeforeStep b c → was_lost_in (drop c.cursor b.log) c.number ≡ true → IsGone b c
lost_gone b c before lost =
    let cut = cut_lost c.number b.system b.log c.cursor lost in
    let loss = loss_there b.log c.number c.cursor lost in
    record {
      lost = cut;
      left = left_lost b c before.lives lost before.system (stood_as b c cut before.stands) (ends_there (drop c.cursor b.log) c.number c (position_or_len (its_loss c.number) (drop c.cursor b.log)) loss.0 before.kept loss.2) before.passed;
    }

-- one that lived when the run ended by a loss stops too
ended_gone : (b : BusView) (c : ClusterView) → IsBeforeStep b c → was_lost_in (drop c.cursor b.log) c.number ≡ false → ends_lost b.system b.log ≡ true → IsGone b c
ended_gone b c before lives ended =
    let cut = cut_ended c.number b.system b.log c.cursor ended in
    let ends : end_of_life b.log c.number c.cursor ≡ length b.log - 1 = ends_with_log b.log c.number c.cursor lives in
    let part : c.cursor ≢ length b.log = λ same.
    true≢false (sym (ended_over b.system b.log ended).0 ∙ ap (is_over b.system) (sym (take_all c.cursor b.log (omega (arith, same)))) ∙ before.goes_on) in
    record {
      lost = cut;
      left = record {
        system = before.system;
        lives = before.lives;
        within = omega (arith, ends, part, before.within);
        followed = stood_as b c cut before.stands;
        to_the_end = λ whole. absurd (true≢false (sym cut ∙ whole));
        lost_by = subst (λ o. EndsBy o c) (sym (ended_with_log b.log c.number c.cursor (omega (arith, part, before.within)) lives)) tt;
        passed = before.passed;
        uncalled = λ whole. absurd (true≢false (sym cut ∙ whole));
      };
    }

-- so each that was cut off
pub cut_gone : (b : BusView) (c : ClusterView) → IsBeforeStep b c → is_cut_off c.number b.system b.log c.cursor ≡ true → IsGone b c
cut_gone b c before cut = by_way (cut_parts c.number b.system b.log c.cursor cut)
  where
    by_way : (was_lost_in (drop c.cursor b.log) c.number ≡ true) ⊎ ((was_lost_in (drop c.cursor b.log) c.number ≡ false) × (ends_lost b.system b.log ≡ true)) → IsGone b c
    by_way (inl lost) = lost_gone b c before lost
    by_way (inr (lives, ended)) = ended_gone b c before lives ended

-- ---- it is lost at its step, or by its disk

-- what is sent changes neither the number of a cluster nor its steps nor its system
abbrev IsSameStill : ClusterView → ClusterView → Type 0
IsSameStill c after = (after.number ≡ c.number) × (after.steps ≡ c.steps) × (after.system ≡ c.system)

pub same_sent : (c : ClusterView) (queue : List Post) → IsSameStill c (after_sent c queue)
same_sent c [] = (refl, refl, refl)
same_sent c (head ∷ rest) = (refl, refl, refl)

-- by which cause
cause_unfailed : (c : ClusterView) → c.failed ≡ None → own_cause c ≡ Step c.steps
cause_unfailed c unfailed = ap (λ o. option_map_or Disk o (Step c.steps)) unfailed

cause_failed : (c : ClusterView) (call : ℕ) → c.failed ≡ Some call → own_cause c ≡ Disk call
cause_failed c call failed = ap (λ o. option_map_or Disk o (Step c.steps)) failed

-- it ends a life by that
ends_by_own : (c : ClusterView) → EndsBy (Some (own_cause c)) c
ends_by_own c = by_failed c.failed refl
  where
    by_failed : (o : Option ℕ) → c.failed ≡ o → EndsBy (Some (own_cause c)) c
    by_failed None unfailed = subst (λ cause. EndsBy (Some cause) c) (sym (cause_unfailed c unfailed)) (unfailed, refl)
    by_failed (Some call) failed = subst (λ cause. EndsBy (Some cause) c) (sym (cause_failed c call failed)) failed

-- the cluster is its author
told_by_own : (k : ClusterNo) (c : ClusterView) → author Bus (Crash k (own_cause c)) ≡ Some k.0
told_by_own k c = by_failed c.failed
  where
    by_failed : (o : Option ℕ) → author Bus (Crash k (option_map_or Disk o (Step c.steps))) ≡ Some k.0
    by_failed None = refl
    by_failed (Some call) = refl

none_some : (n : ℕ) → ◌≡◌ {A = Option ℕ} None (Some n) → ⊥
none_some n h = cc

-- it stood so when its disk failed
stood_failed : (b : BusView) (c : ClusterView) (call : ℕ) → c.failed ≡ Some call → Stands b c → StoodFailed b c
stood_failed b c call failed (inl (unfailed, stood)) = absurd (none_some call (sym unfailed ∙ failed))
stood_failed b c call failed (inr stood) = stood

-- a word of the script that gave no loss names the call that failed
pub failed_named : (b : BusView) (c : ClusterView) → IsFailed b c → IsNamed b c
failed_named b c f = record {
  named = subst (λ cause. is_left b.script b.log c.number cause ≡ true) (sym (cause_failed c disk.call disk.failed)) (left_as_named b.script b.log c.number (Disk disk.call) unlost ∙ disk.named);
  fits = λ unfailed. absurd (none_some disk.call (sym unfailed ∙ disk.failed));
}
  where
    disk : HasFailed b.script c
    disk = f.disk

    unlost : list_any (λ (e : Entry). is_own_loss c.number (what e)) b.log ≡ false
    unlost = none_own b.log c.cursor c.number (stood_failed b c disk.call disk.failed (f.before).stands).first (f.before).kept

-- the bus lets one that was lost before be lost at its step
may_again : (b : BusView) (k : ClusterNo) (n : ℕ) → KeepsScript b → k.0 < (b.system).clusters → has_unused b.left k (Step n) ≡ true → was_lost_in b.log k ≡ true → MayBeLost b k (Step n)
may_again b k n keeps has unused lost = record {
  has = has;
  unused = unused;
  may = λ goes on. (λ i. (sym (unused_left b k (Step n) keeps) ∙ unused) i && (lost i || not (list_any (is_by_cluster k) b.log) || nat_le (least_steps (heard k b.log) b.log k) n));
}

-- the bus lets it
pub may_be_lost : (b : BusView) (c : ClusterView) → KeepsScript b → IsBeforeStep b c → IsNamed b c → MayBeLost b c.number (own_cause c)
may_be_lost b c keeps before named = by_way before.stands
  where
    unused : list_any (is_word_for c.number (own_cause c)) b.left ≡ true
    unused = unused_left b c.number (own_cause c) keeps ∙ named.named

    enough : (n s : ℕ) (t : Bool) → capped (n + cond t 1 0) ≤ s → capped n ≤ s
    enough n s true h = omega (arith, h)
    enough n s false h = omega (arith, h)

    -- one that was not lost before has counted its steps
    at_step : c.failed ≡ None → StoodBeside b c ⊎ StoodBetween b c → was_lost_in (take c.cursor b.log) c.number ≡ false → MayBeLost b c.number (Step c.steps)
    at_step unfailed (inl beside) first =
        let counted = ((beside.follows).steps).counted first in
        may_before b c.number c.steps c.cursor before.has keeps (subst (λ cause. list_any (is_word_for c.number cause) b.left ≡ true) (cause_unfailed c unfailed) unused) beside.sent_before (enough (least_steps (take c.cursor b.log) (take c.cursor b.log) c.number) c.steps c.tried counted) (named.fits unfailed)
    at_step unfailed (inr between) first =
        may_sent b c.number c.steps c.cursor before.has keeps (subst (λ cause. list_any (is_word_for c.number cause) b.left ≡ true) (cause_unfailed c unfailed) unused) between.sent_before counted (named.fits unfailed)
      where
        was : ClusterView
        was = (between.between).before

        number : was.number ≡ c.number
        number = sym (ap (λ (v : ClusterView). v.number) (between.between).sent ∙ (same_sent was was.queue).0)

        steps : was.steps ≡ c.steps
        steps = sym (ap (λ (v : ClusterView). v.steps) (between.between).sent ∙ (same_sent was was.queue).1)

        counted : capped (least_steps (take c.cursor b.log) (take c.cursor b.log) c.number + 1) ≤ c.steps
        counted =
            let all = (((between.between).followed).steps).counted (ap (was_lost_in (take c.cursor b.log)) number ∙ first) in
            let tried : capped (least_steps (take c.cursor b.log) (take c.cursor b.log) was.number + 1) ≤ was.steps =
            subst (λ t. capped (least_steps (take c.cursor b.log) (take c.cursor b.log) was.number + cond t 1 0) ≤ was.steps) (between.between).tried all in
            subst (λ k. capped (least_steps (take c.cursor b.log) (take c.cursor b.log) k + 1) ≤ c.steps) number (subst (λ n. capped (least_steps (take c.cursor b.log) (take c.cursor b.log) was.number + 1) ≤ n) steps tried)

    by_first : c.failed ≡ None → StoodBeside b c ⊎ StoodBetween b c → (t : Bool) → was_lost_in (take c.cursor b.log) c.number ≡ t → MayBeLost b c.number (Step c.steps)
    by_first unfailed stood false first = at_step unfailed stood first
    by_first unfailed stood true lost =
        may_again b c.number c.steps keeps before.has (subst (λ cause. list_any (is_word_for c.number cause) b.left ≡ true) (cause_unfailed c unfailed) unused)
        (ap (λ l. was_lost_in l c.number) (sym (take-append-drop c.cursor b.log)) ∙ list_any-append (its_loss c.number) (take c.cursor b.log) (drop c.cursor b.log) ∙ ap (λ t. t || was_lost_in (drop c.cursor b.log) c.number) lost)

    at_call : (disk : HasFailed b.script c) → has_unused b.left c.number (Disk disk.call) ≡ true → FailedBeside b c disk.call ⊎ FailedBetween b c disk.call → MayBeLost b c.number (Disk disk.call)
    at_call disk left (inl beside) = may_at_call b c.number disk.call c.cursor before.has keeps left beside.sent_before beside.counted disk.fits
    at_call disk left (inr between) = may_at_sent b c.number disk.call c.cursor between.entry before.has keeps left between.there between.page between.sent_before between.counted disk.fits

    by_way : Stands b c → MayBeLost b c.number (own_cause c)
    by_way (inl (unfailed, stood)) = subst (MayBeLost b c.number) (sym (cause_unfailed c unfailed)) (by_first unfailed stood (was_lost_in (take c.cursor b.log) c.number) refl)
    by_way (inr failed) =
        let disk = failed.disk in
        let cause = cause_failed c disk.call disk.failed in
        subst (MayBeLost b c.number) (sym cause) (at_call disk (subst (λ cause. list_any (is_word_for c.number cause) b.left ≡ true) cause unused) failed.sent)

same_itself : (k : ClusterNo) → same_cluster k k ≡ true
same_itself k = eq-eqb k.0 k.0 refl

abbrev with_its_loss : BusView → ClusterView → Entry
with_its_loss b c = entry_of b.system b.log (record { by = Bus; what = Crash c.number (own_cause c) })

-- where none passes before it, the last is the first
first_last : {X : Type 0} (t : X → Bool) (xs : List X) (x : X) → list_any t xs ≡ false → t x ≡ true → position_or_len t (xs ++ x ∷ []) ≡ length xs
first_last t [] x none last = ap (λ b. cond (not b) (1 + 0) 0) last
first_last t (y ∷ xs) x none last = by_test (t y) none (first_last t xs x)
  where
    by_test : (b : Bool) → (b || list_any t xs) ≡ false → (list_any t xs ≡ false → t x ≡ true → position_or_len t (xs ++ x ∷ []) ≡ length xs) → cond (not b) (1 + position_or_len t (xs ++ x ∷ [])) 0 ≡ length (y ∷ xs)
    by_test true none more = absurd (true≢false none)
    by_test false none more = let later = more none last in omega (arith, later)

-- its life ends there
pub own_end : (b : BusView) (c : ClusterView) → c.cursor ≤ length b.log → was_lost_in (drop c.cursor b.log) c.number ≡ false → end_of_life (b.log ++ with_its_loss b c ∷ []) c.number c.cursor ≡ length b.log
own_end b c within lives =
    let itself = same_itself c.number in
    let back : drop c.cursor (b.log ++ with_its_loss b c ∷ []) ≡ drop c.cursor b.log ++ with_its_loss b c ∷ [] = drop-append-le c.cursor b.log (with_its_loss b c ∷ []) within in
    let lost : was_lost_in (drop c.cursor (b.log ++ with_its_loss b c ∷ [])) c.number ≡ true =
    ap (λ l. was_lost_in l c.number) back ∙ list_any-append (its_loss c.number) (drop c.cursor b.log) (with_its_loss b c ∷ []) ∙ (λ i. lives i || (itself i || false)) in
    let first = first_last (its_loss c.number) (drop c.cursor b.log) (with_its_loss b c) lives itself in
    let there : position_or_len (its_loss c.number) (drop c.cursor (b.log ++ with_its_loss b c ∷ [])) ≡ length (drop c.cursor b.log) = ap (position_or_len (its_loss c.number)) back ∙ first in
    let ends = life_ends (b.log ++ with_its_loss b c ∷ []) c.number c.cursor lost in
    omega (arith, ends, there, length-drop c.cursor b.log, within)

-- and then it is gone
lost_by_own : (b : BusView) (c : ClusterView) (left : List ScriptWord) → IsBeforeStep b c → was_lost_in (drop c.cursor b.log) c.number ≡ false → IsGone (with_loss b c.number (own_cause c) left) c
lost_by_own b c left before lives =
    let after : BusView = with_loss b c.number (own_cause c) left in
    let itself = same_itself c.number in
    let back : drop c.cursor after.log ≡ drop c.cursor b.log ++ loss ∷ [] = drop-append-le c.cursor b.log (loss ∷ []) before.within in
    let lost : was_lost_in (drop c.cursor after.log) c.number ≡ true = ap (λ l. was_lost_in l c.number) back ∙ list_any-append (its_loss c.number) (drop c.cursor b.log) (loss ∷ []) ∙ (λ i. lives i || (itself i || false)) in
    let cut = cut_lost c.number after.system after.log c.cursor lost in
    let there = loss_there after.log c.number c.cursor lost in
    let first : position_or_len (its_loss c.number) (drop c.cursor after.log) ≡ length (drop c.cursor b.log) = ap (position_or_len (its_loss c.number)) back ∙ first_last (its_loss c.number) (drop c.cursor b.log) loss lives itself in
    let it : there.0 ≡ loss =
    let both_are : Some there.0 ≡ Some loss = sym there.2 ∙ (λ i. slice_get (back i) (first i)) ∙ get_last (drop c.cursor b.log) loss in cc in
    record {
      lost = cut;
      left = left_lost after c (ap (λ l. off_at l c.number) (take-append-le c.cursor b.log (loss ∷ []) before.within) ∙ before.lives) lost before.system (stood_as after c cut (stands_longer b after c (loss ∷ []) refl refl refl before.within refl before.stands))
          (subst (λ (e : Entry). EndsBy (cause_in c.number (what e)) c) (sym it) (subst (λ t. EndsBy (cond t (Some (own_cause c)) None) c) (sym itself) (ends_by_own c))) (all_longer c.number b.log (loss ∷ []) c.steps b.script before.passed);
    }
  where
    loss : Entry
    loss = with_its_loss b c

own_quiet : (b : BusView) (c : ClusterView) → c.cursor ≤ length b.log → was_lost_in (drop c.cursor b.log) c.number ≡ false → list_any (is_told_by c.number) (drop (end_of_life (b.log ++ with_its_loss b c ∷ []) c.number c.cursor + 1) (b.log ++ with_its_loss b c ∷ [])) ≡ false
own_quiet b c within lives =
    let ends = own_end b c within lives in
    let long : length (b.log ++ with_its_loss b c ∷ []) ≡ length b.log + 1 = length-append b.log (with_its_loss b c ∷ []) in
    ap (list_any (is_told_by c.number)) (drop_all (end_of_life (b.log ++ with_its_loss b c ∷ []) c.number c.cursor + 1) (b.log ++ with_its_loss b c ∷ []) (omega (arith, ends, long)))

-- what the bus answers
pub lost_answer : (old new : BusView) (c : ClusterView) (at : ℕ) → IsSound new → IsBeforeStep old c → was_lost_in (drop c.cursor old.log) c.number ≡ false → Loses old c.number (own_cause c) (Ok at) new → IsStopped new c
lost_answer old new c at sound_new before lives loses =
    let left = without_first (is_word_for c.number (own_cause c)) old.left in
    let Quiet : BusView → Type 0 = λ b. list_any (is_told_by c.number) (drop (end_of_life b.log c.number c.cursor + 1) b.log) ≡ false in
    record {
      sound = sound_new;
      gone = subst (λ b. IsGone b c) (sym loses.3) (lost_by_own old c left before lives);
      quiet = subst Quiet (sym loses.3) (own_quiet old c before.within lives);
    }

-- the log tells of it
pub lost_there : (old new : BusView) (c : ClusterView) (at : ℕ) → c.cursor ≤ length old.log → Loses old c.number (own_cause c) (Ok at) new → was_lost_in (drop c.cursor new.log) c.number ≡ true
lost_there old new c at within loses =
    let loss : Entry = entry_of old.system old.log (record { by = Bus; what = Crash c.number (own_cause c) }) in
    ap (λ (x : BusView). was_lost_in (drop c.cursor x.log) c.number) loses.3 ∙ ap (λ l. was_lost_in l c.number) (drop-append-le c.cursor old.log (loss ∷ []) within) ∙ list_any-append (its_loss c.number) (drop c.cursor old.log) (loss ∷ [])
    ∙ by_test (was_lost_in (drop c.cursor old.log) c.number)
  where
    by_test : (b : Bool) → (b || (same_cluster c.number c.number || false)) ≡ true
    by_test true = refl
    by_test false = ap (λ t. t || false) (same_itself c.number)

-- what it adds
lost_adds_one : (b : BusView) (k : ClusterNo) (c : ClusterView) (left : List ScriptWord) → Adds k b (with_loss b k (own_cause c) left)
lost_adds_one b k c left = record {
  system = refl;
  script = refl;
  more = entry_of b.system b.log (record { by = Bus; what = Crash k (own_cause c) }) ∷ [];
  log = refl;
  may = All-cons (MayAdd author_of k.0) (entry_of b.system b.log (record { by = Bus; what = Crash k (own_cause c) })) [] (inr (told_by_own k c)) (All-nil (MayAdd author_of k.0));
}

pub lost_adds : (old new : BusView) (k : ClusterNo) (c : ClusterView) (r : Result ℕ Refused) → Loses old k (own_cause c) r new → Adds k old new
lost_adds old new k c (Ok at) loses = subst (Adds k old) (sym loses.3) (lost_adds_one old k c (without_first (is_word_for k (own_cause c)) old.left))
lost_adds old new k c (Err (Over at)) loses = subst (Adds k old) (sym loses.2) (adds_none k old)
lost_adds old new k c (Err (Off at)) loses = subst (Adds k old) (sym loses.2) (adds_none k old)
lost_adds old new k c (Err (Behind m)) loses = absurd loses
lost_adds old new k c (Err NoMemory) loses = subst (Adds k old) (sym loses) (adds_none k old)

-- ---- it stays gone

-- where some element passes, the first that does is the first of a longer list
first_longer : {X : Type 0} (t : X → Bool) (xs ys : List X) → list_any t xs ≡ true → position_or_len t (xs ++ ys) ≡ position_or_len t xs
first_longer t [] ys some = absurd (true≢false (sym some))
first_longer t (x ∷ xs) ys some = by_test (t x) some (first_longer t xs ys)
  where
    by_test : (b : Bool) → (b || list_any t xs) ≡ true → (list_any t xs ≡ true → position_or_len t (xs ++ ys) ≡ position_or_len t xs) → cond (not b) (1 + position_or_len t (xs ++ ys)) 0 ≡ cond (not b) (1 + position_or_len t xs) 0
    by_test true some more = refl
    by_test false some more = ap (λ n. 1 + n) (more some)

-- so a life that a loss ends ends there still in a longer log
pub end_longer : (log longer more : List Entry) (k : ClusterNo) (n : ℕ) → longer ≡ log ++ more → was_lost_in (drop n log) k ≡ true → end_of_life longer k n ≡ end_of_life log k n
end_longer log longer more k n is was_lost =
    let inside = lost_inside log k n was_lost in
    let rest : drop n longer ≡ drop n log ++ more = ap (drop n) is ∙ drop-append-le n log more (omega (arith, inside.0, inside.1)) in
    let lost : was_lost_in (drop n longer) k ≡ true = ap (λ l. was_lost_in l k) rest ∙ list_any-append (its_loss k) (drop n log) more ∙ ap (λ t. t || was_lost_in more k) was_lost in
    life_ends longer k n lost ∙ ap (λ m. n + m) (ap (position_or_len (its_loss k)) rest ∙ first_longer (its_loss k) (drop n log) more was_lost) ∙ sym (life_ends log k n was_lost)

-- it ended before the log does
pub gone_inside : (b : BusView) (c : ClusterView) → IsLegalBy MayStand b.system b.log → IsGone b c → end_of_life b.log c.number c.cursor < length b.log
gone_inside b c legal gone = by_way (cut_parts c.number b.system b.log c.cursor gone.lost)
  where
    by_way : (was_lost_in (drop c.cursor b.log) c.number ≡ true) ⊎ ((was_lost_in (drop c.cursor b.log) c.number ≡ false) × (ends_lost b.system b.log ≡ true)) → end_of_life b.log c.number c.cursor < length b.log
    by_way (inl lost) = (lost_inside b.log c.number c.cursor lost).1
    by_way (inr (lives, ended)) =
        let ends = ends_with_log b.log c.number c.cursor lives in
        let long = over_long b.system b.log legal (ended_over b.system b.log ended).0 in
        omega (arith, ends, long)

stands_of : (b : BusView) (c : ClusterView) → StoodAs b c → Stands b c
stands_of b c (inl (unfailed, inl beside)) = inl (unfailed, inl beside)
stands_of b c (inl (unfailed, inr between)) = inl (unfailed, inr between.1)
stands_of b c (inr failed) = inr failed.1

module _ (b after : BusView) (c : ClusterView) (more : List Entry) (legal : IsLegalBy MayStand after.system after.log) (system : after.system ≡ b.system) (script : after.script ≡ b.script) (longer : after.log ≡ b.log ++ more) (left : LeftAs b c) (silent : list_any (is_by_cluster c.number) more ≡ false) where
  back : c.cursor ≤ length b.log → drop c.cursor after.log ≡ drop c.cursor b.log ++ more
  back within = ap (drop c.cursor) longer ∙ drop-append-le c.cursor b.log more within

  -- who was lost stays so when others add to the log
  lost_longer : was_lost_in (drop c.cursor b.log) c.number ≡ true → IsGone after c
  lost_longer was_lost =
      let inside = lost_inside b.log c.number c.cursor was_lost in
      let rest : drop c.cursor after.log ≡ drop c.cursor b.log ++ more = back (omega (arith, inside.0, inside.1)) in
      let lost : was_lost_in (drop c.cursor after.log) c.number ≡ true = ap (λ l. was_lost_in l c.number) rest ∙ list_any-append (its_loss c.number) (drop c.cursor b.log) more ∙ ap (λ t. t || was_lost_in more c.number) was_lost in
      let cut = cut_lost c.number after.system after.log c.cursor lost in
      let ends = end_longer b.log after.log more c.number c.cursor longer was_lost in
      let cause : end_cause after.log c.number c.cursor ≡ end_cause b.log c.number c.cursor =
      ap (λ o. option_and_then (λ (e : Entry). cause_in c.number (what e)) o)
      (ap (slice_get after.log) ends ∙ ap (λ l. slice_get l (end_of_life b.log c.number c.cursor)) longer ∙ get_front b.log more (end_of_life b.log c.number c.cursor) inside.1) in
      record {
        lost = cut;
        left = record {
          system = left.system ∙ sym system;
          lives = ap (λ l. off_at l c.number) (ap (take c.cursor) longer ∙ take-append-le c.cursor b.log more (omega (arith, inside.0, inside.1))) ∙ left.lives;
          within = omega (arith, left.within, ends);
          followed = stood_as after c cut (stands_longer b after c more system script longer (omega (arith, inside.0, inside.1)) silent (stands_of b c left.followed));
          to_the_end = λ whole. absurd (true≢false (sym cut ∙ whole));
          lost_by = subst (λ o. EndsBy o c) (sym cause) left.lost_by;
          passed = (λ i. list_all (is_unpassed c.number (longer i) c.steps) (script i)) ∙ all_longer c.number b.log more c.steps b.script left.passed;
          uncalled = λ whole. absurd (true≢false (sym cut ∙ whole));
        };
      }

  -- and nothing is added to a log that a loss has ended
  ended_longer : was_lost_in (drop c.cursor b.log) c.number ≡ false → ends_lost b.system b.log ≡ true → IsGone after c
  ended_longer lives ended =
      let over : is_over after.system b.log ≡ true = ap (λ s. is_over s b.log) system ∙ (ended_over b.system b.log ended).0 in
      let same : after.log ≡ b.log = sym (whole_part after.system b.log after.log legal (more, sym longer) over) in
      let cut = cut_ended c.number after.system after.log c.cursor ((λ i. ends_lost (system i) (same i)) ∙ ended) in
      let ends : end_of_life b.log c.number c.cursor ≡ length b.log - 1 = ends_with_log b.log c.number c.cursor lives in
      record {
        lost = cut;
        left = record {
          system = left.system ∙ sym system;
          lives = ap (λ l. off_at (take c.cursor l) c.number) same ∙ left.lives;
          within = subst (λ l. c.cursor ≤ end_of_life l c.number c.cursor) (sym same) left.within;
          followed = stood_as after c cut (stands_longer b after c [] system script (same ∙ sym (append-nil b.log)) (omega (arith, left.within, ends)) refl (stands_of b c left.followed));
          to_the_end = λ whole. absurd (true≢false (sym cut ∙ whole));
          lost_by = subst (λ l. EndsBy (end_cause l c.number c.cursor) c) (sym same) left.lost_by;
          passed = (λ i. list_all (is_unpassed c.number (same i) c.steps) (script i)) ∙ left.passed;
          uncalled = λ whole. absurd (true≢false (sym cut ∙ whole));
        };
      }

-- who is gone stays so when the log grows by what it did not send
pub gone_longer : (b after : BusView) (c : ClusterView) (more : List Entry) → IsLegalBy MayStand after.system after.log → after.system ≡ b.system → after.script ≡ b.script → after.log ≡ b.log ++ more → list_any (is_by_cluster c.number) more ≡ false → IsGone b c → IsGone after c
gone_longer b after c more legal system script longer silent gone = by_way (cut_parts c.number b.system b.log c.cursor gone.lost)
  where
    by_way : (was_lost_in (drop c.cursor b.log) c.number ≡ true) ⊎ ((was_lost_in (drop c.cursor b.log) c.number ≡ false) × (ends_lost b.system b.log ≡ true)) → IsGone after c
    by_way (inl lost) = lost_longer b after c more legal system script longer gone.left silent lost
    by_way (inr (lives, ended)) = ended_longer b after c more legal system script longer gone.left silent lives ended
