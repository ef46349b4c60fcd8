-- The lives of a run: each followed the log for as long as it lasted, also as the log grows.
use Rattle.std.proofs.Common.{◌≡◌, ℕ, ◌+◌, ◌-◌, ◌≤◌, ◌<◌, ◌⊎◌, refl, sym, ◌∙◌, ap, subst, arith, List, ◌++◌, length, take, drop, Bool, false, true, ◌||◌, Option, Some, None, slice_get, true≢false, inl, inr}
use Rattle.std.specs.Prelude.{option_and_then}
use Rattle.std.specs.List.{list_any}
use Rattle.std.specs.Option.{option_map_or}
use Rattle.std.proofs.lemmas.List.{drop-append-le, length-drop, take-append-le}
use Rattle.std.proofs.lemmas.List.Folds.{list_any-append}
use Rattle.sys_text.specs.declared.system.System.{System}
use Rattle.cert_sched.specs.declared.script.ScriptWord.{ScriptWord}
use Rattle.bus_msg.specs.declared.entry.Entry.{Entry}
use Rattle.bus_msg.specs.PlacedAfter.{what}
use Rattle.cert_sched.specs.Losses.{is_by_cluster, is_crash_of, is_disk_word, was_lost_in}
use Rattle.cert_sched.specs.Scripted.{is_done}
use Rattle.cluster_core.specs.View.{ClusterView}
use Rattle.cluster_core.specs.Follows.{Follows, StandsBetween}
use Rattle.bus_order.specs.View.{BusView}
use Rattle.cluster_turns.specs.Ends.{is_cut_off}
use Rattle.cluster_turns.specs.Gone.{IsGone, LeftAs, StoodAs, StoodBeside, StoodBetween}
use Rattle.cluster_turns.specs.Lives.{EndsBy, begin_of_life, cause_in, end_of_life, ends_at_done, has_sent, last_entry}
use Rattle.cluster_turns.proofs.CutOff.{finished_not_ended, whole_living}
use Rattle.cluster_turns.proofs.LostLives.{done_finished, done_unlost, ends_with_log, lost_inside}
use Rattle.cluster_turns.proofs.Prefixes.{any_front, get_front}
use Rattle.cluster_turns.proofs.Staying.{stays_lost}
use Rattle.cluster_turns.proofs.StepLosses.{end_longer}
use Rattle.cluster_run.specs.declared.life.Life.{Life}
use Rattle.cluster_run.specs.Left.{life_in}
use Rattle.cluster_run.specs.Lived.{FollowedUpto, LeftBetween, LifeHolds}
use Rattle.cluster_run.specs.Past.{IsPast}
use Rattle.cluster_run.proofs.Begins.{begin_begins, begin_stays, begins_longer, same_cause, same_end}

-- ---- the life that a cluster is in

module _ (b : BusView) (c : ClusterView) (left : LeftAs b c) where
  abbrev from : ℕ
  from = begin_of_life b.log c.number c.cursor

  pub left_within : c.cursor ≤ length b.log
  left_within = by_loss (was_lost_in (drop c.cursor b.log) c.number) refl
    where
      by_loss : (t : Bool) → was_lost_in (drop c.cursor b.log) c.number ≡ t → c.cursor ≤ length b.log
      by_loss true lost = let inside = lost_inside b.log c.number c.cursor lost in omega (arith, inside.0, inside.1)
      by_loss false lives = let end = ends_with_log b.log c.number c.cursor lives in omega (arith, end, left.within)

  ends : end_of_life b.log c.number from ≡ end_of_life b.log c.number c.cursor
  ends = same_end b.log c.number c.cursor left_within left.lives

  -- it was lost in it exactly where it was lost behind its cursor
  pub lost_in_it : was_lost_in (drop (begin_of_life b.log c.number c.cursor) b.log) c.number ≡ was_lost_in (drop c.cursor b.log) c.number
  lost_in_it = stays_lost c.number b.log from c.cursor (begin_stays b.log c.number c.cursor left_within left.lives)

  none_some : (n : ℕ) → ◌≡◌ {A = Option ℕ} None (Some n) → ⊥
  none_some n h = cc

  -- a word of the script made it fail
  by_script : (n : ℕ) → c.failed ≡ Some n → StoodAs b c → list_any (is_disk_word c.number n) b.script ≡ true
  by_script n failed (inl (unfailed, stood)) = absurd (none_some n (sym unfailed ∙ failed))
  by_script n failed (inr (lost, stood)) =
      let disk = stood.disk in
      let same : disk.call ≡ n = let both_are : Some disk.call ≡ Some n = sym disk.failed ∙ failed in cc in
      subst (λ m. list_any (is_disk_word c.number m) b.script ≡ true) same disk.named

  -- where it ends with the run the cluster was not cut off
  done_whole : ends_at_done b.log c.number from ≡ true → is_cut_off c.number b.system b.log c.cursor ≡ false
  done_whole done = whole_living c.number b.system b.log c.cursor (sym lost_in_it ∙ done_unlost b.log c.number from done) (finished_not_ended b.system b.log (done_finished b.log c.number from done))

  cut_undone : (t : Bool) → ends_at_done b.log c.number from ≡ t → is_cut_off c.number b.system b.log c.cursor ≡ true → ends_at_done b.log c.number from ≡ false
  cut_undone true done cut = absurd (true≢false (sym cut ∙ done_whole done))
  cut_undone false undone cut = undone

  by_way : StoodBeside b c ⊎ ((is_cut_off c.number b.system b.log c.cursor ≡ true) × StoodBetween b c) → FollowedUpto Follows b.system b.log (life_in b.log c) ⊎ LeftBetween Follows b.system b.log (life_in b.log c)
  by_way (inl beside) = inl (record {
    follows = beside.follows;
    sent_before = any_front (is_by_cluster c.number) (drop c.cursor b.log) ((end_of_life b.log c.number from + 1) - c.cursor) beside.sent_before;
  })
  by_way (inr (cut, between)) = inr (record {
    entry = between.entry;
    there = between.there;
    lost = cut_undone (ends_at_done b.log c.number from) refl cut;
    between = between.between;
    sent_before = any_front (is_by_cluster c.number) (drop (c.cursor + 1) b.log) ((end_of_life b.log c.number from + 1) - (c.cursor + 1)) between.sent_before;
  })

  by_stood : c.failed ≡ None → StoodAs b c → FollowedUpto Follows b.system b.log (life_in b.log c) ⊎ LeftBetween Follows b.system b.log (life_in b.log c)
  by_stood unfailed (inl (still, stood)) = by_way stood
  by_stood unfailed (inr (lost, stood)) = absurd (none_some (stood.disk).call (sym unfailed ∙ (stood.disk).failed))

  pub life_holds : LifeHolds Follows b.system b.script b.log (life_in b.log c)
  life_holds = record {
    begins = begin_begins b.log c.number c.cursor;
    number = refl;
    within = subst (λ n. c.cursor ≤ n) (sym ends) left.within;
    followed = λ unfailed. by_stood unfailed left.followed;
    to_the_end = λ done unfailed. left.to_the_end (done_whole done) ∙ sym (ends_with_log b.log c.number from (done_unlost b.log c.number from done));
    lost_by = subst (λ o. EndsBy o c) (sym (same_cause b.log c.number c.cursor left_within left.lives)) left.lost_by;
    failed_by = λ n failed. by_script n failed left.followed;
  }

-- a cluster that was lost behind its cursor is in a life that is over
pub gone_past : (b : BusView) (c : ClusterView) → IsGone b c → was_lost_in (drop c.cursor b.log) c.number ≡ true → IsPast b (life_in b.log c)
gone_past b c gone lost = record { holds = life_holds b c gone.left; lost = lost_in_it b c gone.left ∙ lost }

-- ---- a life that is over, as the log grows

module _ (system : System) (script : List ScriptWord) (log more : List Entry) (l : Life) (lost : was_lost_in (drop l.from log) l.cluster ≡ true) where
  abbrev end : ℕ
  end = end_of_life log l.cluster l.from

  inside : (l.from ≤ end) × (end < length log)
  inside = lost_inside log l.cluster l.from lost

  end_same : end_of_life (log ++ more) l.cluster l.from ≡ end
  end_same = end_longer log (log ++ more) more l.cluster l.from refl lost

  last_same : last_entry (log ++ more) l.cluster l.from ≡ last_entry log l.cluster l.from
  last_same = ap (slice_get (log ++ more)) end_same ∙ get_front log more end inside.1

  undone : ends_at_done log l.cluster l.from ≡ false
  undone = by_test (ends_at_done log l.cluster l.from) refl
    where
      by_test : (t : Bool) → ends_at_done log l.cluster l.from ≡ t → t ≡ false
      by_test true done = absurd (true≢false (sym lost ∙ done_unlost log l.cluster l.from done))
      by_test false is = refl

  still_undone : ends_at_done (log ++ more) l.cluster l.from ≡ false
  still_undone = ap (λ o. option_map_or (λ (e : Entry). is_done (what e)) o false) last_same ∙ undone

  -- what is sent up to its end is what was
  sent_same : (n : ℕ) → n ≤ length log → has_sent (log ++ more) l.cluster n (end + 1) ≡ has_sent log l.cluster n (end + 1)
  sent_same n within =
      ap (λ xs. list_any (is_by_cluster l.cluster) (take ((end + 1) - n) xs)) (drop-append-le n log more within)
      ∙ ap (list_any (is_by_cluster l.cluster)) (take-append-le ((end + 1) - n) (drop n log) more (let long = length-drop n log in let most = inside.1 in omega (arith, long, most, within)))

  front : l.upto ≤ end → take l.upto (log ++ more) ≡ take l.upto log
  front within = take-append-le l.upto log more (let most = inside.1 in omega (arith, most, within))

  followed_longer : l.upto ≤ end → FollowedUpto Follows system log l ⊎ LeftBetween Follows system log l → FollowedUpto Follows system (log ++ more) l ⊎ LeftBetween Follows system (log ++ more) l
  followed_longer within (inl followed) = inl (record {
    follows = subst (λ xs. Follows system xs l.value) (sym (front within)) followed.follows;
    sent_before = ap (λ n. has_sent (log ++ more) l.cluster l.upto (n + 1)) end_same ∙ sent_same l.upto (let most = inside.1 in omega (arith, most, within)) ∙ followed.sent_before;
  })
  followed_longer within (inr left) = inr (record {
    entry = left.entry;
    there = get_front log more l.upto (let most = inside.1 in omega (arith, most, within)) ∙ left.there;
    lost = still_undone;
    between = subst (λ xs. StandsBetween Follows system xs left.entry l.value) (sym (front within)) left.between;
    sent_before = ap (λ n. has_sent (log ++ more) l.cluster (l.upto + 1) (n + 1)) end_same ∙ sent_same (l.upto + 1) (let most = inside.1 in omega (arith, most, within)) ∙ left.sent_before;
  })

  pub holds_longer : LifeHolds Follows system script log l → LifeHolds Follows system script (log ++ more) l
  holds_longer holds = record {
    begins = begins_longer log more l.cluster l.from (let low = inside.0 in let most = inside.1 in omega (arith, low, most)) ∙ holds.begins;
    number = holds.number;
    within = subst (λ n. l.upto ≤ n) (sym end_same) holds.within;
    followed = λ unfailed. followed_longer holds.within (holds.followed unfailed);
    to_the_end = λ done unfailed. absurd (true≢false (sym done ∙ still_undone));
    lost_by = subst (λ o. EndsBy o l.value) (sym (ap (λ o. option_and_then (λ (e : Entry). cause_in l.cluster (what e)) o) last_same)) holds.lost_by;
    failed_by = holds.failed_by;
  }

pub past_longer : (b after : BusView) (more : List Entry) (l : Life) → after.system ≡ b.system → after.script ≡ b.script → after.log ≡ b.log ++ more → IsPast b l → IsPast after l
past_longer b after more l system script longer past =
    let low = lost_inside b.log l.cluster l.from past.lost in
    let Holds : List Entry → Type 0 = λ log. LifeHolds Follows after.system after.script log l in
    let IsLost : List Entry → Type 0 = λ log. was_lost_in (drop l.from log) l.cluster ≡ true in
    record {
      holds = subst Holds (sym longer) (subst (λ (s : System). LifeHolds Follows s after.script (b.log ++ more) l) (sym system) (subst (λ (words : List ScriptWord). LifeHolds Follows b.system words (b.log ++ more) l) (sym script) (holds_longer b.system b.script b.log more l past.lost past.holds)));
      lost = subst IsLost (sym longer) (ap (λ xs. was_lost_in xs l.cluster) (drop-append-le l.from b.log more (omega (arith, low.0, low.1))) ∙ list_any-append (λ (e : Entry). is_crash_of l.cluster (what e)) (drop l.from b.log) more ∙ ap (λ t. t || was_lost_in more l.cluster) past.lost);
    }
