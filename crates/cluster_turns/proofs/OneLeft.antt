-- How one cluster is left: at the end of the run, or where it was lost.
use Rattle.std.proofs.Common.{◌≡◌, ◌-◌, sym, ◌∙◌, subst, arith, length, take, drop, true, false, None, true≢false, inl}
use Rattle.std.specs.List.{list_any, list_all}
use Rattle.bus_msg.specs.PlacedAfter.{what}
use Rattle.cert_sched.specs.Losses.{is_by_cluster, was_lost_in}
use Rattle.cluster_core.specs.View.{ClusterView, disk_calls}
use Rattle.cluster_core.specs.Follows.{Follows}
use Rattle.bus_order.specs.Script.{is_unpassed, is_uncalled, off_at}
use Rattle.bus_order.specs.View.{BusView}
use Rattle.cluster_turns.specs.Gone.{LeftAs, StoodAs}
use Rattle.cluster_turns.specs.Lives.{EndsBy, cause_in, end_of_life}
use Rattle.cluster_turns.proofs.CutOff.{cut_not}
use Rattle.cluster_turns.proofs.LostLives.{ended_with_log, ends_with_log, loss_there, lost_cause, lost_inside}

-- one that was not lost followed the log up to its last entry
pub left_at_end : (b : BusView) (c : ClusterView) → off_at (take c.cursor b.log) c.number ≡ None → was_lost_in (drop c.cursor b.log) c.number ≡ false → c.system ≡ b.system → c.failed ≡ None → Follows b.system (take c.cursor b.log) c
    → list_any (is_by_cluster c.number) (drop c.cursor b.log) ≡ false → c.cursor ≡ length b.log - 1 → list_all (is_unpassed c.number b.log c.steps) b.script ≡ true → list_all (is_uncalled c.number (disk_calls c)) b.script ≡ true → LeftAs b c
left_at_end b c lives unlost system unfailed follows sent_before at_end passed uncalled =
    let ends : end_of_life b.log c.number c.cursor ≡ length b.log - 1 = ends_with_log b.log c.number c.cursor unlost in
    record {
      system = system;
      lives = lives;
      within = omega (arith, ends, at_end);
      followed = inl (unfailed, inl (record { follows = follows; sent_before = sent_before }));
      to_the_end = λ whole. at_end;
      lost_by = subst (λ o. EndsBy o c) (sym (ended_with_log b.log c.number c.cursor (omega (arith, at_end)) unlost)) tt;
      passed = passed;
      uncalled = λ whole. uncalled;
    }

-- one that was lost had taken in no entry behind that, and ended by its cause
pub left_lost : (b : BusView) (c : ClusterView) → off_at (take c.cursor b.log) c.number ≡ None → (lost : was_lost_in (drop c.cursor b.log) c.number ≡ true) → c.system ≡ b.system → StoodAs b c → EndsBy (cause_in c.number (what (loss_there b.log c.number c.cursor lost).0)) c
    → list_all (is_unpassed c.number b.log c.steps) b.script ≡ true → LeftAs b c
left_lost b c lives lost system followed ends_by passed = record {
  system = system;
  lives = lives;
  within = (lost_inside b.log c.number c.cursor lost).0;
  followed = followed;
  to_the_end = λ whole. absurd (true≢false (sym lost ∙ (cut_not c.number b.system b.log c.cursor whole).0));
  lost_by = subst (λ o. EndsBy o c) (sym (lost_cause b.log c.number c.cursor lost)) ends_by;
  passed = passed;
  uncalled = λ whole. absurd (true≢false (sym lost ∙ (cut_not c.number b.system b.log c.cursor whole).0));
}
