-- How the clusters of a bus are left: each has taken in the log up to its last entry, or is gone.
use Rattle.std.proofs.Common.{◌≡◌, ◌∙◌, ◌+◌, refl, subst, List, take, drop, Bool, inl, inr, true, false}
use Rattle.std.specs.List.{list_any}
use Rattle.cert_sched.specs.Losses.{was_lost_in}
use Rattle.cluster_core.specs.View.{ClusterView}
use Rattle.cluster_core.specs.Follows.{Follows}
use Rattle.bus_order.specs.View.{BusView}
use Rattle.cluster_turns.specs.Along.{IsSound}
use Rattle.cluster_turns.specs.Ends.{has_run_out}
use Rattle.cluster_turns.specs.Gone.{LeftAs, is_told_by}
use Rattle.cluster_turns.specs.Lives.{end_of_life}
use Rattle.cluster_turns.proofs.Quiet.{before_quiet}
use Rattle.cluster_run.specs.Left.{AllCaught, AllLeft, HasCaught}
use Rattle.cluster_turns.proofs.DiskCalls.{disk_uncalled}
use Rattle.cluster_run.proofs.AtTheEnd.{over_end}
use Rattle.cluster_run.proofs.Ended.{run_out_over}
use Rattle.cluster_turns.proofs.OneLeft.{left_at_end}
use Rattle.cluster_turns.proofs.OwnLosses.{none_sent}
use Rattle.cluster_turns.proofs.StepLosses.{before_along, lost_gone}

module _ (b : BusView) (sound : IsSound b) (out : has_run_out b.system b.log ≡ true) where
  one_left : (c : ClusterView) → HasCaught b c → LeftAs b c
  one_left c (inr stopped) = (stopped.gone).left
  one_left c (inl (along, caught)) = by_loss (was_lost_in (drop c.cursor b.log) c.number) refl
    where
      by_loss : (t : Bool) → was_lost_in (drop c.cursor b.log) c.number ≡ t → LeftAs b c
      by_loss true lost = (lost_gone b c (before_along b c sound along) lost).left
      by_loss false lives =
          left_at_end b c (along.beside).lives lives along.system (along.beside).unfailed (subst (λ s. Follows s (take c.cursor b.log) c) along.system (along.beside).follows) (none_sent c.number (drop c.cursor b.log) (along.beside).told_before)
          (caught ∙ over_end b (run_out_over b.system b.log sound.legal out)) along.passed (disk_uncalled b.script b.log c along.disk (((along.beside).follows).disk).1)

  one_quiet : (c : ClusterView) → HasCaught b c → list_any (is_told_by c.number) (drop (end_of_life b.log c.number c.cursor + 1) b.log) ≡ false
  one_quiet c (inr stopped) = stopped.quiet
  one_quiet c (inl (along, caught)) = before_quiet b c (before_along b c sound along)

  pub caught_left : (cs : List ClusterView) → AllCaught b cs → AllLeft b cs
  caught_left cs taken = record {
    valid = sound.valid;
    each = taken.each;
    numbers = taken.numbers;
    left = λ n c at. one_left c (taken.caught n c at);
    quiet = λ n c at. one_quiet c (taken.caught n c at);
    lost = taken.lost;
  }
