-- A process whose pages have all come goes on as it started.
use Rattle.std.proofs.Common.{◌≡◌, ℕ, ◌*◌, ◌<◌, refl, sym, ◌∙◌, ap, subst, List, [], Bool, true, Some}
use Rattle.t32_base.specs.declared.process.Pid.{Pid}
use Rattle.sys_text.specs.declared.system.System.{System}
use Rattle.sys_text.specs.Valid.{is_system}
use Rattle.roll_forward.specs.Rolling.{with_saved}
use Rattle.page_waits.specs.Begun.{begun, BeginsFrom}
use Rattle.bus_msg.specs.declared.entry.Entry.{Entry}
use Rattle.cert_sched.specs.Record.{has_state}
use Rattle.cert_sched.specs.Legal.{MayStand}
use Rattle.cert_sched.specs.Legal.{IsLegalBy, Stands}
use Rattle.cert_sched.specs.Simulation.{IsUnended}
use Rattle.replay_laws.specs.rolling.Behind.{RollsBehind}
use Rattle.replay_laws.proofs.rolling.ByRule.{itself, standing_always, standing_from_start}
use Rattle.replay_laws.proofs.rolling.FromStart.{stated_at_start}
use Rattle.replay_laws.proofs.rolling.Reaching.{LedThere, led_there}
use Rattle.log_laws.proofs.records.Standing.{all_stand}
use Rattle.log_laws.proofs.pages.SizesStay.{start_sized}
use Rattle.log_laws.proofs.pages.StartPages.{kept_pages}
use Rattle.page_waits.specs.Pages.{AreAllPages}
use Rattle.page_waits.specs.Waiting.{CanGoOn, WaitingState, is_whole}
use Rattle.page_waits.proofs.Started.{can_from, rolls_from}
use Rattle.replay_laws.specs.pages.Waits.{GoesOnAs, WaitsAs}
use Rattle.log_laws.proofs.pages.MovedStated.{moved_stated}
use Rattle.replay_laws.proofs.pages.PagesCame.{as_kept}

module _ (system : System) (log : List Entry) (p : Pid) (queued : ℕ → Bool) (w : WaitingState) (valid : is_system system ≡ true) (legal : IsLegalBy Stands system log) (unended : IsUnended system log p) (waits : WaitsAs system log p queued w)
    (whole : is_whole w ≡ true) where
  there : LedThere system log p
  there = led_there Stands itself system log p valid legal unended

  -- its record has a state
  stated : has_state system log p ≡ true
  stated = moved_stated system log p legal waits.moved

  -- the pages are those of the memory with which it started
  all_pages : AreAllPages ((there.led).start).memory w.come
  all_pages = record {
    size =
        start_sized system log p (there.led).start there.now valid there.there (there.led).started
        ∙ ap (λ n. 256 * n) (sym waits.pages);
    each = λ i within.
        as_kept system log p queued w waits whole i within
        ∙ ap Some (kept_pages system log p (there.led).start i valid legal waits.moved unended (there.led).started (subst (λ n. i < n) waits.pages within));
  }

  -- with that memory it rolls forward
  rolls : RollsBehind system log p (with_saved (there.led).start (w.kept).saved (w.kept).next) (w.kept).counts (w.kept).births
  rolls = standing_from_start system log p (there.led).start w.kept (record { bytes = ((there.led).start).memory; dirty = [] }) valid legal unended (there.led).started waits.kept refl

  begins : BeginsFrom (there.led).start w.kept
  begins = record {
    state = stated_at_start system log p (there.led).start w.kept stated (there.led).started waits.kept;
    rolls = standing_always system log p (with_saved (there.led).start (w.kept).saved (w.kept).next) (w.kept).counts (w.kept).births valid legal unended rolls.rolls;
  }

  pub can_go_on_so : CanGoOn w
  can_go_on_so = can_from w (there.led).start all_pages begins

  pub goes_on_so : GoesOnAs system log p w
  goes_on_so = record {
    rolling = begun (there.led).start w.kept;
    is = rolls_from w (there.led).start all_pages begins;
    behind = rolls;
    start = (there.led).start;
    started = (there.led).started;
    begins = refl;
  }

-- in a log of the entries that are built so far
pub can_go_on : (system : System) (log : List Entry) (p : Pid) (queued : ℕ → Bool) (w : WaitingState) → is_system system ≡ true → IsLegalBy MayStand system log → IsUnended system log p → WaitsAs system log p queued w → is_whole w ≡ true → CanGoOn w
can_go_on system log p queued w valid legal = can_go_on_so system log p queued w valid (all_stand system log legal)

pub goes_on : (system : System) (log : List Entry) (p : Pid) (queued : ℕ → Bool) (w : WaitingState) → is_system system ≡ true → IsLegalBy MayStand system log → IsUnended system log p → WaitsAs system log p queued w → is_whole w ≡ true
    → GoesOnAs system log p w
goes_on system log p queued w valid legal = goes_on_so system log p queued w valid (all_stand system log legal)
