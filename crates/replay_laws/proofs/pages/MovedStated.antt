-- A process without a state in its record needs no page.
use Rattle.std.proofs.Common.{◌≡◌, refl, sym, ◌∙◌, ap, List, Bool, true, false, not, ◌||◌, true≢false}
use Rattle.std.specs.List.{list_all, range_with_len}
use Rattle.t32_base.specs.declared.process.Pid.{Pid}
use Rattle.sys_text.specs.declared.system.System.{System}
use Rattle.bus_msg.specs.declared.entry.Entry.{Entry}
use Rattle.cert_sched.specs.Moved.{any_since_moved, is_page_is, moved_with_state}
use Rattle.cert_sched.specs.Rules.{has_its_pages}
use Rattle.cert_sched.specs.Steps.{page_count}
use Rattle.cert_sched.specs.Record.{has_state}
use Rattle.cert_sched.specs.Legal.{IsLegalBy, Stands}
use Rattle.log_laws.proofs.pages.MovedStated.{moved_stated}

-- it was moved with none
pub stateless_paged : (system : System) (log : List Entry) (p : Pid) → IsLegalBy Stands system log → has_state system log p ≡ false → has_its_pages system log p ≡ true
stateless_paged system log p legal stateless =
    ap (λ b. not b || list_all (λ i. any_since_moved system log p (is_page_is p i)) (range_with_len 0 (page_count system log p))) (by_move (moved_with_state system log p) refl)
  where
    by_move : (b : Bool) → moved_with_state system log p ≡ b → b ≡ false
    by_move true moved = absurd (true≢false (sym (moved_stated system log p legal moved) ∙ stateless))
    by_move false moved = refl
