-- Of a process without a state in its record no page is asked for, and none comes.
use Rattle.std.proofs.Common.{◌≡◌, ℕ, refl, sym, ◌∙◌, List, [], ◌∷◌, ◌++◌, Bool, true, false, true≢false}
use Rattle.t32_base.specs.declared.process.Pid.{Pid}
use Rattle.sys_text.specs.declared.system.System.{System}
use Rattle.bus_msg.specs.declared.entry.Entry.{Entry}
use Rattle.bus_msg.specs.PlacedAfter.{what}
use Rattle.cert_sched.specs.Legal.{IsLegalBy, Stands}
use Rattle.cert_sched.specs.Moved.{is_fetch, is_page_is, moved_with_state}
use Rattle.cert_sched.specs.Record.{has_state}
use Rattle.cert_sched.proofs.LogLaws.{IsLegal-before, IsLegal-last}
use Rattle.log_laws.proofs.pages.MovedStated.{moved_stated}
use Rattle.log_laws.proofs.pages.Waiting.{came_waited, fetch_holds, fetch_is, page_came, waited_lacks}

module _ (system : System) (log : List Entry) (e : Entry) (p : Pid) (i : ℕ) (legal : IsLegalBy Stands system (log ++ e ∷ [])) (stateless : has_state system log p ≡ false) where
  stands : Stands system log e
  stands = IsLegal-last Stands system log e legal

  before : IsLegalBy Stands system log
  before = IsLegal-before Stands system log e legal

  -- it was moved with no state
  unmoved : moved_with_state system log p ≡ true → ⊥
  unmoved moved = true≢false (sym (moved_stated system log p before moved) ∙ stateless)

  pub none_asked : is_fetch p i (what e) ≡ false
  none_asked = by_test (is_fetch p i (what e)) refl
    where
      by_test : (b : Bool) → is_fetch p i (what e) ≡ b → b ≡ false
      by_test true is = absurd (unmoved (fetch_holds system log e p i stands (fetch_is (what e) p i is)).moved)
      by_test false is = refl

  pub none_comes : is_page_is p i (what e) ≡ false
  none_comes = by_test (is_page_is p i (what e)) refl
    where
      by_test : (b : Bool) → is_page_is p i (what e) ≡ b → b ≡ false
      by_test true is = let page = page_came (what e) p i is in absurd (unmoved (waited_lacks system log p i before (came_waited system log e p i page.bytes stands page.is)).moved)
      by_test false is = refl
