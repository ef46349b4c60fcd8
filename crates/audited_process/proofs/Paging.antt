-- Which pages a process sent since a loss moved it, and whether it has only been moved, after one more entry.
use Rattle.std.proofs.Common.{◌≡◌, ℕ, refl, sym, ◌∙◌, ap, List, Bool, true, false, Option, Some, None, is_some, true≢false}
use Rattle.std.specs.Option.{option_map_or}
use Rattle.t32_base.specs.declared.process.Pid.{Pid}
use Rattle.t32_base.specs.declared.process.ClusterNo.{ClusterNo}
use Rattle.sys_text.specs.declared.system.System.{System}
use Rattle.sys_text.specs.Valid.{is_system}
use Rattle.bus_msg.specs.declared.entry.Entry.{Entry}
use Rattle.bus_msg.specs.declared.placed.Placed.{Placed}
use Rattle.bus_msg.specs.Places.{Places, is_moved_by, unended_at}
use Rattle.bus_msg.specs.PlacedAfter.{what}
use Rattle.cert_sched.specs.Schedule.{placement}
use Rattle.cert_sched.specs.Told.{cluster_lost, is_moved}
use Rattle.cert_sched.specs.Legal.{IsLegalBy, MayStand}
use Rattle.cert_sched.specs.Simulation.{IsUnended}
use Rattle.cert_sched.proofs.DoneLaws.{stand_apart}
use Rattle.log_laws.specs.pages.Next.{moves_next}
use Rattle.backup_laws.proofs.Modes.{moved_is}
use Rattle.log_cuts.specs.SentPages.{NoneSent, PutsPage}
use Rattle.log_cuts.proofs.Putting.{leaves_sent}
use Rattle.log_renewals.proofs.Unmoved.{begins}
use Rattle.audited_process.specs.Concerns.{is_moved_at, page_sent}
use Rattle.audited_process.specs.Pages.{TakesPages}
use Rattle.audited_process.specs.SinceMoved.{KeepsOnly}
use Rattle.audited_process.proofs.ByKind.{no_page, page_is}

-- ---- whether it is moved

record Found (places : Places) (p : Pid) : Type 0 where
  pub at : Placed
  pub is : unended_at places p ≡ Some at

found : (places : Places) (p : Pid) → is_some (unended_at places p) ≡ true → Found places p
found places p some = by_found (unended_at places p) some (λ q is. is)
  where
    by_found : (o : Option Placed) → is_some o ≡ true → ((q : Placed) → o ≡ Some q → unended_at places p ≡ Some q) → Found places p
    by_found None some is = absurd (true≢false (sym some))
    by_found (Some q) some is = record { at = q; is = is q refl }

-- an entry moves a process that has not ended exactly where it does as that is placed
pub moved_so : (system : System) (log : List Entry) (e : Entry) (p : Pid) → is_system system ≡ true → IsLegalBy MayStand system log → IsUnended system log p
    → moves_next system log e p ≡ is_moved_at p (placement system log) (what e)
moved_so system log e p valid legal unended = by_loss (cluster_lost (what e))
  where
    here : Places
    here = placement system log

    by_loss : (o : Option ClusterNo)
        → option_map_or (is_moved p (placement system log)) o false ≡ option_map_or (λ k. option_map_or (is_moved_by k) (unended_at (placement system log) p) false) o false
    by_loss None = refl
    by_loss (Some k) =
        let f = found (placement system log) p unended in
        moved_is (placement system log) p k f.at (stand_apart system log valid legal) f.is ∙ ap (λ o. option_map_or (is_moved_by k) o false) (sym f.is)

-- ---- the pages

pub page_put : (p : Pid) (e : Entry) (index at : ℕ) (old new : List (ℕ × List ℕ)) → page_sent p (what e) ≡ Some (index, at) → PutsPage old new index at → TakesPages p false old new e
page_put p e index at old new is puts system log valid stands stays are =
    let page = page_is p (what e) index at is in
    puts system log e p page.bytes valid stands page.is are

pub pages_left : (p : Pid) (e : Entry) (sent : List (ℕ × List ℕ)) → page_sent p (what e) ≡ None → TakesPages p false sent sent e
pages_left p e sent is system log valid stands stays are = leaves_sent system log e p sent (no_page p (what e) is) stays are

pub pages_gone : (p : Pid) (e : Entry) (old new : List (ℕ × List ℕ)) → NoneSent new → TakesPages p true old new e
pages_gone p e old new none system log valid stands moves are = none.moved system log e p moves

-- ---- whether it has only been moved

pub only_moved : (p : Pid) (e : Entry) (old : Bool) → KeepsOnly p true old true e
only_moved p e old system log moves is = sym (begins.moved system log e p moves)
