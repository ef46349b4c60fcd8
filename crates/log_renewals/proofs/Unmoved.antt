-- Which processes a loss moved that have done nothing since, entry by entry.
use Rattle.std.proofs.Common.{◌≡◌, ℕ, refl, sym, ◌∙◌, ap, subst, List, [], ◌∷◌, ◌++◌, Bool, true, false, cond, not, ◌&&◌, ◌||◌}
use Rattle.t32_base.specs.declared.process.Pid.{Pid}
use Rattle.t32_base.proofs.Facts.{or_false, or_true}
use Rattle.sys_text.specs.declared.system.System.{System}
use Rattle.sys_text.specs.Valid.{is_system}
use Rattle.bus_msg.specs.declared.entry.What.TheVariants.{Birth}
use Rattle.bus_msg.specs.declared.entry.Entry.{Entry}
use Rattle.bus_msg.specs.PlacedAfter.{what}
use Rattle.cert_sched.specs.Kinds.{KindHolds, is_done_by}
use Rattle.cert_sched.specs.Moved.{any_since_moved, was_moved}
use Rattle.cert_sched.specs.Rules.{is_by_right}
use Rattle.cert_sched.specs.Schedule.{placement}
use Rattle.cert_sched.specs.Told.{cluster_lost, told}
use Rattle.cert_sched.specs.Legal.{IsLegalBy, Stands}
use Rattle.cert_sched.proofs.FreshLaws.{born_rightly, child_new, numbered}
use Rattle.cert_sched.proofs.UnplacedLaws.{never_moved}
use Rattle.log_laws.specs.pages.Next.{moves_next}
use Rattle.log_laws.proofs.pages.OneEntry.{any_since-snoc, any_since-goes_on, moves_none}
use Rattle.log_laws.proofs.records.Standing.{itself}
use Rattle.backup_laws.proofs.Since.{was_moved-snoc}
use Rattle.log_renewals.specs.Moved.{KeepsMovedOnly, MovedOnlyBegins, moved_only}

none_at_boot : (system : System) (p : Pid) → moved_only system [] p ≡ false
unfolding told
none_at_boot system p = refl

none_born : (system : System) (log : List Entry) (e : Entry) (parent : Pid) (at : ℕ) (child : Pid) (end : ℕ) → is_system system ≡ true
    → IsLegalBy Stands system log → Stands system log e → what e ≡ Birth parent at child end
    → moved_only system (log ++ e ∷ []) child ≡ false
none_born system log e parent at child end valid legal stands is =
    let here = placement system log in
    let kind = subst (KindHolds system log e) is stands.kind in
    let right = born_rightly here (e.post).by parent child (subst (λ w. is_by_right here (e.post).by w ≡ true) is stands.by_right) kind.child_is in
    let new = child_new here parent child (numbered Stands itself system log valid legal) right in
    let never : was_moved system (log ++ e ∷ []) child ≡ false =
    was_moved-snoc system log e child ∙ (λ i. never_moved Stands system log child legal new i || moves_none system log e (ap cluster_lost is) child i) in
    ap (λ b. b && not (any_since_moved system (log ++ e ∷ []) child (is_done_by child))) never

all_moved : (system : System) (log : List Entry) (e : Entry) (p : Pid) → moves_next system log e p ≡ true → moved_only system (log ++ e ∷ []) p ≡ true
all_moved system log e p moves = λ i. was i && not (none i)
  where
    was : was_moved system (log ++ e ∷ []) p ≡ true
    was = was_moved-snoc system log e p ∙ ap (λ b. was_moved system log p || b) moves ∙ or_true (was_moved system log p)

    none : any_since_moved system (log ++ e ∷ []) p (is_done_by p) ≡ false
    none = any_since-snoc system log e p (is_done_by p) ∙ ap (λ b. cond b false (any_since_moved system log p (is_done_by p) || is_done_by p (what e))) moves

pub begins : MovedOnlyBegins
begins = record { boot = none_at_boot; born = none_born; moved = all_moved }

pub keeps_on : (p : Pid) (old new : Bool) (e : Entry) → new ≡ (old && not (is_done_by p (what e))) → KeepsMovedOnly p old new e
keeps_on p old new e is system log stays of =
    is ∙ ap (λ b. b && not (is_done_by p (what e))) of ∙ parted (was_moved system log p) (any_since_moved system log p (is_done_by p)) (is_done_by p (what e))
    ∙ sym (λ i. (was_moved-snoc system log e p ∙ ap (λ b. was_moved system log p || b) stays
    ∙ or_false (was_moved system log p)) i && not (any_since-goes_on system log e p (is_done_by p) stays i))
  where
    parted : (a b c : Bool) → ((a && not b) && not c) ≡ (a && not (b || c))
    parted true true c = refl
    parted true false c = refl
    parted false b c = refl
