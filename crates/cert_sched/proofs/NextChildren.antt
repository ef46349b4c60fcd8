-- An entry that may stand next may be taken in: the child of a birth is the next of its parent.
use Rattle.std.proofs.Common.{◌≡◌, ◌+◌, ◌*◌, refl, sym, ap, subst, List, [], ◌∷◌, Bool, true, false, cond, ◌||◌, eqb, Option, Some, None, true≢false}
use Rattle.std.specs.Prelude.{find}
use Rattle.std.specs.List.{list_any}
use Rattle.std.specs.Option.{IfSome}
use Rattle.t32_base.specs.declared.process.Pid.{Pid}
use Rattle.sys_text.specs.declared.system.System.{System}
use Rattle.sys_text.specs.Valid.{is_system}
use Rattle.bus_msg.specs.declared.entry.What.{What}
use Rattle.bus_msg.specs.declared.entry.What.TheVariants.{Birth}
use Rattle.bus_msg.specs.declared.entry.Entry.{Entry}
use Rattle.bus_msg.specs.declared.placed.Placed.{Placed}
use Rattle.bus_msg.specs.Places.{Places, next_serial_in, same_pid}
use Rattle.bus_msg.specs.PlacedAfter.{what}
use Rattle.channel_table.specs.Changes.{CanBeAbsorbed}
use Rattle.cert_sched.specs.Schedule.{placement}
use Rattle.cert_sched.specs.Rules.{is_by_right}
use Rattle.cert_sched.specs.Kinds.{KindHolds}
use Rattle.cert_sched.specs.Legal.{IsLegalBy, Stands, MayStand}
use Rattle.cert_sched.proofs.PidLaws.{placed_pids}
use Rattle.cert_sched.proofs.FreshLaws.{BornRightly, Numbered, born_rightly, child_new, numbered, only_one}

-- a pid that none of them has is not found
none_found : (p : Pid) (qs : List Placed) → list_any (λ m. eqb m p.0) (placed_pids qs) ≡ false → find (λ (q : Placed). same_pid q.pid p) qs ≡ None
none_found p [] none = refl
none_found p (q ∷ qs) none = by_pid (same_pid q.pid p) none (none_found p qs)
  where
    by_pid : (b : Bool) → (b || list_any (λ m. eqb m p.0) (placed_pids qs)) ≡ false → (list_any (λ m. eqb m p.0) (placed_pids qs) ≡ false → find (λ (q : Placed). same_pid q.pid p) qs ≡ None)
        → cond b (Some q) (find (λ (q : Placed). same_pid q.pid p) qs) ≡ None
    by_pid true none more = absurd (true≢false none)
    by_pid false none more = more none

absorbed_by : (system : System) (log : List Entry) (e : Entry) (w : What) → Numbered (placement system log) → KindHolds system log e w → is_by_right (placement system log) (e.post).by w ≡ true → CanBeAbsorbed (placement system log) w
absorbed_by system log e (Birth parent at child end) numbered kind right =
    let places : Places = placement system log in
    let born : BornRightly places parent child = born_rightly places (e.post).by parent child right kind.child_is in (
      none_found child places.placed (child_new places parent child numbered born),
      subst (λ (o : Option Placed). IfSome o (λ (q : Placed). child.0 ≡ (q.home).0 + 16 * next_serial_in places q.home)) (sym (only_one parent places.placed born.at numbered.two born.found)) (sym (ap (λ (p : Pid). p.0) born.child_is)),
    )
absorbed_by system log e _ numbered kind right = tt

-- where pids and serials are as they are to be
pub stands_next : (system : System) (log : List Entry) (e : Entry) → Numbered (placement system log) → Stands system log e → CanBeAbsorbed (placement system log) (what e)
stands_next system log e numbered stands = absorbed_by system log e (what e) numbered stands.kind stands.by_right

pub may_be_absorbed : (system : System) (log : List Entry) (e : Entry) → is_system system ≡ true → IsLegalBy MayStand system log → Stands system log e → CanBeAbsorbed (placement system log) (what e)
may_be_absorbed system log e valid legal stands = stands_next system log e (numbered MayStand (λ _ _ _ may. may.stands) system log valid legal) stands
