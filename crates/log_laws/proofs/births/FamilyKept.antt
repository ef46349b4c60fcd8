-- The births of children that never synchronised may stand in a list of births, and answer who has such a child.
use Rattle.std.proofs.Common.{◌≡◌, refl, List, [], ◌∷◌, true, false, not, ◌&&◌, ◌||◌}
use Rattle.std.specs.List.{list_any}
use Rattle.std.proofs.lemmas.Bool.{or_parts}
use Rattle.t32_base.specs.declared.process.Pid.{Pid}
use Rattle.sys_text.specs.declared.system.System.{System}
use Rattle.sys_text.specs.Valid.{is_system}
use Rattle.bus_msg.specs.declared.entry.Entry.{Entry}
use Rattle.bus_msg.specs.Places.{same_pid}
use Rattle.birth_notice.specs.Family.{stands_in, are_births, is_of}
use Rattle.birth_notice.proofs.BirthLaws.{births_kept}
use Rattle.cert_sched.specs.Schedule.{placement}
use Rattle.cert_sched.specs.Family.{is_unsynced, births_of, has_unsynced_child}
use Rattle.cert_sched.specs.Legal.{IsLegalBy, Stands}
use Rattle.cert_sched.proofs.FamilyLaws.{Pair, Ordered, families}
use Rattle.log_laws.specs.births.Unsynced.{unsynced_births}
use Rattle.log_laws.proofs.births.Filters.{any_kept}

pub asked_of_births : (system : System) (log : List Entry) (p : Pid) → has_unsynced_child system log p ≡ list_any (is_of p) (unsynced_births system log)
asked_of_births system log p = any_kept (is_of p) (λ b. is_unsynced (placement system log) b.1) (births_of log)

-- where no later child is the parent, and none is the child, none stands in this birth
none_stands : (b : Pair) (bs : List Pair) → list_any (λ (c : Pair). same_pid c.1 b.0) bs ≡ false → list_any (λ (c : Pair). same_pid c.1 b.1) bs ≡ false → list_any (λ (c : Pair). stands_in c.1 b) bs ≡ false
none_stands b [] parent child = refl
none_stands b (c ∷ bs) parent child =
    let parents = or_parts (same_pid c.1 b.0) (list_any (λ (c : Pair). same_pid c.1 b.0) bs) parent in
    let children = or_parts (same_pid c.1 b.1) (list_any (λ (c : Pair). same_pid c.1 b.1) bs) child in
    let more = none_stands b bs parents.1 children.1 in
    λ i. (parents.0 i || children.0 i) || more i

ordered_births : (bs : List Pair) → Ordered bs → are_births bs ≡ true
ordered_births [] ordered = refl
ordered_births (b ∷ bs) ordered =
    let none = none_stands b bs ordered.0 ordered.1 in
    let more = ordered_births bs ordered.2 in
    λ i. not (ordered.3 i) && not (none i) && more i

pub births_may_stand : (system : System) (log : List Entry) → is_system system ≡ true → IsLegalBy Stands system log → are_births (unsynced_births system log) ≡ true
births_may_stand system log valid legal =
    births_kept (λ b. is_unsynced (placement system log) b.1) (births_of log) (ordered_births (births_of log) (families Stands (λ system log e stands. stands) system log valid legal).ordered)
