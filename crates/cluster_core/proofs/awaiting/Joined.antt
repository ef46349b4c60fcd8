-- The family of a process among the births whose child never synchronised is its family that never synchronised.
use Rattle.std.proofs.Common.{◌≡◌, refl, ◌∙◌, sym, ap, List, [], ◌∷◌, ◌++◌, Bool, true, false, cond, ◌&&◌}
use Rattle.std.specs.Prelude.{filter, fold}
use Rattle.std.specs.List.{list_any}
use Rattle.t32_base.specs.declared.process.Pid.{Pid}
use Rattle.t32_base.proofs.Facts.{and_false, and_true}
use Rattle.sys_text.specs.declared.system.System.{System}
use Rattle.bus_msg.specs.declared.entry.Entry.{Entry}
use Rattle.bus_msg.specs.Places.{Places, same_pid}
use Rattle.cert_sched.specs.Schedule.{placement}
use Rattle.cert_sched.specs.Family.{births_of, is_unsynced, joins, unsynced_family}
use Rattle.log_laws.specs.births.Unsynced.{unsynced_births}
use Rattle.birth_notice.specs.Joined.{family_of, joins_with}

-- whoever joins by the one joins by the other
joined_from : (places : Places) (family : List Pid) (births : List (Pid × Pid)) → fold joins_with family (filter (λ (b : Pid × Pid). is_unsynced places b.1) births) ≡ fold (joins places) family births
joined_from places family [] = refl
joined_from places family (b ∷ births) = by_test (is_unsynced places b.1) (joined_from places (joins_with family b) births) (joined_from places family births)
  where
    by_test : (u : Bool)
        → fold joins_with (joins_with family b) (filter (λ (b : Pid × Pid). is_unsynced places b.1) births) ≡ fold (joins places) (joins_with family b) births
        → fold joins_with family (filter (λ (b : Pid × Pid). is_unsynced places b.1) births) ≡ fold (joins places) family births
        → fold joins_with family (cond u (b ∷ filter (λ (b : Pid × Pid). is_unsynced places b.1) births) (filter (λ (b : Pid × Pid). is_unsynced places b.1) births))
        ≡ fold (joins places) (cond (list_any (same_pid b.0) family && u) (family ++ b.1 ∷ []) family) births
    by_test true with_it without = with_it ∙ ap (λ x. fold (joins places) (cond x (family ++ b.1 ∷ []) family) births) (sym (and_true (list_any (same_pid b.0) family)))
    by_test false with_it without = without ∙ ap (λ x. fold (joins places) (cond x (family ++ b.1 ∷ []) family) births) (sym (and_false (list_any (same_pid b.0) family)))

pub joined : (system : System) (log : List Entry) (p : Pid) → family_of (unsynced_births system log) p ≡ unsynced_family system log p
joined system log p = joined_from (placement system log) (p ∷ []) (births_of log)
