-- The pids after a log: those at boot, and those of the children that the log bears.
use Rattle.std.proofs.Common.{◌≡◌, ℕ, refl, sym, ◌∙◌, ap, List, [], ◌∷◌, ◌++◌, map, true, append-nil, append_assoc, Option, Some, None, is_some}
use Rattle.std.proofs.lemmas.List.{map-append}
use Rattle.std.proofs.lemmas.Grind.{flat_map-append}
use Rattle.t32_base.specs.declared.process.Pid.{Pid}
use Rattle.sys_text.specs.declared.system.System.{System}
use Rattle.bus_msg.specs.declared.entry.What.{What}
use Rattle.bus_msg.specs.declared.entry.What.TheVariants.{Birth}
use Rattle.bus_msg.specs.declared.entry.Entry.{Entry}
use Rattle.bus_msg.specs.declared.placed.Placed.{Placed}
use Rattle.bus_msg.specs.Places.{Places, placed_at}
use Rattle.bus_msg.specs.PlacedAfter.{what, placed_after, with_birth, child_of}
use Rattle.cert_sched.specs.Schedule.{placement, places_at_boot}
use Rattle.cert_sched.specs.Family.{born, births_of}
use Rattle.cert_sched.specs.Kinds.{KindHolds}
use Rattle.cert_sched.specs.Legal.{Stands}
use Rattle.cert_sched.proofs.LogLaws.{placement-snoc}
use Rattle.cert_sched.proofs.PidLaws.{placed_pids}
use Rattle.cert_sched.proofs.BirthPlaces.{parent_unended, unended_placed}
use Rattle.cert_sched.proofs.FreshLaws.{same_pids}

-- the children of births, as numbers
abbrev child_pids : List (Pid × Pid) → List ℕ
child_pids bs = map (λ (b : Pid × Pid). (b.1).0) bs

pub births_of-snoc : (log : List Entry) (e : Entry) → births_of (log ++ e ∷ []) ≡ births_of log ++ born (what e)
births_of-snoc log e = flat_map-append (λ (e : Entry). born (what e)) log (e ∷ []) ∙ ap (λ bs. births_of log ++ bs) (append-nil (born (what e)))

-- ---- in the placement

with_child : (places : Places) (child : Pid) (o : Option Placed) → is_some o ≡ true → placed_pids (with_birth places child o).placed ≡ placed_pids places.placed ++ child.0 ∷ []
with_child places child None there = cc
with_child places child (Some q) there = map-append (λ (q : Placed). (q.pid).0) places.placed (child_of q child ∷ [])

module _ (system : System) (log : List Entry) (e : Entry) where
  pids_after : (w : What) → KindHolds system log e w → placed_pids (placed_after (placement system log) w).placed ≡ placed_pids (placement system log).placed ++ child_pids (born w)
  pids_after (Birth parent at child end) kind =
      with_child (placement system log) child (placed_at (placement system log) parent) (unended_placed parent (placement system log).placed (parent_unended (placement system log) parent child kind.child_is))
  pids_after w kind = same_pids w refl (placement system log) ∙ sym (append-nil (placed_pids (placement system log).placed))

  pids_more : Stands system log e → placed_pids (placement system log).placed ≡ placed_pids (places_at_boot system).placed ++ child_pids (births_of log)
      → placed_pids (placement system (log ++ e ∷ [])).placed ≡ placed_pids (places_at_boot system).placed ++ child_pids (births_of (log ++ e ∷ []))
  pids_more stands before =
      ap (λ (p : Places). placed_pids p.placed) (placement-snoc system log e) ∙ pids_after (what e) stands.kind
      ∙ ap (λ ns. ns ++ child_pids (born (what e))) before
      ∙ append_assoc (placed_pids (places_at_boot system).placed) (child_pids (births_of log)) (child_pids (born (what e)))
      ∙ ap (λ ns. placed_pids (places_at_boot system).placed ++ ns) (sym (ap child_pids (births_of-snoc log e) ∙ map-append (λ (b : Pid × Pid). (b.1).0) (births_of log) (born (what e))))
