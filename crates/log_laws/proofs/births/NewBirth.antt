-- A birth that stands next puts its child behind the births of children that never synchronised, and the child is new there.
use Rattle.std.proofs.Common.{◌≡◌, ℕ, sym, ◌∙◌, ap, subst, List, [], ◌∷◌, ◌++◌, Bool, true, false, cond, ◌||◌, is_some}
use Rattle.std.specs.List.{list_any}
use Rattle.std.proofs.lemmas.List.Elements.{filter-append}
use Rattle.t32_base.specs.declared.process.Pid.{Pid}
use Rattle.sys_text.specs.declared.system.System.{System}
use Rattle.sys_text.specs.Valid.{is_system}
use Rattle.bus_msg.specs.declared.entry.What.TheVariants.{Birth}
use Rattle.bus_msg.specs.declared.entry.Entry.{Entry}
use Rattle.bus_msg.specs.Places.{same_pid}
use Rattle.bus_msg.specs.PlacedAfter.{what, placed_after}
use Rattle.birth_notice.specs.Family.{stands_in}
use Rattle.cert_sched.specs.Schedule.{placement}
use Rattle.cert_sched.specs.Family.{is_unsynced, births_of}
use Rattle.cert_sched.specs.Rules.{is_by_right}
use Rattle.cert_sched.specs.Kinds.{KindHolds, BirthHolds}
use Rattle.cert_sched.specs.Legal.{IsLegalBy, Stands}
use Rattle.cert_sched.proofs.LogLaws.{placement-snoc}
use Rattle.cert_sched.proofs.ThereLaws.{found_among}
use Rattle.cert_sched.proofs.FreshLaws.{BornRightly, born_rightly, child_new}
use Rattle.cert_sched.proofs.FamilyLaws.{Pair, Member, In, Families, families, not_in, found_born, found_child}
use Rattle.log_laws.specs.births.Unsynced.{unsynced_births}
use Rattle.log_laws.proofs.births.Filters.{filter_alike, none_kept}
use Rattle.log_laws.proofs.births.OtherEntries.{never_synced, births_after}

module _ (system : System) (log : List Entry) (e : Entry) (parent : Pid) (at : ℕ) (child : Pid) (end : ℕ) (valid : is_system system ≡ true) (legal : IsLegalBy Stands system log) (stands : Stands system log e) (is : what e ≡ Birth parent at child end) where
  all : Families system log
  all = families Stands (λ system log e stands. stands) system log valid legal

  rightly : BornRightly (placement system log) parent child
  rightly =
      let kind : BirthHolds system log parent at child end = subst (KindHolds system log e) is stands.kind in
      born_rightly (placement system log) (e.post).by parent child (subst (λ w. is_by_right (placement system log) (e.post).by w ≡ true) is stands.by_right) kind.child_is

  child_is_new : (p : Pid) → In p.0 (placement system log) → same_pid child p ≡ false
  child_is_new p there = not_in p.0 child (placement system log) (child_new (placement system log) parent child all.numbered rightly) there

  pub child_apart : same_pid child parent ≡ false
  child_apart = child_is_new parent (found_among parent (placement system log).placed (ap is_some rightly.found))

  pub stands_in_none : list_any (stands_in child) (unsynced_births system log) ≡ false
  stands_in_none =
      none_kept (stands_in child) (λ b. is_unsynced (placement system log) b.1) (births_of log)
      (λ b m. let there = all.pairs_in b m in λ i. child_is_new b.0 there.0 i || child_is_new b.1 there.1 i)

  after : placement system (log ++ e ∷ []) ≡ placed_after (placement system log) (Birth parent at child end)
  after = placement-snoc system log e ∙ ap (placed_after (placement system log)) is

  abbrev still : Pair → Bool
  still b = is_unsynced (placed_after (placement system log) (Birth parent at child end)) b.1

  -- whoever was born before is as it was
  as_before : (b : Pair) → Member b (births_of log) → still b ≡ is_unsynced (placement system log) b.1
  as_before b m =
      ap (λ places. is_unsynced places b.1) (sym after)
      ∙ ap never_synced (found_born system log e stands all parent at child end is rightly b.1 (child_is_new b.1 (all.pairs_in b m).1))

  -- and the child never synchronised
  child_unsynced : still (parent, child) ≡ true
  child_unsynced = ap (λ places. is_unsynced places child) (sym after) ∙ ap never_synced (found_child system log e stands all parent at child end is rightly)

  pub birth_last : unsynced_births system (log ++ e ∷ []) ≡ unsynced_births system log ++ (parent, child) ∷ []
  birth_last =
      births_after system log e (Birth parent at child end) is
      ∙ filter-append still (births_of log) ((parent, child) ∷ [])
      ∙ (λ i. filter_alike still (λ b. is_unsynced (placement system log) b.1) (births_of log) as_before i ++ cond (child_unsynced i) ((parent, child) ∷ []) [])
