-- A child that never synchronised has no state in its record, and lives with its parent.
use Rattle.std.proofs.Common.{◌≡◌, sym, ◌∙◌, ap, refl, List, length, Bool, true, false, ◌&&◌, ◌||◌, Some, is_some, option_map}
use Rattle.std.specs.List.{list_any}
use Rattle.std.proofs.lemmas.Bool.{and_parts}
use Rattle.t32_base.specs.declared.process.Pid.{Pid}
use Rattle.sys_text.specs.declared.system.System.{System}
use Rattle.sys_text.specs.Valid.{is_system}
use Rattle.bus_msg.specs.declared.entry.Entry.{Entry}
use Rattle.bus_msg.specs.declared.placed.Placed.{Placed}
use Rattle.bus_msg.specs.Places.{same_pid, unended_at}
use Rattle.birth_notice.specs.Family.{first_unsynced}
use Rattle.cert_sched.specs.Schedule.{placement}
use Rattle.cert_sched.specs.Family.{is_unsynced, births_of}
use Rattle.cert_sched.specs.Record.{has_state}
use Rattle.cert_sched.specs.Rules.{home_at}
use Rattle.cert_sched.specs.Legal.{IsLegalBy, Stands}
use Rattle.cert_sched.proofs.CameLaws.{same_of}
use Rattle.cert_sched.proofs.FamilyLaws.{Pair, Member, Together, Families, families}
use Rattle.log_laws.specs.births.Unsynced.{unsynced_births}
use Rattle.log_laws.proofs.births.Filters.{one_passes, kept_passes}
use Rattle.log_laws.proofs.births.FirstChild.{bears, within_has}

module _ (system : System) (log : List Entry) where
  -- one of the births whose children never synchronised
  kept : (b : Pair) → Member b (unsynced_births system log) → Member b (births_of log) × (is_unsynced (placement system log) b.1 ≡ true)
  kept b m = kept_passes (λ b. is_unsynced (placement system log) b.1) (births_of log) b m

  module _ (valid : is_system system ≡ true) (legal : IsLegalBy Stands system log) where
    all : Families system log
    all = families Stands (λ system log e stands. stands) system log valid legal

    -- its child is no root, and was never cut
    uncut : (b : Pair) → Member b (unsynced_births system log) → has_state system log b.1 ≡ false
    uncut b m = let there = kept b m in λ i. all.no_roots b there.0 i || all.uncut b.1 there.1 i

    -- it lives with its parent, which has not ended
    together : (b : Pair) → Member b (unsynced_births system log) → Together (placement system log) b
    together b m = let there = kept b m in all.together b there.0 there.1

    one_home : (b : Pair) → Member b (unsynced_births system log) → home_at (placement system log) b.1 ≡ home_at (placement system log) b.0
    one_home b m =
        let t = together b m in
        ap (option_map (λ (q : Placed). q.home)) t.child_at ∙ ap Some (sym t.home) ∙ sym (ap (option_map (λ (q : Placed). q.home)) t.parent_at)

  pub stateless : (child : Pid) → is_system system ≡ true → IsLegalBy Stands system log → list_any (bears child) (unsynced_births system log) ≡ true → has_state system log child ≡ false
  stateless child valid legal is =
      let one = one_passes (bears child) (unsynced_births system log) is in
      ap (has_state system log) (sym (same_of (one.pair).1 child one.passes)) ∙ uncut valid legal one.pair one.member

  -- this process is the parent, and this one the child
  abbrev bears_by : Pid → Pid → Pair → Bool
  bears_by parent child b = same_pid b.0 parent && same_pid b.1 child

  module _ (parent child : Pid) where
    pub lives_with_parent : is_system system ≡ true → IsLegalBy Stands system log → list_any (bears_by parent child) (unsynced_births system log) ≡ true → home_at (placement system log) child ≡ home_at (placement system log) parent
    lives_with_parent valid legal is =
        let one = one_passes (bears_by parent child) (unsynced_births system log) is in
        let both = and_parts (same_pid (one.pair).0 parent) (same_pid (one.pair).1 child) one.passes in
        ap (home_at (placement system log)) (sym (same_of (one.pair).1 child both.1)) ∙ one_home valid legal one.pair one.member ∙ ap (home_at (placement system log)) (same_of (one.pair).0 parent both.0)

    pub parent_unended : is_system system ≡ true → IsLegalBy Stands system log → list_any (bears_by parent child) (unsynced_births system log) ≡ true → is_some (unended_at (placement system log) parent) ≡ true
    parent_unended valid legal is =
        let one = one_passes (bears_by parent child) (unsynced_births system log) is in
        let both = and_parts (same_pid (one.pair).0 parent) (same_pid (one.pair).1 child) one.passes in
        ap (λ p. is_some (unended_at (placement system log) p)) (sym (same_of (one.pair).0 parent both.0)) ∙ ap is_some (together valid legal one.pair one.member).parent_at

  -- a process has the home of this one
  abbrev LivesWith : Pid → Pid → Type 0
  LivesWith p q = home_at (placement system log) q ≡ home_at (placement system log) p

  -- and so does the first one, from child to child
  pub first_lives_there : (p child : Pid) → is_system system ≡ true → IsLegalBy Stands system log → first_unsynced (unsynced_births system log) p ≡ Some child → home_at (placement system log) child ≡ home_at (placement system log) p
  first_lives_there p child valid legal first =
      within_has (unsynced_births system log) (LivesWith p) (LivesWith p) (λ b m has. one_home valid legal b m ∙ has) (λ q has. has) (length (unsynced_births system log)) p child first refl
