-- The child that is to be synchronised first: it is the child in one of the births, and has no children in them.
use Rattle.std.proofs.Common.{◌≡◌, ◌↔◌, ℕ, zero, suc, refl, sym, ◌∙◌, ap, subst, eq-eqb, List, [], ◌∷◌, map, length, Bool, true, false, cond, ◌&&◌, ◌||◌, Option, Some, None}
use Rattle.std.specs.Prelude.{filter}
use Rattle.std.specs.List.{list_any}
use Rattle.std.specs.Option.{option_map, unwrap_or}
use Rattle.std.proofs.lemmas.Bool.{and_parts, or_parts}
use Rattle.t32_base.specs.declared.process.Pid.{Pid}
use Rattle.sys_text.specs.declared.system.System.{System}
use Rattle.sys_text.specs.Valid.{is_system}
use Rattle.bus_msg.specs.declared.entry.Entry.{Entry}
use Rattle.bus_msg.specs.Places.{same_pid}
use Rattle.birth_notice.specs.Family.{is_of, children_of, lowest, first_within, first_unsynced}
use Rattle.birth_notice.proofs.LowestLaws.{lowest-born, none-lowest}
use Rattle.birth_notice.proofs.WalkLaws.{first-childless}
use Rattle.cert_sched.specs.Schedule.{placement}
use Rattle.cert_sched.specs.Family.{is_unsynced, births_of}
use Rattle.cert_sched.specs.Kinds.{ChildrenSynced}
use Rattle.cert_sched.specs.Legal.{IsLegalBy, Stands}
use Rattle.cert_sched.proofs.CameLaws.{same_of}
use Rattle.cert_sched.proofs.FamilyLaws.{Pair, Member}
use Rattle.log_laws.specs.births.Unsynced.{unsynced_births}
use Rattle.log_laws.proofs.births.Filters.{one_passes, passes_any, kept_passes}
use Rattle.log_laws.proofs.births.FamilyKept.{asked_of_births, births_may_stand}

-- ---- in any births

-- this process is the child
abbrev pub bears : Pid → Pair → Bool
bears child b = same_pid b.1 child

-- a birth by which the process has the child
record BornBy (births : List Pair) (p child : Pid) : Type 0 where
  pub pair : Pair
  pub member : Member pair births
  pub parent_is : pair.0 ≡ p
  pub child_is : pair.1 ≡ child

lowest_is_born : (births : List Pair) (p child : Pid) → lowest (children_of births p) ≡ Some child → BornBy births p child
lowest_is_born births p child low =
    let one = one_passes (λ (b : Pair). is_of p b && same_pid b.1 child) births (lowest-born births p child low) in
    let both = and_parts (is_of p one.pair) (same_pid (one.pair).1 child) one.passes in
    record { pair = one.pair; member = one.member; parent_is = same_of (one.pair).0 p both.0; child_is = same_of (one.pair).1 child both.1 }

-- Where each birth gives the child something for what its parent has, and the child may be a parent then, the first one has it too, however far down
-- it stands.
module _ (births : List Pair) (parent_has child_has : Pid → Type 0) (gives : (b : Pair) → Member b births → parent_has b.0 → child_has b.1) (on : (p : Pid) → child_has p → parent_has p) where
  lowest_has : (p child : Pid) → lowest (children_of births p) ≡ Some child → parent_has p → child_has child
  lowest_has p child low has =
      let one = lowest_is_born births p child low in
      subst child_has one.child_is (gives one.pair one.member (subst parent_has (sym one.parent_is) has))

  pub within_has : (n : ℕ) (p child : Pid) → first_within n births p ≡ Some child → parent_has p → child_has child
  within_has zero p child found has = cc
  within_has (suc n) p child found has = by_lowest (lowest (children_of births p)) refl found (λ c below there. within_has n c child below there)
    where
      by_below : (c : Pid) → lowest (children_of births p) ≡ Some c → (o : Option Pid) → first_within n births c ≡ o → Some (unwrap_or o c) ≡ Some child → (first_within n births c ≡ Some child → parent_has c → child_has child) → child_has child
      by_below c low None is found more = let same : c ≡ child = cc in lowest_has p child (low ∙ ap Some same) has
      by_below c low (Some r) is found more = more (is ∙ found) (on c (lowest_has p c low has))

      by_lowest : (o : Option Pid) → lowest (children_of births p) ≡ o → option_map (λ c. unwrap_or (first_within n births c) c) o ≡ Some child → ((c : Pid) → first_within n births c ≡ Some child → parent_has c → child_has child) → child_has child
      by_lowest None low found more = cc
      by_lowest (Some c) low found more = by_below c low (first_within n births c) refl found (more c)

-- so it is the child in one of the births
within_is_child : (n : ℕ) (births : List Pair) (p child : Pid) → first_within n births p ≡ Some child → list_any (bears child) births ≡ true
within_is_child n births p child found =
    within_has births (λ p. Unit {0}) (λ c. list_any (bears c) births ≡ true) (λ b m has. passes_any (bears b.1) births b m (eq-eqb (b.1).0 (b.1).0 refl)) (λ p has. tt) n p child found tt

-- none is first just where there are no children
no_children : (p : Pid) (births : List Pair) → list_any (is_of p) births ≡ false → children_of births p ≡ []
no_children p [] none = refl
no_children p (b ∷ bs) none =
    let parts = or_parts (is_of p b) (list_any (is_of p) bs) none in
    ap (λ x. map (λ (c : Pair). c.1) (cond x (b ∷ filter (is_of p) bs) (filter (is_of p) bs))) parts.0 ∙ no_children p bs parts.1

no_parent : (p : Pid) (births : List Pair) → children_of births p ≡ [] → list_any (is_of p) births ≡ false
no_parent p [] none = refl
no_parent p (b ∷ bs) none = by_test (is_of p b) none (no_parent p bs)
  where
    by_test : (x : Bool) → map (λ (c : Pair). c.1) (cond x (b ∷ filter (is_of p) bs) (filter (is_of p) bs)) ≡ [] → (children_of bs p ≡ [] → list_any (is_of p) bs ≡ false) → (x || list_any (is_of p) bs) ≡ false
    by_test true none more = cc
    by_test false none more = more none

childless_first : (births : List Pair) (p : Pid) → children_of births p ≡ [] → first_unsynced births p ≡ None
childless_first [] p none = refl
childless_first (b ∷ bs) p none = ap (λ ps. option_map (λ c. unwrap_or (first_within (length bs) (b ∷ bs) c) c) (lowest ps)) none

first_childless : (births : List Pair) (p : Pid) → first_unsynced births p ≡ None → children_of births p ≡ []
first_childless [] p none = refl
first_childless (b ∷ bs) p none = by_lowest (lowest (children_of (b ∷ bs) p)) refl none
  where
    by_lowest : (o : Option Pid) → lowest (children_of (b ∷ bs) p) ≡ o → option_map (λ c. unwrap_or (first_within (length bs) (b ∷ bs) c) c) o ≡ None → children_of (b ∷ bs) p ≡ []
    by_lowest None low none = none-lowest (children_of (b ∷ bs) p) low
    by_lowest (Some c) low none = cc

-- ---- in the births of a log

module _ (system : System) (log : List Entry) where
  abbrev unsynced : Pair → Bool
  unsynced b = is_unsynced (placement system log) b.1

  -- a child in one of the births whose children never synchronised was born, and never synchronised
  pub kept_born : (child : Pid) → list_any (bears child) (unsynced_births system log) ≡ true → list_any (bears child) (births_of log) ≡ true
  kept_born child kept =
      let one = one_passes (bears child) (unsynced_births system log) kept in
      passes_any (bears child) (births_of log) one.pair (kept_passes unsynced (births_of log) one.pair one.member).0 one.passes

  pub kept_unsynced : (child : Pid) → list_any (bears child) (unsynced_births system log) ≡ true → is_unsynced (placement system log) child ≡ true
  kept_unsynced child kept =
      let one = one_passes (bears child) (unsynced_births system log) kept in
      ap (is_unsynced (placement system log)) (sym (same_of (one.pair).1 child one.passes)) ∙ (kept_passes unsynced (births_of log) one.pair one.member).1

  module _ (p child : Pid) where
    pub first_kept : first_unsynced (unsynced_births system log) p ≡ Some child → list_any (bears child) (unsynced_births system log) ≡ true
    first_kept first = within_is_child (length (unsynced_births system log)) (unsynced_births system log) p child first

    pub first_born : first_unsynced (unsynced_births system log) p ≡ Some child → list_any (bears child) (births_of log) ≡ true
    first_born first = kept_born child (first_kept first)

    pub first_is_unsynced : first_unsynced (unsynced_births system log) p ≡ Some child → is_unsynced (placement system log) child ≡ true
    first_is_unsynced first = kept_unsynced child (first_kept first)

    pub first_has_none : is_system system ≡ true → IsLegalBy Stands system log → first_unsynced (unsynced_births system log) p ≡ Some child → ChildrenSynced system log child
    first_has_none valid legal first =
        asked_of_births system log child
        ∙ no_parent child (unsynced_births system log) (first-childless (unsynced_births system log) (births_may_stand system log valid legal) p child first)

  pub none_first : (p : Pid) → (first_unsynced (unsynced_births system log) p ≡ None) ↔ ChildrenSynced system log p
  none_first p = (
    (λ none. asked_of_births system log p ∙ no_parent p (unsynced_births system log) (first_childless (unsynced_births system log) p none)),
    (λ synced. childless_first (unsynced_births system log) p (no_children p (unsynced_births system log) (sym (asked_of_births system log p) ∙ synced))),
  )
