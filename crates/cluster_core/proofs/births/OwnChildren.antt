-- Which child comes before a process that is here is told by the births that concern the cluster as by all.
use Rattle.std.proofs.Common.{◌≡◌, ℕ, zero, suc, ◌≤◌, ◌<◌, refl, sym, ◌∙◌, ap, arith, List, map, length, Bool, true, false, ◌&&◌, ◌||◌, eqb-true, eq-eqb, Option, Some, None, true≢false}
use Rattle.std.specs.Prelude.{filter, option_map}
use Rattle.std.specs.Option.{option_map_or, unwrap_or}
use Rattle.t32_base.specs.declared.process.Pid.{Pid}
use Rattle.t32_base.specs.declared.process.ClusterNo.{ClusterNo}
use Rattle.t32_base.proofs.Facts.{same_pid_of}
use Rattle.sys_text.specs.Valid.{is_system}
use Rattle.bus_msg.specs.declared.entry.Entry.{Entry}
use Rattle.bus_msg.specs.declared.placed.Placed.{Placed}
use Rattle.bus_msg.specs.Places.{Places, is_cluster, same_cluster, same_pid, unended_at}
use Rattle.cert_sched.specs.Legal.{MayStand}
use Rattle.cert_sched.specs.Legal.{IsLegalBy, Stands}
use Rattle.cert_sched.specs.Rules.{home_at}
use Rattle.cert_sched.specs.Schedule.{placement}
use Rattle.cert_sched.proofs.FamilyLaws.{Pair, Member}
use Rattle.log_laws.proofs.records.Standing.{all_stand}
use Rattle.birth_notice.specs.Family.{are_births, children_of, first_unsynced, is_of, lowest}
use Rattle.birth_notice.proofs.BirthLaws.{births_kept}
use Rattle.birth_notice.proofs.LowestLaws.{lowest-born}
use Rattle.birth_notice.proofs.WalkLaws.{down, first-none, first-some, left, left-most}
use Rattle.log_laws.specs.births.Unsynced.{unsynced_births}
use Rattle.log_laws.proofs.births.FamilyKept.{births_may_stand}
use Rattle.log_laws.proofs.births.Filters.{filter_alike, filter_both, one_passes, passes_any}
use Rattle.log_laws.proofs.births.UnsyncedChild.{lives_with_parent}
use Rattle.cluster_core.specs.Follows.{IsOpen}
use Rattle.cluster_core.specs.Hearing.{FollowsHeard, concerns}
use Rattle.residents.specs.Residents.{pids_in}
use Rattle.cluster_core.specs.View.{ClusterView, held_at}
use Rattle.residents.specs.Held.{Held}
use Rattle.cluster_core.proofs.here.Here.{is_among}
use Rattle.cluster_core.proofs.losses.Homes.{HomeHere, pids_apart, home_here}

-- ---- births of which some are kept

-- where each birth of a kept parent is kept and its child is a kept parent, who comes first before such a parent stays
module _ (births : List Pair) (t : Pair → Bool) (at : Pid → Bool) (ok : are_births births ≡ true) (stays : (b : Pair) → Member b births → at b.0 ≡ true → (t b ≡ true) × (at b.1 ≡ true)) where
  children_same : (p : Pid) → at p ≡ true → children_of (filter t births) p ≡ children_of births p
  children_same p here =
      ap (map (λ (b : Pair). b.1))
      (sym (filter_both (λ (b : Pair). t b && is_of p b) t (is_of p) (λ b. refl) births) ∙ filter_alike (λ (b : Pair). t b && is_of p b) (is_of p) births (λ b m. by_test b m (is_of p b) refl))
    where
      by_test : (b : Pair) → Member b births → (x : Bool) → is_of p b ≡ x → (t b && is_of p b) ≡ is_of p b
      by_test b m true is =
          let parent : b.0 ≡ p = same_pid_of b.0 p (eqb-true (b.0).0 p.0 is) in
          ap (λ y. y && is_of p b) (stays b m (ap at parent ∙ here)).0
      by_test b m false is = (λ i. t b && is i) ∙ and_false (t b) ∙ sym is
        where
          and_false : (y : Bool) → (y && false) ≡ false
          and_false true = refl
          and_false false = refl

  child_at : (p c : Pid) → at p ≡ true → lowest (children_of births p) ≡ Some c → at c ≡ true
  child_at p c here low =
      let one = one_passes (λ (b : Pair). is_of p b && same_pid b.1 c) births (lowest-born births p c low) in
      let both = halves (is_of p one.pair) (same_pid (one.pair).1 c) one.passes in
      ap at (sym (same_pid_of (one.pair).1 c (eqb-true ((one.pair).1).0 c.0 both.1))) ∙ (stays one.pair one.member (ap at (same_pid_of (one.pair).0 p (eqb-true ((one.pair).0).0 p.0 both.0)) ∙ here)).1
    where
      halves : (x y : Bool) → (x && y) ≡ true → (x ≡ true) × (y ≡ true)
      halves true y is = (refl, is)
      halves false y is = absurd (true≢false (sym is))

  abbrev IsSame : Pid → Type 0
  IsSame p = first_unsynced (filter t births) p ≡ first_unsynced births p

  one_down : (p : Pid) → at p ≡ true → ((c : Pid) → left births c < left births p → at c ≡ true → IsSame c) → IsSame p
  one_down p here more = by_lowest (lowest (children_of births p)) refl
    where
      by_lowest : (o : Option Pid) → lowest (children_of births p) ≡ o → IsSame p
      by_lowest None low = first-none (filter t births) (births_kept t births ok) p (ap lowest (children_same p here) ∙ low) ∙ sym (first-none births ok p low)
      by_lowest (Some c) low =
          first-some (filter t births) (births_kept t births ok) p c (ap lowest (children_same p here) ∙ low)
          ∙ ap (λ o. Some (unwrap_or o c)) (more c (down births ok p c low) (child_at p c here low)) ∙ sym (first-some births ok p c low)

  within_same : (n : ℕ) (p : Pid) → left births p ≤ n → at p ≡ true → IsSame p
  within_same zero p within here = one_down p here (λ c less at_c. absurd (omega (arith, within, less)))
  within_same (suc n) p within here = one_down p here (λ c less at_c. within_same n c (omega (arith, within, less)) at_c)

  pub first_same : (p : Pid) → at p ≡ true → IsSame p
  first_same p here = within_same (length births) p (left-most births p) here

-- ---- those that concern the cluster

-- a process is at home in a cluster
abbrev is_home : Places → ClusterNo → Pid → Bool
is_home places k p = option_map_or (λ h. same_cluster h k) (home_at places p) false

home_concerns : (places : Places) (k : ClusterNo) (b : Pair) → is_home places k b.1 ≡ true → concerns places k b ≡ true
home_concerns places k b = by_found (unended_at places b.1)
  where
    by_found : (o : Option Placed) → option_map_or (λ h. same_cluster h k) (option_map (λ (q : Placed). q.home) o) false ≡ true
        → option_map_or (λ (q : Placed). same_cluster q.home k || is_cluster q.backup k) o false ≡ true
    by_found None home = absurd (true≢false (sym home))
    by_found (Some q) home = ap (λ x. x || is_cluster q.backup k) home

pub own_first : (c : ClusterView) (log : List Entry) (p : Pid) (h : Held) → is_system c.system ≡ true → IsOpen MayStand c.system log → FollowsHeard c.system log c → held_at c p ≡ Some h
    → first_unsynced c.family p ≡ first_unsynced (unsynced_births c.system log) p
own_first c log p h valid now f there =
    ap (λ bs. first_unsynced bs p) f.family
    ∙ first_same (unsynced_births c.system log) (concerns places k) (is_home places k) (births_may_stand c.system log valid stands) (λ b m home. let at_child = child_home b m home in
    (home_concerns places k b at_child, at_child)) p
    (ap (λ o. option_map_or (λ j. same_cluster j k) (option_map (λ (q : Placed). q.home) o) false) home.found ∙ home.home)
  where
    places : Places
    places = placement c.system log

    k : ClusterNo
    k = c.number

    stands : IsLegalBy Stands c.system log
    stands = all_stand c.system log now.0

    home : HomeHere places p k
    home = home_here places k (pids_in c.here) p (pids_apart c.system log valid now.0) (f.processes).each_once (is_among c.here p h there)

    -- a child that never synchronised lives with its parent
    child_home : (b : Pair) → Member b (unsynced_births c.system log) → is_home places k b.0 ≡ true → is_home places k b.1 ≡ true
    child_home b m home =
        let itself = λ (q : Pid). eq-eqb q.0 q.0 refl in
        ap (λ o. option_map_or (λ j. same_cluster j k) o false)
        (lives_with_parent c.system log b.0 b.1 valid stands
        (passes_any (λ (x : Pair). same_pid x.0 b.0 && same_pid x.1 b.1) (unsynced_births c.system log) b m (λ i. itself b.0 i && itself b.1 i)))
        ∙ home
