-- A child that never synchronised waits for a new backup only where its parent does: they were moved by one crash, and each new backup that names the parent since names the child.
use Rattle.std.proofs.Common.{◌≡◌, ℕ, refl, sym, ◌∙◌, ap, subst, inl, inr, ◌⊎◌, List, [], ◌∷◌, ◌++◌, Bool, true, false, not, ◌&&◌, ◌||◌, eqb-true, eq-eqb, Option, Some, None, is_some, true≢false}
use Rattle.std.specs.Prelude.{option_map}
use Rattle.std.specs.List.{list_all}
use Rattle.std.specs.Option.{option_map_or}
use Rattle.std.proofs.lemmas.Bool.{and_from, and_parts, or_left, or_right, or_cases}
use Rattle.t32_base.specs.declared.process.Pid.{Pid}
use Rattle.t32_base.specs.declared.process.ClusterNo.{ClusterNo}
use Rattle.t32_base.proofs.Facts.{and_false}
use Rattle.sys_text.specs.declared.system.System.{System}
use Rattle.sys_text.specs.Valid.{is_system}
use Rattle.bus_msg.specs.declared.entry.What.{What}
use Rattle.bus_msg.specs.declared.entry.What.TheVariants.{Birth, Rebackup}
use Rattle.bus_msg.specs.declared.entry.Entry.{Entry}
use Rattle.bus_msg.specs.declared.placed.Placed.{Placed}
use Rattle.bus_msg.specs.Places.{Places, same_pid, same_cluster, lives_in, all_clusters, unended_at, is_moved_by}
use Rattle.bus_msg.specs.PlacedAfter.{what}
use Rattle.cert_sched.specs.Schedule.{placement}
use Rattle.cert_sched.specs.Told.{cluster_lost, is_moved}
use Rattle.cert_sched.specs.Moved.{names, was_moved}
use Rattle.cert_sched.specs.Family.{is_unsynced, born, births_of, unsynced_family}
use Rattle.cert_sched.specs.Rules.{has_awaited_backup, is_alone, is_by_right, is_full}
use Rattle.cert_sched.specs.Kinds.{KindHolds}
use Rattle.cert_sched.specs.Legal.{IsLegalBy, Stands}
use Rattle.cert_sched.specs.Simulation.{bears}
use Rattle.cert_sched.proofs.LogLaws.{IsLegal-snoc, placement-snoc}
use Rattle.cert_sched.proofs.Induction.{legal_induction}
use Rattle.cert_sched.proofs.ThereLaws.{found_among}
use Rattle.cert_sched.proofs.UnendedLaws.{unended_open_at}
use Rattle.cert_sched.proofs.UnplacedLaws.{never_moved}
use Rattle.cert_sched.proofs.FreshLaws.{BornRightly, born_rightly, child_new}
use Rattle.cert_sched.proofs.FamilyLaws.{Pair, Member, none_of, among, In, not_in, Families, Together, families_at_boot, families_more, births_more, child_joins, found_born, found_child, fresh_named, standing_named}
use Rattle.cert_sched.proofs.ChildLaws.{member_either, no_birth_of, one_passes, unsynced_by}
use Rattle.log_laws.specs.pages.Next.{moves_next}
use Rattle.backup_laws.proofs.Since.{awaited_in, awaited_is, awaited-moved, awaited-on, full_mode, is_full_at, mode_at, was_moved-snoc}
use Rattle.backup_laws.proofs.Modes.{mode_stays, moved_is}
use Rattle.checkpoint_laws.proofs.marks.BegunMarks.{none_legal}

-- ---- a parent and its child

-- who is placed with another is alone where that is
alone_same : (places : Places) (b : Pair) → Together places b → is_alone b.0 places ≡ is_alone b.1 places
alone_same places b t =
    ap (λ o. option_map_or (λ (q : Placed). list_all (λ k. same_cluster k q.home || not (lives_in places k)) (all_clusters places)) o false) t.parent_at
    ∙ ap (λ (home : ClusterNo). list_all (λ k. same_cluster k home || not (lives_in places k)) (all_clusters places)) t.home
    ∙ ap (λ o. option_map_or (λ (q : Placed). list_all (λ k. same_cluster k q.home || not (lives_in places k)) (all_clusters places)) o false) (sym t.child_at)

-- and moved where that is
moved_same : (system : System) (log : List Entry) (e : Entry) → Families system log → (b : Pair) → Together (placement system log) b → moves_next system log e b.0 ≡ moves_next system log e b.1
moved_same system log e all b t = by_loss (cluster_lost (what e))
  where
    here : Places
    here = placement system log

    both : (k : ClusterNo) → is_moved_by k t.parent ≡ is_moved_by k t.child
    both k =
        let parent_open = unended_open_at here b.0 t.parent t.parent_at in
        let child_open = unended_open_at here b.1 t.child t.child_at in
        λ i. (same_cluster (t.home i) k && not ((parent_open ∙ sym child_open) i)) && is_some (t.backup i)

    by_loss : (o : Option ClusterNo) → option_map_or (is_moved b.0 here) o false ≡ option_map_or (is_moved b.1 here) o false
    by_loss None = refl
    by_loss (Some k) = moved_is here b.0 k t.parent (all.numbered).two t.parent_at ∙ both k ∙ sym (moved_is here b.1 k t.child (all.numbered).two t.child_at)

-- and named where that is
names_child : (system : System) (log : List Entry) (e : Entry) → Families system log → (b : Pair) → Member b (births_of log) → is_unsynced (placement system log) b.1 ≡ true
    → Together (placement system log) b
    → (w : What) → KindHolds system log e w → names b.0 w ≡ true → names b.1 w ≡ true
names_child system log e all b m h t (Rebackup to true []) kind named = absurd kind
names_child system log e all b m h t (Rebackup to false []) kind named = absurd kind
names_child system log e all b m h t (Rebackup to true (r ∷ rs)) kind named =
    let same : same_pid r.pid b.0 ≡ true = sym (fresh_named system log e r rs to kind (record (t.parent) { pid = b.0 })) ∙ named in
    absurd (true≢false (sym (and_from (same_pid b.0 r.pid) (is_unsynced (placement system log) b.1) (eq-eqb (b.0).0 (r.pid).0 (sym (eqb-true (r.pid).0 (b.0).0 same))) h)
    ∙ none_of (λ (c : Pair). same_pid c.0 r.pid && is_unsynced (placement system log) c.1) (births_of log) kind.children b m))
names_child system log e all b m h t (Rebackup to false (r ∷ rs)) kind named =
    let there : among b.0 (unsynced_family system log r.pid) ≡ true = sym (standing_named system log r.pid to (r ∷ rs) kind (record (t.parent) { pid = b.0 })) ∙ named in
    standing_named system log r.pid to (r ∷ rs) kind (record (t.child) { pid = b.1 })
    ∙ child_joins (placement system log) (births_of log) (r.pid ∷ []) b all.ordered m h there
names_child system log e all b m h t w kind named = absurd (true≢false (sym named))

-- ---- what stays in a legal log

-- the child was never moved, or the parent was too, and has its new backup only where the child has
abbrev pub WaitsWith : System → List Entry → Pair → Type 0
WaitsWith system log b = (was_moved system log b.1 ≡ false) ⊎ ((was_moved system log b.0 ≡ true) × (awaited_in system log b.0 ≡ true → awaited_in system log b.1 ≡ true))

record AllWait (system : System) (log : List Entry) : Type 0 where
  pub all : Families system log
  pub legal : IsLegalBy Stands system log
  pub modes : (b : Pair) → Member b (births_of log) → is_unsynced (placement system log) b.1 ≡ true → mode_at (placement system log) b.0 ≡ mode_at (placement system log) b.1
  pub waits : (b : Pair) → Member b (births_of log) → is_unsynced (placement system log) b.1 ≡ true → WaitsWith system log b

module _ (system : System) (log : List Entry) (e : Entry) (stands : Stands system log e) (before : AllWait system log) where
  abbrev here : Places
  here = placement system log

  abbrev after : Places
  after = placement system (log ++ e ∷ [])

  next : Families system (log ++ e ∷ [])
  next = families_more system log e stands before.all

  unsynced_here : (b : Pair) → Member b (births_of log) → is_unsynced after b.1 ≡ true → is_unsynced here b.1 ≡ true
  unsynced_here b m h =
      unsynced_by system log e stands before.all (what e) refl stands.kind stands.by_right b.1 ((before.all).pairs_in b m).1 (sym (ap (λ places. is_unsynced places b.1) (placement-snoc system log e))
      ∙ h)

  old_mode : (b : Pair) → Member b (births_of log) → (p : Pid) → In p.0 here → is_some (unended_at after p) ≡ true → mode_at after p ≡ mode_at here p
  old_mode b m p placed there =
      ap (λ places. mode_at places p) (placement-snoc system log e)
      ∙ mode_stays (what e) here p (no_birth_of system log e stands before.all (what e) stands.kind stands.by_right p placed)
      (ap (λ places. is_some (unended_at places p)) (sym (placement-snoc system log e)) ∙ there)

  old_modes : (b : Pair) → Member b (births_of log) → is_unsynced after b.1 ≡ true → Together after b → mode_at after b.0 ≡ mode_at after b.1
  old_modes b m h t =
      let placed = (before.all).pairs_in b m in
      old_mode b m b.0 placed.0 (ap is_some t.parent_at) ∙ before.modes b m (unsynced_here b m h) ∙ sym (old_mode b m b.1 placed.1 (ap is_some t.child_at))

  old_waits : (b : Pair) → Member b (births_of log) → is_unsynced after b.1 ≡ true → Together after b → WaitsWith system (log ++ e ∷ []) b
  old_waits b m h t = by_move (moves_next system log e b.1) refl (before.waits b m unsynced)
    where
      unsynced : is_unsynced here b.1 ≡ true
      unsynced = unsynced_here b m h

      was : Together here b
      was = (before.all).together b m unsynced

      parent_moves : moves_next system log e b.0 ≡ moves_next system log e b.1
      parent_moves = moved_same system log e before.all b was

      alone : is_alone b.0 after ≡ true → is_alone b.1 after ≡ true
      alone is = sym (alone_same after b t) ∙ is

      later : moves_next system log e b.1 ≡ false → (awaited_in system log b.0 ≡ true → awaited_in system log b.1 ≡ true) → awaited_in system (log ++ e ∷ []) b.0 ≡ true
          → awaited_in system (log ++ e ∷ []) b.1 ≡ true
      later stays has is =
          awaited-on system log e b.1 stays
          ∙ by_parts (or_cases (awaited_in system log b.0) (names b.0 (what e) || is_alone b.0 after) (sym (awaited-on system log e b.0 (parent_moves ∙ stays)) ∙ is))
        where
          by_last : (names b.0 (what e) ≡ true) ⊎ (is_alone b.0 after ≡ true) → (names b.1 (what e) || is_alone b.1 after) ≡ true
          by_last (inl named) = or_left (names b.1 (what e)) (is_alone b.1 after) (names_child system log e before.all b m unsynced was (what e) stands.kind named)
          by_last (inr alone_there) = or_right (names b.1 (what e)) (is_alone b.1 after) (alone alone_there)

          by_parts : (awaited_in system log b.0 ≡ true) ⊎ ((names b.0 (what e) || is_alone b.0 after) ≡ true) → (awaited_in system log b.1 || (names b.1 (what e) || is_alone b.1 after)) ≡ true
          by_parts (inl had) = or_left (awaited_in system log b.1) (names b.1 (what e) || is_alone b.1 after) (has had)
          by_parts (inr last) = or_right (awaited_in system log b.1) (names b.1 (what e) || is_alone b.1 after) (by_last (or_cases (names b.0 (what e)) (is_alone b.0 after) last))

      by_move : (x : Bool) → moves_next system log e b.1 ≡ x → WaitsWith system log b → WaitsWith system (log ++ e ∷ []) b
      by_move true moved waits =
          inr (
            was_moved-snoc system log e b.0 ∙ or_right (was_moved system log b.0) (moves_next system log e b.0) (parent_moves ∙ moved),
            λ is. awaited-moved system log e b.1 moved ∙ alone (sym (awaited-moved system log e b.0 (parent_moves ∙ moved)) ∙ is),
          )
      by_move false stays (inl never) = inl (was_moved-snoc system log e b.1 ∙ (λ i. never i || stays i))
      by_move false stays (inr with_parent) = inr (was_moved-snoc system log e b.0 ∙ or_left (was_moved system log b.0) (moves_next system log e b.0) with_parent.0, later stays with_parent.1)

  -- the child of a birth was never moved, and has the mode of its parent
  new_modes : (parent : Pid) (at : ℕ) (child : Pid) (end : ℕ) → what e ≡ Birth parent at child end → BornRightly here parent child → mode_at after parent ≡ mode_at after child
  new_modes parent at child end is right =
      let new = child_new here parent child (before.all).numbered right in
      let parent_in : In parent.0 here = placed_parent right in
      ap (option_map (λ (q : Placed). q.mode)) (found_born system log e stands before.all parent at child end is right parent (not_in parent.0 child here new parent_in) ∙ right.found)
      ∙ sym (ap (option_map (λ (q : Placed). q.mode)) (found_child system log e stands before.all parent at child end is right))
    where
      placed_parent : BornRightly here parent child → In parent.0 here
      placed_parent right = found_among parent here.placed (ap is_some right.found)

  new_waits : (parent : Pid) (at : ℕ) (child : Pid) (end : ℕ) → what e ≡ Birth parent at child end → BornRightly here parent child → was_moved system (log ++ e ∷ []) child ≡ false
  new_waits parent at child end is right =
      let new = child_new here parent child (before.all).numbered right in
      was_moved-snoc system log e child ∙ (λ i. never_moved Stands system log child before.legal new i || ap (λ w. option_map_or (is_moved child here) (cluster_lost w) false) is i)

  by_kind : (w : What) → what e ≡ w → (b : Pair) → Member b (births_of log) ⊎ Member b (born w) → is_unsynced after b.1 ≡ true → Together after b → (mode_at after b.0 ≡ mode_at after b.1)
      × WaitsWith system (log ++ e ∷ []) b
  by_kind w is b (inl m) h t = (old_modes b m h t, old_waits b m h t)
  by_kind (Birth parent at child end) is b (inr (inl same)) h t =
      let right = born_rightly here (e.post).by parent child (subst (λ w. is_by_right here (e.post).by w ≡ true) is stands.by_right) (subst (KindHolds system log e) is stands.kind).child_is in
      subst (λ (c : Pair). (mode_at after c.0 ≡ mode_at after c.1)
      × WaitsWith system (log ++ e ∷ []) c) (sym same) (new_modes parent at child end is right, inl (new_waits parent at child end is right))
  by_kind (Birth parent at child end) is b (inr (inr none)) h t = absurd none
  by_kind _ is b (inr m) h t = absurd m

  all_after : (b : Pair) → Member b (births_of (log ++ e ∷ [])) → is_unsynced after b.1 ≡ true → (mode_at after b.0 ≡ mode_at after b.1) × WaitsWith system (log ++ e ∷ []) b
  all_after b m h = by_kind (what e) refl b (member_either b (births_of log) (born (what e)) (subst (Member b) (births_more system log e stands before.all) m)) h (next.together b m h)

all_wait : (system : System) (log : List Entry) → is_system system ≡ true → IsLegalBy Stands system log → AllWait system log
all_wait system log valid legal =
    legal_induction Stands system (AllWait system)
    (record { all = families_at_boot system valid; legal = none_legal system; modes = λ b m h. absurd m; waits = λ b m h. absurd m })
    (λ log e before stands. record {
      all = families_more system log e stands before.all;
      legal = IsLegal-snoc Stands system log e before.legal stands;
      modes = λ b m h. (all_after system log e stands before b m h).0;
      waits = λ b m h. (all_after system log e stands before b m h).1;
    }) log legal

-- ---- the whole

-- a child that never synchronised has its new backup where its parent has
pub child_awaited : (system : System) (log : List Entry) (parent child : Pid) → is_system system ≡ true → IsLegalBy Stands system log → bears log parent child ≡ true
    → is_unsynced (placement system log) child ≡ true
    → has_awaited_backup system log parent ≡ true → has_awaited_backup system log child ≡ true
child_awaited system log parent child valid legal bears_it unsynced has =
    let p = one_passes (λ (b : Pair). same_pid b.0 parent && same_pid b.1 child) (births_of log) bears_it in
    let both = and_parts (same_pid (p.pair).0 parent) (same_pid (p.pair).1 child) p.passes in
    let parent_is : (p.pair).0 ≡ parent = λ i. record { 0 = eqb-true ((p.pair).0).0 parent.0 both.0 i } in
    let child_is : (p.pair).1 ≡ child = λ i. record { 0 = eqb-true ((p.pair).1).0 child.0 both.1 i } in
    let unsynced_there = ap (is_unsynced (placement system log)) child_is ∙ unsynced in
    let wait = all_wait system log valid legal in
    ap (has_awaited_backup system log) (sym child_is)
    ∙ of_pair (p.pair) (wait.modes p.pair p.member unsynced_there) (wait.waits p.pair p.member unsynced_there) (ap (has_awaited_backup system log) parent_is ∙ has)
  where
    of_pair : (b : Pair) → mode_at (placement system log) b.0 ≡ mode_at (placement system log) b.1 → WaitsWith system log b → has_awaited_backup system log b.0 ≡ true
        → has_awaited_backup system log b.1 ≡ true
    of_pair b modes (inl never) has =
        awaited_is system log b.1 ∙ ap (λ x. not (is_full_at (placement system log) b.1 && x) || awaited_in system log b.1) never
        ∙ ap (λ x. not x || awaited_in system log b.1) (and_false (is_full_at (placement system log) b.1))
    of_pair b modes (inr with_parent) has = by_full (is_full_at (placement system log) b.1) refl
      where
        fulls : is_full_at (placement system log) b.0 ≡ is_full_at (placement system log) b.1
        fulls = full_mode (placement system log) b.0 ∙ ap (λ o. option_map_or is_full o false) modes ∙ sym (full_mode (placement system log) b.1)

        by_full : (x : Bool) → is_full_at (placement system log) b.1 ≡ x → has_awaited_backup system log b.1 ≡ true
        by_full false is = awaited_is system log b.1 ∙ ap (λ x. not (x && was_moved system log b.1) || awaited_in system log b.1) is
        by_full true is =
            let parent_has : awaited_in system log b.0 ≡ true =
            (λ i. not ((sym (fulls ∙ is) i) && sym with_parent.0 i) || awaited_in system log b.0) ∙ sym (awaited_is system log b.0) ∙ has in
            awaited_is system log b.1 ∙ or_right (not (is_full_at (placement system log) b.1 && was_moved system log b.1)) (awaited_in system log b.1) (with_parent.1 parent_has)
