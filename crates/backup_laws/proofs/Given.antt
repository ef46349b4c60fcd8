-- A process that waits for its new backup has none, and is to get one at once: another cluster lives.
use Rattle.std.proofs.Common.{◌≡◌, refl, sym, ◌∙◌, ap, subst, List, [], ◌∷◌, ◌++◌, map, Bool, true, false, cond, not, ◌&&◌, ◌||◌, eqb-true, Option, Some, None, is_some, unwrap_or, true≢false}
use Rattle.std.specs.Prelude.{find, option_map}
use Rattle.std.specs.List.{list_any, list_all}
use Rattle.std.specs.Option.{option_map_or}
use Rattle.std.proofs.lemmas.Bool.{and_parts, not-true, or_parts}
use Rattle.t32_base.specs.declared.process.Pid.{Pid}
use Rattle.t32_base.specs.declared.process.ClusterNo.{ClusterNo}
use Rattle.t32_base.specs.declared.process.Mode.{Mode}
use Rattle.t32_base.specs.declared.process.Mode.TheVariants.{Quarter, Half, Full}
use Rattle.t32_base.specs.declared.letter.BackRec.{BackRec}
use Rattle.sys_text.specs.declared.system.System.{System}
use Rattle.sys_text.specs.Valid.{is_system}
use Rattle.bus_msg.specs.declared.entry.What.{What}
use Rattle.bus_msg.specs.declared.entry.What.TheVariants.{Birth, Exit, Sync, Crash, Rebackup}
use Rattle.bus_msg.specs.declared.entry.Cause.{Cause}
use Rattle.bus_msg.specs.declared.entry.Entry.{Entry}
use Rattle.bus_msg.specs.declared.placed.Placed.{Placed}
use Rattle.bus_msg.specs.Places.{Places, same_pid, same_cluster, is_cluster, lives_in, all_clusters, placed_at, unended_at, is_moved_by}
use Rattle.bus_msg.specs.PlacedAfter.{what, placed_after, after_sync, after_loss, moved_to, after_rebackup, is_named}
use Rattle.bus_msg.specs.NewBackup.{next_backup, next_backup_at, backup_by_mode}
use Rattle.cert_sched.specs.Schedule.{placement}
use Rattle.cert_sched.specs.Told.{Told, told, cluster_lost, is_moved}
use Rattle.cert_sched.specs.Moved.{any_since_moved, names, since_moved, was_moved}
use Rattle.cert_sched.specs.Rules.{has_awaited_backup, is_alone, is_full, places_since_moved}
use Rattle.cert_sched.specs.Kinds.{KindHolds}
use Rattle.cert_sched.specs.Legal.{IsLegalBy, Stands}
use Rattle.cert_sched.specs.Simulation.{IsUnended}
use Rattle.cert_sched.proofs.LogLaws.{IsLegal-snoc, placement-snoc}
use Rattle.cert_sched.proofs.Induction.{legal_induction}
use Rattle.cert_sched.proofs.BirthPlaces.{born_beside}
use Rattle.cert_sched.proofs.FreshLaws.{Numbered, numbered_at_boot, numbered_more, born_rightly, child_new}
use Rattle.cert_sched.proofs.FamilyLaws.{exit_there, exit_elsewhere}
use Rattle.cert_sched.proofs.UnendedLaws.{unended_map, unended_open_at, unended_pid, sync_keeps, loss_keeps, backup_keeps}
use Rattle.cert_sched.proofs.UnplacedLaws.{never_moved}
use Rattle.cert_sched.specs.Rules.{is_by_right}
use Rattle.log_laws.specs.pages.Next.{moves_next}
use Rattle.log_laws.proofs.pages.OneEntry.{list_any-last}
use Rattle.backup_laws.proofs.Since.{awaited_in, awaited_is, awaited-on, is_full_at, was_moved-snoc}
use Rattle.backup_laws.proofs.Modes.{backup_mode, loss_mode, moved_is, sync_mode}
use Rattle.checkpoint_laws.proofs.marks.BegunMarks.{none_legal}

-- ---- what the wait says

pub record Waiting (system : System) (log : List Entry) (p : Pid) : Type 0 where
  pub full : is_full_at (placement system log) p ≡ true
  pub moved : was_moved system log p ≡ true
  pub unnamed : any_since_moved system log p (names p) ≡ false
  pub others : is_alone p (placement system log) ≡ false

pub waiting_says : (system : System) (log : List Entry) (p : Pid) → has_awaited_backup system log p ≡ false → Waiting system log p
waiting_says system log p waits =
    let parts = or_parts (not (is_full_at (placement system log) p && was_moved system log p)) (awaited_in system log p) (sym (awaited_is system log p) ∙ waits) in
    let both = and_parts (is_full_at (placement system log) p) (was_moved system log p) (un_not (is_full_at (placement system log) p && was_moved system log p) parts.0) in
    let none = or_parts (any_since_moved system log p (names p)) (list_any (is_alone p) (places_since_moved system log p)) parts.1 in
    record { full = both.0; moved = both.1; unnamed = none.0; others = last_of none.1 }
  where
    un_not : (b : Bool) → not b ≡ false → b ≡ true
    un_not true h = refl
    un_not false h = absurd (true≢false h)

    before : List Places
    before = map (λ (t : Told). t.places) (since_moved system log p)

    last_of : list_any (is_alone p) (places_since_moved system log p) ≡ false → is_alone p (placement system log) ≡ false
    last_of none = (or_parts (list_any (is_alone p) before) (is_alone p (placement system log)) (sym (list_any-last (is_alone p) before (placement system log)) ∙ none)).1

-- ---- it has none

-- one that a loss moves has none after it
moved_none : (lost : ClusterNo) (q : Placed) → is_moved_by lost q ≡ true → (after_loss lost q).backup ≡ None
moved_none lost q moves =
    (λ i. (cond (ended i) q (cond (home.0 i) (moved_to q lost q.backup) (cond (is_cluster q.backup lost) (record q { backup = None; lost = Some lost }) q))).backup) ∙ by_backup q.backup refl
  where
    home : (same_cluster q.home lost ≡ true) × (not q.ended ≡ true)
    home = and_parts (same_cluster q.home lost) (not q.ended) (and_parts (same_cluster q.home lost && not q.ended) (is_some q.backup) moves).0

    ended : q.ended ≡ false
    ended = not-true q.ended home.1

    by_backup : (o : Option ClusterNo) → q.backup ≡ o → (moved_to q lost o).backup ≡ None
    by_backup None is = is
    by_backup (Some b) is = refl

-- one that has none has none after a loss
still_none : (lost : ClusterNo) (q : Placed) → q.backup ≡ None → (after_loss lost q).backup ≡ None
still_none lost q none = by_tests q.ended (same_cluster q.home lost) (is_cluster q.backup lost)
  where
    by_tests : (e h b : Bool) → (cond e q (cond h (moved_to q lost q.backup) (cond b (record q { backup = None; lost = Some lost }) q))).backup ≡ None
    by_tests true h b = none
    by_tests false true b = ap (λ o. (moved_to q lost o).backup) none ∙ none
    by_tests false false true = refl
    by_tests false false false = none

abbrev Unbacked : System → List Entry → Type 0
Unbacked system log = (p : Pid) (q : Placed) → unended_at (placement system log) p ≡ Some q → has_awaited_backup system log p ≡ false → q.backup ≡ None

record All (system : System) (log : List Entry) : Type 0 where
  pub numbered : Numbered (placement system log)
  pub legal : IsLegalBy Stands system log
  pub none : Unbacked system log

module _ (system : System) (log : List Entry) (e : Entry) (stands : Stands system log e) (all : All system log) (p : Pid) (q : Placed)
    (waits : has_awaited_backup system (log ++ e ∷ []) p ≡ false) where
  abbrev here : Places
  here = placement system log

  now : Waiting system (log ++ e ∷ []) p
  now = waiting_says system (log ++ e ∷ []) p waits

  -- where no crash moves it by the entry, it waited before, and the entry does not name it
  record WaitedBefore : Type 0 where
    pub waited : is_full_at here p ≡ true → has_awaited_backup system log p ≡ false
    pub unnamed : names p (what e) ≡ false

  waited_before : moves_next system log e p ≡ false → WaitedBefore
  waited_before stays =
      let parts = or_parts (not (is_full_at (placement system (log ++ e ∷ [])) p && was_moved system (log ++ e ∷ []) p)) (awaited_in system (log ++ e ∷ []) p) (sym (awaited_is system (log ++ e ∷ []) p)
      ∙ waits) in
      let last = or_parts (awaited_in system log p) (names p (what e) || is_alone p (placement system (log ++ e ∷ []))) (sym (awaited-on system log e p stays) ∙ parts.1) in
      let moved : was_moved system log p ≡ true = or_false (was_moved system log p) (sym (ap (λ b. was_moved system log p || b) stays) ∙ sym (was_moved-snoc system log e p) ∙ now.moved) in
      record {
        waited = λ full. awaited_is system log p ∙ (λ i. not (full i && moved i) || last.0 i);
        unnamed = (or_parts (names p (what e)) (is_alone p (placement system (log ++ e ∷ []))) last.1).0;
      }
    where
      or_false : (b : Bool) → (b || false) ≡ true → b ≡ true
      or_false true h = refl
      or_false false h = h

  -- where the entry leaves or changes it alone, from what it was
  by_change : (f : Placed → Placed) → unended_at (placement system (log ++ e ∷ [])) p ≡ option_map f (unended_at here p) → unended_at (placement system (log ++ e ∷ [])) p ≡ Some q
      → moves_next system log e p ≡ false → ((r : Placed) → (f r).mode ≡ r.mode)
      → ((r : Placed) → unended_at here p ≡ Some r → names p (what e) ≡ false → r.backup ≡ None → (f r).backup ≡ None) → q.backup ≡ None
  by_change f after found stays same keeps = by_found (unended_at here p) refl (sym after ∙ found)
    where
      by_found : (o : Option Placed) → unended_at here p ≡ o → option_map f o ≡ Some q → q.backup ≡ None
      by_found None there is = cc
      by_found (Some r) there is =
          let one : f r ≡ q = ap (λ (o : Option Placed). unwrap_or o q) is in
          let b = waited_before stays in
          let full : is_full_at here p ≡ true =
          ap (λ o. option_map_or (λ (q : Placed). is_full q.mode) o false) there ∙ ap is_full (sym (same r) ∙ ap (λ (x : Placed). x.mode) one)
          ∙ sym (ap (λ o. option_map_or (λ (q : Placed). is_full q.mode) o false) found) ∙ now.full in
          ap (λ (x : Placed). x.backup) (sym one) ∙ keeps r there b.unnamed (all.none p r there (b.waited full))

  places_are : (w : What) → what e ≡ w → unended_at (placement system (log ++ e ∷ [])) p ≡ unended_at (placed_after here w) p
  places_are w is = ap (λ places. unended_at places p) (placement-snoc system log e ∙ ap (placed_after here) is)

  none_lost : (w : What) → what e ≡ w → cluster_lost w ≡ None → moves_next system log e p ≡ false
  none_lost w is none = ap (λ o. option_map_or (is_moved p here) o false) (ap cluster_lost is ∙ none)

  map_same : (o : Option Placed) → o ≡ option_map (λ q. q) o
  map_same None = refl
  map_same (Some r) = refl

  by_same : (w : What) → what e ≡ w → cluster_lost w ≡ None → unended_at (placed_after here w) p ≡ unended_at here p → unended_at (placement system (log ++ e ∷ [])) p ≡ Some q → q.backup ≡ None
  by_same w is none same found = by_change (λ q. q) (places_are w is ∙ same ∙ map_same (unended_at here p)) found (none_lost w is none) (λ r. refl) (λ r there unnamed had. had)

  by_loss : (lost : ClusterNo) (cause : Cause) → what e ≡ Crash lost cause → unended_at (placement system (log ++ e ∷ [])) p ≡ Some q → q.backup ≡ None
  by_loss lost cause is found = by_move (moves_next system log e p) refl
    where
      after : unended_at (placement system (log ++ e ∷ [])) p ≡ option_map (after_loss lost) (unended_at here p)
      after = places_are (Crash lost cause) is ∙ unended_map (after_loss lost) (loss_keeps lost) here (placed_after here (Crash lost cause)) refl p

      by_move : (b : Bool) → moves_next system log e p ≡ b → q.backup ≡ None
      by_move false stays = by_change (after_loss lost) after found stays (loss_mode lost) (λ r there unnamed had. still_none lost r had)
      by_move true moves = by_found (unended_at here p) refl (sym after ∙ found)
        where
          by_found : (o : Option Placed) → unended_at here p ≡ o → option_map (after_loss lost) o ≡ Some q → q.backup ≡ None
          by_found None there is = cc
          by_found (Some r) there same =
              let one : after_loss lost r ≡ q = ap (λ (o : Option Placed). unwrap_or o q) same in
              let by_it : is_moved_by lost r ≡ true = sym (moved_is here p lost r (all.numbered).two there) ∙ sym (ap (λ w. option_map_or (is_moved p here) (cluster_lost w) false) is) ∙ moves in
              ap (λ (x : Placed). x.backup) (sym one) ∙ moved_none lost r by_it

  by_kind : (w : What) → what e ≡ w → unended_at (placement system (log ++ e ∷ [])) p ≡ Some q → q.backup ≡ None
  by_kind (Birth parent at child end) is found = by_child (same_pid child p) refl
    where
      by_child : (b : Bool) → same_pid child p ≡ b → q.backup ≡ None
      by_child false other = by_same (Birth parent at child end) is refl (born_beside p child here (placed_at here parent) other) found
      by_child true same =
          let right = born_rightly here (e.post).by parent child (subst (λ w. is_by_right here (e.post).by w ≡ true) is stands.by_right) (subst (KindHolds system log e) is stands.kind).child_is in
          let new = child_new here parent child (all.numbered) right in
          let never : was_moved system (log ++ e ∷ []) child ≡ false =
          was_moved-snoc system log e child ∙ (λ i. never_moved Stands system log child all.legal new i || ap (λ w. option_map_or (is_moved child here) (cluster_lost w) false) is i) in
          let one : child ≡ p = λ i. record { 0 = eqb-true child.0 p.0 same i } in
          absurd (true≢false (sym now.moved ∙ sym (ap (was_moved system (log ++ e ∷ [])) one) ∙ never))
  by_kind (Exit r at end) is found = by_pid (same_pid p r) refl
    where
      by_pid : (b : Bool) → same_pid p r ≡ b → q.backup ≡ None
      by_pid true same = absurd (true≢false (sym (ap is_some (sym (places_are (Exit r at end) is) ∙ found)) ∙ ap is_some (exit_there here r p at end same)))
      by_pid false apart = by_same (Exit r at end) is refl (exit_elsewhere here r p at end apart) found
  by_kind (Sync r small read took) is found =
      by_change (after_sync r) (places_are (Sync r small read took) is
      ∙ unended_map (after_sync r) (sync_keeps r) here (placed_after here (Sync r small read took)) refl p) found (none_lost (Sync r small read took) is refl) (sync_mode r)
      (λ s there unnamed had. kept (same_pid s.pid r) s ∙ had)
    where
      kept : (b : Bool) (s : Placed) → (cond b (record s { synced = true }) s).backup ≡ s.backup
      kept true s = refl
      kept false s = refl
  by_kind (Crash lost cause) is found = by_loss lost cause is found
  by_kind (Rebackup to fresh recs) is found =
      by_change (after_rebackup to fresh recs) (places_are (Rebackup to fresh recs) is
      ∙ unended_map (after_rebackup to fresh recs) (backup_keeps to fresh recs) here (placed_after here (Rebackup to fresh recs)) refl p) found
      (none_lost (Rebackup to fresh recs) is refl) (backup_mode to fresh recs)
      (λ s there unnamed had.
      let name : is_named recs s ≡ false = ap (λ x. list_any (λ (r : BackRec). same_pid r.pid x) recs) (unended_pid here p s there) ∙ sym (ap (names p) is) ∙ unnamed in
      ap (λ b. (cond b (record s { backup = Some to; synced = s.synced || fresh }) s).backup) name ∙ had)
  by_kind w is found = by_same w is refl refl found

none_moved : (system : System) (p : Pid) → was_moved system [] p ≡ false
unfolding told
none_moved system p = refl

pub numbered_first : (system : System) → is_system system ≡ true → Numbered (placement system [])
unfolding placement
numbered_first system valid = numbered_at_boot system valid

all_unbacked : (system : System) (log : List Entry) → is_system system ≡ true → IsLegalBy Stands system log → All system log
all_unbacked system log valid legal =
    legal_induction Stands system (All system)
    (record { numbered = numbered_first system valid; legal = none_legal system; none = λ p q found waits. absurd (true≢false (sym (waiting_says system [] p waits).moved ∙ none_moved system p)) })
    (λ log e before stands. record {
      numbered = numbered_more system log e stands before.numbered;
      legal = IsLegal-snoc Stands system log e before.legal stands;
      none = λ p q found waits. by_kind system log e stands before p q waits (what e) refl found;
    }) log legal

-- ---- it is to get one

some_other : (places : Places) (home : ClusterNo) (ks : List ClusterNo) → list_all (λ k. same_cluster k home || not (lives_in places k)) ks ≡ false
    → is_some (find (λ k. lives_in places k && not (same_cluster k home)) ks) ≡ true
some_other places home [] none = absurd (true≢false none)
some_other places home (k ∷ ks) none = by_tests (same_cluster k home) (lives_in places k) none (some_other places home ks)
  where
    by_tests : (s l : Bool) → ((s || not l) && list_all (λ k. same_cluster k home || not (lives_in places k)) ks) ≡ false
        → (list_all (λ k. same_cluster k home || not (lives_in places k)) ks ≡ false → is_some (find (λ k. lives_in places k && not (same_cluster k home)) ks) ≡ true)
        → is_some (cond (l && not s) (Some k) (find (λ k. lives_in places k && not (same_cluster k home)) ks)) ≡ true
    by_tests true true h more = more h
    by_tests true false h more = more h
    by_tests false true h more = refl
    by_tests false false h more = more h

-- a process that waits for its new backup has none, and is owed one
pub waiting_owed : (system : System) (log : List Entry) (p : Pid) → is_system system ≡ true → IsLegalBy Stands system log → IsUnended system log p → has_awaited_backup system log p ≡ false
    → is_some (next_backup_at (placement system log) p) ≡ true
waiting_owed system log p valid legal unended waits = by_placed (unended_at (placement system log) p) refl unended
  where
    w : Waiting system log p
    w = waiting_says system log p waits

    by_mode : (q : Placed) (mode : Mode) → is_full mode ≡ true → list_all (λ k. same_cluster k q.home || not (lives_in (placement system log) k)) (all_clusters (placement system log)) ≡ false
        → is_some (backup_by_mode (placement system log) q mode) ≡ true
    by_mode q Quarter full others = absurd (true≢false (sym full))
    by_mode q Half full others = absurd (true≢false (sym full))
    by_mode q Full full others = some_other (placement system log) q.home (all_clusters (placement system log)) others

    by_placed : (o : Option Placed) → unended_at (placement system log) p ≡ o → is_some o ≡ true → is_some (option_map_or (next_backup (placement system log)) o None) ≡ true
    by_placed None there some = absurd (true≢false (sym some))
    by_placed (Some q) there some =
        let none = (all_unbacked system log valid legal).none p q there waits in
        (λ i. is_some (cond (unended_open_at (placement system log) p q there i || is_some (none i)) None (backup_by_mode (placement system log) q q.mode)))
        ∙ by_mode q q.mode (sym (ap (λ o. option_map_or (λ (q : Placed). is_full q.mode) o false) there) ∙ w.full)
        (sym (ap (λ o. option_map_or (λ (q : Placed). list_all (λ k. same_cluster k q.home || not (lives_in (placement system log) k)) (all_clusters (placement system log))) o false) there)
        ∙ w.others)
