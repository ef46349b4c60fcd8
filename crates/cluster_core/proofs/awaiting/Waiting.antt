-- What one more entry makes of the processes at home in a cluster that wait for their new backup.
use Rattle.std.proofs.Common.{◌≡◌, ℕ, refl, sym, ◌∙◌, ap, subst, List, [], ◌∷◌, ◌++◌, length, Bool, true, false, cond, not, ◌&&◌, ◌||◌, eqb, eqb-true, Option, Some, None, is_some, inl, inr, ◌⊎◌, true≢false}
use Rattle.std.specs.Prelude.{option_map}
use Rattle.std.specs.List.{list_any}
use Rattle.std.specs.Option.{option_map_or}
use Rattle.std.proofs.lemmas.Bool.{and_parts, or_cases}
use Rattle.t32_base.specs.declared.process.Pid.{Pid}
use Rattle.t32_base.specs.declared.process.ClusterNo.{ClusterNo}
use Rattle.t32_base.specs.declared.letter.BackRec.{BackRec}
use Rattle.t32_base.proofs.Facts.{and_false, or_false}
use Rattle.sys_text.specs.declared.system.System.{System}
use Rattle.sys_text.specs.Valid.{is_system}
use Rattle.bus_msg.specs.declared.entry.What.{What}
use Rattle.bus_msg.specs.declared.entry.What.TheVariants.{Birth, Exit, Sync, Crash, Return, Rebackup}
use Rattle.bus_msg.specs.declared.entry.Cause.{Cause}
use Rattle.bus_msg.specs.declared.entry.Entry.{Entry}
use Rattle.bus_msg.specs.declared.placed.Placed.{Placed}
use Rattle.bus_msg.specs.Places.{ClusterPlace, Places, is_at_home, is_cluster, is_moved_by, lives_in, placed_at, same_cluster, same_pid, unended_at}
use Rattle.bus_msg.specs.PlacedAfter.{after_loss, after_rebackup, after_sync, is_named, moved_to, placed_after, returned_cluster, what}
use Rattle.bus_msg.specs.NewBackup.{next_backup, next_backup_at}
use Rattle.plain_kernel.specs.Maps.{at_key}
use Rattle.cert_sched.specs.Schedule.{placement}
use Rattle.cert_sched.specs.Told.{cluster_lost, is_moved}
use Rattle.cert_sched.specs.Moved.{names, was_moved}
use Rattle.cert_sched.specs.Losses.{is_crash_of}
use Rattle.cert_sched.specs.Rules.{has_awaited_backup, is_alone, is_by_right, is_full}
use Rattle.cert_sched.specs.Kinds.{KindHolds}
use Rattle.cert_sched.specs.Legal.{IsLegalBy, Stands}
use Rattle.cert_sched.proofs.LogLaws.{IsLegal-before, IsLegal-last, placement-snoc}
use Rattle.cert_sched.proofs.BirthClusters.{birth_lives}
use Rattle.cert_sched.proofs.BirthPlaces.{born_beside}
use Rattle.cert_sched.proofs.FamilyLaws.{exit_elsewhere, exit_there, sync_home}
use Rattle.cert_sched.proofs.FreshLaws.{BornRightly, Numbered, born_rightly, child_new, numbered}
use Rattle.cert_sched.proofs.HomesLaws.{clusters-length}
use Rattle.cert_sched.proofs.PidLaws.{placed_pids}
use Rattle.cert_sched.proofs.ThereLaws.{found_among}
use Rattle.cert_sched.proofs.UnendedLaws.{backup_keeps, loss_keeps, sync_keeps, unended_map, unended_open_at, unended_pid}
use Rattle.cert_sched.proofs.UnplacedLaws.{never_moved}
use Rattle.log_laws.specs.pages.Next.{moves_next}
use Rattle.log_laws.proofs.letters.LogReads.{itself}
use Rattle.backup_laws.proofs.Follows.{begins_here, wait_ended, wait_goes_on}
use Rattle.backup_laws.proofs.Given.{waiting_owed, waiting_says}
use Rattle.backup_laws.proofs.Modes.{backup_mode, loss_mode, moved_is, sync_mode}
use Rattle.backup_laws.proofs.Since.{was_moved-snoc}
use Rattle.backup_laws.proofs.SpreadSafe.{kept_at}
use Rattle.cluster_core.specs.Owed.{AreOwed, begins_wait, is_owed, owed_after, pids_waiting, to_back, waited}
use Rattle.cluster_core.proofs.awaiting.Alone.{beside_others, none_alone, none_backed}
use Rattle.birth_notice.proofs.JoinedLaws.{any_with}
use Rattle.cluster_core.proofs.awaiting.Pids.{any_left, any_waiting}
use Rattle.cluster_core.proofs.losses.HomesMoved.{stays_home}
use Rattle.cluster_core.proofs.losses.RenewedHomes.{home_renewed}

-- ---- words on tests

none_and : (a b : Bool) → ((a && false) && b) ≡ (a && false)
none_and true b = refl
none_and false b = refl

all_and : (a : Bool) → ((a && true) && true) ≡ (a && true)
all_and true = refl
all_and false = refl

lost_and : (a : Bool) → ((a && true) && false) ≡ (a && false)
lost_and true = refl
lost_and false = refl

module _ (system : System) (log : List Entry) (e : Entry) (k : ClusterNo) (valid : is_system system ≡ true) (legal : IsLegalBy Stands system (log ++ e ∷ [])) where
  abbrev later : List Entry
  later = log ++ e ∷ []

  abbrev here : Places
  here = placement system log

  abbrev after : Places
  after = placement system later

  abbrev at_k : Option Placed → Bool
  at_k o = option_map_or (λ (q : Placed). same_cluster q.home k) o false

  stands : Stands system log e
  stands = IsLegal-last Stands system log e legal

  before : IsLegalBy Stands system log
  before = IsLegal-before Stands system log e legal

  all : Numbered here
  all = numbered Stands itself system log valid before

  places_are : (w : What) → what e ≡ w → after ≡ placed_after here w
  places_are w is = placement-snoc system log e ∙ ap (placed_after here) is

  unmoved : (p : Pid) (w : What) → what e ≡ w → cluster_lost w ≡ None → moves_next system log e p ≡ false
  unmoved p w is none = ap (λ o. option_map_or (is_moved p here) o false) (ap cluster_lost is ∙ none)

  -- ---- a process that stays where it is

  -- the entry changes it by f
  record Changes (p : Pid) (f : Placed → Placed) : Type 0 where
    pub found : unended_at after p ≡ option_map f (unended_at here p)
    pub stays : moves_next system log e p ≡ false
    pub mode : (r : Placed) → (f r).mode ≡ r.mode
    pub home : (r : Placed) → unended_at here p ≡ Some r → (f r).home ≡ r.home

  module _ (p : Pid) (f : Placed → Placed) (c : Changes p f) where
    none_now : unended_at here p ≡ None → is_owed system later k p ≡ false
    none_now there = ap (λ o. at_k o && not (has_awaited_backup system later p)) (c.found ∙ ap (option_map f) there)

    none_then : unended_at here p ≡ None → is_owed system log k p ≡ false
    none_then there = ap (λ o. at_k o && not (has_awaited_backup system log p)) there

    module _ (r : Placed) (there : unended_at here p ≡ Some r) where
      now : unended_at after p ≡ Some (f r)
      now = c.found ∙ ap (option_map f) there

      -- its wait goes on, unless the entry names it, or no other cluster lives then
      follows : has_awaited_backup system later p ≡ (has_awaited_backup system log p || (names p (what e) || is_alone p after))
      follows = by_wait (has_awaited_backup system log p) refl
        where
          by_wait : (b : Bool) → has_awaited_backup system log p ≡ b → has_awaited_backup system later p ≡ (has_awaited_backup system log p || (names p (what e) || is_alone p after))
          by_wait true has = wait_ended system log e p r (f r) c.stays there now (c.mode r) has ∙ sym (ap (λ x. x || (names p (what e) || is_alone p after)) has)
          by_wait false waits = wait_goes_on system log e p r (f r) c.stays there now (c.mode r) waits ∙ sym (ap (λ x. x || (names p (what e) || is_alone p after)) waits)

      owed_then : (b : Bool) → has_awaited_backup system log p ≡ b → is_owed system log k p ≡ (same_cluster r.home k && not b)
      owed_then b is = λ i. at_k (there i) && not (is i)

      owed_now : (b : Bool) → has_awaited_backup system later p ≡ b → is_owed system later k p ≡ (same_cluster r.home k && not b)
      owed_now b is = (λ i. at_k (now i) && not (is i)) ∙ ap (λ (h : ClusterNo). same_cluster h k && not b) (c.home r there)

      -- one that waited is a fullback
      full_now : has_awaited_backup system log p ≡ false → is_full (f r).mode ≡ true
      full_now waits = ap is_full (c.mode r) ∙ sym (ap (λ o. option_map_or (λ (q : Placed). is_full q.mode) o false) there) ∙ (waiting_says system log p waits).full

    -- it waits on exactly where it is still to get a backup
    changed : ((r : Placed) → unended_at here p ≡ Some r → names p (what e) ≡ true → is_some (f r).backup ≡ true)
        → (is_owed system log k p && is_some (next_backup_at after p)) ≡ is_owed system later k p
    changed backed = by_found (unended_at here p) refl
      where
        by_found : (o : Option Placed) → unended_at here p ≡ o → (is_owed system log k p && is_some (next_backup_at after p)) ≡ is_owed system later k p
        by_found None there = ap (λ b. b && is_some (next_backup_at after p)) (none_then there) ∙ sym (none_now there)
        by_found (Some r) there = by_waits (has_awaited_backup system log p) refl (has_awaited_backup system later p) refl
          where
            both : (a s : Bool) → has_awaited_backup system log p ≡ a → is_some (next_backup_at after p) ≡ s
                → (is_owed system log k p && is_some (next_backup_at after p)) ≡ ((same_cluster r.home k && not a) && s)
            both a s waits next = λ i. owed_then r there a waits i && next i

            ended : has_awaited_backup system log p ≡ false → (names p (what e) ≡ true) ⊎ (is_alone p after ≡ true) → is_some (next_backup_at after p) ≡ false
            ended waits (inl named) = none_backed after p (f r) (now r there) (backed r there named)
            ended waits (inr alone) = none_alone after p (f r) (now r there) (full_now r there waits) alone

            by_waits : (a : Bool) → has_awaited_backup system log p ≡ a → (b : Bool) → has_awaited_backup system later p ≡ b
                → (is_owed system log k p && is_some (next_backup_at after p)) ≡ is_owed system later k p
            by_waits true then b is =
                both true (is_some (next_backup_at after p)) then refl ∙ none_and (same_cluster r.home k) (is_some (next_backup_at after p))
                ∙ sym (owed_now r there true (follows r there ∙ ap (λ x. x || (names p (what e) || is_alone p after)) then))
            by_waits false then false is =
                both false true then (waiting_owed system later p valid legal (ap is_some (now r there)) is) ∙ all_and (same_cluster r.home k) ∙ sym (owed_now r there false is)
            by_waits false then true is =
                both false false then (ended then (or_cases (names p (what e)) (is_alone p after) (sym (follows r there ∙ ap (λ x. x || (names p (what e) || is_alone p after)) then) ∙ is)))
                ∙ lost_and (same_cluster r.home k) ∙ sym (owed_now r there true is)

    -- it waits on where others live still, and the entry does not name it
    kept : names p (what e) ≡ false → ((r : Placed) → unended_at here p ≡ Some r → is_alone p here ≡ false → is_alone p after ≡ false) → is_owed system log k p ≡ is_owed system later k p
    kept unnamed others = by_found (unended_at here p) refl
      where
        by_found : (o : Option Placed) → unended_at here p ≡ o → is_owed system log k p ≡ is_owed system later k p
        by_found None there = none_then there ∙ sym (none_now there)
        by_found (Some r) there = by_wait (has_awaited_backup system log p) refl
          where
            by_wait : (a : Bool) → has_awaited_backup system log p ≡ a → is_owed system log k p ≡ is_owed system later k p
            by_wait true then = owed_then r there true then ∙ sym (owed_now r there true (follows r there ∙ ap (λ x. x || (names p (what e) || is_alone p after)) then))
            by_wait false then =
                owed_then r there false then
                ∙ sym (owed_now r there false (follows r there ∙ (λ i. then i || (unnamed i || others r there (waiting_says system log p then).others i))))

  map_same : (o : Option Placed) → o ≡ option_map (λ q. q) o
  map_same None = refl
  map_same (Some r) = refl

  -- an entry that leaves it where it was
  same_there : (p : Pid) (w : What) → what e ≡ w → cluster_lost w ≡ None → unended_at (placed_after here w) p ≡ unended_at here p → Changes p (λ q. q)
  same_there p w is none same = record {
    found = ap (λ places. unended_at places p) (places_are w is) ∙ same ∙ map_same (unended_at here p);
    stays = unmoved p w is none;
    mode = λ r. refl;
    home = λ r there. refl;
  }

  long : length after.clusters ≡ length here.clusters
  long = clusters-length Stands system later legal ∙ sym (clusters-length Stands system log before)

  -- it is not alone then, where each cluster lives that did
  beside : (p : Pid) (f : Placed → Placed) → Changes p f → ((h : ClusterNo) → lives_in here h ≡ true → lives_in after h ≡ true) → (r : Placed) → unended_at here p ≡ Some r → is_alone p here ≡ false
      → is_alone p after ≡ false
  beside p f c lives r there others = beside_others here after p r (f r) there (c.found ∙ ap (option_map f) there) (c.home r there) long lives others

  -- an entry that changes no placement
  nothing : (p : Pid) (w : What) → what e ≡ w → cluster_lost w ≡ None → names p w ≡ false → placed_after here w ≡ here → is_owed system log k p ≡ is_owed system later k p
  nothing p w is none unnamed same =
      let c = same_there p w is none (ap (λ places. unended_at places p) same) in
      kept p (λ q. q) c (ap (names p) is ∙ unnamed) (beside p (λ q. q) c (λ h lives. ap (λ places. lives_in places h) (places_are w is ∙ same) ∙ lives))

  -- ---- a child that is born

  none_placed : (p : Pid) → list_any (λ m. eqb m p.0) (placed_pids here.placed) ≡ false → unended_at here p ≡ None
  none_placed p new = by_found (unended_at here p) refl
    where
      by_found : (o : Option Placed) → unended_at here p ≡ o → o ≡ None
      by_found None there = refl
      by_found (Some q) there = absurd (true≢false (sym (found_among p here.placed (ap is_some there)) ∙ new))

  born : (p parent : Pid) (at : ℕ) (child : Pid) (end : ℕ) → what e ≡ Birth parent at child end → child ≡ p → is_owed system log k p ≡ is_owed system later k p
  born p parent at child end is one = ap (λ o. at_k o && not (has_awaited_backup system log p)) (none_placed p new) ∙ sym (by_wait (has_awaited_backup system later p) refl)
    where
      right : BornRightly here parent child
      right = born_rightly here (e.post).by parent child (subst (λ w. is_by_right here (e.post).by w ≡ true) is stands.by_right) (subst (KindHolds system log e) is stands.kind).child_is

      new : list_any (λ m. eqb m p.0) (placed_pids here.placed) ≡ false
      new = ap (λ (q : Pid). list_any (λ m. eqb m q.0) (placed_pids here.placed)) (sym one) ∙ child_new here parent child all right

      never : was_moved system later p ≡ false
      never = was_moved-snoc system log e p ∙ (λ i. never_moved Stands system log p before new i || unmoved p (Birth parent at child end) is refl i)

      by_wait : (b : Bool) → has_awaited_backup system later p ≡ b → is_owed system later k p ≡ false
      by_wait true has = ap (λ b. at_k (unended_at after p) && not b) has ∙ and_false (at_k (unended_at after p))
      by_wait false waits = absurd (true≢false (sym (waiting_says system later p waits).moved ∙ never))

  -- ---- the loss of a cluster

  module _ (lost : ClusterNo) (cause : Cause) (is : what e ≡ Crash lost cause) (apart : same_cluster lost k ≡ false) (p : Pid) where
    lost_found : unended_at after p ≡ option_map (after_loss lost) (unended_at here p)
    lost_found = ap (λ places. unended_at places p) (places_are (Crash lost cause) is) ∙ unended_map (after_loss lost) (loss_keeps lost) here (placed_after here (Crash lost cause)) refl p

    moved_by_it : moves_next system log e p ≡ is_moved p here lost
    moved_by_it = ap (λ w. option_map_or (is_moved p here) (cluster_lost w) false) is

    begins : list_any (at_key p.0) (pids_waiting lost k here.placed) ≡ option_map_or (begins_wait lost k) (unended_at here p) false
    begins = any_waiting lost k p here.placed all.two

    -- one that it does not move
    module _ (stays : moves_next system log e p ≡ false) where
      left_there : (r : Placed) → unended_at here p ≡ Some r → is_moved_by lost r ≡ false
      left_there r there = sym (moved_is here p lost r all.two there) ∙ sym moved_by_it ∙ stays

      same_home : (r : Placed) → unended_at here p ≡ Some r → (after_loss lost r).home ≡ r.home
      same_home r there = by_home (same_cluster r.home lost) refl
        where
          by_backup : (o : Option ClusterNo) → r.backup ≡ o → is_moved_by lost r ≡ false → same_cluster r.home lost ≡ true → (moved_to r lost o).home ≡ r.home
          by_backup None none still home = refl
          by_backup (Some b) some still home =
              absurd (true≢false (sym (λ i. (home i && not (unended_open_at here p r there i)) && is_some (some i)) ∙ still))

          by_home : (b : Bool) → same_cluster r.home lost ≡ b → (after_loss lost r).home ≡ r.home
          by_home false away = stays_home lost r away
          by_home true home =
              (λ i. (cond (unended_open_at here p r there i) r (cond (home i) (moved_to r lost r.backup) (cond (is_cluster r.backup lost) (record r { backup = None; lost = Some lost }) r))).home)
              ∙ by_backup r.backup refl (left_there r there) home

      change : Changes p (after_loss lost)
      change = record { found = lost_found; stays = stays; mode = loss_mode lost; home = same_home }

      begins_not : list_any (at_key p.0) (pids_waiting lost k here.placed) ≡ false
      begins_not = begins ∙ by_found (unended_at here p) refl
        where
          by_backup : (a : Bool) (o : Option ClusterNo) (m : Bool) → (a && is_some o) ≡ false → ((a && is_cluster o k) && m) ≡ false
          by_backup false o m none = refl
          by_backup true None m none = refl
          by_backup true (Some b) m none = absurd (true≢false none)

          by_found : (o : Option Placed) → unended_at here p ≡ o → option_map_or (begins_wait lost k) o false ≡ false
          by_found None there = refl
          by_found (Some r) there = by_backup (is_at_home lost r) r.backup (is_full r.mode) (left_there r there)

      lost_apart : ((is_owed system log k p || list_any (at_key p.0) (pids_waiting lost k here.placed)) && is_some (next_backup_at after p)) ≡ is_owed system later k p
      lost_apart =
          ap (λ b. (is_owed system log k p || b) && is_some (next_backup_at after p)) begins_not ∙ ap (λ b. b && is_some (next_backup_at after p)) (or_false (is_owed system log k p))
          ∙ changed p (after_loss lost) change (λ r there named. absurd (true≢false (sym named ∙ ap (names p) is)))

    -- one that it moves
    module _ (moves : moves_next system log e p ≡ true) (r : Placed) (there : unended_at here p ≡ Some r) where
      by_it : is_moved_by lost r ≡ true
      by_it = sym (moved_is here p lost r all.two there) ∙ sym moved_by_it ∙ moves

      at_home : is_at_home lost r ≡ true
      at_home = (and_parts (is_at_home lost r) (is_some r.backup) by_it).0

      home : same_cluster r.home lost ≡ true
      home = (and_parts (same_cluster r.home lost) (not r.ended) at_home).0

      some_backup : is_some r.backup ≡ true
      some_backup = (and_parts (is_at_home lost r) (is_some r.backup) by_it).1

      now_there : unended_at after p ≡ Some (after_loss lost r)
      now_there = lost_found ∙ ap (option_map (after_loss lost)) there

      owed_not : is_owed system log k p ≡ false
      owed_not =
          let away : same_cluster r.home k ≡ false = ap (λ n. eqb n k.0) (eqb-true (r.home).0 lost.0 home) ∙ apart in
          (λ i. at_k (there i) && not (has_awaited_backup system log p)) ∙ (λ i. away i && not (has_awaited_backup system log p))

      new_home : same_cluster (after_loss lost r).home k ≡ is_cluster r.backup k
      new_home =
          (λ i. same_cluster (cond (unended_open_at here p r there i) r (cond (home i) (moved_to r lost r.backup) (cond (is_cluster r.backup lost) (record r { backup = None; lost = Some lost }) r))).home k)
          ∙ by_backup r.backup some_backup
        where
          by_backup : (o : Option ClusterNo) → is_some o ≡ true → same_cluster (moved_to r lost o).home k ≡ is_cluster o k
          by_backup None some = absurd (true≢false (sym some))
          by_backup (Some b) some = refl

      begins_so : list_any (at_key p.0) (pids_waiting lost k here.placed) ≡ (is_cluster r.backup k && is_full r.mode)
      begins_so = begins ∙ ap (λ o. option_map_or (begins_wait lost k) o false) there ∙ ap (λ b. (b && is_cluster r.backup k) && is_full r.mode) at_home

      waits_so : has_awaited_backup system later p ≡ (not (is_full r.mode) || is_alone p after)
      waits_so = begins_here system log e p (after_loss lost r) moves now_there ∙ ap (λ m. not (is_full m) || is_alone p after) (loss_mode lost r)

      owed_now_so : (b : Bool) → has_awaited_backup system later p ≡ b → is_owed system later k p ≡ (is_cluster r.backup k && not b)
      owed_now_so b has = (λ i. at_k (now_there i) && not (has i)) ∙ ap (λ x. x && not b) new_home

      both_so : (m s : Bool) → is_full r.mode ≡ m → is_some (next_backup_at after p) ≡ s
          → ((is_owed system log k p || list_any (at_key p.0) (pids_waiting lost k here.placed)) && is_some (next_backup_at after p)) ≡ ((is_cluster r.backup k && m) && s)
      both_so m s full next = (λ i. (owed_not i || begins_so i) && next i) ∙ ap (λ x. (is_cluster r.backup k && x) && s) full

      lost_here : ((is_owed system log k p || list_any (at_key p.0) (pids_waiting lost k here.placed)) && is_some (next_backup_at after p)) ≡ is_owed system later k p
      lost_here = by_mode (is_full r.mode) refl
        where
          by_alone : is_full r.mode ≡ true → (b : Bool) → is_alone p after ≡ b
              → ((is_owed system log k p || list_any (at_key p.0) (pids_waiting lost k here.placed)) && is_some (next_backup_at after p)) ≡ is_owed system later k p
          by_alone full false others =
              let has : has_awaited_backup system later p ≡ false = waits_so ∙ (λ i. not (full i) || others i) in
              both_so true true full (waiting_owed system later p valid legal (ap is_some now_there) has) ∙ all_and (is_cluster r.backup k) ∙ sym (owed_now_so false has)
          by_alone full true alone =
              let has : has_awaited_backup system later p ≡ true = waits_so ∙ (λ i. not (full i) || alone i) in
              both_so true false full (none_alone after p (after_loss lost r) now_there (ap is_full (loss_mode lost r) ∙ full) alone) ∙ lost_and (is_cluster r.backup k) ∙ sym (owed_now_so true has)

          by_mode : (m : Bool) → is_full r.mode ≡ m
              → ((is_owed system log k p || list_any (at_key p.0) (pids_waiting lost k here.placed)) && is_some (next_backup_at after p)) ≡ is_owed system later k p
          by_mode true full = by_alone full (is_alone p after) refl
          by_mode false other =
              both_so false (is_some (next_backup_at after p)) other refl ∙ none_and (is_cluster r.backup k) (is_some (next_backup_at after p))
              ∙ sym (owed_now_so true (waits_so ∙ ap (λ b. not b || is_alone p after) other))

    lost_one : ((is_owed system log k p || list_any (at_key p.0) (pids_waiting lost k here.placed)) && is_some (next_backup_at after p)) ≡ is_owed system later k p
    lost_one = by_move (moves_next system log e p) refl
      where
        by_found : (o : Option Placed) → unended_at here p ≡ o → moves_next system log e p ≡ true
            → ((is_owed system log k p || list_any (at_key p.0) (pids_waiting lost k here.placed)) && is_some (next_backup_at after p)) ≡ is_owed system later k p
        by_found (Some r) there moves = lost_here moves r there
        by_found None there moves =
            let gone : unended_at after p ≡ None = lost_found ∙ ap (option_map (after_loss lost)) there in
            (λ i. ((at_k (there i) && not (has_awaited_backup system log p)) || begins i) && is_some (next_backup_at after p))
            ∙ ap (λ o. option_map_or (begins_wait lost k) o false && is_some (next_backup_at after p)) there
            ∙ sym (ap (λ o. at_k o && not (has_awaited_backup system later p)) gone)

        by_move : (b : Bool) → moves_next system log e p ≡ b
            → ((is_owed system log k p || list_any (at_key p.0) (pids_waiting lost k here.placed)) && is_some (next_backup_at after p)) ≡ is_owed system later k p
        by_move false stays = lost_apart stays
        by_move true moves = by_found (unended_at here p) refl moves

  -- ---- each kind

  module _ (owed : List ℕ) (spared : is_crash_of k (what e) ≡ false) (are : AreOwed system log k owed) (p : Pid) where
    -- those that are still to get a backup
    left_owed : (w : What) (ks : List ℕ) → what e ≡ w → list_any (at_key p.0) (to_back (placed_after here w) ks) ≡ (list_any (at_key p.0) ks && is_some (next_backup_at after p))
    left_owed w ks is =
        any_left (λ q. is_some (next_backup_at (placed_after here w) q)) p ks ∙ ap (λ places. list_any (at_key p.0) ks && is_some (next_backup_at places p)) (sym (places_are w is))

    by_kind : (w : What) → what e ≡ w → list_any (at_key p.0) (owed_after k here w owed) ≡ is_owed system later k p
    by_kind (Birth parent at child end) is = are p ∙ by_child (same_pid child p) refl
      where
        by_child : (b : Bool) → same_pid child p ≡ b → is_owed system log k p ≡ is_owed system later k p
        by_child true same = born p parent at child end is (λ i. record { 0 = eqb-true child.0 p.0 same i })
        by_child false other =
            let c = same_there p (Birth parent at child end) is refl (born_beside p child here (placed_at here parent) other) in
            kept p (λ q. q) c (ap (names p) is)
            (beside p (λ q. q) c (λ h lives. ap (λ places. lives_in places h) (places_are (Birth parent at child end) is) ∙ birth_lives here child (placed_at here parent) h ∙ lives))
    by_kind (Exit r at end) is = left_owed (Exit r at end) owed is ∙ ap (λ b. b && is_some (next_backup_at after p)) (are p) ∙ by_pid (same_pid p r) refl
      where
        by_pid : (b : Bool) → same_pid p r ≡ b → (is_owed system log k p && is_some (next_backup_at after p)) ≡ is_owed system later k p
        by_pid true same =
            let gone : unended_at after p ≡ None = ap (λ places. unended_at places p) (places_are (Exit r at end) is) ∙ exit_there here r p at end same in
            ap (λ o. is_owed system log k p && is_some (option_map_or (next_backup after) o None)) gone ∙ and_false (is_owed system log k p)
            ∙ sym (ap (λ o. at_k o && not (has_awaited_backup system later p)) gone)
        by_pid false other =
            changed p (λ q. q) (same_there p (Exit r at end) is refl (exit_elsewhere here r p at end other)) (λ q there named. absurd (true≢false (sym named ∙ ap (names p) is)))
    by_kind (Sync r small read took) is =
        are p
        ∙ kept p (after_sync r) cut (ap (names p) is) (beside p (after_sync r) cut (λ h lives. ap (λ places. lives_in places h) (places_are (Sync r small read took) is) ∙ lives))
      where
        cut : Changes p (after_sync r)
        cut = record {
          found = ap (λ places. unended_at places p) (places_are (Sync r small read took) is) ∙ unended_map (after_sync r) (sync_keeps r) here (placed_after here (Sync r small read took)) refl p;
          stays = unmoved p (Sync r small read took) is refl;
          mode = sync_mode r;
          home = λ q there. (sync_home r q).0;
        }
    by_kind (Crash lost cause) is =
        left_owed (Crash lost cause) (waited k here (Crash lost cause) owed) is
        ∙ ap (λ b. b && is_some (next_backup_at after p)) (any_with p.0 owed (pids_waiting lost k here.placed) ∙ ap (λ b. b || list_any (at_key p.0) (pids_waiting lost k here.placed)) (are p))
        ∙ lost_one lost cause is (sym (ap (is_crash_of k) is) ∙ spared) p
    by_kind (Return j) is =
        let c = same_there p (Return j) is refl refl in
        are p
        ∙ kept p (λ q. q) c (ap (names p) is)
        (beside p (λ q. q) c (λ h lives. ap (λ places. lives_in places h) (places_are (Return j) is)
        ∙ kept_at (λ (c : ClusterPlace). c.lives) returned_cluster (λ c lives. refl) here.clusters j.0 h.0 lives))
    by_kind (Rebackup to fresh recs) is =
        left_owed (Rebackup to fresh recs) owed is ∙ ap (λ b. b && is_some (next_backup_at after p)) (are p)
        ∙ changed p (after_rebackup to fresh recs) renewed
        (λ q there named.
        let name : is_named recs q ≡ true = ap (λ x. list_any (λ (r : BackRec). same_pid r.pid x) recs) (unended_pid here p q there) ∙ sym (ap (names p) is) ∙ named in
        ap (λ b. is_some (cond b (record q { backup = Some to; synced = q.synced || fresh }) q).backup) name)
      where
        renewed : Changes p (after_rebackup to fresh recs)
        renewed = record {
          found = ap (λ places. unended_at places p) (places_are (Rebackup to fresh recs) is)
              ∙ unended_map (after_rebackup to fresh recs) (backup_keeps to fresh recs) here (placed_after here (Rebackup to fresh recs)) refl p;
          stays = unmoved p (Rebackup to fresh recs) is refl;
          mode = backup_mode to fresh recs;
          home = λ q there. home_renewed to fresh recs q;
        }
    by_kind w is = are p ∙ nothing p w is refl refl refl

  -- after the entry those stand among the pids that wait then
  pub owed_follow : (owed : List ℕ) → is_crash_of k (what e) ≡ false → AreOwed system log k owed → AreOwed system later k (owed_after k here (what e) owed)
  owed_follow owed spared are p = by_kind owed spared are p (what e) refl
