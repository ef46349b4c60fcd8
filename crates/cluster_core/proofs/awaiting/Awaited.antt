-- Who does not wait for a new backup does not after an entry that leaves its home, and a page comes to such a process alone.
use Rattle.std.proofs.Common.{◌≡◌, ℕ, refl, sym, ◌∙◌, ap, subst, arith, List, [], ◌∷◌, ◌++◌, Bool, true, false, not, ◌&&◌, ◌||◌, Option, Some, None, is_some, unwrap_or, true≢false}
use Rattle.std.specs.Prelude.{nat_lt, option_map}
use Rattle.std.specs.List.{list_any}
use Rattle.std.specs.Option.{option_map_or}
use Rattle.std.proofs.lemmas.Bool.Decides.{nat_tests}
use Rattle.t32_base.specs.declared.process.Pid.{Pid}
use Rattle.t32_base.specs.declared.process.ClusterNo.{ClusterNo}
use Rattle.sys_text.specs.declared.system.System.{System}
use Rattle.sys_text.specs.Valid.{is_system}
use Rattle.bus_msg.specs.declared.entry.Entry.{Entry}
use Rattle.bus_msg.specs.declared.entry.What.TheVariants.{Birth, PageIs}
use Rattle.bus_msg.specs.declared.placed.Placed.{Placed}
use Rattle.bus_msg.specs.Places.{Places, same_cluster, unended_at}
use Rattle.bus_msg.specs.PlacedAfter.{what}
use Rattle.channel_table.specs.Changes.{pids_differ}
use Rattle.page_waits.specs.Waiting.{WaitingState}
use Rattle.plain_kernel.specs.Maps.{at_key}
use Rattle.cert_sched.specs.Legal.{MayStand}
use Rattle.cert_sched.specs.Legal.{IsLegalBy, Stands}
use Rattle.cert_sched.specs.Losses.{is_crash_of}
use Rattle.cert_sched.specs.Kinds.{KindHolds}
use Rattle.cert_sched.specs.Moved.{any_since_moved, is_fetch, names, was_moved}
use Rattle.cert_sched.specs.Told.{cluster_lost, is_moved, told}
use Rattle.cert_sched.specs.Rules.{has_awaited_backup, is_alone, is_by_right, is_full, places_since_moved}
use Rattle.cert_sched.specs.Schedule.{placement}
use Rattle.cert_sched.proofs.LogLaws.{IsLegal-before, IsLegal-last, placement-snoc}
use Rattle.cert_sched.proofs.FreshLaws.{BornRightly, born_rightly, child_new, numbered}
use Rattle.cert_sched.proofs.ThereLaws.{unended_not_born}
use Rattle.cert_sched.proofs.UnplacedLaws.{never_moved}
use Rattle.log_laws.proofs.letters.LogReads.{itself}
use Rattle.log_laws.proofs.records.Standing.{all_stand}
use Rattle.log_laws.proofs.pages.Waiting.{came_waited, waited_lacks}
use Rattle.replay_laws.specs.pages.Waits.{WaitsAs}
use Rattle.replay_laws.specs.forks.ForkWaits.{WaitsSo}
use Rattle.replay_laws.proofs.pages.Follows.{page_within}
use Rattle.replay_laws.proofs.forks.EitherWait.{page_for}
use Rattle.backup_laws.proofs.Follows.{wait_ended}
use Rattle.backup_laws.proofs.Given.{waiting_says}
use Rattle.backup_laws.proofs.Modes.{mode_stays}
use Rattle.backup_laws.proofs.Since.{mode_at, was_moved-snoc}
use Rattle.cluster_core.specs.Owed.{AreOwed}
use Rattle.cluster_core.proofs.losses.Homes.{HomeHere}
use Rattle.cluster_core.proofs.losses.NotMoved.{home_not_moved}

pub awaited_after : (system : System) (log : List Entry) (e : Entry) (p : Pid) (k : ClusterNo) → is_system system ≡ true → IsLegalBy MayStand system log → Stands system log e
    → pids_differ (placement system log).placed ≡ true → HomeHere (placement system log) p k → is_crash_of k (what e) ≡ false
    → has_awaited_backup system log p ≡ true → has_awaited_backup system (log ++ e ∷ []) p ≡ true
awaited_after system log e p k valid legal stands differ here away has = by_found (unended_at (placement system later) p) refl
  where
    later : List Entry
    later = log ++ e ∷ []

    by_found : (o : Option Placed) → unended_at (placement system later) p ≡ o → has_awaited_backup system later p ≡ true
    by_found None gone =
        ap (λ o. not (option_map_or (λ (q : Placed). is_full q.mode) o false && was_moved system later p) || any_since_moved system later p (names p) || list_any (is_alone p) (places_since_moved system later p)) gone
    by_found (Some q) there = wait_ended system log e p here.placed q (home_not_moved system log e p k differ here away) here.found there mode has
      where
        still : is_some (unended_at (placement system later) p) ≡ true
        still = ap is_some there

        modes : mode_at (placement system later) p ≡ mode_at (placement system log) p
        modes =
            ap (λ places. mode_at places p) (placement-snoc system log e)
            ∙ mode_stays (what e) (placement system log) p
            (unended_not_born MayStand (λ system log e may. may.stands) system log e p valid legal stands (ap is_some here.found))
            (ap (λ places. is_some (unended_at places p)) (sym (placement-snoc system log e)) ∙ still)

        mode : q.mode ≡ (here.placed).mode
        mode =
            ap (λ o. unwrap_or (option_map (λ (q : Placed). q.mode) o) q.mode) (sym there) ∙ ap (λ o. unwrap_or o q.mode) modes
            ∙ ap (λ o. unwrap_or (option_map (λ (q : Placed). q.mode) o) q.mode) here.found

-- a page comes to a process that has asked for it
pub come_asked : (system : System) (log : List Entry) (e : Entry) (p : Pid) (i : ℕ) (bytes : List ℕ) (queued : ℕ → Bool) (w : WaitingState) → is_system system ≡ true
    → IsLegalBy MayStand system (log ++ e ∷ []) → what e ≡ PageIs p i bytes → WaitsSo system log p queued w → nat_lt 0 w.asked ≡ true
come_asked system log e p i bytes queued w valid legal is waits = first i w.asked (waits_for.asked i (page_within system log e p queued w valid legal i bytes is waits_for) ∙ ap (λ b. b || queued i) fetched)
  where
    waits_for : WaitsAs system log p queued w
    waits_for = page_for system log e p i bytes queued w legal is waits

    stands : IsLegalBy Stands system (log ++ e ∷ [])
    stands = all_stand system (log ++ e ∷ []) legal

    fetched : any_since_moved system log p (is_fetch p i) ≡ true
    fetched =
        (waited_lacks system log p i (IsLegal-before Stands system log e stands) (came_waited system log e p i bytes (IsLegal-last Stands system log e stands) is)).fetched

    first : (i n : ℕ) → nat_lt i n ≡ true → nat_lt 0 n ≡ true
    first i n is = grind (arith, nat_tests)

-- where nobody here waits for its new backup, no process at home here does
pub none_owed : (system : System) (log : List Entry) (k : ClusterNo) (owed : List ℕ) (p : Pid) → owed ≡ [] → AreOwed system log k owed → HomeHere (placement system log) p k → has_awaited_backup system log p ≡ true
none_owed system log k owed p none are here = by_wait (has_awaited_backup system log p) refl
  where
    by_wait : (b : Bool) → has_awaited_backup system log p ≡ b → b ≡ true
    by_wait true has = refl
    by_wait false waits =
        let home : option_map_or (λ (q : Placed). same_cluster q.home k) (unended_at (placement system log) p) false ≡ true =
        ap (λ o. option_map_or (λ (q : Placed). same_cluster q.home k) o false) here.found ∙ here.home in
        absurd (true≢false (sym (λ i. home i && not (waits i)) ∙ sym (are p) ∙ ap (list_any (at_key p.0)) none))

-- a process that was never moved waits for none
never_waits : (system : System) (log : List Entry) (p : Pid) → was_moved system log p ≡ false → has_awaited_backup system log p ≡ true
never_waits system log p never = by_wait (has_awaited_backup system log p) refl
  where
    by_wait : (b : Bool) → has_awaited_backup system log p ≡ b → b ≡ true
    by_wait true has = refl
    by_wait false waits = absurd (true≢false (sym (waiting_says system log p waits).moved ∙ never))

-- nor does a child that is born
pub born_awaited : (system : System) (log : List Entry) (e : Entry) (parent : Pid) (at : ℕ) (child : Pid) (end : ℕ) → is_system system ≡ true → IsLegalBy Stands system (log ++ e ∷ [])
    → what e ≡ Birth parent at child end → has_awaited_backup system (log ++ e ∷ []) child ≡ true
born_awaited system log e parent at child end valid legal is = never_waits system (log ++ e ∷ []) child never
  where
    before : IsLegalBy Stands system log
    before = IsLegal-before Stands system log e legal

    stands : Stands system log e
    stands = IsLegal-last Stands system log e legal

    here : Places
    here = placement system log

    right : BornRightly here parent child
    right = born_rightly here (e.post).by parent child (subst (λ w. is_by_right here (e.post).by w ≡ true) is stands.by_right) (subst (KindHolds system log e) is stands.kind).child_is

    never : was_moved system (log ++ e ∷ []) child ≡ false
    never =
        was_moved-snoc system log e child
        ∙ (λ i. never_moved Stands system log child before (child_new here parent child (numbered Stands itself system log valid before) right) i || ap (λ w. option_map_or (is_moved child here) (cluster_lost w) false) is i)

none_moved : (system : System) (p : Pid) → was_moved system [] p ≡ false
unfolding told
none_moved system p = refl

-- at the start nobody does
pub awaited_at_start : (system : System) (p : Pid) → has_awaited_backup system [] p ≡ true
awaited_at_start system p = never_waits system [] p (none_moved system p)
