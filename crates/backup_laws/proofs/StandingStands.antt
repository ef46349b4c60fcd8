-- The new backup of a family that was moved may stand next: no process that waits for its new backup has done anything since it was moved.
use Rattle.std.proofs.Common.{◌≡◌, refl, sym, ◌∙◌, ap, subst, List, [], ◌∷◌, ◌++◌, Bool, true, false, cond, ◌&&◌, ◌||◌, eqb-true, Option, Some, None, is_some, unwrap_or, true≢false}
use Rattle.std.specs.Prelude.{option_map}
use Rattle.std.specs.Option.{option_map_or}
use Rattle.t32_base.specs.declared.process.Pid.{Pid}
use Rattle.t32_base.specs.declared.process.ClusterNo.{ClusterNo}
use Rattle.t32_base.specs.declared.letter.BackRec.{BackRec}
use Rattle.sys_text.specs.declared.system.System.{System}
use Rattle.sys_text.specs.Valid.{is_system}
use Rattle.bus_msg.specs.declared.entry.What.{What}
use Rattle.bus_msg.specs.declared.entry.What.TheVariants.{Mail, Birth, Exit, Page, Sync}
use Rattle.bus_msg.specs.declared.entry.By.TheVariants.{Cluster}
use Rattle.bus_msg.specs.declared.entry.Entry.{Entry}
use Rattle.bus_msg.specs.declared.placed.Placed.{Placed}
use Rattle.bus_msg.specs.Places.{Places, same_pid, unended_at}
use Rattle.bus_msg.specs.PlacedAfter.{what}
use Rattle.cert_sched.specs.Appended.{entry_of}
use Rattle.cert_sched.specs.Schedule.{placement}
use Rattle.cert_sched.specs.Deeds.{is_birth_of}
use Rattle.cert_sched.specs.Told.{cluster_lost, is_moved, told}
use Rattle.cert_sched.specs.Moved.{any_since_moved, was_moved}
use Rattle.cert_sched.specs.Kinds.{is_done_by}
use Rattle.cert_sched.specs.Rules.{has_awaited_backup, is_by_right, keeps_backups}
use Rattle.cert_sched.specs.Kinds.{KindHolds}
use Rattle.cert_sched.specs.Legal.{IsLegal, IsLegalBy, MayFollow, Stands}
use Rattle.cert_sched.specs.Simulation.{IsUnended}
use Rattle.cert_sched.proofs.LogLaws.{IsLegal-snoc, no_items, placement-snoc}
use Rattle.cert_sched.proofs.Induction.{legal_induction}
use Rattle.cert_sched.proofs.CutLaws.{by_home_there}
use Rattle.cert_sched.proofs.CameLaws.{same_of}
use Rattle.cert_sched.proofs.FreshLaws.{Numbered, numbered_more, born_rightly, child_new}
use Rattle.cert_sched.proofs.UnplacedLaws.{never_moved}
use Rattle.cert_sched.proofs.ThereLaws.{plain_there}
use Rattle.log_laws.specs.pages.Next.{moves_next}
use Rattle.log_laws.proofs.pages.OneEntry.{any_since-goes_on, any_since-snoc}
use Rattle.log_laws.proofs.records.Standing.{legal_stands}
use Rattle.backup_mode.specs.Posts.{standing_post}
use Rattle.backup_laws.specs.Posts.{MayHandOn}
use Rattle.backup_laws.proofs.Since.{mode_at, was_moved-snoc}
use Rattle.backup_laws.proofs.Modes.{mode_stays}
use Rattle.backup_laws.proofs.Follows.{wait_ended}
use Rattle.backup_laws.proofs.Given.{numbered_first, waiting_says}

-- ---- what a process has done

-- an entry by which the process does something keeps rule of new backups only where it does not wait for one
done_awaited : (system : System) (log : List Entry) (p : Pid) (w : What) → is_done_by p w ≡ true → keeps_backups system log w ≡ true → has_awaited_backup system log p ≡ true
done_awaited system log p (Mail at letter) is keeps = ap (has_awaited_backup system log) (same_of p letter.from is) ∙ keeps
done_awaited system log p (Birth parent at child end) is keeps = ap (has_awaited_backup system log) (same_of p parent is) ∙ keeps
done_awaited system log p (Exit pid at end) is keeps = ap (has_awaited_backup system log) (same_of p pid is) ∙ keeps
done_awaited system log p (Page pid at index bytes) is keeps = ap (has_awaited_backup system log) (same_of p pid is) ∙ keeps
done_awaited system log p (Sync pid small read took) is keeps = ap (has_awaited_backup system log) (same_of p pid is) ∙ keeps
done_awaited system log p _ is keeps = absurd (true≢false (sym is))

abbrev pub Quiet : System → List Entry → Type 0
Quiet system log = (p : Pid) → IsUnended system log p → has_awaited_backup system log p ≡ false → any_since_moved system log p (is_done_by p) ≡ false

record AllQuiet (system : System) (log : List Entry) : Type 0 where
  pub numbered : Numbered (placement system log)
  pub legal : IsLegal system log
  pub quiet : Quiet system log

module _ (system : System) (log : List Entry) (e : Entry) (may : MayFollow system log e) (all : AllQuiet system log) (p : Pid) (unended : IsUnended system (log ++ e ∷ []) p)
    (waits : has_awaited_backup system (log ++ e ∷ []) p ≡ false) where
  abbrev here : Places
  here = placement system log

  -- it is not born by it, since it was moved
  not_born : (w : What) → what e ≡ w → is_birth_of p w ≡ false
  not_born (Birth parent at child end) is = by_child (same_pid child p) refl
    where
      by_child : (b : Bool) → same_pid child p ≡ b → b ≡ false
      by_child false other = refl
      by_child true same =
          let right = born_rightly here (e.post).by parent child (subst (λ w. is_by_right here (e.post).by w ≡ true) is (may.stands).by_right)
          (subst (KindHolds system log e) is (may.stands).kind).child_is in
          let new = child_new here parent child (all.numbered) right in
          let never : was_moved system (log ++ e ∷ []) child ≡ false =
          was_moved-snoc system log e child ∙ (λ i. never_moved MayFollow system log child all.legal new i || ap (λ w. option_map_or (is_moved child here) (cluster_lost w) false) is i) in
          let one : child ≡ p = λ i. record { 0 = eqb-true child.0 p.0 same i } in
          absurd (true≢false (sym (waiting_says system (log ++ e ∷ []) p waits).moved ∙ sym (ap (was_moved system (log ++ e ∷ [])) one) ∙ never))
  not_born _ is = refl

  modes : mode_at (placement system (log ++ e ∷ [])) p ≡ mode_at here p
  modes =
      ap (λ places. mode_at places p) (placement-snoc system log e)
      ∙ mode_stays (what e) here p (not_born (what e) refl) (ap (λ places. is_some (unended_at places p)) (sym (placement-snoc system log e)) ∙ unended)

  some_map : (o : Option Placed) → is_some (option_map (λ (q : Placed). q.mode) o) ≡ is_some o
  some_map None = refl
  some_map (Some q) = refl

  was_unended : IsUnended system log p
  was_unended = sym (some_map (unended_at here p)) ∙ ap is_some (sym modes) ∙ some_map (unended_at (placement system (log ++ e ∷ [])) p) ∙ unended

  -- where it stays it waited before
  waited : moves_next system log e p ≡ false → has_awaited_backup system log p ≡ false
  waited stays = by_wait (has_awaited_backup system log p) refl
    where
      by_found : (o : Option Placed) → unended_at here p ≡ o → is_some o ≡ true → (n : Option Placed) → unended_at (placement system (log ++ e ∷ [])) p ≡ n → is_some n ≡ true
          → option_map (λ (q : Placed). q.mode) n ≡ option_map (λ (q : Placed). q.mode) o → has_awaited_backup system log p ≡ true → has_awaited_backup system (log ++ e ∷ []) p ≡ true
      by_found None there some n now is same has = absurd (true≢false (sym some))
      by_found (Some was) there some None now is same has = absurd (true≢false (sym is))
      by_found (Some was) there some (Some q) now is same has = wait_ended system log e p was q stays there now (ap (λ o. unwrap_or o q.mode) same) has

      by_wait : (b : Bool) → has_awaited_backup system log p ≡ b → b ≡ false
      by_wait false is = refl
      by_wait true is =
          absurd (true≢false (sym (by_found (unended_at here p) refl was_unended (unended_at (placement system (log ++ e ∷ [])) p) refl unended modes is) ∙ waits))

  next_quiet : any_since_moved system (log ++ e ∷ []) p (is_done_by p) ≡ false
  next_quiet = by_move (moves_next system log e p) refl
    where
      not_done : has_awaited_backup system log p ≡ false → (b : Bool) → is_done_by p (what e) ≡ b → b ≡ false
      not_done waits_still false is = refl
      not_done waits_still true is = absurd (true≢false (sym (done_awaited system log p (what e) is may.backup) ∙ waits_still))

      by_move : (b : Bool) → moves_next system log e p ≡ b → any_since_moved system (log ++ e ∷ []) p (is_done_by p) ≡ false
      by_move true moved = any_since-snoc system log e p (is_done_by p) ∙ ap (λ b. cond b false (any_since_moved system log p (is_done_by p) || is_done_by p (what e))) moved
      by_move false stays =
          let still = waited stays in
          any_since-goes_on system log e p (is_done_by p) stays ∙ (λ i. all.quiet p was_unended still i || not_done still (is_done_by p (what e)) refl i)

none_legal : (system : System) → IsLegal system []
unfolding IsLegalBy
none_legal system = tt

none_since : (system : System) (p : Pid) → any_since_moved system [] p (is_done_by p) ≡ false
unfolding told
none_since system p = refl

all_quiet : (system : System) (log : List Entry) → is_system system ≡ true → IsLegal system log → AllQuiet system log
all_quiet system log valid legal =
    legal_induction MayFollow system (AllQuiet system) (record { numbered = numbered_first system valid; legal = none_legal system; quiet = λ p unended waits. none_since system p })
    (λ log e before may. record {
      numbered = numbered_more system log e may.stands before.numbered;
      legal = IsLegal-snoc MayFollow system log e before.legal may;
      quiet = λ p unended waits. next_quiet system log e may before p unended waits;
    }) log legal

-- in a legal log a process that waits for its new backup has done nothing since it was moved
pub waiting_quiet : (system : System) (log : List Entry) (p : Pid) → is_system system ≡ true → IsLegal system log → IsUnended system log p → has_awaited_backup system log p ≡ false
    → any_since_moved system log p (is_done_by p) ≡ false
waiting_quiet system log p valid legal unended waits = (all_quiet system log valid legal).quiet p unended waits

-- ---- the post

-- where its process has done nothing since it was moved
pub standing_stands : (system : System) (log : List Entry) (k to : ClusterNo) (first : BackRec) (rest : List BackRec) → IsLegalBy Stands system log → MayHandOn system log k to first rest
    → any_since_moved system log first.pid (is_done_by first.pid) ≡ false → Stands system log (entry_of system log (standing_post k to (first ∷ rest)))
standing_stands system log k to first rest legal may quiet =
    let w = waiting_says system log first.pid may.waits in
    record {
      placed = (refl, refl, may.goes_on);
      by_right = may.by_home;
      applies = ap is_some (no_items system log (entry_of system log (standing_post k to (first ∷ rest))) (λ k. refl)) ∙ plain_there Stands (λ system log e stands. stands) system log legal;
      kind = record {
        backup = may.backup;
        fullback = λ i. w.full i && w.moved i;
        waits = quiet;
        stated = may.stated;
        family = may.family;
        records = may.records;
      };
    }

pub standing_follows : (system : System) (log : List Entry) (k to : ClusterNo) (first : BackRec) (rest : List BackRec) → is_system system ≡ true → IsLegal system log
    → MayHandOn system log k to first rest → MayFollow system log (entry_of system log (standing_post k to (first ∷ rest)))
standing_follows system log k to first rest valid legal may = record {
  stands = standing_stands system log k to first rest (legal_stands MayFollow (λ system log e may. may.stands) system log legal) may
      (waiting_quiet system log first.pid valid legal (by_home_there (placement system log) (Cluster k) first.pid may.by_home) may.waits);
  limits = refl;
  backup = refl;
  new_page = refl;
  pages = refl;
}
