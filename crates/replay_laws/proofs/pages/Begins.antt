-- A process that a crash moves waits for all its pages from then on.
use Rattle.std.proofs.Common.{◌≡◌, ℕ, zero, suc, ◌<◌, ◌≤◌, refl, sym, ◌∙◌, ap, subst, arith, List, [], ◌∷◌, ◌++◌, length, Bool, true, false, cond, ◌||◌, Option, Some, None, slice_get, true≢false}
use Rattle.std.specs.Prelude.{nat_lt, replicate}
use Rattle.std.specs.Option.{option_map_or}
use Rattle.std.proofs.lemmas.Bool.Decides.{nat_tests}
use Rattle.std.proofs.lemmas.List.{length-replicate}
use Rattle.t32_base.specs.declared.process.Pid.{Pid}
use Rattle.t32_base.specs.declared.process.ClusterNo.{ClusterNo}
use Rattle.t32_base.specs.declared.letter.BackRec.{BackRec}
use Rattle.sys_text.specs.declared.system.System.{System}
use Rattle.sys_text.specs.Valid.{is_system}
use Rattle.bus_msg.specs.declared.entry.What.{What}
use Rattle.bus_msg.specs.declared.entry.What.TheVariants.{Crash}
use Rattle.bus_msg.specs.declared.entry.Entry.{Entry}
use Rattle.bus_msg.specs.PlacedAfter.{what}
use Rattle.cert_sched.specs.Schedule.{placement}
use Rattle.cert_sched.specs.Told.{cluster_lost, is_moved}
use Rattle.cert_sched.specs.Account.{account_after, page_in}
use Rattle.cert_sched.specs.Deeds.{is_cut}
use Rattle.cert_sched.specs.Moved.{any_since_moved, moved_with_state, is_fetch, is_page_is}
use Rattle.cert_sched.specs.Record.{backup_record, has_state}
use Rattle.cert_sched.specs.Legal.{IsLegalBy, Stands}
use Rattle.cert_sched.specs.Simulation.{IsUnended}
use Rattle.cert_sched.proofs.LogLaws.{IsLegal-before, IsLegal-last}
use Rattle.cert_sched.proofs.ThereLaws.{unended_there}
use Rattle.log_laws.proofs.records.Standing.{itself}
use Rattle.log_laws.specs.pages.Next.{moves_next}
use Rattle.log_laws.proofs.pages.OneEntry.{any_since-snoc, moved_with_state-snoc}
use Rattle.page_waits.specs.Waiting.{page_count as pages_of}
use Rattle.replay_laws.specs.pages.Waits.{WaitsAs, first_wait, none_queued}
use Rattle.replay_laws.proofs.pages.RecordPages.{HasPages, has_pages_so}
use Rattle.replay_laws.proofs.pages.PageCounts.{count_stays}
use Rattle.replay_laws.proofs.pages.Records.{record_next, loss_leaves}

pub none_below : (i : ℕ) → nat_lt i 0 ≡ false
none_below i = grind (arith, nat_tests)

each_same : {X : Type 0} (n i : ℕ) (x : X) → i < n → slice_get (replicate n x) i ≡ Some x
each_same zero i x within = absurd (omega (arith, within))
each_same (suc n) zero x within = refl
each_same (suc n) (suc i) x within = each_same n i x (omega (arith, within))

-- what moves a process is a loss, and cuts none
pub loss_cuts_none : (p : Pid) (w : What) (moved : ClusterNo → Bool) → option_map_or moved (cluster_lost w) false ≡ true → is_cut p w ≡ false
loss_cuts_none p (Crash k cause) moved moves = refl
loss_cuts_none p w moved moves = absurd (true≢false (sym moves))

pub begins_so : (system : System) (log : List Entry) (e : Entry) (p : Pid) (kept : BackRec) → is_system system ≡ true → IsLegalBy Stands system (log ++ e ∷ []) → IsUnended system log p → has_state system log p ≡ true
    → moves_next system log e p ≡ true → backup_record system log p ≡ Some kept → WaitsAs system (log ++ e ∷ []) p none_queued (first_wait kept)
begins_so system log e p kept valid legal unended stated moves is = record {
  kept = record_next system log e p kept valid legal (loss_cuts_none p (what e) (is_moved p (placement system log)) moves) unended is ∙ ap Some (loss_leaves (what e) (is_moved p (placement system log)) kept moves);
  moved = moved_with_state-snoc system log e p ∙ (λ i. cond (moves i) (has_state system log p) (moved_with_state system log p)) ∙ stated;
  pages = many ∙ pages.same ∙ sym (count_stays system log e p (IsLegal-last Stands system log e legal).applies (unended_there Stands itself system log p valid before unended));
  some = omega (arith, many, least);
  at_most = omega (arith, many, most);
  asked = λ i within. none_below i ∙ sym (ap (λ b. b || false) (none_since (is_fetch p i)));
  come = λ i within.
      each_same (pages_of kept) i None (subst (λ n. i < n) many within)
      ∙ ap Some (sym (ap (λ b. cond b (page_in (account_after system (log ++ e ∷ []) p).kept i) None) (none_since (is_page_is p i))));
}
  where
    before : IsLegalBy Stands system log
    before = IsLegal-before Stands system log e legal

    pages : HasPages system log p kept
    pages = has_pages_so system log p kept valid before unended stated is

    least : 1 ≤ pages_of kept
    least = pages.some

    most : pages_of kept ≤ 256
    most = pages.at_most

    many : length (replicate {A = Option (List ℕ)} (pages_of kept) None) ≡ pages_of kept
    many = length-replicate (pages_of kept) None

    none_since : (test : What → Bool) → any_since_moved system (log ++ e ∷ []) p test ≡ false
    none_since test = any_since-snoc system log e p test ∙ ap (λ b. cond b false (any_since_moved system log p test || test (what e))) moves
