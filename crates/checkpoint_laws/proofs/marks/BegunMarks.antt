-- A process that begins again, right after a page of it came, begins with the marks that the log says.
use Rattle.std.proofs.Common.{◌≡◌, ℕ, ◌<◌, refl, sym, ◌∙◌, ap, subst, arith, List, [], ◌∷◌, ◌++◌, true, false, Option, Some, None, is_some, true≢false}
use Rattle.std.specs.Option.{option_map_or}
use Rattle.t32_base.specs.declared.process.Pid.{Pid}
use Rattle.t32_base.specs.declared.letter.BackRec.{BackRec}
use Rattle.sys_text.specs.declared.system.System.{System}
use Rattle.sys_text.specs.Valid.{is_system}
use Rattle.rv_mem.specs.Memory.{page_at}
use Rattle.proc_state.specs.State.{ProcState}
use Rattle.page_waits.specs.Begun.{begun}
use Rattle.bus_msg.specs.declared.entry.What.TheVariants.{PageIs}
use Rattle.bus_msg.specs.declared.entry.Entry.{Entry}
use Rattle.bus_msg.specs.PlacedAfter.{what}
use Rattle.cert_sched.specs.Parts.{upto_last}
use Rattle.cert_sched.specs.Schedule.{process_after}
use Rattle.cert_sched.specs.Told.{cluster_lost}
use Rattle.cert_sched.specs.Deeds.{starts, start_of}
use Rattle.cert_sched.specs.Account.{Account, account_after, page_in}
use Rattle.cert_sched.specs.Moved.{moved_with_state}
use Rattle.cert_sched.specs.Record.{backup_record}
use Rattle.cert_sched.specs.Rules.{has_its_pages}
use Rattle.cert_sched.specs.Steps.{numbers_read, page_count, saved_of}
use Rattle.cert_sched.specs.Legal.{IsLegalBy, Stands}
use Rattle.cert_sched.specs.Simulation.{IsUnended}
use Rattle.cert_sched.proofs.Induction.{legal_induction}
use Rattle.cert_sched.proofs.LogLaws.{IsLegal-before, IsLegal-last, IsLegal-snoc}
use Rattle.cert_sched.proofs.RunsOutLaws.{record_of}
use Rattle.cert_sched.proofs.ThereLaws.{unended_there}
use Rattle.log_laws.specs.pages.Next.{moves_next}
use Rattle.log_laws.proofs.pages.OneEntry.{moved-goes_on, moves_none}
use Rattle.log_laws.proofs.pages.SizesStay.{process_sized, start_sized}
use Rattle.log_laws.proofs.pages.StartPages.{IsWaitingRule, kept_pages}
use Rattle.log_laws.proofs.pages.Waiting.{came_waited, waited_has_not, waited_lacks}
use Rattle.log_laws.proofs.letters.LogReads.{itself, saved_from}
use Rattle.checkpoint_laws.specs.posts.Marked.{IsMarked, arrived_below}
use Rattle.checkpoint_laws.proofs.posts.PageEntry.{account_next}
use Rattle.checkpoint_laws.specs.marks.Sent.{SentUpto, is_later_page}
use Rattle.checkpoint_laws.proofs.marks.AwaitedPages.{lacks_kept, lacks_sent}
use Rattle.checkpoint_laws.proofs.marks.BootMarks.{no_mark, none_read}
use Rattle.checkpoint_laws.proofs.marks.SentPages.{sent_on}

pub none_legal : (system : System) → IsLegalBy Stands system []
unfolding IsLegalBy
none_legal system = tt

-- by such a rule each entry stands
legal_so : (May : System → List Entry → Entry → Type 0) → IsWaitingRule May → (system : System) (log : List Entry) → IsLegalBy May system log → IsLegalBy Stands system log
legal_so May waiting system log legal =
    legal_induction May system (λ log. IsLegalBy Stands system log) (none_legal system) (λ log e before may. IsLegal-snoc Stands system log e before (waiting system log e may).0) log legal

module _ (May : System → List Entry → Entry → Type 0) (waiting : IsWaitingRule May) (system : System) (log : List Entry) (e : Entry) (p : Pid) (i : ℕ) (bytes : List ℕ) (legal : IsLegalBy May system (log ++ e ∷ []))
    (is : what e ≡ PageIs p i bytes) where
  legal_before : IsLegalBy May system log
  legal_before = IsLegal-before May system log e legal

  stood : IsLegalBy Stands system log
  stood = legal_so May waiting system log legal_before

  -- before the page came the process lacked it
  lacked : has_its_pages system log p ≡ false
  lacked = waited_has_not system log p i stood (came_waited system log e p i bytes (waiting system log e (IsLegal-last May system log e legal)).0 is)

  stays : moves_next system log e p ≡ false
  stays = moves_none system log e (ap cluster_lost is) p

  moved : moved_with_state system (log ++ e ∷ []) p ≡ true
  moved = moved-goes_on system log e p stays ∙ (waited_lacks system log p i stood (came_waited system log e p i bytes (waiting system log e (IsLegal-last May system log e legal)).0 is)).moved

  same_account : account_after system (log ++ e ∷ []) p ≡ account_after system log p
  same_account = account_next system log e p (PageIs p i bytes) is

  kept_now : (account_after system (log ++ e ∷ []) p).now ≡ (account_after system (log ++ e ∷ []) p).kept
  kept_now =
      ap (λ (a : Account). a.now) same_account
      ∙ lacks_kept May waiting system log p legal_before lacked
      ∙ sym (ap (λ (a : Account). a.kept) same_account)

  sent_none : (n : ℕ) → SentUpto system (log ++ e ∷ []) p n
  sent_none n = sent_on system log p e n (ap (is_later_page p n) is) (lacks_sent May waiting system log p n legal_before lacked)

  module _ (valid : is_system system ≡ true) (unended : IsUnended system (log ++ e ∷ []) p) (start : ProcState) (kept : BackRec) (started : start_of system (log ++ e ∷ []) p ≡ Some start)
      (recorded : backup_record system (log ++ e ∷ []) p ≡ Some kept) where
    later : List Entry
    later = log ++ e ∷ []

    standing : IsLegalBy Stands system later
    unfolding later
    standing = legal_so May waiting system (log ++ e ∷ []) legal

    -- its start has as many pages as it has
    pages : (start.small).pages ≡ page_count system later p
    unfolding later
    pages = by_process (process_after system later p) refl (unended_there Stands itself system later p valid standing unended)
      where
        by_process : (o : Option ProcState) → process_after system later p ≡ o → is_some o ≡ true → (start.small).pages ≡ page_count system later p
        by_process None there some = absurd (true≢false (sym some))
        by_process (Some now) there some =
            let size = start_sized system later p start now valid there started in
            let own = process_sized system (upto_last (starts p) later) p start valid started in
            omega (arith, size, own)

    saved : saved_of system later p ≡ kept.saved
    unfolding later
    saved = saved_from system later p start started ∙ ap (λ (r : BackRec). r.saved) (record_of system later p start kept started recorded)

    clean : (j : ℕ) → j < (start.small).pages → page_in (account_after system later p).now j ≡ Some (page_at start.memory j)
    unfolding later
    clean j within =
        ap (λ pages. page_in pages j) kept_now
        ∙ kept_pages system later p start j valid standing moved unended started (subst (λ n. j < n) pages within)

    begins : IsMarked system (log ++ e ∷ []) p (begun start kept).process
    unfolding later
    begins = record {
      since_start = sym (ap (λ (o : Option ProcState). option_map_or (λ (s : ProcState). (s.small).steps) o 0) started);
      read = sym (ap (λ letters. numbers_read (arrived_below kept.next letters) kept.saved) saved ∙ none_read kept.next kept.saved kept.saved (λ a is. is));
      clean = λ j within unmarked. clean j within;
      unsent = λ j within is. absurd (true≢false (sym is ∙ no_mark (start.small).pages j));
    }

pub begun_marked : (May : System → List Entry → Entry → Type 0) → IsWaitingRule May → (system : System) (log : List Entry) (e : Entry) (p : Pid) (i : ℕ) (bytes : List ℕ) (start : ProcState) (kept : BackRec)
    → is_system system ≡ true → IsLegalBy May system (log ++ e ∷ []) → IsUnended system (log ++ e ∷ []) p → what e ≡ PageIs p i bytes → start_of system (log ++ e ∷ []) p ≡ Some start → backup_record system (log ++ e ∷ []) p ≡ Some kept
    → IsMarked system (log ++ e ∷ []) p (begun start kept).process
begun_marked May waiting system log e p i bytes start kept valid legal unended is started recorded = begins May waiting system log e p i bytes legal is valid unended start kept started recorded

pub begun_sent : (May : System → List Entry → Entry → Type 0) → IsWaitingRule May → (system : System) (log : List Entry) (e : Entry) (p : Pid) (i : ℕ) (bytes : List ℕ) (n : ℕ) → IsLegalBy May system (log ++ e ∷ []) → what e ≡ PageIs p i bytes
    → SentUpto system (log ++ e ∷ []) p n
begun_sent May waiting system log e p i bytes n legal is = sent_none May waiting system log e p i bytes legal is n
