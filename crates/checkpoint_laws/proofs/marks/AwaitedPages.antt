-- A process that lacks pages since a crash moved it has sent none since, and its account has nothing but what was kept.
use Rattle.std.proofs.Common.{◌≡◌, ℕ, refl, sym, ◌∙◌, ap, List, [], ◌∷◌, ◌++◌, Bool, true, false, cond, ◌||◌, Option, Some, None, is_some, true≢false}
use Rattle.std.specs.Option.{option_map_or}
use Rattle.std.proofs.lemmas.Bool.{false_from_ne_true}
use Rattle.t32_base.specs.declared.process.Pid.{Pid}
use Rattle.t32_base.specs.Account.{Account, no_pages, committed, reverted}
use Rattle.sys_text.specs.declared.system.System.{System}
use Rattle.proc_state.specs.State.{ProcState}
use Rattle.plain_kernel.specs.Kernel.{boot, process_at}
use Rattle.bus_msg.specs.declared.entry.What.{What}
use Rattle.bus_msg.specs.declared.entry.What.TheVariants.{Page}
use Rattle.bus_msg.specs.declared.entry.Entry.{Entry}
use Rattle.bus_msg.specs.PlacedAfter.{what}
use Rattle.cert_sched.specs.Told.{told}
use Rattle.cert_sched.specs.Schedule.{process_after}
use Rattle.cert_sched.specs.Deeds.{is_birth_of, is_cut}
use Rattle.cert_sched.specs.Account.{account_after, image_pages, is_exit_of, page_put}
use Rattle.cert_sched.specs.Moved.{any_since_moved}
use Rattle.cert_sched.specs.Rules.{awaits_pages, has_its_pages, holds_of}
use Rattle.cert_sched.specs.Steps.{process_of}
use Rattle.cert_sched.specs.Kinds.{KindHolds}
use Rattle.cert_sched.specs.Legal.{IsLegalBy, Stands, KeepsWaits}
use Rattle.cert_sched.proofs.BornLaws.{there_not_born}
use Rattle.cert_sched.proofs.CameLaws.{same_of}
use Rattle.cert_sched.proofs.Induction.{legal_induction}
use Rattle.cert_sched.proofs.LogLaws.{account_after-snoc}
use Rattle.log_laws.specs.pages.Next.{moves_next}
use Rattle.log_laws.proofs.pages.Keeping.{pages_kept}
use Rattle.log_laws.proofs.pages.PagesStay.{paged_there, there_stays}
use Rattle.log_laws.proofs.pages.OneEntry.{any_since-snoc}
use Rattle.log_laws.proofs.pages.StartPages.{IsWaitingRule}
use Rattle.checkpoint_laws.specs.marks.Beside.{is_some_page}
use Rattle.checkpoint_laws.specs.marks.Sent.{SentUpto}
use Rattle.checkpoint_laws.proofs.marks.EntryMarks.{no_put}
use Rattle.checkpoint_laws.proofs.marks.SentPages.{unsent_upto}

-- its account is as the last commit left it, and no page of it was sent since
record IsStill (system : System) (log : List Entry) (p : Pid) : Type 0 where
  pub same : (account_after system log p).now ≡ (account_after system log p).kept
  pub none : any_since_moved system log p (is_some_page p) ≡ false

still_at_boot : (system : System) (p : Pid) → IsStill system [] p
unfolding told account_after
still_at_boot system p = record { same = by_process (process_at (boot system) p); none = refl }
  where
    by_process : (o : Option ProcState) → (option_map_or image_pages o no_pages).now ≡ (option_map_or image_pages o no_pages).kept
    by_process None = refl
    by_process (Some s) = refl

-- who sends a page has its pages
sender_has : (system : System) (log : List Entry) (p : Pid) (w : What) → is_some_page p w ≡ true → holds_of (awaits_pages w) (process_of w) (has_its_pages system log) ≡ true → has_its_pages system log p ≡ true
sender_has system log p (Page q at index bytes) is keeps = ap (has_its_pages system log) (sym (same_of q p is)) ∙ keeps
sender_has system log p _ is keeps = absurd (true≢false (sym is))

-- an exit, a cut and a crash that moves the process leave both alike; so does any other entry that puts no page
alike_after : (exit cut moved : Bool) (a : Account) (more : List (ℕ × List ℕ)) → (moved ≡ false → more ≡ a.kept)
    → (cond exit no_pages (cond cut (committed a) (cond moved (reverted a) (record { now = more; kept = a.kept })))).now ≡ (cond exit no_pages (cond cut (committed a) (cond moved (reverted a) (record { now = more; kept = a.kept })))).kept
alike_after true cut moved a more same = refl
alike_after false true moved a more same = refl
alike_after false false true a more same = refl
alike_after false false false a more same = same refl

-- So it is where the process lacks pages, and where it is not there yet.
record StaysStill (system : System) (log : List Entry) (p : Pid) : Type 0 where
  pub lacking : has_its_pages system log p ≡ false → IsStill system log p
  pub absent : is_some (process_after system log p) ≡ false → IsStill system log p

module _ (system : System) (log : List Entry) (e : Entry) (p : Pid) (stands : Stands system log e) (keeps : KeepsWaits system log e) (before : StaysStill system log p) where
  account : Account
  account = account_after system log p

  still_after : (moves_next system log e p ≡ false → IsStill system log p × (is_some_page p (what e) ≡ false)) → IsStill system (log ++ e ∷ []) p
  unfolding account
  still_after was =
      let is = account_after-snoc system log e p in
      record {
        same =
            ap (λ (a : Account). a.now) is
            ∙ alike_after (is_exit_of p (what e)) (is_cut p (what e)) (moves_next system log e p) account (page_put p (what e) account.now)
            (λ stays. no_put p (what e) account.now (was stays).1 ∙ ((was stays).0).same)
            ∙ sym (ap (λ (a : Account). a.kept) is);
        none = any_since-snoc system log e p (is_some_page p) ∙ by_move (moves_next system log e p) refl;
      }
    where
      by_move : (b : Bool) → moves_next system log e p ≡ b → cond b false (any_since_moved system log p (is_some_page p) || is_some_page p (what e)) ≡ false
      by_move true moves = refl
      by_move false stays = λ i. ((was stays).0).none i || (was stays).1 i

  -- ---- where it is not there

  -- who sends a page is there
  page_there : (w : What) → KindHolds system log e w → is_some_page p w ≡ true → is_some (process_after system log p) ≡ true
  page_there (Page q at index bytes) kind is = ap (λ r. is_some (process_after system log r)) (sym (same_of q p is)) ∙ paged_there system log q index kind.within
  page_there _ kind is = absurd (true≢false (sym is))

  still_absent : is_some (process_after system log p) ≡ false → IsStill system (log ++ e ∷ []) p
  still_absent none = still_after (λ stays. (before.absent none, false_from_ne_true (is_some_page p (what e)) (λ is. true≢false (sym (page_there (what e) stands.kind is) ∙ none))))

  absent_before : is_some (process_after system (log ++ e ∷ []) p) ≡ false → is_some (process_after system log p) ≡ false
  absent_before none = false_from_ne_true (is_some (process_after system log p)) (λ there. true≢false (sym (there_stays system log e p there stands.applies) ∙ none))

  -- ---- where it lacks pages

  born_absent : is_birth_of p (what e) ≡ true → is_some (process_after system log p) ≡ false
  born_absent birth = by_process (process_after system log p) refl
    where
      by_process : (o : Option ProcState) → process_after system log p ≡ o → is_some o ≡ false
      by_process None here = refl
      by_process (Some was) here = absurd (true≢false (sym birth ∙ there_not_born system log e p was stands.applies here))

  still_lacking : has_its_pages system (log ++ e ∷ []) p ≡ false → IsStill system (log ++ e ∷ []) p
  still_lacking lacks = by_birth (is_birth_of p (what e)) refl
    where
      -- where it is not born it lacked them before
      lacked : is_birth_of p (what e) ≡ false → moves_next system log e p ≡ false → has_its_pages system log p ≡ false
      lacked no_birth stays = false_from_ne_true (has_its_pages system log p) (λ has. true≢false (sym (pages_kept system log e p stands no_birth stays has) ∙ lacks))

      by_birth : (b : Bool) → is_birth_of p (what e) ≡ b → IsStill system (log ++ e ∷ []) p
      by_birth true birth = still_absent (born_absent birth)
      by_birth false other = still_after (λ stays. (
        before.lacking (lacked other stays),
        false_from_ne_true (is_some_page p (what e)) (λ is. true≢false (sym (sender_has system log p (what e) is keeps) ∙ lacked other stays)),
      ))

still : (May : System → List Entry → Entry → Type 0) → IsWaitingRule May → (system : System) (log : List Entry) (p : Pid) → IsLegalBy May system log → has_its_pages system log p ≡ false → IsStill system log p
still May waiting system log p legal =
    (legal_induction May system (λ log. StaysStill system log p) (record { lacking = λ lacks. still_at_boot system p; absent = λ none. still_at_boot system p })
    (λ log e before may. let w = waiting system log e may in record {
      lacking = still_lacking system log e p w.0 w.1 before;
      absent = λ none. still_absent system log e p w.0 w.1 before (absent_before system log e p w.0 w.1 before none);
    }) log legal).lacking

pub lacks_sent : (May : System → List Entry → Entry → Type 0) → IsWaitingRule May → (system : System) (log : List Entry) (p : Pid) (n : ℕ) → IsLegalBy May system log → has_its_pages system log p ≡ false → SentUpto system log p n
lacks_sent May waiting system log p n legal lacks =
    unsent_upto system log p n (still May waiting system log p legal lacks).none

pub lacks_kept : (May : System → List Entry → Entry → Type 0) → IsWaitingRule May → (system : System) (log : List Entry) (p : Pid) → IsLegalBy May system log → has_its_pages system log p ≡ false
    → (account_after system log p).now ≡ (account_after system log p).kept
lacks_kept May waiting system log p legal lacks = (still May waiting system log p legal lacks).same
