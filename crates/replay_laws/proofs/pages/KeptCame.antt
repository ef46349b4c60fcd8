-- Each page that came since a crash moved a process is kept for it, while it has not ended.
use Rattle.std.proofs.Common.{◌≡◌, ℕ, refl, sym, ◌∙◌, ap, List, [], ◌∷◌, ◌++◌, Bool, true, false, cond, ◌||◌, Option, Some, None, is_some, true≢false}
use Rattle.std.specs.Option.{option_map_or}
use Rattle.std.specs.Ordering.{nat_cmp, eq_by_cmp}
use Rattle.std.specs.FinMap.{put}
use Rattle.std.specs.FinMap.Entries.{find-put}
use Rattle.std.specs.Cmp.{nat_cmp_total}
use Rattle.std.proofs.lemmas.Bool.{or_parts}
use Rattle.t32_base.specs.declared.process.Pid.{Pid}
use Rattle.sys_text.specs.declared.system.System.{System}
use Rattle.proc_state.specs.State.{ProcState}
use Rattle.plain_kernel.specs.Kernel.{boot, process_at}
use Rattle.bus_msg.specs.declared.entry.What.{What}
use Rattle.bus_msg.specs.declared.entry.What.TheVariants.{Page}
use Rattle.bus_msg.specs.declared.entry.Entry.{Entry}
use Rattle.bus_msg.specs.Places.{same_pid}
use Rattle.bus_msg.specs.PlacedAfter.{what}
use Rattle.cert_sched.specs.Told.{told, moves}
use Rattle.cert_sched.specs.Deeds.{is_cut}
use Rattle.cert_sched.specs.Account.{Account, no_pages, committed, reverted, image_pages, page_in, page_put, account_after, is_exit_of}
use Rattle.cert_sched.specs.Moved.{any_since_moved, is_page_is}
use Rattle.cert_sched.specs.Legal.{IsLegalBy, Stands}
use Rattle.cert_sched.specs.Simulation.{IsUnended}
use Rattle.cert_sched.proofs.LogLaws.{account_after-snoc}
use Rattle.cert_sched.proofs.Induction.{legal_induction}
use Rattle.log_laws.specs.pages.Next.{next_told, moves_next}
use Rattle.log_laws.proofs.pages.OneEntry.{any_since-snoc}
use Rattle.log_laws.proofs.pages.Waiting.{page_came, page_is_holds}
use Rattle.replay_laws.proofs.pages.NotExited.{has_exited, has_exited-snoc, unended_not_exited}

-- an account has the page i
abbrev Has : List (ℕ × List ℕ) → ℕ → Type 0
Has pages i = is_some (page_in pages i) ≡ true

-- a page that comes takes none away
put_keeps : (p : Pid) (w : What) (pages : List (ℕ × List ℕ)) (i : ℕ) → Has pages i → Has (page_put p w pages) i
put_keeps p (Page q at index bytes) pages i has = by_test (same_pid q p)
  where
    there : (b : Bool) → is_some (cond b (Some bytes) (page_in pages i)) ≡ true
    there true = refl
    there false = has

    by_test : (b : Bool) → Has (cond b (put nat_cmp index bytes pages) pages) i
    by_test true = ap is_some (find-put nat_cmp nat_cmp_total i index bytes pages) ∙ there (eq_by_cmp nat_cmp i index)
    by_test false = has
put_keeps p w pages i has = has

-- an account after an entry, by whether it is an exit, a cut or a crash that moves the process
abbrev After : Bool → Bool → Bool → Account → List (ℕ × List ℕ) → Account
After exit cut moved a more = cond exit no_pages (cond cut (committed a) (cond moved (reverted a) (record { now = more; kept = a.kept })))

-- what is kept came last too
now_after : (exit cut moved : Bool) (a : Account) (more : List (ℕ × List ℕ)) (i : ℕ) → exit ≡ false → (Has a.now i → Has more i) → (Has a.kept i → Has a.now i)
    → Has (After exit cut moved a more).kept i → Has (After exit cut moved a more).now i
now_after true cut moved a more i stays put both has = absurd (true≢false stays)
now_after false true moved a more i stays put both has = has
now_after false false true a more i stays put both has = has
now_after false false false a more i stays put both has = put (both has)

-- and what was kept is kept
kept_after : (exit cut moved : Bool) (a : Account) (more : List (ℕ × List ℕ)) (i : ℕ) → exit ≡ false → (Has a.kept i → Has a.now i) → Has a.kept i → Has (After exit cut moved a more).kept i
kept_after true cut moved a more i stays both has = absurd (true≢false stays)
kept_after false true moved a more i stays both has = both has
kept_after false false true a more i stays both has = has
kept_after false false false a more i stays both has = has

-- what is kept of a process came last too, and each of its pages that came is kept
record Keeps (system : System) (log : List Entry) (p : Pid) (i : ℕ) : Type 0 where
  pub both : Has (account_after system log p).kept i → Has (account_after system log p).now i
  pub came : any_since_moved system log p (is_page_is p i) ≡ true → Has (account_after system log p).kept i

keeps_at_boot : (system : System) (p : Pid) (i : ℕ) → Keeps system [] p i
unfolding told account_after
keeps_at_boot system p i = record { both = by_process (process_at (boot system) p); came = λ seen. absurd (true≢false (sym seen)) }
  where
    by_process : (o : Option ProcState) → Has (option_map_or image_pages o no_pages).kept i → Has (option_map_or image_pages o no_pages).now i
    by_process None has = has
    by_process (Some s) has = has

module _ (system : System) (log : List Entry) (e : Entry) (p : Pid) (i : ℕ) (stands : Stands system log e) (stays : is_exit_of p (what e) ≡ false) (before : Keeps system log p i) where
  after_is : account_after system (log ++ e ∷ []) p ≡ After (is_exit_of p (what e)) (is_cut p (what e)) (moves p (next_told system log e)) (account_after system log p) (page_put p (what e) (account_after system log p).now)
  after_is = account_after-snoc system log e p

  kept_before : any_since_moved system (log ++ e ∷ []) p (is_page_is p i) ≡ true → Has (account_after system log p).kept i
  kept_before seen = by_tests (moves_next system log e p) (any_since_moved system log p (is_page_is p i)) (is_page_is p i (what e)) refl refl (sym (any_since-snoc system log e p (is_page_is p i)) ∙ seen)
    where
      by_tests : (moved any here : Bool) → any_since_moved system log p (is_page_is p i) ≡ any → is_page_is p i (what e) ≡ here → cond moved false (any || here) ≡ true → Has (account_after system log p).kept i
      by_tests true any here seen_before is h = absurd (true≢false (sym h))
      by_tests false true here seen_before is h = before.came seen_before
      by_tests false false true seen_before is h = let page = page_came (what e) p i is in ap is_some (page_is_holds system log e p i page.bytes stands page.is).page
      by_tests false false false seen_before is h = absurd (true≢false (sym h))

  keeps_after : Keeps system (log ++ e ∷ []) p i
  keeps_after = record {
    both = λ has.
        ap (λ (a : Account). is_some (page_in a.now i)) after_is
        ∙ now_after (is_exit_of p (what e)) (is_cut p (what e)) (moves p (next_told system log e)) (account_after system log p) (page_put p (what e) (account_after system log p).now) i stays (put_keeps p (what e) (account_after system log p).now i) before.both (sym (ap (λ (a : Account). is_some (page_in a.kept i)) after_is) ∙ has);
    came = λ seen.
        ap (λ (a : Account). is_some (page_in a.kept i)) after_is
        ∙ kept_after (is_exit_of p (what e)) (is_cut p (what e)) (moves p (next_told system log e)) (account_after system log p) (page_put p (what e) (account_after system log p).now) i stays before.both (kept_before seen);
  }

keeps_in : (system : System) (log : List Entry) (p : Pid) (i : ℕ) → IsLegalBy Stands system log → has_exited log p ≡ false → Keeps system log p i
keeps_in system log p i legal = legal_induction Stands system (λ log. has_exited log p ≡ false → Keeps system log p i) (λ stays. keeps_at_boot system p i) next log legal
  where
    next : (log : List Entry) (e : Entry) → (has_exited log p ≡ false → Keeps system log p i) → Stands system log e → has_exited (log ++ e ∷ []) p ≡ false → Keeps system (log ++ e ∷ []) p i
    next log e before stands stays =
        let both = or_parts (has_exited log p) (is_exit_of p (what e)) (sym (has_exited-snoc log e p) ∙ stays) in
        keeps_after system log e p i stands both.1 (before both.0)

-- a page that came is kept
pub came_kept : (system : System) (log : List Entry) (p : Pid) (i : ℕ) → IsLegalBy Stands system log → IsUnended system log p → any_since_moved system log p (is_page_is p i) ≡ true → is_some (page_in (account_after system log p).kept i) ≡ true
came_kept system log p i legal unended = (keeps_in system log p i legal (unended_not_exited system log p legal unended)).came
