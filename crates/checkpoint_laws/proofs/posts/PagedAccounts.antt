-- The pages of an account stand by rising number, and each is one of its process.
use Rattle.std.proofs.Common.{◌≡◌, ℕ, ◌*◌, ◌<◌, ◌≤◌, refl, sym, ◌∙◌, ap, subst, arith, List, [], ◌∷◌, ◌++◌, length, Bool, true, false, T, cond, ne_eqb, Option, Some, None}
use Rattle.std.specs.Option.{option_map_or}
use Rattle.std.specs.Cmp.{nat_cmp_total, unsigned_tied}
use Rattle.std.specs.FinMap.{put, is_sorted}
use Rattle.std.specs.FinMap.Entries.{find-put, is_sorted-put}
use Rattle.std.specs.Ordering.{nat_cmp}
use Rattle.t32_base.specs.declared.process.Pid.{Pid}
use Rattle.t32_base.specs.Account.{Account, no_pages, page_in, committed, reverted}
use Rattle.sys_text.specs.declared.system.System.{System}
use Rattle.sys_text.specs.Valid.{is_system}
use Rattle.proc_state.specs.State.{ProcState}
use Rattle.bus_msg.specs.declared.entry.What.{What}
use Rattle.bus_msg.specs.declared.entry.What.TheVariants.{Page}
use Rattle.bus_msg.specs.declared.entry.Entry.{Entry}
use Rattle.bus_msg.specs.Places.{same_pid}
use Rattle.bus_msg.specs.PlacedAfter.{what}
use Rattle.cert_sched.specs.Schedule.{plain_after, placement, process_after}
use Rattle.cert_sched.specs.Told.{told, cluster_lost, is_moved}
use Rattle.cert_sched.specs.Deeds.{is_cut}
use Rattle.cert_sched.specs.Account.{account_after, all_pages, image_pages, is_exit_of, page_put}
use Rattle.cert_sched.specs.Steps.{page_count}
use Rattle.cert_sched.specs.Kinds.{KindHolds}
use Rattle.cert_sched.specs.Legal.{IsLegalBy, Stands}
use Rattle.cert_sched.proofs.Induction.{legal_induction}
use Rattle.cert_sched.proofs.CameLaws.{same_of}
use Rattle.log_laws.proofs.pages.PagesStay.{page_count-rises}
use Rattle.log_laws.proofs.pages.SizesStay.{process_sized}
use Rattle.checkpoint_laws.specs.posts.Paged.{ArePaged}
use Rattle.checkpoint_laws.proofs.posts.WholePages.{no_page_behind, pages_rise}
use Rattle.checkpoint_laws.proofs.posts.PageEntry.{account_next}

-- so of both accounts
pub record BothPaged (n : ℕ) (a : Account) : Type 0 where
  pub now : ArePaged n a.now
  pub kept : ArePaged n a.kept

none_paged : (n : ℕ) → ArePaged n []
none_paged n = record { rising = refl; within = λ i behind. refl }

-- ---- a page that is put

true_of : (b : Bool) → T b → b ≡ true
true_of true holds = refl
true_of false holds = absurd holds

holds_of : (b : Bool) → b ≡ true → T b
holds_of b is = let P : Bool → Type 0 = λ b. T b in subst P (sym is) tt

put_paged : (n i : ℕ) (bytes : List ℕ) (pages : List (ℕ × List ℕ)) → i < n → ArePaged n pages → ArePaged n (put nat_cmp i bytes pages)
put_paged n i bytes pages below paged = record {
  rising = true_of (is_sorted nat_cmp (put nat_cmp i bytes pages)) (is_sorted-put nat_cmp nat_cmp_total i bytes pages (holds_of (is_sorted nat_cmp pages) paged.rising));
  within = λ j behind.
      find-put nat_cmp nat_cmp_total j i bytes pages
      ∙ ap (λ b. cond b (Some bytes) (page_in pages j)) (unsigned_tied j i ∙ ne_eqb j i (λ at. omega (arith, at, below, behind)))
      ∙ paged.within j behind;
}

-- pages of fewer are pages of more
wider : (n m : ℕ) (pages : List (ℕ × List ℕ)) → n ≤ m → ArePaged n pages → ArePaged m pages
wider n m pages fewer paged = record { rising = paged.rising; within = λ i behind. paged.within i (omega (arith, fewer, behind)) }

module _ (system : System) (p : Pid) where
  -- ---- at boot

  at_boot : is_system system ≡ true → BothPaged (page_count system [] p) (account_after system [] p)
  unfolding plain_after account_after told
  at_boot valid = by_process (process_after system [] p) refl
    where
      by_process : (o : Option ProcState) → process_after system [] p ≡ o → BothPaged (option_map_or (λ (s : ProcState). (s.small).pages) o 0) (option_map_or image_pages o no_pages)
      by_process None is = record { now = none_paged 0; kept = none_paged 0 }
      by_process (Some s) is =
          let size : length s.memory ≡ 256 * (s.small).pages = process_sized system [] p s valid is in
          let paged : ArePaged (s.small).pages (all_pages s.memory) = record { rising = pages_rise s.memory (s.small).pages size; within = λ i behind. no_page_behind s.memory (s.small).pages i size behind } in
          record { now = paged; kept = paged }

  -- ---- one more entry

  module _ (log : List Entry) (e : Entry) (stands : Stands system log e) where
    put_of : (w : What) → KindHolds system log e w → (pages : List (ℕ × List ℕ)) → ArePaged (page_count system log p) pages → ArePaged (page_count system log p) (page_put p w pages)
    put_of (Page q at index bytes) kind pages paged = by_test (same_pid q p) refl
      where
        by_test : (b : Bool) → same_pid q p ≡ b → ArePaged (page_count system log p) (cond b (put nat_cmp index bytes pages) pages)
        by_test true is = put_paged (page_count system log p) index bytes pages (subst (λ n. index < n) (ap (page_count system log) (same_of q p is)) kind.within) paged
        by_test false is = paged
    put_of _ kind pages paged = paged

    by_tests : (exits cuts moved : Bool) (n : ℕ) (a : Account) (now : List (ℕ × List ℕ)) → BothPaged n a → ArePaged n now
        → BothPaged n (cond exits no_pages (cond cuts (committed a) (cond moved (reverted a) (record { now = now; kept = a.kept }))))
    by_tests true cuts moved n a now before put_now = record { now = none_paged n; kept = none_paged n }
    by_tests false true moved n a now before put_now = record { now = before.now; kept = before.now }
    by_tests false false true n a now before put_now = record { now = before.kept; kept = before.kept }
    by_tests false false false n a now before put_now = record { now = put_now; kept = before.kept }

    one_more : BothPaged (page_count system log p) (account_after system log p) → BothPaged (page_count system (log ++ e ∷ []) p) (account_after system (log ++ e ∷ []) p)
    one_more before =
        let a : Account = account_after system log p in
        let n : ℕ = page_count system log p in
        let m : ℕ = page_count system (log ++ e ∷ []) p in
        let no_fewer : n ≤ m = page_count-rises system log e p stands.applies in
        let later : BothPaged n (account_after system (log ++ e ∷ []) p) =
        subst (λ (a : Account). BothPaged n a) (sym (account_next system log e p (what e) refl))
        (by_tests (is_exit_of p (what e)) (is_cut p (what e)) (option_map_or (is_moved p (placement system log)) (cluster_lost (what e)) false) n a (page_put p (what e) a.now) before
        (put_of (what e) stands.kind a.now before.now)) in
        record {
          now = wider n m (account_after system (log ++ e ∷ []) p).now no_fewer later.now;
          kept = wider n m (account_after system (log ++ e ∷ []) p).kept no_fewer later.kept;
        }

  -- ---- the whole

  pub both_paged : (log : List Entry) (s : ProcState) → is_system system ≡ true → IsLegalBy Stands system log → process_after system log p ≡ Some s → BothPaged (s.small).pages (account_after system log p)
  both_paged log s valid legal there =
      subst (λ n. BothPaged n (account_after system log p)) (ap (λ (o : Option ProcState). option_map_or (λ (s : ProcState). (s.small).pages) o 0) there)
      (legal_induction Stands system (λ log. BothPaged (page_count system log p) (account_after system log p)) (at_boot valid) (λ log e before stands. one_more log e stands before) log legal)
