-- Where no page of a batch is left, the account of the process has its whole memory.
use Rattle.std.proofs.Common.{◌≡◌, ℕ, ◌*◌, ◌-◌, ◌<◌, ◌≤◌, ◌⊎◌, inl, inr, refl, sym, ◌∙◌, ap, subst, List, [], length, Bool, true, T, Option, Some}
use Rattle.std.specs.Prelude.{option_and_then}
use Rattle.std.specs.Option.{option_map_or}
use Rattle.std.specs.Cmp.{nat_cmp_total}
use Rattle.std.specs.FinMap.{is_sorted, nat_cmp-IsAntisymmetric}
use Rattle.std.specs.FinMap.Entries.{same_entries}
use Rattle.std.specs.Ordering.{nat_cmp}
use Rattle.std.proofs.lemmas.Bool.{cases_lt}
use Rattle.t32_base.specs.declared.process.Pid.{Pid}
use Rattle.t32_base.specs.declared.process.ClusterNo.{ClusterNo}
use Rattle.t32_base.specs.Account.{page_in}
use Rattle.sys_text.specs.declared.system.System.{System}
use Rattle.sys_text.specs.Valid.{is_system}
use Rattle.proc_state.specs.State.{ProcState}
use Rattle.plain_kernel.specs.Kernel.{process_at}
use Rattle.bus_msg.specs.declared.entry.By.TheVariants.{Cluster}
use Rattle.bus_msg.specs.declared.entry.Entry.{Entry}
use Rattle.cert_sched.specs.Schedule.{done, process_after}
use Rattle.cert_sched.specs.Account.{account_after, all_pages}
use Rattle.cert_sched.specs.Steps.{page_count}
use Rattle.cert_sched.specs.Legal.{IsLegalBy, Stands}
use Rattle.cert_sched.proofs.StepLaws.{SilentFrom, silent_from}
use Rattle.log_laws.proofs.pages.SizesStay.{process_sized}
use Rattle.log_laws.proofs.pages.StepSizes.{SameSize}
use Rattle.checkpoint_laws.specs.posts.Paged.{ArePaged}
use Rattle.checkpoint_laws.proofs.posts.PagedAccounts.{both_paged}
use Rattle.checkpoint_laws.proofs.posts.SilentSizes.{silent_sizes}
use Rattle.checkpoint_laws.proofs.posts.TakeLeaves.{takes_leave}
use Rattle.checkpoint_laws.proofs.posts.WholePages.{no_page_behind, page_found, pages_rise}
use Rattle.checkpoint_laws.specs.posts.Sending.{MaySend}
use Rattle.checkpoint_laws.specs.batches.Underway.{BatchMay, PagesLeft}

holds : (b : Bool) → b ≡ true → T b
holds b is = let P : Bool → Type 0 = λ b. T b in subst P (sym is) tt

module _ (system : System) (log : List Entry) (k : ClusterNo) (p : Pid) (before : ProcState) (valid : is_system system ≡ true) (legal : IsLegalBy Stands system log)
    (may : MaySend system log (Cluster k) p before) (left : PagesLeft system log p (before.small).steps before.memory []) where
  from : SilentFrom system log p (before.small).steps before
  from = silent_from system log p (before.small).steps before may.reached

  abbrev was : ProcState
  was = from.was

  there : process_after system log p ≡ Some was
  there = ap (option_and_then (λ k. process_at k p)) from.before ∙ from.there

  abbrev now : List (ℕ × List ℕ)
  now = (account_after system log p).now

  abbrev n : ℕ
  n = (was.small).pages

  count : page_count system log p ≡ n
  count = ap (λ (o : Option ProcState). option_map_or (λ (s : ProcState). (s.small).pages) o 0) there

  same : SameSize was before
  same = silent_sizes ((before.small).steps - done from.kernel p) was before from.silent

  size : length before.memory ≡ 256 * n
  size = same.bytes ∙ process_sized system log p was valid there

  paged : ArePaged n now
  paged = (both_paged system p log was valid legal there).now

  same_page : (q : ℕ) → page_in now q ≡ page_in (all_pages before.memory) q
  same_page q = by_place (cases_lt q n)
    where
      by_place : (q < n) ⊎ (n ≤ q) → page_in now q ≡ page_in (all_pages before.memory) q
      by_place (inl within) = left.account q (subst (λ m. q < m) (sym count) within) refl ∙ sym (page_found before.memory n q size within)
      by_place (inr behind) = paged.within q behind ∙ sym (no_page_behind before.memory n q size behind)

  -- each of its pages has 256 bytes
  pub size_left : length before.memory ≡ 256 * (before.small).pages
  size_left = size ∙ sym (ap (λ m. 256 * m) same.pages)

  pub whole_left : now ≡ all_pages before.memory
  whole_left = same_entries nat_cmp nat_cmp_total nat_cmp-IsAntisymmetric now (all_pages before.memory) (holds (is_sorted nat_cmp now) paged.rising) (holds (is_sorted nat_cmp (all_pages before.memory)) (pages_rise before.memory n size)) same_page

-- of a batch: of the process before its take, which leaves the memory
pub whole : (system : System) (log : List Entry) (k : ClusterNo) (p : Pid) (s : ProcState) (read : List ℕ) (took : Option ℕ) → is_system system ≡ true → IsLegalBy Stands system log → BatchMay system log k p s read took []
    → (account_after system log p).now ≡ all_pages s.memory
whole system log k p s read took valid legal b =
    let same = takes_leave took b.before s b.takes in
    whole_left system log k p b.before valid legal b.may (subst (λ (r : ℕ × List ℕ). PagesLeft system log p r.0 r.1 []) (λ j. (same.steps j, same.memory j)) b.left)
    ∙ ap all_pages (sym same.memory)
