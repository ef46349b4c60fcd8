-- When the account of a process is its memory.
use Rattle.std.proofs.Common.{◌≡◌, ℕ, ◌*◌, ◌/◌, ◌<◌, ◌≤◌, ◌⊎◌, inl, inr, refl, sym, ◌∙◌, ap, subst, arith, List, length, Bool, true, false, T, Option, Some, None, true≢false}
use Rattle.std.specs.Cmp.{nat_cmp_total}
use Rattle.std.specs.FinMap.{is_sorted, nat_cmp-IsAntisymmetric}
use Rattle.std.specs.FinMap.Entries.{same_entries}
use Rattle.std.specs.List.{list_all, range_with_len}
use Rattle.std.specs.Option.{option_map_or}
use Rattle.std.specs.Ordering.{nat_cmp}
use Rattle.std.specs.Str.{bytes_eq}
use Rattle.std.proofs.lemmas.Bool.{cases_lt}
use Rattle.std.proofs.lemmas.Slice.Eq.{bytes_eq-Decides}
use Rattle.t32_base.specs.Account.{page_in}
use Rattle.rv_mem.specs.Memory.{page_at}
use Rattle.cert_sched.specs.Account.{all_pages}
use Rattle.checkpoint_laws.specs.posts.Paged.{ArePaged}
use Rattle.checkpoint_laws.proofs.posts.WholePages.{no_page_behind, page_found, pages_rise}
use Rattle.log_cuts.specs.Memory.{is_memory, is_put}
use Rattle.log_cuts.proofs.Lists.{all_pass, each_passes}

holds : (b : Bool) → b ≡ true → T b
holds b is = let P : Bool → Type 0 = λ b. T b in subst P (sym is) tt

put_there : (pages : List (ℕ × List ℕ)) (bytes : List ℕ) (i : ℕ) → is_put pages bytes i ≡ true → page_in pages i ≡ Some (page_at bytes i)
put_there pages bytes i is = by_page (page_in pages i) is
  where
    by_page : (o : Option (List ℕ)) → option_map_or (λ (page : List ℕ). bytes_eq page (page_at bytes i)) o false ≡ true → o ≡ Some (page_at bytes i)
    by_page None is = absurd (true≢false (sym is))
    by_page (Some page) is = ap Some ((bytes_eq-Decides page (page_at bytes i)).0 is)

is_there : (pages : List (ℕ × List ℕ)) (bytes : List ℕ) (i : ℕ) → page_in pages i ≡ Some (page_at bytes i) → is_put pages bytes i ≡ true
is_there pages bytes i there = ap (λ (o : Option (List ℕ)). option_map_or (λ (page : List ℕ). bytes_eq page (page_at bytes i)) o false) there ∙ (bytes_eq-Decides (page_at bytes i) (page_at bytes i)).1 refl

module _ (n : ℕ) (pages : List (ℕ × List ℕ)) (bytes : List ℕ) (paged : ArePaged n pages) (size : length bytes ≡ 256 * n) where
  few : length bytes / 256 ≡ n
  few = omega (arith, size)

  pub memory_is : is_memory pages bytes ≡ true → pages ≡ all_pages bytes
  memory_is is =
      same_entries nat_cmp nat_cmp_total nat_cmp-IsAntisymmetric pages (all_pages bytes) (holds (is_sorted nat_cmp pages) paged.rising) (holds (is_sorted nat_cmp (all_pages bytes)) (pages_rise bytes n size)) same
    where
      by_place : (q : ℕ) → (q < n) ⊎ (n ≤ q) → page_in pages q ≡ page_in (all_pages bytes) q
      by_place q (inl within) =
          put_there pages bytes q (each_passes (is_put pages bytes) n (ap (λ k. list_all (is_put pages bytes) (range_with_len 0 k)) (sym few) ∙ is) q within) ∙ sym (page_found bytes n q size within)
      by_place q (inr behind) = paged.within q behind ∙ sym (no_page_behind bytes n q size behind)

      same : (q : ℕ) → page_in pages q ≡ page_in (all_pages bytes) q
      same q = by_place q (cases_lt q n)

  pub is_memory_of : pages ≡ all_pages bytes → is_memory pages bytes ≡ true
  is_memory_of same =
      ap (λ k. list_all (is_put pages bytes) (range_with_len 0 k)) few
      ∙ all_pass (is_put pages bytes) n (λ i within. is_there pages bytes i (ap (λ ps. page_in ps i) same ∙ page_found bytes n i size within))
