-- Where each page of a memory has come, they make that memory.
use Rattle.std.proofs.Common.{◌≡◌, ℕ, suc, ◌+◌, ◌*◌, true, List, [], ◌∷◌, ◌++◌, length, take, drop, Option, Some, refl, sym, ap, ◌∙◌, arith, length-drop}
use Rattle.std.specs.Prelude.{is_some}
use Rattle.std.specs.List.{list_all}
use Rattle.std.proofs.lemmas.List.{drop-drop, take-append-drop}
use Rattle.page_waits.specs.Pages.{memory_of, AreAllPages}

same_page : (c d : Option (List ℕ)) → Some c ≡ Some d → c ≡ d
same_page c d is = cc

first_of_all : (memory : List ℕ) (c : Option (List ℕ)) (come : List (Option (List ℕ))) → AreAllPages memory (c ∷ come) → c ≡ Some (take 256 memory)
first_of_all memory c come all = same_page c (Some (take 256 memory)) (all.each 0 (omega arith))

-- those behind the first are all pages of the memory behind it
rest_of_all : (memory : List ℕ) (c : Option (List ℕ)) (come : List (Option (List ℕ))) → AreAllPages memory (c ∷ come) → AreAllPages (drop 256 memory) come
rest_of_all memory c come all = record {
  size = omega (arith, all.size, length-drop 256 memory);
  each = λ i within.
      let at : 256 * suc i ≡ 256 + 256 * i = omega arith in
      all.each (suc i) (omega arith) ∙ ap (λ (bytes : List ℕ). Some (Some (take 256 bytes))) (ap (λ n. drop n memory) at ∙ sym (drop-drop (256 * i) 256 memory));
}

pub all_whole : (memory : List ℕ) (come : List (Option (List ℕ))) → AreAllPages memory come → list_all is_some come ≡ true
all_whole memory [] all = refl
all_whole memory (c ∷ come) all =
    ap (λ (d : Option (List ℕ)). list_all is_some (d ∷ come)) (first_of_all memory c come all) ∙ all_whole (drop 256 memory) come (rest_of_all memory c come all)

none_in : (memory : List ℕ) → length memory ≡ 0 → [] ≡ memory
none_in [] none = refl
none_in (b ∷ memory) none = absurd (omega arith)

pub all_memory : (memory : List ℕ) (come : List (Option (List ℕ))) → AreAllPages memory come → memory_of come ≡ memory
all_memory memory [] all = none_in memory (omega (arith, all.size))
all_memory memory (c ∷ come) all =
    ap (λ (d : Option (List ℕ)). memory_of (d ∷ come)) (first_of_all memory c come all)
    ∙ ap (λ (behind : List ℕ). take 256 memory ++ behind) (all_memory (drop 256 memory) come (rest_of_all memory c come all))
    ∙ take-append-drop 256 memory
