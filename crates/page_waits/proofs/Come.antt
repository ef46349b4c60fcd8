-- The pages that have come, by the memory in which they lie and its marks.
use Rattle.std.proofs.Common.{◌≡◌, ℕ, zero, suc, ◌+◌, ◌-◌, ◌*◌, ◌<◌, ◌≤◌, Bool, true, false, not, cond, eqb, List, [], ◌∷◌, ◌++◌, length, take, drop, set, Option, Some, None, Global, Vec, vec_len, rules, refl, sym, ap, ◌∙◌, arith, append_assoc, eqb-true, length-drop, length-take}
use Rattle.std.specs.Prelude.{replicate, is_some}
use Rattle.std.specs.List.{list_all}
use Rattle.std.proofs.lemmas.List.{drop-append-le, drop-drop, drop-take, drop_at, take-append-drop, take-append-le, take-take, take_at}
use Rattle.std.proofs.lemmas.List.Sums.{sum_by-cons}
use Rattle.rv_mem.specs.Memory.{Memory, with_bytes}
use Rattle.page_waits.specs.Pages.{memory_of}
use Rattle.page_waits.specs.Kept.{bytes_in, missing, pages_come, with_page_in}

-- before any has a mark none has come
pub none_come : (n : ℕ) (bytes : List ℕ) → pages_come (replicate n false) bytes ≡ replicate n None
none_come zero bytes = refl
none_come (suc n) bytes = ap (λ (pages : List (Option (List ℕ))). None ∷ pages) (none_come n (drop 256 bytes))

pub one_each : (marks : List Bool) (bytes : List ℕ) → length (pages_come marks bytes) ≡ length marks
one_each [] bytes = refl
one_each (mark ∷ marks) bytes = ap suc (one_each marks (drop 256 bytes))

-- so it is by the length of a `Vec` of marks
pub pages_len : (marks : Vec Bool Global) (bytes : List ℕ) → length (pages_come marks.items bytes) ≡ vec_len marks
pages_len marks bytes = one_each marks.items bytes ∙ search rules

-- ---- one page more

-- a page that is put at its place in memory
abbrev put : List ℕ → ℕ → List ℕ → List ℕ
put bytes i page = (take (256 * i) bytes ++ page) ++ drop (256 * i + 256) bytes

-- it leaves the page before
put_first : (bytes page : List ℕ) (i : ℕ) → 256 * suc i ≤ length bytes → take 256 (put bytes (suc i) page) ≡ take 256 bytes
put_first bytes page i fits =
    let long : 256 ≤ length (take (256 * suc i) bytes) = omega (arith, length-take (256 * suc i) bytes) in
    let behind = page ++ drop (256 * suc i + 256) bytes in
    ap (take 256) (append_assoc (take (256 * suc i) bytes) page (drop (256 * suc i + 256) bytes))
    ∙ take-append-le 256 (take (256 * suc i) bytes) behind long
    ∙ take-take 256 (256 * suc i) bytes (omega arith)

-- behind that page it is put one place lower
put_behind : (bytes page : List ℕ) (i : ℕ) → 256 * suc i ≤ length bytes → drop 256 (put bytes (suc i) page) ≡ put (drop 256 bytes) i page
put_behind bytes page i fits =
    let long : 256 ≤ length (take (256 * suc i) bytes) = omega (arith, length-take (256 * suc i) bytes) in
    let behind = page ++ drop (256 * suc i + 256) bytes in
    let at : 256 * suc i ≡ 256 + 256 * i = omega arith in
    let end : 256 * suc i + 256 ≡ 256 + (256 * i + 256) = omega arith in
    ap (drop 256) (append_assoc (take (256 * suc i) bytes) page (drop (256 * suc i + 256) bytes))
    ∙ drop-append-le 256 (take (256 * suc i) bytes) behind long
    ∙ ap (λ (front : List ℕ). front ++ behind) (ap (λ n. drop 256 (take n bytes)) at ∙ drop-take 256 (256 * i) bytes)
    ∙ ap (λ (rest : List ℕ). take (256 * i) (drop 256 bytes) ++ (page ++ rest)) (ap (λ n. drop n bytes) end ∙ sym (drop-drop (256 * i + 256) 256 bytes))
    ∙ sym (append_assoc (take (256 * i) (drop 256 bytes)) page (drop (256 * i + 256) (drop 256 bytes)))

come_put : (marks : List Bool) (bytes page : List ℕ) (i : ℕ) → i < length marks → length page ≡ 256 → length bytes ≡ 256 * length marks
    → pages_come (set marks i true) (put bytes i page) ≡ set (pages_come marks bytes) i (Some page)
come_put [] bytes page i within len size = absurd (omega arith)
come_put (mark ∷ marks) bytes page zero within len size =
    ap (λ (first : List ℕ). Some first ∷ pages_come marks (drop 256 (page ++ drop 256 bytes))) (take_at page (drop 256 bytes) 256 len)
    ∙ ap (λ (rest : List ℕ). Some page ∷ pages_come marks rest) (drop_at page (drop 256 bytes) 256 len)
come_put (mark ∷ marks) bytes page (suc i) within len size =
    let fits : 256 * suc i ≤ length bytes = omega arith in
    let rest : length (drop 256 bytes) ≡ 256 * length marks = omega (arith, length-drop 256 bytes) in
    let here = λ (first : List ℕ). cond mark (Some first) None in
    ap (λ (first : List ℕ). here first ∷ pages_come (set marks i true) (drop 256 (put bytes (suc i) page))) (put_first bytes page i fits)
    ∙ ap (λ (behind : List ℕ). here (take 256 bytes) ∷ pages_come (set marks i true) behind) (put_behind bytes page i fits)
    ∙ ap (λ (pages : List (Option (List ℕ))). here (take 256 bytes) ∷ pages) (come_put marks (drop 256 bytes) page i (omega arith) len rest)

-- a page that is put and marked has come, and the others are as they were
one_more : (marks : List Bool) (bytes page : List ℕ) (i : ℕ) → i < length marks → length page ≡ 256 → length bytes ≡ 256 * length marks
    → pages_come (set marks i true) (with_bytes bytes (65536 + 256 * i) page) ≡ set (pages_come marks bytes) i (Some page)
one_more marks bytes page i within len size =
    let at : 65536 + 256 * i - 65536 ≡ 256 * i = omega arith in
    let end : 65536 + 256 * i - 65536 + length page ≡ 256 * i + 256 = omega arith in
    ap (λ n. pages_come (set marks i true) ((take n bytes ++ page) ++ drop (65536 + 256 * i - 65536 + length page) bytes)) at
    ∙ ap (λ n. pages_come (set marks i true) ((take (256 * i) bytes ++ page) ++ drop n bytes)) end
    ∙ come_put marks bytes page i within len size

-- so it is where the memory is there
pub one_more_in : (marks : List Bool) (ram : Option Memory) (page : List ℕ) (i : ℕ) → i < length marks → length page ≡ 256 → length (bytes_in ram) ≡ 256 * length marks
    → pages_come (set marks i true) (bytes_in (with_page_in i page ram)) ≡ set (pages_come marks (bytes_in ram)) i (Some page)
one_more_in marks None page i within len size = absurd (omega (arith, size, within))
one_more_in marks (Some m) page i within len size = one_more marks m.bytes page i within len size

-- ---- all of them

one_missing : (marks : List Bool) → missing (false ∷ marks) ≡ 1 + missing marks
one_missing marks = sum_by-cons (λ mark. cond (not mark) 1 0) false marks

-- every page has come exactly where no mark is missing
pub whole_where : (marks : List Bool) (bytes : List ℕ) → list_all is_some (pages_come marks bytes) ≡ eqb (missing marks) 0
whole_where [] bytes = refl
whole_where (true ∷ marks) bytes =
    let same : missing (true ∷ marks) ≡ missing marks = omega arith in
    whole_where marks (drop 256 bytes) ∙ ap (λ n. eqb n 0) (sym same)
whole_where (false ∷ marks) bytes = let more = one_missing marks in grind arith

-- then they are the memory
whole_memory : (marks : List Bool) (bytes : List ℕ) → length bytes ≡ 256 * length marks → missing marks ≡ 0 → memory_of (pages_come marks bytes) ≡ bytes
whole_memory [] [] size none = refl
whole_memory [] (b ∷ bytes) size none = absurd (omega arith)
whole_memory (true ∷ marks) bytes size none =
    let rest : length (drop 256 bytes) ≡ 256 * length marks = omega (arith, length-drop 256 bytes) in
    ap (λ (behind : List ℕ). take 256 bytes ++ behind) (whole_memory marks (drop 256 bytes) rest (omega arith)) ∙ take-append-drop 256 bytes
whole_memory (false ∷ marks) bytes size none = let more = one_missing marks in absurd (omega arith)

pub come_memory : (marks : List Bool) (bytes : List ℕ) → length bytes ≡ 256 * length marks → list_all is_some (pages_come marks bytes) ≡ true → memory_of (pages_come marks bytes) ≡ bytes
come_memory marks bytes size whole = whole_memory marks bytes size (eqb-true (missing marks) 0 (sym (whole_where marks bytes) ∙ whole))
