-- What the code keeps, after one page more has come.
use Rattle.std.proofs.Common.{◌≡◌, ℕ, ◌+◌, ◌*◌, ◌<◌, Bool, true, false, List, length, set, Option, Some, None, refl, sym, ap, subst, ◌∙◌, arith}
use Rattle.std.specs.Prelude.{replicate}
use Rattle.std.proofs.lemmas.List.{get_or-replicate, length-set, set-get_or}
use Rattle.t32_base.specs.declared.letter.BackRec.{BackRec}
use Rattle.rv_mem.specs.Memory.{Memory, with_bytes}
use Rattle.rv_mem.proofs.Views.{length-with_bytes}
use Rattle.page_waits.specs.Kept.{IsKept, missing, with_page_in}

-- no page becomes dirty
still_clean : (n i : ℕ) → i < n → set (replicate n false) i false ≡ replicate n false
still_clean n i within = ap (set (replicate n false) i) (sym (get_or-replicate n i false true within)) ∙ set-get_or (replicate n false) i true

pub keeps_one_more : (kept : BackRec) (ram next : Option Memory) (marks more : List Bool) (lacking lacks asked i : ℕ) (page : List ℕ) → IsKept kept ram marks lacking asked → i < length marks → length page ≡ 256
    → next ≡ with_page_in i page ram → more ≡ set marks i true → lacks ≡ missing more → IsKept kept next more lacks asked
keeps_one_more kept None next marks more lacking lacks asked i page k within len put marked counted = absurd (omega (arith, k.size, within))
keeps_one_more kept (Some m) next marks more lacking lacks asked i page k within len put marked counted =
    let same : length more ≡ length marks = ap length marked ∙ length-set marks i true in
    let put_len : length (with_bytes m.bytes (65536 + 256 * i) page) ≡ length m.bytes = length-with_bytes m.bytes (65536 + 256 * i) page (omega (arith, k.size)) in
    let some = k.some refl in
    subst (λ o. IsKept kept o more lacks asked) (sym put) (record {
      stated = k.stated;
      some = λ there. omega (arith, some);
      at_most = omega (arith, k.at_most);
      pages = k.pages ∙ sym same;
      size = omega (arith, k.size);
      clean = ap (λ (d : List Bool). set d i false) k.clean ∙ still_clean (length marks) i within ∙ ap (λ n. replicate n false) (sym same);
      unmarked = counted;
      within = omega (arith, k.within);
    })
