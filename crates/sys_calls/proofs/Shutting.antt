-- An end that is shut is one step less.
use Rattle.std.proofs.Common.{◌≡◌, ℕ, ◌+◌, ◌<◌, ◌≤◌, true, List, length, get_or, arith, ◌∙◌, cond, add-zero, Option, Some}
use Rattle.std.specs.List.{count_by}
use Rattle.std.specs.Prelude.{slice_set, IfSome}
use Rattle.std.proofs.lemmas.List.Sums.{sum_by-set}
use Rattle.t32_base.specs.declared.process.EndState.{EndState}
use Rattle.t32_base.specs.declared.process.EndState.TheVariants.{Shut}
use Rattle.t32_base.specs.declared.process.Status.{Status}
use Rattle.t32_base.specs.declared.letter.To.{To}
use Rattle.t32_base.specs.Small.{is_unshut, steps_left}

shut_less : (ends : List EndState) (e : ℕ) → e < length ends → is_unshut (get_or ends e Shut) ≡ true → count_by is_unshut (slice_set ends e Shut) + 1 ≡ count_by is_unshut ends
shut_less ends e within unshut =
    let whole = sum_by-set (λ (end : EndState). cond (is_unshut end) 1 0) ends e Shut Shut within in
    rw unshut at whole ∙ add-zero _

-- the steps that are left, where the end that was found is shut
pub lighter : (left : ℕ) (ends : List EndState) (status : Status) (found : Option (ℕ × To)) (e : ℕ) (to : To) → found ≡ Some (e, to)
    → IfSome found (λ f. f.0 < length ends) → IfSome found (λ f. is_unshut (get_or ends f.0 Shut) ≡ true)
    → steps_left left (slice_set ends e Shut) status + 1 ≡ steps_left left ends status
lighter left ends status found e to is within unshut =
    let here : e < length ends = rw is at within in
    let open_there : is_unshut (get_or ends e Shut) ≡ true = rw is at unshut in
    let less = shut_less ends e here open_there in
    omega (arith, less)

-- no more ends are unshut where one is shut
pub no_more : (ends : List EndState) (e : ℕ) → e < length ends → count_by is_unshut (slice_set ends e Shut) ≤ count_by is_unshut ends
no_more ends e within =
    let whole = sum_by-set (λ (end : EndState). cond (is_unshut end) 1 0) ends e Shut Shut within in
    omega (arith, whole)
