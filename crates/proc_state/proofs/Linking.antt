-- An end that is linked leaves as many steps.
use Rattle.std.proofs.Common.{◌≡◌, ℕ, ◌<◌, true, false, List, length, get_or, arith, refl, cond, Option, Some, None}
use Rattle.std.specs.List.{count_by}
use Rattle.std.specs.Prelude.{slice_set}
use Rattle.std.specs.Option.{option_map_or}
use Rattle.std.proofs.Math.ListN.{length-set}
use Rattle.std.proofs.lemmas.List.Sums.{sum_by-set}
use Rattle.std.proofs.lemmas.List.Quantifiers.{position-Some}
use Rattle.t32_base.specs.declared.process.Pid.{Pid}
use Rattle.t32_base.specs.declared.process.EndState.{EndState}
use Rattle.t32_base.specs.declared.process.EndState.TheVariants.{Never, Tty, Linked, Shut}
use Rattle.t32_base.specs.Small.{is_unshut}
use Rattle.proc_state.specs.Ends.{ends_linked_to, free_end, is_never}

never_is_unshut : (end : EndState) → is_never end ≡ true → is_unshut end ≡ true
never_is_unshut Never is = is
never_is_unshut (Tty t) is = cc
never_is_unshut (Linked peer far finished) is = cc
never_is_unshut Shut is = cc

pub as_many : (ends : List EndState) (e : ℕ) (end : EndState) → e < length ends → is_unshut (get_or ends e Shut) ≡ true → is_unshut end ≡ true → count_by is_unshut (slice_set ends e end) ≡ count_by is_unshut ends
as_many ends e end within was is =
    let whole = sum_by-set (λ (end : EndState). cond (is_unshut end) 1 0) ends e end Shut within in
    let plain = rw (was, is) at whole in
    omega (arith, plain)

-- the lowest end that was never linked is one of them, and not shut
pub linked_as_many : (ends : List EndState) (e : ℕ) (peer : Pid) (far : ℕ) → free_end ends ≡ Some e → count_by is_unshut (slice_set ends e (Linked peer far false)) ≡ count_by is_unshut ends
linked_as_many ends e peer far is =
    let there = position-Some is_never ends e Shut is in
    as_many ends e (Linked peer far false) there.0 (never_is_unshut (get_or ends e Shut) there.1) refl

-- so its link leaves as many that are not shut
pub linked_unshut : (ends : List EndState) (peer : Pid) (far : ℕ) → count_by is_unshut (ends_linked_to ends peer far) ≡ count_by is_unshut ends
linked_unshut ends peer far = by_free (free_end ends) refl
  where
    by_free : (o : Option ℕ) → free_end ends ≡ o → count_by is_unshut (option_map_or (λ end. slice_set ends end (Linked peer far false)) o ends) ≡ count_by is_unshut ends
    by_free None is = refl
    by_free (Some e) is = linked_as_many ends e peer far is

-- and as many ends
pub length-linked : (ends : List EndState) (peer : Pid) (far : ℕ) → length (ends_linked_to ends peer far) ≡ length ends
length-linked ends peer far = by_free (free_end ends)
  where
    by_free : (o : Option ℕ) → length (option_map_or (λ end. slice_set ends end (Linked peer far false)) o ends) ≡ length ends
    by_free None = refl
    by_free (Some e) = length-set ends e (Linked peer far false)
