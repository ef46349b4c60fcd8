-- Beginnings of a log.
use Rattle.std.proofs.Common.{◌≡◌, ℕ, zero, suc, refl, sym, ◌∙◌, ap, subst, List, [], ◌∷◌, ◌++◌, length, take, drop, true, false, Some, slice_get, ◌<◌, ◌≤◌, ◌+◌, ◌-◌, ◌||◌, Bool, false, arith, true≢false}
use Rattle.std.specs.List.{list_any}
use Rattle.std.proofs.lemmas.Bool.{or_parts}
use Rattle.std.proofs.lemmas.List.{drop-drop, take-append-le, take_all}
use mathlib.Core.List.{IsPrefix}
use Rattle.sys_text.specs.declared.system.System.{System}
use Rattle.bus_msg.specs.declared.entry.Entry.{Entry}
use Rattle.cert_sched.specs.Rules.{is_over}
use Rattle.cert_sched.specs.Legal.{IsLegalBy, MayStand}
use Rattle.cert_sched.proofs.LogLaws.{IsLegal-last}
use Rattle.cert_sched.proofs.Induction.{legal_prefix}
use Rattle.bus_order.proofs.LogParts.{take_one}

-- ---- lists

pub drop_next : {X : Type 0} (xs : List X) (n : ℕ) (x : X) → slice_get xs n ≡ Some x → drop n xs ≡ x ∷ drop (suc n) xs
drop_next [] n x is = cc
drop_next (y ∷ xs) zero x is = let same : y ≡ x = cc in ap (λ z. z ∷ xs) same
drop_next (y ∷ xs) (suc n) x is = drop_next xs n x is

pub get_last : {X : Type 0} (xs : List X) (x : X) → slice_get (xs ++ x ∷ []) (length xs) ≡ Some x
get_last [] x = refl
get_last (y ∷ xs) x = get_last xs x

pub drop_whole : {X : Type 0} (xs : List X) → drop (length xs) xs ≡ []
drop_whole [] = refl
drop_whole (x ∷ xs) = drop_whole xs

-- what does not pass in the whole passes in no part
pub any_back : {X : Type 0} (t : X → Bool) (xs : List X) (n : ℕ) → list_any t xs ≡ false → list_any t (drop n xs) ≡ false
any_back t xs zero none = none
any_back t [] (suc n) none = refl
any_back t (x ∷ xs) (suc n) none = any_back t xs n (or_parts (t x) (list_any t xs) none).1

pub any_front : {X : Type 0} (t : X → Bool) (xs : List X) (n : ℕ) → list_any t xs ≡ false → list_any t (take n xs) ≡ false
any_front t xs zero none = refl
any_front t [] (suc n) none = refl
any_front t (x ∷ xs) (suc n) none =
    let parts = or_parts (t x) (list_any t xs) none in
    λ i. parts.0 i || any_front t xs n parts.1 i

-- nor from a later place on
pub none_later : {X : Type 0} (t : X → Bool) (xs : List X) (n m : ℕ) → n ≤ m → list_any t (drop n xs) ≡ false → list_any t (drop m xs) ≡ false
none_later t xs n m order none =
    let far : m ≡ n + (m - n) = omega (arith, order) in
    ap (λ i. list_any t (drop i xs)) far ∙ ap (list_any t) (sym (drop-drop (m - n) n xs)) ∙ any_back t (drop n xs) (m - n) none

-- ---- legal logs

-- the log before an entry of it goes on
pub goes_on_before : (system : System) (log : List Entry) (n : ℕ) (e : Entry) → IsLegalBy MayStand system log → slice_get log n ≡ Some e → is_over system (take n log) ≡ false
goes_on_before system log n e legal at =
    let more : IsLegalBy MayStand system (take n log ++ e ∷ []) = subst (IsLegalBy MayStand system) (take_one log n e at) (legal_prefix MayStand system log (suc n) legal) in
    let may = IsLegal-last MayStand system (take n log) e more in
    ((may.stands).placed).2

-- a part of a legal log that is over is the whole
pub whole_part : (system : System) (part log : List Entry) → IsLegalBy MayStand system log → IsPrefix part log → is_over system part ≡ true → part ≡ log
whole_part system part log legal prefix over = by_rest prefix.0 prefix.1
  where
    by_rest : (rest : List Entry) → part ++ rest ≡ log → part ≡ log
    by_rest [] is = sym (none part) ∙ is
      where
        none : (xs : List Entry) → xs ++ [] ≡ xs
        none [] = refl
        none (x ∷ xs) = ap (λ l. x ∷ l) (none xs)
    by_rest (e ∷ rest) is =
        let at : slice_get log (length part) ≡ Some e = ap (λ l. slice_get l (length part)) (sym is) ∙ there part in
        let front : take (length part) log ≡ part = ap (take (length part)) (sym is) ∙ take-append-le (length part) part (e ∷ rest) (omega arith) ∙ take_all (length part) part (omega arith) in
        absurd (true≢false (sym over ∙ ap (is_over system) (sym front) ∙ goes_on_before system log (length part) e legal at))
      where
        there : (xs : List Entry) → slice_get (xs ++ e ∷ rest) (length xs) ≡ Some e
        there [] = refl
        there (x ∷ xs) = there xs

-- a front has the same there
pub get_front : {X : Type 0} (xs ys : List X) (n : ℕ) → n < length xs → slice_get (xs ++ ys) n ≡ slice_get xs n
get_front [] ys n within = absurd (omega (arith, within))
get_front (x ∷ xs) ys zero within = refl
get_front (x ∷ xs) ys (suc n) within = get_front xs ys n (omega (arith, within))
