-- A cluster of whose disk a call failed may be lost at that call, where a word for it is left.
use Rattle.std.proofs.Common.{◌≡◌, ℕ, suc, ◌+◌, ◌-◌, ◌^◌, ◌<◌, ◌≤◌, refl, sym, ◌∙◌, ap, arith, List, [], ◌∷◌, ◌++◌, take, drop, Bool, true, false, cond, not, ◌&&◌, ◌||◌, ◌⊎◌, inl, inr, Some, slice_get, true≢false}
use Rattle.std.specs.Prelude.{count_by, nat_le}
use Rattle.std.specs.List.{list_any}
use Rattle.std.proofs.lemmas.Bool.{and_from}
use Rattle.std.proofs.lemmas.Bool.Decides.{nat_tests}
use Rattle.std.proofs.lemmas.List.{take-append-drop}
use Rattle.std.proofs.lemmas.List.Folds.{list_any-append}
use Rattle.std.proofs.lemmas.List.Sums.{sum_by-take-drop}
use Rattle.t32_base.specs.declared.process.ClusterNo.{ClusterNo}
use Rattle.sys_text.specs.declared.system.System.{System}
use Rattle.bus_msg.specs.declared.entry.Cause.TheVariants.{Disk}
use Rattle.bus_msg.specs.declared.entry.What.{What}
use Rattle.bus_msg.specs.declared.entry.What.TheVariants.{PageIs}
use Rattle.bus_msg.specs.declared.entry.Entry.{Entry}
use Rattle.bus_msg.specs.PlacedAfter.{what}
use Rattle.cert_sched.specs.Losses.{before_last, capped, has_disk_left, heard, is_by_cluster, is_disk_crash, is_disk_word, is_page_entry, is_page_is_entry, least_calls, may_be_lost_at, was_lost_in}
use Rattle.bus_order.specs.Script.{has_unused}
use Rattle.bus_order.specs.View.{BusView, KeepsScript, MayBeLost}
use Rattle.bus_order.proofs.LogParts.{take_one}
use Rattle.script_laws.proofs.Counts.{count-cons, count-snoc, count_none, count_some}
use Rattle.script_laws.proofs.LosingAtStep.{last_before, or_last, uncapped}

-- ---- lists

-- before the last that passes there are no more of any kind than in the whole
counted_before : (t p : Entry → Bool) (xs : List Entry) → count_by p (before_last t xs) ≤ count_by p xs
counted_before t p [] = omega arith
counted_before t p (x ∷ xs) = by_test (list_any t xs) (counted_before t p xs)
  where
    by_test : (b : Bool) → count_by p (before_last t xs) ≤ count_by p xs → count_by p (cond b (x ∷ before_last t xs) []) ≤ count_by p (x ∷ xs)
    by_test true more =
        let here = count-cons p x (before_last t xs) in
        let all = count-cons p x xs in
        omega (arith, more, here, all)
    by_test false more = omega arith

-- and no more before the last of a longer one than in what stands before its end
counted_before_end : (t p : Entry → Bool) (xs : List Entry) (e : Entry) → count_by p (before_last t (xs ++ e ∷ [])) ≤ count_by p xs
counted_before_end t p [] e = omega arith
counted_before_end t p (x ∷ xs) e = by_test (list_any t (xs ++ e ∷ [])) (counted_before_end t p xs e)
  where
    by_test : (b : Bool) → count_by p (before_last t (xs ++ e ∷ [])) ≤ count_by p xs → count_by p (cond b (x ∷ before_last t (xs ++ e ∷ [])) []) ≤ count_by p (x ∷ xs)
    by_test true more =
        let here = count-cons p x (before_last t (xs ++ e ∷ [])) in
        let all = count-cons p x xs in
        omega (arith, more, here, all)
    by_test false more = omega arith

-- where none passes, none passes another test too
none_both : (p t : Entry → Bool) (xs : List Entry) → list_any t xs ≡ false → list_any (λ (e : Entry). p e && t e) xs ≡ false
none_both p t [] none = refl
none_both p t (x ∷ xs) none = by_tests (p x) (t x) none (none_both p t xs)
  where
    by_tests : (a b : Bool) → (b || list_any t xs) ≡ false → (list_any t xs ≡ false → list_any (λ (e : Entry). p e && t e) xs ≡ false) → ((a && b) || list_any (λ (e : Entry). p e && t e) xs) ≡ false
    by_tests a true h more = cc
    by_tests true false h more = more h
    by_tests false false h more = more h

-- ---- the least calls

-- of a cluster that sent nothing from the cursor on
least_before : (system : System) (log : List Entry) (k : ClusterNo) (cursor : ℕ) → list_any (is_by_cluster k) (drop cursor log) ≡ false → least_calls system (heard k log) log k ≤ least_calls system (take cursor log) (take cursor log) k
least_before system log k cursor none =
    let heard_as : heard k log ≡ before_last (is_by_cluster k) (take cursor log) = ap (before_last (is_by_cluster k)) (sym (take-append-drop cursor log)) ∙ last_before (is_by_cluster k) (take cursor log) (drop cursor log) none in
    let same : count_by (λ (e : Entry). is_page_entry (what e)) (heard k log) ≡ count_by (λ (e : Entry). is_page_entry (what e)) (before_last (is_by_cluster k) (take cursor log)) = ap (count_by (λ (e : Entry). is_page_entry (what e))) heard_as in
    let fewer = counted_before (is_by_cluster k) (λ (e : Entry). is_page_entry (what e)) (take cursor log) in
    let parts : count_by (λ (e : Entry). is_page_is_entry (what e) && is_by_cluster k e) (take cursor log) + count_by (λ (e : Entry). is_page_is_entry (what e) && is_by_cluster k e) (drop cursor log) ≡ count_by (λ (e : Entry). is_page_is_entry (what e) && is_by_cluster k e) log =
    sum_by-take-drop (λ (e : Entry). cond (is_page_is_entry (what e) && is_by_cluster k e) 1 0) log cursor in
    let rest = count_none (λ (e : Entry). is_page_is_entry (what e) && is_by_cluster k e) (drop cursor log) (none_both (λ (e : Entry). is_page_is_entry (what e)) (is_by_cluster k) (drop cursor log) none) in
    omega (arith, same, fewer, parts, rest)

-- a page is no answer
page_no_answer : (w : What) → is_page_entry w ≡ true → is_page_is_entry w ≡ false
page_no_answer (PageIs pid index bytes) page = absurd (true≢false (sym page))
page_no_answer _ page = refl

-- of one that sent nothing behind the page at its cursor
least_at : (system : System) (log : List Entry) (k : ClusterNo) (cursor : ℕ) (e : Entry) → slice_get log cursor ≡ Some e → is_page_entry (what e) ≡ true → list_any (is_by_cluster k) (drop (cursor + 1) log) ≡ false
    → least_calls system (heard k log) log k ≤ least_calls system (take cursor log) (take cursor log) k
least_at system log k cursor e there page none' =
    let next : cursor + 1 ≡ suc cursor = omega arith in
    let none : list_any (is_by_cluster k) (drop (suc cursor) log) ≡ false = ap (λ n. list_any (is_by_cluster k) (drop n log)) (sym next) ∙ none' in
    let one = take_one log cursor e there in
    let heard_as : heard k log ≡ before_last (is_by_cluster k) (take cursor log ++ e ∷ []) = ap (before_last (is_by_cluster k)) (sym (take-append-drop (suc cursor) log)) ∙ last_before (is_by_cluster k) (take (suc cursor) log) (drop (suc cursor) log) none ∙ ap (before_last (is_by_cluster k)) one in
    let same : count_by (λ (e : Entry). is_page_entry (what e)) (heard k log) ≡ count_by (λ (e : Entry). is_page_entry (what e)) (before_last (is_by_cluster k) (take cursor log ++ e ∷ [])) = ap (count_by (λ (e : Entry). is_page_entry (what e))) heard_as in
    let fewer = counted_before_end (is_by_cluster k) (λ (e : Entry). is_page_entry (what e)) (take cursor log) e in
    let parts : count_by (λ (e : Entry). is_page_is_entry (what e) && is_by_cluster k e) (take (suc cursor) log) + count_by (λ (e : Entry). is_page_is_entry (what e) && is_by_cluster k e) (drop (suc cursor) log) ≡ count_by (λ (e : Entry). is_page_is_entry (what e) && is_by_cluster k e) log =
    sum_by-take-drop (λ (e : Entry). cond (is_page_is_entry (what e) && is_by_cluster k e) 1 0) log (suc cursor) in
    let rest = count_none (λ (e : Entry). is_page_is_entry (what e) && is_by_cluster k e) (drop (suc cursor) log) (none_both (λ (e : Entry). is_page_is_entry (what e)) (is_by_cluster k) (drop (suc cursor) log) none) in
    let front : count_by (λ (e : Entry). is_page_is_entry (what e) && is_by_cluster k e) (take (suc cursor) log) ≡ count_by (λ (e : Entry). is_page_is_entry (what e) && is_by_cluster k e) (take cursor log ++ e ∷ []) = ap (count_by (λ (e : Entry). is_page_is_entry (what e) && is_by_cluster k e)) one in
    let last = count-snoc (λ (e : Entry). is_page_is_entry (what e) && is_by_cluster k e) (take cursor log) e in
    let no_answer : ◌≡◌ {A = ℕ} (cond (is_page_is_entry (what e) && is_by_cluster k e) 1 0) 0 = ap (λ (b : Bool). cond (b && is_by_cluster k e) 1 0) (page_no_answer (what e) page) in
    omega (arith, same, fewer, parts, rest, front, last, no_answer)

-- ---- the loss

-- one of the words for the call gave no loss yet
call_left : (b : BusView) (k : ClusterNo) (n : ℕ) → KeepsScript b → has_unused b.left k (Disk n) ≡ true → has_disk_left b.script b.log k n ≡ true
call_left b k n keeps unused =
    let used = keeps.used k (Disk n) in
    let some = count_some (is_disk_word k n) b.left unused in
    let less : count_by (λ (e : Entry). is_disk_crash k n (what e)) b.log < count_by (is_disk_word k n) b.script = omega (arith, used, some) in
    grind (arith, nat_tests)

or_middle : (a b c : Bool) → b ≡ true → (a || b || c) ≡ true
or_middle true b c h = refl
or_middle false b c h = ap (λ b. b || c) h

-- it has sent nothing yet, or has counted its calls
lost_at : (b : BusView) (k : ClusterNo) (n cursor : ℕ) → list_any (is_by_cluster k) (drop cursor b.log) ≡ false
    → (list_any (is_by_cluster k) (take cursor b.log) ≡ false) ⊎ (capped (least_calls b.system (take cursor b.log) (take cursor b.log) k) ≤ n) → n < 2 ^ 64 - 1
    → may_be_lost_at b.log k (least_calls b.system (heard k b.log) b.log k) n ≡ true
lost_at b k n cursor none (inl silent) less =
    or_middle (was_lost_in b.log k) (not (list_any (is_by_cluster k) b.log)) (nat_le (least_calls b.system (heard k b.log) b.log k) n)
    (ap (λ l. not (list_any (is_by_cluster k) l)) (sym (take-append-drop cursor b.log))
    ∙ ap not (list_any-append (is_by_cluster k) (take cursor b.log) (drop cursor b.log) ∙ ap (λ c. c || list_any (is_by_cluster k) (drop cursor b.log)) silent ∙ none))
lost_at b k n cursor none (inr counted) less =
    let least = least_before b.system b.log k cursor none in
    let most = uncapped (least_calls b.system (take cursor b.log) (take cursor b.log) k) n counted less in
    let within : least_calls b.system (heard k b.log) b.log k ≤ n = omega (arith, least, most) in
    or_last (was_lost_in b.log k) (not (list_any (is_by_cluster k) b.log)) (nat_le (least_calls b.system (heard k b.log) b.log k) n) (grind (arith, nat_tests))

pub may_at_call : (b : BusView) (k : ClusterNo) (n cursor : ℕ) → k.0 < (b.system).clusters → KeepsScript b → has_unused b.left k (Disk n) ≡ true → list_any (is_by_cluster k) (drop cursor b.log) ≡ false
    → (list_any (is_by_cluster k) (take cursor b.log) ≡ false) ⊎ (capped (least_calls b.system (take cursor b.log) (take cursor b.log) k) ≤ n) → n < 2 ^ 64 - 1 → MayBeLost b k (Disk n)
may_at_call b k n cursor within keeps unused none counted less = record {
  has = within;
  unused = unused;
  may = λ goes_on off.
      and_from (has_disk_left b.script b.log k n) (may_be_lost_at b.log k (least_calls b.system (heard k b.log) b.log k) n) (call_left b k n keeps unused) (lost_at b k n cursor none counted less);
}

-- or its own page stands at its cursor
lost_sent : (b : BusView) (k : ClusterNo) (n cursor : ℕ) (e : Entry) → slice_get b.log cursor ≡ Some e → is_page_entry (what e) ≡ true → list_any (is_by_cluster k) (drop (cursor + 1) b.log) ≡ false
    → capped (least_calls b.system (take cursor b.log) (take cursor b.log) k) ≤ n → n < 2 ^ 64 - 1 → may_be_lost_at b.log k (least_calls b.system (heard k b.log) b.log k) n ≡ true
lost_sent b k n cursor e there page none counted less =
    let least = least_at b.system b.log k cursor e there page none in
    let most = uncapped (least_calls b.system (take cursor b.log) (take cursor b.log) k) n counted less in
    let within : least_calls b.system (heard k b.log) b.log k ≤ n = omega (arith, least, most) in
    or_last (was_lost_in b.log k) (not (list_any (is_by_cluster k) b.log)) (nat_le (least_calls b.system (heard k b.log) b.log k) n) (grind (arith, nat_tests))

pub may_at_sent : (b : BusView) (k : ClusterNo) (n cursor : ℕ) (e : Entry) → k.0 < (b.system).clusters → KeepsScript b → has_unused b.left k (Disk n) ≡ true → slice_get b.log cursor ≡ Some e → is_page_entry (what e) ≡ true
    → list_any (is_by_cluster k) (drop (cursor + 1) b.log) ≡ false → capped (least_calls b.system (take cursor b.log) (take cursor b.log) k) ≤ n → n < 2 ^ 64 - 1 → MayBeLost b k (Disk n)
may_at_sent b k n cursor e within keeps unused there page none counted less = record {
  has = within;
  unused = unused;
  may = λ goes_on off.
      and_from (has_disk_left b.script b.log k n) (may_be_lost_at b.log k (least_calls b.system (heard k b.log) b.log k) n) (call_left b k n keeps unused) (lost_sent b k n cursor e there page none counted less);
}
