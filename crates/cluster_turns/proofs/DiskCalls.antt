-- The calls of its disk that a script names, and how many of them a cluster has made.
use Rattle.std.proofs.Common.{◌≡◌, ℕ, ◌+◌, length, take, get_or, append-nil, ◌<◌, ◌-◌, ◌^◌, ◌⊎◌, inl, inr, refl, sym, ◌∙◌, ap, subst, arith, List, [], ◌∷◌, ◌++◌, Bool, true, false, cond, not, ◌&&◌, ◌||◌, Option, Some, None, eqb-true, true≢false}
use Rattle.std.specs.Prelude.{nat_le, nat_lt, ◌==◌}
use Rattle.std.specs.List.{list_any, list_all}
use Rattle.std.specs.Option.{IfSome}
use Rattle.std.proofs.lemmas.Bool.{and_parts, and_from, ltb-true, or_cases, or_right}
use Rattle.std.proofs.lemmas.Bool.Decides.{nat_tests}
use Rattle.std.proofs.lemmas.Grind.{flat_map-append}
use Rattle.std.proofs.lemmas.List.{take_more}
use Rattle.std.proofs.lemmas.List.Folds.{list_any-append, list_all-append}
use Rattle.t32_base.specs.declared.process.ClusterNo.{ClusterNo}
use Rattle.bus_msg.specs.declared.entry.Cause.TheVariants.{Disk}
use Rattle.bus_msg.specs.declared.entry.Entry.{Entry}
use Rattle.bus_msg.specs.Places.{same_cluster}
use Rattle.cert_sched.specs.declared.script.ScriptWord.{ScriptWord}
use Rattle.cert_sched.specs.declared.script.ScriptWord.TheVariants.{CrashAt, CrashStep, DiskAt, ReturnAt}
use Rattle.cert_sched.specs.Losses.{was_lost_in}
use Rattle.cert_sched.specs.Scripted.{is_server}
use Rattle.page_server.specs.Account.{PagerState}
use Rattle.page_server.specs.Disk.{Fails}
use Rattle.cluster_core.specs.Serving.{IsAheadThere, IsFailing}
use Rattle.cluster_core.specs.View.{ClusterView, calls_in, disk_calls, failing_in}
use Rattle.bus_order.specs.Script.{has_unused, is_uncalled, is_word_for}
use Rattle.cluster_turns.specs.Disks.{IsDiskOf, call_of, calls_for}

-- ---- a call that fails is named

-- by one word
named_by : (k : ClusterNo) (n : ℕ) (w : ScriptWord) → list_any (λ m. m == n) (call_of k w) ≡ true → (has_unused (w ∷ []) k (Disk n) ≡ true) × (n < 2 ^ 64 - 1)
named_by k n (CrashAt j place) h = absurd (true≢false (sym h))
named_by k n (CrashStep j step) h = absurd (true≢false (sym h))
named_by k n (DiskAt j call) h = by_test (same_cluster j k) (nat_lt call (2 ^ 64 - 1)) refl h
  where
    by_test : (a b : Bool) → nat_lt call (2 ^ 64 - 1) ≡ b → list_any (λ m. m == n) (cond (a && b) (call ∷ []) []) ≡ true → (((a && call == n) || false) ≡ true) × (n < 2 ^ 64 - 1)
    by_test true true fits h =
        let same : (call == n) ≡ true = by_only (call == n) h in
        let is : call ≡ n = eqb-true call n same in
        (ap (λ t. t || false) same, subst (λ m. m < 2 ^ 64 - 1) is (ltb-true call (2 ^ 64 - 1) fits))
      where
        by_only : (t : Bool) → (t || false) ≡ true → t ≡ true
        by_only true h = refl
        by_only false h = h
    by_test true false fits h = absurd (true≢false (sym h))
    by_test false b fits h = absurd (true≢false (sym h))
named_by k n (ReturnAt j place) h = absurd (true≢false (sym h))

-- by a script
pub call_named : (k : ClusterNo) (n : ℕ) (script : List ScriptWord) → list_any (λ m. m == n) (calls_for k script) ≡ true → (has_unused script k (Disk n) ≡ true) × (n < 2 ^ 64 - 1)
call_named k n [] h = absurd (true≢false (sym h))
call_named k n (w ∷ script) h = by_parts (call_named k n script) (or_cases (list_any (λ m. m == n) (call_of k w)) (list_any (λ m. m == n) (calls_for k script)) (sym (list_any-append (λ m. m == n) (call_of k w) (calls_for k script)) ∙ h))
  where
    only : (a b : Bool) → (a || false) ≡ true → (a || b) ≡ true
    only true b h = refl
    only false b h = absurd (true≢false (sym h))

    by_parts : (list_any (λ m. m == n) (calls_for k script) ≡ true → (has_unused script k (Disk n) ≡ true) × (n < 2 ^ 64 - 1)) → (list_any (λ m. m == n) (call_of k w) ≡ true) ⊎ (list_any (λ m. m == n) (calls_for k script) ≡ true) → (has_unused (w ∷ script) k (Disk n) ≡ true) × (n < 2 ^ 64 - 1)
    by_parts others (inl first) = let named = named_by k n w first in (only (is_word_for k (Disk n) w) (has_unused script k (Disk n)) named.0, named.1)
    by_parts others (inr later) = let named = others later in (or_right (is_word_for k (Disk n) w) (has_unused script k (Disk n)) named.0, named.1)

-- ---- the calls that a script names, word by word

calls_of_two : (k : ClusterNo) (words more : List ScriptWord) → calls_for k (words ++ more) ≡ calls_for k words ++ calls_for k more
calls_of_two k words more = flat_map-append (call_of k) words more

pub calls_more : (k : ClusterNo) (script : List ScriptWord) (i : ℕ) (w : ScriptWord) (calls more : List ℕ) → i < length script → calls ≡ calls_for k (take i script) → more ≡ calls ++ call_of k (get_or script i w) → more ≡ calls_for k (take (i + 1) script)
calls_more k script i w calls more within before next =
    next ∙ ap (λ l. l ++ call_of k (get_or script i w)) before
    ∙ ap (λ l. calls_for k (take i script) ++ l) (sym (append-nil (call_of k (get_or script i w))))
    ∙ sym (ap (calls_for k) (take_more script i w within) ∙ calls_of_two k (take i script) (get_or script i w ∷ []))

-- ---- a disk whose calls that fail are to come has made none that is named

uncalled_by : (k : ClusterNo) (calls : ℕ) (w : ScriptWord) → calls < 2 ^ 64 → list_all (λ n. nat_le calls n) (call_of k w) ≡ true → is_uncalled k calls w ≡ true
uncalled_by k calls (CrashAt j place) fits all = refl
uncalled_by k calls (CrashStep j step) fits all = refl
uncalled_by k calls (DiskAt j call) fits all = by_test (same_cluster j k) (nat_lt call (2 ^ 64 - 1)) refl all
  where
    by_test : (a b : Bool) → nat_lt call (2 ^ 64 - 1) ≡ b → list_all (λ n. nat_le calls n) (cond (a && b) (call ∷ []) []) ≡ true → (not a || nat_le calls call) ≡ true
    by_test true true small all = (and_parts (nat_le calls call) true all).0
    by_test true false big all = grind (arith, nat_tests)
    by_test false b small all = refl
uncalled_by k calls (ReturnAt j place) fits all = refl

all_uncalled : (k : ClusterNo) (calls : ℕ) (script : List ScriptWord) → calls < 2 ^ 64 → list_all (λ n. nat_le calls n) (calls_for k script) ≡ true → list_all (is_uncalled k calls) script ≡ true
all_uncalled k calls [] fits all = refl
all_uncalled k calls (w ∷ script) fits all =
    let parts = and_parts (list_all (λ n. nat_le calls n) (call_of k w)) (list_all (λ n. nat_le calls n) (calls_for k script)) (sym (list_all-append (λ n. nat_le calls n) (call_of k w) (calls_for k script)) ∙ all) in
    and_from (is_uncalled k calls w) (list_all (is_uncalled k calls) script) (uncalled_by k calls w fits parts.0) (all_uncalled k calls script fits parts.1)

-- one that has made no call
none_called : (k : ClusterNo) (script : List ScriptWord) → list_all (is_uncalled k 0) script ≡ true
none_called k [] = refl
none_called k (w ∷ script) = and_from (is_uncalled k 0 w) (list_all (is_uncalled k 0) script) (by_word w) (none_called k script)
  where
    by_word : (w : ScriptWord) → is_uncalled k 0 w ≡ true
    by_word (CrashAt j place) = refl
    by_word (CrashStep j step) = refl
    by_word (DiskAt j call) = or_right (not (same_cluster j k)) (nat_le 0 call) (let l : nat_le 0 call ≡ true = grind (arith, nat_tests) in l)
    by_word (ReturnAt j place) = refl

-- ---- the same of a cluster

-- where it has a disk that tells, this is the list
told_list : (script : List ScriptWord) (log : List Entry) (c : ClusterView) (s : PagerState) → IsDiskOf script log c → c.server ≡ Some s → (s.counts).failing ≡ Some (calls_for c.number script)
told_list script log c s disk there = by_server (is_server c.system c.number && not (was_lost_in (take c.cursor log) c.number)) (ap failing_in (sym there) ∙ disk)
  where
    by_server : (t : Bool) → Some (s.counts).failing ≡ cond t (Some (Some (calls_for c.number script))) None → (s.counts).failing ≡ Some (calls_for c.number script)
    by_server true is = cc
    by_server false is = cc

pub disk_uncalled : (script : List ScriptWord) (log : List Entry) (c : ClusterView) → IsDiskOf script log c → IsAheadThere c.server → list_all (is_uncalled c.number (disk_calls c)) script ≡ true
disk_uncalled script log c disk ahead = by_server c.server refl ahead
  where
    by_server : (o : Option PagerState) → c.server ≡ o → IsAheadThere o → list_all (is_uncalled c.number (calls_in o)) script ≡ true
    by_server None none ahead = none_called c.number script
    by_server (Some s) there ahead =
        all_uncalled c.number (s.counts).calls script ahead.0 (subst (λ (o : Option (List ℕ)). IfSome o (λ failing. list_all (λ n. nat_le (s.counts).calls n) failing ≡ true)) (told_list script log c s disk there) ahead.1)

-- a call that failed is one that the script names
pub disk_named : (script : List ScriptWord) (log : List Entry) (c : ClusterView) (n : ℕ) → IsDiskOf script log c → IsFailing c.server n → (has_unused script c.number (Disk n) ≡ true) × (n < 2 ^ 64 - 1)
disk_named script log c n disk failing = by_server c.server refl failing
  where
    by_server : (o : Option PagerState) → c.server ≡ o → IsFailing o n → (has_unused script c.number (Disk n) ≡ true) × (n < 2 ^ 64 - 1)
    by_server None none failing = absurd failing
    by_server (Some s) there failing = call_named c.number n script (subst (λ (o : Option (List ℕ)). Fails o n true) (told_list script log c s disk there) failing)

-- one of whose disk a call fails is a page server that was never lost
pub disk_server : (script : List ScriptWord) (log : List Entry) (c : ClusterView) (n : ℕ) → IsDiskOf script log c → IsFailing c.server n → (is_server c.system c.number ≡ true) × (was_lost_in (take c.cursor log) c.number ≡ false)
disk_server script log c n disk failing =
    let parts = and_parts (is_server c.system c.number) (not (was_lost_in (take c.cursor log) c.number)) (by_server (is_server c.system c.number && not (was_lost_in (take c.cursor log) c.number)) refl) in
    (parts.0, by_lost (was_lost_in (take c.cursor log) c.number) parts.1)
  where
    by_lost : (t : Bool) → not t ≡ true → t ≡ false
    by_lost true h = absurd (true≢false (sym h))
    by_lost false h = refl

    by_server : (t : Bool) → (is_server c.system c.number && not (was_lost_in (take c.cursor log) c.number)) ≡ t → (is_server c.system c.number && not (was_lost_in (take c.cursor log) c.number)) ≡ true
    by_server true is = is
    by_server false is = absurd (none_there c.server failing (disk ∙ ap (λ t. cond t (Some (Some (calls_for c.number script))) None) is))
      where
        none_there : (o : Option PagerState) → IsFailing o n → failing_in o ≡ None → ⊥
        none_there None failing none = failing
        none_there (Some s) failing none = cc
