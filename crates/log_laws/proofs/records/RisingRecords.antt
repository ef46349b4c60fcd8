-- A list of records by rising pid is known by what is found in it at each pid.
use Rattle.std.proofs.Common.{◌≡◌, ℕ, refl, sym, ◌∙◌, ap, arith, List, [], ◌∷◌, Bool, true, false, cond, eqb, eqb-true, eq-eqb, Some, None, unwrap_or}
use Rattle.std.specs.Prelude.{nat_lt}
use Rattle.std.specs.List.{list_all}
use Rattle.std.proofs.lemmas.Bool.{and_parts}
use Rattle.std.proofs.lemmas.Bool.Decides.{nat_tests}
use Rattle.t32_base.specs.declared.process.Pid.{Pid}
use Rattle.t32_base.specs.declared.process.ClusterNo.{ClusterNo}
use Rattle.t32_base.specs.declared.letter.BackRec.{BackRec}
use Rattle.sys_text.specs.declared.system.System.{System}
use Rattle.bus_msg.specs.declared.entry.Entry.{Entry}
use Rattle.bus_msg.specs.Places.{same_pid}
use Rattle.backup_records.specs.Records.{are_rising, record_in}
use Rattle.log_laws.specs.records.Kept.{KeepsRecords}

-- each record is above a pid
abbrev are_above : Pid → List BackRec → Bool
are_above p recs = list_all (λ (r : BackRec). nat_lt p.0 (r.pid).0) recs

lower_is_other : (a b c : ℕ) → nat_lt a b ≡ true → nat_lt c a ≡ true → eqb b c ≡ false
lower_is_other a b c above below = grind (arith, nat_tests)

above_is_other : (a b : ℕ) → nat_lt a b ≡ true → eqb b a ≡ false
above_is_other a b above = grind (arith, nat_tests)

two_same : (a b : ℕ) → nat_lt a b ≡ false → nat_lt b a ≡ false → eqb a b ≡ true
two_same a b not_below not_above = grind (arith, nat_tests)

-- what is above a pid is not it
none_above : (p : Pid) (recs : List BackRec) → are_above p recs ≡ true → record_in recs p ≡ None
none_above p [] above = refl
none_above p (r ∷ rest) above =
    let both = and_parts (nat_lt p.0 (r.pid).0) (are_above p rest) above in
    ap (λ b. cond b (Some r) (record_in rest p)) (above_is_other p.0 (r.pid).0 both.0) ∙ none_above p rest both.1

-- nor a pid below that
none_lower : (p q : Pid) (recs : List BackRec) → are_above p recs ≡ true → nat_lt q.0 p.0 ≡ true → record_in recs q ≡ None
none_lower p q [] above lower = refl
none_lower p q (r ∷ rest) above lower =
    let both = and_parts (nat_lt p.0 (r.pid).0) (are_above p rest) above in
    ap (λ b. cond b (Some r) (record_in rest q)) (lower_is_other p.0 (r.pid).0 q.0 both.0 lower) ∙ none_lower p q rest both.1 lower

first_found : (r : BackRec) (rest : List BackRec) → record_in (r ∷ rest) r.pid ≡ Some r
first_found r rest = ap (λ b. cond b (Some r) (record_in rest r.pid)) (eq-eqb (r.pid).0 (r.pid).0 refl)

not_none : (r : BackRec) → Some r ≡ None → ⊥
not_none r e = cc

-- the first of a list is not found in another whose first is above it
first_not_there : (r s : BackRec) (rs ss : List BackRec) → are_rising (s ∷ ss) ≡ true → nat_lt (r.pid).0 (s.pid).0 ≡ true → record_in (r ∷ rs) r.pid ≡ record_in (s ∷ ss) r.pid → ⊥
first_not_there r s rs ss rising below same =
    let both = and_parts (are_above s.pid ss) (are_rising ss) rising in
    let none : record_in (s ∷ ss) r.pid ≡ None = ap (λ b. cond b (Some s) (record_in ss r.pid)) (above_is_other (r.pid).0 (s.pid).0 below) ∙ none_lower s.pid r.pid ss both.0 below in
    not_none r (sym (first_found r rs) ∙ same ∙ none)

-- two such lists in which the same is found are one
pub rising_same : (rs ss : List BackRec) → are_rising rs ≡ true → are_rising ss ≡ true → ((p : Pid) → record_in rs p ≡ record_in ss p) → rs ≡ ss
rising_same [] [] rises rising same = refl
rising_same [] (s ∷ ss) rises rising same = absurd (not_none s (sym (first_found s ss) ∙ sym (same s.pid)))
rising_same (r ∷ rs) [] rises rising same = absurd (not_none r (sym (first_found r rs) ∙ same r.pid))
rising_same (r ∷ rs) (s ∷ ss) rises rising same = by_first (nat_lt (r.pid).0 (s.pid).0) (nat_lt (s.pid).0 (r.pid).0) refl refl (rising_same rs ss left.1 right.1)
  where
    left : (are_above r.pid rs ≡ true) × (are_rising rs ≡ true)
    left = and_parts (are_above r.pid rs) (are_rising rs) rises

    right : (are_above s.pid ss ≡ true) × (are_rising ss ≡ true)
    right = and_parts (are_above s.pid ss) (are_rising ss) rising

    later : r.pid ≡ s.pid → (p : Pid) (b : Bool) → same_pid r.pid p ≡ b → record_in rs p ≡ record_in ss p
    later pids p true here =
        let at : p ≡ r.pid = λ i. record { 0 = sym (eqb-true (r.pid).0 p.0 here) i } in
        ap (record_in rs) at ∙ none_above r.pid rs left.0 ∙ sym (ap (record_in ss) (at ∙ pids) ∙ none_above s.pid ss right.0)
    later pids p false here =
        ap (λ b. cond b (Some r) (record_in rs p)) (sym here) ∙ same p ∙ ap (λ b. cond b (Some s) (record_in ss p)) (ap (λ (q : Pid). same_pid q p) (sym pids) ∙ here)

    by_first : (below above : Bool) → nat_lt (r.pid).0 (s.pid).0 ≡ below → nat_lt (s.pid).0 (r.pid).0 ≡ above → (((p : Pid) → record_in rs p ≡ record_in ss p) → rs ≡ ss) → r ∷ rs ≡ s ∷ ss
    by_first true above is_below is_above more = absurd (first_not_there r s rs ss rising is_below (same r.pid))
    by_first false true is_below is_above more = absurd (first_not_there s r ss rs rises is_above (sym (same s.pid)))
    by_first false false is_below is_above more =
        let pids : r.pid ≡ s.pid = λ i. record { 0 = eqb-true (r.pid).0 (s.pid).0 (two_same (r.pid).0 (s.pid).0 is_below is_above) i } in
        let first : r ≡ s = ap (λ o. unwrap_or o r) (sym (first_found r rs) ∙ same r.pid ∙ ap (record_in (s ∷ ss)) pids ∙ first_found s ss) in
        let rest : rs ≡ ss = more (λ p. later pids p (same_pid r.pid p) refl) in
        λ i. first i ∷ rest i

-- so a log determines the records of a cluster
pub kept_once : (system : System) (log : List Entry) (k : ClusterNo) (rs ss : List BackRec) → are_rising rs ≡ true → are_rising ss ≡ true → KeepsRecords system log k rs → KeepsRecords system log k ss → rs ≡ ss
kept_once system log k rs ss rises rising left right = rising_same rs ss rises rising (λ p. left p ∙ sym (right p))
