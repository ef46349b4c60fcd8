-- A new backup leaves fewer to give, and no other entry but a loss leaves more.
use Rattle.std.proofs.Common.{◌≡◌, ℕ, ◌+◌, ◌≤◌, ◌<◌, refl, sym, ◌∙◌, ap, subst, arith, append-nil, length-append, List, [], ◌∷◌, ◌++◌, map, length, Bool, true, false, cond, not, ◌&&◌, ◌||◌, eq-eqb, Option, Some, None, true≢false}
use Rattle.std.specs.Prelude.{count_by, find, is_none}
use Rattle.std.specs.List.{list_any}
use Rattle.std.proofs.lemmas.Grind.{flat_map-append}
use Rattle.std.proofs.lemmas.List.Sums.{sum_by-append, sum_by-cons}
use Rattle.t32_base.specs.declared.process.Pid.{Pid}
use Rattle.t32_base.specs.declared.process.ClusterNo.{ClusterNo}
use Rattle.t32_base.specs.declared.letter.BackRec.{BackRec}
use Rattle.t32_base.proofs.Facts.{and_false}
use Rattle.sys_text.specs.declared.system.System.{System}
use Rattle.sys_text.specs.Valid.{is_system}
use Rattle.bus_msg.specs.declared.entry.What.{What}
use Rattle.bus_msg.specs.declared.entry.What.TheVariants.{Birth, Exit, Sync, Crash, Rebackup}
use Rattle.bus_msg.specs.declared.entry.Entry.{Entry}
use Rattle.bus_msg.specs.declared.placed.Placed.{Placed}
use Rattle.bus_msg.specs.Places.{Places, same_pid, placed_at}
use Rattle.bus_msg.specs.PlacedAfter.{what, placed_after, with_birth, child_of, after_exit, after_sync, after_rebackup, is_named}
use Rattle.cert_sched.specs.Schedule.{placement}
use Rattle.cert_sched.specs.Told.{cluster_lost}
use Rattle.cert_sched.specs.Family.{born, births_of}
use Rattle.cert_sched.specs.Kinds.{KindHolds}
use Rattle.cert_sched.specs.Legal.{IsLegalBy, Stands}
use Rattle.cert_sched.proofs.LogLaws.{IsLegal-last, placement-snoc}
use Rattle.cert_sched.proofs.BirthsFew.{few_births}
use Rattle.cert_sched.proofs.UnendedLaws.{unended_open_at, unended_pid}
use Rattle.backup_laws.specs.Owed.{is_unbacked, left_of_backups}
use Rattle.log_laws.proofs.records.Named.{named_in_log}

-- ---- sums

abbrev one_if : Bool → ℕ
one_if b = cond b 1 0

first_counted : (q : Placed) (qs : List Placed) → count_by is_unbacked (q ∷ qs) ≡ one_if (is_unbacked q) + count_by is_unbacked qs
first_counted q qs = sum_by-cons (λ (q : Placed). cond (is_unbacked q) 1 0) q qs

no_more : (a b : Bool) → (a ≡ true → b ≡ true) → one_if a ≤ one_if b
no_more false b h = by_test b
  where
    by_test : (b : Bool) → 0 ≤ one_if b
    by_test true = omega arith
    by_test false = omega arith
no_more true b h = subst (λ x. 1 ≤ one_if x) (sym (h refl)) (omega arith)

-- where a change gives nobody's backup away, no more lack one
mapped_most : (f : Placed → Placed) → ((q : Placed) → is_unbacked (f q) ≡ true → is_unbacked q ≡ true) → (qs : List Placed) → count_by is_unbacked (map f qs) ≤ count_by is_unbacked qs
mapped_most f keeps [] = omega arith
mapped_most f keeps (q ∷ qs) = omega (arith, first_counted (f q) (map f qs), first_counted q qs, no_more (is_unbacked (f q)) (is_unbacked q) (keeps q), mapped_most f keeps qs)

-- and where one of them has one by it, fewer
mapped_less : (f : Placed → Placed) → ((q : Placed) → is_unbacked (f q) ≡ true → is_unbacked q ≡ true) → (t : Placed → Bool) (qs : List Placed) (q : Placed) → find t qs ≡ Some q → is_unbacked q ≡ true
    → is_unbacked (f q) ≡ false
    → count_by is_unbacked (map f qs) + 1 ≤ count_by is_unbacked qs
mapped_less f keeps t [] q found lacks has = cc
mapped_less f keeps t (r ∷ qs) q found lacks has = by_test (t r) found (λ later. mapped_less f keeps t qs q later lacks has)
  where
    by_test : (b : Bool) → cond b (Some r) (find t qs) ≡ Some q → (find t qs ≡ Some q → count_by is_unbacked (map f qs) + 1 ≤ count_by is_unbacked qs)
        → count_by is_unbacked (map f (r ∷ qs)) + 1 ≤ count_by is_unbacked (r ∷ qs)
    by_test true is more =
        let same : r ≡ q = cc in
        let was : one_if (is_unbacked r) ≡ 1 = ap (λ (q : Placed). one_if (is_unbacked q)) same ∙ ap one_if lacks in
        let now : one_if (is_unbacked (f r)) ≡ 0 = ap (λ (q : Placed). one_if (is_unbacked (f q))) same ∙ ap one_if has in
        omega (arith, first_counted (f r) (map f qs), first_counted r qs, was, now, mapped_most f keeps qs)
    by_test false is more = let less = more is in omega (arith, first_counted (f r) (map f qs), first_counted r qs, no_more (is_unbacked (f r)) (is_unbacked r) (keeps r), less)

-- ---- who lacks a backup

exit_keeps : (r : Pid) (q : Placed) → is_unbacked (after_exit r q) ≡ true → is_unbacked q ≡ true
exit_keeps r q = by_test (same_pid q.pid r)
  where
    by_test : (b : Bool) → is_unbacked (cond b (record q { ended = true }) q) ≡ true → is_unbacked q ≡ true
    by_test true h = absurd (true≢false (sym h))
    by_test false h = h

synced_keeps : (r : Pid) (q : Placed) → is_unbacked (after_sync r q) ≡ true → is_unbacked q ≡ true
synced_keeps r q = by_test (same_pid q.pid r)
  where
    by_test : (b : Bool) → is_unbacked (cond b (record q { synced = true }) q) ≡ true → is_unbacked q ≡ true
    by_test true h = h
    by_test false h = h

renewed_keeps : (to : ClusterNo) (fresh : Bool) (recs : List BackRec) (q : Placed) → is_unbacked (after_rebackup to fresh recs q) ≡ true → is_unbacked q ≡ true
renewed_keeps to fresh recs q = by_test (is_named recs q)
  where
    by_test : (b : Bool) → is_unbacked (cond b (record q { backup = Some to; synced = q.synced || fresh }) q) ≡ true → is_unbacked q ≡ true
    by_test true h = absurd (true≢false (sym h ∙ and_false (not q.ended)))
    by_test false h = h

-- ---- one more entry

births_length : (log : List Entry) (e : Entry) → length (births_of (log ++ e ∷ [])) ≡ length (births_of log) + length (born (what e))
births_length log e =
    ap length (flat_map-append (λ (e : Entry). born (what e)) log (e ∷ []) ∙ ap (λ bs. births_of log ++ bs) (append-nil (born (what e)))) ∙ length-append (births_of log) (born (what e))

module _ (system : System) (log : List Entry) (e : Entry) (valid : is_system system ≡ true) (legal : IsLegalBy Stands system (log ++ e ∷ [])) where
  abbrev here : Places
  here = placement system log

  abbrev lacking : List Placed → ℕ
  lacking qs = count_by is_unbacked qs

  few : length (births_of (log ++ e ∷ [])) ≤ 32
  few = let all = few_births system (log ++ e ∷ []) valid (IsLegal-last Stands system log e legal).applies in omega (arith, all)

  after_is : (w : What) → what e ≡ w → lacking (placement system (log ++ e ∷ [])).placed ≡ lacking (placed_after here w).placed
  after_is w is = ap (λ (places : Places). lacking places.placed) (placement-snoc system log e ∙ ap (placed_after here) is)

  by_most : (w : What) → what e ≡ w → lacking (placed_after here w).placed ≤ lacking here.placed → left_of_backups system (log ++ e ∷ []) ≤ left_of_backups system log
  by_most w is most = let same = after_is w is in let births = births_length log e in omega (arith, same, births, most)

  -- a child has its parent's backup, or lacks one as that does; but one child fewer may still be born
  born_most : (child : Pid) (o : Option Placed) → lacking (with_birth here child o).placed ≤ lacking here.placed + 1
  born_most child None = omega arith
  born_most child (Some q) =
      let one = first_counted (child_of q child) [] in
      let all = sum_by-append (λ (q : Placed). cond (is_unbacked q) 1 0) here.placed (child_of q child ∷ []) in
      let small = no_more (is_unbacked (child_of q child)) true (λ _. refl) in
      omega (arith, one, all, small)

  birth_most : (parent : Pid) (at : ℕ) (child : Pid) (end : ℕ) → what e ≡ Birth parent at child end → left_of_backups system (log ++ e ∷ []) ≤ left_of_backups system log
  birth_most parent at child end is =
      let same = after_is (Birth parent at child end) is in
      let births : length (births_of (log ++ e ∷ [])) ≡ length (births_of log) + 1 = births_length log e ∙ ap (λ w. length (births_of log) + length (born w)) is in
      omega (arith, same, births, born_most child (placed_at here parent), few)

  by_kind : (w : What) → what e ≡ w → cluster_lost w ≡ None → left_of_backups system (log ++ e ∷ []) ≤ left_of_backups system log
  by_kind (Birth parent at child end) is none = birth_most parent at child end is
  by_kind (Exit r at end) is none = by_most (Exit r at end) is (mapped_most (after_exit r) (exit_keeps r) here.placed)
  by_kind (Sync r small read took) is none = by_most (Sync r small read took) is (mapped_most (after_sync r) (synced_keeps r) here.placed)
  by_kind (Crash k cause) is none = cc
  by_kind (Rebackup to fresh recs) is none = by_most (Rebackup to fresh recs) is (mapped_most (after_rebackup to fresh recs) (renewed_keeps to fresh recs) here.placed)
  by_kind w is none = by_most w is (omega arith)

  -- a new backup names a process that lacks one
  fewer : (to : ClusterNo) (fresh : Bool) (r : BackRec) (rs : List BackRec) → what e ≡ Rebackup to fresh (r ∷ rs) → left_of_backups system (log ++ e ∷ []) < left_of_backups system log
  fewer to fresh r rs is =
      let own : list_any (λ (s : BackRec). same_pid s.pid r.pid) (r ∷ rs) ≡ true = ap (λ b. b || list_any (λ (s : BackRec). same_pid s.pid r.pid) rs) (eq-eqb (r.pid).0 (r.pid).0 refl) in
      let u = named_in_log system log e to fresh (r ∷ rs) r.pid valid legal is own in
      let open_still = unended_open_at here r.pid u.at u.found in
      let lacks : is_unbacked u.at ≡ true = λ i. not (open_still i) && is_none (u.none i) in
      let name : is_named (r ∷ rs) u.at ≡ true = ap (λ x. list_any (λ (s : BackRec). same_pid s.pid x) (r ∷ rs)) (unended_pid here r.pid u.at u.found) ∙ own in
      let has : is_unbacked (after_rebackup to fresh (r ∷ rs) u.at) ≡ false =
      ap (λ b. is_unbacked (cond b (record (u.at) { backup = Some to; synced = (u.at).synced || fresh }) u.at)) name ∙ and_false (not (u.at).ended) in
      let less = mapped_less (after_rebackup to fresh (r ∷ rs)) (renewed_keeps to fresh (r ∷ rs)) (λ (q : Placed). same_pid q.pid r.pid && not q.ended) here.placed u.at u.found lacks has in
      let same = after_is (Rebackup to fresh (r ∷ rs)) is in
      let births = births_length log e in
      omega (arith, same, births, less)

pub backups_most : (system : System) (log : List Entry) (e : Entry) → is_system system ≡ true → IsLegalBy Stands system (log ++ e ∷ []) → cluster_lost (what e) ≡ None
    → left_of_backups system (log ++ e ∷ []) ≤ left_of_backups system log
backups_most system log e valid legal none = by_kind system log e valid legal (what e) refl none

pub backups_less : (system : System) (log : List Entry) (e : Entry) (to : ClusterNo) (fresh : Bool) (more : List BackRec) → is_system system ≡ true → IsLegalBy Stands system (log ++ e ∷ [])
    → what e ≡ Rebackup to fresh more → left_of_backups system (log ++ e ∷ []) < left_of_backups system log
backups_less system log e to true [] valid legal is = absurd (subst (KindHolds system log e) is (IsLegal-last Stands system log e legal).kind)
backups_less system log e to false [] valid legal is = absurd (subst (KindHolds system log e) is (IsLegal-last Stands system log e legal).kind)
backups_less system log e to fresh (r ∷ rs) valid legal is = fewer system log e valid legal to fresh r rs is
