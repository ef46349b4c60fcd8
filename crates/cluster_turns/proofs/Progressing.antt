-- Each turn that does something leaves less to do, and each round does, or ends the run.
use Rattle.std.proofs.Common.{◌≡◌, ℕ, zero, suc, ◌+◌, ◌≤◌, ◌<◌, ◌≢◌, ◌⊎◌, inl, inr, refl, sym, ◌∙◌, ap, subst, arith, List, [], ◌∷◌, length, Bool, false, true, ◌||◌, ◌&&◌, Option, Some, None, get_or, slice_set, true≢false, eq-eqb, eqb-true}
use Rattle.std.specs.Prelude.{is_none, is_some, nat_eq, nat_lt, option_map, slice_get}
use Rattle.std.specs.List.{list_any, range_with_len, sum_by}
use Rattle.std.proofs.lemmas.List.Sums.{sum_by-set}
use Rattle.std.proofs.lemmas.Bool.Decides.{nat_tests}
use Rattle.std.proofs.lemmas.Option.{slice_get-map}
use Rattle.std.proofs.lemmas.List.{get_or-set_same, get_or-set_other}
use Rattle.t32_base.specs.declared.process.ClusterNo.{ClusterNo}
use Rattle.bus_msg.specs.Places.{all_clusters, cluster_no, lives_in, servers_in}
use Rattle.cert_sched.specs.Schedule.{placement}
use Rattle.cert_sched.specs.Rules.{is_over}
use Rattle.bus_order.specs.Script.{off_at}
use Rattle.script_laws.proofs.OffLosses.{all_stand}
use Rattle.script_laws.proofs.OffSince.{lives_unless_off}
use Rattle.cert_sched.proofs.Induction.{is_over-snoc}
use Rattle.cert_sched.proofs.HomesLaws.{stand_clusters-length}
use Rattle.cluster_core.specs.View.{ClusterView, load}
use Rattle.bus_order.specs.declared.marks.Mark.{Mark}
use Rattle.bus_order.specs.declared.marks.Idled.{Idled}
use Rattle.bus_order.specs.declared.marks.Idled.TheVariants.{Marked, Done as WasDone}
use Rattle.bus_order.specs.View.{BusView, is_awaited, mark_in, with_mark}
use Rattle.cluster_turns.specs.Offers.{TakesMark}
use Rattle.bus_order.proofs.MarksLaws.{mark_in-get_or}
use Rattle.cluster_turns.specs.Progress.{Falls, FallsBehind, GetsOn, HasMark, IsAtMost, IsAwaiting, IsOff, IsOver, LivesMarked, Remaining, Rests, remaining, remaining_of, total, unseen, AwaitsPage, HasAnswered}
use Rattle.cluster_turns.specs.Turns.{HasSpent, TurnsOwn}
use Rattle.cert_sched.specs.Legal.{IsLegalBy, MayStand}
use Rattle.cluster_turns.proofs.FirstServer.{FirstServer, first_lives, first_there}
use Rattle.cert_sched.specs.Moved.{waiting_fetches}
use Rattle.cert_sched.specs.Parts.{first_of}
use Rattle.sys_text.specs.Valid.{is_system}

-- ---- marks

set_here : (marks : List (Option Mark)) (k : ClusterNo) (m : Mark) → k.0 < length marks → is_some (mark_in (slice_set marks k.0 (Some m)) k) ≡ true
set_here marks k m within = ap is_some (mark_in-get_or (slice_set marks k.0 (Some m)) k ∙ get_or-set_same marks k.0 (Some m) None within)

set_there : (marks : List (Option Mark)) (k j : ClusterNo) (m : Mark) → j.0 ≢ k.0 → mark_in (slice_set marks k.0 (Some m)) j ≡ mark_in marks j
set_there marks k j m other = mark_in-get_or (slice_set marks k.0 (Some m)) j ∙ get_or-set_other marks k.0 j.0 (Some m) None other ∙ sym (mark_in-get_or marks j)

-- the mark of a cluster is set: it has one, and no other has lost its own
marked_still : (b : BusView) (k : ClusterNo) (m : Mark) (n : ℕ) → k.0 < length b.marks → HasMark b n ⊎ (n ≡ k.0) → HasMark (with_mark b k m) n
marked_still b k m n within had = by_place (nat_eq n k.0) refl had
  where
    by_place : (t : Bool) → nat_eq n k.0 ≡ t → HasMark b n ⊎ (n ≡ k.0) → HasMark (with_mark b k m) n
    by_place true is had =
        let same : k ≡ cluster_no n = λ i. record { 0 = sym (eqb-true n k.0 is) i } in
        let P : ClusterNo → Type 0 = λ j. is_some (mark_in (slice_set b.marks k.0 (Some m)) j) ≡ true in
        subst P same (set_here b.marks k m within)
    by_place false is had = elim had [
      | inl has ↦ ap is_some (set_there b.marks k (cluster_no n) m (λ same. true≢false (sym (eq-eqb n k.0 same) ∙ is))) ∙ has
      | inr same ↦ absurd (true≢false (sym (eq-eqb n k.0 same) ∙ is))
    ]

-- what a bus made of an idle cluster that lives
pub told_rest : (b after : BusView) (k : ClusterNo) (cursor : ℕ) (m : Mark) (idled : Idled) → TakesMark b k cursor m idled after → k.0 < length b.marks → HasAnswered b k.0 → IsOver after ⊎ Rests b after k.0 (k.0 + 1)
told_rest b after k cursor m Marked idles within answered = inr (record {
  system = ap (λ (x : BusView). x.system) idles.3;
  log = ap (λ (x : BusView). x.log) idles.3;
  answered = λ n low high. along (λ (x : BusView). HasAnswered x n) (subst (HasAnswered b) (let same : k.0 ≡ n = omega (arith, low, high) in same) answered);
  marked = λ n low high. inl (along (λ (x : BusView). HasMark x n) (marked_still b k m n within (inr (omega (arith, low, high)))));
  kept = λ n has. along (λ (x : BusView). HasMark x n) (marked_still b k m n within (inl has));
  awaits = λ none any. let P : BusView → Type 0 = λ x. is_awaited (placement x.system x.log) after.marks ≡ true in subst P (sym (λ i. record (idles.3 i) { marks = b.marks })) idles.2;
})
  where
    along : (P : BusView → Type 0) → P (with_mark b k m) → P after
    along P holds = subst P (sym idles.3) holds
told_rest b after k cursor m (WasDone at) idles within answered =
    let ends = idles.3 in
    inl (let P : BusView → Type 0 = λ x. is_over x.system x.log ≡ true in subst P (sym ends.ended) (is_over-snoc b.system b.log _))

-- ---- what is left

-- the parts behind the words
behind_then : (a b c : Remaining) → FallsBehind a b → FallsBehind b c ⊎ ((c.posts ≡ b.posts) × (c.entries ≡ b.entries) × (c.moves ≡ b.moves)) → FallsBehind a c
behind_then a b c (inl x) (inl (inl y)) = inl (omega (arith, x, y))
behind_then a b c (inl x) (inl (inr (inl y))) = inl (omega (arith, x, y.0))
behind_then a b c (inl x) (inl (inr (inr y))) = inl (omega (arith, x, y.0))
behind_then a b c (inl x) (inr y) = inl (omega (arith, x, y.0))
behind_then a b c (inr (inl x)) (inl (inl y)) = inl (omega (arith, x.0, y))
behind_then a b c (inr (inl x)) (inl (inr (inl y))) = inr (inl (y.0 ∙ x.0, omega (arith, x.1, y.1)))
behind_then a b c (inr (inl x)) (inl (inr (inr y))) = inr (inl (y.0 ∙ x.0, omega (arith, x.1, y.1)))
behind_then a b c (inr (inl x)) (inr y) = inr (inl (y.0 ∙ x.0, omega (arith, x.1, y.1)))
behind_then a b c (inr (inr x)) (inl (inl y)) = inl (omega (arith, x.0, y))
behind_then a b c (inr (inr x)) (inl (inr (inl y))) = inr (inl (y.0 ∙ x.0, omega (arith, x.1, y.1)))
behind_then a b c (inr (inr x)) (inl (inr (inr y))) = inr (inr (y.0 ∙ x.0, y.1 ∙ x.1, omega (arith, x.2, y.2)))
behind_then a b c (inr (inr x)) (inr y) = inr (inr (y.0 ∙ x.0, y.1 ∙ x.1, omega (arith, x.2, y.2)))

then_behind : (a b c : Remaining) → (b.posts ≡ a.posts) × (b.entries ≡ a.entries) × (b.moves ≡ a.moves) → FallsBehind b c → FallsBehind a c
then_behind a b c x (inl y) = inl (omega (arith, x.0, y))
then_behind a b c x (inr (inl y)) = inr (inl (y.0 ∙ x.0, omega (arith, x.1, y.1)))
then_behind a b c x (inr (inr y)) = inr (inr (y.0 ∙ x.0, y.1 ∙ x.1, omega (arith, x.2, y.2)))

-- with the words
pub falls_then : (a b c : Remaining) → Falls a b → IsAtMost b c → Falls a c
falls_then a b c (inl x) (inl (inl y)) = inl (omega (arith, x, y))
falls_then a b c (inl x) (inl (inr y)) = inl (omega (arith, x, y.0))
falls_then a b c (inl x) (inr y) = inl (omega (arith, x, y.0))
falls_then a b c (inr x) (inl (inl y)) = inl (omega (arith, x.0, y))
falls_then a b c (inr x) (inl (inr y)) = inr (y.0 ∙ x.0, behind_then a b c x.1 (inl y.1))
falls_then a b c (inr x) (inr y) = inr (y.0 ∙ x.0, behind_then a b c x.1 (inr (y.1, y.2, y.3)))

pub then_falls : (a b c : Remaining) → IsAtMost a b → Falls b c → Falls a c
then_falls a b c (inl x) y = falls_then a b c x (inl y)
then_falls a b c (inr x) (inl y) = inl (omega (arith, x.0, y))
then_falls a b c (inr x) (inr y) = inr (y.0 ∙ x.0, then_behind a b c (x.1, x.2, x.3) y.1)

pub at_most_then : (a b c : Remaining) → IsAtMost a b → IsAtMost b c → IsAtMost a c
at_most_then a b c (inl x) y = inl (falls_then a b c x y)
at_most_then a b c (inr x) (inl y) = inl (then_falls a b c (inr x) y)
at_most_then a b c (inr x) (inr y) = inr (y.0 ∙ x.0, y.1 ∙ x.1, y.2 ∙ x.2, y.3 ∙ x.3)

-- ---- turns

nat_lt_or : (m n : ℕ) → (m < n) ⊎ (n ≤ m)
nat_lt_or m n = by_test (nat_lt m n) refl
  where
    by_test : (t : Bool) → nat_lt m n ≡ t → (m < n) ⊎ (n ≤ m)
    by_test true is = inl (grind (arith, nat_tests))
    by_test false is = inr (grind (arith, nat_tests))

-- what the turn of one cluster makes of all
module _ (b after : BusView) (cs : List ClusterView) (n : ℕ) (d new : ClusterView) (within : n < length cs) (number : ((get_or cs n d).number).0 ≡ n) (t : TurnsOwn b after (get_or cs n d) new) where
  moves_are : total (slice_set cs n new) + load (get_or cs n d) ≡ total cs + load new
  moves_are = omega (arith, sum_by-set load cs n new d within)

  entries_are : after.log ≡ b.log → sum_by (unseen after.log) (slice_set cs n new) + unseen b.log (get_or cs n d) ≡ sum_by (unseen b.log) cs + unseen after.log new
  entries_are same =
      let sums : sum_by (unseen b.log) (slice_set cs n new) + unseen b.log (get_or cs n d) ≡ sum_by (unseen b.log) cs + unseen b.log new = omega (arith, sum_by-set (unseen b.log) cs n new d within) in
      subst (λ l. sum_by (unseen l) (slice_set cs n new) + unseen b.log (get_or cs n d) ≡ sum_by (unseen b.log) cs + unseen l new) (sym same) sums

  falls_alone : after.log ≡ b.log → Falls (remaining_of b (get_or cs n d)) (remaining_of after new) → Falls (remaining b cs) (remaining after (slice_set cs n new))
  falls_alone same (inl fewer) = inl fewer
  falls_alone same (inr (words, inl less)) = inr (words, inl less)
  falls_alone same (inr (words, inr (inl less))) = let sums = entries_are same in inr (words, inr (inl (less.0, omega (arith, less.1, sums))))
  falls_alone same (inr (words, inr (inr less))) = let sums = entries_are same in let moves = moves_are in inr (words, inr (inr (less.0, omega (arith, less.1, sums), omega (arith, less.2, moves))))

  turn_falls : Falls (remaining_of b (get_or cs n d)) (remaining_of after new) → Falls (remaining b cs) (remaining after (slice_set cs n new)) ⊎ IsOver after
  turn_falls falls = by_spent t.spends
    where
      by_spent : HasSpent b after → Falls (remaining b cs) (remaining after (slice_set cs n new)) ⊎ IsOver after
      by_spent (inl over) = inr over
      by_spent (inr (inl fewer)) = inl (inl fewer)
      by_spent (inr (inr (words, inl less))) = inl (inr (words, inl less))
      by_spent (inr (inr (words, inr same))) = inl (falls_alone same falls)

  by_one : after.log ≡ b.log → IsOver after ⊎ IsAtMost (remaining_of b (get_or cs n d)) (remaining_of after new) → IsOver after ⊎ IsAtMost (remaining b cs) (remaining after (slice_set cs n new))
  by_one same (inl over) = inl over
  by_one same (inr (inl falls)) = inr (inl (falls_alone same falls))
  by_one same (inr (inr kept)) = let sums = entries_are same in let moves = moves_are in inr (inr (kept.0, kept.1, omega (arith, kept.2, sums), omega (arith, kept.3, moves)))

  pub turn_lasts : IsOver after ⊎ IsAtMost (remaining b cs) (remaining after (slice_set cs n new))
  turn_lasts = by_spent t.spends
    where
      by_spent : HasSpent b after → IsOver after ⊎ IsAtMost (remaining b cs) (remaining after (slice_set cs n new))
      by_spent (inl over) = inl over
      by_spent (inr (inl fewer)) = inr (inl (inl fewer))
      by_spent (inr (inr (words, inl less))) = inr (inl (inr (words, inl less)))
      by_spent (inr (inr (words, inr same))) = by_one same t.lasts

  pub turn_gets_on : GetsOn b after (remaining b cs) (remaining after (slice_set cs n new)) n (n + 1)
  turn_gets_on = elim t.gets_on [
    | inl falls ↦ elim (turn_falls falls) [ inl less ↦ inl less | inr over ↦ inr (inl over) ]
    | inr more ↦ inr (subst (λ k. IsOver after ⊎ Rests b after k (k + 1)) number more)
  ]

-- a cluster that waits for a page, and has answered, leaves the bus as it is
pub waiting_rests : (b : BusView) (k : ClusterNo) → AwaitsPage b → HasAnswered b k.0 → Rests b b k.0 (k.0 + 1)
waiting_rests b k waits answered = record {
  system = refl;
  log = refl;
  marked = λ n low high. inr (inr waits);
  answered = λ n low high. subst (HasAnswered b) (let same : k.0 ≡ n = omega (arith, low, high) in same) answered;
  kept = λ n has. has;
  awaits = λ none any. absurd (waits none);
}

-- a cluster that is off rests
pub off_rests : (b : BusView) (n : ℕ) → IsLegalBy MayStand b.system b.log → IsOff b n → Rests b b n (n + 1)
off_rests b n legal off = record {
  system = refl;
  log = refl;
  marked = λ m low high. inr (inl (is_off m low high));
  answered = λ m low high first. absurd (true≢false (sym (is_off m low high) ∙ ap is_some (first_lives b.system b.log (cluster_no m) legal first)));
  kept = λ m has. has;
  awaits = λ none any. none_or any;
}
  where
    is_off : (m : ℕ) → n ≤ m → m < n + 1 → IsOff b m
    is_off m low high = subst (IsOff b) (let same : n ≡ m = omega (arith, low, high) in same) off

    none_or : LivesMarked b n (n + 1) ⊎ IsAwaiting b → IsAwaiting b
    none_or (inl one) =
        let low = one.low in
        let high = one.high in
        let same : one.number ≡ n = omega (arith, low, high) in
        absurd (true≢false (sym (subst (IsOff b) (sym same) off) ∙ ap is_some one.lives))
    none_or (inr awaiting) = awaiting

-- where the log is over, or the cluster is off, nothing is done
pub done_given : (b : BusView) (left : Remaining) (n : ℕ) (k : ClusterNo) → IsLegalBy MayStand b.system b.log → k.0 ≡ n → (is_over b.system b.log || is_some (off_at b.log k)) ≡ true → GetsOn b b left left n (n + 1)
done_given b left n k legal same done = by_end (is_over b.system b.log) refl
  where
    by_end : (t : Bool) → is_over b.system b.log ≡ t → GetsOn b b left left n (n + 1)
    by_end true over = inr (inl over)
    by_end false goes_on = inr (inr (off_rests b n legal (ap (λ m. is_some (off_at b.log (cluster_no m))) (sym same) ∙ ap (λ t. t || is_some (off_at b.log k)) (sym goes_on) ∙ done)))

-- ---- a bus on which nothing was done, and one before it

-- what was asked for is what was asked for before
none_before : (mid after : BusView) → after.system ≡ mid.system → after.log ≡ mid.log → waiting_fetches after.system after.log ≡ [] → waiting_fetches mid.system mid.log ≡ []
none_before mid after system log none = sym (λ i. waiting_fetches (system i) (log i)) ∙ none

marked_then : (mid after : BusView) (m : ℕ) → after.system ≡ mid.system → after.log ≡ mid.log → (HasMark mid m → HasMark after m) → HasMark mid m ⊎ IsOff mid m ⊎ AwaitsPage mid → HasMark after m ⊎ IsOff after m ⊎ AwaitsPage after
marked_then mid after m system log kept (inl has) = inl (kept has)
marked_then mid after m system log kept (inr (inl off)) = inr (inl (ap (λ l. is_some (off_at l (cluster_no m))) log ∙ off))
marked_then mid after m system log kept (inr (inr waits)) = inr (inr (λ none. waits (none_before mid after system log none)))

answered_then : (mid after : BusView) (m : ℕ) → after.system ≡ mid.system → after.log ≡ mid.log → HasAnswered mid m → HasAnswered after m
answered_then mid after m system log answered first = (λ i. waiting_fetches (system i) (log i)) ∙ answered (sym (λ i. first_of (servers_in (placement (system i) (log i)))) ∙ first)

-- one that lives has its mark where each page has come
has_mark : (b : BusView) (n : ℕ) → waiting_fetches b.system b.log ≡ [] → off_at b.log (cluster_no n) ≡ None → HasMark b n ⊎ IsOff b n ⊎ AwaitsPage b → HasMark b n
has_mark b n none lives (inl has) = has
has_mark b n none lives (inr (inl off)) = absurd (true≢false (sym off ∙ ap is_some lives))
has_mark b n none lives (inr (inr waits)) = absurd (waits none)

-- one turn more
module _ (b mid after : BusView) (left now still : Remaining) (from n : ℕ) (over : IsOver mid → IsOver after) (first : IsOver mid ⊎ IsAtMost left now) (last : IsOver after ⊎ IsAtMost now still) where
  by_last : Falls left now → IsOver after ⊎ IsAtMost now still → GetsOn b after left still from (n + 1)
  by_last falls (inl ended) = inr (inl ended)
  by_last falls (inr less) = inl (falls_then left now still falls less)

  by_first : Falls now still → IsOver mid ⊎ IsAtMost left now → GetsOn b after left still from (n + 1)
  by_first falls (inl ended) = inr (inl (over ended))
  by_first falls (inr less) = inl (then_falls left now still less falls)

  by_place : (m : ℕ) → Rests b mid from n → Rests mid after n (n + 1) → (m < n) ⊎ (n ≤ m) → from ≤ m → m < n + 1 → HasMark after m ⊎ IsOff after m ⊎ AwaitsPage after
  by_place m one two (inl earlier) low high = marked_then mid after m two.system two.log (two.kept m) (one.marked m low earlier)
  by_place m one two (inr here) low high = two.marked m here high

  answered_by : (m : ℕ) → Rests b mid from n → Rests mid after n (n + 1) → (m < n) ⊎ (n ≤ m) → from ≤ m → m < n + 1 → HasAnswered after m
  answered_by m one two (inl earlier) low high = answered_then mid after m two.system two.log (one.answered m low earlier)
  answered_by m one two (inr here) low high = two.answered m here high

  -- one of them that lives was marked by a turn
  by_living : Rests b mid from n → Rests mid after n (n + 1) → waiting_fetches after.system after.log ≡ [] → (l : LivesMarked after from (n + 1)) → (l.number < n) ⊎ (n ≤ l.number) → IsAwaiting after
  by_living one two none l (inl earlier) = two.awaits none (inr (one.awaits none_mid (inl (record {
    number = l.number;
    low = l.low;
    high = earlier;
    lives = lives_mid;
    marked = has_mark mid l.number none_mid lives_mid (one.marked l.number l.low earlier);
  }))))
    where
      none_mid : waiting_fetches mid.system mid.log ≡ []
      none_mid = none_before mid after two.system two.log none

      lives_mid : off_at mid.log (cluster_no l.number) ≡ None
      lives_mid = ap (λ x. off_at x (cluster_no l.number)) (sym two.log) ∙ l.lives
  by_living one two none l (inr here) = two.awaits none (inl (record { number = l.number; low = here; high = l.high; lives = l.lives; marked = l.marked }))

  by_any : Rests b mid from n → Rests mid after n (n + 1) → waiting_fetches after.system after.log ≡ [] → LivesMarked after from (n + 1) ⊎ IsAwaiting b → IsAwaiting after
  by_any one two none (inl l) = by_living one two none l (nat_lt_or l.number n)
  by_any one two none (inr awaiting) = two.awaits none (inr (one.awaits (none_before mid after two.system two.log none) (inr awaiting)))

  by_next : Rests b mid from n → GetsOn mid after now still n (n + 1) → GetsOn b after left still from (n + 1)
  by_next one (inl falls) = by_first falls first
  by_next one (inr (inl ended)) = inr (inl ended)
  by_next one (inr (inr two)) = inr (inr (record {
    system = two.system ∙ one.system;
    log = two.log ∙ one.log;
    marked = λ m low high. by_place m one two (nat_lt_or m n) low high;
    answered = λ m low high. answered_by m one two (nat_lt_or m n) low high;
    kept = λ m has. two.kept m (one.kept m has);
    awaits = by_any one two;
  }))

  pub one_given : GetsOn b mid left now from n → GetsOn mid after now still n (n + 1) → GetsOn b after left still from (n + 1)
  one_given (inl falls) next = by_last falls last
  one_given (inr (inl ended)) next = inr (inl (over ended))
  one_given (inr (inr one)) next = by_next one next

pub lasts_then : (mid after : BusView) (left now still : Remaining) → (IsOver mid → IsOver after) → IsOver mid ⊎ IsAtMost left now → IsOver after ⊎ IsAtMost now still → IsOver after ⊎ IsAtMost left still
lasts_then mid after left now still over (inl ended) last = inl (over ended)
lasts_then mid after left now still over (inr less) (inl ended) = inl ended
lasts_then mid after left now still over (inr less) (inr more) = inr (at_most_then left now still less more)

-- ---- a round

any_none : {X : Type 0} (test : X → Bool) (xs : List X) → ((n : ℕ) (x : X) → slice_get xs n ≡ Some x → test x ≡ false) → list_any test xs ≡ false
any_none test [] none = refl
any_none test (x ∷ xs) none = λ i. none 0 x refl i || any_none test xs (λ n y at. none (suc n) y at) i

range_at : (from count n k : ℕ) → slice_get (range_with_len from count) n ≡ Some k → (k ≡ from + n) × (n < count)
range_at from zero n k at = cc
range_at from (suc count) zero k at = let same : from ≡ k = cc in (omega (arith, same), omega arith)
range_at from (suc count) (suc n) k at = let more = range_at (from + 1) count n k at in (omega (arith, more.0), omega (arith, more.1))

not_none : (alive : Bool) (o : Option Mark) → is_some o ≡ true → (alive && is_none o) ≡ false
not_none alive None has = absurd (true≢false (sym has))
not_none true (Some m) has = refl
not_none false (Some m) has = refl

-- where each cluster has its mark or is off, none is awaited
none_awaited : (b : BusView) → IsLegalBy MayStand b.system b.log → ((n : ℕ) → n < (b.system).clusters → HasMark b n ⊎ IsOff b n) → is_awaited (placement b.system b.log) b.marks ≡ false
none_awaited b legal all = any_none (λ k. lives_in (placement b.system b.log) k && is_none (mark_in b.marks k)) (all_clusters (placement b.system b.log)) (λ n k at. one n k (slice_get (range_with_len 0 (length (placement b.system b.log).clusters)) n) refl (sym (slice_get-map cluster_no (range_with_len 0 (length (placement b.system b.log).clusters)) n) ∙ at))
  where
    marked_or : (i : ℕ) → i < (b.system).clusters → HasMark b i ⊎ IsOff b i → (lives_in (placement b.system b.log) (cluster_no i) && is_none (mark_in b.marks (cluster_no i))) ≡ false
    marked_or i within (inl has) = not_none (lives_in (placement b.system b.log) (cluster_no i)) (mark_in b.marks (cluster_no i)) has
    marked_or i within (inr off) = ap (λ t. t && is_none (mark_in b.marks (cluster_no i))) (lives_unless_off b.system b.log (cluster_no i) (all_stand b.system b.log legal) within ∙ by_off (off_at b.log (cluster_no i)) off)
      where
        by_off : (o : Option ℕ) → is_some o ≡ true → is_none o ≡ false
        by_off None h = absurd (true≢false (sym h))
        by_off (Some n) h = refl

    one : (n : ℕ) (k : ClusterNo) (o : Option ℕ) → slice_get (range_with_len 0 (length (placement b.system b.log).clusters)) n ≡ o → option_map cluster_no o ≡ Some k → (lives_in (placement b.system b.log) k && is_none (mark_in b.marks k)) ≡ false
    one n k None at is = cc
    one n k (Some i) at is =
        let place = range_at 0 (length (placement b.system b.log).clusters) n i at in
        let within : i < (b.system).clusters = omega (arith, place.0, place.1, stand_clusters-length b.system b.log legal) in
        let same : cluster_no i ≡ k = cc in
        subst (λ k. (lives_in (placement b.system b.log) k && is_none (mark_in b.marks k)) ≡ false) same (marked_or i within (all i within))

-- a round leaves less to do, or the log is over
module _ (b then after : BusView) (left still now : Remaining) (first count : ℕ) (valid : is_system after.system ≡ true) (legal : IsLegalBy MayStand after.system after.log) (each : count ≡ (after.system).clusters) (over : IsOver then → IsOver after)
    (first_lasts : IsOver then ⊎ IsAtMost left still) (second_lasts : IsOver after ⊎ IsAtMost still now) where
  all_marked : Rests b then first count → Rests then after 0 first → (n : ℕ) → (n < first) ⊎ (first ≤ n) → n < count → HasMark after n ⊎ IsOff after n ⊎ AwaitsPage after
  all_marked one two n (inl earlier) low = two.marked n (omega arith) earlier
  all_marked one two n (inr later) low = marked_then then after n two.system two.log (two.kept n) (one.marked n later low)

  all_answered : Rests b then first count → Rests then after 0 first → (n : ℕ) → (n < first) ⊎ (first ≤ n) → n < count → HasAnswered after n
  all_answered one two n (inl earlier) low = two.answered n (omega arith) earlier
  all_answered one two n (inr later) low = answered_then then after n two.system two.log (one.answered n later low)

  -- the first page server had its turn, so each page has come
  none_awaits : is_over after.system after.log ≡ false → Rests b then first count → Rests then after 0 first → waiting_fetches after.system after.log ≡ []
  none_awaits goes one two =
      let server = first_there after.system after.log valid legal goes in
      all_answered one two server.number (nat_lt_or server.number first) (let within = server.within in omega (arith, within, each)) server.first

  -- that server lives and was marked, so that one was awaited still
  awaited_by : (alive : FirstServer after.system after.log) → Rests b then first count → Rests then after 0 first → waiting_fetches after.system after.log ≡ [] → (alive.number < first) ⊎ (first ≤ alive.number) → HasMark after alive.number → IsAwaiting after
  awaited_by alive one two none (inl earlier) has = two.awaits none (inl (record { number = alive.number; low = omega arith; high = earlier; lives = alive.lives; marked = has }))
  awaited_by alive one two none (inr later) has = two.awaits none (inr (one.awaits (none_before then after two.system two.log none) (inl (record {
    number = alive.number;
    low = later;
    high = let within = alive.within in omega (arith, within, each);
    lives = lives_then;
    marked = has_mark then alive.number (none_before then after two.system two.log none) lives_then (one.marked alive.number later (let within = alive.within in omega (arith, within, each)));
  }))))
    where
      lives_then : off_at then.log (cluster_no alive.number) ≡ None
      lives_then = ap (λ x. off_at x (cluster_no alive.number)) (sym two.log) ∙ alive.lives

  never_rest : is_over after.system after.log ≡ false → Rests b then first count → Rests then after 0 first → ⊥
  never_rest goes one two =
      let alive = first_there after.system after.log valid legal goes in
      let none = none_awaits goes one two in
      let all = λ (n : ℕ) (low : n < (after.system).clusters). marked_or_off n none (all_marked one two n (nat_lt_or n first) (omega (arith, low, each))) in
      let has : HasMark after alive.number = has_mark after alive.number none alive.lives (all_marked one two alive.number (nat_lt_or alive.number first) (let within = alive.within in omega (arith, within, each))) in
      true≢false (sym (awaited_by alive one two none (nat_lt_or alive.number first) has) ∙ none_awaited after legal all)
    where
      marked_or_off : (n : ℕ) → waiting_fetches after.system after.log ≡ [] → HasMark after n ⊎ IsOff after n ⊎ AwaitsPage after → HasMark after n ⊎ IsOff after n
      marked_or_off n none (inl has) = inl has
      marked_or_off n none (inr (inl off)) = inr off
      marked_or_off n none (inr (inr waits)) = absurd (waits none)

  second_after : Falls left still → IsOver after ⊎ IsAtMost still now → Falls left now ⊎ IsOver after
  second_after falls (inl ended) = inr ended
  second_after falls (inr less) = inl (falls_then left still now falls less)

  first_before : Falls still now → IsOver then ⊎ IsAtMost left still → Falls left now ⊎ IsOver after
  first_before falls (inl ended) = inr (over ended)
  first_before falls (inr less) = inl (then_falls left still now less falls)

  after_rest : Rests b then first count → GetsOn then after still now 0 first → Falls left now ⊎ IsOver after
  after_rest one (inl falls) = first_before falls first_lasts
  after_rest one (inr (inl ended)) = inr ended
  after_rest one (inr (inr two)) = by_over (is_over after.system after.log) refl
    where
      by_over : (t : Bool) → is_over after.system after.log ≡ t → Falls left now ⊎ IsOver after
      by_over true ended = inr ended
      by_over false goes = absurd (never_rest goes one two)

  pub round_gets_on : GetsOn b then left still first count → GetsOn then after still now 0 first → Falls left now ⊎ IsOver after
  round_gets_on (inl falls) next = second_after falls second_lasts
  round_gets_on (inr (inl ended)) next = inr (over ended)
  round_gets_on (inr (inr one)) next = after_rest one next
