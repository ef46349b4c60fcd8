-- A cluster takes in the entries of a log.
use Rattle.std.proofs.Common.{zero, ◌∙◌, length-append, append-nil, ◌≡◌, ℕ, suc, ◌+◌, ◌-◌, ◌≤◌, ◌<◌, ◌≢◌, refl, sym, ap, subst, arith, inl, inr, List, [], ◌∷◌, ◌++◌, length, take, drop, map, Bool, false, true, cond, not, ◌&&◌, Some, None, slice_get, true≢false, add-one, Option}
use Rattle.std.specs.Prelude.{nat_lt, option_map}
use Rattle.std.specs.Arc.{arc_value}
use Rattle.std.specs.declared.sync.Arc.{Arc}
use Rattle.std.specs.List.{list_all, list_any}
use Rattle.std.proofs.lemmas.List.{length-drop, length-map, length-take, take_all}
use Rattle.std.proofs.lemmas.Option.{slice_get-map, slice_get_cases}
use Rattle.std.proofs.lemmas.Bool.{ltb-false, ltb-true, or_parts}
use Rattle.t32_base.specs.declared.process.ClusterNo.{ClusterNo}
use Rattle.sys_text.specs.declared.system.System.{System}
use Rattle.bus_msg.specs.declared.entry.Entry.{Entry}
use Rattle.cert_sched.specs.Rules.{is_over}
use Rattle.cert_sched.specs.Legal.{IsLegalBy, MayStand}
use Rattle.bus_msg.specs.PlacedAfter.{what}
use Rattle.cert_sched.specs.Losses.{was_lost_in}
use Rattle.cert_sched.specs.declared.script.ScriptWord.{ScriptWord}
use Rattle.cert_sched.specs.Scripted.{is_closed, is_server}
use Rattle.page_server.specs.Account.{PagerState}
use Rattle.cluster_core.specs.View.{ClusterView, with_server}
use Rattle.cluster_core.specs.Follows.{Follows, IsOpen}
use Rattle.cluster_core.specs.Calls.{Absorbs, IsReady, ReadyFor, absorbed}
use Rattle.cluster_core.specs.Queue.{left_queued}
use Rattle.bus_order.specs.Log.{open_length}
use Rattle.bus_order.specs.Script.{is_unpassed, off_at}
use Rattle.bus_order.specs.View.{BusView}
use Rattle.bus_order.proofs.OverLaws.{open_not_closed, over_long}
use Rattle.cluster_turns.specs.Offers.{Adds}
use Rattle.cluster_turns.specs.Gone.{is_told_by}
use Rattle.cluster_turns.specs.Disks.{IsDiskOf, calls_for}
use Rattle.cluster_turns.specs.Ends.{followed_length}
use Rattle.cluster_turns.specs.Along.{IsAlong, IsBeside, IsReadyAt, IsSound, IsUnnamed, TakesIn, TakesNext, upto, StaysAlive}
use Rattle.cluster_turns.proofs.OwnLosses.{passed_next, told_sent}
use Rattle.cert_sched.proofs.Induction.{legal_prefix}
use Rattle.cluster_turns.proofs.Prefixes.{drop_next, drop_whole, goes_on_before}
use Rattle.cluster_turns.proofs.Upto.{lost_next, no_loss_at, on_next, upto_followed, upto_living, stopped_lost}
use Rattle.cluster_turns.proofs.Staying.{stays_next, stays_then, stays_there}
use Rattle.bus_order.proofs.LogParts.{take_one, less_of}

-- ---- the part of a log that is open

pub open_within : (log : List Entry) → open_length log ≤ length log
open_within log = less_of (is_closed log) (length log)

-- what is followed is open
pub followed_open : (system : System) (log : List Entry) → IsLegalBy MayStand system log → followed_length system log ≤ open_length log
followed_open system log legal = by_test (is_over system log) (is_closed log) refl refl
  where
    by_test : (b c : Bool) → is_over system log ≡ b → is_closed log ≡ c → length log - cond b 1 0 ≤ length log - cond c 1 0
    by_test true true over is = omega arith
    by_test true false over is = omega arith
    by_test false false over is = omega arith
    by_test false true over is = absurd (true≢false (sym is ∙ open_not_closed system log legal over))

pub open_where : (system : System) (log : List Entry) (k : ClusterNo) (n : ℕ) → IsLegalBy MayStand system log → n < upto k system log n → n < open_length log
open_where system log k n legal within =
    let low = upto_followed k system log n in
    let more = followed_open system log legal in
    omega (arith, low, more, within)

-- as far as a legal log is followed it goes on
pub open_followed : (system : System) (log : List Entry) (n : ℕ) → IsLegalBy MayStand system log → n ≤ followed_length system log → is_over system (take n log) ≡ false
open_followed system log n legal less = elim (slice_get_cases log n).1 [
  | inl there ↦ goes_on_before system log n there.0 legal there.2
  | inr past ↦ by_test (is_over system log) refl past.0 less
]
  where
    by_test : (b : Bool) → is_over system log ≡ b → length log ≤ n → n ≤ length log - cond b 1 0 → is_over system (take n log) ≡ false
    by_test true is past less = let long : 1 ≤ length log = over_long system log legal is in absurd (omega (arith, long, past, less))
    by_test false is past less = ap (is_over system) (take_all n log past) ∙ is

less_one : (b : Bool) (n m : ℕ) → n ≤ m → (b ≡ true → n ≢ m) → n ≤ m - cond b 1 0
less_one true n m within other = let apart : n ≢ m = other refl in omega (arith, within, apart)
less_one false n m within other = omega (arith, within)

-- who stands beside a log has not taken in what ends it
pub within_followed : (log : List Entry) (c : ClusterView) → IsBeside log c → c.cursor ≤ followed_length c.system log
within_followed log c beside = less_one (is_over c.system log) c.cursor (length log) beside.within (λ over same.
    let whole : is_over c.system log ≡ false = ap (is_over c.system) (sym (take_all c.cursor log (omega (arith, same)))) ∙ beside.goes_on in
    true≢false (sym over ∙ whole))

-- ---- an entry of another is taken in

module _ (log : List Entry) (c : ClusterView) (e : Entry) (beside : IsBeside log c) (legal : IsLegalBy MayStand c.system log) (at : slice_get log c.cursor ≡ Some e) (within : c.cursor < upto c.number c.system log c.cursor) where
  open_now : IsOpen MayStand c.system (take c.cursor log)
  open_now = (legal_prefix MayStand c.system log c.cursor legal, beside.goes_on)

  next_is : take (c.cursor + 1) log ≡ take c.cursor log ++ e ∷ []
  next_is = ap (λ n. take n log) (add-one c.cursor) ∙ take_one log c.cursor e at

  next_within : c.cursor + 1 ≤ followed_length c.system log
  next_within = let low = upto_followed c.number c.system log c.cursor in omega (arith, within, low)

  open_next : IsOpen MayStand c.system (take c.cursor log ++ e ∷ [])
  open_next = subst (IsOpen MayStand c.system) next_is (legal_prefix MayStand c.system log (c.cursor + 1) legal, open_followed c.system log (c.cursor + 1) legal next_within)

  later : (is_told_by c.number e ≡ false) × (list_any (is_told_by c.number) (drop (suc c.cursor) log) ≡ false)
  later = or_parts (is_told_by c.number e) (list_any (is_told_by c.number) (drop (suc c.cursor) log)) (sym (ap (list_any (is_told_by c.number)) (drop_next log c.cursor e at)) ∙ beside.told_before)

  foreign : IsReady (take c.cursor log) e c
  foreign = inl (beside.follows, told_sent c.number (e.post).by (what e) later.0, no_loss_at c.number c.system log c.cursor e at within)

  pub ready_beside : ReadyFor e c
  ready_beside = record { log = take c.cursor log; open_log = open_now; open_next = open_next; ready = foreign }

  pub beside_taken : (new : ClusterView) (server : Option PagerState) → new ≡ with_server server (absorbed c e) → Absorbs e c new → IsBeside log new
  beside_taken new server taken absorbs =
      let follows : Follows c.system (take (c.cursor + 1) log) (with_server server (absorbed c e)) =
      subst (λ l. Follows c.system l (with_server server (absorbed c e))) (sym next_is) (subst (Follows c.system (take c.cursor log ++ e ∷ [])) taken (absorbs (take c.cursor log) open_now open_next foreign)) in
      let whole : IsBeside log (with_server server (absorbed c e)) = record {
        has = beside.has;
        within = let less = less_of (is_over c.system log) (length log) in omega (arith, less, next_within);
        goes_on = open_followed c.system log (c.cursor + 1) legal next_within;
        lives = on_next log c.cursor e c.number at (no_loss_at c.number c.system log c.cursor e at within) beside.lives;
        follows = follows;
        told_before = ap (λ m. list_any (is_told_by c.number) (drop m log)) (add-one c.cursor) ∙ later.1;
        unfailed = beside.unfailed;
      } in
      subst (IsBeside log) (sym taken) whole

-- ---- the same beside a bus

legal_for : (b : BusView) (c : ClusterView) → IsSound b → c.system ≡ b.system → IsLegalBy MayStand c.system b.log
legal_for b c sound same = subst (λ s. IsLegalBy MayStand s b.log) (sym same) sound.legal

pub along_followed : (b : BusView) (c : ClusterView) → IsAlong b c → c.cursor ≤ followed_length b.system b.log
along_followed b c along = subst (λ s. c.cursor ≤ followed_length s b.log) along.system (within_followed b.log c along.beside)

pub along_within : (b : BusView) (c : ClusterView) → IsSound b → IsAlong b c → c.cursor ≤ open_length b.log
along_within b c sound along = let low = along_followed b c along in let more = followed_open b.system b.log sound.legal in omega (arith, low, more)

-- by the system of the cluster
upto_for : (b : BusView) (c : ClusterView) → IsAlong b c → c.cursor < upto c.number b.system b.log c.cursor → c.cursor < upto c.number c.system b.log c.cursor
upto_for b c along within = subst (λ s. c.cursor < upto c.number s b.log c.cursor) (sym along.system) within

pub ready_next : (b : BusView) (c : ClusterView) → IsSound b → IsAlong b c → c.cursor < upto c.number b.system b.log c.cursor → IsReadyAt b.log c
ready_next b c sound along within = record {
  within = upto_for b c along within;
  open_there = open_where b.system b.log c.number c.cursor sound.legal within;
  ready = λ e at. ready_beside b.log c e along.beside (legal_for b c sound along.system) at (upto_for b c along within);
}

-- which disk a cluster has stays where it was lost in as much of the log
pub disk_kept : (script : List ScriptWord) (c : ClusterView) (log more : List Entry) → was_lost_in more c.number ≡ was_lost_in log c.number
    → ◌≡◌ {A = Option (Option (List ℕ))} (cond (is_server c.system c.number && not (was_lost_in log c.number)) (Some (Some (calls_for c.number script))) None) (cond (is_server c.system c.number && not (was_lost_in more c.number)) (Some (Some (calls_for c.number script))) None)
disk_kept script c log more same = sym (ap (λ w. cond (is_server c.system c.number && not w) (Some (Some (calls_for c.number script))) None) same)

pub one_taken : (b : BusView) (old c new : ClusterView) → IsSound b → TakesIn b old c → c.cursor < upto c.number b.system b.log c.cursor → IsUnnamed b c → TakesNext b.log c new → TakesIn b old new
one_taken b old c new sound so_far within unnamed t = record {
  same = record { system = ap (λ (v : ClusterView). v.system) t.taken ∙ (so_far.same).system; number = ap (λ (v : ClusterView). v.number) t.taken ∙ (so_far.same).number };
  along = record {
    system = ap (λ (v : ClusterView). v.system) t.taken ∙ (so_far.along).system;
    beside = beside_taken b.log c t.entry (so_far.along).beside (legal_for b c sound (so_far.along).system) t.there (upto_for b c so_far.along within) new new.server t.taken t.follows;
    passed = let P : ClusterView → Type 0 = λ v. list_all (is_unpassed v.number b.log v.steps) b.script ≡ true in subst P (sym t.taken) (passed_next b c unnamed (so_far.along).passed);
    disk =
        let P : ClusterView → Type 0 = λ v. IsDiskOf b.script b.log v in
        let other = no_loss_at c.number b.system b.log c.cursor t.entry t.there within in
        subst P (sym t.taken) (t.disk ∙ (so_far.along).disk ∙ disk_kept b.script c (take c.cursor b.log) (take (c.cursor + 1) b.log) (ap (λ n. was_lost_in (take n b.log) c.number) (add-one c.cursor) ∙ lost_next b.log c.cursor t.entry c.number t.there other));
  };
  queue = λ empty. ap (λ (v : ClusterView). v.queue) t.taken ∙ ap (left_queued c.places (what t.entry)) (so_far.queue empty);
  stays =
      let one : new.cursor ≡ c.cursor + 1 = ap (λ (v : ClusterView). v.cursor) t.taken in
      stays_then old.number b.log old.cursor c.cursor new.cursor so_far.stays (subst (λ k. StaysAlive k b.log c.cursor new.cursor) (so_far.same).number (stays_next c.number b.system b.log c.cursor new.cursor within one));
  some =
      let one : new.cursor ≡ c.cursor + 1 = ap (λ (v : ClusterView). v.cursor) t.taken in
      let order = (so_far.stays).order in
      inl (omega (arith, one, order));
}

pub none_taken : (b : BusView) (c : ClusterView) → IsAlong b c → TakesIn b c c
none_taken b c along = record { same = record { system = refl; number = refl }; along = along; queue = λ empty. empty; stays = stays_there c.number b.log c.cursor c.cursor refl; some = inr refl }

-- a log that goes on is followed as a whole
pub followed_all : (b : BusView) → is_over b.system b.log ≡ false → followed_length b.system b.log ≡ length b.log
followed_all b goes_on = ap (λ t. length b.log - cond t 1 0) goes_on ∙ omega arith

-- by a cluster that was not lost from where it is on
pub upto_all : (b : BusView) (k : ClusterNo) (n : ℕ) → is_over b.system b.log ≡ false → n ≤ length b.log → was_lost_in (drop n b.log) k ≡ false → upto k b.system b.log n ≡ length b.log
upto_all b k n goes_on within lives = upto_living k b.system b.log n within lives ∙ followed_all b goes_on

-- one that has seen all of a log is not off
pub seen_lives : (b : BusView) (c : ClusterView) → IsAlong b c → c.cursor ≡ length b.log → off_at b.log c.number ≡ None
seen_lives b c along seen = ap (λ l. off_at l c.number) (sym (take_all c.cursor b.log (omega (arith, seen)))) ∙ (along.beside).lives

-- nor was it lost in what it has not seen
pub seen_unlost : (log : List Entry) (k : ClusterNo) (n : ℕ) → n ≡ length log → was_lost_in (drop n log) k ≡ false
seen_unlost log k n seen = ap (λ m. was_lost_in (drop m log) k) seen ∙ ap (λ l. was_lost_in l k) (drop_whole log)

-- of a log that goes on, one that has come as far as it can has not come to the end exactly where it was lost from there on
pub low_where_lost : (b : BusView) (k : ClusterNo) (n : ℕ) → is_over b.system b.log ≡ false → n ≤ length b.log → n ≡ upto k b.system b.log n → nat_lt n (followed_length b.system b.log) ≡ was_lost_in (drop n b.log) k
low_where_lost b k n goes_on within stops = by_test (nat_lt n (followed_length b.system b.log)) refl
  where
    by_test : (t : Bool) → nat_lt n (followed_length b.system b.log) ≡ t → t ≡ was_lost_in (drop n b.log) k
    by_test true low = sym (stopped_lost k b.system b.log n within stops (ltb-true n (followed_length b.system b.log) low))
    by_test false high = let all = ltb-false n (followed_length b.system b.log) high in sym (seen_unlost b.log k n (omega (arith, all, within, followed_all b goes_on)))

near_of : (t : Bool) (m : ℕ) → m ≤ (m - cond t 1 0) + 1
near_of true m = omega arith
near_of false m = omega arith

-- as far as an unchanged or a longer log is open
pub still_within : (k : ClusterNo) (n : ℕ) (b after : BusView) → Adds k b after → n ≤ open_length b.log → n ≤ open_length after.log
still_within k n b after adds within = by_more adds.more adds.log
  where
    by_more : (more : List Entry) → after.log ≡ b.log ++ more → n ≤ open_length after.log
    by_more [] is = subst (λ l. n ≤ open_length l) (sym (is ∙ append-nil b.log)) within
    by_more (e ∷ more) is =
        let long : length after.log ≡ length b.log + length (e ∷ more) = ap length is ∙ length-append b.log (e ∷ more) in
        let low = open_within b.log in
        let near : length after.log ≤ open_length after.log + 1 = near_of (is_closed after.log) (length after.log) in
        omega (arith, long, low, near, within)

-- ---- handles of a part of a log

get_drop : {X : Type 0} (xs : List X) (n i : ℕ) → slice_get (drop n xs) i ≡ slice_get xs (n + i)
get_drop xs zero i = ap (slice_get xs) (let e : i ≡ 0 + i = omega arith in e)
get_drop [] (suc n) i = refl
get_drop (x ∷ xs) (suc n) i = get_drop xs n i ∙ ap (slice_get (x ∷ xs)) (let e : suc (n + i) ≡ suc n + i = omega arith in e)

get_take : {X : Type 0} (xs : List X) (n i : ℕ) (x : X) → slice_get (take n xs) i ≡ Some x → slice_get xs i ≡ Some x
get_take xs zero i x at = cc
get_take [] (suc n) i x at = cc
get_take (y ∷ xs) (suc n) zero x at = at
get_take (y ∷ xs) (suc n) (suc i) x at = get_take xs n i x at

module _ {Z : Type 0} (entries : List (Arc Entry Z)) (log : List Entry) (from upto : ℕ) (are : map arc_value entries ≡ drop from (take upto log)) where
  pub news_at : (i : ℕ) (a : Arc Entry Z) → slice_get entries i ≡ Some a → slice_get log (from + i) ≡ Some (arc_value a)
  news_at i a at =
      let there : slice_get (drop from (take upto log)) i ≡ Some (arc_value a) = ap (λ l. slice_get l i) (sym are) ∙ slice_get-map arc_value entries i ∙ ap (option_map arc_value) at in
      get_take log upto (from + i) (arc_value a) (sym (get_drop (take upto log) from i) ∙ there)

  pub news_long : upto ≤ length log → from ≤ upto → from + length entries ≡ upto
  news_long within order =
      let long : length entries ≡ length (take upto log) - from = sym (length-map entries arc_value) ∙ ap length are ∙ length-drop from (take upto log) in
      omega (arith, long, within, order, length-take upto log)
