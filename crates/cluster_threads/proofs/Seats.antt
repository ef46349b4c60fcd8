-- The seats of the clusters, from the start of their threads to the end.
use Rattle.std.proofs.Common.{◌≡◌, ◌≢◌, ◌⊎◌, ℕ, zero, suc, ◌+◌, ◌<◌, refl, sym, ◌∙◌, ap, subst, arith, List, [], ◌∷◌, ◌++◌, length, length-append, append-nil, append_assoc, inl, inr, Bool, false, true, Option, Some, None, IfSome, slice_get, get_or, true≢false, eqb-true, eq-eqb}
use Rattle.std.specs.Prelude.{nat_eq}
use Rattle.std.specs.Option.{option_to_list}
use Rattle.std.proofs.lemmas.Option.{slice_get_within}
use Rattle.std.proofs.Math.Seq.{get_or-append_seam}
use mathlib.Core.List.{IsPrefix}
use Rattle.t32_base.specs.declared.process.ClusterNo.{ClusterNo}
use Rattle.bus_msg.specs.declared.entry.Entry.{Entry}
use Rattle.sys_text.specs.Valid.{is_system}
use Rattle.cluster_core.specs.View.{ClusterView}
use Rattle.bus_lock.specs.declared.value.LogValue.{Ghosts}
use Rattle.bus_lock.specs.declared.lock.LogLock.{LogLock}
use Rattle.bus_lock.specs.declared.seat.LogSeat.{LogSeat}
use Rattle.bus_lock.specs.Lists.{numbers_from}
use Rattle.bus_lock.specs.Views.{Joined}
use Rattle.bus_lock.specs.Seats.{AllFresh, IsFresh, IsOf, view_of}
use Rattle.bus_order.specs.Log.{author_of}
use Rattle.bus_order.specs.declared.shared.Origin.{Origin}
use Rattle.bus_order.specs.View.{BusView}
use Rattle.std.specs.List.{list_any}
use Rattle.cluster_turns.specs.Along.{IsAlong, IsFailed, IsMember, IsStopped}
use Rattle.cluster_turns.specs.Lives.{begin_of_life}
use Rattle.cluster_run.specs.Lived.{is_life}
use Rattle.cluster_run.specs.Past.{ArePastOf}
use Rattle.cluster_threads.proofs.Entering.{sound_by_log}
use Rattle.cluster_turns.proofs.StepLosses.{gone_longer}
use Rattle.cluster_turns.specs.Offers.{Adds, GrowsFor, HasGrown, IsNews}
use Rattle.cluster_turns.specs.declared.offers.News.{News}
use Rattle.sys_text.specs.declared.system.System.{System}
use Rattle.cluster_threads.specs.declared.followed.Followed.{Followed}
use Rattle.cluster_threads.specs.Seated.{bus_of, origin_of}
use Rattle.cluster_threads.specs.Threads.{AllEnded, AllReady, EndedWithin, HasEnded, HasPast, HoldsFirst, IsReady, OneEnded, Starts, WithLast}
use Rattle.cluster_turns.proofs.Prefixes.{get_front, get_last}
use Rattle.cluster_run.specs.Started.{AllStarted}
use Rattle.cluster_run.proofs.Together.{along_at_start, none_past}

-- ---- lists

pub prefix_trans : {X : Type 0} (xs ys zs : List X) → IsPrefix xs ys → IsPrefix ys zs → IsPrefix xs zs
prefix_trans xs ys zs p q = (p.0 ++ q.0, sym (append_assoc xs p.0 q.0) ∙ ap (λ l. l ++ q.0) p.1 ∙ q.1)

get_or-append_front : {X : Type 0} (xs ys : List X) (n : ℕ) (d : X) → n < length xs → get_or (xs ++ ys) n d ≡ get_or xs n d
get_or-append_front [] ys n d within = absurd (omega (arith, within))
get_or-append_front (x ∷ xs) ys zero d within = refl
get_or-append_front (x ∷ xs) ys (suc n) d within = get_or-append_front xs ys n d (omega (arith, within))

-- ---- the start

module _ {g : Ghosts BusView Entry Origin} (lock : LogLock BusView Entry Origin) (from : Origin) where
  pub at_start : (n : ℕ) (seat : LogSeat BusView Entry Origin g) (c : ClusterView) → IsFresh lock (Some from) n seat → IsReady from n c → Starts lock from seat c
  at_start n seat c fresh ready = record {
    seat_is = record { of = fresh.of; out = fresh.out; named = fresh.named ∙ sym (ready.started).number_is; alone = fresh.alone ∙ ap (λ (k : ℕ). k ∷ []) (sym (ready.started).number_is) };
    origin = fresh.from;
    unseen = fresh.unseen;
    ready = let P : ℕ → Type 0 = λ n. IsReady from n c in subst P (sym (ready.started).number_is) ready;
  }

  -- the seat and the cluster that were taken from the ends
  pub last_seat : (old left : List (LogSeat BusView Entry Origin g)) (popped : Option (LogSeat BusView Entry Origin g)) (seat : LogSeat BusView Entry Origin g) → old ≡ left ++ option_to_list popped → popped ≡ Some seat → AllFresh lock (Some from) old
      → IsFresh lock (Some from) (length left) seat
  last_seat old left popped seat e is fresh =
      let P : ℕ → LogSeat BusView Entry Origin g → Type 0 = λ k s. IsFresh lock (Some from) k s in
      let whole = subst (AllFresh lock (Some from)) (e ∙ ap (λ (o : Option (LogSeat BusView Entry Origin g)). left ++ option_to_list o) is) fresh in
      subst (P (length left)) (get_or-append_seam left seat [] seat) (whole (length left) seat (omega (arith, length-append left (seat ∷ []))))

  pub left_seats : (old left : List (LogSeat BusView Entry Origin g)) (popped : Option (LogSeat BusView Entry Origin g)) (seat : LogSeat BusView Entry Origin g) → old ≡ left ++ option_to_list popped → popped ≡ Some seat → AllFresh lock (Some from) old
      → AllFresh lock (Some from) left
  left_seats old left popped seat e is fresh n other within =
      let P : LogSeat BusView Entry Origin g → Type 0 = λ s. IsFresh lock (Some from) n s in
      let whole = subst (AllFresh lock (Some from)) (e ∙ ap (λ (o : Option (LogSeat BusView Entry Origin g)). left ++ option_to_list o) is) fresh in
      subst P (get_or-append_front left (seat ∷ []) n other within) (whole n other (omega (arith, within, length-append left (seat ∷ []))))

pub last_cluster : (from : Origin) (old left : List ClusterView) (popped : Option ClusterView) (c : ClusterView) → old ≡ left ++ option_to_list popped → popped ≡ Some c → AllReady from old → IsReady from (length left) c × AllReady from left
last_cluster from old left popped c e is ready =
    let whole : AllReady from (left ++ c ∷ []) = subst (AllReady from) (e ∙ ap (λ (o : Option ClusterView). left ++ option_to_list o) is) ready in (
      whole (length left) c (get_last left c),
      λ n d at. whole n d (get_front left (c ∷ []) n (slice_get_within left n d at) ∙ at),
    )

-- ---- the end of each

module _ (from : Origin) where
  -- one more cluster
  pub one_more_ended : (n : ℕ) (before after : List Entry) (part : List Entry) (fs : List Followed) (new : Followed) → AllEnded from n before fs → IsPrefix before after → HasEnded from n part new → IsPrefix part after
      → AllEnded from (n + 1) after (fs ++ new ∷ [])
  one_more_ended n before after part fs new all longer ended begins = record {
    each = length-append fs (new ∷ []) ∙ ap (λ n. n + 1) all.each;
    ended = λ m f at. by_place m f (nat_eq m n) refl at;
  }
    where
      by_place : (m : ℕ) (f : Followed) (b : Bool) → nat_eq m n ≡ b → slice_get (fs ++ new ∷ []) m ≡ Some f → EndedWithin from m after f
      by_place m f true same at =
          let here : m ≡ n = eqb-true m n same in
          let it : new ≡ f = let both_are : Some new ≡ Some f = sym (get_last fs new) ∙ ap (slice_get (fs ++ new ∷ [])) (all.each ∙ sym here) ∙ at in cc in
          let P : Followed → Type 0 = λ f. EndedWithin from m after f in
          let Q : ℕ → Type 0 = λ k. EndedWithin from k after new in
          subst P it (subst Q (sym here) (record { part = part; begins = begins; ended = ended }))
      by_place m f false same at =
          let other : m ≢ n = λ here. true≢false (sym (eq-eqb m n here) ∙ same) in
          let within = slice_get_within (fs ++ new ∷ []) m f at in
          let long : length (fs ++ new ∷ []) ≡ n + 1 = length-append fs (new ∷ []) ∙ ap (λ n. n + 1) all.each in
          let front : m < length fs = omega (arith, other, within, long, all.each) in
          let old = all.ended m f (sym (get_front fs (new ∷ []) m front) ∙ at) in
          record { part = old.part; begins = prefix_trans old.part before after old.begins longer; ended = old.ended }

  none_ended : (log : List Entry) → AllEnded from 0 log []
  none_ended log = record { each = refl; ended = λ m f at. absurd (omega (arith, slice_get_within [] m f at)) }

numbers_end : (first count : ℕ) → numbers_from first count ++ (first + count) ∷ [] ≡ numbers_from first (suc count)
numbers_end first zero = let e : first + 0 ≡ first = omega arith in ap (λ (x : ℕ). x ∷ []) e
numbers_end first (suc count) =
    let e : first + suc count ≡ suc first + count = omega arith in
    ap (λ (xs : List ℕ). first ∷ xs) (ap (λ (x : ℕ). numbers_from (suc first) count ++ x ∷ []) e ∙ numbers_end (suc first) count)

-- ---- those that are there

pub first_done : {V : Type 0} (from : Origin) (items_of : V → List Followed) (r : Option V) (log : List Entry) (fs : List Followed) (last : Option Followed) → IfSome r (λ all. WithLast fs last (items_of all)) → length fs ≡ 0 → IfSome last (HasEnded from 0 log)
    → IfSome r (λ all. AllEnded from 1 log (items_of all))
first_done from items_of None log fs last all none ended = tt
first_done from items_of (Some v) log fs last all none ended =
    subst (AllEnded from 1 log) (sym all.all_is) (one fs none (subst (λ o. IfSome o (HasEnded from 0 log)) all.there ended))
  where
    all_of : (xs : List Entry) → xs ++ [] ≡ xs
    all_of [] = refl
    all_of (x ∷ xs) = ap (λ l. x ∷ l) (all_of xs)

    one : (fs : List Followed) → length fs ≡ 0 → HasEnded from 0 log all.one → AllEnded from 1 log (fs ++ all.one ∷ [])
    one [] none ended = one_more_ended from 0 log log log [] all.one (none_ended from log) ([], all_of log) ended ([], all_of log)
    one (f ∷ fs) none ended = absurd (omega (arith, none))

pub join_done : {V : Type 0} (from : Origin) (items_of : V → List Followed) (r : Option V) (n : ℕ) (before after part : List Entry) (fs : List Followed) (last : Option Followed) → IfSome r (λ all. WithLast fs last (items_of all)) → AllEnded from n before fs
    → IsPrefix before after → IfSome last (HasEnded from n part) → IsPrefix part after → IfSome r (λ all. AllEnded from (n + 1) after (items_of all))
join_done from items_of None n before after part fs last all so_far longer ended begins = tt
join_done from items_of (Some v) n before after part fs last all so_far longer ended begins =
    subst (AllEnded from (n + 1) after) (sym all.all_is) (one_more_ended from n before after part fs all.one so_far longer (subst (λ o. IfSome o (HasEnded from n part)) all.there ended) begins)

module _ {g : Ghosts BusView Entry Origin} (lock : LogLock BusView Entry Origin) (from : Origin) where
  -- ---- seats are joined

  pub one_more_seat : (n : ℕ) (all seat both : LogSeat BusView Entry Origin g) (followed : Option Followed) → HoldsFirst lock from n all → OneEnded lock from n seat followed → IsOf lock both → Joined author_of (view_of all) (view_of seat) (view_of both)
      → HoldsFirst lock from (n + 1) both
  one_more_seat n all seat both followed holds is of j = record {
    of = of;
    out = j.out ∙ holds.out;
    all = j.numbers ∙ (λ i. holds.all i ++ is.alone i) ∙ ap (λ (m : ℕ). numbers_from 0 n ++ m ∷ []) (let e : n ≡ 0 + n = omega arith in e) ∙ numbers_end 0 n ∙ ap (numbers_from 0) (let e : suc n ≡ n + 1 = omega arith in e);
    origin = j.origin ∙ holds.origin;
  }

-- ---- the ends of the run

pub all_ready : (from : Origin) (cs : List ClusterView) → is_system from.system ≡ true → AllStarted from.system from.script (from.system).clusters cs → AllReady from cs
all_ready from cs valid all n c at = record { valid = valid; has = let within = slice_get_within cs n c at in omega (arith, within, all.each); started = all.started n c at }

-- at the start a cluster is along the bus, or its disk failed, and it had no life before
pub starts_member : (from : Origin) (log : List Entry) (c : ClusterView) → log ≡ [] → IsReady from (c.number).0 c → IsMember (bus_of from log) (c.number).0 c
starts_member from log c unseen ready =
    let P : List Entry → Type 0 = λ l. IsMember (bus_of from l) (c.number).0 c in
    subst P (sym unseen) (record { number = refl; along = by_way (along_at_start (bus_of from []) (c.number).0 c refl ready.has ready.started); empty = λ on lives. ((ready.started).first).queue })
  where
    by_way : IsAlong (bus_of from []) c ⊎ IsFailed (bus_of from []) c → IsAlong (bus_of from []) c ⊎ IsStopped (bus_of from []) c ⊎ IsFailed (bus_of from []) c
    by_way (inl along) = inl along
    by_way (inr failed) = inr (inr failed)

pub starts_past : (from : Origin) (log : List Entry) (f : Followed) → log ≡ [] → (f.past).items ≡ [] → IsReady from ((f.cluster).number).0 f.cluster → HasPast (bus_of from log) f
starts_past from log f unseen none ready =
    let c : ClusterView = f.cluster in
    let b : BusView = bus_of from log in
    let at : ArePastOf b [] c = (let all = none_past b (c ∷ []) (λ n d at. first n d at) in record { each = all.each; distinct = all.distinct; its = all.its 0 c refl }) in
    record { past = subst (λ past. ArePastOf b past c) (sym none) at; own = λ j from other. ap (list_any (is_life j from)) none }
  where
    first : (n : ℕ) (d : ClusterView) → slice_get (f.cluster ∷ []) n ≡ Some d → begin_of_life log d.number d.cursor ≡ 0
    first zero d at =
        let same : f.cluster ≡ d = let both_are : Some f.cluster ≡ Some d = at in cc in
        ap (λ (v : ClusterView). begin_of_life log v.number v.cursor) (sym same) ∙ ap (begin_of_life log (f.cluster).number) ((ready.started).first).cursor
    first (suc n) d at = cc

-- ---- one cluster

-- one that stopped at a bus, as its seat has seen that
pub stopped_seen : (b : BusView) (from : Origin) (log : List Entry) (c : ClusterView) → IsStopped b c → origin_of b ≡ from → log ≡ b.log → IsStopped (bus_of from log) c
stopped_seen b from log c stopped came whole =
    let P : Origin → Type 0 = λ o. IsStopped (bus_of o log) c in
    let Q : List Entry → Type 0 = λ l. IsStopped (bus_of (origin_of b) l) c in
    subst P came (subst Q (sym whole) (record {
      sound = sound_by_log b b.log stopped.sound refl;
      gone = gone_longer b (bus_of (origin_of b) b.log) c [] (stopped.sound).legal refl refl (sym (append-nil b.log)) refl stopped.gone;
      quiet = stopped.quiet;
    }))

-- a cluster had the bus, and added to it
pub visit_grown : (k : ClusterNo) (from : Origin) (was : List Entry) (b after : BusView) (log : List Entry) → GrowsFor k was b.log → Adds k b after → log ≡ after.log
    → HasGrown (bus_of from was) (bus_of from log)
visit_grown k from was b after log longer adds whole = record {
  system = refl;
  script = refl;
  more = longer.more ++ adds.more;
  log = whole ∙ adds.log ∙ ap (λ l. l ++ adds.more) longer.longer ∙ append_assoc was longer.more adds.more;
}

-- and is shown what is new in what its seat has seen
pub news_seen : (system : System) (log : List Entry) (found after : BusView) (news : News) → found ≡ after → after.system ≡ system → log ≡ after.log → IsNews found.system found.log news → IsNews system log news
news_seen system log found after news is same whole shown =
    let there : IsNews after.system after.log news = subst (λ (b : BusView). IsNews b.system b.log news) is shown in
    subst (λ (s : System). IsNews s log news) same (subst (λ (l : List Entry). IsNews after.system l news) (sym whole) there)
