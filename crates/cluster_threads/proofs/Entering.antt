-- A cluster takes the bus from its lock, and puts it back.
use Rattle.std.proofs.Common.{◌≡◌, ℕ, ◌+◌, refl, sym, ◌∙◌, ap, subst, arith, inl, List, [], ◌∷◌, ◌++◌, length, drop, length-append, Bool, false, true, cond, ◌||◌, Option, Some, None}
use Rattle.std.specs.Prelude.{All}
use Rattle.std.specs.List.{list_any}
use Rattle.std.proofs.lemmas.List.Elements.{All-nil, All-cons}
use Rattle.std.proofs.Math.Seq.{drop-append_seam}
use mathlib.Core.List.{IsPrefix}
use Rattle.t32_base.specs.declared.process.ClusterNo.{ClusterNo}
use Rattle.bus_msg.specs.declared.entry.Entry.{Entry}
use Rattle.cert_sched.specs.Appended.{entry_of}
use Rattle.cert_sched.specs.Rules.{is_over}
use Rattle.cert_sched.proofs.Induction.{is_over-snoc}
use Rattle.bus_lock.specs.declared.value.LogValue.{Ghosts}
use Rattle.bus_lock.specs.declared.lock.LogLock.{LogLock}
use Rattle.bus_lock.specs.declared.seat.LogSeat.{LogSeat}
use Rattle.bus_lock.specs.Lists.{MayAdd, entries_by, is_author}
use Rattle.bus_lock.specs.Seats.{name, seat_origin, seen}
use Rattle.bus_order.specs.Log.{author_of}
use Rattle.std.specs.Option.{option_map_or}
use Rattle.bus_order.specs.declared.shared.Origin.{Origin}
use Rattle.bus_order.specs.View.{BusView, Stops, stop_post}
use Rattle.cluster_turns.specs.Gone.{is_told_by}
use Rattle.cluster_turns.specs.Offers.{Adds, GrowsFor}
use Rattle.cluster_turns.specs.Along.{IsSound}
use Rattle.cluster_threads.specs.Seated.{IsInside, SeesEnd, bus_of, origin_of}
use Rattle.cluster_turns.proofs.Offering.{adds_none}

-- ---- entries by a cluster

none_by : (k : ClusterNo) (more : List Entry) → length (entries_by author_of k.0 more) ≡ 0 → list_any (is_told_by k) more ≡ false
none_by k [] none = refl
none_by k (e ∷ more) none = by_test (is_told_by k e) none (none_by k more)
  where
    by_test : (a : Bool) → length (cond a (e ∷ entries_by author_of k.0 more) (entries_by author_of k.0 more)) ≡ 0 → (length (entries_by author_of k.0 more) ≡ 0 → list_any (is_told_by k) more ≡ false) → (a || list_any (is_told_by k) more) ≡ false
    by_test true long rest = absurd (omega (arith, long))
    by_test false long rest = rest long

by-append : (n : ℕ) (xs more : List Entry) → entries_by author_of n (xs ++ more) ≡ entries_by author_of n xs ++ entries_by author_of n more
by-append n [] more = refl
by-append n (x ∷ xs) more = by_test (is_author n (author_of x)) (by-append n xs more)
  where
    by_test : (b : Bool) → entries_by author_of n (xs ++ more) ≡ entries_by author_of n xs ++ entries_by author_of n more
        → cond b (x ∷ entries_by author_of n (xs ++ more)) (entries_by author_of n (xs ++ more)) ≡ cond b (x ∷ entries_by author_of n xs) (entries_by author_of n xs) ++ entries_by author_of n more
    by_test true same = ap (λ es. x ∷ es) same
    by_test false same = same

-- what is new is by others, where a list has as many entries by the cluster as before
pub grows_for : (k : ClusterNo) (old new : List Entry) → IsPrefix old new → entries_by author_of k.0 new ≡ entries_by author_of k.0 old → GrowsFor k old new
grows_for k old new prefix same = record {
  more = prefix.0;
  longer = sym prefix.1;
  others = none_by k prefix.0 (
      let whole : length (entries_by author_of k.0 old) + length (entries_by author_of k.0 prefix.0) ≡ length (entries_by author_of k.0 old) =
      sym (length-append (entries_by author_of k.0 old) (entries_by author_of k.0 prefix.0)) ∙ ap length (sym (by-append k.0 old prefix.0) ∙ ap (entries_by author_of k.0) prefix.1 ∙ same) in
      omega (arith, whole)
      );
}

module _ {g : Ghosts BusView Entry Origin} where
  -- ---- it is put back

  module _ (lock : LogLock BusView Entry Origin) (k : ClusterNo) (seat : LogSeat BusView Entry Origin g) (was b : BusView) (inside : IsInside lock k seat was) (adds : Adds k was b) where
    new_part : drop (length (seen seat)) b.log ≡ adds.more
    new_part = (λ i. drop (length (inside.whole i)) (adds.log i)) ∙ drop-append_seam was.log adds.more

    pub put_added : All (MayAdd author_of (name seat)) (drop (length (seen seat)) b.log)
    put_added =
        let At : ℕ → Type 0 = λ n. All (MayAdd author_of n) adds.more in
        subst (All (MayAdd author_of (name seat))) (sym new_part) (subst At (sym inside.named) adds.may)

-- ---- a stop

pub stop_adds : (k : ClusterNo) (b after : BusView) (r : Option ℕ) → Stops b r after → Adds k b after
stop_adds k b after None is = subst (Adds k b) (sym is.1) (adds_none k b)
stop_adds k b after (Some at) is = subst (Adds k b) (sym is.2) (record {
  system = refl;
  script = refl;
  more = entry_of b.system b.log stop_post ∷ [];
  log = refl;
  may = All-cons (MayAdd author_of k.0) (entry_of b.system b.log stop_post) [] (inl refl) (All-nil (MayAdd author_of k.0));
})

-- after it the log is over
pub stop_over : (b after : BusView) (r : Option ℕ) → Stops b r after → is_over after.system after.log ≡ true
stop_over b after None is = ap (λ (v : BusView). is_over v.system v.log) is.1 ∙ is.0
stop_over b after (Some at) is = ap (λ (v : BusView). is_over v.system v.log) is.2 ∙ is_over-snoc b.system b.log (entry_of b.system b.log stop_post)

pub sees_end : {g : Ghosts BusView Entry Origin} (seat : LogSeat BusView Entry Origin g) (b : BusView) → seat_origin seat ≡ Some (origin_of b) → seen seat ≡ b.log → is_over b.system b.log ≡ true → SeesEnd seat
sees_end seat b came whole over from origin =
    let same : b.system ≡ from.system = ap (λ (o : Option Origin). option_map_or (λ (a : Origin). a.system) o b.system) (sym came ∙ origin) in
    (λ i. is_over (sym same i) (whole i)) ∙ over

-- what is known of it from its system, its script and its log
pub sound_by_log : (b : BusView) (log : List Entry) → IsSound b → log ≡ b.log → IsSound (bus_of (origin_of b) log)
sound_by_log b log sound same =
    let P : List Entry → Type 0 = λ l. IsSound (bus_of (origin_of b) l) in
    subst P (sym same) (record { valid = sound.valid; legal = sound.legal; unreturned = sound.unreturned; fits = sound.fits })
