-- What the threads of the clusters leave, parted: clusters that stand beside the bus, and lives that are over.
use Rattle.std.proofs.Common.{◌≡◌, ◌≢◌, ◌⊎◌, ℕ, zero, suc, ◌+◌, ◌<◌, refl, sym, ◌∙◌, ap, subst, arith, List, [], ◌∷◌, ◌++◌, append-nil, inl, inr, Bool, false, true, ◌||◌, ◌&&◌, Option, Some, None, slice_get, true≢false, eqb, eq-eqb, eqb-true}
use Rattle.std.specs.Prelude.{All}
use Rattle.std.specs.List.{list_any}
use Rattle.std.proofs.lemmas.Bool.{or_left, or_right}
use Rattle.std.proofs.lemmas.List.{length-map}
use Rattle.std.proofs.lemmas.List.Elements.{All-append, All-cons, All-nil}
use Rattle.std.proofs.lemmas.List.Folds.{list_any-append}
use mathlib.Core.List.{IsPrefix}
use Rattle.t32_base.specs.declared.process.ClusterNo.{ClusterNo}
use Rattle.bus_msg.specs.declared.entry.Entry.{Entry}
use Rattle.bus_msg.specs.Places.{same_cluster}
use Rattle.cluster_core.specs.View.{ClusterView}
use Rattle.bus_order.specs.declared.shared.Origin.{Origin}
use Rattle.bus_order.specs.View.{BusView}
use Rattle.cluster_turns.specs.Along.{IsAlong, IsFailed, IsMember, IsSound, IsStopped}
use Rattle.cluster_turns.proofs.Offering.{along_longer, grows_none}
use Rattle.cluster_turns.proofs.Prefixes.{whole_part}
use Rattle.cluster_turns.proofs.Quiet.{stopped_longer}
use Rattle.cluster_turns.proofs.StepLosses.{before_longer}
use Rattle.cluster_run.specs.declared.life.Life.{Life}
use Rattle.cluster_run.specs.Lived.{are_distinct, is_life}
use Rattle.cluster_run.specs.Past.{AllPast, HasItsPast, IsPast}
use Rattle.cluster_run.proofs.OverLives.{distinct_both, each_longer}
use Rattle.cluster_threads.specs.declared.followed.Followed.{Followed}
use Rattle.cluster_threads.specs.Seated.{bus_of, origin_of}
use Rattle.cluster_threads.specs.Threads.{AllEnded, AreBeside, HasEnded, clusters_of, past_of}
use Rattle.cluster_threads.proofs.Seats.{prefix_trans}

-- ---- lists

-- a cluster of those is that of one that followed
at_mapped : (fs : List Followed) (n : ℕ) (c : ClusterView) → slice_get (clusters_of fs) n ≡ Some c → (f : Followed) × (slice_get fs n ≡ Some f) × (f.cluster ≡ c)
at_mapped [] n c at = absurd (none_some at)
  where
    none_some : ◌≡◌ {A = Option ClusterView} None (Some c) → ⊥
    none_some h = cc
at_mapped (f ∷ fs) zero c at = (f, refl, same at)
  where
    same : Some f.cluster ≡ Some c → f.cluster ≡ c
    same both_are = cc
at_mapped (f ∷ fs) (suc n) c at = at_mapped fs n c at

-- none of one list is in another that has none of those that are in the first
none_of_these : (xs ys : List Life) → ((j : ClusterNo) (m : ℕ) → list_any (is_life j m) xs ≡ true → list_any (is_life j m) ys ≡ false) → All (λ (l : Life). list_any (is_life l.cluster l.from) ys ≡ false) xs
none_of_these [] ys none = All-nil (λ (l : Life). list_any (is_life l.cluster l.from) ys ≡ false)
none_of_these (l ∷ xs) ys none =
    All-cons (λ (l : Life). list_any (is_life l.cluster l.from) ys ≡ false) l xs
    (none l.cluster l.from (or_left (is_life l.cluster l.from l) (list_any (is_life l.cluster l.from) xs) itself))
    (none_of_these xs ys (λ j m there. none j m (or_right (is_life j m l) (list_any (is_life j m) xs) there)))
  where
    itself : is_life l.cluster l.from l ≡ true
    itself = λ i. eq-eqb (l.cluster).0 (l.cluster).0 refl i && eq-eqb l.from l.from refl i

apart : (j k : ClusterNo) → j.0 ≢ k.0 → same_cluster j k ≡ false
apart j k other = by_test (eqb j.0 k.0) refl
  where
    by_test : (t : Bool) → eqb j.0 k.0 ≡ t → eqb j.0 k.0 ≡ false
    by_test true is = absurd (other (eqb-true j.0 k.0 is))
    by_test false is = is

-- ---- clusters that followed a log to its end, each with the number of its place, from one on

module _ (from : Origin) (log : List Entry) where
  abbrev AllFrom : ℕ → List Followed → Type 0
  AllFrom k fs = (n : ℕ) (f : Followed) → slice_get fs n ≡ Some f → HasEnded from (k + n) log f

  first_one : (k : ℕ) (f : Followed) (fs : List Followed) → AllFrom k (f ∷ fs) → HasEnded from k log f
  first_one k f fs all =
      let P : ℕ → Type 0 = λ m. HasEnded from m log f in
      let e : k + 0 ≡ k = omega arith in
      subst P e (all 0 f refl)

  others : (k : ℕ) (f : Followed) (fs : List Followed) → AllFrom k (f ∷ fs) → AllFrom (suc k) fs
  others k f fs all n g at =
      let P : ℕ → Type 0 = λ m. HasEnded from m log g in
      let e : k + suc n ≡ suc k + n = omega arith in
      subst P e (all (suc n) g at)

  -- what they leave has no life of a cluster of another number
  none_else : (k : ℕ) (f : Followed) (j : ClusterNo) (m : ℕ) → HasEnded from k log f → j.0 ≢ k → list_any (is_life j m) (f.past).items ≡ false
  none_else k f j m one other = one.own j m (apart j (f.cluster).number (λ same. other (same ∙ (one.member).number)))

  -- so none of a lower number than the first
  none_below : (k : ℕ) (fs : List Followed) → AllFrom k fs → (j : ClusterNo) (m : ℕ) → j.0 < k → list_any (is_life j m) (past_of fs) ≡ false
  none_below k [] all j m low = refl
  none_below k (f ∷ fs) all j m low =
      list_any-append (is_life j m) (f.past).items (past_of fs)
      ∙ (λ i. none_else k f j m (first_one k f fs all) (λ same. absurd (omega (arith, low, same))) i || none_below (suc k) fs (others k f fs all) j m (omega (arith, low)) i)

  -- and of each cluster just those that it left
  its_own : (k : ℕ) (fs : List Followed) → AllFrom k fs → (n : ℕ) (f : Followed) → slice_get fs n ≡ Some f → (m : ℕ) → list_any (is_life (f.cluster).number m) (past_of fs) ≡ list_any (is_life (f.cluster).number m) (f.past).items
  its_own k [] all n f at m = absurd (none_some at)
    where
      none_some : ◌≡◌ {A = Option Followed} None (Some f) → ⊥
      none_some h = cc
  its_own k (g ∷ fs) all zero f at m = subst Its (same at) here
    where
      Its : Followed → Type 0
      Its f = list_any (is_life (f.cluster).number m) ((g.past).items ++ past_of fs) ≡ list_any (is_life (f.cluster).number m) (f.past).items

      same : Some g ≡ Some f → g ≡ f
      same both_are = cc

      or_none : (t : Bool) → (t || false) ≡ t
      or_none true = refl
      or_none false = refl

      number : ((g.cluster).number).0 ≡ k
      number = ((first_one k g fs all).member).number

      here : list_any (is_life (g.cluster).number m) ((g.past).items ++ past_of fs) ≡ list_any (is_life (g.cluster).number m) (g.past).items
      here =
          list_any-append (is_life (g.cluster).number m) (g.past).items (past_of fs)
          ∙ ap (λ t. list_any (is_life (g.cluster).number m) (g.past).items || t) (none_below (suc k) fs (others k g fs all) (g.cluster).number m (omega (arith, number)))
          ∙ or_none (list_any (is_life (g.cluster).number m) (g.past).items)
  its_own k (g ∷ fs) all (suc n) f at m =
      let number : ((f.cluster).number).0 ≡ k + suc n = ((all (suc n) f at).member).number in
      list_any-append (is_life (f.cluster).number m) (g.past).items (past_of fs)
      ∙ (λ i. none_else k g (f.cluster).number m (first_one k g fs all) (λ same. absurd (omega (arith, number, same))) i || its_own (suc k) fs (others k g fs all) n f at m i)

  each_past : (k : ℕ) (fs : List Followed) → AllFrom k fs → All (IsPast (bus_of from log)) (past_of fs)
  each_past k [] all = All-nil (IsPast (bus_of from log))
  each_past k (f ∷ fs) all = All-append (IsPast (bus_of from log)) (f.past).items (past_of fs) ((first_one k f fs all).past).each (each_past (suc k) fs (others k f fs all))

  -- the lives of different clusters differ
  each_once : (k : ℕ) (fs : List Followed) → AllFrom k fs → are_distinct (past_of fs) ≡ true
  each_once k [] all = refl
  each_once k (f ∷ fs) all =
      distinct_both (f.past).items (past_of fs) ((first_one k f fs all).past).distinct (each_once (suc k) fs (others k f fs all))
      (none_of_these (f.past).items (past_of fs) (λ j m there. by_number j m there (eqb j.0 k) refl))
    where
      by_number : (j : ClusterNo) (m : ℕ) → list_any (is_life j m) (f.past).items ≡ true → (t : Bool) → eqb j.0 k ≡ t → list_any (is_life j m) (past_of fs) ≡ false
      by_number j m there true is = let same : j.0 ≡ k = eqb-true j.0 k is in none_below (suc k) fs (others k f fs all) j m (omega (arith, same))
      by_number j m there false is = absurd (true≢false (sym there ∙ none_else k f j m (first_one k f fs all) (λ same. true≢false (sym (eq-eqb j.0 k same) ∙ is))))

  -- so they are the lives that are over
  all_past : (fs : List Followed) → ((n : ℕ) (f : Followed) → slice_get fs n ≡ Some f → HasEnded from n log f) → AllPast (bus_of from log) (past_of fs) (clusters_of fs)
  all_past fs all = record {
    each = each_past 0 fs counted;
    distinct = each_once 0 fs counted;
    its = λ n c at.
        let found = at_mapped fs n c at in
        subst (λ (c : ClusterView). HasItsPast log (past_of fs) c) found.2 (λ m. its_own 0 fs counted n found.0 found.1 m ∙ ((all n found.0 found.1).past).its m);
  }
    where
      counted : AllFrom 0 fs
      counted n f at =
          let P : ℕ → Type 0 = λ m. HasEnded from m log f in
          let e : n ≡ 0 + n = omega arith in
          subst P e (all n f at)

-- ---- at the bus

module _ (b : BusView) (sound : IsSound b) where
  -- how a cluster stands at a bus of which the log is known it stands at the bus itself
  stands_there : (c : ClusterView) → IsAlong (bus_of (origin_of b) b.log) c ⊎ IsStopped (bus_of (origin_of b) b.log) c ⊎ IsFailed (bus_of (origin_of b) b.log) c → IsAlong b c ⊎ IsStopped b c ⊎ IsFailed b c
  stands_there c (inl along) = inl (along_longer (bus_of (origin_of b) b.log) b c along (refl, refl, grows_none c.number b.log))
  stands_there c (inr (inl stopped)) = inr (inl (stopped_longer (bus_of (origin_of b) b.log) b c [] sound refl refl (sym (append-nil b.log)) refl stopped))
  stands_there c (inr (inr failed)) = inr (inr (record {
    before = before_longer (bus_of (origin_of b) b.log) b c [] sound.legal refl refl (sym (append-nil b.log)) refl failed.before;
    disk = failed.disk;
  }))

  member_there : (n : ℕ) (c : ClusterView) → IsMember (bus_of (origin_of b) b.log) n c → IsMember b n c
  member_there n c member = record { number = member.number; along = stands_there c member.along; empty = member.empty }

-- where each followed a beginning of the log of a sound bus until that was over, it followed the whole, and all stand beside the bus
pub all_beside : (b : BusView) (from : Origin) (count : ℕ) (log : List Entry) (fs : List Followed) → IsSound b → origin_of b ≡ from → count ≡ (b.system).clusters → IsPrefix log b.log → AllEnded from count log fs → AreBeside b (clusters_of fs) (past_of fs)
all_beside b from count log fs sound came each prefix all = record {
  all = record {
    each = length-map fs (λ (f : Followed). f.cluster) ∙ all.each ∙ each;
    members = λ n c at.
        let found = at_mapped fs n c at in
        subst (IsMember b n) found.2 (member_there b sound n (found.0).cluster (here n found.0 found.1).member);
  };
  over = record {
    each = each_longer (bus_of (origin_of b) b.log) b [] (past_of fs) refl refl (sym (append-nil b.log)) past.each;
    distinct = past.distinct;
    its = past.its;
  };
}
  where
    here : (n : ℕ) (f : Followed) → slice_get fs n ≡ Some f → HasEnded (origin_of b) n b.log f
    here n f at =
        let one = (subst (λ o. AllEnded o count log fs) (sym came) all).ended n f at in
        let whole : one.part ≡ b.log = whole_part b.system one.part b.log sound.legal (prefix_trans one.part log b.log one.begins prefix) (one.ended).over in
        subst (λ l. HasEnded (origin_of b) n l f) whole one.ended

    past : AllPast (bus_of (origin_of b) b.log) (past_of fs) (clusters_of fs)
    past = all_past (origin_of b) b.log fs here
