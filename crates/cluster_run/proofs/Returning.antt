-- A cluster that was lost behind its cursor comes back at its next return in the log.
use Rattle.std.proofs.Common.{◌≡◌, ℕ, zero, suc, ◌+◌, ◌-◌, ◌≤◌, ◌<◌, refl, sym, ◌∙◌, ap, subst, arith, List, [], ◌∷◌, ◌++◌, length, take, drop, Bool, false, true, cond, not, ◌||◌, ◌&&◌, Option, Some, None, slice_get, is_some, true≢false, add-one, eqb-true, inl, inr}
use Rattle.std.specs.List.{list_any}
use Rattle.std.specs.Option.{option_map_or}
use Rattle.std.proofs.lemmas.Bool.{cases_lt, or_parts}
use Rattle.std.proofs.lemmas.List.{length-drop, length-take, take-append-drop, take_all}
use Rattle.std.proofs.lemmas.Option.{slice_get_within}
use Rattle.t32_base.specs.declared.process.ClusterNo.{ClusterNo}
use Rattle.t32_base.specs.declared.process.Pid.{Pid}
use Rattle.sys_text.specs.declared.system.System.{System}
use Rattle.sys_text.specs.Valid.{is_system}
use Rattle.bus_msg.specs.Places.{Places, same_cluster}
use Rattle.bus_msg.specs.declared.entry.What.{What}
use Rattle.bus_msg.specs.declared.entry.What.TheVariants.{Return}
use Rattle.bus_msg.specs.declared.entry.Entry.{Entry}
use Rattle.bus_msg.specs.PlacedAfter.{what}
use Rattle.cert_sched.specs.Legal.{IsLegalBy, Stands, MayStand}
use Rattle.cert_sched.specs.Losses.{is_crash_of, was_lost_in}
use Rattle.cert_sched.specs.Rules.{is_over}
use Rattle.cert_sched.specs.Schedule.{placement}
use Rattle.cert_sched.specs.Scripted.{is_server}
use Rattle.cert_sched.proofs.Induction.{legal_prefix}
use Rattle.log_laws.specs.births.Unsynced.{unsynced_births}
use Rattle.cluster_core.specs.Follows.{Follows, IsOpen, StandsBetween}
use Rattle.cluster_core.specs.Known.{CanKnow, IsKnown}
use Rattle.cluster_core.specs.Returned.{returned}
use Rattle.cluster_core.specs.View.{ClusterView, after_sent}
use Rattle.bus_msg.specs.declared.entry.Post.{Post}
use Rattle.bus_order.specs.Script.{off_at}
use Rattle.bus_order.specs.View.{BusView}
use Rattle.bus_order.proofs.LogParts.{take_one}
use Rattle.script_laws.specs.Off.{comes_back, has_returned_in}
use Rattle.script_laws.proofs.Alternating.{off_from, on_behind}
use Rattle.script_laws.proofs.OffLosses.{all_stand}
use Rattle.cluster_turns.specs.Along.{IsAlong, IsSound, IsStopped}
use Rattle.cluster_turns.specs.Disks.{calls_for}
use Rattle.cluster_turns.specs.Gone.{StoodAs, is_told_by}
use Rattle.cluster_turns.specs.Lives.{begins_at, end_of_life}
use Rattle.cluster_turns.proofs.LostLives.{life_ends, lost_inside, loss_there}
use Rattle.cluster_turns.proofs.Prefixes.{get_front, none_later}
use Rattle.cluster_turns.proofs.TakingIn.{followed_all, open_followed}
use Rattle.cluster_run.specs.Begun.{IsNextReturn}
use Rattle.cluster_run.proofs.Begins.{no_return, on_after}

-- a cluster that has come back follows the log up to its return
abbrev pub FollowReturns : Type 0
FollowReturns =
    (system : System) (log : List Entry) (e : Entry) (k : ClusterNo) (steps : ℕ) → is_system system ≡ true → IsLegalBy Stands system (log ++ e ∷ []) → what e ≡ Return k
    → Follows system (log ++ e ∷ []) (returned system k (placement system (log ++ e ∷ [])) (unsynced_births system (log ++ e ∷ [])) (length (log ++ e ∷ [])) steps)

-- ---- lists

-- one that is there passes
pub any_there : {X : Type 0} (test : X → Bool) (xs : List X) (n : ℕ) (x : X) → slice_get xs n ≡ Some x → test x ≡ true → list_any test xs ≡ true
any_there test [] n x at here = cc
any_there test (y ∷ ys) zero x at here = let same : y ≡ x = cc in ap (λ b. b || list_any test ys) (ap test same ∙ here)
any_there test (y ∷ ys) (suc n) x at here = by_first (test y) (any_there test ys n x at here)
  where
    by_first : (b : Bool) → list_any test ys ≡ true → (b || list_any test ys) ≡ true
    by_first true more = refl
    by_first false more = more

-- none of a part passes
pub none_there : {X : Type 0} (test : X → Bool) (xs : List X) (n d m : ℕ) (x : X) → list_any test (take d (drop n xs)) ≡ false → n ≤ m → m < n + d → slice_get xs m ≡ Some x → test x ≡ false
none_there test [] n d m x none low high at = cc
none_there test (y ∷ xs) zero zero m x none low high at = absurd (omega (arith, high))
none_there test (y ∷ xs) zero (suc d) zero x none low high at = let same : y ≡ x = cc in ap test (sym same) ∙ (or_parts (test y) (list_any test (take d xs)) none).0
none_there test (y ∷ xs) zero (suc d) (suc m) x none low high at = none_there test xs zero d m x (or_parts (test y) (list_any test (take d xs)) none).1 (omega arith) (omega (arith, high)) at
none_there test (y ∷ xs) (suc n) d zero x none low high at = absurd (omega (arith, low))
none_there test (y ∷ xs) (suc n) d (suc m) x none low high at = none_there test xs n d m x none (omega (arith, low)) (omega (arith, high)) at

-- a part that is longer by one
pub take_more_by : {X : Type 0} (xs : List X) (n m : ℕ) (x : X) → n ≤ m → slice_get xs m ≡ Some x → take ((m + 1) - n) (drop n xs) ≡ take (m - n) (drop n xs) ++ x ∷ []
take_more_by [] n m x order at = cc
take_more_by {X = X} (y ∷ xs) zero m x order at = ap (λ k. take k (y ∷ xs)) (let e : (m + 1) - 0 ≡ suc m = omega arith in e) ∙ first (y ∷ xs) m at ∙ ap (λ k. take k (y ∷ xs) ++ x ∷ []) (let e : m ≡ m - 0 = omega arith in e)
  where
    first : (zs : List X) (m : ℕ) → slice_get zs m ≡ Some x → take (suc m) zs ≡ take m zs ++ x ∷ []
    first [] m at = cc
    first (z ∷ zs) zero at = let same : z ≡ x = cc in ap (λ z. z ∷ []) same
    first (z ∷ zs) (suc m) at = ap (λ l. z ∷ l) (first zs m at)
take_more_by (y ∷ xs) (suc n) zero x order at = absurd (omega (arith, order))
take_more_by (y ∷ xs) (suc n) (suc m) x order at =
    ap (λ k. take k (drop n xs)) (let e : (suc m + 1) - suc n ≡ (m + 1) - n = omega arith in e) ∙ take_more_by xs n m x (omega (arith, order)) at
    ∙ ap (λ k. take k (drop n xs) ++ x ∷ []) (let e : m - n ≡ suc m - suc n = omega arith in e)

-- ---- one that was lost behind its cursor

-- what it knows of the log up to its cursor
sent_places : (c : ClusterView) (queue : List Post) → (after_sent c queue).places ≡ c.places
sent_places c [] = refl
sent_places c (post ∷ rest) = refl

sent_family : (c : ClusterView) (queue : List Post) → (after_sent c queue).family ≡ c.family
sent_family c [] = refl
sent_family c (post ∷ rest) = refl

between_known : (system : System) (log : List Entry) (e : Entry) (c : ClusterView) → StandsBetween Follows system log e c → IsKnown system log c.places c.family
between_known system log e c between =
    let was = between.before in
    let held = between.followed in
    record {
      places_are = ap (λ (v : ClusterView). v.places) between.sent ∙ sent_places was was.queue ∙ (held.log).places;
      family_is = ap (λ (v : ClusterView). v.family) between.sent ∙ sent_family was was.queue ∙ held.family;
    }

pub stopped_known : (b : BusView) (c : ClusterView) → IsStopped b c → IsKnown b.system (take c.cursor b.log) c.places c.family
stopped_known b c stopped = by_stood ((stopped.gone).left).followed
  where
    by_stood : StoodAs b c → IsKnown b.system (take c.cursor b.log) c.places c.family
    by_stood (inl (unfailed, inl beside)) = record { places_are = ((beside.follows).log).places; family_is = (beside.follows).family }
    by_stood (inl (unfailed, inr (cut, between))) = between_known b.system (take c.cursor b.log) between.entry c between.between
    by_stood (inr (cut, failed)) = failed.known

-- ---- a log that goes on

module _ (b : BusView) (sound : IsSound b) (goes_on : is_over b.system b.log ≡ false) where
  pub open_part : (n : ℕ) → n ≤ length b.log → IsOpen MayStand b.system (take n b.log)
  open_part n within = (legal_prefix MayStand b.system b.log n sound.legal, open_followed b.system b.log n sound.legal (let all = followed_all b goes_on in omega (arith, all, within)))

  -- what is known of a part of it may be carried on
  pub can_know : (n : ℕ) (e : Entry) (places : Places) (family : List (Pid × Pid)) → slice_get b.log n ≡ Some e → IsKnown b.system (take n b.log) places family → CanKnow e places family
  can_know n e places family at known =
      let within = slice_get_within b.log n e at in
      record {
        system = b.system;
        log = take n b.log;
        valid = sound.valid;
        open_log = open_part n (omega (arith, within));
        open_next = subst (IsOpen MayStand b.system) (take_one b.log n e at) (open_part (suc n) (omega (arith, within)));
        known = known;
      }

  -- one that lives and was lost behind its cursor was brought back behind that
  pub returned_behind : (c : ClusterView) → off_at b.log c.number ≡ None → IsStopped b c → was_lost_in (drop c.cursor b.log) c.number ≡ true → (n : ℕ) → length b.log ≤ n → has_returned_in (take (n - c.cursor) (drop c.cursor b.log)) c.number ≡ false → ⊥
  returned_behind c lives stopped lost n far none =
      let whole : take (n - c.cursor) (drop c.cursor b.log) ≡ drop c.cursor b.log = take_all (n - c.cursor) (drop c.cursor b.log) (let long = length-drop c.cursor b.log in omega (arith, long, far)) in
      let off = off_from b.log c.number c.cursor (ap (λ l. has_returned_in l c.number) (sym whole) ∙ none) in
      let on : is_some (off_at (take c.cursor b.log) c.number) ≡ false = ap is_some ((stopped.gone).left).lives in
      true≢false (sym (off ∙ (λ i. on i || lost i)) ∙ ap is_some lives)

  -- ---- its next return

  module _ (c : ClusterView) (stopped : IsStopped b c) (lost : was_lost_in (drop c.cursor b.log) c.number ≡ true) (at : ℕ) (return : IsNextReturn b.log c at) where
    inside : (c.cursor ≤ end_of_life b.log c.number c.cursor) × (end_of_life b.log c.number c.cursor < length b.log)
    inside = lost_inside b.log c.number c.cursor lost

    pub return_begins : begins_at b.log c.number (suc at) ≡ true
    return_begins = ap (λ o. option_map_or (λ (e : Entry). comes_back c.number (what e)) o false) return.there ∙ return.back

    return_within : at < length b.log
    return_within = slice_get_within b.log at return.entry return.there

    -- stands behind its loss
    behind_loss : end_of_life b.log c.number c.cursor < at
    behind_loss = elim (cases_lt (end_of_life b.log c.number c.cursor) at) [
      | inl less ↦ less
      | inr more ↦
          let ends = life_ends b.log c.number c.cursor lost in
          let low = return.later in
          let on = on_after b.system b.log c.number sound.legal c.cursor at (record { order = low; before = omega (arith, ends, more) }) (let most = return_within in omega (arith, most)) ((stopped.gone).left).lives in
          absurd (true≢false (sym return_begins ∙ no_return b.system b.log c.number sound.legal at on))
    ]

    -- so it was lost in the log up to its return
    lost_up_to : was_lost_in (take (at + 1) b.log) c.number ≡ true
    lost_up_to =
        let loss = loss_there b.log c.number c.cursor lost in
        let place : ℕ = end_of_life b.log c.number c.cursor in
        let long : length (take (at + 1) b.log) ≡ at + 1 = let n = length-take (at + 1) b.log in let most = return_within in omega (arith, n, most) in
        let there : slice_get (take (at + 1) b.log) place ≡ Some loss.0 =
        sym (get_front (take (at + 1) b.log) (drop (at + 1) b.log) place (let less = behind_loss in omega (arith, long, less))) ∙ ap (λ l. slice_get l place) (take-append-drop (at + 1) b.log) ∙ loss.1 in
        any_there (λ (e : Entry). is_crash_of c.number (what e)) (take (at + 1) b.log) place loss.0 there loss.3

    same_no : (j : ClusterNo) → same_cluster j c.number ≡ true → j ≡ c.number
    same_no j is = λ i. record { 0 = eqb-true j.0 (c.number).0 is i }

    is_return : (w : What) → comes_back c.number w ≡ true → w ≡ Return c.number
    is_return (Return j) back = ap Return (same_no j back)
    is_return _ back = absurd (true≢false (sym back))

    -- behind it the cluster goes on along its bus
    pub back_along : FollowReturns → (places : Places) (family : List (Pid × Pid)) → (c.number).0 < (b.system).clusters → IsKnown b.system (take (at + 1) b.log) places family → IsAlong b (returned b.system c.number places family (at + 1) c.steps)
    back_along law places family has known = record {
      system = refl;
      beside = record {
        has = has;
        within = let most = return_within in omega (arith, most);
        goes_on = (open_part (at + 1) (let most = return_within in omega (arith, most))).1;
        lives = on_behind b.log c.number at return.entry return.there return.back;
        follows = follows;
        told_before = none_later (is_told_by c.number) b.log (end_of_life b.log c.number c.cursor + 1) (at + 1) (let less = behind_loss in omega (arith, less)) stopped.quiet;
        unfailed = refl;
      };
      passed = ((stopped.gone).left).passed;
      disk = sym (ap (λ w. cond (is_server b.system c.number && not w) (Some (Some (calls_for c.number b.script))) None) lost_up_to ∙ by_server (is_server b.system c.number));
    }
      where
        next_is : take (at + 1) b.log ≡ take at b.log ++ return.entry ∷ []
        next_is = ap (λ n. take n b.log) (add-one at) ∙ take_one b.log at return.entry return.there

        long : length (take (at + 1) b.log) ≡ at + 1
        long = let n = length-take (at + 1) b.log in let most = return_within in omega (arith, n, most)

        legal : IsLegalBy Stands b.system (take at b.log ++ return.entry ∷ [])
        legal = all_stand b.system (take at b.log ++ return.entry ∷ []) (subst (IsLegalBy MayStand b.system) next_is (legal_prefix MayStand b.system b.log (at + 1) sound.legal))

        whole : Follows b.system (take (at + 1) b.log) (returned b.system c.number (placement b.system (take (at + 1) b.log)) (unsynced_births b.system (take (at + 1) b.log)) (length (take (at + 1) b.log)) c.steps)
        whole =
            let P : List Entry → Type 0 = λ l. Follows b.system l (returned b.system c.number (placement b.system l) (unsynced_births b.system l) (length l) c.steps) in
            subst P (sym next_is) (law b.system (take at b.log) return.entry c.number c.steps sound.valid legal (is_return (what return.entry) return.back))

        follows : Follows b.system (take (at + 1) b.log) (returned b.system c.number places family (at + 1) c.steps)
        follows = subst (Follows b.system (take (at + 1) b.log)) (λ i. returned b.system c.number (sym known.places_are i) (sym known.family_is i) (long i) c.steps) whole

        by_server : (t : Bool) → ◌≡◌ {A = Option (Option (List ℕ))} (cond (t && not true) (Some (Some (calls_for c.number b.script))) None) None
        by_server true = refl
        by_server false = refl
