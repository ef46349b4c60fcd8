-- A cluster is lost only where it lives, and brought back only where it is lost: so its losses and returns alternate.
use Rattle.std.proofs.Common.{◌≡◌, ℕ, zero, suc, ◌+◌, ◌<◌, ◌≤◌, refl, sym, ◌∙◌, ap, subst, arith, List, [], ◌∷◌, ◌++◌, append_assoc, append-nil, take, drop, slice_get, Bool, true, false, cond, not, ◌||◌, ◌⊎◌, inl, inr, eqb-true, Option, Some, None, is_none, is_some, true≢false}
use Rattle.std.specs.List.{list_any}
use Rattle.std.specs.Option.{option_map_or}
use Rattle.std.proofs.lemmas.Bool.{or_parts}
use Rattle.std.proofs.lemmas.List.{drop-take, take-append-drop}
use Rattle.t32_base.specs.declared.process.ClusterNo.{ClusterNo}
use Rattle.sys_text.specs.declared.system.System.{System}
use Rattle.bus_msg.specs.declared.entry.What.{What}
use Rattle.bus_msg.specs.declared.entry.What.TheVariants.{Crash, Return}
use Rattle.bus_msg.specs.declared.entry.Entry.{Entry}
use Rattle.bus_msg.specs.Places.{ClusterPlace, Places, lives_in, is_lost_in}
use Rattle.bus_msg.specs.PlacedAfter.{what}
use Rattle.cert_sched.specs.Parts.{last_that}
use Rattle.cert_sched.specs.Schedule.{placement}
use Rattle.cert_sched.specs.Kinds.{KindHolds}
use Rattle.cert_sched.specs.Losses.{is_by_cluster, is_crash_of, was_lost_in}
use Rattle.cert_sched.specs.Legal.{IsLegalBy, Stands}
use Rattle.cert_sched.proofs.HomesLaws.{clusters-length}
use Rattle.cert_sched.proofs.LogLaws.{IsLegal-last}
use Rattle.cert_sched.proofs.Induction.{legal_prefix}
use Rattle.bus_order.specs.Script.{off_at, place_of_loss, turns}
use Rattle.bus_order.proofs.LogParts.{take_one}
use Rattle.bus_order.proofs.OffLaws.{off_at-snoc, off_taken}
use Rattle.bus_order.proofs.Returning.{lost_within}
use Rattle.script_laws.specs.Off.{IsOffSince, comes_back, has_returned_in, is_lost_last}
use Rattle.script_laws.proofs.OffSince.{lives_on, lives_unless_off, off_since, off_until_back, silent_until_back, turns_lost, turns_parts}

-- ---- lists

take_within : {X : Type 0} (n m : ℕ) (xs : List X) → take n (take (n + m) xs) ≡ take n xs
take_within zero m xs = refl
take_within (suc n) m [] = let on : suc n + m ≡ suc (n + m) = omega arith in ap (λ j. take (suc n) (take j [])) on
take_within (suc n) m (x ∷ xs) = let on : suc n + m ≡ suc (n + m) = omega arith in ap (λ j. take (suc n) (take j (x ∷ xs))) on ∙ ap (λ l. x ∷ l) (take_within n m xs)

-- an entry of a legal log stands behind those before it
pub stood_at : (May : System → List Entry → Entry → Type 0) (system : System) (log : List Entry) (n : ℕ) (e : Entry) → IsLegalBy May system log → slice_get log n ≡ Some e → IsLegalBy May system (take n log) × May system (take n log) e
stood_at May system log n e legal at =
    let more : IsLegalBy May system (take n log ++ e ∷ []) = subst (IsLegalBy May system) (take_one log n e at) (legal_prefix May system log (suc n) legal) in
    (legal_prefix May system log n legal, IsLegal-last May system (take n log) e more)

-- ---- one more entry

-- what loses a cluster loses one that lives
pub loses_living : (system : System) (log : List Entry) (e : Entry) (k : ClusterNo) (w : What) → KindHolds system log e w → is_crash_of k w ≡ true → lives_in (placement system log) k ≡ true
loses_living system log e k (Crash j cause) kind h = subst (λ c. lives_in (placement system log) c ≡ true) (λ i. record { 0 = eqb-true j.0 k.0 h i }) kind
loses_living system log e k _ kind h = absurd (true≢false (sym h))

-- and what brings one back brings back one that is lost
pub brings_lost : (system : System) (log : List Entry) (e : Entry) (k : ClusterNo) (w : What) → KindHolds system log e w → comes_back k w ≡ true → is_lost_in (placement system log) k ≡ true
brings_lost system log e k (Return j) kind h = subst (λ c. is_lost_in (placement system log) c ≡ true) (λ i. record { 0 = eqb-true j.0 k.0 h i }) kind
brings_lost system log e k _ kind h = absurd (true≢false (sym h))

pub lost_follows : (system : System) (log : List Entry) (e : Entry) (k : ClusterNo) → IsLegalBy Stands system log → Stands system log e → is_crash_of k (what e) ≡ true → (lives_in (placement system log) k ≡ true) × (off_at log k ≡ None)
lost_follows system log e k legal stands loses =
    let lives = loses_living system log e k (what e) stands.kind loses in
    (lives, lives_on system log k legal lives)

pub back_follows : (system : System) (log : List Entry) (e : Entry) (k : ClusterNo) → IsLegalBy Stands system log → Stands system log e → comes_back k (what e) ≡ true → (is_lost_in (placement system log) k ≡ true) × (is_some (off_at log k) ≡ true)
back_follows system log e k legal stands back =
    let lost = brings_lost system log e k (what e) stands.kind back in
    let within : k.0 < system.clusters = omega (arith, lost_within (placement system log) k lost, clusters-length Stands system log legal) in
    (lost, by_off (off_at log k) (sym (lives_unless_off system log k legal within) ∙ lost_dead (placement system log) lost))
  where
    lost_dead : (places : Places) → is_lost_in places k ≡ true → lives_in places k ≡ false
    lost_dead places = by_cluster (slice_get places.clusters k.0)
      where
        by_lives : (b : Bool) → not b ≡ true → b ≡ false
        by_lives true h = absurd (true≢false (sym h))
        by_lives false h = refl

        by_cluster : (o : Option ClusterPlace) → option_map_or (λ (c : ClusterPlace). not c.lives) o false ≡ true → option_map_or (λ (c : ClusterPlace). c.lives) o false ≡ false
        by_cluster None lost = refl
        by_cluster (Some c) lost = by_lives c.lives lost

    by_off : (o : Option ℕ) → is_none o ≡ false → is_some o ≡ true
    by_off None h = absurd (true≢false h)
    by_off (Some n) h = refl

-- ---- behind a loss, and behind a return

-- what loses a cluster turns it
loss_turns : (k : ClusterNo) (w : What) → is_crash_of k w ≡ true → turns k w ≡ true
loss_turns k w loses = turns_parts k w ∙ ap (λ b. b || comes_back k w) loses

back_turns : (k : ClusterNo) (w : What) → comes_back k w ≡ true → (turns k w ≡ true) × (is_crash_of k w ≡ false)
back_turns k (Return j) back = (back, refl)
back_turns k _ back = absurd (true≢false (sym back))

-- behind its loss a cluster is off
pub off_behind : (log : List Entry) (k : ClusterNo) (n : ℕ) (e : Entry) → slice_get log n ≡ Some e → is_crash_of k (what e) ≡ true → off_at (take (n + 1) log) k ≡ Some e.place
off_behind log k n e at loses =
    off_taken log n e k at
    ∙ ap (λ b. cond b (place_of_loss k (Some e)) (off_at (take n log) k)) (loss_turns k (what e) loses)
    ∙ ap (λ b. cond b (Some e.place) None) loses

-- behind its return it is not
pub on_behind : (log : List Entry) (k : ClusterNo) (n : ℕ) (e : Entry) → slice_get log n ≡ Some e → comes_back k (what e) ≡ true → off_at (take (n + 1) log) k ≡ None
on_behind log k n e at back =
    off_taken log n e k at
    ∙ ap (λ b. cond b (place_of_loss k (Some e)) (off_at (take n log) k)) (back_turns k (what e) back).0
    ∙ ap (λ b. cond b (Some e.place) None) (back_turns k (what e) back).1

-- ---- where nothing brings it back

off_more : (before more : List Entry) (k : ClusterNo) → has_returned_in more k ≡ false → is_some (off_at (before ++ more) k) ≡ (is_some (off_at before k) || was_lost_in more k)
off_more before [] k none = ap (λ l. is_some (off_at l k)) (append-nil before) ∙ or_false (is_some (off_at before k))
  where
    or_false : (b : Bool) → b ≡ (b || false)
    or_false true = refl
    or_false false = refl
off_more before (e ∷ more) k none =
    let parts = or_parts (comes_back k (what e)) (has_returned_in more k) none in
    ap (λ l. is_some (off_at l k)) (sym (append_assoc before (e ∷ []) more))
    ∙ off_more (before ++ e ∷ []) more k parts.1
    ∙ ap (λ o. is_some o || was_lost_in more k) (off_at-snoc before e k)
    ∙ ap (λ b. is_some (cond b (cond (is_crash_of k (what e)) (Some e.place) None) (off_at before k)) || was_lost_in more k) (turns_lost k (what e) parts.0)
    ∙ by_tests (is_crash_of k (what e)) (off_at before k) (was_lost_in more k)
  where
    by_tests : (loses : Bool) (o : Option ℕ) (later : Bool) → (is_some (cond loses (cond loses (Some e.place) None) o) || later) ≡ (is_some o || (loses || later))
    by_tests true None later = refl
    by_tests true (Some n) later = refl
    by_tests false None later = refl
    by_tests false (Some n) later = refl

-- from a place on a cluster that no entry brings back is off where it was off there, or was lost from there on
pub off_from : (log : List Entry) (k : ClusterNo) (n : ℕ) → has_returned_in (drop n log) k ≡ false → is_some (off_at log k) ≡ (is_some (off_at (take n log) k) || was_lost_in (drop n log) k)
off_from log k n none = ap (λ l. is_some (off_at l k)) (sym (take-append-drop n log)) ∙ off_more (take n log) (drop n log) k none

-- one that is not off and that no entry loses is not off then
on_more : (before more : List Entry) (k : ClusterNo) → off_at before k ≡ None → was_lost_in more k ≡ false → off_at (before ++ more) k ≡ None
on_more before [] k on none = ap (λ l. off_at l k) (append-nil before) ∙ on
on_more before (e ∷ more) k on none =
    let parts = or_parts (is_crash_of k (what e)) (was_lost_in more k) none in
    ap (λ l. off_at l k) (sym (append_assoc before (e ∷ []) more))
    ∙ on_more (before ++ e ∷ []) more k
    (off_at-snoc before e k ∙ (λ i. cond (turns k (what e)) (cond (parts.0 i) (Some e.place) None) (on i)) ∙ by_test (turns k (what e))) parts.1
  where
    by_test : (b : Bool) → ◌≡◌ {A = Option ℕ} (cond b None None) None
    by_test true = refl
    by_test false = refl

pub on_until_lost : (log : List Entry) (k : ClusterNo) (n : ℕ) → off_at (take n log) k ≡ None → was_lost_in (drop n log) k ≡ false → off_at log k ≡ None
on_until_lost log k n on none = ap (λ l. off_at l k) (sym (take-append-drop n log)) ∙ on_more (take n log) (drop n log) k on none

-- ---- from one to the next

no_some : {X : Type 0} (o : Option X) → o ≡ None → is_some o ≡ true → ⊥
no_some o none some = true≢false (sym some ∙ ap is_some none)

-- between two losses of a cluster stands a return of it
pub returned_between : (system : System) (log : List Entry) (k : ClusterNo) (at more : ℕ) (first next : Entry) → IsLegalBy Stands system log → slice_get log at ≡ Some first → is_crash_of k (what first) ≡ true
    → slice_get log (at + 1 + more) ≡ Some next → is_crash_of k (what next) ≡ true → has_returned_in (take more (drop (at + 1) log)) k ≡ true
returned_between system log k at more first next legal there loses later loses_again = by_test (has_returned_in (take more (drop (at + 1) log)) k) refl
  where
    part : List Entry
    part = take (at + 1 + more) log

    stood : IsLegalBy Stands system part × Stands system part next
    stood = stood_at Stands system log (at + 1 + more) next legal later

    by_test : (b : Bool) → has_returned_in (take more (drop (at + 1) log)) k ≡ b → has_returned_in (take more (drop (at + 1) log)) k ≡ true
    by_test true returned = returned
    by_test false none =
        let off : is_some (off_at (take (at + 1) part) k) ≡ true = ap (λ l. is_some (off_at l k)) (take_within (at + 1) more log) ∙ ap is_some (off_behind log k at first there loses) in
        let rest : has_returned_in (drop (at + 1) part) k ≡ false = ap (λ l. has_returned_in l k) (drop-take (at + 1) more log) ∙ none in
        absurd (no_some (off_at part k) (lost_follows system part next k stood.0 stood.1 loses_again).1 (off_until_back system part k (at + 1) stood.0 off rest))

-- and between two returns a loss
pub lost_between : (system : System) (log : List Entry) (k : ClusterNo) (at more : ℕ) (first next : Entry) → IsLegalBy Stands system log → slice_get log at ≡ Some first → comes_back k (what first) ≡ true
    → slice_get log (at + 1 + more) ≡ Some next → comes_back k (what next) ≡ true → was_lost_in (take more (drop (at + 1) log)) k ≡ true
lost_between system log k at more first next legal there back later back_again = by_test (was_lost_in (take more (drop (at + 1) log)) k) refl
  where
    part : List Entry
    part = take (at + 1 + more) log

    stood : IsLegalBy Stands system part × Stands system part next
    stood = stood_at Stands system log (at + 1 + more) next legal later

    by_test : (b : Bool) → was_lost_in (take more (drop (at + 1) log)) k ≡ b → was_lost_in (take more (drop (at + 1) log)) k ≡ true
    by_test true lost = lost
    by_test false none =
        let on : off_at (take (at + 1) part) k ≡ None = ap (λ l. off_at l k) (take_within (at + 1) more log) ∙ on_behind log k at first there back in
        let rest : was_lost_in (drop (at + 1) part) k ≡ false = ap (λ l. was_lost_in l k) (drop-take (at + 1) more log) ∙ none in
        absurd (no_some (off_at part k) (on_until_lost part k (at + 1) on rest) (back_follows system part next k stood.0 stood.1 back_again).1)

-- from its loss to its next return a cluster sends nothing
pub silent_between : (system : System) (log : List Entry) (k : ClusterNo) (at more : ℕ) (e : Entry) → IsLegalBy Stands system log → slice_get log at ≡ Some e → is_crash_of k (what e) ≡ true
    → has_returned_in (take more (drop (at + 1) log)) k ≡ false → list_any (is_by_cluster k) (take more (drop (at + 1) log)) ≡ false
silent_between system log k at more e legal there loses none =
    let part : List Entry = take (at + 1 + more) log in
    let off : is_some (off_at (take (at + 1) part) k) ≡ true = ap (λ l. is_some (off_at l k)) (take_within (at + 1) more log) ∙ ap is_some (off_behind log k at e there loses) in
    let rest : drop (at + 1) part ≡ take more (drop (at + 1) log) = drop-take (at + 1) more log in
    ap (list_any (is_by_cluster k)) (sym rest)
    ∙ silent_until_back system part k (at + 1) (legal_prefix Stands system log (at + 1 + more) legal) off (ap (λ l. has_returned_in l k) rest ∙ none)

-- ---- the last of them

last_off : (k : ClusterNo) (o : Option Entry) → is_none (place_of_loss k o) ≡ not (option_map_or (λ (e : Entry). is_crash_of k (what e)) o false)
last_off k None = refl
last_off k (Some e) = by_test (is_crash_of k (what e))
  where
    by_test : (b : Bool) → is_none (cond b (Some e.place) None) ≡ not b
    by_test true = refl
    by_test false = refl

-- a cluster of the system lives exactly where the last of its losses and returns is no loss
pub lives_by_last : (system : System) (log : List Entry) (k : ClusterNo) → IsLegalBy Stands system log → k.0 < system.clusters → lives_in (placement system log) k ≡ not (is_lost_last log k)
lives_by_last system log k legal within = lives_unless_off system log k legal within ∙ last_off k (last_that (λ (e : Entry). turns k (what e)) log)

-- ---- a life that begins behind a return

-- where it is not off at a place, and no entry brings it back from there on, the loss since which it is off is the first from there on
pub lost_from : (system : System) (log : List Entry) (k : ClusterNo) (n at : ℕ) → IsLegalBy Stands system log → off_at (take n log) k ≡ None → has_returned_in (drop n log) k ≡ false → off_at log k ≡ Some at
    → (n ≤ at) × (was_lost_in (drop n (take at log)) k ≡ false)
lost_from system log k n at legal on none off = by_order (compared n at)
  where
    since : IsOffSince log k at
    since = off_since system log k at legal off

    -- the first of these entries
    stood : IsLegalBy Stands system (take at log) × Stands system (take at log) since.entry
    stood = stood_at Stands system log at since.entry legal since.there

    lived : off_at (take at log) k ≡ None
    lived = (lost_follows system (take at log) since.entry k stood.0 stood.1 since.loses).1

    compared : (n m : ℕ) → ((j : ℕ) × (n + j ≡ m)) ⊎ ((j : ℕ) × (m + 1 + j ≡ n))
    compared zero m = inl (m, omega arith)
    compared (suc n) zero = inr (n, omega arith)
    compared (suc n) (suc m) = by_less (compared n m)
      where
        by_less : ((j : ℕ) × (n + j ≡ m)) ⊎ ((j : ℕ) × (m + 1 + j ≡ n)) → ((j : ℕ) × (suc n + j ≡ suc m)) ⊎ ((j : ℕ) × (suc m + 1 + j ≡ suc n))
        by_less (inl h) = inl (h.0, let is = h.1 in omega (arith, is))
        by_less (inr h) = inr (h.0, let is = h.1 in omega (arith, is))

    or_none : (a b : Bool) → (a || b) ≡ false → b ≡ false
    or_none true b h = absurd (true≢false h)
    or_none false b h = h

    back_less : (xs : List Entry) (j : ℕ) → has_returned_in xs k ≡ false → has_returned_in (take j xs) k ≡ false
    back_less xs zero none = refl
    back_less [] (suc j) none = refl
    back_less (x ∷ xs) (suc j) none = let parts = or_parts (comes_back k (what x)) (has_returned_in xs k) none in ap (λ b. b || has_returned_in (take j xs) k) parts.0 ∙ back_less xs j parts.1

    by_order : ((j : ℕ) × (n + j ≡ at)) ⊎ ((j : ℕ) × (at + 1 + j ≡ n)) → (n ≤ at) × (was_lost_in (drop n (take at log)) k ≡ false)
    by_order (inl (j, is)) =
        let part : List Entry = take at log in
        let rest : drop n part ≡ take j (drop n log) = sym (ap (λ m. drop n (take m log)) is) ∙ drop-take n j log in
        let quiet : has_returned_in (drop n part) k ≡ false = ap (λ l. has_returned_in l k) rest ∙ back_less (drop n log) j none in
        (omega (arith, is), or_none (is_some (off_at (take n part) k)) (was_lost_in (drop n part) k) (sym (off_from part k n quiet) ∙ ap is_some lived))
    by_order (inr (j, is)) =
        let part : List Entry = take n log in
        let begin : take (at + 1) part ≡ take (at + 1) log = sym (ap (λ m. take (at + 1) (take m log)) is) ∙ take_within (at + 1) j log in
        let rest : drop (at + 1) part ≡ take j (drop (at + 1) log) = sym (ap (λ m. drop (at + 1) (take m log)) is) ∙ drop-take (at + 1) j log in
        let is_off : is_some (off_at (take (at + 1) part) k) ≡ true = ap (λ l. is_some (off_at l k)) begin ∙ ap is_some (off_behind log k at since.entry since.there since.loses) in
        let quiet : has_returned_in (drop (at + 1) part) k ≡ false = ap (λ l. has_returned_in l k) rest ∙ unturned (drop (at + 1) log) j since.none_after in
        absurd (no_some (off_at part k) on (off_until_back system part k (at + 1) (legal_prefix Stands system log n legal) is_off quiet))
      where
        unturned : (xs : List Entry) (j : ℕ) → list_any (λ (e : Entry). turns k (what e)) xs ≡ false → has_returned_in (take j xs) k ≡ false
        unturned xs zero none = refl
        unturned [] (suc j) none = refl
        unturned (x ∷ xs) (suc j) none =
            let parts = or_parts (turns k (what x)) (list_any (λ (e : Entry). turns k (what e)) xs) none in
            let here = or_parts (is_crash_of k (what x)) (comes_back k (what x)) (sym (turns_parts k (what x)) ∙ parts.0) in
            ap (λ b. b || has_returned_in (take j xs) k) here.1 ∙ unturned xs j parts.1
