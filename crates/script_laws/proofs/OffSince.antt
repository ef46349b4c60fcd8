-- In any log, also one in which clusters return, a cluster is off from its loss to its return, and sends nothing then.
use Rattle.std.proofs.Common.{◌≡◌, ℕ, zero, suc, ◌+◌, ◌<◌, ◌≤◌, refl, sym, ◌∙◌, ap, subst, arith, List, [], ◌∷◌, ◌++◌, length, take, drop, slice_get, Bool, true, false, cond, ◌||◌, ◌⊎◌, inl, inr, eqb, eqb-true, Option, Some, None, unwrap_or, is_none, is_some, length-append, true≢false}
use Rattle.std.specs.List.{list_any}
use Rattle.std.proofs.lemmas.Bool.{and_parts, or_parts}
use Rattle.std.proofs.lemmas.Option.{slice_get_within}
use Rattle.std.proofs.lemmas.List.{drop-append-le, drop_all, take-append-le, take_all}
use Rattle.std.proofs.lemmas.List.Folds.{list_any-append}
use Rattle.t32_base.specs.declared.process.ClusterNo.{ClusterNo}
use Rattle.sys_text.specs.declared.system.System.{System}
use Rattle.bus_msg.specs.declared.entry.What.{What}
use Rattle.bus_msg.specs.declared.entry.What.TheVariants.{PageIs, Crash, Return, Done, Stop}
use Rattle.bus_msg.specs.declared.entry.By.{By}
use Rattle.bus_msg.specs.declared.entry.By.TheVariants.{Cluster, Bus}
use Rattle.bus_msg.specs.declared.entry.Entry.{Entry}
use Rattle.bus_msg.specs.Places.{Places, lives_in, never_lost}
use Rattle.bus_msg.specs.PlacedAfter.{what}
use Rattle.cert_sched.specs.Parts.{last_that}
use Rattle.cert_sched.specs.Schedule.{placement}
use Rattle.cert_sched.specs.Rules.{is_by_right}
use Rattle.cert_sched.specs.Losses.{is_by_cluster, is_crash_of, is_from, was_lost_in}
use Rattle.cert_sched.specs.Legal.{IsLegalBy, Stands}
use Rattle.cert_sched.proofs.HomesLaws.{lives_within, clusters-length}
use Rattle.cert_sched.proofs.LogLaws.{IsLegal-snoc}
use Rattle.cert_sched.proofs.Induction.{legal_induction}
use Rattle.cert_sched.proofs.ServerLaws.{first_server, servers_live}
use Rattle.bus_order.specs.Script.{off_at, place_of_loss, turns}
use Rattle.bus_order.proofs.OffLaws.{lives_where_not_off, off_at-snoc}
use Rattle.script_laws.specs.Off.{IsOffSince, comes_back, has_returned_in}

-- ---- lists

pub slice_get_before : {X : Type 0} (xs ys : List X) (i : ℕ) (x : X) → slice_get xs i ≡ Some x → slice_get (xs ++ ys) i ≡ Some x
slice_get_before [] ys i x is = cc
slice_get_before (y ∷ xs) ys zero x is = is
slice_get_before (y ∷ xs) ys (suc i) x is = slice_get_before xs ys i x is

pub slice_get_end : {X : Type 0} (xs : List X) (x : X) → slice_get (xs ++ x ∷ []) (length xs) ≡ Some x
slice_get_end [] x = refl
slice_get_end (y ∷ xs) x = slice_get_end xs x

pub or_one : (a b : Bool) → (a || (b || false)) ≡ (a || b)
or_one true b = refl
or_one false true = refl
or_one false false = refl

either_false : (a b : Bool) → a ≡ false → b ≡ false → (a || b) ≡ false
either_false true b h g = h
either_false false b h g = g

-- ---- what a cluster sends

-- only a cluster that lives sends
sends_living : (places : Places) (k : ClusterNo) → (never_lost places k ≡ true → lives_in places k ≡ true) → (w : What) → is_by_right places (Cluster k) w ≡ true → lives_in places k ≡ true
sends_living places k serves (PageIs pid index bytes) right = serves (first_server places k right)
sends_living places k serves (Crash j cause) right = absurd (true≢false (sym right))
sends_living places k serves (Return j) right = absurd (true≢false (sym right))
sends_living places k serves (Done rests) right = absurd (true≢false (sym right))
sends_living places k serves Stop right = absurd (true≢false (sym right))
sends_living places k serves _ right = (and_parts (lives_in places k) _ right).0

sender_lives : (places : Places) → ((k : ClusterNo) → never_lost places k ≡ true → lives_in places k ≡ true) → (by : By) (k : ClusterNo) (w : What) → is_by_right places by w ≡ true → is_from k by ≡ true → lives_in places k ≡ true
sender_lives places serve (Cluster j) k w right from = subst (λ c. lives_in places c ≡ true) (λ i. record { 0 = eqb-true j.0 k.0 from i }) (sends_living places j (serve j) w right)
sender_lives places serve Bus k w right from = absurd (true≢false (sym from))

-- one that lives is not off
pub lives_on : (system : System) (log : List Entry) (k : ClusterNo) → IsLegalBy Stands system log → lives_in (placement system log) k ≡ true → off_at log k ≡ None
lives_on system log k legal lives =
    let within : k.0 < system.clusters = omega (arith, lives_within (placement system log) k lives, clusters-length Stands system log legal) in
    is_nothing (off_at log k) (sym (lives_where_not_off Stands (λ system log e stands. stands) system log k legal within) ∙ lives)
  where
    is_nothing : (o : Option ℕ) → is_none o ≡ true → o ≡ None
    is_nothing None h = refl
    is_nothing (Some n) h = absurd (true≢false (sym h))

pub lives_unless_off : (system : System) (log : List Entry) (k : ClusterNo) → IsLegalBy Stands system log → k.0 < system.clusters → lives_in (placement system log) k ≡ is_none (off_at log k)
lives_unless_off = lives_where_not_off Stands (λ system log e stands. stands)

-- so one that sends an entry is not off
pub sender_on : (system : System) (log : List Entry) (e : Entry) (k : ClusterNo) → IsLegalBy Stands system log → Stands system log e → is_by_cluster k e ≡ true → off_at log k ≡ None
sender_on system log e k legal stands from = lives_on system log k legal (sender_lives (placement system log) (λ k. servers_live system log k) (e.post).by k (what e) stands.by_right from)

-- and one that is off sends none
off_sends_not : (system : System) (log : List Entry) (e : Entry) (k : ClusterNo) (at : ℕ) → IsLegalBy Stands system log → Stands system log e → off_at log k ≡ Some at → is_by_cluster k e ≡ false
off_sends_not system log e k at legal stands off = by_test (is_by_cluster k e) refl
  where
    differ : ◌≡◌ {A = Option ℕ} (Some at) None → ⊥
    differ h = cc

    by_test : (b : Bool) → is_by_cluster k e ≡ b → is_by_cluster k e ≡ false
    by_test true from = absurd (differ (sym off ∙ sender_on system log e k legal stands from))
    by_test false other = other

-- ---- since when a cluster is off

-- it was lost there, and since then neither lost, brought back nor heard
record Off (log : List Entry) (k : ClusterNo) (at : ℕ) : Type 0 where
  pub since : IsOffSince log k at
  pub silent : list_any (is_by_cluster k) (drop (at + 1) log) ≡ false

pub none_legal : (system : System) → IsLegalBy Stands system []
unfolding IsLegalBy
none_legal system = tt

record AllOff (system : System) (k : ClusterNo) (log : List Entry) : Type 0 where
  pub legal : IsLegalBy Stands system log
  pub off : (at : ℕ) → off_at log k ≡ Some at → Off log k at

-- one that this entry loses
off_last : (log : List Entry) (e : Entry) (k : ClusterNo) → is_crash_of k (what e) ≡ true → Off (log ++ e ∷ []) k (length log)
off_last log e k loses =
    let none : drop (length log + 1) (log ++ e ∷ []) ≡ [] = drop_all (length log + 1) (log ++ e ∷ []) (omega (arith, length-append log (e ∷ []))) in
    record {
      since = record { entry = e; there = slice_get_end log e; loses = loses; none_after = ap (list_any (λ (e : Entry). turns k (what e))) none };
      silent = ap (list_any (is_by_cluster k)) none;
    }

-- one that an earlier entry lost
off_earlier : (log : List Entry) (e : Entry) (k : ClusterNo) (at : ℕ) → turns k (what e) ≡ false → is_by_cluster k e ≡ false → Off log k at → Off (log ++ e ∷ []) k at
off_earlier log e k at other silent off =
    let since = off.since in
    let within = slice_get_within log at since.entry since.there in
    let longer : drop (at + 1) (log ++ e ∷ []) ≡ drop (at + 1) log ++ e ∷ [] = drop-append-le (at + 1) log (e ∷ []) (omega (arith, within)) in
    record {
      since = record {
        entry = since.entry;
        there = slice_get_before log (e ∷ []) at since.entry since.there;
        loses = since.loses;
        none_after =
            ap (list_any (λ (e : Entry). turns k (what e))) longer ∙ list_any-append (λ (e : Entry). turns k (what e)) (drop (at + 1) log) (e ∷ [])
            ∙ or_one (list_any (λ (e : Entry). turns k (what e)) (drop (at + 1) log)) (turns k (what e)) ∙ either_false _ (turns k (what e)) since.none_after other;
      };
      silent =
          ap (list_any (is_by_cluster k)) longer ∙ list_any-append (is_by_cluster k) (drop (at + 1) log) (e ∷ [])
          ∙ or_one (list_any (is_by_cluster k) (drop (at + 1) log)) (is_by_cluster k e) ∙ either_false _ (is_by_cluster k e) off.silent silent;
    }

all_off : (system : System) (log : List Entry) (k : ClusterNo) → IsLegalBy Stands system log → AllOff system k log
all_off system log k legal =
    legal_induction Stands system (AllOff system k) (record { legal = none_legal system; off = λ at is. absurd (nothing at is) })
    (λ log e before stands. record {
      legal = IsLegal-snoc Stands system log e before.legal stands;
      off = λ at is. by_turn log e at before stands (turns k (what e)) refl (sym (off_at-snoc log e k) ∙ is);
    }) log legal
  where
    nothing : (at : ℕ) → ◌≡◌ {A = Option ℕ} None (Some at) → ⊥
    nothing at h = cc

    by_loss : (log : List Entry) (e : Entry) (at : ℕ) → Stands system log e → (b : Bool) → is_crash_of k (what e) ≡ b → cond b (Some e.place) None ≡ Some at → Off (log ++ e ∷ []) k at
    by_loss log e at stands true loses is =
        let placed : length log ≡ at = sym (stands.placed).0 ∙ ap (λ (o : Option ℕ). unwrap_or o at) is in
        subst (Off (log ++ e ∷ []) k) placed (off_last log e k loses)
    by_loss log e at stands false other is = absurd (nothing at is)

    by_turn : (log : List Entry) (e : Entry) (at : ℕ) → AllOff system k log → Stands system log e → (b : Bool) → turns k (what e) ≡ b → cond (turns k (what e)) (place_of_loss k (Some e)) (off_at log k) ≡ Some at → Off (log ++ e ∷ []) k at
    by_turn log e at before stands true turned is = by_loss log e at stands (is_crash_of k (what e)) refl (sym (ap (λ b. cond b (place_of_loss k (Some e)) (off_at log k)) turned) ∙ is)
    by_turn log e at before stands false other is =
        let was : off_at log k ≡ Some at = sym (ap (λ b. cond b (place_of_loss k (Some e)) (off_at log k)) other) ∙ is in
        off_earlier log e k at other (off_sends_not system log e k at before.legal stands was) (before.off at was)

pub off_since : (system : System) (log : List Entry) (k : ClusterNo) (at : ℕ) → IsLegalBy Stands system log → off_at log k ≡ Some at → IsOffSince log k at
off_since system log k at legal off = ((all_off system log k legal).off at off).since

-- it sends nothing after that place
pub silent_since : (system : System) (log : List Entry) (k : ClusterNo) (at : ℕ) → IsLegalBy Stands system log → off_at log k ≡ Some at → list_any (is_by_cluster k) (drop (at + 1) log) ≡ false
silent_since system log k at legal off = ((all_off system log k legal).off at off).silent

-- ---- until it is brought back

record Silent (system : System) (k : ClusterNo) (n : ℕ) (log : List Entry) : Type 0 where
  pub legal : IsLegalBy Stands system log
  pub off : is_some (off_at (take n log) k) ≡ true → has_returned_in (drop n log) k ≡ false → is_some (off_at log k) ≡ true
  pub silent : is_some (off_at (take n log) k) ≡ true → has_returned_in (drop n log) k ≡ false → list_any (is_by_cluster k) (drop n log) ≡ false

-- what turns a cluster loses it or brings it back
pub turns_parts : (k : ClusterNo) (w : What) → turns k w ≡ (is_crash_of k w || comes_back k w)
turns_parts k (Crash j cause) = by_test (eqb j.0 k.0)
  where
    by_test : (b : Bool) → b ≡ (b || false)
    by_test true = refl
    by_test false = refl
turns_parts k (Return j) = refl
turns_parts k _ = refl

-- where it does not bring it back it loses it
pub turns_lost : (k : ClusterNo) (w : What) → comes_back k w ≡ false → turns k w ≡ is_crash_of k w
turns_lost k w other = turns_parts k w ∙ ap (λ b. is_crash_of k w || b) other ∙ by_test (is_crash_of k w)
  where
    by_test : (b : Bool) → (b || false) ≡ b
    by_test true = refl
    by_test false = refl

-- and one that is off stays off
stays_off : (k : ClusterNo) (w : What) (place : ℕ) (o : Option ℕ) → comes_back k w ≡ false → is_some o ≡ true → is_some (cond (turns k w) (cond (is_crash_of k w) (Some place) None) o) ≡ true
stays_off k w place o other off = ap (λ b. is_some (cond b (cond (is_crash_of k w) (Some place) None) o)) (turns_lost k w other) ∙ by_test (is_crash_of k w)
  where
    by_test : (b : Bool) → is_some (cond b (cond b (Some place) None) o) ≡ true
    by_test true = refl
    by_test false = off

pub off_silent : (system : System) (log : List Entry) (e : Entry) (k : ClusterNo) → IsLegalBy Stands system log → Stands system log e → is_some (off_at log k) ≡ true → is_by_cluster k e ≡ false
off_silent system log e k legal stands off = by_off (off_at log k) refl off
  where
    by_off : (o : Option ℕ) → off_at log k ≡ o → is_some o ≡ true → is_by_cluster k e ≡ false
    by_off None is off = absurd (true≢false (sym off))
    by_off (Some at) is off = off_sends_not system log e k at legal stands is

silent_empty : (system : System) (k : ClusterNo) (n : ℕ) → IsLegalBy Stands system [] → Silent system k n []
silent_empty system k n legal = record {
  legal = legal;
  off = λ off none. absurd (true≢false (sym off ∙ ap (λ l. is_some (off_at l k)) (nothing n)));
  silent = λ off none. ap (list_any (is_by_cluster k)) (drop_all n [] (omega arith));
}
  where
    nothing : (n : ℕ) → ◌≡◌ {A = List Entry} (take n []) []
    nothing zero = refl
    nothing (suc n) = refl

silent_more : (system : System) (k : ClusterNo) (n : ℕ) (log : List Entry) (e : Entry) → Silent system k n log → Stands system log e → Silent system k n (log ++ e ∷ [])
silent_more system k n log e before stands = by_length (compared n (length log))
  where
    compared : (n m : ℕ) → (n ≤ m) ⊎ (m + 1 ≤ n)
    compared zero m = inl (omega arith)
    compared (suc n) zero = inr (omega arith)
    compared (suc n) (suc m) = by_less (compared n m)
      where
        by_less : (n ≤ m) ⊎ (m + 1 ≤ n) → (suc n ≤ suc m) ⊎ (suc m + 1 ≤ suc n)
        by_less (inl h) = inl (omega (arith, h))
        by_less (inr h) = inr (omega (arith, h))

    legal : IsLegalBy Stands system (log ++ e ∷ [])
    legal = IsLegal-snoc Stands system log e before.legal stands

    by_length : (n ≤ length log) ⊎ (length log + 1 ≤ n) → Silent system k n (log ++ e ∷ [])
    by_length (inl short) =
        let first : take n (log ++ e ∷ []) ≡ take n log = take-append-le n log (e ∷ []) short in
        let rest : drop n (log ++ e ∷ []) ≡ drop n log ++ e ∷ [] = drop-append-le n log (e ∷ []) short in
        let was : is_some (off_at (take n (log ++ e ∷ [])) k) ≡ true → is_some (off_at (take n log) k) ≡ true = λ off. sym (ap (λ l. is_some (off_at l k)) first) ∙ off in
        let parts : has_returned_in (drop n (log ++ e ∷ [])) k ≡ false → (has_returned_in (drop n log) k ≡ false) × (comes_back k (what e) ≡ false) =
        λ none. or_parts (has_returned_in (drop n log) k) (comes_back k (what e))
        (sym (ap (λ l. has_returned_in l k) rest ∙ list_any-append (λ (e : Entry). comes_back k (what e)) (drop n log) (e ∷ []) ∙ or_one (has_returned_in (drop n log) k) (comes_back k (what e))) ∙ none) in
        record {
          legal = legal;
          off = λ off none. ap is_some (off_at-snoc log e k) ∙ stays_off k (what e) e.place (off_at log k) (parts none).1 (before.off (was off) (parts none).0);
          silent = λ off none.
              ap (list_any (is_by_cluster k)) rest ∙ list_any-append (is_by_cluster k) (drop n log) (e ∷ [])
              ∙ or_one (list_any (is_by_cluster k) (drop n log)) (is_by_cluster k e)
              ∙ either_false (list_any (is_by_cluster k) (drop n log)) (is_by_cluster k e) (before.silent (was off) (parts none).0)
              (off_silent system log e k before.legal stands (before.off (was off) (parts none).0));
        }
    by_length (inr past) =
        let long : length (log ++ e ∷ []) ≤ n = omega (arith, past, length-append log (e ∷ [])) in
        record {
          legal = legal;
          off = λ off none. sym (ap (λ l. is_some (off_at l k)) (take_all n (log ++ e ∷ []) long)) ∙ off;
          silent = λ off none. ap (list_any (is_by_cluster k)) (drop_all n (log ++ e ∷ []) long);
        }

-- from a place where it is off it stays off until it is brought back
pub off_until_back : (system : System) (log : List Entry) (k : ClusterNo) (n : ℕ) → IsLegalBy Stands system log → is_some (off_at (take n log) k) ≡ true → has_returned_in (drop n log) k ≡ false → is_some (off_at log k) ≡ true
off_until_back system log k n legal =
    (legal_induction Stands system (Silent system k n) (silent_empty system k n (none_legal system)) (λ log e before stands. silent_more system k n log e before stands) log legal).off

-- and sends nothing
pub silent_until_back : (system : System) (log : List Entry) (k : ClusterNo) (n : ℕ) → IsLegalBy Stands system log → is_some (off_at (take n log) k) ≡ true → has_returned_in (drop n log) k ≡ false → list_any (is_by_cluster k) (drop n log) ≡ false
silent_until_back system log k n legal =
    (legal_induction Stands system (Silent system k n) (silent_empty system k n (none_legal system)) (λ log e before stands. silent_more system k n log e before stands) log legal).silent

-- ---- where nothing brings it back

-- it is off exactly where it was lost
pub off_where_lost : (log : List Entry) (k : ClusterNo) → has_returned_in log k ≡ false → is_some (off_at log k) ≡ was_lost_in log k
off_where_lost [] k none = refl
off_where_lost (e ∷ log) k none =
    let parts = or_parts (comes_back k (what e)) (has_returned_in log k) none in
    by_tests (off_where_lost log k parts.1) (turns_lost k (what e) parts.0) (all_lost log parts.1)
  where
    all_lost : (log : List Entry) → has_returned_in log k ≡ false → list_any (λ (e : Entry). turns k (what e)) log ≡ was_lost_in log k
    all_lost [] none = refl
    all_lost (e ∷ log) none =
        let parts = or_parts (comes_back k (what e)) (has_returned_in log k) none in
        let here = turns_lost k (what e) parts.0 in
        let later = all_lost log parts.1 in
        λ i. here i || later i

    by_last : (lost later : Bool) (o : Option Entry) → is_some (place_of_loss k o) ≡ later → is_crash_of k (what e) ≡ lost → is_some (place_of_loss k (cond later o (cond lost (Some e) None))) ≡ (lost || later)
    by_last true true o is here = is
    by_last false true o is here = is
    by_last true false o is here = ap (λ b. is_some (cond b (Some e.place) None)) here
    by_last false false o is here = refl

    by_tests : is_some (off_at log k) ≡ was_lost_in log k → turns k (what e) ≡ is_crash_of k (what e) → list_any (λ (e : Entry). turns k (what e)) log ≡ was_lost_in log k → is_some (off_at (e ∷ log) k) ≡ was_lost_in (e ∷ log) k
    by_tests before here later =
        (λ i. is_some (place_of_loss k (cond (later i) (last_that (λ (e : Entry). turns k (what e)) log) (cond (here i) (Some e) None))))
        ∙ by_last (is_crash_of k (what e)) (was_lost_in log k) (last_that (λ (e : Entry). turns k (what e)) log) before refl
