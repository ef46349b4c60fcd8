-- A letter or a page comes to a process that is here: what is here then, and which pages are still to be asked for.
use Rattle.std.proofs.Common.{◌≡◌, ℕ, Bool, true, false, cond, eqb, ltb, List, [], ◌∷◌, map, length-set, refl, sym, ap, ◌∙◌, arith, Option, Some, None, is_some}
use Rattle.std.specs.Prelude.{Result, Ok, Err, OnErr, OnOk}
use Rattle.std.specs.Option.{option_map_or}
use Rattle.std.specs.Map.{lookup}
use Rattle.std.proofs.lemmas.Bool.Decides.{nat_tests}
use Rattle.std.proofs.lemmas.Bool.{false≢true}
use Rattle.slab.specs.Slab.{Slab, get, Updates}
use Rattle.t32_base.specs.declared.process.Pid.{Pid}
use Rattle.t32_base.specs.declared.letter.Letter.{Letter}
use Rattle.t32_base.specs.declared.letter.To.{To}
use Rattle.t32_base.specs.declared.letter.To.TheVariants.{Tty}
use Rattle.t32_base.specs.declared.streams.NoMemory.{NoMemory}
use Rattle.bus_msg.specs.Places.{same_pid}
use Rattle.plain_kernel.specs.Maps.{at_key, pid_of}
use Rattle.cert_sched.specs.Deeds.{is_end_of}
use Rattle.page_waits.specs.Waiting.{WaitingState, is_whole, next_page, rolling_of, with_page}
use Rattle.roll_forward.specs.Rolling.{RollingState}
use Rattle.roll_forward.specs.RunsOut.{nothing_left}
use Rattle.residents.specs.Duty.{DutyView}
use Rattle.residents.specs.Arriving.{with_page_come}
use Rattle.residents.specs.Slots.{stands_in, IsKept}
use Rattle.residents.specs.Held.{Held, Runs, Rolls, Waits, arrived_held, going_on, page_held, page_lacked, rolling_held}
use Rattle.residents.proofs.Slots.{no_entry, nobody_changed, one_key, written}

-- ---- a letter

flipped : (n m : ℕ) → eqb m n ≡ eqb n m
flipped n m = grind (arith, nat_tests)

pub arrival : (duty : DutyView) (slots new : Slab Held) (n key : ℕ) (was now : Held) (letter : Letter) (keys : List (ℕ × ℕ)) (ready asking : List ℕ) (old : List (Pid × Held)) → IsKept duty slots keys ready asking → lookup (at_key n) keys ≡ Some key → get slots key ≡ Some was
    → Updates slots new key (Some now) → stands_in slots keys ≡ old → now ≡ arrived_held was letter → stands_in new keys ≡ map (λ (e : Pid × Held). cond (same_pid (pid_of n) e.0) (e.0, arrived_held e.1 letter) e) old
arrival duty slots new n key was now letter keys ready asking old kept found there updates same is =
    written slots new n key was now (λ e. (e.0, arrived_held e.1 letter)) keys (one_key n key keys kept.ordered kept.apart found) there updates (ap (λ p. (pid_of n, p)) (sym is))
    ∙ (λ i. map (λ (e : Pid × Held). cond (flipped n (e.0).0 i) (e.0, arrived_held e.1 letter) e) (same i))

pub no_arrival : (slots : Slab Held) (n : ℕ) (letter : Letter) (keys : List (ℕ × ℕ)) (old : List (Pid × Held)) → lookup (at_key n) keys ≡ None → stands_in slots keys ≡ old → old ≡ map (λ (e : Pid × Held). cond (same_pid (pid_of n) e.0) (e.0, arrived_held e.1 letter) e) old
no_arrival slots n letter keys old none same =
    sym same ∙ sym (nobody_changed slots n (λ e. (e.0, arrived_held e.1 letter)) keys (no_entry n keys none)) ∙ (λ i. map (λ (e : Pid × Held). cond (flipped n (e.0).0 i) (e.0, arrived_held e.1 letter) e) (same i))

pub on_ok : {P Q : Type 0} → (r : Result (Unit {0}) NoMemory) → (P → Q) → OnOk r P → OnOk r Q
on_ok (Ok done) f h = f h
on_ok (Err fault) f h = tt

all_same : {X : Type 0} → (xs : List X) → map (λ (x : X). x) xs ≡ xs
all_same [] = refl
all_same (x ∷ xs) = ap (λ rest. x ∷ rest) (all_same xs)

pub no_end_of : (letter : Letter) (to : To) (tty : ℕ) (here : List (Pid × Held)) → to ≡ Tty tty → map (λ (e : Pid × Held). cond (is_end_of e.0 to) (e.0, arrived_held e.1 letter) e) here ≡ here
no_end_of letter to tty here is = (λ i. map (λ (e : Pid × Held). cond (is_end_of e.0 (is i)) (e.0, arrived_held e.1 letter) e) here) ∙ all_same here

-- one that lacks a page still when a letter came lacked it before
pub arrived_lacks : (h : Held) (letter : Letter) → page_lacked (arrived_held h letter) ≡ page_lacked h
arrived_lacks (Runs p) letter = refl
arrived_lacks _ letter = refl

-- where the letter was refused nothing has changed
pub still_lacks : (was now : Held) (letter : Letter) (r : Result (Unit {0}) NoMemory) → OnOk r (now ≡ arrived_held was letter) → OnErr r (now ≡ was) → is_some (page_lacked now) ≡ true → is_some (page_lacked was) ≡ true
still_lacks was now letter (Ok done) is same some = ap is_some (sym (arrived_lacks was letter)) ∙ ap (λ (h : Held). is_some (page_lacked h)) (sym is) ∙ some
still_lacks was now letter (Err fault) is same some = ap (λ (h : Held). is_some (page_lacked h)) (sym same) ∙ some

-- ---- a page

pub page_comes : (duty : DutyView) (slots new : Slab Held) (n key i : ℕ) (bytes : List ℕ) (was now : Held) (keys : List (ℕ × ℕ)) (ready asking : List ℕ) (old : List (Pid × Held)) → IsKept duty slots keys ready asking → lookup (at_key n) keys ≡ Some key → get slots key ≡ Some was
    → Updates slots new key (Some now) → stands_in slots keys ≡ old → now ≡ page_held i bytes was → stands_in new keys ≡ with_page_come (pid_of n) i bytes old
page_comes duty slots new n key i bytes was now keys ready asking old kept found there updates same is =
    written slots new n key was now (λ e. (e.0, page_held i bytes e.1)) keys (one_key n key keys kept.ordered kept.apart found) there updates (ap (λ h. (pid_of n, h)) (sym is)) ∙ ap (with_page_come (pid_of n) i bytes) same

pub no_page_comes : (slots : Slab Held) (n i : ℕ) (bytes : List ℕ) (keys : List (ℕ × ℕ)) (old : List (Pid × Held)) → lookup (at_key n) keys ≡ None → stands_in slots keys ≡ old → old ≡ with_page_come (pid_of n) i bytes old
no_page_comes slots n i bytes keys old none same =
    sym same ∙ sym (nobody_changed slots n (λ e. (e.0, page_held i bytes e.1)) keys (no_entry n keys none)) ∙ ap (with_page_come (pid_of n) i bytes) same

going_on_lacks : (w : WaitingState) → is_some (page_lacked (going_on w)) ≡ true → is_some (next_page w) ≡ true
going_on_lacks w some = by_tests (is_whole w) (rolling_of w) some
  where
    by_left : (r : RollingState) (b : Bool) → is_some (page_lacked (cond b (Runs r.process) (Rolls r.process r.counts r.births))) ≡ true → is_some (next_page w) ≡ true
    by_left r true some = absurd (false≢true some)
    by_left r false some = absurd (false≢true some)

    by_tests : (b : Bool) (o : Option RollingState) → is_some (page_lacked (cond b (option_map_or rolling_held o (Waits w)) (Waits w))) ≡ true → is_some (next_page w) ≡ true
    by_tests false o some = some
    by_tests true None some = some
    by_tests true (Some r) some = by_left r (nothing_left r.counts r.births) some

-- one that lacks a page still when one came lacked it before
pub come_lacks : (i : ℕ) (bytes : List ℕ) (h : Held) → is_some (page_lacked (page_held i bytes h)) ≡ true → is_some (page_lacked h) ≡ true
come_lacks i bytes (Waits w) some =
    ap (λ n. is_some (cond (ltb w.asked n) (Some w.asked) None)) (sym (length-set w.come i (Some bytes))) ∙ going_on_lacks (with_page i bytes w) some
come_lacks i bytes _ some = some
