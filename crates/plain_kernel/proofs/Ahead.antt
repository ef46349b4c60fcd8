-- A process that runs up to something, among the others.
use Rattle.std.proofs.Common.{◌≡◌, ℕ, ◌+◌, ◌-◌, ◌^◌, ◌<◌, ◌≤◌, Bool, true, false, ◌||◌, refl, sym, ap, subst, ◌∙◌, ◌⊎◌, inl, inr, arith, List, length, map, Option, Some, None, option_map, Ok}
use Rattle.std.specs.List.{list_any}
use Rattle.std.specs.List.Sorted.{IsStrictlySortedBy}
use Rattle.std.specs.Map.{lookup, set_value}
use Rattle.std.specs.Ordering.{nat_cmp}
use Rattle.std.specs.Option.{option_map_or}
use Rattle.std.proofs.lemmas.Option.{same_Some}
use Rattle.t32_base.specs.declared.process.Pid.{Pid}
use Rattle.t32_base.specs.declared.letter.Letter.{Letter}
use Rattle.t32_base.specs.declared.process.End.{End}
use Rattle.proc_state.specs.declared.process.Process.{Process}
use Rattle.proc_state.specs.Mail.{carries_signal}
use Rattle.proc_state.specs.State.{can_take, state_of}
use Rattle.sys_calls.specs.declared.steps.Step.{Step}
use Rattle.sys_calls.specs.declared.steps.Step.TheVariants.{Silent as WasSilent, Blocked as WasBlocked, Forks as WouldFork, Emit, Over as WasOver}
use Rattle.sys_calls.specs.declared.steps.Emission.{Emission}
use Rattle.sys_calls.specs.declared.steps.Emission.TheVariants.{Mail, Exit}
use Rattle.sys_calls.specs.Steps.{RunsOn}
use Rattle.sys_calls.specs.Calls.{Forks}
use Rattle.sys_calls.specs.Next.{has_step, is_fork, next_step}
use Rattle.sys_calls.proofs.Bearing.{silently_lightens}
use Rattle.sys_calls.proofs.Counting.{silently_counts}
use Rattle.plain_kernel.specs.Kernel.{deliver, process_at}
use Rattle.plain_kernel.specs.Apply.{fork_step}
use Rattle.plain_kernel.specs.Still.{next_child}
use Rattle.plain_kernel.specs.Maps.{at_key, forks_at, kernel_of, pid_of, total_load, Advances, Changes, Covers, ForksAt, GoesTo, IsFirst, NoneTakes, NoneTakesBut, PidsFit, RunsAndSteps, RunsAt, RunsIfThere, SameBut, TakesSent, TakesSignal, Turns}
use Rattle.plain_kernel.proofs.Emitting.{emits_untaken}
use Rattle.plain_kernel.proofs.Entries.{changed_back, found_after, lookup_state, ordered_after, others_stay, same_keys, still_there, written_again}
use Rattle.plain_kernel.proofs.Forked.{child_within, fork_fits, fork_lighter, fork_none, fork_others, forked, load_to_fork, there_to_fork}
use Rattle.plain_kernel.proofs.NextChild.{next_child-absent}
use Rattle.plain_kernel.proofs.Delivery.{less_to_send, lighter_by, stepped_alone, stepped_exit, stepped_mail, stepped_silent, stepped_two}
use Rattle.plain_kernel.specs.Candidates.{Arrives, HasOneMore, Wakes}
use Rattle.plain_kernel.proofs.Ready.{covers_nobody, covers_one, covers_sent, covers_stuck, covers_went, receiver_in, turn_of}
use Rattle.plain_kernel.proofs.Takers.{none_at, none_but, none_changed, none_ran, none_still, take_load, taken_once, takes_there}
use Rattle.plain_kernel.proofs.Turns.{able, able_first, able_ran, less, turns, turns_forked, turns_nobody, turns_stuck, turns_taken}
use Rattle.plain_kernel.proofs.Unsignalled.{none_unsignalled}

pub runs_and_steps : (old new : List (ℕ × Process)) (pid : ℕ) (was now : Process) (step : Step) → Changes old new pid was now → RunsOn step was now → RunsAndSteps old new pid step
runs_and_steps old new pid was now step c r =
    let between : List (ℕ × Process) = set_value (at_key pid) old r.before in
    let first : Changes old between pid was r.before = record { found = c.found; entries = λ _. between; ordered = c.ordered } in
    record {
      count = r.steps;
      between = between;
      runs = record {
        was = was;
        now = r.before;
        changes = first;
        silent = r.silent;
        lighter = omega (arith, silently_lightens r.steps (state_of was) (state_of r.before) r.silent, (silently_counts r.steps (state_of was) (state_of r.before) r.silent).next);
      };
      untaken = r.untaken;
      steps = record {
        was = r.before;
        now = now;
        changes = record {
          found = found_after old between pid was r.before first;
          entries = c.entries ∙ sym (written_again (at_key pid) old r.before now);
          ordered = ordered_after old between pid was r.before first;
        };
        makes = r.makes;
        touches = r.touches;
        lighter = lighter_by (Ok step) r.before now r.makes;
      };
    }

-- ---- what such a run is of the default schedule

abbrev pub keys_of : List (ℕ × Process) → List ℕ
keys_of es = map (λ (e : ℕ × Process). e.0) es

-- what a turn promises
pub record Leaves (ps rs : List (ℕ × Process)) (ts us : List (ℕ × List ℕ)) (ready left : List ℕ) : Type 0 where
  pub turns : Turns ps rs ts us ready left
  pub covers : Covers rs left
  pub fits : PidsFit ps → PidsFit rs

-- the pids fit still where there are as many, and no more is to come
fits_by : (ps rs : List (ℕ × Process)) → keys_of rs ≡ keys_of ps → total_load rs ≤ total_load ps → PidsFit ps → PidsFit rs
fits_by ps rs same lighter fits q there = omega (arith, fits q (still_there q rs ps (sym same) there), lighter)

ran_keys : (ps qs : List (ℕ × Process)) (pid n : ℕ) → RunsAt ps qs pid n → keys_of qs ≡ keys_of ps
ran_keys ps qs pid n r = ap keys_of (r.changes).entries ∙ same_keys (at_key pid) ps r.now

-- ---- a signal that is taken at once

then_takes : (took : Bool) (ps rs fs : List (ℕ × Process)) (ts us : List (ℕ × List ℕ)) (ready left : List ℕ) (pid : ℕ) → Leaves ps rs ts us ready left → TakesSignal (Ok took) rs fs pid → NoneTakesBut (at_key pid) rs → list_any (at_key pid) left ≡ true
    → Leaves ps fs ts us ready left
then_takes true ps rs fs ts us ready left pid l t others listed = record {
  turns = turns_taken ps rs fs ts us ready left pid l.turns t others;
  covers = covers_one pid rs fs left (others_stay rs fs pid t.was t.now t.changes) listed l.covers;
  fits = λ fits. fits_by rs fs (ap keys_of (t.changes).entries ∙ same_keys (at_key pid) rs t.now) (take_load rs fs pid t) (l.fits fits);
}
then_takes false ps rs fs ts us ready left pid l t others listed = subst (λ es. Leaves ps es ts us ready left) (sym t.1) l

-- then no process can take one
none_takes : (took : Bool) (rs fs : List (ℕ × Process)) (pid : ℕ) → TakesSignal (Ok took) rs fs pid → NoneTakesBut (at_key pid) rs → NoneTakes fs
none_takes true rs fs pid t others = none_at pid fs (none_still rs fs pid t others) (takes_there fs pid t.now (found_after rs fs pid t.was t.now t.changes) ∙ ap can_take (t.took).after ∙ taken_once (state_of t.was))
none_takes false rs fs pid t others = subst NoneTakes (sym t.1) (none_at pid rs others t.0)

-- ---- a turn

module _ (ps qs : List (ℕ × Process)) (ready : List ℕ) (pid : ℕ) (ordered : IsStrictlySortedBy nat_cmp (keys_of ps)) (first : IsFirst pid ready) (covers : Covers ps ready) (none : NoneTakes ps) where
  -- it had a step, and changed no other process
  went : (step : Step) (ts us : List (ℕ × List ℕ)) (rs : List (ℕ × Process)) (x : RunsAndSteps ps qs pid step) → Advances pid x.between rs ts us → SameBut (at_key pid) x.between rs → Leaves ps rs ts us ready ready
  went step ts us rs x a same =
      let turn = turn_of ps x.between ready pid x.count ordered first covers x.runs (able_first ps x.between pid x.count x.runs (able ps x.between rs ts us pid x.count x.runs a)) in
      record {
        turns = turns ps x.between rs ts us ready ready pid x.count turn none x.runs x.untaken a (omega arith);
        covers = covers_went ps x.between rs ready pid x.count ordered turn x.runs same covers;
        fits = fits_by ps rs (a.keys ∙ ran_keys ps x.between pid x.count x.runs) (omega (arith, less ps x.between pid x.count x.runs, a.lighter));
      }

  went_silently : (ts : List (ℕ × List ℕ)) → RunsAndSteps ps qs pid WasSilent → Leaves ps qs ts ts ready ready
  went_silently ts x = let s = stepped_silent x.between qs ts pid x.steps in went WasSilent ts ts qs x s.0 s.1

  pub went_out : (ts : List (ℕ × List ℕ)) (end : End) → RunsAndSteps ps qs pid (Emit (Exit end)) → Leaves ps qs ts ts ready ready
  went_out ts end x = let s = stepped_exit x.between qs ts pid end x.steps in went (Emit (Exit end)) ts ts qs x s.0 s.1

  -- its letter went to a terminal, or to none
  told : (ts us : List (ℕ × List ℕ)) (rs : List (ℕ × Process)) (letter : Letter) → RunsAndSteps ps qs pid (Emit (Mail letter)) → kernel_of rs us ≡ deliver (kernel_of qs ts) letter → total_load rs ≤ total_load qs + 1
      → keys_of rs ≡ keys_of qs → GoesTo None qs rs → Leaves ps rs ts us ready ready
  told ts us rs letter x sent more keys to =
      went (Emit (Mail letter)) ts us rs x (stepped_mail x.between qs rs ts us pid letter x.steps sent more keys) (stepped_alone x.between qs rs pid (Ok (Emit (Mail letter))) x.steps to)

  -- or to another process, which may have a step now
  sent_to : (ts us : List (ℕ × List ℕ)) (rs : List (ℕ × Process)) (letter : Letter) (to : ℕ) (left : List ℕ) → RunsAndSteps ps qs pid (Emit (Mail letter)) → kernel_of rs us ≡ deliver (kernel_of qs ts) letter
      → total_load rs ≤ total_load qs + 1 → keys_of rs ≡ keys_of qs → GoesTo (Some to) qs rs → HasOneMore to ready left → list_any (at_key to) left ≡ true → length left ≤ length ready + 1 → Leaves ps rs ts us ready left
  sent_to ts us rs letter to left x sent more keys goes puts receiver longer =
      let a = stepped_mail x.between qs rs ts us pid letter x.steps sent more keys in
      let turn = turn_of ps x.between ready pid x.count ordered first covers x.runs (able_first ps x.between pid x.count x.runs (able ps x.between rs ts us pid x.count x.runs a)) in
      record {
        turns = turns ps x.between rs ts us ready left pid x.count turn none x.runs x.untaken a longer;
        covers = covers_sent ps x.between rs ready left pid to x.count ordered turn x.runs (stepped_two x.between qs rs pid to (Ok (Emit (Mail letter))) x.steps goes) puts receiver covers;
        fits = fits_by ps rs (a.keys ∙ ran_keys ps x.between pid x.count x.runs) (omega (arith, less ps x.between pid x.count x.runs, a.lighter));
      }

  pub room_to_send : (letter : Letter) (bound : ℕ) → RunsAndSteps ps qs pid (Emit (Mail letter)) → total_load ps < bound → total_load qs < bound - 1
  room_to_send letter bound x room = omega (arith, less_to_send x.between qs pid letter x.steps, less ps x.between pid x.count x.runs, room)

  -- it forked, and its child may have a step
  pub forks_next : RunsAndSteps ps qs pid WouldFork → forks_at qs pid ≡ true
  forks_next x =
      let s = x.steps in
      ap (λ o. option_map_or (λ (p : Process). is_fork (next_step (state_of p))) o false) (found_after x.between qs pid s.was s.now s.changes) ∙ ap (λ (p : Process). is_fork (next_step (state_of p))) s.touches ∙ ap is_fork s.makes.0

  -- where its next step was none of those that are made, it is as it was
  stands : (step : Step) (x : RunsAndSteps ps qs pid step) → (x.steps).now ≡ (x.steps).was → qs ≡ x.between
  stands step x same = let s = x.steps in changed_back x.between qs pid s.was s.now s.changes same

  same_state : (step : Step) (x : RunsAndSteps ps qs pid step) → (x.runs).now ≡ (x.steps).was
  same_state step x = same_Some (x.runs).now (x.steps).was (sym (found_after ps x.between pid (x.runs).was (x.runs).now (x.runs).changes) ∙ (x.steps).changes.found)

  pub child_absent : (ts : List (ℕ × List ℕ)) (child : Pid) → child ≡ next_child (kernel_of qs ts) (pid_of pid) → lookup (at_key child.0) qs ≡ None
  child_absent ts child is =
      by_case (lookup (at_key child.0) qs) (sym (lookup_state child.0 qs) ∙ ap (process_at (kernel_of qs ts)) is ∙ next_child-absent (kernel_of qs ts) (pid_of pid))
    where
      by_case : (o : Option Process) → option_map state_of o ≡ None → o ≡ None
      by_case None e = refl
      by_case (Some p) e = cc

  -- the child's pid fits a number
  pub child_fits : (ts : List (ℕ × List ℕ)) (x : RunsAndSteps ps qs pid WouldFork) → PidsFit ps → (next_child (kernel_of qs ts) (pid_of pid)).0 < 2 ^ 32
  child_fits ts x fits =
      let here : PidsFit qs = fits_by ps qs (ap keys_of (stands WouldFork x (x.steps).touches) ∙ ran_keys ps x.between pid x.count x.runs) (omega (arith, ap total_load (stands WouldFork x (x.steps).touches), less ps x.between pid x.count x.runs)) fits in
      let forks = forks_next x in
      let p = (x.steps).now in
      let found = found_after x.between qs pid (x.steps).was (x.steps).now (x.steps).changes in
      let within = child_within qs ts pid here (there_to_fork qs pid forks) in
      let enough = load_to_fork qs pid p found forks in
      omega (arith, within, enough)

  pub forked_off : (ts : List (ℕ × List ℕ)) (rs : List (ℕ × Process)) (child : Pid) (left : List ℕ) (x : RunsAndSteps ps qs pid WouldFork) → child ≡ next_child (kernel_of qs ts) (pid_of pid) → ForksAt qs rs pid child
      → HasOneMore child.0 ready left → list_any (at_key child.0) left ≡ true → length left ≤ length ready + 1 → Leaves ps rs ts ts ready left
  forked_off ts rs child left x is f puts receiver longer =
      let same : qs ≡ x.between = stands WouldFork x (x.steps).touches in
      let forks = forks_next x in
      let absent = child_absent ts child is in
      let made : next_step (state_of (x.runs).now) ≡ Forks = ap (λ (p : Process). next_step (state_of p)) (same_state WouldFork x) ∙ (x.steps).makes.0 in
      let lighter : total_load rs + 4 ≤ total_load x.between = omega (arith, fork_lighter qs rs pid child forks absent f, ap total_load same) in
      let turn = turn_of ps x.between ready pid x.count ordered first covers x.runs (able_first ps x.between pid x.count x.runs (ap has_step made)) in
      let step : fork_step (pid_of pid) (next_child (kernel_of x.between ts) (pid_of pid)) (kernel_of x.between ts) ≡ Some (kernel_of rs ts) =
      subst (λ es. fork_step (pid_of pid) (next_child (kernel_of es ts) (pid_of pid)) (kernel_of es ts) ≡ Some (kernel_of rs ts)) same
      (subst (λ c. fork_step (pid_of pid) c (kernel_of qs ts) ≡ Some (kernel_of rs ts)) is (forked qs rs pid child forks absent f ts)) in
      record {
        turns = turns_forked ps x.between rs ts ready left pid x.count turn none x.runs x.untaken made step lighter longer;
        covers = covers_sent ps x.between rs ready left pid child.0 x.count ordered turn x.runs (subst (λ es. SameBut (λ q. at_key pid q || at_key child.0 q) es rs) same (fork_others qs rs pid child forks absent f)) puts receiver covers;
        fits = λ fits. fork_fits qs rs pid child forks absent f ts is (fits_by ps qs (ap keys_of same ∙ ran_keys ps x.between pid x.count x.runs) (omega (arith, ap total_load same, less ps x.between pid x.count x.runs)) fits);
      }

  -- it has no step, and is taken out
  stuck : (step : Step) (ts : List (ℕ × List ℕ)) (left : List ℕ) (x : RunsAndSteps ps qs pid step) → has_step (next_step (state_of (x.steps).was)) ≡ false → (x.steps).now ≡ (x.steps).was
      → ((q : ℕ) → at_key pid q ≡ false → list_any (at_key q) left ≡ list_any (at_key q) ready) → length left < length ready → Leaves ps qs ts ts ready left
  stuck step ts left x over kept keeps fewer =
      let same : qs ≡ x.between = stands step x kept in
      record {
        turns = turns_stuck ps x.between qs ts ts ready left pid x.count (λ some. turn_of ps x.between ready pid x.count ordered first covers x.runs (able_ran ps x.between pid x.count x.runs some)) none x.runs x.untaken same refl fewer;
        covers = covers_stuck ps x.between qs ready left pid x.count first x.runs (ap (λ (p : Process). has_step (next_step (state_of p))) (same_state step x) ∙ over) same keeps covers;
        fits = fits_by ps qs (ap keys_of same ∙ ran_keys ps x.between pid x.count x.runs) (omega (arith, ap total_load same, less ps x.between pid x.count x.runs));
      }

  pub taken_out : (step : Step) (ts : List (ℕ × List ℕ)) (left : List ℕ) → (step ≡ WasBlocked) ⊎ (step ≡ WasOver) → RunsAndSteps ps qs pid step
      → ((q : ℕ) → at_key pid q ≡ false → list_any (at_key q) left ≡ list_any (at_key q) ready) → length left < length ready → Leaves ps qs ts ts ready left
  taken_out step ts left (inl is) x keeps fewer = let y : RunsAndSteps ps qs pid WasBlocked = subst (RunsAndSteps ps qs pid) is x in stuck WasBlocked ts left y (ap has_step (y.steps).makes.0) (y.steps).touches keeps fewer
  taken_out step ts left (inr is) x keeps fewer = let y : RunsAndSteps ps qs pid WasOver = subst (RunsAndSteps ps qs pid) is x in stuck WasOver ts left y (ap has_step (y.steps).makes.0) (y.steps).touches keeps fewer

  -- one that is not there is taken out
  pub nobody : (ts : List (ℕ × List ℕ)) (left : List ℕ) → RunsIfThere None ps qs pid → ((q : ℕ) → at_key pid q ≡ false → list_any (at_key q) left ≡ list_any (at_key q) ready) → length left < length ready → Leaves ps qs ts ts ready left
  nobody ts left gone keeps fewer = record {
    turns = turns_nobody ps qs ts ts ready left gone.1 refl fewer;
    covers = covers_nobody ps qs ready left pid gone.0 gone.1 keeps covers;
    fits = fits_by ps qs (ap keys_of gone.1) (omega (arith, ap total_load gone.1));
  }

  -- ---- who can take a signal then

  none_before : (step : Step) (x : RunsAndSteps ps qs pid step) → NoneTakes x.between
  none_before step x = none_ran ps x.between pid x.count x.runs x.untaken none

  -- none after a step that sends something
  none_emitted : (e : Emission) → RunsAndSteps ps qs pid (Emit e) → NoneTakes qs
  none_emitted e x =
      let s = x.steps in
      let before : can_take (state_of s.was) ≡ false = sym (takes_there x.between pid s.was (s.changes).found) ∙ none_before (Emit e) x pid in
      none_changed x.between qs pid s.was s.now s.changes (none_before (Emit e) x) (emits_untaken (state_of s.was) (state_of s.now) e s.makes before)

  pub none_out : (end : End) → RunsAndSteps ps qs pid (Emit (Exit end)) → NoneTakes qs
  none_out end x = none_emitted (Exit end) x

  none_told : (rs : List (ℕ × Process)) (letter : Letter) → RunsAndSteps ps qs pid (Emit (Mail letter)) → GoesTo None qs rs → NoneTakes rs
  none_told rs letter x to = subst NoneTakes (sym to) (none_emitted (Mail letter) x)

  -- none but the receiver
  none_sent : (rs : List (ℕ × Process)) (letter : Letter) (to : ℕ) → RunsAndSteps ps qs pid (Emit (Mail letter)) → GoesTo (Some to) qs rs → NoneTakesBut (at_key to) rs
  none_sent rs letter to x goes = none_but (at_key to) qs rs goes (none_emitted (Mail letter) x)

  -- none but the process itself
  none_silently : RunsAndSteps ps qs pid WasSilent → NoneTakesBut (at_key pid) qs
  none_silently x = let s = x.steps in none_but (at_key pid) x.between qs (others_stay x.between qs pid s.was s.now s.changes) (none_before WasSilent x)

  none_stands : (step : Step) (x : RunsAndSteps ps qs pid step) → (x.steps).now ≡ (x.steps).was → NoneTakes qs
  none_stands step x kept = subst NoneTakes (sym (stands step x kept)) (none_before step x)

  pub none_stuck : (step : Step) → (step ≡ WasBlocked) ⊎ (step ≡ WasOver) → RunsAndSteps ps qs pid step → NoneTakes qs
  none_stuck step (inl is) x = let y : RunsAndSteps ps qs pid WasBlocked = subst (RunsAndSteps ps qs pid) is x in none_stands WasBlocked y (y.steps).touches
  none_stuck step (inr is) x = let y : RunsAndSteps ps qs pid WasOver = subst (RunsAndSteps ps qs pid) is x in none_stands WasOver y (y.steps).touches

  pub none_forked : (ts : List (ℕ × List ℕ)) (rs : List (ℕ × Process)) (child : Pid) (x : RunsAndSteps ps qs pid WouldFork) → child ≡ next_child (kernel_of qs ts) (pid_of pid) → ForksAt qs rs pid child → NoneTakes rs
  none_forked ts rs child x is f = fork_none qs rs pid child (forks_next x) (child_absent ts child is) f (none_stands WouldFork x (x.steps).touches)

  pub none_nobody : RunsIfThere None ps qs pid → NoneTakes qs
  none_nobody gone = subst NoneTakes (sym gone.1) none

  -- ---- a letter that is delivered

  pub arrived : (ts us : List (ℕ × List ℕ)) (fs : List (ℕ × Process)) (letter : Letter) (left : List ℕ) → RunsAndSteps ps qs pid (Emit (Mail letter)) → Arrives letter qs fs ts us ready left → Leaves ps fs ts us ready left
  arrived ts us fs letter left x a = by_receiver a.to a.goes a.wakes
    where
      by_signal : (to : ℕ) (b : Bool) → Leaves ps a.between ts us ready left → NoneTakesBut (at_key to) a.between → list_any (at_key to) left ≡ true → TakesSent b a.between fs to → Leaves ps fs ts us ready left
      by_signal to true sent others receiver t = then_takes t.0 ps a.between fs ts us ready left to sent t.1 others receiver
      by_signal to false sent others receiver same = subst (λ es. Leaves ps es ts us ready left) (sym same) sent

      by_receiver : (o : Option ℕ) → GoesTo o qs a.between → Wakes o letter a.between fs ready left → Leaves ps fs ts us ready left
      by_receiver None goes w = subst (λ l. Leaves ps fs ts us ready l) (sym w.1) (subst (λ es. Leaves ps es ts us ready ready) (sym w.0) (told ts us a.between letter x a.sent a.load a.keys goes))
      by_receiver (Some to) goes w =
          let receiver = receiver_in to ready left w.1 in
          by_signal to (carries_signal letter.body) (sent_to ts us a.between letter to left x a.sent a.load a.keys goes w.1 receiver w.2) (none_sent a.between letter to x goes) receiver w.0

  -- only a signal lets the receiver take one, which it does
  pub none_arrived : (ts us : List (ℕ × List ℕ)) (fs : List (ℕ × Process)) (letter : Letter) (left : List ℕ) → RunsAndSteps ps qs pid (Emit (Mail letter)) → Arrives letter qs fs ts us ready left → NoneTakes fs
  none_arrived ts us fs letter left x a = by_receiver a.to a.goes a.wakes
    where
      by_signal : (to : ℕ) (b : Bool) → carries_signal letter.body ≡ b → GoesTo (Some to) qs a.between → TakesSent b a.between fs to → NoneTakes fs
      by_signal to true is goes t = none_takes t.0 a.between fs to t.1 (none_sent a.between letter to x goes)
      by_signal to false is goes same = subst NoneTakes (sym same) (none_unsignalled qs a.between ts us letter a.sent is (none_emitted (Mail letter) x))

      by_receiver : (o : Option ℕ) → GoesTo o qs a.between → Wakes o letter a.between fs ready left → NoneTakes fs
      by_receiver None goes w = subst NoneTakes (sym w.0) (none_told a.between letter x goes)
      by_receiver (Some to) goes w = by_signal to (carries_signal letter.body) refl goes w.0

  -- ---- a process that makes a silent step after which it can take a signal takes it

  pub struck : (took : Bool) (ts : List (ℕ × List ℕ)) (fs : List (ℕ × Process)) → RunsAndSteps ps qs pid WasSilent → TakesSignal (Ok took) qs fs pid → Leaves ps fs ts ts ready ready
  struck took ts fs x t = then_takes took ps qs fs ts ts ready ready pid (went_silently ts x) t (none_silently x) first.0

  pub none_struck : (took : Bool) (fs : List (ℕ × Process)) → RunsAndSteps ps qs pid WasSilent → TakesSignal (Ok took) qs fs pid → NoneTakes fs
  none_struck took fs x t = none_takes took qs fs pid t (none_silently x)
