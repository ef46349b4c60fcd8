-- When the end of a run may stand next.
use Rattle.std.proofs.Common.{◌≡◌, All, ℕ, ◌-◌, ◌≤◌, refl, sym, ◌∙◌, ap, subst, arith, List, [], ◌∷◌, ◌++◌, append_assoc, map, Bool, true, false, cond, not, ◌&&◌, ◌||◌, eqb, eqb-true, eq-eqb, Option, Some, None, is_some, true≢false}
use Rattle.std.specs.Prelude.{⊤, nat_le, filter, find, option_and_then, option_map}
use Rattle.std.specs.List.{list_all}
use Rattle.std.specs.List.Sorted.{IsStrictlySortedBy}
use Rattle.std.specs.Map.{lookup}
use Rattle.std.specs.Option.{option_map_or}
use Rattle.std.specs.Ordering.{nat_cmp}
use Rattle.std.specs.declared.cmp.Ordering.TheVariants.{Less}
use Rattle.std.proofs.lemmas.Bool.{and_parts}
use Rattle.std.proofs.lemmas.Bool.Decides.{nat_tests}
use Rattle.std.proofs.lemmas.List.Elements.{recursion_from_All}
use Rattle.t32_base.specs.declared.process.Pid.{Pid}
use Rattle.sys_text.specs.declared.system.System.{System}
use Rattle.sys_text.specs.Valid.{is_system}
use Rattle.proc_state.specs.declared.process.Process.{Process}
use Rattle.proc_state.specs.State.{ProcState, state_of}
use Rattle.sys_calls.specs.Next.{silently}
use Rattle.sys_calls.proofs.Counting.{silently_counts}
use Rattle.counted_steps.specs.Resting.{NeverRests}
use Rattle.plain_kernel.specs.Maps.{at_key, pid_of}
use Rattle.bus_msg.specs.declared.entry.What.{What}
use Rattle.bus_msg.specs.declared.entry.What.TheVariants.{Done, Rebackup}
use Rattle.bus_msg.specs.declared.entry.By.TheVariants.{Bus}
use Rattle.bus_msg.specs.declared.entry.Entry.{Entry}
use Rattle.bus_msg.specs.declared.placed.Placed.{Placed}
use Rattle.bus_msg.specs.Places.{same_pid, unended_at, unended_in}
use Rattle.bus_msg.specs.PlacedAfter.{what}
use Rattle.cert_sched.specs.Parts.{rising}
use Rattle.cert_sched.specs.Schedule.{done_after, placement, process_after}
use Rattle.cert_sched.specs.Steps.{silent_upto}
use Rattle.cert_sched.specs.Rules.{is_bus, is_by_right}
use Rattle.cert_sched.specs.Kinds.{DoneHolds, KindHolds, is_silent_rest}
use Rattle.cert_sched.specs.Rests.{is_idle, is_idle_at}
use Rattle.cert_sched.specs.Legal.{IsLegalBy, MayStand}
use Rattle.cert_sched.proofs.DoneLaws.{AllRest, done_may_stand}
use Rattle.cert_sched.proofs.FreshLaws.{numbered}
use Rattle.cert_sched.proofs.PidLaws.{apart_fewer, placed_pids}
use Rattle.cert_sched.proofs.RisingLaws.{rising-any}
use Rattle.cert_sched.proofs.RunsLaws.{rest_pids}
use Rattle.cert_sched.proofs.ThereLaws.{unended_there}
use Rattle.log_laws.proofs.records.Standing.{all_stand}
use Rattle.number_laws.proofs.Counts.{done_is}
use Rattle.number_laws.proofs.InOrder.{has, rises_already, rises_apart, same_in_order}
use Rattle.line_laws.proofs.Ends.{each_rests}
use Rattle.entry_lines.specs.declared.told.ToldBy.{ToldBy}
use Rattle.entry_lines.specs.declared.told.ToldWhat.TheVariants.{Done as ToldDone}
use Rattle.entry_lines.specs.declared.told.Told.{Told}
use Rattle.entry_lines.specs.Told.{told_what}
use Rattle.log_audit.specs.Front.{FrontState, entry_at}
use Rattle.log_audit.specs.Losses.{stop_may}
use Rattle.log_audit.proofs.Losing.{next_placed, parts, passes}
use Rattle.log_audit.proofs.Said.{told_bus}
use Rattle.log_ends.specs.Ends.{AnswersDone, AreUnended, EachRests, OneNeverRests, RestsBy}

-- ---- a map of processes, by rising pid

abbrev keys : List (ℕ × Process) → List ℕ
keys es = map (λ (e : ℕ × Process). e.0) es

same_key : (n m : ℕ) → at_key n m ≡ eqb m n
same_key n m = grind (arith, nat_tests)

keys_has : (n : ℕ) (es : List (ℕ × Process)) → has n (keys es) ≡ is_some (lookup (at_key n) es)
keys_has n [] = refl
keys_has n (e ∷ es) = by_test (eqb e.0 n) (same_key n e.0) (keys_has n es)
  where
    by_test : (b : Bool) → at_key n e.0 ≡ b → has n (keys es) ≡ is_some (lookup (at_key n) es) → (b || has n (keys es)) ≡ is_some (cond (at_key n e.0) (Some e.1) (lookup (at_key n) es))
    by_test true is more = sym (ap (λ b. is_some (cond b (Some e.1) (lookup (at_key n) es))) is)
    by_test false is more = more ∙ sym (ap (λ b. is_some (cond b (Some e.1) (lookup (at_key n) es))) is)

-- what holds of each process that is found holds of each
abbrev Each : (ℕ → Process → Type 0) → List (ℕ × Process) → Type 0
Each P [] = ⊤
Each P (e ∷ es) = P e.0 e.1 × Each P es

each : (P : ℕ → Process → Type 0) (es : List (ℕ × Process)) → IsStrictlySortedBy nat_cmp (keys es) → ((n : ℕ) (s : Process) → lookup (at_key n) es ≡ Some s → P n s) → Each P es
unfolding IsStrictlySortedBy
each P [] sorted all = tt
each P (e ∷ es) sorted all =
    let head : at_key e.0 e.0 ≡ true = same_key e.0 e.0 ∙ eq-eqb e.0 e.0 refl in
    (all e.0 e.1 (ap (λ b. cond b (Some e.1) (lookup (at_key e.0) es)) head), each P es sorted.1 (λ n s there. all n s (later n s there (at_key n e.0) refl)))
  where
    later : (n : ℕ) (s : Process) → lookup (at_key n) es ≡ Some s → (b : Bool) → at_key n e.0 ≡ b → lookup (at_key n) (e ∷ es) ≡ Some s
    later n s there true is =
        let same : e.0 ≡ n = eqb-true e.0 n (sym (same_key n e.0) ∙ is) in
        let none : has n (keys es) ≡ false = ap (λ m. has m (keys es)) (sym same) ∙ (rises_apart (keys (e ∷ es)) sorted).0 in
        absurd (true≢false (sym (ap is_some there) ∙ sym (keys_has n es) ∙ none))
    later n s there false is = ap (λ b. cond b (Some e.1) (lookup (at_key n) es)) is ∙ there

one_of : (P : ℕ → Process → Type 0) (before after : List (ℕ × Process)) (e : ℕ × Process) → Each P (before ++ e ∷ after) → P e.0 e.1
one_of P [] after e all = all.0
one_of P (d ∷ before) after e all = one_of P before after e all.1

-- ---- where a process rests

-- its own steps lead to it from the log
rest_reached : (system : System) (log : List Entry) (p : Pid) (s : ProcState) (n : ℕ) → process_after system log p ≡ Some s → silent_upto system log p n ≡ silently (n - (s.small).steps) s
unfolding silent_upto
rest_reached system log p s n there = let steps = done_is system log p s there in λ i. option_and_then (silently (n - steps i)) (there i)

is_le : (a b : ℕ) → a ≤ b → nat_le a b ≡ true
is_le a b low = grind (arith, nat_tests)

one_idle : (system : System) (log : List Entry) (p : Pid) (s : ProcState) (n : ℕ) → process_after system log p ≡ Some s → RestsBy s n → is_idle_at system log (p, n) ≡ true
one_idle system log p s n there r =
    let steps = done_is system log p s there in
    let made = (silently_counts (r.reached).steps s r.at (r.reached).silent).steps in
    let count : n - (s.small).steps ≡ (r.reached).steps = omega (arith, made, r.counted) in
    let low : nat_le (done_after system log p) n ≡ true = is_le (done_after system log p) n (omega (arith, made, r.counted, steps)) in
    let reached : silent_upto system log p n ≡ Some r.at = rest_reached system log p s n there ∙ ap (λ m. silently m s) count ∙ (r.reached).silent in
    (λ i. (low i && is_some (reached i)) && option_map_or is_idle (reached i) false) ∙ (r.reached).resting

all_named : (es : List (ℕ × Process)) (rs : List (Pid × ℕ)) → EachRests es rs → rest_pids rs ≡ keys es
all_named [] [] rest = refl
all_named [] (r ∷ rs) rest = absurd rest
all_named (e ∷ es) [] rest = absurd rest
all_named (e ∷ es) (r ∷ rs) rest = λ i. (rest.0 i).0 ∷ all_named es rs rest.2 i

all_idle : (system : System) (log : List Entry) (es : List (ℕ × Process)) (rs : List (Pid × ℕ)) → Each (λ n s. process_after system log (pid_of n) ≡ Some (state_of s)) es → EachRests es rs → list_all (is_idle_at system log) rs ≡ true
all_idle system log [] [] there rest = refl
all_idle system log [] (r ∷ rs) there rest = absurd rest
all_idle system log (e ∷ es) [] there rest = absurd rest
all_idle system log (e ∷ es) (r ∷ rs) there rest =
    let here : is_idle_at system log r ≡ true = one_idle system log r.0 (state_of e.1) r.1 (ap (process_after system log) rest.0 ∙ there.0) rest.1 in
    λ i. here i && all_idle system log es rs there.1 rest.2 i

record IdleOnce (system : System) (log : List Entry) (n : ℕ) : Type 0 where
  pub count : ℕ
  pub idle : is_idle_at system log (pid_of n, count) ≡ true

among : (system : System) (log : List Entry) (n : ℕ) (rs : List (Pid × ℕ)) → has n (rest_pids rs) ≡ true → list_all (is_idle_at system log) rs ≡ true → IdleOnce system log n
among system log n [] there idle = absurd (true≢false (sym there))
among system log n (r ∷ rs) there idle = by_test (eqb (r.0).0 n) refl there (and_parts (is_idle_at system log r) (list_all (is_idle_at system log) rs) idle) (among system log n rs)
  where
    by_test : (b : Bool) → eqb (r.0).0 n ≡ b → (b || has n (rest_pids rs)) ≡ true → (is_idle_at system log r ≡ true) × (list_all (is_idle_at system log) rs ≡ true)
        → (has n (rest_pids rs) ≡ true → list_all (is_idle_at system log) rs ≡ true → IdleOnce system log n) → IdleOnce system log n
    by_test true is there both more =
        let same : (r.0).0 ≡ n = eqb-true (r.0).0 n is in
        record { count = r.1; idle = ap (λ m. is_idle_at system log (pid_of m, r.1)) (sym same) ∙ both.0 }
    by_test false is there both more = more there both.1

never_idle : (system : System) (log : List Entry) (p : Pid) (s : ProcState) → process_after system log p ≡ Some s → NeverRests s → (n : ℕ) → is_idle_at system log (p, n) ≡ true → ⊥
never_idle system log p s there never n idle = by_end (silent_upto system log p n) refl (and_parts (is_silent_rest system log (p, n)) (option_map_or is_idle (silent_upto system log p n) false) idle).1
  where
    by_end : (o : Option ProcState) → silent_upto system log p n ≡ o → option_map_or is_idle o false ≡ true → ⊥
    by_end None reached at_rest = true≢false (sym at_rest)
    by_end (Some t) reached at_rest = true≢false (sym at_rest ∙ never (n - (s.small).steps) t (sym (rest_reached system log p s n there) ∙ reached))

-- ---- the processes that have not ended

found_is : (p : Pid) (qs : List Placed) → is_some (find (λ (q : Placed). same_pid q.pid p && not q.ended) qs) ≡ has p.0 (placed_pids (filter (λ (q : Placed). not q.ended) qs))
found_is p [] = refl
found_is p (q ∷ qs) = by_tests (same_pid q.pid p) q.ended refl (found_is p qs)
  where
    by_tests : (b c : Bool) → same_pid q.pid p ≡ b → is_some (find (λ (q : Placed). same_pid q.pid p && not q.ended) qs) ≡ has p.0 (placed_pids (filter (λ (q : Placed). not q.ended) qs))
        → is_some (cond (b && not c) (Some q) (find (λ (q : Placed). same_pid q.pid p && not q.ended) qs)) ≡ has p.0 (placed_pids (cond (not c) (q ∷ filter (λ (q : Placed). not q.ended) qs) (filter (λ (q : Placed). not q.ended) qs)))
    by_tests true true is more = more
    by_tests false true is more = more
    by_tests true false is more = sym (ap (λ b. b || has p.0 (placed_pids (filter (λ (q : Placed). not q.ended) qs))) is)
    by_tests false false is more = more ∙ sym (ap (λ b. b || has p.0 (placed_pids (filter (λ (q : Placed). not q.ended) qs))) is)

if_there : (b : Bool) (o : Option ProcState) (s : ProcState) → Some s ≡ cond b o None → (b ≡ true) × (o ≡ Some s)
if_there true o s is = (refl, sym is)
if_there false o s is = cc

some_if : (b : Bool) (o : Option ProcState) → (b ≡ true → is_some o ≡ true) → is_some (cond b o None) ≡ b
some_if true o there = there refl
some_if false o there = refl

mapped_some : (o : Option Process) → is_some o ≡ is_some (option_map state_of o)
mapped_some None = refl
mapped_some (Some s) = refl

module _ (system : System) (log : List Entry) (es : List (ℕ × Process)) (valid : is_system system ≡ true) (legal : IsLegalBy MayStand system log) (sorted : IsStrictlySortedBy nat_cmp (keys es)) (are : AreUnended es system log) where
  named_there : (n : ℕ) (s : Process) → lookup (at_key n) es ≡ Some s → (is_some (unended_at (placement system log) (pid_of n)) ≡ true) × (process_after system log (pid_of n) ≡ Some (state_of s))
  named_there n s found = if_there (is_some (unended_at (placement system log) (pid_of n))) (process_after system log (pid_of n)) (state_of s) (sym (ap (option_map state_of) found) ∙ are (pid_of n))

  same_members : (n : ℕ) → has n (keys es) ≡ has n (placed_pids (unended_in (placement system log)))
  same_members n =
      keys_has n es ∙ mapped_some (lookup (at_key n) es) ∙ ap is_some (are (pid_of n))
      ∙ some_if (is_some (unended_at (placement system log) (pid_of n))) (process_after system log (pid_of n)) (unended_there MayStand (λ system log e may. may.stands) system log (pid_of n) valid legal)
      ∙ found_is (pid_of n) (placement system log).placed

  in_order : keys es ≡ rising (placed_pids (unended_in (placement system log)))
  in_order =
      sym (rises_already (keys es) sorted)
      ∙ same_in_order (keys es) (placed_pids (unended_in (placement system log))) (rises_apart (keys es) sorted)
      (apart_fewer (λ (q : Placed). not q.ended) (placement system log).placed (numbered MayStand (λ system log e may. may.stands) system log valid legal).two) same_members

  all_rest : (rests : List (Pid × ℕ)) → EachRests es rests → AllRest system log rests
  all_rest rests rest = record {
    named = all_named es rests rest ∙ in_order;
    idle = all_idle system log es rests (each (λ n s. process_after system log (pid_of n) ≡ Some (state_of s)) es sorted (λ n s found. (named_there n s found).1)) rest;
  }

  none_at_rest : (e : Entry) (rests : List (Pid × ℕ)) → what e ≡ Done rests → DoneHolds system log e rests → OneNeverRests es → ⊥
  none_at_rest e rests is holds one =
      let all = each (λ n s. (is_some (unended_at (placement system log) (pid_of n)) ≡ true) × (process_after system log (pid_of n) ≡ Some (state_of s))) es sorted named_there in
      let n : ℕ = (one.entry).0 in
      let own = one_of (λ n s. (is_some (unended_at (placement system log) (pid_of n)) ≡ true) × (process_after system log (pid_of n) ≡ Some (state_of s))) one.before one.after one.entry
      (subst (Each (λ n s. (is_some (unended_at (placement system log) (pid_of n)) ≡ true) × (process_after system log (pid_of n) ≡ Some (state_of s)))) one.there all) in
      let there : has n (rest_pids rests) ≡ true =
      ap (has n) holds.named ∙ rising-any (λ m. eqb m n) (placed_pids (unended_in (placement system log))) ∙ sym (found_is (pid_of n) (placement system log).placed) ∙ own.0 in
      let idle = each_rests system log e rests valid (all_stand system log legal) is holds in
      let once = among system log n rests there idle in
      never_idle system log (pid_of n) (state_of (one.entry).1) own.1 one.never once.count once.idle

-- ---- the line

record DoneSaid (w : What) : Type 0 where
  pub rests : List (Pid × ℕ)
  pub is : w ≡ Done rests

done_said : (w : What) → told_what w ≡ ToldDone → DoneSaid w
done_said (Done rests) line = record { rests = rests; is = refl }
done_said (Rebackup to true recs) line = cc
done_said (Rebackup to false recs) line = cc
done_said _ line = cc

module _ (front : FrontState) (place : ℕ) (by : ToldBy) (es : List (ℕ × Process)) where
  pub done_follows : (rests : List (Pid × ℕ)) → stop_may front place by ≡ true → IsStrictlySortedBy nat_cmp (keys es) → EachRests es rests
      → AnswersDone front place by es (Some (entry_at front place (record { by = Bus; what = Done rests })))
  done_follows rests may sorted rest system log valid legal keeps =
      let tests = parts front place by may in
      let sender = told_bus by tests.1 in
      let placed = next_placed front place tests.0 system log (Done rests) keeps.before in (
        λ i. record { place = place; by = sym sender i; what = ToldDone },
        subst (MayStand system log) (λ i. record { place = sym placed.0 i; post = record { by = Bus; what = Done rests }; dests = sym placed.1 i })
            (done_may_stand system log rests valid legal placed.2 (all_rest system log es valid legal sorted keeps.unended rests rest)),
      )

  pub done_refused : stop_may front place by ≡ false → AnswersDone front place by es None
  done_refused refused system log e valid legal keeps line may =
      let said = done_said (what e) (ap (λ (t : Told). t.what) line) in
      let bus : is_bus (e.post).by ≡ true = sym (ap (is_by_right (placement system log) (e.post).by) said.is) ∙ (may.stands).by_right in
      true≢false (sym (passes system log front e (record { place = place; by = by; what = ToldDone }) keeps.before line may.stands bus) ∙ refused)

  pub done_unrested : IsStrictlySortedBy nat_cmp (keys es) → OneNeverRests es → AnswersDone front place by es None
  done_unrested sorted one system log e valid legal keeps line may =
      let said = done_said (what e) (ap (λ (t : Told). t.what) line) in
      none_at_rest system log es valid legal sorted keeps.unended e said.rests said.is (subst (KindHolds system log e) said.is (may.stands).kind) one

-- ---- one process more

pub one_more : (es : List (ℕ × Process)) (rs : List (Pid × ℕ)) (e : ℕ × Process) (r : Pid × ℕ) → EachRests es rs → r.0 ≡ pid_of e.0 → RestsBy (state_of e.1) r.1 → EachRests (es ++ e ∷ []) (rs ++ r ∷ [])
one_more [] [] e r all pid rest = (pid, rest, tt)
one_more [] (q ∷ rs) e r all pid rest = absurd all
one_more (d ∷ es) [] e r all pid rest = absurd all
one_more (d ∷ es) (q ∷ rs) e r all pid rest = (all.0, all.1, one_more es rs e r all.2 pid rest)

pub all_more : (taken left new all : List (ℕ × Process)) (e : ℕ × Process) → left ≡ e ∷ new → taken ++ left ≡ all → taken ++ e ∷ [] ++ new ≡ all
all_more taken left new all e is before = append_assoc taken (e ∷ []) new ∙ ap (λ (es : List (ℕ × Process)). taken ++ es) (sym is) ∙ before

pub sorted_more : (left new : List (ℕ × Process)) (e : ℕ × Process) → left ≡ e ∷ new → All (λ (n : ℕ). nat_cmp e.0 n ≡ Less) (keys new) → IsStrictlySortedBy nat_cmp (keys new) → IsStrictlySortedBy nat_cmp (keys left)
unfolding IsStrictlySortedBy
sorted_more left new e is above sorted =
    subst (λ (es : List (ℕ × Process)). IsStrictlySortedBy nat_cmp (keys es)) (sym is) (recursion_from_All (λ (n : ℕ). nat_cmp e.0 n ≡ Less) (keys new) above, sorted)
