-- The pids of a legal log have 32 bits, and so the numbers of each process of it are small.
use Rattle.std.proofs.Common.{◌≡◌, ℕ, ◌^◌, ◌<◌, refl, sym, ◌∙◌, ap, subst, arith, List, [], ◌∷◌, length, map, Bool, true, false, cond, ◌||◌, eqb, eqb-true, Option, Some, None, is_some, slice_get, true≢false}
use Rattle.std.specs.Prelude.{option_and_then}
use Rattle.std.specs.List.{list_any}
use Rattle.std.specs.Option.{option_map_or}
use Rattle.std.specs.FinMap.{find as find_in}
use Rattle.std.specs.Ordering.{is_eq, nat_cmp}
use Rattle.std.proofs.lemmas.Bool.Decides.{nat_tests}
use Rattle.std.proofs.lemmas.List.{map-append}
use Rattle.std.proofs.lemmas.List.Folds.{list_any-append}
use Rattle.std.proofs.lemmas.Option.{slice_get_within}
use Rattle.t32_base.specs.declared.process.Pid.{Pid}
use Rattle.t32_base.specs.declared.process.ClusterNo.{ClusterNo}
use Rattle.sys_text.specs.declared.system.System.{System}
use Rattle.sys_text.specs.declared.system.Root.{Root}
use Rattle.sys_text.specs.Boot.{roots_of}
use Rattle.sys_text.specs.Valid.{is_system}
use Rattle.proc_state.specs.State.{ProcState}
use Rattle.plain_kernel.specs.Kernel.{Kernel, pid_cmp, process_at}
use Rattle.bus_msg.specs.declared.entry.What.{What}
use Rattle.bus_msg.specs.declared.entry.What.TheVariants.{Birth}
use Rattle.bus_msg.specs.declared.entry.Entry.{Entry}
use Rattle.bus_msg.specs.declared.placed.Placed.{Placed}
use Rattle.bus_msg.specs.Places.{ClusterPlace, Places, lives_in, placed_at}
use Rattle.bus_msg.specs.PlacedAfter.{child_of, placed_after, what, with_birth}
use Rattle.cert_sched.specs.Schedule.{placed_root, placement, plain_after, process_after}
use Rattle.cert_sched.specs.Rules.{is_by_right}
use Rattle.cert_sched.specs.Kinds.{KindHolds}
use Rattle.cert_sched.specs.Legal.{IsLegalBy, Stands, MayStand}
use Rattle.cert_sched.specs.Simulation.{IsUnended}
use Rattle.cert_sched.proofs.AmongLaws.{all_alike}
use Rattle.cert_sched.proofs.BootPids.{state_pids}
use Rattle.cert_sched.proofs.FreshLaws.{born_rightly, numbered, same_pids}
use Rattle.cert_sched.proofs.Induction.{legal_induction}
use Rattle.cert_sched.proofs.LogLaws.{IsLegal-snoc, placement-snoc}
use Rattle.cert_sched.proofs.PidLaws.{placed_pids}
use Rattle.cert_sched.proofs.StepLaws.{process_after-own}
use Rattle.cert_sched.proofs.ThereLaws.{unended_there}
use Rattle.state_numbers.specs.Fits.{IsWord, StateFits}
use Rattle.number_laws.proofs.KernelNumbers.{PidsFit, RootsFit, kernel_fits, roots_fit}
use Rattle.number_laws.proofs.NextPids.{pid_fits}

by_standing : (system : System) (log : List Entry) (e : Entry) → MayStand system log e → Stands system log e
by_standing system log e may = may.stands

-- ---- the pids that are placed

abbrev PlacedFit : Places → Type 0
PlacedFit places = (n : ℕ) → list_any (λ m. eqb m n) (placed_pids places.placed) ≡ true → IsWord n

one_or : (a b : Bool) (P : Type 0) → (a || b) ≡ true → (a ≡ true → P) → (b ≡ true → P) → P
one_or true b P is first rest = first refl
one_or false b P is first rest = rest is

pub lives_within : (places : Places) (k : ClusterNo) → lives_in places k ≡ true → k.0 < length places.clusters
lives_within places k lives = by_place (slice_get places.clusters k.0) refl lives
  where
    by_place : (o : Option ClusterPlace) → slice_get places.clusters k.0 ≡ o → option_map_or (λ (c : ClusterPlace). c.lives) o false ≡ true → k.0 < length places.clusters
    by_place None is h = absurd (true≢false (sym h))
    by_place (Some c) is h = slice_get_within places.clusters k.0 c is

born_fit : (places : Places) (child : Pid) (o : Option Placed) → IsWord child.0 → PlacedFit places → PlacedFit (with_birth places child o)
born_fit places child None word fit n there = fit n there
born_fit places child (Some q) word fit n there =
    one_or (list_any (λ m. eqb m n) (placed_pids places.placed)) (eqb child.0 n || false) (IsWord n)
    (sym (ap (list_any (λ m. eqb m n)) (map-append (λ (q : Placed). (q.pid).0) places.placed (child_of q child ∷ [])) ∙ list_any-append (λ m. eqb m n) (placed_pids places.placed) (child.0 ∷ [])) ∙ there) (fit n)
    (λ own. one_or (eqb child.0 n) false (IsWord n) own (λ same. subst IsWord (eqb-true child.0 n same) word) (λ none. absurd (true≢false (sym none))))

next_fit : (system : System) (log : List Entry) (e : Entry) (w : What) → is_system system ≡ true → IsLegalBy MayStand system log → what e ≡ w → Stands system log e → PlacedFit (placement system log) → PlacedFit (placed_after (placement system log) w)
next_fit system log e (Birth parent at child end) valid legal is stands fit =
    let kind = subst (KindHolds system log e) is stands.kind in
    let right = subst (λ (w : What). is_by_right (placement system log) (e.post).by w ≡ true) is stands.by_right in
    let b = born_rightly (placement system log) (e.post).by parent child right kind.child_is in
    let few = (numbered MayStand by_standing system log valid legal).few in
    let within = lives_within (placement system log) (b.at).home b.lives in
    let word : IsWord child.0 = subst (λ (p : Pid). p.0 < 2 ^ 32) b.child_is (pid_fits system log (b.at).home valid legal (omega (arith, few, within))) in
    born_fit (placement system log) child (placed_at (placement system log) parent) word fit
next_fit system log e w valid legal is stands fit = λ n there. fit n (sym (ap (list_any (λ m. eqb m n)) (same_pids w refl (placement system log))) ∙ there)

roots_placed : (roots : List (Pid × Root)) (n : ℕ) → RootsFit roots → list_any (λ m. eqb m n) (placed_pids (map placed_root roots)) ≡ true → IsWord n
roots_placed [] n fit there = absurd (true≢false (sym there))
roots_placed (r ∷ roots) n fit there =
    one_or (eqb (r.0).0 n) (list_any (λ m. eqb m n) (placed_pids (map placed_root roots))) (IsWord n) there (λ same. subst IsWord (eqb-true (r.0).0 n same) fit.0.0) (roots_placed roots n fit.1)

record Both (system : System) (log : List Entry) : Type 0 where
  pub legal : IsLegalBy MayStand system log
  pub fit : PlacedFit (placement system log)

none_both : (system : System) → is_system system ≡ true → Both system []
unfolding placement IsLegalBy
none_both system valid = record { legal = tt; fit = λ n there. roots_placed (roots_of system) n (roots_fit system valid) there }

placed_fit : (system : System) (log : List Entry) → is_system system ≡ true → IsLegalBy MayStand system log → PlacedFit (placement system log)
placed_fit system log valid legal =
    (legal_induction MayStand system (Both system) (none_both system valid)
    (λ log e both may. record {
      legal = IsLegal-snoc MayStand system log e both.legal may;
      fit = subst PlacedFit (sym (placement-snoc system log e)) (next_fit system log e (what e) valid both.legal refl may.stands both.fit);
    }) log legal).fit

-- ---- the processes

tied : (n m : ℕ) → is_eq (nat_cmp n m) ≡ eqb m n
tied n m = grind (arith, nat_tests)

found_there : (p : Pid) (s : ProcState) (es : List (Pid × ProcState)) → find_in pid_cmp p es ≡ Some s → list_any (λ m. eqb m p.0) (state_pids es) ≡ true
found_there p s [] found = cc
found_there p s (e ∷ es) found = by_test (eqb (e.0).0 p.0) (ap (λ b. cond b (Some e.1) (find_in pid_cmp p es)) (sym (tied p.0 (e.0).0)) ∙ found) (found_there p s es)
  where
    by_test : (b : Bool) → cond b (Some e.1) (find_in pid_cmp p es) ≡ Some s → (find_in pid_cmp p es ≡ Some s → list_any (λ m. eqb m p.0) (state_pids es) ≡ true) → (b || list_any (λ m. eqb m p.0) (state_pids es)) ≡ true
    by_test true found more = refl
    by_test false found more = more found

pub pids_fit : (system : System) (log : List Entry) (k : Kernel) → is_system system ≡ true → IsLegalBy MayStand system log → plain_after system log ≡ Some k → PidsFit k
pids_fit system log k valid legal is p s there =
    placed_fit system log valid legal p.0 (sym ((all_alike MayStand by_standing system log valid legal k is).among p) ∙ found_there p s k.processes there)

pub states_fit : (system : System) (log : List Entry) (p : Pid) (s : ProcState) → is_system system ≡ true → IsLegalBy MayStand system log → process_after system log p ≡ Some s → StateFits s
states_fit system log p s valid legal there = by_kernel (plain_after system log) refl there
  where
    by_kernel : (o : Option Kernel) → plain_after system log ≡ o → option_and_then (λ k. process_at k p) o ≡ Some s → StateFits s
    by_kernel None is e = cc
    by_kernel (Some k) is e = kernel_fits system log k valid is (pids_fit system log k valid legal is) p s e

-- so is the pid of a process that is there
pub there_fits : (system : System) (log : List Entry) (p : Pid) (s : ProcState) → is_system system ≡ true → IsLegalBy MayStand system log → process_after system log p ≡ Some s → IsWord p.0
there_fits system log p s valid legal there = subst (λ (q : Pid). IsWord q.0) (process_after-own system log p s there) (states_fit system log p s valid legal there).pid

pub unended_fits : (system : System) (log : List Entry) (p : Pid) → is_system system ≡ true → IsLegalBy MayStand system log → IsUnended system log p → IsWord p.0
unended_fits system log p valid legal unended = by_process (process_after system log p) refl (unended_there MayStand by_standing system log p valid legal unended)
  where
    by_process : (o : Option ProcState) → process_after system log p ≡ o → is_some o ≡ true → IsWord p.0
    by_process None is some = absurd (true≢false (sym some))
    by_process (Some s) is some = there_fits system log p s valid legal is
