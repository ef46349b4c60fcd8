-- Who is here after a fork that was made again: the parent has its half made, the child has begun where it waited, and the others stay.
use Rattle.std.proofs.Common.{◌≡◌, refl, sym, ◌∙◌, ap, subst, List, [], ◌∷◌, Bool, true, false, cond, eqb-true, Option, Some, None, true≢false}
use Rattle.std.specs.Prelude.{find, is_none, map, option_map}
use Rattle.t32_base.specs.declared.process.Pid.{Pid}
use Rattle.t32_base.specs.declared.process.Counts.{Counts}
use Rattle.t32_base.specs.Small.{SmallState}
use Rattle.proc_state.specs.declared.process.Process.{Process}
use Rattle.proc_state.specs.State.{ProcState}
use Rattle.sys_calls.specs.Fork.{fork_child}
use Rattle.bus_msg.specs.Places.{same_pid}
use Rattle.roll_forward.specs.Rolling.{CanRoll, with_saved}
use Rattle.roll_forward.specs.RunsOut.{nothing_left}
use Rattle.page_waits.specs.Waiting.{WaitingState}
use Rattle.residents.specs.Held.{Held, Runs, Rolls, Waits, held_of, is_waiting}
use Rattle.residents.specs.Bearing.{forked, newborn}
use Rattle.residents.specs.ForkingAgain.{CanBeginAgain, begun_with, with_mail_of, going_held, with_fork_again}
use Rattle.residents.specs.Residents.{pids_in}
use Rattle.residents.specs.Changed.{with_changed}
use Rattle.residents.proofs.Changing.{FoundChanged, found_changed, pid_same, pids_changed}

-- ---- the child

-- a process begins here where it waited
abbrev pub begun_here : Process → Pid → List (Pid × Held) → List (Pid × Held)
begun_here process child here = map (λ (e : Pid × Held). cond (same_pid e.0 child) (e.0, begun_with (newborn process child) e.1) e) here

record FoundBegun (process : Process) (child : Pid) (here : List (Pid × Held)) (q : Pid) (h : Held) : Type 0 where
  pub was : Held
  pub there : held_of here q ≡ Some was
  pub is : (same_pid q child ≡ true → h ≡ begun_with (newborn process child) was) × (same_pid q child ≡ false → h ≡ was)

found_begun : (process : Process) (child : Pid) (here : List (Pid × Held)) (q : Pid) (h : Held) → held_of (begun_here process child here) q ≡ Some h → FoundBegun process child here q h
found_begun process child [] q h at = cc
found_begun process child (e ∷ here) q h at = by_tests (same_pid e.0 child) (same_pid e.0 q) refl refl at (found_begun process child here q h)
  where
    there : (b : Bool) → same_pid e.0 q ≡ b → held_of (e ∷ here) q ≡ cond b (Some e.1) (held_of here q)
    there true is = ap (λ b. option_map (λ (e : Pid × Held). e.1) (cond b (Some e) (find (λ (e : Pid × Held). same_pid e.0 q) here))) is
    there false is = ap (λ b. option_map (λ (e : Pid × Held). e.1) (cond b (Some e) (find (λ (e : Pid × Held). same_pid e.0 q) here))) is

    own_test : same_pid e.0 q ≡ true → same_pid q child ≡ same_pid e.0 child
    own_test own = ap (λ r. same_pid r child) (sym (pid_same e.0 q (eqb-true (e.0).0 q.0 own)))

    by_tests : (b d : Bool) → same_pid e.0 child ≡ b → same_pid e.0 q ≡ d → option_map (λ (e : Pid × Held). e.1) (find (λ (e : Pid × Held). same_pid e.0 q) (cond b (e.0, begun_with (newborn process child) e.1) e ∷ begun_here process child here)) ≡ Some h
        → (held_of (begun_here process child here) q ≡ Some h → FoundBegun process child here q h) → FoundBegun process child (e ∷ here) q h
    by_tests true true is own at more =
        let found : Some (begun_with (newborn process child) e.1) ≡ Some h = sym (ap (λ b. option_map (λ (y : Pid × Held). y.1) (cond b (Some (e.0, begun_with (newborn process child) e.1)) (find (λ (y : Pid × Held). same_pid y.0 q) (begun_here process child here)))) own) ∙ at in
        let mine : h ≡ begun_with (newborn process child) e.1 = cc in
        record { was = e.1; there = there true own; is = (λ at_child. mine, λ other. absurd (true≢false (sym (own_test own ∙ is) ∙ other))) }
    by_tests false true is own at more =
        let found : Some e.1 ≡ Some h = sym (ap (λ b. option_map (λ (y : Pid × Held). y.1) (cond b (Some e) (find (λ (y : Pid × Held). same_pid y.0 q) (begun_here process child here)))) own) ∙ at in
        let mine : h ≡ e.1 = cc in
        record { was = e.1; there = there true own; is = (λ at_child. absurd (true≢false (sym at_child ∙ own_test own ∙ is)), λ other. mine) }
    by_tests true false is other at more =
        let f = more (sym (ap (λ b. option_map (λ (y : Pid × Held). y.1) (cond b (Some (e.0, begun_with (newborn process child) e.1)) (find (λ (y : Pid × Held). same_pid y.0 q) (begun_here process child here)))) other) ∙ at) in
        record { was = f.was; there = there false other ∙ f.there; is = f.is }
    by_tests false false is other at more =
        let f = more (sym (ap (λ b. option_map (λ (y : Pid × Held). y.1) (cond b (Some e) (find (λ (y : Pid × Held). same_pid y.0 q) (begun_here process child here)))) other) ∙ at) in
        record { was = f.was; there = there false other ∙ f.there; is = f.is }

pids_begun : (process : Process) (child : Pid) (here : List (Pid × Held)) → pids_in (begun_here process child here) ≡ pids_in here
pids_begun process child [] = refl
pids_begun process child (e ∷ here) = by_test (same_pid e.0 child) (pids_begun process child here)
  where
    by_test : (b : Bool) → pids_in (begun_here process child here) ≡ pids_in here → ((cond b (e.0, begun_with (newborn process child) e.1) e).0).0 ∷ pids_in (begun_here process child here) ≡ (e.0).0 ∷ pids_in here
    by_test true more = ap (λ ns. (e.0).0 ∷ ns) more
    by_test false more = ap (λ ns. (e.0).0 ∷ ns) more

-- ---- what goes on

-- one that goes on does not wait
pub going_waits : (process : Process) (counts : Counts) (births : List Pid) → is_waiting (going_held process counts births) ≡ false
going_waits process counts births = by_left (nothing_left counts births)
  where
    by_left : (b : Bool) → is_waiting (cond b (Runs process) (Rolls process counts births)) ≡ false
    by_left true = refl
    by_left false = refl

-- and does not begin a second time
begun_once : (parent : Process) (child : Pid) (process : Process) (counts : Counts) (births : List Pid) → begun_with (newborn parent child) (going_held process counts births) ≡ going_held process counts births
begun_once parent child process counts births = by_left (nothing_left counts births)
  where
    by_left : (b : Bool) → begun_with (newborn parent child) (cond b (Runs process) (Rolls process counts births)) ≡ cond b (Runs process) (Rolls process counts births)
    by_left true = refl
    by_left false = refl

-- what holds of a process, and of one that begins where it waits without a state in its record, holds where that has begun
pub kept_at_begin : (Holds : Held → Type 0) (parent : Process) (child : Pid) (h : Held) → Holds h → ((w : WaitingState) → h ≡ Waits w → (w.kept).state ≡ None → Holds (going_held (with_mail_of w.kept (newborn parent child)) (w.kept).counts (w.kept).births)) → Holds (begun_with (newborn parent child) h)
kept_at_begin Holds parent child (Waits w) holds begins = by_state (w.kept).state refl
  where
    by_state : (o : Option SmallState) → (w.kept).state ≡ o → Holds (cond (is_none o) (going_held (with_mail_of w.kept (newborn parent child)) (w.kept).counts (w.kept).births) (Waits w))
    by_state None none = begins w refl none
    by_state (Some small) stated = holds
kept_at_begin Holds parent child _ holds begins = holds

-- ---- all that are here

module _ (p : Pid) (process : Process) (counts : Counts) (child : Pid) (births : List Pid) (here : List (Pid × Held)) where
  -- what the parent goes on as
  abbrev pub goes : Held
  goes = going_held (forked process child) counts births

  -- one that is here after the fork was here before it
  pub record FoundForked (q : Pid) (h : Held) : Type 0 where
    pub was : Held
    pub there : held_of here q ≡ Some was
    pub parent : same_pid q p ≡ true → h ≡ goes
    pub begun : same_pid q p ≡ false → same_pid q child ≡ true → h ≡ begun_with (newborn process child) was
    pub other : same_pid q p ≡ false → same_pid q child ≡ false → h ≡ was

  pub found_forked : (q : Pid) (h : Held) → held_of (with_fork_again p process counts child births here) q ≡ Some h → FoundForked q h
  found_forked q h at = record {
    was = c.was;
    there = c.there;
    parent = λ own. by_child (same_pid q child) refl (c.is.0 own);
    begun = λ apart own. b.is.0 own ∙ ap (begun_with (newborn process child)) (c.is.1 apart);
    other = λ apart other. b.is.1 other ∙ c.is.1 apart;
  }
    where
      b : FoundBegun process child (with_changed p goes here) q h
      b = found_begun process child (with_changed p goes here) q h at

      c : FoundChanged p goes here q b.was
      c = found_changed p goes here q b.was b.there

      by_child : (t : Bool) → same_pid q child ≡ t → b.was ≡ goes → h ≡ goes
      by_child true is same = b.is.0 is ∙ ap (begun_with (newborn process child)) same ∙ begun_once process child (forked process child) counts births
      by_child false is same = b.is.1 is ∙ same

  pub pids_forked : pids_in (with_fork_again p process counts child births here) ≡ pids_in here
  pids_forked = pids_begun process child (with_changed p goes here) ∙ pids_changed p goes here

  -- What holds of each, of the parent after its half of the fork, and of the child where it has begun holds of each after the fork.
  pub kept_at_fork : (Holds : Pid → Held → Type 0) → ((q : Pid) (h : Held) → held_of here q ≡ Some h → Holds q h) → Holds p goes → ((h : Held) → held_of here child ≡ Some h → Holds child h → Holds child (begun_with (newborn process child) h))
      → (q : Pid) (h : Held) → held_of (with_fork_again p process counts child births here) q ≡ Some h → Holds q h
  kept_at_fork Holds each parent begins q h at = by_pids (same_pid q p) (same_pid q child) refl refl
    where
      f : FoundForked q h
      f = found_forked q h at

      at_pid : (r : Pid) (x : Held) → same_pid q r ≡ true → Holds r x → h ≡ x → Holds q h
      at_pid r x own holds is = subst (Holds q) (sym is) (subst (λ s. Holds s x) (sym (pid_same q r (eqb-true q.0 r.0 own))) holds)

      by_pids : (a b : Bool) → same_pid q p ≡ a → same_pid q child ≡ b → Holds q h
      by_pids true b own of_child = at_pid p goes own parent (f.parent own)
      by_pids false true apart own =
          let there : held_of here child ≡ Some f.was = ap (held_of here) (sym (pid_same q child (eqb-true q.0 child.0 own))) ∙ f.there in
          at_pid child (begun_with (newborn process child) f.was) own (begins f.was there (each child f.was there)) (f.begun apart own)
      by_pids false false apart other = subst (Holds q) (sym (f.other apart other)) (each q f.was f.there)

-- ---- who can begin again

-- the state in the record of one that waits
abbrev state_kept : Held → Option SmallState
state_kept (Waits w) = (w.kept).state
state_kept _ = None

-- one that has begun waits no more without a state in its record
begun_stated : (process : Process) (child : Pid) (was : Held) (w : WaitingState) → Waits w ≡ begun_with (newborn process child) was → (w.kept).state ≡ None → ⊥
begun_stated process child (Waits v) w is none = by_state (v.kept).state refl is
  where
    by_state : (o : Option SmallState) → (v.kept).state ≡ o → Waits w ≡ cond (is_none o) (going_held (with_mail_of v.kept (newborn process child)) (v.kept).counts (v.kept).births) (Waits v) → ⊥
    by_state None stateless same = true≢false (ap is_waiting same ∙ going_waits (with_mail_of v.kept (newborn process child)) (v.kept).counts (v.kept).births)
    by_state (Some small) stated same = let both : Some small ≡ None = sym stated ∙ sym (ap state_kept same) ∙ none in cc
begun_stated process child _ w is none = true≢false (ap is_waiting is)

-- where one changed that does not wait then, whoever could begin again can do so
pub begins_beside : (p : Pid) (now : Held) (here : List (Pid × Held)) (s : ProcState) (q : Pid) → is_waiting now ≡ false → CanBeginAgain here s q → CanBeginAgain (with_changed p now here) s q
begins_beside p now here s q goes_on can w at none = by_pid (same_pid q p) refl
  where
    f : FoundChanged p now here q (Waits w)
    f = found_changed p now here q (Waits w) at

    by_pid : (b : Bool) → same_pid q p ≡ b → CanRoll (with_saved (fork_child s q) (w.kept).saved (w.kept).next) (w.kept).counts (w.kept).births
    by_pid true own = absurd (true≢false (ap is_waiting (f.is.0 own) ∙ goes_on))
    by_pid false other = can w (f.there ∙ ap Some (sym (f.is.1 other))) none

-- and so after a fork that was made again
pub begins_after_fork : (p : Pid) (process : Process) (counts : Counts) (child : Pid) (births : List Pid) (here : List (Pid × Held)) (s : ProcState) (q : Pid) → CanBeginAgain here s q → CanBeginAgain (with_fork_again p process counts child births here) s q
begins_after_fork p process counts child births here s q can w at none = by_pids (same_pid q p) (same_pid q child) refl refl
  where
    f : FoundForked p process counts child births here q (Waits w)
    f = found_forked p process counts child births here q (Waits w) at

    by_pids : (a b : Bool) → same_pid q p ≡ a → same_pid q child ≡ b → CanRoll (with_saved (fork_child s q) (w.kept).saved (w.kept).next) (w.kept).counts (w.kept).births
    by_pids true b own of_child = absurd (true≢false (ap is_waiting (f.parent own) ∙ going_waits (forked process child) counts births))
    by_pids false true apart own = absurd (begun_stated process child f.was w (f.begun apart own) none)
    by_pids false false apart other = can w (f.there ∙ ap Some (sym (f.other apart other))) none
