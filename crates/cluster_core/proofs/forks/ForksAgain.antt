-- Which forks are still to be made again: a turn and a letter leave them, and entries of another kind change the births alone.
use Rattle.std.proofs.Common.{◌≡◌, ◌⊎◌, ℕ, zero, suc, refl, sym, ◌∙◌, ap, subst, List, [], ◌∷◌, ◌++◌, Bool, true, false, cond, not, ◌&&◌, ◌||◌, eqb-true, inl, inr, Option, Some, None, true≢false}
use Rattle.std.specs.Prelude.{filter, option_and_then}
use Rattle.std.specs.List.{list_any}
use Rattle.std.proofs.lemmas.Bool.{and_parts}
use Rattle.std.proofs.lemmas.List.Folds.{list_any-append}
use Rattle.t32_base.specs.declared.process.Pid.{Pid}
use Rattle.t32_base.specs.declared.process.ClusterNo.{ClusterNo}
use Rattle.t32_base.specs.declared.process.Counts.{Counts}
use Rattle.t32_base.specs.declared.letter.BackRec.{BackRec}
use Rattle.t32_base.specs.declared.letter.Letter.{Letter}
use Rattle.proc_state.specs.declared.process.Process.{Process}
use Rattle.sys_calls.specs.declared.steps.Emission.TheVariants.{Mail as Sent, Exit as Ended}
use Rattle.sys_calls.specs.Calls.{Next, Silent, Blocked, Forks, Emits, Over}
use Rattle.sys_calls.specs.Next.{next_step}
use Rattle.bus_msg.specs.declared.entry.What.{What}
use Rattle.bus_msg.specs.declared.entry.What.TheVariants.{Rebackup}
use Rattle.bus_msg.specs.Places.{same_pid}
use Rattle.cert_sched.specs.Rules.{tells_or_closes}
use Rattle.cert_sched.specs.Deeds.{is_end_of}
use Rattle.cert_sched.proofs.FamilyLaws.{Pair}
use Rattle.log_laws.proofs.births.Filters.{kept_passes, one_passes, passes_any}
use Rattle.roll_forward.specs.Advancing.{Going, going, gone_on, rolled_on}
use Rattle.roll_forward.specs.RunsOut.{nothing_left}
use Rattle.residents.specs.Held.{Held, Runs, Rolls, Waits, arrived_held, asked_held, held_of, is_waiting}
use Rattle.cluster_core.specs.Calls.{here_after}
use Rattle.cluster_core.specs.Families.{family_after}
use Rattle.cluster_core.specs.ForksAgain.{ForksLeft, has_to_bear}
use Rattle.residents.specs.Quantum.{RollsTo, RunsTo}
use Rattle.residents.specs.Changed.{with_changed}
use Rattle.cluster_core.proofs.absorbing.ByKind.{by_kind, by_sync, is_of_sync}
use Rattle.cluster_core.proofs.here.Here.{arrival_at, was_here}
use Rattle.residents.proofs.Changing.{found_changed, pid_same}
use Rattle.residents.proofs.Standing.{runs_on}

-- ---- one that is here

-- it has the same forks to make again
pub record SameForks (was now : Held) : Type 0 where
  pub waits : is_waiting now ≡ is_waiting was
  pub bears : (child : Pid) → has_to_bear child now ≡ has_to_bear child was

pub same_forks : (h : Held) → SameForks h h
same_forks h = record { waits = refl; bears = λ child. refl }

pub asked_forks : (h : Held) → SameForks h (asked_held h)
asked_forks (Waits w) = record { waits = refl; bears = λ child. refl }
asked_forks held = same_forks held

arrived_forks : (h : Held) (letter : Letter) → SameForks h (arrived_held h letter)
arrived_forks (Runs p) letter = record { waits = refl; bears = λ child. refl }
arrived_forks _ letter = record { waits = refl; bears = λ child. refl }

-- ---- a turn

-- steps of which none is a fork leave the births
gone_births : (g h : Going) (next : Next) → gone_on g next ≡ Some h → h.births ≡ g.births
gone_births g h (Silent t) is = cc
gone_births g h Blocked is = cc
gone_births g h Forks is = cc
gone_births g h (Emits (Sent letter) t) is = cc
gone_births g h (Emits (Ended end) t) is = cc
gone_births g h Over is = cc

rolled_births : (n : ℕ) (g h : Going) → rolled_on n g ≡ Some h → h.births ≡ g.births
unfolding rolled_on
rolled_births zero g h is = cc
rolled_births (suc n) g h is = by_case (rolled_on n g) is (λ k before. rolled_births n g k before) refl
  where
    by_case : (o : Option Going) → option_and_then (λ k. gone_on k (next_step k.state)) o ≡ Some h → ((k : Going) → rolled_on n g ≡ Some k → k.births ≡ g.births) → rolled_on n g ≡ o → h.births ≡ g.births
    by_case None last more before = cc
    by_case (Some k) last more before = gone_births k h (next_step k.state) last ∙ more k before

-- where nothing is left no birth is
none_left : (counts : Counts) (births : List Pid) → nothing_left counts births ≡ true → births ≡ []
none_left counts [] none = refl
none_left counts (b ∷ bs) none = absurd (true≢false (sym none))

pub rolled_forks : (n : ℕ) (was between : Held) → RollsTo n was between → SameForks was between
rolled_forks n (Runs p) (Runs q) rolls = record { waits = refl; bears = λ child. refl }
rolled_forks n (Rolls p counts births) (Runs q) rolls =
    let left = rolls.0 in
    let unborn = rolls.1 in
    let same : unborn ≡ births = rolled_births n (going p counts births) (going q left unborn) (rolls.2).rolled in
    let none : unborn ≡ [] = none_left left unborn (runs_on n 0 (going p counts births) (going q left unborn) (rolls.2).runs_out (rolls.2).rolled) in
    record { waits = refl; bears = λ child. ap (list_any (same_pid child)) (sym none ∙ same) }
rolled_forks n (Rolls p counts births) (Rolls q left unborn) rolls =
    record { waits = refl; bears = λ child. ap (list_any (same_pid child)) (rolled_births n (going p counts births) (going q left unborn) (rolls.2).rolled) }
rolled_forks n was between rolls = absurd rolls

pub ran_forks : (m : ℕ) (between now : Held) → RunsTo m between now → SameForks between now
ran_forks m (Runs p) (Runs q) runs = record { waits = refl; bears = λ child. refl }
ran_forks m (Rolls p counts births) now runs = subst (SameForks (Rolls p counts births)) (sym runs.1) (same_forks (Rolls p counts births))
ran_forks m between now runs = absurd runs

-- one that runs on has none to make
pub run_forks : (was now : Process) → SameForks (Runs was) (Runs now)
run_forks was now = record { waits = refl; bears = λ child. refl }

-- ---- all that are here

-- one that is here then was here with the same forks to make
pub record WasBearing (old : List (Pid × Held)) (p : Pid) (h : Held) : Type 0 where
  pub was : Held
  pub there : held_of old p ≡ Some was
  pub same : SameForks was h

-- a birth with this parent and this child
abbrev pub bears_by : Pid → Pid → Pair → Bool
bears_by parent child b = same_pid b.0 parent && same_pid b.1 child

-- some births of others
abbrev pub AreAmong : List Pair → List Pair → Type 0
AreAmong some all = (parent child : Pid) → list_any (bears_by parent child) some ≡ true → list_any (bears_by parent child) all ≡ true

pub forks_kept : (births fewer : List Pair) (old new : List (Pid × Held)) → AreAmong fewer births → ((p : Pid) (h : Held) → held_of new p ≡ Some h → WasBearing old p h) → ForksLeft births old → ForksLeft fewer new
forks_kept births fewer old new among was left parent child q h at_parent at_child born =
    let a = was parent q at_parent in
    let b = was child h at_child in
    (b.same).waits ∙ left parent child a.was b.was a.there b.there (among parent child born) ∙ sym ((a.same).bears child)

-- one of them has changed
pub forks_changed : (births : List Pair) (p : Pid) (was now : Held) (here : List (Pid × Held)) → held_of here p ≡ Some was → SameForks was now → ForksLeft births here → ForksLeft births (with_changed p now here)
forks_changed births p was now here there same left = forks_kept births births here (with_changed p now here) (λ parent child born. born) found left
  where
    found : (q : Pid) (h : Held) → held_of (with_changed p now here) q ≡ Some h → WasBearing here q h
    found q h at =
        let f = found_changed p now here q h at in
        record { was = f.was; there = f.there; same = by_pid f.was h f.there f.is (same_pid q p) refl }
      where
        by_pid : (w h : Held) → held_of here q ≡ Some w → (same_pid q p ≡ true → h ≡ now) × (same_pid q p ≡ false → h ≡ w) → (b : Bool) → same_pid q p ≡ b → SameForks w h
        by_pid w h at is true own =
            let one : Some was ≡ Some w = sym there ∙ ap (held_of here) (sym (pid_same q p (eqb-true q.0 p.0 own))) ∙ at in
            let first : was ≡ w = cc in
            subst (λ x. SameForks x h) first (subst (SameForks was) (sym (is.0 own)) same)
        by_pid w h at is false other = subst (SameForks w) (sym (is.1 other)) (same_forks w)

-- ---- an entry that tells of steps or closes the log

pub filter_among : (keep : Pair → Bool) (births : List Pair) → AreAmong (filter keep births) births
filter_among keep births parent child born =
    let one = one_passes (bears_by parent child) (filter keep births) born in
    passes_any (bears_by parent child) births one.pair (kept_passes keep births one.pair one.member).0 one.passes

arrival_forks : (w : What) (p : Pid) (h : Held) → tells_or_closes w ≡ true → SameForks h (arrival_at w p h)
arrival_forks w p h = by_kind (λ w. SameForks h (arrival_at w p h)) (λ at letter. by_test letter (is_end_of p letter.to)) (λ pid at end. same_forks h) (λ rests. same_forks h) (same_forks h) w
  where
    by_test : (letter : Letter) (b : Bool) → SameForks h (cond b (arrived_held h letter) h)
    by_test letter true = arrived_forks h letter
    by_test letter false = same_forks h

pub forks_told : (w : What) (births : List Pair) (here : List (Pid × Held)) → tells_or_closes w ≡ true → ForksLeft births here → ForksLeft (family_after w births) (here_after w here)
forks_told w births here tells = forks_kept births (family_after w births) here (here_after w here) among found
  where
    among : AreAmong (family_after w births) births
    among = by_kind (λ w. AreAmong (family_after w births) births) (λ at letter parent child born. born) (λ pid at end. filter_among (λ (b : Pair). not (same_pid b.1 pid)) births) (λ rests parent child born. born) (λ parent child born. born) w tells

    found : (p : Pid) (h : Held) → held_of (here_after w here) p ≡ Some h → WasBearing here p h
    found p h at =
        let b = was_here w here p h tells at in
        record { was = b.was; there = b.there; same = subst (SameForks b.was) (sym b.same) (arrival_forks w p b.was tells) }

-- ---- an entry by which a process synchronises

pub forks_synced : (w : What) (births : List Pair) (here : List (Pid × Held)) → is_of_sync w ≡ true → ForksLeft births here → ForksLeft (family_after w births) here
forks_synced w births here of =
    forks_kept births (family_after w births) here here (by_sync (λ w. AreAmong (family_after w births) births) (λ pid at index bytes parent child born. born) (λ pid small read took. filter_among (λ (b : Pair). not (same_pid b.1 pid)) births) w of) (λ p h at. record { was = h; there = at; same = same_forks h })

-- at a new backup, where the process that has run leaves them
pub forks_renewed : (to : ClusterNo) (fresh : Bool) (recs : List BackRec) (births : List Pair) (here : List (Pid × Held)) → ForksLeft births here → ForksLeft (family_after (Rebackup to fresh recs) births) here
forks_renewed to fresh recs births here =
    forks_kept births (family_after (Rebackup to fresh recs) births) here here (by_form fresh recs) (λ p h at. record { was = h; there = at; same = same_forks h })
  where
    by_form : (fresh : Bool) (recs : List BackRec) → AreAmong (family_after (Rebackup to fresh recs) births) births
    by_form false recs = λ parent child born. born
    by_form true [] = λ parent child born. born
    by_form true (r ∷ rs) = filter_among (λ (b : Pair). not (same_pid b.1 r.pid)) births

-- ---- a birth

-- a birth more is one of those, or the last
pub born_or : (births : List Pair) (last : Pair) (parent child : Pid) → list_any (bears_by parent child) (births ++ last ∷ []) ≡ true → (list_any (bears_by parent child) births ≡ true) ⊎ ((same_pid last.0 parent ≡ true) × (same_pid last.1 child ≡ true))
born_or births last parent child born = by_first (list_any (bears_by parent child) births) refl (sym (list_any-append (bears_by parent child) births (last ∷ [])) ∙ born)
  where
    one : (a : Bool) → (a || false) ≡ true → a ≡ true
    one true is = refl
    one false is = absurd (true≢false (sym is))

    by_first : (b : Bool) → list_any (bears_by parent child) births ≡ b → (b || (bears_by parent child last || false)) ≡ true → (list_any (bears_by parent child) births ≡ true) ⊎ ((same_pid last.0 parent ≡ true) × (same_pid last.1 child ≡ true))
    by_first true is h = inl is
    by_first false is h = inr (and_parts (same_pid last.0 parent) (same_pid last.1 child) (one (bears_by parent child last) h))

-- a birth of which the parent is not here adds nothing
pub forks_elsewhere : (births : List Pair) (here : List (Pid × Held)) (parent child : Pid) → held_of here parent ≡ None → ForksLeft births here → ForksLeft (births ++ (parent, child) ∷ []) here
forks_elsewhere births here parent child none left p c q h at_parent at_child born = by_birth (born_or births (parent, child) p c born)
  where
    by_birth : (list_any (bears_by p c) births ≡ true) ⊎ ((same_pid parent p ≡ true) × (same_pid child c ≡ true)) → is_waiting h ≡ has_to_bear c q
    by_birth (inl before) = left p c q h at_parent at_child before
    by_birth (inr last) =
        let there : None ≡ Some q = sym none ∙ ap (held_of here) (pid_same parent p (eqb-true parent.0 p.0 last.0)) ∙ at_parent in
        cc
