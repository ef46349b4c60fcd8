-- What is here once a child is put beside its parent.
use Rattle.std.proofs.Common.{◌≡◌, ◌⊎◌, ℕ, refl, sym, ◌∙◌, ap, subst, arith, List, [], ◌∷◌, Bool, true, false, cond, ◌||◌, eqb-true, eq-eqb, Some, true≢false, inl, inr}
use Rattle.std.specs.Prelude.{find, option_map}
use Rattle.std.specs.List.{list_any}
use Rattle.std.specs.Option.{option_map_or}
use Rattle.t32_base.specs.declared.process.Pid.{Pid}
use Rattle.proc_state.specs.declared.process.Process.{Process}
use Rattle.bus_msg.specs.Places.{same_pid}
use Rattle.cert_sched.specs.Parts.{rising}
use Rattle.residents.specs.Held.{Held, Runs, held_of}
use Rattle.residents.specs.Residents.{pids_in}
use Rattle.residents.specs.Changed.{with_changed, with_more}
use Rattle.cluster_core.specs.Parts.{AllOwn, IsOwn}
use Rattle.residents.specs.Bearing.{forked, newborn, with_born, with_fork}
use Rattle.residents.proofs.Changing.{found_changed, pid_same, pids_changed}
use Rattle.cluster_core.proofs.here.Owning.{own_at, own_changed}
use Rattle.cluster_core.proofs.losses.OwningWaits.{own_more}
use Rattle.cluster_core.proofs.losses.RecoveredHere.{held_more, pids_more}

-- ---- one more

-- one that is found is among those here
found_among : (here : List (Pid × Held)) (p : Pid) (h : Held) → held_of here p ≡ Some h → list_any (λ (e : Pid × Held). same_pid e.0 p) here ≡ true
found_among [] p h there = cc
found_among (e ∷ here) p h there = by_test (same_pid e.0 p) there (found_among here p h)
  where
    by_test : (b : Bool) → option_map (λ (e : Pid × Held). e.1) (cond b (Some e) (find (λ (e : Pid × Held). same_pid e.0 p) here)) ≡ Some h
        → (held_of here p ≡ Some h → list_any (λ (e : Pid × Held). same_pid e.0 p) here ≡ true) → (b || list_any (λ (e : Pid × Held). same_pid e.0 p) here) ≡ true
    by_test true is more = refl
    by_test false is more = more is

-- ---- a parent that runs here

-- what is found at a pid is the child,
pub record IsNewborn (child : Pid) (process : Process) (q : Pid) (h : Held) : Type 0 where
  pub own : same_pid child q ≡ true
  pub is : h ≡ Runs (newborn process child)

-- or the parent,
pub record IsForked (p child : Pid) (process : Process) (q : Pid) (h : Held) : Type 0 where
  pub apart : same_pid child q ≡ false
  pub own : same_pid p q ≡ true
  pub is : h ≡ Runs (forked process child)

-- or another, which was here
pub record IsNeither (p child : Pid) (here : List (Pid × Held)) (q : Pid) (h : Held) : Type 0 where
  pub apart : same_pid child q ≡ false
  pub other : same_pid p q ≡ false
  pub there : held_of here q ≡ Some h

abbrev pub FoundBorn : Pid → Pid → Process → List (Pid × Held) → Pid → Held → Type 0
FoundBorn p child process here q h = IsNewborn child process q h ⊎ IsForked p child process q h ⊎ IsNeither p child here q h

turned : (p q : Pid) (b : Bool) → same_pid p q ≡ b → same_pid q p ≡ b
turned p q true is = eq-eqb q.0 p.0 (sym (eqb-true p.0 q.0 is))
turned p q false is = by_test (same_pid q p) refl
  where
    by_test : (b : Bool) → same_pid q p ≡ b → b ≡ false
    by_test true own = absurd (true≢false (sym (eq-eqb p.0 q.0 (sym (eqb-true q.0 p.0 own))) ∙ is))
    by_test false other = refl

module _ (p child : Pid) (process : Process) (here : List (Pid × Held)) (there : held_of here p ≡ Some (Runs process)) where
  pub born_is : with_born p child here ≡ with_more child (Runs (newborn process child)) (with_changed p (Runs (forked process child)) here)
  born_is = ap (λ o. option_map_or (λ (h : Held). with_fork p child h here) o here) there

  -- the pids are those that were here, and the child's
  pub pids_born : rising (pids_in (with_born p child here)) ≡ rising (child.0 ∷ pids_in here)
  pids_born =
      ap (λ es. rising (pids_in es)) born_is
      ∙ pids_more child (Runs (newborn process child)) (with_changed p (Runs (forked process child)) here)
      ∙ ap (λ ns. rising (child.0 ∷ ns)) (pids_changed p (Runs (forked process child)) here)

  -- each is its own, where each was
  pub own_born : (cursor : ℕ) → AllOwn cursor here → AllOwn cursor (with_born p child here)
  own_born cursor own =
      let mine : IsOwn cursor p process = own_at cursor here p (Runs process) own there in
      let parent : IsOwn cursor p (forked process child) = record { pid_is = mine.pid_is; arrived = mine.arrived } in
      let begun : IsOwn cursor child (newborn process child) = record { pid_is = refl; arrived = omega arith } in
      subst (AllOwn cursor) (sym born_is)
      (own_more cursor child (Runs (newborn process child)) (with_changed p (Runs (forked process child)) here) begun (own_changed cursor p (Runs (forked process child)) here own parent))

  -- what is found is the child, or the parent, or was found before, where the child was not here
  pub found_born : list_any (λ (e : Pid × Held). same_pid e.0 child) here ≡ false → (q : Pid) (h : Held) → held_of (with_born p child here) q ≡ Some h → FoundBorn p child process here q h
  found_born absent q h at =
      by_child (same_pid child q) refl
      (held_more child (Runs (newborn process child)) (with_changed p (Runs (forked process child)) here) q h (ap (λ es. held_of es q) (sym born_is) ∙ at))
    where
      -- the child was not here
      not_child : held_of (with_changed p (Runs (forked process child)) here) q ≡ Some h → same_pid child q ≡ true → ⊥
      not_child held own =
          let w = found_changed p (Runs (forked process child)) here q h held in
          let among : list_any (λ (e : Pid × Held). same_pid e.0 q) here ≡ true = found_among here q w.was w.there in
          true≢false (sym among ∙ ap (λ r. list_any (λ (e : Pid × Held). same_pid e.0 r) here) (sym (pid_same child q (eqb-true child.0 q.0 own))) ∙ absent)

      by_parent : (b : Bool) → same_pid p q ≡ b → same_pid child q ≡ false → held_of (with_changed p (Runs (forked process child)) here) q ≡ Some h → FoundBorn p child process here q h
      by_parent true own apart held =
          let w = found_changed p (Runs (forked process child)) here q h held in
          inr (inl (record { apart = apart; own = own; is = w.is.0 (turned p q true own) }))
      by_parent false other apart held =
          let w = found_changed p (Runs (forked process child)) here q h held in
          inr (inr (record { apart = apart; other = other; there = w.there ∙ ap Some (sym (w.is.1 (turned p q false other))) }))

      by_child : (b : Bool) → same_pid child q ≡ b → ((same_pid child q ≡ true) × (h ≡ Runs (newborn process child))) ⊎ (held_of (with_changed p (Runs (forked process child)) here) q ≡ Some h) → FoundBorn p child process here q h
      by_child true own (inl mine) = inl (record { own = own; is = mine.1 })
      by_child true own (inr held) = absurd (not_child held own)
      by_child false apart (inl mine) = absurd (true≢false (sym mine.0 ∙ apart))
      by_child false apart (inr held) = by_parent (same_pid p q) refl apart held
