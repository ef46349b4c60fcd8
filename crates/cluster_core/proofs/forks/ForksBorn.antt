-- Which forks are still to be made again after a birth: the parent runs, and so does its child.
use Rattle.std.proofs.Common.{◌≡◌, ◌⊎◌, refl, sym, ◌∙◌, ap, subst, List, [], ◌∷◌, ◌++◌, Bool, true, false, eqb-true, inl, inr, Some, true≢false}
use Rattle.std.specs.List.{list_any}
use Rattle.std.proofs.lemmas.Bool.{and_parts, or_parts}
use Rattle.t32_base.specs.declared.process.Pid.{Pid}
use Rattle.proc_state.specs.declared.process.Process.{Process}
use Rattle.bus_msg.specs.Places.{same_pid}
use Rattle.birth_notice.specs.Family.{stands_in}
use Rattle.cert_sched.proofs.FamilyLaws.{Pair}
use Rattle.log_laws.proofs.births.Filters.{one_passes, passes_any}
use Rattle.residents.specs.Held.{Held, Runs, held_of, is_waiting}
use Rattle.residents.specs.Bearing.{with_born}
use Rattle.cluster_core.specs.ForksAgain.{ForksLeft, has_to_bear}
use Rattle.cluster_core.proofs.births.BornHere.{FoundBorn, found_born}
use Rattle.cluster_core.proofs.forks.ForksAgain.{SameForks, WasBearing, bears_by, born_or, same_forks}
use Rattle.residents.proofs.Changing.{pid_same}

-- who is in no birth is in none as parent, and in none as child
stands_apart : (births : List Pair) (new parent child : Pid) → list_any (stands_in new) births ≡ false → list_any (bears_by parent child) births ≡ true → (same_pid new parent ≡ false) × (same_pid new child ≡ false)
stands_apart births new parent child none born =
    let one = one_passes (bears_by parent child) births born in
    let both = and_parts (same_pid (one.pair).0 parent) (same_pid (one.pair).1 child) one.passes in
    let apart = by_test one.pair (stands_in new one.pair) refl (λ is. passes_any (stands_in new) births one.pair one.member is) in
    let halves = or_parts (same_pid new (one.pair).0) (same_pid new (one.pair).1) apart in
    (ap (same_pid new) (sym (pid_same (one.pair).0 parent (eqb-true ((one.pair).0).0 parent.0 both.0))) ∙ halves.0, ap (same_pid new) (sym (pid_same (one.pair).1 child (eqb-true ((one.pair).1).0 child.0 both.1))) ∙ halves.1)
  where
    by_test : (b : Pair) (t : Bool) → stands_in new b ≡ t → (stands_in new b ≡ true → list_any (stands_in new) births ≡ true) → t ≡ false
    by_test b true is among = absurd (true≢false (sym (among is) ∙ none))
    by_test b false is among = refl

-- a process that runs here has forked, and its child runs beside it
module _ (births : List Pair) (here : List (Pid × Held)) (p child : Pid) (process : Process) (there : held_of here p ≡ Some (Runs process)) (absent : list_any (λ (e : Pid × Held). same_pid e.0 child) here ≡ false) (new : list_any (stands_in child) births ≡ false) where
  -- who is not the child was here
  was_bearing : (r : Pid) (h : Held) → same_pid child r ≡ false → FoundBorn p child process here r h → WasBearing here r h
  was_bearing r h other (inl n) = absurd (true≢false (sym n.own ∙ other))
  was_bearing r h other (inr (inl k)) = record {
    was = Runs process;
    there = ap (held_of here) (sym (pid_same p r (eqb-true p.0 r.0 k.own))) ∙ there;
    same = subst (SameForks (Runs process)) (sym k.is) (record { waits = refl; bears = λ c. refl });
  }
  was_bearing r h other (inr (inr o)) = record { was = h; there = o.there; same = same_forks h }

  -- the parent runs, and so does the child
  parent_bears : (r : Pid) (q : Held) (c : Pid) → same_pid p r ≡ true → FoundBorn p child process here r q → has_to_bear c q ≡ false
  parent_bears r q c own (inl n) = ap (has_to_bear c) n.is
  parent_bears r q c own (inr (inl k)) = ap (has_to_bear c) k.is
  parent_bears r q c own (inr (inr o)) = absurd (true≢false (sym own ∙ o.other))

  child_waits : (r : Pid) (h : Held) → same_pid child r ≡ true → FoundBorn p child process here r h → is_waiting h ≡ false
  child_waits r h own (inl n) = ap is_waiting n.is
  child_waits r h own (inr (inl k)) = ap is_waiting k.is
  child_waits r h own (inr (inr o)) = absurd (true≢false (sym own ∙ o.apart))

  pub forks_born : ForksLeft births here → ForksLeft (births ++ (p, child) ∷ []) (with_born p child here)
  forks_born left parent c q h at_parent at_child born =
      by_birth (born_or births (p, child) parent c born) (found_born p child process here there absent parent q at_parent) (found_born p child process here there absent c h at_child)
    where
      by_birth : (list_any (bears_by parent c) births ≡ true) ⊎ ((same_pid p parent ≡ true) × (same_pid child c ≡ true)) → FoundBorn p child process here parent q → FoundBorn p child process here c h → is_waiting h ≡ has_to_bear c q
      by_birth (inr last) fp fc = child_waits c h last.1 fc ∙ sym (parent_bears parent q c last.0 fp)
      by_birth (inl before) fp fc =
          let apart = stands_apart births child parent c new before in
          let a = was_bearing parent q apart.0 fp in
          let b = was_bearing c h apart.1 fc in
          (b.same).waits ∙ left parent c a.was b.was a.there b.there before ∙ sym ((a.same).bears c)
