-- What a step and a fork leave of the births of a process, and how few steps a fork leaves to the parent and gives to the child.
use Rattle.std.proofs.Common.{◌≡◌, ℕ, ◌+◌, ◌-◌, ◌*◌, ◌/◌, ◌<◌, ◌≤◌, refl, ap, subst, arith}
use Rattle.std.proofs.lemmas.Nat.{mul-le}
use Rattle.std.proofs.lemmas.List.Sums.{count_by-le-length}
use Rattle.t32_base.specs.declared.process.Pid.{Pid}
use Rattle.t32_base.specs.Small.{is_unshut}
use Rattle.proc_state.specs.State.{ProcState}
use Rattle.sys_calls.specs.Small.{weight}
use Rattle.sys_calls.specs.declared.steps.Emission.{Emission}
use Rattle.sys_calls.specs.Calls.{Silent, Emits}
use Rattle.sys_calls.specs.Next.{next_step}
use Rattle.sys_calls.specs.Fork.{CanFork, child_births, fork_child, fork_parent}
use Rattle.sys_calls.proofs.Bearing.{Bears, KeepsBirths, next_bears}
use Rattle.log_laws.proofs.pages.StepSizes.{Keeps, SameSize, next_keeps}
use Rattle.checkpoint_laws.specs.remaining.Load.{left_of_child, left_of_children}

-- ---- births

-- a child costs no more where no more instructions are left
child_most : (pages pages' left left' : ℕ) → pages' ≡ pages → left' ≤ left → 2 + pages' * (left' + 34) ≤ 2 + pages * (left + 34)
child_most pages pages' left left' same fewer = let most = mul-le pages' (left' + 34) pages (left + 34) (omega (arith, same)) (omega (arith, fewer)) in omega (arith, most)

births_kept : (s t : ProcState) → KeepsBirths s t → SameSize s t → left_of_children t.small + 0 ≤ left_of_children s.small
births_kept s t kept same =
    let cost = child_most (s.small).pages (t.small).pages (s.small).left (t.small).left same.pages kept.1 in
    let most : left_of_children t.small ≤ left_of_children s.small = mul-le (t.small).births (left_of_child t.small) (s.small).births (left_of_child s.small) (omega (arith, kept.0)) cost in
    omega (arith, most)

pub silent_births : (s t : ProcState) → next_step s ≡ Silent t → left_of_children t.small + 0 ≤ left_of_children s.small
silent_births s t is = births_kept s t (subst (Bears s) is (next_bears s)) (subst (Keeps s) is (next_keeps s))

pub emits_births : (s t : ProcState) (e : Emission) → next_step s ≡ Emits e t → left_of_children t.small + 0 ≤ left_of_children s.small
emits_births s t e is = births_kept s t (subst (Bears s) is (next_bears s)) (subst (Keeps s) is (next_keeps s))

-- of so many births one is used up, and the two share the rest
shared : (births kept given cost less : ℕ) → births ≡ 1 + given + kept → less ≤ cost → kept * less + given * less + cost ≤ births * cost
shared births kept given cost less shares fewer =
    let parent = mul-le kept less kept cost (omega arith) fewer in
    let child = mul-le given less given cost (omega arith) fewer in
    let whole : births * cost ≡ (1 + given + kept) * cost = ap (λ n. n * cost) shares in
    omega (arith, whole, parent, child)

-- one is used up, and the rest is parted
pub halved : (births : ℕ) → 0 < births → births ≡ 1 + (births - 1) / 2 + (births - 1 - (births - 1) / 2)
halved births some = omega (arith, some)

-- a fork pays for the child
pub fork_pays : (s : ProcState) (child : Pid) → CanFork s → left_of_children (fork_parent s child).small + left_of_children (fork_child s child).small + left_of_child s.small ≤ left_of_children s.small
fork_pays s child can =
    shared (s.small).births ((s.small).births - 1 - child_births (s.small).births) (child_births (s.small).births) (left_of_child s.small) (2 + (s.small).pages * ((s.small).left - 1 + 34))
    (halved (s.small).births can.births) (child_most (s.small).pages (s.small).pages (s.small).left ((s.small).left - 1) refl (omega arith))

-- ---- steps

-- the child no more than its share
pub child_few : (s : ProcState) (child : Pid) → CanFork s → weight (fork_child s child).small + 1 ≤ (s.small).left + 34
child_few s child can =
    let few = count_by-le-length is_unshut ((fork_child s child).small).ends in
    omega (arith, few, can.some)
