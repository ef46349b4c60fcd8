-- Between silent steps no signal can be taken: instructions leave what a take asks for.
use Rattle.std.proofs.Common.{◌≡◌, ℕ, zero, suc, ◌+◌, ◌-◌, ◌≤◌, inl, inr, refl, sym, ◌∙◌, ap, subst, arith, Bool, false, List, Option, Some, None, option_and_then}
use Rattle.std.proofs.lemmas.Bool.{cases_lt}
use Rattle.std.proofs.lemmas.Option.{same_Some}
use Rattle.t32_base.specs.declared.process.Status.TheVariants.{Live}
use Rattle.rv_cpu.specs.Run.{Machine, one, ran}
use Rattle.proc_state.specs.State.{ProcState, can_take}
use Rattle.sys_calls.specs.Next.{silent_of, next_step, silently}
use Rattle.sys_calls.specs.Steps.{StaysUntaken}
use Rattle.sys_calls.specs.Small.{after_instructions}
use Rattle.sys_calls.proofs.Running.{of_process, ran_silently, silently-marked}

-- one silent step more
pub untaken_by_last : (n : ℕ) (s t : ProcState) → StaysUntaken n s → silently (suc n) s ≡ Some t → (can_take s ≡ false → can_take t ≡ false) → StaysUntaken (suc n) s
untaken_by_last n s t before last after none m q within made = elim (cases_lt m (suc n)) [
  | inl below ↦ before none m q (omega (arith, below)) made
  | inr above ↦
      let at : m ≡ suc n = omega (arith, within, above) in
      let same : t ≡ q = same_Some t q (sym last ∙ ap (λ k. silently k s) (sym at) ∙ made) in
      subst (λ r. can_take r ≡ false) same (after none)
]

pub untaken_none : (s : ProcState) → StaysUntaken 0 s
unfolding silently
untaken_none s none m q within made =
    let at : m ≡ 0 = omega (arith, within) in
    let same : s ≡ q = same_Some s q (ap (λ k. silently k s) (sym at) ∙ made) in
    subst (λ r. can_take r ≡ false) same none

again : (n : ℕ) (o : Option ProcState) → option_and_then (λ q. silent_of (next_step q)) (option_and_then (silently n) o) ≡ option_and_then (silently (suc n)) o
unfolding silently
again n None = refl
again n (Some s) = refl

none_again : (o : Option ProcState) → o ≡ option_and_then (silently 0) o
unfolding silently
none_again None = refl
none_again (Some s) = refl

-- so many, and then so many more
pub joined : (a b : ℕ) (s : ProcState) → silently (a + b) s ≡ option_and_then (silently b) (silently a s)
unfolding silently
joined a zero s = let e : a + 0 ≡ a = omega arith in ap (λ (k : ℕ). silently k s) e ∙ none_again (silently a s)
joined a (suc b) s =
    let e : a + suc b ≡ suc (a + b) = omega arith in
    ap (λ (k : ℕ). silently k s) e ∙ ap (option_and_then (λ q. silent_of (next_step q))) (joined a b s) ∙ again b (silently a s)

pub untaken_more : (a b : ℕ) (s q : ProcState) → silently a s ≡ Some q → StaysUntaken a s → StaysUntaken b q → StaysUntaken (a + b) s
untaken_more a b s q made first then none m t within to = elim (cases_lt m a) [
  | inl below ↦ first none m t (omega (arith, below)) to
  | inr above ↦
      let at : a + (m - a) ≡ m = omega (arith, above) in
      then (first none a q (omega arith) made) (m - a) t (omega (arith, within, above))
      (sym (joined a (m - a) s ∙ ap (option_and_then (silently (m - a))) made) ∙ ap (λ k. silently k s) at ∙ to)
]

-- fewer instructions
before_last : (n : ℕ) (x y : Machine) → ran (suc n) x ≡ Some y → (z : Machine) × (ran n x ≡ Some z)
unfolding ran
before_last n x y is = by_case (ran n x) refl is
  where
    by_case : (o : Option Machine) → ran n x ≡ o → option_and_then one o ≡ Some y → (z : Machine) × (ran n x ≡ Some z)
    by_case None from e = cc
    by_case (Some z) from e = (z, from)

pub untaken_ran : (n : ℕ) (p : ProcState) (dirty : List Bool) (m : Machine) → (p.small).status ≡ Live → n ≤ (p.small).left → ran n (of_process p dirty) ≡ Some m → StaysUntaken n p
untaken_ran zero p dirty m live some made = untaken_none p
untaken_ran (suc n) p dirty m live some made =
    let earlier = before_last n (of_process p dirty) m made in
    untaken_by_last n p (record p { small = after_instructions (suc n) p.small m.regs; memory = m.bytes })
    (untaken_ran n p dirty earlier.0 live (omega (arith, some)) earlier.1)
    (silently-marked (suc n) (record { state = p; marks = dirty }) (record { state = record p { small = after_instructions (suc n) p.small m.regs; memory = m.bytes }; marks = m.dirty }) (ran_silently (suc n) p dirty m live some made))
    (λ none. none)
