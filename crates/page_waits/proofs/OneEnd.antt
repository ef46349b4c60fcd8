-- A process runs out after one number of steps alone, which is the number that is ahead of it.
use Rattle.std.proofs.Common.{◌≡◌, ℕ, zero, suc, List, [], ◌∷◌, refl, sym, ap, ◌∙◌, true≢false}
use Rattle.t32_base.specs.declared.process.Pid.{Pid}
use Rattle.t32_base.specs.declared.process.Counts.{Counts}
use Rattle.proc_state.specs.State.{ProcState}
use Rattle.sys_calls.specs.declared.steps.Emission.TheVariants.{Mail as Sent, Exit as Ended}
use Rattle.sys_calls.specs.Calls.{Next, Silent, Blocked, Forks, Emits, Over}
use Rattle.sys_calls.specs.Next.{next_step}
use Rattle.write_count.specs.Counting.{lowered}
use Rattle.roll_forward.specs.RunsOut.{RunsOn, RunsOut}
use Rattle.roll_forward.specs.Rolling.{CanRoll, ahead_of}
use Rattle.roll_forward.proofs.AheadLaws.{After, runs_out_ahead}

one_on : (n m : ℕ) (s : ProcState) (counts : Counts) → ((t : ProcState) (left : Counts) (rest : List Pid) → RunsOut t left rest n → RunsOut t left rest m → n ≡ m)
    → (next : Next) (births : List Pid) → RunsOn s counts (After n) next births → RunsOn s counts (After m) next births → suc n ≡ suc m
one_on n m s counts same (Silent t) births a b = ap suc (same t counts births a b)
one_on n m s counts same Blocked births a b = absurd a
one_on n m s counts same Forks [] a b = absurd a
one_on n m s counts same Forks (child ∷ rest) a b = ap suc (same _ counts rest a b)
one_on n m s counts same (Emits (Sent letter) t) births a b = ap suc (same t (lowered counts letter) births a.1 b.1)
one_on n m s counts same (Emits (Ended end) t) births a b = absurd a
one_on n m s counts same Over births a b = absurd a

one_end : (n m : ℕ) (s : ProcState) (counts : Counts) (births : List Pid) → RunsOut s counts births n → RunsOut s counts births m → n ≡ m
one_end zero zero s counts births a b = refl
one_end zero (suc m) s counts births a b = absurd (true≢false (sym a ∙ b.0))
one_end (suc n) zero s counts births a b = absurd (true≢false (sym b ∙ a.0))
one_end (suc n) (suc m) s counts births a b = one_on n m s counts (λ t left rest x y. one_end n m t left rest x y) (next_step s) births a.1 b.1

pub ahead_is : (n : ℕ) (s : ProcState) (counts : Counts) (births : List Pid) → RunsOut s counts births n → CanRoll s counts births → n ≡ ahead_of s counts births
ahead_is n s counts births runs can = one_end n (ahead_of s counts births) s counts births runs (runs_out_ahead s counts births can)
