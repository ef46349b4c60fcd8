use Rattle.std.proofs.Common.{◌≡◌, ℕ, zero, suc, ◌-◌, ◌≤◌, ◌∙◌, refl, arith}
use Rattle.plain_kernel.specs.Maps.{pid_of}
use Rattle.residents.specs.ForkingAgain.{NoPart}
use Rattle.residents.proofs.RollingQuantum.{again_more, more_few, more_forks}
use Rattle.residents.proofs.residents.Residents.roll.Goals as goal

-- what is not nothing is one at least
one_more : (n : ℕ) → (n ≡ 0 → ⊥) → 1 ≤ n
one_more zero some = absurd (some refl)
one_more (suc n) some = omega arith

pub parts-init : goal.parts-init
parts-init c = record { again = NoPart; few = omega arith; forks = c.requires.forks; ready = c.requires.ready; same = λ none. refl; last = refl; limits = refl }

pub parts-preserved : goal.parts-preserved
parts-preserved c =
    let some = one_more c.in-Ok.more c.in-Ok.more-test.1 in
    let few = more_few (pid_of c.args.pid) (64 - c.parts.made) c.in-Ok.more c.parts.self.here c.roll_part.new.self.here c.in-Ok.ensures.ok in
    record {
      again = again_more (pid_of c.args.pid) (64 - c.parts.made) c.parts.made c.in-Ok.more c.args.self.now.here c.parts.self.here c.roll_part.new.self.here c.parts.invariant.again c.in-Ok.ensures.ok some;
      few = omega (arith, c.parts.invariant.few, few);
      forks = more_forks (pid_of c.args.pid) (64 - c.parts.made) c.in-Ok.more c.parts.self.here c.roll_part.new.self.here c.in-Ok.ensures.ok some c.parts.invariant.forks;
      ready = c.in-Ok.ensures.ready;
      same = λ none. absurd (omega (arith, none, some));
      last = c.in-Ok.ensures.last ∙ c.parts.invariant.last;
      limits = c.in-Ok.ensures.duty ∙ c.parts.invariant.limits;
    }
