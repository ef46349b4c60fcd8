use Rattle.std.proofs.Common.{◌≡◌, ℕ, zero, suc, Bool, eqb, cond, List, [], ◌∷◌, get_or, slice_set, refl, sym, ap, ◌∙◌}
use Rattle.std.proofs.Math.Dec.{eqb-suc-zero}
use Rattle.t32_base.specs.Registers.{Registers}
use Rattle.rv_cpu.specs.Exec.{set_reg}
use Rattle.rv_cpu.proofs.registers.write.Goals as goal

-- The second write undoes a write to register 0, and changes nothing else.
zero_stays : (x : List ℕ) (rd value : ℕ) → get_or x 0 0 ≡ 0 → slice_set (slice_set x rd value) 0 0 ≡ cond (eqb rd 0) x (slice_set x rd value)
zero_stays [] zero value is = refl
zero_stays [] (suc rd) value is = ap (λ (t : Bool). cond {A = List ℕ} t [] []) (sym (eqb-suc-zero rd))
zero_stays (a ∷ x) zero value is = ap (λ n. n ∷ x) (sym is)
zero_stays (a ∷ x) (suc rd) value is =
    ap (λ n. n ∷ slice_set x rd value) (sym is)
    ∙ ap (λ (t : Bool). cond t (a ∷ x) (a ∷ slice_set x rd value)) (sym (eqb-suc-zero rd))

first_is_zero : (x : List ℕ) → get_or (slice_set x 0 0) 0 0 ≡ 0
first_is_zero [] = refl
first_is_zero (a ∷ x) = refl

pub invariant_of-regs : goal.invariant_of-regs
invariant_of-regs c = first_is_zero (slice_set c.regs.inside.x c.from.result c.args.value)

pub returns : goal.returns
returns c =
    let same : slice_set (slice_set c.regs.inside.x c.from.result c.args.value) 0 0 ≡ cond (eqb c.from.result 0) c.regs.inside.x (slice_set c.regs.inside.x c.from.result c.args.value) =
    zero_stays c.regs.inside.x c.from.result c.args.value c.regs.invariant in
    ap (λ (x : List ℕ). record { x = x; pc = c.regs.inside.pc }) same
    ∙ ap (λ (r : Registers). set_reg r c.from.result c.args.value) c.regs.view_is
    ∙ ap (λ (i : ℕ). set_reg c.args.regs.now i c.args.value) c.from.ensures
