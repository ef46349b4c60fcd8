use Rattle.std.proofs.Common.{◌≡◌, ℕ, false, Err, refl}
use Rattle.sys_text.specs.declared.stage.Stage.{Stage}
use Rattle.sys_text.specs.declared.refusal.Rule.TheVariants.{Ended}
use Rattle.sys_text.specs.declared.system.System.{System}
use Rattle.sys_text.specs.Reading.{may_end, last_line, ended}

pub ended_early : (stage : Stage) (system : System) (n k : ℕ) → may_end stage ≡ false → k ≡ last_line n → ended stage system n ≡ Err (k, Ended)
ended_early stage system n k e is = rw (e, is) refl
