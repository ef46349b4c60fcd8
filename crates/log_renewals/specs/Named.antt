-- Lines that none may have.
use Rattle.std.specs.Prelude.{ℕ, None, ⊤}
use Rattle.cert_sched.specs.Legal.{MayStand}
use Rattle.entry_lines.specs.declared.told.ToldBy.{ToldBy}
use Rattle.entry_lines.specs.declared.told.ToldWhat.{ToldWhat}
use Rattle.log_audit.specs.Decides.{Decides}

-- whatever is kept, no entry with the line may follow
abbrev pub AnswersNobody : ℕ → ToldBy → ToldWhat → Type 0
AnswersNobody place by w = Decides MayStand (λ system log. ⊤) (record { place = place; by = by; what = w }) None
