-- One record may come where there is none.
use Rattle.std.proofs.Common.{◌≡◌, [], ◌∷◌, refl, None}
use Rattle.std.proofs.lemmas.List.Elements.{All-nil, All-cons}
use Rattle.t32_base.specs.declared.letter.BackRec.{BackRec}
use Rattle.proc_state.specs.Mail.{RiseTo}
use Rattle.backup_records.specs.Records.{CanBring, record_in}

pub one_comes : (rec : BackRec) → RiseTo 0 rec.saved rec.next → CanBring (rec ∷ []) []
one_comes rec rises = record {
  new = All-cons (λ (r : BackRec). record_in [] r.pid ≡ None) rec [] refl (All-nil (λ (r : BackRec). record_in [] r.pid ≡ None));
  numbered = All-cons (λ (r : BackRec). RiseTo 0 r.saved r.next) rec [] rises (All-nil (λ (r : BackRec). RiseTo 0 r.saved r.next));
}
