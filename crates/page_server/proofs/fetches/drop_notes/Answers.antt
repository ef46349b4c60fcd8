-- What `retain` keeps is what its closure answers true for.
use Rattle.std.proofs.Common.{ℕ, Bool, rules, not, eqb}
use Rattle.std.proofs.lemmas.Map.Made.{filter_same_pairs}
use Rattle.page_server.proofs.fetches.drop_notes.Goals as goal

pub returns : goal.returns
returns c =
    let kept = filter_same_pairs _ (λ (note : (ℕ × ℕ) × Bool). not (eqb (note.0).0 c.args.pid.0)) _ (λ k v b w f' t. search rules) _ _ c.retain.ensures.filtered in
    cc
