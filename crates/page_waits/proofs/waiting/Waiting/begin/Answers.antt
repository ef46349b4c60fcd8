use Rattle.std.proofs.Common.{◌≡◌, ℕ, Bool, false, List, Option, ap, ◌∙◌}
use Rattle.std.specs.Prelude.{replicate}
use Rattle.page_waits.specs.Kept.{pages_come}
use Rattle.page_waits.specs.Waiting.{page_count}
use Rattle.page_waits.proofs.Come.{none_come}
use Rattle.page_waits.proofs.waiting.Waiting.begin.Goals as goal

pub returns : goal.returns
returns c =
    let pages = page_count c.args.kept in
    let bytes = c.in-Ok.ram.bytes in
    let marks : c.in_ok-here.here.items ≡ replicate pages false = c.in_ok-here.ensures.items_if_clones_equal (λ y e. e) ∙ ap (λ n. replicate n false) (c.from.ensures ∙ c.pages_of-pages.ensures) in
    ap (λ (come : List (Option (List ℕ))). record { kept = c.args.kept; asked = 0; come = come }) (ap (λ (marks : List Bool). pages_come marks bytes) marks ∙ none_come pages bytes)
