use Rattle.std.proofs.Common.{ℕ, List, ◌≡◌, ◌∙◌, ap, sym, not, false, ◌||◌}
use Rattle.std.specs.List.{list_all, range_with_len}
use Rattle.log_fetches.specs.declared.kept.Kept.{Kept}
use Rattle.log_fetches.specs.Pages.{has_page}
use Rattle.log_fetches.specs.Kept.{kept_in}
use Rattle.log_fetches.proofs.Coming.{all_have_come}
use Rattle.log_fetches.proofs.fetches.Fetches.all_come.Goals as goal

pub returns-else-not-kept : goal.returns-else-not-kept
returns-else-not-kept c system log is count =
    let pid = c.args.pid in
    let kept : c.kept_of-kept.result ≡ kept_in c.args.self.now pid = c.kept_of-kept.ensures ∙ ap (λ (es : List (ℕ × Kept)). kept_in es pid) c.self.view_is in
    let moved : not (kept_in c.args.self.now pid).moved ≡ false = ap (λ (k : Kept). not k.moved) (sym kept) ∙ ap not c.if-not-kept.false in
    c.has_first.ensures ∙ ap (λ (k : Kept). list_all (has_page k.come) (range_with_len 0 c.args.pages)) kept
    ∙ sym (ap (λ b. b || list_all (has_page (kept_in c.args.self.now pid).come) (range_with_len 0 c.args.pages)) moved)
    ∙ all_have_come system log c.args.self.now pid c.args.pages c.requires is count
