use Rattle.std.proofs.Common.{◌∙◌, ◌&&◌, ◌||◌, List, ℕ, eqb, ap, subst}
use Rattle.std.proofs.lemmas.Result.{on_ok_weaker}
use Rattle.log_fetches.specs.Pages.{has_page, is_page_no}
use Rattle.log_cuts.specs.SentPages.{PutsPage}
use Rattle.log_cuts.proofs.Putting.{puts_page}
use Rattle.log_cuts.proofs.sent_pages.SentPages.put.Goals as goal

pub returns : goal.returns
returns c =
    on_ok_weaker c.put_at.result
    (λ puts. subst (λ (old : List (ℕ × List ℕ)). PutsPage old c.put_at.new.by_count.entries c.args.index c.args.at) c.self.view_is
    (puts_page c.self.inside.by_count.entries c.put_at.new.by_count.entries c.args.index c.args.at c.put_page.new.pages puts
    (λ i. c.put_page.ensures i ∙ ap (λ pages. (eqb c.args.index i && is_page_no i) || has_page pages i) c.sent_at-pages.ensures)))
    c.put_at.ensures
