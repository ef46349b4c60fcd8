use Rattle.std.proofs.Common.{◌≡◌, ◌||◌, ◌&&◌, ◌*◌, ◌%◌, ◌^◌, ℕ, eqb, get_or, set, subst, sym}
use Rattle.std.specs.Prelude.{bit_or, nat_lt}
use Rattle.log_fetches.specs.Pages.{has_page}
use Rattle.log_fetches.proofs.Bits.{put_has}
use Rattle.log_fetches.proofs.pages.put_page.Goals as goal

pub returns-then-index-lt256 : goal.returns-then-index-lt256
returns-then-index-lt256 c i =
    let pages = c.args.pages.now in
    subst (λ (word : ℕ). has_page (set pages word (bit_or (get_or pages word 0) (1 * 2 ^ (c.args.index % 64) % 18446744073709551616))) i ≡ ((eqb c.args.index i && nat_lt i 256) || has_page pages i))
    (sym c.from.ensures) (put_has pages c.args.index c.told-pages c.if-index-lt256.true i)
