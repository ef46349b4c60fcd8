-- The pages of an account.
use Rattle.std.specs.Prelude.{ℕ, ◌≡◌, ◌≤◌, true, List, None}
use Rattle.std.specs.FinMap.{is_sorted}
use Rattle.std.specs.Ordering.{nat_cmp}
use Rattle.t32_base.specs.Account.{page_in}

-- they stand by rising number, and each number is below n
pub record ArePaged (n : ℕ) (pages : List (ℕ × List ℕ)) : Type 0 where
  pub rising : is_sorted nat_cmp pages ≡ true
  pub within : (i : ℕ) → n ≤ i → page_in pages i ≡ None
