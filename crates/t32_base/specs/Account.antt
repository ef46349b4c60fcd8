-- The two accounts of the pages of a process, which the page servers keep.
use Rattle.std.specs.Prelude.{ℕ, List, [], Option}
use Rattle.std.specs.Ordering.{nat_cmp}
use Rattle.std.specs.FinMap.{find, put}

-- pages by rising page number: those that came last, and those of the last commit
pub record Account : Type 0 where
  pub now : List (ℕ × List ℕ)
  pub kept : List (ℕ × List ℕ)

abbrev pub no_pages : Account
no_pages = record { now = []; kept = [] }

abbrev pub page_in : List (ℕ × List ℕ) → ℕ → Option (List ℕ)
page_in pages i = find nat_cmp i pages

-- a page came
abbrev pub with_page : ℕ → List ℕ → Account → Account
with_page i page a = record { now = put nat_cmp i page a.now; kept = a.kept }

-- what came is kept
abbrev pub committed : Account → Account
committed a = record { now = a.now; kept = a.now }

-- back to what was kept
abbrev pub reverted : Account → Account
reverted a = record { now = a.kept; kept = a.kept }
