-- The pages of a memory come into an account, one after another.
use Rattle.std.proofs.Common.{◌≡◌, ℕ, suc, ◌+◌, Bool, true, false, cond, eqb, List, [], ap, ◌∙◌, arith}
use Rattle.std.specs.Ordering.{nat_cmp}
use Rattle.std.specs.FinMap.{put}
use Rattle.t32_base.specs.declared.process.Pid.{Pid}
use Rattle.rv_mem.specs.Memory.{page_at}
use Rattle.cert_sched.specs.Account.{Account, pages_from}
use Rattle.page_server.specs.Account.{PagerState, account, Changes, with_page}
use Rattle.page_accounts.proofs.Pages.{page_more}

-- the uncommitted account alone has the pages below a number
abbrev pub below : ℕ → List ℕ → Account
below i bytes = record { now = pages_from 0 i bytes; kept = [] }

from_none : (i : ℕ) → i ≡ 0 + i
from_none i = omega arith

next_is : (i : ℕ) → suc i ≡ i + 1
next_is i = omega arith

one_more : (i : ℕ) (bytes : List ℕ) → with_page i (page_at bytes i) (below i bytes) ≡ below (i + 1) bytes
one_more i bytes = λ j. record { now = (number ∙ page_more 0 i bytes ∙ after) j; kept = [] }
  where
    number : put nat_cmp i (page_at bytes i) (pages_from 0 i bytes) ≡ put nat_cmp (0 + i) (page_at bytes i) (pages_from 0 i bytes)
    number = ap (λ (k : ℕ). put nat_cmp k (page_at bytes i) (pages_from 0 i bytes)) (from_none i)

    after : pages_from 0 (suc i) bytes ≡ pages_from 0 (i + 1) bytes
    after = ap (λ (k : ℕ). pages_from 0 k bytes) (next_is i)

pub page_next : (old mid new : PagerState) (pid : Pid) (bytes : List ℕ) (i : ℕ) → Changes old mid pid (λ _. below i bytes) → Changes mid new pid (with_page i (page_at bytes i)) → Changes old new pid (λ _. below (i + 1) bytes)
page_next old mid new pid bytes i before more p = more p ∙ by_test (eqb p.0 pid.0) (before p)
  where
    by_test : (b : Bool) → account mid p ≡ cond b (below i bytes) (account old p) → cond b (with_page i (page_at bytes i) (account mid p)) (account mid p) ≡ cond b (below (i + 1) bytes) (account old p)
    by_test true is = ap (with_page i (page_at bytes i)) is ∙ one_more i bytes
    by_test false is = is
