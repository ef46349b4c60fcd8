-- Small accounts and lists, by which the definitions can be compared with their comments.
use Rattle.std.proofs.Common.{◌≡◌, ℕ, true, false, List, [], ◌∷◌, None, Some, refl}
use Rattle.t32_base.specs.declared.process.Pid.{Pid}
use Rattle.t32_base.specs.Streams.{one_more}
use Rattle.page_server.specs.Disk.{written, Fails}
use Rattle.page_server.specs.Account.{Account, no_pages, page_in, with_page, committed, reverted, fetches_without, fetches_but}

-- Page 3 was committed as p and put again as q, and page 1 was put: the committed account has p alone.
abbrev changed : List ℕ → List ℕ → List ℕ → Account
changed p q r = with_page 1 r (with_page 3 q (committed (with_page 3 p no_pages)))

put_and_kept : (p q r : List ℕ) → changed p q r ≡ record { now = (1, r) ∷ (3, q) ∷ []; kept = (3, p) ∷ [] }
put_and_kept p q r = refl

-- A revert brings p back, and page 1 is in neither account.
brought_back : (p q r : List ℕ) → reverted (changed p q r) ≡ record { now = (3, p) ∷ []; kept = (3, p) ∷ [] }
brought_back p q r = refl

-- A commit keeps both.
both_kept : (p q r : List ℕ) → page_in (committed (changed p q r)).kept 3 ≡ Some q
both_kept p q r = refl

no_such_page : (p q r : List ℕ) → page_in (changed p q r).kept 1 ≡ None
no_such_page p q r = refl

-- A page is written to its slot and to no other.
written_there : (p : List ℕ) → written (λ _. None) 7 p 7 ≡ Some p
written_there p = refl

not_elsewhere : (p : List ℕ) → written (λ _. None) 7 p 8 ≡ None
not_elsewhere p = refl

-- A count stays at the greatest u64.
counted : one_more 4 ≡ 5
counted = refl

at_the_end : one_more 18446744073709551615 ≡ 18446744073709551615
at_the_end = refl

-- Of the calls 1 and 3, which fail, the third is one.
listed : Fails (Some (1 ∷ 3 ∷ [])) 3 true
listed = refl

not_listed : Fails (Some (1 ∷ 3 ∷ [])) 2 false
not_listed = refl

abbrev pid : ℕ → Pid
pid n = record { 0 = n }

-- Fetches of two processes: those of one go, or that of one page.
of_the_other : fetches_without (pid 16) ((pid 16, 3) ∷ (pid 17, 3) ∷ (pid 16, 1) ∷ []) ≡ (pid 17, 3) ∷ []
of_the_other = refl

of_other_pages : fetches_but (pid 16) 3 ((pid 16, 3) ∷ (pid 17, 3) ∷ (pid 16, 1) ∷ []) ≡ (pid 17, 3) ∷ (pid 16, 1) ∷ []
of_other_pages = refl
