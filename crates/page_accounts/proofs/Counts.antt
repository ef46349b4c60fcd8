-- What the disk counts after one put more.
use Rattle.std.proofs.Common.{◌≡◌, ℕ, ◌+◌, ◌-◌, ◌^◌, ◌≤◌, ◌<◌, refl, sym, ◌∙◌, subst, arith, List, [], ◌∷◌, Bool, true, false, Option, Some, None, Result, Ok, Err, true≢false, eq-eqb}
use Rattle.std.specs.Prelude.{min, nat_le, ◌==◌}
use Rattle.std.specs.List.{list_all, list_any}
use Rattle.std.specs.Option.{IfSome}
use Rattle.std.proofs.lemmas.Bool.{and_parts, and_from, or_parts}
use Rattle.std.proofs.lemmas.Bool.Decides.{nat_tests}
use Rattle.t32_base.specs.Streams.{one_more}
use Rattle.page_server.specs.declared.disk.DiskRefused.{DiskRefused}
use Rattle.page_server.specs.declared.disk.DiskRefused.TheVariants.{Fault, NoMemory}
use Rattle.page_server.specs.Disk.{Counts, CountsAfterPut, Fails, Passed}
use Rattle.page_accounts.specs.Booting.{CallsMade, CountsAfterPuts, FewerMade, IsAhead}

-- ---- counts, with any cap

more_capped : (cap x y z m n : ℕ) → min (x + m) cap ≤ y → min (y + n) cap ≤ z → min (x + (m + n)) cap ≤ z
more_capped cap x y z m n h g = omega (arith, h, g)

same_capped : (cap x : ℕ) → min (x + 0) cap ≤ x
same_capped cap x = omega arith

not_more : (x y z m n : ℕ) → y ≤ x + m → z ≤ y + n → z ≤ x + (m + n)
not_more x y z m n h g = omega (arith, h, g)

one_capped : (cap x y : ℕ) → y ≡ min (x + 1) cap → (min (x + 1) cap ≤ y) × (y ≤ x + 1)
one_capped cap x y h = (omega (arith, h), omega (arith, h))

-- ---- the calls that fail

-- none of these numbers is the call's, so each is behind it that was not before it
all_ahead : (made new : ℕ) (failing : List ℕ) → new ≡ one_more made → list_any (λ n. n == made) failing ≡ false → list_all (λ n. nat_le made n) failing ≡ true → list_all (λ n. nat_le new n) failing ≡ true
all_ahead made new [] next none all = refl
all_ahead made new (n ∷ failing) next none all =
    let parts = and_parts (nat_le made n) (list_all (λ n. nat_le made n) failing) all in
    let others = or_parts (n == made) (list_any (λ n. n == made) failing) none in
    and_from (nat_le new n) (list_all (λ n. nat_le new n) failing) (behind (n == made) refl others.0 parts.0) (all_ahead made new failing next others.1 parts.1)
  where
    behind : (b : Bool) → (n == made) ≡ b → b ≡ false → nat_le made n ≡ true → nat_le new n ≡ true
    behind b is apart before =
        let other : n ≡ made → ⊥ = λ same. true≢false (sym (eq-eqb n made same) ∙ is ∙ apart) in
        grind (arith, nat_tests)

-- a call that did not fail leaves those that fail to come
pub ahead_passed : (x y : Counts) → Passed x y → IsAhead x → IsAhead y
ahead_passed x y h ahead = (fits (2 ^ 64 - 1) x.calls y.calls h.calls, by_failing x.failing refl)
  where
    fits : (cap x y : ℕ) → y ≡ min (x + 1) cap → y < cap + 1
    fits cap x y h = omega (arith, h)

    by_failing : (o : Option (List ℕ)) → x.failing ≡ o → IfSome y.failing (λ failing. list_all (λ n. nat_le y.calls n) failing ≡ true)
    by_failing None is = subst (λ (o : Option (List ℕ)). IfSome o (λ failing. list_all (λ n. nat_le y.calls n) failing ≡ true)) (sym (h.failing ∙ is)) tt
    by_failing (Some failing) is =
        let none : list_any (λ n. n == x.calls) failing ≡ false = subst (λ (o : Option (List ℕ)). Fails o x.calls false) is h.listed in
        let before : list_all (λ n. nat_le x.calls n) failing ≡ true = subst (λ (o : Option (List ℕ)). IfSome o (λ failing. list_all (λ n. nat_le x.calls n) failing ≡ true)) is ahead.1 in
        subst (λ (o : Option (List ℕ)). IfSome o (λ failing. list_all (λ n. nat_le y.calls n) failing ≡ true)) (sym (h.failing ∙ is)) (all_ahead x.calls y.calls failing h.calls none before)

-- ---- calls one after another

-- no call was made yet
pub none_made : (x : Counts) → CallsMade 0 x x
none_made x = record { least = same_capped (2 ^ 64 - 1) x.calls; most = omega arith; faults = omega arith; failing = refl; ahead = λ ahead. ahead }

more_made : (m n : ℕ) (x y z : Counts) → CallsMade m x y → CallsMade n y z → CallsMade (m + n) x z
more_made m n x y z h g = record {
  least = more_capped (2 ^ 64 - 1) x.calls y.calls z.calls m n h.least g.least;
  most = not_more x.calls y.calls z.calls m n h.most g.most;
  faults = omega (arith, h.faults, g.faults);
  failing = g.failing ∙ h.failing;
  ahead = λ ahead. g.ahead (h.ahead ahead);
}

later_fewer : (m n : ℕ) (x y z : Counts) → CallsMade m x y → FewerMade n y z → FewerMade (m + n) x z
later_fewer m n x y z h f = record { made = m + f.made; fewer = omega (arith, f.fewer); so_many = more_made m f.made x y z h f.so_many }

-- more puts behind some that were carried out
pub then_puts : (m n : ℕ) (x y z : Counts) (result : Result (Unit {0}) DiskRefused) → CallsMade m x y → CountsAfterPuts n y z result → CountsAfterPuts (m + n) x z result
then_puts m n x y z (Ok done) h g = more_made m n x y z h g
then_puts m n x y z (Err (Fault fault)) h g = record { before = g.before; made = later_fewer m n x y g.before h g.made; failed = g.failed }
then_puts m n x y z (Err NoMemory) h g = later_fewer m n x y z h g

-- one put is one of several
pub one_put : (x y : Counts) (result : Result (Unit {0}) DiskRefused) → CountsAfterPut x y result → CountsAfterPuts 1 x y result
one_put x y (Ok done) h =
    let one = one_capped (2 ^ 64 - 1) x.calls y.calls h.calls in
    record { least = one.0; most = one.1; faults = h.faults; failing = h.failing; ahead = ahead_passed x y h }
one_put x y (Err (Fault fault)) h = record { before = x; made = record { made = 0; fewer = omega arith; so_many = none_made x }; failed = h }
one_put x y (Err NoMemory) h = record {
  made = 0;
  fewer = omega arith;
  so_many = record { least = same_again (2 ^ 64 - 1) x.calls y.calls h.calls; most = omega (arith, h.calls); faults = h.faults; failing = h.failing; ahead = ahead_same };
}
  where
    same_again : (cap x y : ℕ) → y ≡ x → min (x + 0) cap ≤ y
    same_again cap x y h = omega (arith, h)

    ahead_same : IsAhead x → IsAhead y
    ahead_same ahead = (subst (λ (made : ℕ). made < 2 ^ 64) (sym h.calls) ahead.0, subst (λ (o : Option (List ℕ)). IfSome o (λ failing. list_all (λ n. nat_le y.calls n) failing ≡ true)) (sym h.failing) (subst (λ (made : ℕ). IfSome x.failing (λ failing. list_all (λ n. nat_le made n) failing ≡ true)) (sym h.calls) ahead.1))

-- what is fewer than some is fewer than more
more_were_due : (m n : ℕ) (x y : Counts) → m ≤ n → FewerMade m x y → FewerMade n x y
more_were_due m n x y within f = record { made = f.made; fewer = omega (arith, within, f.fewer); so_many = f.so_many }

pub refused_among : (m n : ℕ) (x y : Counts) (refused : DiskRefused) → m ≤ n → CountsAfterPuts m x y (Err refused) → CountsAfterPuts n x y (Err refused)
refused_among m n x y (Fault fault) within h = record { before = h.before; made = more_were_due m n x h.before within h.made; failed = h.failed }
refused_among m n x y NoMemory within h = more_were_due m n x y within h
