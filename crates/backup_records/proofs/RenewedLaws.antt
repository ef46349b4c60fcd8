-- Records that come with a new backup, and go again where memory is refused for one of them: all are then as they were.
use Rattle.std.proofs.Common.{◌≡◌, ℕ, zero, suc, Bool, true, false, cond, not, ◌||◌, eqb-true, eq-eqb, List, [], ◌∷◌, refl, sym, ap, ◌∙◌, take, All, None}
use Rattle.std.specs.Prelude.{filter, nat_lt, ⊤}
use Rattle.std.specs.List.{list_any}
use Rattle.std.proofs.lemmas.Bool.{or_left, or_right}
use Rattle.std.proofs.lemmas.List.Elements.{All-head, All-tail}
use Rattle.t32_base.specs.declared.process.Pid.{Pid}
use Rattle.t32_base.specs.declared.letter.BackRec.{BackRec}
use Rattle.t32_base.proofs.Facts.{same_pid_of}
use Rattle.bus_msg.specs.Places.{same_pid}
use Rattle.backup_records.specs.Records.{record_in, with_record, with_records, without_each}
use Rattle.backup_records.proofs.BirthLaws.{none_goes}

-- a record of the process is among these
abbrev named : List BackRec → Pid → Bool
named gone p = list_any (λ (r : BackRec). same_pid p r.pid) gone

-- the records of the other processes
abbrev others : List BackRec → List BackRec → List BackRec
others gone recs = filter (λ (s : BackRec). not (named gone s.pid)) recs

-- the records without that of one process
abbrev without : BackRec → List BackRec → List BackRec
without r recs = filter (λ (s : BackRec). not (same_pid s.pid r.pid)) recs

-- ---- those that go

all_stay : (recs : List BackRec) → others [] recs ≡ recs
all_stay [] = refl
all_stay (s ∷ rest) = ap (λ rs. s ∷ rs) (all_stay rest)

two_go : (r : BackRec) (gone recs : List BackRec) → others gone (without r recs) ≡ others (r ∷ gone) recs
two_go r gone [] = refl
two_go r gone (s ∷ rest) = by_test (same_pid s.pid r.pid) (two_go r gone rest)
  where
    by_test : (b : Bool) → others gone (without r rest) ≡ others (r ∷ gone) rest
        → others gone (cond (not b) (s ∷ without r rest) (without r rest)) ≡ cond (not (b || named gone s.pid)) (s ∷ others (r ∷ gone) rest) (others (r ∷ gone) rest)
    by_test true more = more
    by_test false more = ap (λ rs. cond (not (named gone s.pid)) (s ∷ rs) rs) more

-- one after the other, they leave those of the others
each_goes : (gone recs : List BackRec) → without_each gone recs ≡ others gone recs
each_goes [] recs = sym (all_stay recs)
each_goes (r ∷ gone) recs = each_goes gone (without r recs) ∙ two_go r gone recs

-- where there was none of them, all stay
none_go : (gone recs : List BackRec) → All (λ (r : BackRec). record_in recs r.pid ≡ None) gone → without_each gone recs ≡ recs
none_go [] recs new = refl
none_go (r ∷ gone) recs new =
    ap (without_each gone) (none_goes r.pid recs (All-head (λ (s : BackRec). record_in recs s.pid ≡ None) r gone new))
    ∙ none_go gone recs (All-tail (λ (s : BackRec). record_in recs s.pid ≡ None) r gone new)

-- ---- those that come

-- one that comes is not among those of the others
one_comes : (gone : List BackRec) (r : BackRec) (recs : List BackRec) → named gone r.pid ≡ true → others gone (with_record r recs) ≡ others gone recs
one_comes gone r [] is = ap (λ b. cond (not b) (r ∷ []) []) is
one_comes gone r (s ∷ rest) is = by_tests (nat_lt (r.pid).0 (s.pid).0) (same_pid s.pid r.pid) refl (one_comes gone r rest is)
  where
    dropped : (t : BackRec) → named gone t.pid ≡ true → (recs : List BackRec) → others gone (t ∷ recs) ≡ others gone recs
    dropped t there recs = ap (λ b. cond (not b) (t ∷ others gone recs) (others gone recs)) there

    by_tests : (below same : Bool) → same_pid s.pid r.pid ≡ same → others gone (with_record r rest) ≡ others gone rest
        → others gone (cond below (r ∷ s ∷ rest) (cond same (r ∷ rest) (s ∷ with_record r rest))) ≡ others gone (s ∷ rest)
    by_tests true same at more = dropped r is (s ∷ rest)
    by_tests false true at more = dropped r is rest ∙ sym (dropped s (ap (named gone) (same_pid_of s.pid r.pid (eqb-true (s.pid).0 (r.pid).0 at)) ∙ is) rest)
    by_tests false false at more = ap (λ rs. cond (not (named gone s.pid)) (s ∷ rs) rs) more

abbrev AllNamed : List BackRec → List BackRec → Type 0
AllNamed gone [] = ⊤
AllNamed gone (r ∷ rs) = (named gone r.pid ≡ true) × AllNamed gone rs

named_more : (s : BackRec) (gone more : List BackRec) → AllNamed gone more → AllNamed (s ∷ gone) more
named_more s gone [] all = tt
named_more s gone (r ∷ rs) all = (or_right (same_pid r.pid s.pid) (named gone r.pid) all.0, named_more s gone rs all.1)

all_named : (recs : List BackRec) → AllNamed recs recs
all_named [] = tt
all_named (r ∷ rs) = (or_left (same_pid r.pid r.pid) (named rs r.pid) (eq-eqb (r.pid).0 (r.pid).0 refl), named_more r rs rs (all_named rs))

-- nor are the first of them
first_come : (gone : List BackRec) (k : ℕ) (more recs : List BackRec) → AllNamed gone more → others gone (with_records (take k more) recs) ≡ others gone recs
first_come gone zero more recs all = refl
first_come gone (suc k) [] recs all = refl
first_come gone (suc k) (r ∷ more) recs all = first_come gone k more (with_record r recs) all.1 ∙ one_comes gone r recs all.0

-- the first of the records that come, where there was none of their processes, leave all as they were when they go
pub come_and_go : (more recs : List BackRec) (k : ℕ) → All (λ (r : BackRec). record_in recs r.pid ≡ None) more → without_each more (with_records (take k more) recs) ≡ recs
come_and_go more recs k new = each_goes more (with_records (take k more) recs) ∙ first_come more k more recs (all_named more) ∙ sym (each_goes more recs) ∙ none_go more recs new
