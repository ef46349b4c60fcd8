-- Laws of the list of records: what a change of some of them leaves to find, and what a letter makes of each.
use Rattle.std.proofs.Common.{◌≡◌, ℕ, ◌<◌, ◌^◌, ◌-◌, Bool, true, false, cond, eq-eqb, List, [], ◌∷◌, map, refl, sym, ap, ◌∙◌, Option, Some, None, option_map, subst}
use Rattle.t32_base.specs.declared.process.Pid.{Pid}
use Rattle.t32_base.specs.declared.process.Counts.{Counts}
use Rattle.t32_base.specs.declared.letter.Letter.{Letter}
use Rattle.t32_base.specs.declared.letter.To.{To}
use Rattle.t32_base.specs.declared.letter.To.TheVariants.{Proc, Tty}
use Rattle.t32_base.specs.declared.letter.BackRec.{BackRec}
use Rattle.write_count.specs.Counting.{count_for}
use Rattle.bus_msg.specs.Places.{same_pid}
use Rattle.backup_records.specs.Records.{record_in, with_saved, with_counted, is_receiver, saved_by_receiver, counted_by_sender, CanCount}

-- ---- a change of each

-- a change that leaves the pids leaves what is found at each
pub record_mapped : (f : BackRec → BackRec) → ((r : BackRec) → (f r).pid ≡ r.pid) → (recs : List BackRec) (p : Pid) → record_in (map f recs) p ≡ option_map f (record_in recs p)
record_mapped f keeps [] p = refl
record_mapped f keeps (r ∷ rest) p =
    (λ i. cond (same_pid (keeps r i) p) (Some (f r)) (record_mapped f keeps rest p i)) ∙ under (same_pid r.pid p)
  where
    under : (b : Bool) → cond b (Some (f r)) (option_map f (record_in rest p)) ≡ option_map f (cond b (Some r) (record_in rest p))
    under true = refl
    under false = refl

pub twice : (f g : BackRec → BackRec) (recs : List BackRec) → map g (map f recs) ≡ map (λ r. g (f r)) recs
twice f g [] = refl
twice f g (r ∷ rest) = ap (λ rs. g (f r) ∷ rs) (twice f g rest)

-- ---- a letter

pub saved_pid : (letter : Letter) (r : BackRec) → (saved_by_receiver letter r).pid ≡ r.pid
saved_pid letter r = by_test (is_receiver r.pid letter.to)
  where
    by_test : (b : Bool) → (cond b (with_saved letter r) r).pid ≡ r.pid
    by_test true = refl
    by_test false = refl

pub saved_counts : (letter : Letter) (r : BackRec) → (saved_by_receiver letter r).counts ≡ r.counts
saved_counts letter r = by_test (is_receiver r.pid letter.to)
  where
    by_test : (b : Bool) → (cond b (with_saved letter r) r).counts ≡ r.counts
    by_test true = refl
    by_test false = refl

pub counted_pid : (letter : Letter) (r : BackRec) → (counted_by_sender letter r).pid ≡ r.pid
counted_pid letter r = by_test (same_pid letter.from r.pid)
  where
    by_test : (b : Bool) → (cond b (with_counted letter r) r).pid ≡ r.pid
    by_test true = refl
    by_test false = refl

-- a letter for a terminal is saved by none
pub none_saved : (letter : Letter) (to : To) (t : ℕ) (recs : List BackRec) → to ≡ Tty t → map (λ (r : BackRec). cond (is_receiver r.pid to) (with_saved letter r) r) recs ≡ recs
none_saved letter to t [] is = refl
none_saved letter to t (r ∷ rest) is = λ i. ap (λ to. cond (is_receiver r.pid to) (with_saved letter r) r) is i ∷ none_saved letter to t rest is i

-- a letter for a process is for that
pub is_for : (p : Pid) (end : ℕ) (to : To) → to ≡ Proc p end → is_receiver p to ≡ true
is_for p end to is = ap (is_receiver p) is ∙ eq-eqb p.0 p.0 refl

-- what is found after a change was found before it
found_before : (f : BackRec → BackRec) (o : Option BackRec) (r : BackRec) → option_map f o ≡ Some r → (was : BackRec) × (o ≡ Some was) × (f was ≡ r)
found_before f None r is = cc
found_before f (Some was) r is = (was, refl, cc)

-- after it was saved a letter can be counted where it could be before
pub can_still_count : (letter : Letter) (recs : List BackRec) → CanCount letter recs → CanCount letter (map (saved_by_receiver letter) recs)
can_still_count letter recs can r there =
    let before = found_before (saved_by_receiver letter) (record_in recs letter.from) r (sym (record_mapped (saved_by_receiver letter) (saved_pid letter) recs letter.from) ∙ there) in
    let counts : (before.0).counts ≡ r.counts = sym (saved_counts letter before.0) ∙ ap (λ (r : BackRec). r.counts) before.2 in
    subst (λ (counts : Counts). (letter.out < 32) × (count_for counts letter < 2 ^ 32 - 1)) counts (can before.0 before.1)
