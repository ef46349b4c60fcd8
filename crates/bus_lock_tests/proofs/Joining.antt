-- Seats that are joined one by one.
use Rattle.std.proofs.Common.{◌≡◌, ℕ, zero, suc, ◌+◌, ◌*◌, inl, List, [], ◌∷◌, ◌++◌, map, refl, length, Option, ap, sym, subst, ◌∙◌, arith, false, Some}
use mathlib.Core.Logic.{dite}
use native.Mathlib.Decide.{ℕ_discrete}
use Rattle.std.proofs.Math.Nat.{suc-mul}
use Rattle.bus_lock.specs.declared.lock.LogLock.{LogLock}
use Rattle.bus_lock.specs.declared.seat.LogSeat.{LogSeat}
use Rattle.bus_lock.specs.Lists.{Holds, numbers_from}
use Rattle.bus_lock.specs.Views.{Joined}
use Rattle.bus_lock.specs.Seats.{IsOf, IsFresh, AllFresh, view_of}
use Rattle.bus_lock.proofs.Lists.{in_numbers}
use Rattle.bus_lock_tests.specs.contracts.notes.NotesLogValue.TheImpl.{ghosts}
use Rattle.bus_lock_tests.specs.declared.notes.Note.{Note}
use Rattle.bus_lock_tests.specs.declared.notes.Notes.{Notes}
use Rattle.bus_lock_tests.specs.Written.{HasAll, note, written_by}
use Rattle.std.specs.Option.{option_to_list}
use Rattle.bus_lock_tests.proofs.Each.{Each, each_last}

abbrev Lock : Type 0
Lock = LogLock Notes Note ℕ

abbrev SeatOf : Type 0
SeatOf = LogSeat Notes Note ℕ ghosts

-- One number more at the end.
numbers_end : (first count : ℕ) → numbers_from first count ++ (first + count) ∷ [] ≡ numbers_from first (suc count)
numbers_end first zero = let e : first + 0 ≡ first = omega arith in ap (λ (x : ℕ). x ∷ []) e
numbers_end first (suc count) =
    let e : first + suc count ≡ suc first + count = omega arith in
    ap (λ (xs : List ℕ). first ∷ xs) (ap (λ (x : ℕ). numbers_from (suc first) count ++ x ∷ []) e ∙ numbers_end (suc first) count)

-- The seat of the next writer is joined into one that has the notes of all before.
pub one_more : (lock : Lock) (values : List ℕ) (count writer : ℕ) (all both seat : SeatOf) → HasAll lock values writer all → (view_of seat).numbers ≡ writer ∷ [] → written_by writer (view_of seat).seen ≡ map (note writer) values
    → (view_of seat).added ≡ length values → suc writer ≡ count → IsOf lock both → Joined (λ (entry : Note). entry.by) (view_of all) (view_of seat) (view_of both) → HasAll lock values count both
one_more lock values count writer all both seat has alone written added next of j =
    let numbers : (view_of both).numbers ≡ numbers_from 0 count =
    j.numbers ∙ ((λ i. has.numbers i ++ alone i) ∙ (let e : writer ≡ 0 + writer = omega arith in ap (λ (x : ℕ). numbers_from 0 writer ++ x ∷ []) e ∙ (numbers_end 0 writer ∙ ap (numbers_from 0) next))) in
    record {
      of = of;
      out = j.out ∙ has.out;
      numbers = numbers;
      written = λ k l. dite (ℕ_discrete k writer)
          (λ (e : k ≡ writer). subst (λ (x : ℕ). written_by x ((view_of both).seen) ≡ map (note x) values) (sym e) (j.second_known writer (subst (Holds writer) (sym alone) (inl refl)) ∙ written))
          (λ ne. j.first_known k (subst (Holds k) (sym has.numbers) (in_numbers k 0 writer (omega arith) (omega arith))) ∙ has.written k (omega arith));
      all = j.added ∙ ((λ i. has.all i + added i) ∙ (sym (suc-mul writer (length values)) ∙ ap (λ (x : ℕ). x * length values) next));
    }

-- The one writer of a lock with one seat.
pub first_one : (lock : Lock) (values : List ℕ) (count : ℕ) (seat : SeatOf) → count ≡ 1 → IsOf lock seat → (view_of seat).inside ≡ false → (view_of seat).numbers ≡ 0 ∷ []
    → written_by 0 (view_of seat).seen ≡ map (note 0) values → (view_of seat).added ≡ length values → HasAll lock values count seat
first_one lock values count seat one of out numbers written added = record {
  of = of;
  out = out;
  numbers = numbers ∙ ap (numbers_from 0) (sym one);
  written = λ k less. let e : k ≡ 0 = omega arith in subst (λ (x : ℕ). written_by x (view_of seat).seen ≡ map (note x) values) (sym e) written;
  all = added ∙ ((let e : length values ≡ 1 * length values = omega arith in e) ∙ ap (λ (x : ℕ). x * length values) (sym one));
}

-- The seat that was taken from the end.
pub last_fresh : (lock : Lock) (topic : Option ℕ) (old left : List SeatOf) (popped : Option SeatOf) (seat : SeatOf) → old ≡ left ++ option_to_list popped → popped ≡ Some seat → AllFresh lock topic old → IsFresh lock topic (length left) seat
last_fresh lock topic old left popped seat e is fresh =
    let P : ℕ → SeatOf → Type 0 = λ k s. IsFresh lock topic k s in
    each_last P left seat (subst (Each P) (e ∙ ap (λ (o : Option SeatOf). left ++ option_to_list o) is) fresh)
