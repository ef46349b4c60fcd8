-- Where a process reads the first letter that waits for an end, the letters that it has read stay fronts.
use Rattle.std.proofs.Common.{◌≡◌, ◌≢◌, ℕ, ◌<◌, Bool, true, false, not, ◌||◌, cond, eqb, eqb-true, eq-eqb, true≢false, List, [], ◌∷◌, filter, find, refl, sym, ◌∙◌, ap, subst, Some, All, ◌⊎◌, inl, inr}
use Rattle.std.specs.List.{list_any, AllPairs}
use Rattle.std.proofs.lemmas.List.Elements.{All-nil, All-cons, All-head, All-tail, All-push, All-weaker}
use Rattle.t32_base.specs.declared.letter.Arrived.{Arrived}
use Rattle.t32_base.specs.declared.letter.Letter.{Letter}
use Rattle.proc_state.specs.Mail.{end_of, is_on, without_first}
use Rattle.backup_queue.specs.Queue.{saved_with, is_unread, unread}
use Rattle.backup_queue.specs.Fronts.{NoneReadOn, AreFronts, AreOnEnds}
use Rattle.backup_queue.proofs.QueueLaws.{NumbersDiffer, pairs_head, pairs_tail, another_number}

abbrev end_of_letter : Arrived → ℕ
end_of_letter a = end_of (a.letter).to

-- ---- at the start, and with a letter that comes

-- where nothing was read, that is so
pub fronts_at_start : (saved : List Arrived) → AreFronts [] saved
fronts_at_start [] = tt
fronts_at_start (a ∷ rest) = (λ kept. all rest, fronts_at_start rest)
  where
    all : (letters : List Arrived) → NoneReadOn [] (end_of_letter a) letters
    all [] = All-nil (λ (b : Arrived). is_on (end_of_letter a) b ≡ true → is_unread [] b ≡ true)
    all (b ∷ more) = All-cons (λ (b : Arrived). is_on (end_of_letter a) b ≡ true → is_unread [] b ≡ true) b more (λ on. refl) (all more)

-- one more letter that was not read is behind all
pub fronts_saved : (read : List ℕ) (saved : List Arrived) (letter : Letter) (number : ℕ) → list_any (λ n. eqb n number) read ≡ false → AreFronts read saved → AreFronts read (saved_with saved letter number)
fronts_saved read [] letter number new fronts = (λ kept. All-nil (λ (b : Arrived). is_on (end_of letter.to) b ≡ true → is_unread read b ≡ true), tt)
fronts_saved read (a ∷ rest) letter number new fronts = (
  λ kept. All-push (λ (b : Arrived). is_on (end_of_letter a) b ≡ true → is_unread read b ≡ true) rest (record { number = number; letter = letter }) (fronts.0 kept) (λ on. ap not new),
  fronts_saved read rest letter number new fronts.1,
)

-- ---- with a letter that is read

-- it was not read before, and its number is another
unread_parts : (n : ℕ) (read : List ℕ) (a : Arrived) → is_unread (n ∷ read) a ≡ true → (is_unread read a ≡ true) × (n ≢ a.number)
unread_parts n read a kept = at (eqb n a.number) (list_any (λ k. eqb k a.number) read) refl kept
  where
    at : (b r : Bool) → eqb n a.number ≡ b → not (b || r) ≡ true → (not r ≡ true) × (n ≢ a.number)
    at true r is kept = absurd (true≢false (sym kept))
    at false r is kept = (kept, λ same. true≢false (sym (eq-eqb n a.number same) ∙ is))

unread_both : (n : ℕ) (read : List ℕ) (a : Arrived) → is_unread read a ≡ true → n ≢ a.number → is_unread (n ∷ read) a ≡ true
unread_both n read a kept other = at (eqb n a.number) (list_any (λ k. eqb k a.number) read) refl kept
  where
    at : (b r : Bool) → eqb n a.number ≡ b → not r ≡ true → not (b || r) ≡ true
    at true r is kept = absurd (other (eqb-true n a.number is))
    at false r is kept = kept

-- a number that no letter has changes nothing
none_more : (n : ℕ) (read : List ℕ) (end : ℕ) (letters : List Arrived) → All (λ (a : Arrived). is_on end a ≡ true → n ≢ a.number) letters → NoneReadOn read end letters → NoneReadOn (n ∷ read) end letters
none_more n read end [] others none = All-nil (λ (a : Arrived). is_on end a ≡ true → is_unread (n ∷ read) a ≡ true)
none_more n read end (a ∷ rest) others none =
    let other : is_on end a ≡ true → n ≢ a.number = All-head (λ (b : Arrived). is_on end b ≡ true → n ≢ b.number) a rest others in
    let kept : is_on end a ≡ true → is_unread read a ≡ true = All-head (λ (b : Arrived). is_on end b ≡ true → is_unread read b ≡ true) a rest none in
    All-cons (λ (b : Arrived). is_on end b ≡ true → is_unread (n ∷ read) b ≡ true) a rest (λ on. unread_both n read a (kept on) (other on))
    (none_more n read end rest (All-tail (λ (b : Arrived). is_on end b ≡ true → n ≢ b.number) a rest others) (All-tail (λ (b : Arrived). is_on end b ≡ true → is_unread read b ≡ true) a rest none))

fronts_more : (n : ℕ) (read : List ℕ) (letters : List Arrived) → All (λ (a : Arrived). n ≢ a.number) letters → AreFronts read letters → AreFronts (n ∷ read) letters
fronts_more n read [] others fronts = tt
fronts_more n read (a ∷ rest) others fronts =
    let behind : All (λ (b : Arrived). n ≢ b.number) rest = All-tail (λ (b : Arrived). n ≢ b.number) a rest others in (
      λ kept. none_more n read (end_of_letter a) rest (All-weaker (λ (b : Arrived). n ≢ b.number) (λ (b : Arrived). is_on (end_of_letter a) b ≡ true → n ≢ b.number) (λ b other on. other) rest behind)
          (fronts.0 (unread_parts n read a kept).0),
      fronts_more n read rest behind fronts.1,
    )

-- what is found among some of the letters is the first of all, or is found behind it
found_split : (keep test : Arrived → Bool) (a : Arrived) (rest : List Arrived) (found : Arrived) → find test (filter keep (a ∷ rest)) ≡ Some found
    → ((keep a ≡ true) × (test a ≡ true) × (a ≡ found)) ⊎ (((keep a ≡ false) ⊎ ((keep a ≡ true) × (test a ≡ false))) × (find test (filter keep rest) ≡ Some found))
found_split keep test a rest found is = at (keep a) (test a) refl refl (parted (keep a) is)
  where
    parted : (k : Bool) → find test (cond k (a ∷ filter keep rest) (filter keep rest)) ≡ Some found → cond k (cond (test a) (Some a) (find test (filter keep rest))) (find test (filter keep rest)) ≡ Some found
    parted true is = is
    parted false is = is

    at : (k t : Bool) → keep a ≡ k → test a ≡ t → cond k (cond t (Some a) (find test (filter keep rest))) (find test (filter keep rest)) ≡ Some found
        → ((keep a ≡ true) × (test a ≡ true) × (a ≡ found)) ⊎ (((keep a ≡ false) ⊎ ((keep a ≡ true) × (test a ≡ false))) × (find test (filter keep rest) ≡ Some found))
    at true true kept passes is = let same : a ≡ found = cc in inl (kept, passes, same)
    at true false kept fails is = inr (inr (kept, fails), is)
    at false t gone tested is = inr (inl gone, is)

found_in : (P : Arrived → Type 0) (keep test : Arrived → Bool) (letters : List Arrived) (found : Arrived) → find test (filter keep letters) ≡ Some found → All P letters → P found
found_in P keep test [] found is all = cc
found_in P keep test (a ∷ rest) found is all = elim (found_split keep test a rest found is) [
  | inl here ↦ subst P here.2 (All-head P a rest all)
  | inr later ↦ found_in P keep test rest found later.1 (All-tail P a rest all)
]

-- the letters with the number of the one that was found are for its end
found_alone : (read : List ℕ) (end : ℕ) (letters : List Arrived) (found : Arrived) → AllPairs NumbersDiffer letters → find (is_on end) (unread read letters) ≡ Some found
    → All (λ (a : Arrived). found.number ≡ a.number → is_on end a ≡ true) letters
found_alone read end [] found pairs is = All-nil (λ (a : Arrived). found.number ≡ a.number → is_on end a ≡ true)
found_alone read end (a ∷ rest) found pairs is =
    let differ : All (NumbersDiffer a) rest = pairs_head a rest pairs in
    elim (found_split (is_unread read) (is_on end) a rest found is) [
      | inl here ↦ All-cons (λ (b : Arrived). found.number ≡ b.number → is_on end b ≡ true) a rest (λ same. here.1)
          (All-weaker (NumbersDiffer a) (λ (b : Arrived). found.number ≡ b.number → is_on end b ≡ true) (λ b other same. absurd (other (ap (λ (x : Arrived). x.number) here.2 ∙ same))) rest differ)
      | inr later ↦ All-cons (λ (b : Arrived). found.number ≡ b.number → is_on end b ≡ true) a rest
          (λ same. absurd (found_in (NumbersDiffer a) (is_unread read) (is_on end) rest found later.1 differ (sym same)))
          (found_alone read end rest found (pairs_tail a rest pairs) later.1)
    ]

-- an end of another letter is no other end than its own
ends_differ : (end : ℕ) (a b : Arrived) → is_on end a ≡ false → is_on (end_of_letter a) b ≡ true → is_on end b ≡ true → ⊥
ends_differ end a b off on_its on =
    true≢false (sym (eq-eqb (end_of_letter a) end (sym (eqb-true (end_of_letter b) (end_of_letter a) on_its) ∙ eqb-true (end_of_letter b) end on)) ∙ off)

-- Where no two letters have one number and the first unread one for an end is read, those that were read stay fronts.
pub fronts_read : (read : List ℕ) (end : ℕ) (saved : List Arrived) (found : Arrived) → AllPairs NumbersDiffer saved → find (is_on end) (unread read saved) ≡ Some found
    → AreFronts read saved → AreFronts (found.number ∷ read) saved
fronts_read read end [] found pairs is fronts = tt
fronts_read read end (a ∷ rest) found pairs is fronts =
    let n : ℕ = found.number in
    let differ : All (NumbersDiffer a) rest = pairs_head a rest pairs in
    elim (found_split (is_unread read) (is_on end) a rest found is) [
      | inl here ↦
          let same : a.number ≡ n = ap (λ (x : Arrived). x.number) here.2 in (
            λ kept. absurd ((unread_parts n read a kept).1 (sym same)),
            fronts_more n read rest (All-weaker (NumbersDiffer a) (λ (b : Arrived). n ≢ b.number) (λ b other eq. other (same ∙ eq)) rest differ) fronts.1,
          )
      | inr later ↦
          let alone : All (λ (b : Arrived). n ≡ b.number → is_on end b ≡ true) rest = found_alone read end rest found (pairs_tail a rest pairs) later.1 in (
            λ kept. elim later.0 [
              | inl gone ↦ absurd (true≢false (sym (unread_parts n read a kept).0 ∙ gone))
              | inr off ↦ none_more n read (end_of_letter a) rest
                  (All-weaker (λ (b : Arrived). n ≡ b.number → is_on end b ≡ true) (λ (b : Arrived). is_on (end_of_letter a) b ≡ true → n ≢ b.number) (λ b its on same. ends_differ end a b off.1 on (its same)) rest alone)
                  (fronts.0 (unread_parts n read a kept).0)
            ],
            fronts_read read end rest found (pairs_tail a rest pairs) later.1 fronts.1,
          )
    ]

-- ---- the ends of the letters that were read

read_parts : (n : ℕ) (read : List ℕ) (a : Arrived) → is_unread (n ∷ read) a ≡ false → (n ≡ a.number) ⊎ (is_unread read a ≡ false)
read_parts n read a gone = at (eqb n a.number) (list_any (λ k. eqb k a.number) read) refl gone
  where
    at : (b r : Bool) → eqb n a.number ≡ b → not (b || r) ≡ false → (n ≡ a.number) ⊎ (not r ≡ false)
    at true r is gone = inl (eqb-true n a.number is)
    at false r is gone = inr gone

ends_more : (n : ℕ) (read : List ℕ) (end : ℕ) (letters : List Arrived) → end < 32 → All (λ (a : Arrived). n ≡ a.number → is_on end a ≡ true) letters → AreOnEnds read letters → AreOnEnds (n ∷ read) letters
ends_more n read end [] within alone ends = All-nil (λ (a : Arrived). is_unread (n ∷ read) a ≡ false → end_of_letter a < 32)
ends_more n read end (a ∷ rest) within alone ends =
    All-cons (λ (b : Arrived). is_unread (n ∷ read) b ≡ false → end_of_letter b < 32) a rest
    (λ gone. elim (read_parts n read a gone) [
      | inl same ↦ subst (λ e. e < 32) (sym (eqb-true (end_of_letter a) end (All-head (λ (b : Arrived). n ≡ b.number → is_on end b ≡ true) a rest alone same))) within
      | inr earlier ↦ All-head (λ (b : Arrived). is_unread read b ≡ false → end_of_letter b < 32) a rest ends earlier
    ])
    (ends_more n read end rest within (All-tail (λ (b : Arrived). n ≡ b.number → is_on end b ≡ true) a rest alone) (All-tail (λ (b : Arrived). is_unread read b ≡ false → end_of_letter b < 32) a rest ends))

-- A letter that is read for one of the 32 ends leaves those that were read on such ends.
pub ends_read : (read : List ℕ) (end : ℕ) (saved : List Arrived) (found : Arrived) → AllPairs NumbersDiffer saved → find (is_on end) (unread read saved) ≡ Some found → end < 32
    → AreOnEnds read saved → AreOnEnds (found.number ∷ read) saved
ends_read read end saved found pairs is within ends = ends_more found.number read end saved within (found_alone read end saved found pairs is) ends

pub ends_at_start : (saved : List Arrived) → AreOnEnds [] saved
ends_at_start [] = All-nil (λ (a : Arrived). is_unread [] a ≡ false → end_of_letter a < 32)
ends_at_start (a ∷ rest) = All-cons (λ (b : Arrived). is_unread [] b ≡ false → end_of_letter b < 32) a rest (λ gone. absurd (true≢false gone)) (ends_at_start rest)

pub ends_saved : (read : List ℕ) (saved : List Arrived) (letter : Letter) (number : ℕ) → list_any (λ n. eqb n number) read ≡ false → AreOnEnds read saved → AreOnEnds read (saved_with saved letter number)
ends_saved read saved letter number new ends =
    All-push (λ (a : Arrived). is_unread read a ≡ false → end_of_letter a < 32) saved (record { number = number; letter = letter }) ends (λ gone. absurd (true≢false (sym (ap not new) ∙ gone)))

-- ---- the letters that are left

-- what was read stays read
stays_read : (n : ℕ) (read : List ℕ) (a : Arrived) → is_unread read a ≡ false → is_unread (n ∷ read) a ≡ false
stays_read n read a gone = at (eqb n a.number) (list_any (λ k. eqb k a.number) read) gone
  where
    at : (b r : Bool) → not r ≡ false → not (b || r) ≡ false
    at true r gone = refl
    at false r gone = gone

read_now : (n : ℕ) (read : List ℕ) (a : Arrived) → n ≡ a.number → is_unread (n ∷ read) a ≡ false
read_now n read a same = ap (λ b. not (b || list_any (λ k. eqb k a.number) read)) (eq-eqb n a.number same)

-- Those that were not read are the ones before without the one that is read.
pub left_read : (read : List ℕ) (end : ℕ) (saved : List Arrived) (found : Arrived) → AllPairs NumbersDiffer saved → find (is_on end) (unread read saved) ≡ Some found
    → unread (found.number ∷ read) saved ≡ without_first (is_on end) (unread read saved)
left_read read end [] found pairs is = refl
left_read read end (a ∷ rest) found pairs is =
    let n : ℕ = found.number in
    let differ : All (NumbersDiffer a) rest = pairs_head a rest pairs in
    elim (found_split (is_unread read) (is_on end) a rest found is) [
      | inl here ↦
          let same : a.number ≡ n = ap (λ (x : Arrived). x.number) here.2 in
          ap (λ b. cond b (a ∷ unread (n ∷ read) rest) (unread (n ∷ read) rest)) (read_now n read a (sym same))
          ∙ another_number n read rest (All-weaker (NumbersDiffer a) (λ (b : Arrived). n ≢ b.number) (λ b other eq. other (same ∙ eq)) rest differ)
          ∙ ap (λ b. cond b (unread read rest) (a ∷ without_first (is_on end) (unread read rest))) (sym here.1)
          ∙ ap (λ b. without_first (is_on end) (cond b (a ∷ unread read rest) (unread read rest))) (sym here.0)
      | inr later ↦
          let more : unread (n ∷ read) rest ≡ without_first (is_on end) (unread read rest) = left_read read end rest found (pairs_tail a rest pairs) later.1 in
          elim later.0 [
            | inl gone ↦
                ap (λ b. cond b (a ∷ unread (n ∷ read) rest) (unread (n ∷ read) rest)) (stays_read n read a gone) ∙ more
                ∙ ap (λ b. without_first (is_on end) (cond b (a ∷ unread read rest) (unread read rest))) (sym gone)
            | inr off ↦
                ap (λ b. cond b (a ∷ unread (n ∷ read) rest) (unread (n ∷ read) rest))
                (unread_both n read a off.0 (λ same. found_in (NumbersDiffer a) (is_unread read) (is_on end) rest found later.1 differ (sym same)))
                ∙ ap (λ left. a ∷ left) more
                ∙ ap (λ b. cond b (unread read rest) (a ∷ without_first (is_on end) (unread read rest))) (sym off.1)
                ∙ ap (λ b. without_first (is_on end) (cond b (a ∷ unread read rest) (unread read rest))) (sym off.0)
          ]
    ]
