-- What is left after letters were taken from the fronts of their ends.
use Rattle.std.proofs.Common.{◌≡◌, ℕ, suc, ◌<◌, Bool, true, false, cond, List, [], ◌∷◌, find, length, refl, sym, ◌∙◌, ap, subst, arith, eqb-true, eq-eqb, true≢false, Option, Some, None, All}
use Rattle.std.specs.Prelude.{IfSome}
use Rattle.std.specs.Option.{IsSomeAnd}
use Rattle.std.proofs.lemmas.List.Elements.{All-nil, All-cons, All-head, All-tail}
use Rattle.t32_base.specs.declared.letter.Arrived.{Arrived}
use Rattle.proc_state.specs.Mail.{MailState, end_of, is_on, without_first}
use Rattle.backup_queue.specs.Queue.{is_unread, unread}
use Rattle.backup_queue.specs.Fronts.{NoneReadOn, AreFronts, AreOnEnds, Drops}

-- ---- a list without one of its letters

-- what holds of all holds of all that are left
all_left : (P : Arrived → Type 0) (test : Arrived → Bool) (letters : List Arrived) → All P letters → All P (without_first test letters)
all_left P test [] all = all
all_left P test (a ∷ rest) all = at (test a) (all_left P test rest (All-tail P a rest all))
  where
    at : (b : Bool) → All P (without_first test rest) → All P (cond b rest (a ∷ without_first test rest))
    at true more = All-tail P a rest all
    at false more = All-cons P a (without_first test rest) (All-head P a rest all) more

fronts_left : (read : List ℕ) (test : Arrived → Bool) (letters : List Arrived) → AreFronts read letters → AreFronts read (without_first test letters)
fronts_left read test [] fronts = fronts
fronts_left read test (a ∷ rest) fronts = at (test a) (fronts_left read test rest fronts.1)
  where
    at : (b : Bool) → AreFronts read (without_first test rest) → AreFronts read (cond b rest (a ∷ without_first test rest))
    at true more = fronts.1
    at false more = (λ kept. all_left (λ (b : Arrived). is_on (end_of (a.letter).to) b ≡ true → is_unread read b ≡ true) test rest (fronts.0 kept), more)

-- without a letter that was read the same are unread
unread_left : (read : List ℕ) (test : Arrived → Bool) (letters : List Arrived) (found : Arrived) → find test letters ≡ Some found → is_unread read found ≡ false
    → unread read (without_first test letters) ≡ unread read letters
unread_left read test [] found is was_read = cc
unread_left read test (a ∷ rest) found is was_read = at (test a) is (λ later. unread_left read test rest found later was_read)
  where
    at : (b : Bool) → cond b (Some a) (find test rest) ≡ Some found → (find test rest ≡ Some found → unread read (without_first test rest) ≡ unread read rest)
        → unread read (cond b rest (a ∷ without_first test rest)) ≡ cond (is_unread read a) (a ∷ unread read rest) (unread read rest)
    at true here more =
        let same : a ≡ found = cc in
        ap (λ v. cond v (a ∷ unread read rest) (unread read rest)) (sym (ap (is_unread read) same ∙ was_read))
    at false later more = ap (λ left. cond (is_unread read a) (a ∷ left) left) (more later)

-- it has one letter less
shorter : (test : Arrived → Bool) (letters : List Arrived) (found : Arrived) → find test letters ≡ Some found → length (without_first test letters) < length letters
shorter test [] found is = cc
shorter test (a ∷ rest) found is = at (test a) is (λ later. shorter test rest found later)
  where
    at : (b : Bool) → cond b (Some a) (find test rest) ≡ Some found → (find test rest ≡ Some found → length (without_first test rest) < length rest)
        → length (cond b rest (a ∷ without_first test rest)) < suc (length rest)
    at true here more = omega arith
    at false later more = let less = more later in omega arith

-- ---- one end after the other

pub drops_more : (read : List ℕ) (old mid new : MailState) → Drops read old mid → Drops read mid new → Drops read old new
drops_more read old mid new first second = record {
  next = second.next ∙ first.next;
  left = second.left ∙ first.left;
  fronts = λ h. second.fronts (first.fronts h);
  ends = λ h. second.ends (first.ends h);
  none = λ end h. second.none end (first.none end h);
}

-- a letter that was read is taken
drops_one : (read : List ℕ) (mail : MailState) (test : Arrived → Bool) (found : Arrived) → find test mail.letters ≡ Some found → is_unread read found ≡ false
    → Drops read mail (record mail { letters = without_first test mail.letters })
drops_one read mail test found is was_read = record {
  next = refl;
  left = unread_left read test mail.letters found is was_read;
  fronts = fronts_left read test mail.letters;
  ends = all_left (λ (a : Arrived). is_unread read a ≡ false → end_of (a.letter).to < 32) test mail.letters;
  none = λ end. all_left (λ (a : Arrived). is_on end a ≡ true → is_unread read a ≡ true) test mail.letters;
}

-- the first letter for an end is taken, which was read
pub drops_first : (read : List ℕ) (end : ℕ) (mail new : MailState) (first : Option Arrived) → first ≡ find (is_on end) mail.letters → IsSomeAnd first (λ (a : Arrived). is_unread read a ≡ false)
    → new ≡ record mail { letters = without_first (is_on end) mail.letters } → Drops read mail new × (length new.letters < length mail.letters)
drops_first read end mail new None is was_read taken = absurd was_read
drops_first read end mail new (Some found) is was_read taken =
    let one : Drops read mail (record mail { letters = without_first (is_on end) mail.letters }) = drops_one read mail (is_on end) found (sym is) was_read in
    let less : length (without_first (is_on end) mail.letters) < length mail.letters = shorter (is_on end) mail.letters found (sym is) in
    subst (λ (m : MailState). Drops read mail m × (length m.letters < length mail.letters)) (sym taken) (one, less)

-- where the first letter for an end was not read, none for it was
pub none_behind : (read : List ℕ) (end : ℕ) (letters : List Arrived) → AreFronts read letters → IfSome (find (is_on end) letters) (λ (a : Arrived). is_unread read a ≡ true)
    → NoneReadOn read end letters
none_behind read end [] fronts first = All-nil (λ (a : Arrived). is_on end a ≡ true → is_unread read a ≡ true)
none_behind read end (a ∷ rest) fronts first = at (is_on end a) refl first (none_behind read end rest fronts.1)
  where
    at : (b : Bool) → is_on end a ≡ b → IfSome (cond b (Some a) (find (is_on end) rest)) (λ (x : Arrived). is_unread read x ≡ true)
        → (IfSome (find (is_on end) rest) (λ (x : Arrived). is_unread read x ≡ true) → NoneReadOn read end rest) → NoneReadOn read end (a ∷ rest)
    at true on kept more =
        All-cons (λ (x : Arrived). is_on end x ≡ true → is_unread read x ≡ true) a rest (λ _. kept)
        (subst (λ e. NoneReadOn read e rest) (eqb-true (end_of (a.letter).to) end on) (fronts.0 kept))
    at false off later more =
        All-cons (λ (x : Arrived). is_on end x ≡ true → is_unread read x ≡ true) a rest (λ on. absurd (true≢false (sym on ∙ off))) (more later)

-- ---- all ends

-- where of each end none was read, all are unread
pub all_unread : (read : List ℕ) (letters : List Arrived) → AreOnEnds read letters → ((end : ℕ) → end < 32 → NoneReadOn read end letters) → unread read letters ≡ letters
all_unread read [] ends none = refl
all_unread read (a ∷ rest) ends none =
    at (is_unread read a) refl
    (all_unread read rest (All-tail (λ (x : Arrived). is_unread read x ≡ false → end_of (x.letter).to < 32) a rest ends)
    (λ end within. All-tail (λ (x : Arrived). is_on end x ≡ true → is_unread read x ≡ true) a rest (none end within)))
  where
    at : (b : Bool) → is_unread read a ≡ b → unread read rest ≡ rest → cond b (a ∷ unread read rest) (unread read rest) ≡ a ∷ rest
    at true kept more = ap (λ left. a ∷ left) more
    at false was_read more =
        let end : ℕ = end_of (a.letter).to in
        let within : end < 32 = All-head (λ (x : Arrived). is_unread read x ≡ false → end_of (x.letter).to < 32) a rest ends was_read in
        let kept : is_unread read a ≡ true = All-head (λ (x : Arrived). is_on end x ≡ true → is_unread read x ≡ true) a rest (none end within) (eq-eqb end end refl) in
        absurd (true≢false (sym kept ∙ was_read))
