-- To change the rows that are marked is to change them all, where a row whose accounts agree stays.
use Rattle.std.proofs.Common.{◌≡◌, ℕ, zero, suc, ◌+◌, ◌<◌, ◌≤◌, List, [], ◌∷◌, map, length, get_or, fold, refl, sym, ap, ◌∙◌, subst, arith, ◌⊎◌, inl, inr, Contains, take}
use Rattle.std.proofs.lemmas.List.Sums.{fold_more}
use Rattle.std.proofs.lemmas.List.{take_all, length-map}
use Rattle.page_server.specs.declared.table.Held.{Held}
use Rattle.page_server.specs.Slots.{absent, change_at, settled, restored, IsMarked}

-- both accounts agree in the row, and the change makes them agree and leaves those that do
pub record Levels (f : Held → Held) : Type 0 where
  pub still : (held : Held) → held.now ≡ held.kept → f held ≡ held
  pub level : (held : Held) → (f held).now ≡ (f held).kept

abbrev Agree : Held → Type 0
Agree held = held.now ≡ held.kept

unchanged : (f : Held → Held) (l : Levels f) (table : List Held) → ((k : ℕ) → Agree (get_or table k absent)) → map f table ≡ table
unchanged f l [] h = refl
unchanged f l (held ∷ rest) h = λ i. l.still held (h 0) i ∷ unchanged f l rest (λ k. h (suc k)) i

twice : (f : Held → Held) (l : Levels f) (table : List Held) (c : ℕ) → map f (change_at f table c) ≡ map f table
twice f l [] c = refl
twice f l (held ∷ rest) zero = ap (λ h. h ∷ map f rest) (l.still (f held) (l.level held))
twice f l (held ∷ rest) (suc c) = ap (λ r. f held ∷ r) (twice f l rest c)

agrees_there : (f : Held → Held) (l : Levels f) (table : List Held) (c : ℕ) → Agree (get_or (change_at f table c) c absent)
agrees_there f l [] c = refl
agrees_there f l (held ∷ rest) zero = l.level held
agrees_there f l (held ∷ rest) (suc c) = agrees_there f l rest c

elsewhere : (f : Held → Held) (table : List Held) (c k : ℕ) → (c ≡ k → ⊥) → get_or (change_at f table c) k absent ≡ get_or table k absent
elsewhere f [] c k other = refl
elsewhere f (held ∷ rest) zero zero other = absurd (other refl)
elsewhere f (held ∷ rest) zero (suc k) other = refl
elsewhere f (held ∷ rest) (suc c) zero other = refl
elsewhere f (held ∷ rest) (suc c) (suc k) other = elsewhere f rest c k (λ e. other (ap suc e))

later : (c : ℕ) (rest : List ℕ) (k : ℕ) → (c ≡ k → ⊥) → Contains (c ∷ rest) k → Contains rest k
later c rest k other (zero, h, e) = absurd (other e)
later c rest k other (suc j, h, e) = (j, omega arith, e)

pub same_or_not : (c k : ℕ) → (c ≡ k) ⊎ (c ≡ k → ⊥)
same_or_not c k = grind arith

marked_after : (f : Held → Held) (l : Levels f) (table : List Held) (c : ℕ) (rest : List ℕ) → IsMarked table (c ∷ rest) → IsMarked (change_at f table c) rest
marked_after f l table c rest h = λ k. by_page k (same_or_not c k) (h k)
  where
    by_page : (k : ℕ) → ((c ≡ k) ⊎ (c ≡ k → ⊥)) → (Agree (get_or table k absent) ⊎ Contains (c ∷ rest) k) → Agree (get_or (change_at f table c) k absent) ⊎ Contains rest k
    by_page k (inl e) o = inl (subst (λ n. Agree (get_or (change_at f table c) n absent)) e (agrees_there f l table c))
    by_page k (inr other) (inl agree) = inl (subst Agree (sym (elsewhere f table c k other)) agree)
    by_page k (inr other) (inr there) = inr (later c rest k other there)

-- all marked rows were changed in turn
pub by_marks : (f : Held → Held) → Levels f → (table : List Held) (marks : List ℕ) → IsMarked table marks → fold (change_at f) table marks ≡ map f table
by_marks f l table [] h = sym (unchanged f l table (λ k. none_marked k (h k)))
  where
    none_marked : (k : ℕ) → (Agree (get_or table k absent) ⊎ Contains [] k) → Agree (get_or table k absent)
    none_marked k (inl agree) = agree
    none_marked k (inr (j, h, e)) = absurd (omega arith)
by_marks f l table (c ∷ rest) h =
    by_marks f l (change_at f table c) rest (marked_after f l table c rest h) ∙ twice f l table c

-- one more of them
pub one_more_mark : (f : Held → Held) (table : List Held) (marks : List ℕ) (i : ℕ) → i < length marks
    → change_at f (fold (change_at f) table (take i marks)) (get_or marks i 0) ≡ fold (change_at f) table (take (i + 1) marks)
one_more_mark f table marks i h = sym (fold_more (change_at f) table marks i 0 h)

pub all_marks : (f : Held → Held) → Levels f → (table : List Held) (marks : List ℕ) (i : ℕ) → length marks ≤ i → IsMarked table marks → fold (change_at f) table (take i marks) ≡ map f table
all_marks f l table marks i h m = ap (fold (change_at f) table) (take_all i marks h) ∙ by_marks f l table marks m

pub settled-levels : Levels settled
settled-levels = record { still = λ held e i. record { now = held.now; kept = e i }; level = λ held. refl }

pub restored-levels : Levels restored
restored-levels = record { still = λ held e i. record { now = sym e i; kept = held.kept }; level = λ held. refl }

agree_after : (f : Held → Held) → Levels f → (table : List Held) (k : ℕ) → Agree (get_or (map f table) k absent)
agree_after f l [] k = refl
agree_after f l (held ∷ rest) zero = l.level held
agree_after f l (held ∷ rest) (suc k) = agree_after f l rest k

-- where all rows were changed, none needs a mark
pub needs_no_mark : (f : Held → Held) → Levels f → (old new : List Held) (marks : List ℕ) → new ≡ map f old → IsMarked new marks
needs_no_mark f l old new marks e = λ k. inl (subst (λ table. Agree (get_or table k absent)) (sym e) (agree_after f l old k))

-- as many rows as before
pub as_many : (f : Held → Held) (old new : List Held) (n : ℕ) → new ≡ map f old → length old ≤ n → length new ≤ n
as_many f old new n e h = omega (arith, ap length e, length-map old f)
