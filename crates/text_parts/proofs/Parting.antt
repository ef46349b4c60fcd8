-- A text that is cut after some of its lines.
use Rattle.std.proofs.Common.{◌≡◌, ℕ, zero, suc, ◌+◌, ◌-◌, ◌<◌, Bool, true, false, List, [], ◌∷◌, ◌++◌, length, take, drop, refl, sym, ap, ◌∙◌, arith, append_assoc}
use Rattle.std.specs.List.{onto_first}
use Rattle.std.proofs.lemmas.List.{append-nil, length-append, length-drop}
use Rattle.std.proofs.Math.Seq.{take-append_seam}
use Rattle.std.proofs.lemmas.Bool.{eqb-true}
use Rattle.text_parts.specs.Lines.{is_newline, lines_of, before, from}
use Rattle.text_parts.proofs.Splitting.{before-yes, before-no, from-yes, from-no, from-head, lines_of-cut}

before_from : (p : ℕ → Bool) (xs : List ℕ) → before p xs ++ from p xs ≡ xs
before_from p [] = refl
before_from p (x ∷ xs) = by_head (before_from p xs) (p x) refl
  where
    by_head : before p xs ++ from p xs ≡ xs → (b : Bool) → p x ≡ b → before p (x ∷ xs) ++ from p (x ∷ xs) ≡ x ∷ xs
    by_head next true e = rw (before-yes p x xs e, from-yes p x xs e) refl
    by_head next false e = rw (before-no p x xs e, from-no p x xs e) (ap (λ (t : List ℕ). x ∷ t) next)

head-no : (x : ℕ) (xs more : List ℕ) → is_newline x ≡ false → lines_of (before is_newline xs ++ 10 ∷ more) ≡ before is_newline xs ∷ lines_of more → lines_of ((x ∷ before is_newline xs) ++ 10 ∷ more) ≡ (x ∷ before is_newline xs) ∷ lines_of more
head-no x xs more e next = rw e (ap (onto_first x) next)

-- a line, its end, and what follows
ended_line : (xs more : List ℕ) → lines_of (before is_newline xs ++ 10 ∷ more) ≡ before is_newline xs ∷ lines_of more
ended_line [] more = refl
ended_line (x ∷ xs) more = by_head (ended_line xs more) (is_newline x) refl
  where
    by_head : lines_of (before is_newline xs ++ 10 ∷ more) ≡ before is_newline xs ∷ lines_of more → (b : Bool) → is_newline x ≡ b → lines_of (before is_newline (x ∷ xs) ++ 10 ∷ more) ≡ before is_newline (x ∷ xs) ∷ lines_of more
    by_head next true e = rw (before-yes is_newline x xs e) refl
    by_head next false e = rw (before-no is_newline x xs e) (head-no x xs more e next)

-- the front of the text has its first n lines, and the rest the others
pub record IsParted (text : List ℕ) (n : ℕ) (rest : List ℕ) : Type 0 where
  pub front : List ℕ
  pub whole : front ++ rest ≡ text
  pub lines : lines_of front ≡ take n (lines_of text)
  pub left : lines_of rest ≡ drop n (lines_of text)
  pub ended : 0 < length rest → (more : List ℕ) → lines_of (front ++ more) ≡ lines_of front ++ lines_of more

-- one line more
taken : (ls : List (List ℕ)) (n : ℕ) (x : List ℕ) (xs : List (List ℕ)) → drop n ls ≡ x ∷ xs → take (suc n) ls ≡ take n ls ++ x ∷ []
taken [] zero x xs e = absurd cc
taken [] (suc n) x xs e = absurd cc
taken (l ∷ ls) zero x xs e = let same : l ≡ x = cc in ap (λ (y : List ℕ). y ∷ []) same
taken (l ∷ ls) (suc n) x xs e = ap (λ (t : List (List ℕ)). l ∷ t) (taken ls n x xs e)

dropped : (ls : List (List ℕ)) (n : ℕ) (x : List ℕ) (xs : List (List ℕ)) → drop n ls ≡ x ∷ xs → drop (suc n) ls ≡ xs
dropped [] zero x xs e = absurd cc
dropped [] (suc n) x xs e = absurd cc
dropped (l ∷ ls) zero x xs e = cc
dropped (l ∷ ls) (suc n) x xs e = dropped ls n x xs e

last_part : (text rest : List ℕ) (n : ℕ) → 0 < length rest → from is_newline rest ≡ [] → IsParted text n rest → IsParted text (suc n) []
last_part text rest n some none p =
    let cut : lines_of rest ≡ before is_newline rest ∷ [] = lines_of-cut rest some ∙ ap (λ (t : List ℕ). before is_newline rest ∷ lines_of (drop 1 t)) none in
    let next = sym p.left ∙ cut in
    record {
      front = p.front ++ rest;
      whole = append-nil (p.front ++ rest) ∙ p.whole;
      lines = p.ended some rest ∙ ap (λ (t : List (List ℕ)). t ++ lines_of rest) p.lines ∙ ap (λ (t : List (List ℕ)). take n (lines_of text) ++ t) cut ∙ sym (taken (lines_of text) n (before is_newline rest) [] next);
      left = sym (dropped (lines_of text) n (before is_newline rest) [] next);
      ended = λ none_left more. absurd (omega arith);
    }

next_part : (text rest ys : List ℕ) (n : ℕ) → 0 < length rest → from is_newline rest ≡ 10 ∷ ys → IsParted text n rest → IsParted text (suc n) ys
next_part text rest ys n some is p =
    let line = before is_newline rest in
    let cut : lines_of rest ≡ line ∷ lines_of ys = lines_of-cut rest some ∙ ap (λ (t : List ℕ). line ∷ lines_of (drop 1 t)) is in
    let next = sym p.left ∙ cut in
    let ended : (more : List ℕ) → lines_of ((p.front ++ (line ++ 10 ∷ [])) ++ more) ≡ lines_of p.front ++ (line ∷ lines_of more) =
    λ more. ap lines_of (append_assoc p.front (line ++ 10 ∷ []) more ∙ ap (λ (t : List ℕ). p.front ++ t) (append_assoc line (10 ∷ []) more)) ∙ p.ended some (line ++ 10 ∷ more) ∙ ap (λ (t : List (List ℕ)). lines_of p.front ++ t) (ended_line rest more) in
    let of_front : lines_of (p.front ++ (line ++ 10 ∷ [])) ≡ lines_of p.front ++ line ∷ [] = sym (ap lines_of (append-nil (p.front ++ (line ++ 10 ∷ [])))) ∙ ended [] in
    record {
      front = p.front ++ (line ++ 10 ∷ []);
      whole = append_assoc p.front (line ++ 10 ∷ []) ys ∙ ap (λ (t : List ℕ). p.front ++ t) (append_assoc line (10 ∷ []) ys ∙ ap (λ (t : List ℕ). line ++ t) (sym is) ∙ before_from is_newline rest) ∙ p.whole;
      lines = of_front ∙ ap (λ (t : List (List ℕ)). t ++ line ∷ []) p.lines ∙ sym (taken (lines_of text) n line (lines_of ys) next);
      left = sym (dropped (lines_of text) n line (lines_of ys) next);
      ended = λ left more. ended more ∙ sym (append_assoc (lines_of p.front) (line ∷ []) (lines_of more)) ∙ ap (λ (t : List (List ℕ)). t ++ lines_of more) (sym of_front);
    }

pub part_more : (text rest after : List ℕ) (n : ℕ) → 0 < length rest → after ≡ drop 1 (from is_newline rest) → IsParted text n rest → IsParted text (n + 1) after
part_more text rest after n some is p = by_end (from is_newline rest) refl
  where
    by_end : (t : List ℕ) → from is_newline rest ≡ t → IsParted text (n + 1) after
    by_end [] e = let same : n + 1 ≡ suc n = omega arith in rw (same, is, e) (last_part text rest n some e p)
    by_end (y ∷ ys) e =
        let newline : y ≡ 10 = eqb-true y 10 (from-head is_newline rest y ys e) in
        let same : n + 1 ≡ suc n = omega arith in
        rw (same, is, e) (next_part text rest ys n some (e ∙ ap (λ (b : ℕ). b ∷ ys) newline) p)

-- a text of which lines are left is not empty
some_left : (ls : List (List ℕ)) (n : ℕ) → n < length ls → 0 < length (drop n ls)
some_left ls n lt = omega (arith, length-drop n ls)

pub left_nonempty : (text rest : List ℕ) (n : ℕ) → n < length (lines_of text) → IsParted text n rest → 0 < length rest
left_nonempty text [] n lt p =
    let some = some_left (lines_of text) n lt in
    absurd (omega (arith, some, ap length p.left))
left_nonempty text (x ∷ xs) n lt p = omega arith

front_len : (front rest : List ℕ) → take (length (front ++ rest) - length rest) (front ++ rest) ≡ front
front_len front rest = rw (length-append front rest) (let e : length front + length rest - length rest ≡ length front = omega arith in rw e (take-append_seam front rest))

pub front_is : (text rest : List ℕ) (n : ℕ) → IsParted text n rest → lines_of (take (length text - length rest) text) ≡ take n (lines_of text)
front_is text rest n p = ap (λ (t : List ℕ). lines_of (take (length t - length rest) t)) (sym p.whole) ∙ ap lines_of (front_len p.front rest) ∙ p.lines
