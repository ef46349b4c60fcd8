-- Letters that come to a process that can take a signal go last in its mailbox: it can take the same signal still, and the take leaves them.
use Rattle.std.proofs.Common.{◌≡◌, ℕ, ◌+◌, refl, sym, ◌∙◌, ap, List, [], ◌∷◌, ◌++◌, Bool, true, false, cond, eqb, Option, Some, None}
use Rattle.std.specs.Prelude.{find, option_and_then, is_none, is_some, unwrap_or, ◌&&◌}
use Rattle.std.specs.Option.{option_map_or, option_or}
use Rattle.std.proofs.lemmas.Bool.{and_parts}
use Rattle.std.proofs.lemmas.List.Folds.{find-append}
use Rattle.t32_base.specs.declared.letter.Arrived.{Arrived}
use Rattle.t32_base.specs.declared.letter.Letter.{Letter}
use Rattle.proc_state.specs.Mail.{first_signal, is_on, signal_of, without_first}
use Rattle.proc_state.specs.State.{ProcState, can_take, delivered, is_live}
use Rattle.sys_calls.specs.Take.{struck, taken}
use Rattle.sys_calls.proofs.TakeLaws.{signal_there}
use Rattle.cert_sched.specs.Kinds.{took_is}
use Rattle.checkpoint_laws.specs.posts.Cut.{TakesTo}
use Rattle.checkpoint_laws.specs.batches.Underway.{with_letters}

-- of a list that goes on the same element is the first that passes, and is left out
same_found : (t : Arrived → Bool) (xs ys : List Arrived) (x : Arrived) → find t xs ≡ Some x → find t (xs ++ ys) ≡ find t xs
same_found t xs ys x found = find-append t xs ys ∙ ap (λ o. option_or o (find t ys)) found ∙ sym found

left_more : (t : Arrived → Bool) (xs ys : List Arrived) (x : Arrived) → find t xs ≡ Some x → without_first t (xs ++ ys) ≡ without_first t xs ++ ys
left_more t [] ys x found = cc
left_more t (y ∷ xs) ys x found = by_test (t y) found (left_more t xs ys x)
  where
    by_test : (b : Bool) → cond b (Some y) (find t xs) ≡ Some x → (find t xs ≡ Some x → without_first t (xs ++ ys) ≡ without_first t xs ++ ys)
        → cond b (xs ++ ys) (y ∷ without_first t (xs ++ ys)) ≡ cond b xs (y ∷ without_first t xs) ++ ys
    by_test true is more = refl
    by_test false is more = ap (λ l. y ∷ l) (more is)

-- ---- one letter

module _ (s : ProcState) (l : Letter) (can : can_take s ≡ true) where
  abbrev new : List Arrived
  new = record { number = s.next; letter = l } ∷ []

  pub signal_stays : first_signal (s.mail ++ new) ≡ first_signal s.mail
  signal_stays = let a = signal_there s can in ap (option_and_then (λ (a : Arrived). signal_of (a.letter).body)) (same_found (is_on 0) s.mail new a.0 a.1)

  pub can_still : can_take (delivered s l) ≡ can_take s
  can_still = ap (λ o. is_live (s.small).status && is_none (s.small).frame && is_some o) signal_stays

  pub takes_same : (g : ℕ) → took_is (Some g) (delivered s l) ≡ took_is (Some g) s
  takes_same g = λ i. can_still i && option_map_or (λ h. eqb h g) (signal_stays i) false

  pub taken_delivered : taken (delivered s l) ≡ delivered (taken s) l
  taken_delivered =
      let a = signal_there s can in
      λ i. record s { small = struck (eqb (s.small).handler 0) (unwrap_or (signal_stays i) 0) s.small; mail = left_more (is_on 0) s.mail new a.0 a.1 i; next = s.next + 1 }

-- ---- each of them

one_comes : (took : Option ℕ) (before s : ProcState) (l : Letter) → TakesTo took before s → TakesTo took (delivered before l) (delivered s l)
one_comes None before s l takes = record { can = refl; after = ap (λ (x : ProcState). delivered x l) takes.after }
one_comes (Some g) before s l takes =
    let can = (and_parts (can_take before) _ takes.can).0 in
    record { can = takes_same before l can g ∙ takes.can; after = taken_delivered before l can ∙ ap (λ (x : ProcState). delivered x l) takes.after }

pub letters_come : (took : Option ℕ) (before s : ProcState) (letters : List Letter) → TakesTo took before s → TakesTo took (with_letters before letters) (with_letters s letters)
letters_come took before s [] takes = takes
letters_come took before s (l ∷ letters) takes = letters_come took (delivered before l) (delivered s l) letters (one_comes took before s l takes)
