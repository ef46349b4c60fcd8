use Rattle.std.proofs.Common.{◌≡◌, ◌∷◌, ◌∙◌, ap, sym, ℕ, List, [], is_some, true≢false, refl}
use Rattle.standing_backups.proofs.standing.next_standing.Goals as goal

pub hand_on-requires-clause-can : goal.hand_on-requires-clause-can
hand_on-requires-clause-can c = c.requires.can c.in-Some.pid (sym c.first_stated.ensures ∙ c.in-Some.is)

pub returns-in-None : goal.returns-in-None
returns-in-None c = by_list c.args.owed.now.keys refl
  where
    by_list : (ns : List ℕ) → c.args.owed.now.keys ≡ ns → c.args.owed.now.keys ≡ []
    by_list [] is = is
    by_list (n ∷ ns) is =
        absurd (true≢false (sym (c.requires.some (λ none. let never : ◌≡◌ {A = List ℕ} [] (n ∷ ns) = sym none ∙ is in cc)) ∙ ap is_some (sym c.first_stated.ensures ∙ c.in-None.is)))
