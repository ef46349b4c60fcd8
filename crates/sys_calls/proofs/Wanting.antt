-- The first letter that a read wants is the first for its end.
use Rattle.std.proofs.Common.{◌≡◌, ℕ, List, [], ◌∷◌, ◌++◌, find, Option, Some, None, Ok, option_map, refl, ◌∙◌, sym, ap, subst, eqb-true}
use Rattle.t32_base.specs.declared.letter.Arrived.{Arrived}
use Rattle.t32_base.specs.declared.process.EndState.{EndState}
use Rattle.proc_state.specs.Mail.{MailState, end_of, is_on, without_first}
use Rattle.proc_state.specs.State.{state_of}
use Rattle.proc_state.specs.declared.process.Process.{Process}
use Rattle.proc_state.proofs.LinkedLaws.{find_passes, found_on}
use Rattle.sys_calls.specs.declared.reading.Wanted.{Wanted}
use Rattle.sys_calls.specs.declared.reading.Wanted.TheVariants.{On, AnyLinked}
use Rattle.sys_calls.specs.Calls.{first_wanted, is_wanted}
use Rattle.sys_calls.specs.Steps.{TakesLetter}

abbrev pub end_wanted : Arrived → ℕ
end_wanted a = end_of (a.letter).to

-- what is found and what is left at an end is what is found and left by a read
pub record IsWantedOn (ends : List EndState) (wanted : Wanted) (letters : List Arrived) (e : ℕ) : Type 0 where
  pub found : find (is_on e) letters ≡ find (is_wanted ends wanted) letters
  pub left : without_first (is_on e) letters ≡ without_first (is_wanted ends wanted) letters

pub wanted_on : (ends : List EndState) (wanted : Wanted) (letters : List Arrived) (a : Arrived) → find (is_wanted ends wanted) letters ≡ Some a
    → IsWantedOn ends wanted letters (end_wanted a)
wanted_on ends (On e) letters a found =
    let same : end_wanted a ≡ e = eqb-true (end_wanted a) e (find_passes (is_on e) letters a found) in
    subst (IsWantedOn ends (On e) letters) (sym same) (record { found = refl; left = refl })
wanted_on ends AnyLinked letters a found =
    let on = found_on ends letters (end_wanted a) (λ i. option_map end_wanted (sym found i)) in
    record { found = on.found; left = on.left }

abbrev pub place_wanted : Arrived → ℕ × ℕ
place_wanted a = (end_wanted a, a.number)

-- so the first letter at its end is the letter to be taken, and its number the one to be noted
pub takes_there : (wanted : Wanted) (p : Process) (mail : MailState) (read : List ℕ) (e n : ℕ) (taken : Option Arrived)
    → Some (e, n) ≡ option_map place_wanted (first_wanted (state_of p) wanted) → taken ≡ find (is_on e) (p.mail).letters
    → mail ≡ record (p.mail) { letters = without_first (is_on e) (p.mail).letters } → read ≡ p.read ++ n ∷ []
    → TakesLetter wanted (Ok taken) p (record { small = p.small; ram = p.ram; mail = mail; read = read; since = p.since })
takes_there wanted p mail read e n taken place taken_is mail_is read_is = at (first_wanted (state_of p) wanted) refl place
  where
    new : Process
    new = record { small = p.small; ram = p.ram; mail = mail; read = read; since = p.since }

    at : (found : Option Arrived) → first_wanted (state_of p) wanted ≡ found → Some (e, n) ≡ option_map place_wanted found → TakesLetter wanted (Ok taken) p new
    at None found none = cc
    at (Some a) found some =
        let place_is : (e, n) ≡ place_wanted a = cc in
        let end : e ≡ end_wanted a = ap (λ (q : ℕ × ℕ). q.0) place_is in
        let number : n ≡ a.number = ap (λ (q : ℕ × ℕ). q.1) place_is in
        let on = subst (IsWantedOn (p.small).ends wanted (p.mail).letters) (sym end) (wanted_on (p.small).ends wanted (p.mail).letters a found) in
        let left = mail_is ∙ (λ i. record (p.mail) { letters = on.left i }) in
        let noted = read_is ∙ ap (λ k. p.read ++ k ∷ []) number in
        subst (λ t. TakesLetter wanted (Ok t) p new) (sym (taken_is ∙ on.found ∙ found)) (found, λ i. record p { mail = left i; read = noted i })
