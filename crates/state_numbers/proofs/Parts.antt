-- The ends, the letters and the registers of a process stay small as they change.
use Rattle.std.proofs.Common.{◌≡◌, ℕ, zero, suc, ◌+◌, ◌<◌, ◌≤◌, refl, ap, subst, arith, List, [], ◌∷◌, ◌++◌, length, take, slice_get, slice_set, Bool, true, false, cond, Option, Some, None}
use Rattle.std.specs.Prelude.{find, option_and_then, unwrap_or}
use Rattle.std.specs.Option.{option_map_or}
use Rattle.std.proofs.lemmas.List.Quantifiers.{position-Some}
use Rattle.std.proofs.lemmas.Option.{same_Some}
use Rattle.t32_base.specs.declared.process.EndState.{EndState}
use Rattle.t32_base.specs.declared.process.EndState.TheVariants.{Never, Tty, Linked, Shut}
use Rattle.t32_base.specs.declared.letter.Arrived.{Arrived}
use Rattle.t32_base.specs.declared.letter.Body.{Body}
use Rattle.t32_base.specs.declared.letter.Body.TheVariants.{Said, EndOf, Signal}
use Rattle.t32_base.specs.declared.letter.To.{To}
use Rattle.t32_base.specs.declared.letter.To.TheVariants.{Proc, Tty as ToTty}
use Rattle.t32_base.specs.declared.process.Pid.{Pid}
use Rattle.proc_state.specs.Ends.{ends_linked_to, finished_at, finished_end, free_end, is_never, leads_at, leads_to}
use Rattle.proc_state.specs.Mail.{end_of, first_signal, is_on, signal_of, without_first}
use Rattle.sys_calls.specs.Calls.{ends_after, said_within}
use Rattle.sys_calls.specs.Small.{linked_from}
use Rattle.state_numbers.specs.Fits.{AreBytes, BodyFits, IsWord, LetterFits, LinkFits, LinksFit, MailFits, ToFits}
use Rattle.state_numbers.proofs.Below.{below_take}

-- ---- ends

pub links_at : (ends : List EndState) (i : ℕ) (end : EndState) → LinksFit ends → slice_get ends i ≡ Some end → LinkFits end
links_at [] i end fit is = cc
links_at (x ∷ ends) zero end fit is = subst LinkFits (same_Some x end is) fit.0
links_at (x ∷ ends) (suc i) end fit is = links_at ends i end fit.1 is

pub links_set : (ends : List EndState) (i : ℕ) (end : EndState) → LinkFits end → LinksFit ends → LinksFit (slice_set ends i end)
links_set [] i end one fit = tt
links_set (x ∷ ends) zero end one fit = (one, fit.1)
links_set (x ∷ ends) (suc i) end one fit = (fit.0, links_set ends i end one fit.1)

pub set_length : (ends : List EndState) (i : ℕ) (end : EndState) → length (slice_set ends i end) ≡ length ends
set_length [] i end = refl
set_length (x ∷ ends) zero end = refl
set_length (x ∷ ends) (suc i) end = ap suc (set_length ends i end)

-- where an end leads
abbrev pub LeadsFit : Option To → Type 0
LeadsFit None = Unit {0}
LeadsFit (Some to) = ToFits to

end_leads : (end : EndState) → LinkFits end → LeadsFit (leads_to end)
end_leads Never fits = tt
end_leads (Tty t) fits = fits
end_leads (Linked peer far finished) fits = fits
end_leads Shut fits = tt

pub leads_fit : (ends : List EndState) (i : ℕ) → LinksFit ends → LeadsFit (leads_at ends i)
leads_fit ends i fit = by_end (slice_get ends i) refl
  where
    by_end : (o : Option EndState) → slice_get ends i ≡ o → LeadsFit (option_and_then leads_to o)
    by_end None is = tt
    by_end (Some end) is = end_leads end (links_at ends i end fit is)

finished_fits : (end : EndState) → LinkFits end → LinkFits (finished_end end)
finished_fits Never fits = tt
finished_fits (Tty t) fits = fits
finished_fits (Linked peer far finished) fits = fits
finished_fits Shut fits = tt

-- some ends, as many as there were at most
pub record EndsFit (ends : List EndState) : Type 0 where
  pub fit : LinksFit ends
  pub few : length ends ≤ 32

pub ends_set : (ends : List EndState) (i : ℕ) (end : EndState) → LinkFits end → EndsFit ends → EndsFit (slice_set ends i end)
ends_set ends i end one e = record { fit = links_set ends i end one e.fit; few = let same = set_length ends i end in let few = e.few in omega (arith, same, few) }

finished_ends : (ends : List EndState) (i : ℕ) → EndsFit ends → EndsFit (finished_at ends i)
finished_ends ends i e = by_end (slice_get ends i) refl
  where
    by_end : (o : Option EndState) → slice_get ends i ≡ o → EndsFit (option_map_or (λ end. slice_set ends i (finished_end end)) o ends)
    by_end None is = e
    by_end (Some end) is = ends_set ends i (finished_end end) (finished_fits end (links_at ends i end e.fit is)) e

pub ends_after_fit : (body : Body) (i : ℕ) (ends : List EndState) → EndsFit ends → EndsFit (ends_after body i ends)
ends_after_fit (Said bytes) i ends e = e
ends_after_fit EndOf i ends e = finished_ends ends i e
ends_after_fit (Signal g) i ends e = e

pub free_below : (ends : List EndState) (i : ℕ) → free_end ends ≡ Some i → i < length ends
free_below ends i is = (position-Some is_never ends i Never is).0

pub linked_ends_fit : (ends : List EndState) (peer : Pid) (far : ℕ) → IsWord peer.0 → IsWord far → EndsFit ends → EndsFit (ends_linked_to ends peer far)
linked_ends_fit ends peer far near less e = by_free (free_end ends)
  where
    by_free : (o : Option ℕ) → EndsFit (option_map_or (λ end. slice_set ends end (Linked peer far false)) o ends)
    by_free None = e
    by_free (Some i) = ends_set ends i (Linked peer far false) (near, less) e

-- the lowest linked end, and where it leads
pub record FoundFits (found : ℕ × To) (bound : ℕ) : Type 0 where
  pub end : found.0 < bound
  pub to : ToFits found.1

pub linked_found : (i : ℕ) (ends : List EndState) (found : ℕ × To) → LinksFit ends → linked_from i ends ≡ Some found → FoundFits found (i + length ends)
linked_found i [] found fit is = cc
linked_found i (Never ∷ ends) found fit is = let more = linked_found (i + 1) ends found fit.1 is in record { end = let less = more.end in omega (arith, less); to = more.to }
linked_found i (Tty t ∷ ends) found fit is = let more = linked_found (i + 1) ends found fit.1 is in record { end = let less = more.end in omega (arith, less); to = more.to }
linked_found i (Linked peer far finished ∷ ends) found fit is =
    let same : (i, Proc peer far) ≡ found = same_Some (i, Proc peer far) found is in
    subst (λ (f : ℕ × To). FoundFits f (i + suc (length ends))) same (record { end = omega arith; to = fit.0 })
linked_found i (Shut ∷ ends) found fit is = let more = linked_found (i + 1) ends found fit.1 is in record { end = let less = more.end in omega (arith, less); to = more.to }

-- ---- letters

pub found_letter : (test : Arrived → Bool) (mail : List Arrived) (a : Arrived) → MailFits mail → find test mail ≡ Some a → LetterFits a.letter
found_letter test [] a fit is = cc
found_letter test (b ∷ mail) a fit is = by_test (test b) is (found_letter test mail a fit.1)
  where
    by_test : (c : Bool) → cond c (Some b) (find test mail) ≡ Some a → (find test mail ≡ Some a → LetterFits a.letter) → LetterFits a.letter
    by_test true is more = subst (λ (x : Arrived). LetterFits x.letter) (same_Some b a is) fit.0
    by_test false is more = more is

pub rest_fits : (test : Arrived → Bool) (mail : List Arrived) → MailFits mail → MailFits (without_first test mail)
rest_fits test [] fit = tt
rest_fits test (b ∷ mail) fit = by_test (test b) (rest_fits test mail fit.1)
  where
    by_test : (c : Bool) → MailFits (without_first test mail) → MailFits (cond c mail (b ∷ without_first test mail))
    by_test true more = fit.1
    by_test false more = (fit.0, more)

pub mail_more : (mail : List Arrived) (a : Arrived) → MailFits mail → LetterFits a.letter → MailFits (mail ++ a ∷ [])
mail_more [] a fit one = (one, tt)
mail_more (b ∷ mail) a fit one = (fit.0, mail_more mail a fit.1 one)

pub end_word : (to : To) → ToFits to → IsWord (end_of to)
end_word (Proc p e) fits = fits.1
end_word (ToTty t) fits = omega arith

pub said_fits : (room : ℕ) (body : Body) → BodyFits body → AreBytes (said_within room body)
said_fits room (Said bytes) fits = below_take 256 room bytes fits
said_fits room EndOf fits = tt
said_fits room (Signal g) fits = tt

take_length : (n : ℕ) (xs : List ℕ) → length (take n xs) ≤ n
take_length zero xs = omega arith
take_length (suc n) [] = omega arith
take_length (suc n) (x ∷ xs) = let less = take_length n xs in omega (arith, less)

pub said_length : (room : ℕ) (body : Body) → length (said_within room body) ≤ room
said_length room (Said bytes) = take_length room bytes
said_length room EndOf = omega arith
said_length room (Signal g) = omega arith

signal_word : (body : Body) (g : ℕ) → BodyFits body → signal_of body ≡ Some g → IsWord g
signal_word (Said bytes) g fits is = cc
signal_word EndOf g fits is = cc
signal_word (Signal h) g fits is = subst IsWord (same_Some h g is) fits

pub first_word : (mail : List Arrived) → MailFits mail → IsWord (unwrap_or (first_signal mail) 0)
first_word mail fit = by_letter (find (is_on 0) mail) refl
  where
    by_signal : (a : Arrived) (o : Option ℕ) → LetterFits a.letter → signal_of (a.letter).body ≡ o → IsWord (unwrap_or o 0)
    by_signal a None fits is = omega arith
    by_signal a (Some g) fits is = signal_word (a.letter).body g fits.body is

    by_letter : (o : Option Arrived) → find (is_on 0) mail ≡ o → IsWord (unwrap_or (option_and_then (λ (a : Arrived). signal_of (a.letter).body) o) 0)
    by_letter None is = omega arith
    by_letter (Some a) is = by_signal a (signal_of (a.letter).body) (found_letter (is_on 0) mail a fit is) refl
