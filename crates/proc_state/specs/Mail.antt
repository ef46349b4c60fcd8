-- A mailbox: the letters that have arrived and were not read, in order of arrival.
use Rattle.std.specs.Prelude.{ℕ, ◌+◌, ◌≤◌, Bool, true, false, ◌==◌, if◌then◌else◌, List, [], ◌∷◌, find, Option, Some, None, option_and_then}
use Rattle.t32_base.specs.declared.process.EndState.{EndState}
use Rattle.t32_base.specs.declared.letter.Arrived.{Arrived}
use Rattle.t32_base.specs.declared.letter.To.{To}
use Rattle.t32_base.specs.declared.letter.To.TheVariants.{Proc, Tty}
use Rattle.t32_base.specs.declared.letter.Body.{Body}
use Rattle.t32_base.specs.declared.letter.Body.TheVariants.{Said, EndOf, Signal}
use Rattle.proc_state.specs.Ends.{is_linked_at}

-- the letters that have arrived and were not read, in order of arrival, and how many have arrived
pub record MailState : Type 0 where
  pub letters : List Arrived
  pub next : ℕ

-- the end to which a letter goes; 0 for a terminal
abbrev pub end_of : To → ℕ
end_of (Proc peer end) = end
end_of (Tty t) = 0

-- a letter for the end e
abbrev pub is_on : ℕ → Arrived → Bool
is_on e a = end_of (a.letter).to == e

-- a letter for an end that is linked
abbrev pub is_on_linked : List EndState → Arrived → Bool
is_on_linked ends a = is_linked_at ends (end_of (a.letter).to)

-- the number of the signal that a letter carries
abbrev pub signal_of : Body → Option ℕ
signal_of (Said bytes) = None
signal_of EndOf = None
signal_of (Signal g) = Some g

abbrev pub carries_signal : Body → Bool
carries_signal (Said bytes) = false
carries_signal EndOf = false
carries_signal (Signal g) = true

abbrev pub is_signal : Arrived → Bool
is_signal a = carries_signal (a.letter).body

-- a list without its first element that passes
abbrev pub without_first : {X : Type 0} → (X → Bool) → List X → List X
without_first test [] = []
without_first test (x ∷ xs) = if test x then xs else x ∷ without_first test xs

-- the letter that is taken as a signal: signals come to end 0, which is a terminal's or shut, so no other letter does
abbrev pub signal_letter : List Arrived → Option Arrived
signal_letter mail = find (is_on 0) mail

-- the first signal that waits
abbrev pub first_signal : List Arrived → Option ℕ
first_signal mail = option_and_then (λ (a : Arrived). signal_of (a.letter).body) (signal_letter mail)

-- the numbers of these letters rise: none is below the first number, and each is below the last
abbrev pub RiseTo : ℕ → List Arrived → ℕ → Type 0
RiseTo first [] last = first ≤ last
RiseTo first (a ∷ rest) last = (first ≤ a.number) × RiseTo (a.number + 1) rest last
