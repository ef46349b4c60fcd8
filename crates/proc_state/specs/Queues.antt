-- The letters of a mailbox in a queue for each end: in each the numbers rise, and no letter of another has the same.
use Rattle.std.specs.Prelude.{ℕ, ◌≡◌, ◌≢◌, ◌<◌, ◌≤◌, nat_lt, true, if◌then◌else◌, List, [], ◌∷◌, ◌++◌, length, slice_get, slice_set, slice_index_or, Option, Some, None, option_map, All}
use Rattle.std.specs.List.{AllPairs}
use Rattle.t32_base.specs.declared.letter.Arrived.{Arrived}
use Rattle.t32_base.specs.declared.process.EndState.{EndState}
use Rattle.proc_state.specs.Ends.{is_linked_at}
use Rattle.proc_state.specs.Mail.{is_on}

-- the queue of the end e; empty where there is none
abbrev pub queue_of : List (List Arrived) → ℕ → List Arrived
queue_of queues e = slice_index_or queues e []

-- a letter put before the first one with a greater number
abbrev pub put_by_number : Arrived → List Arrived → List Arrived
put_by_number a [] = a ∷ []
put_by_number a (b ∷ bs) = if nat_lt a.number b.number then a ∷ b ∷ bs else b ∷ put_by_number a bs

-- letters put so, each in turn
abbrev pub put_each : List Arrived → List Arrived → List Arrived
put_each [] bs = bs
put_each (a ∷ rest) bs = put_by_number a (put_each rest bs)

-- the letters of all queues, by their numbers
abbrev pub in_order : List (List Arrived) → List Arrived
in_order [] = []
in_order (queue ∷ rest) = put_each queue (in_order rest)

-- ---- what holds of the queues

abbrev pub IsOn : ℕ → Arrived → Type 0
IsOn e a = is_on e a ≡ true

abbrev pub IsBefore : Arrived → Arrived → Type 0
IsBefore a b = a.number < b.number

abbrev pub DiffersFrom : Arrived → Arrived → Type 0
DiffersFrom a b = a.number ≢ b.number

abbrev pub IsBelow : ℕ → Arrived → Type 0
IsBelow next a = a.number < next

-- each queue has letters for its end, in order of arrival, and no two letters have one number
pub record AreQueues (queues : List (List Arrived)) (next : ℕ) : Type 0 where
  pub placed : (e : ℕ) → All (IsOn e) (queue_of queues e)
  pub rising : (e : ℕ) → AllPairs IsBefore (queue_of queues e)
  pub apart : (d e : ℕ) → d ≢ e → All (λ a. All (DiffersFrom a) (queue_of queues e)) (queue_of queues d)
  pub below : (e : ℕ) → All (IsBelow next) (queue_of queues e)

-- and they are counted; no more are unread than have arrived
pub record IsMailbox (queues : List (List Arrived)) (unread next : ℕ) : Type 0 where
  pub sorted : AreQueues queues next
  pub counted : unread ≡ length (in_order queues)
  pub few : unread ≤ next

-- ---- what is asked of them

-- new has the letters of old; it may have more empty queues
pub record SameQueues (old new : List (List Arrived)) : Type 0 where
  pub each : (e : ℕ) → queue_of new e ≡ queue_of old e
  pub order : in_order new ≡ in_order old

-- a letter was put last in the queue of the end e; there may be more empty queues
pub record PutsLast (old new : List (List Arrived)) (e : ℕ) (a : Arrived) : Type 0 where
  pub wide : List (List Arrived)
  pub same : SameQueues old wide
  pub within : e < length wide
  pub put : new ≡ slice_set wide e (queue_of wide e ++ a ∷ [])

-- the number of the first letter that waits at an end, where that is linked
abbrev pub waiting : List EndState → List (List Arrived) → ℕ → Option ℕ
waiting ends queues e = if is_linked_at ends e then option_map (λ (a : Arrived). a.number) (slice_get (queue_of queues e) 0) else None

-- the number of the first letter that waits at an end
abbrev pub first_number : List (List Arrived) → ℕ → Option ℕ
first_number queues e = option_map (λ (a : Arrived). a.number) (slice_get (queue_of queues e) 0)

-- no letter waits at a linked end before this one
pub record IsEarliest (ends : List EndState) (queues : List (List Arrived)) (e : ℕ) : Type 0 where
  pub number : ℕ
  pub waits : waiting ends queues e ≡ Some number
  pub least : (j m : ℕ) → waiting ends queues j ≡ Some m → number ≤ m

-- no letter waits at any end before this one
pub record IsEarliestOfAll (queues : List (List Arrived)) (e : ℕ) : Type 0 where
  pub number : ℕ
  pub within : e < length queues
  pub waits : first_number queues e ≡ Some number
  pub least : (j m : ℕ) → first_number queues j ≡ Some m → number ≤ m
