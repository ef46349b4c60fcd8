-- What a page server keeps beside its fetches, so that it knows of one that no other of its page waits.
use Rattle.std.specs.Prelude.{ℕ, ◌≡◌, ◌≤◌, ◌+◌, ◌==◌, ◌&&◌, not, if◌then◌else◌, filter, Bool, true, false, Option, None, Some, List, [], ◌∷◌}
use Rattle.std.specs.declared.cmp.Ordering.{Ordering}
use Rattle.std.specs.BTreeMap.{BTreeMap, get}
use Rattle.std.specs.Ordering.{nat_cmp, ordering_then}
use Rattle.t32_base.specs.declared.process.Pid.{Pid}

-- the pages of all processes are ordered by their process, and those of one by their numbers
abbrev pub page_cmp : ℕ × ℕ → ℕ × ℕ → Ordering
page_cmp p q = ordering_then (nat_cmp p.0 q.0) (nat_cmp p.1 q.1)

-- how many fetches of a page of a process wait
abbrev pub waits : ℕ → ℕ → List (Pid × ℕ) → ℕ
waits pid i [] = 0
waits pid i (f ∷ fetches) = (if (f.0).0 == pid && f.1 == i then 1 else 0) + waits pid i fetches

-- a page without a note has no fetch, and one that is noted with false has at most one
abbrev pub Fits : Option Bool → ℕ → Type 0
Fits None n = n ≡ 0
Fits (Some false) n = n ≤ 1
Fits (Some true) n = Unit {0}

abbrev pub Notes : Type 0
Notes = BTreeMap (ℕ × ℕ) Bool

-- each page of each process has as many fetches as its note allows
abbrev pub Noted : Notes → List (Pid × ℕ) → Type 0
Noted notes fetches = (pid i : ℕ) → Fits (get page_cmp notes (pid, i)) (waits pid i fetches)

-- the notes of the pages of other processes
abbrev pub notes_without : Pid → List ((ℕ × ℕ) × Bool) → List ((ℕ × ℕ) × Bool)
notes_without pid notes = filter (λ (note : (ℕ × ℕ) × Bool). not ((note.0).0 == pid.0)) notes
