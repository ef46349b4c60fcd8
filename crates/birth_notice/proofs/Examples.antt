-- Small families, by which the definitions can be compared with their comments.
use Rattle.std.proofs.Common.{◌≡◌, ℕ, true, false, not, List, [], ◌∷◌, filter, None, Some, refl}
use Rattle.t32_base.specs.declared.process.Pid.{Pid}
use Rattle.bus_msg.specs.Places.{same_pid}
use Rattle.birth_notice.specs.Family.{are_births, children_of, first_unsynced}

abbrev pid : ℕ → Pid
pid n = record { 0 = n }

-- the process p forks the child c
abbrev forks : ℕ → ℕ → Pid × Pid
forks p c = (pid p, pid c)

-- A child, its child, and the child of that: the last is first.
abbrev three_deep : List (Pid × Pid)
three_deep = forks 16 32 ∷ forks 32 48 ∷ forks 48 64 ∷ []

three_deep_is_one : are_births three_deep ≡ true
three_deep_is_one = refl

deepest_first : first_unsynced three_deep (pid 16) ≡ Some (pid 64)
deepest_first = refl

none_below_it : first_unsynced three_deep (pid 64) ≡ None
none_below_it = refl

-- Two children of which the higher one has a child: the lower one is first, and before the higher one its child.
abbrev higher_has_one : List (Pid × Pid)
higher_has_one = forks 16 48 ∷ forks 48 64 ∷ forks 16 32 ∷ []

both_children : children_of higher_has_one (pid 16) ≡ pid 48 ∷ pid 32 ∷ []
both_children = refl

lower_first : first_unsynced higher_has_one (pid 16) ≡ Some (pid 32)
lower_first = refl

then_child_of_higher : first_unsynced (filter (λ b. not (same_pid b.1 (pid 32))) higher_has_one) (pid 16) ≡ Some (pid 64)
then_child_of_higher = refl

-- Two children of which the lower one has a child: that is first, though its pid is higher than both.
lower_has_one : first_unsynced (forks 16 32 ∷ forks 16 48 ∷ forks 32 64 ∷ []) (pid 16) ≡ Some (pid 64)
lower_has_one = refl

-- A child that is gone leaves its own children there, and they are its own still.
left_alone : first_unsynced (filter (λ b. not (same_pid b.1 (pid 32))) three_deep) (pid 16) ≡ None
left_alone = refl

left_its_own : first_unsynced (filter (λ b. not (same_pid b.1 (pid 32))) three_deep) (pid 32) ≡ Some (pid 64)
left_its_own = refl

-- Refused: a child of its own, one with two parents, and a parent that is born after its child.
refused_own : are_births (forks 16 16 ∷ []) ≡ false
refused_own = refl

refused_twice : are_births (forks 16 48 ∷ forks 32 48 ∷ []) ≡ false
refused_twice = refl

refused_late : are_births (forks 32 48 ∷ forks 16 32 ∷ []) ≡ false
refused_late = refl
