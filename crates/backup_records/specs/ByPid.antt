-- The records in a map by the numbers of the processes.
use Rattle.std.specs.Prelude.{ℕ, ◌≡◌, ◌==◌, if◌then◌else◌, List, [], ◌∷◌, ◌++◌, map}
use Rattle.std.specs.BTreeMap.{is_at}
use Rattle.std.specs.List.{AllByRecursion}
use Rattle.std.specs.List.Sorted.{IsStrictlySortedBy}
use Rattle.std.specs.Map.{keys_of, lookup, remove_entry}
use Rattle.std.specs.Option.{option_to_list}
use Rattle.std.specs.Ordering.{nat_cmp}
use Rattle.t32_base.specs.declared.letter.BackRec.{BackRec}

-- the key of a record is the number of its process
abbrev pub IsOwn : ℕ × BackRec → Type 0
IsOwn e = e.0 ≡ ((e.1).pid).0

-- the keys rise, and each record has its own
pub record IsByPid (es : List (ℕ × BackRec)) : Type 0 where
  pub ordered : IsStrictlySortedBy nat_cmp (keys_of es)
  pub own : AllByRecursion IsOwn es

-- the record at a key was changed
abbrev pub changed_at : ℕ → (BackRec → BackRec) → List (ℕ × BackRec) → List (ℕ × BackRec)
changed_at k change es = map (λ (e : ℕ × BackRec). if e.0 == k then (e.0, change e.1) else e) es

-- the entries without those of some keys, taken out in turn
abbrev pub left_after : List ℕ → List (ℕ × BackRec) → List (ℕ × BackRec)
left_after [] es = es
left_after (k ∷ ks) es = left_after ks (remove_entry (is_at (nat_cmp k)) es)

-- the records that were there at these keys
abbrev pub taken_at : List ℕ → List (ℕ × BackRec) → List BackRec
taken_at [] es = []
taken_at (k ∷ ks) es = option_to_list (lookup (is_at (nat_cmp k)) es) ++ taken_at ks (remove_entry (is_at (nat_cmp k)) es)
