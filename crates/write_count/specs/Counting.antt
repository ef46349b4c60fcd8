-- The counts of the letters that a process sent since its last synchronisation: one for each end, and one for signals.
use Rattle.std.specs.Prelude.{ℕ, ◌+◌, ◌-◌, Bool, true, false, ◌==◌, List, [], ◌∷◌, map, sum, count_by, replicate, slice_index, slice_set, nat_lt}
use Rattle.std.specs.List.{range_with_len}
use Rattle.t32_base.specs.declared.process.Counts.{Counts}
use Rattle.t32_base.specs.declared.letter.Letter.{Letter}
use Rattle.t32_base.specs.declared.letter.Body.{Body}
use Rattle.t32_base.specs.declared.letter.Body.TheVariants.{Said, EndOf, Signal}

-- ---- the counts of a list of letters

abbrev pub is_signal : Body → Bool
is_signal (Said bytes) = false
is_signal EndOf = false
is_signal (Signal signal) = true

-- a letter of bytes, or one that an end is shut, leaves from the end `out`; a signal leaves from none
abbrev pub leaves_from : ℕ → ℕ → Body → Bool
leaves_from end out (Said bytes) = out == end
leaves_from end out EndOf = out == end
leaves_from end out (Signal signal) = false

-- how many letters of a list left from each of the 32 ends, and how many are signals
abbrev pub counts_of : List Letter → Counts
counts_of letters = record {
  ends = map (λ end. count_by (λ (letter : Letter). leaves_from end letter.out letter.body) letters) (range_with_len 0 32);
  signals = count_by (λ (letter : Letter). is_signal letter.body) letters;
}

-- no letter is counted
abbrev pub no_counts : Counts
no_counts = record { ends = replicate 32 0; signals = 0 }

-- all counts together
abbrev pub total_of : Counts → ℕ
total_of counts = sum counts.ends + counts.signals

-- ---- the count of one letter

-- the count of the end `out`, or of signals
abbrev pub count_at : Counts → ℕ → Body → ℕ
count_at counts out (Said bytes) = slice_index counts.ends out
count_at counts out EndOf = slice_index counts.ends out
count_at counts out (Signal signal) = counts.signals

-- the same counts but for that one
abbrev pub with_count_at : Counts → ℕ → Body → ℕ → Counts
with_count_at counts out (Said bytes) n = record counts { ends = slice_set counts.ends out n }
with_count_at counts out EndOf n = record counts { ends = slice_set counts.ends out n }
with_count_at counts out (Signal signal) n = record counts { signals = n }

-- the count that a letter is counted in
abbrev pub count_for : Counts → Letter → ℕ
count_for counts letter = count_at counts letter.out letter.body

-- the letter is counted: its count alone is one more
abbrev pub raised : Counts → Letter → Counts
raised counts letter = with_count_at counts letter.out letter.body (count_for counts letter + 1)

-- the letter is counted no more: its count alone is one less, and where it is 0 all stay
abbrev pub lowered : Counts → Letter → Counts
lowered counts letter = with_count_at counts letter.out letter.body (count_for counts letter - 1)

-- ---- withholding along a list

-- the answers: a letter is withheld where its count is above 0, which is then one less
abbrev pub withheld : Counts → List Letter → List Bool
withheld counts [] = []
withheld counts (letter ∷ rest) = nat_lt 0 (count_for counts letter) ∷ withheld (lowered counts letter) rest

-- the counts after it
abbrev pub left_after : Counts → List Letter → Counts
left_after counts [] = counts
left_after counts (letter ∷ rest) = left_after (lowered counts letter) rest
