-- Small lists, by which the definitions can be compared with their comments.
use Rattle.std.proofs.Common.{◌≡◌, ℕ, true, false, [], ◌∷◌, get_or, refl}
use Rattle.t32_base.specs.declared.process.Pid.{Pid}
use Rattle.t32_base.specs.declared.letter.Letter.{Letter}
use Rattle.t32_base.specs.declared.letter.To.{To}
use Rattle.t32_base.specs.declared.letter.Body.TheVariants.{EndOf, Signal}
use Rattle.write_count.specs.Counting.{counts_of, no_counts, total_of, withheld, left_after}

-- that the end `out` is shut
abbrev shut : Pid → To → ℕ → Letter
shut p t out = record { from = p; out = out; to = t; body = EndOf }

abbrev signal : Pid → To → Letter
signal p t = record { from = p; out = 0; to = t; body = Signal 11 }

-- Two letters of end 3, one of end 0 and a signal.
ends_counted : (p : Pid) (t : To) → get_or (counts_of (shut p t 3 ∷ shut p t 0 ∷ signal p t ∷ shut p t 3 ∷ [])).ends 3 0 ≡ 2
ends_counted p t = refl

first_end_counted : (p : Pid) (t : To) → get_or (counts_of (shut p t 3 ∷ shut p t 0 ∷ signal p t ∷ shut p t 3 ∷ [])).ends 0 0 ≡ 1
first_end_counted p t = refl

signals_counted : (p : Pid) (t : To) → (counts_of (shut p t 3 ∷ shut p t 0 ∷ signal p t ∷ shut p t 3 ∷ [])).signals ≡ 1
signals_counted p t = refl

all_counted : (p : Pid) (t : To) → total_of (counts_of (shut p t 3 ∷ shut p t 0 ∷ signal p t ∷ shut p t 3 ∷ [])) ≡ 4
all_counted p t = refl

-- Of two that were counted, two are withheld, and neither the third nor one of another end.
two_withheld : (p : Pid) (t : To) → withheld (counts_of (shut p t 0 ∷ shut p t 0 ∷ [])) (shut p t 0 ∷ shut p t 1 ∷ shut p t 0 ∷ shut p t 0 ∷ []) ≡ true ∷ false ∷ true ∷ false ∷ []
two_withheld p t = refl

none_left : (p : Pid) (t : To) → left_after (counts_of (shut p t 0 ∷ signal p t ∷ [])) (shut p t 0 ∷ signal p t ∷ []) ≡ no_counts
none_left p t = refl
