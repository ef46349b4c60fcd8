-- The fields of a line, cut off one after another.
use Rattle.std.proofs.Common.{◌≡◌, ℕ, List, [], ◌∷◌, Ok, Err, refl, ap}
use Rattle.sys_text.specs.declared.refusal.Rule.{Rule}
use Rattle.sys_text.specs.declared.refusal.Rule.TheVariants.{FieldCount}
use Rattle.sys_text.specs.Line.{no_field, file_header, root_fields}

pub none_left : (fields : List (List ℕ)) (done : Unit {0}) → no_field fields ≡ Ok done → fields ≡ []
none_left [] done e = refl
none_left (field ∷ fields) done e = absurd cc

-- seven fields, and the others
pub seven : (all r1 r2 r3 r4 r5 r6 r7 : List (List ℕ)) (a b c d e f g : List ℕ) → all ≡ a ∷ r1 → r1 ≡ b ∷ r2 → r2 ≡ c ∷ r3 → r3 ≡ d ∷ r4 → r4 ≡ e ∷ r5 → r5 ≡ f ∷ r6 → r6 ≡ g ∷ r7 → all ≡ a ∷ b ∷ c ∷ d ∷ e ∷ f ∷ g ∷ r7
seven all r1 r2 r3 r4 r5 r6 r7 a b c d e f g h1 h2 h3 h4 h5 h6 h7 = rw (h1, h2, h3, h4, h5, h6, h7) refl

pub root_more : (a b c d e f g : List ℕ) (rest : List (List ℕ)) (rule : Rule) → no_field rest ≡ Err rule → root_fields (a ∷ b ∷ c ∷ d ∷ e ∷ f ∷ g ∷ rest) ≡ Err rule
root_more a b c d e f g [] rule h = absurd cc
root_more a b c d e f g (field ∷ rest) rule h = let same : FieldCount ≡ rule = cc in ap Err same

-- three fields, and the others
pub three : (all r1 r2 r3 : List (List ℕ)) (a b c : List ℕ) → all ≡ a ∷ r1 → r1 ≡ b ∷ r2 → r2 ≡ c ∷ r3 → all ≡ a ∷ b ∷ c ∷ r3
three all r1 r2 r3 a b c h1 h2 h3 = rw (h1, h2, h3) refl

pub file_more : (a b c : List ℕ) (rest : List (List ℕ)) (rule : Rule) → no_field rest ≡ Err rule → file_header (a ∷ b ∷ c ∷ rest) ≡ Err rule
file_more a b c [] rule h = absurd cc
file_more a b c (field ∷ rest) rule h = let same : FieldCount ≡ rule = cc in ap Err same
