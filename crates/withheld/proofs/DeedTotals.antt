-- What is counted of the deeds of a process: one more with each letter that it sends and each child that it forks.
use Rattle.std.proofs.Common.{◌≡◌, ℕ, ◌+◌, ◌<◌, refl, sym, ◌∙◌, ap, subst, arith, List, [], ◌∷◌, ◌++◌, append-nil, length, length-append, Bool, true, false, cond}
use Rattle.std.proofs.lemmas.Grind.{flat_map-append}
use Rattle.t32_base.specs.declared.process.Pid.{Pid}
use Rattle.t32_base.specs.declared.process.End.{End}
use Rattle.t32_base.specs.declared.letter.Letter.{Letter}
use Rattle.write_count.specs.Counting.{counts_of, total_of}
use Rattle.write_count.proofs.CountLaws.{counts_of-append, length-counts_of, total_of-raised}
use Rattle.sys_calls.specs.declared.steps.Emission.TheVariants.{Mail as Sent, Exit as Ended}
use Rattle.bus_msg.specs.declared.entry.What.{What}
use Rattle.bus_msg.specs.declared.entry.What.TheVariants.{Mail, Birth, Exit}
use Rattle.bus_msg.specs.Places.{same_pid}
use Rattle.roll_forward.specs.Deeds.{Deed, Bears, Sends, births_in, child_in, letter_in, letters_in}
use Rattle.cert_sched.specs.Deeds.{deeds_in}
use Rattle.withheld.specs.Counts.{deeds_told, total_in}

-- a letter more
letter_more : (deeds : List Deed) (letter : Letter) → letter.out < 32 → total_in (deeds ++ Sends (Sent letter) ∷ []) ≡ total_in deeds + 1
letter_more deeds letter out =
    let letters : letters_in (deeds ++ Sends (Sent letter) ∷ []) ≡ letters_in deeds ++ letter ∷ [] = flat_map-append letter_in deeds (Sends (Sent letter) ∷ []) in
    let births : births_in (deeds ++ Sends (Sent letter) ∷ []) ≡ births_in deeds = flat_map-append child_in deeds (Sends (Sent letter) ∷ []) ∙ append-nil (births_in deeds) in
    let within : letter.out < length (counts_of (letters_in deeds)).ends = subst (λ n. letter.out < n) (sym (length-counts_of (letters_in deeds))) out in
    let total : total_of (counts_of (letters_in (deeds ++ Sends (Sent letter) ∷ []))) ≡ total_of (counts_of (letters_in deeds)) + 1 =
    ap (λ ls. total_of (counts_of ls)) letters ∙ ap total_of (counts_of-append (letters_in deeds) letter out) ∙ total_of-raised (counts_of (letters_in deeds)) letter within in
    let born : length (births_in (deeds ++ Sends (Sent letter) ∷ [])) ≡ length (births_in deeds) = ap length births in
    omega (arith, total, born)

-- a child more
birth_more : (deeds : List Deed) (child : Pid) → total_in (deeds ++ Bears child ∷ []) ≡ total_in deeds + 1
birth_more deeds child =
    let letters : letters_in (deeds ++ Bears child ∷ []) ≡ letters_in deeds = flat_map-append letter_in deeds (Bears child ∷ []) ∙ append-nil (letters_in deeds) in
    let births : births_in (deeds ++ Bears child ∷ []) ≡ births_in deeds ++ child ∷ [] = flat_map-append child_in deeds (Bears child ∷ []) in
    let total : total_of (counts_of (letters_in (deeds ++ Bears child ∷ []))) ≡ total_of (counts_of (letters_in deeds)) = ap (λ ls. total_of (counts_of ls)) letters in
    let born : length (births_in (deeds ++ Bears child ∷ [])) ≡ length (births_in deeds) + 1 = ap length births ∙ length-append (births_in deeds) (child ∷ []) in
    omega (arith, total, born)

-- an exit is no letter and no birth
exit_same : (deeds : List Deed) (end : End) → total_in (deeds ++ Sends (Ended end) ∷ []) ≡ total_in deeds
exit_same deeds end =
    let letters : letters_in (deeds ++ Sends (Ended end) ∷ []) ≡ letters_in deeds = flat_map-append letter_in deeds (Sends (Ended end) ∷ []) ∙ append-nil (letters_in deeds) in
    let births : births_in (deeds ++ Sends (Ended end) ∷ []) ≡ births_in deeds = flat_map-append child_in deeds (Sends (Ended end) ∷ []) ∙ append-nil (births_in deeds) in
    λ i. total_of (counts_of (letters i)) + length (births i)

-- no deed
none_more : (deeds : List Deed) → total_in (deeds ++ []) ≡ total_in deeds + 0
none_more deeds = ap total_in (append-nil deeds) ∙ omega arith

-- the letter of an entry leaves from one of 32 ends
abbrev pub LeavesFromEnd : What → Type 0
LeavesFromEnd w = (at : ℕ) (letter : Letter) → w ≡ Mail at letter → letter.out < 32

-- the deeds that one entry more tells of
pub total_more : (p : Pid) (deeds : List Deed) (w : What) → LeavesFromEnd w → total_in (deeds ++ deeds_in p w) ≡ total_in deeds + deeds_told p w
total_more p deeds (Mail at letter) leaves = by_pid (same_pid letter.from p)
  where
    by_pid : (b : Bool) → total_in (deeds ++ cond b (Sends (Sent letter) ∷ []) []) ≡ total_in deeds + cond b 1 0
    by_pid true = letter_more deeds letter (leaves at letter refl)
    by_pid false = none_more deeds
total_more p deeds (Birth parent at child end) leaves = by_pid (same_pid parent p)
  where
    by_pid : (b : Bool) → total_in (deeds ++ cond b (Bears child ∷ []) []) ≡ total_in deeds + cond b 1 0
    by_pid true = birth_more deeds child
    by_pid false = none_more deeds
total_more p deeds (Exit q at end) leaves = by_pid (same_pid q p)
  where
    by_pid : (b : Bool) → total_in (deeds ++ cond b (Sends (Ended end) ∷ []) []) ≡ total_in deeds + 0
    by_pid true = exit_same deeds end ∙ omega arith
    by_pid false = none_more deeds
total_more p deeds _ leaves = none_more deeds
