-- What reading line by line names is the first line that breaks a rule, and the lowest rule that it breaks.
use Rattle.std.proofs.Common.{◌≡◌, ℕ, zero, suc, ◌+◌, ◌<◌, ◌≤◌, Bool, true, false, not, cond, eqb, List, [], ◌∷◌, ◌++◌, length, Option, Some, None, Result, Ok, Err, refl, sym, ap, ◌∙◌, arith, inl, inr, ◌⊎◌, append_assoc, append-nil, length-append, subst}
use Rattle.std.specs.List.{find}
use Rattle.std.specs.Option.{option_map}
use Rattle.std.specs.Prelude.{IfOk, IfErr}
use Rattle.std.proofs.lemmas.Bool.{cases_eq, eq-eqb, eqb-true, eqb-false}
use Rattle.std.proofs.lemmas.Bool.Decides.{nat_tests}
use Rattle.text_parts.specs.Lines.{are_printable, lines_of, fields_of}
use Rattle.rv_asm.specs.Program.{reading_of_lines}
use Rattle.rv_asm.specs.declared.refusal.Rule.{Rule as AsmRule}
use Rattle.rv_asm.specs.declared.refusal.Rule.TheVariants as asm_rules
use Rattle.sys_text.specs.declared.state.State.{State}
use Rattle.sys_text.specs.declared.system.System.{System}
use Rattle.sys_text.specs.declared.refusal.Rule.{Rule}
use Rattle.sys_text.specs.declared.refusal.Rule.TheVariants.{ForeignByte, Misplaced, FieldCount, FieldKind, Limit, Same, Name, Room, Assembler, Ended, Elf}
use Rattle.rv_elf.specs.declared.refusal.Rule.{Rule as ElfRule}
use Rattle.rv_elf.specs.declared.refusal.Rule.TheVariants as elf
use Rattle.sys_text.proofs.FileRules.{up_to_ten}
use Rattle.sys_text.proofs.LastLines.{elf_at_least_one, of_file_or_not, low_named, block_named, ends_behind_file}
use Rattle.sys_text.specs.declared.refusal.SystemRefused.{SystemRefused}
use Rattle.sys_text.specs.declared.refusal.SystemRefused.TheVariants as refusals
use Rattle.sys_text.specs.Refusal.{number_of_rule}
use Rattle.sys_text.specs.Rules.{breaks, rules, broken_by, closed_with, fit_open}
use Rattle.sys_text.specs.Reading.{Answer, Place, Outside, InBlock, nothing_yet, rule_in_block, is_end, last_line, may_end, ended, ended_in_block, close_block, kept, kept_line, step_outside, named, goes_on, reading_from, reading_of, system_of_lines}
use Rattle.sys_text.specs.RuleByRule.{place_with, place_after, breaks_outside, lacks_room, before_end, refuses_line, refuses_in, fails_to_assemble, may_end_at, ends_early, breaks_line, breaks_among, one_or_more, place_behind, system_at, IsSystemOf, IsFirstBroken, HasCause}
use Rattle.sys_text.specs.Answers.{Answers}
use Rattle.sys_text.proofs.BlockLines.{end_printable, is_foreign, PrintsTo, prints_from, AllPrint, refused_prints, words_print}

-- ---- the rules by their numbers

rule_of : ℕ → Rule
rule_of n =
    cond (eqb n 1) ForeignByte (cond (eqb n 2) Misplaced (cond (eqb n 3) FieldCount (cond (eqb n 4) FieldKind (cond (eqb n 5) Limit (cond (eqb n 6) Same (cond (eqb n 7) Name (cond (eqb n 8) Room (cond (eqb n 9) Assembler (cond (eqb n 10) Ended
    (cond (eqb n 11) (Elf elf.NoElf) (cond (eqb n 12) (Elf elf.Class) (cond (eqb n 13) (Elf elf.Machine) (cond (eqb n 14) (Elf elf.Compressed) (cond (eqb n 15) (Elf elf.Table) (cond (eqb n 16) (Elf elf.Dynamic) (cond (eqb n 17) (Elf elf.FileBytes) (cond (eqb n 18) (Elf elf.Outside) (cond (eqb n 19) (Elf elf.Overlap) (Elf elf.Entry)))))))))))))))))))

rule_of-number : (r : Rule) → rule_of (number_of_rule r) ≡ r
unfolding rule_of
rule_of-number ForeignByte = refl
rule_of-number Misplaced = refl
rule_of-number FieldCount = refl
rule_of-number FieldKind = refl
rule_of-number Limit = refl
rule_of-number Same = refl
rule_of-number Name = refl
rule_of-number Room = refl
rule_of-number Assembler = refl
rule_of-number Ended = refl
rule_of-number (Elf elf.NoElf) = refl
rule_of-number (Elf elf.Class) = refl
rule_of-number (Elf elf.Machine) = refl
rule_of-number (Elf elf.Compressed) = refl
rule_of-number (Elf elf.Table) = refl
rule_of-number (Elf elf.Dynamic) = refl
rule_of-number (Elf elf.FileBytes) = refl
rule_of-number (Elf elf.Outside) = refl
rule_of-number (Elf elf.Overlap) = refl
rule_of-number (Elf elf.Entry) = refl

same_rule : (a b : Rule) → number_of_rule a ≡ number_of_rule b → a ≡ b
same_rule a b e = sym (rule_of-number a) ∙ ap rule_of e ∙ rule_of-number b

at_least_one : (r : Rule) → 1 ≤ number_of_rule r
at_least_one ForeignByte = omega arith
at_least_one Misplaced = omega arith
at_least_one FieldCount = omega arith
at_least_one FieldKind = omega arith
at_least_one Limit = omega arith
at_least_one Same = omega arith
at_least_one Name = omega arith
at_least_one Room = omega arith
at_least_one Assembler = omega arith
at_least_one Ended = omega arith
at_least_one (Elf rule) = omega arith

-- the number behind k among the rules of a line: those behind 8 are the rules for files
abbrev next_number : ℕ → ℕ
next_number k = cond (eqb k 8) 11 (k + 1)

-- rules with the numbers from k to 20, but for 9 and 10
abbrev AreFrom : ℕ → List Rule → Type 0
AreFrom k [] = k ≡ 21
AreFrom k (r ∷ rs) = (number_of_rule r ≡ k) × AreFrom (next_number k) rs

rules_from : AreFrom 1 rules
rules_from = (refl, (refl, (refl, (refl, (refl, (refl, (refl, (refl, (refl, (refl, (refl, (refl, (refl, (refl, (refl, (refl, (refl, (refl, refl))))))))))))))))))

-- a rule that is asked of a line by itself: neither rule 9 nor rule 10
abbrev IsOwn : Rule → Type 0
IsOwn rule = (number_of_rule rule ≡ 9 → ⊥) × (number_of_rule rule ≡ 10 → ⊥)

-- what is found passes, is one of the list, and is the first that passes
record IsFound (p : Rule → Bool) (k : ℕ) (rule : Rule) : Type 0 where
  passes : p rule ≡ true
  own : IsOwn rule
  lowest : (lower : Rule) → IsOwn lower → k ≤ number_of_rule lower → number_of_rule lower < number_of_rule rule → p lower ≡ false

-- the numbers from k on are those from the next one on, but for k itself
from_next : (k n : ℕ) → (n ≡ 9 → ⊥) → (n ≡ 10 → ⊥) → (n ≡ k → ⊥) → k ≤ n → next_number k ≤ n
from_next k n no_9 no_10 other le = by_eight (eqb k 8) refl
  where
    by_eight : (b : Bool) → eqb k 8 ≡ b → next_number k ≤ n
    by_eight true e = let at = eqb-true k 8 e in rw e (behind at (cases_eq n 9) (cases_eq n 10))
      where
        behind : k ≡ 8 → (n ≡ 9) ⊎ (n ≡ 9 → ⊥) → (n ≡ 10) ⊎ (n ≡ 10 → ⊥) → 11 ≤ n
        behind at (inl nine) ten = absurd (no_9 nine)
        behind at (inr nine) (inl ten) = absurd (no_10 ten)
        behind at (inr nine) (inr ten) = omega (arith, at, nine, ten, other, le)
    by_eight false e = rw e (omega (arith, other, le))

-- each rule of the list is one that is asked of a line by itself
is_own : (k : ℕ) (xs : List Rule) (rule : Rule) → (k ≡ 9 → ⊥) → (k ≡ 10 → ⊥) → number_of_rule rule ≡ k → IsOwn rule
is_own k xs rule no_9 no_10 at = (λ nine. no_9 (sym at ∙ nine), λ ten. no_10 (sym at ∙ ten))

next_no_9 : (k : ℕ) → next_number k ≡ 9 → ⊥
next_no_9 k e = by_eight (eqb k 8) refl
  where
    by_eight : (b : Bool) → eqb k 8 ≡ b → ⊥
    by_eight true h = let f = rw h at e in absurd (omega (arith, f))
    by_eight false h = let f = rw h at e in eqb-false k 8 h (omega (arith, f))

next_no_10 : (k : ℕ) → (k ≡ 9 → ⊥) → next_number k ≡ 10 → ⊥
next_no_10 k no_9 e = by_eight (eqb k 8) refl
  where
    by_eight : (b : Bool) → eqb k 8 ≡ b → ⊥
    by_eight true h = let f = rw h at e in absurd (omega (arith, f))
    by_eight false h = let f = rw h at e in no_9 (omega (arith, f))

found : (p : Rule → Bool) (k : ℕ) (xs : List Rule) (rule : Rule) → (k ≡ 9 → ⊥) → (k ≡ 10 → ⊥) → AreFrom k xs → find p xs ≡ Some rule → IsFound p k rule
found p k [] rule no_9 no_10 are e = absurd cc
found p k (x ∷ xs) rule no_9 no_10 are e = by_test (λ f. found p (next_number k) xs rule (next_no_9 k) (next_no_10 k no_9) are.1 f) (p x) refl
  where
    by_test : (find p xs ≡ Some rule → IsFound p (next_number k) rule) → (b : Bool) → p x ≡ b → IsFound p k rule
    by_test next true h =
        let f = rw h at e in
        let same : x ≡ rule = cc in
        let number = ap number_of_rule same in
        record {
          passes = ap p (sym same) ∙ h;
          own = is_own k xs rule no_9 no_10 (sym number ∙ are.0);
          lowest = λ lower own le lt. absurd (omega (arith, number, are.0, le, lt));
        }
    by_test next false h =
        let f = next (rw h at e) in
        record {
          passes = f.passes;
          own = f.own;
          lowest = λ lower own le lt. elim (cases_eq (number_of_rule lower) k) [
            | inl here ↦ ap p (same_rule lower x (here ∙ sym are.0)) ∙ h
            | inr other ↦ f.lowest lower own (from_next k (number_of_rule lower) own.0 own.1 other le) lt
          ];
        }

up_to_20 : (rule : Rule) → number_of_rule rule ≤ 20
up_to_20 ForeignByte = omega arith
up_to_20 Misplaced = omega arith
up_to_20 FieldCount = omega arith
up_to_20 FieldKind = omega arith
up_to_20 Limit = omega arith
up_to_20 Same = omega arith
up_to_20 Name = omega arith
up_to_20 Room = omega arith
up_to_20 Assembler = omega arith
up_to_20 Ended = omega arith
up_to_20 (Elf rule) = omega (arith, up_to_ten rule)

none_found : (p : Rule → Bool) (k : ℕ) (xs : List Rule) (rule : Rule) → IsOwn rule → AreFrom k xs → find p xs ≡ None → k ≤ number_of_rule rule → p rule ≡ false
none_found p k [] rule own are e le = absurd (omega (arith, are, le, up_to_20 rule))
none_found p k (x ∷ xs) rule own are e le = by_test (λ next_le f. none_found p (next_number k) xs rule own are.1 f next_le) (p x) refl
  where
    by_test : (next_number k ≤ number_of_rule rule → find p xs ≡ None → p rule ≡ false) → (b : Bool) → p x ≡ b → p rule ≡ false
    by_test next true h = let f = rw h at e in absurd cc
    by_test next false h =
        let f = rw h at e in
        elim (cases_eq (number_of_rule rule) k) [
          | inl here ↦ ap p (same_rule rule x (here ∙ sym are.0)) ∙ h
          | inr other ↦ next (from_next k (number_of_rule rule) own.0 own.1 other le) f
        ]

-- ---- a line

-- the line breaks none of the rules 1 to 9, nor one for files
record Keeps (place : Place) (n : ℕ) (line : List ℕ) (after : List (List ℕ)) : Type 0 where
  foreign : not (are_printable line) ≡ false
  fields : (rule : Rule) → number_of_rule rule ≤ 8 → breaks_outside place line rule ≡ false
  file : (rule : ElfRule) → breaks_outside place line (Elf rule) ≡ false
  room : lacks_room place line ≡ false
  assembler : fails_to_assemble place n (line ∷ after) ≡ false

below_ended : (place : Place) (n : ℕ) (line : List ℕ) (after : List (List ℕ)) → Keeps place n line after → (rule : Rule) → number_of_rule rule < 10 → breaks_line place n line after rule ≡ false
below_ended place n line after k ForeignByte lt = k.foreign
below_ended place n line after k Misplaced lt = k.fields Misplaced (omega arith)
below_ended place n line after k FieldCount lt = k.fields FieldCount (omega arith)
below_ended place n line after k FieldKind lt = k.fields FieldKind (omega arith)
below_ended place n line after k Limit lt = k.fields Limit (omega arith)
below_ended place n line after k Same lt = k.fields Same (omega arith)
below_ended place n line after k Name lt = k.fields Name (omega arith)
below_ended place n line after k Room lt = k.room
below_ended place n line after k Assembler lt = k.assembler
below_ended place n line after k Ended lt = absurd (omega (arith, lt))
below_ended place n line after k (Elf rule) lt = absurd (omega (arith, lt))

none_at_all : (place : Place) (n : ℕ) (line : List ℕ) (after : List (List ℕ)) → Keeps place n line after → ends_early (place_after place n line) after ≡ false → (rule : Rule) → breaks_line place n line after rule ≡ false
none_at_all place n line after k goes_on Ended = goes_on
none_at_all place n line after k goes_on ForeignByte = k.foreign
none_at_all place n line after k goes_on Misplaced = k.fields Misplaced (omega arith)
none_at_all place n line after k goes_on FieldCount = k.fields FieldCount (omega arith)
none_at_all place n line after k goes_on FieldKind = k.fields FieldKind (omega arith)
none_at_all place n line after k goes_on Limit = k.fields Limit (omega arith)
none_at_all place n line after k goes_on Same = k.fields Same (omega arith)
none_at_all place n line after k goes_on Name = k.fields Name (omega arith)
none_at_all place n line after k goes_on Room = k.room
none_at_all place n line after k goes_on Assembler = k.assembler
none_at_all place n line after k goes_on (Elf rule) = k.file rule

-- outside blocks the rules of a line by itself are those of `breaks`
outside_rule : (state : State) (n : ℕ) (line : List ℕ) (after : List (List ℕ)) (rule : Rule) → IsOwn rule → breaks_line (Outside state) n line after rule ≡ breaks state line rule
outside_rule state n line after ForeignByte own = refl
outside_rule state n line after Misplaced own = refl
outside_rule state n line after FieldCount own = refl
outside_rule state n line after FieldKind own = refl
outside_rule state n line after Limit own = refl
outside_rule state n line after Same own = refl
outside_rule state n line after Name own = refl
outside_rule state n line after Room own = refl
outside_rule state n line after Assembler own = absurd (own.0 refl)
outside_rule state n line after Ended own = absurd (own.1 refl)
outside_rule state n line after (Elf rule) own = refl

-- below a rule that the line breaks no rule is broken, where this is known of rule 10
lower_outside : (state : State) (n : ℕ) (line : List ℕ) (after : List (List ℕ)) (rule : Rule) → IsFound (breaks state line) 1 rule → (lower : Rule) → number_of_rule lower < number_of_rule rule → (lower ≡ Ended → ends_early (place_after (Outside state) n line) after ≡ false) → breaks_line (Outside state) n line after lower ≡ false
lower_outside state n line after rule f ForeignByte lt early = f.lowest ForeignByte (λ e. absurd (omega (arith, e)), λ e. absurd (omega (arith, e))) (omega arith) lt
lower_outside state n line after rule f Misplaced lt early = f.lowest Misplaced (λ e. absurd (omega (arith, e)), λ e. absurd (omega (arith, e))) (omega arith) lt
lower_outside state n line after rule f FieldCount lt early = f.lowest FieldCount (λ e. absurd (omega (arith, e)), λ e. absurd (omega (arith, e))) (omega arith) lt
lower_outside state n line after rule f FieldKind lt early = f.lowest FieldKind (λ e. absurd (omega (arith, e)), λ e. absurd (omega (arith, e))) (omega arith) lt
lower_outside state n line after rule f Limit lt early = f.lowest Limit (λ e. absurd (omega (arith, e)), λ e. absurd (omega (arith, e))) (omega arith) lt
lower_outside state n line after rule f Same lt early = f.lowest Same (λ e. absurd (omega (arith, e)), λ e. absurd (omega (arith, e))) (omega arith) lt
lower_outside state n line after rule f Name lt early = f.lowest Name (λ e. absurd (omega (arith, e)), λ e. absurd (omega (arith, e))) (omega arith) lt
lower_outside state n line after rule f Room lt early = f.lowest Room (λ e. absurd (omega (arith, e)), λ e. absurd (omega (arith, e))) (omega arith) lt
lower_outside state n line after rule f Assembler lt early = refl
lower_outside state n line after rule f Ended lt early = early refl
lower_outside state n line after rule f (Elf lower) lt early = f.lowest (Elf lower) (λ e. absurd (omega (arith, e, elf_at_least_one lower)), λ e. absurd (omega (arith, e, elf_at_least_one lower))) (omega arith) lt

keeps_outside : (state : State) (n : ℕ) (line : List ℕ) (after : List (List ℕ)) → broken_by state line ≡ None → Keeps (Outside state) n line after
keeps_outside state n line after e =
    let none = λ (rule : Rule) (own : IsOwn rule). none_found (breaks state line) 1 rules rule own rules_from e (at_least_one rule) in
    let file = λ (rule : ElfRule). none (Elf rule) (λ e. absurd (omega (arith, e, elf_at_least_one rule)), λ e. absurd (omega (arith, e, elf_at_least_one rule))) in
    record {
      foreign = none ForeignByte (λ e. absurd (omega (arith, e)), λ e. absurd (omega (arith, e)));
      fields = λ rule le. none rule (λ e. absurd (omega (arith, e, le)), λ e. absurd (omega (arith, e, le)));
      file = file;
      room = none Room (λ e. absurd (omega (arith, e)), λ e. absurd (omega (arith, e)));
      assembler = refl;
    }

more_follow : (place : Place) (after : List (List ℕ)) → 0 < length after → ends_early place after ≡ false
more_follow place [] some = absurd (omega (arith, some))
more_follow place (line ∷ lines) some = refl

-- ---- the first line of some that breaks a rule

record FirstAmong (place : Place) (n : ℕ) (lines : List (List ℕ)) (m : ℕ) (rule : Rule) : Type 0 where
  before : ℕ
  number : m ≡ n + before + 1
  broken : breaks_among place n lines before rule ≡ true
  lowest : (lower : Rule) → number_of_rule lower < number_of_rule rule → breaks_among place n lines before lower ≡ false
  first : (i : ℕ) (other : Rule) → i < before → breaks_among place n lines i other ≡ false

now : (place : Place) (n : ℕ) (line : List ℕ) (lines : List (List ℕ)) (rule : Rule) → breaks_line place (n + 1) line lines rule ≡ true → ((lower : Rule) → number_of_rule lower < number_of_rule rule → breaks_line place (n + 1) line lines lower ≡ false)
    → FirstAmong place n (line ∷ lines) (n + 1) rule
now place n line lines rule broken lowest = record {
  before = 0;
  number = omega arith;
  broken = broken;
  lowest = lowest;
  first = λ i other lt. absurd (omega (arith, lt));
}

later : (place : Place) (n : ℕ) (line : List ℕ) (lines : List (List ℕ)) (m : ℕ) (rule : Rule) → ((other : Rule) → breaks_line place (n + 1) line lines other ≡ false) → FirstAmong (place_after place (n + 1) line) (n + 1) lines m rule
    → FirstAmong place n (line ∷ lines) m rule
later place n line lines m rule none r = record {
  before = suc r.before;
  number = omega (arith, r.number);
  broken = r.broken;
  lowest = r.lowest;
  first = first_of;
}
  where
    first_of : (i : ℕ) (other : Rule) → i < suc r.before → breaks_among place n (line ∷ lines) i other ≡ false
    first_of zero other lt = none other
    first_of (suc i) other lt = r.first i other (omega (arith, lt))

-- the last line, behind which the text may not end
last : (place : Place) (n : ℕ) (line : List ℕ) → Keeps place (n + 1) line [] → ends_early (place_after place (n + 1) line) [] ≡ true → FirstAmong place n (line ∷ []) (n + 1) Ended
last place n line k early = now place n line [] Ended early (λ lower lt. below_ended place (n + 1) line [] k lower lt)

-- a byte that is not printable
foreign_line : (place : Place) (n : ℕ) (line : List ℕ) (lines : List (List ℕ)) → not (are_printable line) ≡ true → FirstAmong place n (line ∷ lines) (n + 1) ForeignByte
foreign_line place n line lines e = now place n line lines ForeignByte e (λ lower lt. absurd (omega (arith, lt, at_least_one lower)))

abbrev err_in : ℕ × Rule → Answer → ℕ × Rule
err_in other (Ok system) = other
err_in other (Err refused) = refused

-- what is refused is what is named
renamed : (place : Place) (n : ℕ) (lines : List (List ℕ)) (a b : ℕ × Rule) → ◌≡◌ {A = Answer} (Err a) (Err b) → FirstAmong place n lines a.0 a.1 → FirstAmong place n lines b.0 b.1
renamed place n lines a b e r = subst (λ (x : ℕ × Rule). FirstAmong place n lines x.0 x.1) (ap (err_in a) e) r

-- what is found behind n lines: rule 10 at the last of them, or the first among those that follow
abbrev Found : Place → ℕ → List (List ℕ) → ℕ → Rule → Type 0
Found place n [] m rule = 0 < n → (m ≡ n) × (rule ≡ Ended) × (may_end_at place ≡ false)
Found place n (line ∷ lines) m rule = FirstAmong place n (line ∷ lines) m rule

-- a line that keeps the rules 1 to 9, and what is found behind it
behind : (place next : Place) (n : ℕ) (line : List ℕ) (lines : List (List ℕ)) (m : ℕ) (rule : Rule) → Keeps place (n + 1) line lines → place_after place (n + 1) line ≡ next → Found next (n + 1) lines m rule → FirstAmong place n (line ∷ lines) m rule
behind place next n line [] m rule k is f =
    let d = f (omega arith) in
    let early : ends_early (place_after place (n + 1) line) [] ≡ true = ap (λ (p : Place). not (may_end_at p)) is ∙ ap not d.2 in
    rw (d.0, d.1) (last place n line k early)
behind place next n line (l ∷ ls) m rule k is f = later place n line (l ∷ ls) m rule (none_at_all place (n + 1) line (l ∷ ls) k refl) (subst (λ (p : Place). FirstAmong p (n + 1) (l ∷ ls) m rule) (sym is) f)

-- ---- an assembler block

-- no line ends the block
abbrev IsOpen : List (List ℕ) → Type 0
IsOpen [] = Unit {0}
IsOpen (line ∷ lines) = (is_end (fields_of line) ≡ false) × IsOpen lines

open_more : (block : List (List ℕ)) (line : List ℕ) → IsOpen block → is_end (fields_of line) ≡ false → IsOpen (block ++ line ∷ [])
open_more [] line o e = (e, tt)
open_more (b ∷ block) line o e = (o.0, open_more block line o.1 e)

open_none : (lines : List (List ℕ)) → IsOpen lines → before_end lines ≡ None
open_none [] o = refl
open_none (line ∷ lines) o = rw (o.0, open_none lines o.1) refl

open_end : (lines : List (List ℕ)) (end : List ℕ) (after : List (List ℕ)) → IsOpen lines → is_end (fields_of end) ≡ true → before_end (lines ++ end ∷ after) ≡ Some lines
open_end [] end after o e = rw e refl
open_end (line ∷ lines) end after o e = rw (o.0, open_end lines end after o.1 e) refl

some_after : (lines : List (List ℕ)) (end : List ℕ) (after : List (List ℕ)) → 0 < length (lines ++ end ∷ after)
some_after [] end after = omega arith
some_after (line ∷ lines) end after = omega arith

eqb-above : (a b : ℕ) → b < a → eqb a b ≡ false
eqb-above a b lt = grind (arith, nat_tests)

foreign_or_not : (rule : AsmRule) → ((is_foreign rule ≡ true) × (rule_in_block rule ≡ ForeignByte)) ⊎ ((is_foreign rule ≡ false) × (rule_in_block rule ≡ Assembler))
foreign_or_not asm_rules.ForeignByte = inl (refl, refl)
foreign_or_not asm_rules.UnknownWord = inr (refl, refl)
foreign_or_not asm_rules.BadForm = inr (refl, refl)
foreign_or_not asm_rules.NumberRange = inr (refl, refl)
foreign_or_not asm_rules.DefinedTwice = inr (refl, refl)
foreign_or_not asm_rules.NeverDefined = inr (refl, refl)
foreign_or_not asm_rules.TooFar = inr (refl, refl)
foreign_or_not asm_rules.TooLong = inr (refl, refl)

module _ (state : State) (header : ℕ) where
  same_place : (done : List (List ℕ)) (n : ℕ) (line : List ℕ) → is_end (fields_of line) ≡ false → place_after (InBlock state header done) n line ≡ InBlock state header (done ++ line ∷ [])
  same_place done n line e = rw e refl

  no_room_asked : (done : List (List ℕ)) (line : List ℕ) → is_end (fields_of line) ≡ false → lacks_room (InBlock state header done) line ≡ false
  no_room_asked done line e = rw e refl

  below_assembler : (done : List (List ℕ)) (n : ℕ) (line : List ℕ) (after : List (List ℕ)) → not (are_printable line) ≡ false → lacks_room (InBlock state header done) line ≡ false → (rule : Rule) → number_of_rule rule < 9 → breaks_line (InBlock state header done) n line after rule ≡ false
  below_assembler done n line after printable room ForeignByte lt = printable
  below_assembler done n line after printable room Misplaced lt = refl
  below_assembler done n line after printable room FieldCount lt = refl
  below_assembler done n line after printable room FieldKind lt = refl
  below_assembler done n line after printable room Limit lt = refl
  below_assembler done n line after printable room Same lt = refl
  below_assembler done n line after printable room Name lt = refl
  below_assembler done n line after printable room Room lt = room
  below_assembler done n line after printable room Assembler lt = absurd (omega (arith, lt))
  below_assembler done n line after printable room Ended lt = absurd (omega (arith, lt))
  below_assembler done n line after printable room (Elf rule) lt = absurd (omega (arith, lt))

  below_room : (done : List (List ℕ)) (n : ℕ) (line : List ℕ) (after : List (List ℕ)) → not (are_printable line) ≡ false → (rule : Rule) → number_of_rule rule < 8 → breaks_line (InBlock state header done) n line after rule ≡ false
  below_room done n line after printable ForeignByte lt = printable
  below_room done n line after printable Misplaced lt = refl
  below_room done n line after printable FieldCount lt = refl
  below_room done n line after printable FieldKind lt = refl
  below_room done n line after printable Limit lt = refl
  below_room done n line after printable Same lt = refl
  below_room done n line after printable Name lt = refl
  below_room done n line after printable Room lt = absurd (omega (arith, lt))
  below_room done n line after printable Assembler lt = absurd (omega (arith, lt))
  below_room done n line after printable Ended lt = absurd (omega (arith, lt))
  below_room done n line after printable (Elf rule) lt = absurd (omega (arith, lt))

  -- a line that is not the end, and that the assembler does not refuse
  keeps_inside : (done : List (List ℕ)) (n : ℕ) (line : List ℕ) (after : List (List ℕ)) → not (are_printable line) ≡ false → is_end (fields_of line) ≡ false → fails_to_assemble (InBlock state header done) n (line ∷ after) ≡ false
      → Keeps (InBlock state header done) n line after
  keeps_inside done n line after printable e assembler = record { foreign = printable; fields = λ rule le. refl; file = λ rule. refl; room = no_room_asked done line e; assembler = assembler }

  none_inside : (done : List (List ℕ)) (n : ℕ) (line : List ℕ) (lines : List (List ℕ)) → 0 < length lines → Keeps (InBlock state header done) (n + 1) line lines → (rule : Rule) → breaks_line (InBlock state header done) (n + 1) line lines rule ≡ false
  none_inside done n line lines some k = none_at_all (InBlock state header done) (n + 1) line lines k (more_follow (place_after (InBlock state header done) (n + 1) line) lines some)

  -- one line of the block further
  later_inside : (done : List (List ℕ)) (n : ℕ) (line : List ℕ) (lines : List (List ℕ)) (m : ℕ) (rule : Rule) → 0 < length lines → is_end (fields_of line) ≡ false → Keeps (InBlock state header done) (n + 1) line lines
      → FirstAmong (InBlock state header (done ++ line ∷ [])) (n + 1) lines m rule → FirstAmong (InBlock state header done) n (line ∷ lines) m rule
  later_inside done n line lines m rule some e k r =
      later (InBlock state header done) n line lines m rule (none_inside done n line lines some k)
      (subst (λ (p : Place). FirstAmong p (n + 1) lines m rule) (sym (same_place done (n + 1) line e)) r)

  -- ---- a block without an end

  not_assembled : (done : List (List ℕ)) (n : ℕ) (lines : List (List ℕ)) → IsOpen lines → fails_to_assemble (InBlock state header done) n lines ≡ false
  not_assembled done n lines o = ap (λ (b : Option (List (List ℕ))). refuses_in header n (option_map (λ rest. done ++ rest) b)) (open_none lines o)

  unended : (done : List (List ℕ)) (n : ℕ) (line : List ℕ) (lines : List (List ℕ)) (m : ℕ) (rule : Rule) → IsOpen (line ∷ lines) → ended_in_block n (line ∷ lines) ≡ Err (m, rule) → FirstAmong (InBlock state header done) n (line ∷ lines) m rule
  unended done n line [] m rule o e = by_byte (are_printable line) refl
    where
      by_byte : (b : Bool) → are_printable line ≡ b → FirstAmong (InBlock state header done) n (line ∷ []) m rule
      by_byte true h =
          let f = rw h at e in
          let k = keeps_inside done (n + 1) line [] (ap not h) o.0 (not_assembled done (n + 1) (line ∷ []) o) in
          renamed (InBlock state header done) n (line ∷ []) (n + 1, Ended) (m, rule) f (last (InBlock state header done) n line k (ap (λ (p : Place). ends_early p []) (same_place done (n + 1) line o.0)))
      by_byte false h = let f = rw h at e in renamed (InBlock state header done) n (line ∷ []) (n + 1, ForeignByte) (m, rule) f (foreign_line (InBlock state header done) n line [] (ap not h))
  unended done n line (next ∷ lines) m rule o e = by_byte (λ f. unended (done ++ line ∷ []) (n + 1) next lines m rule o.1 f) (are_printable line) refl
    where
      by_byte : (ended_in_block (n + 1) (next ∷ lines) ≡ Err (m, rule) → FirstAmong (InBlock state header (done ++ line ∷ [])) (n + 1) (next ∷ lines) m rule) → (b : Bool) → are_printable line ≡ b → FirstAmong (InBlock state header done) n (line ∷ next ∷ lines) m rule
      by_byte again true h =
          let f = rw h at e in
          let k = keeps_inside done (n + 1) line (next ∷ lines) (ap not h) o.0 (not_assembled done (n + 1) (line ∷ next ∷ lines) o) in
          later_inside done n line (next ∷ lines) m rule (omega arith) o.0 k (again f)
      by_byte again false h = let f = rw h at e in renamed (InBlock state header done) n (line ∷ next ∷ lines) (n + 1, ForeignByte) (m, rule) f (foreign_line (InBlock state header done) n line (next ∷ lines) (ap not h))

  -- ---- a block with an end

  assembled : (done : List (List ℕ)) (n : ℕ) (whole lines : List (List ℕ)) (end : List ℕ) (after : List (List ℕ)) (reading : Result (List ℕ) (ℕ × AsmRule)) → whole ≡ done ++ lines → reading_of_lines whole ≡ reading → IsOpen lines → is_end (fields_of end) ≡ true
      → fails_to_assemble (InBlock state header done) n (lines ++ end ∷ after) ≡ refuses_line header n reading
  assembled done n whole lines end after reading is e o ends =
      ap (λ (b : Option (List (List ℕ))). refuses_in header n (option_map (λ rest. done ++ rest) b)) (open_end lines end after o ends) ∙ ap (λ (w : List (List ℕ)). refuses_line header n (reading_of_lines w)) (sym is) ∙ ap (refuses_line header n) e

  refused_here : (done : List (List ℕ)) (n : ℕ) (line : List ℕ) (lines : List (List ℕ)) (rule : AsmRule) → is_end (fields_of line) ≡ false → not (are_printable line) ≡ is_foreign rule → fails_to_assemble (InBlock state header done) (n + 1) (line ∷ lines) ≡ true
      → FirstAmong (InBlock state header done) n (line ∷ lines) (n + 1) (rule_in_block rule)
  refused_here done n line lines rule e is fails =
      elim (foreign_or_not rule) [
        | inl f ↦ rw f.1 (foreign_line (InBlock state header done) n line lines (is ∙ f.0))
        | inr f ↦ rw f.1 (now (InBlock state header done) n line lines Assembler fails (λ lower lt. below_assembler done (n + 1) line lines (is ∙ f.0) (no_room_asked done line e) lower lt))
      ]

  refused_block : (done : List (List ℕ)) (n j : ℕ) (whole lines : List (List ℕ)) (end : List ℕ) (after : List (List ℕ)) (k : ℕ) (rule : AsmRule) → whole ≡ done ++ lines → reading_of_lines whole ≡ Err (k, rule) → IsOpen lines → is_end (fields_of end) ≡ true → n + 1 ≡ header + j → PrintsTo j lines k rule
      → FirstAmong (InBlock state header done) n (lines ++ end ∷ after) (header + k) (rule_in_block rule)
  refused_block done n j whole [] end after k rule is e o ends at p = absurd p
  refused_block done n j whole (line ∷ lines) end after k rule is e o ends at p =
      elim p [
        | inl here ↦
            let number : header + k ≡ n + 1 = omega (arith, at, here.0) in
            let fails = assembled done (n + 1) whole (line ∷ lines) end after (Err (k, rule)) is e o ends ∙ eq-eqb (header + k) (n + 1) number in
            subst (λ (i : ℕ). FirstAmong (InBlock state header done) n (line ∷ (lines ++ end ∷ after)) i (rule_in_block rule)) (sym number) (refused_here done n line (lines ++ end ∷ after) rule o.0 here.1 fails)
        | inr further ↦
            let above : n + 1 < header + k = omega (arith, at, prints_from (j + 1) lines k rule further.1) in
            let passes = assembled done (n + 1) whole (line ∷ lines) end after (Err (k, rule)) is e o ends ∙ eqb-above (header + k) (n + 1) above in
            let kept = keeps_inside done (n + 1) line (lines ++ end ∷ after) further.0 o.0 passes in
            later_inside done n line (lines ++ end ∷ after) (header + k) (rule_in_block rule) (some_after lines end after) o.0 kept
            (refused_block (done ++ line ∷ []) (n + 1) (j + 1) whole lines end after k rule (is ∙ sym (append_assoc done (line ∷ []) lines)) e o.1 ends (omega (arith, at)) further.1)
      ]

  -- what goes back over a line that breaks no rule goes back over a block of which the assembler gives the words
  words_block : (Q : Place → ℕ → List (List ℕ) → Type 0) → ((place : Place) (n : ℕ) (line : List ℕ) (lines : List (List ℕ)) → ((other : Rule) → breaks_line place (n + 1) line lines other ≡ false) → Q (place_after place (n + 1) line) (n + 1) lines → Q place n (line ∷ lines))
      → (done : List (List ℕ)) (n : ℕ) (whole lines : List (List ℕ)) (words : List ℕ) (end : List ℕ) (after : List (List ℕ)) → whole ≡ done ++ lines → reading_of_lines whole ≡ Ok words → IsOpen lines → is_end (fields_of end) ≡ true → AllPrint lines
      → Q (InBlock state header whole) (n + length lines) (end ∷ after) → Q (InBlock state header done) n (lines ++ end ∷ after)
  words_block Q step done n whole [] words end after is e o ends p r =
      let same : whole ≡ done = is ∙ append-nil done in
      let number : n + length {A = List ℕ} [] ≡ n = omega arith in
      subst (λ (w : List (List ℕ)). Q (InBlock state header w) n (end ∷ after)) same (subst (λ (i : ℕ). Q (InBlock state header whole) i (end ∷ after)) number r)
  words_block Q step done n whole (line ∷ lines) words end after is e o ends p r =
      let kept = keeps_inside done (n + 1) line (lines ++ end ∷ after) p.0 o.0 (assembled done (n + 1) whole (line ∷ lines) end after (Ok words) is e o ends) in
      let number : n + suc (length lines) ≡ (n + 1) + length lines = omega arith in
      let rest = words_block Q step (done ++ line ∷ []) (n + 1) whole lines words end after (is ∙ sym (append_assoc done (line ∷ []) lines)) e o.1 ends p.1 (subst (λ (i : ℕ). Q (InBlock state header whole) i (end ∷ after)) number r) in
      step (InBlock state header done) n line (lines ++ end ∷ after) (none_inside done n line (lines ++ end ∷ after) (some_after lines end after) kept)
      (subst (λ (p : Place). Q p (n + 1) (lines ++ end ∷ after)) (sym (same_place done (n + 1) line o.0)) rest)

  -- the end of a block whose words fit
  keeps_end : (done : List (List ℕ)) (n : ℕ) (line : List ℕ) (after : List (List ℕ)) (words : List ℕ) → reading_of_lines done ≡ Ok words → is_end (fields_of line) ≡ true → fit_open state.block (length words) ≡ true → Keeps (InBlock state header done) n line after
  keeps_end done n line after words asm ends fits = record {
    foreign = ap not (end_printable line ends);
    fields = λ rule le. refl;
    file = λ rule. refl;
    room = rw (ends, asm, fits) refl;
    assembler = assembled done n done [] line after (Ok words) (sym (append-nil done)) asm tt ends;
  }

  -- the end of a block of which the assembler gives the words
  end_line : (done : List (List ℕ)) (n : ℕ) (line : List ℕ) (after : List (List ℕ)) (words : List ℕ) (m : ℕ) (rule : Rule) → reading_of_lines done ≡ Ok words → is_end (fields_of line) ≡ true → goes_on (close_block state header (n + 1) (Ok words)) after (λ next. reading_from next (n + 1) after) ≡ Err (m, rule)
      → (reading_from (Outside (closed_with state words)) (n + 1) after ≡ Err (m, rule) → Found (Outside (closed_with state words)) (n + 1) after m rule) → FirstAmong (InBlock state header done) n (line ∷ after) m rule
  end_line done n line after words m rule asm ends e next = by_fit (fit_open state.block (length words)) refl
    where
      printable : not (are_printable line) ≡ false
      printable = ap not (end_printable line ends)

      asked : lacks_room (InBlock state header done) line ≡ not (fit_open state.block (length words))
      asked = rw (ends, asm) refl

      by_fit : (b : Bool) → fit_open state.block (length words) ≡ b → FirstAmong (InBlock state header done) n (line ∷ after) m rule
      by_fit true h =
          let f = rw h at e in
          behind (InBlock state header done) (Outside (closed_with state words)) n line after m rule (keeps_end done (n + 1) line after words asm ends h) (rw (ends, asm) refl) (next f)
      by_fit false h =
          let f = rw h at e in
          renamed (InBlock state header done) n (line ∷ after) (n + 1, Room) (m, rule) f (now (InBlock state header done) n line after Room (asked ∙ ap not h) (λ lower lt. below_room done (n + 1) line after printable lower lt))

-- ---- any line

-- what is found from a place on, in a block from its first line on
abbrev Claim : Place → ℕ → List (List ℕ) → ℕ → Rule → Type 0
Claim (Outside state) n lines m rule = Found (Outside state) n lines m rule
Claim (InBlock state header done) n lines m rule = n ≡ header + length done → IsOpen done → Found (InBlock state header []) header (done ++ lines) m rule

some_lines : (place : Place) (n : ℕ) (done : List (List ℕ)) (line : List ℕ) (lines : List (List ℕ)) (m : ℕ) (rule : Rule) → FirstAmong place n (done ++ line ∷ lines) m rule → Found place n (done ++ line ∷ lines) m rule
some_lines place n [] line lines m rule f = f
some_lines place n (d ∷ done) line lines m rule f = f

ended_outside : (state : State) (n m : ℕ) (rule : Rule) → ended state.stage state.system n ≡ Err (m, rule) → Found (Outside state) n [] m rule
ended_outside state n m rule e some = by_end (may_end state.stage) refl
  where
    by_end : (b : Bool) → may_end state.stage ≡ b → (m ≡ n) × (rule ≡ Ended) × (may_end state.stage ≡ false)
    by_end true h = let f = rw h at e in absurd cc
    by_end false h =
        let f = rw h at e in
        let same = ap (err_in (n, Ended)) f in
        let number : last_line n ≡ n = rw (eqb-above n 0 some) refl in
        (sym (ap (λ (x : ℕ × Rule). x.0) same) ∙ number, sym (ap (λ (x : ℕ × Rule). x.1) same), h)

ended_inside : (state : State) (header : ℕ) (done : List (List ℕ)) (m : ℕ) (rule : Rule) → IsOpen done → ended_in_block header done ≡ Err (m, rule) → Found (InBlock state header []) header done m rule
ended_inside state header [] m rule o e = λ some.
    let same = ap (err_in (header, Ended)) e in
    (sym (ap (λ (x : ℕ × Rule). x.0) same), sym (ap (λ (x : ℕ × Rule). x.1) same), refl)
ended_inside state header (line ∷ lines) m rule o e = unended state header [] header line lines m rule o e

-- the line is refused, where others follow it or not
refused_file : (state : State) (n : ℕ) (line : List ℕ) (lines : List (List ℕ)) (file : ElfRule) → IsFound (breaks state line) 1 (Elf file) → FirstAmong (Outside state) n (line ∷ lines) (n + 1) (named (Elf file) lines)
refused_file state n line [] file f =
    now (Outside state) n line [] Ended (ends_behind_file state (n + 1) line file f.passes)
    (λ lower lt. lower_outside state (n + 1) line [] (Elf file) f lower (omega (arith, lt)) (λ e. absurd (omega (arith, lt, ap number_of_rule e))))
refused_file state n line (l ∷ ls) file f = now (Outside state) n line (l ∷ ls) (Elf file) f.passes (λ lower lt. lower_outside state (n + 1) line (l ∷ ls) (Elf file) f lower lt (λ e. refl))

refused_outside : (state : State) (n : ℕ) (line : List ℕ) (lines : List (List ℕ)) (rule : Rule) → IsFound (breaks state line) 1 rule → FirstAmong (Outside state) n (line ∷ lines) (n + 1) (named rule lines)
refused_outside state n line lines rule f =
    elim (of_file_or_not rule) [
      | inl file ↦ subst (λ (r : Rule). IsFound (breaks state line) 1 r → FirstAmong (Outside state) n (line ∷ lines) (n + 1) (named r lines)) (sym file.1) (refused_file state n line lines file.0) f
      | inr low ↦
          let lowest = λ (lower : Rule) (lt : number_of_rule lower < number_of_rule rule). lower_outside state (n + 1) line lines rule f lower lt (λ e. absurd (omega (arith, lt, low, ap number_of_rule e))) in
          rw (low_named rule lines low) (now (Outside state) n line lines rule (outside_rule state (n + 1) line lines rule f.own ∙ f.passes) lowest)
    ]

line_outside : (state : State) (n : ℕ) (line : List ℕ) (lines : List (List ℕ)) (m : ℕ) (rule : Rule) → ((next : Place) → reading_from next (n + 1) lines ≡ Err (m, rule) → Claim next (n + 1) lines m rule)
    → goes_on (step_outside state (n + 1) line) lines (λ next. reading_from next (n + 1) lines) ≡ Err (m, rule) → FirstAmong (Outside state) n (line ∷ lines) m rule
line_outside state n line lines m rule next e = by_rule (broken_by state line) refl
  where
    by_kept : (after : State × Bool) → Keeps (Outside state) (n + 1) line lines → place_after (Outside state) (n + 1) line ≡ place_with (n + 1) after → goes_on (kept_line (n + 1) after) lines (λ next. reading_from next (n + 1) lines) ≡ Err (m, rule) → FirstAmong (Outside state) n (line ∷ lines) m rule
    by_kept after k is e = by_opens after.1 refl
      where
        by_opens : (b : Bool) → after.1 ≡ b → FirstAmong (Outside state) n (line ∷ lines) m rule
        by_opens true h =
            let f = rw h at e in
            behind (Outside state) (InBlock after.0 (n + 1) []) n line lines m rule k (is ∙ rw h refl) (next (InBlock after.0 (n + 1) []) f (omega arith) tt)
        by_opens false h =
            let f = rw h at e in
            behind (Outside state) (Outside after.0) n line lines m rule k (is ∙ rw h refl) (next (Outside after.0) f)

    by_rule : (o : Option Rule) → broken_by state line ≡ o → FirstAmong (Outside state) n (line ∷ lines) m rule
    by_rule (Some r) h =
        let f = rw h at e in
        let x = found (breaks state line) 1 rules r (λ e. absurd (omega (arith, e))) (λ e. absurd (omega (arith, e))) rules_from h in
        renamed (Outside state) n (line ∷ lines) (n + 1, named r lines) (m, rule) f (refused_outside state n line lines r x)
    by_rule None h =
        let f = rw h at e in
        by_kept (kept state (fields_of line)) (keeps_outside state (n + 1) line lines h) refl f

line_inside : (state : State) (header : ℕ) (done : List (List ℕ)) (n : ℕ) (line : List ℕ) (lines : List (List ℕ)) (m : ℕ) (rule : Rule) → ((next : Place) → reading_from next (n + 1) lines ≡ Err (m, rule) → Claim next (n + 1) lines m rule)
    → reading_from (InBlock state header done) n (line ∷ lines) ≡ Err (m, rule) → n ≡ header + length done → IsOpen done → Found (InBlock state header []) header (done ++ line ∷ lines) m rule
line_inside state header done n line lines m rule next e at o = by_end (is_end (fields_of line)) refl
  where
    by_words : is_end (fields_of line) ≡ true → (reading : Result (List ℕ) (ℕ × AsmRule)) → reading_of_lines done ≡ reading → goes_on (close_block state header (n + 1) reading) lines (λ next. reading_from next (n + 1) lines) ≡ Err (m, rule)
        → FirstAmong (InBlock state header []) header (done ++ line ∷ lines) m rule
    by_words h (Err refused) asm f =
        let g : ◌≡◌ {A = Answer} (Err (header + refused.0, rule_in_block refused.1)) (Err (m, rule)) = ap (λ (r : Rule). Err (header + refused.0, r)) (sym (block_named refused.1 lines)) ∙ f in
        renamed (InBlock state header []) header (done ++ line ∷ lines) (header + refused.0, rule_in_block refused.1) (m, rule) g
        (refused_block state header [] header 1 done done line lines refused.0 refused.1 refl asm o h refl (refused_prints done refused.0 refused.1 asm))
    by_words h (Ok words) asm f =
        words_block state header (λ place n lines. FirstAmong place n lines m rule) (λ place n line lines. later place n line lines m rule) [] header done done words line lines refl asm o h (words_print done words asm)
        (subst (λ (i : ℕ). FirstAmong (InBlock state header done) i (line ∷ lines) m rule) at (end_line state header done n line lines words m rule asm h f (λ g. next (Outside (closed_with state words)) g)))

    by_end : (b : Bool) → is_end (fields_of line) ≡ b → Found (InBlock state header []) header (done ++ line ∷ lines) m rule
    by_end true h = let f = rw h at e in some_lines (InBlock state header []) header done line lines m rule (by_words h (reading_of_lines done) refl f)
    by_end false h =
        let f = rw h at e in
        let number : n + 1 ≡ header + length (done ++ line ∷ []) = omega (arith, at, length-append done (line ∷ [])) in
        subst (λ (ls : List (List ℕ)). Found (InBlock state header []) header ls m rule) (append_assoc done (line ∷ []) lines) (next (InBlock state header (done ++ line ∷ [])) f number (open_more done line o h))

first_from : (place : Place) (n : ℕ) (lines : List (List ℕ)) (m : ℕ) (rule : Rule) → reading_from place n lines ≡ Err (m, rule) → Claim place n lines m rule
first_from (Outside state) n [] m rule e = ended_outside state n m rule e
first_from (Outside state) n (line ∷ lines) m rule e = line_outside state n line lines m rule (λ next f. first_from next (n + 1) lines m rule f) e
first_from (InBlock state header done) n [] m rule e = λ at o. subst (λ (ls : List (List ℕ)). Found (InBlock state header []) header ls m rule) (sym (append-nil done)) (ended_inside state header done m rule o e)
first_from (InBlock state header done) n (line ∷ lines) m rule e = λ at o. line_inside state header done n line lines m rule (λ next f. first_from next (n + 1) lines m rule f) e at o

-- ---- lines of which none breaks a rule

record AllKept (place : Place) (n : ℕ) (lines : List (List ℕ)) (system : System) : Type 0 where
  goes : ends_early place lines ≡ false
  kept : (i : ℕ) (rule : Rule) → breaks_among place n lines i rule ≡ false
  ends : system_at (place_behind place n lines) ≡ Some system

kept_later : (place : Place) (n : ℕ) (line : List ℕ) (lines : List (List ℕ)) (system : System) → ((other : Rule) → breaks_line place (n + 1) line lines other ≡ false) → AllKept (place_after place (n + 1) line) (n + 1) lines system → AllKept place n (line ∷ lines) system
kept_later place n line lines system none a = record { goes = refl; kept = kept_of; ends = a.ends }
  where
    kept_of : (i : ℕ) (rule : Rule) → breaks_among place n (line ∷ lines) i rule ≡ false
    kept_of zero rule = none rule
    kept_of (suc i) rule = a.kept i rule

kept_behind : (place next : Place) (n : ℕ) (line : List ℕ) (lines : List (List ℕ)) (system : System) → Keeps place (n + 1) line lines → place_after place (n + 1) line ≡ next → AllKept next (n + 1) lines system → AllKept place n (line ∷ lines) system
kept_behind place next n line lines system k is a =
    let rest = subst (λ (p : Place). AllKept p (n + 1) lines system) (sym is) a in
    kept_later place n line lines system (none_at_all place (n + 1) line lines k rest.goes) rest

-- the same from a place on, in a block from its first line on
abbrev KeptFrom : Place → ℕ → List (List ℕ) → System → Type 0
KeptFrom (Outside state) n lines system = AllKept (Outside state) n lines system
KeptFrom (InBlock state header done) n lines system = n ≡ header + length done → IsOpen done → AllKept (InBlock state header []) header (done ++ lines) system

kept_at_end : (state : State) (n : ℕ) (system : System) → ended state.stage state.system n ≡ Ok system → AllKept (Outside state) n [] system
kept_at_end state n system e = by_end (may_end state.stage) refl
  where
    by_end : (b : Bool) → may_end state.stage ≡ b → AllKept (Outside state) n [] system
    by_end true h = let f = rw h at e in let same : state.system ≡ system = cc in record { goes = ap not h; kept = λ i rule. refl; ends = ap Some same }
    by_end false h = let f = rw h at e in absurd cc

never_ended : (n : ℕ) (lines : List (List ℕ)) (system : System) → ended_in_block n lines ≡ Ok system → ⊥
never_ended n [] system e = cc
never_ended n (line ∷ lines) system e = by_byte (λ f. never_ended (n + 1) lines system f) (are_printable line) refl
  where
    by_byte : (ended_in_block (n + 1) lines ≡ Ok system → ⊥) → (b : Bool) → are_printable line ≡ b → ⊥
    by_byte next true h = next (rw h at e)
    by_byte next false h = let f = rw h at e in cc

kept_outside : (state : State) (n : ℕ) (line : List ℕ) (lines : List (List ℕ)) (system : System) → ((next : Place) → reading_from next (n + 1) lines ≡ Ok system → KeptFrom next (n + 1) lines system)
    → goes_on (step_outside state (n + 1) line) lines (λ next. reading_from next (n + 1) lines) ≡ Ok system → AllKept (Outside state) n (line ∷ lines) system
kept_outside state n line lines system next e = by_rule (broken_by state line) refl
  where
    by_kept : (after : State × Bool) → Keeps (Outside state) (n + 1) line lines → place_after (Outside state) (n + 1) line ≡ place_with (n + 1) after → goes_on (kept_line (n + 1) after) lines (λ next. reading_from next (n + 1) lines) ≡ Ok system → AllKept (Outside state) n (line ∷ lines) system
    by_kept after k is e = by_opens after.1 refl
      where
        by_opens : (b : Bool) → after.1 ≡ b → AllKept (Outside state) n (line ∷ lines) system
        by_opens true h =
            let f = rw h at e in
            kept_behind (Outside state) (InBlock after.0 (n + 1) []) n line lines system k (is ∙ rw h refl) (next (InBlock after.0 (n + 1) []) f (omega arith) tt)
        by_opens false h =
            let f = rw h at e in
            kept_behind (Outside state) (Outside after.0) n line lines system k (is ∙ rw h refl) (next (Outside after.0) f)

    by_rule : (o : Option Rule) → broken_by state line ≡ o → AllKept (Outside state) n (line ∷ lines) system
    by_rule (Some r) h = let f = rw h at e in absurd cc
    by_rule None h =
        let f = rw h at e in
        by_kept (kept state (fields_of line)) (keeps_outside state (n + 1) line lines h) refl f

kept_inside : (state : State) (header : ℕ) (done : List (List ℕ)) (n : ℕ) (line : List ℕ) (lines : List (List ℕ)) (system : System) → ((next : Place) → reading_from next (n + 1) lines ≡ Ok system → KeptFrom next (n + 1) lines system)
    → reading_from (InBlock state header done) n (line ∷ lines) ≡ Ok system → n ≡ header + length done → IsOpen done → AllKept (InBlock state header []) header (done ++ line ∷ lines) system
kept_inside state header done n line lines system next e at o = by_end (is_end (fields_of line)) refl
  where
    at_end_line : (words : List ℕ) → is_end (fields_of line) ≡ true → reading_of_lines done ≡ Ok words → (b : Bool) → fit_open state.block (length words) ≡ b → goes_on (close_block state header (n + 1) (Ok words)) lines (λ next. reading_from next (n + 1) lines) ≡ Ok system
        → AllKept (InBlock state header done) n (line ∷ lines) system
    at_end_line words h asm true fits f =
        let g = rw fits at f in
        kept_behind (InBlock state header done) (Outside (closed_with state words)) n line lines system (keeps_end state header done (n + 1) line lines words asm h fits) (rw (h, asm) refl) (next (Outside (closed_with state words)) g)
    at_end_line words h asm false fits f = let g = rw fits at f in absurd cc

    by_words : is_end (fields_of line) ≡ true → (reading : Result (List ℕ) (ℕ × AsmRule)) → reading_of_lines done ≡ reading → goes_on (close_block state header (n + 1) reading) lines (λ next. reading_from next (n + 1) lines) ≡ Ok system
        → AllKept (InBlock state header []) header (done ++ line ∷ lines) system
    by_words h (Err refused) asm f = absurd cc
    by_words h (Ok words) asm f =
        words_block state header (λ place n lines. AllKept place n lines system) (λ place n line lines. kept_later place n line lines system) [] header done done words line lines refl asm o h (words_print done words asm)
        (subst (λ (i : ℕ). AllKept (InBlock state header done) i (line ∷ lines) system) at (at_end_line words h asm (fit_open state.block (length words)) refl f))

    by_end : (b : Bool) → is_end (fields_of line) ≡ b → AllKept (InBlock state header []) header (done ++ line ∷ lines) system
    by_end true h = let f = rw h at e in by_words h (reading_of_lines done) refl f
    by_end false h =
        let f = rw h at e in
        let number : n + 1 ≡ header + length (done ++ line ∷ []) = omega (arith, at, length-append done (line ∷ [])) in
        subst (λ (ls : List (List ℕ)). AllKept (InBlock state header []) header ls system) (append_assoc done (line ∷ []) lines) (next (InBlock state header (done ++ line ∷ [])) f number (open_more done line o h))

kept_from : (place : Place) (n : ℕ) (lines : List (List ℕ)) (system : System) → reading_from place n lines ≡ Ok system → KeptFrom place n lines system
kept_from (Outside state) n [] system e = kept_at_end state n system e
kept_from (Outside state) n (line ∷ lines) system e = kept_outside state n line lines system (λ next f. kept_from next (n + 1) lines system f) e
kept_from (InBlock state header done) n [] system e = λ at o. absurd (never_ended header done system e)
kept_from (InBlock state header done) n (line ∷ lines) system e = λ at o. kept_inside state header done n line lines system (λ next f. kept_from next (n + 1) lines system f) e at o

-- ---- a text

first_of_lines : (lines : List (List ℕ)) (m : ℕ) (rule : Rule) → system_of_lines lines ≡ Err (m, rule) → FirstAmong (Outside nothing_yet) 0 (one_or_more lines) m rule
unfolding system_of_lines
first_of_lines [] m rule e = first_from (Outside nothing_yet) 0 ([] ∷ []) m rule e
first_of_lines (line ∷ lines) m rule e = first_from (Outside nothing_yet) 0 (line ∷ lines) m rule e

is_first_broken : (text : List ℕ) (line : ℕ) (rule : Rule) → reading_of text ≡ Err (line, rule) → IsFirstBroken text line rule
is_first_broken text line rule e =
    let r = first_of_lines (lines_of text) line rule e in
    record { before = r.before; number = omega (arith, r.number); broken = r.broken; lowest = r.lowest; first = r.first }

system_of_kept : (lines : List (List ℕ)) (system : System) → system_of_lines lines ≡ Ok system → ((i : ℕ) (rule : Rule) → breaks_among (Outside nothing_yet) 0 (one_or_more lines) i rule ≡ false) × (system_at (place_behind (Outside nothing_yet) 0 lines) ≡ Some system)
unfolding system_of_lines
system_of_kept [] system e = absurd cc
system_of_kept (line ∷ lines) system e = let a = kept_from (Outside nothing_yet) 0 (line ∷ lines) system e in (a.kept, a.ends)

is_system_of : (text : List ℕ) (system : System) → reading_of text ≡ Ok system → IsSystemOf text system
is_system_of text system e = let a = system_of_kept (lines_of text) system e in record { kept = a.0; system_is = a.1 }

pub system_from_answer : (text : List ℕ) (answer : Result System SystemRefused) → Answers answer (reading_of text) → IfOk answer (IsSystemOf text)
system_from_answer text (Ok system) a = is_system_of text system a
system_from_answer text (Err refused) a = tt

pub cause_from_answer : (text : List ℕ) (answer : Result System SystemRefused) → Answers answer (reading_of text) → IfErr answer (HasCause text)
cause_from_answer text (Ok system) a = tt
cause_from_answer text (Err (refusals.BadLine line number)) a = (a.0, a.2, is_first_broken text line a.0 a.1)
cause_from_answer text (Err refusals.NoMemory) a = tt
