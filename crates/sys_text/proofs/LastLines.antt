-- The rule that is named of a refused line, where it is the last one or others follow.
use Rattle.std.proofs.Common.{◌≡◌, ℕ, ◌<◌, ◌≤◌, Bool, true, false, cond, List, [], ◌∷◌, length, Option, Some, None, Result, Ok, Err, refl, sym, ap, arith, inl, inr, ◌⊎◌}
use Rattle.std.specs.Prelude.{nat_le}
use Rattle.std.specs.List.{onto_first}
use Rattle.std.proofs.lemmas.Bool.{le-leb, lt-leb}
use Rattle.text_parts.specs.Lines.{is_newline, lines_of, fields_of}
use Rattle.rv_asm.specs.declared.refusal.Rule.{Rule as AsmRule}
use Rattle.rv_asm.specs.declared.refusal.Rule.TheVariants as asm_rules
use Rattle.rv_elf.specs.declared.refusal.Rule.{Rule as ElfRule}
use Rattle.rv_elf.specs.declared.refusal.Rule.TheVariants as elf
use Rattle.rv_elf.specs.Refusal.{number_of_rule as number_of_elf_rule}
use Rattle.sys_text.specs.declared.stage.Keyword.{Keyword}
use Rattle.sys_text.specs.declared.state.State.{State}
use Rattle.sys_text.specs.declared.refusal.Rule.{Rule}
use Rattle.sys_text.specs.declared.refusal.Rule.TheVariants.{ForeignByte, Misplaced, FieldCount, FieldKind, Limit, Same, Name, Room, Assembler, Ended, Elf}
use Rattle.sys_text.specs.Refusal.{number_of_rule}
use Rattle.sys_text.specs.Line.{Line, line_of}
use Rattle.sys_text.specs.Line as lines
use Rattle.sys_text.specs.Rules.{keyword_in, first_of, rest_of, is_skipped, breaks, breaks_said}
use Rattle.sys_text.specs.Reading.{Outside, rule_in_block, named, is_asm}
use Rattle.sys_text.specs.RuleByRule.{place_after, ends_early}
use Rattle.sys_text.proofs.Spelling.{said_keyword}

-- ---- what is named

pub elf_at_least_one : (rule : ElfRule) → 1 ≤ number_of_elf_rule rule
elf_at_least_one elf.NoElf = omega arith
elf_at_least_one elf.Class = omega arith
elf_at_least_one elf.Machine = omega arith
elf_at_least_one elf.Compressed = omega arith
elf_at_least_one elf.Table = omega arith
elf_at_least_one elf.Dynamic = omega arith
elf_at_least_one elf.FileBytes = omega arith
elf_at_least_one elf.Outside = omega arith
elf_at_least_one elf.Overlap = omega arith
elf_at_least_one elf.Entry = omega arith

-- a rule is one for files, or has a number up to 10
pub of_file_or_not : (rule : Rule) → ((file : ElfRule) × (rule ≡ Elf file)) ⊎ (number_of_rule rule ≤ 10)
of_file_or_not ForeignByte = inr (omega arith)
of_file_or_not Misplaced = inr (omega arith)
of_file_or_not FieldCount = inr (omega arith)
of_file_or_not FieldKind = inr (omega arith)
of_file_or_not Limit = inr (omega arith)
of_file_or_not Same = inr (omega arith)
of_file_or_not Name = inr (omega arith)
of_file_or_not Room = inr (omega arith)
of_file_or_not Assembler = inr (omega arith)
of_file_or_not Ended = inr (omega arith)
of_file_or_not (Elf file) = inl (file, refl)

-- a rule up to 10 is named wherever its line stands
pub low_named : (rule : Rule) (after : List (List ℕ)) → number_of_rule rule ≤ 10 → named rule after ≡ rule
low_named ForeignByte after low = refl
low_named Misplaced after low = refl
low_named FieldCount after low = refl
low_named FieldKind after low = refl
low_named Limit after low = refl
low_named Same after low = refl
low_named Name after low = refl
low_named Room after low = refl
low_named Assembler after low = refl
low_named Ended after low = refl
low_named (Elf file) after low = absurd (omega (arith, low, elf_at_least_one file))

pub block_named : (rule : AsmRule) (after : List (List ℕ)) → named (rule_in_block rule) after ≡ rule_in_block rule
block_named asm_rules.ForeignByte after = refl
block_named asm_rules.UnknownWord after = refl
block_named asm_rules.BadForm after = refl
block_named asm_rules.NumberRange after = refl
block_named asm_rules.DefinedTwice after = refl
block_named asm_rules.NeverDefined after = refl
block_named asm_rules.TooFar after = refl
block_named asm_rules.TooLong after = refl

named_before : (rule : Rule) (after : List (List ℕ)) → 0 < length after → named rule after ≡ rule
named_before rule [] some = absurd (omega (arith, some))
named_before rule (line ∷ after) some =
    elim (of_file_or_not rule) [
      | inl file ↦ rw file.1 refl
      | inr low ↦ low_named rule (line ∷ after) low
    ]

-- of the last line, and of one before others
pub number_last : (rule : Rule) (number : ℕ) → number ≡ number_of_rule rule → cond (nat_le number 10) number 10 ≡ number_of_rule (named rule [])
number_last rule number is =
    elim (of_file_or_not rule) [
      | inl file ↦
          let high : nat_le number 10 ≡ false = lt-leb number 10 (omega (arith, is, ap number_of_rule file.1, elf_at_least_one file.0)) in
          rw (high, file.1) refl
      | inr low ↦
          let at_most : nat_le number 10 ≡ true = le-leb number 10 (omega (arith, is, low)) in
          rw (at_most, low_named rule [] low) is
    ]

some_lines : (text : List ℕ) → 0 < length text → 0 < length (lines_of text)
some_lines [] some = absurd (omega (arith, some))
some_lines (b ∷ bs) some = by_head (is_newline b) refl
  where
    onto_some : (lines : List (List ℕ)) → 0 < length (onto_first b lines)
    onto_some [] = omega arith
    onto_some (line ∷ lines) = omega arith

    by_head : (h : Bool) → is_newline b ≡ h → 0 < length (lines_of (b ∷ bs))
    by_head true e = rw e (omega arith)
    by_head false e = rw e (onto_some (lines_of bs))

pub number_before : (rule : Rule) (text : List ℕ) → 0 < length text → number_of_rule rule ≡ number_of_rule (named rule (lines_of text))
number_before rule text some = ap number_of_rule (sym (named_before rule (lines_of text) (some_lines text some)))

-- ---- a text may not end behind the block of a file

-- only the end of a block is refused by a rule for files
refused_at_end : (state : State) (said : Result Line Rule) (file : ElfRule) → breaks_said state said (Elf file) ≡ true → said ≡ Ok lines.End
refused_at_end state (Ok (lines.Clusters count)) file e = absurd cc
refused_at_end state (Ok (lines.Pager first second)) file e = absurd cc
refused_at_end state (Ok (lines.Syncreads count)) file e = absurd cc
refused_at_end state (Ok (lines.Syncsteps count)) file e = absurd cc
refused_at_end state (Ok (lines.Image name pages entry)) file e = absurd cc
refused_at_end state (Ok (lines.Asm name pages)) file e = absurd cc
refused_at_end state (Ok (lines.Elf name pages size)) file e = absurd cc
refused_at_end state (Ok (lines.Words words)) file e = absurd cc
refused_at_end state (Ok lines.End) file e = refl
refused_at_end state (Ok (lines.Root root image)) file e = absurd cc
refused_at_end state (Ok (lines.Chan first second)) file e = absurd cc
refused_at_end state (Err ForeignByte) file e = absurd cc
refused_at_end state (Err Misplaced) file e = absurd cc
refused_at_end state (Err FieldCount) file e = absurd cc
refused_at_end state (Err FieldKind) file e = absurd cc
refused_at_end state (Err Limit) file e = absurd cc
refused_at_end state (Err Same) file e = absurd cc
refused_at_end state (Err Name) file e = absurd cc
refused_at_end state (Err Room) file e = absurd cc
refused_at_end state (Err Assembler) file e = absurd cc
refused_at_end state (Err Ended) file e = absurd cc
refused_at_end state (Err (Elf rule)) file e = absurd cc

pub ends_behind_file : (state : State) (n : ℕ) (line : List ℕ) (file : ElfRule) → breaks state line (Elf file) ≡ true → ends_early (place_after (Outside state) n line) [] ≡ true
ends_behind_file state n line file e = by_skip (is_skipped (fields_of line)) refl (keyword_in state.stage (first_of (fields_of line))) refl
  where
    by_skip : (b : Bool) → is_skipped (fields_of line) ≡ b → (o : Option Keyword) → keyword_in state.stage (first_of (fields_of line)) ≡ o → ends_early (place_after (Outside state) n line) [] ≡ true
    by_skip true skip o key = let f = rw skip at e in absurd cc
    by_skip false skip None key = let f = rw (skip, key) at e in absurd cc
    by_skip false skip (Some keyword) key =
        let f = rw (skip, key) at e in
        let read : line_of keyword (rest_of (fields_of line)) ≡ Ok lines.End = refused_at_end state (line_of keyword (rest_of (fields_of line))) file f in
        let block : is_asm keyword ≡ false = ap is_asm (sym (said_keyword keyword (rest_of (fields_of line)) lines.End read)) in
        rw (skip, key, read, block) refl
