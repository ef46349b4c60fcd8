-- The rules for files, where they are rules of a line.
use Rattle.std.proofs.Common.{◌≡◌, ℕ, ◌+◌, ◌%◌, ◌≤◌, Bool, true, false, not, ◌&&◌, ◌||◌, eqb, List, [], ◌∷◌, map, Option, Some, None, Ok, Err, subst, refl, sym, ap, ◌∙◌, arith, inl, inr, ◌⊎◌}
use Rattle.std.specs.List.{find, list_any}
use Rattle.std.specs.Option.{option_map}
use Rattle.std.proofs.lemmas.Bool.{or_left, or_right}
use Rattle.rv_elf.specs.declared.refusal.Rule.{Rule as ElfRule}
use Rattle.rv_elf.specs.declared.refusal.Rule.TheVariants.{NoElf, Class, Machine, Compressed, Table, Dynamic, FileBytes, Outside, Overlap, Entry}
use Rattle.rv_elf.specs.declared.refusal.ElfRefused.{ElfRefused}
use Rattle.rv_elf.specs.declared.refusal.ElfRefused.TheVariants as elf_refusals
use Rattle.rv_elf.specs.Answers.{Refuses, AnswersBy}
use Rattle.rv_elf.specs.File.{entry}
use Rattle.rv_elf.specs.Loaded.{loaded}
use Rattle.rv_elf.specs.declared.loading.Loaded.{Loaded}
use Rattle.rv_elf.specs.Refusal.{number_of_rule as number_of_elf_rule}
use Rattle.rv_elf.specs.Rules.{rules as elf_rules, breaks, broken, lies_within}
use Rattle.sys_text.specs.declared.refusal.Rule.{Rule}
use Rattle.sys_text.specs.declared.refusal.Rule.TheVariants.{Elf}
use Rattle.sys_text.specs.declared.refusal.SystemRefused.{SystemRefused}
use Rattle.sys_text.specs.declared.refusal.SystemRefused.TheVariants as refusals
use Rattle.sys_text.specs.declared.system.Image.{Image}
use Rattle.sys_text.specs.declared.state.State.{State}
use Rattle.sys_text.specs.Valid.{is_entry}
use Rattle.sys_text.specs.Files.{file_of, words_of_bytes, trimmed, words_loaded, entry_loaded, breaks_in, broken_in}
use Rattle.sys_text.specs.FileRefusals.{RefusesFile}
use Rattle.sys_text.specs.Line as lines
use Rattle.sys_text.specs.Rules.{breaks_as, lowest_of_file}
use Rattle.sys_text.specs.WordLines.{RefusesBy}

-- ---- the ten rules

pub up_to_ten : (rule : ElfRule) → number_of_elf_rule rule ≤ 10
up_to_ten NoElf = omega arith
up_to_ten Class = omega arith
up_to_ten Machine = omega arith
up_to_ten Compressed = omega arith
up_to_ten Table = omega arith
up_to_ten Dynamic = omega arith
up_to_ten FileBytes = omega arith
up_to_ten Outside = omega arith
up_to_ten Overlap = omega arith
up_to_ten Entry = omega arith

-- a rule is one of a list
abbrev IsOne : ElfRule → List ElfRule → Type 0
IsOne rule [] = ⊥
IsOne rule (other ∷ rules) = (other ≡ rule) ⊎ IsOne rule rules

is_one : (rule : ElfRule) → IsOne rule elf_rules
is_one NoElf = inl refl
is_one Class = inr (inl refl)
is_one Machine = inr (inr (inl refl))
is_one Compressed = inr (inr (inr (inl refl)))
is_one Table = inr (inr (inr (inr (inl refl))))
is_one Dynamic = inr (inr (inr (inr (inr (inl refl)))))
is_one FileBytes = inr (inr (inr (inr (inr (inr (inl refl))))))
is_one Outside = inr (inr (inr (inr (inr (inr (inr (inl refl)))))))
is_one Overlap = inr (inr (inr (inr (inr (inr (inr (inr (inl refl))))))))
is_one Entry = inr (inr (inr (inr (inr (inr (inr (inr (inr (inl refl)))))))))

any_in : (p : ElfRule → Bool) (rule : ElfRule) (rules : List ElfRule) → IsOne rule rules → p rule ≡ true → list_any p rules ≡ true
any_in p rule [] one e = absurd one
any_in p rule (other ∷ rules) (inl here) e = or_left (p other) (list_any p rules) (ap p here ∙ e)
any_in p rule (other ∷ rules) (inr later) e = or_right (p other) (list_any p rules) (any_in p rule rules later e)

-- a rule that is broken is one of them
any_of : (p : ElfRule → Bool) (rule : ElfRule) → p rule ≡ true → list_any p elf_rules ≡ true
any_of p rule e = any_in p rule elf_rules (is_one rule) e

-- where none is found, none is broken
fails_in : (p : ElfRule → Bool) (rules : List ElfRule) → find p rules ≡ None → list_any p rules ≡ false
fails_in p [] e = refl
fails_in p (rule ∷ rules) e = by_test (λ f. fails_in p rules f) (p rule) refl
  where
    by_test : (find p rules ≡ None → list_any p rules ≡ false) → (b : Bool) → p rule ≡ b → list_any p (rule ∷ rules) ≡ false
    by_test next true h = let f = rw h at e in absurd cc
    by_test next false h = let f = rw h at e in rw h (next f)

pub none_at_all : (p : ElfRule → Bool) (rule : ElfRule) → find p elf_rules ≡ None → p rule ≡ false
none_at_all p rule e = by_test (p rule) refl
  where
    by_test : (b : Bool) → p rule ≡ b → p rule ≡ false
    by_test true h = let f : true ≡ false = sym (any_of p rule h) ∙ fails_in p elf_rules e in absurd cc
    by_test false h = h

-- an entry that breaks no rule
pub entry_is : (entry pages : ℕ) → (not (eqb (entry % 4) 0) || not (lies_within pages entry 4)) ≡ false → is_entry pages entry ≡ true
entry_is entry pages h = both_hold (eqb (entry % 4) 0) (lies_within pages entry 4) h
  where
    both_hold : (a b : Bool) → (not a || not b) ≡ false → (a && b) ≡ true
    both_hold true true h = refl
    both_hold true false h = absurd cc
    both_hold false b h = absurd cc

-- ---- what is found

find_elf : (p : Rule → Bool) (q : ElfRule → Bool) → ((rule : ElfRule) → p (Elf rule) ≡ q rule) → (rules : List ElfRule) → find p (map Elf rules) ≡ option_map Elf (find q rules)
find_elf p q same [] = refl
find_elf p q same (rule ∷ rules) = by_test (find_elf p q same rules) (q rule) refl
  where
    by_test : find p (map Elf rules) ≡ option_map Elf (find q rules) → (b : Bool) → q rule ≡ b → find p (map Elf (rule ∷ rules)) ≡ option_map Elf (find q (rule ∷ rules))
    by_test next true h = rw (same rule, h) refl
    by_test next false h = rw (same rule, h) next

-- the rules of the line that ends the block of a file are those of the file
pub file_found : (state : State) (image : Image) (size : ℕ) → state.block ≡ Some image → state.file ≡ Some size → lowest_of_file state lines.End ≡ option_map Elf (broken_in size image.words image.pages)
unfolding broken_in breaks_in
file_found state image size is file = find_elf (breaks_as state lines.End) (breaks (file_of size image.words) image.pages) (λ rule. rw (is, file) refl) elf_rules

none_mapped : (o : Option ElfRule) → option_map Elf o ≡ None → o ≡ None
none_mapped None e = refl
none_mapped (Some rule) e = absurd cc

pub of_file : (state : State) (image : Image) (size : ℕ) → state.block ≡ Some image → state.file ≡ Some size → lowest_of_file state lines.End ≡ None → broken_in size image.words image.pages ≡ None
of_file state image size is file none = none_mapped _ (sym (file_found state image size is file) ∙ none)

-- where no rule is broken, the entry may be one
pub entry_kept : (size : ℕ) (words : List ℕ) (pages : ℕ) → broken_in size words pages ≡ None → is_entry pages (entry_loaded size words) ≡ true
unfolding broken_in entry_loaded
entry_kept size words pages none = entry_is (entry (file_of size words)) pages (none_at_all (breaks (file_of size words) pages) Entry none)

pub file_kept : (state : State) (image : Image) (size : ℕ) → state.block ≡ Some image → state.file ≡ Some size → broken_in size image.words image.pages ≡ None → lowest_of_file state lines.End ≡ None
file_kept state image size is file none = file_found state image size is file ∙ ap (option_map Elf) none

pub refused_by : (state : State) (image : Image) (size n : ℕ) (refused : ElfRefused) (answer : SystemRefused) → state.block ≡ Some image → state.file ≡ Some size → Refuses refused (broken_in size image.words image.pages) → RefusesFile answer n refused
    → RefusesBy answer n (lowest_of_file state lines.End)
refused_by state image size n (elf_refusals.Rule number) (refusals.BadLine line rule) is file r a =
    (Elf r.0, file_found state image size is file ∙ ap (option_map Elf) r.1, a.0, a.1 ∙ ap (λ (k : ℕ). 10 + k) r.2)
refused_by state image size n elf_refusals.NoMemory (refusals.BadLine line rule) is file r a = absurd a
refused_by state image size n refused refusals.NoMemory is file r a = tt

-- ---- what the loader answers

pub loader_kept : (size : ℕ) (words file : List ℕ) (pages : ℕ) (image : Loaded) → file ≡ file_of size words → AnswersBy file pages (broken file pages) (Ok image) → broken_in size words pages ≡ None
unfolding broken_in
loader_kept size words file pages image is a = ap (λ (f : List ℕ). broken f pages) (sym is) ∙ a.0

pub loader_entry : (size : ℕ) (words file : List ℕ) (pages : ℕ) (image : Loaded) → file ≡ file_of size words → AnswersBy file pages (broken file pages) (Ok image) → image.entry ≡ entry_loaded size words
unfolding entry_loaded
loader_entry size words file pages image is a = ap (λ (i : Loaded). i.entry) a.1 ∙ ap entry is

pub loader_words : (size : ℕ) (words file : List ℕ) (pages : ℕ) (image : Loaded) (all : List ℕ) → file ≡ file_of size words → AnswersBy file pages (broken file pages) (Ok image) → all ≡ trimmed (words_of_bytes image.bytes) → all ≡ words_loaded size words pages
unfolding words_loaded
loader_words size words file pages image all is a e = e ∙ ap (λ (i : Loaded). trimmed (words_of_bytes i.bytes)) a.1 ∙ ap (λ (f : List ℕ). trimmed (words_of_bytes (loaded f pages))) is

pub loader_refused : (size : ℕ) (words file : List ℕ) (pages : ℕ) (refused : ElfRefused) → file ≡ file_of size words → AnswersBy file pages (broken file pages) (Err refused) → Refuses refused (broken_in size words pages)
unfolding broken_in
loader_refused size words file pages refused is a = subst (λ (f : List ℕ). Refuses refused (broken f pages)) is a
