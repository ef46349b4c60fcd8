-- What a line says, by its first field and the fields after it: the rules 3 and 4.
use Rattle.std.specs.Prelude.{ℕ, Bool, List, [], ◌∷◌, Option, Some, None, Result, Ok, Err, is_some, if◌then◌else◌}
use Rattle.std.specs.List.{list_all, filter_map}
use Rattle.text_parts.specs.Numbers.{number_of, word_of}
use Rattle.t32_base.specs.declared.process.Mode.{Mode}
use Rattle.sys_text.specs.declared.stage.Keyword.{Keyword}
use Rattle.sys_text.specs.declared.stage.Keyword.TheVariants as keywords
use Rattle.sys_text.specs.declared.refusal.Rule.{Rule}
use Rattle.sys_text.specs.declared.refusal.Rule.TheVariants.{FieldCount, FieldKind}
use Rattle.sys_text.specs.declared.line.RootFields.{RootFields}
use Rattle.sys_text.specs.declared.line.Line.{Line as LineRead}
use Rattle.sys_text.specs.declared.line.Line.TheVariants as lines
use Rattle.sys_text.specs.Valid.{is_name}
use Rattle.sys_text.specs.Kinds.{mode_named}

-- a line with its numbers, names, words and modes
pub data Line : Type 0 where
  Clusters : (count : ℕ) → Line
  Pager : (first second : ℕ) → Line
  Syncreads : (count : ℕ) → Line
  Syncsteps : (count : ℕ) → Line
  Image : (name : List ℕ) (pages entry : ℕ) → Line
  Asm : (name : List ℕ) (pages : ℕ) → Line
  Elf : (name : List ℕ) (pages size : ℕ) → Line
  Words : (words : List ℕ) → Line
  End : Line
  Root : (root : RootFields) (image : List ℕ) → Line
  Chan : (first second : ℕ) → Line

-- ---- fields that are what they are to be

-- the name that a field is
abbrev pub name_of : List ℕ → Option (List ℕ)
name_of field = if is_name field then Some field else None

abbrev pub is_word_field : List ℕ → Bool
is_word_field field = is_some (word_of field)

-- the words that fields stand for
abbrev pub words_in : List (List ℕ) → List ℕ
words_in fields = filter_map word_of fields

-- what two fields stand for, if both do
abbrev pub both_of : {X Y : Type 0} → Option X → Option Y → Option (X × Y)
both_of None second = None
both_of (Some x) None = None
both_of (Some x) (Some y) = Some (x, y)

-- what the fields of a root stand for, if all do
abbrev pub root_with : Option ℕ → Option ℕ → Option Mode → Option (List ℕ) → Option ℕ → Option ℕ → Option ℕ → Option (RootFields × List ℕ)
root_with (Some home) (Some backup) (Some mode) (Some image) (Some limit) (Some births) (Some tty) = Some (record { home = home; backup = backup; mode = mode; limit = limit; births = births; tty = tty }, image)
root_with home backup mode image limit births tty = None

-- ---- the rules 3 and 4

-- a field that is not what it is to be breaks rule 4
abbrev pub or_kind : {X : Type 0} → Option X → Result X Rule
or_kind None = Err FieldKind
or_kind (Some x) = Ok x

-- one number, and no other number of fields
abbrev pub one_number : List (List ℕ) → Result ℕ Rule
one_number (field ∷ []) = or_kind (number_of field)
one_number fields = Err FieldCount

abbrev pub two_numbers : List (List ℕ) → Result (ℕ × ℕ) Rule
two_numbers (first ∷ second ∷ []) = or_kind (both_of (number_of first) (number_of second))
two_numbers fields = Err FieldCount

-- the name of an image and its pages
abbrev pub name_and_pages : List (List ℕ) → Result (List ℕ × ℕ) Rule
name_and_pages (name ∷ pages ∷ []) = or_kind (both_of (name_of name) (number_of pages))
name_and_pages fields = Err FieldCount

-- what three fields stand for, if all do
abbrev pub all_of : {X Y Z : Type 0} → Option X → Option Y → Option Z → Option (X × Y × Z)
all_of None second third = None
all_of (Some x) None third = None
all_of (Some x) (Some y) None = None
all_of (Some x) (Some y) (Some z) = Some (x, y, z)

-- the address of the first instruction, where a text does not say it
abbrev pub default_entry : ℕ
default_entry = 0x10000

-- the name of an image, its pages and, where a third field says it, its entry
abbrev pub image_header : List (List ℕ) → Result (List ℕ × ℕ × ℕ) Rule
image_header (name ∷ pages ∷ []) = or_kind (all_of (name_of name) (number_of pages) (Some default_entry))
image_header (name ∷ pages ∷ entry ∷ []) = or_kind (all_of (name_of name) (number_of pages) (number_of entry))
image_header fields = Err FieldCount

-- the name of an image, its pages, and how many bytes its file has
abbrev pub file_header : List (List ℕ) → Result (List ℕ × ℕ × ℕ) Rule
file_header (name ∷ pages ∷ size ∷ []) = or_kind (all_of (name_of name) (number_of pages) (number_of size))
file_header fields = Err FieldCount

-- one word or more
abbrev pub some_words : List (List ℕ) → Result (List ℕ) Rule
some_words [] = Err FieldCount
some_words (field ∷ fields) = if list_all is_word_field (field ∷ fields) then Ok (words_in (field ∷ fields)) else Err FieldKind

abbrev pub no_field : List (List ℕ) → Result (Unit {0}) Rule
no_field [] = Ok tt
no_field (field ∷ fields) = Err FieldCount

-- two clusters, a mode, the name of an image, and three numbers
abbrev pub root_fields : List (List ℕ) → Result (RootFields × List ℕ) Rule
root_fields (home ∷ backup ∷ mode ∷ image ∷ limit ∷ births ∷ tty ∷ []) =
    or_kind (root_with (number_of home) (number_of backup) (mode_named mode) (name_of image) (number_of limit) (number_of births) (number_of tty))
root_fields fields = Err FieldCount

-- ---- lines

abbrev pub as_line : {X : Type 0} → (X → Line) → Result X Rule → Result Line Rule
as_line say (Ok x) = Ok (say x)
as_line say (Err rule) = Err rule

-- the line with this keyword and these fields after it, or the lower of the rules 3 and 4 that it breaks
abbrev pub line_of : Keyword → List (List ℕ) → Result Line Rule
line_of keywords.Clusters fields = as_line Clusters (one_number fields)
line_of keywords.Pager fields = as_line (λ pair. Pager pair.0 pair.1) (two_numbers fields)
line_of keywords.Syncreads fields = as_line Syncreads (one_number fields)
line_of keywords.Syncsteps fields = as_line Syncsteps (one_number fields)
line_of keywords.Image fields = as_line (λ header. Image header.0 header.1 header.2) (image_header fields)
line_of keywords.Asm fields = as_line (λ header. Asm header.0 header.1) (name_and_pages fields)
line_of keywords.Elf fields = as_line (λ header. Elf header.0 header.1 header.2) (file_header fields)
line_of keywords.Words fields = as_line Words (some_words fields)
line_of keywords.End fields = as_line (λ none. End) (no_field fields)
line_of keywords.Root fields = as_line (λ root. Root root.0 root.1) (root_fields fields)
line_of keywords.Chan fields = as_line (λ pair. Chan pair.0 pair.1) (two_numbers fields)

-- ---- lines in the code, where those of words have no value

abbrev pub said : LineRead → Line
said (lines.Clusters count) = Clusters count
said (lines.Pager first second) = Pager first second
said (lines.Syncreads count) = Syncreads count
said (lines.Syncsteps count) = Syncsteps count
said (lines.Image name pages entry) = Image name.now pages entry
said (lines.Asm name pages) = Asm name.now pages
said (lines.Elf name pages size) = Elf name.now pages size
said lines.End = End
said (lines.Root root image) = Root root image.now
said (lines.Chan first second) = Chan first second

abbrev pub said_or_rule : Result LineRead Rule → Result Line Rule
said_or_rule (Ok line) = Ok (said line)
said_or_rule (Err rule) = Err rule
