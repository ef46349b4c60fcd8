-- The rules of a line, by what the lines before it said, and what it adds to that.
use Rattle.std.specs.Prelude.{◌≡◌, ℕ, ◌+◌, ◌*◌, ◌/◌, ◌≤◌, Bool, true, false, not, List, [], ◌∷◌, ◌++◌, length, map, Option, Some, None, Result, Ok, Err, nat_lt, nat_le, ◌==◌, ◌&&◌, ◌||◌, is_none, is_some, if◌then◌else◌}
use Rattle.std.specs.List.{find}
use Rattle.std.specs.Str.{bytes_eq}
use Rattle.std.specs.Option.{option_map}
use Rattle.text_parts.specs.Lines.{are_printable, fields_of}
use Rattle.text_parts.specs.Table.{lookup}
use Rattle.sys_text.specs.declared.stage.Keyword.{Keyword}
use Rattle.sys_text.specs.declared.stage.Keyword.TheVariants as keywords
use Rattle.sys_text.specs.declared.stage.Stage.{Stage}
use Rattle.sys_text.specs.declared.stage.Stage.TheVariants.{Start, AfterClusters, AfterPager, AfterSyncreads, Images, InImage, Roots, Chans}
use Rattle.sys_text.specs.declared.refusal.Rule.{Rule}
use Rattle.sys_text.specs.declared.refusal.Rule.TheVariants.{ForeignByte, Misplaced, FieldCount, FieldKind, Limit, Same, Name, Room, Elf}
use Rattle.sys_text.specs.declared.system.System.{System}
use Rattle.sys_text.specs.declared.system.Image.{Image}
use Rattle.sys_text.specs.declared.system.Root.{Root}
use Rattle.sys_text.specs.declared.state.State.{State}
use Rattle.sys_text.specs.Valid.{is_within, is_entry, births_of, links}
use Rattle.sys_text.specs.Files.{described, file_breaks}
use Rattle.rv_elf.specs.declared.refusal.Rule.{Rule as ElfRule}
use Rattle.rv_elf.specs.Rules.{rules as elf_rules}
use Rattle.sys_text.specs.declared.line.RootFields.{RootFields}
use Rattle.sys_text.specs.Kinds.{keywords_by_name}
use Rattle.sys_text.specs.Line.{Line, default_entry, line_of}
use Rattle.sys_text.specs.Line as lines

-- ---- the order of the lines

-- which lines may come next
abbrev pub may_stand : Stage → Keyword → Bool
may_stand Start keywords.Clusters = true
may_stand AfterClusters keywords.Pager = true
may_stand AfterPager keywords.Syncreads = true
may_stand AfterSyncreads keywords.Syncsteps = true
may_stand Images keywords.Image = true
may_stand Images keywords.Asm = true
may_stand Images keywords.Elf = true
may_stand Images keywords.Root = true
may_stand InImage keywords.Words = true
may_stand InImage keywords.End = true
may_stand Roots keywords.Root = true
may_stand Roots keywords.Chan = true
may_stand Chans keywords.Chan = true
may_stand stage keyword = false

-- the keyword, where it may stand here
abbrev pub allowed : Stage → Option Keyword → Option Keyword
allowed stage None = None
allowed stage (Some keyword) = if may_stand stage keyword then Some keyword else None

-- what the first field of a line says, where it may stand here
abbrev pub keyword_in : Stage → List ℕ → Option Keyword
keyword_in stage field = allowed stage (lookup keywords_by_name field)

-- ---- the parts of a line

-- the first field; no bytes where there is none
abbrev pub first_of : List (List ℕ) → List ℕ
first_of [] = []
first_of (field ∷ fields) = field

-- the fields after the first
abbrev pub rest_of : List (List ℕ) → List (List ℕ)
rest_of [] = []
rest_of (field ∷ fields) = fields

-- the first byte is '#'
abbrev pub begins_comment : List ℕ → Bool
begins_comment [] = false
begins_comment (b ∷ bs) = b == 35

-- a line without fields, or whose first byte that is no space is '#'
abbrev pub is_skipped : List (List ℕ) → Bool
is_skipped [] = true
is_skipped (field ∷ fields) = begins_comment field

-- ---- what a line speaks of

-- the place of the first image with this name, counted from 0
abbrev pub place_of : List Image → List ℕ → Option ℕ
place_of [] name = None
place_of (image ∷ images) name = if bytes_eq image.name name then Some 0 else option_map (λ n. n + 1) (place_of images name)

-- the place of the image of a system with this name
abbrev pub image_named : System → List ℕ → Option ℕ
image_named system name = place_of system.images name

-- a page has 64 words
abbrev pub fit_pages : (words pages : ℕ) → Bool
fit_pages words pages = nat_le words (64 * pages)

-- how many pages the words of the open block may fill: those of an ELF file have no limit before its end
abbrev pub limit_of : (file : Option ℕ) → (pages : ℕ) → Option ℕ
limit_of None pages = Some pages
limit_of (Some size) pages = None

-- so many words fit so many pages, where that is a limit
abbrev pub fit_limit : (words : ℕ) → (pages : Option ℕ) → Bool
fit_limit words None = true
fit_limit words (Some pages) = fit_pages words pages

-- so many words fit the pages of the open image, and none where no image is open
abbrev pub fit_open : Option Image → (words : ℕ) → Bool
fit_open None words = false
fit_open (Some image) words = fit_pages words image.pages

-- so many words more fit the open block, and none where no block is open
abbrev pub takes_more : (file : Option ℕ) → Option Image → (words : ℕ) → Bool
takes_more file None words = false
takes_more file (Some image) words = fit_limit (length image.words + words) (limit_of file image.pages)

-- the words of the open block are not as many as its file has, the last one filled up
abbrev pub lacks_words : (file : Option ℕ) → Option Image → Bool
lacks_words None block = false
lacks_words (Some size) None = false
lacks_words (Some size) (Some image) = not (length image.words == (size + 3) / 4)

-- a root with this number, counted from 1
abbrev pub has_root : System → ℕ → Bool
has_root system root = is_within 1 (length system.roots) root

-- the roots and their births, with one root more and its births
abbrev pub places_with : System → ℕ → ℕ
places_with system births = length system.roots + births_of system.roots + 1 + births

-- a root that has linked its ends 1 to 31
abbrev pub is_full : System → ℕ → Bool
is_full system root = nat_le 31 (links system.chans root)

-- ---- the rules 5 to 8, of a line that keeps the rules 3 and 4

-- the numbers are within their limits, and the clusters are some of so many
abbrev pub keeps_limits : (clusters : ℕ) → Line → Bool
keeps_limits clusters (lines.Clusters count) = is_within 2 16 count
keeps_limits clusters (lines.Pager first second) = nat_lt first clusters && nat_lt second clusters
keeps_limits clusters (lines.Syncreads count) = is_within 1 1000 count
keeps_limits clusters (lines.Syncsteps count) = is_within 64 100000 count
keeps_limits clusters (lines.Image name pages entry) = is_within 1 256 pages && is_entry pages entry
keeps_limits clusters (lines.Asm name pages) = is_within 1 256 pages
keeps_limits clusters (lines.Elf name pages size) = is_within 1 256 pages && is_within 1 65536 size
keeps_limits clusters (lines.Root root image) = nat_lt root.home clusters && nat_lt root.backup clusters && is_within 1 100000 root.limit && is_within 0 31 root.births && is_within 0 15 root.tty
keeps_limits clusters line = true

-- the two clusters or the two roots are the same
abbrev pub are_same : Line → Bool
are_same (lines.Pager first second) = first == second
are_same (lines.Root root image) = root.home == root.backup
are_same (lines.Chan first second) = first == second
are_same line = false

-- an image name is used twice, or what is named is not there
abbrev pub misnames : System → Line → Bool
misnames system (lines.Image name pages entry) = is_some (image_named system name)
misnames system (lines.Asm name pages) = is_some (image_named system name)
misnames system (lines.Elf name pages size) = is_some (image_named system name)
misnames system (lines.Root root image) = is_none (image_named system image)
misnames system (lines.Chan first second) = not (has_root system first) || not (has_root system second)
misnames system line = false

-- there is no room for the words, the root and its births, or one end more; or a file has not its words
abbrev pub overfills : State → Line → Bool
overfills state (lines.Words words) = not (takes_more state.file state.block (length words))
overfills state lines.End = lacks_words state.file state.block
overfills state (lines.Root root image) = nat_lt 32 (places_with state.system root.births)
overfills state (lines.Chan first second) = is_full state.system first || is_full state.system second
overfills state line = false

-- the line ends the block of a file, and the file breaks the rule
abbrev pub breaks_file : State → Line → ElfRule → Bool
breaks_file state lines.End rule = file_breaks state.file state.block rule
breaks_file state line rule = false

-- the rules 5 to 8 and those for files, each by its number
abbrev pub breaks_as : State → Line → Rule → Bool
breaks_as state line Limit = not (keeps_limits state.system.clusters line)
breaks_as state line Same = are_same line
breaks_as state line Name = misnames state.system line
breaks_as state line Room = overfills state line
breaks_as state line (Elf rule) = breaks_file state line rule
breaks_as state line rule = false

-- the rules for files, from the lowest on
abbrev pub file_rules : List Rule
file_rules = map Elf elf_rules

-- the lowest of the rules 5 to 8 that the line breaks
abbrev pub lowest_of : State → Line → Option Rule
lowest_of state line = find (breaks_as state line) (Limit ∷ Same ∷ Name ∷ Room ∷ [])

-- the lowest rule for files that the line breaks
abbrev pub lowest_of_file : State → Line → Option Rule
lowest_of_file state line = find (breaks_as state line) file_rules

-- ---- the rules 3 to 8, and those for files

-- a line is not read where it breaks rule 3 or else rule 4; the others are of what was read
abbrev pub breaks_said : State → Result Line Rule → Rule → Bool
breaks_said state (Ok line) rule = breaks_as state line rule
breaks_said state (Err FieldCount) FieldCount = true
breaks_said state (Err FieldCount) rule = false
breaks_said state (Err broken) FieldKind = true
breaks_said state (Err broken) rule = false

-- the same of a keyword and the fields after it
abbrev pub breaks_with : State → Keyword → List (List ℕ) → Rule → Bool
breaks_with state keyword fields rule = breaks_said state (line_of keyword fields) rule

-- the same of a line whose first field may not stand here, or says this
abbrev pub breaks_at : State → Option Keyword → List (List ℕ) → Rule → Bool
breaks_at state None fields Misplaced = true
breaks_at state None fields rule = false
breaks_at state (Some keyword) fields Misplaced = false
breaks_at state (Some keyword) fields rule = breaks_with state keyword fields rule

-- the line, which stands outside assembler blocks, breaks the rule
abbrev pub breaks : State → List ℕ → Rule → Bool
breaks state line ForeignByte = not (are_printable line)
breaks state line rule = not (is_skipped (fields_of line)) && breaks_at state (keyword_in state.stage (first_of (fields_of line))) (rest_of (fields_of line)) rule

-- the rules of such a line, from the lowest on
abbrev pub rules : List Rule
rules = ForeignByte ∷ Misplaced ∷ FieldCount ∷ FieldKind ∷ Limit ∷ Same ∷ Name ∷ Room ∷ file_rules

-- the lowest rule that the line breaks
abbrev pub broken_by : State → List ℕ → Option Rule
broken_by state line = find (breaks state line) rules

-- the same of the fields after a keyword
abbrev pub lowest_with : State → Keyword → List (List ℕ) → Option Rule
lowest_with state keyword fields = find (breaks_with state keyword fields) (FieldCount ∷ FieldKind ∷ Limit ∷ Same ∷ Name ∷ Room ∷ file_rules)

-- ---- what a line that breaks no rule adds

-- the next stage, and what is known of the system there
abbrev pub at : Stage → State → System → State
at stage state system = record { stage = stage; system = system; block = state.block; file = state.file }

-- the root of these fields, whose image has this place
abbrev pub root_of : RootFields → (image : ℕ) → Root
root_of root image = record {
  home = record { 0 = root.home };
  backup = record { 0 = root.backup };
  mode = root.mode;
  image = image;
  limit = root.limit;
  births = root.births;
  tty = root.tty;
}

-- a root more, where its image is there
abbrev pub with_root : State → RootFields → Option ℕ → State
with_root state root None = state
with_root state root (Some image) = at Roots state (record state.system { roots = state.system.roots ++ root_of root image ∷ [] })

-- an image of no words yet
abbrev pub no_words : (name : List ℕ) → (pages entry : ℕ) → Image
no_words name pages entry = record { name = name; pages = pages; entry = entry; words = [] }

-- the image with these words in place of its own
abbrev pub image_with : Image → List ℕ → Image
image_with image words = record image { words = words }

-- a block begins: that of a file of so many bytes, or of an image
abbrev pub with_open : State → Image → (file : Option ℕ) → State
with_open state image file = record { stage = InImage; system = state.system; block = Some image; file = file }

-- the images with the one of the block, where one is open
abbrev pub with_image : List Image → Option Image → List Image
with_image images None = images
with_image images (Some image) = images ++ image ∷ []

-- the block ends with this image
abbrev pub closed : State → Option Image → State
closed state image = record { stage = Images; system = record state.system { images = with_image state.system.images image }; block = None; file = None }

-- the block ends, and its image has these words
abbrev pub closed_with : State → List ℕ → State
closed_with state words = closed state (option_map (λ image. image_with image words) state.block)

-- the state after the line
abbrev pub add_line : State → Line → State
add_line state (lines.Clusters count) = at AfterClusters state (record state.system { clusters = count })
add_line state (lines.Pager first second) = at AfterPager state (record state.system { pager = (record { 0 = first }, record { 0 = second }) })
add_line state (lines.Syncreads count) = at AfterSyncreads state (record state.system { syncreads = count })
add_line state (lines.Syncsteps count) = at Images state (record state.system { syncsteps = count })
add_line state (lines.Image name pages entry) = with_open state (no_words name pages entry) None
add_line state (lines.Asm name pages) = with_open state (no_words name pages default_entry) None
add_line state (lines.Elf name pages size) = with_open state (no_words name pages default_entry) (Some size)
add_line state (lines.Words words) = record state { block = option_map (λ image. image_with image (image.words ++ words)) state.block }
add_line state lines.End = closed state (option_map (described state.file) state.block)
add_line state (lines.Root root image) = with_root state root (image_named state.system image)
add_line state (lines.Chan first second) = at Chans state (record state.system { chans = state.system.chans ++ (first, second) ∷ [] })

-- a line that is not read adds nothing
abbrev pub add_said : State → Result Line Rule → State
add_said state (Ok line) = add_line state line
add_said state (Err rule) = state

-- the state after a line with this keyword and these fields after it
abbrev pub add : State → Keyword → List (List ℕ) → State
add state keyword fields = add_said state (line_of keyword fields)

-- ---- what the rules have kept so far

-- 16 clusters at most, 32 processes with all births, and an open image inside a block
pub record HasRoom (state : State) : Type 0 where
  pub clusters : state.system.clusters ≤ 16
  pub places : length state.system.roots + births_of state.system.roots ≤ 32
  pub image : state.stage ≡ InImage → is_some state.block ≡ true
