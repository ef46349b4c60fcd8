-- The canonical text of a system: lines of fields.
use Rattle.std.specs.Prelude.{ℕ, zero, suc, ◌+◌, ◌/◌, ◌%◌, nat_lt, ◌==◌, if◌then◌else◌, List, [], ◌∷◌, ◌++◌, length, map, take, drop, codes, slice_get, option_map, unwrap_or}
use Rattle.std.specs.List.{flat_map}
use Rattle.std.specs.Fmt.{decimal}
use Rattle.t32_base.specs.declared.process.Mode.{Mode}
use Rattle.t32_base.specs.declared.process.Mode.TheVariants.{Quarter, Half, Full}
use Rattle.sys_text.specs.declared.system.System.{System}
use Rattle.sys_text.specs.declared.system.Image.{Image}
use Rattle.sys_text.specs.declared.system.Root.{Root}
use Rattle.sys_text.specs.Line.{default_entry}

-- one space between the fields of a line, which a line feed ends
abbrev pub line_text : List (List ℕ) → List ℕ
line_text [] = 10 ∷ []
line_text (f ∷ []) = f ++ 10 ∷ []
line_text (f ∷ g ∷ fs) = f ++ 32 ∷ line_text (g ∷ fs)

-- a hexadecimal digit, in lower case
abbrev pub hex_digit : ℕ → ℕ
hex_digit d = if nat_lt d 10 then 48 + d else 87 + d

-- so many digits of a number
abbrev pub hex_digits : ℕ → ℕ → List ℕ
hex_digits zero n = []
hex_digits (suc k) n = hex_digits k (n / 16) ++ hex_digit (n % 16) ∷ []

unfoldable pub word_text : ℕ → List ℕ
word_text w = hex_digits 8 w

-- eight words in a line. A line takes at least one word, so there are at most as many lines as words
abbrev pub words_line : List ℕ → List (List ℕ)
words_line ws = codes "words" ∷ map word_text ws

abbrev pub words_lines_upto : ℕ → List ℕ → List (List (List ℕ))
words_lines_upto zero ws = []
words_lines_upto (suc n) [] = []
words_lines_upto (suc n) (w ∷ ws) = words_line (take 8 (w ∷ ws)) ∷ words_lines_upto n (drop 8 (w ∷ ws))

unfoldable pub words_lines : List ℕ → List (List (List ℕ))
words_lines ws = words_lines_upto (length ws) ws

-- the entry of an image, where it is not the one of a text that does not say it
abbrev pub entry_fields : ℕ → List (List ℕ)
entry_fields entry = if entry == default_entry then [] else decimal entry ∷ []

-- the first line of an image block
abbrev pub image_line : Image → List (List ℕ)
image_line image = codes "image" ∷ image.name ∷ decimal image.pages ∷ entry_fields image.entry

-- an image block
abbrev pub image_lines : Image → List (List (List ℕ))
image_lines image = image_line image ∷ (words_lines image.words ++ (codes "end" ∷ []) ∷ [])

abbrev pub mode_text : Mode → List ℕ
mode_text Quarter = codes "quarter"
mode_text Half = codes "half"
mode_text Full = codes "full"

-- the name of the image of a root
abbrev pub image_name : List Image → ℕ → List ℕ
image_name images i = unwrap_or (option_map (λ (image : Image). image.name) (slice_get images i)) []

abbrev pub root_line : List Image → Root → List (List ℕ)
root_line images root =
    codes "root" ∷ decimal (root.home).0 ∷ decimal (root.backup).0 ∷ mode_text root.mode ∷ image_name images root.image
    ∷ decimal root.limit ∷ decimal root.births ∷ decimal root.tty ∷ []

abbrev pub chan_line : ℕ × ℕ → List (List ℕ)
chan_line chan = codes "chan" ∷ decimal chan.0 ∷ decimal chan.1 ∷ []

abbrev pub header_lines : System → List (List (List ℕ))
header_lines s =
    (codes "clusters" ∷ decimal s.clusters ∷ [])
    ∷ (codes "pager" ∷ decimal ((s.pager).0).0 ∷ decimal ((s.pager).1).0 ∷ [])
    ∷ (codes "syncreads" ∷ decimal s.syncreads ∷ [])
    ∷ (codes "syncsteps" ∷ decimal s.syncsteps ∷ []) ∷ []

unfoldable pub system_lines : System → List (List (List ℕ))
system_lines s = header_lines s ++ (flat_map image_lines s.images ++ (map (root_line s.images) s.roots ++ map chan_line s.chans))

-- lines one after another
abbrev pub lines_text : List (List (List ℕ)) → List ℕ
lines_text ls = flat_map line_text ls

abbrev pub system_text : System → List ℕ
system_text s = lines_text (system_lines s)
