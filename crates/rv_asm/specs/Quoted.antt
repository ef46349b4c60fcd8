-- A text in quotes.
use Rattle.std.specs.Prelude.{ℕ, Bool, true, false, not, List, [], ◌∷◌, Option, Some, None, ◌==◌, ◌&&◌, if◌then◌else◌}
use Rattle.std.specs.Option.{option_map}

-- the byte that a byte after a backslash stands for
abbrev pub escaped_byte : ℕ → Option ℕ
escaped_byte b = if b == 110 then Some 10 else (if b == 92 then Some 92 else (if b == 34 then Some 34 else None))

-- the byte that a byte adds, if it adds one, where a backslash stood before it or not; None where it may not stand there
abbrev pub spelled : Bool → ℕ → Option (Option ℕ)
spelled true b = option_map Some (escaped_byte b)
spelled false b = if b == 92 then Some None else Some (Some b)

-- a quote that ends the text
abbrev pub is_quote : Bool → ℕ → Bool
is_quote escaped b = not escaped && b == 34

-- is the byte after b escaped?
abbrev pub escapes : Bool → ℕ → Bool
escapes escaped b = not escaped && b == 92

-- the byte, if there is one, and the rest
abbrev pub added : Option ℕ → List ℕ → List ℕ
added None rest = rest
added (Some b) rest = b ∷ rest

-- the same, where the byte may not stand there or the rest is malformed
abbrev pub joined : Option (Option ℕ) → Option (List ℕ) → Option (List ℕ)
joined None rest = None
joined (Some byte) None = None
joined (Some byte) (Some rest) = Some (added byte rest)

abbrev pub nothing_after : List ℕ → Option (List ℕ)
nothing_after [] = Some []
nothing_after (b ∷ bs) = None

-- the bytes of a text from after its first quote on, which its last byte closes
abbrev pub text_from : Bool → List ℕ → Option (List ℕ)
text_from escaped [] = None
text_from escaped (b ∷ bs) = if is_quote escaped b then nothing_after bs else joined (spelled escaped b) (text_from (escapes escaped b) bs)

-- what stands after the first quote
abbrev pub quoted : List ℕ → Option (List ℕ)
quoted [] = None
quoted (b ∷ bs) = if b == 34 then Some bs else None

abbrev pub text_in : Option (List ℕ) → Option (List ℕ)
text_in None = None
text_in (Some rest) = text_from false rest

-- the bytes that a text in quotes stands for
abbrev pub text_of : List ℕ → Option (List ℕ)
text_of text = text_in (quoted text)
