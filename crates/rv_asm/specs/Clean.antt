-- Texts whose lines are printable.
use Rattle.std.specs.Prelude.{ℕ, Bool, List, ◌||◌}
use Rattle.std.specs.List.{list_all}
use Rattle.text_parts.specs.Lines.{is_newline, is_printable}

abbrev pub is_text_byte : ℕ → Bool
is_text_byte b = is_printable b || is_newline b

abbrev pub is_clean : List ℕ → Bool
is_clean text = list_all is_text_byte text
