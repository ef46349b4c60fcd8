-- The images of a reading by their names.
use Rattle.std.specs.Prelude.{ℕ, ◌≡◌, List}
use Rattle.text_parts.specs.Table.{lookup}
use Rattle.sys_text.specs.declared.system.Image.{Image}
use Rattle.sys_text.specs.declared.state.Reader.{Reader}
use Rattle.sys_text.specs.Rules.{place_of}

-- each name has the place of the first image with this name
abbrev pub FindImages : List (List ℕ × ℕ) → List Image → Type 0
FindImages places images = (name : List ℕ) → lookup places name ≡ place_of images name

-- the places are those of the images that are closed
pub record KnowsImages (reader : Reader) : Type 0 where
  pub places : FindImages reader.places reader.state.system.images
