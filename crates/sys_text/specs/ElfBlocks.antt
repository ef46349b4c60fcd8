-- A block `elf` of a text, and what becomes of its file.
use Rattle.std.specs.Prelude.{◌≡◌, ℕ, ◌-◌, ◌*◌, List, [], ◌∷◌, ◌++◌, length, take, slice_get, replicate, codes, Some, option_map}
use Rattle.text_parts.specs.Lines.{lines_of, fields_of}
use Rattle.rv_elf.specs.File.{entry}
use Rattle.rv_elf.specs.Loaded.{loaded}
use Rattle.sys_text.specs.declared.stage.Stage.TheVariants.{InImage}
use Rattle.sys_text.specs.declared.system.System.{System}
use Rattle.sys_text.specs.declared.system.Image.{Image}
use Rattle.sys_text.specs.declared.state.State.{State}
use Rattle.sys_text.specs.Boot.{bytes_of_words}
use Rattle.sys_text.specs.Files.{file_of}
use Rattle.sys_text.specs.Reading.{Outside, nothing_yet}
use Rattle.sys_text.specs.RuleByRule.{place_behind}

-- The line behind so many others ends a block `elf` of so many pages, whose words are those of the file. Its image is the one with this number, counted from 0.
pub record HasElfBlock (text : List ℕ) (before number : ℕ) (file : List ℕ) (pages : ℕ) : Type 0 where
  pub state : State
  pub size : ℕ
  pub image : Image
  pub stands : place_behind (Outside nothing_yet) 0 (take before (lines_of text)) ≡ Outside state
  pub ends : option_map fields_of (slice_get (lines_of text) before) ≡ Some (codes "end" ∷ [])
  pub in_block : state.stage ≡ InImage
  pub is_file : state.file ≡ Some size
  pub block : state.block ≡ Some image
  pub file_is : file ≡ file_of size image.words
  pub pages_are : pages ≡ image.pages
  pub number_is : number ≡ length state.system.images

-- The image with this number has so many pages, which its words and zero bytes behind them fill with the loaded memory of the file, and the file's entry.
pub record HasLoaded (system : System) (number : ℕ) (file : List ℕ) (pages : ℕ) : Type 0 where
  pub image : Image
  pub at : slice_get system.images number ≡ Some image
  pub pages_are : image.pages ≡ pages
  pub entry_is : image.entry ≡ entry file
  pub memory : bytes_of_words image.words ++ replicate (256 * pages - length (bytes_of_words image.words)) 0 ≡ loaded file pages
