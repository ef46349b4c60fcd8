-- The image that the end of a block `elf` adds stays where it is.
use Rattle.std.proofs.Common.{◌≡◌, ℕ, zero, suc, ◌+◌, Bool, true, false, List, [], ◌∷◌, ◌++◌, length, take, drop, Option, Some, None, Result, Ok, Err, refl, sym, ap, ◌∙◌, append_assoc, append-nil, subst}
use Rattle.std.specs.Prelude.{codes, slice_get}
use Rattle.std.specs.Option.{option_map}
use Rattle.std.proofs.lemmas.List.{take-append-drop}
use Rattle.text_parts.specs.Lines.{lines_of, fields_of}
use Rattle.rv_asm.specs.Program.{reading_of_lines}
use Rattle.sys_text.specs.declared.stage.Keyword.{Keyword}
use Rattle.sys_text.specs.declared.stage.Stage.TheVariants.{InImage}
use Rattle.sys_text.specs.declared.refusal.Rule.{Rule}
use Rattle.sys_text.specs.declared.line.RootFields.{RootFields}
use Rattle.sys_text.specs.declared.system.System.{System}
use Rattle.sys_text.specs.declared.system.Image.{Image}
use Rattle.sys_text.specs.declared.state.State.{State}
use Rattle.sys_text.specs.Files.{file_of, entry_loaded, image_of_file, described}
use Rattle.sys_text.specs.Line.{Line, line_of}
use Rattle.sys_text.specs.Line as lines
use Rattle.sys_text.specs.Rules.{keyword_in, first_of, rest_of, is_skipped, image_named, with_root, image_with, closed, add_line, add_said}
use Rattle.sys_text.specs.Reading.{Place, Outside, InBlock, nothing_yet, kept, is_end, reading_of}
use Rattle.sys_text.specs.RuleByRule.{place_with, place_after, place_behind, system_at, words_or_none, IsSystemOf}
use Rattle.sys_text.specs.ElfBlocks.{HasElfBlock, HasLoaded}
use Rattle.sys_text.proofs.ElfMemory.{loaded_filled}
use Rattle.sys_text.proofs.Refusing.{system_from_answer}

-- ---- images stay

-- the images, with more behind them
abbrev Grows : List Image → List Image → Type 0
Grows old new = (more : List Image) × (new ≡ old ++ more)

grows_none : (images : List Image) → Grows images images
grows_none images = ([], sym (append-nil images))

grows_then : (a b c : List Image) → Grows a b → Grows b c → Grows a c
grows_then a b c f g = (f.0 ++ g.0, g.1 ∙ ap (λ (images : List Image). images ++ g.0) f.1 ∙ append_assoc a f.0 g.0)

closed_grows : (state : State) (image : Option Image) → Grows state.system.images (closed state image).system.images
closed_grows state None = grows_none state.system.images
closed_grows state (Some image) = (image ∷ [], refl)

root_grows : (state : State) (root : RootFields) (place : Option ℕ) → Grows state.system.images (with_root state root place).system.images
root_grows state root None = grows_none state.system.images
root_grows state root (Some place) = grows_none state.system.images

line_grows : (state : State) (line : Line) → Grows state.system.images (add_line state line).system.images
line_grows state (lines.Clusters count) = grows_none state.system.images
line_grows state (lines.Pager first second) = grows_none state.system.images
line_grows state (lines.Syncreads count) = grows_none state.system.images
line_grows state (lines.Syncsteps count) = grows_none state.system.images
line_grows state (lines.Image name pages at) = grows_none state.system.images
line_grows state (lines.Asm name pages) = grows_none state.system.images
line_grows state (lines.Elf name pages size) = grows_none state.system.images
line_grows state (lines.Words words) = grows_none state.system.images
line_grows state lines.End = closed_grows state (option_map (described state.file) state.block)
line_grows state (lines.Root root image) = root_grows state root (image_named state.system image)
line_grows state (lines.Chan first second) = grows_none state.system.images

said_grows : (state : State) (said : Result Line Rule) → Grows state.system.images (add_said state said).system.images
said_grows state (Ok line) = line_grows state line
said_grows state (Err rule) = grows_none state.system.images

kept_grows : (state : State) (fields : List (List ℕ)) → Grows state.system.images ((kept state fields).0).system.images
kept_grows state fields = by_skip (is_skipped fields) refl (keyword_in state.stage (first_of fields)) refl
  where
    by_skip : (b : Bool) → is_skipped fields ≡ b → (o : Option Keyword) → keyword_in state.stage (first_of fields) ≡ o → Grows state.system.images ((kept state fields).0).system.images
    by_skip true skip o key = rw skip (grows_none state.system.images)
    by_skip false skip None key = rw (skip, key) (grows_none state.system.images)
    by_skip false skip (Some keyword) key = rw (skip, key) (said_grows state (line_of keyword (rest_of fields)))

abbrev images_at : Place → List Image
images_at (Outside state) = state.system.images
images_at (InBlock state header block) = state.system.images

with_grows : (n : ℕ) (after : State × Bool) → images_at (place_with n after) ≡ (after.0).system.images
with_grows n (state, true) = refl
with_grows n (state, false) = refl

after_grows : (place : Place) (n : ℕ) (line : List ℕ) → Grows (images_at place) (images_at (place_after place n line))
after_grows (Outside state) n line = let g = kept_grows state (fields_of line) in (g.0, with_grows n (kept state (fields_of line)) ∙ g.1)
after_grows (InBlock state header block) n line = by_end (is_end (fields_of line)) refl
  where
    by_end : (b : Bool) → is_end (fields_of line) ≡ b → Grows state.system.images (images_at (place_after (InBlock state header block) n line))
    by_end true e = rw e (closed_grows state (option_map (λ (image : Image). image_with image (words_or_none (reading_of_lines block))) state.block))
    by_end false e = rw e (grows_none state.system.images)

behind_grows : (place : Place) (n : ℕ) (ls : List (List ℕ)) → Grows (images_at place) (images_at (place_behind place n ls))
behind_grows place n [] = grows_none (images_at place)
behind_grows place n (line ∷ ls) =
    grows_then (images_at place) (images_at (place_after place (n + 1) line)) (images_at (place_behind (place_after place (n + 1) line) (n + 1) ls)) (after_grows place (n + 1) line) (behind_grows (place_after place (n + 1) line) (n + 1) ls)

system_images : (place : Place) (system : System) → system_at place ≡ Some system → system.images ≡ images_at place
system_images (Outside state) system e = let same : state.system ≡ system = cc in ap (λ (s : System). s.images) (sym same)
system_images (InBlock state header block) system e = absurd cc

-- ---- the line that ends the block

behind_both : (place : Place) (n : ℕ) (xs ys : List (List ℕ)) → (m : ℕ) × (place_behind place n (xs ++ ys) ≡ place_behind (place_behind place n xs) m ys)
behind_both place n [] ys = (n, refl)
behind_both place n (x ∷ xs) ys = behind_both (place_after place (n + 1) x) (n + 1) xs ys

drop_at : (ls : List (List ℕ)) (i : ℕ) (fields : List (List ℕ)) → option_map fields_of (slice_get ls i) ≡ Some fields → (line : List ℕ) × (rest : List (List ℕ)) × (drop i ls ≡ line ∷ rest) × (fields_of line ≡ fields)
drop_at [] i fields e = absurd cc
drop_at (line ∷ ls) zero fields e = let same : fields_of line ≡ fields = cc in (line, ls, refl, same)
drop_at (line ∷ ls) (suc i) fields e = drop_at ls i fields e

end_closes : (state : State) (n size : ℕ) (image : Image) (line : List ℕ) → fields_of line ≡ codes "end" ∷ [] → state.stage ≡ InImage → state.file ≡ Some size → state.block ≡ Some image
    → images_at (place_after (Outside state) n line) ≡ state.system.images ++ image_of_file size image ∷ []
end_closes state n size image line fields stage file block = rw (fields, stage, file, block) refl

found_there : (images : List Image) (image : Image) (more : List Image) → slice_get ((images ++ image ∷ []) ++ more) (length images) ≡ Some image
found_there [] image more = refl
found_there (first ∷ images) image more = found_there images image more

-- the image is behind those before the block, and stays
block_image : (text : List ℕ) (before number : ℕ) (file : List ℕ) (pages : ℕ) (system : System) → (b : HasElfBlock text before number file pages) → reading_of text ≡ Ok system → slice_get system.images number ≡ Some (image_of_file b.size b.image)
block_image text before number file pages system b e =
    let all = lines_of text in
    let line = drop_at all before (codes "end" ∷ []) b.ends in
    let parts : all ≡ take before all ++ line.0 ∷ line.1 = sym (take-append-drop before all) ∙ ap (λ (ls : List (List ℕ)). take before all ++ ls) line.2 in
    let split = behind_both (Outside nothing_yet) 0 (take before all) (line.0 ∷ line.1) in
    let m = split.0 in
    let place : place_behind (Outside nothing_yet) 0 all ≡ place_behind (place_after (Outside b.state) (m + 1) line.0) (m + 1) line.1 =
    ap (place_behind (Outside nothing_yet) 0) parts ∙ split.1 ∙ ap (λ (p : Place). place_behind p m (line.0 ∷ line.1)) b.stands in
    let of_text : IsSystemOf text system = system_from_answer text (Ok system) e in
    let after = place_after (Outside b.state) (m + 1) line.0 in
    let grown = behind_grows after (m + 1) line.1 in
    let closes = end_closes b.state (m + 1) b.size b.image line.0 line.3 b.in_block b.is_file b.block in
    let images : system.images ≡ (b.state.system.images ++ image_of_file b.size b.image ∷ []) ++ grown.0 =
    system_images (place_behind (Outside nothing_yet) 0 all) system of_text.system_is ∙ ap images_at place ∙ grown.1 ∙ ap (λ (is : List Image). is ++ grown.0) closes in
    ap (slice_get system.images) b.number_is ∙ ap (λ (is : List Image). slice_get is (length b.state.system.images)) images ∙ found_there b.state.system.images (image_of_file b.size b.image) grown.0

pub elf_block_loads : (text : List ℕ) (before number : ℕ) (file : List ℕ) (pages : ℕ) (system : System) → HasElfBlock text before number file pages → reading_of text ≡ Ok system → HasLoaded system number file pages
unfolding entry_loaded
elf_block_loads text before number file pages system b e =
    let P : List ℕ → ℕ → Type 0 = λ (f : List ℕ) (n : ℕ). HasLoaded system number f n in
    subst (λ (f : List ℕ). P f pages) (sym b.file_is) (subst (P (file_of b.size b.image.words)) (sym b.pages_are) (record {
      image = image_of_file b.size b.image;
      at = block_image text before number file pages system b e;
      pages_are = refl;
      entry_is = refl;
      memory = loaded_filled b.size b.image.words b.image.pages;
    }))
