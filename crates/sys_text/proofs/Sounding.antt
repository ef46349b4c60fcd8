-- Lines that break no rule keep a system sound.
use Rattle.std.proofs.Common.{◌≡◌, ℕ, ◌+◌, ◌*◌, ◌<◌, ◌≤◌, Bool, true, false, not, ◌&&◌, ◌||◌, eqb, nat_le, nat_lt, List, [], ◌∷◌, ◌++◌, length, Option, Some, None, refl, sym, ap, ◌∙◌, arith, length-append}
use Rattle.std.specs.List.{list_all}
use Rattle.std.specs.Prelude.{is_none}
use Rattle.std.specs.Option.{option_map}
use Rattle.std.proofs.lemmas.Bool.{not-false, le-leb, leb-true, ltb-false, lt-ltb}
use Rattle.sys_text.specs.declared.stage.Keyword.{Keyword}
use Rattle.sys_text.specs.declared.line.RootFields.{RootFields}
use Rattle.sys_text.specs.declared.system.Image.{Image}
use Rattle.sys_text.specs.declared.state.State.{State}
use Rattle.sys_text.specs.Valid.{is_within, is_entry, is_name, is_chan}
use Rattle.sys_text.specs.Line.{Line, default_entry}
use Rattle.sys_text.specs.Files.{words_loaded, image_of_file, described}
use Rattle.sys_text.proofs.FileRules.{of_file, entry_kept}
use Rattle.sys_text.proofs.FileWords.{words_fit}
use Rattle.sys_text.specs.Line as lines
use Rattle.sys_text.specs.Rules.{place_of, image_named, has_root, places_with, keeps_limits, root_of, with_root, limit_of, fit_limit, fit_open, takes_more, lowest_of_file, no_words, image_with, with_open, closed, closed_with, add_line, add}
use Rattle.sys_text.proofs.Bounds.{first_of_two, second_of_two}
use Rattle.sys_text.proofs.Keeping.{Keeps, KeepsRules, le_of, births-root}
use Rattle.sys_text.proofs.Printed.{both, all_joined}
use Rattle.sys_text.proofs.Spelling.{keyword_said, said_keyword, HasName, has_name}
use Rattle.sys_text.proofs.Standing.{rank, StandsAt}
use Rattle.sys_text.proofs.Sound.{HasOpen, IsSound, is_headed, is_shaped, is_placed, not_true, none_of, once_push, place_within, more_images, more_roots, links_few}

-- ---- the header

pair : (clusters a b : ℕ) → nat_lt a clusters ≡ true → nat_lt b clusters ≡ true → eqb a b ≡ false → (nat_lt a clusters && nat_lt b clusters && not (eqb a b)) ≡ true
pair clusters a b h i e = both _ _ (both _ _ h i) (not_true (eqb a b) e)

sound_clusters : (state : State) (count : ℕ) → is_within 2 16 count ≡ true → rank state.stage ≡ 0 → IsSound state → IsSound (add_line state (lines.Clusters count))
sound_clusters state count n st s =
    record {
      clusters = λ r. n;
      pager = λ r. absurd (omega (arith, r));
      reads = λ r. absurd (omega (arith, r));
      steps = λ r. absurd (omega (arith, r));
      images = s.images;
      once = s.once;
      begins = λ e. absurd (omega (arith, e));
      roots = ap (list_all (is_placed count (length state.system.images))) (s.begins st);
      few = s.few;
      some = λ r. absurd (omega (arith, r));
      chans = s.chans;
      linked = s.linked;
      block = λ e. absurd (omega (arith, e));
    }

sound_pager : (state : State) (first second : ℕ) → KeepsRules state (lines.Pager first second) → 1 ≤ rank state.stage → IsSound state → IsSound (add_line state (lines.Pager first second))
sound_pager state first second k st s =
    let c = state.system.clusters in
    let limits = not-false (nat_lt first c && nat_lt second c) k.limits in
    record {
      clusters = λ r. s.clusters st;
      pager = λ r. pair c first second (first_of_two (nat_lt first c) _ limits) (second_of_two (nat_lt first c) _ limits) k.same;
      reads = λ r. absurd (omega (arith, r));
      steps = λ r. absurd (omega (arith, r));
      images = s.images;
      once = s.once;
      begins = λ e. absurd (omega (arith, e));
      roots = s.roots;
      few = s.few;
      some = λ r. absurd (omega (arith, r));
      chans = s.chans;
      linked = s.linked;
      block = λ e. absurd (omega (arith, e));
    }

sound_syncreads : (state : State) (count : ℕ) → is_within 1 1000 count ≡ true → 2 ≤ rank state.stage → IsSound state → IsSound (add_line state (lines.Syncreads count))
sound_syncreads state count n st s =
    record {
      clusters = λ r. s.clusters (omega (arith, st));
      pager = λ r. s.pager st;
      reads = λ r. n;
      steps = λ r. absurd (omega (arith, r));
      images = s.images;
      once = s.once;
      begins = λ e. absurd (omega (arith, e));
      roots = s.roots;
      few = s.few;
      some = λ r. absurd (omega (arith, r));
      chans = s.chans;
      linked = s.linked;
      block = λ e. absurd (omega (arith, e));
    }

sound_syncsteps : (state : State) (count : ℕ) → is_within 64 100000 count ≡ true → 3 ≤ rank state.stage → IsSound state → IsSound (add_line state (lines.Syncsteps count))
sound_syncsteps state count n st s =
    record {
      clusters = λ r. s.clusters (omega (arith, st));
      pager = λ r. s.pager (omega (arith, st));
      reads = λ r. s.reads st;
      steps = λ r. n;
      images = s.images;
      once = s.once;
      begins = λ e. absurd (omega (arith, e));
      roots = s.roots;
      few = s.few;
      some = λ r. absurd (omega (arith, r));
      chans = s.chans;
      linked = s.linked;
      block = λ e. absurd (omega (arith, e));
    }

-- ---- images

fits_none : (n : ℕ) → nat_le (4 * 0) (256 * n) ≡ true
fits_none n = le-leb (4 * 0) (256 * n) (omega arith)

sound_opened : (state : State) (name : List ℕ) (pages entry : ℕ) (file : Option ℕ) → is_name name ≡ true → is_within 1 256 pages ≡ true → is_entry pages entry ≡ true → place_of state.system.images name ≡ None → 4 ≤ rank state.stage → IsSound state
    → IsSound (with_open state (no_words name pages entry) file)
sound_opened state name pages entry file named within at none st s = record {
  clusters = λ r. s.clusters (omega (arith, st));
  pager = λ r. s.pager (omega (arith, st));
  reads = λ r. s.reads (omega (arith, st));
  steps = λ r. s.steps st;
  images = s.images;
  once = s.once;
  begins = λ e. absurd (omega (arith, e));
  roots = s.roots;
  few = s.few;
  some = λ r. absurd (omega (arith, r));
  chans = s.chans;
  linked = s.linked;
  block = λ e. record { image = no_words name pages entry; is_open = refl; headed = both _ _ (both _ _ named within) at; fits = λ n. fits_none pages; fresh = none };
}

-- the default entry is in any memory
has_default : (pages : ℕ) → is_within 1 256 pages ≡ true → is_entry pages default_entry ≡ true
has_default pages h = both _ _ refl (both _ _ refl (le-leb (default_entry + 4) (65536 + 256 * pages) (omega (arith, leb-true 1 pages (first_of_two (nat_le 1 pages) _ h)))))

shape_with : (image : Image) (words : List ℕ) → is_headed image ≡ true → length words ≤ 64 * image.pages → is_shaped (image_with image words) ≡ true
shape_with image words h few = both _ _ h (le-leb (4 * length words) (256 * image.pages) (omega (arith, few)))

open_more : (images : List Image) (file : Option ℕ) (block : Option Image) (words : List ℕ) → not (takes_more file block (length words)) ≡ false → HasOpen images file block → HasOpen images file (option_map (λ image. image_with image (image.words ++ words)) block)
open_more images file block words room h = record { image = image_with h.image ((h.image).words ++ words); is_open = rw h.is_open refl; headed = h.headed; fits = fits_more h.image (room_of h.image h.is_open); fresh = h.fresh }
  where
    room_of : (image : Image) → block ≡ Some image → not (fit_limit (length image.words + length words) (limit_of file image.pages)) ≡ false
    room_of image is = ap (λ (b : Option Image). not (takes_more file b (length words))) (sym is) ∙ room

    fits_more : (image : Image) → not (fit_limit (length image.words + length words) (limit_of file image.pages)) ≡ false → file ≡ None → nat_le (4 * length (image.words ++ words)) (256 * image.pages) ≡ true
    fits_more image free none =
        let own = rw none at free in
        let fit = le_of (length image.words + length words) (64 * image.pages) own in
        le-leb (4 * length (image.words ++ words)) (256 * image.pages) (omega (arith, fit, length-append image.words words))

sound_words : (state : State) (words : List ℕ) → not (takes_more state.file state.block (length words)) ≡ false → IsSound state → IsSound (add_line state (lines.Words words))
sound_words state words room s = record {
  clusters = s.clusters;
  pager = s.pager;
  reads = s.reads;
  steps = s.steps;
  images = s.images;
  once = s.once;
  begins = s.begins;
  roots = s.roots;
  few = s.few;
  some = s.some;
  chans = s.chans;
  linked = s.linked;
  block = λ e. open_more state.system.images state.file state.block words room (s.block e);
}

sound_closed : (state : State) (image : Image) → rank state.stage ≡ 5 → is_shaped image ≡ true → place_of state.system.images image.name ≡ None → IsSound state → IsSound (closed state (Some image))
sound_closed state image st shaped fresh s =
    let images = state.system.images in
    let one_more : length (images ++ image ∷ []) ≡ length images + 1 = length-append images (image ∷ []) in
    record {
      clusters = λ r. s.clusters (omega (arith, st));
      pager = λ r. s.pager (omega (arith, st));
      reads = λ r. s.reads (omega (arith, st));
      steps = λ r. s.steps (omega (arith, st));
      images = all_joined is_shaped images (image ∷ []) s.images (both _ _ shaped refl);
      once = once_push images image fresh s.once;
      begins = λ e. absurd (omega (arith, e));
      roots = ap (λ n. list_all (is_placed state.system.clusters n) state.system.roots) one_more ∙ more_images state.system.clusters (length images) state.system.roots s.roots;
      few = s.few;
      some = λ r. absurd (omega (arith, r));
      chans = s.chans;
      linked = s.linked;
      block = λ e. absurd (omega (arith, e));
    }

pub sound_closed_with : (state : State) (words : List ℕ) → rank state.stage ≡ 5 → fit_open state.block (length words) ≡ true → IsSound state → IsSound (closed_with state words)
sound_closed_with state words st fit s =
    let h = s.block st in
    let few = leb-true (length words) (64 * h.image.pages) (rw h.is_open at fit) in
    rw h.is_open (sound_closed state (image_with h.image words) st (shape_with h.image words h.headed few) h.fresh s)

sound_end : (state : State) → rank state.stage ≡ 5 → lowest_of_file state lines.End ≡ None → IsSound state → IsSound (add_line state lines.End)
sound_end state st none s = by_file state.file refl
  where
    by_file : (o : Option ℕ) → state.file ≡ o → IsSound (closed state (option_map (described state.file) state.block))
    by_file None e =
        let opened = (s.block st).is_open in
        rw (opened, e) (sound_closed state (s.block st).image st (both _ _ (s.block st).headed ((s.block st).fits e)) (s.block st).fresh s)
    by_file (Some size) e =
        let opened = (s.block st).is_open in
        let image = (s.block st).image in
        let at = entry_kept size image.words image.pages (of_file state image size opened e none) in
        let headed : is_headed (image_of_file size image) ≡ true = both _ _ (first_of_two (is_name image.name && is_within 1 256 image.pages) _ (s.block st).headed) at in
        let few = le-leb (4 * length (words_loaded size image.words image.pages)) (256 * image.pages) (words_fit size image.words image.pages) in
        rw (opened, e) (sound_closed state (image_of_file size image) st (both _ _ headed few) (s.block st).fresh s)

-- ---- roots

there : (o : Option ℕ) → is_none o ≡ false → (n : ℕ) × (o ≡ Some n)
there None h = absurd cc
there (Some n) h = (n, refl)

sound_placed : (state : State) (fields : RootFields) (place : ℕ) → not (keeps_limits state.system.clusters (lines.Root fields [])) ≡ false → eqb fields.home fields.backup ≡ false → nat_lt 32 (places_with state.system fields.births) ≡ false → place < length state.system.images → 4 ≤ rank state.stage → IsSound state
    → IsSound (with_root state fields (Some place))
sound_placed state fields place limits same free below st s =
    let c = state.system.clusters in
    let roots = state.system.roots in
    let root = root_of fields place in
    let all = not-false (keeps_limits c (lines.Root fields [])) limits in
    let abcd = first_of_two _ (is_within 0 15 fields.tty) all in
    let tty = second_of_two _ (is_within 0 15 fields.tty) all in
    let abc = first_of_two _ (is_within 0 31 fields.births) abcd in
    let births = second_of_two _ (is_within 0 31 fields.births) abcd in
    let ab = first_of_two _ (is_within 1 100000 fields.limit) abc in
    let limit = second_of_two _ (is_within 1 100000 fields.limit) abc in
    let home = first_of_two (nat_lt fields.home c) (nat_lt fields.backup c) ab in
    let backup = second_of_two (nat_lt fields.home c) (nat_lt fields.backup c) ab in
    let placed : is_placed c (length state.system.images) root ≡ true = both _ _ (both _ _ (both _ _ (both _ _ (pair c fields.home fields.backup home backup same) (lt-ltb place (length state.system.images) below)) limit)
    (second_of_two (nat_le 0 fields.births) _ births)) (second_of_two (nat_le 0 fields.tty) _ tty) in
    let room = ltb-false 32 (places_with state.system fields.births) free in
    let one_more : length (roots ++ root ∷ []) ≡ length roots + 1 = length-append roots (root ∷ []) in
    record {
      clusters = λ r. s.clusters (omega (arith, st));
      pager = λ r. s.pager (omega (arith, st));
      reads = λ r. s.reads (omega (arith, st));
      steps = λ r. s.steps st;
      images = s.images;
      once = s.once;
      begins = λ e. absurd (omega (arith, e));
      roots = all_joined (is_placed c (length state.system.images)) roots (root ∷ []) s.roots (both _ _ placed refl);
      few = omega (arith, room, one_more, births-root roots root);
      some = λ r. omega (arith, one_more);
      chans = ap (λ n. list_all (is_chan n) state.system.chans) one_more ∙ more_roots (length roots) state.system.chans s.chans;
      linked = s.linked;
      block = λ e. absurd (omega (arith, e));
    }

sound_root : (state : State) (root : RootFields) (image : List ℕ) → KeepsRules state (lines.Root root image) → 4 ≤ rank state.stage → IsSound state → IsSound (add_line state (lines.Root root image))
sound_root state root image k st s =
    let place = there (image_named state.system image) k.name in
    rw place.1 (sound_placed state root place.0 k.limits k.same k.room (place_within state.system.images image place.0 place.1) st s)

-- ---- channels

both_there : (a b : Bool) → (not a || not b) ≡ false → (a && b) ≡ true
both_there true true h = refl
both_there true false h = absurd cc
both_there false b h = absurd cc

sound_chan : (state : State) (first second : ℕ) → KeepsRules state (lines.Chan first second) → 6 ≤ rank state.stage → IsSound state → IsSound (add_line state (lines.Chan first second))
sound_chan state first second k st s =
    let chan : ℕ × ℕ = (first, second) in
    let there = both_there (has_root state.system first) (has_root state.system second) k.name in
    record {
      clusters = λ r. s.clusters (omega (arith, st));
      pager = λ r. s.pager (omega (arith, st));
      reads = λ r. s.reads (omega (arith, st));
      steps = λ r. s.steps (omega (arith, st));
      images = s.images;
      once = s.once;
      begins = λ e. absurd (omega (arith, e));
      roots = s.roots;
      few = s.few;
      some = λ r. s.some st;
      chans = all_joined (is_chan (length state.system.roots)) state.system.chans (chan ∷ []) s.chans (both _ _ (both _ _ there (not_true (eqb first second) k.same)) refl);
      linked = links_few state.system.chans chan k.room s.linked;
      block = λ e. absurd (omega (arith, e));
    }

-- ---- any line

sound_line : (state : State) (line : Line) → KeepsRules state line → lowest_of_file state line ≡ None → HasName line → StandsAt (rank state.stage) (keyword_said line) → IsSound state → IsSound (add_line state line)
sound_line state (lines.Clusters count) k file named st s = sound_clusters state count (not-false _ k.limits) st s
sound_line state (lines.Pager first second) k file named st s = sound_pager state first second k st s
sound_line state (lines.Syncreads count) k file named st s = sound_syncreads state count (not-false _ k.limits) st s
sound_line state (lines.Syncsteps count) k file named st s = sound_syncsteps state count (not-false _ k.limits) st s
sound_line state (lines.Image name pages entry) k file named st s =
    let limits = not-false (is_within 1 256 pages && is_entry pages entry) k.limits in
    sound_opened state name pages entry None named (first_of_two (is_within 1 256 pages) _ limits) (second_of_two (is_within 1 256 pages) _ limits) (none_of (place_of state.system.images name) k.name) st s
sound_line state (lines.Asm name pages) k file named st s =
    let limits = not-false (is_within 1 256 pages) k.limits in
    sound_opened state name pages default_entry None named limits (has_default pages limits) (none_of (place_of state.system.images name) k.name) st s
sound_line state (lines.Elf name pages size) k file named st s =
    let limits = first_of_two (is_within 1 256 pages) _ (not-false (is_within 1 256 pages && is_within 1 65536 size) k.limits) in
    sound_opened state name pages default_entry (Some size) named limits (has_default pages limits) (none_of (place_of state.system.images name) k.name) st s
sound_line state (lines.Words words) k file named st s = sound_words state words k.room s
sound_line state lines.End k file named st s = sound_end state st file s
sound_line state (lines.Root root image) k file named st s = sound_root state root image k st s
sound_line state (lines.Chan first second) k file named st s = sound_chan state first second k st s

pub sound_add : (state : State) (keyword : Keyword) (fields : List (List ℕ)) → Keeps state keyword fields → StandsAt (rank state.stage) keyword → IsSound state → IsSound (add state keyword fields)
sound_add state keyword fields k st s =
    let at : StandsAt (rank state.stage) (keyword_said k.line) = rw (said_keyword keyword fields k.line k.read) st in
    rw k.read (sound_line state k.line k.rules k.file (has_name keyword fields k.line k.read) at s)
