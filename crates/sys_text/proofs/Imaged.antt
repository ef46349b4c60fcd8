-- The image blocks that are printed are read.
use Rattle.std.proofs.Common.{◌≡◌, ℕ, zero, suc, ◌+◌, ◌*◌, ◌%◌, ◌<◌, ◌≤◌, ◌^◌, Bool, true, false, not, ◌&&◌, cond, eqb, leb, List, [], ◌∷◌, ◌++◌, length, map, take, drop, Some, None, Ok, refl, sym, ap, ◌∙◌, arith, append_assoc, append-nil, length-append, length-drop, subst}
use Rattle.std.specs.List.{flat_map, list_all}
use Rattle.std.specs.Prelude.{codes, count_by, is_some}
use Rattle.std.specs.Fmt.{decimal}
use Rattle.std.specs.Str.{bytes_eq}
use Rattle.std.proofs.lemmas.Bool.{and_parts, le-leb, leb-true, eqb-true}
use Rattle.std.proofs.lemmas.Bool.Decides.{nat_tests}
use Rattle.std.proofs.lemmas.List.{take-append-drop, length-map}
use Rattle.std.proofs.lemmas.List.Folds.{list_all-append}
use Rattle.std.proofs.lemmas.List.Sums.{sum_by-cons, sum_by-append}
use Rattle.std.proofs.lemmas.Slice.Eq.{bytes_eq-Decides}
use Rattle.text_parts.specs.Numbers.{number_of, word_of}
use Rattle.sys_text.specs.declared.stage.Keyword.TheVariants as keywords
use Rattle.sys_text.specs.declared.stage.Stage.TheVariants.{InImage}
use Rattle.sys_text.specs.declared.system.System.{System}
use Rattle.sys_text.specs.declared.system.Image.{Image}
use Rattle.sys_text.specs.declared.state.State.{State}
use Rattle.sys_text.specs.Valid.{is_within, is_entry, is_name, is_word, is_image, is_named_once, are_images}
use Rattle.sys_text.specs.Line.{words_in, is_word_field, default_entry, as_line, image_header, line_of}
use Rattle.sys_text.specs.Line as lines
use Rattle.sys_text.specs.Rules.{place_of, takes_more, image_with, add}
use Rattle.sys_text.specs.Text.{word_text, words_line, words_lines, words_lines_upto, entry_fields, image_lines}
use Rattle.sys_text.proofs.Bounds.{first_of_two, second_of_two, image_fits}
use Rattle.sys_text.proofs.Keeping.{Keeps}
use Rattle.sys_text.proofs.Printed.{both, is_plain, are_plain, plain_name, plain_word, word_again}
use Rattle.sys_text.proofs.Headed.{with_lists, at_images, number_again, plain_number}
use Rattle.sys_text.proofs.Leading.{Leads, leads_none, leads_then, leads_one}

-- ---- the first line of a block

-- an image but for its words
abbrev in_image : System → List Image → Image → List ℕ → State
in_image s done image words = record { stage = InImage; system = with_lists s done [] []; block = Some (image_with image words); file = None }

-- the two fields, or three, say the pages and the entry
record SaysNumbers (fields : List (List ℕ)) (pages entry : ℕ) : Type 0 where
  plain : are_plain fields ≡ true
  read : (name : List ℕ) → is_name name ≡ true → image_header (name ∷ fields) ≡ Ok (name, pages, entry)

says_pages : (f : List ℕ) (pages : ℕ) → is_plain f ≡ true → number_of f ≡ Some pages → SaysNumbers (f ∷ []) pages default_entry
says_pages f pages plain e = record { plain = both _ _ plain refl; read = λ name h. rw (h, e) refl }

says_entry : (f g : List ℕ) (pages entry : ℕ) → is_plain f ≡ true → is_plain g ≡ true → number_of f ≡ Some pages → number_of g ≡ Some entry → SaysNumbers (f ∷ g ∷ []) pages entry
says_entry f g pages entry plain_f plain_g e1 e2 = record { plain = both _ _ plain_f (both _ _ plain_g refl); read = λ name h. rw (h, e1, e2) refl }

says_numbers : (pages entry : ℕ) → pages < 2 ^ 32 → entry < 2 ^ 32 → SaysNumbers (decimal pages ∷ entry_fields entry) pages entry
says_numbers pages entry few low = by_default (eqb entry default_entry) refl
  where
    by_default : (b : Bool) → eqb entry default_entry ≡ b → SaysNumbers (decimal pages ∷ entry_fields entry) pages entry
    by_default true e =
        let same : entry ≡ default_entry = eqb-true entry default_entry e in
        subst (λ (n : ℕ). SaysNumbers (decimal pages ∷ entry_fields n) pages n) (sym same) (says_pages (decimal pages) pages (plain_number pages few) (number_again pages few))
    by_default false e = rw e (says_entry (decimal pages) (decimal entry) pages entry (plain_number pages few) (plain_number entry low) (number_again pages few) (number_again entry low))

image_read : (name : List ℕ) (fields : List (List ℕ)) (pages entry : ℕ) → is_name name ≡ true → SaysNumbers fields pages entry → line_of keywords.Image (name ∷ fields) ≡ Ok (lines.Image name pages entry)
image_read name fields pages entry h n = ap (as_line (λ (header : List ℕ × ℕ × ℕ). lines.Image header.0 header.1 header.2)) (n.read name h)

keeps_image : (state : State) (image : Image) (fields : List (List ℕ)) → SaysNumbers fields image.pages image.entry → is_name image.name ≡ true → is_within 1 256 image.pages ≡ true → is_entry image.pages image.entry ≡ true → place_of state.system.images image.name ≡ None
    → Keeps state keywords.Image (image.name ∷ fields)
keeps_image state image fields n h w e none = record {
  line = lines.Image image.name image.pages image.entry;
  read = image_read image.name fields image.pages image.entry h n;
  rules = record { limits = rw (w, e) refl; same = refl; name = rw none refl; room = refl };
  file = refl;
}

adds_image : (s : System) (done : List Image) (image : Image) (fields : List (List ℕ)) → SaysNumbers fields image.pages image.entry → is_name image.name ≡ true → add (at_images s done) keywords.Image (image.name ∷ fields) ≡ in_image s done image []
adds_image s done image fields n h = rw (image_read image.name fields image.pages image.entry h n) refl

-- ---- lines of words

word_is_kind : (w : ℕ) → is_word w ≡ true → is_word_field (word_text w) ≡ true
word_is_kind w h = ap is_some (word_again w h)

words_are_kinds : (ws : List ℕ) → list_all is_word ws ≡ true → list_all (is_word_field) (map word_text ws) ≡ true
words_are_kinds [] h = refl
words_are_kinds (w ∷ ws) h = both _ _ (word_is_kind w (first_of_two (is_word w) _ h)) (words_are_kinds ws (second_of_two (is_word w) _ h))

plain_words : (ws : List ℕ) → are_plain (map word_text ws) ≡ true
plain_words [] = refl
plain_words (w ∷ ws) = both _ _ (plain_word w) (plain_words ws)

one_word_more : (f : List ℕ) (fs : List (List ℕ)) (w : ℕ) → word_of f ≡ Some w → words_in (f ∷ fs) ≡ w ∷ words_in fs
one_word_more f fs w e = rw e refl

words_again : (ws : List ℕ) → list_all is_word ws ≡ true → words_in (map word_text ws) ≡ ws
words_again [] h = refl
words_again (w ∷ ws) h = one_word_more (word_text w) (map word_text ws) w (word_again w (first_of_two (is_word w) _ h)) ∙ ap (λ t. w ∷ t) (words_again ws (second_of_two (is_word w) _ h))

not_of : (b : Bool) → b ≡ true → not b ≡ false
not_of b h = rw h refl

words_read : (fields : List (List ℕ)) → 1 ≤ length fields → list_all is_word_field fields ≡ true → line_of keywords.Words fields ≡ Ok (lines.Words (words_in fields))
words_read [] some kinds = absurd (omega (arith, some))
words_read (field ∷ fields) some kinds = rw kinds refl

keeps_words : (state : State) (fields : List (List ℕ)) (ws : List ℕ) → 1 ≤ length fields → list_all is_word_field fields ≡ true → words_in fields ≡ ws → takes_more state.file state.block (length ws) ≡ true → Keeps state keywords.Words fields
keeps_words state fields ws some kinds is fits = record {
  line = lines.Words ws;
  read = words_read fields some kinds ∙ ap (λ (words : List ℕ). Ok (lines.Words words)) is;
  rules = record { limits = refl; same = refl; name = refl; room = not_of (takes_more state.file state.block (length ws)) fits };
  file = refl;
}

adds_words : (s : System) (done : List Image) (image : Image) (before ws : List ℕ) (fields : List (List ℕ)) → 1 ≤ length fields → list_all is_word_field fields ≡ true → words_in fields ≡ ws → add (in_image s done image before) keywords.Words fields ≡ in_image s done image (before ++ ws)
adds_words s done image before ws fields some kinds is = rw (words_read fields some kinds) (ap (λ (words : List ℕ). in_image s done image (before ++ words)) is)

leads_line : (s : System) (done : List Image) (image : Image) (before ws : List ℕ) → 1 ≤ length ws → list_all is_word ws ≡ true → length before + length ws ≤ 64 * image.pages
    → Leads (in_image s done image before) (words_line ws ∷ []) (in_image s done image (before ++ ws))
leads_line s done image before ws some words fits =
    let state = in_image s done image before in
    let same : length (map word_text ws) ≡ length ws = length-map ws word_text in
    leads_one state (in_image s done image (before ++ ws)) keywords.Words (codes "words") (map word_text ws) (both _ _ refl (plain_words ws)) refl refl refl
    (keeps_words state (map word_text ws) ws (omega (arith, some, same)) (words_are_kinds ws words) (words_again ws words) (le-leb (length before + length ws) (64 * image.pages) fits)) (adds_words s done image before ws (map word_text ws) (omega (arith, some, same)) (words_are_kinds ws words) (words_again ws words))

split_words : (ws : List ℕ) → list_all is_word ws ≡ true → (list_all is_word (take 8 ws) && list_all is_word (drop 8 ws)) ≡ true
split_words ws h = sym (list_all-append is_word (take 8 ws) (drop 8 ws)) ∙ ap (list_all is_word) (take-append-drop 8 ws) ∙ h

leads_words : (s : System) (done : List Image) (image : Image) (k : ℕ) (before ws : List ℕ) → length ws ≤ k → list_all is_word ws ≡ true → length before + length ws ≤ 64 * image.pages
    → Leads (in_image s done image before) (words_lines_upto k ws) (in_image s done image (before ++ ws))
leads_words s done image zero before [] le words fits = rw (append-nil before) (leads_none (in_image s done image before))
leads_words s done image zero before (w ∷ ws) le words fits = absurd (omega arith)
leads_words s done image (suc k) before [] le words fits = rw (append-nil before) (leads_none (in_image s done image before))
leads_words s done image (suc k) before (w ∷ ws) le words fits =
    let all = w ∷ ws in
    let line = take 8 all in
    let rest = drop 8 all in
    let tests = split_words all words in
    let sizes : length line + length rest ≡ length all = sym (length-append line rest) ∙ ap length (take-append-drop 8 all) in
    let after = in_image s done image (before ++ line) in
    let left : length rest ≤ k = omega (arith, le, length-drop 8 all) in
    let whole : (before ++ line) ++ rest ≡ before ++ all = append_assoc before line rest ∙ ap (λ t. before ++ t) (take-append-drop 8 all) in
    let one = leads_line s done image before line (omega arith) (first_of_two (list_all is_word line) _ tests) (omega (arith, sizes, fits)) in
    let more = leads_words s done image k (before ++ line) rest left (second_of_two (list_all is_word line) _ tests) (omega (arith, sizes, fits, length-append before line)) in
    leads_then (in_image s done image before) after (in_image s done image (before ++ all)) (words_line line ∷ []) (words_lines_upto k rest) one (rw (← whole) more)

leads_all_words : (s : System) (done : List Image) (image : Image) (ws : List ℕ) → list_all is_word ws ≡ true → length ws ≤ 64 * image.pages → Leads (in_image s done image []) (words_lines ws) (in_image s done image ws)
unfolding words_lines
leads_all_words s done image ws words fits = leads_words s done image (length ws) [] ws (omega arith) words (omega (arith, fits))

-- ---- a block

keeps_end : (s : System) (done : List Image) (image : Image) (words : List ℕ) → Keeps (in_image s done image words) keywords.End []
keeps_end s done image words = record { line = lines.End; read = refl; rules = record { limits = refl; same = refl; name = refl; room = refl }; file = refl }

within : (low high n : ℕ) → low ≤ n → n ≤ high → is_within low high n ≡ true
within low high n p q = grind (arith, nat_tests)

entry_small : (pages entry : ℕ) → is_entry pages entry ≡ true → pages ≤ 256 → entry < 2 ^ 32
entry_small pages entry h few = below (leb-true (entry + 4) (65536 + 256 * pages) (and_parts (leb 65536 entry) _ (and_parts (eqb (entry % 4) 0) _ h).1).1)
  where
    below : entry + 4 ≤ 65536 + 256 * pages → entry < 2 ^ 32
    below le = omega (arith, le, few)

leads_image : (s : System) (done : List Image) (image : Image) → is_image image ≡ true → place_of done image.name ≡ None → Leads (at_images s done) (image_lines image) (at_images s (done ++ image ∷ []))
leads_image s done image h none =
    let b = image_fits image h in
    let fields = decimal image.pages ∷ entry_fields image.entry in
    let n : SaysNumbers fields image.pages image.entry = says_numbers image.pages image.entry (omega (arith, b.pages)) (entry_small image.pages image.entry b.entry b.pages) in
    let opened = in_image s done image [] in
    let full = in_image s done image image.words in
    let closed = at_images s (done ++ image ∷ []) in
    let one = leads_one (at_images s done) opened keywords.Image (codes "image") (image.name ∷ fields) (both _ _ refl (both _ _ (plain_name image.name b.name) n.plain)) refl refl refl
    (keeps_image (at_images s done) image fields n b.name (within 1 256 image.pages b.least b.pages) b.entry none) (adds_image s done image fields n b.name) in
    let words = leads_all_words s done image image.words b.words (omega (arith, b.fits)) in
    let end = leads_one full closed keywords.End (codes "end") [] refl refl refl refl (keeps_end s done image image.words) refl in
    leads_then (at_images s done) opened closed _ _ one (leads_then opened full closed (words_lines image.words) ((codes "end" ∷ []) ∷ []) words end)

-- ---- all blocks

-- no image of the rest has the name of an earlier one
abbrev pub AreFresh : List Image → List Image → Type 0
AreFresh done [] = Unit {0}
AreFresh done (image ∷ rest) = (place_of done image.name ≡ None) × AreFresh (done ++ image ∷ []) rest

leads_images : (s : System) (done rest : List Image) → list_all is_image rest ≡ true → AreFresh done rest → Leads (at_images s done) (flat_map image_lines rest) (at_images s (done ++ rest))
leads_images s done [] h fresh = rw (append-nil done) (leads_none (at_images s done))
leads_images s done (image ∷ rest) h fresh =
    let one = leads_image s done image (first_of_two (is_image image) _ h) fresh.0 in
    let more = leads_images s (done ++ image ∷ []) rest (second_of_two (is_image image) _ h) fresh.1 in
    leads_then (at_images s done) (at_images s (done ++ image ∷ [])) (at_images s (done ++ image ∷ rest)) (image_lines image) (flat_map image_lines rest) one (rw (← append_assoc done (image ∷ []) rest) more)

-- ---- names

pub same_bytes : (bs : List ℕ) → bytes_eq bs bs ≡ true
same_bytes bs = (bytes_eq-Decides bs bs).1 refl

-- how many images have the name
abbrev pub named : List ℕ → List Image → ℕ
named name images = count_by (λ (image : Image). bytes_eq image.name name) images

pub named-cons : (name : List ℕ) (image : Image) (images : List Image) → named name (image ∷ images) ≡ cond (bytes_eq image.name name) 1 0 + named name images
named-cons name image images = sum_by-cons (λ (image : Image). cond (bytes_eq image.name name) 1 0) image images

pub named-yes : (name : List ℕ) (image : Image) (images : List Image) → bytes_eq image.name name ≡ true → named name (image ∷ images) ≡ 1 + named name images
named-yes name image images e = named-cons name image images ∙ ap (λ b. cond b 1 0 + named name images) e

pub named-no : (name : List ℕ) (image : Image) (images : List Image) → bytes_eq image.name name ≡ false → named name (image ∷ images) ≡ named name images
named-no name image images e = named-cons name image images ∙ ap (λ b. cond b 1 0 + named name images) e ∙ omega arith

pub none_named : (name : List ℕ) (images : List Image) → named name images ≡ 0 → place_of images name ≡ None
none_named name [] h = refl
none_named name (image ∷ images) h = by_name (λ e. none_named name images e) (bytes_eq image.name name) refl
  where
    by_name : (named name images ≡ 0 → place_of images name ≡ None) → (b : Bool) → bytes_eq image.name name ≡ b → place_of (image ∷ images) name ≡ None
    by_name next true e = absurd (omega (arith, named-yes name image images e, h))
    by_name next false e =
        let n : place_of images name ≡ None = next (sym (named-no name image images e) ∙ h) in
        rw (e, n) refl

named_before : (done : List Image) (image : Image) (rest : List Image) → is_named_once (done ++ image ∷ rest) image.name ≡ true → named image.name done ≡ 0
named_before done image rest h =
    let once : named image.name (done ++ image ∷ rest) ≡ 1 = eqb-true (named image.name (done ++ image ∷ rest)) 1 h in
    let parts : named image.name (done ++ image ∷ rest) ≡ named image.name done + named image.name (image ∷ rest) = sum_by-append (λ (i : Image). cond (bytes_eq i.name image.name) 1 0) done (image ∷ rest) in
    let here = named-yes image.name image rest (same_bytes image.name) in
    omega (arith, once, parts, here)

are_fresh : (all done rest : List Image) → all ≡ done ++ rest → list_all (λ (image : Image). is_named_once all image.name) rest ≡ true → AreFresh done rest
are_fresh all done [] e h = tt
are_fresh all done (image ∷ rest) e h =
    let here : is_named_once (done ++ image ∷ rest) image.name ≡ true = rw (← e) (first_of_two (is_named_once all image.name) _ h) in (
      none_named image.name done (named_before done image rest here),
      are_fresh all (done ++ image ∷ []) rest (e ∙ sym (append_assoc done (image ∷ []) rest)) (second_of_two (is_named_once all image.name) _ h),
    )

pub leads_all_images : (s : System) → are_images s.images ≡ true → Leads (at_images s []) (flat_map image_lines s.images) (at_images s s.images)
leads_all_images s h = leads_images s [] s.images (first_of_two (list_all is_image s.images) _ h) (are_fresh s.images [] s.images refl (second_of_two (list_all is_image s.images) _ h))
