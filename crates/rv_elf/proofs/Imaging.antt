-- What a file's answer says of its memory, segment by segment.
use Rattle.std.proofs.Common.{◌≡◌, ℕ, zero, suc, ◌+◌, ◌-◌, ◌*◌, ◌<◌, ◌≤◌, Bool, true, false, ◌&&◌, ◌||◌, not, eqb, leb, ltb, List, [], ◌∷◌, length, get_or, Option, Some, None, Result, Ok, Err, refl, sym, ap, ◌∙◌, arith, inl, inr}
use Rattle.std.specs.Prelude.{slice_get, IfOk, IfErr}
use Rattle.std.specs.List.{find, list_any}
use Rattle.std.proofs.lemmas.Bool.{and_from, and_parts, eqb-true, leb-true, le-leb, lt-ltb, ltb-true, or_cases, or_parts, true≢false, true_from_ne_false, false_from_ne_true}
use Rattle.std.proofs.lemmas.List.FromFn.{get_or-map-range_with_len, length-map-range_with_len}
use Rattle.rv_elf.specs.declared.headers.Header.{Header}
use Rattle.rv_elf.specs.declared.loading.Loaded.{Loaded}
use Rattle.rv_elf.specs.declared.refusal.ElfRefused.{ElfRefused}
use Rattle.rv_elf.specs.declared.refusal.ElfRefused.TheVariants as refusals
use Rattle.rv_elf.specs.declared.refusal.Rule.{Rule}
use Rattle.rv_elf.specs.declared.refusal.Rule.TheVariants.{Dynamic, FileBytes, Outside, Overlap}
use Rattle.rv_elf.specs.File.{headers, entry}
use Rattle.rv_elf.specs.Loaded.{is_segment, is_among, gives, byte_at, loaded}
use Rattle.rv_elf.specs.Rules.{break_as, breaks, broken, goes_beyond, goes_outside, header_rules, lies_in_file, lies_in_memory, lies_within, overlap, share}
use Rattle.rv_elf.specs.Placing.{takes, AreSound, IsSound}
use Rattle.rv_elf.specs.Answers.{Answers, HasCause, IsImageOf, Refuses}
use Rattle.rv_elf.proofs.Lowest.{lower_fails, none_at_all, passed_over, passes}
use Rattle.rv_elf.proofs.Sharing.{both_share}

-- ---- headers that keep the rules for each

-- what fails for all fails for each
fails_at : (p : Header → Bool) (hs : List Header) (j : ℕ) (h : Header) → list_any p hs ≡ false → slice_get hs j ≡ Some h → p h ≡ false
fails_at p [] j h none at = absurd cc
fails_at p (g ∷ gs) zero h none at = let e : g ≡ h = cc in ap p (sym e) ∙ (or_parts (p g) (list_any p gs) none).0
fails_at p (g ∷ gs) (suc j) h none at = fails_at p gs j h (or_parts (p g) (list_any p gs) none).1 at

-- a test and the negation of another fail, and the first passes
passes_then : (a b : Bool) → a ≡ true → (a && not b) ≡ false → b ≡ true
passes_then true true e f = refl
passes_then true false e f = absurd cc
passes_then false b e f = absurd cc

pub is_sound : (size pages : ℕ) (h : Header) → is_segment h ≡ true → goes_beyond size h ≡ false → goes_outside pages h ≡ false → IsSound size (256 * pages) h
is_sound size pages h segment beyond outside =
    let file = passes_then (is_segment h) (lies_in_file size h) segment beyond in
    let memory = passes_then (is_segment h) (lies_in_memory pages h) segment outside in
    let parts = and_parts (leb h.file_size h.memory_size) (eqb h.file_size 0 || leb (h.offset + h.file_size) size) file in
    record {
      bytes = leb-true h.file_size h.memory_size parts.0;
      there = λ some. elim (or_cases (eqb h.file_size 0) (leb (h.offset + h.file_size) size) parts.1) [
        | inl none ↦ absurd (omega (arith, some, eqb-true h.file_size 0 none))
        | inr fits ↦ leb-true (h.offset + h.file_size) size fits
      ];
      from = λ some. leb-true 0x10000 h.address (within some memory).0;
      upto = λ some. leb-true (h.address + h.memory_size) (0x10000 + 256 * pages) (within some memory).1;
    }
  where
    within : 0 < h.memory_size → lies_in_memory pages h ≡ true → (leb 0x10000 h.address ≡ true) × (leb (h.address + h.memory_size) (0x10000 + 256 * pages) ≡ true)
    within some e = elim (or_cases (eqb h.memory_size 0) (lies_within pages h.address h.memory_size) e) [
      | inl none ↦ absurd (omega (arith, some, eqb-true h.memory_size 0 none))
      | inr fits ↦ and_parts (leb 0x10000 h.address) (leb (h.address + h.memory_size) (0x10000 + 256 * pages)) fits
    ]

pub are_sound : (size pages : ℕ) (hs : List Header) → list_any (goes_beyond size) hs ≡ false → list_any (goes_outside pages) hs ≡ false → AreSound size (256 * pages) hs
are_sound size pages hs beyond outside = λ j h at segment. is_sound size pages h segment (fails_at (goes_beyond size) hs j h beyond at) (fails_at (goes_outside pages) hs j h outside at)

-- where none of these rules is found
pub sound_headers : (size pages : ℕ) (hs : List Header) → find (break_as size pages hs) header_rules ≡ None → AreSound size (256 * pages) hs
sound_headers size pages hs e =
    let first = passed_over (break_as size pages hs) Dynamic (FileBytes ∷ Outside ∷ []) e in
    let second = passed_over (break_as size pages hs) FileBytes (Outside ∷ []) first.1 in
    let third = passed_over (break_as size pages hs) Outside [] second.1 in
    are_sound size pages hs second.0 third.0

-- ---- the byte at an address

given_parts : (h : Header) (x : ℕ) → gives h x ≡ true → (is_segment h ≡ true) × (h.address ≤ x) × (x < h.address + h.file_size)
given_parts h x e =
    let p = and_parts (is_segment h) (is_among h.address h.file_size x) e in
    let q = and_parts (leb h.address x) (ltb x (h.address + h.file_size)) p.1 in
    (p.0, leb-true h.address x q.0, ltb-true x (h.address + h.file_size) q.1)

given_from : (h : Header) (x : ℕ) → is_segment h ≡ true → h.address ≤ x → x < h.address + h.file_size → gives h x ≡ true
given_from h x segment from upto =
    and_from (is_segment h) (is_among h.address h.file_size x) segment
    (and_from (leb h.address x) (ltb x (h.address + h.file_size)) (le-leb h.address x from) (lt-ltb x (h.address + h.file_size) upto))

-- an address whose byte the file has is one of the segment
taken_too : (size memory : ℕ) (h : Header) (x : ℕ) → (is_segment h ≡ true → IsSound size memory h) → gives h x ≡ true → takes x h ≡ true
taken_too size memory h x sound e =
    let p = given_parts h x e in
    let s = sound p.0 in
    and_from (is_segment h) (is_among h.address h.memory_size x) p.0
    (and_from (leb h.address x) (ltb x (h.address + h.memory_size)) (le-leb h.address x p.1) (lt-ltb x (h.address + h.memory_size) (omega (arith, p.2, s.bytes))))

-- one of the headers shares an address with another
shares_at : (h : Header) (hs : List Header) (j : ℕ) (g : Header) → slice_get hs j ≡ Some g → share h g ≡ true → list_any (share h) hs ≡ true
shares_at h hs j g at e = true_from_ne_false (list_any (share h) hs) (λ none. true≢false (sym e ∙ fails_at (share h) hs j g none at))

-- where no two segments share an address, the byte is that of each segment that has one there
pub byte_of_segment : (size memory : ℕ) (file : List ℕ) (hs : List Header) (j : ℕ) (h : Header) (x : ℕ) → AreSound size memory hs → overlap hs ≡ false → slice_get hs j ≡ Some h → gives h x ≡ true
    → byte_at file hs x ≡ get_or file (h.offset + x - h.address) 0
byte_of_segment size memory file [] j h x sound apart at e = absurd cc
byte_of_segment size memory file (g ∷ gs) zero h x sound apart at e =
    let same : g ≡ h = cc in
    let here : gives g x ≡ true = ap (λ (f : Header). gives f x) same ∙ e in
    rw here (ap (λ (f : Header). get_or file (f.offset + x - f.address) 0) same)
byte_of_segment size memory file (g ∷ gs) (suc j) h x sound apart at e =
    let parts = or_parts (list_any (share g) gs) (overlap gs) apart in
    let other : gives g x ≡ false = false_from_ne_true (gives g x) (λ here.
    let t = taken_too size memory g x (λ s. sound 0 g refl s) here in
    let u = taken_too size memory h x (λ s. sound (suc j) h at s) e in
    true≢false (sym (shares_at g gs j h at (both_share g h x t u)) ∙ parts.0)) in
    rw other (byte_of_segment size memory file gs j h x (λ i f a s. sound (suc i) f a s) parts.1 at e)

pub byte_of_none : (file : List ℕ) (hs : List Header) (x : ℕ) → ((j : ℕ) (h : Header) → slice_get hs j ≡ Some h → gives h x ≡ false) → byte_at file hs x ≡ 0
byte_of_none file [] x none = refl
byte_of_none file (g ∷ gs) x none = rw (none 0 g refl) (byte_of_none file gs x (λ j h at. none (suc j) h at))

-- ---- the answer

-- a refusal by what was found, under another name
pub refuses_same : (e : ElfRefused) (found other : Option Rule) → found ≡ other → Refuses e found → Refuses e other
refuses_same (refusals.Rule number) found other same r = (r.0, sym same ∙ r.1, r.2)
refuses_same refusals.NoMemory found other same r = tt

pub is_image : (file : List ℕ) (pages : ℕ) (image : Loaded) → broken file pages ≡ None → image ≡ record { bytes = loaded file pages; entry = entry file } → IsImageOf file pages image
is_image file pages image e is =
    let kept : (rule : Rule) → breaks file pages rule ≡ false = λ rule. none_at_all (breaks file pages) rule e in
    let sound = are_sound (length file) pages (headers file) (kept FileBytes) (kept Outside) in
    let bytes : image.bytes ≡ loaded file pages = ap (λ (i : Loaded). i.bytes) is in
    let at : (k : ℕ) → k < 256 * pages → get_or image.bytes k 0 ≡ byte_at file (headers file) (0x10000 + k) = λ k lt.
    ap (λ (l : List ℕ). get_or l k 0) bytes ∙ get_or-map-range_with_len (λ k. byte_at file (headers file) (0x10000 + k)) 0 (256 * pages) k k 0 lt (omega arith) in
    record {
      kept = kept;
      size = ap length bytes ∙ length-map-range_with_len (λ k. byte_at file (headers file) (0x10000 + k)) 0 (256 * pages);
      segments = λ j header i there segment inside.
          let s = sound j header there segment in
          let some : 0 < header.memory_size = omega (arith, inside, s.bytes) in
          let low = s.from some in
          let x : 0x10000 + (header.address - 0x10000 + i) ≡ header.address + i = omega (arith, low) in
          let y : header.offset + (header.address + i) - header.address ≡ header.offset + i = omega arith in
          at (header.address - 0x10000 + i) (omega (arith, low, inside, s.bytes, s.upto some))
          ∙ ap (byte_at file (headers file)) x
          ∙ byte_of_segment (length file) (256 * pages) file (headers file) j header (header.address + i) sound (kept Overlap) there
          (given_from header (header.address + i) segment (omega arith) (omega (arith, inside)))
          ∙ ap (λ n. get_or file n 0) y;
      zeros = λ k lt none. at k lt ∙ byte_of_none file (headers file) (0x10000 + k) none;
      entry_is = ap (λ (i : Loaded). i.entry) is;
    }

pub image_from_answer : (file : List ℕ) (pages : ℕ) (r : Result Loaded ElfRefused) → Answers file pages r → IfOk r (IsImageOf file pages)
image_from_answer file pages (Ok image) a = is_image file pages image a.0 a.1
image_from_answer file pages (Err e) a = tt

pub cause_from_answer : (file : List ℕ) (pages : ℕ) (r : Result Loaded ElfRefused) → Answers file pages r → IfErr r (HasCause file pages)
cause_from_answer file pages (Ok image) a = tt
cause_from_answer file pages (Err (refusals.Rule number)) a = (a.0, a.2, passes (breaks file pages) a.0 a.1, λ lower lt. lower_fails (breaks file pages) a.0 lower a.1 lt)
cause_from_answer file pages (Err refusals.NoMemory) a = tt
