-- The lines of roots and of channels that are printed are read.
use Rattle.std.proofs.Common.{◌≡◌, ℕ, zero, suc, ◌+◌, ◌<◌, ◌≤◌, ◌^◌, Bool, true, false, nat_lt, eqb, List, [], ◌∷◌, ◌++◌, length, map, Some, None, refl, sym, ap, ◌∙◌, arith, append_assoc, append-nil, length-append, slice_get}
use Rattle.std.specs.List.{list_all}
use Rattle.std.specs.Prelude.{codes}
use Rattle.std.specs.Fmt.{decimal}
use Rattle.std.specs.Str.{bytes_eq}
use Rattle.std.proofs.lemmas.Bool.{eqb-true, le-ltb}
use Rattle.std.proofs.lemmas.Bool.Decides.{nat_tests}
use Rattle.std.proofs.lemmas.List.Sums.{sum_by-cons, sum_by-append}
use Rattle.text_parts.specs.Numbers.{number_of}
use Rattle.sys_text.specs.declared.stage.Keyword.TheVariants as keywords
use Rattle.sys_text.specs.declared.stage.Stage.{Stage}
use Rattle.sys_text.specs.declared.stage.Stage.TheVariants.{Images, Roots}
use Rattle.sys_text.specs.declared.system.System.{System}
use Rattle.sys_text.specs.declared.system.Image.{Image}
use Rattle.sys_text.specs.declared.system.Root.{Root}
use Rattle.sys_text.specs.declared.state.State.{State}
use Rattle.sys_text.specs.Valid.{is_within, is_name, is_image, is_root, is_named_once, births_of, is_system}
use Rattle.sys_text.specs.declared.line.RootFields.{RootFields}
use Rattle.sys_text.specs.Kinds.{mode_named}
use Rattle.sys_text.specs.Line as lines
use Rattle.sys_text.specs.Rules.{keyword_in, place_of, places_with, add}
use Rattle.sys_text.specs.Text.{image_name, root_line, mode_text}
use Rattle.sys_text.proofs.Bounds.{first_of_two, second_of_two, root_fits, root_image, root_tests, tests, system_bounds}
use Rattle.sys_text.proofs.Keeping.{Keeps}
use Rattle.sys_text.proofs.Printed.{both, plain_name, plain_mode, mode_again}
use Rattle.sys_text.proofs.Headed.{with_lists, at_images, number_again, plain_number}
use Rattle.sys_text.proofs.Imaged.{same_bytes, named, named-yes, named-no}
use Rattle.sys_text.proofs.Leading.{Leads, leads_none, leads_then, leads_one}

-- ---- the image of a root by its name

named_at : (images : List Image) (i : ℕ) (image : Image) → slice_get images i ≡ Some image → 1 ≤ named image.name images
named_at [] i image e = absurd cc
named_at (x ∷ images) zero image e =
    let same : x ≡ image = cc in
    let eq : bytes_eq x.name image.name ≡ true = ap (λ (y : Image). bytes_eq y.name image.name) same ∙ same_bytes image.name in
    omega (arith, named-yes image.name x images eq)
named_at (x ∷ images) (suc i) image e = by_name (named_at images i image e) (bytes_eq x.name image.name) refl
  where
    by_name : 1 ≤ named image.name images → (b : Bool) → bytes_eq x.name image.name ≡ b → 1 ≤ named image.name (x ∷ images)
    by_name next true h = omega (arith, named-yes image.name x images h)
    by_name next false h = omega (arith, next, named-no image.name x images h)

place_again : (images : List Image) (i : ℕ) (image : Image) → slice_get images i ≡ Some image → named image.name images ≡ 1 → place_of images image.name ≡ Some i
place_again [] i image e once = absurd cc
place_again (x ∷ images) zero image e once =
    let same : x ≡ image = cc in
    let eq : bytes_eq x.name image.name ≡ true = ap (λ (y : Image). bytes_eq y.name image.name) same ∙ same_bytes image.name in
    rw eq refl
place_again (x ∷ images) (suc i) image e once = by_name (λ h. place_again images i image e h) (bytes_eq x.name image.name) refl
  where
    by_name : (named image.name images ≡ 1 → place_of images image.name ≡ Some i) → (b : Bool) → bytes_eq x.name image.name ≡ b → place_of (x ∷ images) image.name ≡ Some (suc i)
    by_name next true h = absurd (omega (arith, named-yes image.name x images h, once, named_at images i image e))
    by_name next false h =
        let n : place_of images image.name ≡ Some i = next (sym (named-no image.name x images h) ∙ once) in
        let plus : i + 1 ≡ suc i = omega arith in
        rw (h, n) (ap Some plus)

-- ---- a root

abbrev pub at_roots : Stage → System → List Root → State
at_roots stage s done = record { stage = stage; system = with_lists s s.images done []; block = None; file = None }

-- the fields of a line stand for the parts of a root
record Spells (s : System) (root : Root) (home backup mode name limit births tty : List ℕ) : Type 0 where
  home_is : number_of home ≡ Some (root.home).0
  backup_is : number_of backup ≡ Some (root.backup).0
  mode_is : mode_named mode ≡ Some root.mode
  name_is : is_name name ≡ true
  image_is : place_of s.images name ≡ Some root.image
  limit_is : number_of limit ≡ Some root.limit
  births_is : number_of births ≡ Some root.births
  tty_is : number_of tty ≡ Some root.tty

record RootParts (s : System) (root : Root) : Type 0 where
  home : nat_lt (root.home).0 s.clusters ≡ true
  backup : nat_lt (root.backup).0 s.clusters ≡ true
  apart : eqb (root.home).0 (root.backup).0 ≡ false
  limit : is_within 1 100000 root.limit ≡ true
  births : is_within 0 31 root.births ≡ true
  tty : is_within 0 15 root.tty ≡ true

root_parts : (s : System) (root : Root) → s.clusters ≤ 16 → is_root s.clusters (length s.images) root ≡ true → RootParts s root
root_parts s root c h =
    let b = root_fits s root c h in
    record {
      home = below (root.home).0 s.clusters b.home;
      backup = below (root.backup).0 s.clusters b.backup;
      apart = not_same (root.home).0 (root.backup).0 b.apart;
      limit = within 1 100000 root.limit b.least b.limit;
      births = within 0 31 root.births (omega arith) b.births;
      tty = within 0 15 root.tty (omega arith) b.tty;
    }
  where
    below : (a b : ℕ) → a < b → nat_lt a b ≡ true
    below a b p = grind (arith, nat_tests)

    within : (low high n : ℕ) → low ≤ n → n ≤ high → is_within low high n ≡ true
    within low high n p q = grind (arith, nat_tests)

    not_same : (a b : ℕ) → (a ≡ b → ⊥) → eqb a b ≡ false
    not_same a b p = grind (arith, nat_tests)

abbrev fields_of_root : Root → RootFields
fields_of_root root = record { home = (root.home).0; backup = (root.backup).0; mode = root.mode; limit = root.limit; births = root.births; tty = root.tty }

keeps_root : (state : State) (s : System) (root : Root) (home backup mode name limit births tty : List ℕ) → state.system.clusters ≡ s.clusters → state.system.images ≡ s.images → Spells s root home backup mode name limit births tty → RootParts s root → places_with state.system root.births ≤ 32
    → Keeps state keywords.Root (home ∷ backup ∷ mode ∷ name ∷ limit ∷ births ∷ tty ∷ [])
keeps_root state s root home backup mode name limit births tty ec ei f p room = record {
  line = lines.Root (fields_of_root root) name;
  read = rw (f.home_is, f.backup_is, f.mode_is, f.name_is, f.limit_is, f.births_is, f.tty_is) refl;
  rules = record { limits = rw (ec, p.home, p.backup, p.limit, p.births, p.tty) refl; same = p.apart; name = rw (ei, f.image_is) refl; room = le-ltb 32 (places_with state.system root.births) room };
  file = refl;
}

adds_root : (stage : Stage) (s : System) (done : List Root) (root : Root) (home backup mode name limit births tty : List ℕ) → Spells s root home backup mode name limit births tty
    → add (at_roots stage s done) keywords.Root (home ∷ backup ∷ mode ∷ name ∷ limit ∷ births ∷ tty ∷ []) ≡ at_roots Roots s (done ++ root ∷ [])
adds_root stage s done root home backup mode name limit births tty f = rw (f.home_is, f.backup_is, f.mode_is, f.name_is, f.limit_is, f.births_is, f.tty_is, f.image_is) refl

image_name_is : (images : List Image) (i : ℕ) (image : Image) → slice_get images i ≡ Some image → image_name images i ≡ image.name
image_name_is images i image e = rw e refl

-- a root with an image that is there, under its own name
record IsPlaced (s : System) (root : Root) : Type 0 where
  image : Image
  at : slice_get s.images root.image ≡ Some image
  name : is_name image.name ≡ true
  once : named image.name s.images ≡ 1

leads_root : (stage : Stage) (s : System) (done : List Root) (root : Root) → keyword_in stage (codes "root") ≡ Some keywords.Root → s.clusters ≤ 16 → is_root s.clusters (length s.images) root ≡ true → IsPlaced s root → length done + births_of done + 1 + root.births ≤ 32
    → Leads (at_roots stage s done) (root_line s.images root ∷ []) (at_roots Roots s (done ++ root ∷ []))
leads_root stage s done root key c h placed room =
    let b = root_fits s root c h in
    let p = root_parts s root c h in
    let small_home : (root.home).0 < 2 ^ 32 = omega (arith, b.home, c) in
    let small_backup : (root.backup).0 < 2 ^ 32 = omega (arith, b.backup, c) in
    let small_limit : root.limit < 2 ^ 32 = omega (arith, b.limit) in
    let small_births : root.births < 2 ^ 32 = omega (arith, b.births) in
    let small_tty : root.tty < 2 ^ 32 = omega (arith, b.tty) in
    let name : image_name s.images root.image ≡ placed.image.name = image_name_is s.images root.image placed.image placed.at in
    let f : Spells s root (decimal (root.home).0) (decimal (root.backup).0) (mode_text root.mode) placed.image.name (decimal root.limit) (decimal root.births) (decimal root.tty) = record {
      home_is = number_again (root.home).0 small_home;
      backup_is = number_again (root.backup).0 small_backup;
      mode_is = mode_again root.mode;
      name_is = placed.name;
      image_is = place_again s.images root.image placed.image placed.at placed.once;
      limit_is = number_again root.limit small_limit;
      births_is = number_again root.births small_births;
      tty_is = number_again root.tty small_tty;
    } in
    let plain = both _ _ refl (both _ _ (plain_number (root.home).0 small_home) (both _ _ (plain_number (root.backup).0 small_backup) (both _ _ (plain_mode root.mode) (both _ _ (plain_name placed.image.name placed.name)
    (both _ _ (plain_number root.limit small_limit) (both _ _ (plain_number root.births small_births) (both _ _ (plain_number root.tty small_tty) refl))))))) in
    rw name (leads_one (at_roots stage s done) (at_roots Roots s (done ++ root ∷ [])) keywords.Root (codes "root") (decimal (root.home).0 ∷ decimal (root.backup).0 ∷ mode_text root.mode ∷ placed.image.name ∷ decimal root.limit ∷ decimal root.births ∷ decimal root.tty ∷ []) plain refl key refl
    (keeps_root (at_roots stage s done) s root _ _ _ _ _ _ _ refl refl f p room) (adds_root stage s done root _ _ _ _ _ _ _ f))

-- ---- all roots

-- each root of the list is as `leads_root` wants it
abbrev ArePlaced : System → List Root → Type 0
ArePlaced s [] = Unit {0}
ArePlaced s (root ∷ rest) = (is_root s.clusters (length s.images) root ≡ true) × IsPlaced s root × ArePlaced s rest

births-cons : (root : Root) (rest : List Root) → births_of (root ∷ rest) ≡ root.births + births_of rest
births-cons root rest = sum_by-cons (λ (r : Root). r.births) root rest

births-push : (done : List Root) (root : Root) → births_of (done ++ root ∷ []) ≡ births_of done + root.births
births-push done root = omega (arith, sum_by-append (λ (r : Root). r.births) done (root ∷ []), births-cons root [])

leads_roots : (s : System) (done rest : List Root) → s.clusters ≤ 16 → ArePlaced s rest → length done + length rest + births_of done + births_of rest ≤ 32 → Leads (at_roots Roots s done) (map (root_line s.images) rest) (at_roots Roots s (done ++ rest))
leads_roots s done [] c placed room = rw (append-nil done) (leads_none (at_roots Roots s done))
leads_roots s done (root ∷ rest) c placed room =
    let one = leads_root Roots s done root refl c placed.0 placed.1 (omega (arith, room, births-cons root rest)) in
    let more = leads_roots s (done ++ root ∷ []) rest c placed.2 (omega (arith, room, births-cons root rest, births-push done root, length-append done (root ∷ []))) in
    leads_then (at_roots Roots s done) (at_roots Roots s (done ++ root ∷ [])) (at_roots Roots s (done ++ root ∷ rest)) (root_line s.images root ∷ []) (map (root_line s.images) rest) one (rw (← append_assoc done (root ∷ []) rest) more)

-- from the images on, where there is a root at least
leads_from_images : (s : System) (roots : List Root) → 1 ≤ length roots → s.clusters ≤ 16 → ArePlaced s roots → length roots + births_of roots ≤ 32 → Leads (at_images s s.images) (map (root_line s.images) roots) (at_roots Roots s roots)
leads_from_images s [] some c placed room = absurd (omega arith)
leads_from_images s (root ∷ rest) some c placed room =
    let one = leads_root Images s [] root refl c placed.0 placed.1 (omega (arith, room, births-cons root rest)) in
    let more = leads_roots s (root ∷ []) rest c placed.2 (omega (arith, room, births-cons root rest, births-cons root [])) in
    leads_then (at_images s s.images) (at_roots Roots s (root ∷ [])) (at_roots Roots s (root ∷ rest)) (root_line s.images root ∷ []) (map (root_line s.images) rest) one more

once_at : (images all : List Image) (i : ℕ) (image : Image) → list_all (λ (x : Image). is_named_once all x.name) images ≡ true → slice_get images i ≡ Some image → named image.name all ≡ 1
once_at [] all i image h e = absurd cc
once_at (x ∷ images) all zero image h e =
    let same : x ≡ image = cc in
    eqb-true (named image.name all) 1 (ap (λ (y : Image). is_named_once all y.name) (sym same) ∙ first_of_two (is_named_once all x.name) _ h)
once_at (x ∷ images) all (suc i) image h e = once_at images all i image (second_of_two (is_named_once all x.name) _ h) e

are_placed : (s : System) (all rest : List Root) → is_system s ≡ true → ((i : ℕ) (root : Root) → slice_get rest i ≡ Some root → IsPlaced s root) → list_all (is_root s.clusters (length s.images)) rest ≡ true → ArePlaced s rest
are_placed s all [] h placed each = tt
are_placed s all (root ∷ rest) h placed each = (first_of_two (is_root s.clusters (length s.images) root) _ each, placed 0 root refl, are_placed s all rest h (λ i r e. placed (suc i) r e) (second_of_two (is_root s.clusters (length s.images) root) _ each))

pub leads_all_roots : (s : System) → is_system s ≡ true → Leads (at_images s s.images) (map (root_line s.images) s.roots) (at_roots Roots s s.roots)
leads_all_roots s h =
    let b = system_bounds s h in
    let t = tests s h in
    let r = root_tests s.clusters (length s.images) s.roots t.roots in
    leads_from_images s s.roots b.some_root b.clusters (are_placed s s.roots s.roots h placed r.each) b.births
  where
    placed : (i : ℕ) (root : Root) → slice_get s.roots i ≡ Some root → IsPlaced s root
    placed i root e =
        let has = root_image s i root h e in
        record { image = has.image; at = has.at; name = (has.bounds).name; once = once_at s.images s.images root.image has.image (second_of_two (list_all is_image s.images) (list_all (λ (x : Image). is_named_once s.images x.name) s.images) (tests s h).images) has.at }
