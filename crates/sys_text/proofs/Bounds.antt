-- What the rules of a system say of its numbers and of each of its parts.
use Rattle.std.proofs.Common.{◌≡◌, ℕ, ◌+◌, ◌*◌, ◌-◌, ◌<◌, ◌≤◌, Bool, true, false, ◌&&◌, nat_le, List, [], ◌∷◌, length, get_or, refl, sym, ap, ◌∙◌, arith, Some, slice_get}
use Rattle.std.specs.List.{list_all, range_with_len}
use Rattle.std.proofs.lemmas.Bool.Decides.{nat_tests}
use Rattle.std.proofs.lemmas.Option.{slice_get-get_or, slice_get_within, get_or_from_slice_get}
use Rattle.std.proofs.lemmas.List.Sums.{AllPass-from_list_all}
use Rattle.std.proofs.lemmas.List.FromFn.{length-range_with_len, get_or-range_with_len}
use Rattle.sys_text.specs.declared.system.System.{System}
use Rattle.sys_text.specs.declared.system.Image.{Image}
use Rattle.sys_text.specs.declared.system.Root.{Root}
use Rattle.sys_text.specs.Valid.{is_header, is_name, is_within, is_entry, is_word, is_image, are_images, is_root, births_of, are_roots, is_chan, links, are_chans, is_system}

-- both tests of a pair
pub first_of_two : (a b : Bool) → (a && b) ≡ true → a ≡ true
first_of_two true b h = refl
first_of_two false b h = h

pub second_of_two : (a b : Bool) → (a && b) ≡ true → b ≡ true
second_of_two true b h = h
second_of_two false b h = cc

-- each element passes a test that all pass
pub passes_at : {X : Type 0} (p : X → Bool) (xs : List X) (i : ℕ) (x : X) → list_all p xs ≡ true → slice_get xs i ≡ Some x → p x ≡ true
passes_at p xs i x h e = ap p (sym (get_or_from_slice_get xs i x x e)) ∙ AllPass-from_list_all p xs h i x (slice_get_within xs i x e)

-- ---- the whole

-- the numbers of a system
pub record SystemBounds (s : System) : Type 0 where
  pub least : 2 ≤ s.clusters
  pub clusters : s.clusters ≤ 16
  pub first : ((s.pager).0).0 < s.clusters
  pub second : ((s.pager).1).0 < s.clusters
  pub apart : ((s.pager).0).0 ≡ ((s.pager).1).0 → ⊥
  pub least_reads : 1 ≤ s.syncreads
  pub syncreads : s.syncreads ≤ 1000
  pub least_steps : 64 ≤ s.syncsteps
  pub syncsteps : s.syncsteps ≤ 100000
  pub some_root : 1 ≤ length s.roots
  pub roots : length s.roots ≤ 32
  pub births : length s.roots + births_of s.roots ≤ 32

-- an image: its name, its pages, its entry and its words
pub record ImageBounds (image : Image) : Type 0 where
  pub name : is_name image.name ≡ true
  pub least : 1 ≤ image.pages
  pub pages : image.pages ≤ 256
  pub entry : is_entry image.pages image.entry ≡ true
  pub fits : 4 * length image.words ≤ 256 * image.pages
  pub words : list_all is_word image.words ≡ true

-- a root: two clusters, an image that is there, and its numbers
pub record RootBounds (s : System) (root : Root) : Type 0 where
  pub clusters : s.clusters ≤ 16
  pub home : (root.home).0 < s.clusters
  pub backup : (root.backup).0 < s.clusters
  pub apart : (root.home).0 ≡ (root.backup).0 → ⊥
  pub image : root.image < length s.images
  pub image_number : root.image < 18446744073709551616
  pub least : 1 ≤ root.limit
  pub limit : root.limit ≤ 100000
  pub births : root.births ≤ 31
  pub tty : root.tty ≤ 15

-- the image of a root
pub record HasImage (s : System) (root : Root) : Type 0 where
  pub image : Image
  pub at : slice_get s.images root.image ≡ Some image
  pub bounds : ImageBounds image

-- a channel: two different roots, numbered from 1
pub record ChanBounds (s : System) (chan : ℕ × ℕ) : Type 0 where
  pub first_least : 1 ≤ chan.0
  pub first : chan.0 ≤ length s.roots
  pub second_least : 1 ≤ chan.1
  pub second : chan.1 ≤ length s.roots
  pub apart : chan.0 ≡ chan.1 → ⊥

-- the tests of the parts
pub record Tests (s : System) : Type 0 where
  pub header : is_header s ≡ true
  pub images : are_images s.images ≡ true
  pub roots : are_roots s.clusters (length s.images) s.roots ≡ true
  pub chans : are_chans (length s.roots) s.chans ≡ true

pub tests : (s : System) → is_system s ≡ true → Tests s
tests s h =
    let a = first_of_two _ (are_chans (length s.roots) s.chans) h in
    let b = first_of_two _ (are_roots s.clusters (length s.images) s.roots) a in
    record {
      header = first_of_two (is_header s) (are_images s.images) b;
      images = second_of_two (is_header s) (are_images s.images) b;
      roots = second_of_two (is_header s && are_images s.images) _ a;
      chans = second_of_two (is_header s && are_images s.images && are_roots s.clusters (length s.images) s.roots) _ h;
    }

-- the tests of the roots: some, few, and each of them
pub record RootTests (clusters images : ℕ) (roots : List Root) : Type 0 where
  pub some : 1 ≤ length roots
  pub few : length roots + births_of roots ≤ 32
  pub each : list_all (is_root clusters images) roots ≡ true

pub root_tests : (clusters images : ℕ) (roots : List Root) → are_roots clusters images roots ≡ true → RootTests clusters images roots
root_tests clusters images roots h =
    let a = first_of_two _ (list_all (is_root clusters images) roots) h in
    record {
      some = le_of _ _ (first_of_two (nat_le 1 (length roots)) _ a);
      few = le_of _ _ (second_of_two (nat_le 1 (length roots)) _ a);
      each = second_of_two _ _ h;
    }
  where
    le_of : (a b : ℕ) → nat_le a b ≡ true → a ≤ b
    le_of a b h = grind (arith, nat_tests)

pub system_bounds : (s : System) → is_system s ≡ true → SystemBounds s
system_bounds s h =
    let t = tests s h in
    let r = root_tests s.clusters (length s.images) s.roots t.roots in
    let e = t.header in
    record {
      least = least s e;
      clusters = clusters s e;
      first = first s e;
      second = second s e;
      apart = apart s e;
      least_reads = least_reads s e;
      syncreads = syncreads s e;
      least_steps = least_steps s e;
      syncsteps = syncsteps s e;
      some_root = r.some;
      roots = omega (arith, r.few);
      births = r.few;
    }
  where
    least : (s : System) → is_header s ≡ true → 2 ≤ s.clusters
    least s h = grind (arith, nat_tests)

    clusters : (s : System) → is_header s ≡ true → s.clusters ≤ 16
    clusters s h = grind (arith, nat_tests)

    first : (s : System) → is_header s ≡ true → ((s.pager).0).0 < s.clusters
    first s h = grind (arith, nat_tests)

    second : (s : System) → is_header s ≡ true → ((s.pager).1).0 < s.clusters
    second s h = grind (arith, nat_tests)

    apart : (s : System) → is_header s ≡ true → ((s.pager).0).0 ≡ ((s.pager).1).0 → ⊥
    apart s h e = grind (arith, nat_tests)

    least_reads : (s : System) → is_header s ≡ true → 1 ≤ s.syncreads
    least_reads s h = grind (arith, nat_tests)

    syncreads : (s : System) → is_header s ≡ true → s.syncreads ≤ 1000
    syncreads s h = grind (arith, nat_tests)

    least_steps : (s : System) → is_header s ≡ true → 64 ≤ s.syncsteps
    least_steps s h = grind (arith, nat_tests)

    syncsteps : (s : System) → is_header s ≡ true → s.syncsteps ≤ 100000
    syncsteps s h = grind (arith, nat_tests)

-- ---- the images

pub image_fits : (image : Image) → is_image image ≡ true → ImageBounds image
image_fits image h = record {
  name = first_of_two _ _ (first_of_two _ _ (first_of_two _ _ (first_of_two _ (list_all is_word image.words) h)));
  entry = second_of_two (is_name image.name && is_within 1 256 image.pages) (is_entry image.pages image.entry) (first_of_two _ _ (first_of_two _ (list_all is_word image.words) h));
  least = grind (arith, nat_tests);
  pages = grind (arith, nat_tests);
  fits = grind (arith, nat_tests);
  words = second_of_two _ _ h;
}

pub image_bounds : (s : System) (i : ℕ) (image : Image) → is_system s ≡ true → slice_get s.images i ≡ Some image → ImageBounds image
image_bounds s i image h at = image_fits image (passes_at is_image s.images i image (first_of_two _ _ (tests s h).images) at)

-- ---- the roots

pub root_fits : (s : System) (root : Root) → s.clusters ≤ 16 → is_root s.clusters (length s.images) root ≡ true → RootBounds s root
root_fits s root c h = record {
  clusters = c;
  home = grind (arith, nat_tests);
  backup = grind (arith, nat_tests);
  apart = λ e. grind (arith, nat_tests);
  image = grind (arith, nat_tests);
  image_number = grind (arith, nat_tests);
  least = grind (arith, nat_tests);
  limit = grind (arith, nat_tests);
  births = grind (arith, nat_tests);
  tty = grind (arith, nat_tests);
}

pub root_bounds : (s : System) (i : ℕ) (root : Root) → is_system s ≡ true → slice_get s.roots i ≡ Some root → RootBounds s root
root_bounds s i root h at =
    root_fits s root (system_bounds s h).clusters (passes_at (is_root s.clusters (length s.images)) s.roots i root (root_tests s.clusters (length s.images) s.roots (tests s h).roots).each at)

image_there : (s : System) (root : Root) → is_system s ≡ true → (images : List Image) → images ≡ s.images → root.image < length images → HasImage s root
image_there s root h [] e p = absurd (omega arith)
image_there s root h (d ∷ is) e p =
    let at = ap (λ xs. slice_get xs root.image) (sym e) ∙ slice_get-get_or (d ∷ is) root.image d p in
    record { image = get_or (d ∷ is) root.image d; at = at; bounds = image_bounds s root.image _ h at }

pub root_image : (s : System) (i : ℕ) (root : Root) → is_system s ≡ true → slice_get s.roots i ≡ Some root → HasImage s root
root_image s i root h at = image_there s root h s.images refl (root_bounds s i root h at).image

-- ---- the channels

pub chan_bounds : (s : System) (i : ℕ) (chan : ℕ × ℕ) → is_system s ≡ true → slice_get s.chans i ≡ Some chan → ChanBounds s chan
chan_bounds s i chan h at = made (passes_at (is_chan (length s.roots)) s.chans i chan (first_of_two _ _ (tests s h).chans) at)
  where
    made : is_chan (length s.roots) chan ≡ true → ChanBounds s chan
    made h = record {
      first_least = grind (arith, nat_tests);
      first = grind (arith, nat_tests);
      second_least = grind (arith, nat_tests);
      second = grind (arith, nat_tests);
      apart = λ e. grind (arith, nat_tests);
    }

-- a root has ends enough
pub link_bounds : (s : System) (number : ℕ) → is_system s ≡ true → 1 ≤ number → number ≤ length s.roots → links s.chans number ≤ 31
link_bounds s number h low high = le_of _ _ (passes_at (λ root. nat_le (links s.chans root) 31) (range_with_len 1 (length s.roots)) (number - 1) number (second_of_two _ _ (tests s h).chans) at)
  where
    le_of : (a b : ℕ) → nat_le a b ≡ true → a ≤ b
    le_of a b h = grind (arith, nat_tests)

    at : slice_get (range_with_len 1 (length s.roots)) (number - 1) ≡ Some number
    at = slice_get-get_or (range_with_len 1 (length s.roots)) (number - 1) 0 (omega (arith, length-range_with_len 1 (length s.roots))) ∙ ap Some (get_or-range_with_len 1 (length s.roots) (number - 1) 0 (omega arith) ∙ omega arith)
