-- A system that is read keeps the rules.
use Rattle.std.proofs.Common.{◌≡◌, ℕ, suc, ◌+◌, ◌*◌, ◌<◌, ◌≤◌, Bool, true, false, not, ◌&&◌, ◌||◌, cond, eqb, leb, nat_le, nat_lt, List, [], ◌∷◌, ◌++◌, length, Option, Some, None, refl, sym, ap, ◌∙◌, arith}
use Rattle.std.specs.List.{list_all}
use Rattle.std.specs.Prelude.{is_some}
use Rattle.std.specs.Option.{option_map}
use Rattle.std.specs.Str.{bytes_eq}
use Rattle.std.proofs.lemmas.Bool.{eqb-true, eq-eqb}
use Rattle.std.proofs.lemmas.Bool.Decides.{nat_tests}
use Rattle.std.proofs.lemmas.List.Sums.{sum_by-cons, sum_by-append}
use Rattle.std.proofs.lemmas.Slice.Eq.{bytes_eq-Decides}
use Rattle.sys_text.specs.declared.system.Image.{Image}
use Rattle.sys_text.specs.declared.system.Root.{Root}
use Rattle.sys_text.specs.declared.state.State.{State}
use Rattle.sys_text.specs.Valid.{is_within, is_entry, is_pair, is_name, is_named_once, births_of, is_chan, links}
use Rattle.sys_text.specs.Rules.{place_of}
use Rattle.sys_text.proofs.Bounds.{first_of_two, second_of_two}
use Rattle.sys_text.proofs.Printed.{both, all_joined}
use Rattle.sys_text.proofs.Imaged.{named, named-yes, named-no}
use Rattle.sys_text.proofs.Standing.{rank}

-- ---- what is kept, but for the types of the code

-- a name, 1 to 256 pages, and an entry in them
abbrev pub is_headed : Image → Bool
is_headed image = is_name image.name && is_within 1 256 image.pages && is_entry image.pages image.entry

-- and words that fit them
abbrev pub is_shaped : Image → Bool
is_shaped image = is_headed image && nat_le (4 * length image.words) (256 * image.pages)

-- a root of such a number of images
abbrev pub is_placed : ℕ → ℕ → Root → Bool
is_placed clusters images root = is_pair clusters root.home root.backup && nat_lt root.image images && is_within 1 100000 root.limit && nat_le root.births 31 && nat_le root.tty 15

abbrev pub are_once : List Image → List Image → Bool
are_once all images = list_all (λ (image : Image). is_named_once all image.name) images

-- an image is open whose name is new, and that is well shaped where its words are not those of a file
pub record HasOpen (images : List Image) (file : Option ℕ) (block : Option Image) : Type 0 where
  pub image : Image
  pub is_open : block ≡ Some image
  pub headed : is_headed image ≡ true
  pub fits : file ≡ None → nat_le (4 * length image.words) (256 * image.pages) ≡ true
  pub fresh : place_of images image.name ≡ None

pub record IsSound (state : State) : Type 0 where
  pub clusters : 1 ≤ rank state.stage → is_within 2 16 state.system.clusters ≡ true
  pub pager : 2 ≤ rank state.stage → is_pair state.system.clusters (state.system.pager).0 (state.system.pager).1 ≡ true
  pub reads : 3 ≤ rank state.stage → is_within 1 1000 state.system.syncreads ≡ true
  pub steps : 4 ≤ rank state.stage → is_within 64 100000 state.system.syncsteps ≡ true
  pub images : list_all is_shaped state.system.images ≡ true
  pub once : are_once state.system.images state.system.images ≡ true
  pub begins : rank state.stage ≡ 0 → state.system.roots ≡ []
  pub roots : list_all (is_placed state.system.clusters (length state.system.images)) state.system.roots ≡ true
  pub few : length state.system.roots + births_of state.system.roots ≤ 32
  pub some : 6 ≤ rank state.stage → 1 ≤ length state.system.roots
  pub chans : list_all (is_chan (length state.system.roots)) state.system.chans ≡ true
  pub linked : (root : ℕ) → links state.system.chans root ≤ 31
  pub block : rank state.stage ≡ 5 → HasOpen state.system.images state.file state.block

-- ---- small facts

pub not_true : (b : Bool) → b ≡ false → not b ≡ true
not_true b e = rw e refl

pub none_of : (o : Option ℕ) → is_some o ≡ false → o ≡ None
none_of None h = refl
none_of (Some i) h = absurd cc

-- ---- images

place_of-no : (image : Image) (images : List Image) (name : List ℕ) → bytes_eq image.name name ≡ false → place_of (image ∷ images) name ≡ option_map (λ n. n + 1) (place_of images name)
place_of-no image images name e = rw e refl

place_of-yes : (image : Image) (images : List Image) (name : List ℕ) → bytes_eq image.name name ≡ true → place_of (image ∷ images) name ≡ Some 0
place_of-yes image images name e = rw e refl

none_again : (o : Option ℕ) → option_map (λ n. n + 1) o ≡ None → o ≡ None
none_again None h = refl
none_again (Some i) h = absurd cc

some_not_none : (i : ℕ) (o : Option ℕ) → o ≡ Some i → o ≡ None → ⊥
some_not_none i o e f = let g = sym e ∙ f in absurd cc

differs : (name : List ℕ) (images : List Image) → place_of images name ≡ None → list_all (λ (image : Image). not (bytes_eq image.name name)) images ≡ true
differs name [] h = refl
differs name (image ∷ images) h = by_name (λ e. differs name images e) (bytes_eq image.name name) refl
  where
    by_name : (place_of images name ≡ None → list_all (λ (image : Image). not (bytes_eq image.name name)) images ≡ true) → (b : Bool) → bytes_eq image.name name ≡ b → (not (bytes_eq image.name name) && list_all (λ (image : Image). not (bytes_eq image.name name)) images) ≡ true
    by_name next true e = absurd (some_not_none 0 (place_of (image ∷ images) name) (place_of-yes image images name e) h)
    by_name next false e = both _ _ (not_true (bytes_eq image.name name) e) (next (none_again (place_of images name) (sym (place_of-no image images name e) ∙ h)))

false_of : (b : Bool) → not b ≡ true → b ≡ false
false_of true h = absurd cc
false_of false h = refl

none_has : (name : List ℕ) (images : List Image) → list_all (λ (image : Image). not (bytes_eq image.name name)) images ≡ true → named name images ≡ 0
none_has name [] h = refl
none_has name (image ∷ images) h =
    named-no name image images (false_of (bytes_eq image.name name) (first_of_two (not (bytes_eq image.name name)) _ h)) ∙ none_has name images (second_of_two (not (bytes_eq image.name name)) _ h)

named-append : (name : List ℕ) (images more : List Image) → named name (images ++ more) ≡ named name images + named name more
named-append name images more = sum_by-append (λ (i : Image). cond (bytes_eq i.name name) 1 0) images more

turned : (a b : List ℕ) → bytes_eq a b ≡ false → bytes_eq b a ≡ false
turned a b e = by_test (bytes_eq b a) refl
  where
    by_test : (x : Bool) → bytes_eq b a ≡ x → bytes_eq b a ≡ false
    by_test true h =
        let same : b ≡ a = (bytes_eq-Decides b a).0 h in
        let again : bytes_eq a b ≡ true = (bytes_eq-Decides a b).1 (sym same) in
        let f : true ≡ false = sym again ∙ e in
        absurd cc
    by_test false h = h

once_old : (all rest : List Image) (x : Image) → list_all (λ (image : Image). not (bytes_eq image.name x.name)) rest ≡ true → are_once all rest ≡ true → are_once (all ++ x ∷ []) rest ≡ true
once_old all [] x d h = refl
once_old all (y ∷ rest) x d h =
    let apart : bytes_eq x.name y.name ≡ false = turned y.name x.name (false_of (bytes_eq y.name x.name) (first_of_two (not (bytes_eq y.name x.name)) _ d)) in
    let before : named y.name all ≡ 1 = eqb-true (named y.name all) 1 (first_of_two (is_named_once all y.name) _ h) in
    let now : named y.name (all ++ x ∷ []) ≡ 1 = named-append y.name all (x ∷ []) ∙ omega (arith, before, named-no y.name x [] apart) in
    both _ _ (eq-eqb (named y.name (all ++ x ∷ [])) 1 now) (once_old all rest x (second_of_two (not (bytes_eq y.name x.name)) _ d) (second_of_two (is_named_once all y.name) _ h))

same_name : (name : List ℕ) → bytes_eq name name ≡ true
same_name name = (bytes_eq-Decides name name).1 refl

pub once_push : (all : List Image) (x : Image) → place_of all x.name ≡ None → are_once all all ≡ true → are_once (all ++ x ∷ []) (all ++ x ∷ []) ≡ true
once_push all x none h =
    let d = differs x.name all none in
    let now : named x.name (all ++ x ∷ []) ≡ 1 = named-append x.name all (x ∷ []) ∙ omega (arith, none_has x.name all d, named-yes x.name x [] (same_name x.name)) in
    all_joined (λ (image : Image). is_named_once (all ++ x ∷ []) image.name) all (x ∷ []) (once_old all all x d h) (both _ _ (eq-eqb (named x.name (all ++ x ∷ [])) 1 now) refl)

pub place_within : (images : List Image) (name : List ℕ) (i : ℕ) → place_of images name ≡ Some i → i < length images
place_within [] name i e = absurd cc
place_within (image ∷ images) name i e = by_name (λ j f. place_within images name j f) (bytes_eq image.name name) refl
  where
    one_more : (o : Option ℕ) → option_map (λ n. n + 1) o ≡ Some i → (j : ℕ) × (o ≡ Some j) × (i ≡ j + 1)
    one_more None h = absurd cc
    one_more (Some j) h = (j, refl, cc)

    by_name : ((j : ℕ) → place_of images name ≡ Some j → j < length images) → (b : Bool) → bytes_eq image.name name ≡ b → i < suc (length images)
    by_name next true h =
        let f = sym (place_of-yes image images name h) ∙ e in
        let same : 0 ≡ i = cc in
        omega (arith, same)
    by_name next false h =
        let j = one_more (place_of images name) (sym (place_of-no image images name h) ∙ e) in
        omega (arith, j.2, next j.0 j.1)

-- ---- roots and channels

pub more_images : (clusters n : ℕ) (roots : List Root) → list_all (is_placed clusters n) roots ≡ true → list_all (is_placed clusters (n + 1)) roots ≡ true
more_images clusters n [] h = refl
more_images clusters n (root ∷ roots) h = both _ _ (one root (first_of_two (is_placed clusters n root) _ h)) (more_images clusters n roots (second_of_two (is_placed clusters n root) _ h))
  where
    less : (i n : ℕ) → nat_lt i n ≡ true → nat_lt i (n + 1) ≡ true
    less i n h = grind (arith, nat_tests)

    one : (root : Root) → is_placed clusters n root ≡ true → is_placed clusters (n + 1) root ≡ true
    one root h =
        let p = is_pair clusters root.home root.backup in
        let l = is_within 1 100000 root.limit in
        let b = nat_le root.births 31 in
        let t = nat_le root.tty 15 in
        let i = nat_lt root.image n in
        let pilb = first_of_two (p && i && l && b) t h in
        let pil = first_of_two (p && i && l) b pilb in
        let pi = first_of_two (p && i) l pil in
        both _ _ (both _ _ (both _ _ (both _ _ (first_of_two p i pi) (less root.image n (second_of_two p i pi))) (second_of_two (p && i) l pil)) (second_of_two (p && i && l) b pilb)) (second_of_two (p && i && l && b) t h)

pub more_roots : (n : ℕ) (chans : List (ℕ × ℕ)) → list_all (is_chan n) chans ≡ true → list_all (is_chan (n + 1)) chans ≡ true
more_roots n [] h = refl
more_roots n (chan ∷ chans) h = both _ _ (one chan (first_of_two (is_chan n chan) _ h)) (more_roots n chans (second_of_two (is_chan n chan) _ h))
  where
    one : (chan : ℕ × ℕ) → is_chan n chan ≡ true → is_chan (n + 1) chan ≡ true
    one chan h = grind (arith, nat_tests)

links-push : (chans : List (ℕ × ℕ)) (chan : ℕ × ℕ) (root : ℕ) → links (chans ++ chan ∷ []) root ≡ links chans root + cond (eqb chan.0 root || eqb chan.1 root) 1 0
links-push chans chan root =
    sum_by-append (λ (c : ℕ × ℕ). cond (eqb c.0 root || eqb c.1 root) 1 0) chans (chan ∷ [])
    ∙ ap (λ n. links chans root + n) (sum_by-cons (λ (c : ℕ × ℕ). cond (eqb c.0 root || eqb c.1 root) 1 0) chan [] ∙ omega arith)

pub links_few : (chans : List (ℕ × ℕ)) (chan : ℕ × ℕ) → (leb 31 (links chans chan.0) || leb 31 (links chans chan.1)) ≡ false → ((root : ℕ) → links chans root ≤ 31) → (root : ℕ) → links (chans ++ chan ∷ []) root ≤ 31
links_few chans chan free few root = by_ends (eqb chan.0 root) refl (eqb chan.1 root) refl
  where
    free_first : links chans chan.0 ≤ 30
    free_first = grind (arith, nat_tests)

    free_second : links chans chan.1 ≤ 30
    free_second = grind (arith, nat_tests)

    by_ends : (a : Bool) → eqb chan.0 root ≡ a → (b : Bool) → eqb chan.1 root ≡ b → links (chans ++ chan ∷ []) root ≤ 31
    by_ends true ea b eb =
        let same : chan.0 ≡ root = eqb-true chan.0 root ea in
        let here : links (chans ++ chan ∷ []) root ≡ links chans root + 1 = links-push chans chan root ∙ rw ea refl in
        omega (arith, here, free_first, ap (links chans) same)
    by_ends false ea true eb =
        let same : chan.1 ≡ root = eqb-true chan.1 root eb in
        let here : links (chans ++ chan ∷ []) root ≡ links chans root + 1 = links-push chans chan root ∙ rw (ea, eb) refl in
        omega (arith, here, free_second, ap (links chans) same)
    by_ends false ea false eb =
        let here : links (chans ++ chan ∷ []) root ≡ links chans root + 0 = links-push chans chan root ∙ rw (ea, eb) refl in
        omega (arith, here, few root)
