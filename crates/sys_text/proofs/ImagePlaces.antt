-- The places of the images that are closed, and of one image more.
use Rattle.std.proofs.Common.{◌≡◌, ℕ, suc, ◌+◌, Bool, true, false, List, [], ◌∷◌, ◌++◌, length, Option, Some, None, refl, sym, ap, ◌∙◌, add-one}
use Rattle.std.specs.Option.{option_map}
use Rattle.std.specs.Str.{bytes_eq}
use Rattle.text_parts.specs.Table.{lookup, FindSame}
use Rattle.text_parts.proofs.NameTables.{or_else, lookup-append}
use Rattle.sys_text.specs.declared.system.Image.{Image}
use Rattle.sys_text.specs.Rules.{place_of}
use Rattle.sys_text.specs.ImageNames.{FindImages}

next_of_either : (a b : Option ℕ) → option_map (λ n. n + 1) (or_else a b) ≡ or_else (option_map (λ n. n + 1) a) (option_map (λ n. n + 1) b)
next_of_either None b = refl
next_of_either (Some n) b = refl

next_place : (n : ℕ) (own name : List ℕ) → option_map (λ k. k + 1) (lookup ((own, n) ∷ []) name) ≡ lookup ((own, suc n) ∷ []) name
next_place n own name = by_name (bytes_eq own name) refl
  where
    by_name : (b : Bool) → bytes_eq own name ≡ b → option_map (λ k. k + 1) (lookup ((own, n) ∷ []) name) ≡ lookup ((own, suc n) ∷ []) name
    by_name true e = rw e (ap Some (add-one n))
    by_name false e = rw e refl

-- an image more is found behind the others
place_of-push : (images : List Image) (image : Image) (name : List ℕ) → place_of (images ++ image ∷ []) name ≡ or_else (place_of images name) (lookup ((image.name, length images) ∷ []) name)
place_of-push [] image name = refl
place_of-push (x ∷ xs) image name = by_name (place_of-push xs image name) (bytes_eq x.name name) refl
  where
    by_name : place_of (xs ++ image ∷ []) name ≡ or_else (place_of xs name) (lookup ((image.name, length xs) ∷ []) name) → (b : Bool) → bytes_eq x.name name ≡ b
        → place_of (x ∷ (xs ++ image ∷ [])) name ≡ or_else (place_of (x ∷ xs) name) (lookup ((image.name, suc (length xs)) ∷ []) name)
    by_name next true e = rw e refl
    by_name next false e =
        rw e (ap (option_map (λ n. n + 1)) next
        ∙ next_of_either (place_of xs name) (lookup ((image.name, length xs) ∷ []) name)
        ∙ ap (or_else (option_map (λ n. n + 1) (place_of xs name))) (next_place (length xs) image.name name))

-- the places with a row more are those of the images with this image more
pub place_more : (places new : List (List ℕ × ℕ)) (images : List Image) (image : Image) (own : List ℕ) (n : ℕ) → own ≡ image.name → n ≡ length images → FindImages places images → FindSame new (places ++ (own, n) ∷ []) → FindImages new (images ++ image ∷ [])
place_more places new images image own n own_is n_is known added = λ name.
    added name
    ∙ lookup-append places ((own, n) ∷ []) name
    ∙ ap (λ (o : Option ℕ). or_else o (lookup ((own, n) ∷ []) name)) (known name)
    ∙ ap (λ (own : List ℕ). or_else (place_of images name) (lookup ((own, n) ∷ []) name)) own_is
    ∙ ap (λ (n : ℕ). or_else (place_of images name) (lookup ((image.name, n) ∷ []) name)) n_is
    ∙ sym (place_of-push images image name)
