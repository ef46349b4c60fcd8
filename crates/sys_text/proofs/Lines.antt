-- The text of lines, piece by piece.
use Rattle.std.proofs.Common.{◌≡◌, ℕ, zero, suc, ◌<◌, ◌≤◌, List, [], ◌∷◌, ◌++◌, length, map, take, drop, refl, sym, ap, ◌∙◌, arith, append_assoc, append-nil, length-drop}
use Rattle.std.specs.List.{flat_map}
use Rattle.std.proofs.lemmas.List.Concat.{flat_map-append}
use Rattle.std.specs.Prelude.{codes}
use Rattle.std.specs.Fmt.{decimal}
use Rattle.sys_text.specs.declared.system.System.{System}
use Rattle.sys_text.specs.declared.system.Image.{Image}
use Rattle.sys_text.specs.declared.system.Root.{Root}
use Rattle.sys_text.specs.Text.{line_text, lines_text, word_text, words_line, words_lines, words_lines_upto, header_lines, image_lines, mode_text, image_name, root_line, chan_line, system_lines, system_text}

-- fields behind a first one, each after a space
pub line_text_more : (g : ℕ → List ℕ) (f : List ℕ) (ws : List ℕ) → line_text (f ∷ map g ws) ≡ (f ++ flat_map (λ w. 32 ∷ g w) ws) ++ 10 ∷ []
line_text_more g f [] = ap (λ t. t ++ 10 ∷ []) (sym (append-nil f))
line_text_more g f (w ∷ ws) =
    let rest = flat_map (λ (w : ℕ). 32 ∷ g w) ws in
    ap (λ t. f ++ 32 ∷ t) (line_text_more g (g w) ws) ∙ sym (append_assoc f (32 ∷ (g w ++ rest)) (10 ∷ []))

pub words_line_text : (text init : List ℕ) (ws : List ℕ) (done : List ℕ) → done ≡ init ++ (codes "words" ++ flat_map (λ w. 32 ∷ word_text w) ws) → text ≡ done ++ 10 ∷ [] → text ≡ init ++ line_text (words_line ws)
words_line_text text init ws done e f =
    f ∙ ap (λ t. t ++ 10 ∷ []) e ∙ append_assoc init _ (10 ∷ []) ∙ ap (λ t. init ++ t) (sym (line_text_more word_text (codes "words") ws))

-- enough turns are enough
upto_same : (n m : ℕ) (ws : List ℕ) → length ws ≤ n → length ws ≤ m → words_lines_upto n ws ≡ words_lines_upto m ws
upto_same zero zero ws p q = refl
upto_same zero (suc m) [] p q = refl
upto_same zero (suc m) (w ∷ ws) p q = absurd (omega arith)
upto_same (suc n) zero [] p q = refl
upto_same (suc n) zero (w ∷ ws) p q = absurd (omega arith)
upto_same (suc n) (suc m) [] p q = refl
upto_same (suc n) (suc m) (w ∷ ws) p q = ap (λ r. words_line (take 8 (w ∷ ws)) ∷ r) (upto_same n m (drop 8 (w ∷ ws)) (omega (arith, length-drop 8 (w ∷ ws))) (omega (arith, length-drop 8 (w ∷ ws))))

pub words_lines-step : (ws : List ℕ) → 0 < length ws → words_lines ws ≡ words_line (take 8 ws) ∷ words_lines (drop 8 ws)
unfolding words_lines
words_lines-step [] p = absurd (omega arith)
words_lines-step (w ∷ ws) p = ap (λ r. words_line (take 8 (w ∷ ws)) ∷ r) (upto_same (length ws) (length (drop 8 (w ∷ ws))) (drop 8 (w ∷ ws)) (omega (arith, length-drop 8 (w ∷ ws))) (omega arith))

pub words_lines-none : (ws : List ℕ) → length ws ≡ 0 → words_lines ws ≡ []
unfolding words_lines
words_lines-none [] e = refl
words_lines-none (w ∷ ws) e = absurd (omega arith)

pub words_more : (text old whole ws : List ℕ) → 0 < length ws → old ++ lines_text (words_lines ws) ≡ whole → text ≡ old ++ line_text (words_line (take 8 ws)) → text ++ lines_text (words_lines (drop 8 ws)) ≡ whole
words_more text old whole ws p e f =
    ap (λ t. t ++ lines_text (words_lines (drop 8 ws))) f ∙ append_assoc old _ _ ∙ ap (λ ls. old ++ lines_text ls) (sym (words_lines-step ws p)) ∙ e

pub words_all : (text whole ws : List ℕ) → length ws ≡ 0 → text ++ lines_text (words_lines ws) ≡ whole → text ≡ whole
words_all text whole ws z e = sym (append-nil text) ∙ ap (λ ls. text ++ lines_text ls) (sym (words_lines-none ws z)) ∙ e

-- the four lines of a header
pub header_text : (a b c d : List (List ℕ)) (t0 t1 t2 t3 t4 : List ℕ) → t1 ≡ t0 ++ line_text a → t2 ≡ t1 ++ line_text b → t3 ≡ t2 ++ line_text c → t4 ≡ t3 ++ line_text d → t4 ≡ t0 ++ lines_text (a ∷ b ∷ c ∷ d ∷ [])
header_text a b c d t0 t1 t2 t3 t4 e1 e2 e3 e4 = rw (e4, e3, e2, e1) (simp (append_assoc, append-nil))

-- the line of a root, in three parts
pub root_text : (images : List Image) (root : Root) (t0 t1 t2 t3 : List ℕ) → t1 ≡ t0 ++ (codes "root" ++ 32 ∷ (decimal (root.home).0 ++ 32 ∷ (decimal (root.backup).0 ++ 32 ∷ [])))
    → t2 ≡ t1 ++ (mode_text root.mode ++ 32 ∷ image_name images root.image) → t3 ≡ t2 ++ 32 ∷ line_text (decimal root.limit ∷ decimal root.births ∷ decimal root.tty ∷ []) → t3 ≡ t0 ++ line_text (root_line images root)
root_text images root t0 t1 t2 t3 e1 e2 e3 =
    e3 ∙ ap (λ t. t ++ 32 ∷ line_text (decimal root.limit ∷ decimal root.births ∷ decimal root.tty ∷ [])) (e2 ∙ ap (λ t. t ++ (mode_text root.mode ++ 32 ∷ image_name images root.image)) e1)
    ∙ in_parts t0 (decimal (root.home).0) (decimal (root.backup).0) (mode_text root.mode) (image_name images root.image) (32 ∷ line_text (decimal root.limit ∷ decimal root.births ∷ decimal root.tty ∷ []))
  where
    in_parts : (t a b m i n : List ℕ) → ((t ++ (codes "root" ++ 32 ∷ (a ++ 32 ∷ (b ++ 32 ∷ [])))) ++ (m ++ 32 ∷ i)) ++ n ≡ t ++ (codes "root" ++ 32 ∷ (a ++ 32 ∷ (b ++ 32 ∷ (m ++ 32 ∷ (i ++ n)))))
    in_parts t a b m i n = simp append_assoc

four_parts : (a b c d : List (List (List ℕ))) (t0 t1 t2 t3 t4 : List ℕ) → t0 ≡ [] → t1 ≡ t0 ++ lines_text a → t2 ≡ t1 ++ lines_text b → t3 ≡ t2 ++ lines_text c → t4 ≡ t3 ++ lines_text d → t4 ≡ lines_text (a ++ (b ++ (c ++ d)))
four_parts a b c d t0 t1 t2 t3 t4 e0 e1 e2 e3 e4 =
    rw (e4, e3, e2, e1, e0, flat_map-append line_text a (b ++ (c ++ d)), flat_map-append line_text b (c ++ d), flat_map-append line_text c d) (simp append_assoc)

pub system_text_whole : (s : System) (t0 t1 t2 t3 t4 : List ℕ) → t0 ≡ [] → t1 ≡ t0 ++ lines_text (header_lines s) → t2 ≡ t1 ++ lines_text (flat_map image_lines s.images)
    → t3 ≡ t2 ++ lines_text (map (root_line s.images) s.roots) → t4 ≡ t3 ++ lines_text (map chan_line s.chans) → t4 ≡ system_text s
unfolding system_lines
system_text_whole s t0 t1 t2 t3 t4 e0 e1 e2 e3 e4 =
    four_parts (header_lines s) (flat_map image_lines s.images) (map (root_line s.images) s.roots) (map chan_line s.chans) t0 t1 t2 t3 t4 e0 e1 e2 e3 e4
