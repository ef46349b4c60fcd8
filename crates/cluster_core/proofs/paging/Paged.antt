-- What an entry of a page makes of the processes that are here.
use Rattle.std.proofs.Common.{◌≡◌, ℕ, refl, sym, ◌∙◌, ap, List, [], ◌∷◌, Bool, true, false, cond, eqb-true, eq-eqb, Option, Some, None, true≢false}
use Rattle.std.specs.Prelude.{find, option_map}
use Rattle.t32_base.specs.declared.process.Pid.{Pid}
use Rattle.bus_msg.specs.declared.entry.What.{What}
use Rattle.bus_msg.specs.declared.entry.What.TheVariants.{PageIs}
use Rattle.bus_msg.specs.Places.{same_pid}
use Rattle.residents.specs.Held.{Held, held_of, page_held}
use Rattle.cluster_core.specs.Calls.{here_after}
use Rattle.residents.specs.Arriving.{with_page_come}
use Rattle.cluster_core.proofs.absorbing.ByKind.{by_page, is_of_page}
use Rattle.residents.proofs.Changing.{pid_same}

-- what an entry of a page makes of one process
abbrev pub page_at : What → Pid → Held → Held
page_at (PageIs pid index bytes) p h = cond (same_pid pid p) (page_held index bytes h) h
page_at w p h = h

-- a process that is here after it was here before
pub record WasPaged (w : What) (here : List (Pid × Held)) (p : Pid) (h : Held) : Type 0 where
  pub was : Held
  pub there : held_of here p ≡ Some was
  pub same : h ≡ page_at w p was

abbrev PageFound : Pid → ℕ → List ℕ → List (Pid × Held) → Pid → Type 0
PageFound q i bytes here p = held_of (with_page_come q i bytes here) p ≡ option_map (λ (h : Held). cond (same_pid q p) (page_held i bytes h) h) (held_of here p)

page_found : (q : Pid) (i : ℕ) (bytes : List ℕ) (here : List (Pid × Held)) (p : Pid) → PageFound q i bytes here p
page_found q i bytes [] p = refl
page_found q i bytes (e ∷ here) p = by_tests (same_pid e.0 q) refl (page_found q i bytes here p)
  where
    by_pid : (x : Held) (b : Bool) → (b ≡ true → x ≡ cond (same_pid q p) (page_held i bytes e.1) e.1) → PageFound q i bytes here p
        → option_map (λ (e : Pid × Held). e.1) (cond b (Some (e.0, x)) (find (λ (e : Pid × Held). same_pid e.0 p) (with_page_come q i bytes here)))
        ≡ option_map (λ (h : Held). cond (same_pid q p) (page_held i bytes h) h) (option_map (λ (e : Pid × Held). e.1) (cond b (Some e) (find (λ (e : Pid × Held). same_pid e.0 p) here)))
    by_pid x true is more = ap Some (is refl)
    by_pid x false is more = more

    -- where the process at p is this one, the page is for it where it is for p
    for_it : (c : Bool) → same_pid e.0 q ≡ c → same_pid e.0 p ≡ true → c ≡ same_pid q p
    for_it true is own =
        let named : e.0 ≡ q = pid_same e.0 q (eqb-true (e.0).0 q.0 is) in
        sym own ∙ ap (λ r. same_pid r p) named
    for_it false is own =
        let mine : e.0 ≡ p = pid_same e.0 p (eqb-true (e.0).0 p.0 own) in
        sym (not_it (same_pid q p) refl mine)
      where
        not_it : (b : Bool) → same_pid q p ≡ b → e.0 ≡ p → b ≡ false
        not_it true same mine = absurd (true≢false (sym (eq-eqb (e.0).0 q.0 (ap (λ (r : Pid). r.0) mine ∙ sym (eqb-true q.0 p.0 same))) ∙ is))
        not_it false same mine = refl

    by_tests : (c : Bool) → same_pid e.0 q ≡ c → PageFound q i bytes here p
        → option_map (λ (e : Pid × Held). e.1) (find (λ (e : Pid × Held). same_pid e.0 p) (cond c (e.0, page_held i bytes e.1) e ∷ with_page_come q i bytes here))
        ≡ option_map (λ (h : Held). cond (same_pid q p) (page_held i bytes h) h) (held_of (e ∷ here) p)
    by_tests true is more = by_pid (page_held i bytes e.1) (same_pid e.0 p) (λ own. ap (λ c. cond c (page_held i bytes e.1) e.1) (for_it true is own)) more
    by_tests false is more = by_pid e.1 (same_pid e.0 p) (λ own. ap (λ c. cond c (page_held i bytes e.1) e.1) (for_it false is own)) more

page_was : (q : Pid) (i : ℕ) (bytes : List ℕ) (here : List (Pid × Held)) (p : Pid) (h : Held) (o : Option Held) → held_of here p ≡ o → option_map (λ (h : Held). cond (same_pid q p) (page_held i bytes h) h) o ≡ Some h
    → WasPaged (PageIs q i bytes) here p h
page_was q i bytes here p h None there is = cc
page_was q i bytes here p h (Some was) there is = record { was = was; there = there; same = cc }

pub was_paged : (w : What) (here : List (Pid × Held)) (p : Pid) (h : Held) → is_of_page w ≡ true → held_of (here_after w here) p ≡ Some h → WasPaged w here p h
was_paged w here p h =
    by_page (λ w. held_of (here_after w here) p ≡ Some h → WasPaged w here p h)
    (λ pid index is. record { was = h; there = is; same = refl })
    (λ pid index bytes is. page_was pid index bytes here p h (held_of here p) refl (sym (page_found pid index bytes here p) ∙ is))
    w
