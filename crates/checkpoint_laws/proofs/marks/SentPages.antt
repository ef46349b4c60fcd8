-- The pages of a process that were sent: none from a later step, as long as none is sent from one.
use Rattle.std.proofs.Common.{◌≡◌, ℕ, ◌≤◌, ◌<◌, refl, sym, ◌∙◌, ap, arith, List, [], ◌∷◌, ◌++◌, Bool, true, false, cond, ◌||◌, ◌&&◌, eqb, ltb, true≢false}
use Rattle.std.specs.List.{list_any}
use Rattle.std.proofs.lemmas.Bool.{and_parts}
use Rattle.std.proofs.lemmas.Bool.Decides.{nat_tests}
use Rattle.t32_base.specs.declared.process.Pid.{Pid}
use Rattle.t32_base.proofs.Facts.{or_false}
use Rattle.sys_text.specs.declared.system.System.{System}
use Rattle.bus_msg.specs.declared.entry.What.{What}
use Rattle.bus_msg.specs.declared.entry.What.TheVariants.{Page}
use Rattle.bus_msg.specs.declared.entry.Entry.{Entry}
use Rattle.bus_msg.specs.Places.{same_pid}
use Rattle.bus_msg.specs.PlacedAfter.{what}
use Rattle.cert_sched.specs.Told.{Told, told}
use Rattle.cert_sched.specs.Moved.{any_since_moved, is_page_at, since_moved}
use Rattle.log_laws.specs.pages.Next.{moves_next}
use Rattle.log_laws.proofs.pages.OneEntry.{any_since-snoc}
use Rattle.checkpoint_laws.specs.marks.Beside.{is_some_page}
use Rattle.checkpoint_laws.specs.marks.Sent.{SentUpto, is_later_page}

-- none passes a test that only those pass that pass another, which none passes
pub none_passes : {X : Type 0} (t u : X → Bool) (xs : List X) → ((x : X) → t x ≡ true → u x ≡ true) → list_any u xs ≡ false → list_any t xs ≡ false
none_passes t u [] leads none = refl
none_passes t u (x ∷ xs) leads none = by_tests (t x) refl (u x) refl none (none_passes t u xs leads)
  where
    by_tests : (b : Bool) → t x ≡ b → (c : Bool) → u x ≡ c → (c || list_any u xs) ≡ false → (list_any u xs ≡ false → list_any t xs ≡ false) → (b || list_any t xs) ≡ false
    by_tests true is true other none more = absurd (true≢false none)
    by_tests true is false other none more = absurd (true≢false (sym (leads x is) ∙ other))
    by_tests false is true other none more = absurd (true≢false none)
    by_tests false is false other none more = more none

less_from : (m n at : ℕ) → n ≤ m → ltb m at ≡ true → ltb n at ≡ true
less_from m n at low less = grind (arith, nat_tests)

later_still : (p : Pid) (n m : ℕ) (w : What) → n ≤ m → is_later_page p m w ≡ true → is_later_page p n w ≡ true
later_still p n m (Page pid at index bytes) low is =
    let parts = and_parts (same_pid pid p) (ltb m at) is in
    ap (λ b. b && ltb n at) parts.0 ∙ less_from m n at low parts.1
later_still p n m _ low is = is

less_at : (n m at : ℕ) → n < m → eqb at m ≡ true → ltb n at ≡ true
less_at n m at low is = grind (arith, nat_tests)

at_later : (p : Pid) (i n m : ℕ) (w : What) → n < m → is_page_at p i m w ≡ true → is_later_page p n w ≡ true
at_later p i n m (Page pid at index bytes) low is =
    let parts = and_parts (same_pid pid p && eqb index i) (eqb at m) is in
    let first = and_parts (same_pid pid p) (eqb index i) parts.0 in
    ap (λ b. b && ltb n at) first.0 ∙ less_at n m at low parts.1
at_later p i n m _ low is = is

later_is_some : (p : Pid) (n : ℕ) (w : What) → is_later_page p n w ≡ true → is_some_page p w ≡ true
later_is_some p n (Page pid at index bytes) is = (and_parts (same_pid pid p) (ltb n at) is).0
later_is_some p n _ is = is

module _ (system : System) (log : List Entry) (p : Pid) where
  -- where no page was sent, none was sent at a later step count than any
  pub unsent_upto : (n : ℕ) → any_since_moved system log p (is_some_page p) ≡ false → SentUpto system log p n
  unsent_upto n none =
      none_passes (λ (t : Told). is_later_page p n (what t.entry)) (λ (t : Told). is_some_page p (what t.entry)) (since_moved system log p) (λ t. later_is_some p n (what t.entry)) none

  -- no page was sent at a later step count
  pub never_at : (n m i : ℕ) → n < m → SentUpto system log p n → any_since_moved system log p (is_page_at p i m) ≡ false
  never_at n m i low upto =
      none_passes (λ (t : Told). is_page_at p i m (what t.entry)) (λ (t : Told). is_later_page p n (what t.entry)) (since_moved system log p) (λ t. at_later p i n m (what t.entry) low) upto

  pub sent_later : (n m : ℕ) → n ≤ m → SentUpto system log p n → SentUpto system log p m
  sent_later n m low upto =
      none_passes (λ (t : Told). is_later_page p m (what t.entry)) (λ (t : Told). is_later_page p n (what t.entry)) (since_moved system log p) (λ t. later_still p n m (what t.entry) low) upto

  pub sent_on : (e : Entry) (n : ℕ) → is_later_page p n (what e) ≡ false → SentUpto system log p n → SentUpto system (log ++ e ∷ []) p n
  sent_on e n none upto =
      any_since-snoc system log e p (is_later_page p n)
      ∙ ap (λ b. cond (moves_next system log e p) false (any_since_moved system log p (is_later_page p n) || b)) none
      ∙ ap (cond (moves_next system log e p) false) (or_false (any_since_moved system log p (is_later_page p n)) ∙ upto)
      ∙ either (moves_next system log e p)
    where
      either : (b : Bool) → cond b false false ≡ false
      either true = refl
      either false = refl

  pub sent_moved : (e : Entry) (n : ℕ) → moves_next system log e p ≡ true → SentUpto system (log ++ e ∷ []) p n
  sent_moved e n moved =
      any_since-snoc system log e p (is_later_page p n) ∙ ap (λ b. cond b false (any_since_moved system log p (is_later_page p n) || is_later_page p n (what e))) moved

pub sent_none : (system : System) (p : Pid) (n : ℕ) → SentUpto system [] p n
unfolding told
sent_none system p n = refl
