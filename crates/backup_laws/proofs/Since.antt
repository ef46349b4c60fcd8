-- What one more entry does to the wait of a process for its new backup: a fullback waits from the crash that moves it until a new backup names it, or no cluster but its home lives.
use Rattle.std.proofs.Common.{◌≡◌, refl, ◌∙◌, ap, List, [], ◌∷◌, ◌++◌, map, Bool, true, false, cond, not, ◌&&◌, ◌||◌, Option, Some, None}
use Rattle.std.specs.Prelude.{option_map}
use Rattle.std.specs.List.{list_any}
use Rattle.std.specs.Option.{option_map_or}
use Rattle.std.proofs.lemmas.List.{map-append}
use Rattle.t32_base.specs.declared.process.Pid.{Pid}
use Rattle.t32_base.specs.declared.process.Mode.{Mode}
use Rattle.t32_base.proofs.Facts.{or_false}
use Rattle.sys_text.specs.declared.system.System.{System}
use Rattle.bus_msg.specs.declared.entry.Entry.{Entry}
use Rattle.bus_msg.specs.declared.placed.Placed.{Placed}
use Rattle.bus_msg.specs.Places.{Places, unended_at}
use Rattle.bus_msg.specs.PlacedAfter.{what}
use Rattle.cert_sched.specs.Parts.{after_last}
use Rattle.cert_sched.specs.Schedule.{placement}
use Rattle.cert_sched.specs.Told.{Told, told, moves}
use Rattle.cert_sched.specs.Moved.{any_since_moved, names, was_moved}
use Rattle.cert_sched.specs.Rules.{has_awaited_backup, is_alone, is_full, is_moved_fullback, places_since_moved}
use Rattle.cert_sched.proofs.ListLaws.{after_last-snoc}
use Rattle.cert_sched.proofs.LogLaws.{told-snoc}
use Rattle.log_laws.specs.pages.Next.{moves_next, next_told}
use Rattle.log_laws.proofs.pages.OneEntry.{any_since-snoc, list_any-last}

-- the mode of a process that has not ended
abbrev pub mode_at : Places → Pid → Option Mode
mode_at places p = option_map (λ (q : Placed). q.mode) (unended_at places p)

abbrev pub is_full_at : Places → Pid → Bool
is_full_at places p = option_map_or (λ (q : Placed). is_full q.mode) (unended_at places p) false

-- since the last crash that moved it a new backup named it, or no cluster but its home lived
abbrev pub awaited_in : System → List Entry → Pid → Bool
awaited_in system log p = any_since_moved system log p (names p) || list_any (is_alone p) (places_since_moved system log p)

three : (a b c : Bool) → (a || b || c) ≡ (a || (b || c))
three true b c = refl
three false true c = refl
three false false c = refl

pub awaited_is : (system : System) (log : List Entry) (p : Pid) → has_awaited_backup system log p ≡ (not (is_full_at (placement system log) p && was_moved system log p) || awaited_in system log p)
awaited_is system log p = three (not (is_moved_fullback system log p)) (any_since_moved system log p (names p)) (list_any (is_alone p) (places_since_moved system log p))

pub full_mode : (places : Places) (p : Pid) → is_full_at places p ≡ option_map_or is_full (mode_at places p) false
full_mode places p = by_found (unended_at places p)
  where
    by_found : (o : Option Placed) → option_map_or (λ (q : Placed). is_full q.mode) o false ≡ option_map_or is_full (option_map (λ (q : Placed). q.mode) o) false
    by_found None = refl
    by_found (Some q) = refl

module _ (system : System) (log : List Entry) (e : Entry) (p : Pid) where
  abbrev after : Places
  after = placement system (log ++ e ∷ [])

  pub was_moved-snoc : was_moved system (log ++ e ∷ []) p ≡ (was_moved system log p || moves_next system log e p)
  was_moved-snoc = ap (list_any (moves p)) (told-snoc system log e) ∙ list_any-last (moves p) (told system log) (next_told system log e)

  alone-snoc : list_any (is_alone p) (places_since_moved system (log ++ e ∷ []) p) ≡ cond (moves_next system log e p) (is_alone p after)
      (list_any (is_alone p) (places_since_moved system log p) || is_alone p after)
  alone-snoc =
      ap (λ ts. list_any (is_alone p) (map (λ (t : Told). t.places) (after_last (moves p) ts) ++ after ∷ [])) (told-snoc system log e)
      ∙ ap (λ ts. list_any (is_alone p) (map (λ (t : Told). t.places) ts ++ after ∷ [])) (after_last-snoc (moves p) (told system log) (next_told system log e))
      ∙ by_test (moves p (next_told system log e))
    where
      since : List Told
      since = after_last (moves p) (told system log)

      by_test : (b : Bool)
          → list_any (is_alone p) (map (λ (t : Told). t.places) (cond b [] (since ++ next_told system log e ∷ [])) ++ after ∷ []) ≡ cond b (is_alone p after)
          (list_any (is_alone p) (map (λ (t : Told). t.places) since ++ placement system log ∷ []) || is_alone p after)
      by_test true = or_false (is_alone p after)
      by_test false =
          list_any-last (is_alone p) (map (λ (t : Told). t.places) (since ++ next_told system log e ∷ [])) after
          ∙ ap (λ xs. list_any (is_alone p) xs || is_alone p after) (map-append (λ (t : Told). t.places) since (next_told system log e ∷ []))

  -- a crash that moves it begins the wait, unless no other cluster lives then
  pub awaited-moved : moves_next system log e p ≡ true → awaited_in system (log ++ e ∷ []) p ≡ is_alone p after
  awaited-moved moved = λ i.
      (any_since-snoc system log e p (names p) ∙ ap (λ b. cond b false (any_since_moved system log p (names p) || names p (what e))) moved) i
      || (alone-snoc ∙ ap (λ b. cond b (is_alone p after) (list_any (is_alone p) (places_since_moved system log p) || is_alone p after)) moved) i

  -- any other entry ends it where it names the process, or leaves no other cluster
  pub awaited-on : moves_next system log e p ≡ false → awaited_in system (log ++ e ∷ []) p ≡ (awaited_in system log p || (names p (what e) || is_alone p after))
  awaited-on stays =
      (λ i.
      (any_since-snoc system log e p (names p) ∙ ap (λ b. cond b false (any_since_moved system log p (names p) || names p (what e))) stays) i
      || (alone-snoc ∙ ap (λ b. cond b (is_alone p after) (list_any (is_alone p) (places_since_moved system log p) || is_alone p after)) stays) i)
      ∙ swapped (any_since_moved system log p (names p)) (names p (what e)) (list_any (is_alone p) (places_since_moved system log p)) (is_alone p after)
    where
      swapped : (a b c d : Bool) → ((a || b) || (c || d)) ≡ ((a || c) || (b || d))
      swapped true b c d = refl
      swapped false true true d = refl
      swapped false true false d = refl
      swapped false false true d = refl
      swapped false false false d = refl
