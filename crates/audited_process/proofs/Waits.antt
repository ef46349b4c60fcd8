-- Whether a process waits for its new backup, after one more entry.
use Rattle.std.proofs.Common.{◌≡◌, refl, sym, ◌∙◌, ap, List, [], ◌∷◌, ◌++◌, length, map, Bool, true, false, cond, not, ◌&&◌, ◌||◌, Option, Some, is_some}
use Rattle.std.specs.List.{list_all, list_any, range_with_len}
use Rattle.std.specs.Option.{option_map_or}
use Rattle.std.proofs.lemmas.List.{map-append}
use Rattle.std.proofs.lemmas.List.Folds.{list_all-map}
use Rattle.t32_base.specs.declared.process.Pid.{Pid}
use Rattle.t32_base.specs.declared.process.Mode.{Mode}
use Rattle.sys_text.specs.declared.system.System.{System}
use Rattle.bus_msg.specs.declared.entry.What.{What}
use Rattle.bus_msg.specs.declared.entry.What.TheVariants.{Birth}
use Rattle.bus_msg.specs.declared.entry.Entry.{Entry}
use Rattle.bus_msg.specs.declared.placed.Placed.{Placed}
use Rattle.bus_msg.specs.Places.{Places, all_clusters, cluster_no, lives_in, placed_at, same_cluster, unended_at}
use Rattle.bus_msg.specs.PlacedAfter.{placed_after, what}
use Rattle.cert_sched.specs.Account.{is_exit_of}
use Rattle.cert_sched.specs.Deeds.{is_birth_of}
use Rattle.cert_sched.specs.Parts.{after_last}
use Rattle.cert_sched.specs.Schedule.{placement}
use Rattle.cert_sched.specs.Told.{Told, told, moves}
use Rattle.cert_sched.specs.Moved.{any_since_moved, names, since_moved, was_moved}
use Rattle.cert_sched.specs.Rules.{has_awaited_backup, is_alone, is_full, is_moved_fullback}
use Rattle.cert_sched.specs.Simulation.{IsUnended}
use Rattle.cert_sched.proofs.BirthPlaces.{born_beside}
use Rattle.cert_sched.proofs.ListLaws.{after_last-snoc}
use Rattle.cert_sched.proofs.LogLaws.{placement-snoc, told-snoc}
use Rattle.cert_sched.proofs.StayingUnended.{unended_stays}
use Rattle.log_laws.specs.pages.Next.{moves_next, next_told}
use Rattle.log_laws.proofs.pages.OneEntry.{any_since-snoc, list_any-last}
use Rattle.backup_laws.proofs.Modes.{mode_stays}
use Rattle.backup_laws.proofs.Since.{full_mode, was_moved-snoc}
use Rattle.audited_process.specs.SinceMoved.{is_fullback, is_home_or_lost, waited, waits_on}

-- who has not ended stays so, where the entry is neither its exit nor its birth
pub still_unended : (w : What) (places : Places) (p : Pid) → is_birth_of p w ≡ false → is_exit_of p w ≡ false → is_some (unended_at places p) ≡ true
    → is_some (unended_at (placed_after places w) p) ≡ true
still_unended (Birth parent at child end) places p unborn stays there = ap is_some (born_beside p child places (placed_at places parent) unborn) ∙ there
still_unended w places p unborn stays there = unended_stays w refl places p stays there

-- before each of the placements since a loss moved it no other cluster lived
abbrev pub was_alone : System → List Entry → Pid → Bool
was_alone system log p = list_any (is_alone p) (map (λ (t : Told). t.places) (since_moved system log p))

module _ (system : System) (log : List Entry) (e : Entry) (p : Pid) (unended : IsUnended system log p) (unborn : is_birth_of p (what e) ≡ false) (stays : is_exit_of p (what e) ≡ false) where
  abbrev here : Places
  here = placement system log

  abbrev more : List Entry
  more = log ++ e ∷ []

  same_fullback : is_fullback (placement system more) p ≡ is_fullback here p
  same_fullback =
      ap (λ places. is_fullback places p) (placement-snoc system log e) ∙ full_mode (placed_after here (what e)) p
      ∙ ap (λ (o : Option Mode). option_map_or is_full o false) (mode_stays (what e) here p unborn (still_unended (what e) here p unborn stays unended)) ∙ sym (full_mode here p)

  alone-snoc : was_alone system more p ≡ cond (moves_next system log e p) false (was_alone system log p || is_alone p here)
  alone-snoc =
      ap (λ ts. list_any (is_alone p) (map (λ (t : Told). t.places) (after_last (moves p) ts))) (told-snoc system log e)
      ∙ ap (λ ts. list_any (is_alone p) (map (λ (t : Told). t.places) ts)) (after_last-snoc (moves p) (told system log) (next_told system log e))
      ∙ by_test (moves p (next_told system log e))
    where
      since : List Told
      since = after_last (moves p) (told system log)

      by_test : (b : Bool) → list_any (is_alone p) (map (λ (t : Told). t.places) (cond b [] (after_last (moves p) (told system log) ++ next_told system log e ∷ [])))
          ≡ cond b false (list_any (is_alone p) (map (λ (t : Told). t.places) (after_last (moves p) (told system log))) || is_alone p here)
      by_test true = refl
      by_test false =
          ap (list_any (is_alone p)) (map-append (λ (t : Told). t.places) (after_last (moves p) (told system log)) (next_told system log e ∷ []))
          ∙ list_any-last (is_alone p) (map (λ (t : Told). t.places) (after_last (moves p) (told system log))) here

  abbrev so : Bool → Bool → Bool → Bool
  so moved named alone = is_fullback here p && (was_moved system log p || moved)
      && not (cond moved false (any_since_moved system log p (names p) || named) || cond moved false (was_alone system log p || alone))

  waited_is : waited system more p ≡ so (moves_next system log e p) (names p (what e)) (is_alone p here)
  waited_is = λ i. same_fullback i && was_moved-snoc system log e p i && not (any_since-snoc system log e p (names p) i || alone-snoc i)

  moved_parts : (f w : Bool) → (f && (w || true) && true) ≡ f
  moved_parts true true = refl
  moved_parts true false = refl
  moved_parts false w = refl

  stayed_parts : (f w n a named alone : Bool) → (f && (w || false) && not ((n || named) || (a || alone))) ≡ (f && w && not (n || a) && not named && not alone)
  stayed_parts false w n a named alone = refl
  stayed_parts true false n a named alone = refl
  stayed_parts true true true a named alone = refl
  stayed_parts true true false true true alone = refl
  stayed_parts true true false true false alone = refl
  stayed_parts true true false false true alone = refl
  stayed_parts true true false false false alone = refl

  pub waits_after : (moved old : Bool) → moves_next system log e p ≡ moved → old ≡ waited system log p → waits_on old p moved here (what e) ≡ waited system more p
  waits_after true old moves is =
      sym (waited_is ∙ ap (λ b. so b (names p (what e)) (is_alone p here)) moves ∙ moved_parts (is_fullback here p) (was_moved system log p))
  waits_after false old moves is =
      ap (λ b. b && not (names p (what e)) && not (is_alone p here)) is
      ∙ sym (waited_is ∙ ap (λ b. so b (names p (what e)) (is_alone p here)) moves
      ∙ stayed_parts (is_fullback here p) (was_moved system log p) (any_since_moved system log p (names p)) (was_alone system log p) (names p (what e)) (is_alone p here))

-- ---- now

-- by the clusters one after the other
pub alone_is : (places : Places) (p : Pid) (q : Placed) → unended_at places p ≡ Some q → list_all (is_home_or_lost places q.home) (range_with_len 0 (length places.clusters)) ≡ is_alone p places
alone_is places p q there =
    sym (list_all-map (λ k. same_cluster k q.home || not (lives_in places k)) cluster_no (range_with_len 0 (length places.clusters)))
    ∙ ap (λ o. option_map_or (λ (q : Placed). list_all (λ k. same_cluster k q.home || not (lives_in places k)) (all_clusters places)) o false) (sym there)
