-- What may follow in a log may follow in each log that is alike.
use Rattle.std.proofs.Common.{◌≡◌, refl, sym, ◌∙◌, ap, false, ◌&&◌, ◌||◌, List, is_some, Option}
use Rattle.std.specs.Prelude.{nat_le, not}
use Rattle.std.specs.List.{list_any, list_all, range_with_len}
use Rattle.std.specs.Option.{option_map_or}
use Rattle.t32_base.specs.declared.process.Pid.{Pid}
use Rattle.sys_text.specs.declared.system.System.{System}
use Rattle.proc_state.specs.State.{ProcState}
use Rattle.plain_kernel.specs.Kernel.{Kernel}
use Rattle.bus_msg.specs.declared.entry.What.{What}
use Rattle.bus_msg.specs.declared.entry.What.TheVariants.{Page, Done}
use Rattle.bus_msg.specs.declared.entry.Entry.{Entry}
use Rattle.bus_msg.specs.Places.{Places}
use Rattle.bus_msg.specs.PlacedAfter.{what}
use Rattle.bus_msg.specs.Route.{route}
use Rattle.cert_sched.specs.Legal.{MayFollow, Stands}
use Rattle.cert_sched.specs.Moved.{is_page_at, is_page_is, names}
use Rattle.cert_sched.specs.Rules.{IsPlaced, awaits_backup, awaits_pages, has_awaited_backup, has_its_pages, holds_of, is_alone, is_by_right, is_limited, is_new_page, is_within_limits, keeps_backups, owes_no_backup}
use Rattle.cert_sched.specs.Steps.{process_of}
use Rattle.read_orders.specs.Alike.{AreAlike}
use Rattle.read_orders.proofs.Blind.{blind}
use Rattle.read_orders.proofs.Same.{same_after, same_length, same_moved_stated, same_over, same_pages, same_placement, same_places_since, same_reads, same_since, same_steps}
use Rattle.read_orders.proofs.EachKind.{kind_alike, same_fullback, same_next}

module _ (system : System) (log other : List Entry) (alike : AreAlike log other) where
  placed : (e : Entry) → IsPlaced system log e → IsPlaced system other e
  placed e h =
      (h.0 ∙ same_length system log other alike, h.1 ∙ ap (λ (places : Places). route places (what e)) (same_placement system log other alike), sym (same_over system log other alike) ∙ h.2)

  stands : (e : Entry) → Stands system log e → Stands system other e
  stands e h = record {
    placed = placed e h.placed;
    by_right = sym (ap (λ (places : Places). is_by_right places (e.post).by (what e)) (same_placement system log other alike)) ∙ h.by_right;
    applies = sym (ap (λ (o : Option Kernel). is_some o) (same_next system log other alike e)) ∙ h.applies;
    kind = kind_alike system log other alike e (what e) h.kind;
  }

  same_within : (w : What) (p : Pid) → is_within_limits system log w p ≡ is_within_limits system other w p
  same_within w p = λ i.
      option_map_or (λ (s : ProcState). nat_le (same_steps system log other alike p s i) system.syncsteps && nat_le (same_reads system log other alike p s i) system.syncreads)
      (same_after system log other alike w i) false

  same_awaited : (p : Pid) → has_awaited_backup system log p ≡ has_awaited_backup system other p
  same_awaited p = λ i.
      not (same_fullback system log other alike p i) || same_since system log other alike p (names p) (λ w. blind (names p) (λ q small read took. refl) w) i
      || list_any (is_alone p) (same_places_since system log other alike p i)

  same_backups : (w : What) → keeps_backups system log w ≡ keeps_backups system other w
  same_backups (Done rests) = ap owes_no_backup (same_placement system log other alike)
  same_backups w = λ i. holds_of (awaits_backup w) (process_of w) (λ p. same_awaited p i)

  same_new_page : (w : What) → is_new_page system log w ≡ is_new_page system other w
  same_new_page (Page pid at index bytes) = ap not (same_since system log other alike pid (is_page_at pid index at) (λ w. blind (is_page_at pid index at) (λ q small read took. refl) w))
  same_new_page _ = refl

  same_got : (p : Pid) → has_its_pages system log p ≡ has_its_pages system other p
  same_got p = λ i.
      not (same_moved_stated system log other alike p i)
      || list_all (λ n. same_since system log other alike p (is_page_is p n) (λ w. blind (is_page_is p n) (λ q small read took. refl) w) i) (range_with_len 0 (same_pages system log other alike p i))

  pub goes_on : (e : Entry) → MayFollow system log e → MayFollow system other e
  goes_on e h = record {
    stands = stands e h.stands;
    limits = sym (λ i. holds_of (is_limited (what e)) (process_of (what e)) (λ p. same_within (what e) p i)) ∙ h.limits;
    backup = sym (same_backups (what e)) ∙ h.backup;
    new_page = sym (same_new_page (what e)) ∙ h.new_page;
    pages = sym (λ i. holds_of (awaits_pages (what e)) (process_of (what e)) (λ p. same_got p i)) ∙ h.pages;
  }
