-- Each entry that a cluster sends leaves less to send; the end and a stop leave no more.
use Rattle.std.proofs.Common.{◌≡◌, ℕ, ◌+◌, ◌*◌, ◌<◌, ◌≤◌, refl, sym, ◌∙◌, ap, subst, arith, List, [], ◌∷◌, ◌++◌, true, false, Option, None, true≢false}
use Rattle.std.specs.Prelude.{sum_by}
use Rattle.t32_base.specs.declared.process.Pid.{Pid}
use Rattle.t32_base.specs.declared.process.End.{End}
use Rattle.t32_base.specs.declared.letter.Letter.{Letter}
use Rattle.t32_base.specs.Small.{SmallState}
use Rattle.sys_text.specs.declared.system.System.{System}
use Rattle.sys_text.specs.Valid.{is_system}
use Rattle.sys_calls.specs.declared.steps.Emission.TheVariants.{Mail as Sent, Exit as Ended}
use Rattle.bus_msg.specs.declared.entry.What.{What}
use Rattle.bus_msg.specs.declared.entry.What.TheVariants.{Mail, Birth, Exit, Page, Sync, Fetch, PageIs, Done, Stop}
use Rattle.bus_msg.specs.declared.entry.Entry.{Entry}
use Rattle.bus_msg.specs.declared.placed.Placed.{Placed}
use Rattle.bus_msg.specs.Places.{Places, unended_in}
use Rattle.bus_msg.specs.PlacedAfter.{what, placed_after}
use Rattle.cert_sched.specs.Schedule.{placement}
use Rattle.cert_sched.specs.Told.{cluster_lost}
use Rattle.cert_sched.specs.Deeds.{is_cut, is_birth_of}
use Rattle.cert_sched.specs.Rules.{is_new_page, tells_or_closes}
use Rattle.cert_sched.specs.Kinds.{KindHolds}
use Rattle.cert_sched.specs.Legal.{IsLegalBy, Stands}
use Rattle.cert_sched.proofs.BirthKind.{is_birth}
use Rattle.cert_sched.proofs.LogLaws.{placement-snoc}
use Rattle.cert_sched.proofs.StepLaws.{is_sent}
use Rattle.log_laws.specs.pages.Left.{left_of_pages}
use Rattle.log_laws.proofs.pages.BornLeft.{left_birth}
use Rattle.log_laws.proofs.pages.OneEntry.{after_other}
use Rattle.log_laws.proofs.pages.Leaving.{exit_sum, left_fetch, left_most, left_page_is, left_still}
use Rattle.cert_sched.specs.Moved.{waiting_fetches}
use Rattle.checkpoint_laws.specs.remaining.Load.{log_births, log_load}
use Rattle.checkpoint_laws.specs.remaining.Left.{is_from_cluster, left_of_process, left_of_syncs, left_to_send}
use Rattle.checkpoint_laws.proofs.remaining.StepsLeft.{sent_leaves}
use Rattle.checkpoint_laws.proofs.remaining.Born.{birth_load, birth_syncs}
use Rattle.checkpoint_laws.proofs.remaining.OneEntry.{all_most, load_most}
use Rattle.checkpoint_laws.proofs.remaining.Changed.{page_less}
use Rattle.checkpoint_laws.proofs.remaining.Synced.{sync_less, sync_pages, sync_places}

-- ---- the parts: steps, pages of moved processes, and synchronisations with their pages

fewer_steps : (l m p q s t : ℕ) → m + 1 ≤ l → q ≤ p → t + 2 * m ≤ s + 2 * l → 3 * m + q + t < 3 * l + p + s
fewer_steps l m p q s t steps pages syncs = omega (arith, steps, pages, syncs)

fewer_pages : (l m p q s t : ℕ) → m ≤ l → q < p → t + 2 * m ≤ s + 2 * l → 3 * m + q + t < 3 * l + p + s
fewer_pages l m p q s t steps pages syncs = omega (arith, steps, pages, syncs)

fewer_syncs : (l m p q s t : ℕ) → m ≤ l → q ≤ p → t + 2 * m + 1 ≤ s + 2 * l → 3 * m + q + t < 3 * l + p + s
fewer_syncs l m p q s t steps pages syncs = omega (arith, steps, pages, syncs)

no_more : (l m p q s t : ℕ) → m ≤ l → q ≤ p → t + 2 * m ≤ s + 2 * l → 3 * m + q + t ≤ 3 * l + p + s
no_more l m p q s t steps pages syncs = omega (arith, steps, pages, syncs)

module _ (system : System) (log : List Entry) (e : Entry) (valid : is_system system ≡ true) (legal : IsLegalBy Stands system log) (stands : Stands system log e) where
  -- what is left after the entry of the processes that had not ended before it, and of births
  of_those : ℕ
  of_those = sum_by (λ (q : Placed). left_of_process system (log ++ e ∷ []) q.pid) (unended_in (placement system log)) + log_births system (log ++ e ∷ [])

  Falls : Type 0
  Falls = left_to_send system (log ++ e ∷ []) < left_to_send system log

  by_steps : log_load system (log ++ e ∷ []) + 1 ≤ log_load system log → left_of_pages system (log ++ e ∷ []) ≤ left_of_pages system log → left_of_syncs system (log ++ e ∷ []) + 2 * log_load system (log ++ e ∷ []) ≤ left_of_syncs system log + 2 * log_load system log → Falls
  unfolding Falls
  by_steps steps pages syncs = fewer_steps (log_load system log) (log_load system (log ++ e ∷ [])) (left_of_pages system log) (left_of_pages system (log ++ e ∷ [])) (left_of_syncs system log) (left_of_syncs system (log ++ e ∷ [])) steps pages syncs

  by_pages : left_of_pages system (log ++ e ∷ []) < left_of_pages system log → left_of_syncs system (log ++ e ∷ []) + 2 * log_load system (log ++ e ∷ []) ≤ left_of_syncs system log + 2 * log_load system log → Falls
  unfolding Falls
  by_pages pages syncs = fewer_pages (log_load system log) (log_load system (log ++ e ∷ [])) (left_of_pages system log) (left_of_pages system (log ++ e ∷ [])) (left_of_syncs system log) (left_of_syncs system (log ++ e ∷ [])) (load_most system log e stands) pages syncs

  by_syncs : left_of_pages system (log ++ e ∷ []) ≤ left_of_pages system log → left_of_syncs system (log ++ e ∷ []) + 2 * log_load system (log ++ e ∷ []) + 1 ≤ left_of_syncs system log + 2 * log_load system log → Falls
  unfolding Falls
  by_syncs pages syncs = fewer_syncs (log_load system log) (log_load system (log ++ e ∷ [])) (left_of_pages system log) (left_of_pages system (log ++ e ∷ [])) (left_of_syncs system log) (left_of_syncs system (log ++ e ∷ [])) (load_most system log e stands) pages syncs

  -- ---- the processes that have not ended

  -- where the entry places none anew
  same_places : (w : What) → what e ≡ w → placed_after (placement system log) w ≡ placement system log → left_of_syncs system (log ++ e ∷ []) ≡ of_those
  unfolding of_those
  same_places w is same =
      ap (λ (places : Places). sum_by (λ (q : Placed). left_of_process system (log ++ e ∷ []) q.pid) (unended_in places) + log_births system (log ++ e ∷ [])) (placement-snoc system log e ∙ ap (placed_after (placement system log)) is ∙ same)

  exit_places : (p : Pid) (at : ℕ) (end : End) → what e ≡ Exit p at end → left_of_syncs system (log ++ e ∷ []) ≤ of_those
  unfolding of_those
  exit_places p at end is =
      let fewer = exit_sum (left_of_process system (log ++ e ∷ [])) p (placement system log).placed in
      subst (λ (places : Places). sum_by (λ (q : Placed). left_of_process system (log ++ e ∷ []) q.pid) (unended_in places) + log_births system (log ++ e ∷ []) ≤ of_those) (sym (placement-snoc system log e ∙ ap (placed_after (placement system log)) is))
      (omega (arith, fewer))

  -- an entry that starts no process again, bears none and moves none
  syncs_most : left_of_syncs system (log ++ e ∷ []) ≤ of_those → is_birth (what e) ≡ false → cluster_lost (what e) ≡ None → ((r : Pid) → is_cut r (what e) ≡ false) → ((r : Pid) → is_birth_of r (what e) ≡ false)
      → left_of_syncs system (log ++ e ∷ []) + 2 * log_load system (log ++ e ∷ []) ≤ left_of_syncs system log + 2 * log_load system log
  unfolding of_those
  syncs_most most no_fork no_loss no_cut no_birth = let all = all_most system log e stands no_loss valid legal no_fork no_cut no_birth in omega (arith, most, all)

  still_most : (w : What) → what e ≡ w → placed_after (placement system log) w ≡ placement system log → is_birth w ≡ false → cluster_lost w ≡ None → ((r : Pid) → is_cut r w ≡ false) → ((r : Pid) → is_birth_of r w ≡ false)
      → left_of_syncs system (log ++ e ∷ []) + 2 * log_load system (log ++ e ∷ []) ≤ left_of_syncs system log + 2 * log_load system log
  still_most w is same no_fork no_loss no_cut no_birth =
      let places = same_places w is same in
      syncs_most (omega (arith, places)) (ap is_birth is ∙ no_fork) (ap cluster_lost is ∙ no_loss) (λ r. ap (is_cut r) is ∙ no_cut r) (λ r. ap (is_birth_of r) is ∙ no_birth r)

  exit_most : (p : Pid) (at : ℕ) (end : End) → what e ≡ Exit p at end → left_of_syncs system (log ++ e ∷ []) + 2 * log_load system (log ++ e ∷ []) ≤ left_of_syncs system log + 2 * log_load system log
  exit_most p at end is = syncs_most (exit_places p at end is) (ap is_birth is) (ap cluster_lost is) (λ r. ap (is_cut r) is) (λ r. ap (is_birth_of r) is)

  -- ---- by the kind of the entry

  letter_falls : (at : ℕ) (letter : Letter) → what e ≡ Mail at letter → Falls
  letter_falls at letter is =
      let kind : KindHolds system log e (Mail at letter) = subst (KindHolds system log e) is stands.kind in
      let s = is_sent system log letter.from at (Sent letter) kind in
      by_steps (sent_leaves system log e letter.from at (Sent letter) s.after s.is (refl, is)) (left_most system log e stands (ap tells_or_closes is)) (still_most (Mail at letter) is refl refl refl (λ r. refl) (λ r. refl))

  exit_falls : (p : Pid) (at : ℕ) (end : End) → what e ≡ Exit p at end → Falls
  exit_falls p at end is =
      let kind : KindHolds system log e (Exit p at end) = subst (KindHolds system log e) is stands.kind in
      let s = is_sent system log p at (Ended end) kind.0 in
      by_steps (sent_leaves system log e p at (Ended end) s.after s.is is) (left_most system log e stands (ap tells_or_closes is)) (exit_most p at end is)

  page_falls : (p : Pid) (at i : ℕ) (bytes : List ℕ) → what e ≡ Page p at i bytes → is_new_page system log (what e) ≡ true → Falls
  unfolding of_those
  page_falls p at i bytes is new =
      let places = same_places (Page p at i bytes) is refl in
      let less = page_less system log e stands p at i bytes is valid legal new in
      by_syncs (left_still system log e stands (Page p at i bytes) is refl (λ r. refl) refl (after_other (Page p at i bytes) refl (placement system log) (waiting_fetches system log))) (omega (arith, places, less))

  sync_falls : (p : Pid) (small : SmallState) (read : List ℕ) (took : Option ℕ) → what e ≡ Sync p small read took → Falls
  sync_falls p small read took is =
      let places = sync_places system log e stands p small read took is (left_of_process system (log ++ e ∷ [])) in
      let less = sync_less system log e stands p small read took is valid legal in
      by_syncs (sync_pages system log e stands p small read took is) (omega (arith, places, less))

  birth_falls : (parent : Pid) (at : ℕ) (child : Pid) (end : ℕ) → what e ≡ Birth parent at child end → Falls
  birth_falls parent at child end is =
      let syncs = birth_syncs system log e parent at child end valid legal stands is in
      by_steps (birth_load system log e parent at child end valid legal stands is) (left_birth system log e parent at child end valid legal stands is) (omega (arith, syncs))

  falls_by : (w : What) → what e ≡ w → is_new_page system log (what e) ≡ true → is_from_cluster w ≡ true → Falls
  falls_by (Mail at letter) is new from = letter_falls at letter is
  falls_by (Birth parent at child end) is new from = birth_falls parent at child end is
  falls_by (Exit p at end) is new from = exit_falls p at end is
  falls_by (Page p at index bytes) is new from = page_falls p at index bytes is new
  falls_by (Sync p small read took) is new from = sync_falls p small read took is
  falls_by (Fetch p index) is new from = by_pages (left_fetch system log e p index stands is) (still_most (Fetch p index) is refl refl refl (λ r. refl) (λ r. refl))
  falls_by (PageIs p index bytes) is new from = by_pages (left_page_is system log e p index bytes stands is) (still_most (PageIs p index bytes) is refl refl refl (λ r. refl) (λ r. refl))
  falls_by _ is new from = absurd (true≢false (sym from))

  syncs_by : (w : What) → what e ≡ w → tells_or_closes w ≡ true → left_of_syncs system (log ++ e ∷ []) + 2 * log_load system (log ++ e ∷ []) ≤ left_of_syncs system log + 2 * log_load system log
  syncs_by (Mail at letter) is tells = still_most (Mail at letter) is refl refl refl (λ r. refl) (λ r. refl)
  syncs_by (Exit p at end) is tells = exit_most p at end is
  syncs_by (Done rests) is tells = still_most (Done rests) is refl refl refl (λ r. refl) (λ r. refl)
  syncs_by Stop is tells = still_most Stop is refl refl refl (λ r. refl) (λ r. refl)
  syncs_by _ is tells = absurd (true≢false (sym tells))

pub to_send_falls : (system : System) (log : List Entry) (e : Entry) → is_system system ≡ true → IsLegalBy Stands system log → Stands system log e → is_new_page system log (what e) ≡ true → is_from_cluster (what e) ≡ true → left_to_send system (log ++ e ∷ []) < left_to_send system log
unfolding Falls
to_send_falls system log e valid legal stands new from = falls_by system log e valid legal stands (what e) refl new from

pub to_send_closes : (system : System) (log : List Entry) (e : Entry) → is_system system ≡ true → IsLegalBy Stands system log → Stands system log e → tells_or_closes (what e) ≡ true → left_to_send system (log ++ e ∷ []) ≤ left_to_send system log
to_send_closes system log e valid legal stands tells =
    no_more (log_load system log) (log_load system (log ++ e ∷ [])) (left_of_pages system log) (left_of_pages system (log ++ e ∷ [])) (left_of_syncs system log) (left_of_syncs system (log ++ e ∷ []))
    (load_most system log e stands) (left_most system log e stands tells) (syncs_by system log e valid legal stands (what e) refl tells)
