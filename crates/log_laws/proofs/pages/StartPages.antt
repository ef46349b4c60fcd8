-- The pages that come are those with which the process starts again.
use Rattle.std.proofs.Common.{option_map, ◌≡◌, ℕ, zero, suc, ◌+◌, ◌*◌, ◌/◌, ◌<◌, add-zero, refl, sym, ◌∙◌, ap, subst, arith, List, [], ◌∷◌, ◌++◌, append_assoc, append-nil, length, take, drop, drop-drop, Bool, true, false, cond, not, ◌&&◌, ◌||◌, Option, Some, None, is_some, true≢false, eq-eqb}
use Rattle.std.specs.List.{list_any}
use Rattle.std.specs.Option.{option_map_or}
use Rattle.std.specs.Ordering.{nat_cmp, is_eq}
use Rattle.std.specs.FinMap.{find as find_in}
use Rattle.std.proofs.lemmas.Bool.{and_parts}
use Rattle.std.proofs.lemmas.Bool.Decides.{nat_tests}
use Rattle.std.proofs.lemmas.Option.{same_Some}
use Rattle.t32_base.specs.declared.process.Pid.{Pid}
use Rattle.sys_text.specs.declared.system.System.{System}
use Rattle.sys_text.specs.Valid.{is_system}
use Rattle.rv_mem.specs.Memory.{page_at}
use Rattle.proc_state.specs.State.{ProcState}
use Rattle.bus_msg.specs.declared.entry.What.{What}
use Rattle.bus_msg.specs.declared.entry.What.TheVariants.{Mail, Birth, Exit, Page, Sync, PageIs, Rebackup}
use Rattle.bus_msg.specs.declared.entry.Entry.{Entry}
use Rattle.bus_msg.specs.Places.{unended_at}
use Rattle.bus_msg.specs.PlacedAfter.{what}
use Rattle.cert_sched.specs.Schedule.{process_after, placement}
use Rattle.cert_sched.specs.Told.{told}
use Rattle.cert_sched.specs.Parts.{first_of}
use Rattle.cert_sched.specs.Deeds.{start_of, is_cut, is_birth_of, is_first}
use Rattle.cert_sched.specs.Account.{account_after, all_pages, pages_from, page_in, is_exit_of}
use Rattle.cert_sched.specs.Moved.{any_since_moved, waiting_fetches, moved_with_state, is_fetch}
use Rattle.cert_sched.specs.Steps.{page_count}
use Rattle.cert_sched.specs.Kinds.{PageIsHolds}
use Rattle.cert_sched.specs.Rules.{holds_of, awaits_pages, has_its_pages}
use Rattle.cert_sched.specs.Legal.{MayStand, KeepsWaits}
use Rattle.cert_sched.specs.Legal.{IsLegalBy, IsLegalFrom, MayFollow, Stands}
use Rattle.cert_sched.specs.Simulation.{IsUnended}
use Rattle.cert_sched.proofs.LogLaws.{placement-snoc}
use Rattle.cert_sched.proofs.RecordLaws.{start_of-snoc}
use Rattle.cert_sched.proofs.Induction.{legal_induction}
use Rattle.cert_sched.proofs.BornLaws.{there_not_born}
use Rattle.cert_sched.proofs.StayingUnended.{stays_unended}
use Rattle.cert_sched.proofs.CutLaws.{cut_is_of}
use Rattle.cert_sched.proofs.OpenLaws.{unended_open}
use Rattle.cert_sched.proofs.PageLaws.{all_kept_pages}
use Rattle.log_laws.specs.pages.Next.{moves_next, ends_wait_next}
use Rattle.log_laws.specs.pages.Waited.{is_wait_for, is_waited}
use Rattle.log_laws.proofs.pages.BornSums.{itself}
use Rattle.log_laws.proofs.pages.CutThere.{birth_no_cut, cut_there}
use Rattle.log_laws.proofs.pages.MovedStated.{moved_stated}
use Rattle.log_laws.proofs.pages.OneEntry.{any_since-snoc, is_waited-snoc}
use Rattle.log_laws.proofs.pages.Keeping.{wait_goes_on, pages_kept}
use Rattle.log_laws.proofs.pages.Waiting.{first_waited, waited_lacks, came_waited, page_is_holds, fetch_is}
use Rattle.log_laws.proofs.pages.Leaving.{asker_is_there}
use Rattle.log_laws.proofs.pages.PagesStay.{paged_there, there_stays}
use Rattle.log_laws.proofs.pages.SizesStay.{start_sized}

-- ---- the pages of a memory

same_is : (m n : ℕ) → m ≡ n → is_eq (nat_cmp m n) ≡ true
same_is m n e = grind (arith, nat_tests)

other_is : (a i : ℕ) → is_eq (nat_cmp (a + suc i) a) ≡ false
other_is a i = grind (arith, nat_tests)

found_from : (a n i : ℕ) (bytes : List ℕ) → i < n → find_in nat_cmp (a + i) (pages_from a n bytes) ≡ Some (page_at bytes i)
found_from a zero i bytes within = absurd (omega (arith, within))
found_from a (suc n) zero bytes within = ap (λ b. cond b (Some (take 256 bytes)) (find_in nat_cmp (a + 0) (pages_from (a + 1) n (drop 256 bytes)))) (same_is (a + 0) a (add-zero a))
found_from a (suc n) (suc i) bytes within =
    let less : i < n = omega (arith, within) in
    let same : a + suc i ≡ (a + 1) + i = omega arith in
    let further : 256 + 256 * i ≡ 256 * suc i = omega arith in
    ap (λ b. cond b (Some (take 256 bytes)) (find_in nat_cmp (a + suc i) (pages_from (a + 1) n (drop 256 bytes)))) (other_is a i)
    ∙ ap (λ m. find_in nat_cmp m (pages_from (a + 1) n (drop 256 bytes))) same
    ∙ found_from (a + 1) n i (drop 256 bytes) less
    ∙ ap (λ bs. Some (take 256 bs)) (drop-drop (256 * i) 256 bytes ∙ ap (λ m. drop m bytes) further)

page_found : (bytes : List ℕ) (n i : ℕ) → length bytes ≡ 256 * n → i < n → page_in (all_pages bytes) i ≡ Some (page_at bytes i)
page_found bytes n i size within =
    let more : i ≡ 0 + i = omega arith in
    let pages : length bytes / 256 ≡ n = omega (arith, size) in
    ap (λ m. find_in nat_cmp m (all_pages bytes)) more ∙ found_from 0 (length bytes / 256) i bytes (subst (λ m. i < m) (sym pages) within)

-- ---- the account of the last cut

-- a process of the kernel has pages
there_of : (system : System) (log : List Entry) (p : Pid) (i : ℕ) → i < page_count system log p → (P : Type 0) → ((now : ProcState) → process_after system log p ≡ Some now → P) → P
there_of system log p i within P with_it = by_process (process_after system log p) refl within
  where
    by_process : (o : Option ProcState) → process_after system log p ≡ o → i < option_map_or (λ (s : ProcState). (s.small).pages) o 0 → P
    by_process None is within = absurd (omega (arith, within))
    by_process (Some now) is within = with_it now is

pub kept_pages : (system : System) (log : List Entry) (p : Pid) (start : ProcState) (i : ℕ) → is_system system ≡ true → IsLegalBy Stands system log → moved_with_state system log p ≡ true → IsUnended system log p → start_of system log p ≡ Some start → i < page_count system log p
    → page_in (account_after system log p).kept i ≡ Some (page_at start.memory i)
kept_pages system log p start i valid legal moved unended started within =
    there_of system log p i within (page_in (account_after system log p).kept i ≡ Some (page_at start.memory i)) (λ now there.
    ap (λ pages. page_in pages i) (all_kept_pages Stands itself system log valid legal p now there (unended_open Stands itself system log p valid legal unended now there) start started (moved_stated system log p legal moved))
    ∙ page_found start.memory (page_count system log p) i (start_sized system log p start now valid there started) within)

-- ---- who waits has not ended

pub waited_unended : (system : System) (log : List Entry) (p : Pid) (i : ℕ) → IsLegalBy Stands system log → is_waited system log p i ≡ true → IsUnended system log p
unfolding told
waited_unended system log p i legal =
    legal_induction Stands system (λ log. is_waited system log p i ≡ true → IsUnended system log p) at_start more log legal
  where
    at_start : is_waited system [] p i ≡ true → IsUnended system [] p
    at_start waited = absurd (true≢false (sym waited))

    more : (log : List Entry) (e : Entry) → (is_waited system log p i ≡ true → IsUnended system log p) → Stands system log e → is_waited system (log ++ e ∷ []) p i ≡ true → IsUnended system (log ++ e ∷ []) p
    more log e before stands waited =
        by_tests (is_waited system log p i) (ends_wait_next system log e p i) (is_fetch p i (what e)) refl refl refl (sym (is_waited-snoc system log e p i) ∙ waited)
      where
        after : is_exit_of p (what e) ≡ false → IsUnended system log p → IsUnended system (log ++ e ∷ []) p
        after no_exit there = ap (λ places. is_some (unended_at places p)) (placement-snoc system log e) ∙ stays_unended (what e) (placement system log) p no_exit there

        by_tests : (w x f : Bool) → is_waited system log p i ≡ w → ends_wait_next system log e p i ≡ x → is_fetch p i (what e) ≡ f → ((w && not x) || f) ≡ true → IsUnended system (log ++ e ∷ []) p
        by_tests w x true was ends asks h =
            let is = fetch_is (what e) p i asks in
            after (ap (is_exit_of p) is) (asker_is_there system log e p i stands is)
        by_tests true false false was ends asks h = after (wait_goes_on system log e p i ends).no_exit (before was)
        by_tests true true false was ends asks h = absurd (true≢false (sym h))
        by_tests false x false was ends asks h = absurd (true≢false (sym h))

-- ---- a page that comes

-- a wait is one for its page
itself_is : (p : Pid) (i : ℕ) → is_wait_for p i (p, i) ≡ true
itself_is p i = (λ k. eq-eqb p.0 p.0 refl k && eq-eqb i i refl k)

-- the fetch that waits longest may be answered with the page of the start
pub first_answer : (system : System) (log : List Entry) (p : Pid) (i : ℕ) (start : ProcState) → is_system system ≡ true → IsLegalBy Stands system log → first_of (waiting_fetches system log) ≡ Some (p, i) → start_of system log p ≡ Some start → PageIsHolds system log p i (page_at start.memory i)
first_answer system log p i start valid legal first started =
    let asked : option_map (is_wait_for p i) (first_of (waiting_fetches system log)) ≡ Some true = ap (option_map (is_wait_for p i)) first ∙ ap Some (itself_is p i) in
    let waited = first_waited p i (waiting_fetches system log) asked in
    let lacks = waited_lacks system log p i legal waited in
    record { asked = asked; page = kept_pages system log p start i valid legal lacks.moved (waited_unended system log p i legal waited) started lacks.within }

-- a page that comes next is that of the start
pub next_page : (system : System) (log : List Entry) (e : Entry) (p : Pid) (i : ℕ) (bytes : List ℕ) (start : ProcState) → is_system system ≡ true → IsLegalBy Stands system log → Stands system log e → what e ≡ PageIs p i bytes → start_of system log p ≡ Some start → bytes ≡ page_at start.memory i
next_page system log e p i bytes start valid legal stands is started =
    let waited = came_waited system log e p i bytes stands is in
    let lacks = waited_lacks system log p i legal waited in
    same_Some bytes (page_at start.memory i)
    (sym (page_is_holds system log e p i bytes stands is).page ∙ kept_pages system log p start i valid legal lacks.moved (waited_unended system log p i legal waited) started lacks.within)

-- ---- in a log

-- an entry that is neither its cut nor its birth starts a process neither again nor anew
pub start_stays : (system : System) (log : List Entry) (e : Entry) (p : Pid) → is_cut p (what e) ≡ false → is_birth_of p (what e) ≡ false → start_of system (log ++ e ∷ []) p ≡ start_of system log p
start_stays system log e p no_cut no_birth =
    start_of-snoc system log e p ∙ (λ i. cond (no_cut i || no_birth i) (process_after system (log ++ e ∷ []) p) (start_of system log p))

-- a process that was there is not born by an entry that stands
there_unborn : (system : System) (log : List Entry) (e : Entry) (p : Pid) → is_some (process_after system log p) ≡ true → Stands system log e → is_birth_of p (what e) ≡ false
there_unborn system log e p there stands = by_process (process_after system log p) refl there
  where
    by_process : (o : Option ProcState) → process_after system log p ≡ o → is_some o ≡ true → is_birth_of p (what e) ≡ false
    by_process None here some = absurd (true≢false (sym some))
    by_process (Some was) here some = there_not_born system log e p was stands.applies here

-- so several start one that is there again only by a cut
starts_stay : (system : System) (p : Pid) (log rest : List Entry) → is_some (process_after system log p) ≡ true → IsLegalFrom Stands system log rest → list_any (λ (f : Entry). is_cut p (what f)) rest ≡ false → start_of system (log ++ rest) p ≡ start_of system log p
starts_stay system p log [] there legal none = ap (λ l. start_of system l p) (append-nil log)
starts_stay system p log (e ∷ rest) there legal none =
    let parts = none_of_two (is_cut p (what e)) (list_any (λ (f : Entry). is_cut p (what f)) rest) none in
    ap (λ l. start_of system l p) (sym (append_assoc log (e ∷ []) rest))
    ∙ starts_stay system p (log ++ e ∷ []) rest (there_stays system log e p there (legal.0).applies) legal.1 parts.1
    ∙ start_stays system log e p parts.0 (there_unborn system log e p there legal.0)
  where
    none_of_two : (x y : Bool) → (x || y) ≡ false → (x ≡ false) × (y ≡ false)
    none_of_two true y h = absurd (true≢false h)
    none_of_two false y h = (refl, h)

-- what a log is legal by, its front is, and so is the next entry
front : (May : System → List Entry → Entry → Type 0) (system : System) (log more rest : List Entry) (e : Entry) → IsLegalFrom May system log (more ++ e ∷ rest) → IsLegalFrom May system log more × May system (log ++ more) e
front May system log [] rest e h = (tt, rw (append-nil log) h.0)
front May system log (f ∷ more) rest e h =
    let r = front May system (log ++ f ∷ []) more rest e h.1 in
    ((h.0, r.0), rw (← append_assoc log (f ∷ []) more) r.1)

-- what stands in a log after its front
rest_of : (system : System) (log more rest : List Entry) → IsLegalFrom Stands system log (more ++ rest) → IsLegalFrom Stands system (log ++ more) rest
rest_of system log [] rest h = rw (append-nil log) h
rest_of system log (f ∷ more) rest h = rw (← append_assoc log (f ∷ []) more) (rest_of system (log ++ f ∷ []) more rest h.1)

record Parted (system : System) (before after : List Entry) (e : Entry) : Type 0 where
  pub legal : IsLegalBy Stands system before
  pub stands : Stands system before e
  pub rest : IsLegalFrom Stands system (before ++ e ∷ []) after

parted : (system : System) (before after : List Entry) (e : Entry) → IsLegalBy Stands system (before ++ e ∷ after) → Parted system before after e
unfolding IsLegalBy
parted system before after e legal =
    let f = front Stands system [] before after e legal in
    record { legal = f.0; stands = f.1; rest = (rest_of system [] before (e ∷ after) legal).1 }

-- each page that came is that of the start, where the process was not cut since
pub page_in_log : (system : System) (before after : List Entry) (e : Entry) (p : Pid) (i : ℕ) (bytes : List ℕ) (start : ProcState) → is_system system ≡ true → IsLegalBy Stands system (before ++ e ∷ after) → what e ≡ PageIs p i bytes
    → list_any (λ (f : Entry). is_cut p (what f)) after ≡ false → start_of system (before ++ e ∷ after) p ≡ Some start → bytes ≡ page_at start.memory i
page_in_log system before after e p i bytes start valid legal is none started =
    let parts = parted system before after e legal in
    let lacks = waited_lacks system before p i parts.legal (came_waited system before e p i bytes parts.stands is) in
    let there = there_stays system before e p (paged_there system before p i lacks.within) (parts.stands).applies in
    next_page system before e p i bytes start valid parts.legal parts.stands is
    (sym (start_stays system before e p (ap (is_cut p) is) (ap (is_birth_of p) is))
    ∙ sym (starts_stay system p (before ++ e ∷ []) after there parts.rest none)
    ∙ ap (λ l. start_of system l p) (append_assoc before (e ∷ []) after) ∙ started)

-- ---- no cut while it waits

-- by this rule an entry stands, and keeps the waits for pages
abbrev pub IsWaitingRule : (System → List Entry → Entry → Type 0) → Type 0
IsWaitingRule May = (system : System) (log : List Entry) (e : Entry) → May system log e → Stands system log e × KeepsWaits system log e

pub stand_waits : IsWaitingRule MayStand
stand_waits system log e may = (may.stands, may.pages)

-- a cut waits for the pages of its process
cut_awaits : (p : Pid) (w : What) → is_cut p w ≡ true → awaits_pages w ≡ true
cut_awaits p (Mail at letter) cut = refl
cut_awaits p (Birth parent at child end) cut = refl
cut_awaits p (Exit q at end) cut = refl
cut_awaits p (Page q at index bytes) cut = refl
cut_awaits p (Sync q small read took) cut = refl
cut_awaits p (Rebackup to fresh recs) cut = (and_parts fresh (is_first p recs) cut).0
cut_awaits p _ cut = absurd (true≢false (sym cut))

-- who is cut has its pages
pub cut_has_pages : (system : System) (log : List Entry) (e : Entry) (p : Pid) → KeepsWaits system log e → is_cut p (what e) ≡ true → has_its_pages system log p ≡ true
cut_has_pages system log e p keeps cut = sym (λ i. holds_of (cut_awaits p (what e) cut i) (cut_is_of p (what e) cut i) (has_its_pages system log)) ∙ keeps

-- so who has not got its pages was not cut since a crash moved it; and who was cut is there
record Uncut (system : System) (log : List Entry) (p : Pid) : Type 0 where
  pub uncut : has_its_pages system log p ≡ false → any_since_moved system log p (is_cut p) ≡ false
  pub there : any_since_moved system log p (is_cut p) ≡ true → is_some (process_after system log p) ≡ true

module _ (system : System) (log : List Entry) (e : Entry) (p : Pid) (before : Uncut system log p) (stands : Stands system log e) (keeps : KeepsWaits system log e) where
  -- it was cut before, or is now
  seen_there : (m a c : Bool) → any_since_moved system log p (is_cut p) ≡ a → is_cut p (what e) ≡ c → cond m false (a || c) ≡ true → is_some (process_after system log p) ≡ true
  seen_there true a c was now seen = absurd (true≢false (sym seen))
  seen_there false true c was now seen = before.there was
  seen_there false false true was now seen = cut_there system log e p stands now
  seen_there false false false was now seen = absurd (true≢false (sym seen))

  there_then : any_since_moved system (log ++ e ∷ []) p (is_cut p) ≡ true → is_some (process_after system (log ++ e ∷ []) p) ≡ true
  there_then seen =
      there_stays system log e p
      (seen_there (moves_next system log e p) (any_since_moved system log p (is_cut p)) (is_cut p (what e)) refl refl (sym (any_since-snoc system log e p (is_cut p)) ∙ seen)) stands.applies

  lacked : is_birth_of p (what e) ≡ false → moves_next system log e p ≡ false → has_its_pages system (log ++ e ∷ []) p ≡ false → (b : Bool) → has_its_pages system log p ≡ b → b ≡ false
  lacked no_birth stays lacks true has = absurd (true≢false (sym (pages_kept system log e p stands no_birth stays has) ∙ lacks))
  lacked no_birth stays lacks false has = refl

  now_uncut : has_its_pages system log p ≡ false → (b : Bool) → is_cut p (what e) ≡ b → b ≡ false
  now_uncut lacking true cut = absurd (true≢false (sym (cut_has_pages system log e p keeps cut) ∙ lacking))
  now_uncut lacking false cut = refl

  -- a process that is born was not cut
  unborn : is_birth_of p (what e) ≡ true → (b : Bool) → any_since_moved system log p (is_cut p) ≡ b → b ≡ false
  unborn born true was = absurd (true≢false (sym born ∙ there_unborn system log e p (before.there was) stands))
  unborn born false was = refl

  by_birth : has_its_pages system (log ++ e ∷ []) p ≡ false → moves_next system log e p ≡ false → (b : Bool) → is_birth_of p (what e) ≡ b → (any_since_moved system log p (is_cut p) || is_cut p (what e)) ≡ false
  by_birth lacks stays true born = λ i. unborn born (any_since_moved system log p (is_cut p)) refl i || birth_no_cut p (what e) born i
  by_birth lacks stays false no_birth =
      let lacking : has_its_pages system log p ≡ false = lacked no_birth stays lacks (has_its_pages system log p) refl in
      λ i. before.uncut lacking i || now_uncut lacking (is_cut p (what e)) refl i

  by_move : has_its_pages system (log ++ e ∷ []) p ≡ false → (b : Bool) → moves_next system log e p ≡ b → cond b false (any_since_moved system log p (is_cut p) || is_cut p (what e)) ≡ false
  by_move lacks true moves = refl
  by_move lacks false stays = by_birth lacks stays (is_birth_of p (what e)) refl

pub waits_uncut : (May : System → List Entry → Entry → Type 0) → IsWaitingRule May → (system : System) (log : List Entry) (p : Pid) → IsLegalBy May system log → has_its_pages system log p ≡ false → any_since_moved system log p (is_cut p) ≡ false
unfolding told
waits_uncut May waiting system log p legal = (legal_induction May system (λ log. Uncut system log p) (record { uncut = λ lacks. refl; there = λ cut. absurd (true≢false (sym cut)) }) more log legal).uncut
  where
    more : (log : List Entry) (e : Entry) → Uncut system log p → May system log e → Uncut system (log ++ e ∷ []) p
    more log e before may =
        let w = waiting system log e may in
        record {
          uncut = λ lacks. any_since-snoc system log e p (is_cut p) ∙ by_move system log e p before w.0 w.1 lacks (moves_next system log e p) refl;
          there = there_then system log e p before w.0 w.1;
        }
