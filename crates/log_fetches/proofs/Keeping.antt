-- What is kept is that of the log with one entry more.
use Rattle.std.proofs.Common.{◌≡◌, ℕ, ◌<◌, ◌≤◌, refl, sym, ◌∙◌, ap, subst, arith, List, Bool, true, false, cond, ◌&&◌, ◌||◌, eqb, eqb-true, Option, Some, None, slice_get, true≢false}
use Rattle.std.specs.Prelude.{nat_lt, option_map, unwrap_or}
use Rattle.std.proofs.lemmas.Bool.{and_parts}
use Rattle.std.proofs.lemmas.Bool.Decides.{nat_tests}
use Rattle.t32_base.specs.declared.process.Pid.{Pid}
use Rattle.t32_base.specs.Small.{SmallState}
use Rattle.sys_text.specs.declared.system.System.{System}
use Rattle.sys_text.specs.declared.system.Image.{Image}
use Rattle.sys_text.specs.declared.system.Root.{Root}
use Rattle.sys_text.specs.Valid.{is_system}
use Rattle.sys_text.proofs.Bounds.{image_bounds}
use Rattle.proc_state.specs.State.{ProcState}
use Rattle.plain_kernel.specs.Kernel.{boot, no_image, process_at, root_process}
use Rattle.plain_kernel.proofs.AtBoot.{boot-each}
use Rattle.bus_msg.specs.declared.entry.What.{What}
use Rattle.bus_msg.specs.declared.entry.What.TheVariants.{Fetch}
use Rattle.bus_msg.specs.declared.entry.Entry.{Entry}
use Rattle.bus_msg.specs.Places.{Places, same_pid}
use Rattle.bus_msg.specs.PlacedAfter.{what}
use Rattle.cert_sched.specs.Deeds.{is_cut}
use Rattle.cert_sched.specs.Kinds.{FetchHolds, KindHolds}
use Rattle.cert_sched.specs.Legal.{Stands}
use Rattle.cert_sched.specs.Moved.{any_since_moved, is_fetch, is_page_is}
use Rattle.cert_sched.specs.Record.{has_state}
use Rattle.cert_sched.specs.Steps.{page_count}
use Rattle.cert_sched.proofs.RecordLaws.{has_state-snoc}
use Rattle.log_laws.specs.pages.Next.{moves_next}
use Rattle.log_laws.proofs.pages.OneEntry.{any_since-snoc, moved_with_state-snoc}
use Rattle.log_laws.proofs.pages.PagesStay.{EachPages, page_count-most}
use Rattle.log_fetches.specs.declared.kept.Kept.{Kept}
use Rattle.log_fetches.specs.Pages.{has_page}
use Rattle.log_fetches.specs.Kept.{Notes, kept_in, moves_at}
use Rattle.log_fetches.specs.Fetches.{KeepsFetches}

-- ---- a page that is asked for has a number below 256

abbrev HasFew : ProcState → Type 0
HasFew s = (s.small).pages ≤ 256

root_few : (system : System) → is_system system ≡ true → (p : Pid) (r : Root) → HasFew (root_process system p r)
root_few system valid p r = by_image (slice_get system.images r.image) refl
  where
    by_image : (o : Option Image) → slice_get system.images r.image ≡ o → (unwrap_or o no_image).pages ≤ 256
    by_image None is = omega arith
    by_image (Some image) is = (image_bounds system r.image image valid is).pages

few_at_boot : (system : System) → is_system system ≡ true → (p : Pid) (s : ProcState) → process_at (boot system) p ≡ Some s → HasFew s
few_at_boot system valid = boot-each (λ p s. HasFew s) system (root_few system valid) (λ p s peer far has. has)

each_few : (system : System) → is_system system ≡ true → EachPages (λ n. n ≤ 256) (boot system)
each_few system valid p n is = by_process (process_at (boot system) p) refl is
  where
    by_process : (o : Option ProcState) → process_at (boot system) p ≡ o → option_map (λ (s : SmallState). s.pages) (option_map (λ (s : ProcState). s.small) o) ≡ Some n → n ≤ 256
    by_process None there e = cc
    by_process (Some s) there e =
        let few = few_at_boot system valid p s there in
        let same : (s.small).pages ≡ n = cc in
        omega (arith, few, same)

-- as each page of a process has
pub count_few : (system : System) (log : List Entry) (p : Pid) → is_system system ≡ true → page_count system log p ≤ 256
count_few system log p valid = page_count-most system log p 256 (each_few system valid)

is_below : (i n : ℕ) → i < n → nat_lt i n ≡ true
is_below i n is = grind (arith, nat_tests)

fetch_low : (system : System) (log : List Entry) (e : Entry) (p : Pid) (i : ℕ) → is_system system ≡ true → Stands system log e → is_fetch p i (what e) ≡ true → nat_lt i 256 ≡ true
fetch_low system log e p i valid stands = by_what (what e) refl
  where
    by_what : (w : What) → what e ≡ w → is_fetch p i w ≡ true → nat_lt i 256 ≡ true
    by_what (Fetch pid index) said is =
        let both = and_parts (same_pid pid p) (eqb index i) is in
        let holds : FetchHolds system log pid index = subst (KindHolds system log e) said stands.kind in
        let page : index ≡ i = eqb-true index i both.1 in
        let few = count_few system log pid valid in
        let within = holds.within in
        is_below i 256 (omega (arith, page, few, within))
    by_what _ said is = absurd (true≢false (sym is))

-- ---- one entry more

turned : (a b : Bool) → (a || b) ≡ (b || a)
turned true true = refl
turned true false = refl
turned false true = refl
turned false false = refl

-- the tests of both sides agree where the new page is a low one
seen : (m new low was any : Bool) → (new ≡ true → low ≡ true) → was ≡ any → cond m false ((new && low) || was) ≡ cond m false (any || new)
seen true new low was any given same = refl
seen false true low was any given same = ap (λ b. b || was) (given refl) ∙ sym (turned any true)
seen false false low was any given same = same ∙ turned false any

pub fetches_after : (places : Places) (old new : List (ℕ × Kept)) (e : Entry) → Notes places (what e) old new → KeepsFetches places old new e
fetches_after places old new e notes system log valid here stands is p =
    let k = is p in
    let n = notes p in
    let moves : moves_at places (what e) p ≡ moves_next system log e p = ap (λ q. moves_at q (what e) p) (sym here) in
    record {
      stated = n.stated ∙ ap (λ b. is_cut p (what e) || b) k.stated ∙ turned (is_cut p (what e)) (has_state system log p) ∙ sym (has_state-snoc system log e p);
      moved = n.moved ∙ (λ j. cond (moves j) (k.stated j) (k.moved j)) ∙ sym (moved_with_state-snoc system log e p);
      asked = λ i.
          n.asked i ∙ ap (λ b. cond b false ((is_fetch p i (what e) && nat_lt i 256) || has_page (kept_in old p).asked i)) moves
          ∙ seen (moves_next system log e p) (is_fetch p i (what e)) (nat_lt i 256) (has_page (kept_in old p).asked i) (any_since_moved system log p (is_fetch p i))
          (fetch_low system log e p i valid stands) (k.asked i)
          ∙ sym (any_since-snoc system log e p (is_fetch p i));
      come = λ i low.
          n.come i ∙ ap (λ b. cond b false ((is_page_is p i (what e) && nat_lt i 256) || has_page (kept_in old p).come i)) moves
          ∙ seen (moves_next system log e p) (is_page_is p i (what e)) (nat_lt i 256) (has_page (kept_in old p).come i) (any_since_moved system log p (is_page_is p i))
          (λ _. is_below i 256 low) (k.come i low)
          ∙ sym (any_since-snoc system log e p (is_page_is p i));
    }
