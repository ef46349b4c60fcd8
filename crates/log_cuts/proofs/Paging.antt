-- When a page may be sent next.
use Rattle.std.proofs.Common.{◌≡◌, ℕ, ◌-◌, ◌*◌, ◌/◌, ◌<◌, ◌≤◌, refl, sym, ◌∙◌, ap, subst, arith, List, length, true, false, not, ◌&&◌, Option, Some, None, is_some, true≢false}
use Rattle.std.specs.Prelude.{nat_le, nat_lt, option_map}
use Rattle.std.specs.Option.{IfSome}
use Rattle.std.proofs.lemmas.Option.{same_Some}
use Rattle.std.proofs.lemmas.Bool.{and_parts}
use Rattle.std.proofs.lemmas.Bool.Decides.{nat_tests}
use Rattle.t32_base.specs.declared.process.ClusterNo.{ClusterNo}
use Rattle.sys_text.specs.declared.system.System.{System}
use Rattle.sys_text.specs.Valid.{is_system}
use Rattle.rv_mem.specs.Memory.{page_at}
use Rattle.proc_state.specs.State.{ProcState}
use Rattle.bus_msg.specs.declared.entry.What.{What}
use Rattle.bus_msg.specs.declared.entry.What.TheVariants.{Page, Rebackup}
use Rattle.bus_msg.specs.declared.entry.By.TheVariants.{Cluster}
use Rattle.bus_msg.specs.declared.entry.Entry.{Entry}
use Rattle.bus_msg.specs.Places.{Places}
use Rattle.bus_msg.specs.PlacedAfter.{what}
use Rattle.cert_sched.specs.Schedule.{done_after, placement}
use Rattle.cert_sched.specs.Steps.{page_count, process_of, silent_upto}
use Rattle.cert_sched.specs.Rules.{awaits_pages, has_its_pages, holds_of, is_by_home, is_by_right, is_new_page}
use Rattle.cert_sched.specs.Kinds.{KindHolds, PageHolds}
use Rattle.cert_sched.specs.Legal.{MayStand}
use Rattle.entry_lines.specs.declared.told.ToldWhat.TheVariants.{Page as ToldPage}
use Rattle.entry_lines.specs.declared.told.Told.{Told}
use Rattle.entry_lines.specs.Told.{told_of, told_what}
use Rattle.log_audit.specs.Front.{FrontState}
use Rattle.log_audit.proofs.Losing.{applies, next_passes, next_placed}
use Rattle.log_processes.specs.declared.sender.Head.{Head}
use Rattle.log_processes.specs.declared.sender.Sender.{Sender}
use Rattle.log_processes.specs.Sending.{home_may}
use Rattle.log_processes.proofs.Sent.{home_there, may_send}
use Rattle.log_laws.proofs.pages.SizesStay.{process_sized}
use Rattle.checkpoint_laws.proofs.posts.SilentSizes.{silent_sizes}
use Rattle.log_cuts.specs.Ahead.{upto}
use Rattle.log_cuts.specs.Pages.{AnswersPage, KeepsPages, page_entry, page_may}
use Rattle.log_cuts.specs.SentPages.{was_sent}
use Rattle.log_cuts.proofs.Reaching.{count_then, done_then, silent_then, told_there}

page_below : (i n size : ℕ) → size ≡ 256 * n → nat_lt i (size / 256) ≡ true → i < n
page_below i n size is less =
    let few : size / 256 ≡ n = omega (arith, is) in
    below n few less
  where
    below : (n : ℕ) → size / 256 ≡ n → nat_lt i (size / 256) ≡ true → i < n
    below n few less = grind (arith, nat_tests)

is_below : (i n size : ℕ) → size ≡ 256 * n → i < n → nat_lt i (size / 256) ≡ true
is_below i n size is less = let few : n ≡ size / 256 = omega (arith, is) in by_few (size / 256) few
  where
    by_few : (m : ℕ) → n ≡ m → nat_lt i m ≡ true
    by_few m few = grind (arith, nat_tests)

no_less : (m n : ℕ) → nat_le m n ≡ true → m ≤ n
no_less m n is = grind (arith, nat_tests)

is_no_less : (m n : ℕ) → m ≤ n → nat_le m n ≡ true
is_no_less m n is = grind (arith, nat_tests)

module _ (front : FrontState) (head : Head) (i : ℕ) (kept : Sender) (s : ProcState) (sent : List (ℕ × List ℕ)) where
  abbrev pages : ℕ
  pages = length s.memory / 256

  -- ---- it may stand next

  pub page_follows : (home : ClusterNo) (t : ProcState) → home_may front head kept ≡ Some home → page_may s head.at i sent ≡ true → upto head.at s ≡ Some t
      → AnswersPage front head i kept s sent (Some (page_entry front head home i (page_at t.memory i)))
  page_follows home t found may led system log valid legal keeps =
      let m = may_send front head kept home found in
      let parts = and_parts (nat_lt i pages && nat_le (s.small).steps head.at) (not (was_sent sent i head.at)) may in
      let first = and_parts (nat_lt i pages) (nat_le (s.small).steps head.at) parts.0 in
      let w : What = Page head.pid head.at i (page_at t.memory i) in
      let e : Entry = page_entry front head home i (page_at t.memory i) in
      let before = keeps.before in
      let within : i < page_count system log head.pid =
      subst (λ n. i < n) (sym (count_then system log head.pid s keeps.there)) (page_below i (s.small).pages (length s.memory) (process_sized system log head.pid s valid keeps.there) first.0) in
      let later : done_after system log head.pid ≤ head.at = subst (λ n. n ≤ head.at) (sym (done_then system log head.pid s keeps.there)) (no_less (s.small).steps head.at first.1) in (
        λ j. record { place = head.place; by = sym (m.home_is).told j; what = ToldPage (head.pid).0 head.at i },
        record {
          stands = record {
            placed = next_placed front head.place m.next system log w before;
            by_right = ap (λ (q : Places). is_by_home q (Cluster home) (Some head.pid)) (sym before.places) ∙ (m.home_is).right;
            applies = applies system log e legal (λ k. refl);
            kind = record {
              within = within;
              not_before = later;
              page = ap (option_map (λ (s : ProcState). page_at s.memory i)) (silent_then system log head.pid s keeps.there head.at ∙ led);
            };
          };
          limits = refl;
          new_page = ap not (sym (keeps.pages i head.at)) ∙ parts.1;
          pages = sym keeps.whole ∙ m.whole;
        },
      )

  -- ---- where it stands next the tests pass

  record PageSaid (w : What) : Type 0 where
    pub bytes : List ℕ
    pub is : w ≡ Page head.pid head.at i bytes

  page_said : (w : What) → told_what w ≡ ToldPage (head.pid).0 head.at i → PageSaid w
  page_said (Page pid at index bytes) line =
      let p : pid.0 ≡ (head.pid).0 = cc in
      let n : at ≡ head.at = cc in
      let k : index ≡ i = cc in
      record { bytes = bytes; is = λ j. Page (record { 0 = p j }) (n j) (k j) bytes }
  page_said (Rebackup to true recs) line = cc
  page_said (Rebackup to false recs) line = cc
  page_said _ line = cc

  record Passes : Type 0 where
    pub home : is_some (home_may front head kept) ≡ true
    pub may : page_may s head.at i sent ≡ true
    pub to : ProcState
    pub led : upto head.at s ≡ Some to

  passes : (system : System) (log : List Entry) (e : Entry) → is_system system ≡ true → KeepsPages front head.pid s kept sent system log
      → told_of e ≡ record { place = head.place; by = head.by; what = ToldPage (head.pid).0 head.at i } → MayStand system log e → Passes
  passes system log e valid keeps line may =
      let said = page_said (what e) (ap (λ (t : Told). t.what) line) in
      let before = keeps.before in
      let stands = may.stands in
      let holds : PageHolds system log head.pid head.at i said.bytes = subst (KindHolds system log e) said.is stands.kind in
      let next = next_passes system log front e head.place before (ap (λ (t : Told). t.place) line) stands in
      let right : is_by_home front.places (e.post).by (Some head.pid) ≡ true =
      ap (λ (q : Places). is_by_home q (e.post).by (Some head.pid)) before.places ∙ sym (ap (is_by_right (placement system log) (e.post).by) said.is) ∙ stands.by_right in
      let whole : kept.whole ≡ true = keeps.whole ∙ subst (λ (w : What). holds_of (awaits_pages w) (process_of w) (has_its_pages system log) ≡ true) said.is may.pages in
      let new : not (was_sent sent i head.at) ≡ true = ap not (keeps.pages i head.at) ∙ subst (λ (w : What). is_new_page system log w ≡ true) said.is may.new_page in
      let within : nat_lt i pages ≡ true =
      is_below i (s.small).pages (length s.memory) (process_sized system log head.pid s valid keeps.there) (subst (λ n. i < n) (count_then system log head.pid s keeps.there) holds.within) in
      let later : nat_le (s.small).steps head.at ≡ true = is_no_less (s.small).steps head.at (subst (λ n. n ≤ head.at) (done_then system log head.pid s keeps.there) holds.not_before) in
      let there = told_there (λ (s : ProcState). page_at s.memory i) (silent_upto system log head.pid head.at) said.bytes holds.page in
      record {
        home = home_there front head kept (e.post).by next whole (ap (λ (t : Told). t.by) line) right;
        may = λ j. (within j && later j) && new j;
        to = there.to;
        led = sym (silent_then system log head.pid s keeps.there head.at) ∙ there.is;
      }

  refuse : (Passes → ⊥) → AnswersPage front head i kept s sent None
  refuse never system log e valid legal keeps line may = never (passes system log e valid keeps line may)

  pub page_unsent : home_may front head kept ≡ None → AnswersPage front head i kept s sent None
  page_unsent none = refuse (λ p. true≢false (sym p.home ∙ ap is_some none))

  pub page_refused : page_may s head.at i sent ≡ false → AnswersPage front head i kept s sent None
  page_refused refused = refuse (λ p. true≢false (sym p.may ∙ refused))

  pub page_unled : upto head.at s ≡ None → AnswersPage front head i kept s sent None
  page_unled none = refuse (λ p. let both : None ≡ Some p.to = sym none ∙ p.led in cc)

  -- ---- by the page of the copy

  pub page_made : (home : ClusterNo) (k : ℕ) (bytes : List ℕ) → home_may front head kept ≡ Some home → page_may s head.at i sent ≡ true → k ≡ i → option_map (λ (t : ProcState). page_at t.memory k) (upto head.at s) ≡ Some bytes
      → AnswersPage front head i kept s sent (Some (page_entry front head home k bytes))
  page_made home k bytes found may same is =
      let there = told_there (λ (t : ProcState). page_at t.memory k) (upto head.at s) bytes is in
      let page : page_at (there.to).memory k ≡ bytes = same_Some (page_at (there.to).memory k) bytes (sym (ap (option_map (λ (t : ProcState). page_at t.memory k)) there.is) ∙ is) in
      subst (λ (e : Entry). AnswersPage front head i kept s sent (Some e)) (λ j. page_entry front head home (sym same j) ((ap (page_at (there.to).memory) (sym same) ∙ page) j)) (page_follows home there.to found may there.is)

  pub page_unmade : (k : ℕ) → option_map (λ (t : ProcState). page_at t.memory k) (upto head.at s) ≡ None → AnswersPage front head i kept s sent None
  page_unmade k is = page_unled (by_led (upto head.at s) is)
    where
      by_led : (o : Option ProcState) → option_map (λ (t : ProcState). page_at t.memory k) o ≡ None → o ≡ None
      by_led None is = refl
      by_led (Some t) is = cc

-- where silent steps lead it the process has the page
pub led_within : (at i k : ℕ) (s : ProcState) (sent : List (ℕ × List ℕ)) (o : Option ProcState) → o ≡ upto at s → k ≡ i → page_may s at i sent ≡ true → IfSome o (λ (t : ProcState). 256 * k < length t.memory)
led_within at i k s sent None led same may = tt
led_within at i k s sent (Some t) led same may =
    let size = (silent_sizes (at - (s.small).steps) s t (sym led)).bytes in
    let first = (and_parts (nat_lt i (length s.memory / 256) && nat_le (s.small).steps at) (not (was_sent sent i at)) may).0 in
    let less = below (length s.memory / 256) (and_parts (nat_lt i (length s.memory / 256)) (nat_le (s.small).steps at) first).0 in
    omega (arith, size, same, less)
  where
    below : (n : ℕ) → nat_lt i n ≡ true → i < n
    below n is = grind (arith, nat_tests)
