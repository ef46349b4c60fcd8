-- When a page may be asked for next.
use Rattle.std.proofs.Common.{◌≡◌, ℕ, ◌<◌, refl, sym, ◌∙◌, ap, subst, arith, List, Bool, true, false, cond, not, ◌&&◌, Some, None, is_some, true≢false}
use Rattle.std.specs.Prelude.{nat_lt}
use Rattle.std.proofs.lemmas.Bool.{and_parts}
use Rattle.std.proofs.lemmas.Bool.Decides.{nat_tests}
use Rattle.t32_base.specs.declared.process.Pid.{Pid}
use Rattle.t32_base.specs.declared.process.ClusterNo.{ClusterNo}
use Rattle.sys_text.specs.declared.system.System.{System}
use Rattle.bus_msg.specs.declared.entry.What.{What}
use Rattle.bus_msg.specs.declared.entry.What.TheVariants.{Fetch, Rebackup}
use Rattle.bus_msg.specs.declared.entry.By.{By}
use Rattle.bus_msg.specs.declared.entry.By.TheVariants.{Cluster, Bus}
use Rattle.bus_msg.specs.declared.entry.Entry.{Entry}
use Rattle.bus_msg.specs.Places.{Places, lives_in}
use Rattle.bus_msg.specs.PlacedAfter.{what}
use Rattle.cert_sched.specs.Schedule.{placement}
use Rattle.cert_sched.specs.Rules.{home_at, is_by, is_by_home, is_by_right}
use Rattle.cert_sched.specs.Kinds.{FetchHolds, KindHolds}
use Rattle.cert_sched.specs.Legal.{Stands}
use Rattle.entry_lines.specs.declared.told.ToldBy.{ToldBy}
use Rattle.entry_lines.specs.declared.told.ToldBy.TheVariants.{Cluster as ByCluster, Bus as ByBus}
use Rattle.entry_lines.specs.declared.told.ToldWhat.TheVariants.{Fetch as ToldFetch}
use Rattle.entry_lines.specs.declared.told.Told.{Told}
use Rattle.entry_lines.specs.Told.{told_of, told_by, told_what}
use Rattle.line_laws.specs.Meant.{cluster_no}
use Rattle.log_audit.specs.declared.fetches.Asked.{Asked}
use Rattle.log_audit.specs.Front.{FrontState, is_next}
use Rattle.log_audit.specs.Fetches.{AnswersFetch, KeepsAsked, ask_may, fetch_entry, home_told}
use Rattle.log_audit.proofs.Losing.{applies, next_passes, next_placed}

-- ---- who asks

record ToldHome (places : Places) (by : ToldBy) (p : Pid) (home : ClusterNo) : Type 0 where
  pub told : by ≡ ByCluster home.0
  pub right : is_by_home places (Cluster home) (Some p) ≡ true

if_some : (b : Bool) (k home : ClusterNo) → cond b (Some k) None ≡ Some home → (b ≡ true) × (k ≡ home)
if_some true k home is = let same : k ≡ home = cc in (refl, same)
if_some false k home is = cc

home_is : (places : Places) (by : ToldBy) (p : Pid) (home : ClusterNo) → home_told places by p ≡ Some home → ToldHome places by p home
home_is places (ByCluster k) p home is =
    let both = if_some (lives_in places (cluster_no k) && is_by (Cluster (cluster_no k)) (home_at places p)) (cluster_no k) home is in
    record {
      told = ap (λ (h : ClusterNo). ByCluster h.0) both.1;
      right = ap (λ (h : ClusterNo). lives_in places h && is_by (Cluster h) (home_at places p)) (sym both.1) ∙ both.0;
    }
home_is places ByBus p home is = cc

by_home_told : (places : Places) (by : By) (p : Pid) → is_by_home places by (Some p) ≡ true → is_some (home_told places (told_by by) p) ≡ true
by_home_told places (Cluster k) p right = ap (λ b. is_some (cond b (Some k) None)) right
by_home_told places Bus p right = absurd (true≢false (sym right))

-- ---- it may stand next

below : (i n : ℕ) → nat_lt i n ≡ true → i < n
below i n is = grind (arith, nat_tests)

is_below : (i n : ℕ) → i < n → nat_lt i n ≡ true
is_below i n is = grind (arith, nat_tests)

not_true : (b : Bool) → not b ≡ true → b ≡ false
not_true true is = absurd (true≢false (sym is))
not_true false is = refl

record MayAsk (f : FrontState) (place i : ℕ) (kept : Asked) : Type 0 where
  pub next : is_next f place ≡ true
  pub within : i < kept.pages
  pub moved : kept.moved ≡ true
  pub unasked : kept.asked ≡ false

may_parts : (f : FrontState) (place i : ℕ) (kept : Asked) → ask_may f place i kept ≡ true → MayAsk f place i kept
may_parts f place i kept may =
    let all = and_parts ((is_next f place && nat_lt i kept.pages) && kept.moved) (not kept.asked) may in
    let most = and_parts (is_next f place && nat_lt i kept.pages) kept.moved all.0 in
    let first = and_parts (is_next f place) (nat_lt i kept.pages) most.0 in
    record { next = first.0; within = below i kept.pages first.1; moved = most.1; unasked = not_true kept.asked all.1 }

pub fetch_follows : (f : FrontState) (place : ℕ) (by : ToldBy) (p : Pid) (i : ℕ) (kept : Asked) (home : ClusterNo) → home_told f.places by p ≡ Some home → ask_may f place i kept ≡ true
    → AnswersFetch f place by p i kept (Some (fetch_entry f place home p i))
fetch_follows f place by p i kept home found may system log valid legal keeps =
    let m = may_parts f place i kept may in
    let h = home_is f.places by p home found in
    let front = keeps.before in
    let e : Entry = fetch_entry f place home p i in (
      λ j. record { place = place; by = sym h.told j; what = ToldFetch p.0 i },
      record {
        stands = record {
          placed = next_placed f place m.next system log (Fetch p i) front;
          by_right = ap (λ (q : Places). is_by_home q (Cluster home) (Some p)) (sym front.places) ∙ h.right;
          applies = applies system log e legal (λ k. refl);
          kind = record { within = subst (λ (n : ℕ). i < n) keeps.pages m.within; moved = sym keeps.moved ∙ m.moved; unasked = sym keeps.asked ∙ m.unasked };
        };
        limits = refl;
        new_page = refl;
        pages = refl;
      },
    )

-- ---- where it stands next the tests pass

fetch_said : (w : What) (p : Pid) (i : ℕ) → told_what w ≡ ToldFetch p.0 i → w ≡ Fetch p i
fetch_said (Fetch pid index) p i line =
    let asker : pid.0 ≡ p.0 = cc in
    let page : index ≡ i = cc in
    λ j. Fetch (record { 0 = asker j }) (page j)
fetch_said (Rebackup to true recs) p i line = cc
fetch_said (Rebackup to false recs) p i line = cc
fetch_said _ p i line = cc

passes : (f : FrontState) (place : ℕ) (by : ToldBy) (p : Pid) (i : ℕ) (kept : Asked) (system : System) (log : List Entry) (e : Entry) → KeepsAsked f p i kept system log
    → told_of e ≡ record { place = place; by = by; what = ToldFetch p.0 i } → Stands system log e → (is_some (home_told f.places by p) ≡ true) × (ask_may f place i kept ≡ true)
passes f place by p i kept system log e keeps line stands =
    let said : what e ≡ Fetch p i = fetch_said (what e) p i (ap (λ (t : Told). t.what) line) in
    let front = keeps.before in
    let next = next_passes system log f e place front (ap (λ (t : Told). t.place) line) stands in
    let holds : FetchHolds system log p i = subst (KindHolds system log e) said stands.kind in
    let right : is_by_home (placement system log) (e.post).by (Some p) ≡ true = sym (ap (is_by_right (placement system log) (e.post).by) said) ∙ stands.by_right in
    let home : is_some (home_told f.places by p) ≡ true =
    ap (λ (q : Places). is_some (home_told q by p)) front.places ∙ ap (λ (t : Told). is_some (home_told (placement system log) t.by p)) (sym line) ∙ by_home_told (placement system log) (e.post).by p right in
    let few : nat_lt i kept.pages ≡ true = is_below i kept.pages (subst (λ (n : ℕ). i < n) (sym keeps.pages) holds.within) in (
      home,
      ap (λ b. ((b && nat_lt i kept.pages) && kept.moved) && not kept.asked) next
          ∙ ap (λ b. (b && kept.moved) && not kept.asked) few
          ∙ ap (λ b. b && not kept.asked) (keeps.moved ∙ holds.moved)
          ∙ ap not (keeps.asked ∙ holds.unasked),
    )

pub fetch_unsent : (f : FrontState) (place : ℕ) (by : ToldBy) (p : Pid) (i : ℕ) (kept : Asked) → home_told f.places by p ≡ None → AnswersFetch f place by p i kept None
fetch_unsent f place by p i kept none system log e valid legal keeps line may =
    true≢false (sym (passes f place by p i kept system log e keeps line may.stands).0 ∙ ap is_some none)

pub fetch_refused : (f : FrontState) (place : ℕ) (by : ToldBy) (p : Pid) (i : ℕ) (kept : Asked) → ask_may f place i kept ≡ false → AnswersFetch f place by p i kept None
fetch_refused f place by p i kept refused system log e valid legal keeps line may =
    true≢false (sym (passes f place by p i kept system log e keeps line may.stands).1 ∙ refused)
