-- When a page may come next.
use Rattle.std.proofs.Common.{◌≡◌, ℕ, refl, sym, ◌∙◌, ap, subst, List, [], ◌∷◌, true, false, ◌&&◌, eqb, eqb-true, eq-eqb, Option, Some, None, Ok, true≢false}
use Rattle.std.specs.Prelude.{slice_get, option_map}
use Rattle.std.proofs.lemmas.Bool.{and_parts}
use Rattle.t32_base.specs.declared.process.Pid.{Pid}
use Rattle.t32_base.specs.declared.process.ClusterNo.{ClusterNo}
use Rattle.bus_msg.specs.declared.entry.What.{What}
use Rattle.bus_msg.specs.declared.entry.What.TheVariants.{PageIs, Rebackup}
use Rattle.bus_msg.specs.declared.entry.By.{By}
use Rattle.bus_msg.specs.declared.entry.By.TheVariants.{Cluster, Bus}
use Rattle.bus_msg.specs.declared.entry.Entry.{Entry}
use Rattle.bus_msg.specs.Places.{Places, same_pid, servers_in}
use Rattle.bus_msg.specs.PlacedAfter.{what}
use Rattle.cert_sched.specs.Parts.{first_of}
use Rattle.cert_sched.specs.Schedule.{placement}
use Rattle.cert_sched.specs.Moved.{waiting_fetches}
use Rattle.cert_sched.specs.Rules.{is_by, is_by_right}
use Rattle.cert_sched.specs.Kinds.{KindHolds, PageIsHolds}
use Rattle.page_server.specs.Account.{PagerState}
use Rattle.page_accounts.specs.declared.answering.Answer.{Answer}
use Rattle.page_accounts.specs.Answering.{Answers, HoldsNext, earliest}
use Rattle.entry_lines.specs.declared.told.ToldBy.{ToldBy}
use Rattle.entry_lines.specs.declared.told.ToldBy.TheVariants.{Cluster as ByCluster, Bus as ByBus}
use Rattle.entry_lines.specs.declared.told.ToldWhat.TheVariants.{PageIs as ToldPageIs}
use Rattle.entry_lines.specs.declared.told.Told.{Told}
use Rattle.entry_lines.specs.Told.{told_by, told_what}
use Rattle.line_laws.specs.Meant.{pid_no}
use Rattle.log_audit.specs.Front.{FrontState, is_next}
use Rattle.log_audit.specs.Answers.{AnswersPage, is_sender, page_entry, page_may}
use Rattle.log_audit.proofs.Losing.{applies, next_passes, next_placed}

first_is : {X : Type 0} (xs : List X) → slice_get xs 0 ≡ first_of xs
first_is [] = refl
first_is (x ∷ xs) = refl

-- ---- it may come next

sender_is : (by : ToldBy) (server : ClusterNo) → is_sender by server ≡ true → by ≡ ByCluster server.0
sender_is (ByCluster k) server is = ap ByCluster (eqb-true k server.0 is)
sender_is ByBus server is = absurd (true≢false (sym is))

page_follows : (f : FrontState) (pager : PagerState) (place : ℕ) (by : ToldBy) (p i : ℕ) (server : ClusterNo) (a : Answer) → slice_get (servers_in f.places) 0 ≡ Some server
    → page_may f place by p i (Some server) (Some (a.pid, a.index)) ≡ true → HoldsNext pager (Some a) → AnswersPage f pager place by p i (Some (page_entry f place server a))
page_follows f pager place by p i server a first may holds system log valid legal keeps =
    let all = and_parts ((is_next f place && is_sender by server) && eqb p (a.pid).0) (eqb i a.index) may in
    let most = and_parts (is_next f place && is_sender by server) (eqb p (a.pid).0) all.0 in
    let next = and_parts (is_next f place) (is_sender by server) most.0 in
    let sender : by ≡ ByCluster server.0 = sender_is by server next.1 in
    let asker : p ≡ (a.pid).0 = eqb-true p (a.pid).0 most.1 in
    let page : i ≡ a.index = eqb-true i a.index all.1 in
    let front = keeps.before in
    let e : Entry = page_entry f place server a in
    let right : is_by (Cluster server) (first_of (servers_in (placement system log))) ≡ true =
    ap (λ (q : Places). is_by (Cluster server) (first_of (servers_in q))) (sym front.places) ∙ ap (is_by (Cluster server)) (sym (first_is (servers_in f.places)) ∙ first) ∙ eq-eqb server.0 server.0 refl in (
      λ j. record { place = place; by = sym sender j; what = ToldPageIs (sym asker j) (sym page j) },
      record {
        stands = record {
          placed = next_placed f place next.0 system log (PageIs a.pid a.index a.bytes) front;
          by_right = right;
          applies = applies system log e legal (λ k. refl);
          kind = holds system log keeps.accounts;
        };
        limits = refl;
        new_page = refl;
        pages = refl;
      },
    )

answered : (pager : PagerState) (w : Option (Pid × ℕ)) (a : Answer) → Answers pager w (Ok (Some a)) → w ≡ Some (a.pid, a.index)
answered pager None a is = cc
answered pager (Some g) a is = λ j. Some (sym is.0 j, sym is.1 j)

pub page_answered : (f : FrontState) (pager : PagerState) (place : ℕ) (by : ToldBy) (p i : ℕ) (server : ClusterNo) (a : Answer) → slice_get (servers_in f.places) 0 ≡ Some server
    → page_may f place by p i (slice_get (servers_in f.places) 0) (earliest pager) ≡ true → Answers pager (earliest pager) (Ok (Some a)) → HoldsNext pager (Some a)
    → AnswersPage f pager place by p i (Some (page_entry f place server a))
page_answered f pager place by p i server a first may answers holds =
    page_follows f pager place by p i server a first
    (sym (ap (λ o. page_may f place by p i o (earliest pager)) first ∙ ap (page_may f place by p i (Some server)) (answered pager (earliest pager) a answers)) ∙ may) holds

-- ---- where it stands next the tests pass

record PageSaid (w : What) (p i : ℕ) : Type 0 where
  pub bytes : List ℕ
  pub is : w ≡ PageIs (pid_no p) i bytes

page_said : (w : What) (p i : ℕ) → told_what w ≡ ToldPageIs p i → PageSaid w p i
page_said (PageIs pid index bytes) p i line =
    let asker : pid.0 ≡ p = cc in
    let page : index ≡ i = cc in
    record { bytes = bytes; is = λ j. PageIs (record { 0 = asker j }) (page j) bytes }
page_said (Rebackup to true recs) p i line = cc
page_said (Rebackup to false recs) p i line = cc
page_said _ p i line = cc

by_told : (by : By) (server : ClusterNo) → is_by by (Some server) ≡ true → is_sender (told_by by) server ≡ true
by_told (Cluster k) server is = is
by_told Bus server is = is

by_none : (by : By) → is_by by None ≡ true → ⊥
by_none (Cluster k) is = true≢false (sym is)
by_none Bus is = true≢false (sym is)

turned : (a b : ℕ) → eqb a b ≡ true → eqb b a ≡ true
turned a b is = eq-eqb b a (sym (eqb-true a b is))

pub page_refused : (f : FrontState) (pager : PagerState) (place : ℕ) (by : ToldBy) (p i : ℕ) → page_may f place by p i (slice_get (servers_in f.places) 0) (earliest pager) ≡ false → AnswersPage f pager place by p i None
page_refused f pager place by p i refused system log e valid legal keeps line may =
    let said = page_said (what e) p i (ap (λ (t : Told). t.what) line) in
    let stands = may.stands in
    let front = keeps.before in
    let next = next_passes system log f e place front (ap (λ (t : Told). t.place) line) stands in
    let holds : PageIsHolds system log (pid_no p) i said.bytes = subst (KindHolds system log e) said.is stands.kind in
    let right : is_by (e.post).by (slice_get (servers_in f.places) 0) ≡ true =
    ap (is_by (e.post).by) (first_is (servers_in f.places)) ∙ ap (λ (q : Places). is_by (e.post).by (first_of (servers_in q))) front.places
    ∙ sym (ap (is_by_right (placement system log) (e.post).by) said.is) ∙ stands.by_right in
    let asked : option_map (λ (g : Pid × ℕ). same_pid g.0 (pid_no p) && eqb g.1 i) (earliest pager) ≡ Some true =
    ap (option_map (λ (g : Pid × ℕ). same_pid g.0 (pid_no p) && eqb g.1 i)) (ap (λ (fs : List (Pid × ℕ)). slice_get fs 0) (keeps.accounts).waits ∙ first_is (waiting_fetches system log)) ∙ holds.asked in
    by_both (slice_get (servers_in f.places) 0) (earliest pager) next right asked refused
  where
    sender : (server : ClusterNo) → is_by (e.post).by (Some server) ≡ true → is_sender by server ≡ true
    sender server is = ap (λ (t : Told). is_sender t.by server) (sym line) ∙ by_told (e.post).by server is

    by_both : (o : Option ClusterNo) (w : Option (Pid × ℕ)) → is_next f place ≡ true → is_by (e.post).by o ≡ true → option_map (λ (g : Pid × ℕ). same_pid g.0 (pid_no p) && eqb g.1 i) w ≡ Some true
        → page_may f place by p i o w ≡ false → ⊥
    by_both None w next right asked none = by_none (e.post).by right
    by_both (Some server) None next right asked none = cc
    by_both (Some server) (Some g) next right asked none =
        let both : (same_pid g.0 (pid_no p) && eqb g.1 i) ≡ true = cc in
        let parts = and_parts (same_pid g.0 (pid_no p)) (eqb g.1 i) both in
        let asker : eqb p (g.0).0 ≡ true = turned (g.0).0 p parts.0 in
        let page : eqb i g.1 ≡ true = turned g.1 i parts.1 in
        true≢false (sym (ap (λ b. ((b && is_sender by server) && eqb p (g.0).0) && eqb i g.1) next ∙ ap (λ b. (b && eqb p (g.0).0) && eqb i g.1) (sender server right)
        ∙ ap (λ b. b && eqb i g.1) asker ∙ page) ∙ none)
