-- The kinds of entries that clusters send: what holds of each of them holds of every such entry.
use Rattle.std.proofs.Common.{◌≡◌, ℕ, refl, sym, List, Option, Bool, true, false, true≢false}
use Rattle.t32_base.specs.declared.process.Pid.{Pid}
use Rattle.t32_base.specs.declared.process.End.{End}
use Rattle.t32_base.specs.declared.process.ClusterNo.{ClusterNo}
use Rattle.t32_base.specs.declared.letter.Letter.{Letter}
use Rattle.t32_base.specs.Small.{SmallState}
use Rattle.bus_msg.specs.declared.entry.What.{What}
use Rattle.t32_base.specs.declared.letter.BackRec.{BackRec}
use Rattle.bus_msg.specs.declared.entry.What.TheVariants.{Mail, Birth, Exit, Page, Sync, Fetch, PageIs, Rebackup, Done, Stop}
use Rattle.bus_msg.specs.declared.entry.By.{By}
use Rattle.bus_msg.specs.declared.entry.By.TheVariants.{Cluster, Bus}
use Rattle.bus_msg.specs.Places.{Places}
use Rattle.sys_text.specs.declared.system.System.{System}
use Rattle.bus_msg.specs.declared.entry.Entry.{Entry}
use Rattle.cert_sched.specs.Legal.{MayStand}
use Rattle.cert_sched.specs.Losses.{is_crash_of, is_from}
use Rattle.cert_sched.specs.Rules.{ends_run, is_bus, is_by_right}
use Rattle.cert_sched.specs.Scripted.{closes}
use Rattle.bus_order.specs.Script.{turns}
use Rattle.cluster_core.specs.Sent.{SentMayStand, is_sent}

pub by_sent : (P : What → Type 0) → ((at : ℕ) (letter : Letter) → P (Mail at letter)) → ((parent : Pid) (at : ℕ) (child : Pid) (end : ℕ) → P (Birth parent at child end)) → ((pid : Pid) (at : ℕ) (end : End) → P (Exit pid at end)) → ((pid : Pid) (index : ℕ) → P (Fetch pid index)) → ((pid : Pid) (index : ℕ) (bytes : List ℕ) → P (PageIs pid index bytes))
    → ((pid : Pid) (at index : ℕ) (bytes : List ℕ) → P (Page pid at index bytes)) → ((pid : Pid) (small : SmallState) (read : List ℕ) (took : Option ℕ) → P (Sync pid small read took)) → ((to : ClusterNo) (fresh : Bool) (recs : List BackRec) → P (Rebackup to fresh recs)) → ((rests : List (Pid × ℕ)) → P (Done rests)) → P Stop → (w : What) → is_sent w ≡ true → P w
by_sent P mail birth exit fetch page changed cut renew done stop (Mail at letter) sent = mail at letter
by_sent P mail birth exit fetch page changed cut renew done stop (Exit pid at end) sent = exit pid at end
by_sent P mail birth exit fetch page changed cut renew done stop (Fetch pid index) sent = fetch pid index
by_sent P mail birth exit fetch page changed cut renew done stop (PageIs pid index bytes) sent = page pid index bytes
by_sent P mail birth exit fetch page changed cut renew done stop (Done rests) sent = done rests
by_sent P mail birth exit fetch page changed cut renew done stop Stop sent = stop
by_sent P mail birth exit fetch page changed cut renew done stop (Birth parent at child end) sent = birth parent at child end
by_sent P mail birth exit fetch page changed cut renew done stop (Page pid at index bytes) sent = changed pid at index bytes
by_sent P mail birth exit fetch page changed cut renew done stop (Sync pid small read took) sent = cut pid small read took
by_sent P mail birth exit fetch page changed cut renew done stop (Rebackup to fresh recs) sent = renew to fresh recs
by_sent P mail birth exit fetch page changed cut renew done stop _ sent = absurd (true≢false (sym sent))

-- such an entry loses no cluster
pub no_loss : (k : ClusterNo) (w : What) → is_sent w ≡ true → is_crash_of k w ≡ false
no_loss k = by_sent (λ w. is_crash_of k w ≡ false) (λ at letter. refl) (λ parent at child end. refl) (λ pid at end. refl) (λ pid index. refl) (λ pid index bytes. refl) (λ pid at index bytes. refl) (λ pid small read took. refl) (λ to fresh recs. refl) (λ rests. refl) refl

-- nor brings it back
pub no_turn : (k : ClusterNo) (w : What) → is_sent w ≡ true → turns k w ≡ false
no_turn k = by_sent (λ w. turns k w ≡ false) (λ at letter. refl) (λ parent at child end. refl) (λ pid at end. refl) (λ pid index. refl) (λ pid index bytes. refl) (λ pid at index bytes. refl) (λ pid small read took. refl) (λ to fresh recs. refl) (λ rests. refl) refl

-- a log ends by it exactly where it closes that
pub ends_closed : (places : Places) (w : What) → is_sent w ≡ true → ends_run places w ≡ closes w
ends_closed places = by_sent (λ w. ends_run places w ≡ closes w) (λ at letter. refl) (λ parent at child end. refl) (λ pid at end. refl) (λ pid index. refl) (λ pid index bytes. refl) (λ pid at index bytes. refl) (λ pid small read took. refl) (λ to fresh recs. refl) (λ rests. refl) refl

pub not_bus : (k : ClusterNo) (by : By) → is_from k by ≡ true → is_bus by ≡ true → ⊥
not_bus k Bus own bus = true≢false (sym own)
not_bus k (Cluster j) own bus = true≢false (sym bus)

-- and one that a cluster sent does not
pub closes_not : (k : ClusterNo) (places : Places) (by : By) (w : What) → is_sent w ≡ true → is_from k by ≡ true → is_by_right places by w ≡ true → closes w ≡ false
closes_not k places by =
    by_sent (λ w. is_from k by ≡ true → is_by_right places by w ≡ true → closes w ≡ false)
    (λ at letter own right. refl) (λ parent at child end own right. refl) (λ pid at end own right. refl) (λ pid index own right. refl) (λ pid index bytes own right. refl) (λ pid at index bytes own right. refl) (λ pid small read took own right. refl) (λ to fresh recs own right. refl)
    (λ rests own right. absurd (not_bus k by own right)) (λ own right. absurd (not_bus k by own right))

-- it may stand next by all rules but that of new backups
pub may_sent : (system : System) (log : List Entry) (e : Entry) → SentMayStand system log e → MayStand system log e
may_sent system log e may = record { stands = may.stands; limits = may.limits; new_page = may.new_page; pages = may.pages }
