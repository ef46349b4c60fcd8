-- The kinds of entries: those that tell of steps or close the log, those of pages, losses, those by which a process synchronises, births, and new backups; and returns. What holds of each of some kinds holds of every entry of them.
use Rattle.std.proofs.Common.{◌≡◌, ◌⊎◌, ℕ, refl, sym, List, Bool, true, false, Option, true≢false, inl, inr}
use Rattle.t32_base.specs.declared.process.Pid.{Pid}
use Rattle.t32_base.specs.declared.process.End.{End}
use Rattle.t32_base.specs.declared.letter.Letter.{Letter}
use Rattle.t32_base.specs.declared.letter.BackRec.{BackRec}
use Rattle.t32_base.specs.Small.{SmallState}
use Rattle.bus_msg.specs.declared.entry.What.{What}
use Rattle.bus_msg.specs.declared.entry.What.TheVariants.{Mail, Birth, Exit, Page, Sync, Fetch, PageIs, Crash, Return, Rebackup, Done, Stop}
use Rattle.t32_base.specs.declared.process.ClusterNo.{ClusterNo}
use Rattle.bus_msg.specs.declared.entry.Cause.{Cause}
use Rattle.sys_text.specs.declared.system.System.{System}
use Rattle.bus_msg.specs.declared.entry.Entry.{Entry}
use Rattle.bus_msg.specs.PlacedAfter.{what}
use Rattle.cert_sched.specs.Rules.{tells_or_closes}
use Rattle.cluster_core.specs.Sent.{TellingMayStand}
use Rattle.cluster_core.specs.Sent.{is_sent, SentMayStand}
use Rattle.cert_sched.proofs.MayLaws.{telling_sends_no_page}
use Rattle.cluster_core.specs.Queue.{is_lone}

pub by_kind : (P : What → Type 0) → ((at : ℕ) (letter : Letter) → P (Mail at letter)) → ((pid : Pid) (at : ℕ) (end : End) → P (Exit pid at end)) → ((rests : List (Pid × ℕ)) → P (Done rests)) → P Stop → (w : What) → tells_or_closes w ≡ true → P w
by_kind P mail exit done stop (Mail at letter) of_kind = mail at letter
by_kind P mail exit done stop (Exit pid at end) of_kind = exit pid at end
by_kind P mail exit done stop (Done rests) of_kind = done rests
by_kind P mail exit done stop Stop of_kind = stop
by_kind P mail exit done stop _ of_kind = absurd (true≢false (sym of_kind))

-- a page is asked for, or comes
abbrev pub is_of_page : What → Bool
is_of_page (Fetch pid index) = true
is_of_page (PageIs pid index bytes) = true
is_of_page _ = false

pub by_page : (P : What → Type 0) → ((pid : Pid) (index : ℕ) → P (Fetch pid index)) → ((pid : Pid) (index : ℕ) (bytes : List ℕ) → P (PageIs pid index bytes)) → (w : What) → is_of_page w ≡ true → P w
by_page P fetch page (Fetch pid index) of = fetch pid index
by_page P fetch page (PageIs pid index bytes) of = page pid index bytes
by_page P fetch page _ of = absurd (true≢false (sym of))

-- a process synchronises: by a changed page, or by the cut
abbrev pub is_of_sync : What → Bool
is_of_sync (Page pid at index bytes) = true
is_of_sync (Sync pid small read took) = true
is_of_sync _ = false

pub by_sync : (P : What → Type 0) → ((pid : Pid) (at index : ℕ) (bytes : List ℕ) → P (Page pid at index bytes)) → ((pid : Pid) (small : SmallState) (read : List ℕ) (took : Option ℕ) → P (Sync pid small read took)) → (w : What) → is_of_sync w ≡ true → P w
by_sync P page cut (Page pid at index bytes) of = page pid at index bytes
by_sync P page cut (Sync pid small read took) of = cut pid small read took
by_sync P page cut _ of = absurd (true≢false (sym of))

-- the loss of a cluster
pub record IsLoss (w : What) : Type 0 where
  pub lost : ClusterNo
  pub cause : Cause
  pub same : w ≡ Crash lost cause

-- the birth of a child
pub record IsBirth (w : What) : Type 0 where
  pub parent : Pid
  pub at : ℕ
  pub child : Pid
  pub end : ℕ
  pub same : w ≡ Birth parent at child end

-- a new backup
pub record IsRenewal (w : What) : Type 0 where
  pub to : ClusterNo
  pub fresh : Bool
  pub recs : List BackRec
  pub same : w ≡ Rebackup to fresh recs

-- the return of a cluster
pub record IsReturn (w : What) : Type 0 where
  pub back : ClusterNo
  pub same : w ≡ Return back

-- an entry tells or closes, is of a page, is a loss, is one by which a process synchronises, is a birth, a new backup, or a return
abbrev pub OneOf : What → Type 0
OneOf w = (tells_or_closes w ≡ true) ⊎ (is_of_page w ≡ true) ⊎ IsLoss w ⊎ (is_of_sync w ≡ true) ⊎ IsBirth w ⊎ IsRenewal w ⊎ IsReturn w

pub kind_is : (w : What) → OneOf w
kind_is (Fetch pid index) = inr (inl refl)
kind_is (PageIs pid index bytes) = inr (inl refl)
kind_is (Crash k cause) = inr (inr (inl (record { lost = k; cause = cause; same = refl })))
kind_is (Birth parent at child end) = inr (inr (inr (inr (inl (record { parent = parent; at = at; child = child; end = end; same = refl })))))
kind_is (Page pid at index bytes) = inr (inr (inr (inl refl)))
kind_is (Sync pid small read took) = inr (inr (inr (inl refl)))
kind_is (Return k) = inr (inr (inr (inr (inr (inr (record { back = k; same = refl }))))))
kind_is (Rebackup to fresh recs) = inr (inr (inr (inr (inr (inl (record { to = to; fresh = fresh; recs = recs; same = refl }))))))
kind_is _ = inl refl

-- what is sent alone tells, or is of a page
pub lone_is : (w : What) → is_lone w ≡ true → (tells_or_closes w ≡ true) ⊎ (is_of_page w ≡ true)
lone_is (Mail at letter) lone = inl refl
lone_is (Exit pid at end) lone = inl refl
lone_is (Fetch pid index) lone = inr refl
lone_is (PageIs pid index bytes) lone = inr refl
lone_is _ lone = absurd (true≢false (sym lone))

-- what tells of steps or closes the log is such as clusters send, or a close
pub telling_sent : (w : What) → tells_or_closes w ≡ true → is_sent w ≡ true
telling_sent = by_kind (λ w. is_sent w ≡ true) (λ at letter. refl) (λ pid at end. refl) (λ rests. refl) refl

-- a post that may follow and tells of steps, as one that tells
pub told_may : (system : System) (log : List Entry) (e : Entry) → SentMayStand system log e → tells_or_closes (what e) ≡ true → TellingMayStand system log e
told_may system log e may tells = record { stands = may.stands; of_kind = tells; limits = may.limits; pages = may.pages }

pub may_told : (system : System) (log : List Entry) (e : Entry) → TellingMayStand system log e → SentMayStand system log e
may_told system log e may = record { stands = may.stands; of_kind = telling_sent (what e) may.of_kind; limits = may.limits; new_page = telling_sends_no_page system log (what e) may.of_kind; pages = may.pages }
