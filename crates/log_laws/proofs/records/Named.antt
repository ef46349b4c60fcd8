-- Which processes a new backup names, and which records it carries: none of these has ended, and none had a backup.
use Rattle.std.proofs.Common.{◌≡◌, refl, sym, ◌∙◌, ap, subst, List, [], ◌∷◌, ◌++◌, map, Bool, true, false, cond, ◌||◌, eq-eqb, Option, Some, None, is_some, unwrap_or, true≢false}
use Rattle.std.specs.Prelude.{option_map, ⊤}
use Rattle.std.specs.List.{list_any}
use Rattle.std.specs.Option.{option_map_or}
use Rattle.std.proofs.lemmas.Bool.{or_right, or_left}
use Rattle.t32_base.specs.declared.process.Pid.{Pid}
use Rattle.t32_base.specs.declared.process.ClusterNo.{ClusterNo}
use Rattle.t32_base.specs.declared.letter.BackRec.{BackRec}
use Rattle.t32_base.proofs.Facts.{or_true, or_false}
use Rattle.sys_text.specs.declared.system.System.{System}
use Rattle.sys_text.specs.Valid.{is_system}
use Rattle.bus_msg.specs.declared.entry.What.TheVariants.{Rebackup}
use Rattle.bus_msg.specs.declared.entry.Entry.{Entry}
use Rattle.bus_msg.specs.declared.placed.Placed.{Placed}
use Rattle.bus_msg.specs.Places.{Places, same_pid, unended_at}
use Rattle.bus_msg.specs.PlacedAfter.{what}
use Rattle.bus_msg.specs.NewBackup.{next_backup, next_backup_at, backup_by_mode}
use Rattle.cert_sched.specs.Parts.{first_of}
use Rattle.cert_sched.specs.Schedule.{placement}
use Rattle.cert_sched.specs.Record.{backup_record}
use Rattle.cert_sched.specs.Family.{is_unsynced, births_of, unsynced_family}
use Rattle.cert_sched.specs.Kinds.{KindHolds}
use Rattle.cert_sched.specs.Legal.{IsLegalBy, Stands}
use Rattle.cert_sched.specs.Simulation.{IsUnended}
use Rattle.cert_sched.proofs.LogLaws.{IsLegal-before, IsLegal-last}
use Rattle.cert_sched.proofs.CameLaws.{same_of}
use Rattle.cert_sched.proofs.FamilyLaws.{Pair, Member, among, all_family, Families, families, fresh_named, standing_named, one_record}
use Rattle.backup_records.specs.Records.{record_after}
use Rattle.log_laws.specs.records.Kept.{Unbacked, is_renewed}
use Rattle.log_laws.proofs.records.OneRecord.{record_follows}
use Rattle.log_laws.proofs.records.Standing.{itself}

-- a process that gets a backup has none
none_before : (places : Places) (q : Placed) (to : ClusterNo) → next_backup places q ≡ Some to → q.backup ≡ None
none_before places q to is = by_backup q.backup refl
  where
    by_backup : (o : Option ClusterNo) → q.backup ≡ o → o ≡ None
    by_backup None there = refl
    by_backup (Some k) there =
        let blocked : (q.ended || is_some q.backup) ≡ true = ap (λ (o : Option ClusterNo). q.ended || is_some o) there ∙ or_true q.ended in
        absurd (true≢false (sym (ap is_some is) ∙ ap (λ b. is_some (cond b None (backup_by_mode places q q.mode))) blocked))

-- the process for which a new backup is
own_unbacked : (places : Places) (p : Pid) (to : ClusterNo) → next_backup_at places p ≡ Some to → Unbacked places p
own_unbacked places p to is = by_found (unended_at places p) refl is
  where
    by_found : (o : Option Placed) → unended_at places p ≡ o → option_map_or (next_backup places) o None ≡ Some to → Unbacked places p
    by_found None found h = absurd (true≢false (sym (ap is_some h)))
    by_found (Some q) found h = record { at = q; found = found; none = none_before places q to h }

-- ---- who is named

module _ (system : System) (log : List Entry) (all : Families system log) where
  family_unbacked : (p : Pid) (to : ClusterNo) → next_backup_at (placement system log) p ≡ Some to → (r : Pid) → among r (unsynced_family system log p) ≡ true → Unbacked (placement system log) r
  family_unbacked p to next r there = all_family (placement system log) (Unbacked (placement system log)) (births_of log) (p ∷ []) first child r there
    where
      first : (r : Pid) → among r (p ∷ []) ≡ true → Unbacked (placement system log) r
      first r is = subst (Unbacked (placement system log)) (sym (same_of r p (sym (or_false (same_pid r p)) ∙ is))) (own_unbacked (placement system log) p to next)

      child : (b : Pair) → Member b (births_of log) → is_unsynced (placement system log) b.1 ≡ true → Unbacked (placement system log) b.0 → Unbacked (placement system log) b.1
      child b m h parent =
          let t = all.together b m h in
          let same : t.parent ≡ parent.at = ap (λ (o : Option Placed). unwrap_or o t.parent) (sym t.parent_at ∙ parent.found) in
          record { at = t.child; found = t.child_at; none = sym t.backup ∙ ap (λ (q : Placed). q.backup) same ∙ parent.none }

  -- each process that a new backup names has not ended, and has no backup
  pub named_unbacked : (e : Entry) (to : ClusterNo) (fresh : Bool) (recs : List BackRec) → KindHolds system log e (Rebackup to fresh recs) → (p : Pid)
      → list_any (λ (r : BackRec). same_pid r.pid p) recs ≡ true → Unbacked (placement system log) p
  named_unbacked e to true [] kind p named = absurd kind
  named_unbacked e to false [] kind p named = absurd kind
  named_unbacked e to true (r ∷ rs) kind p named =
      let own = own_unbacked (placement system log) r.pid to kind.backup in
      let same : same_pid r.pid p ≡ true = sym (fresh_named system log e r rs to kind (record (own.at) { pid = p })) ∙ named in
      subst (Unbacked (placement system log)) (same_of r.pid p same) own
  named_unbacked e to false (r ∷ rs) kind p named =
      let own = own_unbacked (placement system log) r.pid to kind.backup in
      family_unbacked r.pid to kind.backup p (sym (standing_named system log r.pid to (r ∷ rs) kind (record (own.at) { pid = p })) ∙ named)

-- in a log in which each entry stands
pub named_in_log : (system : System) (log : List Entry) (e : Entry) (to : ClusterNo) (fresh : Bool) (more : List BackRec) (p : Pid) → is_system system ≡ true → IsLegalBy Stands system (log ++ e ∷ [])
    → what e ≡ Rebackup to fresh more
    → list_any (λ (r : BackRec). same_pid r.pid p) more ≡ true → Unbacked (placement system log) p
named_in_log system log e to fresh more p valid legal is named =
    named_unbacked system log (families Stands itself system log valid (IsLegal-before Stands system log e legal)) e to fresh more
    (subst (KindHolds system log e) is (IsLegal-last Stands system log e legal).kind) p named

-- ---- which records are carried

-- each of these records is what a question says of its process
abbrev pub AllAre : (Pid → Option BackRec) → List BackRec → Type 0
AllAre f [] = ⊤
AllAre f (r ∷ rs) = (f r.pid ≡ Some r) × AllAre f rs

abbrev rest_of : {X : Type 0} → List X → List X
rest_of [] = []
rest_of (x ∷ xs) = xs

from_maps : (f : Pid → Option BackRec) (recs : List BackRec) → map Some recs ≡ map (λ (r : BackRec). f r.pid) recs → AllAre f recs
from_maps f [] is = tt
from_maps f (r ∷ rs) is =
    let first : Some (Some r) ≡ Some (f r.pid) = ap first_of is in
    (sym (ap (λ (o : Option (Option BackRec)). unwrap_or o None) first), from_maps f rs (ap rest_of is))

-- where two questions agree on these
all_turned : (f g : Pid → Option BackRec) (recs : List BackRec) → AllAre f recs → ((p : Pid) → list_any (λ (r : BackRec). same_pid r.pid p) recs ≡ true → g p ≡ f p) → AllAre g recs
all_turned f g [] all same = tt
all_turned f g (r ∷ rs) all same = (
  same r.pid (or_left (same_pid r.pid r.pid) (list_any (λ (s : BackRec). same_pid s.pid r.pid) rs) (eq-eqb (r.pid).0 (r.pid).0 refl)) ∙ all.0,
  all_turned f g rs all.1 (λ p h. same p (or_right (same_pid r.pid p) (list_any (λ (s : BackRec). same_pid s.pid p) rs) h)),
)

module _ (system : System) (log : List Entry) (e : Entry) (valid : is_system system ≡ true) (legal : IsLegalBy Stands system (log ++ e ∷ [])) where
  kept_same : (to : ClusterNo) (fresh : Bool) (recs : List BackRec) (o : Option BackRec) → option_map (record_after (Rebackup to fresh recs)) o ≡ o
  kept_same to fresh recs None = refl
  kept_same to fresh recs (Some r) = refl

  -- a new backup that does not cut the process leaves its record
  pub record_stays : (to : ClusterNo) (fresh : Bool) (recs : List BackRec) (p : Pid) → what e ≡ Rebackup to fresh recs → is_renewed p (Rebackup to fresh recs) ≡ false → IsUnended system log p
      → backup_record system (log ++ e ∷ []) p ≡ backup_record system log p
  record_stays to fresh recs p is none unended =
      record_follows Stands itself system log e p valid legal (ap (is_renewed p) is ∙ none) unended
      ∙ ap (λ w. option_map (record_after w) (backup_record system log p)) is
      ∙ kept_same to fresh recs (backup_record system log p)

  -- the records that it carries are those of the log with it
  pub records_are : (to : ClusterNo) (fresh : Bool) (recs : List BackRec) → what e ≡ Rebackup to fresh recs → AllAre (backup_record system (log ++ e ∷ [])) recs
  records_are to fresh recs is = by_form fresh recs is (subst (KindHolds system log e) is (IsLegal-last Stands system log e legal).kind)
    where
      all : Families system log
      all = families Stands itself system log valid (IsLegal-before Stands system log e legal)

      by_form : (fresh : Bool) (recs : List BackRec) → what e ≡ Rebackup to fresh recs → KindHolds system log e (Rebackup to fresh recs) → AllAre (backup_record system (log ++ e ∷ [])) recs
      by_form true [] is kind = absurd kind
      by_form false [] is kind = absurd kind
      by_form true (r ∷ rs) is kind =
          let one : rs ≡ [] = one_record r rs (backup_record system (log ++ e ∷ []) r.pid) kind.records in
          let first : Some (Some r) ≡ Some (backup_record system (log ++ e ∷ []) r.pid) = ap first_of kind.records in
          (sym (ap (λ (o : Option (Option BackRec)). unwrap_or o None) first), subst (AllAre (backup_record system (log ++ e ∷ []))) (sym one) tt)
      by_form false (r ∷ rs) is kind =
          all_turned (backup_record system log) (backup_record system (log ++ e ∷ [])) (r ∷ rs) (from_maps (backup_record system log) (r ∷ rs) kind.records)
          (λ p named. record_stays to false (r ∷ rs) p is refl (ap is_some (named_unbacked system log all e to false (r ∷ rs) kind p named).found))
