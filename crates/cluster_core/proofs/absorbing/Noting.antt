-- The entry for which a cluster is ready may be noted in its records, and leaves them as they are where it does not go to the cluster.
use Rattle.std.proofs.Common.{◌≡◌, ℕ, zero, suc, ◌+◌, ◌≤◌, ◌<◌, refl, sym, ◌∙◌, ap, arith, List, [], ◌∷◌, ◌++◌, length, map, Bool, true, false, cond, ◌||◌, eqb, eqb-true, Option, Some, None, is_some, slice_get, true≢false, inl, inr, ◌-◌, subst}
use Rattle.std.specs.Prelude.{◌^◌, bit_or}
use Rattle.std.specs.Option.{option_map_or}
use Rattle.std.specs.Int.{bit_at}
use Rattle.std.specs.List.{list_any, range_with_len}
use Rattle.std.proofs.lemmas.Nat.Bits.{bit_at-lt, bit_at-pow_same, bit_at_or}
use Rattle.std.proofs.lemmas.List.Folds.{list_any-append}
use Rattle.std.proofs.lemmas.Option.{slice_get_within}
use Rattle.std.proofs.lemmas.Bool.Decides.{nat_tests}
use Rattle.std.proofs.lemmas.Bool.{or_right, or_left}
use Rattle.t32_base.specs.declared.process.Pid.{Pid}
use Rattle.t32_base.specs.declared.process.ClusterNo.{ClusterNo}
use Rattle.t32_base.specs.declared.process.End.{End}
use Rattle.t32_base.specs.Small.{SmallState}
use Rattle.t32_base.specs.declared.letter.Letter.{Letter}
use Rattle.t32_base.specs.declared.letter.BackRec.{BackRec}
use Rattle.t32_base.specs.declared.letter.To.{To}
use Rattle.t32_base.specs.declared.letter.To.TheVariants.{Proc, Tty}
use Rattle.sys_text.specs.declared.system.System.{System}
use Rattle.sys_text.specs.Valid.{is_system}
use Rattle.bus_msg.specs.declared.entry.What.TheVariants.{Mail, Exit, Sync}
use Rattle.bus_msg.specs.declared.entry.Entry.{Entry}
use Rattle.bus_msg.specs.declared.placed.Placed.{Placed}
use Rattle.bus_msg.specs.Places.{Places, ClusterPlace, lives_in, same_pid, same_cluster, is_cluster, unended_at, all_clusters, cluster_no, servers_in}
use Rattle.bus_msg.specs.PlacedAfter.{what}
use Rattle.bus_msg.specs.Route.{backup_of, home_of, bits_of, letter_dests, route, to_list, to_all}
use Rattle.cert_sched.specs.Legal.{MayStand}
use Rattle.cert_sched.specs.Rules.{tells_or_closes}
use Rattle.cert_sched.specs.Kinds.{KindHolds}
use Rattle.cert_sched.specs.Schedule.{placement}
use Rattle.cert_sched.specs.Record.{backup_record}
use Rattle.backup_records.specs.Records.{CanNote, record_in, record_after, record_of_child, records_after, is_receiver, after_birth, records_renewed, with_child_of, with_record, with_records, with_saved, with_counted, with_cut}
use Rattle.log_laws.specs.records.Kept.{KeepsRecords, has_backup_in}
use Rattle.log_laws.proofs.records.Noted.{can_note}
use Rattle.log_laws.proofs.records.Standing.{all_stand}
use Rattle.backup_laws.proofs.ReturnedEmpty.{backups_live, renewed_lives}
use Rattle.cert_sched.proofs.LogLaws.{IsLegal-last}
use Rattle.cluster_core.specs.View.{ClusterView}
use Rattle.cluster_core.specs.Calls.{IsReady, ReadyFor}
use Rattle.cluster_core.specs.Absorbing.{IsNotedHere, goes_to}
use Rattle.residents.proofs.Changing.{pid_same, same_itself}
use Rattle.cluster_core.proofs.absorbing.ByKind.{OneOf, by_kind, by_page, by_sync, kind_is}
use Rattle.cluster_core.proofs.absorbing.AfterSent.{sent_is}

-- ---- the clusters that an entry goes to

abbrev has_bit : ℕ → ClusterNo → Bool
has_bit bits k = eqb (bit_at bits k.0) 1

first_bit : (n rest : ℕ) → eqb (bit_at (bit_or (2 ^ n) rest) n) 1 ≡ true
first_bit n rest =
    let one : bit_at (bit_or (2 ^ n) rest) n ≡ 1 = omega (arith, bit_at_or (2 ^ n) rest n, bit_at-pow_same n, bit_at-lt rest n) in
    ap (λ m. eqb m 1) one

pub other_bit : (n m rest : ℕ) → eqb (bit_at rest n) 1 ≡ true → eqb (bit_at (bit_or (2 ^ m) rest) n) 1 ≡ true
other_bit n m rest h =
    let here : bit_at rest n ≡ 1 = eqb-true (bit_at rest n) 1 h in
    let one : bit_at (bit_or (2 ^ m) rest) n ≡ 1 = omega (arith, bit_at_or (2 ^ m) rest n, here, bit_at-lt (2 ^ m) n) in
    ap (λ m. eqb m 1) one

-- a cluster of the list that lives is one of them
pub named_goes : (places : Places) (k : ClusterNo) (ks : List ClusterNo) → lives_in places k ≡ true → list_any (λ j. same_cluster j k) ks ≡ true → has_bit (bits_of places ks) k ≡ true
named_goes places k [] lives any = absurd (true≢false (sym any))
named_goes places k (j ∷ ks) lives any = by_test (same_cluster j k) refl any (named_goes places k ks lives)
  where
    later : (b : Bool) → has_bit (bits_of places ks) k ≡ true → has_bit (cond b (bit_or (2 ^ j.0) (bits_of places ks)) (bits_of places ks)) k ≡ true
    later true h = other_bit k.0 j.0 (bits_of places ks) h
    later false h = h

    by_test : (b : Bool) → same_cluster j k ≡ b → (b || list_any (λ j. same_cluster j k) ks) ≡ true → (list_any (λ j. same_cluster j k) ks ≡ true → has_bit (bits_of places ks) k ≡ true) → has_bit (bits_of places (j ∷ ks)) k ≡ true
    by_test true is h more =
        let same : j ≡ k = λ i. record { 0 = eqb-true j.0 k.0 is i } in
        ap (λ (c : ClusterNo). has_bit (cond (lives_in places c) (bit_or (2 ^ c.0) (bits_of places ks)) (bits_of places ks)) k) same
        ∙ ap (λ b. has_bit (cond b (bit_or (2 ^ k.0) (bits_of places ks)) (bits_of places ks)) k) lives ∙ first_bit k.0 (bits_of places ks)
    by_test false is h more = later (lives_in places j) (more h)

in_range : (k : ClusterNo) (a len : ℕ) → a ≤ k.0 → k.0 < a + len → list_any (λ j. same_cluster j k) (map cluster_no (range_with_len a len)) ≡ true
in_range k a zero low high = absurd (omega (arith, low, high))
in_range k a (suc len) low high = by_test (eqb a k.0) refl (λ later. in_range k (a + 1) len later (omega (arith, high)))
  where
    above : eqb a k.0 ≡ false → a + 1 ≤ k.0
    above other = grind (arith, low, nat_tests)

    by_test : (b : Bool) → eqb a k.0 ≡ b → (a + 1 ≤ k.0 → list_any (λ j. same_cluster j k) (map cluster_no (range_with_len (a + 1) len)) ≡ true) → (b || list_any (λ j. same_cluster j k) (map cluster_no (range_with_len (a + 1) len))) ≡ true
    by_test true is more = refl
    by_test false is more = more (above is)

within : (places : Places) (k : ClusterNo) → lives_in places k ≡ true → k.0 < length places.clusters
within places k lives = by_place (slice_get places.clusters k.0) refl lives
  where
    by_place : (o : Option ClusterPlace) → slice_get places.clusters k.0 ≡ o → option_map_or (λ (c : ClusterPlace). c.lives) o false ≡ true → k.0 < length places.clusters
    by_place None at h = absurd (true≢false (sym h))
    by_place (Some c) at h = slice_get_within places.clusters k.0 c at

pub all_named : (places : Places) (k : ClusterNo) → lives_in places k ≡ true → list_any (λ j. same_cluster j k) (all_clusters places) ≡ true
all_named places k lives = in_range k 0 (length places.clusters) (omega arith) (omega (arith, within places k lives))

-- what goes to all goes to each that lives
pub all_hear : (places : Places) (k : ClusterNo) → lives_in places k ≡ true → goes_to (to_all places) k ≡ true
all_hear places k lives = named_goes places k (all_clusters places) lives (all_named places k lives)

-- the backup of a process that has not ended
backup_named : (places : Places) (k : ClusterNo) (p : Pid) → option_map_or (λ (q : Placed). is_cluster q.backup k) (unended_at places p) false ≡ true → list_any (λ j. same_cluster j k) (backup_of places p) ≡ true
backup_named places k p h = by_placed (unended_at places p) h
  where
    by_backup : (o : Option ClusterNo) → is_cluster o k ≡ true → list_any (λ j. same_cluster j k) (to_list o) ≡ true
    by_backup None h = absurd (true≢false (sym h))
    by_backup (Some j) h = ap (λ b. b || false) h

    by_placed : (o : Option Placed) → option_map_or (λ (q : Placed). is_cluster q.backup k) o false ≡ true → list_any (λ j. same_cluster j k) (option_map_or (λ (q : Placed). to_list q.backup) o []) ≡ true
    by_placed None h = absurd (true≢false (sym h))
    by_placed (Some q) h = by_backup q.backup h

-- a letter goes to the backup of its receiver
receiver_goes : (places : Places) (k : ClusterNo) (from p : Pid) (to : To) → lives_in places k ≡ true → is_receiver p to ≡ true → list_any (λ j. same_cluster j k) (backup_of places p) ≡ true → goes_to (letter_dests places from to) k ≡ true
receiver_goes places k from p (Proc q end) lives is named =
    let same : p ≡ q = sym (pid_same q p (eqb-true q.0 p.0 is)) in
    named_goes places k (home_of places q ++ backup_of places q ++ backup_of places from) lives
    (list_any-append (λ j. same_cluster j k) (home_of places q ++ backup_of places q) (backup_of places from)
    ∙ or_left _ (list_any (λ j. same_cluster j k) (backup_of places from))
    (list_any-append (λ j. same_cluster j k) (home_of places q) (backup_of places q)
    ∙ or_right (list_any (λ j. same_cluster j k) (home_of places q)) _ (ap (λ r. list_any (λ j. same_cluster j k) (backup_of places r)) (sym same) ∙ named)))
receiver_goes places k from p (Tty t) lives is named = absurd (true≢false (sym is))

-- and to that of its sender
sender_goes : (places : Places) (k : ClusterNo) (from : Pid) (to : To) → lives_in places k ≡ true → list_any (λ j. same_cluster j k) (backup_of places from) ≡ true → goes_to (letter_dests places from to) k ≡ true
sender_goes places k from (Proc q end) lives named =
    named_goes places k (home_of places q ++ backup_of places q ++ backup_of places from) lives
    (list_any-append (λ j. same_cluster j k) (home_of places q ++ backup_of places q) (backup_of places from)
    ∙ or_right (list_any (λ j. same_cluster j k) (home_of places q ++ backup_of places q)) _ named)
sender_goes places k from (Tty t) lives named = named_goes places k (backup_of places from) lives named

-- the backup of a process that has not ended lives
abbrev BackupsLive : Places → Type 0
BackupsLive places = (p : Pid) (q : Placed) (b : ClusterNo) → unended_at places p ≡ Some q → q.backup ≡ Some b → lives_in places b ≡ true

-- a cluster that has the backup of a process lives
backup_lives : (system : System) (log : List Entry) (k : ClusterNo) (p : Pid) → BackupsLive (placement system log) → has_backup_in system log k p ≡ true → lives_in (placement system log) k ≡ true
backup_lives system log k p live here = by_placed (unended_at (placement system log) p) refl here
  where
    by_backup : (q : Placed) (o : Option ClusterNo) → unended_at (placement system log) p ≡ Some q → q.backup ≡ o → is_cluster o k ≡ true → lives_in (placement system log) k ≡ true
    by_backup q None there is at = absurd (true≢false (sym at))
    by_backup q (Some b) there is at = let same : b ≡ k = λ i. record { 0 = eqb-true b.0 k.0 at i } in ap (lives_in (placement system log)) (sym same) ∙ live p q b there is

    by_placed : (o : Option Placed) → unended_at (placement system log) p ≡ o → option_map_or (λ (q : Placed). is_cluster q.backup k) o false ≡ true → lives_in (placement system log) k ≡ true
    by_placed None there at = absurd (true≢false (sym at))
    by_placed (Some q) there at = by_backup q q.backup there refl at

-- ---- the records that are left as they are

-- what leaves each record of such a process as it is leaves them all
all_left : (Q : Pid → Bool) (f : BackRec → BackRec) (recs : List BackRec) → ((p : Pid) → is_some (record_in recs p) ≡ true → Q p ≡ true) → ((r : BackRec) → Q r.pid ≡ true → f r ≡ r) → map f recs ≡ recs
all_left Q f [] each same = refl
all_left Q f (r ∷ recs) each same =
    (λ i. same r (each r.pid (ap (λ b. is_some (cond b (Some r) (record_in recs r.pid))) (same_itself r.pid))) i
    ∷ all_left Q f recs (λ p there. each p (either (same_pid r.pid p) (record_in recs p) there)) same i)
  where
    either : (b : Bool) (o : Option BackRec) → is_some o ≡ true → is_some (cond b (Some r) o) ≡ true
    either true o h = refl
    either false o h = h

-- each of them is of a process whose backup is here
backed : (system : System) (log : List Entry) (k : ClusterNo) (recs : List BackRec) → KeepsRecords system log k recs → (p : Pid) → is_some (record_in recs p) ≡ true → has_backup_in system log k p ≡ true
backed system log k recs keeps p there = by_test (has_backup_in system log k p) (sym (ap is_some (keeps p)) ∙ there)
  where
    by_test : (b : Bool) → is_some (cond b (backup_record system log p) None) ≡ true → b ≡ true
    by_test true h = refl
    by_test false h = absurd (true≢false (sym h))

letter_left : (system : System) (log : List Entry) (k : ClusterNo) (recs : List BackRec) (at : ℕ) (letter : Letter) → BackupsLive (placement system log) → KeepsRecords system log k recs
    → goes_to (letter_dests (placement system log) letter.from letter.to) k ≡ false → map (record_after (Mail at letter)) recs ≡ recs
letter_left system log k recs at letter live keeps elsewhere = all_left (has_backup_in system log k) (record_after (Mail at letter)) recs (backed system log k recs keeps) one
  where
    places : Places
    places = placement system log

    one : (r : BackRec) → has_backup_in system log k r.pid ≡ true → record_after (Mail at letter) r ≡ r
    one r here = by_receiver (is_receiver r.pid letter.to) refl
      where
        named : list_any (λ j. same_cluster j k) (backup_of places r.pid) ≡ true
        named = backup_named places k r.pid here

        lives : lives_in places k ≡ true
        lives = backup_lives system log k r.pid live here

        by_sender : (b : Bool) → same_pid letter.from r.pid ≡ b → cond b (with_counted letter r) r ≡ r
        by_sender true is =
            let same : r.pid ≡ letter.from = sym (pid_same letter.from r.pid (eqb-true (letter.from).0 (r.pid).0 is)) in
            absurd (true≢false (sym (sender_goes places k letter.from letter.to lives (ap (λ p. list_any (λ j. same_cluster j k) (backup_of places p)) (sym same) ∙ named)) ∙ elsewhere))
        by_sender false is = refl

        by_receiver : (b : Bool) → is_receiver r.pid letter.to ≡ b → record_after (Mail at letter) r ≡ r
        by_receiver true is = absurd (true≢false (sym (receiver_goes places k letter.from r.pid letter.to lives is named) ∙ elsewhere))
        by_receiver false is =
            ap (λ b. let saved : BackRec = cond b (with_saved letter r) r in cond (same_pid letter.from saved.pid) (with_counted letter saved) saved) is ∙ by_sender (same_pid letter.from r.pid) refl

-- an exit goes to each cluster that lives, and one that does not has no records
exit_left : (system : System) (log : List Entry) (k : ClusterNo) (recs : List BackRec) (pid : Pid) (at : ℕ) (end : End) → BackupsLive (placement system log) → KeepsRecords system log k recs
    → goes_to (to_all (placement system log)) k ≡ false → records_after k (Exit pid at end) recs ≡ recs
exit_left system log k recs pid at end live keeps elsewhere = by_first recs refl
  where
    places : Places
    places = placement system log

    by_first : (rs : List BackRec) → recs ≡ rs → records_after k (Exit pid at end) recs ≡ recs
    by_first [] is = ap (records_after k (Exit pid at end)) is ∙ sym is
    by_first (r ∷ rest) is =
        let there : is_some (record_in recs r.pid) ≡ true = ap (λ rs. is_some (record_in rs r.pid)) is ∙ ap (λ b. is_some (cond b (Some r) (record_in rest r.pid))) (same_itself r.pid) in
        let lives = backup_lives system log k r.pid live (backed system log k recs keeps r.pid there) in
        absurd (true≢false (sym (named_goes places k (all_clusters places) lives (all_named places k lives)) ∙ elsewhere))

-- a cut goes to the backup of its process
cut_left : (system : System) (log : List Entry) (k : ClusterNo) (recs : List BackRec) (pid : Pid) (small : SmallState) (read : List ℕ) (took : Option ℕ) → BackupsLive (placement system log) → KeepsRecords system log k recs
    → goes_to (route (placement system log) (Sync pid small read took)) k ≡ false → map (record_after (Sync pid small read took)) recs ≡ recs
cut_left system log k recs pid small read took live keeps elsewhere = all_left (has_backup_in system log k) (record_after (Sync pid small read took)) recs (backed system log k recs keeps) one
  where
    places : Places
    places = placement system log

    one : (r : BackRec) → has_backup_in system log k r.pid ≡ true → record_after (Sync pid small read took) r ≡ r
    one r here = by_pid (same_pid pid r.pid) refl
      where
        by_pid : (b : Bool) → same_pid pid r.pid ≡ b → cond b (with_cut small read r) r ≡ r
        by_pid true is =
            let same : r.pid ≡ pid = sym (pid_same pid r.pid (eqb-true pid.0 (r.pid).0 is)) in
            let named : list_any (λ j. same_cluster j k) (backup_of places pid) ≡ true = ap (λ p. list_any (λ j. same_cluster j k) (backup_of places p)) (sym same) ∙ backup_named places k r.pid here in
            absurd (true≢false (sym (named_goes places k (backup_of places pid ++ servers_in places) (backup_lives system log k r.pid live here)
            (list_any-append (λ j. same_cluster j k) (backup_of places pid) (servers_in places) ∙ or_left _ (list_any (λ j. same_cluster j k) (servers_in places)) named)) ∙ elsewhere))
        by_pid false is = refl

-- so does a birth
birth_left : (system : System) (log : List Entry) (k : ClusterNo) (recs : List BackRec) (parent child : Pid) → BackupsLive (placement system log) → KeepsRecords system log k recs → goes_to (to_all (placement system log)) k ≡ false → after_birth parent child recs ≡ recs
birth_left system log k recs parent child live keeps elsewhere = by_record (record_in recs parent) refl
  where
    places : Places
    places = placement system log

    by_record : (o : Option BackRec) → record_in recs parent ≡ o → cond (is_some o) (map (with_child_of parent child) (with_record (record_of_child child) recs)) recs ≡ recs
    by_record None is = refl
    by_record (Some r) is =
        let lives = backup_lives system log k parent live (backed system log k recs keeps parent (ap is_some is)) in
        absurd (true≢false (sym (named_goes places k (all_clusters places) lives (all_named places k lives)) ∙ elsewhere))

-- where an entry does not go to a cluster, it leaves the records there as they are
pub noted_here : (system : System) (log : List Entry) (e : Entry) (k : ClusterNo) (recs : List BackRec) → e.dests ≡ route (placement system log) (what e) → tells_or_closes (what e) ≡ true → BackupsLive (placement system log)
    → KeepsRecords system log k recs → IsNotedHere k e recs
noted_here system log e k recs routed tells live keeps elsewhere =
    by_kind (λ w. goes_to (route (placement system log) w) k ≡ false → records_after k w recs ≡ recs)
    (λ at letter away. letter_left system log k recs at letter live keeps away)
    (λ pid at end away. exit_left system log k recs pid at end live keeps away)
    (λ rests away. refl) (λ away. refl) (what e) tells (ap (λ dests. goes_to dests k) (sym routed) ∙ elsewhere)

-- those of a new backup that does not go here come elsewhere
renewal_left : (places : Places) (k to : ClusterNo) (more recs : List BackRec) → lives_in places to ≡ true → goes_to (to_all places) k ≡ false → records_renewed to k more recs ≡ recs
renewal_left places k to more recs lives elsewhere = by_test (same_cluster to k) refl
  where
    by_test : (b : Bool) → same_cluster to k ≡ b → cond b (with_records more recs) recs ≡ recs
    by_test true is =
        let same : to ≡ k = λ i. record { 0 = eqb-true to.0 k.0 is i } in
        absurd (true≢false (sym (all_hear places k (ap (lives_in places) (sym same) ∙ lives)) ∙ elsewhere))
    by_test false is = refl

-- ---- the entry for which a cluster is ready

-- what a cluster that is ready for the next entry of a log holds of it
record Kept (c : ClusterView) (log : List Entry) : Type 0 where
  pub cursor : c.cursor ≡ length log
  pub records : KeepsRecords c.system log c.number c.records

kept_of : (c : ClusterView) (log : List Entry) (e : Entry) → IsReady log e c → Kept c log
kept_of c log e (inl f) = record { cursor = ((f.0).log).cursor; records = (f.0).records }
kept_of c log e (inr s) =
    let same = s.sent ∙ sent_is s.before (s.before).queue in
    let number : (s.before).number ≡ c.number = sym (ap (λ (d : ClusterView). d.number) same) in
    record {
      cursor = ap (λ (d : ClusterView). d.cursor) same ∙ ((s.followed).log).cursor;
      records = subst (λ recs. KeepsRecords c.system log c.number recs) (sym (ap (λ (d : ClusterView). d.records) same)) (subst (λ k. KeepsRecords c.system log k (s.before).records) number (s.followed).records);
    }

-- the entry may be noted
pub can_note_next : (c : ClusterView) (e : Entry) → is_system c.system ≡ true → ReadyFor e c → c.cursor < 2 ^ 64 - 1 → CanNote (what e) c.records
can_note_next c e valid r room =
    let kept = kept_of c r.log e r.ready in
    can_note c.system r.log e c.number c.records valid (r.open_next).0 (subst (λ m. m < 2 ^ 64 - 1) kept.cursor room) kept.records

-- and where it does not go to the cluster, it leaves the records as they are
pub noted_next : (c : ClusterView) (e : Entry) → is_system c.system ≡ true → ReadyFor e c → IsNotedHere c.number e c.records
noted_next c e valid r elsewhere = by_loss (kind_is (what e))
  where
    may : MayStand c.system r.log e
    may = IsLegal-last MayStand c.system r.log e (r.open_next).0

    live : BackupsLive (placement c.system r.log)
    live p q b found is = backups_live c.system r.log p q b valid (all_stand c.system r.log (r.open_log).0) found is

    by_loss : OneOf (what e) → records_after c.number (what e) c.records ≡ c.records
    by_loss (inl tells) = noted_here c.system r.log e c.number c.records (((may.stands).placed).1) tells live (kept_of c r.log e r.ready).records elsewhere
    by_loss (inr (inl page)) = by_page (λ w. records_after c.number w c.records ≡ c.records) (λ pid index. refl) (λ pid index bytes. refl) (what e) page
    by_loss (inr (inr (inl loss))) = ap (λ w. records_after c.number w c.records) loss.same
    by_loss (inr (inr (inr (inr (inl b))))) =
        ap (λ w. records_after c.number w c.records) b.same
        ∙ birth_left c.system r.log c.number c.records b.parent b.child live (kept_of c r.log e r.ready).records
        (sym (ap (λ w. goes_to (route (placement c.system r.log) w) c.number) b.same) ∙ ap (λ dests. goes_to dests c.number) (sym (((may.stands).placed).1)) ∙ elsewhere)
    by_loss (inr (inr (inr (inr (inr (inr y)))))) = ap (λ w. records_after c.number w c.records) y.same
    by_loss (inr (inr (inr (inr (inr (inl y)))))) =
        ap (λ w. records_after c.number w c.records) y.same
        ∙ renewal_left (placement c.system r.log) c.number y.to y.recs c.records (renewed_lives c.system r.log e y.to y.fresh y.recs (subst (KindHolds c.system r.log e) y.same (may.stands).kind))
        (sym (ap (λ w. goes_to (route (placement c.system r.log) w) c.number) y.same) ∙ ap (λ dests. goes_to dests c.number) (sym (((may.stands).placed).1)) ∙ elsewhere)
    by_loss (inr (inr (inr (inl of)))) =
        by_sync (λ w. goes_to (route (placement c.system r.log) w) c.number ≡ false → records_after c.number w c.records ≡ c.records) (λ pid at index bytes away. refl)
        (λ pid small read took away. cut_left c.system r.log c.number c.records pid small read took live (kept_of c r.log e r.ready).records away) (what e) of
        (ap (λ dests. goes_to dests c.number) (sym (((may.stands).placed).1)) ∙ elsewhere)
