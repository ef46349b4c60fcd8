-- A cluster that takes in the return of a cluster goes on to follow the log: no process, no record and no page server changes.
use Rattle.std.proofs.Common.{◌≡◌, ◌+◌, refl, sym, ◌∙◌, ap, subst, List, [], ◌∷◌, ◌++◌, Bool, false, true, Option}
use Rattle.t32_base.specs.declared.process.Pid.{Pid}
use Rattle.t32_base.specs.declared.process.ClusterNo.{ClusterNo}
use Rattle.sys_text.specs.declared.system.System.{System}
use Rattle.sys_text.specs.Valid.{is_system}
use Rattle.plain_kernel.specs.Kernel.{Kernel}
use Rattle.bus_msg.specs.declared.entry.What.{What}
use Rattle.bus_msg.specs.declared.entry.What.TheVariants.{Return}
use Rattle.bus_msg.specs.declared.entry.By.{By}
use Rattle.bus_msg.specs.declared.entry.By.TheVariants.{Cluster, Bus}
use Rattle.bus_msg.specs.declared.entry.Entry.{Entry}
use Rattle.bus_msg.specs.Places.{ClusterPlace, Places, lives_in}
use Rattle.bus_msg.specs.PlacedAfter.{placed_after, returned_cluster, what}
use Rattle.cert_sched.specs.Account.{is_exit_of}
use Rattle.cert_sched.specs.Legal.{MayStand}
use Rattle.cert_sched.specs.Deeds.{deeds_in, is_cut, letter_for, is_birth_of}
use Rattle.cert_sched.specs.Losses.{is_by_cluster}
use Rattle.cert_sched.specs.Moved.{is_fetch, is_page_is}
use Rattle.cert_sched.specs.Rules.{home_at, is_living}
use Rattle.cert_sched.specs.Schedule.{items_of, placement}
use Rattle.cert_sched.specs.Told.{cluster_lost}
use Rattle.cert_sched.proofs.LogLaws.{placement-snoc}
use Rattle.backup_laws.proofs.SpreadSafe.{kept_at}
use Rattle.backup_records.specs.Records.{record_after, records_after}
use Rattle.checkpoint_laws.specs.marks.Beside.{is_some_page}
use Rattle.log_laws.specs.records.Kept.{changes_in_place}
use Rattle.log_laws.proofs.records.KeptLaws.{records_kept}
use Rattle.log_laws.proofs.records.Standing.{all_stand}
use Rattle.page_server.specs.Account.{PagerState}
use Rattle.cluster_core.specs.Calls.{here_after, with_entry}
use Rattle.cluster_core.specs.Families.{family_after}
use Rattle.cluster_core.specs.Owed.{owed_after}
use Rattle.cluster_core.specs.Follows.{IsOpen}
use Rattle.cluster_core.specs.ForksAgain.{ForksLeft}
use Rattle.cluster_core.specs.Parts.{AllOwn}
use Rattle.cluster_core.specs.Recovered.{left_by, moved_by, with_all_waiting}
use Rattle.cluster_core.specs.Serving.{Serves}
use Rattle.cluster_core.specs.View.{ClusterView, next_count, with_server}
use Rattle.cluster_core.proofs.absorbing.Spared.{BringsNothing, Spares, follows_passed, passed}
use Rattle.cluster_core.proofs.absorbing.Unmoved.{emission_same, silent_same}
use Rattle.cluster_core.proofs.here.Beside.{FollowsBeside}
use Rattle.cluster_core.proofs.losses.Homes.{pids_home}

pub return_taken : (c : ClusterView) (e : Entry) (back : ClusterNo) → what e ≡ Return back → with_entry c e ≡ passed c e
return_taken c e back is = ap taken is ∙ sym (ap made is)
  where
    taken : What → ClusterView
    taken w = record c {
      cursor = c.cursor + 1;
      places = placed_after c.places w;
      here = with_all_waiting (moved_by c.places c.number w (records_after c.number w c.records)) (here_after w c.here);
      records = left_by c.places c.number w (records_after c.number w c.records);
      family = family_after w c.family;
      owed = owed_after c.number c.places w c.owed;
      steps = next_count c.steps;
    }

    made : What → ClusterView
    made w = record c { cursor = c.cursor + 1; places = placed_after c.places w; records = records_after c.number w c.records; family = family_after w c.family; owed = owed_after c.number c.places w c.owed; steps = next_count c.steps }

module _ (system : System) (log : List Entry) (e : Entry) (back : ClusterNo) (is : what e ≡ Return back) where
  abbrev later : List Entry
  later = log ++ e ∷ []

  abbrev places : Places
  places = placement system log

  there : placement system later ≡ placed_after places (Return back)
  there = placement-snoc system log e ∙ ap (placed_after places) is

  none : (k : Kernel) → items_of k (what e) ≡ []
  none k = ap (items_of k) is

  pub home_same : (q : Pid) → home_at (placement system later) q ≡ home_at places q
  home_same q = ap (λ places. home_at places q) there

  lives_still : (by : By) → is_living places by ≡ true → is_living (placement system later) by ≡ true
  lives_still (Cluster k) lives = ap (λ places. lives_in places k) there ∙ kept_at (λ (c : ClusterPlace). c.lives) returned_cluster (λ c lives. refl) places.clusters back.0 k.0 lives
  lives_still Bus lives = lives

  brings_nothing : BringsNothing system log e
  brings_nothing = record {
    no_loss = ap cluster_lost is;
    no_letter = λ p. ap (letter_for p) is;
    no_fetch = λ p i. ap (is_fetch p i) is;
    no_page_is = λ p i. ap (is_page_is p i) is;
    no_exit = λ p. ap (is_exit_of p) is;
    living = lives_still;
  }

  spares_each : (p : Pid) → Spares system log e p
  spares_each p = record {
    silent = silent_same system log e none p;
    emission = emission_same system log e none p;
    home = home_same p;
    no_cut = ap (is_cut p) is;
    no_birth = ap (is_birth_of p) is;
    no_page = ap (is_some_page p) is;
    no_deed = ap (deeds_in p) is;
    kept = λ x own. ap (λ w. record_after w x) is;
  }

module _ (system : System) (valid : is_system system ≡ true) (log : List Entry) (e : Entry) (back : ClusterNo) (is : what e ≡ Return back) (now : IsOpen MayStand system log) (next : IsOpen MayStand system (log ++ e ∷ [])) where
  pub follows_returned : (which : Pid → Bool) (c : ClusterView) (server : Option PagerState) → AllOwn c.cursor c.here → Serves (placement system log) e c.server server → FollowsBeside which system log c → is_by_cluster c.number e ≡ false
      → FollowsBeside which system (log ++ e ∷ []) (with_server server (with_entry c e))
  follows_returned which c server own serves f foreign =
      follows_passed system valid log e now next (brings_nothing system log e back is) which c server (return_taken c e back is) (λ p home. spares_each system log e back is p)
      (ap (λ (places : Places). pids_home c.number places.placed) (there system log e back is))
      (records_kept system log e c.number c.records valid (all_stand system (log ++ e ∷ []) next.0) (ap changes_in_place is) f.records)
      (subst (λ w. ForksLeft (family_after w c.family) c.here) (sym is) f.forks) own serves f foreign
