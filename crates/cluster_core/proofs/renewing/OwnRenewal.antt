-- A cluster that takes in a post of what brings a process its new backup goes on to follow the log: a page of the process, or the new backup itself.
use Rattle.std.proofs.Common.{◌≡◌, ◌⊎◌, ℕ, ◌+◌, ◌-◌, ◌≤◌, refl, sym, ◌∙◌, ap, subst, arith, List, [], ◌∷◌, ◌++◌, length, length-append, Bool, true, false, cond, not, ◌&&◌, leb, eqb-true, eq-eqb, ne_eqb, Option, Some, None, true≢false, inl, inr}
use Rattle.std.specs.Prelude.{find, is_some, option_map}
use Rattle.std.specs.Option.{option_map_or}
use Rattle.std.proofs.lemmas.Bool.Decides.{nat_tests}
use Rattle.std.proofs.lemmas.List.{length-replicate}
use Rattle.std.proofs.lemmas.Option.{same_Some}
use Rattle.t32_base.specs.declared.process.Pid.{Pid}
use Rattle.t32_base.specs.declared.process.ClusterNo.{ClusterNo}
use Rattle.sys_text.specs.declared.system.System.{System}
use Rattle.sys_text.specs.Valid.{is_system}
use Rattle.rv_mem.specs.Memory.{page_at}
use Rattle.proc_state.specs.declared.process.Process.{Process}
use Rattle.proc_state.specs.State.{ProcState, state_of}
use Rattle.bus_msg.specs.declared.entry.Entry.{Entry}
use Rattle.bus_msg.specs.declared.entry.What.{What}
use Rattle.bus_msg.specs.declared.entry.What.TheVariants.{Rebackup}
use Rattle.bus_msg.specs.declared.entry.Post.{Post}
use Rattle.bus_msg.specs.Places.{Places, same_pid}
use Rattle.bus_msg.specs.PlacedAfter.{placed_after, what}
use Rattle.channel_table.specs.Changes.{pids_differ}
use Rattle.cert_sched.specs.Appended.{entry_of}
use Rattle.cert_sched.specs.Deeds.{arrived_count}
use Rattle.cert_sched.specs.Legal.{IsLegalBy, Stands, MayStand}
use Rattle.cert_sched.specs.Parts.{rising}
use Rattle.cert_sched.specs.Schedule.{done_after, placement, process_after}
use Rattle.cert_sched.specs.Simulation.{IsUnended}
use Rattle.cert_sched.specs.Steps.{numbers_read}
use Rattle.cert_sched.proofs.LogLaws.{IsLegal-last, placement-snoc}
use Rattle.cert_sched.proofs.MadeLaws.{apart_from}
use Rattle.cert_sched.proofs.StepLaws.{done_after-other, process_after-beside, process_after-silent}
use Rattle.log_laws.proofs.records.KeptLaws.{records_kept}
use Rattle.log_laws.proofs.records.Standing.{all_stand}
use Rattle.checkpoint_laws.specs.posts.Marked.{arrived_below}
use Rattle.checkpoint_laws.specs.batches.Underway.{PagesMay, page_left}
use Rattle.checkpoint_laws.proofs.batches.PageSent.{pages_sent}
use Rattle.checkpoint_laws.proofs.limits.RestLimits.{page_keeps}
use Rattle.checkpoint_laws.proofs.marks.EntryMarks.{marks_kept}
use Rattle.checkpoint_laws.proofs.posts.PageEntry.{page_saved, page_start}
use Rattle.backup_mode.specs.Posts.{fresh_post, renewed_record}
use Rattle.backup_laws.specs.Posts.{CountsFrom}
use Rattle.backup_laws.proofs.RenewalMarks.{renewal_marked, renewal_others, renewal_own as renewal_upto}
use Rattle.backup_laws.proofs.RenewedMarks.{fresh_beside}
use Rattle.page_server.specs.Account.{PagerState}
use Rattle.residents.specs.Held.{Held, IsHeldWithin, Runs, Waits, held_of, renewed, renewed_held, with_renewed}
use Rattle.residents.specs.Residents.{pids_in}
use Rattle.residents.proofs.Changing.{pid_same}
use Rattle.cluster_core.specs.Calls.{absorbed, with_entry}
use Rattle.cluster_core.specs.Follows.{Follows, IsOpen, StandsBetween}
use Rattle.cluster_core.specs.Holds.{CarriesMarks, IsHeldAs, MarkedIfThere, process_in, unended_process}
use Rattle.cluster_core.specs.Parts.{AllOwn}
use Rattle.cluster_core.specs.Queue.{Nothing}
use Rattle.cluster_core.specs.Renewing.{Renews, renewing_left}
use Rattle.cluster_core.specs.Serving.{Serves}
use Rattle.cluster_core.specs.Standing.{has_begun}
use Rattle.cluster_core.specs.View.{ClusterView, after_sent, renewed_by, renewed_by_head, head_of, held_at, limits_of, with_server}
use Rattle.cluster_core.proofs.absorbing.ByKind.{IsRenewal}
use Rattle.cluster_core.proofs.absorbing.Counted.{lost_before}
use Rattle.cluster_core.proofs.absorbing.Following.{counted_own}
use Rattle.cluster_core.proofs.absorbing.Renewed.{brings_nothing, home_same, pids_same, renewal_taken}
use Rattle.cluster_core.proofs.absorbing.Served.{accounts_next, ahead_after}
use Rattle.cluster_core.proofs.absorbing.Spared.{Spares, emission_stays, held_stays, passed, silent_stays}
use Rattle.cluster_core.proofs.absorbing.Telling.{at_once}
use Rattle.cluster_core.proofs.awaiting.Awaited.{awaited_after}
use Rattle.cluster_core.proofs.awaiting.OwedNext.{owed_next}
use Rattle.cluster_core.proofs.births.FamilyNext.{family_next}
use Rattle.cluster_core.proofs.forks.ForksAgain.{SameForks, forks_kept, forks_renewed, run_forks, same_forks}
use Rattle.cluster_core.proofs.here.Beside.{FollowsBeside, one_of_them}
use Rattle.cluster_core.proofs.here.Here.{is_among}
use Rattle.cluster_core.proofs.here.Owning.{own_at}
use Rattle.cluster_core.proofs.losses.Homes.{HomeHere, pids_apart, home_here}
use Rattle.cluster_core.proofs.paging.HasPages.{pages_after}
use Rattle.cluster_core.proofs.renewing.RenewalPosts.{renewal_falls, renewal_fetches_none, renewal_moves_other, renewal_state}
use Rattle.cluster_core.proofs.renewing.Renewing.{sent_there, with_renewal, without_renewal}
use Rattle.cluster_core.proofs.syncs.Batching.{all_but, arrived_low, unqueued}
use Rattle.cluster_core.proofs.syncs.OwnBatch.{AsideOf, follows_head, left}
use Rattle.cluster_core.proofs.syncs.Synchronising.{sync_taken}

-- ---- a process that counts from where it stands

pub pids_renewed : (p : Pid) (here : List (Pid × Held)) → pids_in (with_renewed p here) ≡ pids_in here
pids_renewed p [] = refl
pids_renewed p (e ∷ here) = by_test (same_pid e.0 p) (pids_renewed p here)
  where
    by_test : (b : Bool) → pids_in (with_renewed p here) ≡ pids_in here → ((cond b (e.0, renewed_held e.1) e).0).0 ∷ pids_in (with_renewed p here) ≡ (e.0).0 ∷ pids_in here
    by_test true more = ap (λ ns. (e.0).0 ∷ ns) more
    by_test false more = ap (λ ns. (e.0).0 ∷ ns) more

-- so is it of the head of a queue that was sent
pub pids_by_head : (queue : List Post) (here : List (Pid × Held)) → pids_in (renewed_by_head queue here) ≡ pids_in here
pids_by_head [] here = refl
pids_by_head (head ∷ rest) here = by_what head.what
  where
    by_what : (w : What) → pids_in (renewed_by w here) ≡ pids_in here
    by_what (Rebackup to true (r ∷ rs)) = pids_renewed r.pid here
    by_what (Rebackup to true []) = refl
    by_what (Rebackup to false recs) = refl
    by_what _ = refl

-- what is found then: at its pid it as it counts then, and at any other what was there
renewed_found : (p : Pid) (here : List (Pid × Held)) (q : Pid) → held_of (with_renewed p here) q ≡ option_map (λ h. cond (same_pid p q) (renewed_held h) h) (held_of here q)
renewed_found p [] q = refl
renewed_found p (e ∷ here) q = by_tests (same_pid e.0 p) (same_pid e.0 q) refl refl (renewed_found p here q)
  where
    of : Held → Held
    of h = cond (same_pid p q) (renewed_held h) h

    rest_now : Option (Pid × Held)
    rest_now = find (λ (e : Pid × Held). same_pid e.0 q) (with_renewed p here)

    rest : Option (Pid × Held)
    rest = find (λ (e : Pid × Held). same_pid e.0 q) here

    turned : same_pid e.0 q ≡ true → same_pid p q ≡ same_pid e.0 p
    turned own = ap (same_pid p) (sym (pid_same e.0 q (eqb-true (e.0).0 q.0 own))) ∙ either (same_pid e.0 p) refl
      where
        either : (b : Bool) → same_pid e.0 p ≡ b → same_pid p e.0 ≡ same_pid e.0 p
        either true is = ap (λ r. same_pid p r) (pid_same e.0 p (eqb-true (e.0).0 p.0 is)) ∙ ap (λ r. same_pid r p) (sym (pid_same e.0 p (eqb-true (e.0).0 p.0 is)))
        either false is = ne_eqb p.0 (e.0).0 (λ same. true≢false (sym (eq-eqb (e.0).0 p.0 (sym same)) ∙ is)) ∙ sym is

    now : Bool → Pid × Held
    now b = cond b (e.0, renewed_held e.1) e

    at : Option (Pid × Held) → Option Held
    at = option_map (λ (e : Pid × Held). e.1)

    by_tests : (b c : Bool) → same_pid e.0 p ≡ b → same_pid e.0 q ≡ c → held_of (with_renewed p here) q ≡ option_map of (held_of here q)
        → at (cond (same_pid (now b).0 q) (Some (now b)) rest_now) ≡ option_map of (at (cond (same_pid e.0 q) (Some e) rest))
    by_tests true true is own more =
        (λ i. at (cond (own i) (Some (e.0, renewed_held e.1)) rest_now))
        ∙ (λ i. Some (cond (sym (turned own ∙ is) i) (renewed_held e.1) e.1)) ∙ (λ i. option_map of (at (cond (sym own i) (Some e) rest)))
    by_tests false true is own more =
        (λ i. at (cond (own i) (Some e) rest_now)) ∙ (λ i. Some (cond (sym (turned own ∙ is) i) (renewed_held e.1) e.1)) ∙ (λ i. option_map of (at (cond (sym own i) (Some e) rest)))
    by_tests true false is other more = (λ i. at (cond (other i) (Some (e.0, renewed_held e.1)) rest_now)) ∙ more ∙ (λ i. option_map of (at (cond (sym other i) (Some e) rest)))
    by_tests false false is other more = (λ i. at (cond (other i) (Some e) rest_now)) ∙ more ∙ (λ i. option_map of (at (cond (sym other i) (Some e) rest)))

-- so it is where a process runs at that pid
abbrev ItOrOther : Pid → Process → List (Pid × Held) → Pid → Held → Type 0
ItOrOther p process here q h = ((p ≡ q) × (h ≡ Runs (renewed process))) ⊎ ((same_pid p q ≡ false) × (held_of here q ≡ Some h))

it_or_other : (p : Pid) (process : Process) (here : List (Pid × Held)) → held_of here p ≡ Some (Runs process)
    → (q : Pid) (h : Held) → held_of (with_renewed p here) q ≡ Some h → ItOrOther p process here q h
it_or_other p process here there q h at = by_pid (same_pid p q) refl
  where
    at_test : (b : Bool) → same_pid p q ≡ b → option_map (λ h. cond b (renewed_held h) h) (held_of here q) ≡ Some h
    at_test b is = ap (λ b. option_map (λ h. cond b (renewed_held h) h) (held_of here q)) (sym is) ∙ sym (renewed_found p here q) ∙ at

    as_it_is : (o : Option Held) → option_map (λ h. cond false (renewed_held h) h) o ≡ o
    as_it_is None = refl
    as_it_is (Some h) = refl

    by_pid : (b : Bool) → same_pid p q ≡ b → ItOrOther p process here q h
    by_pid true own =
        let me : p ≡ q = pid_same p q (eqb-true p.0 q.0 own) in
        let found : Some (Runs (renewed process)) ≡ Some h = ap (λ o. option_map (λ h. cond true (renewed_held h) h) o) (sym there ∙ ap (held_of here) me) ∙ at_test true own in
        inl (me, sym (same_Some (Runs (renewed process)) h found))
    by_pid false apart = inr (apart, sym (as_it_is (held_of here q)) ∙ at_test false apart)

-- ---- the new backup in the log

module _ (system : System) (valid : is_system system ≡ true) (log : List Entry) (b : ClusterView) (f : Follows system log b) (tried : b.tried ≡ true)
    (y : Renews system log b) (to : ClusterNo) (may : PagesMay system log b.number y.pid (state_of y.process) []) (own : AllOwn b.cursor (with_renewed y.pid b.here)) (now : IsOpen MayStand system log)
    (next : IsOpen MayStand system (log ++ entry_of system log (fresh_post b.number to y.pid (state_of y.process)) ∷ [])) where
  abbrev p : Pid
  p = y.pid

  abbrev s : ProcState
  s = state_of y.process

  abbrev after : Process
  after = renewed y.process

  abbrev e : Entry
  e = entry_of system log (fresh_post b.number to p s)

  abbrev later : List Entry
  later = log ++ e ∷ []

  abbrev places : Places
  places = placement system log

  renewal : IsRenewal (what e)
  renewal = record { to = to; fresh = true; recs = renewed_record p s ∷ []; same = refl }

  -- the cluster without the post, whose process counts from where it stands
  abbrev pub counted_anew : ClusterView
  counted_anew = record b { here = with_renewed p b.here; queue = []; tried = false }

  beside : FollowsBeside (all_but p) system log (unqueued b)
  beside = without_renewal system log b y valid now f

  stands : Stands system log e
  stands = (IsLegal-last MayStand system log e next.0).stands

  legal : IsLegalBy Stands system log
  legal = all_stand system log now.0

  differ : pids_differ places.placed ≡ true
  differ = pids_apart system log valid now.0

  reached : process_after system later p ≡ Some s
  reached = process_after-silent system log e p (s.small).steps s (may.may).reached (λ k. refl)

  -- every other process stands where it stood
  spares : (q : Pid) → same_pid p q ≡ false → Spares system log e q
  spares q apart = record {
    silent = silent_stays system log later q process steps;
    emission = emission_stays system log later q process steps;
    home = home_same system valid log e renewal now next q;
    no_cut = apart;
    no_birth = refl;
    no_page = refl;
    no_deed = refl;
    kept = λ r own. refl;
  }
    where
      process : process_after system later q ≡ process_after system log q
      process = process_after-beside system log e p (s.small).steps s q (may.may).reached (λ k. refl) (apart_from p q apart)

      steps : done_after system later q ≡ done_after system log q
      steps = done_after-other system log e p q (s.small).steps refl stands.applies refl (apart_from p q apart)

  home : (q : Pid) (h : Held) → held_at b q ≡ Some h → HomeHere places q b.number
  home q h at = home_here places b.number (pids_in b.here) q differ (f.processes).each_once (is_among b.here q h at)

  -- what was here at a pid
  there : (q : Pid) (h : Held) → held_at counted_anew q ≡ Some h → ItOrOther p y.process b.here q h
  there = it_or_other p y.process b.here y.there

  -- ---- line by line

  held : (q : Pid) (h : Held) → held_at counted_anew q ≡ Some h → IsHeldAs system later [] q h
  held q h at = by_pid (there q h at)
    where
      by_pid : ItOrOther p y.process b.here q h → IsHeldAs system later [] q h
      by_pid (inl me) = subst (λ h. IsHeldAs system later [] q h) (sym me.1) (subst (λ q. IsHeldAs system later [] q (Runs after)) me.0 (at_once system later p s reached))
      by_pid (inr other) =
          held_stays system valid log e now next (brings_nothing system valid log e renewal now next) b.number Nothing q h tt (home q h other.1) (spares q other.0)
          (λ waiting is. (own_at b.cursor (with_renewed p b.here) q (Waits waiting) own (at ∙ ap Some is)).pid_is)
          (one_of_them (all_but p) system log [] q h (ap not other.0) ((beside.processes).held q h other.1))

  limits : (q : Pid) (h : Held) → held_at counted_anew q ≡ Some h → IsHeldWithin (limits_of system) h
  limits q h at = by_pid (there q h at)
    where
      none : (reads n m : ℕ) → (leb 0 reads && leb (n - n) m) ≡ true
      none reads n m = grind (arith, nat_tests)

      by_pid : ItOrOther p y.process b.here q h → IsHeldWithin (limits_of system) h
      by_pid (inl me) = subst (IsHeldWithin (limits_of system)) (sym me.1) (none system.syncreads ((y.process).small).steps system.syncsteps)
      by_pid (inr other) = f.limits q h other.1

  -- it runs as it did
  record WasThere (q : Pid) (h : Held) : Type 0 where
    pub was : Held
    pub there : held_at b q ≡ Some was
    pub runs : is_some (process_in was) ≡ is_some (process_in h)
    pub begun : has_begun was ≡ has_begun h
    pub forks : SameForks was h

  was_there : (q : Pid) (h : Held) → held_at counted_anew q ≡ Some h → WasThere q h
  was_there q h at = by_pid (there q h at)
    where
      by_pid : ItOrOther p y.process b.here q h → WasThere q h
      by_pid (inl me) = record {
        was = Runs y.process;
        there = ap (held_at b) (sym me.0) ∙ y.there;
        runs = ap (λ h. is_some (process_in h)) (sym me.1);
        begun = ap has_begun (sym me.1);
        forks = subst (SameForks (Runs y.process)) (sym me.1) (run_forks y.process after);
      }
      by_pid (inr other) = record { was = h; there = other.1; runs = refl; begun = refl; forks = same_forks h }

  -- its marks are those behind its new backup
  own_marks : CarriesMarks system later p after
  own_marks = record {
    marked = renewal_marked system b.number to p after (length ((y.process).ram).dirty) valid refl refl refl log [] legal may;
    pages = sym (length-replicate (length ((y.process).ram).dirty) false ∙ ap length y.unmarked ∙ length-replicate ((y.process).small).pages false);
    sent = renewal_upto system b.number to p s (s.small).steps log [] (omega arith) (sent_there system log b y valid now f);
  }

  marks : (q : Pid) (h : Held) → held_at counted_anew q ≡ Some h → MarkedIfThere CarriesMarks system later q (unended_process h)
  marks q h at = by_pid (there q h at)
    where
      at_p : MarkedIfThere CarriesMarks system later p (unended_process (Runs after))
      at_p = subst (λ b. MarkedIfThere CarriesMarks system later p (cond b None (Some after))) (sym may.runs) own_marks

      other_marks : (o : Option Process) → same_pid p q ≡ false → IsUnended system log q → ((process : Process) → o ≡ Some process → (process.mail).next ≤ arrived_count log q)
          → MarkedIfThere CarriesMarks system log q o → MarkedIfThere CarriesMarks system later q o
      other_marks None apart unended low m = tt
      other_marks (Some process) apart unended low m = record {
        marked = marks_kept system log e q process valid legal unended (fresh_beside system log b.number to p q s apart) (low process refl) m.marked;
        pages = m.pages;
        sent = renewal_others system b.number to p s (process.small).steps q log [] apart m.sent;
      }

      by_pid : ItOrOther p y.process b.here q h → MarkedIfThere CarriesMarks system later q (unended_process h)
      by_pid (inl me) =
          subst (λ h. MarkedIfThere CarriesMarks system later q (unended_process h)) (sym me.1)
          (subst (λ q. MarkedIfThere CarriesMarks system later q (unended_process (Runs after))) me.0 at_p)
      by_pid (inr other) =
          let unended : IsUnended system log q = ap is_some (home q h other.1).found in
          other_marks (unended_process h) other.0 unended
          (arrived_low system log q h valid legal unended (one_of_them (all_but p) system log [] q h (ap not other.0) ((beside.processes).held q h other.1)))
          (beside.marks q h other.1 (ap not other.0))

  -- ---- the whole

  pub follows_fresh : (server : Option PagerState) → Serves places e b.server server → Follows system later (with_server server (passed counted_anew e))
  follows_fresh server serves = record {
    log = record {
      cursor = ap (λ m. m + 1) (f.log).cursor ∙ sym (length-append log (e ∷ []));
      places = ap (λ (places : Places). placed_after places (what e)) (f.log).places ∙ sym (placement-snoc system log e);
    };
    processes = record { held = held; each_once = ap rising (pids_renewed p b.here) ∙ (f.processes).each_once ∙ ap rising (sym (pids_same system valid log e renewal now next b.number)) };
    queue = record { own = refl; legal = tt };
    queued = inl (record { queued = Nothing; posts = refl; together = tt });
    steps = record { counted = λ kept. counted_own system log e b.number b.tried b.steps tried ((f.steps).counted (lost_before log e b.number kept)) };
    limits = limits;
    pages = λ q h at runs. let w = was_there q h at in pages_after system log e q b.number valid now.0 stands differ (home q w.was w.there) refl (f.pages q w.was w.there (w.runs ∙ runs));
    marks = marks;
    family = family_next system log e b.family valid now next f.family;
    owed = owed_next system log e b.number b.places b.owed valid next (f.log).places refl f.owed;
    backups = λ q h at begun. let w = was_there q h at in awaited_after system log e q b.number valid now.0 stands differ (home q w.was w.there) refl (f.backups q w.was w.there (w.begun ∙ begun));
    forks = forks_renewed to true (renewed_record p s ∷ []) b.family (with_renewed p b.here)
        (forks_kept b.family b.family b.here (with_renewed p b.here) (λ parent child born. born)
        (λ q h at. let w = was_there q h at in record { was = w.was; there = w.there; same = w.forks }) f.forks);
    records = records_kept system log e b.number b.records valid (all_stand system later next.0) refl f.records;
    accounts = accounts_next system log e (unqueued b) (with_server server (passed counted_anew e)) Nothing refl serves refl refl refl tt beside.accounts;
    disk = ((f.disk).0, ahead_after places e b.server server serves (f.disk).1);
  }

-- ---- a page in the log

-- what is left tells of no other process
renewing_aside : (k : ClusterNo) (to : Option ClusterNo) (p : Pid) (s : ProcState) (indices : List ℕ) → AsideOf p (renewing_left k to p s indices)
renewing_aside k to p s indices = record { moves = λ q. renewal_moves_other k to p s q indices; fetches = λ q i. renewal_fetches_none k to p s q i indices }

-- it counts from where it did
counts_page : (system : System) (log : List Entry) (k : ClusterNo) (p : Pid) (s : ProcState) (i : ℕ) (process : Process)
    → CountsFrom system log p process → CountsFrom system (log ++ entry_of system log (page_left k p s i) ∷ []) p process
counts_page system log k p s i process counts =
    let page = entry_of system log (page_left k p s i) in
    let start = page_start system log page p (s.small).steps i (page_at s.memory i) refl p in
    let saved = page_saved system log page p (s.small).steps i (page_at s.memory i) refl p in
    record {
      since_start = counts.since_start ∙ sym (ap (λ (o : Option ProcState). option_map_or (λ (t : ProcState). (t.small).steps) o 0) start);
      read = counts.read ∙ sym (ap (λ saved. numbers_read (arrived_below (process.mail).next saved) (process.mail).letters) saved);
    }

-- the cluster with these pages queued, and no new backup behind them
abbrev paged : ClusterView → Pid → ProcState → List ℕ → ClusterView
paged b p s indices = record b { queue = renewing_left b.number None p s indices }

pages_queued : (system : System) (log : List Entry) (b : ClusterView) → is_system system ≡ true → IsOpen MayStand system log → Follows system log b → (y : Renews system log b)
    → Follows system log (paged b y.pid (state_of y.process) y.indices)
pages_queued system log b valid now f y =
    with_renewal system log (paged b y.pid (state_of y.process) y.indices)
    (record {
      pid = y.pid;
      process = y.process;
      to = None;
      indices = y.indices;
      posts = refl;
      there = y.there;
      owed = tt;
      within = y.within;
      may = y.may;
      counts = y.counts;
      unmarked = y.unmarked;
    })
    valid now
    (without_renewal system log b y valid now f) (sent_there system log b y valid now f)

module _ (system : System) (log : List Entry) (b : ClusterView) (i : ℕ) (indices : List ℕ) (valid : is_system system ≡ true) (tried : b.tried ≡ true)
    (own : AllOwn b.cursor b.here) (now : IsOpen MayStand system log) (f : Follows system log b) (y : Renews system log b)
    (is : y.indices ≡ i ∷ indices) (next : IsOpen MayStand system (log ++ entry_of system log (page_left b.number y.pid (state_of y.process) i) ∷ [])) where
  abbrev k : ClusterNo
  k = b.number

  abbrev at : Pid
  at = y.pid

  abbrev of : ProcState
  of = state_of y.process

  abbrev page : Entry
  page = entry_of system log (page_left k at of i)

  abbrev with_page : List Entry
  with_page = log ++ page ∷ []

  abbrev rest : List Post
  rest = renewing_left k None at of indices

  sent : PagesMay system with_page k at of indices
  sent = pages_sent system log k at of i indices (subst (PagesMay system log k at of) is y.may)

  -- the rest is left once the head was taken in
  pub page_follows : (server : Option PagerState) → Serves (placement system log) page b.server server → Follows system with_page (with_server server (passed (left b rest) page))
  page_follows server serves =
      follows_head system valid log (paged b at of (i ∷ indices)) (subst (λ js. Follows system log (paged b at of js)) is (pages_queued system log b valid now f y))
      tried own at y.process y.there (page_left k at of i) rest refl refl refl now next server serves
      (renewing_aside k None at of (i ∷ indices)) (renewing_aside k None at of indices) (renewal_state k None at of system with_page indices (sent.may).reached)
      (inr (inr (inr (inr (record {
        pid = at;
        process = y.process;
        to = None;
        indices = indices;
        posts = refl;
        there = y.there;
        owed = tt;
        within = page_keeps system log k at of i ∙ y.within;
        may = sent;
        counts = counts_page system log k at of i y.process y.counts;
        unmarked = y.unmarked;
      })))))

-- ---- the whole

-- After the entry that its head became, a cluster follows the log with it: it has the rest of the pages to send, or nothing once that was the new backup.
pub follows_own_renewal : (c : ClusterView) (log : List Entry) (e : Entry) (server : Option PagerState) → is_system c.system ≡ true
    → AllOwn c.cursor c.here → IsOpen MayStand c.system log → IsOpen MayStand c.system (log ++ e ∷ [])
    → (s : StandsBetween Follows c.system log e c) → Renews c.system log s.before → Serves (placement c.system log) e c.server server
    → Follows c.system (log ++ e ∷ []) (with_server server (absorbed c e))
follows_own_renewal c log e server valid own now next s y serves = by_form y.to y.indices y.posts refl refl
  where
    system : System
    system = c.system

    b : ClusterView
    b = s.before

    state : ProcState
    state = state_of y.process

    -- it is what the head left, and its entry is the one that the head became
    from_head : (head : Post) (rest : List Post) (v : ClusterView) → b.queue ≡ head ∷ rest → after_sent b (head ∷ rest) ≡ v
        → (AllOwn v.cursor v.here → IsOpen MayStand system (log ++ entry_of system log head ∷ []) → Serves (placement system log) (entry_of system log head) v.server server
        → Follows system (log ++ entry_of system log head ∷ []) (with_server server (absorbed v (entry_of system log head))))
        → Follows system (log ++ e ∷ []) (with_server server (absorbed c e))
    from_head head rest v posts sent follows =
        subst (λ x. Follows system (log ++ x ∷ []) (with_server server (absorbed c x))) whole
        (subst (λ v. Follows system (log ++ entry_of system log head ∷ []) (with_server server (absorbed v (entry_of system log head)))) (sym same)
        (follows (subst (λ (v : ClusterView). AllOwn v.cursor v.here) same own) (subst (λ x. IsOpen MayStand system (log ++ x ∷ [])) (sym whole) next)
        (subst (λ x. Serves (placement system log) x v.server server) (sym whole) (subst (λ (v : ClusterView). Serves (placement system log) e v.server server) same serves))))
      where
        whole : entry_of system log head ≡ e
        whole = same_Some (entry_of system log head) e (ap (λ ps. option_map (entry_of system log) (head_of ps)) (sym posts) ∙ s.head)

        same : c ≡ v
        same = s.sent ∙ ap (after_sent b) posts ∙ sent

    by_form : (to : Option ClusterNo) (indices : List ℕ) → b.queue ≡ renewing_left b.number to y.pid state indices → y.to ≡ to → y.indices ≡ indices
        → Follows system (log ++ e ∷ []) (with_server server (absorbed c e))
    by_form None [] posts goes is = let none : ◌≡◌ {A = Option Entry} None (Some e) = ap (λ ps. option_map (entry_of system log) (head_of ps)) (sym posts) ∙ s.head in cc
    by_form (Some to) [] posts goes is = from_head (fresh_post b.number to y.pid state) [] v posts refl follows
      where
        x : Entry
        x = entry_of system log (fresh_post b.number to y.pid state)

        v : ClusterView
        v = record b { here = with_renewed y.pid b.here; queue = []; tried = false }

        follows : AllOwn v.cursor v.here → IsOpen MayStand system (log ++ x ∷ []) → Serves (placement system log) x v.server server
            → Follows system (log ++ x ∷ []) (with_server server (absorbed v x))
        follows own next serves =
            subst (λ v. Follows system (log ++ x ∷ []) (with_server server v)) (sym (renewal_taken v x to true (renewed_record y.pid state ∷ []) refl))
            (follows_fresh system valid log b s.followed s.tried y to (subst (PagesMay system log b.number y.pid state) is y.may) own now next server serves)
    by_form to (i ∷ indices) posts goes is = from_head (page_left b.number y.pid state i) (renewing_left b.number to y.pid state indices) v posts refl follows
      where
        x : Entry
        x = entry_of system log (page_left b.number y.pid state i)

        v : ClusterView
        v = left b (renewing_left b.number to y.pid state indices)

        rest : List Post
        rest = renewing_left b.number None y.pid state indices

        -- the new backup behind the pages falls
        taken : absorbed v x ≡ passed (left b rest) x
        taken = ap (λ ps. record (with_entry v x) { queue = ps }) (renewal_falls b.number to y.pid state b.places (what x) indices) ∙ sync_taken (left b rest) x refl

        follows : AllOwn v.cursor v.here → IsOpen MayStand system (log ++ x ∷ []) → Serves (placement system log) x v.server server
            → Follows system (log ++ x ∷ []) (with_server server (absorbed v x))
        follows own next serves =
            subst (λ v. Follows system (log ++ x ∷ []) (with_server server v)) (sym taken) (page_follows system log b i indices valid s.tried own now s.followed y is next server serves)
