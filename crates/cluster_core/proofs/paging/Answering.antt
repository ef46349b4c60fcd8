-- A cluster that queues the answer that it owes as a page server.
use Rattle.std.proofs.Common.{inr, ◌≡◌, ℕ, ◌+◌, refl, sym, ◌∙◌, ap, subst, List, [], ◌∷◌, true, cond, ◌&&◌, eqb, eq-eqb, Option, Some, None, is_some, inl}
use Rattle.std.specs.Prelude.{option_and_then, option_map, slice_get}
use Rattle.std.proofs.lemmas.Bool.{and_parts}
use Rattle.t32_base.specs.declared.process.Pid.{Pid}
use Rattle.t32_base.specs.declared.process.ClusterNo.{ClusterNo}
use Rattle.sys_text.specs.declared.system.System.{System}
use Rattle.sys_text.specs.Valid.{is_system}
use Rattle.bus_msg.specs.declared.entry.What.TheVariants.{PageIs}
use Rattle.bus_msg.specs.declared.entry.By.TheVariants.{Cluster}
use Rattle.bus_msg.specs.declared.entry.Entry.{Entry}
use Rattle.bus_msg.specs.declared.entry.Post.{Post}
use Rattle.bus_msg.specs.Places.{Places, same_pid, servers_in}
use Rattle.cert_sched.specs.Appended.{entry_of}
use Rattle.cert_sched.specs.Account.{Account, page_in}
use Rattle.cert_sched.specs.Legal.{MayStand}
use Rattle.cluster_core.specs.Sent.{SentMayStand, is_sent}
use Rattle.cert_sched.specs.Kinds.{PageIsHolds}
use Rattle.cert_sched.specs.Losses.{is_from, least_steps}
use Rattle.cert_sched.specs.Moved.{waiting_fetches}
use Rattle.cert_sched.specs.Parts.{first_of}
use Rattle.cert_sched.specs.Rules.{is_by}
use Rattle.cert_sched.proofs.LogLaws.{no_items}
use Rattle.cert_sched.proofs.ThereLaws.{plain_there}
use Rattle.page_server.specs.Account.{PagerState, account}
use Rattle.page_accounts.specs.Answering.{earliest}
use Rattle.page_accounts.specs.Keeps.{KeepsAccounts}
use Rattle.page_accounts.proofs.WaitLaws.{earliest_is_kept}
use Rattle.log_laws.proofs.records.Standing.{all_stand}
use Rattle.cluster_core.specs.declared.worked.Worked.TheVariants.{Queued}
use Rattle.cluster_core.specs.View.{ClusterView, next_count, held_at}
use Rattle.residents.specs.Held.{Held, Runs}
use Rattle.cluster_core.specs.Holds.{IsHeldAs, KeepsIfThere}
use Rattle.cluster_core.specs.Follows.{Follows, IsOpen}
use Rattle.cluster_core.specs.Queue.{One, is_lone}
use Rattle.cluster_core.specs.Calls.{FollowsSome, GoesOn, WorkIs}
use Rattle.cluster_core.specs.Serving.{CanAnswer}
use Rattle.cluster_core.specs.Work.{AnswersNext, is_first_server, owes_answer}
use Rattle.cluster_core.proofs.losses.FirstServer.{first_by}
use Rattle.cluster_core.proofs.absorbing.Served.{accounts_answered, ahead_answered}
use Rattle.cluster_core.proofs.working.Working.{more_counted, marks_queued}

-- ---- the answer

abbrev pub page_post : ClusterNo → Pid → ℕ → List ℕ → Post
page_post k pid index bytes = record { by = Cluster k; what = PageIs pid index bytes }

-- it moves no process, and asks for no page
held_answered : (system : System) (log : List Entry) (k : ClusterNo) (pid : Pid) (index : ℕ) (bytes : List ℕ) (q : Pid) (h : Held) → IsHeldAs system log [] q h → IsHeldAs system log (page_post k pid index bytes ∷ []) q h
held_answered system log k pid index bytes q (Runs s) held = held
held_answered system log k pid index bytes q _ held = held

-- its first fetch is the earliest of the log
first_is : (fs : List (Pid × ℕ)) → first_of fs ≡ slice_get fs 0
first_is [] = refl
first_is (f ∷ fs) = refl

-- who keeps the accounts and the fetches of a log has the page of the earliest
page_holds : (system : System) (log : List Entry) (was : PagerState) (pid : Pid) (index : ℕ) (bytes : List ℕ) → KeepsAccounts system log was → earliest was ≡ Some (pid, index) → page_in (account was pid).kept index ≡ Some bytes → PageIsHolds system log pid index bytes
page_holds system log was pid index bytes keeps waits page = record {
  asked =
      let first : first_of (waiting_fetches system log) ≡ Some (pid, index) = ap first_of (sym keeps.waits) ∙ first_is was.fetches ∙ waits in
      ap (option_map (λ (f : Pid × ℕ). same_pid f.0 pid && eqb f.1 index)) first ∙ (λ i. Some (eq-eqb pid.0 pid.0 refl i && eq-eqb index index refl i));
  page = ap (λ (a : Account). page_in a.kept index) (sym (keeps.accounts pid)) ∙ page;
}

-- ---- the cluster

abbrev pub answered_view : ClusterView → Option PagerState → Post → ClusterView
answered_view c served post = record c { server = served; queue = post ∷ []; steps = next_count c.steps }

module _ (c : ClusterView) (served : Option PagerState) (post : Post) (owed : owes_answer c.places c.number c.server ≡ true) (a : AnswersNext c.number c.server served post) where
  abbrev one : Post
  one = page_post c.number a.pid a.index a.bytes

  -- it is the first of the page servers that live
  first : is_first_server c.places c.number ≡ true
  first = (and_parts (is_first_server c.places c.number) (is_some (option_and_then earliest c.server)) owed).0

  answer_may : (log : List Entry) → IsOpen MayStand c.system log → Follows c.system log c → SentMayStand c.system log (entry_of c.system log one)
  answer_may log go f = record {
    stands = record {
      placed = (refl, refl, go.1);
      by_right = ap (λ (places : Places). is_by (Cluster c.number) (first_of (servers_in places))) (sym (f.log).places) ∙ first_by c.places c.number first;
      applies = ap is_some (no_items c.system log (entry_of c.system log one) (λ k. refl)) ∙ plain_there MayStand (λ system log e may. may.stands) c.system log go.0;
      kind = page_holds c.system log a.was a.pid a.index a.bytes (subst (KeepsIfThere c.system log) a.old_is (f.accounts).keeps) a.waits a.page;
    };
    of_kind = refl;
    limits = refl;
    new_page = refl;
    pages = refl;
  }

  -- it is the cluster's own, and of a kind that clusters send
  pub answered_own : (is_from c.number post.by && true) ≡ true
  answered_own = ap (λ (p : Post). is_from c.number p.by && true) a.post_is ∙ ap (λ b. b && true) (eq-eqb (c.number).0 (c.number).0 refl)

  pub answered_sent : (is_sent post.what && true) ≡ true
  answered_sent = ap (λ (p : Post). is_sent p.what && true) a.post_is

  -- each process is held as before, with the answer queued
  held_then : (log : List Entry) → c.queue ≡ [] → Follows c.system log c → (q : Pid) (h : Held) → held_at c q ≡ Some h → IsHeldAs c.system log (post ∷ []) q h
  held_then log empty f q h there =
      let old : IsHeldAs c.system log [] q h = subst (λ queue. IsHeldAs c.system log queue q h) empty ((f.processes).held q h there) in
      subst (λ (p : Post). IsHeldAs c.system log (p ∷ []) q h) (sym a.post_is) (held_answered c.system log c.number a.pid a.index a.bytes q h old)

  may_then : (log : List Entry) → IsOpen MayStand c.system log → Follows c.system log c → SentMayStand c.system log (entry_of c.system log post)
  may_then log go f = subst (λ (p : Post). SentMayStand c.system log (entry_of c.system log p)) (sym a.post_is) (answer_may log go f)

  pub answered_goes_on : is_system c.system ≡ true → c.queue ≡ [] → GoesOn c (answered_view c served post)
  answered_goes_on valid empty log go f = record {
    log = record { cursor = (f.log).cursor; places = (f.log).places };
    processes = record {
      held = held_then log empty f;
      each_once = (f.processes).each_once;
    };
    queue = record {
      own = answered_own;
      legal = (may_then log go f, tt);
    };
    queued = inl (record { queued = One post; posts = refl; together = ap (λ (p : Post). is_lone p.what) a.post_is });
    steps = record { counted = λ kept. more_counted (least_steps log log c.number + cond c.tried 1 0) c.steps ((f.steps).counted kept) };
    limits = f.limits;
    pages = f.pages;
    marks = λ q h there.
        marks_queued c log post valid empty go f (ap (λ (p : Post). is_lone p.what) a.post_is) (ap (λ (p : Post). is_from c.number p.by) a.post_is ∙ eq-eqb (c.number).0 (c.number).0 refl) (may_then log go f) q h there (held_then log empty f q h there)
        (f.marks q h there);
    records = f.records;
    family = f.family;
    owed = f.owed;
    backups = f.backups;
    forks = f.forks;
    accounts = accounts_answered c.system log c (answered_view c served post) post a refl empty refl f.accounts;
    disk = ((f.disk).0, ahead_answered c.number c.server served post a (f.disk).1);
  }

  pub answered_work : c.owed ≡ [] → WorkIs c Queued (answered_view c served post)
  answered_work backed = inr (inl (backed, record { post = post; owed = owed; answers = a; rest = refl }))

-- ---- before it

-- a page server that follows some log has the page of the earliest fetch
pub can_answer : (c : ClusterView) → is_system c.system ≡ true → FollowsSome c → CanAnswer c.server
can_answer c valid f = by_server c.server ((f.follows).accounts).keeps
  where
    by_server : (o : Option PagerState) → KeepsIfThere c.system f.log o → CanAnswer o
    by_server None keeps = tt
    by_server (Some s) keeps = earliest_is_kept c.system f.log s valid (all_stand c.system f.log (f.open_log).0) keeps
