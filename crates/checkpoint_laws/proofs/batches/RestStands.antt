-- The rest of a batch may stand, post by post, and has no page that was sent already.
use Rattle.std.proofs.Common.{◌≡◌, ℕ, ◌<◌, refl, sym, ◌∙◌, ap, subst, arith, List, [], ◌∷◌, ◌++◌, true, not, ltb, Option}
use Rattle.std.specs.List.{list_all}
use Rattle.std.proofs.lemmas.Bool.{and_parts}
use Rattle.std.proofs.lemmas.Bool.Decides.{nat_tests}
use Rattle.t32_base.specs.declared.process.Pid.{Pid}
use Rattle.t32_base.specs.declared.process.ClusterNo.{ClusterNo}
use Rattle.sys_text.specs.declared.system.System.{System}
use Rattle.sys_text.specs.Valid.{is_system}
use Rattle.rv_mem.specs.Memory.{page_at}
use Rattle.proc_state.specs.State.{ProcState}
use Rattle.bus_msg.specs.declared.entry.By.TheVariants.{Cluster}
use Rattle.bus_msg.specs.declared.entry.What.TheVariants.{Page}
use Rattle.bus_msg.specs.declared.entry.Entry.{Entry}
use Rattle.cert_sched.specs.Appended.{entry_of}
use Rattle.cert_sched.specs.Moved.{any_since_moved, is_page_at}
use Rattle.cert_sched.specs.Account.{all_pages}
use Rattle.cert_sched.specs.Steps.{numbers_read, page_count, saved_of}
use Rattle.cert_sched.specs.Legal.{IsLegalBy, Stands}
use Rattle.cert_sched.proofs.LogLaws.{IsLegal-snoc}
use Rattle.checkpoint_laws.specs.posts.Batched.{AllNew, AllStand}
use Rattle.checkpoint_laws.proofs.posts.Standing.{page_stands, sync_stands}
use Rattle.checkpoint_laws.proofs.posts.TakeLeaves.{takes_leave}
use Rattle.checkpoint_laws.specs.batches.Underway.{BatchMay, PagesMay, page_left, posts_left, sync_left}
use Rattle.checkpoint_laws.proofs.batches.PageSent.{page_sent}
use Rattle.checkpoint_laws.proofs.batches.WholeAccount.{whole}

less_of : (i n : ℕ) → ltb i n ≡ true → i < n
less_of i n less = grind (arith, nat_tests)

-- the next page of a process that may be sent
pub page_may_stand : (system : System) (log : List Entry) (k : ClusterNo) (p : Pid) (s : ProcState) (i : ℕ) (js : List ℕ) → PagesMay system log k p s (i ∷ js) → Stands system log (entry_of system log (page_left k p s i))
page_may_stand system log k p s i js m =
    let below = and_parts (ltb i (page_count system log p)) (list_all (λ j. ltb j (page_count system log p)) js) (m.left).within in
    page_stands system log (Cluster k) p s i m.may (less_of i (page_count system log p) below.0)

-- the next page of a batch
pub next_stands : (system : System) (log : List Entry) (k : ClusterNo) (p : Pid) (s : ProcState) (read : List ℕ) (took : Option ℕ) (i : ℕ) (js : List ℕ) → BatchMay system log k p s read took (i ∷ js) → Stands system log (entry_of system log (page_left k p s i))
next_stands system log k p s read took i js b =
    let below = and_parts (ltb i (page_count system log p)) (list_all (λ j. ltb j (page_count system log p)) js) (b.left).within in
    let same = takes_leave took b.before s b.takes in
    subst (λ (r : ℕ × List ℕ). Stands system log (entry_of system log (record { by = Cluster k; what = Page p r.0 i (page_at r.1 i) }))) (λ j. (sym same.steps j, sym same.memory j))
    (page_stands system log (Cluster k) p b.before i b.may (less_of i (page_count system log p) below.0))

-- the state, where no page is left
pub last_stands : (system : System) (log : List Entry) (k : ClusterNo) (p : Pid) (s : ProcState) (read : List ℕ) (took : Option ℕ) → is_system system ≡ true → IsLegalBy Stands system log → BatchMay system log k p s read took [] → Stands system log (entry_of system log (sync_left k p s read took))
last_stands system log k p s read took valid legal b =
    let same = takes_leave took b.before s b.takes in
    subst (λ (t : ProcState). Stands system log (entry_of system log (sync_left k p t read took))) (b.takes).after
    (sync_stands system log (Cluster k) p b.before read took b.may
    (record {
      takes = (b.takes).can;
      reads = b.reads ∙ sym (ap (λ (t : ProcState). numbers_read (saved_of system log p) t.mail) (b.takes).after);
      children = b.children;
      account = whole system log k p s read took valid legal b ∙ ap all_pages same.memory;
      due = b.due;
    }))

pub rest_stands : (system : System) (log : List Entry) (k : ClusterNo) (p : Pid) (s : ProcState) (read : List ℕ) (took : Option ℕ) (indices : List ℕ) → is_system system ≡ true → IsLegalBy Stands system log → BatchMay system log k p s read took indices
    → AllStand system log (posts_left k p s read took indices)
rest_stands system log k p s read took [] valid legal b = (last_stands system log k p s read took valid legal b, tt)
rest_stands system log k p s read took (i ∷ js) valid legal b =
    let next = next_stands system log k p s read took i js b in
    (next, rest_stands system (log ++ entry_of system log (page_left k p s i) ∷ []) k p s read took js valid (IsLegal-snoc Stands system log (entry_of system log (page_left k p s i)) legal next) (page_sent system log k p s i read took js b))

pub rest_is_new : (system : System) (log : List Entry) (k : ClusterNo) (p : Pid) (s : ProcState) (read : List ℕ) (took : Option ℕ) (indices : List ℕ) → BatchMay system log k p s read took indices → AllNew system log (posts_left k p s read took indices)
rest_is_new system log k p s read took [] b = (refl, tt)
rest_is_new system log k p s read took (i ∷ js) b =
    let fresh = and_parts (not (any_since_moved system log p (is_page_at p i (s.small).steps))) (list_all (λ j. not (any_since_moved system log p (is_page_at p j (s.small).steps))) js) (b.left).unsent in
    (fresh.0, rest_is_new system (log ++ entry_of system log (page_left k p s i) ∷ []) k p s read took js (page_sent system log k p s i read took js b))
