-- A page and a synchronisation of a process that may send them stand next.
use Rattle.std.proofs.Common.{◌≡◌, ℕ, ◌-◌, ◌≤◌, ◌<◌, refl, sym, ◌∙◌, ap, arith, List, Option, Some, is_some}
use Rattle.std.specs.Prelude.{option_map}
use Rattle.std.specs.Option.{option_map_or}
use Rattle.t32_base.specs.declared.process.Pid.{Pid}
use Rattle.sys_text.specs.declared.system.System.{System}
use Rattle.rv_mem.specs.Memory.{page_at}
use Rattle.proc_state.specs.State.{ProcState}
use Rattle.sys_calls.proofs.Counting.{silently_counts}
use Rattle.bus_msg.specs.declared.entry.What.TheVariants.{Page, Sync}
use Rattle.bus_msg.specs.declared.entry.By.{By}
use Rattle.bus_msg.specs.declared.entry.Entry.{Entry}
use Rattle.cert_sched.specs.Appended.{entry_of}
use Rattle.cert_sched.specs.Schedule.{done, done_after}
use Rattle.cert_sched.specs.Account.{all_pages}
use Rattle.cert_sched.specs.Steps.{page_count, silent_upto}
use Rattle.cert_sched.specs.Kinds.{after_take, took_is, is_due, reads_after}
use Rattle.cert_sched.specs.Legal.{Stands}
use Rattle.cert_sched.proofs.LogLaws.{no_items}
use Rattle.cert_sched.proofs.StepLaws.{silent_from, done_kernel}
use Rattle.checkpoint_laws.specs.posts.Sending.{MaySend, MaySync}
use Rattle.checkpoint_laws.proofs.posts.SyncMade.{sync_made}
use Rattle.checkpoint_laws.proofs.posts.TakeLeaves.{take_leaves}

-- the step count of the process is not below that of the log
pub reached_later : (system : System) (log : List Entry) (p : Pid) (s : ProcState) → silent_upto system log p (s.small).steps ≡ Some s → done_after system log p ≤ (s.small).steps
reached_later system log p s reached =
    let f = silent_from system log p (s.small).steps s reached in
    let made = silently_counts ((s.small).steps - done f.kernel p) f.was s f.silent in
    let at : done f.kernel p ≡ ((f.was).small).steps = ap (λ (o : Option ProcState). option_map_or (λ (s : ProcState). (s.small).steps) o 0) f.there in
    let same = done_kernel system log f.kernel p f.before in
    omega (arith, made.steps, at, same)

pub page_stands : (system : System) (log : List Entry) (by : By) (p : Pid) (s : ProcState) (i : ℕ) → MaySend system log by p s → i < page_count system log p
    → Stands system log (entry_of system log (record { by = by; what = Page p (s.small).steps i (page_at s.memory i) }))
page_stands system log by p s i may within =
    let f = silent_from system log p (s.small).steps s may.reached in
    record {
      placed = (refl, refl, may.goes_on);
      by_right = may.by_home;
      applies = ap is_some (no_items system log (entry_of system log (record { by = by; what = Page p (s.small).steps i (page_at s.memory i) })) (λ k. refl) ∙ f.before);
      kind = record { within = within; not_before = reached_later system log p s may.reached; page = ap (option_map (λ (s : ProcState). page_at s.memory i)) may.reached };
    }

pub sync_stands : (system : System) (log : List Entry) (by : By) (p : Pid) (s : ProcState) (read : List ℕ) (took : Option ℕ) → MaySend system log by p s → MaySync system log p s read took
    → Stands system log (entry_of system log (record { by = by; what = Sync p (after_take took s).small read took }))
sync_stands system log by p s read took may sync =
    -- a take is no step
    let reached : silent_upto system log p ((after_take took s).small).steps ≡ Some s = ap (silent_upto system log p) (take_leaves took s sync.takes).steps ∙ may.reached in
    record {
      placed = (refl, refl, may.goes_on);
      by_right = may.by_home;
      applies = (sync_made system log (entry_of system log (record { by = by; what = Sync p (after_take took s).small read took })) p (after_take took s).small read took s refl reached sync.takes).applies;
      kind = record {
        state = ap (option_map (λ (s : ProcState). (after_take took s).small)) reached;
        took_first = ap (option_map (took_is took)) reached ∙ ap Some sync.takes;
        reads = ap (option_map (reads_after system log p took)) reached ∙ ap Some (sym sync.reads);
        children = sync.children;
        account = ap Some sync.account ∙ sym (ap (option_map (λ (s : ProcState). all_pages s.memory)) reached);
        due = ap (option_map (is_due system log p took)) reached ∙ ap Some sync.due;
      };
    }
