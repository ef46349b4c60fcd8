-- The new backup of a process that has run may stand next: the record of the log with it is the one that it carries.
use Rattle.std.proofs.Common.{◌≡◌, ◌-◌, refl, sym, ◌∙◌, ap, add-zero, List, [], ◌∷◌, ◌++◌, true, false, eq-eqb, Some, is_some}
use Rattle.std.specs.Prelude.{option_and_then, option_map}
use Rattle.std.specs.Option.{option_map_or}
use Rattle.plain_kernel.specs.Kernel.{process_at}
use Rattle.t32_base.specs.declared.process.Pid.{Pid}
use Rattle.t32_base.specs.declared.process.ClusterNo.{ClusterNo}
use Rattle.write_count.specs.Counting.{no_counts}
use Rattle.sys_text.specs.declared.system.System.{System}
use Rattle.sys_text.specs.Valid.{is_system}
use Rattle.proc_state.specs.State.{ProcState}
use Rattle.sys_calls.proofs.Counting.{silently_counts}
use Rattle.bus_msg.specs.declared.entry.By.TheVariants.{Cluster}
use Rattle.bus_msg.specs.declared.entry.Entry.{Entry}
use Rattle.bus_msg.specs.Places.{same_pid}
use Rattle.cert_sched.specs.Appended.{entry_of}
use Rattle.cert_sched.specs.Schedule.{done, placement, process_after}
use Rattle.cert_sched.specs.Deeds.{arrived_count}
use Rattle.cert_sched.specs.Record.{backup_record, record_with}
use Rattle.cert_sched.specs.Account.{all_pages}
use Rattle.cert_sched.specs.Rules.{has_its_pages, keeps_limits}
use Rattle.cert_sched.specs.Legal.{IsLegalBy, MayFollow, Stands}
use Rattle.cert_sched.proofs.RecordLaws.{arrived_count-other, backup_record-cut}
use Rattle.cert_sched.proofs.StepLaws.{silent_applies, silent_from, process_after-silent}
use Rattle.cert_sched.proofs.RollLaws.{all_roll, rolls_next}
use Rattle.cert_sched.proofs.OpenLaws.{unended_open}
use Rattle.cert_sched.proofs.CutLaws.{by_home_there}
use Rattle.log_laws.proofs.records.Standing.{itself}
use Rattle.checkpoint_laws.specs.posts.Sending.{MaySend}
use Rattle.backup_mode.specs.Posts.{fresh_post, renewed_record}
use Rattle.backup_laws.specs.Posts.{MayRenew}

module _ (system : System) (log : List Entry) (k to : ClusterNo) (p : Pid) (s : ProcState) (valid : is_system system ≡ true) (legal : IsLegalBy Stands system log)
    (may : MaySend system log (Cluster k) p s) where
  abbrev e : Entry
  e = entry_of system log (fresh_post k to p s)

  own : same_pid p p ≡ true
  own = eq-eqb p.0 p.0 refl

  -- as many letters have arrived at the process as came to it
  arrived : s.next ≡ arrived_count log p
  arrived =
      let f = silent_from system log p (s.small).steps s may.reached in
      let there : process_after system log p ≡ Some f.was = ap (λ o. option_and_then (λ k. process_at k p) o) f.before ∙ f.there in
      let open_still = unended_open Stands itself system log p valid legal (by_home_there (placement system log) (Cluster k) p may.by_home) f.was there in
      (silently_counts ((s.small).steps - done f.kernel p) f.was s f.silent).next
      ∙ rolls_next system log p f.was ((all_roll Stands itself system log valid legal).rolls p f.was there open_still)

  -- the record after it is the one that it carries
  pub renewed : backup_record system (log ++ e ∷ []) p ≡ Some (renewed_record p s)
  renewed =
      let came : arrived_count (log ++ e ∷ []) p ≡ s.next = arrived_count-other log e p refl ∙ add-zero (arrived_count log p) ∙ sym arrived in
      backup_record-cut system log e p own
      ∙ ap (option_map (λ (s : ProcState). record_with p true s.mail (arrived_count (log ++ e ∷ []) p) [] s)) (process_after-silent system log e p (s.small).steps s may.reached (λ k. refl))
      ∙ (λ i. Some (record { pid = p; state = Some s.small; saved = s.mail; next = came i; counts = no_counts; births = [] }))

  pub fresh_stands : MayRenew system log p s to → Stands system log e
  fresh_stands renew = record {
    placed = (refl, refl, may.goes_on);
    by_right = may.by_home;
    applies = silent_applies system log e p (s.small).steps s may.reached (λ k. refl);
    kind = record {
      backup = renew.backup;
      silent = ap is_some may.reached;
      records = ap (λ o. o ∷ []) (sym renewed);
      children = renew.children;
      account = ap Some renew.account ∙ sym (ap (option_map (λ (s : ProcState). all_pages s.memory)) may.reached);
    };
  }

  -- within the limits, and with all its pages, it may follow
  pub fresh_follows : MayRenew system log p s to → keeps_limits system log p s ≡ true → has_its_pages system log p ≡ true → MayFollow system log e
  fresh_follows renew within pages = record {
    stands = fresh_stands renew;
    limits = ap (λ o. option_map_or (keeps_limits system log p) o false) may.reached ∙ within;
    backup = refl;
    new_page = refl;
    pages = pages;
  }
