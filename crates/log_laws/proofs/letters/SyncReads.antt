-- The letters that a synchronisation tells of were read from the fronts of the ends of its process.
use Rattle.std.proofs.Common.{◌≡◌, ℕ, refl, sym, ◌∙◌, List, true, Option, Some, None, is_some, true≢false, false}
use Rattle.std.specs.Prelude.{option_map}
use Rattle.t32_base.specs.declared.process.Pid.{Pid}
use Rattle.t32_base.specs.Small.{SmallState}
use Rattle.sys_text.specs.declared.system.System.{System}
use Rattle.sys_text.specs.Valid.{is_system}
use Rattle.proc_state.specs.State.{ProcState, can_take, has_ended}
use Rattle.bus_msg.specs.declared.entry.Entry.{Entry}
use Rattle.backup_queue.specs.Fronts.{AreFronts, AreOnEnds}
use Rattle.backup_queue.specs.Queue.{unread}
use Rattle.cert_sched.specs.Parts.{rising}
use Rattle.cert_sched.specs.Schedule.{process_after}
use Rattle.cert_sched.specs.Steps.{numbers_read, saved_of, silent_upto}
use Rattle.cert_sched.specs.Kinds.{SyncHolds, reads_after, after_take, took_is}
use Rattle.cert_sched.specs.Legal.{IsLegalBy, Stands}
use Rattle.cert_sched.specs.Simulation.{IsUnended}
use Rattle.cert_sched.proofs.MailLaws.{silent_upto-ends}
use Rattle.cert_sched.proofs.OpenLaws.{unended_open}
use Rattle.cert_sched.proofs.ThereLaws.{unended_there}
use Rattle.log_laws.specs.letters.ReadsFrom.{ReadsFrom}
use Rattle.log_laws.proofs.letters.SameRead.{any_left, any_fronts, any_ends}
use Rattle.log_laws.proofs.letters.LogReads.{itself, silent_reads, taken_reads}
use Rattle.std.proofs.lemmas.Bool.{and_parts}
use Rattle.std.proofs.lemmas.Option.{same_Some}

-- Silent steps lead to the process that synchronises, and takes the signal that is told; these are the numbers of the letters that it has then read.
pub record SyncedAt (system : System) (log : List Entry) (p : Pid) (small : SmallState) (read : List ℕ) (took : Option ℕ) : Type 0 where
  pub at : ProcState
  pub reached : silent_upto system log p small.steps ≡ Some at
  pub takes : took_is took at ≡ true
  pub state : (after_take took at).small ≡ small
  pub reads : rising read ≡ numbers_read (saved_of system log p) (after_take took at).mail

pub synced_at : (system : System) (log : List Entry) (p : Pid) (small : SmallState) (read : List ℕ) (took : Option ℕ) → SyncHolds system log p small read took → SyncedAt system log p small read took
synced_at system log p small read took holds = by_process (silent_upto system log p small.steps) refl holds.state holds.took_first holds.reads
  where
    by_process : (o : Option ProcState) → silent_upto system log p small.steps ≡ o → option_map (λ (s : ProcState). (after_take took s).small) o ≡ Some small → option_map (took_is took) o ≡ Some true → option_map (reads_after system log p took) o ≡ Some (rising read)
        → SyncedAt system log p small read took
    by_process None reached state takes reads = cc
    by_process (Some s) reached state takes reads = record {
      at = s;
      reached = reached;
      takes = same_Some (took_is took s) true takes;
      state = same_Some (after_take took s).small small state;
      reads = sym (same_Some (numbers_read (saved_of system log p) (after_take took s).mail) (rising read) reads);
    }

module _ (system : System) (log : List Entry) (p : Pid) (small : SmallState) (read : List ℕ) (took : Option ℕ) (valid : is_system system ≡ true) (legal : IsLegalBy Stands system log) (holds : SyncHolds system log p small read took) (unended : IsUnended system log p) where
  pub synced : SyncedAt system log p small read took
  synced = synced_at system log p small read took holds

  after_reads : (took : Option ℕ) (s : ProcState) → silent_upto system log p small.steps ≡ Some s → has_ended (s.small).status ≡ false → took_is took s ≡ true → ReadsFrom (saved_of system log p) (after_take took s).mail
  after_reads None s reached goes_on takes = silent_reads system log p small.steps s valid legal reached goes_on
  after_reads (Some g) s reached goes_on takes = taken_reads system log p small.steps s valid legal reached goes_on (and_parts (can_take s) _ takes).0

  synced_reads : ReadsFrom (saved_of system log p) (after_take took synced.at).mail
  synced_reads = by_process (process_after system log p) refl (unended_there Stands itself system log p valid legal unended)
    where
      by_process : (o : Option ProcState) → process_after system log p ≡ o → is_some o ≡ true → ReadsFrom (saved_of system log p) (after_take took synced.at).mail
      by_process None there some = absurd (true≢false (sym some))
      by_process (Some now) there some =
          after_reads took synced.at synced.reached
          (silent_upto-ends system log p small.steps now synced.at there synced.reached ∙ unended_open Stands itself system log p valid legal unended now there) synced.takes

  pub sync_left : unread read (saved_of system log p) ≡ (after_take took synced.at).mail
  sync_left = any_left read (saved_of system log p) (after_take took synced.at).mail synced.reads synced_reads

  pub sync_fronts : AreFronts read (saved_of system log p)
  sync_fronts = any_fronts read (saved_of system log p) (after_take took synced.at).mail synced.reads synced_reads

  pub sync_ends : AreOnEnds read (saved_of system log p)
  sync_ends = any_ends read (saved_of system log p) (after_take took synced.at).mail synced.reads synced_reads
