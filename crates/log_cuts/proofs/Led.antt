-- A process that silent steps lead on from a log of which something is kept: its limits, and whether the pages that came are its memory.
use Rattle.std.proofs.Common.{◌≡◌, ℕ, ◌-◌, ◌*◌, sym, ◌∙◌, ap, List, length, true, false, ◌&&◌, Some}
use Rattle.std.specs.Prelude.{nat_le}
use Rattle.t32_base.specs.declared.process.Pid.{Pid}
use Rattle.sys_text.specs.declared.system.System.{System}
use Rattle.sys_text.specs.Valid.{is_system}
use Rattle.proc_state.specs.State.{ProcState, has_ended}
use Rattle.bus_msg.specs.declared.entry.Entry.{Entry}
use Rattle.cert_sched.specs.Schedule.{process_after}
use Rattle.cert_sched.specs.Account.{Account, account_after, all_pages}
use Rattle.cert_sched.specs.Steps.{reads_since, saved_of, silent_upto, steps_since}
use Rattle.cert_sched.specs.Rules.{is_over, keeps_limits}
use Rattle.cert_sched.specs.Legal.{IsLegalBy, Stands, MayStand}
use Rattle.cert_sched.specs.Simulation.{IsUnended}
use Rattle.cert_sched.proofs.EndedLaws.{standing_runs}
use Rattle.cert_sched.proofs.MailLaws.{silently_ends}
use Rattle.page_server.specs.Account.{PagerState, account}
use Rattle.page_accounts.specs.Keeps.{KeepsAccounts}
use Rattle.log_audit.specs.Front.{FrontState}
use Rattle.log_laws.proofs.letters.LogReads.{silent_reads}
use Rattle.log_laws.proofs.records.Standing.{all_stand}
use Rattle.checkpoint_laws.specs.posts.Paged.{ArePaged}
use Rattle.checkpoint_laws.proofs.posts.PagedAccounts.{both_paged}
use Rattle.log_processes.specs.declared.sender.Limits.{Limits}
use Rattle.log_processes.specs.declared.sender.Sender.{Sender}
use Rattle.log_processes.specs.Sending.{KeepsSender, is_within}
use Rattle.log_processes.proofs.ReadCounts.{reads_left}
use Rattle.log_cuts.specs.Ahead.{upto}
use Rattle.log_cuts.specs.Memory.{is_memory}
use Rattle.log_cuts.proofs.Reaching.{silent_then, sized_then}
use Rattle.log_cuts.proofs.Remembering.{is_memory_of, memory_is}

-- what holds where they lead it
pub record IsLed (limits : Limits) (p : Pid) (kept : Sender) (pager : PagerState) (system : System) (log : List Entry) (at : ℕ) (s t : ProcState) : Type 0 where
  pub reached : silent_upto system log p at ≡ Some t
  pub ran : has_ended (s.small).status ≡ false
  pub runs : has_ended (t.small).status ≡ false
  pub reads : reads_since system log p t ≡ kept.saved - length t.mail
  pub steps : steps_since system log p t ≡ (t.small).steps - kept.start
  pub limited : keeps_limits system log p t ≡ is_within limits kept t
  pub account_is : is_memory (account pager p).now t.memory ≡ true → (account_after system log p).now ≡ all_pages t.memory
  pub is_account : (account_after system log p).now ≡ all_pages t.memory → is_memory (account pager p).now t.memory ≡ true

module _ (front : FrontState) (limits : Limits) (p : Pid) (s : ProcState) (kept : Sender) (pager : PagerState) (system : System) (log : List Entry)
    (valid : is_system system ≡ true) (legal : IsLegalBy MayStand system log)
    (sender : KeepsSender front limits p s kept system log) (accounts : KeepsAccounts system log pager) (goes_on : is_over system log ≡ false)
    (unended : IsUnended system log p) (at : ℕ) (t : ProcState) (led : upto at s ≡ Some t) where
  there : process_after system log p ≡ Some s
  there = (sender.process).there

  stood : IsLegalBy Stands system log
  stood = all_stand system log legal

  reached : silent_upto system log p at ≡ Some t
  reached = silent_then system log p s there at ∙ led

  ran : has_ended (s.small).status ≡ false
  ran = standing_runs MayStand (λ system log e may. may.stands) system log legal goes_on p s there unended

  runs : has_ended (t.small).status ≡ false
  runs = silently_ends (at - (s.small).steps) s t led ∙ ran

  reads : reads_since system log p t ≡ kept.saved - length t.mail
  reads = reads_left (saved_of system log p) t.mail (silent_reads system log p at t valid stood reached runs)
      ∙ ap (λ n. n - length t.mail) (sym (sender.process).letters)

  steps : steps_since system log p t ≡ (t.small).steps - kept.start
  steps = ap (λ n. (t.small).steps - n) (sym (sender.process).begins)

  paged : ArePaged (s.small).pages (account_after system log p).now
  paged = (both_paged system p log s valid stood there).now

  size : length t.memory ≡ 256 * (s.small).pages
  size = sized_then system log p s there at t valid led

  now_is : (account_after system log p).now ≡ (account pager p).now
  now_is = ap (λ (a : Account). a.now) (sym (accounts.accounts p))

  pub is_led : IsLed limits p kept pager system log at s t
  is_led = record {
    reached = reached;
    ran = ran;
    runs = runs;
    reads = reads;
    steps = steps;
    limited = λ j. nat_le (steps j) (sym (sender.limited).steps j) && nat_le (reads j) (sym (sender.limited).reads j);
    account_is = λ is. memory_is (s.small).pages (account_after system log p).now t.memory paged size (ap (λ ps. is_memory ps t.memory) now_is ∙ is);
    is_account = λ same. ap (λ ps. is_memory ps t.memory) (sym now_is) ∙ is_memory_of (s.small).pages (account_after system log p).now t.memory paged size same;
  }
