-- A page server beside a log.
use Rattle.std.specs.Prelude.{◌≡◌, List}
use Rattle.t32_base.specs.declared.process.Pid.{Pid}
use Rattle.sys_text.specs.declared.system.System.{System}
use Rattle.bus_msg.specs.declared.entry.Entry.{Entry}
use Rattle.cert_sched.specs.Account.{account_after}
use Rattle.cert_sched.specs.Moved.{waiting_fetches}
use Rattle.page_server.specs.Account.{PagerState, account, SameAccounts}

-- a page server keeps the accounts and the waiting fetches of a log
pub record KeepsAccounts (system : System) (log : List Entry) (state : PagerState) : Type 0 where
  pub accounts : (p : Pid) → account state p ≡ account_after system log p
  pub waits : state.fetches ≡ waiting_fetches system log

-- no account and no fetch changed
pub record SamePages (old new : PagerState) : Type 0 where
  pub accounts : SameAccounts old new
  pub fetches : new.fetches ≡ old.fetches
