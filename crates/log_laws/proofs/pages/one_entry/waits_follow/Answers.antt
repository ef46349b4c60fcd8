use Rattle.std.proofs.Common.{ap, ◌∙◌}
use Rattle.bus_msg.specs.PlacedAfter.{what}
use Rattle.cert_sched.specs.Schedule.{placement}
use Rattle.cert_sched.specs.Moved.{waiting_fetches}
use Rattle.log_laws.proofs.pages.OneEntry.{waits_after, waiting-snoc, after_fetch, after_page_is, after_exit_of, after_crash, after_other, is_waited-snoc}
use Rattle.log_laws.proofs.pages.one_entry.waits_follow.Goals as goal

pub returns-clause-fetch : goal.returns-clause-fetch
returns-clause-fetch c system log e p i is =
    waiting-snoc system log e ∙ ap (λ w. waits_after (placement system log) w (waiting_fetches system log)) is ∙ after_fetch (placement system log) p i (waiting_fetches system log)

pub returns-clause-page_is : goal.returns-clause-page_is
returns-clause-page_is c system log e p i bytes is =
    waiting-snoc system log e ∙ ap (λ w. waits_after (placement system log) w (waiting_fetches system log)) is ∙ after_page_is (placement system log) p i bytes (waiting_fetches system log)

pub returns-clause-exit : goal.returns-clause-exit
returns-clause-exit c system log e p at end is =
    waiting-snoc system log e ∙ ap (λ w. waits_after (placement system log) w (waiting_fetches system log)) is ∙ after_exit_of (placement system log) p at end (waiting_fetches system log)

pub returns-clause-crash : goal.returns-clause-crash
returns-clause-crash c system log e k cause is =
    waiting-snoc system log e ∙ ap (λ w. waits_after (placement system log) w (waiting_fetches system log)) is ∙ after_crash (placement system log) k cause (waiting_fetches system log)

pub returns-clause-other : goal.returns-clause-other
returns-clause-other c system log e other = waiting-snoc system log e ∙ after_other (what e) other (placement system log) (waiting_fetches system log)

pub returns-clause-waited : goal.returns-clause-waited
returns-clause-waited c = is_waited-snoc
