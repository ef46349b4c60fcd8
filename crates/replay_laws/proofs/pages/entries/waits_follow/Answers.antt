use Rattle.replay_laws.proofs.pages.Follows.{other_so, within_so, page_so}
use Rattle.replay_laws.proofs.pages.entries.waits_follow.Goals as goal

pub returns-clause-other : goal.returns-clause-other
returns-clause-other c system log e p queued w valid legal unended stays no_cut none no_page waits = other_so system log e p queued w valid legal unended stays no_cut none no_page waits

pub returns-clause-within : goal.returns-clause-within
returns-clause-within c system log e p i bytes queued w valid legal is waits = within_so system log e p queued w valid legal i bytes is waits

pub returns-clause-page : goal.returns-clause-page
returns-clause-page c system log e p i bytes queued w valid legal unended is waits = page_so system log e p queued w valid legal i bytes is waits unended
