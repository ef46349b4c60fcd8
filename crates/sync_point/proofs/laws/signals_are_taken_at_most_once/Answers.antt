use Rattle.sync_point.proofs.Cuts.{cut_untaken, synced_takes_none, took_none}
use Rattle.sync_point.proofs.laws.signals_are_taken_at_most_once.Goals as goal

pub returns-clause-after : goal.returns-clause-after
returns-clause-after c = synced_takes_none

pub returns-clause-untaken : goal.returns-clause-untaken
returns-clause-untaken c = cut_untaken

pub returns-clause-unnamed : goal.returns-clause-unnamed
returns-clause-unnamed c = took_none
