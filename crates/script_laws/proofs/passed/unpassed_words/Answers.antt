use Rattle.script_laws.proofs.PassedWords.{unpassed_at_boot, all_at_boot, unpassed_longer, all_longer, unpassed_unused, unpassed_unnamed}
use Rattle.script_laws.proofs.passed.unpassed_words.Goals as goal

pub returns-clause-boot : goal.returns-clause-boot
returns-clause-boot c = unpassed_at_boot

pub returns-clause-all_at_boot : goal.returns-clause-all_at_boot
returns-clause-all_at_boot c = all_at_boot

pub returns-clause-longer : goal.returns-clause-longer
returns-clause-longer c = unpassed_longer

pub returns-clause-all_longer : goal.returns-clause-all_longer
returns-clause-all_longer c = all_longer

pub returns-clause-unused : goal.returns-clause-unused
returns-clause-unused c = unpassed_unused

pub returns-clause-unnamed : goal.returns-clause-unnamed
returns-clause-unnamed c = unpassed_unnamed
