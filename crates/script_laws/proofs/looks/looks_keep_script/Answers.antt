use Rattle.script_laws.proofs.LookedOn.{looks_all, looks_legal, looks_scripted}
use Rattle.script_laws.proofs.looks.looks_keep_script.Goals as goal

pub returns-clause-legal : goal.returns-clause-legal
returns-clause-legal c = looks_legal

pub returns-clause-words : goal.returns-clause-words
returns-clause-words c = looks_all

pub returns-clause-scripted : goal.returns-clause-scripted
returns-clause-scripted c = looks_scripted
