use Rattle.script_laws.proofs.CrashLaws.{crashes_within, crashes_and_left}
use Rattle.script_laws.proofs.counted.crashes_are_of_words.Goals as goal

pub returns-clause-within : goal.returns-clause-within
returns-clause-within c = crashes_within

pub returns-clause-left : goal.returns-clause-left
returns-clause-left c = crashes_and_left
