use Rattle.std.proofs.Common.{refl, rules}
use Rattle.targon_cli.specs.Answer.{TooLong, ReadFault, OutOfMemory}
use Rattle.targon_cli.proofs.Endings.{said_tells}
use Rattle.targon_cli.proofs.top.read_whole.Goals as goal

pub returns-in-Ok-TooLong-clause-unread : goal.returns-in-Ok-TooLong-clause-unread
returns-in-Ok-TooLong-clause-unread g c = λ command reads.
    let read = rw c.in-Ok-TooLong.field-0-is at c.in-Ok-TooLong.ensures in
    TooLong read.0 reads read.1 c.say.ensures refl

pub returns-in-Err-Failed-clause-unread : goal.returns-in-Err-Failed-clause-unread
returns-in-Err-Failed-clause-unread g c = λ command reads.
    let read = rw c.in-Err-Failed.field-0-is at c.in-Err-Failed.ensures in
    ReadFault reads read c.say-in-Err-Failed.ensures refl

pub returns-in-Ok-TooLong-clause-told : goal.returns-in-Ok-TooLong-clause-told
returns-in-Ok-TooLong-clause-told g c = said_tells 8 _ _ _ _ refl c.say.ensures

pub returns-in-Err-Failed-clause-told : goal.returns-in-Err-Failed-clause-told
returns-in-Err-Failed-clause-told g c = said_tells 4 _ _ _ _ refl c.say-in-Err-Failed.ensures

pub returns-in-Err-NoMemory-clause-unread : goal.returns-in-Err-NoMemory-clause-unread
returns-in-Err-NoMemory-clause-unread g c = λ command reads. OutOfMemory (λ unread. cc) refl (search rules) refl
