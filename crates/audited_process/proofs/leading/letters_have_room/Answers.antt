use Rattle.audited_process.proofs.Room.{has_room}
use Rattle.audited_process.proofs.leading.letters_have_room.Goals as goal

pub returns : goal.returns
returns c = has_room
