use Rattle.cluster_threads.proofs.Entering.{sound_by_log}
use Rattle.cluster_threads.proofs.locked.give.Goals as goal

pub returns-clause-sound : goal.returns-clause-sound
returns-clause-sound c = sound_by_log c.args.bus.value _ c.requires.sound c.put_back.ensures.whole
