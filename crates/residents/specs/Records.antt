-- The records of the processes that wait in a cluster.
use Rattle.std.specs.Prelude.{List, Option, Some, None, option_and_then}
use Rattle.t32_base.specs.declared.process.Pid.{Pid}
use Rattle.t32_base.specs.declared.letter.BackRec.{BackRec}
use Rattle.residents.specs.Held.{Held, Runs, Rolls, Waits, held_of}

-- the record of one that waits
abbrev pub record_told : Held → Option BackRec
record_told (Waits waiting) = Some waiting.kept
record_told (Runs p) = None
record_told (Rolls p counts births) = None

-- the record of a process that is here and waits
abbrev pub record_at : List (Pid × Held) → Pid → Option BackRec
record_at here p = option_and_then record_told (held_of here p)
