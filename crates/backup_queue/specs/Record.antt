-- What a backup keeps of a process, as contracts see it.
use Rattle.t32_base.specs.declared.letter.BackRec.{BackRec}
use Rattle.backup_queue.specs.declared.record.RecordParts.{RecordParts}

-- the record that these parts make: its saved letters and their number are those of the mailbox
abbrev pub record_of : RecordParts → BackRec
record_of parts = record {
  pid = parts.pid;
  state = parts.state;
  saved = (parts.saved).letters;
  next = (parts.saved).next;
  counts = parts.counts;
  births = parts.births;
}
