-- What is asked of a command: its limits, and whether it makes a run, reads the input and needs threads.
use Rattle.std.specs.Prelude.{◌^◌, not, Bool, true, false, nat_lt, Option, Some, None}
use Rattle.command_words.specs.declared.command.Command.{Command}
use Rattle.command_words.specs.declared.command.Command.TheVariants as commands
use Rattle.workload.specs.Ring.{is_size}

-- the pick of a command is a number of 31 bits, and its size that of a workload
abbrev pub keeps_limits : Command → Bool
keeps_limits (commands.Sim pick log script) = nat_lt pick (2 ^ 31)
keeps_limits (commands.Load size only script) = is_size size
keeps_limits _ = true

-- the numbers of a command that was found are within their limits
abbrev pub is_ready : Option Command → Bool
is_ready None = true
is_ready (Some command) = keeps_limits command

-- the words are those of `sim`, `run`, or `load` where it does not only print its workload
abbrev pub makes_run : Option Command → Bool
makes_run None = false
makes_run (Some (commands.Sim pick log script)) = true
makes_run (Some (commands.Run log script)) = true
makes_run (Some (commands.Load size only script)) = not only
makes_run (Some _) = false

-- the words are a command that reads the input: any but `load`
abbrev pub reads_input : Option Command → Bool
reads_input None = false
reads_input (Some (commands.Load size only script)) = false
reads_input (Some _) = true

-- the words are those of `run`, or of `load` where it does not only print its workload
abbrev pub needs_threads : Option Command → Bool
needs_threads None = false
needs_threads (Some (commands.Run log script)) = true
needs_threads (Some (commands.Load size only script)) = not only
needs_threads (Some _) = false
