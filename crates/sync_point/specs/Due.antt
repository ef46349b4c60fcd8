-- When a process is due to synchronise.
use Rattle.std.specs.Prelude.{ℕ, ◌-◌, Bool, ◌||◌, nat_le, length}
use Rattle.proc_state.specs.declared.process.Process.{Process}

-- since its last synchronisation it read so many letters, or made so many steps
abbrev pub is_due_by : Process → ℕ → ℕ → Bool
is_due_by p reads steps = nat_le reads (length p.read) || nat_le steps ((p.small).steps - p.since)
