use Rattle.std.proofs.Common.{rules, ℕ, ◌+◌, ◌-◌, ◌%◌, ◌^◌}
use Rattle.bus_lock.proofs.Sleeps.{sleeps}
use Rattle.bus_lock.proofs.lock.LogLock.wait_past.Goals as goal

pub fetch_add-requires : goal.fetch_add-requires
fetch_add-requires g c = (search rules, search rules, sleeps _ _ _ _ _ _ _ _ (λ (n : ℕ). (n + 1) % 2 ^ 64) 1)

pub fetch_sub-requires : goal.fetch_sub-requires
fetch_sub-requires g c = (search rules, search rules, sleeps _ _ _ _ _ _ _ _ (λ (n : ℕ). (n + (2 ^ 64 - 1)) % 2 ^ 64) 1)
