use Rattle.std.proofs.Common.{◌≡◌, ◌≤◌, sym, arith, List, [], ◌∷◌, length, true, true≢false}
use Rattle.bus_msg.specs.declared.entry.Entry.{Entry}
use Rattle.cert_sched.specs.Scripted.{is_closed}

-- ---- a log without a loss

-- one that is closed has an entry
pub closed_long : (log : List Entry) → is_closed log ≡ true → 1 ≤ length log
closed_long [] h = absurd (true≢false (sym h))
closed_long (e ∷ log) h = omega arith
