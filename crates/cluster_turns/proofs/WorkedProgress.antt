-- When less is left to do, at worked numbers: each part, and what is refused.
use Rattle.std.proofs.Common.{◌≡◌, ◌∷◌, [], ℕ, inl, inr, refl, arith}
use Rattle.t32_base.specs.declared.process.Pid.{Pid}
use Rattle.proc_state.specs.State.{root_state}
use Rattle.checkpoint_laws.specs.remaining.Load.{kernel_load}
use Rattle.cluster_turns.specs.Progress.{Falls, IsAtMost, Remaining}

abbrev left : ℕ → ℕ → ℕ → ℕ → Remaining
left words posts entries moves = record { words = words; posts = posts; entries = entries; moves = moves }

-- a word of the script lost a cluster: the clusters have an entry more to take in, and processes go back, and ask for four pages
loses : Falls (left 1 4 0 7) (left 0 12 15 60)
loses = inl (omega arith)

-- a letter was sent: the clusters have an entry more to take in
sends : Falls (left 1 5 0 7) (left 1 4 15 7)
sends = inr (refl, inl (omega arith))

-- an entry was taken in, by which a process went back
takes_in : Falls (left 0 4 15 7) (left 0 4 14 60)
takes_in = inr (refl, inr (inl (refl, omega arith)))

-- a process made a silent step
moves : Falls (left 0 4 14 60) (left 0 4 14 59)
moves = inr (refl, inr (inr (refl, refl, omega arith)))

-- nothing was done
refused_same : Falls (left 1 4 14 59) (left 1 4 14 59) → ⊥
refused_same (inl fewer) = omega (arith, fewer)
refused_same (inr (words, inl less)) = omega (arith, less)
refused_same (inr (words, inr (inl less))) = omega (arith, less.1)
refused_same (inr (words, inr (inr less))) = omega (arith, less.2)

-- a process went back, and nothing before it fell
refused_back : Falls (left 1 4 14 59) (left 1 4 14 60) → ⊥
refused_back (inl fewer) = omega (arith, fewer)
refused_back (inr (words, inl less)) = omega (arith, less)
refused_back (inr (words, inr (inl less))) = omega (arith, less.1)
refused_back (inr (words, inr (inr less))) = omega (arith, less.2)

-- more posts are left to send, whatever stands behind them
refused_more : IsAtMost (left 1 4 14 59) (left 1 5 0 0) → ⊥
refused_more (inl (inl fewer)) = omega (arith, fewer)
refused_more (inl (inr (words, inl less))) = omega (arith, less)
refused_more (inl (inr (words, inr (inl less)))) = omega (arith, less.0)
refused_more (inl (inr (words, inr (inr less)))) = omega (arith, less.0)
refused_more (inr same) = omega (arith, same.1)

-- ---- the parts

abbrev pid : Pid
pid = record { 0 = 16 }

-- a root at its start with ten instructions: these, its 32 ends and two changes of status
one_root : kernel_load (record { processes = (pid, root_state pid 65536 1 [] 10 0 0) ∷ []; ttys = [] }) ≡ 44
one_root = refl
