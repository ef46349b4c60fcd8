-- Laws of which processes are to get a new backup by where they are placed.
use Rattle.std.proofs.Common.{◌≡◌, ℕ, refl, sym, ◌∙◌, ap, cond, Bool, ◌||◌, eqb-true, find, List, [], ◌∷◌, Option, Some, None, true, false}
use Rattle.std.specs.Prelude.{filter_map, option_map}
use Rattle.std.specs.List.{cons_option, list_any}
use Rattle.std.specs.Map.{lookup}
use Rattle.std.proofs.lemmas.Bool.{or_left, or_right}
use Rattle.t32_base.specs.declared.process.Pid.{Pid}
use Rattle.t32_base.specs.declared.process.ClusterNo.{ClusterNo}
use Rattle.bus_msg.specs.Places.{Places, same_pid}
use Rattle.bus_msg.specs.NewBackup.{next_backup_at}
use Rattle.plain_kernel.specs.Maps.{at_key, pid_of}
use Rattle.quanta.specs.declared.limits.Limits.{Limits}
use Rattle.residents.specs.Duty.{backup_owed}
use Rattle.residents.specs.Held.{Held, held_of}
use Rattle.residents.specs.Owing.{duty_in, owing_in}
use Rattle.residents.specs.Residents.{pids_in}
use Rattle.residents.proofs.Slots.{at_key_is}

-- where each process gets the same, the same are to get one
pub owing_same : (places after : Places) (pids : List ℕ) → ((n : ℕ) → next_backup_at after (pid_of n) ≡ next_backup_at places (pid_of n)) → owing_in after pids ≡ owing_in places pids
owing_same places after pids same = λ i. filter_map (λ n. option_map (λ k. (n, k)) (same n i)) pids

-- a pid among these is to get what it gets by where it is placed, and another nothing
owing_at : (places : Places) (q : ℕ) (pids : List ℕ) → lookup (at_key q) (owing_in places pids) ≡ cond (list_any (at_key q) pids) (next_backup_at places (pid_of q)) None
owing_at places q [] = refl
owing_at places q (n ∷ pids) = by_next (next_backup_at places (pid_of n)) refl (at_key q n) refl (list_any (at_key q) pids) (owing_at places q pids)
  where
    -- it is the first
    itself : at_key q n ≡ true → next_backup_at places (pid_of n) ≡ next_backup_at places (pid_of q)
    itself at = ap (λ m. next_backup_at places (pid_of m)) (eqb-true n q (sym (at_key_is q n) ∙ at))

    by_next : (o : Option ClusterNo) → next_backup_at places (pid_of n) ≡ o → (b : Bool) → at_key q n ≡ b
        → (c : Bool) → lookup (at_key q) (owing_in places pids) ≡ cond c (next_backup_at places (pid_of q)) None
        → lookup (at_key q) (cons_option (option_map (λ k. (n, k)) o) (owing_in places pids)) ≡ cond (b || c) (next_backup_at places (pid_of q)) None
    by_next (Some k) gets true at c later = ap (λ b. cond b (Some k) (lookup (at_key q) (owing_in places pids))) at ∙ sym gets ∙ itself at
    by_next (Some k) gets false at c later = ap (λ b. cond b (Some k) (lookup (at_key q) (owing_in places pids))) at ∙ later
    by_next None none true at true later = later
    by_next None none true at false later = later ∙ sym none ∙ itself at
    by_next None none false at c later = later

-- the pid of a process here is among the pids
among_pids : (here : List (Pid × Held)) (p : Pid) (h : Held) → held_of here p ≡ Some h → list_any (at_key p.0) (pids_in here) ≡ true
among_pids [] p h there = cc
among_pids (e ∷ here) p h there = by_pid (same_pid e.0 p) refl there (among_pids here p h)
  where
    by_pid : (b : Bool) → same_pid e.0 p ≡ b → option_map (λ (f : Pid × Held). f.1) (cond b (Some e) (find (λ (f : Pid × Held). same_pid f.0 p) here)) ≡ Some h
        → (held_of here p ≡ Some h → list_any (at_key p.0) (pids_in here) ≡ true) → list_any (at_key p.0) (pids_in (e ∷ here)) ≡ true
    by_pid true is there more = or_left (at_key p.0 (e.0).0) (list_any (at_key p.0) (pids_in here)) (at_key_is p.0 (e.0).0 ∙ is)
    by_pid false is there more = or_right (at_key p.0 (e.0).0) (list_any (at_key p.0) (pids_in here)) (more there)

-- one that is here is to get what it gets by where it is placed
pub owed_here : (limits : Limits) (places : Places) (here : List (Pid × Held)) (p : Pid) (h : Held) → held_of here p ≡ Some h → backup_owed (duty_in limits places here) p ≡ next_backup_at places p
owed_here limits places here p h there = owing_at places p.0 (pids_in here) ∙ ap (λ b. cond b (next_backup_at places p) None) (among_pids here p h there)
