-- The channels of a system, one at a time.
use Rattle.std.proofs.Common.{◌≡◌, ℕ, zero, suc, ◌+◌, ◌-◌, ◌<◌, ◌≤◌, true, List, [], ◌∷◌, ◌++◌, length, take, get_or, refl, sym, ap, ◌∙◌, arith, is_some, Some, None, append_assoc, append-nil}
use Rattle.std.specs.Prelude.{slice_get}
use Rattle.std.specs.List.{count_by}
use Rattle.std.specs.FinMap.{put}
use Rattle.std.specs.List.Sorted.{IsStrictlySortedBy}
use Rattle.std.specs.Ordering.{nat_cmp}
use Rattle.std.specs.Map.{lookup, set_value}
use Rattle.std.specs.Option.{option_map_or}
use Rattle.std.proofs.lemmas.Map.Entries.{sum_by-set_value}
use Rattle.std.proofs.lemmas.Option.{slice_get-get_or}
use Rattle.t32_base.specs.declared.process.Pid.{Pid}
use Rattle.proc_state.specs.Ends.{free_end}
use Rattle.proc_state.specs.State.{ProcState, linked_to}
use Rattle.sys_text.specs.declared.system.System.{System}
use Rattle.sys_text.specs.declared.system.Root.{Root}
use Rattle.sys_text.specs.Valid.{is_system}
use Rattle.sys_text.specs.Boot.{pid_of as pid_in, with_pids}
use Rattle.sys_text.proofs.Bounds.{ChanBounds, chan_bounds}
use Rattle.plain_kernel.specs.Kernel.{free_end_at, pid_cmp, root_pid}
use Rattle.plain_kernel.specs.Maps.{at_key, pid_of}
use Rattle.plain_kernel.specs.Starts.{starts_in, starts_load, state_load, LinksStart}
use Rattle.plain_kernel.proofs.Entries.{keys, lookup_start, put_seen}
use Rattle.plain_kernel.proofs.Roots.{same_home}

-- ---- the pid of a root

root_at : (earlier roots : List Root) (n : ℕ) (d : Root) → n < length roots
    → slice_get (with_pids earlier roots) n ≡ Some (pid_in ((get_or roots n d).home).0 (1 + count_by (same_home (get_or roots n d)) (earlier ++ take n roots)), get_or roots n d)
root_at earlier [] n d h = absurd (omega arith)
root_at earlier (r ∷ roots) zero d h = ap (λ l. Some (pid_in (r.home).0 (1 + count_by (same_home r) l), r)) (sym (append-nil earlier))
root_at earlier (r ∷ roots) (suc n) d h =
    root_at (earlier ++ r ∷ []) roots n d (omega arith)
    ∙ ap (λ l. Some (pid_in ((get_or roots n d).home).0 (1 + count_by (same_home (get_or roots n d)) l), get_or roots n d)) (append_assoc earlier (r ∷ []) (take n roots))

pub root_pid_is : (system : System) (number : ℕ) (d : Root) → 1 ≤ number → number ≤ length system.roots
    → pid_in ((get_or system.roots (number - 1) d).home).0 (1 + count_by (same_home (get_or system.roots (number - 1) d)) (take (number - 1) system.roots)) ≡ root_pid system number
root_pid_is system number d least most =
    sym (ap (λ o. option_map_or (λ (r : Pid × Root). r.0) o (record { 0 = 0 })) (root_at [] system.roots (number - 1) d (omega arith)))

-- ---- one more end

pub free_there : (pid : ℕ) (es : List (ℕ × ProcState)) (s : ProcState) → lookup (at_key pid) es ≡ Some s → free_end (s.small).ends ≡ free_end_at (starts_in es) (pid_of pid)
free_there pid es s found = rw (lookup_start pid es, found) refl

pub free_nowhere : (pid : ℕ) (es : List (ℕ × ProcState)) → lookup (at_key pid) es ≡ None → None ≡ free_end_at (starts_in es) (pid_of pid)
free_nowhere pid es none = rw (lookup_start pid es, none) refl

pub linked_there : (old new : List (ℕ × ProcState)) (pid : ℕ) (peer : Pid) (far : ℕ) (was now : ProcState) → lookup (at_key pid) old ≡ Some was → new ≡ set_value (at_key pid) old now → IsStrictlySortedBy nat_cmp (keys old)
    → now ≡ linked_to was peer far → state_load now ≡ state_load was → LinksStart old new pid peer far
linked_there old new pid peer far was now found entries ordered linked as_much = record {
  states = rw (lookup_start pid old, found) (ap starts_in entries ∙ put_seen (λ s. s) pid now old ordered (ap is_some found) ∙ ap (λ s. put pid_cmp (pid_of pid) s (starts_in old)) linked);
  load = omega (arith, ap starts_load entries, sum_by-set_value state_load (at_key pid) old was now found, as_much);
}

pub linked_nowhere : (old new : List (ℕ × ProcState)) (pid : ℕ) (peer : Pid) (far : ℕ) → lookup (at_key pid) old ≡ None → new ≡ old → LinksStart old new pid peer far
linked_nowhere old new pid peer far none same = record {
  states = ap starts_in same ∙ rw (lookup_start pid old, none) refl;
  load = ap starts_load same;
}

-- ---- one more channel

pub chan_at : (system : System) (n : ℕ) (d : ℕ × ℕ) → is_system system ≡ true → n < length system.chans → ChanBounds system (get_or system.chans n d)
chan_at system n d valid within = chan_bounds system n (get_or system.chans n d) valid (slice_get-get_or system.chans n d within)
