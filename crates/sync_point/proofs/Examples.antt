-- A small process, by which the definitions can be compared with their comments.
use Rattle.std.proofs.Common.{◌≡◌, ℕ, zero, suc, ◌<◌, true, false, List, [], ◌∷◌, Some, None, slice_set, refl, arith}
use Rattle.rv_mem.specs.Memory.{page_at}
use Rattle.t32_base.specs.Account.{no_pages, page_in}
use Rattle.t32_base.specs.declared.process.ClusterNo.{ClusterNo}
use Rattle.t32_base.specs.declared.process.End.TheVariants.{Killed}
use Rattle.t32_base.specs.declared.process.Status.TheVariants.{Live, Closing}
use Rattle.t32_base.specs.declared.letter.Arrived.{Arrived}
use Rattle.t32_base.specs.declared.letter.Body.TheVariants.{Said, Signal}
use Rattle.t32_base.specs.declared.letter.To.TheVariants.{Proc}
use Rattle.t32_base.specs.Small.{SmallState}
use Rattle.proc_state.specs.declared.process.Process.{Process}
use Rattle.proc_state.specs.State.{can_take, state_of}
use Rattle.bus_msg.specs.declared.entry.What.TheVariants.{Sync}
use Rattle.sync_point.specs.Due.{is_due_by}
use Rattle.sync_point.specs.Batch.{batch, is_marked, marked_pages, page_post, sync_post, synced}
use Rattle.sync_point.specs.Laws.{HasUnmarked, pages_sent, with_pages}

-- It has changed the first and the last of its three pages, and read two letters by four steps. It handles no signal now.
abbrev changed : SmallState → List ℕ → Process
changed s bytes = record {
  small = record s { steps = 14; frame = None; status = Live };
  ram = record { bytes = bytes; dirty = true ∷ false ∷ true ∷ [] };
  mail = record { letters = []; next = 2 };
  read = 1 ∷ 0 ∷ [];
  since = 10;
}

-- It is due by its letters or by its steps, and not below both.
due_by_letters : (s : SmallState) (bytes : List ℕ) → is_due_by (changed s bytes) 2 5 ≡ true
due_by_letters s bytes = refl

due_by_steps : (s : SmallState) (bytes : List ℕ) → is_due_by (changed s bytes) 3 4 ≡ true
due_by_steps s bytes = refl

not_due : (s : SmallState) (bytes : List ℕ) → is_due_by (changed s bytes) 3 5 ≡ false
not_due s bytes = refl

-- The pages that it changed, and no page behind the last.
first_and_last : (s : SmallState) (bytes : List ℕ) → marked_pages (changed s bytes) ≡ 0 ∷ 2 ∷ []
first_and_last s bytes = refl

none_behind : (s : SmallState) (bytes : List ℕ) → is_marked (changed s bytes) 3 ≡ false
none_behind s bytes = refl

-- Its batch has three posts, and the next has one.
two_pages_sent : (s : SmallState) (bytes : List ℕ) (by : ClusterNo) →
    batch (changed s bytes) by ≡ page_post (changed s bytes) by 0 ∷ page_post (changed s bytes) by 2 ∷ sync_post (changed s bytes) by ∷ []
two_pages_sent s bytes by = refl

state_alone : (s : SmallState) (bytes : List ℕ) (by : ClusterNo) → batch (synced (changed s bytes)) by ≡ sync_post (synced (changed s bytes)) by ∷ []
state_alone s bytes by = refl

steps_count_anew : (s : SmallState) (bytes : List ℕ) → is_due_by (synced (changed s bytes)) 1 1 ≡ false
steps_count_anew s bytes = refl

-- It can take no signal, and none is named.
none_named : (s : SmallState) (bytes : List ℕ) (by : ClusterNo) →
    (sync_post (changed s bytes) by).what ≡ Sync s.pid (record s { steps = 14; frame = None; status = Live }) (1 ∷ 0 ∷ []) None
none_named s bytes by = refl

-- Two signals wait behind a letter for end 1.
abbrev signal : ℕ → ℕ → Arrived
signal number g = record { number = number; letter = record { from = record { 0 = 17 }; out = 0; to = Proc (record { 0 = 16 }) 0; body = Signal g } }

abbrev said : Arrived
said = record { number = 2; letter = record { from = record { 0 = 17 }; out = 1; to = Proc (record { 0 = 16 }) 1; body = Said [] } }

abbrev signalled : SmallState → ℕ → Process
signalled s handler = record (changed (record s { handler = handler }) []) { mail = record { letters = said ∷ signal 3 11 ∷ signal 4 12 ∷ []; next = 5 } }

-- With a handler the first one runs it, and the other waits on.
handled : (s : SmallState) (by : ClusterNo) →
    (sync_post (signalled s 65600) by).what ≡ Sync s.pid (record s { steps = 14; handler = 65600; frame = Some s.regs; regs = record (s.regs) { x = slice_set (s.regs).x 10 11; pc = 65600 }; status = Live }) (1 ∷ 0 ∷ 3 ∷ []) (Some 11)
handled s by = refl

waits_on : (s : SmallState) → ((synced (signalled s 65600)).mail).letters ≡ said ∷ signal 4 12 ∷ []
waits_on s = refl

not_twice : (s : SmallState) → can_take (state_of (synced (signalled s 65600))) ≡ false
not_twice s = refl

-- Without one the process closes.
killed : (s : SmallState) (by : ClusterNo) →
    (sync_post (signalled s 0) by).what ≡ Sync s.pid (record s { steps = 14; handler = 0; frame = None; status = Closing (Killed 11) }) (1 ∷ 0 ∷ 3 ∷ []) (Some 11)
killed s by = refl

-- An account that has page 1 has the whole memory after it.
account_after_it : (s : SmallState) (bytes page : List ℕ) (by : ClusterNo) →
    with_pages (pages_sent (batch (changed s bytes) by)) (record { now = (1, page) ∷ []; kept = [] })
    ≡ record { now = (0, page_at bytes 0) ∷ (1, page) ∷ (2, page_at bytes 2) ∷ []; kept = [] }
account_after_it s bytes page by = refl

-- A child has every page marked, and its account has none.
abbrev child : SmallState → List ℕ → Process
child s bytes = record { small = s; ram = record { bytes = bytes; dirty = true ∷ true ∷ [] }; mail = record { letters = []; next = 0 }; read = []; since = 0 }

child_account : (s : SmallState) (bytes : List ℕ) → HasUnmarked (child s bytes) no_pages
child_account s bytes = record { rising = refl; clean = clean; within = λ i behind. refl }
  where
    clean : (i : ℕ) → i < 2 → is_marked (child s bytes) i ≡ false → page_in [] i ≡ Some (page_at bytes i)
    clean zero within is = cc
    clean (suc zero) within is = cc
    clean (suc (suc i)) within is = absurd (omega arith)
