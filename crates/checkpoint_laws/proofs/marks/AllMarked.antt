-- A process that begins from its start with each page marked has the marks that the log says, where none of its pages was sent.
use Rattle.std.proofs.Common.{◌≡◌, ℕ, zero, suc, ◌<◌, ◌≤◌, refl, sym, ◌∙◌, ap, arith, List, [], Bool, true, false, ◌&&◌, eqb, slice_get, true≢false}
use Rattle.std.specs.Prelude.{replicate}
use Rattle.std.specs.Option.{option_map_or}
use Rattle.std.proofs.lemmas.Bool.{and_parts}
use Rattle.t32_base.specs.declared.process.Pid.{Pid}
use Rattle.sys_text.specs.declared.system.System.{System}
use Rattle.proc_state.specs.declared.process.Process.{Process}
use Rattle.bus_msg.specs.declared.entry.What.{What}
use Rattle.bus_msg.specs.declared.entry.What.TheVariants.{Page}
use Rattle.bus_msg.specs.declared.entry.Entry.{Entry}
use Rattle.bus_msg.specs.Places.{same_pid}
use Rattle.bus_msg.specs.PlacedAfter.{what}
use Rattle.cert_sched.specs.Parts.{rising}
use Rattle.cert_sched.specs.Told.{Told}
use Rattle.cert_sched.specs.Moved.{any_since_moved, is_page_at, since_moved}
use Rattle.cert_sched.specs.Steps.{saved_of, start_steps}
use Rattle.checkpoint_laws.specs.posts.Marked.{IsMarked, is_dirty}
use Rattle.checkpoint_laws.specs.marks.Beside.{is_some_page}
use Rattle.cert_sched.proofs.ReadLaws.{is_in}
use Rattle.checkpoint_laws.proofs.marks.BootMarks.{none_read}
use Rattle.checkpoint_laws.proofs.marks.SentPages.{none_passes}

-- each of so many is marked
each_marked : (n i : ℕ) → i < n → option_map_or (λ (b : Bool). b) (slice_get (replicate n true) i) false ≡ true
each_marked zero i below = absurd (omega (arith, below))
each_marked (suc n) zero below = refl
each_marked (suc n) (suc i) below = each_marked n i (omega (arith, below))

-- a page at a step count is a page
at_is_some : (p : Pid) (i n : ℕ) (w : What) → is_page_at p i n w ≡ true → is_some_page p w ≡ true
at_is_some p i n (Page pid at index bytes) is =
    (and_parts (same_pid pid p) (eqb index i) (and_parts (same_pid pid p && eqb index i) (eqb at n) is).0).0
at_is_some p i n _ is = is

-- it counts from its start, has read none of its saved letters, and each of its pages is marked
pub all_marked : (system : System) (log : List Entry) (p : Pid) (process : Process) (n : ℕ) → process.since ≡ start_steps system log p → process.read ≡ [] → (process.mail).letters ≡ saved_of system log p → (process.ram).dirty ≡ replicate n true
    → (process.small).pages ≤ n → any_since_moved system log p (is_some_page p) ≡ false → IsMarked system log p process
all_marked system log p process n since unread mail marks enough unsent = record {
  since_start = since;
  read =
      ap rising unread
      ∙ sym (none_read (process.mail).next (process.mail).letters (saved_of system log p) (λ a is. ap (λ letters. is_in letters a) mail ∙ is));
  clean = λ i within unmarked. absurd (true≢false (sym (marked i within) ∙ unmarked));
  unsent = λ i within is. none_passes (λ (t : Told). is_page_at p i (process.small).steps (what t.entry)) (λ (t : Told). is_some_page p (what t.entry)) (since_moved system log p) (λ t. at_is_some p i (process.small).steps (what t.entry)) unsent;
}
  where
    marked : (i : ℕ) → i < (process.small).pages → is_dirty process i ≡ true
    marked i within = ap (λ dirty. option_map_or (λ (b : Bool). b) (slice_get dirty i) false) marks ∙ each_marked n i (omega (arith, within, enough))
