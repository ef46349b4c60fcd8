-- A process whose pages have all come rolls forward from its record and the memory that they make.
use Rattle.std.proofs.Common.{◌≡◌, ℕ, true, false, true≢false, List, [], length, sym, ap, ◌∙◌, subst, refl, Option, Some, None, is_some}
use Rattle.std.specs.Prelude.{replicate, option_map}
use Rattle.std.specs.Option.{IfSome, IsSomeAnd}
use Rattle.t32_base.specs.declared.process.Pid.{Pid}
use Rattle.t32_base.specs.declared.process.Counts.{Counts}
use Rattle.t32_base.specs.declared.letter.BackRec.{BackRec}
use Rattle.t32_base.specs.Small.{SmallState}
use Rattle.rv_mem.specs.Memory.{Memory}
use Rattle.proc_state.specs.State.{ProcState, state_of}
use Rattle.roll_forward.specs.RunsOut.{RunsOut}
use Rattle.roll_forward.specs.Rolling.{CanRoll, RollingState, ahead_of, all_left, started}
use Rattle.page_waits.specs.Begun.{begun}
use Rattle.page_waits.specs.Pages.{memory_of}
use Rattle.page_waits.specs.Waiting.{WaitingState, CanGoOn, page_count, rolling_of, start_of}
use Rattle.page_waits.proofs.OneEnd.{ahead_is}

-- a record with a state has as many pages as it has a count of
pub has_state : (o : Option SmallState) (r : BackRec) (n : ℕ) → r.state ≡ o → page_count r ≡ n → is_some o ≡ true → IsSomeAnd o (λ small. small.pages ≡ n)
has_state None r n is pages some = absurd (true≢false (sym some))
has_state (Some small) r n is pages some = sym (ap (λ (o : Option SmallState). page_count (record r { state = o })) is) ∙ pages

-- the memory is that of its pages
pub can_start : (w : WaitingState) (ram : Memory) → memory_of w.come ≡ ram.bytes → CanGoOn w → IfSome (w.kept).state (λ small. CanRoll (started small ram (w.kept).saved (w.kept).next) (w.kept).counts (w.kept).births)
can_start w ram memory can =
    subst (λ (bytes : List ℕ). IfSome (w.kept).state (λ small. CanRoll (started small (record { bytes = bytes; dirty = ram.dirty }) (w.kept).saved (w.kept).next) (w.kept).counts (w.kept).births)) memory (if_some (w.kept).state can)
  where
    if_some : (o : Option SmallState) → IsSomeAnd o (λ small. CanRoll (start_of w small) (w.kept).counts (w.kept).births) → IfSome o (λ small. CanRoll (start_of w small) (w.kept).counts (w.kept).births)
    if_some None there = tt
    if_some (Some small) there = there

-- what is known of a process that begins to roll forward: it waited so, its memory is that of its pages, and none of them is marked
pub record Starts (w : WaitingState) (ram : Memory) (it : RollingState) : Type 0 where
  pub pages : IsSomeAnd (w.kept).state (λ small. small.pages ≡ length ram.dirty)
  pub memory : memory_of w.come ≡ ram.bytes
  pub clean : ram.dirty ≡ replicate (length ram.dirty) false
  pub can : CanGoOn w
  pub state : IfSome (w.kept).state (λ small. state_of it.process ≡ started small ram (w.kept).saved (w.kept).next)
  pub marks : ((it.process).ram).dirty ≡ ram.dirty
  pub read : (it.process).read ≡ []
  pub since : IfSome (w.kept).state (λ small. (it.process).since ≡ small.steps)
  pub counts : it.counts ≡ (w.kept).counts
  pub births : it.births ≡ (w.kept).births
  pub ahead : RunsOut (state_of it.process) it.counts it.births it.ahead
  pub recorded : it.recorded ≡ all_left (w.kept).counts (w.kept).births

ahead_then : (s t : ProcState) (c d : Counts) (bs cs : List Pid) (n : ℕ) → s ≡ t → c ≡ d → bs ≡ cs → RunsOut s c bs n → CanRoll t d cs → n ≡ ahead_of t d cs
ahead_then s t c d bs cs n is counts births runs can =
    ahead_is n t d cs (subst (λ b. RunsOut t d b n) births (subst (λ e. RunsOut t e bs n) counts (subst (λ u. RunsOut u c bs n) is runs))) can

-- so it is the one that begins from there
begins : (w : WaitingState) (ram : Memory) (it : RollingState) (small : SmallState) → Starts w ram it → (w.kept).state ≡ Some small → it ≡ begun (start_of w small) w.kept
begins w ram it small s is =
    let state : state_of it.process ≡ start_of w small =
    subst (λ o. IfSome o (λ small. state_of it.process ≡ started small ram (w.kept).saved (w.kept).next)) is s.state
    ∙ ap (λ (bytes : List ℕ). started small (record { bytes = bytes; dirty = ram.dirty }) (w.kept).saved (w.kept).next) (sym s.memory) in
    let since : (it.process).since ≡ small.steps = subst (λ o. IfSome o (λ small. (it.process).since ≡ small.steps)) is s.since in
    let pages : small.pages ≡ length ram.dirty = subst (λ o. IsSomeAnd o (λ small. small.pages ≡ length ram.dirty)) is s.pages in
    let marks : ((it.process).ram).dirty ≡ replicate small.pages false = s.marks ∙ s.clean ∙ ap (λ n. replicate n false) (sym pages) in
    let can : CanRoll (start_of w small) (w.kept).counts (w.kept).births = subst (λ o. IsSomeAnd o (λ small. CanRoll (start_of w small) (w.kept).counts (w.kept).births)) is s.can in
    let ahead : it.ahead ≡ ahead_of (start_of w small) (w.kept).counts (w.kept).births =
    ahead_then (state_of it.process) (start_of w small) it.counts (w.kept).counts it.births (w.kept).births it.ahead state s.counts s.births s.ahead can in
    λ i. record {
      process = record {
        small = (state i).small;
        ram = record { bytes = (state i).memory; dirty = marks i };
        mail = record { letters = (state i).mail; next = (state i).next };
        read = s.read i;
        since = since i;
      };
      counts = s.counts i;
      births = s.births i;
      ahead = ahead i;
      recorded = s.recorded i;
    }

pub goes_on : (w : WaitingState) (ram : Memory) (it : RollingState) → Starts w ram it → rolling_of w ≡ Some it
goes_on w ram it s = by_state (w.kept).state refl s.pages
  where
    by_state : (o : Option SmallState) → (w.kept).state ≡ o → IsSomeAnd o (λ small. small.pages ≡ length ram.dirty) → rolling_of w ≡ Some it
    by_state None is pages = absurd pages
    by_state (Some small) is pages = ap (option_map (λ (small : SmallState). begun (start_of w small) w.kept)) is ∙ ap Some (sym (begins w ram it small s is))
