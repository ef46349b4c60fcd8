use Rattle.std.proofs.Common.{◌≡◌, true, false, length, sym, ap, ◌∙◌, subst, refl, is_some}
use Rattle.std.specs.Prelude.{replicate}
use Rattle.std.proofs.lemmas.List.{length-replicate}
use Rattle.page_waits.specs.Kept.{bytes_in, dirty_in, pages_come}
use Rattle.page_waits.specs.Waiting.{WaitingState, CanGoOn, is_whole, rolling_of}
use Rattle.page_waits.proofs.Come.{come_memory}
use Rattle.page_waits.proofs.GoingOn.{can_start, goes_on, has_state}
use Rattle.page_waits.proofs.waiting.Waiting.into_rolling.Goals as goal

pub start-requires-clause-runs_out : goal.start-requires-clause-runs_out
start-requires-clause-runs_out c =
    let marks = c.self.inside.here.items in
    let ram = c.self.inside.ram in
    let w : WaitingState = record { kept = c.self.inside.kept; asked = c.self.inside.asked; come = pages_come marks (bytes_in ram) } in
    let whole = ap (λ (w : WaitingState). is_whole w) c.self.view_is ∙ c.requires.whole in
    can_start w c.in-Some.ram (come_memory marks (bytes_in ram) c.self.invariant.size whole ∙ ap bytes_in c.in-Some.is) (subst (λ (w : WaitingState). CanGoOn w) (sym c.self.view_is) c.requires.rolls)

pub returns : goal.returns
returns c =
    let marks = c.self.inside.here.items in
    let ram = c.self.inside.ram in
    let keeps = c.self.invariant in
    let w : WaitingState = record { kept = c.self.inside.kept; asked = c.self.inside.asked; come = pages_come marks (bytes_in ram) } in
    let whole = ap (λ (w : WaitingState). is_whole w) c.self.view_is ∙ c.requires.whole in
    let same = ap dirty_in (sym c.in-Some.is) in
    let dirty : length c.in-Some.ram.dirty ≡ length marks = ap length (same ∙ keeps.clean) ∙ length-replicate (length marks) false in
    let stated : is_some c.self.inside.kept.state ≡ true = sym keeps.stated ∙ ap is_some c.in-Some.is in
    ap rolling_of (sym c.self.view_is) ∙ goes_on w c.in-Some.ram c.start.result (record {
      pages = has_state c.self.inside.kept.state c.self.inside.kept (length c.in-Some.ram.dirty) refl (keeps.pages ∙ sym dirty) stated;
      memory = come_memory marks (bytes_in ram) keeps.size whole ∙ ap bytes_in c.in-Some.is;
      clean = same ∙ keeps.clean ∙ ap (λ n. replicate n false) (sym dirty);
      can = subst (λ (w : WaitingState). CanGoOn w) (sym c.self.view_is) c.requires.rolls;
      state = c.start.ensures.state;
      marks = c.start.ensures.marks;
      read = c.start.ensures.read;
      since = c.start.ensures.since;
      counts = c.start.ensures.counts;
      births = c.start.ensures.births;
      ahead = c.start.ensures.ahead;
      recorded = c.start.ensures.recorded;
    })
