use Rattle.std.proofs.Common.{◌≡◌, ◌∙◌, ◌-◌, ◌⊎◌, inl, inr, sym, ap, arith, length, slice_get, true, Some, None, true≢false}
use Rattle.std.specs.Option.{option_copied}
use Rattle.std.proofs.lemmas.Option.{slice_get_cases}
use Rattle.bus_order.specs.View.{BusView}
use Rattle.cert_sched.specs.Scripted.{is_finished}
use Rattle.cluster_turns.specs.Ends.{ends_lost}
use Rattle.cluster_turns.proofs.CutOff.{run_out_parts}
use Rattle.bus_order.proofs.Lawful.{lawful_stands}
use Rattle.cluster_run.proofs.Ended.{last_crash, lost_ends, run_out_long}
use Rattle.cluster_run.proofs.leaving.ended_of.Goals as goal

-- what has run out without its end was ended by a loss
ended_by_loss : (b : BusView) → (is_finished b.log ≡ true) ⊎ (ends_lost b.system b.log ≡ true) → (is_finished b.log ≡ true → ⊥) → ends_lost b.system b.log ≡ true
ended_by_loss b (inl finished) other = absurd (other finished)
ended_by_loss b (inr ended) other = ended

pub overflow_sub-length : goal.overflow_sub-length
overflow_sub-length c =
    let b : BusView = c.args.bus.now in
    let long = run_out_long b.system b.log (lawful_stands c.length.ensures.lawful) c.requires in
    omega (arith, long, c.length.ensures.length)

pub lost_by-requires : goal.lost_by-requires
lost_by-requires c =
    let b : BusView = c.args.bus.now in
    let ended = ended_by_loss b (run_out_parts b.system b.log c.requires) (λ finished. true≢false (sym finished ∙ sym c.is_finished.ensures ∙ c.if-is_finished.false)) in
    let at : slice_get b.log (length b.log - 1) ≡ Some c.in-Some.last.now = ap (λ n. slice_get b.log (n - 1)) (sym c.length.ensures.length) ∙ sym c.entry.ensures ∙ ap option_copied c.in-Some.is in
    last_crash b.system b.log c.in-Some.last.now (lawful_stands c.length.ensures.lawful) ended at

pub unreachable-requires : goal.unreachable-requires
unreachable-requires c =
    let b : BusView = c.args.bus.now in
    let long = run_out_long b.system b.log (lawful_stands c.length.ensures.lawful) c.requires in
    let at : slice_get b.log (length b.log - 1) ≡ None = ap (λ n. slice_get b.log (n - 1)) (sym c.length.ensures.length) ∙ sym c.entry.ensures ∙ ap option_copied c.in-None.is in
    elim (slice_get_cases b.log (length b.log - 1)).1 [
      | inl there ↦ (let both : None ≡ Some there.0 = sym at ∙ there.2 in cc)
      | inr past ↦ absurd (omega (arith, long, past.0))
    ]

pub returns : goal.returns
returns c =
    let b : BusView = c.args.bus.now in
    let ended = ended_by_loss b (run_out_parts b.system b.log c.requires) (λ finished. true≢false (sym finished ∙ sym c.is_finished.ensures ∙ c.if-is_finished.false)) in
    let at : slice_get b.log (length b.log - 1) ≡ Some c.in-Some.last.now = ap (λ n. slice_get b.log (n - 1)) (sym c.length.ensures.length) ∙ sym c.entry.ensures ∙ ap option_copied c.in-Some.is in
    lost_ends b.system b.log c.in-Some.last.now c.lost_by.result (lawful_stands c.length.ensures.lawful) ended at c.lost_by.ensures
