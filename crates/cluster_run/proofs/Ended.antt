-- How a run ended, by the last entry of its log.
use Rattle.std.proofs.Common.{◌≡◌, inl, inr, ℕ, ◌+◌, ◌-◌, ◌<◌, refl, sym, ◌∙◌, ap, subst, arith, List, [], ◌∷◌, ◌++◌, length, length-append, Bool, true, false, not, Some, true≢false}
use Rattle.std.specs.Prelude.{slice_get}
use Rattle.sys_text.specs.declared.system.System.{System}
use Rattle.bus_msg.specs.declared.entry.What.{What}
use Rattle.bus_msg.specs.declared.entry.What.TheVariants.{Crash, Done, Stop}
use Rattle.bus_msg.specs.declared.entry.Entry.{Entry}
use Rattle.bus_msg.specs.Places.{Places, is_covered}
use Rattle.bus_msg.specs.PlacedAfter.{what}
use Rattle.t32_base.specs.declared.process.ClusterNo.{ClusterNo}
use Rattle.cert_sched.specs.Legal.{IsLegalBy, MayStand}
use Rattle.cert_sched.specs.Parts.{last_of}
use Rattle.cert_sched.specs.Rules.{ends_run, is_over}
use Rattle.cert_sched.specs.Schedule.{placement}
use Rattle.cert_sched.specs.Scripted.{closes, is_closed, is_finished}
use Rattle.cert_sched.specs.Told.{cluster_lost, told}
use Rattle.cert_sched.proofs.Induction.{is_over-snoc, legal_induction}
use Rattle.cert_sched.proofs.ListLaws.{last_of-snoc}
use Rattle.cert_sched.proofs.LogLaws.{told-snoc, told_last}
use Rattle.bus_order.proofs.OverLaws.{closed-snoc, finished_closed, none_over, open_not_closed, over_long}
use Rattle.report_text.specs.declared.run.Ended.{Ended}
use Rattle.report_text.specs.declared.run.Ended.TheVariants.{Finished, Lost}
use Rattle.report_text.specs.Good.{EndsAs, IsLostAt}
use Rattle.report_text.specs.RunReport.{is_crash}
use Rattle.cluster_turns.specs.Ends.{ends_lost, has_run_out}
use Rattle.cluster_run.specs.Left.{IsLostBy}
use Rattle.cluster_turns.proofs.CutOff.{ended_over, run_out_parts}
use Rattle.cluster_turns.proofs.Prefixes.{get_last}

-- ---- a closed log is over

pub closed_over : (system : System) (log : List Entry) → IsLegalBy MayStand system log → is_closed log ≡ true → is_over system log ≡ true
closed_over system log legal closed = by_test (is_over system log) refl
  where
    by_test : (b : Bool) → is_over system log ≡ b → is_over system log ≡ true
    by_test true over = over
    by_test false goes_on = absurd (true≢false (sym closed ∙ open_not_closed system log legal goes_on))

pub finished_over : (system : System) (log : List Entry) → IsLegalBy MayStand system log → is_finished log ≡ true → is_over system log ≡ true
finished_over system log legal finished = closed_over system log legal (finished_closed log finished)

-- so one that has run out is over
pub run_out_over : (system : System) (log : List Entry) → IsLegalBy MayStand system log → has_run_out system log ≡ true → is_over system log ≡ true
run_out_over system log legal out = elim (run_out_parts system log out) [
  | inl finished ↦ finished_over system log legal finished
  | inr ended ↦ (ended_over system log ended).0
]

pub run_out_long : (system : System) (log : List Entry) → IsLegalBy MayStand system log → has_run_out system log ≡ true → 0 < length log
run_out_long system log legal out = let long = over_long system log legal (run_out_over system log legal out) in omega (arith, long)

-- ---- a loss that is not covered stands last

-- of the entries that end a run only a loss does not close its log
ends_by_crash : (places : Places) (w : What) → ends_run places w ≡ true → closes w ≡ false → is_crash w ≡ true
ends_by_crash places (Crash k cause) ends open_still = refl
ends_by_crash places (Done rests) ends open_still = absurd (true≢false open_still)
ends_by_crash places Stop ends open_still = absurd (true≢false open_still)
ends_by_crash places _ ends open_still = absurd (true≢false (sym ends))

uncovered : (places : Places) (w : What) (k : ClusterNo) → cluster_lost w ≡ Some k → ends_run places w ≡ true → is_covered places k ≡ false
uncovered places (Crash j cause) k lost ends =
    let same : j ≡ k = cc in
    ap (is_covered places) (sym same) ∙ by_test (is_covered places j) ends
  where
    by_test : (b : Bool) → not b ≡ true → b ≡ false
    by_test true h = absurd (true≢false (sym h))
    by_test false h = refl
uncovered places _ k lost ends = cc

record LastLost (system : System) (log : List Entry) : Type 0 where
  pub crash : (e : Entry) → slice_get log (length log - 1) ≡ Some e → is_crash (what e) ≡ true
  pub ends : (e : Entry) (ended : Ended) → slice_get log (length log - 1) ≡ Some e → IsLostBy e ended → EndsAs system log ended

lost_last : (system : System) (log : List Entry) (e : Entry) → ends_lost system (log ++ e ∷ []) ≡ true → LastLost system (log ++ e ∷ [])
lost_last system log e ended = record {
  crash = λ f at. subst (λ (f : Entry). is_crash (what f) ≡ true) (is f at) crashes;
  ends = λ f end at lost. subst (λ (f : Entry). IsLostBy f end → EndsAs system (log ++ e ∷ []) end) (is f at) (by_end end) lost;
}
  where
    parts : (is_over system (log ++ e ∷ []) ≡ true) × (is_closed (log ++ e ∷ []) ≡ false)
    parts = ended_over system (log ++ e ∷ []) ended

    ends : ends_run (placement system log) (what e) ≡ true
    ends = sym (is_over-snoc system log e) ∙ parts.0

    crashes : is_crash (what e) ≡ true
    crashes = ends_by_crash (placement system log) (what e) ends (sym (closed-snoc log e) ∙ parts.1)

    is : (f : Entry) → slice_get (log ++ e ∷ []) (length (log ++ e ∷ []) - 1) ≡ Some f → e ≡ f
    is f at =
        let long : length (log ++ e ∷ []) ≡ length log + 1 = length-append log (e ∷ []) in
        let place : length (log ++ e ∷ []) - 1 ≡ length log = omega (arith, long) in
        let both : Some e ≡ Some f = sym (get_last log e) ∙ ap (slice_get (log ++ e ∷ [])) (sym place) ∙ at in
        cc

    last : last_of (told system (log ++ e ∷ [])) ≡ Some (told_last system log e)
    last = ap last_of (told-snoc system log e) ∙ last_of-snoc (told system log) (told_last system log e)

    by_end : (end : Ended) → IsLostBy e end → EndsAs system (log ++ e ∷ []) end
    by_end Finished lost = absurd lost
    by_end (Lost k at) lost = subst (λ o. IsLostAt o k at) (sym last) (lost.0, uncovered (placement system log) (what e) k lost.0 ends, lost.1)

last_lost : (system : System) (log : List Entry) → IsLegalBy MayStand system log → ends_lost system log ≡ true → LastLost system log
last_lost system log legal = legal_induction MayStand system (λ log. ends_lost system log ≡ true → LastLost system log)
    (λ ended. absurd (true≢false (sym (ended_over system [] ended).0 ∙ none_over system)))
    (λ log e before may ended. lost_last system log e ended) log legal

pub last_crash : (system : System) (log : List Entry) (e : Entry) → IsLegalBy MayStand system log → ends_lost system log ≡ true → slice_get log (length log - 1) ≡ Some e → is_crash (what e) ≡ true
last_crash system log e legal ended at = (last_lost system log legal ended).crash e at

pub lost_ends : (system : System) (log : List Entry) (e : Entry) (end : Ended) → IsLegalBy MayStand system log → ends_lost system log ≡ true → slice_get log (length log - 1) ≡ Some e → IsLostBy e end → EndsAs system log end
lost_ends system log e end legal ended at lost = (last_lost system log legal ended).ends e end at lost

-- ---- a run that no loss has ended came to its end

none_lost : (system : System) (k : ClusterNo) (at : ℕ) → IsLostAt (last_of (told system [])) k at → ⊥
unfolding told
none_lost system k at lost = lost

ends_by : (system : System) (log : List Entry) (end : Ended) → EndsAs system log end → (is_over system log ≡ true → is_closed log ≡ true) → IsLegalBy MayStand system log → end ≡ Finished
ends_by system log Finished ends shut legal = refl
ends_by system log (Lost k at) ends shut legal = absurd (never log legal shut ends)
  where
    crash_open : (w : What) → cluster_lost w ≡ Some k → closes w ≡ false
    crash_open (Crash j cause) lost = refl
    crash_open (Done rests) lost = cc
    crash_open Stop lost = cc
    crash_open _ lost = refl

    crash_ends : (places : Places) (w : What) → cluster_lost w ≡ Some k → is_covered places k ≡ false → ends_run places w ≡ true
    crash_ends places (Crash j cause) lost none = let same : j ≡ k = cc in ap (λ (i : ClusterNo). not (is_covered places i)) same ∙ ap not none
    crash_ends places _ lost none = cc

    never : (log : List Entry) → IsLegalBy MayStand system log → (is_over system log ≡ true → is_closed log ≡ true) → IsLostAt (last_of (told system log)) k at → ⊥
    never log legal = legal_induction MayStand system (λ log. (is_over system log ≡ true → is_closed log ≡ true) → IsLostAt (last_of (told system log)) k at → ⊥)
        (λ shut lost. none_lost system k at lost)
        (λ log e before may shut lost.
        let last : last_of (told system (log ++ e ∷ [])) ≡ Some (told_last system log e) = ap last_of (told-snoc system log e) ∙ last_of-snoc (told system log) (told_last system log e) in
        let here : IsLostAt (Some (told_last system log e)) k at = subst (λ o. IsLostAt o k at) last lost in
        let over : is_over system (log ++ e ∷ []) ≡ true = is_over-snoc system log e ∙ crash_ends (placement system log) (what e) here.0 here.1 in
        true≢false (sym (shut over) ∙ closed-snoc log e ∙ crash_open (what e) here.0)) log legal

pub ends_finished : (system : System) (log : List Entry) (end : Ended) → IsLegalBy MayStand system log → (is_over system log ≡ true → is_closed log ≡ true) → EndsAs system log end → end ≡ Finished
ends_finished system log end legal shut ends = ends_by system log end ends shut legal
