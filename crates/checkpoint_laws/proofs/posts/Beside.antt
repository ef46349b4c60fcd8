-- An entry that neither starts a process again, nor tells what it did, nor brings it a letter: what the log says of its start, its deeds and its letters stays.
use Rattle.std.proofs.Common.{◌≡◌, ◌∙◌, ap, List, [], ◌∷◌, ◌++◌, append-nil, false, cond, ◌||◌}
use Rattle.std.specs.Option.{option_map_or}
use Rattle.t32_base.specs.declared.process.Pid.{Pid}
use Rattle.sys_text.specs.declared.system.System.{System}
use Rattle.proc_state.specs.State.{ProcState}
use Rattle.bus_msg.specs.declared.entry.Entry.{Entry}
use Rattle.bus_msg.specs.PlacedAfter.{what}
use Rattle.cert_sched.specs.Schedule.{process_after}
use Rattle.cert_sched.specs.Deeds.{starts, is_cut, is_birth_of, start_of, since, deeds_in, letter_for, saved_letters}
use Rattle.cert_sched.specs.Steps.{saved_of}
use Rattle.cert_sched.proofs.RecordLaws.{start_of-snoc, since-snoc, saved_letters-other}

module _ (system : System) (log : List Entry) (e : Entry) (q : Pid) (no_cut : is_cut q (what e) ≡ false) (no_birth : is_birth_of q (what e) ≡ false) where
  quiet : starts q e ≡ false
  quiet = ap (λ b. b || is_birth_of q (what e)) no_cut ∙ no_birth

  pub start_stays : start_of system (log ++ e ∷ []) q ≡ start_of system log q
  start_stays = start_of-snoc system log e q ∙ ap (λ b. cond b (process_after system (log ++ e ∷ []) q) (start_of system log q)) quiet

  pub since_stays : deeds_in q (what e) ≡ [] → since (log ++ e ∷ []) q ≡ since log q
  since_stays no_deeds = since-snoc log e q ∙ rw (quiet, no_deeds) (append-nil (since log q))

  pub saved_stay : letter_for q (what e) ≡ [] → saved_of system (log ++ e ∷ []) q ≡ saved_of system log q
  saved_stay no_letters =
      let same : (s : ProcState) → saved_letters (log ++ e ∷ []) q s ≡ saved_letters log q s = λ s. saved_letters-other log e q s quiet ∙ rw no_letters (append-nil (saved_letters log q s)) in
      λ i. option_map_or (λ s. same s i) (start_stays i) []
