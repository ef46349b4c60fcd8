-- Which lines keep the rule of new backups, and what follows by the rule in force.
use Rattle.std.proofs.Common.{◌≡◌, ℕ, ◌≤◌, ◌^◌, refl, sym, ◌∙◌, ap, subst, arith, List, Bool, true, false, not, Option, Some, None, true≢false}
use Rattle.t32_base.specs.declared.process.Pid.{Pid}
use Rattle.sys_text.specs.declared.system.System.{System}
use Rattle.bus_msg.specs.declared.entry.Entry.{Entry}
use Rattle.bus_msg.specs.declared.entry.What.{What}
use Rattle.bus_msg.specs.declared.entry.What.TheVariants.{Mail, Birth, Exit, Page, Sync, Rebackup, Done}
use Rattle.bus_msg.specs.Places.{Places}
use Rattle.bus_msg.specs.PlacedAfter.{what}
use Rattle.cert_sched.specs.Schedule.{placement}
use Rattle.cert_sched.specs.Rules.{has_awaited_backup, keeps_backups, owes_no_backup}
use Rattle.cert_sched.specs.Legal.{MayFollow, MayStand}
use Rattle.cert_sched.proofs.MayLaws.{legal_may_stand, may_stand}
use Rattle.entry_lines.specs.declared.told.Told.{Told}
use Rattle.entry_lines.specs.declared.told.ToldWhat.{ToldWhat}
use Rattle.entry_lines.specs.declared.told.ToldWhat.TheVariants.{Mail as ToldMail, Birth as ToldBirth, Exit as ToldExit, Page as ToldPage, Sync as ToldSync, Done as ToldDone}
use Rattle.entry_lines.specs.Told.{told_what}
use Rattle.number_laws.proofs.LogPids.{unended_fits}
use Rattle.audited_process.specs.declared.audited.Audited.{Audited}
use Rattle.audited_process.specs.SinceMoved.{SaysWait}
use Rattle.audited_log.specs.declared.answer.Answer.{Answer}
use Rattle.audited_log.specs.declared.state.AuditedLog.{AuditedLog}
use Rattle.audited_log.specs.Answers.{AnswersTold, FollowsTold, entry_of}
use Rattle.audited_log.specs.Backups.{HasAwaited, KeepsBackups, waiter}
use Rattle.audited_log.specs.Named.{doer}
use Rattle.audited_log.specs.Processes.{IsKept, kept_at}
use Rattle.audited_log.proofs.Doers.{does}

-- ---- what the line of an entry tells of the rule

same_process : (q p : Pid) (n : ℕ) → Some q.0 ≡ Some n → p.0 ≡ n → q ≡ p
same_process q p n is number = let same : q.0 ≡ p.0 = cc in λ j. record { 0 = same j }

doer_waits : (w : ToldWhat) (n : ℕ) → waiter w ≡ Some n → doer w ≡ Some n
doer_waits (ToldMail from at letter) n is = is
doer_waits (ToldBirth parent at child end) n is = is
doer_waits (ToldExit pid at end) n is = is
doer_waits (ToldPage pid at index) n is = is
doer_waits (ToldSync pid at took) n is = is
doer_waits _ n is = cc

module _ (system : System) (log : List Entry) where
  waits : (w : What) (n : ℕ) (p : Pid) → waiter (told_what w) ≡ Some n → p.0 ≡ n → keeps_backups system log w ≡ has_awaited_backup system log p
  waits (Mail at letter) n p is number = ap (has_awaited_backup system log) (same_process letter.from p n is number)
  waits (Birth parent at child end) n p is number = ap (has_awaited_backup system log) (same_process parent p n is number)
  waits (Exit pid at end) n p is number = ap (has_awaited_backup system log) (same_process pid p n is number)
  waits (Page pid at index bytes) n p is number = ap (has_awaited_backup system log) (same_process pid p n is number)
  waits (Sync pid small read took) n p is number = ap (has_awaited_backup system log) (same_process pid p n is number)
  waits (Rebackup to true recs) n p is number = cc
  waits (Rebackup to false recs) n p is number = cc
  waits _ n p is number = cc

  end_owes : (w : What) → told_what w ≡ ToldDone → keeps_backups system log w ≡ owes_no_backup (placement system log)
  end_owes (Done rests) is = refl
  end_owes (Rebackup to true recs) is = cc
  end_owes (Rebackup to false recs) is = cc
  end_owes _ is = cc

  none_waits : (w : What) → (told_what w ≡ ToldDone → ⊥) → waiter (told_what w) ≡ None → keeps_backups system log w ≡ true
  none_waits (Mail at letter) goes none = cc
  none_waits (Birth parent at child end) goes none = cc
  none_waits (Exit pid at end) goes none = cc
  none_waits (Page pid at index bytes) goes none = cc
  none_waits (Sync pid small read took) goes none = cc
  none_waits (Done rests) goes none = absurd (goes refl)
  none_waits _ goes none = refl

-- ---- one process

module _ (n : ℕ) (places : Places) (processes : List (ℕ × Audited)) (has : Bool) where
  -- the number is no pid
  pub no_pid : 2 ^ 32 ≤ n → HasAwaited n places processes has
  no_pid above = λ system log p here number below unended kept. absurd (omega (arith, above, number, below))

  module _ (q : Pid) (is : q.0 ≡ n) where
    me : (p : Pid) → p.0 ≡ n → q ≡ p
    me p number = λ j. record { 0 = (is ∙ sym number) j }

    -- none is kept with it
    pub not_kept : kept_at processes q ≡ None → HasAwaited n places processes has
    not_kept nothing = λ system log p here number below unended kept.
        let gone : kept_at processes p ≡ None = subst (λ (p : Pid). kept_at processes p ≡ None) (me p number) nothing in
        absurd (true≢false (sym unended ∙ subst (IsKept system log p) gone kept))

    -- it waits, or does not
    pub kept_waits : (a : Audited) (waits : Bool) → kept_at processes q ≡ Some a → SaysWait q places a.since_moved waits → has ≡ not waits → HasAwaited n places processes has
    kept_waits a waits there says not_so = λ system log p here number below unended kept.
        let same : kept_at processes p ≡ Some a = subst (λ (p : Pid). kept_at processes p ≡ Some a) (me p number) there in
        let one = subst (IsKept system log p) same kept in
        let waiting : waits ≡ not (has_awaited_backup system log p) = subst (λ (p : Pid). SaysWait p places a.since_moved waits) (me p number) says system log here (one.audited).since_moved in
        not_so ∙ ap not waiting ∙ twice (has_awaited_backup system log p)
      where
        twice : (b : Bool) → not (not b) ≡ b
        twice true = refl
        twice false = refl

-- ---- the answer

module _ (state : AuditedLog) (told : Told) (keeps : Bool) where
  pub waiter_says : (n : ℕ) → waiter told.what ≡ Some n → HasAwaited n ((state.common).front).places (state.processes).entries keeps → KeepsBackups state told keeps
  waiter_says n is says = λ system log e valid legal kept line may.
      let named : waiter (told_what (what e)) ≡ Some n = ap (λ (t : Told). waiter t.what) line ∙ is in
      let one = does (placement system log) (e.post).by (what e) n (doer_waits (told_what (what e)) n named) (may.stands).by_right in
      says system log one.p (sym ((kept.common).front).places) one.number (unended_fits system log one.p valid legal one.unended) one.unended
      (kept.processes ((may.stands).placed).2 one.p)
      ∙ sym (waits system log (what e) n one.p named one.number)

  pub end_says : ToldDone ≡ told.what → keeps ≡ owes_no_backup ((state.common).front).places → KeepsBackups state told keeps
  end_says done is = λ system log e valid legal kept line may.
      is ∙ ap owes_no_backup ((kept.common).front).places ∙ sym (end_owes system log (what e) (ap (λ (t : Told). t.what) line ∙ sym done))

-- ---- the rule in force

follow : (system : System) (log : List Entry) (e : Entry) → MayStand system log e → keeps_backups system log (what e) ≡ true → MayFollow system log e
follow system log e may backup = record { stands = may.stands; limits = may.limits; backup = backup; new_page = may.new_page; pages = may.pages }

module _ (state : AuditedLog) (told : Told) (keeps : Bool) (says : KeepsBackups state told keeps) where
  -- no entry with a line that breaks the rule of new backups may follow
  pub none_follows : keeps ≡ false → FollowsTold state told None
  none_follows breaks = λ system log e valid legal kept line may.
      true≢false (sym may.backup ∙ sym (says system log e valid (legal_may_stand system log legal) kept line (may_stand system log e may)) ∙ breaks)

  -- where the line keeps it, what may stand next may follow
  pub stands_follows : keeps ≡ true → (o : Option Entry) → AnswersTold state told o → FollowsTold state told o
  stands_follows is None decides = λ system log e valid legal kept line may. decides system log e valid (legal_may_stand system log legal) kept line (may_stand system log e may)
  stands_follows is (Some e) decides = λ system log valid legal kept.
      let stands = legal_may_stand system log legal in
      let both = decides system log valid stands kept in
      (both.0, follow system log e both.1 (sym (says system log e valid stands kept both.0 both.1) ∙ is))

  pub answer_follows : keeps ≡ true → {r : Option Answer} (a : Answer) → r ≡ Some a → AnswersTold state told (entry_of r) → FollowsTold state told (Some a.entry)
  answer_follows is a same decides = stands_follows is (Some a.entry) (subst (λ (o : Option Answer). AnswersTold state told (entry_of o)) same decides)
