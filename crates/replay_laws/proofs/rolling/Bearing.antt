-- The entry that bears a process: it tells of the birth, and the kernel makes it.
use Rattle.std.proofs.Common.{◌≡◌, ℕ, sym, ◌∙◌, ap, subst, List, [], ◌∷◌, ◌++◌, true, Some, true≢false}
use Rattle.std.proofs.lemmas.Option.{same_Some}
use Rattle.t32_base.specs.declared.process.Pid.{Pid}
use Rattle.sys_text.specs.declared.system.System.{System}
use Rattle.proc_state.specs.State.{ProcState}
use Rattle.sys_calls.specs.Fork.{fork_child}
use Rattle.bus_msg.specs.declared.entry.What.{What}
use Rattle.bus_msg.specs.declared.entry.What.TheVariants.{Birth}
use Rattle.bus_msg.specs.declared.entry.Entry.{Entry}
use Rattle.bus_msg.specs.PlacedAfter.{what}
use Rattle.cert_sched.specs.Schedule.{process_after}
use Rattle.cert_sched.specs.Deeds.{is_birth_of}
use Rattle.cert_sched.specs.Kinds.{KindHolds}
use Rattle.cert_sched.specs.Legal.{Stands}
use Rattle.cert_sched.proofs.MadeLaws.{BirthMade}
use Rattle.cert_sched.proofs.BornLaws.{birth_applied}
use Rattle.cert_sched.proofs.CameLaws.{same_of}

pub record IsBirth (w : What) (p : Pid) : Type 0 where
  pub parent : Pid
  pub at : ℕ
  pub end : ℕ
  pub is : w ≡ Birth parent at p end

pub birth_is : (w : What) (p : Pid) → is_birth_of p w ≡ true → IsBirth w p
birth_is (Birth parent at child end) p birth = record { parent = parent; at = at; end = end; is = ap (λ q. Birth parent at q end) (same_of child p birth) }
birth_is _ p birth = absurd (true≢false (sym birth))

-- the kernel makes a birth that stands
pub stands_made : (system : System) (log : List Entry) (e : Entry) (parent : Pid) (at : ℕ) (child : Pid) (end : ℕ) → Stands system log e → what e ≡ Birth parent at child end → BirthMade system log e parent child
stands_made system log e parent at child end stands is = birth_applied system log e parent at child end is stands.applies (subst (KindHolds system log e) is stands.kind).end_is

-- no letter has come to a process that an entry bears
pub born_without_letters : (system : System) (log : List Entry) (e : Entry) (p : Pid) (now : ProcState) → Stands system log e → is_birth_of p (what e) ≡ true → process_after system (log ++ e ∷ []) p ≡ Some now → now.next ≡ 0
born_without_letters system log e p now stands birth there =
    let b = birth_is (what e) p birth in
    let made = stands_made system log e b.parent b.at p b.end stands b.is in
    ap (λ (s : ProcState). s.next) (same_Some now (fork_child made.before p) (sym there ∙ made.child_is))
