-- Who is cut is in the kernel without failures, and a birth cuts none.
use Rattle.std.proofs.Common.{◌≡◌, ℕ, refl, sym, ◌∙◌, ap, subst, List, [], ◌∷◌, true, false, eqb-true, Option, Some, None, is_some, true≢false}
use Rattle.std.specs.Prelude.{option_and_then, option_map}
use Rattle.t32_base.specs.declared.process.Pid.{Pid}
use Rattle.t32_base.specs.Small.{SmallState}
use Rattle.sys_text.specs.declared.system.System.{System}
use Rattle.proc_state.specs.State.{ProcState}
use Rattle.plain_kernel.specs.Kernel.{process_at}
use Rattle.bus_msg.specs.declared.entry.What.{What}
use Rattle.bus_msg.specs.declared.entry.What.TheVariants.{Birth, Sync, Rebackup}
use Rattle.bus_msg.specs.declared.entry.Entry.{Entry}
use Rattle.bus_msg.specs.Places.{same_pid}
use Rattle.bus_msg.specs.PlacedAfter.{what}
use Rattle.cert_sched.specs.Deeds.{is_birth_of, is_cut}
use Rattle.cert_sched.specs.Schedule.{process_after, steps_in}
use Rattle.cert_sched.specs.Steps.{after_items, silent_upto}
use Rattle.cert_sched.specs.Kinds.{KindHolds, after_take}
use Rattle.cert_sched.specs.Legal.{Stands}
use Rattle.cert_sched.proofs.StepLaws.{silent_from}

module _ (system : System) (log : List Entry) where
  -- silent steps lead on a process that is there
  silent_there : (q : Pid) (at : ℕ) (o : Option ProcState) → silent_upto system log q at ≡ o → is_some o ≡ true → is_some (process_after system log q) ≡ true
  silent_there q at None is some = absurd (true≢false (sym some))
  silent_there q at (Some t) is some = let s = silent_from system log q at t is in ap (λ k. is_some (option_and_then (λ k. process_at k q) k)) s.before ∙ ap is_some s.there

  to_pid : (q p : Pid) → same_pid q p ≡ true → is_some (process_after system log q) ≡ true → is_some (process_after system log p) ≡ true
  to_pid q p same there = subst (λ r. is_some (process_after system log r) ≡ true) (λ i. record { 0 = eqb-true q.0 p.0 same i }) there

  some_of : (f : ProcState → SmallState) (o : Option ProcState) (small : SmallState) → option_map f o ≡ Some small → is_some o ≡ true
  some_of f None small is = cc
  some_of f (Some s) small is = refl

  pub cut_there : (e : Entry) (p : Pid) → Stands system log e → is_cut p (what e) ≡ true → is_some (process_after system log p) ≡ true
  cut_there e p stands cut = by_what (what e) refl stands.kind cut
    where
      by_what : (w : What) → what e ≡ w → KindHolds system log e w → is_cut p w ≡ true → is_some (process_after system log p) ≡ true
      by_what (Sync q small read took) is kind cut =
          to_pid q p cut (silent_there q small.steps (silent_upto system log q small.steps) refl (some_of (λ s. (after_take took s).small) (silent_upto system log q small.steps) small kind.state))
      by_what (Rebackup to true []) is kind cut = absurd kind
      by_what (Rebackup to true (r ∷ rs)) is kind cut =
          to_pid r.pid p cut (silent_there r.pid (steps_in r.state) (silent_upto system log r.pid (steps_in r.state)) refl (ap (λ w. is_some (after_items system log w)) (sym is) ∙ kind.silent))
      by_what (Rebackup to false recs) is kind cut = absurd (true≢false (sym cut))
      by_what _ is kind cut = absurd (true≢false (sym cut))

pub birth_no_cut : (p : Pid) (w : What) → is_birth_of p w ≡ true → is_cut p w ≡ false
birth_no_cut p (Birth parent at child end) born = refl
birth_no_cut p w born = absurd (true≢false (sym born))
