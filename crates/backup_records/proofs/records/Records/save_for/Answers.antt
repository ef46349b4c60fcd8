use Rattle.std.proofs.Common.{List, ap, cond, map, refl, sym, ◌∙◌}
use Rattle.std.specs.Map.{values_of}
use Rattle.std.proofs.lemmas.Result.{on_ok_weaker, on_err_weaker}
use Rattle.t32_base.specs.declared.letter.BackRec.{BackRec}
use Rattle.bus_msg.specs.Places.{same_pid}
use Rattle.backup_records.specs.Records.{record_in, with_saved}
use Rattle.backup_records.proofs.ByPidLaws.{by_pid_kept, record_found, values_changed}
use Rattle.backup_records.proofs.records.Records.save_for.Goals as goal

pub save_at-requires : goal.save_at-requires
save_at-requires c = λ r found.
    c.requires r (ap (λ (recs : List BackRec). record_in recs c.args.pid) (sym c.self.view_is) ∙ record_found c.args.pid c.self.inside.by_pid.entries c.self.invariant.own ∙ found)

pub invariant_of-self : goal.invariant_of-self
invariant_of-self c =
    by_pid_kept c.save_at.result (c.args.pid).0 (with_saved c.args.letter.now) c.self.inside.by_pid.entries c.save_at.new.records.entries (λ r. refl) c.save_at.ensures.ok c.save_at.ensures.err c.self.invariant

pub returns-clause-ok : goal.returns-clause-ok
returns-clause-ok c =
    on_ok_weaker c.save_at.result
    (λ is.
    ap values_of is
    ∙ values_changed c.args.pid (with_saved c.args.letter.now) c.self.inside.by_pid.entries c.self.invariant.own
    ∙ ap (λ (recs : List BackRec). map (λ (r : BackRec). cond (same_pid c.args.pid r.pid) (with_saved c.args.letter.now r) r) recs) c.self.view_is)
    c.save_at.ensures.ok

pub returns-clause-err : goal.returns-clause-err
returns-clause-err c = on_err_weaker c.save_at.result (λ is. ap values_of is ∙ c.self.view_is) c.save_at.ensures.err
