use Rattle.std.proofs.Common.{◌≡◌, ◌+◌, ◌-◌, ◌^◌, ◌<◌, ap, subst, sym, ◌∙◌, arith, true}
use Rattle.std.specs.Arc.{arc_value}
use Rattle.std.specs.List.{list_all}
use Rattle.bus_msg.specs.declared.entry.Post.{Post}
use Rattle.bus_msg.specs.PlacedAfter.{what, placed_after}
use Rattle.cluster_core.specs.Sent.{is_sent}
use Rattle.cert_sched.specs.Losses.{is_from}
use Rattle.sys_text.specs.Valid.{is_system}
use Rattle.sys_text.proofs.Bounds.{system_bounds}
use Rattle.channel_table.specs.Changes.{CanBeAbsorbed}
use Rattle.backup_records.specs.Records.{CanNote, are_rising, records_after}
use Rattle.cluster_core.specs.View.{ClusterView, limits_of, next_count, with_server}
use Rattle.cluster_core.specs.Serving.{Serves}
use Rattle.cluster_core.specs.Parts.{AllOwn}
use Rattle.cluster_core.specs.Recovered.{CanWait, left_by, moved_by, with_all_waiting}
use Rattle.cluster_core.specs.Calls.{Absorbs, absorbed, here_after}
use Rattle.cluster_core.specs.Families.{CanJoin, family_after}
use Rattle.cluster_core.specs.Owed.{owed_after}
use Rattle.cluster_core.specs.Queue.{left_queued}
use Rattle.cluster_core.specs.Absorbing.{CanBeBorn, CanCome, ComesHere, IsNotedHere}
use Rattle.cluster_core.proofs.absorbing.Arriving.{comes_here}
use Rattle.cluster_core.proofs.absorbing.Fallen.{left_all}
use Rattle.cluster_core.proofs.absorbing.Noting.{can_note_next, noted_next}
use Rattle.cluster_core.proofs.here.Owning.{has_room}
use Rattle.cluster_core.proofs.absorbing.Absorbed.{absorbs, may_come, may_wait, ready_absorbable, ready_joins, ready_own}
use Rattle.cluster_core.proofs.losses.OwningWaits.{owns_waiting}
use Rattle.cluster_core.proofs.births.Bearable.{may_be_born}
use Rattle.residents.specs.Duty.{DutyView}
use Rattle.residents.specs.Owing.{duty_in, owing_in}
use Rattle.residents.specs.Residents.{pids_in}
use Rattle.cluster_core.proofs.cluster.Cluster.take_in.Goals as goal

pub take_entry-taken-requires-clause-number : goal.take_entry-taken-requires-clause-number
take_entry-taken-requires-clause-number g c = omega (arith, c.self.invariant.has, (system_bounds (arc_value c.self.inside.system) c.self.invariant.valid).clusters)

pub take_entry-taken-requires-clause-note : goal.take_entry-taken-requires-clause-note
take_entry-taken-requires-clause-note g c =
    let old : ClusterView = c.args.self.now in
    let valid : is_system old.system ≡ true = subst (λ (v : ClusterView). is_system v.system ≡ true) c.self.view_is c.self.invariant.valid in
    subst (λ (v : ClusterView). CanNote (what c.args.entry.now) v.records) (sym c.self.view_is) (can_note_next old c.args.entry.now valid c.requires.ready c.requires.room)

pub take_entry-taken-requires-clause-noted : goal.take_entry-taken-requires-clause-noted
take_entry-taken-requires-clause-noted g c =
    let old : ClusterView = c.args.self.now in
    let valid : is_system old.system ≡ true = subst (λ (v : ClusterView). is_system v.system ≡ true) c.self.view_is c.self.invariant.valid in
    subst (λ (v : ClusterView). IsNotedHere v.number c.args.entry.now v.records) (sym c.self.view_is) (noted_next old c.args.entry.now valid c.requires.ready)

pub take_entry-taken-requires-clause-join : goal.take_entry-taken-requires-clause-join
take_entry-taken-requires-clause-join g c =
    let old : ClusterView = c.args.self.now in
    let valid : is_system old.system ≡ true = subst (λ (v : ClusterView). is_system v.system ≡ true) c.self.view_is c.self.invariant.valid in
    subst (λ (v : ClusterView). CanJoin (what c.args.entry.now) v.family) (sym c.self.view_is) (ready_joins old c.args.entry.now valid c.requires.ready)

pub take_entry-taken-requires-clause-absorb : goal.take_entry-taken-requires-clause-absorb
take_entry-taken-requires-clause-absorb g c =
    let old : ClusterView = c.args.self.now in
    let valid : is_system old.system ≡ true = subst (λ (v : ClusterView). is_system v.system ≡ true) c.self.view_is c.self.invariant.valid in
    subst (λ (v : ClusterView). CanBeAbsorbed v.places (what c.args.entry.now)) (sym c.self.view_is) (ready_absorbable old c.args.entry.now valid c.requires.ready)

pub take_entry-taken-requires-clause-wait : goal.take_entry-taken-requires-clause-wait
take_entry-taken-requires-clause-wait g c =
    let old : ClusterView = c.args.self.now in
    let valid : is_system old.system ≡ true = subst (λ (v : ClusterView). is_system v.system ≡ true) c.self.view_is c.self.invariant.valid in
    let w = what c.args.entry.now in
    subst (λ (v : ClusterView). CanWait (moved_by v.places v.number w (records_after v.number w v.records)) (here_after w v.here)) (sym c.self.view_is) (may_wait old c.args.entry.now valid c.requires.ready)

pub take_entry-taken-requires-clause-room : goal.take_entry-taken-requires-clause-room
take_entry-taken-requires-clause-room g c =
    has_room c.self.inside.cursor c.self.inside.here.here c.self.invariant.residents (subst (λ (v : ClusterView). v.cursor < 2 ^ 64 - 1) (sym c.self.view_is) c.requires.room)

pub take_entry-taken-requires-clause-comes : goal.take_entry-taken-requires-clause-comes
take_entry-taken-requires-clause-comes g c =
    let old : ClusterView = c.args.self.now in
    let valid : is_system old.system ≡ true = subst (λ (v : ClusterView). is_system v.system ≡ true) c.self.view_is c.self.invariant.valid in
    subst (λ (v : ClusterView). ComesHere v.number c.args.entry.now v.here) (sym c.self.view_is) (comes_here old c.args.entry.now valid c.requires.ready)

pub take_entry-taken-requires-clause-page : goal.take_entry-taken-requires-clause-page
take_entry-taken-requires-clause-page g c =
    let old : ClusterView = c.args.self.now in
    let valid : is_system old.system ≡ true = subst (λ (v : ClusterView). is_system v.system ≡ true) c.self.view_is c.self.invariant.valid in
    subst (λ (v : ClusterView). CanCome (what c.args.entry.now) v.here) (sym c.self.view_is) (may_come old c.args.entry.now valid c.requires.ready)

pub take_entry-taken-requires-clause-birth : goal.take_entry-taken-requires-clause-birth
take_entry-taken-requires-clause-birth g c =
    let old : ClusterView = c.args.self.now in
    let valid : is_system old.system ≡ true = subst (λ (v : ClusterView). is_system v.system ≡ true) c.self.view_is c.self.invariant.valid in
    subst (λ (v : ClusterView). CanBeBorn (what c.args.entry.now) v.here) (sym c.self.view_is) (may_be_born old c.args.entry.now valid (subst (λ (v : ClusterView). AllOwn v.cursor v.here) c.self.view_is c.self.invariant.residents) c.requires.ready)

pub take_entry-taken-requires-clause-duty : goal.take_entry-taken-requires-clause-duty
take_entry-taken-requires-clause-duty g c =
    let is = c.self.invariant.duty_are in
    is ∙ ap (λ limits. duty_in limits c.self.inside.places c.self.inside.here.here) (sym (ap (λ (d : DutyView). d.limits) is))

pub invariant_of-self-in-Err : goal.invariant_of-self-in-Err
invariant_of-self-in-Err g c =
    let limits : c.limits.result ≡ limits_of (arc_value c.self.inside.system) = c.limits.ensures ∙ c.take_entry-taken.ensures.limits ∙ ap (λ (d : DutyView). d.limits) c.self.invariant.duty_are in
    record {
      valid = c.self.invariant.valid;
      has = c.self.invariant.has;
      duty_are = c.none.ensures.duty ∙ (λ i. record { limits = limits i; owing = owing_in c.take_entry-taken.new.places (pids_in (sym c.none.ensures.here i)) });
      residents = subst (AllOwn c.self.inside.cursor) (sym c.none.ensures.here) tt;
      own = subst (λ posts. list_all (λ (post : Post). is_from c.self.inside.number post.by) posts ≡ true) (sym c.drop_fallen.ensures) (left_all (λ (post : Post). is_from c.self.inside.number post.by) c.self.inside.places (what c.args.entry.now) c.self.inside.queue.items c.self.invariant.own);
      of_kind = subst (λ posts. list_all (λ (post : Post). is_sent post.what) posts ≡ true) (sym c.drop_fallen.ensures) (left_all (λ (post : Post). is_sent post.what) c.self.inside.places (what c.args.entry.now) c.self.inside.queue.items c.self.invariant.of_kind);
    }

pub invariant_of-self-2 : goal.invariant_of-self-2
invariant_of-self-2 g c =
    let old : ClusterView = c.args.self.now in
    let e = c.args.entry.now in
    let w = what e in
    let valid : is_system old.system ≡ true = subst (λ (v : ClusterView). is_system v.system ≡ true) c.self.view_is c.self.invariant.valid in
    let told = ready_own old e c.requires.ready (subst (λ (v : ClusterView). AllOwn v.cursor v.here) c.self.view_is c.self.invariant.residents) in
    let order : are_rising (moved_by old.places old.number w (records_after old.number w old.records)) ≡ true =
    subst (λ (v : ClusterView). are_rising (moved_by v.places v.number w (records_after v.number w v.records)) ≡ true) c.self.view_is c.in_default.ensures.rising in
    let mine : AllOwn (c.self.inside.cursor + 1) (with_all_waiting (moved_by c.self.inside.places c.self.inside.number w (records_after c.self.inside.number w c.self.inside.records)) (here_after w c.self.inside.here.here)) =
    subst (λ (v : ClusterView). AllOwn (v.cursor + 1) (with_all_waiting (moved_by v.places v.number w (records_after v.number w v.records)) (here_after w v.here))) (sym c.self.view_is)
    (owns_waiting old e valid c.requires.ready order (here_after w old.here) told) in
    record {
      valid = c.self.invariant.valid;
      has = c.self.invariant.has;
      duty_are = c.in_default.ensures.duty ∙ ap (λ (d : DutyView). duty_in d.limits c.take_entry-taken.new.places c.take_entry-taken.new.here.here) c.self.invariant.duty_are;
      residents = subst (AllOwn (c.self.inside.cursor + 1)) (sym c.in_default.ensures.here) mine;
      own = subst (λ posts. list_all (λ (post : Post). is_from c.self.inside.number post.by) posts ≡ true) (sym c.drop_fallen.ensures) (left_all (λ (post : Post). is_from c.self.inside.number post.by) c.self.inside.places (what c.args.entry.now) c.self.inside.queue.items c.self.invariant.own);
      of_kind = subst (λ posts. list_all (λ (post : Post). is_sent post.what) posts ≡ true) (sym c.drop_fallen.ensures) (left_all (λ (post : Post). is_sent post.what) c.self.inside.places (what c.args.entry.now) c.self.inside.queue.items c.self.invariant.of_kind);
    }

pub returns-clause-follows : goal.returns-clause-follows
returns-clause-follows g c =
    let old : ClusterView = c.args.self.now in
    let e = c.args.entry.now in
    let w = what e in
    let valid : is_system old.system ≡ true = subst (λ (v : ClusterView). is_system v.system ≡ true) c.self.view_is c.self.invariant.valid in
    let server = c.serve.new.server in
    let t = c.in_default.ensures in
    let whole : c.count_step.new.self ≡ with_server server (absorbed old e) =
    c.count_step.ensures
    ∙ ap (λ (v : ClusterView). record v { cursor = v.cursor + 1; places = c.take_entry-taken.new.places; here = c.take_entry-taken.new.here.here; records = c.take_entry-taken.new.records; family = c.take_entry-taken.new.family; owed = c.take_entry-taken.new.owed; server = server; queue = c.drop_fallen.new.queue.items; steps = next_count v.steps }) c.self.view_is
    ∙ (λ i. record old { cursor = old.cursor + 1; places = t.places i; here = t.here i; records = t.records i; family = t.family i; owed = t.owed i; server = server; queue = c.drop_fallen.ensures i; steps = next_count old.steps })
    ∙ ap (λ (v : ClusterView). record old { cursor = old.cursor + 1; places = placed_after v.places w; here = with_all_waiting (moved_by v.places v.number w (records_after v.number w v.records)) (here_after w v.here); records = left_by v.places v.number w (records_after v.number w v.records); family = family_after w v.family; owed = owed_after v.number v.places w v.owed; server = server; queue = left_queued v.places w v.queue; steps = next_count old.steps }) c.self.view_is in
    let own = subst (λ (v : ClusterView). AllOwn v.cursor v.here) c.self.view_is c.self.invariant.residents in
    let order : are_rising (moved_by old.places old.number w (records_after old.number w old.records)) ≡ true =
    subst (λ (v : ClusterView). are_rising (moved_by v.places v.number w (records_after v.number w v.records)) ≡ true) c.self.view_is t.rising in
    let serves : Serves old.places e old.server server = subst (λ (v : ClusterView). Serves v.places e v.server server) c.self.view_is c.in_ok-serve.ensures.ok in
    subst (Absorbs e old) (sym whole) (absorbs old e server valid own order serves)
