use Rattle.std.proofs.Common.{◌≡◌, subst, sym, ap, ◌∙◌, arith, length, ◌++◌, ◌∷◌, []}
use Rattle.std.specs.Prelude.{remove}
use Rattle.std.specs.Arc.{arc_value}
use Rattle.std.specs.Vec.{with_items}
use Rattle.std.proofs.lemmas.List.{with_items_is}
use Rattle.bus_msg.specs.declared.entry.Entry.{Entry}
use Rattle.bus_msg.specs.PlacedAfter.{what}
use Rattle.channel_table.specs.Changes.{CanBeAbsorbed}
use Rattle.cert_sched.specs.Schedule.{placement}
use Rattle.cert_sched.specs.Rules.{ends_run}
use Rattle.bus_order.specs.View.{BusView, IsKept, IsLawful, MayReturn, no_marks, return_entry}
use Rattle.bus_order.proofs.Keeping.{IsMore, fits_as, kept_more, lawful_more}
use Rattle.bus_order.proofs.OverLaws.{open_inside}
use Rattle.bus_order.proofs.Returning.{lost_within, return_more}
use Rattle.bus_order.proofs.bus.Bus.bring_back.Goals as goal
use Rattle.bus_order.proofs.Lawful.{lawful_stands}

pub entry_of-entry-requires : goal.entry_of-entry-requires
entry_of-entry-requires c = lost_within (placement c.args.self.now.system c.args.self.now.log) c.args.k c.requires.may.lost

pub append-requires-clause-goes_on : goal.append-requires-clause-goes_on
append-requires-clause-goes_on c = open_inside c.self.view_is c.self.invariant c.requires.may.goes_on

pub append-requires-clause-next : goal.append-requires-clause-next
append-requires-clause-next c = subst (λ (e : Entry). CanBeAbsorbed c.self.inside.places (what e)) (sym c.entry_of-entry.ensures) tt

pub invariant_of-self-2 : goal.invariant_of-self-2
invariant_of-self-2 c =
    let b : BusView = record { system = arc_value c.self.inside.system; script = c.self.inside.script.items; left = c.self.inside.left; log = c.self.inside.log; marks = c.self.inside.marks.items } in
    let k = c.args.k in
    let left = remove b.left c.args.number in
    let over = c.self.inside.over in
    let places = c.self.inside.places in
    let e : Entry = c.entry_of-entry.result in
    let same : e ≡ return_entry b.system b.log k = c.entry_of-entry.ensures ∙ ap (λ (v : BusView). return_entry v.system v.log k) (sym c.self.view_is) in
    let may : MayReturn b k left = subst (λ (v : BusView). MayReturn v k (remove v.left c.args.number)) (sym c.self.view_is) c.requires.may in
    let more : IsMore b e left = subst (λ e. IsMore b e left) (sym same) (return_more b k left (lawful_stands c.self.invariant.lawful) may) in
    let ends : over ≡ ends_run places (what e) = c.self.invariant.ended ∙ may.goes_on ∙ sym (ap (λ e. ends_run places (what e)) same) in
    let cleared : c.clear.new.marks ≡ no_marks b.marks = c.clear.ensures ∙ ap no_marks c.deref_mut.ensures.value in
    let long : length c.clear.new.marks ≡ c.self.inside.marks.len = omega (arith, c.deref_mut.ensures.len, c.clear.auto.marks) in
    let marks = (with_items c.self.inside.marks c.clear.new.marks).items in
    subst (λ l. IsKept (record b { left = c.remove.new.self; log = l; marks = marks }) over c.append.new.places c.append.new.cert) (sym c.in_ok-place.ensures.log)
    (subst (λ ws. IsKept (record b { left = ws; log = b.log ++ e ∷ []; marks = marks }) over c.append.new.places c.append.new.cert) (sym c.remove.ensures)
    (kept_more b over over places c.append.new.places c.self.inside.cert c.append.new.cert e left marks c.self.invariant more (fits_as c.in_ok-place.ensures.log c.in_ok-place.ensures.fits) ends c.in_ok-place.ensures.places c.in_ok-place.ensures.cert
    (with_items_is c.self.inside.marks c.clear.new.marks long ∙ cleared)))

pub returns-clause-lawful : goal.returns-clause-lawful
returns-clause-lawful c =
    let b : BusView = record { system = arc_value c.self.inside.system; script = c.self.inside.script.items; left = c.self.inside.left; log = c.self.inside.log; marks = c.self.inside.marks.items } in
    let k = c.args.k in
    let left = remove b.left c.args.number in
    let e : Entry = c.entry_of-entry.result in
    let same : e ≡ return_entry b.system b.log k = c.entry_of-entry.ensures ∙ ap (λ (v : BusView). return_entry v.system v.log k) (sym c.self.view_is) in
    let may : MayReturn b k left = subst (λ (v : BusView). MayReturn v k (remove v.left c.args.number)) (sym c.self.view_is) c.requires.may in
    let more : IsMore b e left = subst (λ e. IsMore b e left) (sym same) (return_more b k left (lawful_stands c.self.invariant.lawful) may) in
    let marks = (with_items c.self.inside.marks c.clear.new.marks).items in
    subst (λ l. IsLawful (record b { left = c.remove.new.self; log = l; marks = marks })) (sym c.in_ok-place.ensures.log)
    (subst (λ ws. IsLawful (record b { left = ws; log = b.log ++ e ∷ []; marks = marks })) (sym c.remove.ensures)
    (lawful_more b e left marks c.self.invariant.lawful more (fits_as c.in_ok-place.ensures.log c.in_ok-place.ensures.fits)))
