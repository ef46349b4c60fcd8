use Rattle.std.proofs.Common.{is_some, refl, sym, ap}
use Rattle.page_server.proofs.processes.put_if_there.Goals as goal

pub returns-in-Some-clause-puts : goal.returns-in-Some-clause-puts
returns-in-Some-clause-puts g c =
    let h = c.get_mut.follows.holds (record { place = c.in-Some.pages.now.place; table = c.put.new.self }) in
    record {
      was = c.in-Some.pages.now;
      now = record { place = c.in-Some.pages.now.place; table = c.put.new.self };
      found = sym c.in-Some.ensures.value;
      becomes = (h.3 (ap is_some (sym c.in-Some.ensures.value))).0;
      place = refl;
      table = c.put.ensures.table;
      slots = c.put.ensures.slots;
    }
