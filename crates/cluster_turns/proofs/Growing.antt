-- A bus whose log has grown.
use Rattle.std.proofs.Common.{refl, sym, ◌∙◌, ap, List, [], ◌++◌, append-nil, append_assoc}
use Rattle.t32_base.specs.declared.process.ClusterNo.{ClusterNo}
use Rattle.bus_msg.specs.declared.entry.Entry.{Entry}
use Rattle.bus_order.specs.View.{BusView}
use Rattle.cluster_turns.specs.Offers.{Adds, HasGrown, IsLonger}

pub grown_none : (b : BusView) → HasGrown b b
grown_none b = record { system = refl; script = refl; more = []; log = sym (append-nil b.log) }

pub grown_then : (old mid new : BusView) → HasGrown old mid → HasGrown mid new → HasGrown old new
grown_then old mid new one two = record {
  system = two.system ∙ one.system;
  script = two.script ∙ one.script;
  more = one.more ++ two.more;
  log = two.log ∙ ap (λ (l : List Entry). l ++ two.more) one.log ∙ append_assoc old.log one.more two.more;
}

-- by what a cluster may add
pub adds_grown : (k : ClusterNo) (old new : BusView) → Adds k old new → HasGrown old new
adds_grown k old new adds = record { system = adds.system; script = adds.script; more = adds.more; log = adds.log }

-- or by what others have added
pub longer_grown : (k : ClusterNo) (old new : BusView) → IsLonger k old new → HasGrown old new
longer_grown k old new longer = record { system = longer.0; script = longer.1; more = (longer.2).more; log = (longer.2).longer }
