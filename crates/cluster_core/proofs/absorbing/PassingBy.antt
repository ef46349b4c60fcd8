-- An entry that changes nothing but what a page server keeps leaves the processes of a cluster as they are.
use Rattle.std.proofs.Common.{◌≡◌, refl, sym, ◌∙◌, ap, List, Bool, true, false, true≢false}
use Rattle.std.specs.Prelude.{not}
use Rattle.t32_base.specs.declared.process.Pid.{Pid}
use Rattle.t32_base.specs.declared.process.ClusterNo.{ClusterNo}
use Rattle.t32_base.specs.declared.letter.BackRec.{BackRec}
use Rattle.bus_msg.specs.declared.entry.What.{What}
use Rattle.bus_msg.specs.declared.entry.What.TheVariants.{Mail, Birth, Exit, Page, Sync, Fetch, PageIs, Crash, Return, Rebackup, Done, Stop}
use Rattle.bus_msg.specs.declared.entry.Entry.{Entry}
use Rattle.bus_msg.specs.Places.{Places}
use Rattle.bus_msg.specs.PlacedAfter.{what}
use Rattle.residents.specs.Held.{Held}
use Rattle.cluster_core.specs.Absorbing.{ComesHere, passes_by}
use Rattle.cluster_core.specs.Calls.{here_after}
use Rattle.cluster_core.specs.Recovered.{moved_by, with_all_waiting}
use Rattle.cluster_core.proofs.absorbing.Arriving.{goes_elsewhere}

none_of : (b : Bool) → not b ≡ true → b ≡ false
none_of true is = sym is
none_of false is = refl

pub here_stays : (k : ClusterNo) (e : Entry) (places : Places) (recs : List BackRec) (here : List (Pid × Held)) (w : What) → what e ≡ w → passes_by k e.dests w ≡ true → ComesHere k e here
    → with_all_waiting (moved_by places k w recs) (here_after w here) ≡ here
here_stays k e places recs here (Mail at letter) is passes comes = ap (λ w. here_after w here) (sym is) ∙ goes_elsewhere k e at letter here is comes (none_of _ passes)
here_stays k e places recs here (Page p at i bytes) is passes comes = refl
here_stays k e places recs here (Fetch p i) is passes comes = refl
here_stays k e places recs here (Birth p at c end) is passes comes = absurd (true≢false (sym passes))
here_stays k e places recs here (Exit p at end) is passes comes = absurd (true≢false (sym passes))
here_stays k e places recs here (Sync p small read took) is passes comes = absurd (true≢false (sym passes))
here_stays k e places recs here (PageIs p i bytes) is passes comes = absurd (true≢false (sym passes))
here_stays k e places recs here (Crash lost cause) is passes comes = absurd (true≢false (sym passes))
here_stays k e places recs here (Return back) is passes comes = absurd (true≢false (sym passes))
here_stays k e places recs here (Rebackup to fresh more) is passes comes = absurd (true≢false (sym passes))
here_stays k e places recs here (Done rests) is passes comes = absurd (true≢false (sym passes))
here_stays k e places recs here Stop is passes comes = absurd (true≢false (sym passes))
