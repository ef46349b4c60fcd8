-- Where no child is to be synchronised before a process, by what a cluster keeps, its children have synchronised, as the log says.
use Rattle.std.proofs.Common.{◌≡◌, sym, ◌∙◌, ap, List, None}
use Rattle.t32_base.specs.declared.process.Pid.{Pid}
use Rattle.bus_msg.specs.declared.entry.Entry.{Entry}
use Rattle.birth_notice.specs.Family.{first_unsynced}
use Rattle.cert_sched.specs.Kinds.{ChildrenSynced}
use Rattle.log_laws.proofs.births.FirstChild.{none_first}
use Rattle.cluster_core.specs.View.{ClusterView}
use Rattle.cluster_core.specs.Follows.{Follows}

pub synced_where_none : (c : ClusterView) (log : List Entry) → Follows c.system log c → (p : Pid) → first_unsynced c.family p ≡ None → ChildrenSynced c.system log p
synced_where_none c log f p none = (none_first c.system log p).0 (ap (λ bs. first_unsynced bs p) (sym f.family) ∙ none)
