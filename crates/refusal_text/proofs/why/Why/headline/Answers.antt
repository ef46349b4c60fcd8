-- Each variant has the words that its definition computes to, so no search has to look at the long ones.
use Rattle.std.proofs.Common.{sym, ap}
use Rattle.refusal_text.specs.Why.{headline}
use Rattle.refusal_text.proofs.why.Why.headline.Goals as goal

pub returns-in-Usage : goal.returns-in-Usage
returns-in-Usage c = ap headline (sym c.in-Usage.is)

pub returns-in-NoCluster : goal.returns-in-NoCluster
returns-in-NoCluster c = ap headline (sym c.in-NoCluster.is)

pub returns-in-SystemLine : goal.returns-in-SystemLine
returns-in-SystemLine c = ap headline (sym c.in-SystemLine.is)

pub returns-in-AsmLine : goal.returns-in-AsmLine
returns-in-AsmLine c = ap headline (sym c.in-AsmLine.is)

pub returns-in-Item : goal.returns-in-Item
returns-in-Item c = ap headline (sym c.in-Item.is)

pub returns-in-ScheduleLine : goal.returns-in-ScheduleLine
returns-in-ScheduleLine c = ap headline (sym c.in-ScheduleLine.is)

pub returns-in-ReadFault : goal.returns-in-ReadFault
returns-in-ReadFault c = ap headline (sym c.in-ReadFault.is)

pub returns-in-WriteFault : goal.returns-in-WriteFault
returns-in-WriteFault c = ap headline (sym c.in-WriteFault.is)

pub returns-in-NoMemory : goal.returns-in-NoMemory
returns-in-NoMemory c = ap headline (sym c.in-NoMemory.is)

pub returns-in-TooLong : goal.returns-in-TooLong
returns-in-TooLong c = ap headline (sym c.in-TooLong.is)
